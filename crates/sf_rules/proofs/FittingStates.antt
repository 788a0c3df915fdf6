-- States that fit, and speak of symbols below their next one only, still do after each change that rows make.
-- Names: `CHANGE-shaped`.
use Rattle.std.specs.List.{AllByRecursion}
use Rattle.std.proofs.Common.{◌≡◌, ℕ, ◌+◌, ◌<◌, ◌≤◌, ◌==◌, Bool, true, false, cond, map, List, [], ◌∷◌, ◌++◌, refl, sym, ap, subst, arith}
use Rattle.sf_base.proofs.Elements.{all_by-append}
use Rattle.sf_base.specs.declared.ids.FieldId.{FieldId}
use Rattle.sf_base.specs.declared.ids.Var.{Var}
use Rattle.sf_core.specs.declared.fields.Links.{Links}
use Rattle.sf_rules.specs.First.{links_of}
use Rattle.sf_rules.specs.Setting.{Setting}
use Rattle.sf_rules.specs.Shape.{HasLinks, StateFits}
use Rattle.sf_sym.specs.Below.{AllInAtom, AllInPairs, AllInState, AllPaired, IsBelow}
use Rattle.sf_sym.specs.Cells.{apart_from_nil, handed, with_atom, with_cell, with_fields, without}
use Rattle.sf_sym.specs.declared.atom.Atom.{Atom}
use Rattle.sf_sym.specs.declared.atom.Atom.TheVariants.{Points, Ls, Tree, Dll}
use Rattle.sf_sym.specs.declared.atom.Numbered.{Numbered}
use Rattle.sf_sym.specs.declared.term.Term.{Term}
use Rattle.sf_sym.specs.Equalities.{atom_with, numbered_with, state_with}
use Rattle.sf_sym.specs.Checked.Lemmas.AtomLists.{numbers-fields, with_fields-all, without-all}
use Rattle.sf_sym.specs.Checked.Lemmas.Below.{below-more, state-weaker}
use Rattle.sf_sym.specs.Checked.Lemmas.FreshGoals.{from_nil-below, more-below}
use Rattle.sf_sym.specs.Numbers.{AreRising, numbers}
use Rattle.sf_sym.specs.State.{State, with_symbols}

-- THE NUMBERS OF ATOMS
module _ (P : ℕ → Type 0) where
  numbers-more : (xs : List Numbered) (y : Numbered) → AllByRecursion P (numbers xs) → P y.number
      → AllByRecursion P (numbers (xs ++ y ∷ []))
  numbers-more [] y a p = (p, tt)
  numbers-more (x ∷ xs) y a p = (a.0, numbers-more xs y a.1 p)

  numbers-without : (xs : List Numbered) (a : ℕ) → AllByRecursion P (numbers xs)
      → AllByRecursion P (numbers (without xs a))
  numbers-without [] a h = tt
  numbers-without (x ∷ xs) a h = go (x.number == a) (numbers-without xs a h.1)
    where
      go : (b : Bool) → AllByRecursion P (numbers (without xs a))
          → AllByRecursion P (numbers (cond b xs (x ∷ without xs a)))
      go true r = h.1
      go false r = (h.0, r)

rising-more : (xs : List Numbered) (y : Numbered) → AreRising (numbers xs)
    → AllByRecursion (λ n. n < y.number) (numbers xs) → AreRising (numbers (xs ++ y ∷ []))
rising-more [] y r a = (tt, tt)
rising-more (x ∷ xs) y r a =
    (numbers-more (λ n. x.number < n) xs y r.0 a.0, rising-more xs y r.1 a.1)

rising-without : (xs : List Numbered) (a : ℕ) → AreRising (numbers xs) → AreRising (numbers (without xs a))
rising-without [] a r = tt
rising-without (x ∷ xs) a r = go (x.number == a) (rising-without xs a r.1)
  where
    go : (b : Bool) → AreRising (numbers (without xs a)) → AreRising (numbers (cond b xs (x ∷ without xs a)))
    go true h = r.1
    go false h = (numbers-without (λ n. x.number < n) xs a r.0, h)

replaced-numbers : (to : Term → Term) (xs : List Numbered) → numbers (map (numbered_with to) xs) ≡ numbers xs
replaced-numbers to [] = refl
replaced-numbers to (x ∷ xs) = ap (λ ns. x.number ∷ ns) (replaced-numbers to xs)

given-more : (ns : List ℕ) (k m : ℕ) → k ≤ m → AllByRecursion (λ n. n < k) ns → AllByRecursion (λ n. n < m) ns
given-more [] k m h a = tt
given-more (n ∷ ns) k m h a = (let l : n < k = a.0 in omega arith, given-more ns k m h a.1)

-- THE LINKS OF ATOMS
links-with : (links : Links) (to : Term → Term) (x : Atom) → HasLinks links x → HasLinks links (atom_with to x)
links-with links to (Points t fields) h = tt
links-with links to (Ls t u) h = h
links-with links to (Tree t) h = h
links-with links to (Dll v p l u) h = h

links-replaced : (links : Links) (to : Term → Term) (xs : List Numbered)
    → AllByRecursion (λ (a : Numbered). HasLinks links a.atom) xs
    → AllByRecursion (λ (a : Numbered). HasLinks links a.atom) (map (numbered_with to) xs)
links-replaced links to [] h = tt
links-replaced links to (x ∷ xs) h = (links-with links to x.atom h.0, links-replaced links to xs h.1)

-- STATES
-- a state fits, and speaks of symbols below its next one only
pub record StateShaped (d : Setting) (s : State) : Type 0 where
  pub below : AllInState (IsBelow s.next_sym) s
  pub fits : StateFits d s

module _ (d : Setting) (s : State) (h : StateShaped d s) where
  -- other terms of variables
  pub vars-shaped : (vars : List (Var × Term)) → AllPaired (IsBelow s.next_sym) vars
      → StateShaped d (record s { vars = vars })
  vars-shaped vars b = record {
    below = record { vars = b; apart = h.below.apart; atoms = h.below.atoms; taken = h.below.taken };
    fits = record {
      links = h.fits.links;
      atoms = h.fits.atoms;
      rising = h.fits.rising;
      given = h.fits.given;
    };
  }

  -- a higher next symbol
  pub raised-shaped : (m : ℕ) → s.next_sym ≤ m → StateShaped d (record s { next_sym = m })
  raised-shaped m l =
      let b = state-weaker (IsBelow s.next_sym) (IsBelow m) (below-more s.next_sym m l) s h.below in
      record {
        below = record { vars = b.vars; apart = b.apart; atoms = b.atoms; taken = b.taken };
        fits = record {
          links = h.fits.links;
          atoms = h.fits.atoms;
          rising = h.fits.rising;
          given = h.fits.given;
        };
      }

  -- more symbols
  pub symbols-shaped : (k : ℕ) → StateShaped d (with_symbols k s)
  symbols-shaped k = raised-shaped (s.next_sym + k) (omega arith)

  -- more pairs that differ
  pub apart-shaped : (ps : List (Term × Term)) → AllInPairs (IsBelow s.next_sym) ps
      → StateShaped d (record s { apart = s.apart ++ ps })
  apart-shaped ps b = record {
    below = record {
      vars = h.below.vars;
      apart = all_by-append (λ (p : Term × Term). IsBelow s.next_sym p.0 × IsBelow s.next_sym p.1) s.apart ps
          h.below.apart b;
      atoms = h.below.atoms;
      taken = h.below.taken;
    };
    fits = record {
      links = h.fits.links;
      atoms = h.fits.atoms;
      rising = h.fits.rising;
      given = h.fits.given;
    };
  }

  -- an atom less
  pub without-shaped : (a : ℕ) → StateShaped d (record s { atoms = without s.atoms a })
  without-shaped a = record {
    below = record {
      vars = h.below.vars;
      apart = h.below.apart;
      atoms = without-all (AllInAtom (IsBelow s.next_sym)) s.atoms a h.below.atoms;
      taken = h.below.taken;
    };
    fits = record {
      links = h.fits.links;
      atoms = without-all (HasLinks (links_of d.program)) s.atoms a h.fits.atoms;
      rising = rising-without s.atoms a h.fits.rising;
      given = numbers-without (λ n. n < s.next_atom) s.atoms a h.fits.given;
    };
  }

  -- an atom that was handed over
  pub handed-shaped : (a : ℕ) (x : Atom) → AllInAtom (IsBelow s.next_sym) x → StateShaped d (handed s a x)
  handed-shaped a x b =
      let w = without-shaped a in
      record {
        below = record {
          vars = h.below.vars;
          apart = h.below.apart;
          atoms = w.below.atoms;
          taken = more-below s.next_sym s.taken (record { number = a; atom = x }) h.below.taken b;
        };
        fits = record {
          links = h.fits.links;
          atoms = w.fits.atoms;
          rising = w.fits.rising;
          given = w.fits.given;
        };
      }

  -- one more atom
  pub atom-shaped : (x : Atom) → AllInAtom (IsBelow s.next_sym) x → HasLinks (links_of d.program) x
      → StateShaped d (with_atom x s)
  atom-shaped x b l = record {
    below = record {
      vars = h.below.vars;
      apart = h.below.apart;
      atoms = more-below s.next_sym s.atoms (record { number = s.next_atom; atom = x }) h.below.atoms b;
      taken = h.below.taken;
    };
    fits = record {
      links = h.fits.links;
      atoms = all_by-append (λ (a : Numbered). HasLinks (links_of d.program) a.atom) s.atoms _ h.fits.atoms (l, tt);
      rising = rising-more s.atoms (record { number = s.next_atom; atom = x }) h.fits.rising h.fits.given;
      given = numbers-more (λ n. n < s.next_atom + 1) s.atoms (record { number = s.next_atom; atom = x })
          (given-more (numbers s.atoms) s.next_atom (s.next_atom + 1) (omega arith) h.fits.given) (omega arith);
    };
  }

  -- a cell with other fields
  pub fields-shaped : (a : ℕ) (root : Term) (fields : List (FieldId × Term)) → IsBelow s.next_sym root
      → AllPaired (IsBelow s.next_sym) fields
      → StateShaped d (record s { atoms = with_fields s.atoms a root fields })
  fields-shaped a root fields b c =
      let same = numbers-fields s.atoms a root fields in
      record {
        below = record {
          vars = h.below.vars;
          apart = h.below.apart;
          atoms = with_fields-all (AllInAtom (IsBelow s.next_sym)) s.atoms a root fields h.below.atoms (b, c);
          taken = h.below.taken;
        };
        fits = record {
          links = h.fits.links;
          atoms = with_fields-all (HasLinks (links_of d.program)) s.atoms a root fields h.fits.atoms tt;
          rising = subst AreRising (sym same) h.fits.rising;
          given = subst (AllByRecursion (λ n. n < s.next_atom)) (sym same) h.fits.given;
        };
      }

  -- nothing that was handed over
  pub given-shaped : StateShaped d (record s { taken = [] })
  given-shaped = record {
    below = record { vars = h.below.vars; apart = h.below.apart; atoms = h.below.atoms; taken = tt };
    fits = record {
      links = h.fits.links;
      atoms = h.fits.atoms;
      rising = h.fits.rising;
      given = h.fits.given;
    };
  }

  -- no atoms at all
  pub empty-shaped : StateShaped d (record s { atoms = []; taken = [] })
  empty-shaped = record {
    below = record { vars = h.below.vars; apart = h.below.apart; atoms = tt; taken = tt };
    fits = record { links = h.fits.links; atoms = tt; rising = tt; given = tt };
  }

  -- other terms, if those are below
  pub replaced-fits : (to : Term → Term) → StateFits d (state_with to s)
  replaced-fits to =
      let same = replaced-numbers to s.atoms in
      record {
        links = h.fits.links;
        atoms = links-replaced (links_of d.program) to s.atoms h.fits.atoms;
        rising = subst AreRising (sym same) h.fits.rising;
        given = subst (AllByRecursion (λ n. n < s.next_atom)) (sym same) h.fits.given;
      }

-- one more cell
pub cell-shaped : (d : Setting) (s : State) → StateShaped d s → (root : Term) (fields : List (FieldId × Term))
    → IsBelow s.next_sym root → AllPaired (IsBelow s.next_sym) fields → StateShaped d (with_cell s root fields)
cell-shaped d s h root fields b c =
    let m = apart-shaped d (with_atom (Points root fields) s) (atom-shaped d s h (Points root fields) (b, c) tt)
    (apart_from_nil root) (from_nil-below s.next_sym root b) in
    record {
      below = record { vars = m.below.vars; apart = m.below.apart; atoms = m.below.atoms; taken = m.below.taken };
      fits = record { links = m.fits.links; atoms = m.fits.atoms; rising = m.fits.rising; given = m.fits.given };
    }
