-- A number above all symbols of what is known of the heap, after each primitive change.
-- Names: `atom-LAW` speaks of the terms of an atom, `atoms-LAW` of those of a list of atoms, `bounded-EVENT` of all after an
-- event.
use Rattle.std.proofs.Common.{◌≡◌, ℕ, ◌≤◌, ◌==◌, Bool, true, false, cond, is_some, Option, None, Some, List, [], ◌∷◌, ◌++◌, map, refl, sym, ap, ap₂, ◌∙◌, subst}
use Rattle.std.specs.List.{AllByRecursion}
use Rattle.std.proofs.lemmas.Option.{same_Some}
use Rattle.sf_base.proofs.Elements.{all_by-append}
use Rattle.sf_base.specs.declared.ids.FieldId.{FieldId}
use Rattle.sf_sym.specs.declared.atom.Atom.{Atom}
use Rattle.sf_sym.specs.declared.atom.Atom.TheVariants.{Points, Ls, Tree, Dll}
use Rattle.sf_sym.specs.declared.atom.Numbered.{Numbered}
use Rattle.sf_sym.specs.declared.term.Term.{Term}
use Rattle.sf_sym.specs.Below.{AllInAtom, AllInAtoms, AllInPairs, AllPaired, IsBelow}
use Rattle.sf_sym.specs.Cells.{atom_at, cell_at, fields_at, with_fields, without}
use Rattle.sf_sym.specs.Checked.Stores.{Heap, IsBounded}
use Rattle.sf_sym.specs.Equalities.{atom_with, numbered_with, put_for}
use Rattle.sf_sym.specs.Fields.{put_term}
use Rattle.sf_sym.specs.Tests.{same_term}
use Rattle.sf_sym.specs.Checked.Lemmas.{same_term_is}
use Rattle.sf_sym.specs.Checked.Lemmas.Below.{atoms-weaker, below-more, paired-weaker, pairs-weaker, put-all}
use Rattle.sf_sym.proofs.AboveSymbols.{above-put, put-other}

-- what holds of each element of the one list holds of each of the other
all-map : {X Y : Type 0} (P : X → Type 0) (Q : Y → Type 0) (f : X → Y) → ((x : X) → P x → Q (f x)) → (xs : List X)
    → AllByRecursion P xs → AllByRecursion Q (map f xs)
all-map P Q f step [] a = tt
all-map P Q f step (x ∷ xs) a = (step x a.0, all-map P Q f step xs a.1)

all-same : {X : Type 0} (P : X → Type 0) (f : X → X) → ((x : X) → P x → f x ≡ x) → (xs : List X) → AllByRecursion P xs
    → map f xs ≡ xs
all-same P f same [] a = refl
all-same P f same (x ∷ xs) a = ap₂ (λ y ys. y ∷ ys) (same x a.0) (all-same P f same xs a.1)

-- another property of terms, of each term of an atom
module _ (P Q : Term → Type 0) (to : Term → Term) (step : (t : Term) → P t → Q (to t)) where
  pub atom-map : (x : Atom) → AllInAtom P x → AllInAtom Q (atom_with to x)
  atom-map (Points t fields) a = (
    step t a.0,
    all-map (λ (f : FieldId × Term). P f.1) (λ (f : FieldId × Term). Q f.1) (λ f. (f.0, to f.1)) (λ f p. step f.1 p) fields a.1,
  )
  atom-map (Ls t u) a = (step t a.0, step u a.1)
  atom-map (Tree t) a = step t a
  atom-map (Dll v p l u) a = (step v a.0, step p a.1, step l a.2, step u a.3)

  pub atoms-map : (xs : List Numbered) → AllInAtoms P xs → AllInAtoms Q (map (numbered_with to) xs)
  atoms-map = all-map (λ (x : Numbered). AllInAtom P x.atom) (λ (x : Numbered). AllInAtom Q x.atom) (numbered_with to)
      (λ x a. atom-map x.atom a)

module _ (m n : ℕ) (le : m ≤ n) where
  pub atoms-more : (xs : List Numbered) → AllInAtoms (IsBelow m) xs → AllInAtoms (IsBelow n) xs
  atoms-more = atoms-weaker (IsBelow m) (IsBelow n) (below-more m n le)

  pub pairs-more : (ps : List (Term × Term)) → AllInPairs (IsBelow m) ps → AllInPairs (IsBelow n) ps
  pairs-more = pairs-weaker (IsBelow m) (IsBelow n) (below-more m n le)

  pub fields-more : (fields : List (FieldId × Term)) → AllPaired (IsBelow m) fields → AllPaired (IsBelow n) fields
  fields-more = paired-weaker (IsBelow m) (IsBelow n) (below-more m n le)

-- a symbol that isn't below the number stands nowhere
module _ (n symbol : ℕ) (by : Term) (le : n ≤ symbol) where
  abbrev pub to : Term → Term
  to = put_for symbol by

  same : (t : Term) → IsBelow n t → to t ≡ t
  same t b = put-other symbol by t (below-more n symbol le t b)

  atom-same : (x : Atom) → AllInAtom (IsBelow n) x → atom_with to x ≡ x
  atom-same (Points t fields) a =
      ap₂ Points (same t a.0)
      (all-same (λ (f : FieldId × Term). IsBelow n f.1) (λ f. (f.0, to f.1)) (λ f b. ap (λ u. (f.0, u)) (same f.1 b)) fields a.1)
  atom-same (Ls t u) a = ap₂ Ls (same t a.0) (same u a.1)
  atom-same (Tree t) a = ap Tree (same t a)
  atom-same (Dll v p l u) a = λ i. Dll (same v a.0 i) (same p a.1 i) (same l a.2 i) (same u a.3 i)

  pub atoms-same : (xs : List Numbered) → AllInAtoms (IsBelow n) xs → map (numbered_with to) xs ≡ xs
  atoms-same =
      all-same (λ (x : Numbered). AllInAtom (IsBelow n) x.atom) (numbered_with to)
      (λ x a. ap (λ y. record { number = x.number; atom = y }) (atom-same x.atom a))

  pub pairs-same : (ps : List (Term × Term)) → AllInPairs (IsBelow n) ps → map (λ p. (to p.0, to p.1)) ps ≡ ps
  pairs-same =
      all-same (λ (p : Term × Term). IsBelow n p.0 × IsBelow n p.1) (λ p. (to p.0, to p.1))
      (λ p a. ap₂ (λ t u. (t, u)) (same p.0 a.0) (same p.1 a.1))

  pub heap-same : (h : Heap) → IsBounded n h
      → record h {
        apart = map (λ p. (to p.0, to p.1)) h.apart;
        atoms = map (numbered_with to) h.atoms;
        taken = map (numbered_with to) h.taken;
      } ≡ h
  heap-same h b =
      ap₂ (λ ps xs. record h { apart = ps; atoms = xs; taken = map (numbered_with to) h.taken }) (pairs-same h.apart b.pairs)
      (atoms-same h.atoms b.atoms)
      ∙ ap (λ ys. record h { taken = ys }) (atoms-same h.taken b.taken)

module _ (P : Term → Type 0) where
  pub atoms-push : (xs : List Numbered) (x : Numbered) → AllInAtoms P xs → AllInAtom P x.atom → AllInAtoms P (xs ++ x ∷ [])
  atoms-push xs x a b = all_by-append (λ (y : Numbered). AllInAtom P y.atom) xs (x ∷ []) a (b, tt)

  pub atoms-without : (a : ℕ) (xs : List Numbered) → AllInAtoms P xs → AllInAtoms P (without xs a)
  atoms-without a [] all = tt
  atoms-without a (x ∷ xs) all = go (x.number == a) all (atoms-without a xs all.1)
    where
      go : (b : Bool) → AllInAtoms P (x ∷ xs) → AllInAtoms P (without xs a) → AllInAtoms P (cond b xs (x ∷ without xs a))
      go true h rest = h.1
      go false h rest = (h.0, rest)

  pub atoms-before : (xs ys : List Numbered) → AllInAtoms P (xs ++ ys) → AllInAtoms P xs
  atoms-before [] ys all = tt
  atoms-before (x ∷ xs) ys all = (all.0, atoms-before xs ys all.1)

  pub atom-found : (a : ℕ) (xs : List Numbered) (x : Atom) → AllInAtoms P xs → atom_at xs a ≡ Some x → AllInAtom P x
  atom-found a [] x all e = absurd (cc)
  atom-found a (y ∷ ys) x all e = go (y.number == a) e (atom-found a ys x all.1) all.0
    where
      go : (b : Bool) → cond b (Some y.atom) (atom_at ys a) ≡ Some x → (atom_at ys a ≡ Some x → AllInAtom P x)
          → AllInAtom P y.atom → AllInAtom P x
      go true f rest here = subst (AllInAtom P) (same_Some y.atom x f) here
      go false f rest here = rest f

  -- a field of a cell is written
  atom-written : (x : Atom) (t : Term) (f : FieldId) (u : Term) (fields : List (FieldId × Term)) → AllInAtom P x → P u
      → fields_at x t ≡ Some fields → AllInAtom P (Points t (put_term f u fields))
  atom-written (Points r had) t f u fields all p e = go (same_term r t) refl e
    where
      go : (b : Bool) → same_term r t ≡ b → cond b (Some had) None ≡ Some fields
          → P t × AllPaired P (put_term f u fields)
      go true i s = (
        subst P (same_term_is r t i) all.0,
        put-all P f u fields p (subst (AllPaired P) (same_Some had fields s) all.1),
      )
      go false i s = absurd (cc)
  atom-written (Ls v w) t f u fields all p e = absurd (cc)
  atom-written (Tree v) t f u fields all p e = absurd (cc)
  atom-written (Dll v b l w) t f u fields all p e = absurd (cc)

  atoms-fields : (xs : List Numbered) (a : ℕ) (t : Term) (f : FieldId) (u : Term) (fields : List (FieldId × Term))
      → AllInAtoms P xs → P u → cell_at xs a t ≡ Some fields → AllInAtoms P (with_fields xs a t (put_term f u fields))
  atoms-fields [] a t f u fields all p e = tt
  atoms-fields (x ∷ xs) a t f u fields all p e =
      go (x.number == a) e (atoms-fields xs a t f u fields all.1 p) (atom-written x.atom t f u fields all.0 p) all
    where
      go : (b : Bool) → cond b (fields_at x.atom t) (cell_at xs a t) ≡ Some fields
          → (cell_at xs a t ≡ Some fields → AllInAtoms P (with_fields xs a t (put_term f u fields)))
          → (fields_at x.atom t ≡ Some fields → AllInAtom P (Points t (put_term f u fields))) → AllInAtoms P (x ∷ xs)
          → AllInAtoms P
          (cond b (record { number = a; atom = Points t (put_term f u fields) } ∷ xs)
          (x ∷ with_fields xs a t (put_term f u fields)))
      go true s rest here h = (here s, h.1)
      go false s rest here h = (h.0, rest s)

  pub atoms-written : (xs new : List Numbered) (a : ℕ) (t : Term) (f : FieldId) (u : Term) → AllInAtoms P xs → P u
      → is_some (cell_at xs a t) ≡ true
      → ((fields : List (FieldId × Term)) → cell_at xs a t ≡ Some fields → new ≡ with_fields xs a t (put_term f u fields))
      → AllInAtoms P new
  atoms-written xs new a t f u all p there after = go (cell_at xs a t) refl there
    where
      go : (o : Option (List (FieldId × Term))) → cell_at xs a t ≡ o → is_some o ≡ true → AllInAtoms P new
      go None e some = absurd (cc)
      go (Some fields) e some = subst (AllInAtoms P) (sym (after fields e)) (atoms-fields xs a t f u fields all p e)

-- a symbol is replaced
pub bounded-replaced : (m n : ℕ) → m ≤ n → (symbol : ℕ) (by : Term) → IsBelow n by → (h : Heap) → IsBounded m h
    → (apart : List (Term × Term)) (atoms taken : List Numbered)
    → apart ≡ map (λ p. (put_for symbol by p.0, put_for symbol by p.1)) h.apart
    → atoms ≡ map (numbered_with (put_for symbol by)) h.atoms → taken ≡ map (numbered_with (put_for symbol by)) h.taken
    → IsBounded n (record { apart = apart; atoms = atoms; taken = taken; next_atom = h.next_atom })
bounded-replaced m n le symbol by below h b apart atoms taken e f g =
    let step : (t : Term) → IsBelow m t → IsBelow n (put_for symbol by t) =
    (λ t k. above-put n symbol by below t (below-more m n le t k)) in
    record {
      pairs = subst (AllInPairs (IsBelow n)) (sym e)
          (all-map (λ (p : Term × Term). IsBelow m p.0 × IsBelow m p.1) (λ (p : Term × Term). IsBelow n p.0 × IsBelow n p.1)
          (λ p. (put_for symbol by p.0, put_for symbol by p.1)) (λ p k. (step p.0 k.0, step p.1 k.1)) h.apart b.pairs);
      atoms = subst (AllInAtoms (IsBelow n)) (sym f)
          (atoms-map (IsBelow m) (IsBelow n) (put_for symbol by) step h.atoms b.atoms);
      taken = subst (AllInAtoms (IsBelow n)) (sym g)
          (atoms-map (IsBelow m) (IsBelow n) (put_for symbol by) step h.taken b.taken);
    }
