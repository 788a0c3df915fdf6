-- What goals at an end claim: what is owed there holds of just what the frame has.
-- Names: `ITEM-claims` of that item's row.
use Rattle.std.specs.List.{AllByRecursion}
use Rattle.std.proofs.Common.{◌≡◌, ℕ, zero, suc, true, List, [], ◌∷◌, ◌++◌}
use Rattle.sf_base.proofs.HeapSplits.{star-drop_right, star-map}
use Rattle.sf_base.specs.declared.place.Place.{Place}
use Rattle.sf_base.specs.declared.value.Value.{Value}
use Rattle.sf_base.specs.declared.ids.Var.{Var}
use Rattle.sf_base.specs.HeapStore.{Heap, IsEmpty}
use Rattle.sf_core.specs.declared.command.Expr.{Expr}
use Rattle.sf_core.specs.Program.Syntax.{Assertion, Program}
use Rattle.sf_rules.specs.Checked.Lemmas.Forms.{taking-showing}
use Rattle.sf_rules.specs.Setting.{Setting}
use Rattle.sf_rules.specs.Checked.Rows.Ends.{is_empty}
use Rattle.sf_rules.specs.Words.{pending_assertion, to_take, to_take_each}
use Rattle.sf_safe.specs.Checked.Local.{Local, value_in}
use Rattle.sf_safe.specs.Checked.LocalSafe.{LocalSafe}
use Rattle.sf_sound.proofs.Annotated.{HaveValues, plain-shown}
use Rattle.sf_sound.proofs.States.{terms-values}
use Rattle.sf_sound.proofs.Words.{showing-holds, taking-does, taking-suits}
use Rattle.sf_sound.specs.Checked.Claims.{Does, Satisfies, SatisfiesEach, with_cells}
use Rattle.sf_sound.specs.Checked.Suits.{Claim, Domain, HasDomain, IsPlain, Suits, TodoSuits}
use Rattle.sf_sym.specs.declared.atom.Numbered.{Numbered}
use Rattle.sf_sym.specs.declared.term.Term.{Term}
use Rattle.sf_sym.specs.Goal.{Item, again, return, end, Goal}
use Rattle.sf_sym.specs.Holds.{AtomsHold}
use Rattle.sf_sym.specs.HoldsIn.{HoldsIn}
use Rattle.sf_sym.specs.Shape.{IsShowing}
use Rattle.sf_sym.specs.State.{State, term}

-- what holds of all that is there holds at the end
at-end : (p : Program) (n : ℕ) (End : Local → Type 0) (l : Local) → End l → LocalSafe p n End [] l
at-end p zero End l e = tt
at-end p (suc n) End l e = e

-- assertions that are shown, one after the other, before the end of all: each has its part, and nothing is left beside
-- these
each-shown : (d : Setting) (V : Var → Type 0) (n : ℕ) (w : ℕ → Value) (q : Place) (to : Expr → Term)
    (owed : List Assertion) (l : Local) → AllByRecursion (IsPlain V) owed → HaveValues V w to (value_in l)
    → Does d.program n w (to_take_each q to owed (end q ∷ [])) l → SatisfiesEach owed l
each-shown d V n w q to [] l plain same does = does
each-shown d V n w q to (a ∷ owed) l plain same does =
    star-map (λ part h. plain-shown d V a plain.0 w to (value_in l) part same h)
    (λ kept h. each-shown d V n w q to owed (with_cells kept l) plain.1 same h)
    (taking-does d.program n w q (pending_assertion to a) a.names (to_take_each q to owed (end q ∷ [])) l does)

each-showing : (q : Place) (to : Expr → Term) (owed : List Assertion) → IsShowing (to_take_each q to owed (end q ∷ []))
each-showing q to [] = tt
each-showing q to (a ∷ owed) =
    taking-showing q (pending_assertion to a) a.names (to_take_each q to owed (end q ∷ [])) (each-showing q to owed)

each-suits : (d : Setting) (D : Domain) (q : Place) (to : Expr → Term) (owed : List Assertion)
    → TodoSuits d D (to_take_each q to owed (end q ∷ []))
each-suits d D q to [] = tt
each-suits d D q to (a ∷ owed) =
    taking-suits d D q (pending_assertion to a) a.names (to_take_each q to owed (end q ∷ []))
    (each-suits d D q to owed)

-- they are satisfied by just what there is
module _ (d : Setting) (s : State) (q : Place) (owed : List Assertion) where
  abbrev showing : Goal
  showing = record { state = s; todo = to_take_each q (term s.vars) owed (end q ∷ []) }

  pub shown-at_end : Claim d showing → (n : ℕ) (w : ℕ → Value) (D : Domain) (l : Local) (taken : Heap)
      → AllByRecursion (IsPlain (λ x. D.has x ≡ true)) owed → (item : Item) (rest : List Item)
      → Suits d D (record { state = s; todo = item ∷ rest }) → HasDomain D l
      → HoldsIn w (record { state = s; todo = [] }) l.values l.cells taken → SatisfiesEach owed l
  shown-at_end claim n w D l taken plain item rest u has holds =
      each-shown d (λ x. D.has x ≡ true) n w q (term s.vars) owed l plain (terms-values d D s u.listed w l has holds.vars)
      (claim n w D l taken
      (record {
        listed = u.listed;
        todo = each-suits d D q (term s.vars) owed;
      }) has
      (record {
        vars = holds.vars;
        apart = holds.apart;
        disjoint = holds.disjoint;
        there = showing-holds w (to_take_each q (term s.vars) owed (end q ∷ [])) l.cells
            (each-showing q (term s.vars) owed) (star-drop_right holds.there);
        gone = holds.gone;
      }))

  pub return-claims : (rest : List Item) → Claim d showing
      → Claim d (record { state = s; todo = return q owed ∷ rest })
  return-claims rest claim n w D l taken u has holds =
      at-end d.program n (SatisfiesEach owed) l
      (shown-at_end claim n w D l taken u.todo (return q owed) rest u has (record {
        vars = holds.vars;
        apart = holds.apart;
        disjoint = holds.disjoint;
        there = holds.there;
        gone = holds.gone;
      }))

-- the end of a loop's body
pub again-claims : (d : Setting) (s : State) (q : Place) (invariant : Assertion) (rest : List Item)
    → Claim d (record { state = s; todo = to_take q (term s.vars) (d.ordered invariant) ++ (end q ∷ []) })
    → Claim d (record { state = s; todo = again q invariant ∷ rest })
again-claims d s q invariant rest claim n w D l taken u has holds =
    at-end d.program n (Satisfies invariant) l
    ((u.todo.means (value_in l) l.cells).1
    (star-drop_right
    (shown-at_end d s q (d.ordered invariant ∷ []) claim n w D l taken (u.todo.plain, tt) (again q invariant) rest u has
    (record {
      vars = holds.vars;
      apart = holds.apart;
      disjoint = holds.disjoint;
      there = holds.there;
      gone = holds.gone;
    }))))

-- the end of all
pub end-claims : (d : Setting) (s : State) (q : Place) (rest : List Item) → is_empty s.atoms ≡ true
    → Claim d (record { state = s; todo = end q ∷ rest })
end-claims d s q rest none n w D l taken u has holds = go s.atoms none (star-drop_right holds.there)
  where
    go : (atoms : List Numbered) → is_empty atoms ≡ true → AtomsHold w s.links atoms l.cells → IsEmpty l.cells
    go [] e h = h
    go (x ∷ xs) e h = absurd (cc)
