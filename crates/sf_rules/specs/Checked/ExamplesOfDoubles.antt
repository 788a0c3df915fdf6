-- Examples of the rules of doubly linked segments on small goals.
-- The goals are in the manner of Berdine, Calcagno, O'Hearn, "Symbolic Execution with Separation
-- Logic" (2005).
use Rattle.std.specs.Prelude.{List, [], ◌∷◌, Option, Some, None}
use Rattle.sf_base.specs.declared.ids.FieldId.{FieldId}
use Rattle.sf_core.specs.Checked.Assertions.Examples.{place, tl}
use Rattle.sf_core.specs.declared.assertion.Operand.{Operand}
use Rattle.sf_core.specs.declared.assertion.Operand.TheVariants.{Known, Exists}
use Rattle.sf_core.specs.Program.Syntax.{Conjuncts, none, also, segment, doubly}
use Rattle.sf_rules.specs.Checked.Examples.{ends, goal_at, numbered, only}
use Rattle.sf_rules.specs.Checked.ExamplesOfConjuncts.{all_done, showing}
use Rattle.sf_rules.specs.Rules.{HasNoRule, Leaves}
use Rattle.sf_rules.specs.Setting.{Setting}
use Rattle.sf_sym.specs.Checked.Examples.{state_with}
use Rattle.sf_sym.specs.declared.atom.Atom.{Atom}
use Rattle.sf_sym.specs.declared.atom.Atom.TheVariants.{Points, Ls, Dll}
use Rattle.sf_sym.specs.declared.atom.Numbered.{Numbered}
use Rattle.sf_sym.specs.declared.tag.Tag.TheVariants as t
use Rattle.sf_sym.specs.declared.term.Term.{Term}
use Rattle.sf_sym.specs.declared.term.Term.TheVariants.{Nil, Sym}
use Rattle.sf_sym.specs.Goal.{Goal, add}
use Rattle.sf_sym.specs.State.{State}

-- the field by which they lead back
abbrev pub pv : FieldId
pv = record { 0 = 3 }

-- s0 != nil, s1, s2, s3 and s4 are there too, and these atoms, in a program with those two fields, if any
abbrev pub state_along : Option FieldId → Option FieldId → List Numbered → State
state_along next back atoms = record (state_with atoms) {
  links = record { tl = next; pv = back; l = None; r = None };
  next_sym = 5;
}

-- the same where both fields are there
abbrev pub along : List Numbered → State
along atoms = state_along (Some tl) (Some pv) atoms

-- that atom alone, and nothing is to do but the end
abbrev pub alone : Atom → Goal
alone x = goal_at (along (only x)) ends

-- drop: a segment that ends where it begins goes where its last cell is what stands before it, and not
-- where only one of the two is so
unfoldable pub EmptyDoublesGo : Type 0
EmptyDoublesGo = (d : Setting)
    → (Leaves d (alone (Dll (Sym 0) (Sym 1) (Sym 1) (Sym 0))) (t.Drop 1)
    (goal_at (along []) ends ∷ []))
    × (HasNoRule d (alone (Dll (Sym 0) (Sym 1) (Sym 2) (Sym 0))) (t.Drop 1))
    × (HasNoRule d (alone (Dll (Sym 0) (Sym 1) (Sym 1) (Sym 2))) (t.Drop 1))

-- force: a segment from nil is empty, so s3, where it ends, is nil; one that ends where it begins is
-- empty, so s2, its last cell, is s1, which stands before it. One from s1 needn't be empty, and of one
-- of which both are known already nothing is learnt
unfoldable pub DoublesThatAreEmptyHaveOneEnd : Type 0
DoublesThatAreEmptyHaveOneEnd = (d : Setting)
    → (Leaves d (alone (Dll Nil (Sym 1) (Sym 2) (Sym 3))) (t.Force 1)
    (alone (Dll Nil (Sym 1) (Sym 2) Nil) ∷ []))
    × (Leaves d (alone (Dll (Sym 3) (Sym 1) (Sym 2) (Sym 3))) (t.Force 1)
    (alone (Dll (Sym 3) (Sym 1) (Sym 1) (Sym 3)) ∷ []))
    × (HasNoRule d (alone (Dll (Sym 1) (Sym 2) (Sym 3) (Sym 4))) (t.Force 1))
    × (HasNoRule d (alone (Dll Nil (Sym 1) (Sym 1) Nil)) (t.Force 1))

-- unroll: a segment that isn't empty is a cell, which leads back to what stands before it, and a
-- segment from its link on, before which the cell stands. One that may be empty isn't, nor one of a
-- program that lacks one of the two fields
unfoldable pub UnrolledDoublesHaveACell : Type 0
UnrolledDoublesHaveACell = (d : Setting)
    → (Leaves d (alone (Dll (Sym 0) (Sym 1) (Sym 2) Nil)) (t.Unroll 1)
    (goal_at (record (along []) {
      apart = (Sym 0, Nil) ∷ (Sym 0, Nil) ∷ [];
      atoms = numbered 2 (Points (Sym 0) ((tl, Sym 5) ∷ (pv, Sym 1) ∷ []))
          ∷ numbered 3 (Dll (Sym 5) (Sym 0) (Sym 2) Nil) ∷ [];
      next_sym = 6;
      next_atom = 4;
    }) ends ∷ []))
    × (HasNoRule d (alone (Dll (Sym 0) (Sym 1) (Sym 2) (Sym 3))) (t.Unroll 1))
    × (HasNoRule d
    (goal_at (state_along None (Some pv) (only (Dll (Sym 0) (Sym 1) (Sym 2) Nil))) ends)
    (t.Unroll 1))
    × (HasNoRule d
    (goal_at (state_along (Some tl) None (only (Dll (Sym 0) (Sym 1) (Sym 2) Nil))) ends)
    (t.Unroll 1))

-- back: it is a segment up to its last cell, and that cell, which differs from nil and leads on to where
-- the segment ended, and back to the last cell before it. One that may be empty isn't, nor one of a
-- program that lacks one of the two fields, nor a list
unfoldable pub DoublesHaveALastCell : Type 0
DoublesHaveALastCell = (d : Setting)
    → (Leaves d (alone (Dll (Sym 0) (Sym 1) (Sym 2) Nil)) (t.Back 1)
    (goal_at (record (along []) {
      apart = (Sym 0, Nil) ∷ (Sym 2, Nil) ∷ [];
      atoms = numbered 2 (Dll (Sym 0) (Sym 1) (Sym 5) (Sym 2))
          ∷ numbered 3 (Points (Sym 2) ((tl, Nil) ∷ (pv, Sym 5) ∷ [])) ∷ [];
      next_sym = 6;
      next_atom = 4;
    }) ends ∷ []))
    × (HasNoRule d (alone (Dll (Sym 0) (Sym 1) (Sym 2) (Sym 3))) (t.Back 1))
    × (HasNoRule d
    (goal_at (state_along None (Some pv) (only (Dll (Sym 0) (Sym 1) (Sym 2) Nil))) ends) (t.Back 1))
    × (HasNoRule d
    (goal_at (state_along (Some tl) None (only (Dll (Sym 0) (Sym 1) (Sym 2) Nil))) ends) (t.Back 1))
    × (HasNoRule d (alone (Ls (Sym 0) Nil)) (t.Back 1))

-- to assume these conjuncts first, where four existentials have those terms, if any
abbrev pub assuming_four : State → Conjuncts Term → List (Option Term) → Goal
assuming_four s cs terms =
    goal_at s (add place (record { conjuncts = cs; bindings = terms }) ∷ ends)

-- a list from the second of the four existentials to the last
abbrev pub list_between : Conjuncts Term
list_between = also (segment place tl (Exists 1) (Exists 3)) none

-- add: each operand that is an existential without a term gets a fresh symbol, in the order written,
-- which is its term from then on, as the list has it that is assumed next
unfoldable pub AddedDoublesNameTheirEnds : Type 0
AddedDoublesNameTheirEnds = (d : Setting)
    → (Leaves d
    (assuming_four (along [])
    (also (doubly place tl pv (Exists 0) (Exists 1) (Exists 2) (Exists 3)) list_between)
    (None ∷ None ∷ None ∷ None ∷ [])) t.Add
    (assuming_four (record (along []) {
      atoms = numbered 2 (Dll (Sym 5) (Sym 6) (Sym 7) (Sym 8)) ∷ [];
      next_sym = 9;
      next_atom = 3;
    }) list_between (Some (Sym 5) ∷ Some (Sym 6) ∷ Some (Sym 7) ∷ Some (Sym 8) ∷ []) ∷ []))
    × (Leaves d
    (assuming_four (along [])
    (also (doubly place tl pv (Exists 0) (Known (Sym 1)) (Exists 0) (Known Nil)) none)
    (None ∷ [])) t.Add
    (all_done (record (along []) {
      atoms = numbered 2 (Dll (Sym 5) (Sym 1) (Sym 5) Nil) ∷ [];
      next_sym = 6;
      next_atom = 3;
    }) ∷ []))

-- to show a segment between these operands, where the existential of number 0 has no term
abbrev pub wants_double : State → (x b l y : Operand Term) → Goal
wants_double s x b l y = showing s (also (doubly place tl pv x b l y) none) None

-- between these terms
abbrev pub wants_dll : State → (v p l u : Term) → Goal
wants_dll s v p l u = wants_double s (Known v) (Known p) (Known l) (Known u)

-- the state in which that atom was handed over
abbrev pub gave_over : Atom → State
gave_over x = record (along []) { taken = only x }

-- empty: a segment that ends where it begins, whose last cell is what stands before it, needs nothing;
-- where only one of the two is so there is no such rule
unfoldable pub EmptyDoublesNeedNothing : Type 0
EmptyDoublesNeedNothing = (d : Setting)
    → (Leaves d (wants_dll (along []) (Sym 0) (Sym 1) (Sym 1) (Sym 0)) t.Empty
    (all_done (along []) ∷ []))
    × (HasNoRule d (wants_dll (along []) (Sym 0) (Sym 1) (Sym 2) (Sym 0)) t.Empty)
    × (HasNoRule d (wants_dll (along []) (Sym 0) (Sym 1) (Sym 1) (Sym 2)) t.Empty)

-- a segment that is there
abbrev pub one_double : State
one_double = along (only (Dll (Sym 0) (Sym 1) (Sym 2) Nil))

-- exact: a segment that is wanted just so is handed over, and one of which any of the four terms is
-- another isn't, nor one of which an operand has no term
unfoldable pub ExactDoublesAreHandedOver : Type 0
ExactDoublesAreHandedOver = (d : Setting)
    → (Leaves d (wants_dll one_double (Sym 0) (Sym 1) (Sym 2) Nil) (t.Exact 1)
    (all_done (gave_over (Dll (Sym 0) (Sym 1) (Sym 2) Nil)) ∷ []))
    × (HasNoRule d (wants_dll one_double (Sym 3) (Sym 1) (Sym 2) Nil) (t.Exact 1))
    × (HasNoRule d (wants_dll one_double (Sym 0) (Sym 3) (Sym 2) Nil) (t.Exact 1))
    × (HasNoRule d (wants_dll one_double (Sym 0) (Sym 1) (Sym 3) Nil) (t.Exact 1))
    × (HasNoRule d (wants_dll one_double (Sym 0) (Sym 1) (Sym 2) (Sym 3)) (t.Exact 1))
    × (HasNoRule d
    (wants_double one_double (Exists 0) (Known (Sym 1)) (Known (Sym 2)) (Known Nil)) (t.Exact 1))
    × (HasNoRule d
    (wants_double one_double (Known (Sym 0)) (Exists 0) (Known (Sym 2)) (Known Nil)) (t.Exact 1))
    × (HasNoRule d
    (wants_double one_double (Known (Sym 0)) (Known (Sym 1)) (Exists 0) (Known Nil)) (t.Exact 1))
    × (HasNoRule d
    (wants_double one_double (Known (Sym 0)) (Known (Sym 1)) (Known (Sym 2)) (Exists 0))
    (t.Exact 1))

-- s0|->tl:s3,pv:s1
abbrev pub cell_both_ways : Atom
cell_both_ways = Points (Sym 0) ((tl, Sym 3) ∷ (pv, Sym 1) ∷ [])

-- head: of a wanted segment up to nil the first cell is handed over, which leads back to what stands
-- before it, and a segment from its link on, a fresh symbol where it isn't known, is still wanted,
-- before which stands the cell. A segment up to s4 may be empty, one from s0 doesn't begin with a cell at
-- s1, and one before which stands s1 doesn't with a cell that leads back elsewhere, or it isn't known where
unfoldable pub HeadGoesOnBothWays : Type 0
HeadGoesOnBothWays = (d : Setting)
    → (Leaves d (wants_dll (along (only cell_both_ways)) (Sym 0) (Sym 1) (Sym 2) Nil) (t.Head 1)
    (wants_dll (gave_over cell_both_ways) (Sym 3) (Sym 0) (Sym 2) Nil ∷ []))
    × (Leaves d
    (wants_dll (along (only (Points (Sym 0) ((pv, Sym 1) ∷ [])))) (Sym 0) (Sym 1) (Sym 2) Nil)
    (t.Head 1)
    (wants_dll
    (record (gave_over (Points (Sym 0) ((tl, Sym 5) ∷ (pv, Sym 1) ∷ []))) { next_sym = 6 })
    (Sym 5) (Sym 0) (Sym 2) Nil ∷ []))
    × (HasNoRule d
    (wants_dll (along (only cell_both_ways)) (Sym 0) (Sym 1) (Sym 2) (Sym 4)) (t.Head 1))
    × (HasNoRule d
    (wants_dll (along (only (Points (Sym 1) ((pv, Sym 1) ∷ [])))) (Sym 0) (Sym 1) (Sym 2) Nil)
    (t.Head 1))
    × (HasNoRule d
    (wants_dll (along (only cell_both_ways)) (Sym 0) (Sym 4) (Sym 2) Nil) (t.Head 1))
    × (HasNoRule d
    (wants_dll (along (only (Points (Sym 0) ((tl, Sym 3) ∷ [])))) (Sym 0) (Sym 1) (Sym 2) Nil)
    (t.Head 1))

-- a segment from s0 to s4, before which stands s1 and whose last cell is s3
abbrev pub first_double : Atom
first_double = Dll (Sym 0) (Sym 1) (Sym 3) (Sym 4)

-- join: of a wanted segment up to nil a first segment is handed over, and the rest is still wanted,
-- before which stands the last cell of the first. Where the wanted end may lie inside the first
-- segment there is no such rule, nor where that begins elsewhere, or something else stands before it,
-- nor where it is a list
unfoldable pub JoinGoesOnBothWays : Type 0
JoinGoesOnBothWays = (d : Setting)
    → (Leaves d (wants_dll (along (only first_double)) (Sym 0) (Sym 1) (Sym 2) Nil) (t.Join 1)
    (wants_dll (gave_over first_double) (Sym 4) (Sym 3) (Sym 2) Nil ∷ []))
    × (HasNoRule d
    (wants_dll (along (only first_double)) (Sym 0) (Sym 1) (Sym 2) (Sym 3)) (t.Join 1))
    × (HasNoRule d
    (wants_dll (along (only first_double)) (Sym 4) (Sym 1) (Sym 2) Nil) (t.Join 1))
    × (HasNoRule d
    (wants_dll (along (only first_double)) (Sym 0) (Sym 4) (Sym 2) Nil) (t.Join 1))
    × (HasNoRule d
    (wants_dll (along (only (Ls (Sym 0) (Sym 4)))) (Sym 0) (Sym 1) (Sym 2) Nil) (t.Join 1))
