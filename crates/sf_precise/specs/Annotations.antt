-- Notes: all annotations of a program, and the first conjunct among them that is never taken, by its
-- place in the file.
-- Ordinary: a walk through the program. Summary order across annotations is the order of places.
use Rattle.std.specs.Prelude.{◌≡◌, true, cond, List, [], ◌∷◌, ◌++◌, Option, Some, None, Contains, flat_map, map}
use Rattle.std.specs.List.{AllZip}
use Rattle.sf_base.specs.declared.place.Place.{Place}
use Rattle.sf_base.specs.First.{is_before}
use Rattle.sf_core.specs.Program.Heads.{head_invariants, sites}
use Rattle.sf_core.specs.Program.Init.{is_init}
use Rattle.sf_core.specs.Program.Syntax.{Assertion, Block, Procedure, Program}
use Rattle.sf_precise.specs.Order.{IsOrderOf}
use Rattle.sf_precise.specs.Taken.{NeverTakenAt}

-- the invariants of loops, in text order
abbrev pub loops_in : Block → List Assertion
loops_in b = flat_map (λ s. head_invariants s.command) (sites [] b)

-- a procedure's annotations in text order: its pre, the invariants of its loops, its post
abbrev pub notes_of : Procedure → List Assertion
notes_of f = f.pre ∷ (loops_in f.body ++ f.post ∷ [])

-- what the return of a procedure owes: its post, or the invariant of each resource where it sets the resources up
abbrev pub owed : Program → Procedure → List Assertion
owed p f = cond (is_init f) (map (λ r. r.invariant) p.resources) (f.post ∷ [])

-- the annotations of a program: the resources' invariants, and then those of the procedures, each in
-- file order
abbrev pub annotations_in : Program → List Assertion
annotations_in p = map (λ r. r.invariant) p.resources ++ flat_map notes_of p.procedures

-- the first conjunct that is never taken in one of these annotations is there
abbrev pub NeverTakenIn : List Assertion → Place → Type 0
NeverTakenIn notes q = (a : Assertion) × Contains notes a × NeverTakenAt a.level q

-- the first of these places in the text; None where there is none
abbrev pub IsFirstPlace : (Place → Type 0) → Option Place → Type 0
IsFirstPlace P None = (q : Place) → ¬ P q
IsFirstPlace P (Some q) = P q × ((r : Place) → P r → is_before r q ≡ true → ⊥)

-- the earlier of two places, where there may be no first one
abbrev pub earlier_of : Option Place → Place → Place
earlier_of None q = q
earlier_of (Some p) q = cond (is_before q p) q p

-- these are the annotations in order
abbrev pub AreOrdersOf : List Assertion → List Assertion → Type 0
AreOrdersOf notes orders = AllZip IsOrderOf notes orders
