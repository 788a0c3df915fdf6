-- Satisfied: a witness satisfies what its goal knows.
-- Berdine, Calcagno, O'Hearn, "Symbolic Execution with Separation Logic" (2005), section 3: the meaning of a state.
use Rattle.std.specs.Prelude.{◌≡◌, ◌≢◌, true, is_some, Option, Some, List, []}
use Rattle.std.specs.List.{AllByRecursion}
use Rattle.sf_base.specs.declared.ids.Var.{Var}
use Rattle.sf_base.specs.declared.value.Value.{Value}
use Rattle.sf_base.specs.HeapStore.{Heap}
use Rattle.sf_core.specs.declared.fields.Links.{Links}
use Rattle.sf_sym.specs.declared.atom.Atom.{Atom}
use Rattle.sf_sym.specs.declared.atom.Atom.TheVariants.{Points, Ls, Tree, Dll}
use Rattle.sf_sym.specs.declared.atom.Numbered.{Numbered}
use Rattle.sf_sym.specs.Fields.{AreOrdered}
use Rattle.sf_sym.specs.Goal.{Goal}
use Rattle.sf_sym.specs.Holds.{HoldsAt}
use Rattle.sf_sym.specs.State.{State}
use Rattle.sf_sym.specs.Tests.{parts}
use Rattle.sf_witness.specs.Located.{located}

-- the variables have no other values than these
abbrev pub HaveValues : (Var → Option Value) → List (Var × Value) → Type 0
HaveValues e vars = AllByRecursion (λ (v : Var × Value). (u : Value) → e v.0 ≡ Some u → u ≡ v.1) vars

-- what the state knows, with nothing left to assume
abbrev pub known : State → Goal
known s = record { state = s; todo = [] }

-- Satisfied: with each symbol at its own location, what the state knows holds of these values of the variables and of
-- that heap
abbrev pub Satisfied : State → List (Var × Value) → Heap → Type 0
Satisfied s vars heap = (e : Var → Option Value) → HaveValues e vars → HoldsAt located (known s) e heap

-- a segment has a field to go along, a tree two, a doubly linked segment two that differ, and the fields of a cell stand in
-- order, each once
abbrev pub HasCell : Links → Atom → Type 0
HasCell links (Points t fields) = AreOrdered fields
HasCell links (Ls t u) = is_some links.tl ≡ true
HasCell links (Tree t) = (is_some links.l ≡ true) × (is_some links.r ≡ true)
HasCell links (Dll v p l u) = (is_some links.tl ≡ true) × (is_some links.pv ≡ true) × (links.tl ≢ links.pv)

-- so it is with the atoms of the state, taken ones among them
abbrev pub HasCells : State → Type 0
HasCells s = AllByRecursion (λ (a : Numbered). HasCell s.links a.atom) (parts s)
