-- Holds: which values of the variables and which heaps a goal stands for.
-- Berdine, Calcagno, O'Hearn, "Symbolic Execution with Separation Logic" (2005), section 3; Reynolds
-- (2002) for the connectives.
use Rattle.std.specs.Prelude.{◌≡◌, ◌≢◌, ℕ, List, [], ◌∷◌, Option, Some, None, get_or}
use Rattle.sf_base.specs.declared.ids.FieldId.{FieldId}
use Rattle.sf_base.specs.declared.ids.Var.{Var}
use Rattle.sf_base.specs.declared.value.Value.{Value}
use Rattle.sf_base.specs.declared.value.Value.TheVariants.{Nil as nil, Int as int, Loc as loc}
use Rattle.sf_base.specs.HeapStore.{Cell, Heap, IsEmpty, IsOne, ◌⋆◌}
use Rattle.sf_core.specs.Assertions.Sat.{Dseg, HasFields, Seg, Tree as IsTree, SatAll}
use Rattle.sf_sym.specs.declared.atom.Atom.{Atom}
use Rattle.sf_sym.specs.declared.atom.Atom.TheVariants.{Points, Ls, Tree, Dll}
use Rattle.sf_sym.specs.declared.atom.Numbered.{Numbered}
use Rattle.sf_core.specs.declared.fields.Links.{Links}
use Rattle.sf_sym.specs.declared.term.Term.{Term}
use Rattle.sf_sym.specs.declared.term.Term.TheVariants.{Nil, Int, Sym}
use Rattle.std.specs.List.{AllByRecursion}
use Rattle.sf_sym.specs.Goal.{Item, run, add, take, gave, head, again, exit, return, end, Goal}
use Rattle.sf_sym.specs.Pending.{Pending}

-- the value of a term, for given values of the symbols
abbrev pub term_value : (ℕ → Value) → Term → Value
term_value w Nil = nil
term_value w (Int i) = int i
term_value w (Sym n) = w n

-- the variable has its term's value, where it has one at all
abbrev pub Agrees : (ℕ → Value) → (Var → Option Value) → Var × Term → Type 0
Agrees w e x = (v : Value) → e x.0 ≡ Some v → v ≡ term_value w x.1

-- the two terms have different values
abbrev pub Differ : (ℕ → Value) → Term × Term → Type 0
Differ w p = term_value w p.0 ≢ term_value w p.1

-- a segment along that field; there is none where the program lacks it
abbrev pub SegAlong : Option FieldId → (from to : Value) → Heap → Type 0
SegAlong None from to heap = ⊥
SegAlong (Some next) from to heap = Seg next to from heap

-- a doubly linked segment along these fields; there is none where the program lacks one
abbrev pub DsegAlong : (next back : Option FieldId) → (from before last to : Value) → Heap → Type 0
DsegAlong None back from before last to heap = ⊥
DsegAlong (Some next) None from before last to heap = ⊥
DsegAlong (Some next) (Some back) from before last to heap = Dseg next back last to before from heap

-- a tree along these fields; there is none where the program lacks one
abbrev pub TreeAlong : (left right : Option FieldId) → (root : Value) → Heap → Type 0
TreeAlong None right root heap = ⊥
TreeAlong (Some left) None root heap = ⊥
TreeAlong (Some left) (Some right) root heap = IsTree left right root heap

-- an atom holds on exactly that heap
abbrev pub AtomHolds : (ℕ → Value) → Links → Atom → Heap → Type 0
AtomHolds w links (Points t fields) heap =
    (location : ℕ) × (here : Cell) × (term_value w t ≡ loc location) × IsOne location here heap
    × HasFields (term_value w) fields here
AtomHolds w links (Ls t u) heap = SegAlong links.tl (term_value w t) (term_value w u) heap
AtomHolds w links (Tree t) heap = TreeAlong links.l links.r (term_value w t) heap
AtomHolds w links (Dll v p l u) heap =
    DsegAlong links.tl links.pv (term_value w v) (term_value w p) (term_value w l) (term_value w u) heap

-- the atoms hold on pairwise disjoint heaps that make up the heap
abbrev pub AtomsHold : (ℕ → Value) → Links → List Numbered → Heap → Type 0
AtomsHold w links [] heap = IsEmpty heap
AtomsHold w links (a ∷ rest) heap = (AtomHolds w links a.atom ⋆ AtomsHold w links rest) heap

-- each existential that has a term has that term's value
abbrev pub IsBound : (ℕ → Value) → List (Option Term) → (ℕ → Value) → Type 0
IsBound w bindings some = (n : ℕ) (t : Term) → get_or bindings n None ≡ Some t → some n ≡ term_value w t

-- the conjuncts hold on exactly that heap, with some values of the existentials that have no term yet
abbrev pub PendingHolds : (ℕ → Value) → Pending → Heap → Type 0
PendingHolds w given heap =
    (some : ℕ → Value) × IsBound w given.bindings some × SatAll given.conjuncts (term_value w) some heap

-- what is to be assumed before the first other thing to do holds on pairwise disjoint heaps that make up
-- the heap
abbrev pub AddsHold : (ℕ → Value) → List Item → Heap → Type 0
AddsHold w [] heap = IsEmpty heap
AddsHold w (add p given ∷ items) heap = (PendingHolds w given ⋆ AddsHold w items) heap
AddsHold w (run c ∷ items) heap = IsEmpty heap
AddsHold w (take p want names ∷ items) heap = IsEmpty heap
AddsHold w (gave p set removed ∷ items) heap = IsEmpty heap
AddsHold w (head p test invariant body ∷ items) heap = IsEmpty heap
AddsHold w (again p invariant ∷ items) heap = IsEmpty heap
AddsHold w (exit p r ∷ items) heap = IsEmpty heap
AddsHold w (return p post ∷ items) heap = IsEmpty heap
AddsHold w (end p ∷ items) heap = IsEmpty heap

-- a goal holds of these values of the variables and of that heap, with these values of the symbols
pub record HoldsAt (w : ℕ → Value) (goal : Goal) (e : Var → Option Value) (heap : Heap) : Type 0 where
  pub vars : AllByRecursion (Agrees w e) goal.state.vars
  pub apart : AllByRecursion (Differ w) goal.state.apart
  pub heaps : (AtomsHold w goal.state.links goal.state.atoms ⋆
      (AtomsHold w goal.state.links goal.state.taken ⋆ AddsHold w goal.todo)) heap

-- Holds: it does so with some values of the symbols
abbrev pub Holds : Goal → (Var → Option Value) → Heap → Type 0
Holds goal e heap = (w : ℕ → Value) × HoldsAt w goal e heap
