-- What an assertion means: which heaps satisfy it, for given values of its operands.
-- Reynolds (2002); segments and trees as in Berdine, Calcagno, O'Hearn, "Symbolic Execution" (2005).
use Rattle.std.specs.Prelude.{◌≡◌, ◌≢◌, ℕ, false, List, [], ◌∷◌}
use Rattle.sf_base.specs.declared.ids.FieldId.{FieldId}
use Rattle.sf_base.specs.declared.ids.Var.{Var}
use Rattle.sf_base.specs.declared.value.Value.{Value}
use Rattle.sf_base.specs.declared.value.Value.TheVariants.{Nil as nil, Int as int, Loc as loc}
use Rattle.sf_core.specs.declared.assertion.Operand.{Operand}
use Rattle.sf_core.specs.declared.assertion.Operand.TheVariants.{Known, Exists}
use Rattle.sf_core.specs.declared.assertion.Scope.{Scope}
use Rattle.sf_core.specs.declared.assertion.Test.{Test}
use Rattle.sf_core.specs.declared.assertion.Test.TheVariants.{True, Equal, Differ}
use Rattle.sf_core.specs.declared.command.Expr.{Expr}
use Rattle.sf_core.specs.declared.command.Expr.TheVariants.{Var as Variable, Nil, Int}
use Rattle.sf_base.specs.HeapStore.{Cell, Heap, IsEmpty, IsOne, Splits, ◌⋆◌}
use Rattle.sf_core.specs.Assertions.Scopes.{is_made_by}
use Rattle.sf_core.specs.Program.Syntax.{Conjunct, holds, points, segment, doubly, tree, choose, Level, level, Conjuncts, none, also}

-- the value of an expression, for given values of the variables
abbrev pub value : (Var → Value) → Expr → Value
value vars (Variable x) = vars x.var
value vars Nil = nil
value vars (Int i) = int i

-- a test is true, for given values of what it compares
abbrev pub IsTrueOf : {E : Type 0} → (E → Value) → Test E → Type 0
IsTrueOf val True = Unit {0}
IsTrueOf val (Equal x y) = val x ≡ val y
IsTrueOf val (Differ x y) = val x ≢ val y

-- the value of an operand, for given values of what is known and of the existentials
abbrev pub operand : {E : Type 0} → (E → Value) → (ℕ → Value) → Operand E → Value
operand val some (Known x) = val x
operand val some (Exists n) = some n

-- the cell has these values in these fields; its other fields hold anything
abbrev pub HasFields : {E : Type 0} → (E → Value) → List (FieldId × E) → Cell → Type 0
HasFields val [] cell = Unit {0}
HasFields val (f ∷ fs) cell = (cell f.0.0 ≡ val f.1) × HasFields val fs cell

-- a segment along a field from a value up to another: it ends where both are the same, and so has no cell at
-- its end
pub data Seg (next : FieldId) (to : Value) : Value → Heap → Type 0 where
  end : {from : Value} {heap : Heap} → from ≡ to → IsEmpty heap → Seg next to from heap
  cell : {from : Value} {heap : Heap} → from ≢ to → (location : ℕ) (here : Cell) (one rest : Heap)
      → from ≡ loc location → IsOne location here one → Splits heap one rest → Seg next to (here next.0) rest
      → Seg next to from heap

-- a doubly linked segment from a value up to another, along a field and, backwards, a second one: its first
-- cell leads back to the value before it, each further one to the cell before it, and the last one is at a
-- value; where there is no cell that is the value before it
pub data Dseg (next back : FieldId) (last to : Value) : Value → Value → Heap → Type 0 where
  empty : {before from : Value} {heap : Heap} → from ≡ to → before ≡ last → IsEmpty heap
      → Dseg next back last to before from heap
  linked : {before from : Value} {heap : Heap} → from ≢ to → (location : ℕ) (here : Cell) (one rest : Heap)
      → from ≡ loc location → IsOne location here one → Splits heap one rest → here back.0 ≡ before
      → Dseg next back last to from (here next.0) rest → Dseg next back last to before from heap

-- a binary tree from a value: nothing at nil, else a cell and, apart from it and from each other, the trees
-- of its two fields
pub data Tree (left right : FieldId) : Value → Heap → Type 0 where
  leaf : {root : Value} {heap : Heap} → root ≡ nil → IsEmpty heap → Tree left right root heap
  node : {root : Value} {heap : Heap} → (location : ℕ) (here : Cell) (one rest first second : Heap)
      → root ≡ loc location → IsOne location here one → Splits heap one rest → Splits rest first second
      → Tree left right (here left.0) first → Tree left right (here right.0) second
      → Tree left right root heap

-- the same values, save those of the existentials that a level makes
abbrev pub SameOutside : Scope → (ℕ → Value) → (ℕ → Value) → Type 0
SameOutside made before after = (n : ℕ) → is_made_by made n ≡ false → after n ≡ before n

-- what it is for a heap to satisfy a level, conjuncts, and one conjunct
abbrev mutual
  -- Sat: with some values of the existentials made here, the conjuncts hold on pairwise disjoint heaps that
  -- make up the heap
  pub Sat : {E : Type 0} → Level E → (E → Value) → (ℕ → Value) → Heap → Type 0
  Sat (level made cs) val some heap = (here : ℕ → Value) × SameOutside made some here
      × SatAll cs val here heap

  -- the conjuncts hold on pairwise disjoint heaps that make up the heap: none on the empty heap
  pub SatAll : {E : Type 0} → Conjuncts E → (E → Value) → (ℕ → Value) → Heap → Type 0
  SatAll none val some heap = IsEmpty heap
  SatAll (also c cs) val some heap = (SatOne c val some ⋆ SatAll cs val some) heap

  -- one conjunct holds on the heap: a test on the empty heap, a points-to on one cell, segments, a tree, or
  -- the branch that the test chooses
  pub SatOne : {E : Type 0} → Conjunct E → (E → Value) → (ℕ → Value) → Heap → Type 0
  SatOne (holds p t) val some heap = IsEmpty heap × IsTrueOf (operand val some) t
  SatOne (points p x fs) val some heap = (location : ℕ) × (here : Cell) × (operand val some x ≡ loc location)
      × IsOne location here heap × HasFields (operand val some) fs here
  SatOne (segment p next x y) val some heap = Seg next (operand val some y) (operand val some x) heap
  SatOne (doubly p next back x b l y) val some heap =
      Dseg next back (operand val some l) (operand val some y) (operand val some b) (operand val some x) heap
  SatOne (tree p left right x) val some heap = Tree left right (operand val some x) heap
  SatOne (choose p t this that) val some heap = (IsTrueOf (operand val some) t → Sat this val some heap)
      × ((IsTrueOf (operand val some) t → ⊥) → Sat that val some heap)

-- Foot: that part of the heap satisfies the level. It is the footprint where the level is determined, since
-- then there is at most one
pub record Foot {E : Type 0} (a : Level E) (val : E → Value) (heap part : Heap) : Type 0 where
  pub rest : Heap
  pub splits : Splits heap part rest
  pub sat : Sat a val (λ n. nil) part
