-- Laws of heaps and assertions, each in words of its own: what a reader may expect of the definitions.
-- Reynolds, "Separation Logic" (2002); O'Hearn, Yang, Reynolds (2004) for precision.
use Rattle.std.specs.Prelude.{◌≡◌, ◌≢◌, ◌↔◌, ℕ, Bool, true, List, None}
use Rattle.sf_base.specs.declared.ids.FieldId.{FieldId}
use Rattle.sf_base.specs.declared.ids.Var.{Var}
use Rattle.sf_base.specs.declared.place.Place.{Place}
use Rattle.sf_base.specs.declared.value.Value.{Value}
use Rattle.sf_base.specs.declared.value.Value.TheVariants.{Loc as loc}
use Rattle.sf_core.specs.declared.assertion.Operand.{Operand}
use Rattle.sf_core.specs.declared.assertion.Operand.TheVariants.{Exists}
use Rattle.sf_core.specs.declared.assertion.Scope.{Scope}
use Rattle.sf_core.specs.declared.command.Expr.{Expr}
use Rattle.sf_core.specs.Assertions.Determined.{CanBeTaken, Determined, HasOrder, Leaves, is_learned_in, known_after}
use Rattle.sf_base.specs.HeapStore.{Cell, Heap, IsEmpty, IsOne, Splits}
use Rattle.sf_core.specs.Assertions.Occurs.{OccursInAll, VarOccursIn}
use Rattle.sf_core.specs.Checked.Assertions.Precise.{IsPrecise}
use Rattle.sf_core.specs.Assertions.Sat.{Dseg, Sat, SatAll, SatOne, Seg, Tree, operand, value}
use Rattle.sf_core.specs.Checked.Assertions.Shape.{IsAcyclic, IsFinite, IsUnshared}
use Rattle.sf_core.specs.Program.Syntax.{Conjunct, Conjuncts, Level, level, points, segment, tree}

-- the two parts of a heap may be exchanged
unfoldable pub UnionIsCommutative : Type 0
UnionIsCommutative = (heap one two : Heap) → Splits heap one two → Splits heap two one

-- of three parts the last two may be put together first, or the first two
unfoldable pub UnionIsAssociative : Type 0
UnionIsAssociative = (heap one two three : Heap)
    → ((both : Heap) × Splits both one two × Splits heap both three)
    ↔ ((both : Heap) × Splits both two three × Splits heap one both)

-- a heap and one of its parts determine the other
unfoldable pub UnionCancels : Type 0
UnionCancels = (heap one two three : Heap) → Splits heap one two → Splits heap one three → two ≡ three

-- where a points-to holds, its root is a location, and the heap has a cell there and nowhere else
unfoldable pub PointsToHasExactlyOneCell : Type 0
PointsToHasExactlyOneCell = (place : Place) (root : Operand Expr) (fields : List (FieldId × Operand Expr))
    (vars : Var → Value) (some : ℕ → Value) (heap : Heap)
    → SatOne (points place root fields) (value vars) some heap
    → (location : ℕ) × (operand (value vars) some root ≡ loc location)
    × ((other : ℕ) → heap other ≢ None ↔ (other ≡ location))

-- where a segment holds, the heap has no cell at its end
unfoldable pub SegmentHasNoCellAtItsEnd : Type 0
SegmentHasNoCellAtItsEnd = (place : Place) (next : FieldId) (from to : Operand Expr) (vars : Var → Value)
    (some : ℕ → Value) (heap : Heap) (location : ℕ)
    → SatOne (segment place next from to) (value vars) some heap → operand (value vars) some to ≡ loc location
    → heap location ≡ None

-- two segments, one after the other, are one, where the first has no cell at the end of the second
unfoldable pub SegmentsCompose : Type 0
SegmentsCompose = (next : FieldId) (from middle to : Value) (heap one two : Heap) → Splits heap one two
    → ((location : ℕ) → to ≡ loc location → one location ≡ None)
    → Seg next middle from one → Seg next to middle two → Seg next to from heap

-- where a doubly linked segment holds, the heap has no cell at its end
unfoldable pub DoublyLinkedSegmentHasNoCellAtItsEnd : Type 0
DoublyLinkedSegmentHasNoCellAtItsEnd = (next back : FieldId) (from before last to : Value) (heap : Heap)
    (location : ℕ) → Dseg next back last to before from heap → to ≡ loc location → heap location ≡ None

-- a doubly linked segment that ends where it begins has no cell, and its last cell is what stands before it
unfoldable pub DoublyLinkedSegmentMayBeEmpty : Type 0
DoublyLinkedSegmentMayBeEmpty = (next back : FieldId) (from before last : Value) (heap : Heap)
    → Dseg next back last from before from heap ↔ (before ≡ last) × IsEmpty heap

-- two doubly linked segments, one after the other, are one, where the first has no cell at the end of the
-- second
unfoldable pub DoublyLinkedSegmentsCompose : Type 0
DoublyLinkedSegmentsCompose = (next back : FieldId) (from before middle far last to : Value)
    (heap one two : Heap) → Splits heap one two
    → ((location : ℕ) → to ≡ loc location → one location ≡ None)
    → Dseg next back middle far before from one → Dseg next back last to middle far two
    → Dseg next back last to before from heap

-- where the ends of a doubly linked segment differ, it is one up to its last cell, and apart from it
-- that cell, which leads to its end and back to the cell before it
unfoldable pub DoublyLinkedSegmentEndsInItsLastCell : Type 0
DoublyLinkedSegmentEndsInItsLastCell = (next back : FieldId) (from before last to : Value) (heap : Heap)
    → from ≢ to → Dseg next back last to before from heap
    → (location : ℕ) × (here : Cell) × (one rest : Heap) × (last ≡ loc location) × IsOne location here one
    × Splits heap rest one × (here next.0 ≡ to) × Dseg next back (here back.0) last before from rest

-- a doubly linked segment and one more cell at its end, which leads back to its last one, are one, where
-- the first has no cell at the new end, which is another value than the old one
unfoldable pub DoublyLinkedSegmentGrowsAtItsEnd : Type 0
DoublyLinkedSegmentGrowsAtItsEnd = (next back : FieldId) (from before to : Value) (heap rest one : Heap)
    (location : ℕ) (here : Cell)
    → loc location ≢ to → ((other : ℕ) → to ≡ loc other → rest other ≡ None) → Splits heap rest one
    → IsOne location here one → here next.0 ≡ to
    → Dseg next back (here back.0) (loc location) before from rest
    → Dseg next back (loc location) to before from heap

-- where a tree holds, the heap is finite, and no location of it leads back to itself
unfoldable pub TreeIsFiniteAndAcyclic : Type 0
TreeIsFiniteAndAcyclic = (place : Place) (left right : FieldId) (root : Operand Expr) (vars : Var → Value)
    (some : ℕ → Value) (heap : Heap)
    → SatOne (tree place left right root) (value vars) some heap → IsFinite heap × IsAcyclic left right heap

-- where a tree holds, no location is shared: none is pointed to from two cells, nor by both fields of one
unfoldable pub TreeSharesNothing : Type 0
TreeSharesNothing = (place : Place) (left right : FieldId) (root : Operand Expr) (vars : Var → Value)
    (some : ℕ → Value) (heap : Heap)
    → SatOne (tree place left right root) (value vars) some heap → IsUnshared left right heap

-- a heap that satisfies an assertion is finite
unfoldable pub SatisfyingHeapsAreFinite : Type 0
SatisfyingHeapsAreFinite = (assertion : Level Expr) (vars : Var → Value) (some : ℕ → Value) (heap : Heap)
    → Sat assertion (value vars) some heap → IsFinite heap

-- a segment between two values, doubly linked or not, and a tree from a value are at most one part of each heap
unfoldable pub SegmentsAndTreesArePrecise : Type 0
SegmentsAndTreesArePrecise = ((next : FieldId) (from to : Value) → IsPrecise (Seg next to from))
    × ((next back : FieldId) (from before last to : Value) → IsPrecise (Dseg next back last to before from))
    × ((left right : FieldId) (root : Value) → IsPrecise (Tree left right root))

-- whether a heap satisfies an assertion rests on the values of the variables that occur in it, and on no
-- other variable
unfoldable pub SatSpeaksOfOccurringVariables : Type 0
SatSpeaksOfOccurringVariables = (assertion : Level Expr) (before after : Var → Value) (some : ℕ → Value)
    (heap : Heap)
    → ((x : Var) → VarOccursIn assertion x → before x ≡ after x)
    → Sat assertion (value before) some heap ↔ Sat assertion (value after) some heap

-- a determined assertion has at most one footprint in each heap, whatever values the existentials from
-- outside have
unfoldable pub DeterminedHasOneFootprint : Type 0
DeterminedHasOneFootprint = (assertion : Level Expr) (vars : Var → Value) (some : ℕ → Value)
    → Determined assertion → IsPrecise (Sat assertion (value vars) some)

-- conjuncts that have an order from what is known are precise and fix their existentials: where they hold on
-- two parts of one heap, with values that are the same for what is known, the two parts are one, and each
-- existential that occurs in them has the same value in both. A determined level's conjuncts have an order from
-- nothing; those of a branch, once the choice can be taken, from what is known inside it
unfoldable pub OrderedConjunctsArePrecise : Type 0
OrderedConjunctsArePrecise = (known : ℕ → Bool) (cs : Conjuncts Expr) (vars : Var → Value)
    (here there : ℕ → Value) (heap one two other another : Heap) → HasOrder known cs
    → ((n : ℕ) → known n ≡ true → here n ≡ there n) → Splits heap one other → Splits heap two another
    → SatAll cs (value vars) here one → SatAll cs (value vars) there two
    → (one ≡ two) × ((n : ℕ) → OccursInAll cs (Exists n) → here n ≡ there n)

-- each existential that occurs in a determined assertion becomes known where one of its conjuncts is taken
unfoldable pub EachExistentialBecomesKnown : Type 0
EachExistentialBecomesKnown = (made : Scope) (cs : Conjuncts Expr) → Determined (level made cs) → (n : ℕ)
    → OccursInAll cs (Exists n) → is_learned_in cs n ≡ true

-- where conjuncts have an order, any one of them that can be taken may come first
unfoldable pub AnyReadyConjunctMayComeFirst : Type 0
AnyReadyConjunctMayComeFirst = (known : ℕ → Bool) (cs rest : Conjuncts Expr) (c : Conjunct Expr)
    → Leaves cs c rest → CanBeTaken known c → HasOrder known cs → HasOrder (known_after c known) rest
