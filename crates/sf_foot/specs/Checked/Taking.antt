-- Which locations conjuncts take, one after the other, whether they differ or not.
-- Ordinary: the meaning of assertions, with lists of locations in place of parts of a heap.
use Rattle.std.specs.Prelude.{◌≡◌, ◌<◌, ℕ, Bool, true, List, [], ◌∷◌, ◌++◌, length, Some}
use Rattle.std.specs.FinMap.{get, len}
use Rattle.sf_base.specs.declared.value.Value.{Value}
use Rattle.sf_base.specs.declared.value.Value.TheVariants.{Loc as loc}
use Rattle.sf_core.specs.declared.assertion.Operand.{Operand}
use Rattle.sf_core.specs.declared.assertion.Operand.TheVariants.{Exists}
use Rattle.sf_core.specs.Assertions.Determined.{IsKnown, is_learned_in, known_inside}
use Rattle.sf_core.specs.Assertions.InOrder.{InOrder, IsNext}
use Rattle.sf_core.specs.Assertions.Occurs.{OccursIn, OccursInAll, OccursInOne, OccursInTest}
use Rattle.sf_core.specs.Assertions.Sat.{HasFields, IsTrueOf, SameOutside, operand}
use Rattle.sf_core.specs.declared.assertion.Test.{Test}
use Rattle.sf_core.specs.Program.Syntax.{Conjunct, holds, points, segment, doubly, tree, choose, Level, level, Conjuncts, none, also}
use Rattle.sf_heap.specs.Cells.{Cells, FieldValues, cell_of}
use Rattle.sf_foot.specs.declared.known.Known.{Known}
use Rattle.sf_foot.specs.Checked.Known.{Agrees, Grows, IsWithin, is_told}
use Rattle.sf_foot.specs.Checked.Walks.{DoubleWalk, SegmentWalk, TreesWalk}

-- the locations that are taken, as a relation
abbrev mutual
  -- by a level, for some values of the existentials that it makes
  pub LevelTakes : {E : Type 0} → Cells → Level E → (E → Value) → (ℕ → Value) → List ℕ → Type 0
  LevelTakes heap (level made cs) val some ls = (here : ℕ → Value) × SameOutside made some here
      × AllTake heap cs val here ls

  -- by conjuncts, those of the first one first
  pub AllTake : {E : Type 0} → Cells → Conjuncts E → (E → Value) → (ℕ → Value) → List ℕ → Type 0
  AllTake heap none val some ls = ls ≡ []
  AllTake heap (also c cs) val some ls = (one : List ℕ) × (rest : List ℕ) × (ls ≡ one ++ rest)
      × OneTakes heap c val some one × AllTake heap cs val some rest

  -- by one conjunct
  pub OneTakes : {E : Type 0} → Cells → Conjunct E → (E → Value) → (ℕ → Value) → List ℕ → Type 0
  OneTakes heap (holds p t) val some ls = (ls ≡ []) × IsTrueOf (operand val some) t
  OneTakes heap (points p x fs) val some ls = (location : ℕ) × (here : FieldValues)
      × (operand val some x ≡ loc location) × (get heap location ≡ Some here)
      × HasFields (operand val some) fs (cell_of here) × (ls ≡ location ∷ [])
  OneTakes heap (segment p next x y) val some ls =
      SegmentWalk heap next (operand val some y) (operand val some x) ls
  OneTakes heap (doubly p next back x b l y) val some ls =
      DoubleWalk heap next back (operand val some l) (operand val some y) (operand val some b) (operand val some x) ls
  OneTakes heap (tree p left right x) val some ls =
      TreesWalk heap left right (operand val some x ∷ []) ls
  OneTakes heap (choose p t this that) val some ls =
      (IsTrueOf (operand val some) t → LevelTakes heap this val some ls)
      × ((IsTrueOf (operand val some) t → ⊥) → LevelTakes heap that val some ls)

-- locations were appended that are taken, whatever the values of existentials that are not known yet; and no
-- others are taken with what was known before
pub record Takes (takes : (ℕ → Value) → List ℕ → Type 0) (learned : ℕ → Bool) (before after : Known)
    (old new : List ℕ) : Type 0 where
  pub locations : List ℕ
  pub grew : new ≡ old ++ locations
  pub grows : Grows learned before after
  pub all : (some : ℕ → Value) → Agrees after some → takes some locations
  pub only : (some : ℕ → Value) (ls : List ℕ) → Agrees before some → takes some ls
      → (ls ≡ locations) × Agrees after some

-- whatever is taken, it makes more locations than there are cells
abbrev pub Overflows : ((ℕ → Value) → List ℕ → Type 0) → Cells → Known → List ℕ → Type 0
Overflows takes heap before old = (some : ℕ → Value) (ls : List ℕ) → Agrees before some → takes some ls
    → len heap < length (old ++ ls)

-- both sides of a test are known
abbrev pub TestIsKnown : {E : Type 0} → Known → Test (Operand E) → Type 0
TestIsKnown known t = (x : Operand _) → OccursInTest t x → IsKnown (is_told known) x

-- conjuncts can be taken in their order
pub record AreReady {E : Type 0} (known : Known) (cs : Conjuncts E) : Type 0 where
  pub in_order : InOrder (is_told known) cs
  pub within : (n : ℕ) → OccursInAll cs (Exists n) → IsWithin known n

-- a conjunct can be taken
pub record IsReadyNow {E : Type 0} (known : Known) (c : Conjunct E) : Type 0 where
  pub next : IsNext (is_told known) c
  pub within : (n : ℕ) → OccursInOne c (Exists n) → IsWithin known n

-- a branch can be taken: its conjuncts are in order from what is known around it, and all that they take
-- from there is known
abbrev pub BranchIsReady : {E : Type 0} → Known → Level E → Type 0
BranchIsReady known (level made cs) = InOrder (known_inside made (is_told known)) cs
    × ((n : ℕ) → OccursIn (level made cs) (Exists n) → is_told known n ≡ true)

-- in the middle of conjuncts: what those that are left take comes after what was taken, and all of it is
-- what all take
pub record ConjunctsLeft {E : Type 0} (heap : Cells) (val : E → Value) (before : Known) (old : List ℕ)
    (all : Conjuncts E) (now : Known) (found : List ℕ) (left : Conjuncts E) : Type 0 where
  pub ends : (after : Known) (new : List ℕ)
      → Takes (AllTake heap left val) (is_learned_in left) now after found new
      → Takes (AllTake heap all val) (is_learned_in all) before after old new
  pub fails : Overflows (AllTake heap left val) heap now found
      → Overflows (AllTake heap all val) heap before old
  pub ready : AreReady now left
