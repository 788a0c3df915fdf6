-- Walks along pointers: the locations that a conjunct's cells have, in the order in which they are met.
-- Ordinary: paths of a linked structure, a relation case for each cell that is met.
use Rattle.std.specs.Prelude.{◌≡◌, ◌≢◌, ℕ, List, [], ◌∷◌, ◌++◌, Some, slice_index_or}
use Rattle.std.specs.FinMap.{get}
use Rattle.sf_base.specs.declared.ids.FieldId.{FieldId}
use Rattle.sf_base.specs.declared.value.Value.{Value}
use Rattle.sf_base.specs.declared.value.Value.TheVariants.{Nil as nil, Loc as loc}
use Rattle.sf_heap.specs.Cells.{Cells, FieldValues}

-- the walk along a field from a value up to another
pub data SegmentWalk (heap : Cells) (next : FieldId) (to : Value) : Value → List ℕ → Type 0 where
  end : {from : Value} {ls : List ℕ} → from ≡ to → ls ≡ [] → SegmentWalk heap next to from ls
  cell : {from : Value} {ls : List ℕ} → from ≢ to → (location : ℕ) (here : FieldValues) (rest : List ℕ)
      → from ≡ loc location → get heap location ≡ Some here
      → SegmentWalk heap next to (slice_index_or here next.0 nil) rest → ls ≡ location ∷ rest
      → SegmentWalk heap next to from ls

-- the walk along a field from a value up to another, whose cells lead back by a second one, each to that before it
pub data DoubleWalk (heap : Cells) (next back : FieldId) (last to : Value) : Value → Value → List ℕ → Type 0 where
  empty : {before from : Value} {ls : List ℕ} → from ≡ to → before ≡ last → ls ≡ []
      → DoubleWalk heap next back last to before from ls
  linked : {before from : Value} {ls : List ℕ} → from ≢ to → (location : ℕ) (here : FieldValues) (rest : List ℕ)
      → from ≡ loc location → get heap location ≡ Some here → slice_index_or here back.0 nil ≡ before
      → DoubleWalk heap next back last to from (slice_index_or here next.0 nil) rest → ls ≡ location ∷ rest
      → DoubleWalk heap next back last to before from ls

-- the walk through trees, one after the other, each from its root on: first the left field, then the right
pub data TreesWalk (heap : Cells) (left right : FieldId) : List Value → List ℕ → Type 0 where
  none : {roots : List Value} {ls : List ℕ} → roots ≡ [] → ls ≡ [] → TreesWalk heap left right roots ls
  leaf : {roots : List Value} {ls : List ℕ} (others : List Value) → roots ≡ nil ∷ others
      → TreesWalk heap left right others ls → TreesWalk heap left right roots ls
  node : {roots : List Value} {ls : List ℕ} (location : ℕ) (others : List Value) (here : FieldValues) (rest : List ℕ)
      → roots ≡ loc location ∷ others → get heap location ≡ Some here
      → TreesWalk heap left right (slice_index_or here left.0 nil ∷ slice_index_or here right.0 nil ∷ others) rest
      → ls ≡ location ∷ rest → TreesWalk heap left right roots ls

-- a list grew by a walk's locations
pub record WalksOn (walk : List ℕ → Type 0) (old new : List ℕ) : Type 0 where
  pub locations : List ℕ
  pub grew : new ≡ old ++ locations
  pub walked : walk locations

-- in the middle of a walk: what was walked, and what is to be walked makes it whole
pub record Walking (whole left : List ℕ → Type 0) (old new : List ℕ) : Type 0 where
  pub locations : List ℕ
  pub grew : new ≡ old ++ locations
  pub ends : (ls : List ℕ) → left ls → whole (locations ++ ls)
  pub follows : (ls : List ℕ) → whole ls → (rest : List ℕ) × (ls ≡ locations ++ rest) × left rest
