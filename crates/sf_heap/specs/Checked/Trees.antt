-- The entries of a heap's tree, in order, and what one entry more or less makes of them.
-- Ordinary: a binary search tree as the list of its keys, from the left to the right.
use Rattle.std.specs.Prelude.{◌≡◌, ℕ, List, [], ◌∷◌, ◌++◌, Option, None, Some, IsTrue, is_some}
use Rattle.std.specs.Global.{Box}
use Rattle.sf_heap.specs.declared.tree.Entry.{Entry}
use Rattle.sf_heap.specs.declared.tree.Node.{Node}
use Rattle.sf_heap.specs.declared.tree.Tree.{Tree}
use Rattle.sf_heap.specs.declared.tree.Tree.TheVariants.{Empty, Fork'}
use Rattle.sf_heap.specs.Checked.Entries.{AllAbove, AllBelow, Rises, found}

-- the entries from the left to the right
abbrev pub entries_of : Tree → List Entry
entries_of Empty = []
entries_of (Fork' height p e below above) = entries_of below ++ e ∷ entries_of above

-- those of a node
abbrev pub entries_in : Node → List Entry
entries_in n = entries_of n.below ++ n.entry ∷ entries_of n.above

-- the entry on top
abbrev pub tops : Tree → List Entry
tops Empty = []
tops (Fork' height p e below above) = e ∷ []

-- the entries of what is in hand and of the others
abbrev pub kept : (hand cells : Tree) → List Entry
kept hand cells = tops hand ++ entries_of cells

-- the others are in order, and none is at the location of what is in hand
abbrev pub AreKept : (hand cells : Tree) → Type 0
AreKept Empty cells = Rises (entries_of cells)
AreKept (Fork' height p e below above) cells = Rises (entries_of cells) × (found e.at (entries_of cells) ≡ None)

-- the entries with one more, at its place
pub record IsMore (old : List Entry) (e : Entry) (new : List Entry) : Type 0 where
  pub before : List Entry
  pub after : List Entry
  pub was : old ≡ before ++ after
  pub is : new ≡ before ++ e ∷ after
  pub below : AllBelow e.at before
  pub above : AllAbove e.at after

-- the entries without the one of that location
pub record IsTaken (old : List Entry) (at : ℕ) (e : Entry) (new : List Entry) : Type 0 where
  pub more : IsMore new e old
  pub at_is : e.at ≡ at

-- an entry's location has one: nothing is changed, and it comes back
pub record ComesBack (old : List Entry) (e back : Entry) (new : List Entry) : Type 0 where
  pub there : IsTrue (is_some (found e.at old))
  pub same : new ≡ old
  pub is : back ≡ e

-- an entry has its place, or it comes back
abbrev pub Puts : List Entry → Entry → Option (Box Node) → List Entry → Type 0
Puts old e None new = IsMore old e new
Puts old e (Some back) new = ComesBack old e back.value.entry new
