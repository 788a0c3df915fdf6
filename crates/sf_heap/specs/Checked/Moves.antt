-- What the moves of entries between lists in order come to.
-- Ordinary: the merge of two increasing lists, and its inverse.
use Rattle.std.specs.Prelude.{◌≡◌, ◌+◌, ℕ, List, ◌++◌, length, take, Option}
use Rattle.sf_base.specs.HeapStore.{Apart, Splits}
use Rattle.sf_heap.specs.Cells.{FieldValues}
use Rattle.sf_heap.specs.declared.tree.Entry.{Entry}
use Rattle.sf_heap.specs.Checked.Entries.{Rises, found, places}
use Rattle.sf_heap.specs.Checked.Trees.{IsMore}

-- no location has an entry in both
abbrev pub AreApart : List Entry → List Entry → Type 0
AreApart one other = (location : ℕ) → Apart (found location one) (found location other)

-- no location of theirs has something
abbrev pub AreClear : (ℕ → Option FieldValues) → List Entry → Type 0
AreClear f entries = (location : ℕ) → Apart (f location) (found location entries)

-- a list in order has what is in two lists
pub record IsMerge (left right all : List Entry) : Type 0 where
  pub rises : Rises all
  pub all_found : (location : ℕ) → found location all ≡ found location (left ++ right)
  pub sizes : length all ≡ length left + length right

-- an entry has been moved from one list to its place in another
pub record IsMoved (part rest : List Entry) (at : ℕ) (part_after rest_after : List Entry) : Type 0 where
  pub entry : Entry
  pub at_is : entry.at ≡ at
  pub taken : IsMore rest_after entry rest
  pub placed : IsMore part entry part_after

-- two lists in order have what is in one, the first of them what is at the given locations
pub record IsParting (whole : List Entry) (at : List ℕ) (part rest : List Entry) : Type 0 where
  pub part_rises : Rises part
  pub rest_rises : Rises rest
  pub splits : Splits (λ l. found l whole) (λ l. found l part) (λ l. found l rest)
  pub at_is : at ≡ places part
  pub sizes : length whole ≡ length part + length rest

-- in between: the first locations have been moved
pub record Parting (whole : List Entry) (at : List ℕ) (moved : ℕ) (part rest : List Entry) : Type 0 where
  pub part_rises : Rises part
  pub rest_rises : Rises rest
  pub splits : Splits (λ l. found l whole) (λ l. found l part) (λ l. found l rest)
  pub at_is : take moved at ≡ places part
  pub sizes : length whole ≡ length part + length rest
