-- A cell in hand beside the others: the map that they are together, and how many they are.
-- Names: `kept-LAW`.
use Rattle.std.proofs.Common.{◌≡◌, ℕ, ◌+◌, cond, [], ◌∷◌, length, Some, None, IsTrue, is_some, refl, sym, ap, ◌∙◌, subst, inl, inr, arith}
use Rattle.std.specs.FinMap.{insert, len, len-insert}
use Rattle.std.specs.Option.{option_or}
use Rattle.std.proofs.lemmas.Bool.{cases_eq, false≢true}
use Rattle.std.proofs.lemmas.Cmp.{nat_cmp_total}
use Rattle.sf_heap.specs.Cells.{FieldValues}
use Rattle.sf_heap.specs.declared.tree.Tree.{Tree}
use Rattle.sf_heap.specs.declared.tree.Tree.TheVariants.{Empty, Fork'}
use Rattle.sf_heap.specs.Checked.Entries.{Rises, found, map_of}
use Rattle.sf_heap.specs.Checked.Lending.{other_cell, top_of, top_set}
use Rattle.sf_heap.specs.Checked.Trees.{entries_of, kept, tops, AreKept}
use Rattle.sf_heap.proofs.Keys.{at-same, at-other}
use Rattle.sf_heap.proofs.Splits.{found-append}
use Rattle.sf_heap.proofs.Entries.{get-map_of, len-map_of, map-other}

-- the map has as many cells as are kept
pub kept-len : (hand cells : Tree) → AreKept hand cells → len (map_of (kept hand cells)) ≡ length (kept hand cells)
kept-len Empty cells k = len-map_of (entries_of cells) k
kept-len (Fork' h p e b a) cells k =
    len-insert nat_cmp_total (map_of (entries_of cells)) e.at e.cell
    ∙ ap (λ o. cond (is_some o) (len (map_of (entries_of cells))) (len (map_of (entries_of cells)) + 1))
    (get-map_of (entries_of cells) e.at ∙ k.1)
    ∙ ap (λ n. n + 1) (len-map_of (entries_of cells) k.0) ∙ omega arith

-- another cell on top of what is in hand leaves the others as they are
pub kept-lent : (hand cells : Tree) (w : FieldValues) → AreKept hand cells → AreKept (top_set hand w) cells
kept-lent Empty cells w k = k
kept-lent (Fork' h p e b a) cells w k = k

pub kept-count : (hand cells : Tree) (w : FieldValues) → length (kept (top_set hand w) cells) ≡ length (kept hand cells)
kept-count Empty cells w = refl
kept-count (Fork' h p e b a) cells w = refl

-- and is the map with that cell
pub kept-set : (hand cells : Tree) (at : ℕ) (w : FieldValues) → IsTrue (is_some (found at (tops hand)))
    → map_of (kept (top_set hand w) cells) ≡ insert (map_of (kept hand cells)) at w
kept-set Empty cells at w there = absurd (false≢true there)
kept-set (Fork' h p e b a) cells at w there = elim (cases_eq at e.at) [
  | inl same ↦ map-other [] e (other_cell e w) (entries_of cells) tt refl
      ∙ ap (λ k. insert (map_of (e ∷ entries_of cells)) k w) (sym same)
  | inr other ↦ absurd (false≢true (ap is_some (sym (at-other at e.at _ _ other)) ∙ there))
]

-- what is found in hand is on top
pub top_found : (hand : Tree) (at : ℕ) → IsTrue (is_some (found at (tops hand))) → top_of hand ≡ found at (tops hand)
top_found Empty at there = refl
top_found (Fork' h p e b a) at there = elim (cases_eq at e.at) [
  | inl same ↦ sym (at-same at e.at _ _ same)
  | inr other ↦ absurd (false≢true (ap is_some (sym (at-other at e.at _ _ other)) ∙ there))
]

-- what is found at a location is in hand, or else one of the others
pub kept-hand : (hand cells : Tree) (at : ℕ) (v : FieldValues) → found at (tops hand) ≡ Some v → found at (kept hand cells) ≡ Some v
kept-hand hand cells at v is = found-append at (tops hand) (entries_of cells) ∙ ap (λ o. option_or o (found at (entries_of cells))) is

pub kept-others : (hand cells : Tree) (at : ℕ) → found at (tops hand) ≡ None → found at (kept hand cells) ≡ found at (entries_of cells)
kept-others hand cells at is = found-append at (tops hand) (entries_of cells) ∙ ap (λ o. option_or o (found at (entries_of cells))) is

-- with nothing in hand the others are all
pub alone : (hand cells : Tree) → hand ≡ Empty → kept hand cells ≡ entries_of cells
alone hand cells is = ap (λ h. kept h cells) is

pub alone_kept : (hand cells : Tree) → hand ≡ Empty → Rises (entries_of cells) → AreKept hand cells
alone_kept hand cells is h = subst (λ h. AreKept h cells) (sym is) h
