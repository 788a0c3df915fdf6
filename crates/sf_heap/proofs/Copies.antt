-- Entries that have the same cells at the same locations.
-- Names: `copied-LAW`.
use Rattle.std.proofs.Common.{◌≡◌, ◌∙◌, ℕ, ◌<◌, List, [], ◌∷◌, ◌++◌, length, sym, ap, ap₂, subst, arith}
use Rattle.std.proofs.lemmas.List.{length-map, map-append}
use Rattle.std.specs.FinMap.{find, from_entries}
use Rattle.std.specs.Ordering.{nat_cmp}
use Rattle.sf_heap.specs.Cells.{FieldValues}
use Rattle.sf_heap.specs.declared.tree.Entry.{Entry}
use Rattle.sf_heap.specs.declared.tree.Tree.{Tree}
use Rattle.sf_heap.specs.declared.tree.Tree.TheVariants.{Empty, Fork'}
use Rattle.sf_heap.specs.Checked.Entries.{AllAbove, Rises, cells_of, map_of}
use Rattle.sf_heap.specs.Checked.Trees.{AreKept, entries_of, kept, tops}

-- each location of the pairs is above that one, and each is below those after it
abbrev KeysAbove : ℕ → List (ℕ × FieldValues) → Type 0
KeysAbove at [] = Unit {0}
KeysAbove at (p ∷ ps) = (at < p.0) × KeysAbove at ps

abbrev KeysRise : List (ℕ × FieldValues) → Type 0
KeysRise [] = Unit {0}
KeysRise (p ∷ ps) = KeysAbove p.0 ps × KeysRise ps

above-to : (at : ℕ) (es : List Entry) → AllAbove at es → KeysAbove at (cells_of es)
above-to at [] h = tt
above-to at (e ∷ es) h = (h.0, above-to at es h.1)

above-from : (at : ℕ) (es : List Entry) → KeysAbove at (cells_of es) → AllAbove at es
above-from at [] h = tt
above-from at (e ∷ es) h = (h.0, above-from at es h.1)

rise-to : (es : List Entry) → Rises es → KeysRise (cells_of es)
rise-to [] h = tt
rise-to (e ∷ es) h = (above-to e.at es h.0, rise-to es h.1)

rise-from : (es : List Entry) → KeysRise (cells_of es) → Rises es
rise-from [] h = tt
rise-from (e ∷ es) h = (above-from e.at es h.0, rise-from es h.1)

copied-Rises : (xs ys : List Entry) → cells_of xs ≡ cells_of ys → Rises ys → Rises xs
copied-Rises xs ys is h = rise-from xs (subst KeysRise (sym is) (rise-to ys h))

-- the first key of pairs
abbrev first_key : List (ℕ × FieldValues) → ℕ
first_key [] = 0
first_key (p ∷ ps) = p.0

-- something and nothing differ
none≢some : {A : Type 0} (x : A) (xs : List A) → [] ≡ x ∷ xs → ⊥
none≢some x xs is = omega (arith, ap length is)

-- copies of what is in hand and of the others
pub copied-kept : (hand cells from_hand from_cells : Tree) → cells_of (tops hand) ≡ cells_of (tops from_hand)
    → cells_of (entries_of cells) ≡ cells_of (entries_of from_cells) → AreKept from_hand from_cells → AreKept hand cells
copied-kept Empty cells Empty from_cells top is k = copied-Rises _ _ is k
copied-kept Empty cells (Fork' h p e b a) from_cells top is k = copied-Rises _ _ is k.0
copied-kept (Fork' i q f c d) cells Empty from_cells top is k = absurd (none≢some _ _ (sym top))
copied-kept (Fork' i q f c d) cells (Fork' h p e b a) from_cells top is k =
    (copied-Rises _ _ is k.0, ap₂ (λ at ps. find nat_cmp at ps) (ap first_key top) is ∙ k.1)

copied-cells : (hand cells from_hand from_cells : Tree) → cells_of (tops hand) ≡ cells_of (tops from_hand)
    → cells_of (entries_of cells) ≡ cells_of (entries_of from_cells)
    → cells_of (kept hand cells) ≡ cells_of (kept from_hand from_cells)
copied-cells hand cells from_hand from_cells top is =
    map-append (λ (e : Entry). (e.at, e.cell)) (tops hand) (entries_of cells) ∙ ap₂ (λ xs ys. xs ++ ys) top is
    ∙ sym (map-append (λ (e : Entry). (e.at, e.cell)) (tops from_hand) (entries_of from_cells))

-- are the same map, and as many
pub copied-map : (hand cells from_hand from_cells : Tree) → cells_of (tops hand) ≡ cells_of (tops from_hand)
    → cells_of (entries_of cells) ≡ cells_of (entries_of from_cells)
    → map_of (kept hand cells) ≡ map_of (kept from_hand from_cells)
copied-map hand cells from_hand from_cells top is = ap from_entries (copied-cells hand cells from_hand from_cells top is)

pub copied-count : (hand cells from_hand from_cells : Tree) → cells_of (tops hand) ≡ cells_of (tops from_hand)
    → cells_of (entries_of cells) ≡ cells_of (entries_of from_cells)
    → length (kept hand cells) ≡ length (kept from_hand from_cells)
copied-count hand cells from_hand from_cells top is =
    sym (length-map (kept hand cells) (λ (e : Entry). (e.at, e.cell))) ∙ ap length (copied-cells hand cells from_hand from_cells top is)
    ∙ length-map (kept from_hand from_cells) (λ (e : Entry). (e.at, e.cell))
