-- The entries of a heap: what is found among them, and their order, with one entry more or less.
-- Names: `found-CASE` for what is found, `AllAbove-LAW`, `AllBelow-LAW` and `Rises-LAW` for order, `map-LAW` for the
-- finite map.
use Rattle.std.proofs.Common.{◌≡◌, ℕ, ◌+◌, ◌<◌, cond, List, [], ◌∷◌, ◌++◌, length, Some, None, refl, sym, ap, ◌∙◌, subst, inl, inr, arith}
use Rattle.std.specs.FinMap.{get, insert, remove, len, get-from_entries, get-insert, get-remove, len-empty, len-insert}
use Rattle.std.specs.Option.{is_some}
use Rattle.std.specs.Ordering.{nat_cmp, eq_by_cmp}
use Rattle.std.proofs.lemmas.Bool.{cases_eq}
use Rattle.std.proofs.lemmas.Cmp.{nat_cmp_total}
use Rattle.sf_heap.specs.Cells.{FieldValues}
use Rattle.sf_heap.specs.declared.tree.Entry.{Entry}
use Rattle.sf_heap.specs.Checked.Entries.{cells_of, found, map_of, AllAbove, AllBelow, Rises}
use Rattle.sf_heap.proofs.Keys.{at-same, at-other, same_cells}

-- the map has what is found
pub get-map_of : (es : List Entry) (q : ℕ) → get (map_of es) q ≡ found q es
get-map_of es q = get-from_entries nat_cmp_total (cells_of es) q

-- nothing is found below entries that are all above
pub found-above : (q : ℕ) (es : List Entry) → AllAbove q es → found q es ≡ None
found-above q [] h = refl
found-above q (e ∷ es) h = at-other q e.at _ _ (λ s. omega (arith, h.0)) ∙ found-above q es h.1

-- entries that are all below are passed over
pub found-below : (q : ℕ) (before es : List Entry) → AllBelow q before → found q (before ++ es) ≡ found q es
found-below q [] es h = refl
found-below q (e ∷ before) es h = at-other q e.at _ _ (λ s. omega (arith, h.0)) ∙ found-below q before es h.1

-- with an entry more, its location has its cell, and the others what they had
pub found-one_more : (q : ℕ) (before : List Entry) (e : Entry) (after : List Entry) → AllBelow e.at before
    → found q (before ++ e ∷ after) ≡ cond (eq_by_cmp nat_cmp q e.at) (Some e.cell) (found q (before ++ after))
found-one_more q [] e after h = refl
found-one_more q (b ∷ before) e after h = elim (cases_eq q b.at) [
  | inl same ↦ at-same q b.at _ _ same ∙ sym (at-same q b.at _ _ same)
      ∙ sym (at-other q e.at _ _ (λ s. omega (arith, h.0)))
  | inr other ↦ at-other q b.at _ _ other ∙ found-one_more q before e after h.1
      ∙ ap (cond (eq_by_cmp nat_cmp q e.at) (Some e.cell)) (sym (at-other q b.at _ _ other))
]

-- above an entry less, above a lower one
pub AllAbove-less : (at : ℕ) (before : List Entry) (e : Entry) (after : List Entry) → AllAbove at (before ++ e ∷ after)
    → AllAbove at (before ++ after) × (at < e.at)
AllAbove-less at [] e after h = (h.1, h.0)
AllAbove-less at (b ∷ before) e after h = let rest = AllAbove-less at before e after h.1 in ((h.0, rest.0), rest.1)

pub AllAbove-more : (at : ℕ) (before : List Entry) (e : Entry) (after : List Entry) → AllAbove at (before ++ after)
    → at < e.at → AllAbove at (before ++ e ∷ after)
AllAbove-more at [] e after h here = (here, h)
AllAbove-more at (b ∷ before) e after h here = (h.0, AllAbove-more at before e after h.1 here)

-- in order with an entry less, which is between those before it and those after it
pub Rises-less : (before : List Entry) (e : Entry) (after : List Entry) → Rises (before ++ e ∷ after)
    → Rises (before ++ after) × AllBelow e.at before × AllAbove e.at after
Rises-less [] e after h = (h.1, tt, h.0)
Rises-less (b ∷ before) e after h =
    let less = AllAbove-less b.at before e after h.0 in
    let rest = Rises-less before e after h.1 in
    ((less.0, rest.0), (less.1, rest.1), rest.2)

-- in order with an entry more
pub Rises-more : (before : List Entry) (e : Entry) (after : List Entry) → Rises (before ++ after)
    → AllBelow e.at before → AllAbove e.at after → Rises (before ++ e ∷ after)
Rises-more [] e after h below above = (above, h)
Rises-more (b ∷ before) e after h below above =
    (AllAbove-more b.at before e after h.0 below.0, Rises-more before e after h.1 below.1 above)

-- the map with an entry more
pub map-more : (before : List Entry) (e : Entry) (after : List Entry) → AllBelow e.at before
    → map_of (before ++ e ∷ after) ≡ insert (map_of (before ++ after)) e.at e.cell
map-more before e after below = same_cells _ _ (λ q.
    get-map_of (before ++ e ∷ after) q ∙ found-one_more q before e after below
    ∙ sym (get-insert nat_cmp_total (map_of (before ++ after)) e.at e.cell q
    ∙ ap (cond (eq_by_cmp nat_cmp q e.at) (Some e.cell)) (get-map_of (before ++ after) q)))

-- the map with an entry less
pub map-less : (before : List Entry) (e : Entry) (after : List Entry) → AllBelow e.at before → AllAbove e.at after
    → map_of (before ++ after) ≡ remove (map_of (before ++ e ∷ after)) e.at
map-less before e after below above = same_cells _ _ (λ q.
    get-map_of (before ++ after) q ∙ elim (cases_eq q e.at) [
      | inl same ↦ ap (λ k. found k (before ++ after)) same ∙ found-below e.at before after below
          ∙ found-above e.at after above
          ∙ sym (get-remove nat_cmp_total (map_of (before ++ e ∷ after)) e.at q ∙ at-same q e.at _ _ same)
      | inr other ↦ sym (get-remove nat_cmp_total (map_of (before ++ e ∷ after)) e.at q ∙ at-other q e.at _ _ other
          ∙ get-map_of (before ++ e ∷ after) q ∙ found-one_more q before e after below ∙ at-other q e.at _ _ other)
    ])

-- the map with another cell at one location
pub map-other : (before : List Entry) (e f : Entry) (after : List Entry) → AllBelow e.at before → f.at ≡ e.at
    → map_of (before ++ f ∷ after) ≡ insert (map_of (before ++ e ∷ after)) e.at f.cell
map-other before e f after below same = same_cells _ _ (λ q.
    get-map_of (before ++ f ∷ after) q
    ∙ found-one_more q before f after (subst (λ at. AllBelow at before) (sym same) below)
    ∙ ap (λ at. cond (eq_by_cmp nat_cmp q at) (Some f.cell) (found q (before ++ after))) same
    ∙ elim (cases_eq q e.at) [
      | inl here ↦ at-same q e.at _ _ here
          ∙ sym (get-insert nat_cmp_total (map_of (before ++ e ∷ after)) e.at f.cell q ∙ at-same q e.at _ _ here)
      | inr other ↦ at-other q e.at _ _ other
          ∙ sym (get-insert nat_cmp_total (map_of (before ++ e ∷ after)) e.at f.cell q ∙ at-other q e.at _ _ other
          ∙ get-map_of (before ++ e ∷ after) q ∙ found-one_more q before e after below ∙ at-other q e.at _ _ other)
    ])

-- the map has as many cells as there are entries
pub len-map_of : (es : List Entry) → Rises es → len (map_of es) ≡ length es
len-map_of [] h = len-empty nat_cmp FieldValues
len-map_of (e ∷ es) h =
    len-insert nat_cmp_total (map_of es) e.at e.cell
    ∙ ap (λ o. cond (is_some o) (len (map_of es)) (len (map_of es) + 1)) (get-map_of es e.at ∙ found-above e.at es h.0)
    ∙ ap (λ n. n + 1) (len-map_of es h.1) ∙ omega arith
