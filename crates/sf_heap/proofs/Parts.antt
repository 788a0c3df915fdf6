-- What moves between trees say of their maps.
use Rattle.std.proofs.Common.{◌≡◌, ◌∙◌, ℕ, List, get_or, All, Contains, IsTrue, is_some, sym, ap, subst}
use Rattle.std.specs.FinMap.{get}
use Rattle.std.specs.Option.{option_or}
use Rattle.sf_base.specs.HeapStore.{Apart, Splits}
use Rattle.sf_heap.specs.Cells.{AreAt, Cells, HasCell}
use Rattle.sf_heap.specs.declared.tree.Entry.{Entry}
use Rattle.sf_heap.specs.Checked.Entries.{found, map_of}
use Rattle.sf_heap.specs.Checked.Moves.{IsParting}
use Rattle.sf_heap.proofs.Entries.{get-map_of}
use Rattle.sf_heap.proofs.Merges.{found-places, places-found}

-- where the map has a cell, one is found
pub there-from_map : (es : List Entry) (m : Cells) (at wanted : List ℕ) → map_of es ≡ m → wanted ≡ at → All (HasCell m) at
    → All (λ l. IsTrue (is_some (found l es))) wanted
there-from_map es m at wanted e same there k d within =
    let q = get_or wanted k d in
    let has = subst (All (HasCell m)) (sym same) there k d within in
    ap is_some (sym (get-map_of es q) ∙ ap (λ l. get l q) e) ∙ has

-- the map is the union of those of the two parts
pub Splits-parting : (whole : List Entry) (at : List ℕ) (part rest : List Entry) (m : Cells) → map_of whole ≡ m
    → IsParting whole at part rest → Splits (get m) (get (map_of part)) (get (map_of rest))
Splits-parting whole at part rest m e p = record {
  apart = λ q. subst (λ o. Apart o (get (map_of rest) q)) (sym (get-map_of part q))
      (subst (Apart (found q part)) (sym (get-map_of rest q)) (p.splits.apart q));
  is = λ q. ap (λ l. get l q) (sym e) ∙ get-map_of whole q ∙ p.splits.is q
      ∙ ap (λ o. option_or o (found q rest)) (sym (get-map_of part q))
      ∙ ap (option_or (get (map_of part) q)) (sym (get-map_of rest q));
}

-- the part is at the given locations
pub AreAt-parting : (whole : List Entry) (at wanted : List ℕ) (part rest : List Entry) → IsParting whole wanted part rest
    → wanted ≡ at → AreAt at (map_of part)
AreAt-parting whole at wanted part rest p same = λ q. (
  (λ has. subst (λ l. Contains l q) (sym p.at_is ∙ same) (found-places q part (ap is_some (sym (get-map_of part q)) ∙ has))),
  (λ c. ap is_some (get-map_of part q) ∙ places-found q part (subst (λ l. Contains l q) (sym same ∙ p.at_is) c)),
)
