-- Cells and slots of two others that are taken in beside what is there.
-- Names: `three-LAW` of a map that is the union of three, `back-LAW` of heaps.
use Rattle.std.proofs.Common.{◌≡◌, ℕ, List, [], ◌∷◌, Option, Some, None, is_some, true≢false, sym, ap, ◌∙◌, refl, subst}
use Rattle.std.specs.FinMap.{get, nat_cmp-IsAntisymmetric, same_map}
use Rattle.std.specs.List.{All, slice_index_or}
use Rattle.std.proofs.lemmas.Cmp.{nat_cmp_total}
use Rattle.std.proofs.lemmas.List.Elements.{All-contains_itself}
use Rattle.sf_base.proofs.MapSplits.{empty_map, empty-holds, splits-cancel_left, splits-comm, splits-empty_right, splits-has_left, splits-has_right, splits-of_empty_right, splits-same_whole, splits-swap}
use Rattle.sf_base.specs.HeapStore.{Apart, Map, Splits}
use Rattle.sf_core.specs.Machine.Whole.{IsUnion}
use Rattle.sf_heap.specs.Cells.{AreAt, AreDisjoint, Cells, FieldValues, HasCell, heap_of}
use Rattle.sf_part.specs.Checked.Joined.{TakesCells}
use Rattle.sf_part.proofs.Taking.{taking-cells, taking-width}
use Rattle.sf_part.proofs.Unions.{union-swap}

module _ {K X : Type 0} where
  -- the second and the third one together
  pub three-rest : (w s l r : Map K X) → IsUnion w (s ∷ l ∷ r ∷ [])
      → (m : Map K X) × Splits m l r
  three-rest w s l r (x, p, (y, q, (e, t, n))) =
      (x, subst (λ z. Splits x l z) (splits-of_empty_right n t) q)

  -- they are beside the first one
  pub three-both : (w s l r m : Map K X) → IsUnion w (s ∷ l ∷ r ∷ []) → Splits m l r → Splits w s m
  three-both w s l r m (x, p, (y, q, (e, t, n))) i =
      let j : Splits x l r = subst (λ z. Splits x l z) (splits-of_empty_right n t) q in
      subst (λ z. Splits w s z) (splits-same_whole j i) p

  -- so all three are the whole
  pub three-of : (w m s l r : Map K X) → Splits m l r → Splits w s m
      → IsUnion w (s ∷ l ∷ r ∷ [])
  three-of w m s l r i p = (m, p, (r, i, (empty_map, splits-empty_right empty-holds, empty-holds)))

  -- there is one such whole
  pub three-same : (w v s l r : Map K X) → IsUnion w (s ∷ l ∷ r ∷ [])
      → IsUnion v (s ∷ l ∷ r ∷ []) → w ≡ v
  three-same w v s l r t u =
      let (m, i) = three-rest w s l r t in
      splits-same_whole (three-both w s l r m t i) (three-both v s l r m u i)

  -- the second and the third one may be exchanged
  pub three-swap : (w s l r : Map K X) → IsUnion w (s ∷ l ∷ r ∷ []) → IsUnion w (s ∷ r ∷ l ∷ [])
  three-swap w s l r (x, p, u) = (x, p, union-swap x l r [] u)

  -- what the second one has, the whole has
  pub three-has : (w s l r : Map K X) (key : K) (entry : X) → IsUnion w (s ∷ l ∷ r ∷ [])
      → l key ≡ Some entry → w key ≡ Some entry
  three-has w s l r key entry (x, p, (y, q, u)) e =
      splits-has_right key entry p (splits-has_left key entry q e)

  -- once the second one is out, the others are left
  pub three-without : (w s l r x : Map K X) → IsUnion w (s ∷ l ∷ r ∷ []) → Splits w l x
      → Splits x s r
  three-without w s l r x u i =
      let (m, j) = three-rest w s l r u in
      let n = splits-swap j (three-both w s l r m u j) in
      subst (λ z. Splits z s r) (splits-cancel_left n.1 i) n.0

  -- and once the third one is out too, the first one
  pub three-first : (w s l r x y : Map K X) → IsUnion w (s ∷ l ∷ r ∷ []) → Splits w l x
      → Splits x r y → y ≡ s
  three-first w s l r x y u i j =
      splits-cancel_left j (splits-comm (three-without w s l r x u i))

-- heaps that are apart by the definitions' cells are apart by the code's
pub back-apart : (one other : Cells)
    → ((location : ℕ) → Apart (heap_of one location) (heap_of other location))
    → AreDisjoint one other
back-apart one other h location = taking-cells (get one location) (get other location) (h location)

-- two heaps that were joined, and the one with them
pub back-takes : (before small large both after : Cells) → Splits (get both) (get large) (get small)
    → Splits (heap_of both) (heap_of large) (heap_of small)
    → Splits (get after) (get before) (get both)
    → Splits (heap_of after) (heap_of before) (heap_of both) → TakesCells before small large after
back-takes before small large both after i j p q = record {
  union = three-of (heap_of after) (heap_of both) (heap_of before) (heap_of small) (heap_of large)
      (splits-comm j) q;
  width = λ count b s l. taking-width count after before both p b
      (taking-width count both large small i l s);
}

-- the two may be exchanged
pub back-swap : (before one other after : Cells) → TakesCells before one other after
    → TakesCells before other one after
back-swap before one other after t = record {
  union = three-swap (heap_of after) (heap_of before) (heap_of one) (heap_of other) t.union;
  width = λ count b o s. t.width count b s o;
}

-- a location that one of the two has
pub back-has : (both large small : Cells) (locations : List ℕ)
    → Splits (get both) (get large) (get small) → AreAt locations small
    → All (HasCell both) locations
back-has both large small locations s at k d l =
    let here : ℕ = slice_index_or locations k d in
    go here (get small here) refl ((at here).1 (All-contains_itself locations k d l))
  where
    go : (here : ℕ) (o : Option FieldValues) → get small here ≡ o → HasCell small here
        → HasCell both here
    go here None e h = absurd (true≢false (sym h ∙ ap is_some e))
    go here (Some v) e h = ap is_some (splits-has_right here v s e)

-- what is parted off again at the locations of one of the two is that one, and the other is left
pub back-parted : (both large small other rest : Cells) (locations : List ℕ)
    → Splits (get both) (get large) (get small) → Splits (get both) (get other) (get rest)
    → AreAt locations small → AreAt locations other → (other ≡ small) × (rest ≡ large)
back-parted both large small other rest locations s t a b = (
  same_map nat_cmp_total nat_cmp-IsAntisymmetric other small same,
  same_map nat_cmp_total nat_cmp-IsAntisymmetric rest large
      (λ q. ap (λ (f : Map ℕ FieldValues). f q) left_over),
)
  where
    at : (q : ℕ) (x y : Option FieldValues) → get other q ≡ x → get small q ≡ y
        → get other q ≡ get small q
    at q None None e f = e ∙ sym f
    at q (Some v) (Some w) e f =
        let g = splits-has_left q v t e in
        let h = splits-has_right q w s f in
        cc
    at q (Some v) None e f =
        absurd (true≢false (sym ((a q).1 ((b q).0 (ap is_some e))) ∙ ap is_some f))
    at q None (Some w) e f =
        absurd (true≢false (sym ((b q).1 ((a q).0 (ap is_some f))) ∙ ap is_some e))

    same : (q : ℕ) → get other q ≡ get small q
    same q = at q (get other q) (get small q) refl refl

    left_over : get rest ≡ get large
    left_over =
        let maps : get other ≡ get small = λ i. λ q. same q i in
        splits-cancel_left (subst (λ z. Splits (get both) z (get rest)) maps t) (splits-comm s)
