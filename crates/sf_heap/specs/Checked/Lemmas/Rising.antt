-- Locations that rise: the keys of a finite map do, and two rising lists of the same locations are one.
-- Ordinary: a set of numbers has one list in strictly increasing order.
-- Names: `rising-LAW`, `keys-at`.
use Rattle.std.proofs.Common.{◌≡◌, ◌↔◌, ◌<◌, ◌&&◌, ℕ, Bool, true, false, List, [], ◌∷◌, Contains, map, refl, sym, ap, ◌∙◌, arith, inl, inr}
use Rattle.std.specs.Prelude.{T, nat_eq}
use Rattle.std.specs.declared.cmp.Ordering.{Ordering}
use Rattle.std.specs.declared.cmp.Ordering.TheVariants.{Less, Equal, Greater}
use Rattle.std.specs.Bool.{Decides}
use Rattle.std.specs.Cmp.{unsigned_ties}
use Rattle.std.specs.FinMap.{FinMap, contains_key, contains_key-keys, entries, entries_sorted, keys}
use Rattle.std.specs.FinMap.Entries.{below_all, is_sorted}
use Rattle.std.specs.List.{AllByRecursion, AllPairs, list_any}
use Rattle.std.specs.List.Sorted.{IsStrictlyIncreasing, IsStrictlySortedBy}
use Rattle.std.specs.Ordering.{eq_by_cmp, is_lt, nat_cmp}
use Rattle.std.proofs.lemmas.Bool.Decides.{Decides-eqb}
use Rattle.std.proofs.lemmas.List.Elements.{All-contains}
use Rattle.std.proofs.lemmas.List.Kept.{AllPairs-from_increasing}
use Rattle.std.proofs.lemmas.Map.Keys.{IsStrictlyIncreasing-from_sorted}
use Rattle.sf_heap.specs.Cells.{AreAt, Cells}
use Rattle.sf_base.proofs.Elements.{contains-decides, contains-cons, contains-nil, contains-rest, pairs-head, pairs-tail}

both : (a b : Bool) → T (a && b) → T a × T b
both true b t = (tt, t)
both false b t = absurd t

is-less : (r : Ordering) → T (is_lt r) → r ≡ Less
is-less Less t = refl
is-less Equal t = absurd t
is-less Greater t = absurd t

below : {X : Type 0} (k : ℕ) (es : List (ℕ × X)) → T (below_all nat_cmp k es)
    → AllByRecursion (λ y. nat_cmp k y ≡ Less) (map (λ e. e.0) es)
below k [] t = tt
below k (e ∷ es) t = let parts = both (is_lt (nat_cmp k e.0)) (below_all nat_cmp k es) t in
    (is-less (nat_cmp k e.0) parts.0, below k es parts.1)

sorted : {X : Type 0} (es : List (ℕ × X)) → T (is_sorted nat_cmp es) → IsStrictlySortedBy nat_cmp (map (λ e. e.0) es)
unfolding IsStrictlySortedBy
sorted [] t = tt
sorted (e ∷ es) t = let parts = both (below_all nat_cmp e.0 es) (is_sorted nat_cmp es) t in
    (below e.0 es parts.0, sorted es parts.1)

-- the keys of a map do
pub rising-keys : {X : Type 0} (m : FinMap nat_cmp X) → IsStrictlyIncreasing (keys m)
rising-keys m = IsStrictlyIncreasing-from_sorted (keys m) (sorted (entries m) (entries_sorted m))

-- the first of two rising lists of the same numbers
first-same : (x y : ℕ) (xs ys : List ℕ) → AllPairs (λ a b. a < b) (x ∷ xs) → AllPairs (λ a b. a < b) (y ∷ ys)
    → Contains (y ∷ ys) x → Contains (x ∷ xs) y → x ≡ y
first-same x y xs ys r s i j = elim ((contains-cons y ys x).0 i) [
  | inl e ↦ sym e
  | inr h ↦ elim ((contains-cons x xs y).0 j) [
    | inl f ↦ f
    | inr k ↦
        let less : y < x = All-contains (λ b. y < b) ys x (pairs-head (λ a b. a < b) y ys s) h in
        let more : x < y = All-contains (λ b. x < b) xs y (pairs-head (λ a b. a < b) x xs r) k in
        absurd (omega (arith, less, more))
  ]
]

rest-same : (x y : ℕ) (xs ys : List ℕ) → AllPairs (λ a b. a < b) (x ∷ xs) → x ≡ y
    → ((l : ℕ) → Contains (x ∷ xs) l → Contains (y ∷ ys) l) → (l : ℕ) → Contains xs l → Contains ys l
rest-same x y xs ys r e to l c = elim ((contains-cons y ys l).0 (to l (contains-rest x xs l c))) [
  | inl f ↦
      let less : x < l = All-contains (λ b. x < b) xs l (pairs-head (λ a b. a < b) x xs r) c in
      absurd (omega (arith, less, e, f))
  | inr d ↦ d
]

pairs-same : (xs ys : List ℕ) → AllPairs (λ a b. a < b) xs → AllPairs (λ a b. a < b) ys
    → ((l : ℕ) → Contains xs l → Contains ys l) → ((l : ℕ) → Contains ys l → Contains xs l) → xs ≡ ys
pairs-same [] [] r s to from = refl
pairs-same [] (y ∷ ys) r s to from = absurd (contains-nil y (from y ((contains-cons y ys y).1 (inl refl))))
pairs-same (x ∷ xs) [] r s to from = absurd (contains-nil x (to x ((contains-cons x xs x).1 (inl refl))))
pairs-same (x ∷ xs) (y ∷ ys) r s to from =
    let e : x ≡ y = first-same x y xs ys r s (to x ((contains-cons x xs x).1 (inl refl)))
    (from y ((contains-cons y ys y).1 (inl refl))) in
    let more : xs ≡ ys = pairs-same xs ys (pairs-tail (λ a b. a < b) x xs r) (pairs-tail (λ a b. a < b) y ys s)
    (rest-same x y xs ys r e to) (rest-same y x ys xs s (sym e) from) in
    λ i. e i ∷ more i

-- rising lists of the same numbers are one
pub rising-same : (xs ys : List ℕ) → IsStrictlyIncreasing xs → IsStrictlyIncreasing ys
    → ((l : ℕ) → Contains xs l ↔ Contains ys l) → xs ≡ ys
rising-same xs ys r s same = pairs-same xs ys (AllPairs-from_increasing xs r) (AllPairs-from_increasing ys s)
    (λ l. (same l).0) (λ l. (same l).1)

-- the keys of cells are their locations
pub keys-at : (cells : Cells) → AreAt (keys cells) cells
keys-at cells l = (
  λ h. decides.0 (sym same ∙ h),
  λ c. same ∙ decides.1 c,
)
  where
    by_cmp : eq_by_cmp nat_cmp ≡ nat_eq
    by_cmp = λ i x y. sym (unsigned_ties x y) i

    same : contains_key cells l ≡ list_any (nat_eq l) (keys cells)
    same = contains_key-keys cells l ∙ ap (λ (e : ℕ → ℕ → Bool). list_any (e l) (keys cells)) by_cmp

    turned : (x y : ℕ) → Decides (nat_eq y x) (x ≡ y)
    turned x y = (λ e. sym ((Decides-eqb y x).0 e), λ e. (Decides-eqb y x).1 (sym e))

    decides : Decides (list_any (nat_eq l) (keys cells)) (Contains (keys cells) l)
    decides = contains-decides (λ x y. nat_eq y x) turned (keys cells) l
