-- Atoms whose numbers rise: what a binary search tells of the index of one, and lists of which some in front are left out.
-- Names: `rising-LAW` speaks of numbers that rise, `index-LAW` of the index by a number, `drop-LAW` of what is left.
use Rattle.std.proofs.Common.{◌≡◌, ◌≢◌, ℕ, zero, suc, ◌+◌, ◌<◌, ◌==◌, Bool, true, false, nat_lt, Some, None, List, [], ◌∷◌, length, get_or, drop, refl, sym, ap, ◌∙◌, arith}
use Rattle.std.specs.List.{AllByRecursion, remove}
use Rattle.std.specs.List.Sorted.{IsNonDecreasingBy, IsPartitionPoint}
use Rattle.std.proofs.lemmas.List.{get_or_default}
use Rattle.std.proofs.lemmas.Bool.Decides.{Decides-eqb, Decides-ltb, nat_tests}
use Rattle.sf_base.proofs.Numbers.{eqb-greater, eqb-less}
use Rattle.sf_sym.specs.declared.atom.Numbered.{Numbered}
use Rattle.sf_sym.specs.Checked.Indices.{index_from}
use Rattle.sf_sym.specs.Numbers.{AreRising, numbers}

-- a number is below all of a list, so below that of each atom
below-at : (n : ℕ) (xs : List Numbered) (j : ℕ) (d : Numbered) → AllByRecursion (λ m. n < m) (numbers xs)
    → j < length xs → n < (get_or xs j d).number
below-at n [] j d all lt = absurd (omega (arith, lt))
below-at n (x ∷ xs) zero d all lt = all.0
below-at n (x ∷ xs) (suc j) d all lt = below-at n xs j d all.1 (omega (arith, lt))

-- numbers that rise don't fall
pub rising-ordered : (xs : List Numbered) → AreRising (numbers xs) → IsNonDecreasingBy (λ (x : Numbered). x.number) xs
rising-ordered [] r i j d le lt = absurd (omega (arith, lt))
rising-ordered (x ∷ xs) r zero zero d le lt = omega arith
rising-ordered (x ∷ xs) r zero (suc j) d le lt =
    let more : x.number < (get_or xs j d).number = below-at x.number xs j d r.0 (omega (arith, lt)) in
    omega (arith, more)
rising-ordered (x ∷ xs) r (suc i) zero d le lt = absurd (omega (arith, le))
rising-ordered (x ∷ xs) r (suc i) (suc j) d le lt = rising-ordered xs r.1 i j d (omega (arith, le)) (omega (arith, lt))

module _ (a : ℕ) where
  -- the atom is behind those with lower numbers
  index-here : (from i : ℕ) (xs : List Numbered) (e : Numbered) → i < length xs
      → ((k : ℕ) (d : Numbered) → k < i → (get_or xs k d).number < a) → (get_or xs i e).number ≡ a
      → index_from from xs a ≡ Some (from + i)
  index-here from i [] e lt lower is = absurd (omega (arith, lt))
  index-here from zero (x ∷ xs) e lt lower is =
      let here : x.number == a ≡ true = (Decides-eqb x.number a).1 is in
      let same : from ≡ from + 0 = omega arith in
      rw here (ap Some same)
  index-here from (suc i) (x ∷ xs) e lt lower is =
      let other : x.number == a ≡ false = eqb-less x.number a (lower zero e (omega arith)) in
      let same : suc from + i ≡ from + suc i = omega arith in
      rw other
      (index-here (suc from) i xs e (omega (arith, lt)) (λ k d less. lower (suc k) d (omega (arith, less))) is
      ∙ ap Some same)

  -- no atom is between those with lower numbers and those with higher ones
  index-nowhere : (from i : ℕ) (xs : List Numbered) → AreRising (numbers xs)
      → ((k : ℕ) (d : Numbered) → k < i → k < length xs → (get_or xs k d).number < a)
      → ((d : Numbered) → i < length xs → a < (get_or xs i d).number) → index_from from xs a ≡ None
  index-nowhere from i [] r lower higher = refl
  index-nowhere from zero (x ∷ xs) r lower higher =
      let more : a < x.number = higher x (omega arith) in
      let other : x.number == a ≡ false = eqb-greater a x.number more in
      rw other
      (index-nowhere (suc from) zero xs r.1 (λ k d none lt. absurd (omega (arith, none)))
      (λ d lt. let next = below-at x.number xs zero d r.0 lt in omega (arith, more, next)))
  index-nowhere from (suc i) (x ∷ xs) r lower higher =
      let other : x.number == a ≡ false = eqb-less x.number a (lower zero x (omega arith) (omega arith)) in
      rw other
      (index-nowhere (suc from) i xs r.1
      (λ k d less lt. lower (suc k) d (omega (arith, less)) (omega (arith, lt)))
      (λ d lt. higher d (omega (arith, lt))))

  module _ (xs : List Numbered) (i : ℕ)
      (point : IsPartitionPoint (λ y. nat_lt y.number a ≡ true) (λ y. nat_lt y.number a ≡ false) xs i) where
    lower : (k : ℕ) (d : Numbered) → k < i → (get_or xs k d).number < a
    lower k d lt = (Decides-ltb (get_or xs k d).number a).0 (point.0 k d (omega arith) lt)

    -- a binary search for the first number that isn't lower finds the atom
    pub index-found : (x : Numbered) → i < length xs → x ≡ get_or xs i x → x.number ≡ a
        → Some i ≡ index_from 0 xs a
    index-found x lt is number =
        sym (index-here 0 i xs x lt lower (ap (λ (y : Numbered). y.number) (sym is) ∙ number) ∙ ap Some (omega arith))

    -- and finds none where its number is another one
    pub index-none : AreRising (numbers xs) → ((x : Numbered) → i < length xs → x ≡ get_or xs i x → x.number ≢ a)
        → None ≡ index_from 0 xs a
    index-none r other =
        sym (index-nowhere 0 i xs r (λ k d less lt. lower k d less) (λ d lt. higher d lt))
      where
        higher : (d : Numbered) → i < length xs → a < (get_or xs i d).number
        higher d lt = pick (nat_lt a (get_or xs i d).number) refl
          where
            pick : (b : Bool) → nat_lt a (get_or xs i d).number ≡ b → a < (get_or xs i d).number
            pick true more = (Decides-ltb a (get_or xs i d).number).0 more
            pick false most =
                let least : nat_lt (get_or xs i d).number a ≡ false = point.1 i d (omega arith) lt in
                let same : (get_or xs i d).number ≡ a = grind (arith, nat_tests) in
                absurd (other (get_or xs i d) lt (get_or_default xs i d (get_or xs i d) lt) same)

-- an element goes from behind some that are left out
pub drop-remove : {X : Type 0} (n i : ℕ) (xs : List X) → n + i < length xs
    → drop n (remove xs (n + i)) ≡ remove (drop n xs) i
drop-remove zero i xs lt = ap (remove xs) (omega arith)
drop-remove (suc n) i [] lt = absurd (omega (arith, lt))
drop-remove (suc n) i (x ∷ xs) lt =
    let at : suc n + i ≡ suc (n + i) = omega arith in
    ap (λ k. drop (suc n) (remove (x ∷ xs) k)) at ∙ drop-remove n i xs (omega (arith, lt))
