-- The units of a task as ranges of the code, of which the last comes first.
-- Names: `ranges_LAW` of lists of ranges, `units_LAW` of the numbers of one range.
use Rattle.std.specs.Prelude.{◌≡◌, ℕ, zero, suc, ◌+◌, ◌-◌, ◌^◌, ◌<◌, ◌≤◌, List, [], ◌∷◌, ◌++◌, drop, length}
use Rattle.std.proofs.Common.{sym, ap, ◌∙◌, refl, subst, append_assoc, arith, length-append}
use Rattle.std.proofs.lemmas.List.Concat.{flat_map-cons}
use Rattle.std.proofs.lemmas.Grind.{flat_map-append}
use Rattle.std.proofs.lemmas.List.{append-nil}
use Rattle.sf_core.specs.Machine.Supplies.{units}
use Rattle.sf_core.specs.Machine.Whole.{Range, numbers}
use Rattle.sf_part.specs.declared.supply.Units.{Units}
use Rattle.sf_part.specs.Checked.Ranges.{AreFit, range_of, ranges_of}

-- so many numbers are in a range
pub units_length : (base count : ℕ) → length (units base count) ≡ count
units_length base zero = refl
units_length base (suc count) = ap suc (units_length (suc base) count)

-- the first of them, and the others
pub units_first : (base count : ℕ) → 0 < count
    → units base count ≡ base ∷ units (base + 1) (count - 1)
units_first base zero l = absurd (omega arith)
units_first base (suc count) l =
    let next : suc base ≡ base + 1 = omega arith in
    let less : count ≡ suc count - 1 = omega arith in
    (λ i. base ∷ units (next i) (less i))

-- what is pushed comes first
pub ranges_snoc : (us : List Units) (u : Units) → ranges_of (us ++ u ∷ []) ≡ range_of u
    ∷ ranges_of us
ranges_snoc [] u = refl
ranges_snoc (v ∷ us) u = ap (λ z. z ++ range_of v ∷ []) (ranges_snoc us u)

-- and so do its numbers
pub numbers_snoc : (us : List Units) (u : Units)
    → numbers (ranges_of (us ++ u ∷ [])) ≡ units u.first u.count ++ numbers (ranges_of us)
numbers_snoc us u = ap numbers (ranges_snoc us u)
    ∙ flat_map-cons (λ (r : Range). units r.first r.count) (range_of u) (ranges_of us)

-- the first number of what is pushed
pub numbers_first : (us : List Units) (u : Units) → 0 < u.count
    → numbers (ranges_of (us ++ u ∷ []))
    ≡ u.first ∷ (units (u.first + 1) (u.count - 1) ++ numbers (ranges_of us))
numbers_first us u l = numbers_snoc us u
    ∙ ap (λ z. z ++ numbers (ranges_of us)) (units_first u.first u.count l)

-- of two lists the one that comes last comes first
pub ranges_append : (us vs : List Units) → ranges_of (us ++ vs) ≡ ranges_of vs ++ ranges_of us
ranges_append [] vs = sym (append-nil (ranges_of vs))
ranges_append (u ∷ us) vs = ap (λ z. z ++ range_of u ∷ []) (ranges_append us vs)
    ∙ append_assoc (ranges_of vs) (ranges_of us) (range_of u ∷ [])

-- the numbers of two lists of ranges
pub numbers_append : (us vs : List Range) → numbers (us ++ vs) ≡ numbers us ++ numbers vs
numbers_append us vs = flat_map-append (λ (r : Range). units r.first r.count) us vs

-- how many those of two lists are
pub numbers_both : (us vs : List Units)
    → length (numbers (ranges_of (us ++ vs)))
    ≡ length (numbers (ranges_of vs)) + length (numbers (ranges_of us))
numbers_both us vs = ap (λ z. length (numbers z)) (ranges_append us vs)
    ∙ ap length (numbers_append (ranges_of vs) (ranges_of us))
    ∙ length-append (numbers (ranges_of vs)) (numbers (ranges_of us))

-- the one range of a supply
pub numbers_one : (first count : ℕ)
    → length (numbers (record { first = first; count = count } ∷ [])) ≡ count
numbers_one first count =
    ap length (flat_map-cons (λ (r : Range). units r.first r.count)
    (record { first = first; count = count }) [] ∙ append-nil (units first count))
    ∙ units_length first count

-- where one more number is in the range that comes first, those after it
pub numbers_less : (all us : List Units) (u : Units) → all ≡ us ++ u ∷ [] → 0 < u.count
    → units (u.first + 1) (u.count - 1) ++ numbers (ranges_of us) ≡ drop 1 (numbers (ranges_of all))
numbers_less all us u e l = sym (ap (λ z. drop 1 (numbers (ranges_of z))) e
    ∙ ap (λ z. drop 1 z) (numbers_first us u l))

-- where it was the last one of its range, those of the others
pub numbers_over : (all us : List Units) (u : Units) → all ≡ us ++ u ∷ [] → u.count ≡ 1
    → numbers (ranges_of us) ≡ drop 1 (numbers (ranges_of all))
numbers_over all us u e one =
    let none : u.count - 1 ≡ 0 = omega arith in
    sym (ap (λ z. units (u.first + 1) z ++ numbers (ranges_of us)) none)
    ∙ numbers_less all us u e (omega arith)

-- the next one is the first of the range that comes first
pub numbers_next : (all us : List Units) (u : Units) → all ≡ us ++ u ∷ [] → 0 < u.count
    → numbers (ranges_of all) ≡ u.first ∷ drop 1 (numbers (ranges_of all))
numbers_next all us u e l =
    ap (λ z. numbers (ranges_of z)) e ∙ numbers_first us u l
    ∙ ap (λ z. u.first ∷ z) (numbers_less all us u e l)

-- the range that comes last in the code's list isn't empty
pub fit_last : (all us : List Units) (u : Units) → all ≡ us ++ u ∷ [] → AreFit all
    → (0 < u.count) × (u.first + u.count ≤ 2 ^ 63)
fit_last all us u e h = go us (subst AreFit e h)
  where
    go : (vs : List Units) → AreFit (vs ++ u ∷ []) → (0 < u.count) × (u.first + u.count ≤ 2 ^ 63)
    go [] k = k.0
    go (v ∷ vs) k = go vs k.1
