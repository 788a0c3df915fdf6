-- Units that move from the beginning of a supply behind others.
-- Names: `halves-LAW`.
use Rattle.std.specs.Prelude.{◌≡◌, ℕ, zero, suc, ◌+◌, ◌-◌, ◌^◌, ◌<◌, ◌≤◌, List, [], ◌∷◌, ◌++◌, drop, length, reverse, take}
use Rattle.std.proofs.Common.{sym, ap, ◌∙◌, refl, subst, arith, append_assoc, length-append}
use Rattle.std.proofs.lemmas.Grind.{flat_map-append}
use Rattle.std.proofs.lemmas.List.{append-nil, map-append, reverse-append}
use Rattle.std.proofs.lemmas.List.Concat.{flat_map-cons}
use Rattle.std.proofs.Math.Seq.{drop-append_seam, take-append_seam}
use Rattle.sf_base.proofs.Elements.{all_by-append}
use Rattle.sf_core.specs.Machine.Supplies.{units}
use Rattle.sf_core.specs.Machine.Whole.{Range, numbers}
use Rattle.sf_part.specs.declared.supply.Units.{Units}
use Rattle.sf_part.specs.Checked.Halving.{in_list}
use Rattle.sf_part.specs.Checked.Ranges.{AreFit, range_of, ranges_of}
use Rattle.sf_part.proofs.Ranges.{ranges_snoc, units_length}

-- the numbers of two ranges that follow each other
units-split : (base m n : ℕ) → units base (m + n) ≡ units base m ++ units (base + m) n
units-split base zero n =
    let e : zero + n ≡ n = omega arith in
    let f : base ≡ base + zero = omega arith in
    ap (units base) e ∙ ap (λ z. units z n) f
units-split base (suc m) n =
    let e : suc m + n ≡ suc (m + n) = omega arith in
    let f : suc base + m ≡ base + suc m = omega arith in
    ap (units base) e
    ∙ ap (λ z. base ∷ z) (units-split (suc base) m n ∙ ap (λ z. units (suc base) m ++ units z n) f)

pub halves-units : (first count part : ℕ) → part ≤ count
    → units first count ≡ units first part ++ units (first + part) (count - part)
halves-units first count part l =
    let e : count ≡ part + (count - part) = omega arith in
    ap (units first) e ∙ units-split first part (count - part)

-- the numbers of ranges with one more behind them
halves-snoc : (us : List Units) (u : Units)
    → numbers (in_list (us ++ u ∷ [])) ≡ numbers (in_list us) ++ units u.first u.count
halves-snoc us u =
    let value = λ (r : Range). units r.first r.count in
    ap numbers (map-append range_of us (u ∷ []))
    ∙ flat_map-append value (in_list us) (range_of u ∷ [])
    ∙ ap (λ z. numbers (in_list us) ++ z)
    (flat_map-cons value (range_of u) [] ∙ append-nil (units u.first u.count))

-- numbers that come first go behind others, and no number is lost
pub halves-moved : (us before after : List Units) (u : Units)
    → numbers (ranges_of before) ≡ units u.first u.count ++ numbers (ranges_of after)
    → numbers (in_list (us ++ u ∷ [])) ++ numbers (ranges_of after)
    ≡ numbers (in_list us) ++ numbers (ranges_of before)
halves-moved us before after u e =
    ap (λ z. z ++ numbers (ranges_of after)) (halves-snoc us u)
    ∙ append_assoc (numbers (in_list us)) (units u.first u.count) (numbers (ranges_of after))
    ∙ ap (λ z. numbers (in_list us) ++ z) (sym e)

pub halves-many : (us : List Units) (u : Units)
    → length (numbers (in_list (us ++ u ∷ []))) ≡ length (numbers (in_list us)) + u.count
halves-many us u = ap length (halves-snoc us u)
    ∙ length-append (numbers (in_list us)) (units u.first u.count)
    ∙ ap (λ n. length (numbers (in_list us)) + n) (units_length u.first u.count)

-- what a range at the end of the code's list leaves
pub halves-front : (all us : List Units) (u : Units) → all ≡ us ++ u ∷ [] → AreFit all → AreFit us
halves-front all us u e h = go us (subst AreFit e h)
  where
    go : (vs : List Units) → AreFit (vs ++ u ∷ []) → AreFit vs
    go [] k = tt
    go (v ∷ vs) k = (k.0, go vs k.1)

pub halves-fit : (us : List Units) (u : Units) → AreFit us → 0 < u.count
    → u.first + u.count ≤ 2 ^ 63 → AreFit (us ++ u ∷ [])
halves-fit us u h some most =
    all_by-append (λ (v : Units). (0 < v.count) × (v.first + v.count ≤ 2 ^ 63)) us (u ∷ []) h
    ((some, most), tt)

-- turned round, the ranges come in the order in which they were listed
pub halves-turned : (us : List Units) → ranges_of (reverse us) ≡ in_list us
halves-turned [] = refl
halves-turned (u ∷ us) = ap ranges_of (reverse-append (u ∷ []) us)
    ∙ ranges_snoc (reverse us) u ∙ ap (λ z. range_of u ∷ z) (halves-turned us)

pub halves-turned_fit : (us : List Units) → AreFit us → AreFit (reverse us)
halves-turned_fit [] h = tt
halves-turned_fit (u ∷ us) h = subst AreFit (sym (reverse-append (u ∷ []) us))
    (halves-fit (reverse us) u (halves-turned_fit us h.1) h.0.0 h.0.1)

-- what was moved is so many of the first numbers, and the others are left
pub halves-take : (one two all : List ℕ) (n : ℕ) → one ++ two ≡ all → length one ≡ n
    → one ≡ take n all
halves-take one two all n e l =
    sym (take-append_seam one two) ∙ ap (λ z. take z (one ++ two)) l ∙ ap (take n) e

pub halves-drop : (one two all : List ℕ) (n : ℕ) → one ++ two ≡ all → length one ≡ n
    → two ≡ drop n all
halves-drop one two all n e l =
    sym (drop-append_seam one two) ∙ ap (λ z. drop z (one ++ two)) l ∙ ap (drop n) e
