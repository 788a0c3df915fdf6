-- Ranks while they rise, and what holds of ranks that rise along each pair.
-- Names: `rise-LAW` while they rise, `ranking-LAW` of a ranking.
use Rattle.std.specs.Prelude.{◌≡◌, ◌≢◌, ◌⊎◌, ℕ, zero, suc, ◌+◌, ◌-◌, ◌<◌, ◌≤◌, List, [], All, Contains, get_or, length, replicate, set}
use Rattle.std.specs.List.{sum_by}
use Rattle.std.proofs.Common.{sym, ap, ◌∙◌, refl, subst, inl, inr, arith}
use Rattle.std.proofs.lemmas.Bool.Decides.{leb_tells}
use Rattle.std.proofs.lemmas.Grind.{get_or_default_zero}
use Rattle.std.proofs.lemmas.List.{ext_get_or, length-replicate}
use Rattle.std.proofs.lemmas.List.Elements.{All-contains, All-contains_itself}
use Rattle.std.proofs.lemmas.Option.{get_or_from_slice_get, slice_get_within}
use Rattle.sf_base.specs.declared.ids.ResId.{ResId}
use Rattle.sf_calls.specs.Checked.Lemmas.Decided.{resource}
use Rattle.sf_order.specs.Answers.{AreBelow}
use Rattle.sf_order.specs.Cycles.{IsCycle}
use Rattle.sf_order.specs.Nests.{IsPair}
use Rattle.sf_order.specs.Rank.{IsFirstLevel, IsLowest, IsOneMore, IsRanking, Rises, rank_in}
use Rattle.sf_order.specs.Checked.Ways.{Way}
use Rattle.sf_order.proofs.Places.{all-are, put-here, put-length, put-other, put-sum, same-or_not}
use Rattle.sf_order.proofs.Distances.{pairs-within}
use Rattle.sf_order.proofs.Walks.{cycle-none}
use Rattle.sf_order.proofs.Ways.{way-cycle, way-more}

-- the first pair of which it isn't so is one of them
pub level-pair : (ranks : List ℕ) (pairs : List (ResId × ResId)) (e : ResId × ResId) → IsFirstLevel ranks pairs e
    → Contains pairs e
level-pair ranks pairs e f =
    (f.place, slice_get_within pairs f.place e f.there, get_or_from_slice_get pairs f.place e e f.there)

-- what ranks keep while they rise: each is the length of a way to its resource, and none is too high
pub record IsRise (R : ResId → ResId → Type 0) (n : ℕ) (ranks : List ℕ) : Type 0 where
  pub each : length ranks ≡ n
  pub few : (s : ResId) → s.0 < n → rank_in ranks s < n
  pub way : (s : ResId) → s.0 < n
      → (x : ResId) × (ys : List ResId) × (x.0 < n) × (length ys ≡ rank_in ranks s) × Way R x ys s
  pub supported : (s : ResId) → s.0 < n
      → (rank_in ranks s ≡ 0) ⊎ ((r : ResId) × R r s × (rank_in ranks s ≤ suc (rank_in ranks r)))

-- all of them are below n
pub rise-low : (R : ResId → ResId → Type 0) (n : ℕ) (ranks : List ℕ) → IsRise R n ranks
    → All (λ rank. rank < n) ranks
rise-low R n ranks k = λ i d l.
    let few : rank_in ranks (resource i) < n = k.few (resource i) (omega (arith, l, k.each)) in
    subst (λ (m : ℕ). m < n) (sym (get_or_default_zero ranks i d l)) few

pub rise-starts : (R : ResId → ResId → Type 0) (n : ℕ) → IsRise R n (replicate n 0)
rise-starts R n = record {
  each = length-replicate n 0;
  few = λ s l. let none : rank_in (replicate n 0) s ≡ 0 = all-are n 0 s l in omega (arith, l);
  way = λ s l. (s, [], l, sym (all-are n 0 s l), refl);
  supported = λ s l. inl (all-are n 0 s l);
}

module _ (n : ℕ) (pairs : List (ResId × ResId)) (b : AreBelow n pairs) (ranks : List ℕ)
    (k : IsRise (IsPair pairs) n ranks) where
  -- the first pair that isn't right
  module _ (r s : ResId) (f : IsFirstLevel ranks pairs (r, s)) where
    abbrev pair : IsPair pairs r s
    pair = level-pair ranks pairs (r, s) f

    pub rise-first : r.0 < n
    rise-first = (pairs-within n pairs b r s pair).0

    pub rise-second : s.0 < n
    rise-second = (pairs-within n pairs b r s pair).1

    not_above : rank_in ranks s ≤ rank_in ranks r
    not_above = elim (leb_tells (rank_in ranks s) (rank_in ranks r)) [
      | inl l ↦ l.1
      | inr l ↦ absurd (f.level l.1)
    ]

    -- one more step
    pub rise-high : rank_in ranks r + 1 ≡ n → (xs : List ResId) × IsCycle (IsPair pairs) xs
    rise-high high =
        let w = k.way r rise-first in
        let m = way-more (IsPair pairs) w.0 w.1 r s w.4 pair in
        let size : length w.1 ≡ rank_in ranks r = w.3 in
        let more : length m.0 ≡ suc (length w.1) = m.1 in
        way-cycle (IsPair pairs) n (pairs-within n pairs b) w.0 m.0 s m.2 w.2 (omega arith)

    abbrev pub raised : List ℕ
    raised = set ranks s.0 (rank_in ranks r + 1)

    in_ranks : s.0 < length ranks
    in_ranks = let l : s.0 < n = rise-second in omega (arith, l, k.each)

    here : rank_in raised s ≡ rank_in ranks r + 1
    here = put-here ranks s (rank_in ranks r + 1) in_ranks

    other : (q : ResId) → q.0 ≢ s.0 → rank_in raised q ≡ rank_in ranks q
    other q m = put-other ranks s q (rank_in ranks r + 1) m

    grows : (q : ResId) → rank_in ranks q ≤ rank_in raised q
    grows q = elim (same-or_not q s) [
      | inl e ↦
          let is : rank_in raised q ≡ rank_in ranks r + 1 = ap (rank_in raised) e ∙ here in
          let old : rank_in ranks q ≡ rank_in ranks s = ap (rank_in ranks) e in
          let low : rank_in ranks s ≤ rank_in ranks r = not_above in
          omega arith
      | inr m ↦ let is : rank_in raised q ≡ rank_in ranks q = other q m in omega arith
    ]

    pub rise-goes_on : (rank_in ranks r + 1 ≢ n) → IsRise (IsPair pairs) n raised
    rise-goes_on low = record {
      each = put-length ranks s.0 (rank_in ranks r + 1) ∙ k.each;
      few = λ q l. elim (same-or_not q s) [
        | inl e ↦
            let is : rank_in raised q ≡ rank_in ranks r + 1 = ap (rank_in raised) e ∙ here in
            let top : rank_in ranks r < n = k.few r rise-first in
            omega arith
        | inr m ↦ let is : rank_in raised q ≡ rank_in ranks q = other q m in
            let top : rank_in ranks q < n = k.few q l in
            omega arith
      ];
      way = λ q l. elim (same-or_not q s) [
        | inl e ↦
            let w = k.way r rise-first in
            let m = way-more (IsPair pairs) w.0 w.1 r s w.4 pair in
            let size : length w.1 ≡ rank_in ranks r = w.3 in
            let more : length m.0 ≡ suc (length w.1) = m.1 in
            let is : rank_in raised q ≡ rank_in ranks r + 1 = ap (rank_in raised) e ∙ here in
            (w.0, m.0, w.2, omega arith, subst (λ (t : ResId). Way (IsPair pairs) w.0 m.0 t) (sym e) m.2)
        | inr m ↦
            let w = k.way q l in
            (w.0, w.1, w.2, w.3 ∙ sym (other q m), w.4)
      ];
      supported = λ q l. elim (same-or_not q s) [
        | inl e ↦
            let is : rank_in raised q ≡ rank_in ranks r + 1 = ap (rank_in raised) e ∙ here in
            let low : rank_in ranks r ≤ rank_in raised r = grows r in
            inr (r, subst (IsPair pairs r) (sym e) pair, omega arith)
        | inr m ↦ elim (k.supported q l) [
          | inl none ↦ inl (other q m ∙ none)
          | inr h ↦
              let is : rank_in raised q ≡ rank_in ranks q = other q m in
              let low : rank_in ranks h.0 ≤ rank_in raised h.0 = grows h.0 in
              let top : rank_in ranks q ≤ suc (rank_in ranks h.0) = h.2 in
              inr (h.0, h.1, omega arith)
        ]
      ];
    }

    -- what is left below n gets less
    pub rise-smaller : (rank_in ranks r + 1 ≢ n) → sum_by (λ i. n - i) raised < sum_by (λ i. n - i) ranks
    rise-smaller low =
        put-sum (λ i. n - i) ranks s (rank_in ranks r + 1) in_ranks
        (let top : rank_in ranks r < n = k.few r rise-first in
        let old : rank_in ranks s ≤ rank_in ranks r = not_above in omega (arith, low))

  -- where they rise along each pair they are the ranks
  pub rise-ends : All (Rises ranks) pairs → IsRanking (IsPair pairs) n ranks
  rise-ends all = record { each = k.each; is = is }
    where
      rises : (r s : ResId) → IsPair pairs r s → rank_in ranks r < rank_in ranks s
      rises r s c = All-contains (Rises ranks) pairs (r, s) all c

      is : (s : ResId) → s.0 < n → IsLowest (IsPair pairs) (rank_in ranks) s ⊎ IsOneMore (IsPair pairs) (rank_in ranks) s
      is s l = elim (k.supported s l) [
        | inl none ↦ inl (none, λ r c. let up : rank_in ranks r < rank_in ranks s = rises r s c in absurd (omega arith))
        | inr h ↦
            let up : rank_in ranks h.0 < rank_in ranks s = rises h.0 s h.1 in
            let top : rank_in ranks s ≤ suc (rank_in ranks h.0) = h.2 in
            inr (record {
              below = h.0;
              related = h.1;
              is = omega arith;
              greatest = λ r c. let other : rank_in ranks r < rank_in ranks s = rises r s c in omega arith;
            })
      ]

module _ (pairs : List (ResId × ResId)) (n : ℕ) (ranks : List ℕ) (b : AreBelow n pairs)
    (k : IsRanking (IsPair pairs) n ranks) where
  -- a ranking rises along each pair
  ranking-up : (r s : ResId) → IsPair pairs r s → rank_in ranks r < rank_in ranks s
  ranking-up r s c = elim (k.is s (pairs-within n pairs b r s c).1) [
    | inl low ↦ absurd (low.1 r c)
    | inr more ↦
        let is : rank_in ranks s ≡ suc (rank_in ranks more.below) = more.is in
        let top : rank_in ranks r ≤ rank_in ranks more.below = more.greatest r c in
        omega arith
  ]

  pub ranking-rises : All (Rises ranks) pairs
  ranking-rises = λ i d l.
      ranking-up (get_or pairs i d).0 (get_or pairs i d).1 (All-contains_itself pairs i d l)

  -- so no cycle is there
  pub ranking-no_cycle : (xs : List ResId) → IsCycle (IsPair pairs) xs → ⊥
  ranking-no_cycle xs h = cycle-none (IsPair pairs) (rank_in ranks) ranking-up xs h

-- pairs have one ranking at most: by what is above the ranks below
module _ (pairs : List (ResId × ResId)) (n : ℕ) (b : AreBelow n pairs) where
  ranking-no_more : (ranks others : List ℕ) → IsRanking (IsPair pairs) n ranks → IsRanking (IsPair pairs) n others
      → (m : ℕ) (s : ResId) → s.0 < n → rank_in ranks s ≤ m → rank_in ranks s ≤ rank_in others s
  ranking-no_more ranks others k h zero s l top = omega (arith, top)
  ranking-no_more ranks others k h (suc m) s l top = elim (k.is s l) [
    | inl low ↦ let none : rank_in ranks s ≡ 0 = low.0 in omega arith
    | inr more ↦
        let is : rank_in ranks s ≡ suc (rank_in ranks more.below) = more.is in
        let up : rank_in others more.below < rank_in others s =
        ranking-up pairs n others b h more.below s more.related in
        let rest : rank_in ranks more.below ≤ rank_in others more.below =
        ranking-no_more ranks others k h m more.below (pairs-within n pairs b more.below s more.related).0
        (omega (arith, top)) in
        omega arith
  ]

  pub ranking-unique : (ranks others : List ℕ) → IsRanking (IsPair pairs) n ranks
      → IsRanking (IsPair pairs) n others → ranks ≡ others
  ranking-unique ranks others k h =
      ext_get_or 0 ranks others (k.each ∙ sym h.each) same
    where
      same : (i : ℕ) → i < length ranks → get_or ranks i 0 ≡ get_or others i 0
      same i l =
          let inside : i < n = omega (arith, l, k.each) in
          let one : get_or ranks i 0 ≤ get_or others i 0 =
          ranking-no_more ranks others k h (get_or ranks i 0) (resource i) inside (omega arith) in
          let two : get_or others i 0 ≤ get_or ranks i 0 =
          ranking-no_more others ranks h k (get_or others i 0) (resource i) inside (omega arith) in
          omega arith
