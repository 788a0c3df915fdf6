-- How many steps along pairs resources are from one of them, while they are found and once they are.
-- Names: `search-LAW` while they are found, `steps-LAW` once they are, `fewest-LAW` of the fewest.
use Rattle.std.specs.Prelude.{◌≡◌, ◌≢◌, ◌⊎◌, ℕ, suc, ◌+◌, ◌<◌, ◌≤◌, List, [], ◌∷◌, ◌++◌, All, length, replicate, set}
use Rattle.std.specs.List.{sum_by}
use Rattle.std.proofs.Common.{sym, ap, ◌∙◌, refl, subst, inl, inr, append_assoc, arith}
use Rattle.std.proofs.lemmas.List.Elements.{All-contains, Contains-append_left, Contains-push_cases, Contains-push}
use Rattle.std.proofs.lemmas.List.{length-replicate}
use Rattle.std.proofs.lemmas.Bool.Decides.{leb_tells}
use Rattle.sf_base.proofs.Elements.{contains-nil}
use Rattle.sf_base.specs.declared.ids.ResId.{ResId}
use Rattle.sf_order.specs.Answers.{AreBelow}
use Rattle.sf_order.specs.Cycles.{Leads, IsCycle, IsFirstCycle, IsNotAfter}
use Rattle.sf_order.specs.Nests.{IsPair}
use Rattle.sf_order.specs.Rank.{rank_in}
use Rattle.sf_order.specs.Checked.Ways.{AreSteps, IsFewest, IsFirstAt, IsLeastCycle, IsLeastWay, IsLonger, IsNear, Way}
use Rattle.sf_order.proofs.Places.{all-are, put-here, put-length, put-other, put-sum, same-or_not}
use Rattle.sf_order.proofs.Ways.{way-leads, way-short}

-- pairs are of the first n
pub pairs-within : (n : ℕ) (pairs : List (ResId × ResId)) → AreBelow n pairs → (x y : ResId)
    → IsPair pairs x y → (x.0 < n) × (y.0 < n)
pairs-within n pairs b x y c =
    All-contains (λ (e : ResId × ResId). (e.0.0 < n) × (e.1.0 < n)) pairs (x, y) b c

-- where no cycle goes through any of the first n, there is none
pub cycle-absurd : (n : ℕ) (pairs : List (ResId × ResId)) → AreBelow n pairs → (xs : List ResId)
    → IsCycle (IsPair pairs) xs
    → ((y : ResId) → y.0 < n → (ys : List ResId) → IsCycle (IsPair pairs) (y ∷ ys) → ⊥) → ⊥
cycle-absurd n pairs b [] h none = h
cycle-absurd n pairs b (x ∷ xs) h none = none x (first xs h) xs h
  where
    first : (zs : List ResId) → Leads (IsPair pairs) x zs x → x.0 < n
    first [] k = (pairs-within n pairs b x x k).0
    first (z ∷ zs) k = (pairs-within n pairs b x z k.0).0

-- what the search keeps: v has no steps, and each that has fewer than n has as many
pub record IsSearch (R : ResId → ResId → Type 0) (v : ResId) (n : ℕ) (steps : List ℕ) : Type 0 where
  pub each : length steps ≡ n
  pub none : rank_in steps v ≡ 0
  pub capped : (x : ResId) → x.0 < n → rank_in steps x ≤ n
  pub reached : (x : ResId) → x.0 < n → rank_in steps x < n
      → (ys : List ResId) × (length ys ≡ rank_in steps x) × Way R x ys v

pub search-starts : (R : ResId → ResId → Type 0) (v : ResId) (n : ℕ) → v.0 < n
    → IsSearch R v n (set (replicate n n) v.0 0)
search-starts R v n there = record { each = each; none = here; capped = capped; reached = reached }
  where
    size : length (replicate n n) ≡ n
    size = length-replicate n n

    each : length (set (replicate n n) v.0 0) ≡ n
    each = put-length (replicate n n) v.0 0 ∙ size

    here : rank_in (set (replicate n n) v.0 0) v ≡ 0
    here = put-here (replicate n n) v 0 (omega (arith, size, there))

    other : (x : ResId) → x.0 < n → x.0 ≢ v.0 → rank_in (set (replicate n n) v.0 0) x ≡ n
    other x l k = put-other (replicate n n) v x 0 k ∙ all-are n n x l

    capped : (x : ResId) → x.0 < n → rank_in (set (replicate n n) v.0 0) x ≤ n
    capped x l = elim (same-or_not x v) [
      | inl e ↦
          let none : rank_in (set (replicate n n) v.0 0) x ≡ 0 =
          ap (rank_in (set (replicate n n) v.0 0)) e ∙ here in
          omega arith
      | inr k ↦ let all : rank_in (set (replicate n n) v.0 0) x ≡ n = other x l k in omega arith
    ]

    reached : (x : ResId) → x.0 < n → rank_in (set (replicate n n) v.0 0) x < n
        → (ys : List ResId) × (length ys ≡ rank_in (set (replicate n n) v.0 0) x) × Way R x ys v
    reached x l few = elim (same-or_not x v) [
      | inl e ↦ ([], sym (ap (rank_in (set (replicate n n) v.0 0)) e ∙ here), e)
      | inr k ↦ let all : rank_in (set (replicate n n) v.0 0) x ≡ n = other x l k in absurd (omega arith)
    ]

module _ (n : ℕ) (pairs : List (ResId × ResId)) (b : AreBelow n pairs) (v : ResId) (there : v.0 < n)
    (steps : List ℕ) where
  pub search-goes_on : (x y : ResId) → IsLonger steps pairs (x, y) → IsSearch (IsPair pairs) v n steps
      → IsSearch (IsPair pairs) v n (set steps x.0 (rank_in steps y + 1))
  search-goes_on x y (pair, longer) s =
      record { each = put-length steps x.0 (rank_in steps y + 1) ∙ s.each; none = none; capped = capped; reached = reached }
    where
      more : rank_in steps y + 1 < rank_in steps x
      more = longer

      in_steps : x.0 < length steps
      in_steps = let l : x.0 < n = (pairs-within n pairs b x y pair).0 in omega (arith, l, s.each)

      here : rank_in (set steps x.0 (rank_in steps y + 1)) x ≡ rank_in steps y + 1
      here = put-here steps x (rank_in steps y + 1) in_steps

      top : rank_in steps x ≤ n
      top = s.capped x (pairs-within n pairs b x y pair).0

      none : rank_in (set steps x.0 (rank_in steps y + 1)) v ≡ 0
      none = elim (same-or_not v x) [
        | inl e ↦
            let zero : rank_in steps x ≡ 0 = ap (rank_in steps) (sym e) ∙ s.none in
            let l : rank_in steps y + 1 < rank_in steps x = more in
            absurd (omega arith)
        | inr k ↦ put-other steps x v (rank_in steps y + 1) k ∙ s.none
      ]

      capped : (z : ResId) → z.0 < n → rank_in (set steps x.0 (rank_in steps y + 1)) z ≤ n
      capped z l = elim (same-or_not z x) [
        | inl e ↦
            let is : rank_in (set steps x.0 (rank_in steps y + 1)) z ≡ rank_in steps y + 1 =
            ap (rank_in (set steps x.0 (rank_in steps y + 1))) e ∙ here in
            omega (arith, more, top, is)
        | inr k ↦
            let is : rank_in (set steps x.0 (rank_in steps y + 1)) z ≡ rank_in steps z =
            put-other steps x z (rank_in steps y + 1) k in
            omega (arith, s.capped z l, is)
      ]

      reached : (z : ResId) → z.0 < n → rank_in (set steps x.0 (rank_in steps y + 1)) z < n
          → (ys : List ResId) × (length ys ≡ rank_in (set steps x.0 (rank_in steps y + 1)) z)
          × Way (IsPair pairs) z ys v
      reached z l few = elim (same-or_not z x) [
        | inl e ↦
            let is : rank_in (set steps x.0 (rank_in steps y + 1)) z ≡ rank_in steps y + 1 =
            ap (rank_in (set steps x.0 (rank_in steps y + 1))) e ∙ here in
            let w = s.reached y (pairs-within n pairs b x y pair).1 (omega (arith, more, top)) in
            let size : length w.0 ≡ rank_in steps y = w.1 in (
              y ∷ w.0,
              omega (arith, size, is),
              (subst (λ (t : ResId). IsPair pairs t y) (sym e) pair, w.2),
            )
        | inr k ↦
            let is : rank_in (set steps x.0 (rank_in steps y + 1)) z ≡ rank_in steps z =
            put-other steps x z (rank_in steps y + 1) k in
            let w = s.reached z l (omega (arith, few, is)) in
            (w.0, w.1 ∙ sym is, w.2)
      ]

  -- the sum of the steps gets smaller
  pub search-smaller : (x y : ResId) → IsLonger steps pairs (x, y) → length steps ≡ n
      → sum_by (λ k. k) (set steps x.0 (rank_in steps y + 1)) < sum_by (λ k. k) steps
  search-smaller x y (pair, longer) each =
      put-sum (λ k. k) steps x (rank_in steps y + 1)
      (let l : x.0 < n = (pairs-within n pairs b x y pair).0 in omega (arith, l, each)) longer

  pub search-ends : All (IsNear steps) pairs → IsSearch (IsPair pairs) v n steps → AreSteps (IsPair pairs) v n steps
  search-ends near s = record { each = s.each; there = there; reached = s.reached; least = least }
    where
      least : (x : ResId) (ys : List ResId) → Way (IsPair pairs) x ys v → rank_in steps x ≤ length ys
      least x [] e =
          let zero : rank_in steps x ≡ 0 = ap (rank_in steps) e ∙ s.none in
          omega arith
      least x (y ∷ ys) h =
          let one : rank_in steps x ≤ rank_in steps y + 1 = All-contains (IsNear steps) pairs (x, y) near h.0 in
          let rest : rank_in steps y ≤ length ys = least y ys h.1 in
          omega arith

-- what the walk along a shortest cycle keeps
pub record IsWalk (R : ResId → ResId → Type 0) (v : ResId) (n : ℕ) (steps : List ℕ) (least : ℕ) (at : ResId) (left : ℕ)
    (found : List ResId) : Type 0 where
  pub few : left < n
  pub next : (y : ResId) × R at y × (rank_in steps y ≡ left)
  pub fewest : (z : ResId) → R at z → left ≤ rank_in steps z
  pub done : (ws : List ResId) → length ws ≡ left → IsLeastWay R at ws v → IsLeastCycle R v least (found ++ ws)

module _ (n : ℕ) (R : ResId → ResId → Type 0) (within : (x y : ResId) → R x y → (x.0 < n) × (y.0 < n))
    (v : ResId) (steps : List ℕ) (s : AreSteps R v n steps) where
  -- one step less from the next one
  steps-near : (x y : ResId) → R x y → rank_in steps x ≤ n → rank_in steps x ≤ rank_in steps y + 1
  steps-near x y r top = elim (leb_tells n (rank_in steps y)) [
    | inl l ↦ let far : n ≤ rank_in steps y = l.1 in omega arith
    | inr l ↦
        let w = s.reached y (within x y r).1 (let few : rank_in steps y < n = l.1 in few) in
        let one : rank_in steps x ≤ length (y ∷ w.0) = s.least x (y ∷ w.0) (r, w.2) in
        let size : length w.0 ≡ rank_in steps y = w.1 in
        omega arith
  ]

  -- v has none
  steps-none : rank_in steps v ≡ 0
  steps-none = let few : rank_in steps v ≤ 0 = s.least v [] refl in omega arith

  -- the first step of a shortest way
  steps-next : (y : ResId) (left : ℕ) → y.0 < n → suc left < n → rank_in steps y ≡ suc left
      → (z : ResId) × R y z × (rank_in steps z ≡ left)
  steps-next y left l few e =
      let w = s.reached y l (omega (arith, few, e)) in
      go w.0 (w.1 ∙ e) w.2
    where
      go : (ys : List ResId) → length ys ≡ suc left → Way R y ys v → (z : ResId) × R y z × (rank_in steps z ≡ left)
      go [] size w = absurd (omega (arith, size))
      go (z ∷ zs) size w =
          let most : rank_in steps z ≤ length zs = s.least z zs w.1 in
          let near : rank_in steps y ≤ rank_in steps z + 1 = steps-near y z w.0 (omega (arith, few, e)) in
          (z, w.0, omega (arith, size, most, near, e))

  -- only v has none
  steps-only : (y : ResId) → y.0 < n → 0 < n → rank_in steps y ≡ 0 → y ≡ v
  steps-only y l some e = let w = s.reached y l (omega (arith, some, e)) in go w.0 (w.1 ∙ e) w.2
    where
      go : (ys : List ResId) → length ys ≡ 0 → Way R y ys v → y ≡ v
      go [] size w = w
      go (z ∷ zs) size w = absurd (omega (arith, size))

  -- a walk to v has at least as many
  steps-leads : (z : ResId) (zs : List ResId) → Leads R z zs v → rank_in steps z ≤ suc (length zs)
  steps-leads z zs h =
      let w = way-leads R z zs v h in
      let most : rank_in steps z ≤ length w.0 = s.least z w.0 w.2 in
      let size : length w.0 ≡ suc (length zs) = w.1 in
      omega arith

  module _ (least : ℕ) (f : IsFewest R steps v n least) where
    -- no cycle through v is shorter
    fewest-cycle : (ys : List ResId) → Leads R v ys v → least ≤ length ys
    fewest-cycle [] h =
        let l : least ≤ rank_in steps v = f.no_fewer v h in
        let none : rank_in steps v ≡ 0 = steps-none in
        omega arith
    fewest-cycle (z ∷ zs) h =
        let l : least ≤ rank_in steps z = f.no_fewer z h.0 in
        let most : rank_in steps z ≤ suc (length zs) = steps-leads z zs h.1 in
        omega arith

    -- where there are n there is none
    pub fewest-none : n ≤ least → (ys : List ResId) → IsCycle R (v ∷ ys) → ⊥
    fewest-none all [] h =
        let l : least ≤ 0 = fewest-cycle [] h in
        absurd (omega (arith, s.there, all, l))
    fewest-none all (z ∷ zs) h =
        let w = way-leads R z zs v h.1 in
        let u = way-short R n within z w.0 v w.2 (within v z h.0).1 in
        let l : least ≤ rank_in steps z = f.no_fewer z h.0 in
        let most : rank_in steps z ≤ length u.0 = s.least z u.0 u.1 in
        let few : length u.0 < n = u.2 in
        absurd (omega (arith, all))

    pub walk-starts : least < n → IsWalk R v n steps least v least (v ∷ [])
    walk-starts few = record {
      few = few;
      next = f.some few;
      fewest = f.no_fewer;
      done = λ ws size w. (ws, refl, size, w);
    }

    -- one more
    first-way : (at y : ResId) (left : ℕ) (found ws : List ResId) → IsWalk R v n steps least at (suc left) found
        → IsFirstAt R steps at (suc left) y → length ws ≡ left → IsLeastWay R y ws v
        → IsLeastWay R at (y ∷ ws) v
    first-way at y left found ws k i size w =
        record { leads = (i.related, w.leads); first = first }
      where
        first : (ys : List ResId) → Leads R at ys v → length ys ≡ length (y ∷ ws) → IsNotAfter (y ∷ ws) ys
        first [] h e = absurd (omega (arith, e))
        first (z ∷ zs) h e =
            let most : rank_in steps z ≤ suc (length zs) = steps-leads z zs h.1 in
            let least : suc left ≤ rank_in steps z = k.fewest z h.0 in
            let is : rank_in steps z ≡ suc left = omega (arith, e, size) in
            let order : y.0 ≤ z.0 = i.first z h.0 is in
            elim (same-or_not y z) [
              | inl same ↦
                  inr (same, w.first zs (subst (λ (t : ResId). Leads R t zs v) (sym same) h.1) (omega (arith, e)))
              | inr n ↦ inl (omega arith)
            ]

    pub walk-goes_on : (at y : ResId) (left : ℕ) (found : List ResId) → IsWalk R v n steps least at (suc left) found
        → IsFirstAt R steps at (suc left) y → IsWalk R v n steps least y left (found ++ y ∷ [])
    walk-goes_on at y left found k i = record {
      few = omega (arith, k.few);
      next = steps-next y left (within at y i.related).1 k.few i.is;
      fewest = λ z r.
          let near : rank_in steps y ≤ rank_in steps z + 1 =
          steps-near y z r (let is : rank_in steps y ≡ suc left = i.is in omega (arith, k.few)) in
          let is : rank_in steps y ≡ suc left = i.is in
          omega arith;
      done = λ ws size w.
          subst (IsLeastCycle R v least) (sym (append_assoc found (y ∷ []) ws))
          (k.done (y ∷ ws) (ap suc size) (first-way at y left found ws k i size w));
    }

    pub walk-ends : (at : ResId) (found : List ResId) → IsWalk R v n steps least at 0 found → IsLeastCycle R v least (found ++ [])
    walk-ends at found k =
        let y = k.next in
        let same : y.0 ≡ v = steps-only y.0 (within at y.0 y.1).1 k.few y.2 in
        k.done [] refl (record { leads = subst (R at) same y.1; first = λ ys h e. tt })

    -- the first cycle of all, where none is through an earlier resource
    pub cycle-first : (xs : List ResId) → IsLeastCycle R v least xs
        → ((y : ResId) → y.0 < v.0 → (ys : List ResId) → IsCycle R (y ∷ ys) → ⊥) → IsFirstCycle R xs
    cycle-first xs (ws, e, size, w) earlier =
        subst (IsFirstCycle R) (sym e) (record {
          cycle = w.leads;
          earliest = λ y ys h. elim (leb_tells v.0 y.0) [
            | inl l ↦ l.1
            | inr l ↦ absurd (earlier y l.1 ys h)
          ];
          shortest = λ ys h. let l : least ≤ length ys = fewest-cycle ys h in omega (arith, size);
          first = λ ys h n. w.first ys h n;
        })

-- the number becomes that of the pair from x, which is v, where that is less; else it stays
abbrev pub Fewer : (v x : ResId) → (least now away : ℕ) → Type 0
Fewer v x least now away = ((x ≡ v) × (away < least) × (now ≡ away)) ⊎ ((now ≡ least) × (x ≡ v → least ≤ away))

-- the fewest of some pairs, and of one more
pub fewest-more : (pairs : List (ResId × ResId)) (steps : List ℕ) (v x y : ResId) (n least now : ℕ)
    → IsFewest (IsPair pairs) steps v n least
    → Fewer v x least now (rank_in steps y)
    → IsFewest (IsPair (pairs ++ (x, y) ∷ [])) steps v n now
fewest-more pairs steps v x y n least now f k = record { below = below k; no_fewer = no_fewer k; some = some k }
  where
    below : Fewer v x least now (rank_in steps y) → now ≤ n
    below (inl h) = omega (arith, f.below, h.1, h.2)
    below (inr h) = omega (arith, f.below, h.0)

    no_fewer : Fewer v x least now (rank_in steps y) → (z : ResId) → IsPair (pairs ++ (x, y) ∷ []) v z → now ≤ rank_in steps z
    no_fewer (inl h) z c = elim (Contains-push_cases pairs (x, y) (v, z) c) [
      | inl m ↦ let l : least ≤ rank_in steps z = f.no_fewer z m in omega (arith, h.1, h.2)
      | inr e ↦
          let same : rank_in steps y ≡ rank_in steps z = ap (λ (t : ResId × ResId). rank_in steps t.1) e in
          omega (arith, h.2)
    ]
    no_fewer (inr h) z c = elim (Contains-push_cases pairs (x, y) (v, z) c) [
      | inl m ↦ let l : least ≤ rank_in steps z = f.no_fewer z m in omega (arith, h.0)
      | inr e ↦
          let same : rank_in steps y ≡ rank_in steps z = ap (λ (t : ResId × ResId). rank_in steps t.1) e in
          let l : least ≤ rank_in steps y = h.1 (ap (λ (t : ResId × ResId). t.0) e) in
          omega (arith, h.0)
    ]

    some : Fewer v x least now (rank_in steps y) → now < n → (z : ResId) × IsPair (pairs ++ (x, y) ∷ []) v z × (rank_in steps z ≡ now)
    some (inl h) l = (
      y,
      subst (λ (t : ResId). IsPair (pairs ++ (x, y) ∷ []) t y) h.0 (Contains-push pairs (x, y)),
      sym h.2,
    )
    some (inr h) l =
        let old = f.some (omega (arith, l, h.0)) in
        (old.0, Contains-append_left pairs ((x, y) ∷ []) (v, old.0) old.1, old.2 ∙ sym h.0)

pub fewest-no_pairs : (steps : List ℕ) (v : ResId) (n : ℕ) → IsFewest (IsPair []) steps v n n
fewest-no_pairs steps v n = record {
  below = omega arith;
  no_fewer = λ x c. absurd (contains-nil (v, x) c);
  some = λ l. absurd (omega (arith, l));
}
