-- Each program's resources have ranks, or there is a first cycle: what the searches keep, without the code.
-- Names: `WHAT-or` decides, `some-WHAT` finds.
use Rattle.std.specs.Prelude.{◌≡◌, ◌≢◌, ◌⊎◌, ℕ, zero, suc, ◌+◌, ◌-◌, ◌<◌, ◌≤◌, ◌&&◌, Bool, true, false, List, [], ◌∷◌, ◌++◌, All, Contains, length, replicate, set, take}
use Rattle.std.specs.Bool.{Decides}
use Rattle.std.specs.List.{list_any, sum_by}
use Rattle.std.proofs.Common.{sym, ap, ap₂, ◌∙◌, refl, subst, inl, inr, append_assoc, arith}
use Rattle.std.proofs.lemmas.Bool.Decides.{Decides-and, eqb_tells, leb_tells}
use Rattle.std.proofs.lemmas.List.{append-nil}
use Rattle.std.proofs.lemmas.List.Elements.{All-cons}
use Rattle.std.proofs.lemmas.List.Folds.{Any-from_list_any, list_any-from_Any}
use Rattle.sf_base.proofs.Elements.{contains-rest, contains-cons}
use Rattle.sf_base.specs.declared.ids.ResId.{ResId}
use Rattle.sf_core.specs.Program.Formed.{IsFormed}
use Rattle.sf_core.specs.Program.Heads.{Site}
use Rattle.sf_core.specs.Program.Syntax.{Program}
use Rattle.sf_calls.specs.Sets.{AreSetsOf, IsSetOf, Sets}
use Rattle.sf_calls.specs.Checked.Listed.{is_entered}
use Rattle.sf_calls.specs.Checked.Lemmas.Decided.{entered_is, resource}
use Rattle.sf_calls.specs.Checked.Lemmas.InOrder.{set_push}
use Rattle.sf_calls.specs.Checked.Lemmas.SetsThere.{sets_there}
use Rattle.sf_order.specs.Answers.{AreBelow}
use Rattle.sf_order.specs.Cycles.{IsCycle, IsFirstCycle}
use Rattle.sf_order.specs.Nests.{ArePairsOf, IsEarlierPair, IsPair, Nests}
use Rattle.sf_order.specs.Rank.{IsFirstLevel, IsRanking, Rises, rank_in}
use Rattle.sf_order.specs.Checked.Rows.{all_sites, entered_by}
use Rattle.sf_order.specs.Checked.Tests.{has_pair}
use Rattle.sf_order.specs.Checked.Ways.{AreSteps, IsFewest, IsFirstAt, IsLeastCycle, IsLonger, IsNear}
use Rattle.sf_order.proofs.Distances.{Fewer, IsSearch, IsWalk, cycle-absurd, cycle-first, fewest-more, fewest-no_pairs, fewest-none, pairs-within, search-ends, search-goes_on, search-smaller, search-starts, walk-ends, walk-goes_on, walk-starts}
use Rattle.sf_order.proofs.Found.{has_pair-is}
use Rattle.sf_order.proofs.Listed.{set-none, set-same}
use Rattle.sf_order.proofs.Places.{same-or_not}
use Rattle.sf_order.proofs.Rising.{IsRise, rise-ends, rise-goes_on, rise-high, rise-low, rise-smaller, rise-starts}
use Rattle.sf_order.proofs.Rows.{entered-is, nests-entered, nests-second, pairs-all, site-of_body}

-- ranks rise along each pair, or there is a first one of which that isn't so
level-or : (ranks : List ℕ) (pairs : List (ResId × ResId))
    → All (Rises ranks) pairs ⊎ ((e : ResId × ResId) × IsFirstLevel ranks pairs e)
level-or ranks [] = inl (λ k d l. absurd (omega (arith, l)))
level-or ranks (e ∷ es) = elim (leb_tells (rank_in ranks e.1) (rank_in ranks e.0)) [
  | inl l ↦ inr (
    e,
    record {
      place = 0;
      there = refl;
      level = λ up. let low : rank_in ranks e.1 ≤ rank_in ranks e.0 = l.1 in omega (arith, up);
      before = λ k d m. absurd (omega (arith, m));
    },
  )
  | inr l ↦ elim (level-or ranks es) [
    | inl all ↦ inl (All-cons (Rises ranks) e es l.1 all)
    | inr f ↦ inr (
      f.0,
      record {
        place = suc f.1.place;
        there = f.1.there;
        level = f.1.level;
        before = All-cons (Rises ranks) e (take f.1.place es) l.1 f.1.before;
      },
    )
  ]
]

-- no pair is longer, or one is
longer-or : (steps : List ℕ) (pairs : List (ResId × ResId))
    → All (IsNear steps) pairs ⊎ ((e : ResId × ResId) × IsLonger steps pairs e)
longer-or steps [] = inl (λ k d l. absurd (omega (arith, l)))
longer-or steps (e ∷ es) = elim (leb_tells (rank_in steps e.0) (rank_in steps e.1 + 1)) [
  | inr l ↦ inr (e, ((contains-cons e es e).1 (inl refl), l.1))
  | inl l ↦ elim (longer-or steps es) [
    | inl all ↦ inl (All-cons (IsNear steps) e es l.1 all)
    | inr f ↦ inr (f.0, (contains-rest e es f.0 f.1.0, f.1.1))
  ]
]

module _ (n : ℕ) (pairs : List (ResId × ResId)) (b : AreBelow n pairs) where
  -- the steps to a resource
  some-search : (v : ResId) → v.0 < n → (m : ℕ) (steps : List ℕ) → sum_by (λ k. k) steps ≤ m
      → IsSearch (IsPair pairs) v n steps → (found : List ℕ) × AreSteps (IsPair pairs) v n found
  some-search v there zero steps few s = elim (longer-or steps pairs) [
    | inl near ↦ (steps, search-ends n pairs b v there steps near s)
    | inr f ↦
        let less : sum_by (λ k. k) (set steps f.0.0.0 (rank_in steps f.0.1 + 1)) < sum_by (λ k. k) steps =
        search-smaller n pairs b v there steps f.0.0 f.0.1 f.1 s.each in
        absurd (omega (arith, few))
  ]
  some-search v there (suc m) steps few s = elim (longer-or steps pairs) [
    | inl near ↦ (steps, search-ends n pairs b v there steps near s)
    | inr f ↦
        let less : sum_by (λ k. k) (set steps f.0.0.0 (rank_in steps f.0.1 + 1)) < sum_by (λ k. k) steps =
        search-smaller n pairs b v there steps f.0.0 f.0.1 f.1 s.each in
        some-search v there m (set steps f.0.0.0 (rank_in steps f.0.1 + 1)) (omega (arith, few))
        (search-goes_on n pairs b v there steps f.0.0 f.0.1 f.1 s)
  ]

  some-steps : (v : ResId) → v.0 < n → (found : List ℕ) × AreSteps (IsPair pairs) v n found
  some-steps v there =
      some-search v there (sum_by (λ k. k) (set (replicate n n) v.0 0)) (set (replicate n n) v.0 0) (omega arith)
      (search-starts (IsPair pairs) v n there)

  -- whether two are a pair
  pair-or : (x y : ResId) → IsPair pairs x y ⊎ (IsPair pairs x y → ⊥)
  pair-or x y = go (has_pair x y pairs) refl
    where
      go : (t : Bool) → has_pair x y pairs ≡ t → IsPair pairs x y ⊎ (IsPair pairs x y → ⊥)
      go true e = inl ((has_pair-is x y pairs).0 e)
      go false e = inr (λ h. let yes : has_pair x y pairs ≡ true = (has_pair-is x y pairs).1 h in absurd (cc))

  module _ (steps : List ℕ) (x : ResId) (away : ℕ) where
    -- none of those before i is so many steps away
    abbrev NoneBefore : ℕ → Type 0
    NoneBefore i = (z : ResId) → z.0 < i → IsPair pairs x z → rank_in steps z ≡ away → ⊥

    none-later : (i : ℕ) → NoneBefore i → (IsPair pairs x (resource i) → rank_in steps (resource i) ≡ away → ⊥)
        → NoneBefore (suc i)
    none-later i none other z l p e = elim (same-or_not z (resource i)) [
      | inl is ↦ other (subst (IsPair pairs x) is p) (ap (rank_in steps) (sym is) ∙ e)
      | inr apart ↦ none z (omega (arith, l, apart)) p e
    ]

    -- none of those before i, or there is a first one
    first-or : (i : ℕ) → NoneBefore i ⊎ ((y : ResId) × IsFirstAt (IsPair pairs) steps x away y)
    first-or zero = inl (λ z l. absurd (omega (arith, l)))
    first-or (suc i) = elim (first-or i) [
      | inr f ↦ inr f
      | inl none ↦ elim (pair-or x (resource i)) [
        | inr never ↦ inl (none-later i none (λ p e. never p))
        | inl p ↦ elim (eqb_tells (rank_in steps (resource i)) away) [
          | inr e ↦ inl (none-later i none (λ q f. e.1 f))
          | inl e ↦ inr (
            resource i,
            record {
              related = p;
              is = e.1;
              first = λ z q f. elim (leb_tells i z.0) [ inl l ↦ l.1 | inr l ↦ absurd (none z l.1 q f) ];
            },
          )
        ]
      ]
    ]

    some-first : (y : ResId) × IsPair pairs x y × (rank_in steps y ≡ away)
        → (y : ResId) × IsFirstAt (IsPair pairs) steps x away y
    some-first h = elim (first-or n) [
      | inr f ↦ f
      | inl none ↦ absurd (none h.0 (pairs-within n pairs b x h.0 h.1).1 h.1 h.2)
    ]

  module _ (steps : List ℕ) (v : ResId) where
    -- the fewest of some pairs and of the rest
    fewest-rest : (done rest : List (ResId × ResId)) (least : ℕ) → IsFewest (IsPair done) steps v n least
        → (now : ℕ) × IsFewest (IsPair (done ++ rest)) steps v n now
    fewest-rest done [] least f =
        (least, subst (λ (es : List (ResId × ResId)). IsFewest (IsPair es) steps v n least) (sym (append-nil done)) f)
    fewest-rest done (e ∷ es) least f =
        let one = step in
        let more = fewest-rest (done ++ e ∷ []) es one.0
        (fewest-more done steps v e.0 e.1 n least one.0 f one.1) in (
          more.0,
          subst (λ (fs : List (ResId × ResId)). IsFewest (IsPair fs) steps v n more.0)
              (append_assoc done (e ∷ []) es) more.1,
        )
      where
        step : (now : ℕ) × Fewer v e.0 least now (rank_in steps e.1)
        step = elim (same-or_not e.0 v) [
          | inr apart ↦ (least, inr (refl, λ i. absurd (apart (ap (λ (r : ResId). r.0) i))))
          | inl is ↦ elim (leb_tells least (rank_in steps e.1)) [
            | inl l ↦ (least, inr (refl, λ i. l.1))
            | inr l ↦ (rank_in steps e.1, inl (is, l.1, refl))
          ]
        ]

    some-fewest : (least : ℕ) × IsFewest (IsPair pairs) steps v n least
    some-fewest = fewest-rest [] pairs n (fewest-no_pairs steps v n)

  module _ (v : ResId) (steps : List ℕ) (s : AreSteps (IsPair pairs) v n steps) (least : ℕ)
      (f : IsFewest (IsPair pairs) steps v n least) where
    -- the walk along a shortest cycle
    some-walk : (left : ℕ) (at : ResId) (found : List ResId)
        → IsWalk (IsPair pairs) v n steps least at left found → (xs : List ResId) × IsLeastCycle (IsPair pairs) v least xs
    some-walk zero at found k =
        (found ++ [], walk-ends n (IsPair pairs) (pairs-within n pairs b) v steps s least f at found k)
    some-walk (suc left) at found k =
        let y = some-first steps at (suc left) k.next in
        some-walk left y.0 (found ++ y.0 ∷ [])
        (walk-goes_on n (IsPair pairs) (pairs-within n pairs b) v steps s least f at y.0 left found k y.1)

  -- the first cycle from some resource on, where none goes through an earlier one
  some-cycle : (m i : ℕ) → i + m ≡ n → (xs : List ResId) → IsCycle (IsPair pairs) xs
      → ((y : ResId) → y.0 < i → (ys : List ResId) → IsCycle (IsPair pairs) (y ∷ ys) → ⊥)
      → (zs : List ResId) × IsFirstCycle (IsPair pairs) zs
  some-cycle zero i e xs h none =
      absurd (cycle-absurd n pairs b xs h (λ y l. none y (omega (arith, l, e))))
  some-cycle (suc m) i e xs h none =
      let v : ResId = resource i in
      let steps = some-steps v (omega (arith, e)) in
      let least = some-fewest steps.0 v in
      elim (leb_tells n least.0) [
        | inr few ↦
            let z = some-walk v steps.0 steps.1 least.0 least.1 least.0 v (v ∷ [])
            (walk-starts n (IsPair pairs) (pairs-within n pairs b) v steps.0 steps.1 least.0 least.1 few.1) in (
              z.0,
              cycle-first n (IsPair pairs) (pairs-within n pairs b) v steps.0 steps.1 least.0 least.1 z.0 z.1 none,
            )
        | inl all ↦
            some-cycle m (suc i) (omega (arith, e)) xs h
            (later (fewest-none n (IsPair pairs) (pairs-within n pairs b) v steps.0 steps.1 least.0 least.1 all.1))
      ]
    where
      later : ((ys : List ResId) → IsCycle (IsPair pairs) (resource i ∷ ys) → ⊥) → (y : ResId) → y.0 < suc i
          → (ys : List ResId) → IsCycle (IsPair pairs) (y ∷ ys) → ⊥
      later here y l ys k = elim (same-or_not y (resource i)) [
        | inl is ↦ here ys (subst (λ (t : ResId). IsCycle (IsPair pairs) (t ∷ ys)) is k)
        | inr apart ↦ none y (omega (arith, l, apart)) ys k
      ]

  -- ranks that rise along each pair, or a cycle
  abbrev RanksOrCycle : Type 0
  RanksOrCycle = ((found : List ℕ) × IsRise (IsPair pairs) n found × All (Rises found) pairs)
      ⊎ ((xs : List ResId) × IsCycle (IsPair pairs) xs)

  some-ranks : (m : ℕ) (ranks : List ℕ) → IsRise (IsPair pairs) n ranks → sum_by (λ k. n - k) ranks ≤ m
      → RanksOrCycle
  some-ranks zero ranks k few = elim (level-or ranks pairs) [
    | inl all ↦ inl (ranks, k, all)
    | inr f ↦ elim (eqb_tells (rank_in ranks f.0.0 + 1) n) [
      | inl e ↦ inr (rise-high n pairs b ranks k f.0.0 f.0.1 f.1 e.1)
      | inr e ↦
          let less : sum_by (λ k. n - k) (set ranks f.0.1.0 (rank_in ranks f.0.0 + 1)) < sum_by (λ k. n - k) ranks =
          rise-smaller n pairs b ranks k f.0.0 f.0.1 f.1 e.1 in
          absurd (omega (arith, few, less))
    ]
  ]
  some-ranks (suc m) ranks k few = elim (level-or ranks pairs) [
    | inl all ↦ inl (ranks, k, all)
    | inr f ↦ elim (eqb_tells (rank_in ranks f.0.0 + 1) n) [
      | inl e ↦ inr (rise-high n pairs b ranks k f.0.0 f.0.1 f.1 e.1)
      | inr e ↦
          let less : sum_by (λ k. n - k) (set ranks f.0.1.0 (rank_in ranks f.0.0 + 1)) < sum_by (λ k. n - k) ranks =
          rise-smaller n pairs b ranks k f.0.0 f.0.1 f.1 e.1 in
          some-ranks m (set ranks f.0.1.0 (rank_in ranks f.0.0 + 1))
          (rise-goes_on n pairs b ranks k f.0.0 f.0.1 f.1 e.1) (omega (arith, few, less))
    ]
  ]

  -- the ranks, or the first cycle
  pub some-order : ((ranks : List ℕ) × IsRanking (IsPair pairs) n ranks × All (λ rank. rank < n) ranks)
      ⊎ ((xs : List ResId) × IsFirstCycle (IsPair pairs) xs)
  some-order = elim
      (some-ranks (sum_by (λ k. n - k) (replicate n 0)) (replicate n 0) (rise-starts (IsPair pairs) n) (omega arith)) [
        | inl f ↦ inl (f.0, rise-ends n pairs b f.0 f.1 f.2, rise-low (IsPair pairs) n f.0 f.1)
        | inr f ↦ inr (some-cycle n 0 (omega arith) f.0 f.1 (λ y l. absurd (omega (arith, l))))
      ]

module _ (p : Program) (formed : IsFormed p) (c : Sets) (sets : AreSetsOf p c) where
  -- whether the one nests the other
  entering : ResId → ResId → Site → Bool
  entering r q s = is_entered r s.entered && is_entered q (entered_by c s.command)

  entering-is : (r q : ResId) (s : Site)
      → Decides (entering r q s) (Contains s.entered r × Contains (entered_by c s.command) q)
  unfolding entering
  entering-is r q s =
      Decides-and (is_entered r s.entered) (is_entered q (entered_by c s.command)) (entered_is r s.entered)
      (entered_is q (entered_by c s.command))

  nesting-is : (r q : ResId) → Decides (list_any (entering r q) (all_sites p)) (Nests p r q)
  nesting-is r q = (to, from)
    where
      to : list_any (entering r q) (all_sites p) ≡ true → Nests p r q
      to e =
          let a = Any-from_list_any (entering r q) (all_sites p) e in
          let both = (entering-is r q a.1).0 a.4 in
          let m : Contains (all_sites p) a.1 = (a.0, a.2, a.3) in
          let h = site-of_body p formed a.1 m in
          (nests-entered p formed r q).0
          (a.1, m, both.0, (entered-is p formed c sets h.procedure (a.1).command h.within q).0 both.1)

      from : Nests p r q → list_any (entering r q) (all_sites p) ≡ true
      from n =
          let i = (nests-entered p formed r q).1 n in
          let h = site-of_body p formed i.0 i.1 in
          list_any-from_Any (entering r q) (all_sites p) (
            i.1.0,
            i.0,
            i.1.1,
            i.1.2,
            (entering-is r q i.0).1 (i.2, (entered-is p formed c sets h.procedure (i.0).command h.within q).1 i.3),
          )

  -- the pairs of the first k resources, and of the next one those with the first i
  abbrev IsTo : (k i : ℕ) → ResId × ResId → Type 0
  IsTo k i e = ((e.0.0 < k) ⊎ ((e.0.0 ≡ k) × (e.1.0 < i))) × Nests p e.0 e.1

  abbrev AreTo : (k i : ℕ) → List (ResId × ResId) → Type 0
  AreTo k i es = IsSetOf IsEarlierPair (IsTo k i) es

  to-more : (k i : ℕ) (e : ResId × ResId) → IsTo k i e → IsTo k (suc i) e
  to-more k i e (inl l, n) = (inl l, n)
  to-more k i e (inr h, n) = (inr (h.0, omega (arith, h.1)), n)

  to-pushed : (k i : ℕ) (es : List (ResId × ResId)) → Nests p (resource k) (resource i) → AreTo k i es
      → AreTo k (suc i) (es ++ (resource k, resource i) ∷ [])
  to-pushed k i es nests s =
      set_push IsEarlierPair (IsTo k i) (IsTo k (suc i)) es (resource k, resource i) s before from (to-more k i)
      (inr (refl, omega arith), nests)
    where
      before : (e : ResId × ResId) → IsTo k i e → IsEarlierPair e (resource k, resource i)
      before e (inl l, n) = inl l
      before e (inr h, n) = inr (ap resource h.0, h.1)

      from : (e : ResId × ResId) → IsTo k (suc i) e → IsTo k i e ⊎ (e ≡ (resource k, resource i))
      from e (inl l, n) = inl (inl l, n)
      from e (inr h, n) = elim (same-or_not e.1 (resource i)) [
        | inl is ↦ inr (ap₂ (λ (a b : ResId). let t : ResId × ResId = (a, b) in t) (ap resource h.0) is)
        | inr apart ↦ inl (inr (h.0, let few : e.1.0 < suc i = h.1 in omega arith), n)
      ]

  to-passed : (k i : ℕ) (es : List (ResId × ResId)) → (Nests p (resource k) (resource i) → ⊥) → AreTo k i es
      → AreTo k (suc i) es
  to-passed k i es none s =
      set-same IsEarlierPair (IsTo k i) (IsTo k (suc i)) es s (λ e. (to-more k i e, from e))
    where
      from : (e : ResId × ResId) → IsTo k (suc i) e → IsTo k i e
      from e (inl l, n) = (inl l, n)
      from e (inr h, n) = elim (same-or_not e.1 (resource i)) [
        | inl is ↦
            absurd (none (subst (λ (t : ResId). Nests p t (resource i)) (ap resource h.0)
            (subst (Nests p e.0) is n)))
        | inr apart ↦ (inr (h.0, let few : e.1.0 < suc i = h.1 in omega arith), n)
      ]

  to-turns : (k i : ℕ) (es : List (ResId × ResId)) → AreTo k 0 es → (fs : List (ResId × ResId)) × AreTo k i fs
  to-turns k zero es s = (es, s)
  to-turns k (suc i) es s =
      let t = to-turns k i es s in
      go (list_any (entering (resource k) (resource i)) (all_sites p)) refl t.0 t.1
    where
      go : (b : Bool) → list_any (entering (resource k) (resource i)) (all_sites p) ≡ b
          → (fs : List (ResId × ResId)) → AreTo k i fs → (gs : List (ResId × ResId)) × AreTo k (suc i) gs
      go true e fs s =
          (fs ++ (resource k, resource i) ∷ [], to-pushed k i fs ((nesting-is (resource k) (resource i)).0 e) s)
      go false e fs s = (fs, to-passed k i fs (λ n. apart e ((nesting-is (resource k) (resource i)).1 n)) s)
        where
          apart : {b : Bool} → b ≡ false → b ≡ true → ⊥
          apart e f = cc

  to-rounds : (k : ℕ) → (es : List (ResId × ResId)) × AreTo k 0 es
  to-rounds zero = ([], set-none IsEarlierPair (IsTo 0 0) none)
    where
      none : (e : ResId × ResId) → IsTo 0 0 e → ⊥
      none e (inl l, n) = omega (arith, l)
      none e (inr h, n) = omega (arith, h.1)
  to-rounds (suc k) =
      let t = to-rounds k in
      let u = to-turns k (length p.resources) t.0 t.1 in
      (u.0, set-same IsEarlierPair (IsTo k (length p.resources)) (IsTo (suc k) 0) u.0 u.1 (λ e. (to e, from e)))
    where
      to : (e : ResId × ResId) → IsTo k (length p.resources) e → IsTo (suc k) 0 e
      to e (inl l, n) = (inl (omega (arith, l)), n)
      to e (inr h, n) = (inl (omega (arith, h.0)), n)

      from : (e : ResId × ResId) → IsTo (suc k) 0 e → IsTo k (length p.resources) e
      from e (inl l, n) = elim (eqb_tells e.0.0 k) [
        | inl is ↦ (inr (is.1, nests-second p formed e.0 e.1 n), n)
        | inr apart ↦ (inl (let other : e.0.0 ≢ k = apart.1 in omega (arith, l)), n)
      ]
      from e (inr h, n) = absurd (omega (arith, h.1))

  some-pairs : (pairs : List (ResId × ResId)) × ArePairsOf p pairs
  some-pairs =
      let t = to-rounds (length p.resources) in (
        t.0,
        pairs-all p formed (length p.resources) t.0 (omega arith) t.1.ordered
            (λ e. (λ c. to e ((t.1.members e).0 c), λ h. (t.1.members e).1 (inl h.0, h.1))),
      )
    where
      to : (e : ResId × ResId) → IsTo (length p.resources) 0 e → (e.0.0 < length p.resources) × Nests p e.0 e.1
      to e (inl l, n) = (l, n)
      to e (inr h, n) = absurd (omega (arith, h.1))

-- each program has its pairs
pub pairs-exist : (p : Program) → IsFormed p → (pairs : List (ResId × ResId)) × ArePairsOf p pairs
pairs-exist p formed = let s = sets_there p formed in some-pairs p formed s.0 s.1
