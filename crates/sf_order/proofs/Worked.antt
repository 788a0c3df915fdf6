-- The examples, each under the name of its function.
use Rattle.std.specs.Prelude.{◌≡◌, ◌⊎◌, ◌==◌, ℕ, zero, suc, ◌<◌, ◌≤◌, Bool, true, false, cond, List, [], ◌∷◌, Contains, Some, None, length, slice_get}
use Rattle.std.proofs.Common.{sym, ap, ◌∙◌, refl, subst, inl, inr, arith}
use Rattle.std.proofs.lemmas.Option.{none-some, same_Some}
use Rattle.sf_base.proofs.Elements.{contains-cons, contains-nil, contains-single, contains-single_of}
use Rattle.sf_base.proofs.StoreSplits.{resource-same}
use Rattle.sf_base.specs.declared.ids.ProcId.{ProcId}
use Rattle.sf_base.specs.declared.ids.ResId.{ResId}
use Rattle.sf_base.specs.declared.path.Turn.TheVariants.{Left as left, Right as right}
use Rattle.sf_core.specs.declared.assertion.Test.TheVariants.{True}
use Rattle.sf_core.specs.Checked.Machine.Examples.{calls, emp, here, procedure}
use Rattle.sf_core.specs.Machine.Config.{Item, command, leave, Task, runs, waits, Path, task_at}
use Rattle.sf_core.specs.Machine.Step.{task_with}
use Rattle.sf_core.specs.Program.Heads.{Site, head_calls, head_regions, sites}
use Rattle.sf_core.specs.Program.Syntax.{Block, Call, call, done, then, with, Procedure}
use Rattle.sf_calls.specs.Conditions.{Takes}
use Rattle.sf_calls.specs.Reaches.{directly, through}
use Rattle.sf_calls.specs.Checked.Lemmas.Decided.{resource}
use Rattle.sf_order.specs.Circle.{IsHeldBefore}
use Rattle.sf_order.specs.Cycles.{IsCycle, IsNotAfter}
use Rattle.sf_order.specs.Nests.{IsPair, MayEnter}
use Rattle.sf_order.specs.Rank.{IsOneMore, rank_in}
use Rattle.sf_order.specs.Checked.Examples.{CallsNest, ChainsHaveRanks, ChildrenWaitForParents, CyclesBeginWithTheirFirst, FreeResourcesAreNoCircle, LaterCyclesAreNotFirst, LongerCyclesAreNotFirst, NothingNestsBack, OppositeOrderIsACycle, OppositeTasksAreACircle, RanksBeginAtTheTop, RanksHaveNoGaps, RegionsDoNotNestThemselves, a, b, c, calling, chain, config, forked, frame, opposite, region, standing}
use Rattle.sf_order.specs.Checked.Tests.{has_pair}
use Rattle.sf_order.proofs.Found.{has_pair-is}

-- a pair is there where the test finds it
found : (pairs : List (ResId × ResId)) (r s : ResId) → has_pair r s pairs ≡ true → IsPair pairs r s
found pairs r s e = (has_pair-is r s pairs).0 e

-- and not where it doesn't
missing : (pairs : List (ResId × ResId)) (r s : ResId) → has_pair r s pairs ≡ false → IsPair pairs r s → ⊥
missing pairs r s e h = let yes : has_pair r s pairs ≡ true = (has_pair-is r s pairs).1 h in absurd (cc)

pub opposite_order_is_a_cycle : OppositeOrderIsACycle
unfolding OppositeOrderIsACycle
opposite_order_is_a_cycle = record {
  cycle = (found opposite a b refl, found opposite b a refl);
  earliest = λ y ys h. omega arith;
  shortest = shortest;
  first = first;
}
  where
    shortest : (ys : List ResId) → IsCycle (IsPair opposite) (a ∷ ys) → 1 ≤ length ys
    shortest [] h = absurd (missing opposite a a refl h)
    shortest (y ∷ ys) h = omega arith

    -- the only one to which the first is related
    only : (y : ResId) → IsPair opposite a y → b ≡ y
    only y h = elim ((contains-cons (let t : ResId × ResId = (a, b) in t) ((b, a) ∷ []) (a, y)).0 h) [
      | inl e ↦ ap (λ (t : ResId × ResId). t.1) e
      | inr m ↦
          let e : b ≡ a = ap (λ (t : ResId × ResId). t.0) (contains-single (let t : ResId × ResId = (b, a) in t) (a, y) m) in
          let number : 1 ≡ 0 = ap (λ (r : ResId). r.0) e in
          absurd (omega (arith, number))
    ]

    first : (ys : List ResId) → IsCycle (IsPair opposite) (a ∷ ys) → length ys ≡ 1 → IsNotAfter (b ∷ []) ys
    first [] h e = absurd (omega (arith, e))
    first (y ∷ ys) h e = inr (only y h.0, tt)

pub cycles_begin_with_their_first : CyclesBeginWithTheirFirst
unfolding CyclesBeginWithTheirFirst
cycles_begin_with_their_first h =
    let low : 1 ≤ 0 = h.earliest a (b ∷ []) (found opposite a b refl, found opposite b a refl) in
    omega arith

pub longer_cycles_are_not_first : LongerCyclesAreNotFirst
unfolding LongerCyclesAreNotFirst
longer_cycles_are_not_first h =
    let few : 3 ≤ 1 = h.shortest (b ∷ []) (found opposite a b refl, found opposite b a refl) in
    omega arith

pub later_cycles_are_not_first : LaterCyclesAreNotFirst
unfolding LaterCyclesAreNotFirst
later_cycles_are_not_first h =
    elim (h.first (b ∷ []) (found forked a b refl, found forked b a refl) refl) [
      | inl low ↦ let few : 2 < 1 = low in omega arith
      | inr same ↦ let number : 2 ≡ 1 = ap (λ (r : ResId). r.0) same.0 in absurd (omega (arith, number))
    ]

-- the three pairs of the chain
chain-cases : (r s : ResId) → IsPair chain r s
    → ((r ≡ a) × (s ≡ b)) ⊎ (((r ≡ a) × (s ≡ c)) ⊎ ((r ≡ b) × (s ≡ c)))
chain-cases r s h = elim ((contains-cons (let t : ResId × ResId = (a, b) in t) ((a, c) ∷ (b, c) ∷ []) (r, s)).0 h) [
  | inl e ↦ inl (ap (λ (t : ResId × ResId). t.0) (sym e), ap (λ (t : ResId × ResId). t.1) (sym e))
  | inr m ↦ elim ((contains-cons (let t : ResId × ResId = (a, c) in t) ((b, c) ∷ []) (r, s)).0 m) [
    | inl e ↦ inr (inl (ap (λ (t : ResId × ResId). t.0) (sym e), ap (λ (t : ResId × ResId). t.1) (sym e)))
    | inr k ↦
        let e = contains-single (let t : ResId × ResId = (b, c) in t) (r, s) k in
        inr (inr (ap (λ (t : ResId × ResId). t.0) (sym e), ap (λ (t : ResId × ResId). t.1) (sym e)))
  ]
]

-- their ranks
abbrev levels : List ℕ
levels = 0 ∷ 1 ∷ 2 ∷ []

-- which rise along each pair
levels-rise : (r s : ResId) → IsPair chain r s → rank_in levels r < rank_in levels s
levels-rise r s h = elim (chain-cases r s h) [
  | inl k ↦
      let low : rank_in levels r ≡ 0 = ap (rank_in levels) k.0 in
      let high : rank_in levels s ≡ 1 = ap (rank_in levels) k.1 in
      omega (arith, low, high)
  | inr (inl k) ↦
      let low : rank_in levels r ≡ 0 = ap (rank_in levels) k.0 in
      let high : rank_in levels s ≡ 2 = ap (rank_in levels) k.1 in
      omega (arith, low, high)
  | inr (inr k) ↦
      let low : rank_in levels r ≡ 1 = ap (rank_in levels) k.0 in
      let high : rank_in levels s ≡ 2 = ap (rank_in levels) k.1 in
      omega (arith, low, high)
]

-- so a resource with a pair from one of the rank below has its own
levels-follow : (r s : ResId) → IsPair chain r s → rank_in levels s ≡ suc (rank_in levels r)
    → IsOneMore (IsPair chain) (rank_in levels) s
levels-follow r s h e = record {
  below = r;
  related = h;
  is = e;
  greatest = λ t i. let less : rank_in levels t < rank_in levels s = levels-rise t s i in omega (arith, less, e);
}

-- what ranks say of one resource
abbrev Ranked : ResId → Type 0
Ranked s = ((rank_in levels s ≡ 0) × ((r : ResId) → IsPair chain r s → ⊥))
    ⊎ IsOneMore (IsPair chain) (rank_in levels) s

pub chains_have_ranks : ChainsHaveRanks
unfolding ChainsHaveRanks
chains_have_ranks = record { each = refl; is = λ s l. at s.0 s refl l }
  where
    at : (n : ℕ) (s : ResId) → s.0 ≡ n → s.0 < 3 → Ranked s
    at zero s e l = subst Ranked (ap resource (sym e))
        (inl (refl, λ r h. let less : rank_in levels r < 0 = levels-rise r a h in omega (arith, less)))
    at (suc zero) s e l = subst Ranked (ap resource (sym e)) (inr (levels-follow a b (found chain a b refl) refl))
    at (suc (suc zero)) s e l = subst Ranked (ap resource (sym e)) (inr (levels-follow b c (found chain b c refl) refl))
    at (suc (suc (suc n))) s e l = absurd (omega (arith, e, l))

pub ranks_begin_at_the_top : RanksBeginAtTheTop
unfolding RanksBeginAtTheTop
ranks_begin_at_the_top h = elim (h.is b (omega arith)) [
  | inl low ↦ let n : 1 ≡ 0 = low.0 in omega (arith, n)
  | inr more ↦
      let top : 2 ≤ rank_in (2 ∷ 1 ∷ 0 ∷ []) more.below = more.greatest a (found chain a b refl) in
      let is : 1 ≡ suc (rank_in (2 ∷ 1 ∷ 0 ∷ []) more.below) = more.is in
      omega (arith, top, is)
]

pub ranks_have_no_gaps : RanksHaveNoGaps
unfolding RanksHaveNoGaps
ranks_have_no_gaps h = elim (h.is c (omega arith)) [
  | inl low ↦ let n : 3 ≡ 0 = low.0 in omega (arith, n)
  | inr more ↦
      let is : 3 ≡ suc (rank_in (0 ∷ 1 ∷ 3 ∷ []) more.below) = more.is in
      elim (chain-cases more.below c more.related) [
        | inl k ↦ let n : 2 ≡ 1 = ap (λ (t : ResId). t.0) k.1 in absurd (omega (arith, n))
        | inr k ↦ elim k [
          | inl m ↦
              let n : rank_in (0 ∷ 1 ∷ 3 ∷ []) more.below ≡ 0 = ap (rank_in (0 ∷ 1 ∷ 3 ∷ [])) m.0 in
              absurd (omega (arith, n, is))
          | inr m ↦
              let n : rank_in (0 ∷ 1 ∷ 3 ∷ []) more.below ≡ 1 = ap (rank_in (0 ∷ 1 ∷ 3 ∷ [])) m.0 in
              absurd (omega (arith, n, is))
        ]
      ]
]

-- ---- what nests

-- the bodies of the two procedures
abbrev first_body : Block
first_body = then (region a (then (call here (calls 1 [])) done)) done

abbrev second_body : Block
second_body = then (region b done) done

-- the sites of the first
abbrev outer_site : Site
outer_site = record { entered = []; command = region a (then (call here (calls 1 [])) done) }

abbrev inner_site : Site
inner_site = record { entered = a ∷ []; command = call here (calls 1 []) }

-- and of the second
abbrev other_site : Site
other_site = record { entered = []; command = region b done }

first-sites : (s : Site) → Contains (sites [] first_body) s → (outer_site ≡ s) ⊎ (inner_site ≡ s)
first-sites s m = elim ((contains-cons outer_site (inner_site ∷ []) s).0 m) [
  | inl e ↦ inl e
  | inr k ↦ inr (contains-single inner_site s k)
]

-- each procedure is one of the two
bodies : (n : ℕ) (h : Procedure) → slice_get calling.procedures n ≡ Some h
    → ((n ≡ 0) × (h.body ≡ first_body)) ⊎ ((n ≡ 1) × (h.body ≡ second_body))
bodies zero h e = inl (refl, ap (λ (g : Procedure). g.body) (sym (same_Some _ h e)))
bodies (suc zero) h e = inr (refl, ap (λ (g : Procedure). g.body) (sym (same_Some _ h e)))
bodies (suc (suc n)) h e = absurd (none-some h e)

-- a is before b
apart : b ≡ a → ⊥
apart e = let n : 1 ≡ 0 = ap (λ (r : ResId). r.0) e in omega (arith, n)

pub calls_nest : CallsNest
unfolding CallsNest
calls_nest = (
  record { 0 = 0 },
  (
    procedure [] 0 0 emp first_body,
    refl,
    (
      inner_site,
      (1, omega arith, refl),
      (
        contains-single_of a a refl,
        inr (
          calls 1 [],
          contains-single_of (calls 1 []) (calls 1 []) refl,
          directly (
            procedure [] 0 0 emp second_body,
            refl,
            (other_site, contains-single_of other_site other_site refl, contains-single_of b b refl),
          ),
        ),
      ),
    ),
  ),
)

pub nothing_nests_back : NothingNestsBack
unfolding NothingNestsBack
nothing_nests_back (f, (h, at, (s, m, (e, enters)))) = elim (bodies f.0 h at) [
  | inl k ↦ elim (first-sites s (subst (λ (body : Block). Contains (sites [] body) s) k.1 m)) [
    | inl i ↦ contains-nil b (subst (λ (t : Site). Contains t.entered b) (sym i) e)
    | inr i ↦ apart (sym (contains-single a b (subst (λ (t : Site). Contains t.entered b) (sym i) e)))
  ]
  | inr k ↦
      let i = contains-single other_site s (subst (λ (body : Block). Contains (sites [] body) s) k.1 m) in
      contains-nil b (subst (λ (t : Site). Contains t.entered b) (sym i) e)
]

-- the second procedure doesn't take a
not-taken : (f : ProcId) → f.0 ≡ 1 → Takes calling f a → ⊥
not-taken f second (directly (h, at, (s, m, k))) = elim (bodies f.0 h at) [
  | inl i ↦ let n : f.0 ≡ 0 = i.0 in absurd (omega (arith, n, second))
  | inr i ↦
      let e = contains-single other_site s (subst (λ (body : Block). Contains (sites [] body) s) i.1 m) in
      apart (contains-single b a (subst (λ (t : Site). Contains (head_regions t.command) a) (sym e) k))
]
not-taken f second (through g (h, at, (s, m, (out, (d, k, e)))) t) = elim (bodies f.0 h at) [
  | inl i ↦ let n : f.0 ≡ 0 = i.0 in absurd (omega (arith, n, second))
  | inr i ↦
      let is = contains-single other_site s (subst (λ (body : Block). Contains (sites [] body) s) i.1 m) in
      contains-nil d (subst (λ (t : Site). Contains (head_calls t.command) d) (sym is) k)
]

pub regions_do_not_nest_themselves : RegionsDoNotNestThemselves
unfolding RegionsDoNotNestThemselves
regions_do_not_nest_themselves (f, (h, at, (s, m, (e, enters)))) = elim (bodies f.0 h at) [
  | inl k ↦ elim (first-sites s (subst (λ (body : Block). Contains (sites [] body) s) k.1 m)) [
    | inl i ↦ contains-nil a (subst (λ (t : Site). Contains t.entered a) (sym i) e)
    | inr i ↦ inside (subst (λ (t : Site). MayEnter calling t.command a) (sym i) enters)
  ]
  | inr k ↦
      let i = contains-single other_site s (subst (λ (body : Block). Contains (sites [] body) s) k.1 m) in
      contains-nil a (subst (λ (t : Site). Contains t.entered a) (sym i) e)
]
  where
    inside : MayEnter calling (call here (calls 1 [])) a → ⊥
    inside (inl r) = contains-nil a r
    inside (inr (d, k, t)) =
        not-taken d.callee (ap (λ (g : Call). g.callee.0) (sym (contains-single (calls 1 []) d k))) t

-- ---- circles

pub opposite_tasks_are_a_circle : OppositeTasksAreACircle
unfolding OppositeTasksAreACircle
opposite_tasks_are_a_circle = (
  a ∷ b ∷ [],
  (
    record {
      holder = left ∷ [];
      held = refl;
      path = left ∷ [];
      below = refl;
      stands = record { frame = frame; below = []; place = here; test = True; body = done; rest = leave a ∷ []; there = refl };
    },
    record {
      holder = right ∷ [];
      held = refl;
      path = right ∷ [];
      below = refl;
      stands = record { frame = frame; below = []; place = here; test = True; body = done; rest = leave b ∷ []; there = refl };
    },
  ),
)

pub children_wait_for_parents : ChildrenWaitForParents
unfolding ChildrenWaitForParents
children_wait_for_parents = (
  a ∷ [],
  record {
    holder = [];
    held = refl;
    path = left ∷ [];
    below = refl;
    stands = record { frame = frame; below = []; place = here; test = True; body = done; rest = []; there = refl };
  },
)

-- at which region a task stands, if it does
item_region : List Item → ResId
item_region (command (with q r t body) ∷ rest) = r
item_region _ = a

task_region : Task → ResId
task_region (runs (f ∷ below)) = item_region f.todo
task_region (runs []) = a
task_region (waits frames one two) = a

pub free_resources_are_no_circle : FreeResourcesAreNoCircle
unfolding FreeResourcesAreNoCircle item_region task_region
free_resources_are_no_circle (rs, h) = go rs h
  where
    holds : (x z : ResId) → IsHeldBefore (config (λ r. cond (r.0 == 0) (Some []) None) (standing (leave a ∷ []) b)) x z
        → x ≡ a
    holds x z k = at (x.0 == 0) refl k.held
      where
        at : (t : Bool) → x.0 == 0 ≡ t → cond t (Some []) None ≡ Some k.holder → x ≡ a
        at true e i = resource-same x a e
        at false e i = absurd (none-some k.holder i)

    waits_for : (x z : ResId) → IsHeldBefore (config (λ r. cond (r.0 == 0) (Some []) None) (standing (leave a ∷ []) b)) x z
        → b ≡ z
    waits_for x z k = at k.path k.stands.there
      where
        at : (path : Path) → task_at path (standing (leave a ∷ []) b)
            ≡ Some (task_with k.stands.frame (command (with k.stands.place z k.stands.test k.stands.body) ∷ k.stands.rest)
            k.stands.below) → b ≡ z
        at [] e = ap task_region (same_Some _ _ e)
        at (left ∷ path) e = absurd (none-some _ e)
        at (right ∷ path) e = absurd (none-some _ e)

    go : (xs : List ResId)
        → IsCycle (IsHeldBefore (config (λ r. cond (r.0 == 0) (Some []) None) (standing (leave a ∷ []) b))) xs → ⊥
    go [] k = k
    go (x ∷ []) k = apart (waits_for x x k ∙ holds x x k)
    go (x ∷ y ∷ []) k = apart (waits_for x y k.0 ∙ holds y x k.1)
    go (x ∷ y ∷ z ∷ zs) k = apart (waits_for x y k.0 ∙ holds y z k.1.0)
