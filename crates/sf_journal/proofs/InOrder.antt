-- Logs of one task: merged, its events are in their order.
-- Names: `order-WHAT`.
use Rattle.std.specs.Prelude.{◌≡◌, ◌+◌, ◌<◌, ℕ, suc, false, List, [], ◌∷◌, map, get_or, Contains, IsPermutation, IsSortedBy}
use Rattle.std.proofs.Common.{inl, inr, refl, sym, ap, ap₂, ◌∙◌, subst, arith, true≢false}
use Rattle.std.proofs.lemmas.List.Sorted.{Contains-permutation, IsPermutation-sym, IsPermutation-trans, sum_by-IsPermutation}
use Rattle.std.proofs.lemmas.List.Sums.{sum_by-cons}
use Rattle.sf_base.proofs.Elements.{contains-cons, contains-nil}
use Rattle.sf_base.proofs.Members.{contains-map, contains-map_from}
use Rattle.sf_core.specs.Machine.Config.{Path}
use Rattle.sf_core.specs.Machine.Step.{Event}
use Rattle.sf_core.specs.Program.Syntax.{Program}
use Rattle.sf_part.specs.Timed.{Stamped}
use Rattle.sf_replay.specs.ScheduleText.{events_of}
use Rattle.sf_trace.specs.Checked.Lemmas.Weights.{weights-permute}
use Rattle.sf_trace.specs.Logs.{Rising, Timed, acts_in, entry_of}
use Rattle.sf_trace.specs.Trace.{Act, events_in}
use Rattle.sf_journal.proofs.EntryOrder.{entry-less, sorted-before}
use Rattle.sf_journal.proofs.MergedLogs.{scheduled-events}
use Rattle.sf_journal.specs.Checked.Laws.{LogsOfOneTaskKeepItsOrder, as_told}
use Rattle.sf_journal.specs.Merge.{entry_before, event_told}

-- each entry's stamp is below those of all later ones
abbrev Rises : List Stamped → Type 0
Rises [] = Unit {0}
Rises (x ∷ xs) = ((y : Stamped) → Contains xs y → x.stamp < y.stamp) × Rises xs

-- what has the same elements without the first has them with it, and the other way round
order-rest : (x : Stamped) (xs ys : List Stamped) → IsPermutation (x ∷ xs) (x ∷ ys) → IsPermutation xs ys
order-rest x xs ys same = weights-permute xs ys (λ weigh.
    let whole = sum_by-IsPermutation weigh (x ∷ xs) (x ∷ ys) same in
    let one = sum_by-cons weigh x xs in
    let other = sum_by-cons weigh x ys in
    omega (arith, whole, one, other))

-- the rest of a sorted list is
order-tail : (y : Stamped) (ys : List Stamped) → IsSortedBy entry_before (y ∷ ys) → IsSortedBy entry_before ys
order-tail y ys sorted k d low high =
    let next : suc k + 1 ≡ suc (k + 1) = omega arith in
    subst (λ (n : ℕ). entry_before (get_or (y ∷ ys) n d) (get_or ys k d) ≡ false) next
    (sorted (suc k) d (omega arith) (omega arith))

-- a list that rises and a sorted one with the same elements begin with the same
order-first : (x y : Stamped) (xs ys : List Stamped) → Rises (x ∷ xs) → IsSortedBy entry_before (y ∷ ys)
    → IsPermutation (x ∷ xs) (y ∷ ys) → x ≡ y
order-first x y xs ys rises sorted same =
    let here : Contains (y ∷ ys) y = (0, omega arith, refl) in
    let first : Contains (x ∷ xs) x = (0, omega arith, refl) in
    elim ((contains-cons x xs y).0 (Contains-permutation (y ∷ ys) (x ∷ xs) y (IsPermutation-sym (x ∷ xs) (y ∷ ys) same) here)) [
      | inl e ↦ e
      | inr k ↦ elim ((contains-cons y ys x).0 (Contains-permutation (x ∷ xs) (y ∷ ys) x same first)) [
        | inl e ↦ sym e
        | inr m ↦ absurd (true≢false (sym (entry-less x y (rises.0 y k))
            ∙ sorted-before (y ∷ ys) y x sorted (inl (refl, m))))
      ]
    ]

-- so they are one
order-same : (xs ys : List Stamped) → Rises xs → IsSortedBy entry_before ys → IsPermutation xs ys → xs ≡ ys
order-same [] [] rises sorted same = refl
order-same [] (y ∷ ys) rises sorted same =
    absurd (contains-nil y (Contains-permutation (y ∷ ys) [] y (IsPermutation-sym [] (y ∷ ys) same) (0, omega arith, refl)))
order-same (x ∷ xs) [] rises sorted same =
    absurd (contains-nil x (Contains-permutation (x ∷ xs) [] x same (0, omega arith, refl)))
order-same (x ∷ xs) (y ∷ ys) rises sorted same =
    let first : x ≡ y = order-first x y xs ys rises sorted same in
    let rest : IsPermutation (x ∷ xs) (x ∷ ys) =
    subst (λ (z : Stamped). IsPermutation (x ∷ xs) (z ∷ ys)) (sym first) same in
    ap₂ (λ (z : Stamped) (zs : List Stamped). z ∷ zs) first
    (order-same xs ys rises.1 (order-tail y ys sorted) (order-rest x xs ys rest))

-- the stamps of one task's acts rise
order-rises : (p : Program) (task : Path) (timed : List Timed)
    → ((x : Timed) → Contains timed x → x.act.event.task ≡ task) → Rising p timed → Rises (map entry_of timed)
order-rises p task [] one rising = tt
order-rises p task (x ∷ timed) one rising = (
  λ e k. let w = contains-map_from entry_of timed e k in
      let mine = one x (0, omega arith, refl) in
      let others = one w.0 ((contains-cons x timed w.0).1 (inr w.1)) in
      subst (λ (z : Stamped). x.stamp < z.stamp) w.2 (rising.0 w.0 w.1 (inl (inl (mine ∙ sym others)))),
  order-rises p task timed (λ y k. one y ((contains-cons x timed y).1 (inr k))) rising.1,
)

-- what entries tell of is what is told of their events
order-told : (timed : List Timed) → map event_told (map entry_of timed) ≡ map as_told (events_in (acts_in timed))
order-told [] = refl
order-told (x ∷ timed) = ap (λ (z : List Event). as_told x.act.event ∷ z) (order-told timed)

pub logs_of_one_task_keep_its_order : LogsOfOneTaskKeepItsOrder
unfolding LogsOfOneTaskKeepItsOrder
logs_of_one_task_keep_its_order p c d events fields log schedule task one h m =
    let each : (x : Timed) → Contains h.timed x → x.act.event.task ≡ task = λ x k.
    one x.act.event (subst (λ (z : List Event). Contains z x.act.event) h.are
    (contains-map (λ (a : Act). a.event) (acts_in h.timed) x.act (contains-map (λ (y : Timed). y.act) h.timed x k))) in
    let same : map entry_of h.timed ≡ m.entries = order-same (map entry_of h.timed) m.entries
    (order-rises p task h.timed each h.rising) m.merged.sorted
    (IsPermutation-trans (map entry_of h.timed) log m.entries h.entries m.merged.same) in
    ap events_of m.is ∙ scheduled-events fields 1 m.entries ∙ ap (map event_told) (sym same) ∙ order-told h.timed
    ∙ ap (map as_told) h.are
