-- Schedules that are merged from logs: that they lead where the events lead of which the log is.
-- Names: `merged-WHAT`.
use Rattle.std.specs.Prelude.{◌≡◌, ◌≤◌, ◌<◌, ℕ, suc, None, List, [], ◌∷◌, map, replicate, Contains, IsPermutation}
use Rattle.std.proofs.Common.{true≢false, inl, inr, refl, sym, ap, ◌∙◌, subst, arith}
use Rattle.std.proofs.lemmas.List.Sorted.{Contains-permutation, IsPermutation-map, IsPermutation-sym, IsPermutation-trans}
use Rattle.sf_base.proofs.Lists.{cons-same, replicate-default}
use Rattle.sf_base.proofs.Members.{contains-map, contains-map_from}
use Rattle.sf_base.proofs.Options.{some-or_none}
use Rattle.sf_base.specs.declared.value.Value.TheVariants.{Nil as nil}
use Rattle.sf_core.specs.Machine.Config.{Config}
use Rattle.sf_core.specs.Checked.Machine.Laws.{AreDistinct}
use Rattle.sf_core.specs.Machine.Numbered.{NumberedFrom}
use Rattle.sf_core.specs.Machine.Reach.{Reach}
use Rattle.sf_core.specs.Machine.Step.{Event}
use Rattle.sf_core.specs.Machine.Supplies.{has, units}
use Rattle.sf_core.specs.Program.Formed.{IsFormed}
use Rattle.sf_core.specs.Program.Syntax.{Procedure, Program}
use Rattle.sf_core.proofs.Machine.Runs.{reach-numbers}
use Rattle.sf_heap.specs.Cells.{cell_of}
use Rattle.sf_part.specs.Timed.{Stamped}
use Rattle.sf_replay.specs.ScheduleText.{events_of}
use Rattle.sf_trace.specs.Logs.{Rising, Timed, acts_in, entry_of}
use Rattle.sf_trace.specs.Trace.{Act, Depends, events_in}
use Rattle.sf_journal.specs.Before.{IsBefore}
use Rattle.sf_journal.specs.Checked.Laws.{IsBelow, IsNeverBad, MergedCellsAreEmpty, MergedLogsReachTheSame}
use Rattle.sf_journal.specs.Merge.{IsMerged, event_told, scheduled_from}
use Rattle.sf_journal.proofs.Distinct.{distinct-permuted, distinct-same}
use Rattle.sf_journal.proofs.EntryOrder.{entry-less, sorted-before}
use Rattle.sf_journal.proofs.Exchanges.{Runs}
use Rattle.sf_journal.proofs.Neighbours.{ActStep}
use Rattle.sf_journal.proofs.Orders.{before-map, before-map_from, before-or_after, before-there, contains-lift}
use Rattle.sf_journal.proofs.Reorderings.{acts-reach, acts-reordered, start-reached}
use Rattle.sf_journal.proofs.Told.{each-from, told, told_act, told-runs}

-- the act of a timed one, as it is told
abbrev told_of : Timed → Act
told_of x = told_act x.act

-- acts are told one by one
told-map : (timed : List Timed) → map told_act (acts_in timed) ≡ map told_of timed
told-map [] = refl
told-map (x ∷ timed) = ap (λ z. told_act x.act ∷ z) (told-map timed)

-- the events of acts that are told are those that their entries tell of
told-events : (timed : List Timed) → events_in (map told_of timed) ≡ map event_told (map entry_of timed)
told-events [] = refl
told-events (x ∷ timed) = ap (λ z. told x.act.event ∷ z) (told-events timed)

-- stamps rise along the list
rising-less : (p : Program) (timed : List Timed) (x y : Timed) → Rising p timed → IsBefore timed x y
    → Depends x.act y.act → x.stamp < y.stamp
rising-less p [] x y h before tied = absurd before
rising-less p (z ∷ timed) x y h (inl k) tied =
    subst (λ w. w.stamp < y.stamp) k.0 (h.0 y k.1 (inl (subst (λ w. Depends w.act y.act) (sym k.0) tied)))
rising-less p (z ∷ timed) x y h (inr k) tied = rising-less p timed x y h.1 k tied

-- two entries of one stamp aren't one before the other
stamps-differ : (a b : Stamped) → a.stamp < b.stamp → a ≡ b → ⊥
stamps-differ a b l e = let same : a.stamp ≡ b.stamp = ap (λ z. z.stamp) e in omega arith

module _ (p : Program) (entry : Procedure) (start : Config) (formed : IsFormed p) (never : IsNeverBad p start)
    (timed : List Timed) (c : Config) (runs : Runs (ActStep p entry start) start (map told_of timed) c)
    (rising : Rising p timed) (log entries : List Stamped) (logged : IsPermutation (map entry_of timed) log)
    (merged : IsMerged log entries) where
  abbrev acts : List Act
  acts = map told_of timed

  -- the entries are those of the acts
  permuted : IsPermutation (map entry_of timed) entries
  permuted = IsPermutation-trans (map entry_of timed) log entries logged merged.same

  -- the acts in the order of the entries
  lifted : (zs : List Timed) × (map entry_of zs ≡ entries) × ((x : Timed) → Contains zs x → Contains timed x)
  lifted = contains-lift entry_of timed entries (λ e k.
      Contains-permutation entries (map entry_of timed) e (IsPermutation-sym (map entry_of timed) entries permuted) k)

  abbrev others : List Act
  others = map told_of lifted.0

  distinct : AreDistinct (events_in acts)
  distinct = (reach-numbers p (events_in acts) start c (acts-reach p entry start formed acts start c runs)).distinct

  -- the events of the entries are those of the acts in their order
  others-events : events_in others ≡ map event_told entries
  others-events = told-events lifted.0 ∙ ap (map event_told) lifted.1

  others-distinct : AreDistinct (events_in others)
  others-distinct = subst AreDistinct (sym others-events)
      (distinct-permuted (map event_told (map entry_of timed)) (map event_told entries)
      (IsPermutation-map event_told (map entry_of timed) entries permuted)
      (subst AreDistinct (told-events timed) distinct))

  -- what is told of two with one entry is one
  is-told : (x z : Timed) → Contains timed x → Contains timed z → entry_of z ≡ entry_of x → told_of z ≡ told_of x
  is-told x z k l e = distinct-same acts (told_of z) (told_of x) distinct (contains-map told_of timed z l)
      (contains-map told_of timed x k) (ap (λ (w : Stamped). w.number) e)

  -- each act stands in both lists
  act-there : (a : Act) → Contains acts a → Contains others a
  act-there a k =
      let x = contains-map_from told_of timed a k in
      let there : Contains entries (entry_of x.0) =
      Contains-permutation (map entry_of timed) entries (entry_of x.0) permuted
      (contains-map entry_of timed x.0 x.1) in
      let z = contains-map_from entry_of lifted.0 (entry_of x.0)
      (subst (λ w. Contains w (entry_of x.0)) (sym lifted.1) there) in
      subst (Contains others) (is-told x.0 z.0 x.1 (lifted.2 z.0 z.1) z.2 ∙ x.2) (contains-map told_of lifted.0 z.0 z.1)

  act-back : (a : Act) → Contains others a → Contains acts a
  act-back a k =
      let x = contains-map_from told_of lifted.0 a k in
      subst (Contains acts) x.2 (contains-map told_of timed x.0 (lifted.2 x.0 x.1))

  -- entries of which the first has the less stamp are in this order
  entries-before : (a b : Stamped) → Contains entries a → Contains entries b → a.stamp < b.stamp
      → IsBefore entries a b
  entries-before a b h k l = elim (before-or_after entries a b h k) [
    | inl e ↦ absurd (stamps-differ a b l e)
    | inr w ↦ elim w [
      | inl v ↦ v
      | inr v ↦ absurd (true≢false (sym (entry-less a b l) ∙ sorted-before entries b a merged.sorted v))
    ]
  ]

  -- acts that depend on one another are in the same order in both
  act-before : (a b : Act) → IsBefore acts a b → Depends a b → IsBefore others a b
  act-before a b before tied =
      let w = before-map_from told_of timed a b before in
      let both = before-there timed w.0 w.1 w.2 in
      let less = rising-less p timed w.0 w.1 rising w.2
      (subst (λ z. Depends (told_of w.0) z) (sym w.4) (subst (λ z. Depends z b) (sym w.3) tied)) in
      let order = entries-before (entry_of w.0) (entry_of w.1)
      (Contains-permutation (map entry_of timed) entries (entry_of w.0) permuted
      (contains-map entry_of timed w.0 both.0))
      (Contains-permutation (map entry_of timed) entries (entry_of w.1) permuted
      (contains-map entry_of timed w.1 both.1)) less in
      let v = before-map_from entry_of lifted.0 (entry_of w.0) (entry_of w.1)
      (subst (λ z. IsBefore z (entry_of w.0) (entry_of w.1)) (sym lifted.1) order) in
      let found = before-there lifted.0 v.0 v.1 v.2 in
      subst (λ z. IsBefore others z b) (is-told w.0 v.0 both.0 (lifted.2 v.0 found.0) v.3 ∙ w.3)
      (subst (λ z. IsBefore others (told_of v.0) z) (is-told w.1 v.1 both.1 (lifted.2 v.1 found.1) v.4 ∙ w.4)
      (before-map told_of lifted.0 v.0 v.1 v.2))

  -- so the events of the entries lead there
  pub merged-reach : Reach p start (map event_told entries) c
  merged-reach = subst (λ z. Reach p start z c) others-events (acts-reordered p entry start formed never acts others c
      runs others-distinct act-there act-back act-before)

-- Schedules
-- the cell with so many nil fields has nil in all
empty-cell : (fields : ℕ) → cell_of (replicate fields nil) ≡ (λ field. nil)
empty-cell fields = λ i field. replicate-default nil fields field i

-- its events are those that the entries tell of
pub scheduled-events : (fields line : ℕ) (entries : List Stamped)
    → events_of (scheduled_from fields line entries) ≡ map event_told entries
scheduled-events fields line [] = refl
scheduled-events fields line (e ∷ entries) =
    cons-same _ (event_told e) (events_of (scheduled_from fields (suc line) entries)) (map event_told entries)
    (λ i. record { task = e.task; number = e.number; at = e.number; fields = empty-cell fields i })
    (scheduled-events fields (suc line) entries)

-- a location from a number on that is above all has no cell
above-none : (c : Config) (base n : ℕ) → IsBelow c base → base ≤ n → c.common.heap n ≡ None
above-none c base n below l = elim (some-or_none (c.common.heap n)) [
  | inl k ↦ let less = below n k.0 k.1 in absurd (omega arith)
  | inr e ↦ e
]

pub merged_logs_reach_the_same : MergedLogsReachTheSame
unfolding MergedLogsReachTheSame
merged_logs_reach_the_same p f store heap start c base count fields events log schedule formed s never below numbered
    h m =
    let reached = start-reached p f store heap start formed s in
    let runs = told-runs p s.procedure start formed (acts_in h.timed) start c (has (units base count)) numbered.supply
    reached (each-from (λ n. start.common.heap n ≡ None) base count (λ n l. above-none start base n below l)) h.traces
    (subst (λ z. NumberedFrom p start (has (units base count)) z c numbered.supply) (sym h.are) numbered.run) in
    subst (λ z. Reach p start z c) (sym (ap events_of m.is ∙ scheduled-events fields 1 m.entries))
    (merged-reach p s.procedure start formed never h.timed c
    (subst (λ z. Runs (ActStep p s.procedure start) start z c) (told-map h.timed) runs) h.rising log m.entries
    h.entries m.merged)

pub merged_cells_are_empty : MergedCellsAreEmpty
unfolding MergedCellsAreEmpty
merged_cells_are_empty fields log schedule event m h =
    let w = contains-map_from event_told m.entries event
    (subst (λ z. Contains z event) (ap events_of m.is ∙ scheduled-events fields 1 m.entries) h) in (
      sym (ap (λ (z : Event). z.at) w.2) ∙ ap (λ (z : Event). z.number) w.2,
      λ field. sym (ap (λ (z : Event). z.fields field) w.2),
    )
