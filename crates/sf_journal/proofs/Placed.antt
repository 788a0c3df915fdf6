-- A log that any run has: each act is stamped by its place, so the entries are merged as they stand.
-- Names: `placed-WHAT`.
use Rattle.std.specs.Prelude.{◌≡◌, ◌+◌, ◌≤◌, ◌<◌, ℕ, zero, suc, List, [], ◌∷◌, map, length, get_or, Contains, IsSortedBy}
use Rattle.std.proofs.Common.{inl, inr, refl, sym, ap, ◌∙◌, subst, arith}
use Rattle.std.proofs.lemmas.List.Sorted.{IsPermutation-refl}
use Rattle.sf_base.proofs.Elements.{contains-cons, contains-nil}
use Rattle.sf_core.specs.Program.Syntax.{Program}
use Rattle.sf_part.specs.Timed.{Stamped}
use Rattle.sf_trace.specs.Checked.Lemmas.Traces.{trace-of}
use Rattle.sf_trace.specs.Logs.{Rising, Timed, acts_in, entry_of}
use Rattle.sf_trace.specs.Trace.{Act, Traces, events_in}
use Rattle.sf_journal.proofs.EntryOrder.{entry-less, entry-order}
use Rattle.sf_journal.specs.Checked.Laws.{RunsHaveJournals}
use Rattle.sf_journal.specs.Merge.{entry_before, scheduled_from}

-- the acts with their places, counted from that number on
placed : ℕ → List Act → List Timed
placed n [] = []
placed n (a ∷ acts) = record { act = a; stamp = n } ∷ placed (suc n) acts

placed-acts : (n : ℕ) (acts : List Act) → acts_in (placed n acts) ≡ acts
unfolding placed
placed-acts n [] = refl
placed-acts n (a ∷ acts) = ap (λ (z : List Act). a ∷ z) (placed-acts (suc n) acts)

placed-above : (n : ℕ) (acts : List Act) (y : Timed) → Contains (placed n acts) y → n ≤ y.stamp
unfolding placed
placed-above n [] y h = absurd (contains-nil y h)
placed-above n (a ∷ acts) y h = elim ((contains-cons (record { act = a; stamp = n }) (placed (suc n) acts) y).0 h) [
  | inl e ↦ let same : n ≡ y.stamp = ap (λ (z : Timed). z.stamp) e in omega arith
  | inr k ↦ let more = placed-above (suc n) acts y k in omega arith
]

placed-rising : (p : Program) (n : ℕ) (acts : List Act) → Rising p (placed n acts)
unfolding placed
placed-rising p n [] = tt
placed-rising p n (a ∷ acts) = (
  λ y k tied. let more = placed-above (suc n) acts y k in omega arith,
  placed-rising p (suc n) acts,
)

-- the entries of those
abbrev entries_placed : ℕ → List Act → List Stamped
entries_placed n acts = map entry_of (placed n acts)

placed-at : (n : ℕ) (acts : List Act) (k : ℕ) (d : Stamped) → k < length (entries_placed n acts)
    → (get_or (entries_placed n acts) k d).stamp ≡ n + k
unfolding placed
placed-at n [] k d less = absurd (omega arith)
placed-at n (a ∷ acts) zero d less = omega arith
placed-at n (a ∷ acts) (suc k) d less =
    let at = placed-at (suc n) acts k d (omega arith) in omega (arith, at)

placed-sorted : (n : ℕ) (acts : List Act) → IsSortedBy entry_before (entries_placed n acts)
placed-sorted n acts k d low high =
    let entries = entries_placed n acts in
    let at = placed-at n acts k d (omega arith) in
    let next = placed-at n acts (k + 1) d (omega arith) in
    entry-order.one_way (get_or entries k d) (get_or entries (k + 1) d)
    (entry-less (get_or entries k d) (get_or entries (k + 1) d) (omega (arith, at, next)))

pub runs_have_journals : RunsHaveJournals
unfolding RunsHaveJournals
runs_have_journals p c d events fields reach =
    let (acts, are, traces) = trace-of p events c d reach in
    let log = entries_placed 1 acts in (
      log,
      record {
        timed = placed 1 acts;
        are = ap events_in (placed-acts 1 acts) ∙ are;
        traces = subst (λ (z : List Act). Traces p c z d) (sym (placed-acts 1 acts)) traces;
        entries = IsPermutation-refl log;
        rising = placed-rising p 1 acts;
      },
      scheduled_from fields 1 log,
      record {
        entries = log;
        merged = record { same = IsPermutation-refl log; sorted = placed-sorted 1 acts; stable = λ x. refl };
        is = refl;
      },
    )
