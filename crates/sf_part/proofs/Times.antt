-- Clocks, stamps and logs.
-- Names: each lemma has the name of the law's function; `notes-LAW` speaks of what an event notes.
use Rattle.std.specs.Prelude.{◌≡◌, ℕ, suc, ◌≤◌, ◌+◌, max, Bool, true, false, List, [], ◌∷◌, ◌++◌, length}
use Rattle.std.specs.List.{AllByRecursion}
use Rattle.std.proofs.Common.{true≢false, sym, ap, ap₂, ◌∙◌, refl, subst, arith, length-append}
use Rattle.sf_base.proofs.Elements.{all_by-append}
use Rattle.sf_base.specs.declared.limits.TheConstants.{STEPS}
use Rattle.sf_core.specs.Machine.Config.{runs, waits}
use Rattle.sf_core.specs.Machine.Next.{next}
use Rattle.sf_core.specs.Machine.Step.{Event}
use Rattle.sf_core.specs.Machine.Whole.{numbers}
use Rattle.sf_part.specs.Checked.LawsOfTime.{StampsRise, PrivateEventsStayInTime, EntriesStayInTime, ExitsStayInTime, SettlingStaysInTime, ForksStayInTime, JoinsStayInTime}
use Rattle.sf_part.specs.Timed.{Stamped, TimedPart, Notes, noted, IsInTime}
use Rattle.sf_part.proofs.Settling.{out-supply}
use Rattle.sf_part.proofs.Beside.{takes-fork, takes-join, takes-one}

pub stamps_rise : StampsRise
unfolding StampsRise
stamps_rise p event a b = (
  λ e. let h = e.notes.clock_is in omega arith,
  λ k e. let h = e.notes.clock_is in (omega arith, omega arith),
  λ k e. let h = e.notes.clock_is in (omega arith, e.stamp),
  λ one two e. let h = e.notes.clock_is in (omega arith, e.left_begins.clock, e.right_begins.clock),
  λ one two e. let h = e.notes.clock_is in (omega arith, omega arith, omega arith),
)

-- stamps that are at most a number are at most a greater one
pub logged-later : (low high : ℕ) (log : List Stamped) → low ≤ high
    → AllByRecursion (λ (e : Stamped). e.stamp ≤ low) log
    → AllByRecursion (λ (e : Stamped). e.stamp ≤ high) log
logged-later low high [] l h = tt
logged-later low high (e ∷ log) l (x, h) = (omega arith, logged-later low high log l h)

-- what an event adds is at most its stamp
noted-within : (keeps : Bool) (e : Stamped) (high : ℕ) → e.stamp ≤ high
    → AllByRecursion (λ (x : Stamped). x.stamp ≤ high) (noted keeps e)
noted-within true e high l = (l, tt)
noted-within false e high l = tt

noted-none : (keeps : Bool) (e : Stamped) → keeps ≡ false → noted keeps e ≡ []
noted-none true e h = absurd (true≢false h)
noted-none false e h = refl

-- an event leaves a part in time that had room for it
pub notes-in_time : (clock : ℕ) (log : List Stamped) (event : Event) (a b : TimedPart)
    → Notes clock log event a b
    → AllByRecursion (λ (e : Stamped). e.stamp ≤ clock) log → (a.keeps ≡ false → log ≡ [])
    → clock + suc (length (numbers b.part.supply)) ≤ STEPS → IsInTime b
notes-in_time clock log event a b n logged unlogged room =
    let entry : Stamped = record { stamp = b.clock; task = event.task; number = event.number } in
    let is = n.clock_is in
    record {
      logged = subst (λ z. AllByRecursion (λ (e : Stamped). e.stamp ≤ b.clock) z) (sym n.log_is)
          (all_by-append (λ (e : Stamped). e.stamp ≤ b.clock) log (noted a.keeps entry)
          (logged-later clock b.clock log (omega arith) logged)
          (noted-within a.keeps entry b.clock (omega arith)));
      within = omega arith;
      unlogged = λ h.
          let off : a.keeps ≡ false = sym n.keeps ∙ h in
          n.log_is ∙ ap₂ (λ x y. x ++ y) (unlogged off) (noted-none a.keeps entry off);
    }

-- so many units are left after the first
left-after : (us vs : List ℕ) (n : ℕ) → us ≡ n ∷ vs → length us ≡ suc (length vs)
left-after us vs n e = ap length e

pub private_events_stay_in_time : PrivateEventsStayInTime
unfolding PrivateEventsStayInTime
private_events_stay_in_time p event a b e t =
    let u = left-after (numbers a.part.supply) (numbers b.part.supply) event.number
    (takes-one event (next (runs e.frames)) (numbers a.part.supply) (numbers b.part.supply)
    e.spends) in
    let w = t.within in
    notes-in_time a.clock a.log event a b e.notes t.logged t.unlogged (omega arith)

pub entries_stay_in_time : EntriesStayInTime
unfolding EntriesStayInTime
entries_stay_in_time p event a b k e room t =
    let u = left-after (numbers a.part.supply) (numbers b.part.supply) event.number
    (takes-one event (next (runs e.frames)) (numbers a.part.supply) (numbers b.part.supply)
    e.spends) in
    notes-in_time (max a.clock k.stamp) a.log event a b e.notes
    (logged-later a.clock (max a.clock k.stamp) a.log (omega arith) t.logged) t.unlogged
    (omega arith)

pub exits_stay_in_time : ExitsStayInTime
unfolding ExitsStayInTime
exits_stay_in_time p event a b k e t =
    let u = left-after (numbers a.part.supply) (numbers b.part.supply) event.number
    (takes-one event (next (runs e.frames)) (numbers a.part.supply) (numbers e.both.supply) e.spends
    ∙ ap (λ z. event.number ∷ numbers z) e.hand.supply) in
    let w = t.within in
    notes-in_time a.clock a.log event a b e.notes t.logged t.unlogged (omega arith)

pub settling_stays_in_time : SettlingStaysInTime
unfolding SettlingStaysInTime
settling_stays_in_time p event a b settled e t =
    let u = left-after (numbers a.part.supply) (numbers b.part.supply) event.number
    (takes-one event (next (runs e.frames)) (numbers a.part.supply) (numbers e.all.supply) e.spends
    ∙ ap (λ z. event.number ∷ numbers z) (out-supply e.all b.part settled e.out)) in
    let w = t.within in
    notes-in_time a.clock a.log event a b e.notes t.logged t.unlogged (omega arith)

pub forks_stay_in_time : ForksStayInTime
unfolding ForksStayInTime
forks_stay_in_time p event a b one two e t =
    let u = left-after (numbers a.part.supply) (numbers one.part.supply ++ numbers two.part.supply)
    event.number
    (takes-fork event (next (runs e.frames)) (numbers a.part.supply) (numbers one.part.supply)
    (numbers two.part.supply) e.fork e.spends) in
    let v = length-append (numbers one.part.supply) (numbers two.part.supply) in
    let w = t.within in
    let none : length (numbers b.part.supply) ≡ 0 = ap length e.none_left in
    let c = e.notes.clock_is in
    let l = e.left_begins.clock in
    let r = e.right_begins.clock in (
      notes-in_time a.clock a.log event a b e.notes t.logged t.unlogged (omega arith),
      record {
        logged = subst (λ z. AllByRecursion (λ (x : Stamped). x.stamp ≤ one.clock) z)
            (sym e.left_begins.log) tt;
        within = omega arith;
        unlogged = λ h. e.left_begins.log;
      },
      record {
        logged = subst (λ z. AllByRecursion (λ (x : Stamped). x.stamp ≤ two.clock) z)
            (sym e.right_begins.log) tt;
        within = omega arith;
        unlogged = λ h. e.right_begins.log;
      },
    )

pub joins_stay_in_time : JoinsStayInTime
unfolding JoinsStayInTime
joins_stay_in_time p event a one two b e room t l r =
    let top = max a.clock (max one.clock two.clock) in
    let u = left-after (numbers one.part.supply ++ numbers two.part.supply) (numbers b.part.supply)
    event.number
    (takes-join event (next (waits e.frames (runs []) (runs []))) (numbers one.part.supply)
    (numbers two.part.supply) (numbers b.part.supply) e.spends) in
    let v = length-append (numbers one.part.supply) (numbers two.part.supply) in
    let P = λ (x : Stamped). x.stamp ≤ top in
    notes-in_time top (a.log ++ (one.log ++ two.log)) event a b e.notes
    (all_by-append P a.log (one.log ++ two.log)
    (logged-later a.clock top a.log (omega arith) t.logged)
    (all_by-append P one.log two.log (logged-later one.clock top one.log (omega arith) l.logged)
    (logged-later two.clock top two.log (omega arith) r.logged)))
    (λ h. ap₂ (λ x y. x ++ y) (t.unlogged h)
    (ap₂ (λ x y. x ++ y) (l.unlogged (e.left_keeps ∙ h)) (r.unlogged (e.right_keeps ∙ h))))
    (omega arith)
