-- From what the parts of a replay answer to what is said of it over the files of a shelf.
-- Names: replay-*, what it says; long-*, texts that are too long; fetched-*, what was fetched.
use Rattle.std.proofs.Common.{◌≡◌, ◌⊎◌, ◌∙◌, ◌<◌, ◌≤◌, ℕ, Bool, List, Option, Some, None, ap, arith, inl, inr, length, nat_lt, subst, sym, true}
use Rattle.std.proofs.lemmas.Bool.Decides.{nat_tests}
use Rattle.std.specs.Prelude.{if◌then◌else◌}
use Rattle.sf_base.proofs.Options.{some-none}
use Rattle.sf_base.specs.declared.ids.ProcId.{ProcId}
use Rattle.sf_base.specs.declared.limits.TheConstants.{FILE_BYTES, STATE_BYTES}
use Rattle.sf_core.specs.Program.Syntax.{Program}
use Rattle.sf_foot.specs.declared.vars.Vars.{Vars}
use Rattle.sf_heap.specs.Cells.{Cells}
use Rattle.sf_io.specs.Shelf.{Files}
use Rattle.sf_machine.specs.declared.event.Stepped.{Stepped}
use Rattle.sf_replay.specs.declared.found.Found.{Found}
use Rattle.sf_replay.specs.declared.found.Found.TheVariants.{Clean, Absent, Race}
use Rattle.sf_replay.specs.declared.found.ReplayFault.TheVariants.{NotAnEvent, OutOfMemory}
use Rattle.sf_replay.specs.declared.limits.TheConstants.{SCHEDULE_BYTES}
use Rattle.sf_replay.specs.declared.schedule.Scheduled.{Scheduled}
use Rattle.sf_replay.specs.declared.schedule.ScheduleFault.TheVariants.{TooLong}
use Rattle.sf_replay.specs.Replays.{FromStart, Stops}
use Rattle.sf_replay.specs.ScheduleText.{events_of, lines_kept, refusal_from, schedule_refusal, skipped}
use Rattle.sf_state.specs.declared.fault.StartFault.TheVariants as fault
use Rattle.sf_state.specs.Names.{format_of}
use Rattle.sf_state.specs.Starts.{left_over, refused, unmet}
use Rattle.sf_state.specs.Stated.{text_refusal}
use Rattle.sf_cli.proofs.Replies.{increased-later, long-fault, long-reads}
use Rattle.sf_cli.proofs.RunReplies.{fetched-long, fetched-none}
use Rattle.sf_cli.specs.Answer.{IsAnswering, IsSaid, Reply, answer, unread}
use Rattle.sf_cli.specs.Checked.Fetched.{Fetched, IsUpTo}
use Rattle.sf_cli.specs.Checked.Stages.{Says, fails, says}
use Rattle.sf_cli.specs.FoundText.{found_status}
use Rattle.sf_cli.specs.Replayed.{BegunAnswer, ComesByBytes, ComesByState, IsStartOf, ReplayAnswer, ScheduleAnswer, ScheduleFileAnswer, admitted_replay, begun, no_event, no_schedule, not_begun, refused_replay, replayed}
use Rattle.sf_words.specs.Words.{Text, replay}

-- ---- what is said

-- the status of what is found is one of an answer
found-answering : (found : Found) (status : ℕ) → status ≡ found_status found → IsAnswering status
found-answering Clean status s = inl (omega (arith, s))
found-answering (Absent count path value) status s = inr (omega (arith, s), omega (arith, s))
found-answering (Race count path other thing) status s = inr (omega (arith, s), omega (arith, s))

-- so is that of an answer to the text of a schedule
pub replay-answering : (p : Program) (f : ProcId) (fresh : Bool) (vars : Vars) (heap : Cells) (given text : Text)
    (status : ℕ) → ScheduleAnswer p f fresh vars heap given text status → IsAnswering status
replay-answering p f fresh vars heap given text status (no_schedule e r t s) = inr (omega (arith, s), omega (arith, s))
replay-answering p f fresh vars heap given text status (no_event schedule number why g h t s) =
    inr (omega (arith, s), omega (arith, s))
replay-answering p f fresh vars heap given text status (replayed schedule found g h t s) =
    found-answering found status s

pub answering-five : (status : ℕ) → status ≡ 5 → IsAnswering status
answering-five status s = inl (omega (arith, s))

pub answering-three : (status : ℕ) → status ≡ 3 → IsAnswering status
answering-three status s = inl (omega (arith, s))

-- what a part says is what a larger one says, with what came before it
pub replay-later : (A B : Text → ℕ → Type 0) (C D : Text → Type 0) (before mid after : Text → ℕ) (text : Text)
    (status : ℕ) → ((any : Text) → before any ≤ mid any) → (A text status → B text status)
    → ((name : Text) → C name → D name) → Says A C mid after text status → Says B D before after text status
replay-later A B C D before mid after text status counts f g (says l a) = says l (f a)
replay-later A B C D before mid after text status counts f g (fails s name c i t) =
    fails s name (g name c) (increased-later (before name) (mid name) (after name) (counts name) i) t

-- the same with nothing before it
pub replay-same : (A B : Text → ℕ → Type 0) (C D : Text → Type 0) (before after : Text → ℕ) (text : Text)
    (status : ℕ) → (A text status → B text status) → ((name : Text) → C name → D name)
    → Says A C before after text status → Says B D before after text status
replay-same A B C D before after text status f g h =
    replay-later A B C D before before after text status (λ any. omega arith) f g h

-- what is said has a status of what is
pub replay-said : (told : Option Files) (before after : Text → ℕ) (file entry state schedule text : Text) (status : ℕ)
    → Reply told before after (Some (replay file entry state schedule)) text status → IsSaid status
replay-said told before after file entry state schedule text status (answer l a) = inl l
replay-said told before after file entry state schedule text status (unread s u) = inr s

-- why an event is none isn't that memory ran out
pub stops-there : (p : Program) (f : ProcId) (fresh : Bool) (vars : Vars) (heap : Cells) (schedule : List Scheduled)
    (number : ℕ) (why : Stepped) → (NotAnEvent number why ≡ OutOfMemory)
    ⊎ FromStart p f fresh vars heap (λ c. Stops p c (events_of schedule) (NotAnEvent number why))
    → FromStart p f fresh vars heap (λ c. Stops p c (events_of schedule) (NotAnEvent number why))
stops-there p f fresh vars heap schedule number why (inl e) = absurd (cc)
stops-there p f fresh vars heap schedule number why (inr h) = h

-- ---- what is fetched

-- a schedule that is too long is refused for that
long-schedule : (fields : List Text) (text : Text) → SCHEDULE_BYTES < length text
    → schedule_refusal fields text ≡ Some TooLong
long-schedule fields text more =
    let long : nat_lt SCHEDULE_BYTES (length text) ≡ true = grind (arith, nat_tests) in
    ap (λ (b : Bool). if b then Some TooLong else refusal_from fields (skipped text) 0 (lines_kept text)) long

long-given : (fields : List Text) (text : Text) → SCHEDULE_BYTES < length text → schedule_refusal fields text ≡ None → ⊥
long-given fields text more none = some-none TooLong (sym (long-schedule fields text more) ∙ none)

-- the answer to the first bytes of a schedule is that to it
fetched-schedule : (p : Program) (f : ProcId) (fresh : Bool) (vars : Vars) (heap : Cells) (out given text : Text)
    (status : ℕ) → IsUpTo SCHEDULE_BYTES given out → ScheduleAnswer p f fresh vars heap out text status
    → ScheduleAnswer p f fresh vars heap given text status
fetched-schedule p f fresh vars heap out given text status (inl e) a =
    subst (λ (z : Text). ScheduleAnswer p f fresh vars heap z text status) e a
fetched-schedule p f fresh vars heap out given text status (inr m) (no_schedule e r t s) =
    no_schedule e (long-schedule p.fields given m.1 ∙ sym (long-schedule p.fields out m.0) ∙ r) t s
fetched-schedule p f fresh vars heap out given text status (inr m) (no_event schedule number why g h t s) =
    absurd (long-given p.fields out m.0 g.accepted)
fetched-schedule p f fresh vars heap out given text status (inr m) (replayed schedule found g h t s) =
    absurd (long-given p.fields out m.0 g.accepted)

pub fetched-schedule_file : (told : Option Files) (p : Program) (f : ProcId) (fresh : Bool) (vars : Vars)
    (heap : Cells) (name out text : Text) (status : ℕ) → Fetched SCHEDULE_BYTES told name out
    → ScheduleAnswer p f fresh vars heap out text status
    → ScheduleFileAnswer told p f fresh vars heap name text status
fetched-schedule_file told p f fresh vars heap name out text status h a =
    (h.bytes, h.may_have, fetched-schedule p f fresh vars heap out h.bytes text status h.is a)

-- the answer to the first bytes of a state is that to it
pub fetched-begun : (told : Option Files) (p : Program) (f : ProcId) (out given schedule text : Text) (status : ℕ)
    → IsUpTo STATE_BYTES given out → BegunAnswer told p f out schedule text status
    → BegunAnswer told p f given schedule text status
fetched-begun told p f out given schedule text status (inl e) a =
    subst (λ (z : Text). BegunAnswer told p f z schedule text status) e a
fetched-begun told p f out given schedule text status (inr m) (not_begun g e there (refused r) t s) =
    not_begun g e there (refused (fetched-long (format_of p g) given m.1
    ∙ sym (fetched-long (format_of p g) out m.0) ∙ r)) t s
fetched-begun told p f out given schedule text status (inr m) (not_begun g e there (unmet number is n) t s) =
    absurd (fetched-none (text_refusal (format_of p g) out) fault.TooLong
    (fetched-long (format_of p g) out m.0) n.state.accepted)
fetched-begun told p f out given schedule text status (inr m) (not_begun g e there (left_over location is n) t s) =
    absurd (fetched-none (text_refusal (format_of p g) out) fault.TooLong
    (fetched-long (format_of p g) out m.0) n.state.accepted)
fetched-begun told p f out given schedule text status (inr m) (begun g vars heap parts unit fresh there x a) =
    absurd (fetched-none (text_refusal (format_of p g) out) fault.TooLong
    (fetched-long (format_of p g) out m.0) x.state.accepted)

pub fetched-start : (p : Program) (f : ProcId) (out given : Text) → IsUpTo STATE_BYTES given out → IsStartOf p f out
    → IsStartOf p f given
fetched-start p f out given (inl e) s = subst (IsStartOf p f) e s
fetched-start p f out given (inr m) s =
    absurd (fetched-none (text_refusal (format_of p s.procedure) out) fault.TooLong
    (fetched-long (format_of p s.procedure) out m.0) s.starts.state.accepted)

pub fetched-comes : (p : Program) (f : ProcId) (out given schedule name : Text) → IsUpTo STATE_BYTES given out
    → ComesByState p f out schedule name → ComesByState p f given schedule name
fetched-comes p f out given schedule name h c = (c.0, fetched-start p f out given h c.1)

-- the answer to the first bytes of a program's file is that to it
pub fetched-replay : (told : Option Files) (out bytes entry state schedule text : Text) (status : ℕ)
    → IsUpTo FILE_BYTES bytes out → ReplayAnswer told out entry state schedule text status
    → ReplayAnswer told bytes entry state schedule text status
fetched-replay told out bytes entry state schedule text status (inl e) a =
    subst (λ (z : Text). ReplayAnswer told z entry state schedule text status) e a
fetched-replay told out bytes entry state schedule text status (inr m) (refused_replay r f t s) =
    refused_replay r (long-fault out bytes r f m.0 m.1) t s
fetched-replay told out bytes entry state schedule text status (inr m) (admitted_replay p a k) =
    absurd (long-reads out p a.reads m.0)

pub fetched-comes_by : (told : Option Files) (out bytes entry state schedule name : Text) → IsUpTo FILE_BYTES bytes out
    → ComesByBytes told out entry state schedule name → ComesByBytes told bytes entry state schedule name
fetched-comes_by told out bytes entry state schedule name (inl e) c =
    subst (λ (z : Text). ComesByBytes told z entry state schedule name) e c
fetched-comes_by told out bytes entry state schedule name (inr m) c = absurd (long-reads out c.0 c.1.reads m.0)

-- what is said of a program's file
pub replay-reply : (told : Option Files) (before mid after : Text → ℕ) (file entry state schedule out text : Text)
    (status : ℕ) → Fetched FILE_BYTES told file out → ((any : Text) → before any ≤ mid any)
    → Says (ReplayAnswer told out entry state schedule) (ComesByBytes told out entry state schedule) mid after text status
    → Reply told before after (Some (replay file entry state schedule)) text status
replay-reply told before mid after file entry state schedule out text status h counts (says l a) =
    answer l (h.bytes, h.may_have, fetched-replay told out h.bytes entry state schedule text status h.is a)
replay-reply told before mid after file entry state schedule out text status h counts (fails s name c i t) =
    unread s (record {
      name = name;
      reached = inr (
        h.bytes,
        h.may_have,
        fetched-comes_by told out h.bytes entry state schedule name h.is c,
      );
      increased = increased-later (before name) (mid name) (after name) (counts name) i;
      text_is = t;
    })
