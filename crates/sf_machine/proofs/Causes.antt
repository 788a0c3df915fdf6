-- Why an event is none: that no event has two answers.
-- Names: `moved_LAW` where there is a next configuration, `same_LAW` where two reasons are one.
use Rattle.std.specs.Prelude.{◌≡◌, ◌≢◌, ◌≤◌, ◌<◌, ℕ, List, [], ◌∷◌, length, None}
use Rattle.std.specs.Option.{IsSomeAnd}
use Rattle.std.proofs.Common.{true≢false, sym, ap, ◌∙◌, refl, subst, inl, inr, arith}
use Rattle.sf_base.proofs.Options.{some-none, some-once}
use Rattle.sf_base.specs.declared.ids.ResId.{ResId}
use Rattle.sf_base.specs.declared.limits.TheConstants.{TURNS}
use Rattle.sf_base.specs.declared.value.Value.{Value}
use Rattle.sf_base.specs.HeapStore.{Cell, Heap}
use Rattle.sf_core.specs.declared.command.Expr.{Expr}
use Rattle.sf_core.specs.Machine.Bad.{IsAbsent}
use Rattle.sf_core.specs.Machine.Config.{Item, Fixed, Frame, Task, runs, waits, Path, Common, Config, evaluate, task_at, IsCalled}
use Rattle.sf_core.specs.Machine.Enabled.{HasEnded}
use Rattle.sf_core.specs.Machine.Next.{Next, does, leaves, returns, joins, nothing, next}
use Rattle.sf_core.specs.Machine.SpentSteps.{NeedsNoChild}
use Rattle.sf_core.specs.Machine.Step.{Event, Does, Finds, Goes, Step, TaskStep}
use Rattle.sf_core.specs.Program.Syntax.{Command, assign, look_up, mutate, new, dispose, if, while, call, fork, with, Program}
use Rattle.sf_machine.specs.declared.event.Stepped.{Stepped}
use Rattle.sf_machine.specs.declared.event.Stepped.TheVariants.{Moved, Absent, Waiting, NoTask, Stale, TooDeep}
use Rattle.sf_machine.specs.Answers.{Answers, AnswersAreExclusive, IsGoing, IsRefused, RefusedEventsDoNotStep, Refuses, refusal_in}
use Rattle.sf_machine.specs.Checked.Plans.{answer_of}
use Rattle.sf_frame.specs.declared.refusal.Refusal.{Refusal}
use Rattle.sf_frame.specs.declared.refusal.Refusal.TheVariants.{Absent as absent, Waiting as waiting, Stale as stale, TooDeep as too_deep}
use Rattle.sf_frame.specs.Refusals.{FindsNone, HasToWait, Refuses as CommandRefuses}

-- the reason that an answer tells
refusal_of : {P : Refusal → Type 0} (why : Stepped) → IsSomeAnd (refusal_in why) P
    → (refusal : Refusal) × (why ≡ answer_of refusal) × P refusal
refusal_of Moved h = absurd h
refusal_of (Absent v) h = (absent v, refl, h)
refusal_of (Waiting r) h = (waiting r, refl, h)
refusal_of NoTask h = absurd h
refusal_of Stale h = (stale, refl, h)
refusal_of TooDeep h = (too_deep, refl, h)

-- a cell that is found isn't absent
moved_finds : (see : Expr → Value) (heap : Heap) (e : Expr) (why : Refusal) (location : ℕ)
    (cell : Cell)
    → Finds see heap e location cell → FindsNone see heap e why → ⊥
moved_finds see heap e (absent v) location cell f h =
    let none : heap location ≡ None = subst (IsAbsent heap) (sym h.0 ∙ f.is) h.1 in
    some-none cell (sym f.there ∙ none)
moved_finds see heap e (waiting r) location cell f h = h
moved_finds see heap e stale location cell f h = h
moved_finds see heap e too_deep location cell f h = h

-- a region that is entered is free, and its condition is true
moved_enters : (r : ResId) (held is_false : Type 0) (why : Refusal) → (held → ⊥) → (is_false → ⊥)
    → HasToWait r held is_false why → ⊥
moved_enters r held is_false (absent v) a b h = h
moved_enters r held is_false (waiting q) a b h = elim h.1 [ inl k ↦ a k | inr k ↦ b k ]
moved_enters r held is_false stale a b h = h
moved_enters r held is_false too_deep a b h = h

-- a command whose event is there doesn't refuse it
moved_does : (p : Program) (ev : Event) (s t : Common) (f : Fixed) (below : List Frame)
    (c : Command)
    (rest : List Item) (u : Task) (why : Refusal) → Does p ev s f below c rest t u
    → CommandRefuses ev s f c why → ⊥
moved_does p ev s t f below (assign place x e) rest u why d h = h
moved_does p ev s t f below (look_up place x e g) rest u why d h =
    moved_finds (evaluate f.slots s.store) s.heap e why d.0 d.1 d.2 h
moved_does p ev s t f below (mutate place e g v) rest u why d h =
    moved_finds (evaluate f.slots s.store) s.heap e why d.0 d.1 d.2 h
moved_does p ev s t f below (new place x) rest u why d h = elim h.1
    [ inl k ↦ d.0 k | inr k ↦ k d.1 ]
moved_does p ev s t f below (dispose place e) rest u why d h =
    moved_finds (evaluate f.slots s.store) s.heap e why d.0 d.1 d.2 h
moved_does p ev s t f below (if place test this that) rest u why d h = h
moved_does p ev s t f below (while place test kept body) rest u why d h = h
moved_does p ev s t f below (call place c) rest u why d h = h
moved_does p ev s t f below (fork place one two) rest u why d h =
    let low : length ev.task < TURNS = d.0 in
    let high : TURNS ≤ length ev.task = h.1 in
    absurd (omega (arith, low, high))
moved_does p ev s t f below (with place r test body) rest u why d h =
    moved_enters r (s.held r ≢ None) _ why (λ k. k d.0) (λ k. k d.1) h

-- so doesn't a task that steps
moved_goes : (p : Program) (ev : Event) (s t : Common) (n : Next) (u : Task) (why : Stepped)
    → Goes p ev s n t u
    → Refuses ev s n why → ⊥
moved_goes p ev s t (does f below c rest) u why g h =
    let k = refusal_of why h in moved_does p ev s t f below c rest u k.0 g k.2
moved_goes p ev s t (leaves f below r rest) u why g h = h
moved_goes p ev s t (returns f below) u why g h = h
moved_goes p ev s t (joins frames one two) u why g h = h
moved_goes p ev s t nothing u why g h = h

-- a configuration that has a next one for the event isn't one that refuses it
moved_not_refused : (p : Program) (ev : Event) (c d : Config) (why : Stepped) → Step p ev c d
    → IsRefused ev c why → ⊥
moved_not_refused p ev c d why s k =
    let same : k.task ≡ s.from = some-once (task_at ev.task c.tasks) k.task s.from k.going.there
    s.there in
    elim k.cause [
      | inl h ↦ true≢false (sym h.0 ∙ s.fresh)
      | inr h ↦ moved_goes p ev c.common d.common (next s.from) s.to why s.steps
          (subst (λ (z : Task). Refuses ev c.common (next z) why) same h.1)
    ]

-- a task that steps hasn't ended
moved_going : (p : Program) (ev : Event) (s t : Common) (path : Path) (task u : Task)
    → path ≡ ev.task
    → TaskStep p ev s task t u → HasEnded path task → ⊥
moved_going p ev s t path (runs []) u e g h = g
moved_going p ev s t [] (runs (f ∷ [])) u e g h =
    subst (λ (z : Path). IsCalled z [] → ⊥) e (λ k. k)
    (subst (λ todo. Goes p ev s (next (runs (record { fixed = f.fixed; todo = todo } ∷ []))) t u) h
    g).0
moved_going p ev s t [] (runs (f ∷ g ∷ below)) u e k h = h
moved_going p ev s t (turn ∷ path) (runs (f ∷ below)) u e g h = h
moved_going p ev s t [] (waits frames one two) u e g h = h
moved_going p ev s t (turn ∷ path) (waits frames one two) u e g h = h

-- nor does it wait for a child that hasn't
moved_alone : (p : Program) (ev : Event) (s t : Common) (task u : Task) → TaskStep p ev s task t u
    → NeedsNoChild task
moved_alone p ev s t (runs frames) u g = tt
moved_alone p ev s t (waits frames one two) u g = (g.0, g.1)

-- so there is one that may go on
moved_task : (p : Program) (ev : Event) (c d : Config) → (s : Step p ev c d)
    → IsGoing c ev.task s.from
moved_task p ev c d s = record {
  there = s.there;
  going = moved_going p ev c.common d.common ev.task s.from s.to refl s.steps;
  alone = moved_alone p ev c.common d.common s.from s.to s.steps;
}

-- an expression finds no cell for one reason
same_finds : (see : Expr → Value) (heap : Heap) (e : Expr) (one other : Refusal)
    → FindsNone see heap e one
    → FindsNone see heap e other → one ≡ other
same_finds see heap e (absent v) (absent w) h k = ap absent (sym h.0 ∙ k.0)
same_finds see heap e (absent v) (waiting r) h k = absurd k
same_finds see heap e (absent v) stale h k = absurd k
same_finds see heap e (absent v) too_deep h k = absurd k
same_finds see heap e (waiting r) other h k = absurd h
same_finds see heap e stale other h k = absurd h
same_finds see heap e too_deep other h k = absurd h

-- a region waits for one reason
same_waits : (r : ResId) (held is_false : Type 0) (one other : Refusal)
    → HasToWait r held is_false one
    → HasToWait r held is_false other → one ≡ other
same_waits r held is_false (absent v) other h k = absurd h
same_waits r held is_false (waiting q) (absent v) h k = absurd k
same_waits r held is_false (waiting q) (waiting s) h k = ap waiting (h.0 ∙ sym k.0)
same_waits r held is_false (waiting q) stale h k = absurd k
same_waits r held is_false (waiting q) too_deep h k = absurd k
same_waits r held is_false stale other h k = absurd h
same_waits r held is_false too_deep other h k = absurd h

-- a command refuses for one reason
same_command : (ev : Event) (s : Common) (f : Fixed) (c : Command) (one other : Refusal)
    → CommandRefuses ev s f c one
    → CommandRefuses ev s f c other → one ≡ other
same_command ev s f (assign place x e) one other h k = absurd h
same_command ev s f (look_up place x e g) one other h k = same_finds
    (evaluate f.slots s.store) s.heap e one other h k
same_command ev s f (mutate place e g v) one other h k = same_finds
    (evaluate f.slots s.store) s.heap e one other h k
same_command ev s f (new place x) one other h k = h.0 ∙ sym k.0
same_command ev s f (dispose place e) one other h k = same_finds
    (evaluate f.slots s.store) s.heap e one other h k
same_command ev s f (if place test this that) one other h k = absurd h
same_command ev s f (while place test kept body) one other h k = absurd h
same_command ev s f (call place c) one other h k = absurd h
same_command ev s f (fork place c d) one other h k = h.0 ∙ sym k.0
same_command ev s f (with place r test body) one other h k = same_waits r
    (s.held r ≢ None) _ one other h k

-- so does what comes next
same_next : (ev : Event) (s : Common) (n : Next) (one other : Stepped) → Refuses ev s n one
    → Refuses ev s n other
    → one ≡ other
same_next ev s (does f below c rest) one other h k =
    let a = refusal_of one h in
    let b = refusal_of other k in
    a.1 ∙ ap answer_of (same_command ev s f c a.0 b.0 a.2 b.2) ∙ sym b.1
same_next ev s (leaves f below r rest) one other h k = absurd h
same_next ev s (returns f below) one other h k = absurd h
same_next ev s (joins frames c d) one other h k = absurd h
same_next ev s nothing one other h k = absurd h

-- so does an event
same_refused : (ev : Event) (c : Config) (one other : Stepped) → IsRefused ev c one
    → IsRefused ev c other
    → one ≡ other
same_refused ev c one other h k =
    let same : k.task ≡ h.task =
    some-once (task_at ev.task c.tasks) k.task h.task k.going.there h.going.there in
    elim h.cause [
      | inl a ↦ elim k.cause [ inl b ↦ a.1 ∙ sym b.1 | inr b ↦ absurd (true≢false (sym a.0 ∙ b.0)) ]
      | inr a ↦ elim k.cause [
        | inl b ↦ absurd (true≢false (sym b.0 ∙ a.0))
        | inr b ↦ same_next ev c.common (next h.task) one other a.1
            (subst (λ (z : Task). Refuses ev c.common (next z) other) same b.1)
      ]
    ]

-- what an answer says: that the event moves, that there is no task, or that it is refused
data Says (p : Program) (ev : Event) (c : Config) (why : Stepped) : Type 0 where
  moves : why ≡ Moved → (d : Config) → Step p ev c d → Says p ev c why
  none : why ≡ NoTask → ((task : Task) → IsGoing c ev.task task → ⊥) → Says p ev c why
  refuses : IsRefused ev c why → Says p ev c why

said : (p : Program) (ev : Event) (c : Config) (why : Stepped) → Answers p ev c why
    → Says p ev c why
said p ev c Moved h = moves refl h.0 h.1
said p ev c (Absent v) h = refuses h
said p ev c (Waiting r) h = refuses h
said p ev c NoTask h = none refl h
said p ev c Stale h = refuses h
said p ev c TooDeep h = refuses h

same_said : (p : Program) (ev : Event) (c : Config) (one other : Stepped) → Says p ev c one
    → Says p ev c other
    → one ≡ other
same_said p ev c one other (moves e d s) (moves f d' s') = e ∙ sym f
same_said p ev c one other (moves e d s) (none f n) = absurd (n s.from (moved_task p ev c d s))
same_said p ev c one other (moves e d s) (refuses k) = absurd (moved_not_refused p ev c d other s k)
same_said p ev c one other (none e n) (moves f d s) = absurd (n s.from (moved_task p ev c d s))
same_said p ev c one other (none e n) (none f m) = e ∙ sym f
same_said p ev c one other (none e n) (refuses k) = absurd (n k.task k.going)
same_said p ev c one other (refuses k) (moves f d s) = absurd (moved_not_refused p ev c d one s k)
same_said p ev c one other (refuses k) (none f n) = absurd (n k.task k.going)
same_said p ev c one other (refuses h) (refuses k) = same_refused ev c one other h k

-- no event has two answers
pub answers_are_exclusive : AnswersAreExclusive
unfolding AnswersAreExclusive
answers_are_exclusive = λ p ev c one other h k. same_said p ev c one other (said p ev c one h)
    (said p ev c other k)

-- where the answer is another than `Moved`, there is no next configuration
pub refused_events_do_not_step : RefusedEventsDoNotStep
unfolding RefusedEventsDoNotStep
refused_events_do_not_step = λ p ev c d why h other s.
    other (same_said p ev c why Moved (said p ev c why h) (moves refl d s))
