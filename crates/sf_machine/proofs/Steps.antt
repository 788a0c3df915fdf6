-- The step of an event: what was planned is its next configuration, or there is none for that reason.
-- Names: `put_LAW` of the tree of tasks, `going_LAW` of tasks that may go on, `refuses_LAW` of reasons, `plan_KIND` for
-- each kind of next step.
use Rattle.std.specs.Prelude.{◌≡◌, ◌≢◌, ℕ, ◌==◌, Bool, true, false, List, [], ◌∷◌, length, Some}
use Rattle.std.proofs.Common.{sym, ap, ◌∙◌, refl, subst, inl, inr, arith}
use Rattle.std.proofs.lemmas.Bool.Decides.{nat_tests}
use Rattle.std.proofs.lemmas.Option.{same_Some}
use Rattle.sf_base.proofs.Options.{some-once}
use Rattle.sf_base.specs.declared.ids.ProcId.{ProcId}
use Rattle.sf_base.specs.declared.ids.ResId.{ResId}
use Rattle.sf_base.specs.declared.path.Turn.TheVariants.{Left as left, Right as right}
use Rattle.sf_core.specs.Machine.Config.{Item, command, leave, Fixed, Frame, Task, runs, waits, Path, Common, Config, task_at, put_task, IsCalled, IsOver}
use Rattle.sf_core.specs.Machine.Enabled.{HasEnded}
use Rattle.sf_core.specs.Checked.Machine.InOrder.{IsInOrder}
use Rattle.sf_core.specs.Checked.Machine.Laws.{ExitsAreOfHeldResources}
use Rattle.sf_core.specs.Machine.Next.{Next, does, leaves, returns, joins, nothing, next}
use Rattle.sf_core.specs.Machine.Step.{Event, Step, TaskStep, close_room, free_all_if, task_with}
use Rattle.sf_core.specs.Program.Init.{sets_up}
use Rattle.sf_core.specs.Program.Syntax.{Command, Procedure, Program}
use Rattle.sf_core.specs.Machine.SpentSteps.{NeedsNoChild}
use Rattle.sf_core.proofs.Machine.Laws.{exits_are_of_held_resources}
use Rattle.sf_machine.specs.Answers.{IsGoing, IsRefused, Refuses, refusal_in}
use Rattle.sf_frame.specs.declared.effect.Effect.{Effect}
use Rattle.sf_frame.specs.declared.effect.Edit.TheVariants.{Nothing as no_edit, Free, Close}
use Rattle.sf_frame.specs.declared.effect.Effect.TheVariants.{Edits, OpenBoth}
use Rattle.sf_machine.specs.declared.event.Stepped.{Stepped}
use Rattle.sf_machine.specs.declared.event.Stepped.TheVariants.{Moved, Absent, Waiting, NoTask, Stale, TooDeep}
use Rattle.sf_machine.specs.declared.following.Next.{Next as Found}
use Rattle.sf_machine.specs.declared.following.Next.TheVariants.{Does, Leaves, Returns, Joins, Nothing}
use Rattle.sf_frame.specs.declared.frame.Way.TheVariants.{Past}
use Rattle.sf_frame.specs.declared.frame.Room.{Room as CodeRoom}
use Rattle.sf_machine.specs.declared.plan.Plan.{Plan}
use Rattle.sf_machine.specs.declared.plan.Plan.TheVariants.{Acts, Refused}
use Rattle.sf_machine.specs.declared.task.Change.{Change}
use Rattle.sf_machine.specs.declared.task.Change.TheVariants.{Steps, Fork, Join}
use Rattle.sf_frame.specs.declared.stack.Change.{Change as StackChange}
use Rattle.sf_frame.specs.declared.stack.Change.TheVariants.{GoOn as go_on, Return}
use Rattle.sf_frame.specs.declared.plan.Plan.{Plan as StackPlan}
use Rattle.sf_frame.specs.declared.plan.Plan.TheVariants.{Acts as acts, Forks as forks, Refused as refused}
use Rattle.sf_frame.specs.declared.refusal.Refusal.{Refusal}
use Rattle.sf_frame.specs.declared.refusal.Refusal.TheVariants.{Absent as absent, Waiting as waiting, Stale as stale, TooDeep as too_deep}
use Rattle.sf_frame.specs.Checked.Effects.{applied, EffectWithin, Suits}
use Rattle.sf_frame.specs.Frames.{frame_of}
use Rattle.sf_frame.specs.Refusals.{Refuses as StackRefuses}
use Rattle.std.specs.Option.{IsSomeAnd}
use Rattle.sf_machine.specs.Checked.Nexts.{next_by, IsIdle, IsNext}
use Rattle.sf_frame.specs.Checked.Nexts.{IsNext as IsStackNext}
use Rattle.sf_frame.specs.declared.following.Next.{Next as StackFound}
use Rattle.sf_frame.specs.declared.following.Next.TheVariants.{Does as stack_does, Leaves as stack_leaves, Returns as stack_returns, Done as stack_done}
use Rattle.sf_machine.specs.Checked.Performing.{performed}
use Rattle.sf_machine.specs.Checked.Plans.{answer_of, IsPlanned, IsPlanOf, PlansEvent}
use Rattle.sf_machine.specs.Tasks.{task_of}
use Rattle.sf_frame.specs.Checked.Plans.{Plans}
use Rattle.sf_frame.specs.Frames.{room_of}
use Rattle.sf_machine.specs.Checked.Tasks.{at_path, moved}
use Rattle.sf_machine.proofs.Enabling.{busy_goes, done_goes}

-- what a task's frames do next it does
pub next_runs : (frames : List Frame) (entry : Bool) (found : StackFound) → IsStackNext frames entry found
    → IsNext (runs frames) entry (next_by found)
next_runs frames entry (stack_does f one) h = (h.0, h.1, ap runs h.2)
next_runs frames entry (stack_leaves r) h = (h.0, h.1, h.2, ap runs h.3)
next_runs frames entry (stack_returns g room) h = (h.0, h.1, ap runs h.2, h.3, h.4, h.5)
next_runs [] entry stack_done h = tt
next_runs (f ∷ []) entry stack_done h = h
next_runs (f ∷ g ∷ below) entry stack_done h = h

-- the task that is there changed is the changed task put there
put_moved : (path : Path) (f : Task → Task) (t from : Task) → task_at path t ≡ Some from
    → at_path path f t ≡ put_task path (f from) t
put_moved [] f t from e = ap f (same_Some t from e)
put_moved (left ∷ path) f (runs frames) from e = absurd (cc)
put_moved (right ∷ path) f (runs frames) from e = absurd (cc)
put_moved (left ∷ path) f (waits frames one two) from e =
    ap (λ z. waits frames z two) (put_moved path f one from e)
put_moved (right ∷ path) f (waits frames one two) from e =
    ap (λ z. waits frames one z) (put_moved path f two from e)

-- what was planned is the next configuration
pub planned_steps : (p : Program) (ev : Event) (c : Config) (effect : Effect) (change : Change)
    → IsPlanned p ev c effect change → Step p ev c (performed ev effect change c)
planned_steps p ev c effect change k = record {
  fresh = k.fresh;
  used = refl;
  from = k.task;
  to = moved change k.task;
  there = k.there;
  steps = k.steps;
  tasks = put_moved ev.task (moved change) c.tasks k.task k.there;
}

-- a reason isn't that there is a next configuration
refuses_not_moved : (ev : Event) (s : Common) (n : Next) → Refuses ev s n Moved → ⊥
refuses_not_moved ev s (does f below c rest) h = h
refuses_not_moved ev s (leaves f below r rest) h = h
refuses_not_moved ev s (returns f below) h = h
refuses_not_moved ev s (joins frames one two) h = h
refuses_not_moved ev s nothing h = h

-- nor that there is no task
refuses_not_none : (ev : Event) (s : Common) (n : Next) → Refuses ev s n NoTask → ⊥
refuses_not_none ev s (does f below c rest) h = h
refuses_not_none ev s (leaves f below r rest) h = h
refuses_not_none ev s (returns f below) h = h
refuses_not_none ev s (joins frames one two) h = h
refuses_not_none ev s nothing h = h

-- an event that a task refuses
pub refused_answers : (p : Program) (ev : Event) (c : Config) (why : Stepped) → IsRefused ev c why
    → PlansEvent p ev c (Refused why)
refused_answers p ev c Moved k = elim k.cause [
  | inl h ↦ let e : Moved ≡ Stale = h.1 in absurd (cc)
  | inr h ↦ absurd (refuses_not_moved ev c.common (next k.task) h.1)
]
refused_answers p ev c (Absent v) k = (k, λ e. cc)
refused_answers p ev c (Waiting r) k = (k, λ e. cc)
refused_answers p ev c NoTask k = elim k.cause [
  | inl h ↦ let e : NoTask ≡ Stale = h.1 in absurd (cc)
  | inr h ↦ absurd (refuses_not_none ev c.common (next k.task) h.1)
]
refused_answers p ev c Stale k = (k, λ e. cc)
refused_answers p ev c TooDeep k = (k, λ e. cc)

-- where no task was found, or it is idle, there is none that may go on
pub none_answers : (p : Program) (ev : Event) (c : Config) → ((task : Task) → IsGoing c ev.task task → ⊥)
    → PlansEvent p ev c (Refused NoTask)
none_answers p ev c none = (none, λ e. cc)

-- a task that is idle may not go on
pub idle_rests : (c : Config) (path : Path) (t task : Task) (n : ℕ) → n ≡ length path → IsIdle (n == 0) t
    → task_at path c.tasks ≡ Some t → IsGoing c path task → ⊥
idle_rests c path t task n e i there en =
    go t path n e i (subst (IsGoing c path) (some-once (task_at path c.tasks) task t en.there there) en)
  where
    go : (t : Task) (path : Path) (n : ℕ) → n ≡ length path → IsIdle (n == 0) t → IsGoing c path t → ⊥
    go (runs []) path n e i en = en.going tt
    go (runs (f ∷ [])) [] n e i en = en.going i.1
    go (runs (f ∷ [])) (turn ∷ path) n e i en =
        let zero : n ≡ 0 = grind (arith, nat_tests) in
        absurd (omega (arith, zero, e))
    go (runs (f ∷ g ∷ below)) path n e i en = i
    go (waits frames one two) path n e i en = i en.alone

waits_goes : (path : Path) (frames : List Frame) (one two : Task) → HasEnded path (waits frames one two) → ⊥
waits_goes [] frames one two h = h
waits_goes (turn ∷ path) frames one two h = h

-- a task with something next may go on
pub going_next : (c : Config) (path : Path) (t : Task) (n : ℕ) (found : Found) → n ≡ length path
    → task_at path c.tasks ≡ Some t → IsNext t (n == 0) found → (found ≡ Nothing → ⊥) → IsGoing c path t
going_next c path t n (Does f one) e there k some = record {
  there = there;
  going = subst (λ (z : Task). HasEnded path z → ⊥) (sym k.2) (busy_goes path _ _ k.1 k.0);
  alone = subst NeedsNoChild (sym k.2) tt;
}
going_next c path t n (Leaves r) e there k some = record {
  there = there;
  going = subst (λ (z : Task). HasEnded path z → ⊥) (sym k.3) (busy_goes path k.0 _ k.2 k.1);
  alone = subst NeedsNoChild (sym k.3) tt;
}
going_next c path t n (Returns g room) e there k some = record {
  there = there;
  going = subst (λ (z : Task). HasEnded path z → ⊥) (sym k.2) (done_goes path k.0 k.1 n e k.4);
  alone = subst NeedsNoChild (sym k.2) tt;
}
going_next c path t n Joins e there k some = record {
  there = there;
  going = subst (λ (z : Task). HasEnded path z → ⊥) (sym k.3) (waits_goes path k.0 k.1 k.2);
  alone = subst NeedsNoChild (sym k.3) (k.4, k.5);
}
going_next c path t n Nothing e there k some = absurd (some refl)

-- an event whose number was used
pub plan_stale : (p : Program) (ev : Event) (c : Config) (t : Task) → IsGoing c ev.task t
    → c.used ev.number ≡ true → PlansEvent p ev c (Refused Stale)
plan_stale p ev c t going used =
    refused_answers p ev c Stale (record { task = t; going = going; cause = inl (used, refl) })

-- what a step answers for a reason tells it
answer_refuses : (P : Refusal → Type 0) (why : Refusal) → P why → IsSomeAnd (refusal_in (answer_of why)) P
answer_refuses P (absent v) h = h
answer_refuses P (waiting r) h = h
answer_refuses P stale h = h
answer_refuses P too_deep h = h

-- the event of a command
pub plan_does : (p : Program) (ev : Event) (c : Config) (f : Fixed) (below : List Frame) (one : Command)
    (rest : List Item) (planned : StackPlan) (plan : Plan) → c.used ev.number ≡ false
    → task_at ev.task c.tasks ≡ Some (task_with f (command one ∷ rest) below) → Plans p ev c.common f one planned
    → IsPlanOf planned plan → PlansEvent p ev c plan
plan_does p ev c f below one rest (acts effect change) (Acts e (Steps d)) fresh there h k = record {
  fresh = fresh;
  task = task_with f (command one ∷ rest) below;
  there = there;
  steps =
      let steps = (h below rest).0 in
      subst (λ (z : StackChange). TaskStep p ev c.common (task_with f (command one ∷ rest) below)
      (applied ev e c.common) (moved (Steps z) (task_with f (command one ∷ rest) below))) (sym k.1)
      (subst (λ (z : Effect). TaskStep p ev c.common (task_with f (command one ∷ rest) below)
      (applied ev z c.common) (moved (Steps change) (task_with f (command one ∷ rest) below))) (sym k.0) steps);
  suits = subst (λ (z : Effect). Suits ev z c.common) (sym k.0) (h below rest).1;
  within = subst (EffectWithin p) (sym k.0) (h below rest).2;
}
plan_does p ev c f below one rest (forks one_callee other_callee) (Acts e (Fork two three)) fresh there h k = record {
  fresh = fresh;
  task = task_with f (command one ∷ rest) below;
  there = there;
  steps =
      let steps = (h below rest).0 in
      subst (λ (z : Effect). TaskStep p ev c.common (task_with f (command one ∷ rest) below)
      (applied ev z c.common) (moved (Fork two three) (task_with f (command one ∷ rest) below))) (sym k.0)
      (subst (λ (z : Task). TaskStep p ev c.common (task_with f (command one ∷ rest) below)
      (applied ev (OpenBoth one_callee.opening other_callee.opening) c.common)
      (waits (record { fixed = f; todo = rest } ∷ below) (task_of two.value) z)) (sym k.2)
      (subst (λ (z : Task). TaskStep p ev c.common (task_with f (command one ∷ rest) below)
      (applied ev (OpenBoth one_callee.opening other_callee.opening) c.common)
      (waits (record { fixed = f; todo = rest } ∷ below) z (runs (frame_of other_callee.frame ∷ [])))) (sym k.1) steps));
  suits = subst (λ (z : Effect). Suits ev z c.common) (sym k.0) (h below rest).1;
  within = subst (EffectWithin p) (sym k.0) tt;
}
plan_does p ev c f below one rest (refused why) (Refused answer) fresh there h k =
    subst (λ (z : Stepped). PlansEvent p ev c (Refused z)) (sym k) (refused_answers p ev c (answer_of why) (record {
      task = task_with f (command one ∷ rest) below;
      going = record { there = there; going = busy_goes ev.task f (command one) rest below; alone = tt };
      cause = inr (fresh, answer_refuses (StackRefuses ev c.common f one) why (h below rest));
    }))
plan_does p ev c f below one rest (acts effect change) (Acts e (Fork two three)) fresh there h k = absurd k
plan_does p ev c f below one rest (acts effect change) (Acts e Join) fresh there h k = absurd k
plan_does p ev c f below one rest (acts effect change) (Refused answer) fresh there h k = absurd k
plan_does p ev c f below one rest (forks one_callee other_callee) (Acts e (Steps d)) fresh there h k = absurd k
plan_does p ev c f below one rest (forks one_callee other_callee) (Acts e Join) fresh there h k = absurd k
plan_does p ev c f below one rest (forks one_callee other_callee) (Refused answer) fresh there h k = absurd k
plan_does p ev c f below one rest (refused why) (Acts e (Steps d)) fresh there h k = absurd k
plan_does p ev c f below one rest (refused why) (Acts e (Fork two three)) fresh there h k = absurd k
plan_does p ev c f below one rest (refused why) (Acts e Join) fresh there h k = absurd k

-- the exit from a region
pub plan_leaves : (p : Program) (g : Procedure) (ev : Event) (c : Config) (f : Fixed) (below : List Frame) (r : ResId)
    (rest : List Item) → IsInOrder p g c → c.used ev.number ≡ false
    → task_at ev.task c.tasks ≡ Some (task_with f (leave r ∷ rest) below)
    → PlansEvent p ev c (Acts (Edits (Free r)) (Steps (go_on Past)))
unfolding ExitsAreOfHeldResources
plan_leaves p g ev c f below r rest o fresh there = record {
  fresh = fresh;
  task = task_with f (leave r ∷ rest) below;
  there = there;
  steps = (
    exits_are_of_held_resources p g c ev.task f below r rest o there,
    refl,
    refl,
  );
  suits = tt;
  within = tt;
}

-- a frame that is returned from was called
called : (path : Path) (below : List Frame) (n : ℕ) → n ≡ length path → ((n == 0) ≡ true → below ≢ [])
    → IsCalled path below
called [] [] n e k = k (ap (λ z. z == 0) e) refl
called [] (f ∷ below) n e k = tt
called (turn ∷ path) below n e k = tt

-- a return
pub plan_returns : (p : Program) (ev : Event) (c : Config) (f : Fixed) (below : List Frame) (g : ProcId)
    (room : CodeRoom) (all : Bool) (n : ℕ) → c.used ev.number ≡ false
    → task_at ev.task c.tasks ≡ Some (task_with f [] below) → f.room ≡ room_of room → n ≡ length ev.task
    → ((n == 0) ≡ true → below ≢ []) → f.procedure ≡ g → all ≡ sets_up p g
    → PlansEvent p ev c (Acts (Edits (Close room all)) (Steps Return))
plan_returns p ev c f below g room all n fresh there is e k who so = record {
  fresh = fresh;
  task = task_with f [] below;
  there = there;
  steps = (
    called ev.task below n e k,
    λ i. free_all_if ((so ∙ ap (sets_up p) (sym who)) i) (close_room (sym is i) c.common),
    refl,
  );
  suits = tt;
  within = tt;
}

-- a join
pub plan_joins : (p : Program) (ev : Event) (c : Config) (frames : List Frame) (one two : Task)
    → c.used ev.number ≡ false → task_at ev.task c.tasks ≡ Some (waits frames one two) → IsOver one → IsOver two
    → PlansEvent p ev c (Acts (Edits no_edit) Join)
plan_joins p ev c frames one two fresh there a b = record {
  fresh = fresh;
  task = waits frames one two;
  there = there;
  steps = (a, b, refl, refl);
  suits = tt;
  within = tt;
}
