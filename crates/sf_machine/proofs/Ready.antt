-- What the event of a command rests on: that a configuration in order has it.
-- Names: `ready_LAW`.
use Rattle.std.specs.Prelude.{◌≡◌, ℕ, ◌<◌, ◌+◌, true, false, ltb, List, ◌∷◌, length, Option, Some, None, is_some}
use Rattle.std.specs.List.{AllByRecursion, slice_get}
use Rattle.std.proofs.Common.{ap, ◌∙◌, subst, inl, inr, arith}
use Rattle.std.proofs.lemmas.Bool.Decides.{nat_tests}
use Rattle.std.proofs.lemmas.Option.{slice_get_cases}
use Rattle.sf_base.proofs.Options.{is_some-false}
use Rattle.sf_base.specs.HeapStore.{own}
use Rattle.sf_core.specs.Machine.Config.{Item, command, in_room, Room, Fixed, Frame, Config, task_at}
use Rattle.sf_core.specs.Checked.Machine.InOrder.{FrameIsFormed, IsInOrder, times_there}
use Rattle.sf_core.specs.Checked.Machine.Laws.{UsedSlotsAreThere}
use Rattle.sf_core.specs.Machine.Step.{Event, task_with}
use Rattle.sf_core.specs.Program.Formed.{HasCounts, CommandWithin}
use Rattle.sf_core.specs.Program.Syntax.{Call, Command, assign, look_up, mutate, new, dispose, if, while, call, fork, with, Procedure, Program}
use Rattle.sf_core.proofs.Machine.InOrder.Names.{in_room-own}
use Rattle.sf_core.proofs.Machine.InOrder.Slots.{fresh-slot}
use Rattle.sf_core.proofs.Machine.InOrder.Trees.{each-at}
use Rattle.sf_core.proofs.Machine.Laws.{used_slots_are_there}
use Rattle.sf_frame.specs.Checked.Plans.{HasCallees, IsReady, SetsField}

-- a slot that is there
slot_there : {X : Type 0} (o : Option X) (v : X) → o ≡ Some v → is_some o ≡ true
slot_there o v e = ap is_some e

-- the callee of a call that fits is there
callee_there : (p : Program) (c : Call) → HasCounts (slice_get p.procedures c.callee.0) c
    → c.callee.0 < length p.procedures
callee_there p c h = elim (slice_get_cases p.procedures c.callee.0).1 [
  | inl k ↦ k.1
  | inr k ↦ absurd (subst (λ z. HasCounts z c) k.1 h)
]

-- the procedures are there that a well-formed command calls
ready_callees : (p : Program) (g : Procedure) (c : Command) → CommandWithin p g c → HasCallees p c
ready_callees p g (assign place x e) h = tt
ready_callees p g (look_up place x e field) h = tt
ready_callees p g (mutate place e field v) h = tt
ready_callees p g (new place x) h = tt
ready_callees p g (dispose place e) h = tt
ready_callees p g (if place test this that) h = tt
ready_callees p g (while place test kept body) h = tt
ready_callees p g (call place c) h = callee_there p c h.callee
ready_callees p g (fork place c d) h = (callee_there p c (h.0).callee, callee_there p d (h.1).callee)
ready_callees p g (with place r test body) h = tt

-- the field that a well-formed command sets is there
ready_field : (p : Program) (g : Procedure) (c : Command) → CommandWithin p g c → SetsField p c
ready_field p g (assign place x e) h = tt
ready_field p g (look_up place x e field) h = tt
ready_field p g (mutate place e field v) h = h.1
ready_field p g (new place x) h = tt
ready_field p g (dispose place e) h = tt
ready_field p g (if place test this that) h = tt
ready_field p g (while place test kept body) h = tt
ready_field p g (call place c) h = tt
ready_field p g (fork place c d) h = tt
ready_field p g (with place r test body) h = tt

-- no variable is that has a new number
ready_fresh : (p : Program) (g : Procedure) (c : Config) (n i : ℕ) → IsInOrder p g c → c.used n ≡ false
    → c.common.store (own n i) ≡ None
ready_fresh p g c n i o fresh =
    let room : Room = record { event = n; first = 0; count = i + 1 } in
    let place : 0 + i ≡ i = omega arith in
    let inside : in_room room (own n i) ≡ true =
    subst (λ z. in_room room (own n z) ≡ true) place (in_room-own n 0 (i + 1) i (omega arith)) in
    let none : times_there p g c.tasks (own n i) ≡ 0 =
    fresh-slot p g c.used c.tasks room (own n i) fresh o.start o.numbers inside in
    let test : ltb 0 (times_there p g c.tasks (own n i)) ≡ false = grind (arith, nat_tests) in
    is_some-false (c.common.store (own n i)) (o.store (own n i) ∙ test)

-- the event of a command that comes next has what it rests on
pub ready : (p : Program) (g : Procedure) (c : Config) (ev : Event) (f : Fixed) (below : List Frame) (one : Command)
    (rest : List Item) → IsInOrder p g c → c.used ev.number ≡ false
    → task_at ev.task c.tasks ≡ Some (task_with f (command one ∷ rest) below) → IsReady p ev.number c.common f one
unfolding UsedSlotsAreThere
ready p g c ev f below one rest o fresh there = record {
  written = λ slot w.
      let k = used_slots_are_there p g c ev.task (task_with f (command one ∷ rest) below) slot o there (inr w) in
      slot_there (c.common.store slot) k.0 k.1;
  callees =
      let formed = each-at (AllByRecursion (FrameIsFormed p)) ev.task c.tasks
      (task_with f (command one ∷ rest) below) there o.formed in
      ready_callees p (formed.0).procedure one ((formed.0).todo.0);
  field =
      let formed = each-at (AllByRecursion (FrameIsFormed p)) ev.task c.tasks
      (task_with f (command one ∷ rest) below) there o.formed in
      ready_field p (formed.0).procedure one ((formed.0).todo.0);
  fresh = λ i. ready_fresh p g c ev.number i o fresh;
}
