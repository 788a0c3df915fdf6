-- Why the event of a command is none.
-- The steps are those of O'Hearn, "Resources, Concurrency and Local Reasoning" (2007).
use Rattle.std.specs.Prelude.{◌≡◌, ◌≢◌, ◌⊎◌, None, length, ◌≤◌}
use Rattle.sf_base.specs.declared.limits.TheConstants.{TURNS}
use Rattle.sf_base.specs.declared.ids.ResId.{ResId}
use Rattle.sf_base.specs.HeapStore.{Heap}
use Rattle.sf_core.specs.declared.command.Expr.{Expr}
use Rattle.sf_base.specs.declared.value.Value.{Value}
use Rattle.sf_core.specs.Assertions.Sat.{IsTrueOf}
use Rattle.sf_core.specs.Machine.Bad.{IsAbsent}
use Rattle.sf_core.specs.Machine.Config.{Fixed, Common, evaluate}
use Rattle.sf_core.specs.Machine.Step.{Event}
use Rattle.sf_core.specs.Program.Syntax.{Command, assign, look_up, mutate, new, dispose, if, while, call, fork, with}
use Rattle.sf_frame.specs.declared.refusal.Refusal.{Refusal}
use Rattle.sf_frame.specs.declared.refusal.Refusal.TheVariants.{Absent, Waiting, Stale, TooDeep}

-- the refusal names that value, which is no location of the heap
abbrev pub FindsNone : (see : Expr → Value) → Heap → Expr → Refusal → Type 0
FindsNone see heap e (Absent v) = (see e ≡ v) × IsAbsent heap v
FindsNone see heap e (Waiting r) = ⊥
FindsNone see heap e Stale = ⊥
FindsNone see heap e TooDeep = ⊥

-- the refusal names that resource, which is held or whose region's condition is false
abbrev pub HasToWait : ResId → (held is_false : Type 0) → Refusal → Type 0
HasToWait r held is_false (Absent v) = ⊥
HasToWait r held is_false (Waiting q) = (q ≡ r) × (held ⊎ is_false)
HasToWait r held is_false Stale = ⊥
HasToWait r held is_false TooDeep = ⊥

-- why the event of a command is none, though its number is new: a look-up, a mutation or a dispose
-- finds no cell; a `new` names 0 or a location that is there; a region waits; a fork has no turn
-- left
abbrev pub Refuses : Event → Common → Fixed → Command → Refusal → Type 0
Refuses ev s f (assign place x e) why = ⊥
Refuses ev s f (look_up place x e g) why = FindsNone (evaluate f.slots s.store) s.heap e why
Refuses ev s f (mutate place e g v) why = FindsNone (evaluate f.slots s.store) s.heap e why
Refuses ev s f (new place x) why = (why ≡ Stale) × ((ev.at ≡ 0) ⊎ (s.heap ev.at ≢ None))
Refuses ev s f (dispose place e) why = FindsNone (evaluate f.slots s.store) s.heap e why
Refuses ev s f (if place test this that) why = ⊥
Refuses ev s f (while place test kept body) why = ⊥
Refuses ev s f (call place c) why = ⊥
Refuses ev s f (fork place c d) why = (why ≡ TooDeep) × (TURNS ≤ length ev.task)
Refuses ev s f (with place r test body) why =
    HasToWait r (s.held r ≢ None) (IsTrueOf (evaluate f.slots s.store) test → ⊥) why
