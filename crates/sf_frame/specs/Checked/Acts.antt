-- What the code finds that a command does.
-- Ordinary: an edit of what is shared and the way on, or what is made, or why there is none.
use Rattle.std.specs.Prelude.{◌≡◌, ℕ, ◌<◌, true, length, Some, is_some}
use Rattle.sf_base.specs.declared.ids.FieldId.{FieldId}
use Rattle.sf_base.specs.declared.ids.ResId.{ResId}
use Rattle.sf_base.specs.declared.place.Place.{Place}
use Rattle.sf_base.specs.HeapStore.{Heap}
use Rattle.sf_base.specs.declared.value.Value.{Value}
use Rattle.sf_base.specs.declared.value.Value.TheVariants.{Loc as loc}
use Rattle.sf_core.specs.declared.assertion.Test.{Test}
use Rattle.sf_core.specs.declared.command.Expr.{Expr}
use Rattle.sf_core.specs.declared.command.Occurrence.{Occurrence}
use Rattle.sf_core.specs.Machine.Config.{Fixed, Common}
use Rattle.sf_core.specs.Machine.Step.{Event}
use Rattle.sf_core.specs.Program.Syntax.{Command, assign, look_up, mutate, new, dispose, if, while, call, fork, with, Block, Assertion, Program}
use Rattle.sf_core.specs.Program.View.{call_of}
use Rattle.sf_heap.specs.Cells.{FieldValues, cell_of}
use Rattle.sf_frame.specs.declared.act.Act.{Act}
use Rattle.sf_frame.specs.declared.act.Act.TheVariants.{Edits, Makes, Enters, Calls, Forks, Refused}
use Rattle.sf_frame.specs.declared.effect.Effect.TheVariants.{Edits as edits, Make, Hold}
use Rattle.sf_frame.specs.declared.frame.Way.TheVariants.{Past, Into}
use Rattle.sf_frame.specs.declared.plan.Plan.TheVariants.{Acts as acts, Refused as refused}
use Rattle.sf_frame.specs.declared.stack.Change.TheVariants.{GoOn as go_on}
use Rattle.sf_frame.specs.Checked.Plans.{Plans, TakesRoom}

-- the act is what a command's event does, whatever else the task has to do, or says why there is
-- none
abbrev pub ActsOf : Program → Event → Common → Fixed → Command → Act → Type 0
ActsOf p ev s f one (Edits edit way) = Plans p ev s f one (acts (edits edit) (go_on way))
ActsOf p ev s f one (Makes spot) = Plans p ev s f one (acts (Make spot) (go_on Past))
ActsOf p ev s f one (Enters r) = Plans p ev s f one (acts (Hold r) (go_on Into))
ActsOf p ev s f one (Calls c) = (place : Place) × (one ≡ call place (call_of c.now))
ActsOf p ev s f one (Forks c d) = (place : Place)
    × (one ≡ fork place (call_of c.now) (call_of d.now))
ActsOf p ev s f one (Refused why) = Plans p ev s f one (refused why)

-- what is shared is edited, or why there is none
abbrev pub IsEdit : Act → Type 0
IsEdit (Makes spot) = ⊥
IsEdit (Enters r) = ⊥
IsEdit (Calls c) = ⊥
IsEdit (Forks c d) = ⊥
IsEdit _ = Unit {0}

-- more than an edit comes only of a command whose event may take room
abbrev pub FitsAct : Command → Act → Type 0
FitsAct one (Makes spot) = TakesRoom one
FitsAct one (Enters r) = TakesRoom one
FitsAct one _ = Unit {0}

-- of a command that speaks of no procedure, by an event that makes no cell
abbrev pub ActsOfEach : Common → Fixed → (Place → Command) → Act → Type 0
ActsOfEach s f one act = (p : Program) (ev : Event) (place : Place)
    → ActsOf p ev s f (one place) act

-- of `x = E`
abbrev pub ActsAssign : Common → Fixed → Occurrence → Expr → Act → Type 0
ActsAssign s f x e = ActsOfEach s f (λ place. assign place x e)

-- of `x = E->f`
abbrev pub ActsLookUp : Common → Fixed → Occurrence → Expr → FieldId → Act → Type 0
ActsLookUp s f x e field = ActsOfEach s f (λ place. look_up place x e field)

-- of `E->f = F`, in a program that has the field
abbrev pub ActsMutate : Common → Fixed → Expr → FieldId → Expr → Act → Type 0
ActsMutate s f e field v act = (p : Program) (ev : Event) (place : Place)
    → field.0 < length p.fields
    → ActsOf p ev s f (mutate place e field v) act

-- of `x = new()`
abbrev pub ActsNew : Event → Common → Fixed → Occurrence → Act → Type 0
ActsNew ev s f x act = (p : Program) (place : Place) → ActsOf p ev s f (new place x) act

-- of `dispose(E)`
abbrev pub ActsDispose : Common → Fixed → Expr → Act → Type 0
ActsDispose s f e = ActsOfEach s f (λ place. dispose place e)

-- of `if (B) C else D`
abbrev pub ActsIf : Common → Fixed → Test Expr → (this that : Block) → Act → Type 0
ActsIf s f test this that = ActsOfEach s f (λ place. if place test this that)

-- of `while (B) C`, whatever its invariant is
abbrev pub ActsWhile : Common → Fixed → Test Expr → Block → Act → Type 0
ActsWhile s f test body act = (kept : Assertion)
    → ActsOfEach s f (λ place. while place test kept body) act

-- of `with r when (B) C`
abbrev pub ActsWith : Common → Fixed → ResId → Test Expr → Block → Act → Type 0
ActsWith s f r test body = ActsOfEach s f (λ place. with place r test body)

-- the value is the location of a cell with those values in its fields
pub record IsCellOf (heap : Heap) (root : Value) (values : FieldValues) : Type 0 where
  pub location : ℕ
  pub is : root ≡ loc location
  pub there : heap location ≡ Some (cell_of values)

-- the value is that location, where a cell is
pub record IsCellAt (heap : Heap) (root : Value) (location : ℕ) : Type 0 where
  pub is : root ≡ loc location
  pub there : is_some (heap location) ≡ true
