-- What contracts say of what is owned: how a frame begins and ends, and the share of a resource that is free.
-- O'Hearn (2007); Brookes (2007). The contracts are the program's own: there is nothing here to choose.
use Rattle.std.specs.Prelude.{◌≡◌, ◌⊎◌, ℕ, Bool, true, false, ◌&&◌, ltb, Option, Some, None, cond, length, ◌+◌, ◌-◌, ◌<◌, ◌≤◌, ◌==◌}
use Rattle.std.specs.List.{slice_get}
use Rattle.std.specs.Option.{unwrap_or}
use Rattle.sf_base.specs.declared.ids.ProcId.{ProcId}
use Rattle.sf_base.specs.declared.ids.ResId.{ResId}
use Rattle.sf_base.specs.declared.ids.Var.{Var}
use Rattle.sf_base.specs.declared.ids.Var.TheVariants.{Own as OwnVar, Shared}
use Rattle.sf_base.specs.declared.value.Value.{Value}
use Rattle.sf_base.specs.declared.value.Value.TheVariants.{Nil as nil}
use Rattle.sf_base.specs.HeapStore.{Slot, shared, own}
use Rattle.sf_calls.specs.Conditions.{Free}
use Rattle.sf_core.specs.Assertions.Sat.{Sat}
use Rattle.sf_core.specs.Checked.GoodParts.{SatEach}
use Rattle.sf_core.specs.declared.command.Expr.{Expr}
use Rattle.sf_core.specs.Machine.Config.{Fixed, Room, evaluate}
use Rattle.sf_core.specs.Machine.Good.{owed_by}
use Rattle.sf_core.specs.Machine.Start.{entry_slot}
use Rattle.sf_core.specs.Machine.Step.{procedure_at, room_count}
use Rattle.sf_core.specs.Program.Formed.{IsOfResource, variable_count}
use Rattle.sf_core.specs.Program.Init.{is_init}
use Rattle.sf_core.specs.Program.Syntax.{Procedure, Program, Resource}
use Rattle.sf_safe.specs.Checked.Own.{Own, HasSlot, nothing, without_room}

-- a frame together with the values that its value parameters had at its start: its postcondition speaks of
-- them, and the machine doesn't keep them
pub record Known : Type 0 where
  pub fixed : Fixed
  pub values : ℕ → Value

-- the values that expressions have for a frame, in what it owns
abbrev pub see : Known → Own → Expr → Value
see k w = evaluate k.fixed.slots w.slots

-- the value that a variable has for a frame, in what it owns
abbrev pub value_of : Known → Own → Var → Value
value_of k w x = unwrap_or (w.slots (k.fixed.slots x)) nil

-- g sets the resources up, and the resource has a variable of that number
abbrev pub SetsVariableUp : Program → Procedure → ResId → ℕ → Type 0
SetsVariableUp p g r i = (is_init g ≡ true) × (i < variable_count (slice_get p.resources r.0))

-- a variable of a frame of g, which has that number: an own one, one of a resource that the body may use outside the
-- regions of that resource, or any of a resource where g sets them up
abbrev pub IsVariableOf : Program → ProcId → Procedure → Var → Type 0
IsVariableOf p f g (OwnVar i) = i < length g.names
IsVariableOf p f g (Shared r i) = Free p f (Shared r i) ⊎ SetsVariableUp p g r i

-- just the slots of these variables are owned
pub record HasJust (V : Var → Type 0) (slots : Var → Slot) (w : Own) : Type 0 where
  pub each : (x : Var) → V x → HasSlot w (slots x)
  pub only : (slot : Slot) (v : Value) → w.slots slot ≡ Some v → (x : Var) × V x × (slots x ≡ slot)

-- the tokens that a frame of g has when it begins and when it ends: all where it sets the resources up, and else none
abbrev pub tokens_of : Program → Procedure → ResId → Option (Unit {0})
tokens_of p g r = cond (is_init g && ltb r.0 (length p.resources)) (Some tt) None

-- just these tokens are owned: outside these no region has been entered
abbrev pub HasTokens : Program → Procedure → Own → Type 0
HasTokens p g w = (r : ResId) → w.tokens r ≡ tokens_of p g r

-- a frame of g: values and locals are in its room, variables of resources in their own slots, and different
-- variables in different slots
pub record IsFrameOf (p : Program) (f : Fixed) (g : Procedure) : Type 0 where
  pub there : procedure_at p f.procedure ≡ Some g
  pub count : f.room.count ≡ room_count g
  pub own_slots : (i : ℕ) → g.references ≤ i → i < length g.names
      → f.slots (OwnVar i) ≡ own f.room.event (f.room.first + (i - g.references))
  pub shared_slots : (r : ResId) (i : ℕ) → f.slots (Shared r i) ≡ shared r i
  pub apart : (x y : Var) → IsVariableOf p f.procedure g x → IsVariableOf p f.procedure g y
      → f.slots x ≡ f.slots y → x ≡ y

-- what a frame owns when it begins and when it ends: just its variables, and its tokens
pub record OwnsVariables (p : Program) (k : Known) (g : Procedure) (w : Own) : Type 0 where
  pub frame : IsFrameOf p k.fixed g
  pub variables : HasJust (IsVariableOf p k.fixed.procedure g) k.fixed.slots w
  pub tokens : HasTokens p g w
  -- its value parameters have the values that they had at its start
  pub values : (i : ℕ) → i < g.values → value_of k w (OwnVar (g.references + i)) ≡ k.values i

-- Entered: a frame begins, from cells that satisfy its precondition, with nil in its locals, and in the variables of
-- resources where it sets them up
pub record Entered (p : Program) (k : Known) (w : Own) : Type 0 where
  pub procedure : Procedure
  pub owns : OwnsVariables p k procedure w
  pub locals : (i : ℕ) → procedure.references + procedure.values ≤ i → i < length procedure.names
      → value_of k w (OwnVar i) ≡ nil
  pub unset : (r : ResId) (i : ℕ) → SetsVariableUp p procedure r i → value_of k w (Shared r i) ≡ nil
  pub pre : Sat procedure.pre.level (see k w) (λ n. nil) w.cells

-- Ended: a frame ends, with just the cells that satisfy what its return owes
pub record Ended (p : Program) (k : Known) (w : Own) : Type 0 where
  pub procedure : Procedure
  pub owns : OwnsVariables p k procedure w
  pub posts : SatEach (owed_by p procedure) (see k w) w.cells

-- what a frame of g gives back at its end to the caller: all that it owned but the slots that vanish with it; or nothing
-- where it sets the resources up, since then these get all of it
abbrev pub given_back : (so : Bool) → Room → Own → Own
given_back true room full = nothing
given_back false room full = without_room room full

-- Returned: what a frame that has ended gives back
pub record Returned (p : Program) (k : Known) (w : Own) : Type 0 where
  pub full : Own
  pub ended : Ended p k full
  pub is : w ≡ given_back (is_init ended.procedure) k.fixed.room full

-- FreeShare: the share of a free resource: its variables, its token, and cells that satisfy its invariant
pub record FreeShare (p : Program) (r : ResId) (w : Own) : Type 0 where
  pub resource : Resource
  pub there : slice_get p.resources r.0 ≡ Some resource
  pub variables : HasJust (IsOfResource r.0 (length resource.variables)) entry_slot w
  pub tokens : w.tokens ≡ (λ q. cond (q.0 == r.0) (Some tt) None)
  pub invariant : Sat resource.invariant.level (evaluate entry_slot w.slots) (λ n. nil) w.cells
