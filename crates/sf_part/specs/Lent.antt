-- Lent: that what goes to the children at a fork is exactly theirs: to each the footprint of its
-- procedure's precondition, and the variables of its frame.
-- O'Hearn (2007): the parallel rule splits what a task owns along the preconditions of the two
-- calls.
use Rattle.std.specs.Prelude.{◌≡◌, ◌↔◌, true, [], ◌∷◌, Some, is_some}
use Rattle.sf_base.specs.declared.ids.Var.{Var}
use Rattle.sf_base.specs.declared.value.Value.TheVariants.{Nil as nil}
use Rattle.sf_base.specs.HeapStore.{Slot}
use Rattle.sf_core.specs.Assertions.Sat.{Sat}
use Rattle.sf_core.specs.Machine.Config.{Frame, evaluate}
use Rattle.sf_core.specs.Machine.Step.{Event, procedure_at}
use Rattle.sf_core.specs.Machine.Whole.{running, Part}
use Rattle.sf_core.specs.Program.Syntax.{Procedure, Program}
use Rattle.sf_part.specs.Of.{IsVariable}
use Rattle.sf_part.specs.Steps.{Forks}
use Rattle.sf_part.specs.Timed.{TimedPart}

-- the slot is that of a variable of the frame, which is of that procedure: of its own ones, whose
-- references name its caller's, or of one that is free in it
abbrev pub IsNamed : Program → Frame → Procedure → Slot → Type 0
IsNamed p f g slot = (x : Var) × IsVariable p f g x × (slot ≡ f.fixed.slots x)

-- IsShareOf: the part has just the variables of that frame, and just the cells that satisfy the
-- precondition of its procedure
pub record IsShareOf (p : Program) (f : Frame) (a : Part) : Type 0 where
  pub procedure : Procedure
  pub there : procedure_at p f.fixed.procedure ≡ Some procedure
  pub variables : (slot : Slot) → (is_some (a.store slot) ≡ true) ↔ IsNamed p f procedure slot
  pub precondition : Sat procedure.pre.level (evaluate f.fixed.slots a.store) (λ n. nil) a.heap

-- Lends: a fork that leaves just that to each of the two children, which begin with one frame
pub record Lends (p : Program) (event : Event) (before after one two : TimedPart) : Type 0 where
  pub forks : Forks p event before after one two
  pub left : Frame
  pub right : Frame
  pub left_runs : one.part.stand ≡ running (left ∷ [])
  pub right_runs : two.part.stand ≡ running (right ∷ [])
  pub left_exactly : IsShareOf p left one.part
  pub right_exactly : IsShareOf p right two.part
