-- How a command of the code is read.
use Rattle.std.proofs.Common.{◌≡◌, ◌∙◌, sym, ap}
use Rattle.sf_base.specs.declared.place.Place.{Place}
use Rattle.sf_core.specs.declared.command.Call.{Call as CodeCall}
use Rattle.sf_core.specs.declared.command.Command.{Fork}
use Rattle.sf_core.specs.declared.command.Command.TheVariants.{rolls-Fork}
use Rattle.sf_core.specs.declared.command.Command.TheFolds.{fold-roll-Command}
use Rattle.sf_core.specs.Program.Syntax.{Command, fork}
use Rattle.sf_core.specs.Program.View.{call_of, command_of, command_step}

pub fork_view : (p : Place) (c d : CodeCall) → command_of (Fork p c d) ≡ fork p (call_of c) (call_of d)
fork_view p c d = ap command_of (sym (rolls-Fork p c d)) ∙ fold-roll-Command Command command_step _
