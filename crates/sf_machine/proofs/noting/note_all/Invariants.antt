use Rattle.std.proofs.Common.{List, length}
use Rattle.sf_base.specs.declared.ids.Thing.{Thing}
use Rattle.sf_core.specs.Machine.Enabled.{ReadsAll}
use Rattle.sf_machine.specs.Checked.Noting.{AreFit, Notes}
use Rattle.sf_frame.specs.Frames.{fixed_of}
use Rattle.sf_machine.proofs.noting.note_all.Given as goal

-- whatever list has what the expressions that are left evaluate besides what is noted has what all evaluate
abbrev pub invariant-exprs : goal.invariant-exprs
invariant-exprs l =
    ((new : List Thing) → Notes l.things.items new (ReadsAll (fixed_of l.frame).slots l.left)
    → Notes l.initial.things.items new (ReadsAll (fixed_of l.frame).slots l.all))
    × AreFit (ReadsAll (fixed_of l.frame).slots l.left)

abbrev pub decreases-exprs : goal.decreases-exprs
decreases-exprs l = length l.left
