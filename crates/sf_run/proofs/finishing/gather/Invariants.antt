use Rattle.std.specs.Prelude.{length}
use Rattle.std.specs.Vec.Iter.{into_iter_items, into_iter_len}
use Rattle.sf_core.specs.Program.ProgramView.{program_of}
use Rattle.sf_frame.specs.Checked.Resources.{counts_of}
use Rattle.sf_run.proofs.Ending.{Gathers}
use Rattle.sf_run.proofs.finishing.gather.Given as goal

-- the contents so far have their rows, and their cells are there
abbrev pub invariant-loop-content : goal.invariant-loop-content
invariant-loop-content l = Gathers (counts_of l.p.resources.items) (length (program_of l.p).fields)
    l.fn.contents.items l.initial.heap l.heap (into_iter_items l.rest) l.rows.items

abbrev pub decreases-loop-content : goal.decreases-loop-content
decreases-loop-content l = into_iter_len l.rest
