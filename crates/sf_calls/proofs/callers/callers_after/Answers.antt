use Rattle.std.proofs.Common.{sym, ◌∙◌}
use Rattle.sf_core.specs.Program.ProgramView.{program_of}
use Rattle.sf_calls.proofs.CallGraph.{callers_kept}
use Rattle.sf_calls.proofs.callers.callers_after.Goals as goal

pub returns : goal.returns
returns c =
    callers_kept (program_of c.args.p.now) c.args.but c.args.last c.args.summaries.now c.args.callers.items
    c.requires.summaries (sym c.has_calls_inside.ensures ∙ c.if-has_calls_inside.false)
    (sym c.has_calls_inside-else-has_calls_inside.ensures ∙ c.if-has_calls_inside-2.false)
    c.requires.callers
