use Rattle.std.proofs.Common.{map, take}
use Rattle.std.specs.List.{AllZip}
use Rattle.sf_core.specs.Program.View.{procedure_of}
use Rattle.sf_calls.specs.Checked.Summaries.{IsSummaryOf}
use Rattle.sf_calls.proofs.summary.summaries_of.Given as goal

-- the summaries so far
abbrev pub invariant-loop-i : goal.invariant-loop-i
invariant-loop-i l =
    AllZip IsSummaryOf (map procedure_of (take l.i l.p.procedures.items)) l.summaries.items
