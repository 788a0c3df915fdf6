use Rattle.std.proofs.Common.{length}
use Rattle.sf_core.specs.Machine.HasThroughout.{HasThroughout}
use Rattle.sf_core.specs.Program.ProgramView.{program_of}
use Rattle.sf_calls.specs.Checked.Lemmas.Decided.{resource}
use Rattle.sf_calls.specs.Checked.Lemmas.Rows.{rows_more}
use Rattle.sf_calls.proofs.tables.holds_rows.Goals as goal

pub loop-r-preserved : goal.loop-r-preserved
loop-r-preserved c =
    rows_more (length c.args.p.now.procedures.items) (HasThroughout (program_of c.args.p.now)) c.args.resources.now
    c.loop-r.r-index (resource 0) c.loop-r.rows.items c.push.new.self.items c.in_ok-holding.field-0
    c.loop-r-test.true c.loop-r.invariant c.in_ok-holding.ensures c.in_ok-push.ensures.items
