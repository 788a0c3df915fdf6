use Rattle.std.proofs.Common.{◌∙◌, None, length, get_or, ap}
use Rattle.std.proofs.lemmas.List.{length-map}
use Rattle.sf_core.specs.Program.View.{procedure_of}
use Rattle.sf_core.specs.Program.ProgramView.{program_of}
use Rattle.sf_calls.specs.Conditions.{Takes, Enters}
use Rattle.sf_calls.specs.Checked.Lemmas.Decided.{resource}
use Rattle.sf_calls.specs.Checked.Lemmas.Rows.{leading_row, callers_there, rows_more}
use Rattle.sf_calls.proofs.tables.takes_rows.Goals as goal

pub leading-requires-clause-within : goal.leading-requires-clause-within
leading-requires-clause-within c =
    rw c.deref.ensures.value
    (callers_there (program_of c.args.p.now) None c.in_ok-callers.callers.items c.in_ok-callers.ensures)

pub loop-r-preserved : goal.loop-r-preserved
loop-r-preserved c =
    rows_more (length c.args.p.now.procedures.items) (Takes (program_of c.args.p.now)) c.args.resources.now
    c.loop-r.r-index (resource 0) c.loop-r.rows.items c.push.new.self.items _
    c.loop-r-test.true c.loop-r.invariant
    (leading_row (program_of c.args.p.now) None (length c.args.p.now.procedures.items)
    (Enters (program_of c.args.p.now) (get_or c.args.resources.now c.loop-r.r-index (resource 0)))
    c.in_ok-direct.direct.items _ c.deref.result.now
    (rw c.deref.ensures.value c.in_ok-callers.ensures) c.in_ok-direct.ensures
    (ap length c.deref.ensures.value ∙ c.in_ok-callers.ensures.size
    ∙ length-map c.args.p.now.procedures.items procedure_of)
    c.in_ok-leading.ensures.size c.in_ok-leading.ensures.members)
    c.in_ok-push.ensures.items
