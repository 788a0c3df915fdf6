use Rattle.std.proofs.Common.{◌∙◌, length, get_or, ap}
use Rattle.std.proofs.lemmas.List.{length-map}
use Rattle.sf_base.specs.declared.ids.Var.TheVariants.{Own}
use Rattle.sf_core.specs.Program.View.{procedure_of}
use Rattle.sf_core.specs.Program.ProgramView.{program_of}
use Rattle.sf_calls.specs.Conditions.{FreeIn, Mentions}
use Rattle.sf_calls.specs.Outside.{owner}
use Rattle.sf_calls.specs.Checked.Lemmas.Rows.{leading_row, callers_there, rows_more}
use Rattle.sf_calls.proofs.tables.free_rows.Goals as goal

pub leading-requires-clause-within : goal.leading-requires-clause-within
leading-requires-clause-within c =
    rw c.deref.ensures.value
    (callers_there (program_of c.args.p.now) c.owner.result c.in_ok-callers-2.callers.items
    c.in_ok-callers-2.ensures)

pub loop-x-preserved : goal.loop-x-preserved
loop-x-preserved c = record {
  rows =
      rows_more (length c.args.p.now.procedures.items)
      (FreeIn (program_of c.args.p.now)) c.args.variables.now c.loop-x.x-index
      (Own 0) c.loop-x.rows.items c.push.new.self.items _
      c.loop-x-test.true c.loop-x.invariant.rows
      (leading_row (program_of c.args.p.now) (owner (get_or c.args.variables.now c.loop-x.x-index (Own 0)))
      (length c.args.p.now.procedures.items)
      (Mentions (program_of c.args.p.now) (get_or c.args.variables.now c.loop-x.x-index (Own 0)))
      c.in_ok-direct.direct.items _ c.deref.result.now
      (rw (c.deref.ensures.value, ← c.owner.ensures) c.in_ok-callers-2.ensures) c.in_ok-direct.ensures
      (ap length c.deref.ensures.value ∙ c.in_ok-callers-2.ensures.size
      ∙ length-map c.args.p.now.procedures.items procedure_of)
      c.in_ok-leading.ensures.size c.in_ok-leading.ensures.members)
      c.in_ok-push.ensures.items;
  callers = rw (c.owner-last.ensures, ← c.owner.ensures) c.in_ok-callers-2.ensures;
}
