use Rattle.std.proofs.Common.{◌∙◌, refl, ap}
use Rattle.sf_base.proofs.Lists.{map-more}
use Rattle.sf_calls.specs.Checked.Listed.{is_entered}
use Rattle.sf_core.specs.Program.ProgramView.{program_of}
use Rattle.sf_calls.specs.Checked.Lemmas.Rows.{entering_row}
use Rattle.sf_calls.proofs.tables.entering.Goals as goal

pub loop-t-preserved : goal.loop-t-preserved
loop-t-preserved c =
    c.in_ok-push.ensures.items
    ∙ map-more (λ t. is_entered c.args.r t.entered.items) c.args.summaries.now c.args.summaries.now
    c.loop-t.t-index c.t-item.result c.loop-t.visited.items c.is_entered.result
    refl c.loop-t-test.true c.t-item.is
    (c.is_entered.ensures ∙ ap (is_entered c.args.r) c.deref.ensures.value) c.loop-t.invariant

pub returns : goal.returns
returns c =
    entering_row (program_of c.args.p.now) c.args.r c.args.p.now.procedures.items c.args.summaries.now
    c.loop-t.t-index c.loop-t.visited.items refl c.requires c.loop-t-test.false c.loop-t.invariant
