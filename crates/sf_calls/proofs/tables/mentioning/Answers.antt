use Rattle.std.proofs.Common.{◌∙◌, refl}
use Rattle.sf_base.proofs.Lists.{map-more}
use Rattle.sf_core.specs.Program.ProgramView.{program_of}
use Rattle.sf_calls.specs.Checked.Summaries.{has}
use Rattle.sf_calls.specs.Checked.Lemmas.Rows.{has_same, mentioning_row, summary_ordered}
use Rattle.sf_calls.proofs.tables.mentioning.Goals as goal

pub contains-requires : goal.contains-requires
contains-requires c =
    summary_ordered (program_of c.args.p.now) c.args.summaries.now c.loop-t.t-index c.t-item.result
    c.requires.summaries c.loop-t-test.true c.t-item.is

pub loop-t-preserved : goal.loop-t-preserved
loop-t-preserved c =
    c.in_ok-push.ensures.items
    ∙ map-more (λ t. has c.args.x t.mentioned) c.args.summaries.now c.args.summaries.now c.loop-t.t-index
    c.t-item.result c.loop-t.visited.items c.contains.result
    refl c.loop-t-test.true c.t-item.is
    (has_same c.contains.result c.args.x c.t-item.result.mentioned c.contains.ensures)
    c.loop-t.invariant

pub returns : goal.returns
returns c =
    mentioning_row (program_of c.args.p.now) c.args.x c.args.p.now.procedures.items c.args.summaries.now
    c.loop-t.t-index c.loop-t.visited.items refl c.requires.summaries c.requires.shared
    c.loop-t-test.false c.loop-t.invariant
