use Rattle.std.proofs.Common.{◌∙◌, ◌||◌, refl, ap}
use Rattle.std.proofs.lemmas.List.{length-map}
use Rattle.sf_base.proofs.Lists.{map-more}
use Rattle.sf_core.specs.Program.ProgramView.{program_of}
use Rattle.sf_core.specs.Program.View.{resource_of}
use Rattle.sf_calls.specs.Checked.Summaries.{speaks_of}
use Rattle.sf_calls.specs.Checked.Lemmas.Rows.{holding_row}
use Rattle.sf_calls.proofs.tables.holding.Goals as goal

pub loop-t-preserved : goal.loop-t-preserved
loop-t-preserved c =
    c.in_ok-push.ensures.items
    ∙ map-more (λ t. t.sets_up || speaks_of c.args.r t.in_contract) c.args.summaries.now c.args.summaries.now
    c.loop-t.t-index c.t-item.result c.loop-t.visited.items (c.t-item.result.sets_up || c.speaks_of-mentions.result)
    refl c.loop-t-test.true c.t-item.is
    (ap (λ b. c.t-item.result.sets_up || b)
    (c.speaks_of-mentions.ensures ∙ ap (speaks_of c.args.r) c.as_slice.ensures))
    c.loop-t.invariant

pub returns : goal.returns
returns c =
    holding_row (program_of c.args.p.now) c.args.r c.args.p.now.procedures.items c.args.summaries.now
    c.loop-t.t-index c.loop-t.visited.items refl c.requires.summaries
    (rw (length-map c.args.p.now.resources.items resource_of) c.requires.there)
    c.loop-t-test.false c.loop-t.invariant
