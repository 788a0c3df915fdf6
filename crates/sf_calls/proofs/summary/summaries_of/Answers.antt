use Rattle.std.proofs.Common.{◌≤◌, ◌∙◌, length, ap, arith}
use Rattle.std.proofs.lemmas.List.{take_all}
use Rattle.sf_base.proofs.Lookup.{get-read_map}
use Rattle.sf_core.specs.Program.ProgramView.{program_of}
use Rattle.sf_core.specs.Program.View.{procedure_of}
use Rattle.sf_core.proofs.Inits.{sets_up-is}
use Rattle.sf_calls.specs.Checked.Lemmas.Rows.{summaries_more}
use Rattle.sf_calls.proofs.summary.summaries_of.Goals as goal

pub summary_of-requires : goal.summary_of-requires
summary_of-requires c =
    c.is_init-sets_up.ensures
    ∙ sets_up-is (program_of c.args.p.now) _ (procedure_of c.h-item.result)
    (get-read_map procedure_of c.args.p.now.procedures.items c.deref-h-items.result.now c.loop-i.i c.h-item.result
    c.deref-h-items.ensures.value c.loop-i-test.true c.h-item.is)

pub loop-i-preserved : goal.loop-i-preserved
loop-i-preserved c =
    summaries_more c.args.p.now.procedures.items c.deref-h-items.result.now c.loop-i.i c.h-item.result
    c.loop-i.summaries.items _ _ c.deref-h-items.ensures.value c.loop-i-test.true c.h-item.is
    c.loop-i.invariant c.in_ok-summary_of.ensures c.in_ok-push.ensures.items

pub returns : goal.returns
returns c =
    let all : length c.args.p.now.procedures.items ≤ c.loop-i.i = omega
    (arith, c.loop-i-test.false, ap length c.deref-h-items.ensures.value) in
    rw (take_all c.loop-i.i c.args.p.now.procedures.items all) at c.loop-i.invariant
