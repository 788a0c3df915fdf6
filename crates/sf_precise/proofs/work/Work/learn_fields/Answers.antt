use Rattle.sf_precise.proofs.Learning.{learns-more, learns-none}
use Rattle.sf_precise.proofs.work.Work.learn_fields.Goals as goal

pub loop-f-init : goal.loop-f-init
loop-f-init c = learns-none c.args.self.now

pub loop-f-preserved : goal.loop-f-preserved
loop-f-preserved c =
    learns-more c.args.fields.now c.loop-f.f-index _ c.args.self.now c.loop-f.self c.learn_operand.new.self
    c.loop-f-test.true c.loop-f.invariant c.in_ok-learn_operand.ensures

pub learn_operand-requires : goal.learn_operand-requires
learn_operand-requires c = c.loop-f.invariant.within c.requires
