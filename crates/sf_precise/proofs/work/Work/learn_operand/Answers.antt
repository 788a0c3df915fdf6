use Rattle.sf_precise.proofs.Learning.{learns-none}
use Rattle.sf_precise.proofs.work.Work.learn_operand.Goals as goal

pub returns-in-Known : goal.returns-in-Known
returns-in-Known c = rw c.in-Known.is (learns-none c.args.self.now)
