use Rattle.sf_precise.specs.Checked.Outer.{existential}
use Rattle.sf_precise.proofs.Learning.{learns-both, learns-none}
use Rattle.sf_precise.proofs.work.Work.learn_test.Goals as goal

pub returns-in-True : goal.returns-in-True
returns-in-True c = rw c.in-True.is (learns-none c.args.self.now)

pub returns-in_ok-learn_operand-in-Equal-2 : goal.returns-in_ok-learn_operand-in-Equal-2
returns-in_ok-learn_operand-in-Equal-2 c =
    rw c.in-Equal.is
    (learns-both (existential c.in-Equal.x) (existential c.in-Equal.y) c.args.self.now
    c.learn_operand.new.self c.learn_operand-in-Equal.new.self c.in_ok-learn_operand-in-Equal.ensures
    c.in_ok-learn_operand-in-Equal-2.ensures)

pub returns-in-Differ : goal.returns-in-Differ
returns-in-Differ c = rw c.in-Differ.is (learns-none c.args.self.now)

pub learn_operand-requires-in-Equal : goal.learn_operand-requires-in-Equal
learn_operand-requires-in-Equal c = c.in_ok-learn_operand-in-Equal.ensures.within c.requires
