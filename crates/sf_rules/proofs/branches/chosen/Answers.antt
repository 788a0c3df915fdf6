use Rattle.std.proofs.Common.{rules}
use Rattle.sf_rules.proofs.Branching.{chosen_is}
use Rattle.sf_rules.proofs.branches.chosen.Goals as goal

pub returns : goal.returns
returns c =
    chosen_is c.args.so c.args.state.now c.args.given c.put_before.new.self c.in-If.field-0 c.in-If.test
    c.in-If.this c.in-If.that c.level.result c.in-Some.c c.take_first.new.self.conjuncts
    c.in-Some-test_of_terms.test (search rules) (search rules) (search rules) (search rules) (search rules)
    (search rules) (search rules)
