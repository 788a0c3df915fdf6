use Rattle.std.proofs.Common.{rules}
use Rattle.sf_core.specs.Program.View.{level_of}
use Rattle.sf_precise.specs.Checked.Lemmas.Branches.{error-not, ordered-determined, ordered-stands}
use Rattle.sf_precise.proofs.ordering.find_order.Goals as goal

pub returns-in_err-level-clause-undetermined : goal.returns-in_err-level-clause-undetermined
returns-in_err-level-clause-undetermined c =
    error-not c.from_residual-in_err-level.result (level_of c.args.a.now.level) (search rules)

pub invariant_of-result : goal.invariant_of-result
invariant_of-result c =
    record {
      in_order =
          ordered-stands (level_of c.args.a.now.level)
          (level_of c.in_ok-level.level) c.in_ok-level.ensures.ordered;
    }

pub returns-clause-determined : goal.returns-clause-determined
returns-clause-determined c =
    ordered-determined (level_of c.args.a.now.level)
    (level_of c.in_ok-level.level) c.in_ok-level.ensures.ordered
