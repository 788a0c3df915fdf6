use Rattle.std.proofs.Common.{arith}
use Rattle.std.proofs.lemmas.Grind.{common_steps}
use Rattle.sf_parse.specs.Checked.Given.{is_name}
use Rattle.sf_parse.proofs.Parser.Arguments.{accepts_first}
use Rattle.sf_parse.proofs.call.maybe_expressions.Goals as goal

pub returns-in_err-found-clause-fault_arguments : goal.returns-in_err-found-clause-fault_arguments
returns-in_err-found-clause-fault_arguments c = grind (arith, common_steps, accepts_first, c.in_err-found.ensures.fault_rest (is_name c.in-Some.first))
