use Rattle.std.proofs.Common.{rules, arith}
use Rattle.sf_rules.proofs.Firsts.{symbols_push}
use Rattle.sf_rules.proofs.start.first_vars.Goals as goal

pub loop-i-preserved : goal.loop-i-preserved
loop-i-preserved c = search (rules, symbols_push 0 c.loop-i.i c.loop-i.i (omega arith))
