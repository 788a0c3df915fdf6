use Rattle.std.proofs.Common.{arith}
use Rattle.std.proofs.lemmas.Grind.{common_steps}
use Rattle.sf_elab.proofs.declarations.declare_shared.Goals as goal

pub loop-word-preserved : goal.loop-word-preserved
loop-word-preserved c = record {
  count = grind (arith, common_steps);
  declared = grind (arith, common_steps);
  table = grind (arith, common_steps);
  faults = grind (arith, common_steps);
}
