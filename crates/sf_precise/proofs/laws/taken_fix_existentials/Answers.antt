use Rattle.sf_core.specs.Assertions.Sat.{value}
use Rattle.sf_precise.proofs.TakenFixes.{takes-agree}
use Rattle.sf_precise.proofs.laws.taken_fix_existentials.Goals as goal

pub returns : goal.returns
returns c =
    λ known cs taken rest vars here there heap one two other another t a m n d e. takes-agree
    (value vars) known cs taken rest here there heap one two other another t a m n d e
