use Rattle.std.proofs.Common.{arith}
use Rattle.std.proofs.lemmas.Grind.{common_steps}
use Rattle.std.proofs.lemmas.List.{take_rest}
use Rattle.sf_io.proofs.Written.{with_bytes-take}
use Rattle.sf_io.proofs.sink.put_all.Goals as goal

pub loop-at-preserved : goal.loop-at-preserved
loop-at-preserved g c = record {
  within = grind (arith, common_steps, c.in_ok-at.ensures.bound);
  taken = rw (c.in_ok-at.ensures.appended, c.loop-at.invariant.taken, take_rest c.args.text.now c.loop-at.at) (with_bytes-take _ _ _ _);
  counts = omega (arith, c.in_ok-at.ensures.counts);
}
