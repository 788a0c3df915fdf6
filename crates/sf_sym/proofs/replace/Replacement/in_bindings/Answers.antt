use Rattle.std.proofs.Common.{None, arith}
use Rattle.std.specs.Option.{option_map}
use Rattle.sf_sym.specs.Equalities.{put_for}
use Rattle.sf_sym.proofs.InPlace.{map_next}
use Rattle.sf_sym.proofs.replace.Replacement.in_bindings.Goals as goal

pub loop-b-preserved : goal.loop-b-preserved
loop-b-preserved c =
    map_next (option_map (put_for c.args.self.symbol c.args.self.by)) c.args.bindings.now
    c.loop-b.bindings c.loop-b.b-index None _ (omega arith) (omega arith) c.loop-b.invariant
    c.in_binding.ensures
