use Rattle.std.proofs.Common.{◌≡◌, ◌++◌, map, take, drop}
use Rattle.std.specs.Option.{option_map}
use Rattle.sf_sym.specs.Equalities.{put_for}
use Rattle.sf_sym.proofs.replace.Replacement.in_bindings.Given as goal

abbrev pub invariant-loop-b : goal.invariant-loop-b
invariant-loop-b l =
    l.bindings ≡ map (option_map (put_for l.self.symbol l.self.by)) (take l.b-index l.initial.bindings) ++ drop l.b-index l.initial.bindings
