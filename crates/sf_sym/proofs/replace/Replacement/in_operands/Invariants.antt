use Rattle.std.proofs.Common.{◌≡◌, ◌++◌, map, take, drop}
use Rattle.sf_sym.specs.Equalities.{put_for}
use Rattle.sf_sym.specs.Mapped.{operand_with}
use Rattle.sf_sym.proofs.replace.Replacement.in_operands.Given as goal

abbrev pub invariant-loop-f : goal.invariant-loop-f
invariant-loop-f l =
    l.fields ≡ map (λ f. (f.0, operand_with (put_for l.self.symbol l.self.by) f.1)) (take l.f-index l.initial.fields) ++ drop l.f-index l.initial.fields
