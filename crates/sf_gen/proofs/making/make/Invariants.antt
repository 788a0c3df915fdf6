use Rattle.std.proofs.Common.{◌≡◌}
use Rattle.sf_gen.specs.Made.{made_text}
use Rattle.sf_gen.proofs.making.make.Given as goal

abbrev pub invariant-loop-before : goal.invariant-loop-before
invariant-loop-before l = l.text.items ≡ made_text l.before
