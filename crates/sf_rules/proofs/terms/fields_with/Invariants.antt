use Rattle.std.proofs.Common.{◌≡◌, map, take}
use Rattle.sf_sym.specs.Mapped.{operand_with}
use Rattle.sf_rules.specs.Checked.Terms.{terms_of}
use Rattle.sf_rules.proofs.terms.fields_with.Given as goal

abbrev pub invariant-loop-f : goal.invariant-loop-f
invariant-loop-f l = l.made.items ≡ map (λ f. (f.0, operand_with (terms_of l.terms) f.1)) (take l.f-index l.fields)
