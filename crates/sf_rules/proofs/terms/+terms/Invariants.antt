use Rattle.std.proofs.Common.{◌≡◌, map, take}
use Rattle.sf_core.specs.Program.View.{conjunct_of}
use Rattle.sf_sym.specs.Mapped.{conjunct_with}
use Rattle.sf_rules.specs.Checked.Terms.{terms_of}
use Rattle.sf_rules.proofs.terms.+terms.Given as goal

abbrev pub invariant-with_terms-loop-c : goal.invariant-with_terms-loop-c
invariant-with_terms-loop-c l =
    map conjunct_of l.made.items ≡ map (λ c. conjunct_with (terms_of l.terms) (conjunct_of c))
    (take l.c-index l.from)
