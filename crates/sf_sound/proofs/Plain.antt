-- Well-formed assertions speak of no existential but their own.
-- Names: `plain-of`.
use Rattle.std.proofs.Common.{◌≡◌, ℕ, true, List, []}
use Rattle.sf_base.specs.declared.ids.Var.{Var}
use Rattle.sf_core.specs.Assertions.Occurs.{VarOccursIn}
use Rattle.sf_core.specs.Program.Formed.{AssertionWithin, is_made}
use Rattle.sf_core.specs.Program.Syntax.{Assertion}
use Rattle.sf_rules.specs.Checked.Lemmas.Existentials.{level-exists}
use Rattle.sf_sound.specs.Checked.Suits.{IsPlain}

pub plain-of : (fields : List (List ℕ)) (V W : Var → Type 0) (a : Assertion) → AssertionWithin fields V a
    → ((x : Var) → VarOccursIn a.level x → W x) → IsPlain W a
plain-of fields V W a w occurs = record {
  variables = occurs;
  closed = λ n o. absurd (let i : is_made [] n ≡ true = level-exists fields V n [] a.level w.annotation.within o in cc);
}
