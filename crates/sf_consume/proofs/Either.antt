-- A step that is the first of two that there is.
-- Names: `either-LAW` of such a step, `first_is` and `second_is` by which of the two it is.
use Rattle.std.proofs.Common.{◌≡◌, Option, Some, None, refl, sym, ap, ◌∙◌}
use Rattle.sf_core.specs.Program.Syntax.{Conjuncts, none, also}
use Rattle.sf_consume.specs.Checked.Laws.{Subtracts, KeepsWants}
use Rattle.sf_consume.specs.Subtract.{Step, Want, either_step, first_by, first_of, stepped}
use Rattle.sf_sym.specs.declared.term.Term.{Term}

either-is : (one two : Step) (w : Want)
    → stepped (either_step one two) w ≡ first_of (stepped one w) (stepped two w)
either-is one two w = go w.conjuncts
  where
    go : (cs : Conjuncts Term) → first_by (either_step one two) w.state w.bindings cs
        ≡ first_of (first_by one w.state w.bindings cs) (first_by two w.state w.bindings cs)
    go none = refl
    go (also c cs) = refl

-- the first, where there is one
pub first_is : (one two : Step) (w after : Want) → stepped one w ≡ Some after
    → stepped (either_step one two) w ≡ Some after
first_is one two w after e = either-is one two w ∙ ap (λ o. first_of o (stepped two w)) e

-- else the second
pub second_is : (one two : Step) (w : Want) → stepped one w ≡ None → stepped (either_step one two) w ≡ stepped two w
second_is one two w e = either-is one two w ∙ ap (λ o. first_of o (stepped two w)) e

-- it keeps what is wanted where both do
pub either-keeps : (one two : Step) → KeepsWants one → KeepsWants two → KeepsWants (either_step one two)
either-keeps one two first second want after formed row =
    go (stepped one want) refl (sym (either-is one two want) ∙ row)
  where
    go : (o : Option Want) → stepped one want ≡ o → first_of o (stepped two want) ≡ Some after → Subtracts want after
    go (Some x) i e = first want after formed (i ∙ e)
    go None i e = second want after formed e
