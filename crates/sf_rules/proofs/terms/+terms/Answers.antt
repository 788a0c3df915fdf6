use Rattle.std.proofs.Common.{sym, ap, ◌∙◌, map}
use Rattle.std.proofs.lemmas.List.{take_all}
use Rattle.sf_core.specs.Program.Syntax.{level}
use Rattle.sf_core.specs.Program.View.{conjunct_of, conjuncts}
use Rattle.sf_rules.specs.Checked.Lemmas.{level_of-out}
use Rattle.sf_sym.specs.Mapped.{conjuncts_with, conjunct_with, level_with, operand_with}
use Rattle.sf_rules.specs.Checked.Terms.{terms_of}
use Rattle.sf_rules.proofs.Worded.{conjuncts_with-of, level_of-roll, points_with}
use Rattle.sf_rules.proofs.terms.+terms.Goals as goal

pub level_with-returns : goal.level_with-returns
level_with-returns t c =
    level_of-roll _
    ∙ ap (level c.args.level.now.made)
    (c.in_ok-with_terms.ensures ∙ ap (λ xs. conjuncts_with (terms_of c.args.terms)
    (conjuncts (map conjunct_of xs))) c.deref.ensures.value)
    ∙ ap (level_with (terms_of c.args.terms)) (sym (level_of-out c.args.level.now))

pub with_terms-returns : goal.with_terms-returns
with_terms-returns t c =
    conjuncts_with-of (terms_of c.args.terms) conjunct_of conjunct_of c.args.from.now c.loop-c.made.items
    (c.loop-c.invariant ∙ ap (map (λ c2. conjunct_with (terms_of c.args.terms) (conjunct_of c2)))
    (take_all c.loop-c.c-index c.args.from.now c.loop-c-test.false))

pub conjunct_with-returns-in_ok-fields-in-Points : goal.conjunct_with-returns-in_ok-fields-in-Points
conjunct_with-returns-in_ok-fields-in-Points t c =
    points_with (terms_of c.args.terms) c.args.c.now c.in-Points.place c.in-Points.root c.in-Points.fields
    c.operand_with.result c.in_ok-fields-in-Points.fields c.in-Points.is c.operand_with.ensures
    (c.in_ok-fields-in-Points.ensures ∙ ap (map (λ f. (f.0, operand_with (terms_of c.args.terms) f.1)))
    c.deref.ensures.value)
