use Rattle.std.proofs.Common.{◌≡◌, List, ◌∷◌, ◌∙◌, ap, sym}
use Rattle.sf_parse.specs.Leaf.{Leaf, leaves}
use Rattle.sf_parse.specs.Leaf as k
use Rattle.sf_parse.specs.Checked.Given.{all_names}
use Rattle.sf_parse.specs.Grammar.{expr, more_exprs}
use Rattle.sf_parse.specs.Checked.Machine as m
use Rattle.sf_parse.specs.Checked.Machine.{verdict}
use Rattle.sf_parse.proofs.Parser.Arguments.{accepts_next, accepts_more, all_names_push, more_exprs_push}
use Rattle.sf_parse.proofs.call.more_expressions.Goals as goal

pub loop-after-preserved : goal.loop-after-preserved
loop-after-preserved c =
    let xs = c.loop-after.found.items in
    let x = c.in-Some-eat_expression.value in
    let ts = c.loop-after.rest.now in
    let us = c.in-Some.after.now in
    let r = c.in-Some-eat_expression.after.now in
    let here : leaves ts ≡ k.Comma ∷ expr x ∷ leaves r = c.in-Some.ensures.spelled ∙ ap (λ (z : List Leaf). k.Comma ∷ z) c.in-Some-eat_expression.ensures.spelled in
    rw c.in_ok-add.ensures record {
      spelled = c.loop-after.invariant.spelled ∙ ap (more_exprs xs) here ∙ sym (more_exprs_push xs x (leaves r));
      taken = λ st. c.loop-after.invariant.taken st ∙ accepts_more x ts us r st c.in-Some.ensures.spelled c.in-Some-eat_expression.ensures.spelled;
      taken_rest = λ b st.
          c.loop-after.invariant.taken_rest b st ∙ accepts_next x (all_names b xs) ts us r st c.in-Some.ensures.spelled c.in-Some-eat_expression.ensures.spelled
          ∙ ap (λ z. verdict 0 (leaves r) (m.rest z ∷ st)) (sym (all_names_push b xs x));
    }
