use Rattle.std.proofs.Common.{◌≡◌, ◌∷◌, ◌∙◌, sym, ap, refl}
use Rattle.sf_parse.specs.Leaf.{Leaf, leaves}
use Rattle.sf_parse.specs.Leaf as k
use Rattle.sf_parse.specs.Grammar.{field, more_fields}
use Rattle.sf_parse.specs.Checked.Machine as m
use Rattle.sf_parse.proofs.Parser.Lists.{more_fields_push}
use Rattle.sf_parse.proofs.fields.more_fields.Goals as goal

pub loop-after-preserved : goal.loop-after-preserved
loop-after-preserved c =
    let fs = c.loop-after.found.items in
    let f = c.in_ok-one.one in
    let r = leaves c.in_ok-one.after.now in
    let here : leaves c.loop-after.rest.now ≡ k.Comma ∷ field f r = rw (c.in-Some.ensures.spelled, c.in_ok-one.ensures.spelled) refl in
    rw c.in_ok-add.ensures record {
      spelled = c.loop-after.invariant.spelled ∙ ap (more_fields fs) here ∙ sym (more_fields_push fs f r);
      taken = λ st. c.loop-after.invariant.taken st ∙ rw c.in-Some.ensures.spelled (c.in_ok-one.ensures.taken (m.more_fields ∷ st));
    }
