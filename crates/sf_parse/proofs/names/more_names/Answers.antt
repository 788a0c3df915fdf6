use Rattle.std.proofs.Common.{◌≡◌, ◌∷◌, ◌∙◌, sym, ap, refl}
use Rattle.sf_parse.specs.Leaf.{Leaf, leaves}
use Rattle.sf_parse.specs.Leaf as k
use Rattle.sf_parse.specs.Grammar.{more_names}
use Rattle.sf_parse.specs.Checked.Machine as m
use Rattle.sf_parse.proofs.Parser.Lists.{more_names_push}
use Rattle.sf_parse.proofs.names.more_names.Goals as goal

pub loop-after-preserved : goal.loop-after-preserved
loop-after-preserved c =
    let xs = c.loop-after.found.items in
    let x = c.in_ok-word.word in
    let r = leaves c.in_ok-word.after.now in
    let here : leaves c.loop-after.rest.now ≡ k.Comma ∷ k.Name x ∷ r = rw (c.in-Some.ensures.spelled, c.in_ok-word.ensures.spelled) refl in
    rw c.in_ok-add.ensures record {
      spelled = c.loop-after.invariant.spelled ∙ ap (more_names xs) here ∙ sym (more_names_push xs x r);
      taken = λ st. c.loop-after.invariant.taken st ∙ rw c.in-Some.ensures.spelled (c.in_ok-word.ensures.taken (m.more_names ∷ st));
    }
