use Rattle.std.proofs.Common.{◌≡◌, ◌<◌, List, [], ◌∷◌, ◌++◌, map, length, ap, sym, subst, refl, arith, ◌∙◌}
use Rattle.std.proofs.lemmas.List.{map_push}
use Rattle.sf_ast.specs.View.{conjuncts, conjunct_of}
use Rattle.sf_parse.specs.Leaf.{Leaf, leaves}
use Rattle.sf_parse.specs.Leaf as k
use Rattle.sf_parse.specs.Grammar.{assertion, conjunct}
use Rattle.sf_parse.specs.Checked.Machine as m
use Rattle.sf_parse.specs.Checked.Machine.{verdict}
use Rattle.sf_parse.specs.Nesting.{AssertionWithin}
use Rattle.sf_parse.specs.Checked.Parser.{last_of, Ends}
use Rattle.sf_parse.proofs.Parser.Conjuncts.{assertion_push, within_push, nearest_push, last_push}
use Rattle.sf_parse.proofs.Machine.Forth.{closed_before_star}
use Rattle.sf_parse.proofs.Machine.HasLevel.{some_level}
use Rattle.sf_parse.proofs.Grammar.Longer.{conjunct_longer, fewer}
use Rattle.sf_parse.proofs.assertion.+assertion.Goals as goal

pub more_conjuncts-loop-after-init : goal.more_conjuncts-loop-after-init
more_conjuncts-loop-after-init t c =
    let some : 0 < c.args.depth = omega (arith, c.requires) in
    rw c.new-found.ensures.items record {
      spelled = λ x. refl;
      nearest = λ x near ends. near;
      within = λ x within. (some_level 0 _ c.args.depth some, within);
      ended = λ x ends. ends;
      taken = λ st. refl;
    }

pub more_conjuncts-loop-after-smaller : goal.more_conjuncts-loop-after-smaller
more_conjuncts-loop-after-smaller t c =
    let y = conjunct_of c.in_ok-one.one in
    let r = leaves c.in_ok-one.after.now in
    let here : leaves c.loop-after.rest.now ≡ k.Star ∷ conjunct y r = rw (c.in-Some.ensures.spelled, c.in_ok-one.ensures.spelled) refl in
    let longer : length r < length (k.Star ∷ conjunct y r) = omega (arith, conjunct_longer y r) in
    fewer c.in_ok-one.after.now c.loop-after.rest.now (rw here longer)

pub more_conjuncts-loop-after-preserved : goal.more_conjuncts-loop-after-preserved
more_conjuncts-loop-after-preserved t c =
    let some : 0 < c.args.depth = omega (arith, c.requires) in
    let xs = map conjunct_of c.loop-after.found.items in
    let y = conjunct_of c.in_ok-one.one in
    let r = leaves c.in_ok-one.after.now in
    let here : leaves c.loop-after.rest.now ≡ k.Star ∷ conjunct y r = rw (c.in-Some.ensures.spelled, c.in_ok-one.ensures.spelled) refl in
    let pushed : map conjunct_of c.add.new.found.items ≡ xs ++ y ∷ [] = rw c.in_ok-add.ensures (map_push conjunct_of c.loop-after.found.items c.in_ok-one.one) in
    rw pushed record {
      spelled = λ x. c.loop-after.invariant.spelled x ∙ ap (assertion (conjuncts x xs)) here ∙ sym (assertion_push x xs y r);
      nearest = λ x near ends.
          let closed = closed_before_star (last_of (conjuncts x xs)) (conjunct y r) (subst (λ (z : List Leaf). Ends (last_of (conjuncts x xs)) z) here (c.loop-after.invariant.ended x ends)) in
          nearest_push x xs y (c.loop-after.invariant.nearest x near ends) closed c.in_ok-one.ensures.nearest;
      within = λ x within. within_push x xs y c.args.depth r some (subst (λ (z : List Leaf). AssertionWithin (conjuncts x xs) 0 c.args.depth z) here (c.loop-after.invariant.within x within)) c.in_ok-one.ensures.within;
      ended = λ x ends. rw (last_push x xs y) c.in_ok-one.ensures.ended;
      taken = λ st. c.loop-after.invariant.taken st ∙ rw c.in-Some.ensures.spelled (c.in_ok-one.ensures.taken (m.more_conjuncts c.args.depth ∷ st));
    }
