use Rattle.std.proofs.Common.{◌≡◌, List, [], ◌∷◌, ◌++◌, ◌∙◌, map, ap, sym, subst}
use Rattle.std.proofs.lemmas.List.{map_push}
use Rattle.sf_ast.specs.View.{item_of}
use Rattle.sf_parse.specs.Leaf.{Leaf, leaves}
use Rattle.sf_parse.specs.Grammar as g
use Rattle.sf_parse.specs.Nesting.{ItemsWithin}
use Rattle.sf_parse.proofs.Grammar.CommandsLonger.{fewer_behind_item}
use Rattle.sf_parse.proofs.Parser.ItemLists.{items_push, items_within_push, items_nearest_push}
use Rattle.sf_parse.proofs.item.items.Goals as goal

pub loop-rest-smaller : goal.loop-rest-smaller
loop-rest-smaller c = fewer_behind_item (item_of c.in_ok-one.one) c.loop-rest.rest.now c.in_ok-one.after.now c.in_ok-one.ensures.spelled

pub loop-rest-preserved : goal.loop-rest-preserved
loop-rest-preserved c =
    let is = map item_of c.loop-rest.found.items in
    let i = item_of c.in_ok-one.one in
    let r = leaves c.in_ok-one.after.now in
    let e : map item_of c.add.new.found.items ≡ is ++ i ∷ [] = rw c.in_ok-add.ensures (map_push _ c.loop-rest.found.items c.in_ok-one.one) in
    record {
      spelled = rw e (c.loop-rest.invariant.spelled ∙ ap (λ (z : List Leaf). g.items is z) c.in_ok-one.ensures.spelled ∙ sym (items_push is i r));
      within = rw e (items_within_push is i r (subst (λ (z : List Leaf). ItemsWithin is 0 z) c.in_ok-one.ensures.spelled c.loop-rest.invariant.within) c.in_ok-one.ensures.within);
      nearest = rw e (items_nearest_push is i c.loop-rest.invariant.nearest c.in_ok-one.ensures.nearest);
      taken = λ st. c.loop-rest.invariant.taken st ∙ c.in_ok-one.ensures.taken st;
    }
