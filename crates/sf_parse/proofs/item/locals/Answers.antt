use Rattle.std.proofs.Common.{◌≡◌, List, [], ◌∷◌, ◌++◌, ◌∙◌, map, ap, sym}
use Rattle.std.proofs.lemmas.List.{map_push}
use Rattle.sf_ast.specs.View.{names_of}
use Rattle.sf_parse.specs.Leaf.{Leaf, leaves}
use Rattle.sf_parse.specs.Leaf as k
use Rattle.sf_parse.specs.Grammar as g
use Rattle.sf_parse.specs.Checked.Machine as m
use Rattle.sf_parse.specs.Checked.Machine.{verdict}
use Rattle.sf_parse.proofs.Parser.ItemLists.{locals_push, fewer_behind_local}
use Rattle.sf_parse.proofs.item.locals.Goals as goal

pub loop-after-smaller : goal.loop-after-smaller
loop-after-smaller c =
    fewer_behind_local (names_of c.in_ok-one.one) c.loop-after.rest.now c.in_ok-after.after.now (
    c.in-Some.ensures.spelled ∙ ap (λ (z : List Leaf). k.Local ∷ z) (c.in_ok-one.ensures.spelled ∙ ap (λ (z : List Leaf). g.names (names_of c.in_ok-one.one) z) c.in_ok-after.ensures.spelled))

pub loop-after-preserved : goal.loop-after-preserved
loop-after-preserved c =
    let ls = map names_of c.loop-after.found.items in
    let x = names_of c.in_ok-one.one in
    let r = leaves c.in_ok-after.after.now in
    let e : map names_of c.add.new.found.items ≡ ls ++ x ∷ [] = rw c.in_ok-add.ensures (map_push _ c.loop-after.found.items c.in_ok-one.one) in
    let here : leaves c.loop-after.rest.now ≡ k.Local ∷ g.names x (k.Semicolon ∷ r) =
    c.in-Some.ensures.spelled ∙ ap (λ (z : List Leaf). k.Local ∷ z) (c.in_ok-one.ensures.spelled ∙ ap (λ (z : List Leaf). g.names x z) c.in_ok-after.ensures.spelled) in
    record {
      spelled = rw e (c.loop-after.invariant.spelled ∙ ap (λ (z : List Leaf). g.locals ls z) here ∙ sym (locals_push ls x r));
      taken = λ st.
          c.loop-after.invariant.taken st ∙ ap (λ (z : List Leaf). verdict 0 z (m.locals ∷ st)) c.in-Some.ensures.spelled ∙ c.in_ok-one.ensures.taken (m.exact m.semicolon ∷ m.locals ∷ st)
          ∙ c.in_ok-after.ensures.taken (m.locals ∷ st);
    }
