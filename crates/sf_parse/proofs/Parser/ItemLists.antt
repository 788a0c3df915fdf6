-- One more `local` or item at the end of a list, as it is spelled, where it is and how deep it is nested.
use Rattle.std.proofs.Common.{◌≡◌, ◌<◌, List, [], ◌∷◌, ◌++◌, length, ap, sym, subst, refl, arith}
use Rattle.sf_ast.specs.Surface as s
use Rattle.sf_parse.specs.Leaf.{Leaf, leaves}
use Rattle.sf_parse.specs.Leaf as k
use Rattle.sf_lex.specs.declared.token.Token.{Token}
use Rattle.sf_parse.specs.Grammar as g
use Rattle.sf_parse.specs.Nearest.{ItemNearest, IsNearest}
use Rattle.sf_parse.specs.Nesting.{ItemWithin, ItemsWithin}
use Rattle.sf_parse.proofs.Grammar.CommandsLonger.{more_names_longer}
use Rattle.sf_parse.proofs.Grammar.Longer.{fewer}

pub locals_push : (ls : List s.Names) (x : s.Names) (r : List Leaf) → g.locals (ls ++ x ∷ []) r ≡ g.locals ls (k.Local ∷ g.names x (k.Semicolon ∷ r))
locals_push [] x r = refl
locals_push (y ∷ ls) x r = ap (λ (z : List Leaf). k.Local ∷ g.names y (k.Semicolon ∷ z)) (locals_push ls x r)

-- fewer tokens are left after a `local`
pub fewer_behind_local : (x : s.Names) (ts r : List Token) → leaves ts ≡ k.Local ∷ g.names x (k.Semicolon ∷ leaves r) → length r < length ts
fewer_behind_local x ts r h = fewer r ts (rw h (omega (arith, more_names_longer x.more (k.Semicolon ∷ leaves r))))

pub items_push : (is : List s.Item) (i : s.Item) (r : List Leaf) → g.items (is ++ i ∷ []) r ≡ g.items is (g.item i r)
items_push [] i r = refl
items_push (x ∷ is) i r = ap (g.item x) (items_push is i r)

pub items_within_push : (is : List s.Item) (i : s.Item) (r : List Leaf) → ItemsWithin is 0 (g.item i r) → ItemWithin i 0 r → ItemsWithin (is ++ i ∷ []) 0 r
items_within_push [] i r all one = (one, tt)
items_within_push (x ∷ is) i r all one = (subst (λ (z : List Leaf). ItemWithin x 0 z) (sym (items_push is i r)) all.0, items_within_push is i r all.1 one)

pub items_nearest_push : (is : List s.Item) (i : s.Item) → IsNearest is → ItemNearest i → IsNearest (is ++ i ∷ [])
items_nearest_push [] i all one = (one, tt)
items_nearest_push (x ∷ is) i all one = (all.0, items_nearest_push is i all.1 one)
