-- One more at the end of a list, as it is spelled and where it is.
use Rattle.std.proofs.Common.{◌≡◌, List, [], ◌∷◌, ◌++◌, refl, ap}
use Rattle.sf_ast.specs.declared.assertion.SurfaceField.{SurfaceField}
use Rattle.sf_ast.specs.declared.word.Word.{Word}
use Rattle.sf_parse.specs.Leaf.{Leaf}
use Rattle.sf_parse.specs.Leaf as k
use Rattle.sf_parse.specs.Grammar as g

pub more_names_push : (xs : List Word) (x : Word) (r : List Leaf) → g.more_names (xs ++ x ∷ []) r ≡ g.more_names xs (k.Comma ∷ k.Name x ∷ r)
more_names_push [] x r = refl
more_names_push (y ∷ ys) x r = ap (λ (ts : List Leaf). k.Comma ∷ k.Name y ∷ ts) (more_names_push ys x r)

pub more_fields_push : (fs : List SurfaceField) (f : SurfaceField) (r : List Leaf) → g.more_fields (fs ++ f ∷ []) r ≡ g.more_fields fs (k.Comma ∷ g.field f r)
more_fields_push [] f r = refl
more_fields_push (x ∷ xs) f r = ap (λ (ts : List Leaf). k.Comma ∷ g.field x ts) (more_fields_push xs f r)
