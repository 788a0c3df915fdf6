-- What the parser knows of a call's arguments before it has seen whether a `;` comes after them.
-- Ordinary: one token of look-ahead, as in Aho, Sethi, Ullman, "Compilers" (1986), section 4.4.
use Rattle.std.specs.Prelude.{◌≡◌, List, [], ◌∷◌, Bool, true, false, ◌&&◌}
use Rattle.sf_ast.specs.declared.word.SurfaceExpr.{SurfaceExpr}
use Rattle.sf_ast.specs.declared.word.SurfaceExpr.TheVariants as e
use Rattle.sf_parse.specs.Leaf.{Leaf}
use Rattle.sf_lex.specs.declared.token.Kind.TheVariants.{Comma}
use Rattle.sf_parse.specs.Checked.Machine as m
use Rattle.sf_parse.specs.Checked.Machine.{Predicted}
use Rattle.sf_parse.specs.Checked.Parser.{NotNext, expression_next}

-- the expression is a name, and may be a reference
abbrev pub is_name : SurfaceExpr → Bool
is_name (e.Name x) = true
is_name _ = false

-- so may all of these, where those before them may
abbrev pub all_names : Bool → List SurfaceExpr → Bool
all_names b [] = b
all_names b (x ∷ xs) = all_names (b && is_name x) xs

-- what is owed after the expressions of a call
abbrev pub predicted_behind : List SurfaceExpr → Predicted
predicted_behind [] = m.maybe_arguments
predicted_behind (x ∷ xs) = m.rest (all_names (is_name x) xs)

-- no further expression comes
abbrev pub NoMore : List SurfaceExpr → List Leaf → Type 0
NoMore [] r = expression_next r ≡ false
NoMore (x ∷ xs) r = NotNext Comma r
