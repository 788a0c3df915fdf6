use Rattle.std.proofs.Common.{◌≡◌, List, ◌∷◌, ◌∙◌, ap, map, sym}
use Rattle.sf_ast.specs.declared.word.SurfaceExpr.TheVariants as e
use Rattle.sf_parse.specs.Leaf.{Leaf, leaves}
use Rattle.sf_parse.specs.Leaf as k
use Rattle.sf_parse.specs.Grammar.{maybe_exprs}
use Rattle.sf_parse.proofs.Parser.Arguments.{names_spelled}
use Rattle.sf_parse.proofs.call.arguments.Goals as goal

pub returns-clause-spelled : goal.returns-clause-spelled
returns-clause-spelled c =
    let xs = c.in_ok-given.given.items in
    let ns = c.in-Some-2.names.items in
    let r = k.Semicolon ∷ maybe_exprs c.in_ok-values.values.items (leaves c.in_ok-values.after.now) in
    let names : xs ≡ map e.Name ns = sym c.as_slice.ensures.value ∙ (rw c.in-Some-2.is at c.in_ok-names.ensures.names) in
    let rest : leaves c.in_ok-given.rest.now ≡ r = c.in-Some.ensures.spelled ∙ ap (λ (z : List Leaf). k.Semicolon ∷ z) c.in_ok-values.ensures.spelled in
    c.in_ok-given.ensures.spelled ∙ ap (maybe_exprs xs) rest ∙ ap (λ z. maybe_exprs z r) names ∙ names_spelled ns r
