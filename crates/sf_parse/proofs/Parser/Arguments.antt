-- Which way the machine goes within a call's arguments.
use Rattle.std.proofs.Common.{◌≡◌, ◌<◌, ℕ, suc, List, [], ◌∷◌, ◌++◌, length, map, drop, get_or, Bool, true, false, ◌&&◌, refl, ap, ◌∙◌}
use Rattle.std.proofs.Math.Seq.{drop-cons}
use Rattle.sf_ast.specs.declared.word.SurfaceExpr.{SurfaceExpr}
use Rattle.sf_ast.specs.declared.word.SurfaceExpr.TheVariants as e
use Rattle.sf_ast.specs.declared.word.SurfaceOperand.TheVariants as v
use Rattle.sf_ast.specs.declared.word.Word.{Word}
use Rattle.sf_parse.specs.Leaf.{Leaf, leaves}
use Rattle.sf_lex.specs.declared.token.Kind.TheVariants as tk
use Rattle.sf_parse.specs.Leaf as k
use Rattle.sf_lex.specs.declared.token.Token.{Token}
use Rattle.sf_parse.specs.Checked.Given.{NoMore, all_names, is_name, predicted_behind}
use Rattle.sf_parse.specs.Grammar as g
use Rattle.sf_parse.specs.Checked.Machine as m
use Rattle.sf_parse.specs.Checked.Machine.{Predicted, verdict, unexpected}
use Rattle.sf_parse.specs.Checked.Parser.{NotNext, expression_next}
use Rattle.sf_parse.proofs.Parser.Fronts.{left_of, fails_at_expression}

-- after a comma in a call
next_goes : (x : SurfaceExpr) (b : Bool) (r : List Leaf) (st : List Predicted) → verdict 0 (g.expr x ∷ r) (m.next b ∷ st) ≡ verdict 0 r (m.rest (b && is_name x) ∷ st)
next_goes (e.Name x) true r st = refl
next_goes (e.Name x) false r st = refl
next_goes _ true r st = refl
next_goes _ false r st = refl

next_fails : (b : Bool) (ts : List Leaf) (st : List Predicted) → expression_next ts ≡ false → verdict 0 ts (m.next b ∷ st) ≡ unexpected (length ts)
next_fails b [] st h = refl
next_fails b (k.Operand (v.Known _) ∷ r) st h = absurd cc
next_fails b (t ∷ r) st h = refl

rest_comma : (b : Bool) (r : List Leaf) (st : List Predicted) → verdict 0 (k.Comma ∷ r) (m.rest b ∷ st) ≡ verdict 0 r (m.next b ∷ st)
rest_comma true r st = refl
rest_comma false r st = refl

rest_semicolon : (b : Bool) (r : List Leaf) (st : List Predicted) → b ≡ false → verdict 0 (k.Semicolon ∷ r) (m.rest b ∷ st) ≡ verdict 0 (k.Semicolon ∷ r) st
rest_semicolon true r st h = absurd cc
rest_semicolon false r st h = refl

rest_over : (b : Bool) (ts : List Leaf) (st : List Predicted) → NotNext tk.Comma ts → NotNext tk.Semicolon ts → verdict 0 ts (m.rest b ∷ st) ≡ verdict 0 ts st
rest_over b [] st h i = refl
rest_over b (k.Comma ∷ r) st h i = absurd (h refl)
rest_over b (k.Semicolon ∷ r) st h i = absurd (i refl)
rest_over true (t ∷ r) st h i = refl
rest_over false (t ∷ r) st h i = refl

arguments_over : (ts : List Leaf) (st : List Predicted) → expression_next ts ≡ false → NotNext tk.Semicolon ts → verdict 0 ts (m.maybe_arguments ∷ st) ≡ verdict 0 ts st
arguments_over [] st h i = refl
arguments_over (k.Operand (v.Known _) ∷ r) st h i = absurd cc
arguments_over (k.Semicolon ∷ r) st h i = absurd (i refl)
arguments_over (t ∷ r) st h i = refl

-- another expression, after its comma
pub accepts_next : (x : SurfaceExpr) (b : Bool) (ts us r : List Token) (st : List Predicted) → leaves ts ≡ k.Comma ∷ leaves us → leaves us ≡ g.expr x ∷ leaves r → verdict 0 (leaves ts) (m.rest b ∷ st) ≡ verdict 0 (leaves r) (m.rest (b && is_name x) ∷ st)
accepts_next x b ts us r st h i =
    ap (λ (z : List Leaf). verdict 0 z (m.rest b ∷ st)) (h ∙ ap (λ (z : List Leaf). k.Comma ∷ z) i) ∙ rest_comma b (g.expr x ∷ leaves r) st ∙ next_goes x b (leaves r) st

pub accepts_more : (x : SurfaceExpr) (ts us r : List Token) (st : List Predicted) → leaves ts ≡ k.Comma ∷ leaves us → leaves us ≡ g.expr x ∷ leaves r → verdict 0 (leaves ts) (m.more_expressions ∷ st) ≡ verdict 0 (leaves r) (m.more_expressions ∷ st)
accepts_more x ts us r st h i =
    ap (λ (z : List Leaf). verdict 0 z (m.more_expressions ∷ st)) (h ∙ ap (λ (z : List Leaf). k.Comma ∷ z) i)

pub fails_at_more : (ts us : List Token) (st : List Predicted) → leaves ts ≡ k.Comma ∷ leaves us → expression_next (leaves us) ≡ false → verdict 0 (leaves ts) (m.more_expressions ∷ st) ≡ unexpected (length us)
fails_at_more ts us st h i = ap (λ (z : List Leaf). verdict 0 z (m.more_expressions ∷ st)) h ∙ fails_at_expression us (m.more_expressions ∷ st) i

pub fails_at_next : (b : Bool) (ts us : List Token) (st : List Predicted) → leaves ts ≡ k.Comma ∷ leaves us → expression_next (leaves us) ≡ false → verdict 0 (leaves ts) (m.rest b ∷ st) ≡ unexpected (length us)
fails_at_next b ts us st h i = ap (λ (z : List Leaf). verdict 0 z (m.rest b ∷ st)) h ∙ rest_comma b (leaves us) st ∙ left_of us (m.next b ∷ st) (next_fails b (leaves us) st i)

pub all_names_push : (b : Bool) (xs : List SurfaceExpr) (x : SurfaceExpr) → all_names b (xs ++ x ∷ []) ≡ (all_names b xs && is_name x)
all_names_push b [] x = refl
all_names_push b (y ∷ ys) x = all_names_push (b && is_name y) ys x

-- one more at the end, as it is spelled and where it is
pub more_exprs_push : (xs : List SurfaceExpr) (x : SurfaceExpr) (r : List Leaf) → g.more_exprs (xs ++ x ∷ []) r ≡ g.more_exprs xs (k.Comma ∷ g.expr x ∷ r)
more_exprs_push [] x r = refl
more_exprs_push (y ∷ ys) x r = ap (λ (ts : List Leaf). k.Comma ∷ g.expr y ∷ ts) (more_exprs_push ys x r)

pub no_more_expressions : (ts : List Leaf) (st : List Predicted) → NotNext tk.Comma ts → verdict 0 ts (m.more_expressions ∷ st) ≡ verdict 0 ts st
no_more_expressions [] st h = refl
no_more_expressions (k.Comma ∷ r) st h = absurd (h refl)
no_more_expressions (t ∷ r) st h = refl

no_names : (xs : List SurfaceExpr) → all_names false xs ≡ false
no_names [] = refl
no_names (x ∷ xs) = no_names xs

-- where one is no name, not all are
pub no_name_at : (xs : List SurfaceExpr) (i : ℕ) (d : SurfaceExpr) → i < length xs → is_name (get_or xs i d) ≡ false → all_names true (drop i xs) ≡ false
no_name_at xs i d lt h = ap (all_names true) (drop-cons xs i d lt) ∙ ap (λ (b : Bool). all_names b (drop (suc i) xs)) h ∙ no_names (drop (suc i) xs)

-- the first expression of a call
pub accepts_first : (x : SurfaceExpr) (ts r : List Token) (st : List Predicted) → leaves ts ≡ g.expr x ∷ leaves r → verdict 0 (leaves ts) (m.maybe_arguments ∷ st) ≡ verdict 0 (leaves r) (m.rest (is_name x) ∷ st)
accepts_first (e.Name x) ts r st h = rw h refl
accepts_first _ ts r st h = rw h refl

-- that of those after a `;`
pub accepts_value : (x : SurfaceExpr) (ts r : List Token) (st : List Predicted) → leaves ts ≡ g.expr x ∷ leaves r → verdict 0 (leaves ts) (m.maybe_expressions ∷ st) ≡ verdict 0 (leaves r) (m.more_expressions ∷ st)
accepts_value x ts r st h = rw h refl

values_over : (ts : List Leaf) (st : List Predicted) → expression_next ts ≡ false → verdict 0 ts (m.maybe_expressions ∷ st) ≡ verdict 0 ts st
values_over [] st h = refl
values_over (k.Operand (v.Known _) ∷ r) st h = absurd cc
values_over (t ∷ r) st h = refl

pub no_values : (ts : List Token) (st : List Predicted) → expression_next (leaves ts) ≡ false → verdict 0 (leaves ts) (m.maybe_expressions ∷ st) ≡ verdict 0 (leaves ts) st
no_values ts st h = values_over (leaves ts) st h

-- what comes after all expressions, where it is no `;`
pub behind_all : (xs : List SurfaceExpr) (ts : List Token) (st : List Predicted) → NoMore xs (leaves ts) → NotNext tk.Semicolon (leaves ts) → verdict 0 (leaves ts) (predicted_behind xs ∷ st) ≡ verdict 0 (leaves ts) st
behind_all [] ts st h i = arguments_over (leaves ts) st h i
behind_all (x ∷ xs) ts st h i = rest_over (all_names (is_name x) xs) (leaves ts) st h i

-- a `;` where one of them is no name
pub behind_values : (xs : List SurfaceExpr) (ts r : List Token) (st : List Predicted) → leaves ts ≡ k.Semicolon ∷ leaves r → all_names true xs ≡ false → verdict 0 (leaves ts) (predicted_behind xs ∷ st) ≡ verdict 0 (leaves ts) st
behind_values [] ts r st h i = absurd cc
behind_values (x ∷ xs) ts r st h i = rw h (rest_semicolon (all_names (is_name x) xs) (leaves r) st i)

-- and where all are names
pub behind_names : (xs : List SurfaceExpr) (ts r : List Token) (st : List Predicted) → leaves ts ≡ k.Semicolon ∷ leaves r → all_names true xs ≡ true → verdict 0 (leaves ts) (predicted_behind xs ∷ st) ≡ verdict 0 (leaves r) (m.maybe_expressions ∷ st)
behind_names [] ts r st h i = rw h refl
behind_names (x ∷ xs) ts r st h i = rw (h, i) refl

-- names are spelled as references are, at the same places
more_names_spelled : (ns : List Word) (r : List Leaf) → g.more_exprs (map e.Name ns) r ≡ g.more_names ns r
more_names_spelled [] r = refl
more_names_spelled (x ∷ ns) r = ap (λ (z : List Leaf). k.Comma ∷ k.Name x ∷ z) (more_names_spelled ns r)

pub names_spelled : (ns : List Word) (r : List Leaf) → g.maybe_exprs (map e.Name ns) r ≡ g.maybe_names ns r
names_spelled [] r = refl
names_spelled (x ∷ ns) r = ap (λ (z : List Leaf). k.Name x ∷ z) (more_names_spelled ns r)

pub ruleset given = (accepts_next, accepts_more, fails_at_next, fails_at_more, all_names_push, no_more_expressions, no_name_at, accepts_first, accepts_value, no_values, behind_all, behind_values, behind_names)
