-- Which way the machine goes at a token that was looked at: leaves.
use Rattle.std.proofs.Common.{◌≡◌, ℤ, pos, List, [], ◌∷◌, length, false, refl, ap, sym, subst, ◌∙◌}
use Rattle.std.proofs.lemmas.List.{length-map}
use Rattle.sf_ast.specs.declared.word.SurfaceExpr.{SurfaceExpr}
use Rattle.sf_ast.specs.declared.word.SurfaceExpr.TheVariants as e
use Rattle.sf_ast.specs.declared.word.SurfaceOperand.{SurfaceOperand}
use Rattle.sf_ast.specs.declared.word.SurfaceOperand.TheVariants as v
use Rattle.sf_base.specs.declared.place.Place.{Place}
use Rattle.sf_ast.specs.declared.word.Word.{Word}
use Rattle.sf_lex.specs.declared.token.Kind.{Kind}
use Rattle.sf_lex.specs.declared.token.Kind.TheVariants as tk
use Rattle.sf_parse.specs.Leaf as k
use Rattle.sf_lex.specs.declared.token.Token.{Token}
use Rattle.sf_parse.specs.Grammar as g
use Rattle.sf_parse.specs.Checked.Machine as m
use Rattle.sf_parse.specs.Checked.Machine.{Predicted, Terminal, terminal_leaf, verdict, unexpected}
use Rattle.sf_parse.specs.Leaf.{Leaf, leaf_of, kind, word_of, leaf, leaves}
use Rattle.sf_parse.specs.Checked.Parser.{NotNext, IsMark, IsTerminal, mark, terminal_of, expression_next, operand_next}

-- a count of leaves is one of tokens
pub left_of : (ts : List Token) (ss : List Predicted) → verdict 0 (leaves ts) ss ≡ unexpected (length (leaves ts)) → verdict 0 (leaves ts) ss ≡ unexpected (length ts)
left_of ts ss h = h ∙ ap unexpected (length-map ts leaf)

-- the leaf of a token of some kind has that kind
pub kind_of_leaf : (u : Kind) (n : ℤ) (w : Word) → kind (leaf_of u n w) ≡ u
kind_of_leaf tk.Name n w = refl
kind_of_leaf _ n w = refl

terminal_goes : (u : Terminal) (w : Word) (r : List Leaf) (st : List Predicted) → verdict 0 (terminal_leaf u w ∷ r) (m.exact u ∷ st) ≡ verdict 0 r st
terminal_goes m.a_name w r st = refl
terminal_goes _ w r st = refl

terminal_fails : (u : Terminal) (w : Word) (ts : List Leaf) (st : List Predicted) → NotNext (kind (terminal_leaf u w)) ts → verdict 0 ts (m.exact u ∷ st) ≡ unexpected (length ts)
terminal_fails u w [] st h = refl
terminal_fails m.a_name w (k.Operand (v.Known (e.Name _)) ∷ r) st h = absurd (h refl)
terminal_fails m.an_arrow w (k.Arrow ∷ r) st h = absurd (h refl)
terminal_fails m.equals w (k.Equals ∷ r) st h = absurd (h refl)
terminal_fails m.semicolon w (k.Semicolon ∷ r) st h = absurd (h refl)
terminal_fails m.open_round w (k.OpenRound ∷ r) st h = absurd (h refl)
terminal_fails m.close_round w (k.CloseRound ∷ r) st h = absurd (h refl)
terminal_fails m.open_square w (k.OpenSquare ∷ r) st h = absurd (h refl)
terminal_fails m.close_square w (k.CloseSquare ∷ r) st h = absurd (h refl)
terminal_fails m.open_brace w (k.OpenBrace _ ∷ r) st h = absurd (h refl)
terminal_fails m.close_brace w (k.CloseBrace _ ∷ r) st h = absurd (h refl)
terminal_fails m.a_colon w (k.Colon ∷ r) st h = absurd (h refl)
terminal_fails m.a_comma w (k.Comma ∷ r) st h = absurd (h refl)
terminal_fails m.then_word w (k.Then ∷ r) st h = absurd (h refl)
terminal_fails m.else_word w (k.Else ∷ r) st h = absurd (h refl)
terminal_fails m.when_word w (k.When ∷ r) st h = absurd (h refl)
terminal_fails u w (t ∷ r) st h = refl

expression_fails : (ts : List Leaf) (st : List Predicted) → expression_next ts ≡ false → verdict 0 ts (m.expression ∷ st) ≡ unexpected (length ts)
expression_fails [] st h = refl
expression_fails (k.Operand (v.Known _) ∷ r) st h = absurd cc
expression_fails (t ∷ r) st h = refl

operand_fails : (ts : List Leaf) (st : List Predicted) → operand_next ts ≡ false → verdict 0 ts (m.operand ∷ st) ≡ unexpected (length ts)
operand_fails [] st h = refl
operand_fails (k.Operand _ ∷ r) st h = absurd cc
operand_fails (t ∷ r) st h = refl

no_operand : (ts : List Leaf) → expression_next ts ≡ false → NotNext tk.Existential ts → operand_next ts ≡ false
no_operand [] e h = refl
no_operand (k.Operand (v.Known _) ∷ r) e h = absurd cc
no_operand (k.Operand (v.Existential _) ∷ r) e h = absurd (h refl)
no_operand (t ∷ r) e h = refl

-- a token of which a tree keeps no more than its place
pub mark_there : (u : Kind) (t : Token) → IsMark u → t.kind ≡ u → leaf t ≡ mark u t.place
mark_there u t h e = ap (λ (z : Kind). leaf_of z t.value (word_of t)) e ∙ h t.value (word_of t)

-- a mark is there, or none
pub accepts_terminal : (u : Kind) (p : Place) (ts r : List Token) (st : List Predicted) → IsTerminal u → leaves ts ≡ mark u p ∷ leaves r → verdict 0 (leaves ts) (m.exact (terminal_of u) ∷ st) ≡ verdict 0 (leaves r) st
accepts_terminal u p ts r st q h =
    let w : Word = record { start = 0; end = 0; place = p } in
    let here : leaves ts ≡ terminal_leaf (terminal_of u) w ∷ leaves r = h ∙ ap (λ (z : Leaf). z ∷ leaves r) (sym (q w)) in
    rw here (terminal_goes (terminal_of u) w (leaves r) st)

pub fails_at_terminal : (u : Kind) (ts : List Token) (st : List Predicted) → IsTerminal u → NotNext u (leaves ts) → verdict 0 (leaves ts) (m.exact (terminal_of u) ∷ st) ≡ unexpected (length ts)
fails_at_terminal u ts st q h =
    let w : Word = record { start = 0; end = 0; place = record { line = 1; column = 1 } } in
    let same : kind (terminal_leaf (terminal_of u) w) ≡ u = ap kind (q w) ∙ kind_of_leaf u (pos 0) w in
    left_of ts (m.exact (terminal_of u) ∷ st) (terminal_fails (terminal_of u) w (leaves ts) st (subst (λ (v : Kind). NotNext v (leaves ts)) (sym same) h))

-- a name is there, or none
pub accepts_name : (x : Word) (ts r : List Token) (st : List Predicted) → leaves ts ≡ k.Name x ∷ leaves r → verdict 0 (leaves ts) (m.exact m.a_name ∷ st) ≡ verdict 0 (leaves r) st
accepts_name x ts r st h = rw h refl

pub fails_at_name : (ts : List Token) (st : List Predicted) → NotNext tk.Name (leaves ts) → verdict 0 (leaves ts) (m.exact m.a_name ∷ st) ≡ unexpected (length ts)
fails_at_name ts st h = left_of ts (m.exact m.a_name ∷ st) (terminal_fails m.a_name (record { start = 0; end = 0; place = record { line = 1; column = 1 } }) (leaves ts) st h)

-- an expression is there, or none
pub accepts_expression : (x : SurfaceExpr) (ts r : List Token) (st : List Predicted) → leaves ts ≡ g.expr x ∷ leaves r → verdict 0 (leaves ts) (m.expression ∷ st) ≡ verdict 0 (leaves r) st
accepts_expression x ts r st h = rw h refl

pub fails_at_expression : (ts : List Token) (st : List Predicted) → expression_next (leaves ts) ≡ false → verdict 0 (leaves ts) (m.expression ∷ st) ≡ unexpected (length ts)
fails_at_expression ts st h = left_of ts (m.expression ∷ st) (expression_fails (leaves ts) st h)

-- an operand is there, or none
pub accepts_operand : (x : SurfaceOperand) (ts r : List Token) (st : List Predicted) → leaves ts ≡ g.operand x ∷ leaves r → verdict 0 (leaves ts) (m.operand ∷ st) ≡ verdict 0 (leaves r) st
accepts_operand x ts r st h = rw h refl

pub fails_at_operand : (ts : List Token) (st : List Predicted) → operand_next (leaves ts) ≡ false → verdict 0 (leaves ts) (m.operand ∷ st) ≡ unexpected (length ts)
fails_at_operand ts st h = left_of ts (m.operand ∷ st) (operand_fails (leaves ts) st h)

pub is_no_operand : (ts : List Token) → expression_next (leaves ts) ≡ false → NotNext tk.Existential (leaves ts) → operand_next (leaves ts) ≡ false
is_no_operand ts e h = no_operand (leaves ts) e h

pub ruleset fronts = (mark_there, accepts_terminal, fails_at_terminal, accepts_name, fails_at_name, accepts_expression, fails_at_expression, accepts_operand, fails_at_operand, is_no_operand)
