-- What the parser's functions give: what becomes of what is owed, and which token comes next.
-- Ordinary: predictive parsing by recursive descent, as in Aho, Sethi, Ullman, "Compilers" (1986), section 4.4.
use Rattle.std.specs.Prelude.{◌≡◌, ◌≢◌, ℤ, pos, List, [], ◌∷◌, ◌++◌, Bool, true, false}
use Rattle.sf_base.specs.declared.place.Place.{Place}
use Rattle.sf_ast.specs.declared.word.SurfaceOperand.TheVariants as v
use Rattle.sf_ast.specs.declared.word.Word.{Word}
use Rattle.sf_ast.specs.Surface as s
use Rattle.sf_lex.specs.declared.token.Kind.{Kind}
use Rattle.sf_lex.specs.declared.token.Kind.TheVariants as t
use Rattle.sf_lex.specs.declared.token.Token.{Token}
use Rattle.sf_parse.specs.declared.stop.Stop.{Stop}
use Rattle.sf_parse.specs.declared.stop.Stop.TheVariants.{Unexpected, TooDeep, OutOfMemory}
use Rattle.sf_parse.specs.Leaf.{Leaf, leaf_of, kind, leaves}
use Rattle.sf_parse.specs.Leaf as k
use Rattle.sf_parse.specs.Checked.Machine as m
use Rattle.sf_parse.specs.Checked.Machine.{Predicted, Terminal, verdict, unexpected, too_deep}

-- what is owed takes the tokens up to the rest, whatever is owed below
abbrev pub Accepts : List Predicted → List Token → List Token → Type 0
Accepts ss ts r = (st : List Predicted) → verdict 0 (leaves ts) (ss ++ st) ≡ verdict 0 (leaves r) st

-- the fault is where the tokens cease to fit what is owed, whatever is owed below
abbrev pub FailsAt : Stop → List Predicted → List Token → Type 0
FailsAt (Unexpected n) ss ts = (st : List Predicted) → verdict 0 (leaves ts) (ss ++ st) ≡ unexpected n
FailsAt (TooDeep n) ss ts = (st : List Predicted) → verdict 0 (leaves ts) (ss ++ st) ≡ too_deep n
FailsAt OutOfMemory ss ts = Unit {0}

-- no such token comes next
abbrev pub NotNext : Kind → List Leaf → Type 0
NotNext u [] = Unit {0}
NotNext u (t ∷ r) = kind t ≢ u

-- an expression comes next
abbrev pub expression_next : List Leaf → Bool
expression_next (k.Operand (v.Known _) ∷ r) = true
expression_next _ = false

-- an operand comes next
abbrev pub operand_next : List Leaf → Bool
operand_next (k.Operand _ ∷ r) = true
operand_next r = false

-- the leaf of a token of that kind at that place, where a tree keeps no more of it
abbrev pub mark : Kind → Place → Leaf
mark u p = leaf_of u (pos 0) (record { start = 0; end = 0; place = p })

-- of such tokens a tree keeps no more
abbrev pub IsMark : Kind → Type 0
IsMark u = (n : ℤ) (w : Word) → leaf_of u n w ≡ mark u w.place

-- which mark it is, where it is one
abbrev pub terminal_of : Kind → Terminal
terminal_of t.Arrow = m.an_arrow
terminal_of t.Equals = m.equals
terminal_of t.Semicolon = m.semicolon
terminal_of t.OpenRound = m.open_round
terminal_of t.CloseRound = m.close_round
terminal_of t.OpenSquare = m.open_square
terminal_of t.CloseSquare = m.close_square
terminal_of t.OpenBrace = m.open_brace
terminal_of t.CloseBrace = m.close_brace
terminal_of t.Colon = m.a_colon
terminal_of t.Comma = m.a_comma
terminal_of t.Then = m.then_word
terminal_of t.Else = m.else_word
terminal_of t.When = m.when_word
terminal_of _ = m.a_name

-- it is a mark
abbrev pub IsTerminal : Kind → Type 0
IsTerminal u = (w : Word) → m.terminal_leaf (terminal_of u) w ≡ mark u w.place

-- no `*` comes next
abbrev pub NotStar : List Leaf → Type 0
NotStar (k.Star ∷ r) = ⊥
NotStar _ = Unit {0}

-- a conjunct that is not closed has no `*` after it
abbrev pub Ends : s.Conjunct → List Leaf → Type 0
Ends (s.choose p round b x y) r = NotStar r
Ends _ r = Unit {0}

-- the last conjunct of an assertion
abbrev pub last_of : s.Assertion → s.Conjunct
last_of (s.only c) = c
last_of (s.star c a) = last_of a
