-- A token as the grammar sees it: what it is, and what a tree keeps of it. Of an operand that is all that a tree has for it,
-- of others their place or nothing.
-- The tokens of Berdine, Calcagno and O'Hearn, "Smallfoot" (2005), in this project's own profile.
use Rattle.std.specs.Prelude.{Bool, true, false, ℤ, List as Seq, map}
use Rattle.sf_base.specs.declared.place.Place.{Place}
use Rattle.sf_ast.specs.declared.word.SurfaceExpr.{SurfaceExpr}
use Rattle.sf_ast.specs.declared.word.SurfaceExpr.TheVariants as e
use Rattle.sf_ast.specs.declared.word.SurfaceOperand.{SurfaceOperand}
use Rattle.sf_ast.specs.declared.word.SurfaceOperand.TheVariants as v
use Rattle.sf_ast.specs.declared.word.Word.{Word}
use Rattle.sf_lex.specs.declared.token.Kind.{Kind}
use Rattle.sf_lex.specs.declared.token.Kind.TheVariants as t
use Rattle.sf_lex.specs.declared.token.Token.{Token}

-- a token, with what a tree keeps of it
pub data Leaf : Type 0 where
  Operand : SurfaceOperand → Leaf
  Dispose : Place → Leaf
  Else : Leaf
  Emp : Place → Leaf
  If : Place → Leaf
  List : Place → Leaf
  Local : Leaf
  Ls : Place → (long : Bool) → Leaf
  New : Leaf
  Resource : Place → Leaf
  Then : Leaf
  Dll : Place → Leaf
  Tree : Place → Leaf
  True : Place → Leaf
  When : Leaf
  While : Place → Leaf
  With : Place → Leaf
  OpenRound : Leaf
  CloseRound : Leaf
  OpenSquare : Leaf
  CloseSquare : Leaf
  OpenBrace : Place → Leaf
  CloseBrace : Place → Leaf
  Comma : Leaf
  Semicolon : Leaf
  Colon : Leaf
  Star : Leaf
  Equals : Leaf
  EqualEqual : Leaf
  NotEqual : Leaf
  Arrow : Leaf
  PointsTo : Leaf
  Bars : Leaf

-- the leaf of an expression, and of a name
abbrev pub Expr : SurfaceExpr → Leaf
Expr x = Operand (v.Known x)

abbrev pub Name : Word → Leaf
Name w = Expr (e.Name w)

-- the leaf of a token of that kind that writes that number and has that text
abbrev pub leaf_of : Kind → ℤ → Word → Leaf
leaf_of t.Name n w = Name w
leaf_of t.Existential n w = Operand (v.Existential w)
leaf_of t.Number n w = Expr (e.Number n w.place)
leaf_of t.Null n w = Expr (e.Null w.place)
leaf_of t.Dispose n w = Dispose w.place
leaf_of t.Else n w = Else
leaf_of t.Emp n w = Emp w.place
leaf_of t.If n w = If w.place
leaf_of t.List n w = List w.place
leaf_of t.Local n w = Local
leaf_of t.Ls n w = Ls w.place false
leaf_of t.Lseg n w = Ls w.place true
leaf_of t.New n w = New
leaf_of t.Nil n w = Expr (e.Nil w.place)
leaf_of t.Resource n w = Resource w.place
leaf_of t.Then n w = Then
leaf_of t.Dll n w = Dll w.place
leaf_of t.Tree n w = Tree w.place
leaf_of t.True n w = True w.place
leaf_of t.When n w = When
leaf_of t.While n w = While w.place
leaf_of t.With n w = With w.place
leaf_of t.OpenRound n w = OpenRound
leaf_of t.CloseRound n w = CloseRound
leaf_of t.OpenSquare n w = OpenSquare
leaf_of t.CloseSquare n w = CloseSquare
leaf_of t.OpenBrace n w = OpenBrace w.place
leaf_of t.CloseBrace n w = CloseBrace w.place
leaf_of t.Comma n w = Comma
leaf_of t.Semicolon n w = Semicolon
leaf_of t.Colon n w = Colon
leaf_of t.Star n w = Star
leaf_of t.Equals n w = Equals
leaf_of t.EqualEqual n w = EqualEqual
leaf_of t.NotEqual n w = NotEqual
leaf_of t.Arrow n w = Arrow
leaf_of t.PointsTo n w = PointsTo
leaf_of t.Bars n w = Bars

-- the kind of its token
abbrev pub kind : Leaf → Kind
kind (Operand (v.Known (e.Name w))) = t.Name
kind (Operand (v.Known (e.Nil p))) = t.Nil
kind (Operand (v.Known (e.Null p))) = t.Null
kind (Operand (v.Known (e.Number n p))) = t.Number
kind (Operand (v.Existential w)) = t.Existential
kind (Dispose p) = t.Dispose
kind Else = t.Else
kind (Emp p) = t.Emp
kind (If p) = t.If
kind (List p) = t.List
kind Local = t.Local
kind (Ls p false) = t.Ls
kind (Ls p true) = t.Lseg
kind New = t.New
kind (Resource p) = t.Resource
kind Then = t.Then
kind (Dll p) = t.Dll
kind (Tree p) = t.Tree
kind (True p) = t.True
kind When = t.When
kind (While p) = t.While
kind (With p) = t.With
kind OpenRound = t.OpenRound
kind CloseRound = t.CloseRound
kind OpenSquare = t.OpenSquare
kind CloseSquare = t.CloseSquare
kind (OpenBrace p) = t.OpenBrace
kind (CloseBrace p) = t.CloseBrace
kind Comma = t.Comma
kind Semicolon = t.Semicolon
kind Colon = t.Colon
kind Star = t.Star
kind Equals = t.Equals
kind EqualEqual = t.EqualEqual
kind NotEqual = t.NotEqual
kind Arrow = t.Arrow
kind PointsTo = t.PointsTo
kind Bars = t.Bars

-- the text of a token
abbrev pub word_of : Token → Word
word_of t = record { start = t.start; end = t.end; place = t.place }

-- the leaf of a token
abbrev pub leaf : Token → Leaf
leaf t = leaf_of t.kind t.value (word_of t)

-- those of tokens
abbrev pub leaves : Seq Token → Seq Leaf
leaves ts = map leaf ts
