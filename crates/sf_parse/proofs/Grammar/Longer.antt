-- What spells something is longer than what comes after it.
use Rattle.std.proofs.Common.{◌≤◌, ◌<◌, Bool, true, false, List, [], ◌∷◌, length, arith}
use Rattle.std.proofs.lemmas.List.{length-map}
use Rattle.sf_ast.specs.declared.assertion.SurfaceField.{SurfaceField}
use Rattle.sf_ast.specs.declared.word.SurfaceOperand.{SurfaceOperand}
use Rattle.sf_ast.specs.declared.word.SurfaceTest.{SurfaceTest}
use Rattle.sf_ast.specs.declared.word.SurfaceTest.TheVariants as t
use Rattle.sf_ast.specs.Surface as s
use Rattle.sf_parse.specs.Leaf.{Leaf, leaf, leaves}
use Rattle.sf_parse.specs.Leaf as k
use Rattle.sf_lex.specs.declared.token.Token.{Token}
use Rattle.sf_parse.specs.Grammar as g

pub test_longer : {E : Type 0} (side : E → Leaf) (b : SurfaceTest E) (r : List Leaf) → length r < length (g.test side b r)
test_longer side (t.True p) r = omega arith
test_longer side _ r = omega arith

-- a test in round brackets or not
pub if_test_longer : (round : Bool) (b : SurfaceTest SurfaceOperand) (r : List Leaf) → length r < length (g.bracketed round (g.test g.operand b) r)
if_test_longer false b r = test_longer g.operand b r
if_test_longer true b r = omega (arith, test_longer g.operand b (k.CloseRound ∷ r))

pub more_fields_longer : (fs : List SurfaceField) (r : List Leaf) → length r ≤ length (g.more_fields fs r)
more_fields_longer [] r = omega arith
more_fields_longer (f ∷ fs) r = omega (arith, more_fields_longer fs r)

pub maybe_fields_longer : (fs : List SurfaceField) (r : List Leaf) → length r ≤ length (g.maybe_fields fs r)
maybe_fields_longer [] r = omega arith
maybe_fields_longer (f ∷ fs) r = omega (arith, more_fields_longer fs r)

mutual
  pub conjunct_longer : (c : s.Conjunct) (r : List Leaf) → length r < length (g.conjunct c r)
  conjunct_longer (s.group a) r = omega (arith, assertion_longer a (k.CloseRound ∷ r))
  conjunct_longer (s.choose p round b x y) r =
      omega (arith, if_test_longer round b (k.Then ∷ g.assertion x (k.Else ∷ g.assertion y r)), assertion_longer x (k.Else ∷ g.assertion y r), assertion_longer y r)
  conjunct_longer (s.points x fs) r = omega (arith, maybe_fields_longer fs r)
  conjunct_longer _ r = omega arith

  pub assertion_longer : (a : s.Assertion) (r : List Leaf) → length r < length (g.assertion a r)
  assertion_longer (s.only c) r = conjunct_longer c r
  assertion_longer (s.star c a) r = omega (arith, conjunct_longer c (k.Star ∷ g.assertion a r), assertion_longer a r)

-- fewer leaves are fewer tokens
pub fewer : (ts us : List Token) → length (leaves ts) < length (leaves us) → length ts < length us
fewer ts us h = omega (arith, length-map ts leaf, length-map us leaf)
