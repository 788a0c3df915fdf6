-- What the grammar has, the machine accepts.
use Rattle.std.proofs.Common.{◌≡◌, ℕ, List, [], ◌∷◌, ◌++◌, ◌-◌, length, Bool, true, false, Option, Some, None, refl, ◌∙◌}
use Rattle.sf_base.specs.declared.limits.TheConstants.{NESTING}
use Rattle.sf_ast.specs.declared.assertion.SurfaceField.{SurfaceField}
use Rattle.sf_ast.specs.declared.word.SurfaceExpr.{SurfaceExpr}
use Rattle.sf_ast.specs.declared.word.SurfaceExpr.TheVariants as e
use Rattle.sf_ast.specs.declared.word.SurfaceOperand.{SurfaceOperand}
use Rattle.sf_ast.specs.declared.word.SurfaceTest.{SurfaceTest}
use Rattle.sf_ast.specs.declared.word.SurfaceTest.TheVariants as t
use Rattle.sf_ast.specs.declared.word.Word.{Word}
use Rattle.sf_ast.specs.Surface as s
use Rattle.sf_parse.specs.Leaf.{Leaf}
use Rattle.sf_parse.specs.Leaf as k
use Rattle.sf_parse.specs.Grammar as g
use Rattle.sf_parse.specs.Checked.Machine as m
use Rattle.sf_parse.specs.Checked.Machine.{Predicted, verdict}
use Rattle.sf_parse.specs.Nearest.{IsClosed, ConjunctNearest, AssertionNearest, NoteNearest, MaybeNearest}
use Rattle.sf_parse.specs.Nesting.{HasLevel, ConjunctWithin, AssertionWithin, RestWithin, NoteWithin, MaybeWithin}
use Rattle.sf_parse.specs.Checked.Parser.{NotStar, Ends}

pub test_goes : (n : ℕ) (b : SurfaceTest SurfaceExpr) (r : List Leaf) (st : List Predicted) → verdict n (g.test g.expr b r) (m.test ∷ st) ≡ verdict n r st
test_goes n (t.True p) r st = refl
test_goes n _ r st = refl

-- a test after the `if` of an assertion, in round brackets or not
if_test_goes : (n : ℕ) (round : Bool) (b : SurfaceTest SurfaceOperand) (r : List Leaf) (st : List Predicted) → verdict n (g.bracketed round (g.test g.operand b) r) (m.if_test ∷ st) ≡ verdict n r st
if_test_goes n true (t.True p) r st = refl
if_test_goes n true _ r st = refl
if_test_goes n false (t.True p) r st = refl
if_test_goes n false _ r st = refl

-- names, where what follows does without more of them
pub more_names_go : (n : ℕ) (xs : List Word) (r : List Leaf) (st : List Predicted) → verdict n r (m.more_names ∷ st) ≡ verdict n r st → verdict n (g.more_names xs r) (m.more_names ∷ st) ≡ verdict n r st
more_names_go n [] r st h = h
more_names_go n (x ∷ xs) r st h = more_names_go n xs r st h

pub maybe_names_go : (n : ℕ) (xs : List Word) (r : List Leaf) (st : List Predicted) → verdict n r (m.maybe_names ∷ st) ≡ verdict n r st → verdict n r (m.more_names ∷ st) ≡ verdict n r st → verdict n (g.maybe_names xs r) (m.maybe_names ∷ st) ≡ verdict n r st
maybe_names_go n [] r st h i = h
maybe_names_go n (x ∷ xs) r st h i = more_names_go n xs r st i

pub parameters_go : (n : ℕ) (ps : s.Parameters) (r : List Leaf) (st : List Predicted) → verdict n (g.parameters ps (k.CloseRound ∷ r)) (m.maybe_names ∷ m.maybe_values ∷ m.exact m.close_round ∷ st) ≡ verdict n r st
parameters_go n (s.only_values xs) r st = maybe_names_go n xs (k.CloseRound ∷ r) (m.maybe_values ∷ m.exact m.close_round ∷ st) refl refl
parameters_go n (s.references_and_values xs ys) r st =
    maybe_names_go n xs (k.Semicolon ∷ g.maybe_names ys (k.CloseRound ∷ r)) (m.maybe_values ∷ m.exact m.close_round ∷ st) refl refl
    ∙ maybe_names_go n ys (k.CloseRound ∷ r) (m.exact m.close_round ∷ st) refl refl

more_exprs_go : (n : ℕ) (xs : List SurfaceExpr) (r : List Leaf) (st : List Predicted) → verdict n (g.more_exprs xs (k.CloseRound ∷ r)) (m.more_expressions ∷ st) ≡ verdict n (k.CloseRound ∷ r) st
more_exprs_go n [] r st = refl
more_exprs_go n (x ∷ xs) r st = more_exprs_go n xs r st

maybe_exprs_go : (n : ℕ) (xs : List SurfaceExpr) (r : List Leaf) (st : List Predicted) → verdict n (g.maybe_exprs xs (k.CloseRound ∷ r)) (m.maybe_expressions ∷ st) ≡ verdict n (k.CloseRound ∷ r) st
maybe_exprs_go n [] r st = refl
maybe_exprs_go n (x ∷ xs) r st = more_exprs_go n xs r st

-- values after a first one, whether or not all so far could be references
rest_goes : (n : ℕ) (b : Bool) (xs : List SurfaceExpr) (r : List Leaf) (st : List Predicted) → verdict n (g.more_exprs xs (k.CloseRound ∷ r)) (m.rest b ∷ st) ≡ verdict n (k.CloseRound ∷ r) st
rest_goes n true [] r st = refl
rest_goes n false [] r st = refl
rest_goes n true (e.Name x ∷ xs) r st = rest_goes n true xs r st
rest_goes n true (_ ∷ xs) r st = rest_goes n false xs r st
rest_goes n false (e.Name x ∷ xs) r st = rest_goes n false xs r st
rest_goes n false (_ ∷ xs) r st = rest_goes n false xs r st

-- references after a first one
references_go : (n : ℕ) (ns : List Word) (xs : List SurfaceExpr) (r : List Leaf) (st : List Predicted) → verdict n (g.more_names ns (k.Semicolon ∷ g.maybe_exprs xs (k.CloseRound ∷ r))) (m.rest true ∷ st) ≡ verdict n (k.CloseRound ∷ r) st
references_go n [] xs r st = maybe_exprs_go n xs r st
references_go n (x ∷ ns) xs r st = references_go n ns xs r st

pub arguments_go : (n : ℕ) (a : s.Arguments) (r : List Leaf) (st : List Predicted) → verdict n (g.arguments a (k.CloseRound ∷ r)) (m.maybe_arguments ∷ m.exact m.close_round ∷ st) ≡ verdict n r st
arguments_go n (s.values []) r st = refl
arguments_go n (s.values (e.Name x ∷ xs)) r st = rest_goes n true xs r (m.exact m.close_round ∷ st)
arguments_go n (s.values (_ ∷ xs)) r st = rest_goes n false xs r (m.exact m.close_round ∷ st)
arguments_go n (s.both [] xs) r st = maybe_exprs_go n xs r (m.exact m.close_round ∷ st)
arguments_go n (s.both (x ∷ ns) xs) r st = references_go n ns xs r (m.exact m.close_round ∷ st)

-- what may come after a conjunct, and after an assertion
abbrev pub AfterConjunct : List Leaf → Type 0
AfterConjunct (k.Star ∷ r) = Unit {0}
AfterConjunct (k.CloseRound ∷ r) = Unit {0}
AfterConjunct (k.CloseSquare ∷ r) = Unit {0}
AfterConjunct (k.Else ∷ r) = Unit {0}
AfterConjunct _ = ⊥

-- no field does
no_fields : (n : ℕ) (r : List Leaf) (st : List Predicted) → AfterConjunct r → (verdict n r (m.maybe_fields ∷ st) ≡ verdict n r st) × (verdict n r (m.more_fields ∷ st) ≡ verdict n r st)
no_fields n [] st h = absurd h
no_fields n (k.Star ∷ r) st h = (refl, refl)
no_fields n (k.CloseRound ∷ r) st h = (refl, refl)
no_fields n (k.CloseSquare ∷ r) st h = (refl, refl)
no_fields n (k.Else ∷ r) st h = (refl, refl)
no_fields n (_ ∷ r) st h = absurd h

no_more_conjuncts : (n d : ℕ) (r : List Leaf) (st : List Predicted) → NotStar r → verdict n r (m.more_conjuncts d ∷ st) ≡ verdict n r st
no_more_conjuncts n d [] st h = refl
no_more_conjuncts n d (k.Star ∷ r) st h = absurd h
no_more_conjuncts n d (_ ∷ r) st h = refl

more_fields_go : (n : ℕ) (fs : List SurfaceField) (r : List Leaf) (st : List Predicted) → AfterConjunct r → verdict n (g.more_fields fs r) (m.more_fields ∷ st) ≡ verdict n r st
more_fields_go n [] r st h = (no_fields n r st h).1
more_fields_go n (f ∷ fs) r st h = more_fields_go n fs r st h

maybe_fields_go : (n : ℕ) (fs : List SurfaceField) (r : List Leaf) (st : List Predicted) → AfterConjunct r → verdict n (g.maybe_fields fs r) (m.maybe_fields ∷ st) ≡ verdict n r st
maybe_fields_go n [] r st h = (no_fields n r st h).0
maybe_fields_go n (f ∷ fs) r st h = more_fields_go n fs r st h

-- an assertion begins with its first conjunct
first_conjunct : (n : ℕ) (c : s.Conjunct) (d : ℕ) (r : List Leaf) (st : List Predicted) → HasLevel n (length (g.conjunct c r)) d → verdict n (g.conjunct c r) (m.assertion d ∷ st) ≡ verdict n (g.conjunct c r) (m.conjunct d ∷ m.more_conjuncts d ∷ st)
first_conjunct n (s.emp p) d r st h = rw h refl
first_conjunct n _ d r st h = rw h refl

-- a note's assertion too
first_in_annotation : (n : ℕ) (c : s.Conjunct) (r : List Leaf) (st : List Predicted) → verdict n (g.conjunct c r) (m.maybe_assertion ∷ st) ≡ verdict n (g.conjunct c r) (m.conjunct NESTING ∷ m.more_conjuncts NESTING ∷ st)
first_in_annotation n (s.emp p) r st = refl
first_in_annotation n _ r st = refl

pub closed_ends : (c : s.Conjunct) (r : List Leaf) → IsClosed c → Ends c r
closed_ends (s.choose p round b x y) r h = absurd h
closed_ends _ r h = tt

pub closed_before_star : (c : s.Conjunct) (r : List Leaf) → Ends c (k.Star ∷ r) → IsClosed c
closed_before_star (s.choose p round b x y) r h = absurd h
closed_before_star _ r h = tt

pub ends_before : (c : s.Conjunct) (r : List Leaf) → NotStar r → Ends c r
ends_before (s.choose p round b x y) r h = h
ends_before _ r h = tt

mutual
  conjunct_goes : (n : ℕ) (c : s.Conjunct) (d : ℕ) (r : List Leaf) (st : List Predicted) → ConjunctNearest c → ConjunctWithin c n d r → AfterConjunct r → Ends c r → verdict n (g.conjunct c r) (m.conjunct d ∷ st) ≡ verdict n r st
  conjunct_goes n (s.group x) d r st near w a f = assertion_goes n x (d - 1) (k.CloseRound ∷ r) (m.exact m.close_round ∷ st) near w tt tt
  conjunct_goes n (s.choose p round b x y) d r st near w a f =
      if_test_goes n round b (k.Then ∷ g.assertion x (k.Else ∷ g.assertion y r)) (m.branches_predicted (d - 1) ++ st)
      ∙ assertion_goes n x (d - 1) (k.Else ∷ g.assertion y r) (m.exact m.else_word ∷ m.assertion (d - 1) ∷ st) near.0 w.0 tt tt
      ∙ assertion_goes n y (d - 1) r st near.1 w.1 a f
  conjunct_goes n (s.points x fs) d r st near w a f = maybe_fields_go n fs r st a
  conjunct_goes n _ d r st near w a f = refl

  assertion_goes : (n : ℕ) (a : s.Assertion) (d : ℕ) (r : List Leaf) (st : List Predicted) → AssertionNearest a → AssertionWithin a n d r → AfterConjunct r → NotStar r → verdict n (g.assertion a r) (m.assertion d ∷ st) ≡ verdict n r st
  assertion_goes n (s.only c) d r st near w a f =
      first_conjunct n c d r st w.0 ∙ conjunct_goes n c d r (m.more_conjuncts d ∷ st) near w.1 a (ends_before c r f) ∙ no_more_conjuncts n d r st f
  assertion_goes n (s.star c x) d r st near w a f =
      first_conjunct n c d (k.Star ∷ g.assertion x r) st w.0
      ∙ conjunct_goes n c d (k.Star ∷ g.assertion x r) (m.more_conjuncts d ∷ st) near.0 w.1 tt (closed_ends c (k.Star ∷ g.assertion x r) near.1)
      ∙ rest_of_assertion n x d r st near.2 w.2 a f

  -- what comes after a `*`
  rest_of_assertion : (n : ℕ) (a : s.Assertion) (d : ℕ) (r : List Leaf) (st : List Predicted) → AssertionNearest a → RestWithin a n d r → AfterConjunct r → NotStar r → verdict n (g.assertion a r) (m.conjunct d ∷ m.more_conjuncts d ∷ st) ≡ verdict n r st
  rest_of_assertion n (s.only c) d r st near w a f = conjunct_goes n c d r (m.more_conjuncts d ∷ st) near w a (ends_before c r f) ∙ no_more_conjuncts n d r st f
  rest_of_assertion n (s.star c x) d r st near w a f =
      conjunct_goes n c d (k.Star ∷ g.assertion x r) (m.more_conjuncts d ∷ st) near.0 w.0 tt (closed_ends c (k.Star ∷ g.assertion x r) near.1)
      ∙ rest_of_assertion n x d r st near.2 w.1 a f

in_annotation : (n : ℕ) (a : s.Assertion) (r : List Leaf) (st : List Predicted) → AssertionNearest a → AssertionWithin a n NESTING (k.CloseSquare ∷ r) → verdict n (g.assertion a (k.CloseSquare ∷ r)) (m.maybe_assertion ∷ m.exact m.close_square ∷ st) ≡ verdict n r st
in_annotation n (s.only c) r st near w =
    first_in_annotation n c (k.CloseSquare ∷ r) (m.exact m.close_square ∷ st)
    ∙ conjunct_goes n c NESTING (k.CloseSquare ∷ r) (m.more_conjuncts NESTING ∷ m.exact m.close_square ∷ st) near w.1 tt (ends_before c (k.CloseSquare ∷ r) tt)
in_annotation n (s.star c x) r st near w =
    first_in_annotation n c (k.Star ∷ g.assertion x (k.CloseSquare ∷ r)) (m.exact m.close_square ∷ st)
    ∙ conjunct_goes n c NESTING (k.Star ∷ g.assertion x (k.CloseSquare ∷ r)) (m.more_conjuncts NESTING ∷ m.exact m.close_square ∷ st) near.0 w.1 tt (closed_ends c (k.Star ∷ g.assertion x (k.CloseSquare ∷ r)) near.1)
    ∙ rest_of_assertion n x NESTING (k.CloseSquare ∷ r) (m.exact m.close_square ∷ st) near.2 w.2 tt tt

-- a note after its opening bracket
pub annotation_goes : (n : ℕ) (x : s.Note) (r : List Leaf) (st : List Predicted) → NoteNearest x → NoteWithin x n r → verdict n (g.annotation x r) (m.exact m.open_square ∷ m.maybe_assertion ∷ m.exact m.close_square ∷ st) ≡ verdict n r st
annotation_goes n s.blank r st near w = refl
annotation_goes n (s.filled a) r st near w = in_annotation n a r st near w

pub maybe_annotation_goes : (n : ℕ) (x : Option s.Note) (r : List Leaf) (st : List Predicted) → MaybeNearest x → MaybeWithin x n r → verdict n r (m.maybe_annotation ∷ st) ≡ verdict n r st → verdict n (g.maybe_annotation x r) (m.maybe_annotation ∷ st) ≡ verdict n r st
maybe_annotation_goes n None r st near w h = h
maybe_annotation_goes n (Some s.blank) r st near w h = refl
maybe_annotation_goes n (Some (s.filled a)) r st near w h = in_annotation n a r st near w
