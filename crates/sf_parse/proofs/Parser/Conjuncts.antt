-- Which way the machine goes at a conjunct and after one, and one more conjunct at the end of an assertion.
use Rattle.std.proofs.Common.{◌≡◌, ◌<◌, ℕ, zero, suc, List, [], ◌∷◌, ◌++◌, length, true, false, refl, ap, subst, sym, arith, ◌∙◌, append_assoc}
use Rattle.std.proofs.lemmas.List.{length-map}
use Rattle.sf_base.specs.declared.limits.TheConstants.{NESTING}
use Rattle.sf_ast.specs.Surface as s
use Rattle.sf_ast.specs.View.{conjuncts}
use Rattle.sf_ast.specs.declared.word.SurfaceOperand.{SurfaceOperand}
use Rattle.sf_parse.specs.Leaf.{Leaf, leaf, leaves}
use Rattle.sf_lex.specs.declared.token.Kind.TheVariants as tk
use Rattle.sf_parse.specs.Leaf as k
use Rattle.sf_lex.specs.declared.token.Token.{Token}
use Rattle.sf_parse.specs.Grammar as g
use Rattle.sf_parse.specs.Checked.Heads.{IsFlatConjunct, conjunct_next}
use Rattle.sf_parse.specs.Checked.Machine as m
use Rattle.sf_parse.specs.Checked.Machine.{Predicted, on_conjunct, verdict, unexpected, too_deep}
use Rattle.sf_parse.specs.Nearest.{IsClosed, ConjunctNearest, AssertionNearest}
use Rattle.sf_parse.specs.Nesting.{ConjunctWithin, AssertionWithin, RestWithin}
use Rattle.sf_parse.specs.Checked.Parser.{NotNext, last_of, NotStar, Ends}
use Rattle.sf_parse.proofs.Machine.Back.{flat_conjunct}
use Rattle.sf_parse.proofs.Machine.Decided.{Decided, takes, refuses, conjunct_decided, refused, taken}
use Rattle.sf_parse.proofs.Parser.Fronts.{left_of}
use Rattle.sf_parse.proofs.Machine.HasLevel.{no_level, some_level}

-- without a level
deep : (ts : List Leaf) (st : List Predicted) → conjunct_next ts ≡ true → verdict 0 ts (m.assertion 0 ∷ st) ≡ too_deep (length ts)
deep [] st h = absurd cc
deep (t ∷ r) st h = rw ((taken (conjunct_decided 0 t r) h).1, no_level (length r)) refl

pub too_deep_here : (ts : List Token) (st : List Predicted) → conjunct_next (leaves ts) ≡ true → verdict 0 (leaves ts) (m.assertion 0 ∷ st) ≡ too_deep (length ts)
too_deep_here ts st h = deep (leaves ts) st h ∙ ap too_deep (length-map ts leaf)

no_assertion : (d : ℕ) (ts : List Leaf) (st : List Predicted) → conjunct_next ts ≡ false → verdict 0 ts (m.assertion d ∷ st) ≡ unexpected (length ts)
no_assertion d [] st h = refl
no_assertion d (t ∷ r) st h = rw (refused (conjunct_decided d t r) h) refl

pub unexpected_here : (ts : List Token) (st : List Predicted) → conjunct_next (leaves ts) ≡ false → verdict 0 (leaves ts) (m.assertion 0 ∷ st) ≡ unexpected (length ts)
unexpected_here ts st h = left_of ts (m.assertion 0 ∷ st) (no_assertion 0 (leaves ts) st h)

-- with a level
pub first_conjunct : (d : ℕ) (ts : List Leaf) (st : List Predicted) → 0 < d → verdict 0 ts (m.assertion d ∷ st) ≡ verdict 0 ts (m.conjunct d ∷ m.more_conjuncts d ∷ st)
first_conjunct zero ts st h = absurd (omega arith)
first_conjunct (suc d) [] st h = refl
first_conjunct (suc d) (t ∷ r) st h = go (conjunct_decided (suc d) t r)
  where
    go : Decided (conjunct_next (t ∷ r)) (on_conjunct (suc d) t) → verdict 0 (t ∷ r) (m.assertion (suc d) ∷ st) ≡ verdict 0 (t ∷ r) (m.conjunct (suc d) ∷ m.more_conjuncts (suc d) ∷ st)
    go (takes xs b e) = rw e (ap (verdict 0 r) (append_assoc xs (m.more_conjuncts (suc d) ∷ []) st))
    go (refuses b e) = rw e refl

-- after a conjunct
pub no_more_conjuncts : (d : ℕ) (ts : List Leaf) (st : List Predicted) → NotNext tk.Star ts → verdict 0 ts (m.more_conjuncts d ∷ st) ≡ verdict 0 ts st
no_more_conjuncts d [] st h = refl
no_more_conjuncts d (k.Star ∷ r) st h = absurd (h refl)
no_more_conjuncts d (t ∷ r) st h = refl

pub not_star : (ts : List Leaf) → NotNext tk.Star ts → NotStar ts
not_star [] h = tt
not_star (k.Star ∷ r) h = absurd (h refl)
not_star (t ∷ r) h = tt

-- in square brackets that are not empty
pub some_assertion : (ts : List Leaf) (st : List Predicted) → NotNext tk.CloseSquare ts → verdict 0 ts (m.maybe_assertion ∷ m.exact m.close_square ∷ st) ≡ verdict 0 ts (m.assertion NESTING ∷ m.exact m.close_square ∷ st)
some_assertion [] st h = refl
some_assertion (k.CloseSquare ∷ r) st h = absurd (h refl)
some_assertion (t ∷ r) st h = refl

-- a conjunct that begins with an operand
pub operand_first : (d : ℕ) (x : SurfaceOperand) (ts r : List Token) (st : List Predicted) → leaves ts ≡ g.operand x ∷ leaves r → verdict 0 (leaves ts) (m.conjunct d ∷ st) ≡ verdict 0 (leaves r) (m.relation ∷ st)
operand_first d x ts r st h = rw h refl

-- a test with no round brackets
pub bare_test : (ts : List Leaf) (st : List Predicted) → NotNext tk.OpenRound ts → verdict 0 ts (m.if_test ∷ st) ≡ verdict 0 ts (m.operand_test ∷ st)
bare_test [] st h = refl
bare_test (k.OpenRound ∷ r) st h = absurd (h refl)
bare_test (t ∷ r) st h = refl

-- what is flat is within any level, and nothing in it reaches on
pub flat_within : (c : s.Conjunct) (d : ℕ) (r : List Leaf) → IsFlatConjunct c → ConjunctWithin c 0 d r
flat_within c d r h = (flat_conjunct c 0 d r h).0

pub flat_nearest : (c : s.Conjunct) → IsFlatConjunct c → ConjunctNearest c
flat_nearest c h = (flat_conjunct c 0 0 [] h).1

pub flat_ends : (c : s.Conjunct) (r : List Leaf) → IsFlatConjunct c → Ends c r
flat_ends c r h = (flat_conjunct c 0 0 r h).2

-- one more conjunct
pub assertion_push : (c : s.Conjunct) (xs : List s.Conjunct) (y : s.Conjunct) (r : List Leaf) → g.assertion (conjuncts c (xs ++ y ∷ [])) r ≡ g.assertion (conjuncts c xs) (k.Star ∷ g.conjunct y r)
assertion_push c [] y r = refl
assertion_push c (x ∷ xs) y r = ap (λ (z : List Leaf). g.conjunct c (k.Star ∷ z)) (assertion_push x xs y r)

rest_push : (c : s.Conjunct) (xs : List s.Conjunct) (y : s.Conjunct) (d : ℕ) (r : List Leaf) → RestWithin (conjuncts c xs) 0 d (k.Star ∷ g.conjunct y r) → ConjunctWithin y 0 d r → RestWithin (conjuncts c (xs ++ y ∷ [])) 0 d r
rest_push c [] y d r all one = (all, one)
rest_push c (x ∷ xs) y d r all one =
    (subst (λ (z : List Leaf). ConjunctWithin c 0 d (k.Star ∷ z)) (sym (assertion_push x xs y r)) all.0, rest_push x xs y d r all.1 one)

pub within_push : (c : s.Conjunct) (xs : List s.Conjunct) (y : s.Conjunct) (d : ℕ) (r : List Leaf) → 0 < d → AssertionWithin (conjuncts c xs) 0 d (k.Star ∷ g.conjunct y r) → ConjunctWithin y 0 d r → AssertionWithin (conjuncts c (xs ++ y ∷ [])) 0 d r
within_push c [] y d r lv all one = (all.0, all.1, one)
within_push c (x ∷ xs) y d r lv all one =
    (some_level 0 (length (g.conjunct c (k.Star ∷ g.assertion (conjuncts x (xs ++ y ∷ [])) r))) d lv, subst (λ (z : List Leaf). ConjunctWithin c 0 d (k.Star ∷ z)) (sym (assertion_push x xs y r)) all.1, rest_push x xs y d r all.2 one)

pub nearest_push : (c : s.Conjunct) (xs : List s.Conjunct) (y : s.Conjunct) → AssertionNearest (conjuncts c xs) → IsClosed (last_of (conjuncts c xs)) → ConjunctNearest y → AssertionNearest (conjuncts c (xs ++ y ∷ []))
nearest_push c [] y all closed one = (all, closed, one)
nearest_push c (x ∷ xs) y all closed one = (all.0, all.1, nearest_push x xs y all.2 closed one)

pub last_push : (c : s.Conjunct) (xs : List s.Conjunct) (y : s.Conjunct) → last_of (conjuncts c (xs ++ y ∷ [])) ≡ y
last_push c [] y = refl
last_push c (x ∷ xs) y = last_push x xs y

pub ruleset behind = (too_deep_here, unexpected_here, first_conjunct, no_more_conjuncts, not_star, operand_first, bare_test, some_assertion, flat_within, flat_nearest, flat_ends)
