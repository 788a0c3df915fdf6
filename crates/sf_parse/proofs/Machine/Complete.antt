-- Each stack can be completed, by the shortest tokens that it spells.
use Rattle.std.proofs.Common.{◌≡◌, ◌≤◌, ℕ, suc, List, [], ◌∷◌, length, Bool, true, false, None, inl, inr, refl, arith}
use Rattle.sf_ast.specs.declared.word.SurfaceExpr.TheVariants as e
use Rattle.sf_ast.specs.declared.word.SurfaceOperand.TheVariants as v
use Rattle.sf_ast.specs.declared.word.SurfaceTest.TheVariants as t
use Rattle.sf_base.specs.declared.place.Place.{Place}
use Rattle.sf_ast.specs.declared.word.Word.{Word}
use Rattle.sf_ast.specs.Surface as s
use Rattle.sf_parse.specs.Leaf.{Leaf}
use Rattle.sf_parse.specs.Leaf as k
use Rattle.sf_parse.specs.Checked.Machine as m
use Rattle.sf_parse.specs.Checked.Machine.{Predicted, is_optional, terminal_leaf}
use Rattle.sf_parse.specs.Checked.Parser.{NotStar}
use Rattle.sf_parse.proofs.Machine.HasLevel.{level_in}
use Rattle.sf_parse.proofs.Machine.Means.{Spells, Means}

-- some place, and some word
abbrev pub a_place : Place
a_place = record { line = 1; column = 1 }

abbrev pub a_word : Word
a_word = record { start = 0; end = 0; place = a_place }

-- the shortest tokens of one thing owed, before these
record Completed (o : Predicted) (r : List Leaf) : Type 0 where
  tokens : List Leaf
  spells : (n : ℕ) → length tokens ≤ n → Spells n o tokens r
  star : NotStar tokens
  longer : length r ≤ length tokens

-- what may be left out before any tokens
abbrev pub is_skipped : Predicted → Bool
is_skipped (m.branch d) = false
is_skipped o = is_optional o

-- is spelled by nothing, where conjuncts may end there
pub skipped : (n : ℕ) (o : Predicted) (r : List Leaf) → NotStar r → is_skipped o ≡ true → Spells n o r r
skipped n m.more_names r star h = ([], refl)
skipped n m.maybe_names r star h = ([], refl)
skipped n m.maybe_values r star h = inl refl
skipped n m.maybe_arguments r star h = (s.values [], refl)
skipped n (m.rest b) r star h = inl ([], refl)
skipped n m.maybe_expressions r star h = ([], refl)
skipped n m.more_expressions r star h = ([], refl)
skipped n m.maybe_fields r star h = ([], refl)
skipped n m.more_fields r star h = ([], refl)
skipped n (m.more_conjuncts d) r star h = inl (star, refl)
skipped n m.maybe_assertion r star h = inl refl
skipped n m.maybe_annotation r star h = (None, refl, tt, tt)
skipped n (m.commands d) r star h = (s.done, refl, tt, tt)
skipped n m.locals r star h = ([], refl)
skipped n m.items r star h = ([], refl, tt, tt)
skipped n _ r star h = absurd cc

terminal_not_star : (u : m.Terminal) (x : Word) (r : List Leaf) → NotStar (terminal_leaf u x ∷ r)
terminal_not_star m.a_name x r = tt
terminal_not_star _ x r = tt

completed : (o : Predicted) (r : List Leaf) → NotStar r → Completed o r
completed (m.exact u) r star = record { tokens = terminal_leaf u a_word ∷ r; spells = λ n h. (a_word, refl); star = terminal_not_star u a_word r; longer = omega arith }
completed m.expression r star = record { tokens = k.Expr (e.Nil a_place) ∷ r; spells = λ n h. (e.Nil a_place, refl); star = tt; longer = omega arith }
completed m.operand r star = record { tokens = k.Expr (e.Nil a_place) ∷ r; spells = λ n h. (v.Known (e.Nil a_place), refl); star = tt; longer = omega arith }
completed m.equality r star = record { tokens = k.EqualEqual ∷ r; spells = λ n h. inl refl; star = tt; longer = omega arith }
completed m.test r star = record { tokens = k.True a_place ∷ r; spells = λ n h. (t.True a_place, refl); star = tt; longer = omega arith }
completed m.operand_test r star = record { tokens = k.True a_place ∷ r; spells = λ n h. (t.True a_place, refl); star = tt; longer = omega arith }
completed m.if_test r star = record { tokens = k.True a_place ∷ r; spells = λ n h. (false, t.True a_place, refl); star = tt; longer = omega arith }
completed (m.next b) r star = record { tokens = k.Expr (e.Nil a_place) ∷ r; spells = λ n h. inl (e.Nil a_place, [], refl); star = tt; longer = omega arith }
completed m.relation r star = record { tokens = k.PointsTo ∷ r; spells = λ n h. inr (inr ([], refl)); star = tt; longer = omega arith }
completed (m.conjunct d) r star = record { tokens = k.Emp a_place ∷ r; spells = λ n h. (s.emp a_place, refl, tt, tt, tt); star = tt; longer = omega arith }
completed (m.assertion d) r star = record { tokens = k.Emp a_place ∷ r; spells = λ n h. (s.only (s.emp a_place), refl, (level_in n (suc (length r)) d h, tt), star, tt); star = tt; longer = omega arith }
completed m.named r star = record { tokens = k.Equals ∷ k.Expr (e.Nil a_place) ∷ k.Semicolon ∷ r; spells = λ n h. λ x. (s.assign x (e.Nil a_place), tt, refl); star = tt; longer = omega arith }
completed m.assigned r star = record { tokens = k.Expr (e.Nil a_place) ∷ k.Semicolon ∷ r; spells = λ n h. λ x. (s.assign x (e.Nil a_place), tt, refl); star = tt; longer = omega arith }
completed m.look_up_or_end r star = record { tokens = k.Semicolon ∷ r; spells = λ n h. inl refl; star = tt; longer = omega arith }
completed m.after_call r star = record { tokens = k.Semicolon ∷ r; spells = λ n h. inl refl; star = tt; longer = omega arith }
completed m.disposed r star = record { tokens = k.Expr (e.Nil a_place) ∷ k.Semicolon ∷ r; spells = λ n h. (false, e.Nil a_place, refl); star = tt; longer = omega arith }
completed (m.command d) r star = record { tokens = k.Name a_word ∷ k.Equals ∷ k.Expr (e.Nil a_place) ∷ k.Semicolon ∷ r; spells = λ n h. (s.assign a_word (e.Nil a_place), refl, level_in n (suc (suc (suc (suc (length r))))) d h, tt, tt); star = tt; longer = omega arith }
completed (m.branch d) r star = record { tokens = k.Else ∷ k.Name a_word ∷ k.Equals ∷ k.Expr (e.Nil a_place) ∷ k.Semicolon ∷ r; spells = λ n h. inl (s.assign a_word (e.Nil a_place), refl, level_in n (suc (suc (suc (suc (length r))))) d (omega arith), tt, tt); star = tt; longer = omega arith }
completed m.item_named r star = record { tokens = k.Semicolon ∷ r; spells = λ n h. λ x. (s.fields (record { first = x; more = [] }), refl, tt, tt); star = tt; longer = omega arith }
completed o r star = record { tokens = r; spells = λ n h. skipped n o r star refl; star = star; longer = omega arith }

-- those of a stack: it spells them, where all is free of the limit
pub record Completion (st : List Predicted) : Type 0 where
  pub tokens : List Leaf
  pub means : (n : ℕ) → length tokens ≤ n → Means n st tokens
  pub star : NotStar tokens

pub completion : (st : List Predicted) → Completion st
completion [] = record { tokens = []; means = λ n h. refl; star = tt }
completion (o ∷ st) =
    let c = completion st in
    let d = completed o c.tokens c.star in
    record { tokens = d.tokens; means = λ n h. (c.tokens, d.spells n h, c.means n (omega (arith, d.longer))); star = d.star }
