-- One token back, for each thing that may be owed, and for a whole stack.
use Rattle.std.proofs.Common.{◌≡◌, ℕ, suc, List, [], ◌∷◌, ◌++◌, length, Bool, true, false, Some, None, ◌⊎◌, inl, inr, refl, ap, subst, ◌∙◌}
use Rattle.sf_base.specs.declared.limits.TheConstants.{NESTING}
use Rattle.sf_base.specs.declared.place.Place.{Place}
use Rattle.sf_ast.specs.declared.assertion.SurfaceField.{SurfaceField}
use Rattle.sf_ast.specs.declared.word.SurfaceExpr.{SurfaceExpr}
use Rattle.sf_ast.specs.declared.word.SurfaceExpr.TheVariants as e
use Rattle.sf_ast.specs.declared.word.SurfaceOperand.{SurfaceOperand}
use Rattle.sf_ast.specs.declared.word.SurfaceOperand.TheVariants as v
use Rattle.sf_ast.specs.declared.word.SurfaceTest.{SurfaceTest}
use Rattle.sf_ast.specs.declared.word.SurfaceTest.TheVariants as t
use Rattle.sf_ast.specs.declared.word.Word.{Word}
use Rattle.sf_ast.specs.Surface as s
use Rattle.sf_parse.specs.Leaf.{Leaf}
use Rattle.sf_parse.specs.Leaf as k
use Rattle.sf_parse.specs.Grammar as g
use Rattle.sf_parse.specs.Checked.Machine as m
use Rattle.sf_parse.specs.Checked.Machine.{Predicted, Choice, take, skip, refuse, goes, chosen, choice, is_free, step, or_skip, followed, terminal_leaf, on_exact, on_expression, on_operand, on_operand_test, on_next, on_conjunct, on_command}
use Rattle.sf_parse.specs.Nearest.{ConjunctNearest, AssertionNearest, NoteNearest, CommandNearest}
use Rattle.sf_parse.specs.Nesting.{has_level, ConjunctWithin, AssertionWithin, RestWithin, NoteWithin, MaybeWithin, CommandWithin, CommandsWithin, ItemWithin}
use Rattle.sf_parse.specs.Checked.Parser.{NotStar, Ends}
use Rattle.sf_parse.proofs.Machine.Complete.{a_word}
use Rattle.sf_parse.proofs.Machine.Decided.{command_decided, conjunct_decided}
use Rattle.sf_parse.proofs.Machine.Forth.{closed_before_star}
use Rattle.sf_parse.proofs.Machine.Means.{Spells, Means, MeansChosen, MeansNext}
use Rattle.sf_parse.proofs.Machine.Back.{expr_back, operand_back, or_skip_back, followed_back, decided_back, conjunct_back, command_back}

-- some word there
abbrev word_at : Place → Word
word_at p = record { start = 0; end = 0; place = p }

record ExactBack (n : ℕ) (terminal : m.Terminal) (u : Leaf) (st : List Predicted) (ts : List Leaf) : Type 0 where
  text : Word
  is : u ≡ terminal_leaf terminal text
  more : Means n st ts

exact_back : (n : ℕ) (terminal : m.Terminal) (u : Leaf) (st : List Predicted) (w : Type 0) (ts : List Leaf) → MeansChosen n (on_exact terminal u) true st w ts → ExactBack n terminal u st ts
exact_back n m.a_name (k.Operand (v.Known (e.Name x))) st w ts q = record { text = x; is = refl; more = q }
exact_back n m.an_arrow k.Arrow st w ts q = record { text = a_word; is = refl; more = q }
exact_back n m.equals k.Equals st w ts q = record { text = a_word; is = refl; more = q }
exact_back n m.semicolon k.Semicolon st w ts q = record { text = a_word; is = refl; more = q }
exact_back n m.open_round k.OpenRound st w ts q = record { text = a_word; is = refl; more = q }
exact_back n m.close_round k.CloseRound st w ts q = record { text = a_word; is = refl; more = q }
exact_back n m.open_square k.OpenSquare st w ts q = record { text = a_word; is = refl; more = q }
exact_back n m.close_square k.CloseSquare st w ts q = record { text = a_word; is = refl; more = q }
exact_back n m.open_brace (k.OpenBrace p) st w ts q = record { text = word_at p; is = refl; more = q }
exact_back n m.close_brace (k.CloseBrace p) st w ts q = record { text = word_at p; is = refl; more = q }
exact_back n m.a_colon k.Colon st w ts q = record { text = a_word; is = refl; more = q }
exact_back n m.a_comma k.Comma st w ts q = record { text = a_word; is = refl; more = q }
exact_back n m.then_word k.Then st w ts q = record { text = a_word; is = refl; more = q }
exact_back n m.else_word k.Else st w ts q = record { text = a_word; is = refl; more = q }
exact_back n m.when_word k.When st w ts q = record { text = a_word; is = refl; more = q }
exact_back n _ _ st w ts q = absurd q

-- what comes next where the topmost is done without
abbrev Without : ℕ → List Predicted → Leaf → Type 0 → List Leaf → Type 0
Without n st u w ts = w → Means n st (u ∷ ts)

-- two values with `==` or `!=` between them are a test
compared : {E : Type 0} (side : E → Leaf) (n : ℕ) (u : Leaf) (ts r1 r2 : List Leaf) (x y : E) → u ≡ side x → Spells n m.equality ts r1 → r1 ≡ side y ∷ r2 → (b : SurfaceTest E) × (u ∷ ts ≡ g.test side b r2)
compared side n u ts r1 r2 x y h (inl e) i = (t.Equal x y, cc)
compared side n u ts r1 r2 x y h (inr e) i = (t.Differ x y, cc)

compared_values : (n : ℕ) (st : List Predicted) (u : Leaf) (ts : List Leaf) (x : SurfaceExpr) → u ≡ g.expr x → Means n (m.equality ∷ m.expression ∷ st) ts → Means n (m.test ∷ st) (u ∷ ts)
compared_values n st u ts x h (r1, q, (r2, y, more)) = (r2, compared g.expr n u ts r1 r2 x y.0 h q y.1, more)

compared_operands : (n : ℕ) (st : List Predicted) (u : Leaf) (ts : List Leaf) (x : SurfaceOperand) → u ≡ g.operand x → Means n (m.equality ∷ m.operand ∷ st) ts → Means n (m.operand_test ∷ st) (u ∷ ts)
compared_operands n st u ts x h (r1, q, (r2, y, more)) = (r2, compared g.operand n u ts r1 r2 x y.0 h q y.1, more)

operand_test_back : (n : ℕ) (st : List Predicted) (u : Leaf) (w : Type 0) (ts : List Leaf) → MeansChosen n (on_operand_test u) true st w ts → Means n (m.operand_test ∷ st) (u ∷ ts)
operand_test_back n st (k.True p) w ts q = (ts, (t.True p, refl), q)
operand_test_back n st u w ts q = let o = operand_back n u (m.equality ∷ m.operand ∷ []) st w ts q in compared_operands n st u ts o.expr o.is o.more

bare_test : (n : ℕ) (st : List Predicted) (ts : List Leaf) → Means n (m.operand_test ∷ st) ts → Means n (m.if_test ∷ st) ts
bare_test n st ts (r, b, more) = (r, (false, b.0, b.1), more)

next_name : (n : ℕ) (b : Bool) (x : Word) (ts r : List Leaf) → Spells n (m.rest b) ts r → Spells n (m.next b) (k.Name x ∷ ts) r
next_name n b x ts r (inl q) = inl (e.Name x, q.0, ap (λ z. k.Name x ∷ z) q.1)
next_name n b x ts r (inr q) = inr (q.0, x, q.1, q.2, ap (λ z. k.Name x ∷ z) q.3)

next_value : (n : ℕ) (b : Bool) (u : Leaf) (x : SurfaceExpr) (ts r : List Leaf) → u ≡ g.expr x → Spells n (m.rest false) ts r → Spells n (m.next b) (u ∷ ts) r
next_value n b u x ts r h (inl q) = let xs = q.0 in let is : ts ≡ g.more_exprs xs r = q.1 in inl (x, xs, (let whole : u ∷ ts ≡ g.expr x ∷ g.more_exprs xs r = cc in whole))
next_value n b u x ts r h (inr q) = let wrong : false ≡ true = q.0 in absurd cc

next_back : (n : ℕ) (b : Bool) (st : List Predicted) (u : Leaf) (w : Type 0) (ts : List Leaf) → MeansChosen n (on_next b u) true st w ts → Means n (m.next b ∷ st) (u ∷ ts)
next_back n b st (k.Operand (v.Known (e.Name x))) w ts (r, q, more) = (r, next_name n b x ts r q, more)
next_back n b st u w ts q =
    let o = expr_back n u (m.rest false ∷ []) st w ts q in
    (o.more.0, next_value n b u o.expr ts o.more.0 o.is o.more.1, o.more.2)

as_arguments : (n : ℕ) (ts r : List Leaf) → Spells n (m.next true) ts r → Spells n m.maybe_arguments ts r
as_arguments n ts r (inl q) = (s.values (q.0 ∷ q.1), q.2)
as_arguments n ts r (inr q) = (s.both (q.1 ∷ q.2) q.3, q.4)

arguments_back : (n : ℕ) (st : List Predicted) (u : Leaf) (w : Type 0) (ts : List Leaf) → Without n st u w ts → ((true ≡ true) × MeansChosen n (on_next true u) true st w ts) ⊎ w → Means n (m.maybe_arguments ∷ st) (u ∷ ts)
arguments_back n st u w ts f (inl q) = let o = next_back n true st u w ts q.1 in (o.0, as_arguments n (u ∷ ts) o.0 o.1, o.2)
arguments_back n st u w ts f (inr q) = (u ∷ ts, (s.values [], refl), f q)

rest_comma : (n : ℕ) (b : Bool) (ts r : List Leaf) → Spells n (m.next b) ts r → Spells n (m.rest b) (k.Comma ∷ ts) r
rest_comma n b ts r (inl q) = inl (q.0 ∷ q.1, ap (λ z. k.Comma ∷ z) q.2)
rest_comma n b ts r (inr q) = inr (q.0, q.1 ∷ q.2, q.3, ap (λ z. k.Comma ∷ z) q.4)

first_of_more : (n : ℕ) (st : List Predicted) (u : Leaf) (x : SurfaceExpr) (ts : List Leaf) → u ≡ g.expr x → Means n (m.more_expressions ∷ st) ts → Means n (m.maybe_expressions ∷ st) (u ∷ ts)
first_of_more n st u x ts h (r, q, more) = let xs = q.0 in let is : ts ≡ g.more_exprs xs r = q.1 in (r, (x ∷ xs, (let whole : u ∷ ts ≡ g.expr x ∷ g.more_exprs xs r = cc in whole)), more)

maybe_expressions_back : (n : ℕ) (st : List Predicted) (u : Leaf) (w : Type 0) (ts : List Leaf) → Without n st u w ts → ((true ≡ true) × MeansChosen n (on_expression u (m.more_expressions ∷ [])) true st w ts) ⊎ w → Means n (m.maybe_expressions ∷ st) (u ∷ ts)
maybe_expressions_back n st u w ts f (inl q) = let o = expr_back n u (m.more_expressions ∷ []) st w ts q.1 in first_of_more n st u o.expr ts o.is o.more
maybe_expressions_back n st u w ts f (inr q) = (u ∷ ts, ([], refl), f q)

a_field : (n : ℕ) (st : List Predicted) (y : Word) (ts : List Leaf) → Means n (m.exact m.a_colon ∷ m.operand ∷ m.more_fields ∷ st) ts → (r : List Leaf) × (x : SurfaceField) × (fs : List SurfaceField) × (k.Name y ∷ ts ≡ g.field x (g.more_fields fs r)) × Means n st r
a_field n st y ts (r1, a, (r2, x, (r3, fs, more))) =
    (r3, record { name = y; value = x.0 }, fs.0, ap (λ z. k.Name y ∷ z) (a.1 ∙ ap (λ z. k.Colon ∷ z) (x.1 ∙ ap (λ z. g.operand x.0 ∷ z) fs.1)), more)

-- a conjunct and those after it
with_more : (n d : ℕ) (c : s.Conjunct) (r q : List Leaf) → ConjunctWithin c n d r → ConjunctNearest c → Ends c r → Spells n (m.more_conjuncts d) r q → (a : s.Assertion) × (g.conjunct c r ≡ g.assertion a q) × RestWithin a n d q × NotStar q × AssertionNearest a
with_more n d c r q w near e (inl h) = (s.only c, ap (λ z. g.conjunct c z) h.1, subst (λ z. ConjunctWithin c n d z) h.1 w, subst (λ z. NotStar z) h.1 h.0, near)
with_more n d c r q w near e (inr h) =
    (s.star c h.0, ap (λ z. g.conjunct c z) h.1, (subst (λ z. ConjunctWithin c n d z) h.1 w, h.2), h.3, (near, closed_before_star c (g.assertion h.0 q) (subst (λ z. Ends c z) h.1 e), h.4))

-- an assertion has the level of its first token
leveled_assertion : (n d : ℕ) (a : s.Assertion) (q : List Leaf) → has_level n (length (g.assertion a q)) d ≡ true → RestWithin a n d q → AssertionWithin a n d q
leveled_assertion n d (s.only c) q lv w = (lv, w)
leveled_assertion n d (s.star c a) q lv w = (lv, w.0, w.1)

assertion_of : (n d : ℕ) (st : List Predicted) (u : Leaf) (ts : List Leaf) → has_level n (suc (length ts)) d ≡ true → (c : s.Conjunct) (r : List Leaf) → u ∷ ts ≡ g.conjunct c r → ConjunctWithin c n d r → ConjunctNearest c → Ends c r
    → Means n (m.more_conjuncts d ∷ st) r → Means n (m.assertion d ∷ st) (u ∷ ts)
assertion_of n d st u ts lv c r is w near e (q, mc, more) =
    let o = with_more n d c r q w near e mc in
    let whole : u ∷ ts ≡ g.assertion o.0 q = is ∙ o.1 in
    (q, (o.0, whole, leveled_assertion n d o.0 q (subst (λ z. has_level n (length z) d ≡ true) whole lv) o.2, o.3, o.4), more)

conjunct_predicted : (n d : ℕ) (st : List Predicted) (u : Leaf) (w : Type 0) (ts : List Leaf) → MeansChosen n (on_conjunct d u) true st w ts → Means n (m.conjunct d ∷ st) (u ∷ ts)
conjunct_predicted n d st u w ts q = let o = conjunct_back n d u st w ts q in (o.rest, (o.conjunct, o.spells, o.within, o.ends, o.nearest), o.more)

more_conjuncts_star : (n d : ℕ) (st : List Predicted) (ts : List Leaf) → Means n (m.conjunct d ∷ m.more_conjuncts d ∷ st) ts → Means n (m.more_conjuncts d ∷ st) (k.Star ∷ ts)
more_conjuncts_star n d st ts (r1, c, (r2, mc, more)) =
    let o = with_more n d c.0 r1 r2 c.2 c.4 c.3 mc in
    (r2, inr (o.0, ap (λ z. k.Star ∷ z) (c.1 ∙ o.1), o.2, o.3, o.4), more)

assertion_back : (n d : ℕ) (st : List Predicted) (u : Leaf) (w : Type 0) (ts : List Leaf) → (has_level n (suc (length ts)) d ≡ true) × MeansChosen n (on_conjunct d u) true (m.more_conjuncts d ∷ st) w ts → Means n (m.assertion d ∷ st) (u ∷ ts)
assertion_back n d st u w ts q =
    let o = conjunct_back n d u (m.more_conjuncts d ∷ st) w ts q.1 in
    assertion_of n d st u ts q.0 o.conjunct o.rest o.spells o.within o.nearest o.ends o.more

an_assertion : (n : ℕ) (st : List Predicted) (ts : List Leaf) → Means n (m.assertion NESTING ∷ st) ts → Means n (m.maybe_assertion ∷ st) ts
an_assertion n st ts (r, a, more) = (r, inr a, more)

maybe_assertion_back : (n : ℕ) (st : List Predicted) (u : Leaf) (w : Type 0) (ts : List Leaf) → Without n st u w ts → ((true ≡ true) × MeansChosen n (followed (on_conjunct NESTING u) (m.more_conjuncts NESTING ∷ [])) true st w ts) ⊎ w → Means n (m.maybe_assertion ∷ st) (u ∷ ts)
maybe_assertion_back n st u w ts f (inl q) =
    an_assertion n st (u ∷ ts) (assertion_back n NESTING st u w ts (refl, followed_back n (on_conjunct NESTING u) true (m.more_conjuncts NESTING ∷ []) st w ts q.1))
maybe_assertion_back n st u w ts f (inr q) = (u ∷ ts, inl refl, f q)

-- what occurs in square brackets
bracketed : (n : ℕ) (ts r q : List Leaf) → Spells n m.maybe_assertion ts r → r ≡ k.CloseSquare ∷ q → (x : s.Note) × (k.OpenSquare ∷ ts ≡ g.annotation x q) × NoteWithin x n q × NoteNearest x
bracketed n ts r q (inl h) c = (s.blank, ap (λ z. k.OpenSquare ∷ z) (h ∙ c), tt, tt)
bracketed n ts r q (inr h) c = (s.filled h.0, ap (λ z. k.OpenSquare ∷ z) (h.1 ∙ ap (λ z. g.assertion h.0 z) c), subst (λ z. AssertionWithin h.0 n NESTING z) c h.2, h.4)

a_annotation : (n : ℕ) (st : List Predicted) (ts : List Leaf) → Means n (m.maybe_assertion ∷ m.exact m.close_square ∷ st) ts → (r : List Leaf) × (x : s.Note) × (k.OpenSquare ∷ ts ≡ g.annotation x r) × NoteWithin x n r × NoteNearest x × Means n st r
a_annotation n st ts (r1, a, (r2, c, more)) = let o = bracketed n ts r1 r2 a c.1 in (r2, o.0, o.1, o.2, o.3, more)

called : (n : ℕ) (ts r1 r2 r3 : List Leaf) (a : s.Arguments) → ts ≡ g.arguments a r1 → r1 ≡ k.CloseRound ∷ r2 → Spells n m.after_call r2 r3 → Spells n m.named (k.OpenRound ∷ ts) r3
called n ts r1 r2 r3 a h c (inl q) = λ x.
    (s.call (record { name = x; arguments = a }), tt, ap (λ z. k.Name x ∷ k.OpenRound ∷ z) (h ∙ ap (λ z. g.arguments a z) (c ∙ ap (λ z. k.CloseRound ∷ z) q)))
called n ts r1 r2 r3 a h c (inr q) = λ x.
    (s.fork (record { name = x; arguments = a }) q.0, tt, ap (λ z. k.Name x ∷ k.OpenRound ∷ z) (h ∙ ap (λ z. g.arguments a z) (c ∙ ap (λ z. k.CloseRound ∷ z) q.1)))

looked_up : (n : ℕ) (u : Leaf) (x : SurfaceExpr) (ts r : List Leaf) → u ≡ g.expr x → Spells n m.look_up_or_end ts r → Spells n m.assigned (u ∷ ts) r
looked_up n u x ts r h (inl q) = λ y. (s.assign y x, tt, cc)
looked_up n u x ts r h (inr q) = λ y. (s.look_up y x q.0, tt, cc)

second_call : (n : ℕ) (st : List Predicted) (ts : List Leaf) → Means n (m.exact m.a_name ∷ m.exact m.open_round ∷ m.maybe_arguments ∷ m.exact m.close_round ∷ m.exact m.semicolon ∷ st) ts → Means n (m.after_call ∷ st) (k.Bars ∷ ts)
second_call n st ts (r1, a, (r2, b, (r3, x, (r4, c, (r5, d, more))))) =
    let call : s.Call = record { name = a.0; arguments = x.0 } in
    (r5, inr (call, (let whole : k.Bars ∷ ts ≡ k.Bars ∷ g.call call (k.Semicolon ∷ r5) = cc in whole)), more)

command_predicted : (n d : ℕ) (st : List Predicted) (u : Leaf) (w : Type 0) (ts : List Leaf) → (has_level n (suc (length ts)) d ≡ true) × MeansChosen n (on_command d u) true st w ts → Means n (m.command d ∷ st) (u ∷ ts)
command_predicted n d st u w ts q = let o = command_back n d u st w ts q.1 in (o.rest, (o.command, o.spells, o.within q.0, o.follows, o.nearest), o.more)

then_commands : (n d : ℕ) (st : List Predicted) (u : Leaf) (ts : List Leaf) (c : s.Command) (r : List Leaf) → u ∷ ts ≡ g.command c r → CommandWithin c n d r → CommandNearest c → Means n (m.commands d ∷ st) r → Means n (m.commands d ∷ st) (u ∷ ts)
then_commands n d st u ts c r is w near (q, cs, more) = (q, (s.then c cs.0, is ∙ ap (λ z. g.command c z) cs.1, (subst (λ z. CommandWithin c n d z) cs.1 w, cs.2), (near, cs.3)), more)

commands_back : (n d : ℕ) (st : List Predicted) (u : Leaf) (w : Type 0) (ts : List Leaf) → Without n st u w ts → ((has_level n (suc (length ts)) d ≡ true) × MeansChosen n (followed (on_command d u) (m.commands d ∷ [])) true st w ts) ⊎ w → Means n (m.commands d ∷ st) (u ∷ ts)
commands_back n d st u w ts f (inl q) =
    let o = command_back n d u (m.commands d ∷ st) w ts (followed_back n (on_command d u) true (m.commands d ∷ []) st w ts q.1) in
    then_commands n d st u ts o.command o.rest o.spells (o.within q.0) o.nearest o.more
commands_back n d st u w ts f (inr q) = (u ∷ ts, (s.done, refl, tt, tt), f q)

a_local : (n : ℕ) (st : List Predicted) (ts : List Leaf) → Means n (m.exact m.a_name ∷ m.more_names ∷ m.exact m.semicolon ∷ m.locals ∷ st) ts → Means n (m.locals ∷ st) (k.Local ∷ ts)
a_local n st ts (r1, a, (r2, xs, (r3, b, (r4, ls, more)))) =
    let whole : k.Local ∷ ts ≡ k.Local ∷ k.Name a.0 ∷ g.more_names xs.0 (k.Semicolon ∷ g.locals ls.0 r4) = cc in
    let one : s.Names = record { first = a.0; more = xs.0 } in
    (r4, (one ∷ ls.0, whole), more)

-- parameters with a `;` and without
parameters_of : (n : ℕ) (ts r1 r2 : List Leaf) (xs : List Word) → ts ≡ g.maybe_names xs r1 → Spells n m.maybe_values r1 r2 → (ps : s.Parameters) × (ts ≡ g.parameters ps r2)
parameters_of n ts r1 r2 xs h (inl q) = (s.only_values xs, h ∙ ap (λ z. g.maybe_names xs z) q)
parameters_of n ts r1 r2 xs h (inr q) = (s.references_and_values xs q.0, h ∙ ap (λ z. g.maybe_names xs z) q.1)

some_fields : (n : ℕ) (st : List Predicted) (ts : List Leaf) → Means n (m.exact m.a_name ∷ m.more_names ∷ m.exact m.semicolon ∷ st) ts → Means n (m.item_named ∷ st) (k.Comma ∷ ts)
some_fields n st ts (r1, a, (r2, xs, (r3, b, more))) =
    let whole : ts ≡ k.Name a.0 ∷ g.more_names xs.0 (k.Semicolon ∷ r3) = a.1 ∙ ap (λ z. k.Name a.0 ∷ z) (xs.1 ∙ ap (λ z. g.more_names xs.0 z) b.1) in
    (r3, λ x. (s.fields (record { first = x; more = a.0 ∷ xs.0 }), ap (λ z. k.Name x ∷ k.Comma ∷ z) whole, tt, tt), more)

a_procedure : (n : ℕ) (st : List Predicted) (ts : List Leaf)
    → Means n (m.maybe_names ∷ m.maybe_values ∷ m.exact m.close_round ∷ m.maybe_annotation ∷ m.exact m.open_brace ∷ m.locals ∷ m.commands NESTING ∷ m.exact m.close_brace ∷ m.maybe_annotation ∷ st) ts
    → Means n (m.item_named ∷ st) (k.OpenRound ∷ ts)
a_procedure n st ts (r1, xs, (r2, ys, (r3, a, (r4, pre, (r5, b, (r6, ls, (r7, body, (r8, c, (r9, post, more))))))))) =
    let ps = parameters_of n ts r1 r2 xs.0 xs.1 ys in
    let last : r7 ≡ k.CloseBrace c.0.place ∷ g.maybe_annotation post.0 r9 = c.1 ∙ ap (λ z. k.CloseBrace c.0.place ∷ z) post.1 in
    let inside : r4 ≡ k.OpenBrace b.0.place ∷ g.locals ls.0 (g.commands body.0 (k.CloseBrace c.0.place ∷ g.maybe_annotation post.0 r9)) = cc in
    let f : Word → s.Procedure = λ x. record { name = x; parameters = ps.0; pre = pre.0; opens = b.0.place; locals = ls.0; body = body.0; closes = c.0.place; post = post.0 } in
    let whole : (x : Word) → k.Name x ∷ k.OpenRound ∷ ts ≡ g.procedure (f x) r9 = λ x. cc (ps.1, a.1, pre.1, inside) in
    (r9, λ x. (s.procedure (f x), whole x, (subst (λ z. MaybeWithin pre.0 n z) inside pre.2, subst (λ z. CommandsWithin body.0 n NESTING z) last body.2, post.2), (pre.3, body.3, post.3)), more)

an_item : (n : ℕ) (st : List Predicted) (x : Word) (ts : List Leaf) → Means n (m.item_named ∷ m.items ∷ st) ts → Means n (m.items ∷ st) (k.Name x ∷ ts)
an_item n st x ts (r1, some, (r2, is, more)) =
    let i = some x in
    (r2, (i.0 ∷ is.0, i.1 ∙ ap (λ z. g.item i.0 z) is.1, (subst (λ z. ItemWithin i.0 n z) is.1 i.2, is.2), (i.3, is.3)), more)

a_resource : (n : ℕ) (st : List Predicted) (p : Place) (ts : List Leaf)
    → Means n (m.exact m.a_name ∷ m.exact m.open_round ∷ m.maybe_names ∷ m.exact m.close_round ∷ m.exact m.open_square ∷ m.maybe_assertion ∷ m.exact m.close_square ∷ m.items ∷ st) ts
    → Means n (m.items ∷ st) (k.Resource p ∷ ts)
a_resource n st p ts (r0, a, (r1, b, (r2, xs, (r3, c, (r4, o, q))))) =
    let x = a_annotation n (m.items ∷ st) r4 q in
    let is = x.5.1 in
    let last : k.OpenSquare ∷ r4 ≡ g.annotation x.1 (g.items is.0 x.5.0) = x.2 ∙ ap (λ z. g.annotation x.1 z) is.1 in
    let i : s.Resource = record { place = p; name = a.0; variables = xs.0; invariant = x.1 } in
    let whole : k.Resource p ∷ ts ≡ g.resource i (g.items is.0 x.5.0) = cc in
    (x.5.0, (s.resource i ∷ is.0, whole, (subst (λ z. NoteWithin x.1 n z) is.1 x.3, is.2), (x.4, is.3)), x.5.2)

predicted_back : (n : ℕ) (o : Predicted) (st : List Predicted) (u : Leaf) (w : Type 0) (ts : List Leaf) → Without n st u w ts → MeansChosen n (choice o u) (is_free o n (suc (length ts))) st w ts → Means n (o ∷ st) (u ∷ ts)
predicted_back n (m.exact x) st u w ts f q = let o = exact_back n x u st w ts q in (ts, (o.text, ap (λ z. z ∷ ts) o.is), o.more)
predicted_back n m.expression st u w ts f q = let o = expr_back n u [] st w ts q in (ts, (o.expr, ap (λ z. z ∷ ts) o.is), o.more)
predicted_back n m.operand st u w ts f q = let o = operand_back n u [] st w ts q in (ts, (o.expr, ap (λ z. z ∷ ts) o.is), o.more)
predicted_back n m.equality st k.EqualEqual w ts f q = (ts, inl refl, q)
predicted_back n m.equality st k.NotEqual w ts f q = (ts, inr refl, q)
predicted_back n m.equality st _ w ts f q = absurd q
predicted_back n m.test st (k.True p) w ts f q = (ts, (t.True p, refl), q)
predicted_back n m.test st u w ts f q = let o = expr_back n u (m.equality ∷ m.expression ∷ []) st w ts q in compared_values n st u ts o.expr o.is o.more
predicted_back n m.operand_test st u w ts f q = operand_test_back n st u w ts q
predicted_back n m.if_test st k.OpenRound w ts f (r1, b, (r2, c, more)) = (r2, (true, b.0, ap (λ z. k.OpenRound ∷ z) (b.1 ∙ ap (λ z. g.test g.operand b.0 z) c.1)), more)
predicted_back n m.if_test st u w ts f q = bare_test n st (u ∷ ts) (operand_test_back n st u w ts q)
predicted_back n m.more_names st k.Comma w ts f (r1, a, (r2, xs, more)) = (r2, (a.0 ∷ xs.0, ap (λ z. k.Comma ∷ z) (a.1 ∙ ap (λ z. k.Name a.0 ∷ z) xs.1)), more)
predicted_back n m.more_names st u w ts f q = (u ∷ ts, ([], refl), f q)
predicted_back n m.maybe_names st (k.Operand (v.Known (e.Name x))) w ts f (r, xs, more) = (r, (x ∷ xs.0, ap (λ z. k.Name x ∷ z) xs.1), more)
predicted_back n m.maybe_names st u w ts f q = (u ∷ ts, ([], refl), f q)
predicted_back n m.maybe_values st k.Semicolon w ts f (r, xs, more) = (r, inr (xs.0, ap (λ z. k.Semicolon ∷ z) xs.1), more)
predicted_back n m.maybe_values st u w ts f q = (u ∷ ts, inl refl, f q)
predicted_back n m.maybe_arguments st k.Semicolon w ts f (r, xs, more) = (r, (s.both [] xs.0, ap (λ z. k.Semicolon ∷ z) xs.1), more)
predicted_back n m.maybe_arguments st u w ts f q = arguments_back n st u w ts f (or_skip_back n (on_next true u) true st w ts q)
predicted_back n (m.rest b) st k.Comma w ts f (r, q, more) = (r, rest_comma n b ts r q, more)
predicted_back n (m.rest true) st k.Semicolon w ts f (r, xs, more) = (r, inr (refl, [], xs.0, ap (λ z. k.Semicolon ∷ z) xs.1), more)
predicted_back n (m.rest b) st u w ts f q = (u ∷ ts, inl ([], refl), f q)
predicted_back n (m.next b) st u w ts f q = next_back n b st u w ts q
predicted_back n m.maybe_expressions st u w ts f q = maybe_expressions_back n st u w ts f (or_skip_back n (on_expression u (m.more_expressions ∷ [])) true st w ts q)
predicted_back n m.more_expressions st k.Comma w ts f (r1, x, (r2, xs, more)) = (r2, (x.0 ∷ xs.0, ap (λ z. k.Comma ∷ z) (x.1 ∙ ap (λ z. g.expr x.0 ∷ z) xs.1)), more)
predicted_back n m.more_expressions st u w ts f q = (u ∷ ts, ([], refl), f q)
predicted_back n m.relation st k.EqualEqual w ts f (r, x, more) = (r, inl (x.0, ap (λ z. k.EqualEqual ∷ z) x.1), more)
predicted_back n m.relation st k.NotEqual w ts f (r, x, more) = (r, inr (inl (x.0, ap (λ z. k.NotEqual ∷ z) x.1)), more)
predicted_back n m.relation st k.PointsTo w ts f (r, x, more) = (r, inr (inr (x.0, ap (λ z. k.PointsTo ∷ z) x.1)), more)
predicted_back n m.relation st _ w ts f q = absurd q
predicted_back n m.maybe_fields st (k.Operand (v.Known (e.Name y))) w ts f q = let o = a_field n st y ts q in (o.0, (o.1 ∷ o.2, o.3), o.4)
predicted_back n m.maybe_fields st u w ts f q = (u ∷ ts, ([], refl), f q)
predicted_back n m.more_fields st k.Comma w ts f (r, a, more) = let o = a_field n st a.0 r more in (o.0, (o.1 ∷ o.2, ap (λ z. k.Comma ∷ z) (a.1 ∙ o.3)), o.4)
predicted_back n m.more_fields st u w ts f q = (u ∷ ts, ([], refl), f q)
predicted_back n (m.conjunct d) st u w ts f q = conjunct_predicted n d st u w ts q
predicted_back n (m.more_conjuncts d) st k.Star w ts f q = more_conjuncts_star n d st ts q
predicted_back n (m.more_conjuncts d) st u w ts f q = (u ∷ ts, inl (tt, refl), f q)
predicted_back n (m.assertion d) st u w ts f q =
    let more = m.more_conjuncts d ∷ [] in
    let free = has_level n (suc (length ts)) d in
    assertion_back n d st u w ts (decided_back n (on_conjunct d u) free (more ++ st) w ts (conjunct_decided d u ts) (followed_back n (on_conjunct d u) free more st w ts q))
predicted_back n m.maybe_assertion st u w ts f q = maybe_assertion_back n st u w ts f (or_skip_back n (followed (on_conjunct NESTING u) (m.more_conjuncts NESTING ∷ [])) true st w ts q)
predicted_back n m.maybe_annotation st k.OpenSquare w ts f q = let o = a_annotation n st ts q in (o.0, (Some o.1, o.2, o.3, o.4), o.5)
predicted_back n m.maybe_annotation st u w ts f q = (u ∷ ts, (None, refl, tt, tt), f q)
predicted_back n m.named st k.Equals w ts f (r, c, more) = (r, c, more)
predicted_back n m.named st k.Arrow w ts f (r1, a, (r2, b, (r3, y, (r4, c, more)))) = (r4, λ x. (s.mutate (e.Name x) a.0 y.0, tt, cc), more)
predicted_back n m.named st k.OpenRound w ts f (r1, a, (r2, b, (r3, c, more))) = (r3, called n ts r1 r2 r3 a.0 a.1 b.1 c, more)
predicted_back n m.named st _ w ts f q = absurd q
predicted_back n m.assigned st k.New w ts f (r1, a, (r2, b, (r3, c, more))) = (r3, λ x. (s.new x, tt, cc), more)
predicted_back n m.assigned st u w ts f q =
    let o = expr_back n u (m.look_up_or_end ∷ []) st w ts q in
    (o.more.0, looked_up n u o.expr ts o.more.0 o.is o.more.1, o.more.2)
predicted_back n m.look_up_or_end st k.Semicolon w ts f q = (ts, inl refl, q)
predicted_back n m.look_up_or_end st k.Arrow w ts f (r1, a, (r2, b, more)) = (r2, inr (a.0, cc), more)
predicted_back n m.look_up_or_end st _ w ts f q = absurd q
predicted_back n m.after_call st k.Semicolon w ts f q = (ts, inl refl, q)
predicted_back n m.after_call st k.Bars w ts f q = second_call n st ts q
predicted_back n m.after_call st _ w ts f q = absurd q
predicted_back n m.disposed st k.OpenRound w ts f (r1, x, (r2, b, (r3, c, more))) = (r3, (true, x.0, cc), more)
predicted_back n m.disposed st u w ts f q =
    let o = expr_back n u (m.exact m.semicolon ∷ []) st w ts q in
    let first : u ≡ g.expr o.expr = o.is in
    let last : ts ≡ k.Semicolon ∷ o.more.0 = o.more.1.1 in
    let whole : u ∷ ts ≡ g.expr o.expr ∷ k.Semicolon ∷ o.more.0 = cc in
    (o.more.0, (false, o.expr, whole), o.more.2)
predicted_back n (m.command d) st u w ts f q = command_predicted n d st u w ts (decided_back n (on_command d u) (has_level n (suc (length ts)) d) st w ts (command_decided d u ts) q)
predicted_back n (m.commands d) st u w ts f q = commands_back n d st u w ts f (or_skip_back n (followed (on_command d u) (m.commands d ∷ [])) (has_level n (suc (length ts)) d) st w ts q)
predicted_back n (m.branch d) st k.Else w ts f (r, c, more) = (r, inl (c.0, ap (λ z. k.Else ∷ z) c.1, c.2, c.3, c.4), more)
predicted_back n (m.branch d) st u w ts f q = (u ∷ ts, inr (tt, refl), f q)
predicted_back n m.locals st k.Local w ts f q = a_local n st ts q
predicted_back n m.locals st u w ts f q = (u ∷ ts, ([], refl), f q)
predicted_back n m.item_named st k.Comma w ts f q = some_fields n st ts q
predicted_back n m.item_named st k.Semicolon w ts f q = (ts, λ x. (s.fields (record { first = x; more = [] }), refl, tt, tt), q)
predicted_back n m.item_named st k.OpenRound w ts f q = a_procedure n st ts q
predicted_back n m.item_named st _ w ts f q = absurd q
predicted_back n m.items st (k.Operand (v.Known (e.Name x))) w ts f q = an_item n st x ts q
predicted_back n m.items st (k.Resource p) w ts f q = a_resource n st p ts q
predicted_back n m.items st _ w ts f q = absurd q

-- where what is owed after a token spells the rest, the stack spells all
pub step_back : (n : ℕ) (st : List Predicted) (u : Leaf) (ts : List Leaf) → MeansNext n st u ts → Means n st (u ∷ ts)
step_back n [] u ts q = absurd q
step_back n (o ∷ st) u ts q = predicted_back n o st u (MeansNext n st u ts) ts (step_back n st u ts) q

chosen_means : (n : ℕ) (c : Choice) (o : Predicted) (st : List Predicted) (u : Leaf) (ts : List Leaf) (s : Predicted) (st2 : List Predicted) → chosen c o st (step st u) ≡ goes s st2 → is_free s n (suc (length ts)) ≡ true → Means n st2 ts
    → (step st u ≡ goes s st2 → MeansNext n st u ts) → MeansChosen n c (is_free o n (suc (length ts))) st (MeansNext n st u ts) ts
chosen_means n (take ss) o st u ts s st2 e h q more =
    let by : o ≡ s = cc in
    let stack : ss ++ st ≡ st2 = cc in
    rw (by, h, stack) q
chosen_means n skip o st u ts s st2 e h q more = more e
chosen_means n refuse o st u ts s st2 e h q more = absurd cc

-- it does so where the machine takes the token
pub next_means : (n : ℕ) (st : List Predicted) (u : Leaf) (ts : List Leaf) (s : Predicted) (st2 : List Predicted) → step st u ≡ goes s st2 → is_free s n (suc (length ts)) ≡ true → Means n st2 ts → MeansNext n st u ts
next_means n [] u ts s st2 e h q = absurd cc
next_means n (o ∷ st) u ts s st2 e h q = chosen_means n (choice o u) o st u ts s st2 e h q (λ i. next_means n st u ts s st2 i h q)
