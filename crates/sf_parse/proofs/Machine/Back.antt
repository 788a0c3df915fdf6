-- One token back: where the machine takes a token and what is then owed spells the rest, what was owed spells all.
use Rattle.std.proofs.Common.{◌≡◌, ℕ, suc, List, [], ◌∷◌, ◌++◌, ◌-◌, length, Bool, true, false, ◌⊎◌, inl, inr, refl, ap, subst, ◌∙◌, append_assoc}
use Rattle.sf_base.specs.declared.place.Place.{Place}
use Rattle.sf_ast.specs.declared.word.SurfaceExpr.{SurfaceExpr}
use Rattle.sf_ast.specs.declared.word.SurfaceExpr.TheVariants as e
use Rattle.sf_ast.specs.declared.word.SurfaceOperand.{SurfaceOperand}
use Rattle.sf_ast.specs.declared.word.SurfaceOperand.TheVariants as v
use Rattle.sf_ast.specs.Surface as s
use Rattle.sf_parse.specs.Leaf.{Leaf}
use Rattle.sf_parse.specs.Leaf as k
use Rattle.sf_parse.specs.Grammar as g
use Rattle.sf_parse.specs.Checked.Heads.{IsFlat, IsFlatConjunct}
use Rattle.sf_parse.specs.Checked.Machine as m
use Rattle.sf_parse.specs.Checked.Machine.{Predicted, Choice, take, skip, refuse, or_skip, followed, on_expression, on_operand, on_conjunct, on_command}
use Rattle.sf_parse.specs.Nearest.{NotElse, Follows, ConjunctNearest, CommandNearest}
use Rattle.sf_parse.specs.Nesting.{has_level, ConjunctWithin, AssertionWithin, MaybeWithin, CommandWithin, CommandsWithin}
use Rattle.sf_parse.specs.Checked.Parser.{Ends}
use Rattle.sf_parse.proofs.Grammar.Predicates.{predicate_back}
use Rattle.sf_parse.proofs.Machine.Decided.{Decided, takes, refuses}
use Rattle.sf_parse.proofs.Machine.Means.{Spells, Means, MeansChosen}

-- an expression's first token
pub record ExprBack (n : ℕ) (u : Leaf) (ss st : List Predicted) (ts : List Leaf) : Type 0 where
  pub expr : SurfaceExpr
  pub is : u ≡ g.expr expr
  pub more : Means n (ss ++ st) ts

pub expr_back : (n : ℕ) (u : Leaf) (ss st : List Predicted) (w : Type 0) (ts : List Leaf) → MeansChosen n (on_expression u ss) true st w ts → ExprBack n u ss st ts
expr_back n (k.Operand (v.Known x)) ss st w ts m = record { expr = x; is = refl; more = m }
expr_back n _ ss st w ts m = absurd m

pub record OperandBack (n : ℕ) (u : Leaf) (ss st : List Predicted) (ts : List Leaf) : Type 0 where
  pub expr : SurfaceOperand
  pub is : u ≡ g.operand expr
  pub more : Means n (ss ++ st) ts

pub operand_back : (n : ℕ) (u : Leaf) (ss st : List Predicted) (w : Type 0) (ts : List Leaf) → MeansChosen n (on_operand u ss) true st w ts → OperandBack n u ss st ts
operand_back n (k.Operand x) ss st w ts m = record { expr = x; is = refl; more = m }
operand_back n _ ss st w ts m = absurd m

-- what may be left out is there, with a level, or is left out
pub or_skip_back : (n : ℕ) (c : Choice) (f : Bool) (st : List Predicted) (w : Type 0) (ts : List Leaf) → MeansChosen n (or_skip c) f st w ts → ((f ≡ true) × MeansChosen n c true st w ts) ⊎ w
or_skip_back n (take ss) true st w ts m = inl (refl, m)
or_skip_back n (take ss) false st w ts m = absurd m
or_skip_back n skip f st w ts m = inr m
or_skip_back n refuse f st w ts m = inr m

-- what is owed after a choice comes before what was to come
pub followed_back : (n : ℕ) (c : Choice) (f : Bool) (ss st : List Predicted) (w : Type 0) (ts : List Leaf) → MeansChosen n (followed c ss) f st w ts → MeansChosen n c f (ss ++ st) w ts
followed_back n (take xs) true ss st w ts m = subst (λ z. Means n z ts) (append_assoc xs ss st) m
followed_back n (take xs) false ss st w ts m = m
followed_back n skip f ss st w ts m = m
followed_back n refuse f ss st w ts m = m

-- it is taken, with a level, or refused
pub decided_back : {b : Bool} (n : ℕ) (c : Choice) (f : Bool) (st : List Predicted) (w : Type 0) (ts : List Leaf) → Decided b c → MeansChosen n c f st w ts → (f ≡ true) × MeansChosen n c true st w ts
decided_back n (take ss) true st w ts h m = (refl, m)
decided_back n (take ss) false st w ts h m = absurd m
decided_back n skip f st w ts (takes xs t e) m = absurd cc
decided_back n skip f st w ts (refuses t e) m = absurd cc
decided_back n refuse f st w ts h m = absurd m

-- a conjunct's first token
pub record ConjunctBack (n d : ℕ) (u : Leaf) (st : List Predicted) (ts : List Leaf) : Type 0 where
  pub conjunct : s.Conjunct
  pub rest : List Leaf
  pub spells : u ∷ ts ≡ g.conjunct conjunct rest
  pub within : ConjunctWithin conjunct n d rest
  pub nearest : ConjunctNearest conjunct
  pub ends : Ends conjunct rest
  pub more : Means n st rest

relation_back : (n d : ℕ) (x : SurfaceOperand) (st : List Predicted) (ts : List Leaf) → Means n (m.relation ∷ st) ts → ConjunctBack n d (g.operand x) st ts
relation_back n d x st ts (r, p, more) = relation_cases p more
  where
    relation_cases : Spells n m.relation ts r → Means n st r → ConjunctBack n d (g.operand x) st ts
    relation_cases (inl q) more = record { conjunct = s.equal x q.0; rest = r; spells = cc; within = tt; nearest = tt; ends = tt; more = more }
    relation_cases (inr (inl q)) more = record { conjunct = s.differ x q.0; rest = r; spells = cc; within = tt; nearest = tt; ends = tt; more = more }
    relation_cases (inr (inr q)) more = record { conjunct = s.points x q.0; rest = r; spells = cc; within = tt; nearest = tt; ends = tt; more = more }

group_back : (n d : ℕ) (st : List Predicted) (ts : List Leaf) → Means n (m.assertion (d - 1) ∷ m.exact m.close_round ∷ st) ts → ConjunctBack n d k.OpenRound st ts
group_back n d st ts (r1, a, (r2, c, more)) =
    let is : k.OpenRound ∷ ts ≡ g.conjunct (s.group a.0) r2 = rw (← c.1) (ap (λ z. k.OpenRound ∷ z) a.1) in
    record { conjunct = s.group a.0; rest = r2; spells = is; within = subst (λ z. AssertionWithin a.0 n (d - 1) z) c.1 a.2; nearest = a.4; ends = tt; more = more }

choose_back : (n d : ℕ) (p : Place) (st : List Predicted) (ts : List Leaf) → Means n (m.choice_predicted (d - 1) ++ st) ts → ConjunctBack n d (k.If p) st ts
choose_back n d p st ts (r1, b, (r2, c, (r3, x, (r4, q, (r5, y, more))))) =
    let middle : r3 ≡ k.Else ∷ g.assertion y.0 r5 = q.1 ∙ ap (λ z. k.Else ∷ z) y.1 in
    let whole : r1 ≡ k.Then ∷ g.assertion x.0 (k.Else ∷ g.assertion y.0 r5) = c.1 ∙ ap (λ z. k.Then ∷ z) (x.1 ∙ ap (λ z. g.assertion x.0 z) middle) in
    record {
      conjunct = s.choose p b.0 b.1 x.0 y.0;
      rest = r5;
      spells = ap (λ z. k.If p ∷ z) (b.2 ∙ ap (λ z. g.bracketed b.0 (g.test g.operand b.1) z) whole);
      within = (subst (λ z. AssertionWithin x.0 n (d - 1) z) middle x.2, y.2);
      nearest = (x.4, y.4);
      ends = y.3;
      more = more;
    }

-- a conjunct with no assertion in it is within any level, and nothing in it reaches on
pub flat_conjunct : (c : s.Conjunct) (n d : ℕ) (r : List Leaf) → IsFlatConjunct c → ConjunctWithin c n d r × ConjunctNearest c × Ends c r
flat_conjunct (s.group a) n d r f = absurd f
flat_conjunct (s.choose p round b x y) n d r f = absurd f
flat_conjunct _ n d r f = (tt, tt, tt)

pub conjunct_back : (n d : ℕ) (u : Leaf) (st : List Predicted) (w : Type 0) (ts : List Leaf) → MeansChosen n (on_conjunct d u) true st w ts → ConjunctBack n d u st ts
conjunct_back n d k.OpenRound st w ts q = group_back n d st ts q
conjunct_back n d (k.If p) st w ts q = choose_back n d p st ts q
conjunct_back n d (k.Operand x) st w ts q = relation_back n d x st ts q
conjunct_back n d u st w ts q =
    let o = predicate_back n u st w ts q in
    let f = flat_conjunct o.conjunct n d o.rest o.flat in
    record { conjunct = o.conjunct; rest = o.rest; spells = o.spells; within = f.0; nearest = f.1; ends = f.2; more = o.more }

-- a command's first token
pub record CommandBack (n d : ℕ) (u : Leaf) (st : List Predicted) (ts : List Leaf) : Type 0 where
  pub command : s.Command
  pub rest : List Leaf
  pub spells : u ∷ ts ≡ g.command command rest
  pub within : has_level n (suc (length ts)) d ≡ true → CommandWithin command n d rest
  pub follows : Follows command rest
  pub nearest : CommandNearest command
  pub more : Means n st rest

-- the level of a command is that of its first token
level_of : (n d : ℕ) (u : Leaf) (ts : List Leaf) (whole : List Leaf) → u ∷ ts ≡ whole → has_level n (suc (length ts)) d ≡ true → has_level n (length whole) d ≡ true
level_of n d u ts whole e h = subst (λ z. has_level n (length z) d ≡ true) e h

-- a command with none in it has its own level alone, and nothing may go wrong with an `else`
flat_command : (c : s.Command) (n d : ℕ) (r : List Leaf) → IsFlat c → (has_level n (length (g.command c r)) d ≡ true → CommandWithin c n d r) × Follows c r × CommandNearest c
flat_command (s.if_alone p b c) n d r f = absurd f
flat_command (s.if p b c e) n d r f = absurd f
flat_command (s.while p b x c) n d r f = absurd f
flat_command (s.with p x b c) n d r f = absurd f
flat_command (s.block p cs o) n d r f = absurd f
flat_command _ n d r f = ((λ h. h), tt, tt)

pub flat_nearest : (c : s.Command) → IsFlat c → CommandNearest c
flat_nearest c f = (flat_command c 0 0 [] f).2

flat_back : (n d : ℕ) (u : Leaf) (st : List Predicted) (ts : List Leaf) (c : s.Command) (r : List Leaf) → IsFlat c → u ∷ ts ≡ g.command c r → Means n st r → CommandBack n d u st ts
flat_back n d u st ts c r f is more = record {
  command = c;
  rest = r;
  spells = is;
  within = λ h. (flat_command c n d r f).0 (level_of n d u ts (g.command c r) is h);
  follows = (flat_command c n d r f).1;
  nearest = flat_nearest c f;
  more = more;
}

-- what follows the `else` of a command may follow it
pub follows_else : (c : s.Command) (r q : List Leaf) → Follows c (k.Else ∷ r) → Follows c (k.Else ∷ q)
follows_else (s.if_alone p b c) r q f = f
follows_else (s.if p b c d) r q f = follows_else d r q f
follows_else (s.while p b x c) r q f = follows_else c r q f
follows_else (s.with p x b c) r q f = follows_else c r q f
follows_else _ r q f = tt

if_back : (n d : ℕ) (p : Place) (st : List Predicted) (ts : List Leaf) → Means n (m.exact m.open_round ∷ m.test ∷ m.exact m.close_round ∷ m.command (d - 1) ∷ m.branch (d - 1) ∷ st) ts → CommandBack n d (k.If p) st ts
if_back n d p st ts (r1, a, (r2, b, (r3, q, (r4, c, (r5, x, more))))) = branch_cases x more
  where
    whole : (z : List Leaf) → r4 ≡ z → k.If p ∷ ts ≡ k.If p ∷ k.OpenRound ∷ g.test g.expr b.0 (k.CloseRound ∷ g.command c.0 z)
    whole z h = ap (λ y. k.If p ∷ y) (a.1 ∙ ap (λ y. k.OpenRound ∷ y) (b.1 ∙ ap (λ y. g.test g.expr b.0 y) (q.1 ∙ ap (λ y. k.CloseRound ∷ y) (c.1 ∙ ap (λ y. g.command c.0 y) h))))

    branch_cases : Spells n (m.branch (d - 1)) r4 r5 → Means n st r5 → CommandBack n d (k.If p) st ts
    branch_cases (inl (y, h, w, f, m)) more = record {
      command = s.if p b.0 c.0 y;
      rest = r5;
      spells = whole (k.Else ∷ g.command y r5) h;
      within = λ lv. (
        level_of n d (k.If p) ts (g.command (s.if p b.0 c.0 y) r5) (whole (k.Else ∷ g.command y r5) h) lv,
        subst (λ z. CommandWithin c.0 n (d - 1) z) h c.2,
        w,
      );
      follows = f;
      nearest = (c.4, m, follows_else c.0 (g.command y r5) [] (subst (λ z. Follows c.0 z) h c.3));
      more = more;
    }
    branch_cases (inr h) more = record {
      command = s.if_alone p b.0 c.0;
      rest = r5;
      spells = whole r5 h.1;
      within = λ lv. (level_of n d (k.If p) ts (g.command (s.if_alone p b.0 c.0) r5) (whole r5 h.1) lv, subst (λ z. CommandWithin c.0 n (d - 1) z) h.1 c.2);
      follows = subst (λ z. NotElse z) h.1 h.0;
      nearest = c.4;
      more = more;
    }

while_back : (n d : ℕ) (p : Place) (st : List Predicted) (ts : List Leaf) → Means n (m.exact m.open_round ∷ m.test ∷ m.exact m.close_round ∷ m.maybe_annotation ∷ m.command (d - 1) ∷ st) ts → CommandBack n d (k.While p) st ts
while_back n d p st ts (r1, a, (r2, b, (r3, q, (r4, x, (r5, c, more))))) =
    let whole : k.While p ∷ ts ≡ g.command (s.while p b.0 x.0 c.0) r5 = cc in
    record {
      command = s.while p b.0 x.0 c.0;
      rest = r5;
      spells = whole;
      within = λ lv. (level_of n d (k.While p) ts (g.command (s.while p b.0 x.0 c.0) r5) whole lv, subst (λ z. MaybeWithin x.0 n z) c.1 x.2, c.2);
      follows = c.3;
      nearest = (x.3, c.4);
      more = more;
    }

with_back : (n d : ℕ) (p : Place) (st : List Predicted) (ts : List Leaf) → Means n (m.exact m.a_name ∷ m.exact m.when_word ∷ m.exact m.open_round ∷ m.test ∷ m.exact m.close_round ∷ m.command (d - 1) ∷ st) ts → CommandBack n d (k.With p) st ts
with_back n d p st ts (r0, o, (r1, a, (r2, b, (r3, t, (r4, q, (r5, c, more)))))) =
    let whole : k.With p ∷ ts ≡ g.command (s.with p o.0 t.0 c.0) r5 = cc in
    record {
      command = s.with p o.0 t.0 c.0;
      rest = r5;
      spells = whole;
      within = λ lv. (level_of n d (k.With p) ts (g.command (s.with p o.0 t.0 c.0) r5) whole lv, c.2);
      follows = c.3;
      nearest = c.4;
      more = more;
    }

block_back : (n d : ℕ) (p : Place) (st : List Predicted) (ts : List Leaf) → Means n (m.commands (d - 1) ∷ m.exact m.close_brace ∷ st) ts → CommandBack n d (k.OpenBrace p) st ts
block_back n d p st ts (r1, c, (r2, q, more)) =
    let whole : k.OpenBrace p ∷ ts ≡ g.command (s.block p c.0 q.0.place) r2 = ap (λ y. k.OpenBrace p ∷ y) (c.1 ∙ ap (λ y. g.commands c.0 y) q.1) in
    record {
      command = s.block p c.0 q.0.place;
      rest = r2;
      spells = whole;
      within = λ lv. (level_of n d (k.OpenBrace p) ts (g.command (s.block p c.0 q.0.place) r2) whole lv, subst (λ z. CommandsWithin c.0 n (d - 1) z) q.1 c.2);
      follows = tt;
      nearest = c.3;
      more = more;
    }

mutate_back : (n d : ℕ) (u : Leaf) (st : List Predicted) (ts : List Leaf) (x : SurfaceExpr) → u ≡ g.expr x → Means n (m.exact m.an_arrow ∷ m.exact m.a_name ∷ m.exact m.equals ∷ m.expression ∷ m.exact m.semicolon ∷ st) ts → CommandBack n d u st ts
mutate_back n d u st ts x h (r1, a, (r2, b, (r3, c, (r4, y, (r5, q, more))))) = flat_back n d u st ts (s.mutate x b.0 y.0) r5 tt (cc) more

pub command_back : (n d : ℕ) (u : Leaf) (st : List Predicted) (w : Type 0) (ts : List Leaf) → MeansChosen n (on_command d u) true st w ts → CommandBack n d u st ts
command_back n d (k.Operand (v.Known (e.Name x))) st w ts (r, c, more) = flat_back n d (k.Name x) st ts (c x).0 r (c x).1 (c x).2 more
command_back n d (k.Dispose p) st w ts (r, (b, x, is), more) = flat_back n d (k.Dispose p) st ts (s.dispose p b x) r tt (ap (λ y. k.Dispose p ∷ y) is) more
command_back n d (k.If p) st w ts q = if_back n d p st ts q
command_back n d (k.While p) st w ts q = while_back n d p st ts q
command_back n d (k.With p) st w ts q = with_back n d p st ts q
command_back n d (k.OpenBrace p) st w ts q = block_back n d p st ts q
command_back n d u st w ts q =
    let o = expr_back n u (m.exact m.an_arrow ∷ m.mutated_predicted) st w ts q in
    mutate_back n d u st ts o.expr o.is o.more
