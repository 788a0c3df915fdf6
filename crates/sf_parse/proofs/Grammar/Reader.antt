-- A reader that gives a tree back from the tokens that it spells, and what comes after them. It is asked of nothing else, so it
-- looks at no more tokens than it must. Its first number is enough where it is three times as many as there are tokens.
use Rattle.std.proofs.Common.{ℕ, zero, suc, List, [], ◌∷◌, Bool, true, false, Option, Some, None}
use Rattle.sf_base.specs.declared.place.Place.{Place}
use Rattle.sf_ast.specs.declared.assertion.SurfaceField.{SurfaceField}
use Rattle.sf_ast.specs.declared.word.SurfaceExpr.{SurfaceExpr}
use Rattle.sf_ast.specs.declared.word.SurfaceExpr.TheVariants as e
use Rattle.sf_ast.specs.declared.word.SurfaceOperand.{SurfaceOperand}
use Rattle.sf_ast.specs.declared.word.SurfaceOperand.TheVariants as v
use Rattle.sf_ast.specs.declared.word.SurfaceTest.{SurfaceTest}
use Rattle.sf_ast.specs.declared.word.SurfaceTest.TheVariants as t
use Rattle.sf_ast.specs.declared.word.Word.{Word}
use Rattle.sf_ast.specs.Surface as s
use Rattle.sf_parse.specs.Leaf.{Leaf}
use Rattle.sf_parse.specs.Leaf as k
use Rattle.sf_parse.proofs.Grammar.Predicates.{behind, operand_in, predicate}
use Rattle.sf_parse.proofs.Machine.Complete.{a_place, a_word}

abbrev pub more_names : List Leaf → List Word × List Leaf
more_names (k.Comma ∷ k.Operand (v.Known (e.Name x)) ∷ ts) = let xs = more_names ts in (x ∷ xs.0, xs.1)
more_names ts = ([], ts)

abbrev pub maybe_names : List Leaf → List Word × List Leaf
maybe_names (k.Operand (v.Known (e.Name x)) ∷ ts) = let xs = more_names ts in (x ∷ xs.0, xs.1)
maybe_names ts = ([], ts)

abbrev pub maybe_values : List Word → List Leaf → s.Parameters × List Leaf
maybe_values xs (k.Semicolon ∷ ts) = let ys = maybe_names ts in (s.references_and_values xs ys.0, ys.1)
maybe_values xs ts = (s.only_values xs, ts)

abbrev pub parameters : List Leaf → s.Parameters × List Leaf
parameters ts = let xs = maybe_names ts in maybe_values xs.0 xs.1

abbrev pub more_exprs : List Leaf → List SurfaceExpr × List Leaf
more_exprs (k.Comma ∷ k.Operand (v.Known x) ∷ ts) = let xs = more_exprs ts in (x ∷ xs.0, xs.1)
more_exprs ts = ([], ts)

abbrev pub maybe_exprs : List Leaf → List SurfaceExpr × List Leaf
maybe_exprs (k.Operand (v.Known x) ∷ ts) = let xs = more_exprs ts in (x ∷ xs.0, xs.1)
maybe_exprs ts = ([], ts)

-- the names among expressions
abbrev pub names_in : List SurfaceExpr → List Word
names_in (e.Name x ∷ xs) = x ∷ names_in xs
names_in _ = []

abbrev pub maybe_both : List SurfaceExpr → List Leaf → s.Arguments × List Leaf
maybe_both xs (k.Semicolon ∷ ts) = let ys = maybe_exprs ts in (s.both (names_in xs) ys.0, ys.1)
maybe_both xs ts = (s.values xs, ts)

abbrev pub arguments : List Leaf → s.Arguments × List Leaf
arguments ts = let xs = maybe_exprs ts in maybe_both xs.0 xs.1

abbrev pub expr_in : Leaf → SurfaceExpr
expr_in (k.Operand (v.Known x)) = x
expr_in _ = e.Nil a_place

-- after its first side
abbrev pub compared : {E : Type 0} → (Leaf → E) → E → List Leaf → SurfaceTest E × List Leaf
compared side x (k.EqualEqual ∷ y ∷ ts) = (t.Equal x (side y), ts)
compared side x (l ∷ y ∷ ts) = (t.Differ x (side y), ts)
compared side x ts = (t.True a_place, ts)

abbrev pub test : {E : Type 0} → (Leaf → E) → List Leaf → SurfaceTest E × List Leaf
test side (k.True p ∷ ts) = (t.True p, ts)
test side (x ∷ ts) = compared side (side x) ts
test side [] = (t.True a_place, [])

abbrev pub if_test : List Leaf → (Bool × SurfaceTest SurfaceOperand) × List Leaf
if_test (k.OpenRound ∷ ts) = let b = test operand_in ts in ((true, b.0), behind b.1)
if_test ts = let b = test operand_in ts in ((false, b.0), b.1)

abbrev pub more_fields : List Leaf → List SurfaceField × List Leaf
more_fields (k.Comma ∷ k.Operand (v.Known (e.Name x)) ∷ k.Colon ∷ k.Operand y ∷ ts) = let fs = more_fields ts in (record { name = x; value = y } ∷ fs.0, fs.1)
more_fields ts = ([], ts)

abbrev pub maybe_fields : List Leaf → List SurfaceField × List Leaf
maybe_fields (k.Operand (v.Known (e.Name x)) ∷ k.Colon ∷ k.Operand y ∷ ts) = let fs = more_fields ts in (record { name = x; value = y } ∷ fs.0, fs.1)
maybe_fields ts = ([], ts)

abbrev pub relation : SurfaceOperand → List Leaf → s.Conjunct × List Leaf
relation x (k.EqualEqual ∷ y ∷ ts) = (s.equal x (operand_in y), ts)
relation x (k.NotEqual ∷ y ∷ ts) = (s.differ x (operand_in y), ts)
relation x ts = let fs = maybe_fields (behind ts) in (s.points x fs.0, fs.1)

abbrev mutual
  pub conjunct : ℕ → List Leaf → s.Conjunct × List Leaf
  conjunct (suc n) (k.OpenRound ∷ ts) = let a = assertion n ts in (s.group a.0, behind a.1)
  conjunct (suc n) (k.If p ∷ ts) =
      let b = if_test ts in
      let x = assertion n (behind b.1) in
      let y = assertion n (behind x.1) in
      (s.choose p b.0.0 b.0.1 x.0 y.0, y.1)
  conjunct (suc n) (k.Operand x ∷ ts) = relation x ts
  conjunct (suc n) ts = predicate ts
  conjunct zero ts = (s.emp a_place, ts)

  pub more_conjuncts : ℕ → s.Conjunct → List Leaf → s.Assertion × List Leaf
  more_conjuncts (suc n) c (k.Star ∷ ts) = let a = assertion n ts in (s.star c a.0, a.1)
  more_conjuncts _ c ts = (s.only c, ts)

  pub assertion : ℕ → List Leaf → s.Assertion × List Leaf
  assertion (suc n) ts = let c = conjunct n ts in more_conjuncts n c.0 c.1
  assertion zero ts = (s.only (s.emp a_place), ts)

-- after its `[`
abbrev pub inside : ℕ → List Leaf → s.Note × List Leaf
inside n (k.CloseSquare ∷ ts) = (s.blank, ts)
inside n ts = let a = assertion n ts in (s.filled a.0, behind a.1)

abbrev pub maybe_annotation : ℕ → List Leaf → Option s.Note × List Leaf
maybe_annotation n (k.OpenSquare ∷ ts) = let x = inside n ts in (Some x.0, x.1)
maybe_annotation n ts = (None, ts)

-- after the first call
abbrev pub called : s.Call → List Leaf → s.Command × List Leaf
called c (k.Bars ∷ k.Operand (v.Known (e.Name x)) ∷ o ∷ ts) = let a = arguments ts in (s.fork c (record { name = x; arguments = a.0 }), behind (behind a.1))
called c ts = (s.call c, behind ts)

-- after its `x =`
abbrev pub assigned : Word → List Leaf → s.Command × List Leaf
assigned x (k.Operand (v.Known a) ∷ k.Arrow ∷ k.Operand (v.Known (e.Name f)) ∷ ts) = (s.look_up x a f, behind ts)
assigned x (k.Operand (v.Known a) ∷ ts) = (s.assign x a, behind ts)
assigned x (l ∷ o ∷ c ∷ ts) = (s.new x, behind ts)
assigned x ts = (s.new x, ts)

abbrev pub disposed : Place → List Leaf → s.Command × List Leaf
disposed p (k.OpenRound ∷ a ∷ c ∷ ts) = (s.dispose p true (expr_in a), behind ts)
disposed p (a ∷ ts) = (s.dispose p false (expr_in a), behind ts)
disposed p [] = (s.dispose p false (e.Nil a_place), [])

abbrev pub mutated : SurfaceExpr → List Leaf → s.Command × List Leaf
mutated a (o ∷ k.Operand (v.Known (e.Name f)) ∷ l ∷ b ∷ ts) = (s.mutate a f (expr_in b), behind ts)
mutated a ts = (s.mutate a a_word a, ts)

abbrev pub named : Word → List Leaf → s.Command × List Leaf
named x (k.Equals ∷ ts) = assigned x ts
named x (k.OpenRound ∷ ts) = let a = arguments ts in called (record { name = x; arguments = a.0 }) (behind a.1)
named x ts = mutated (e.Name x) ts

abbrev pub closed : Place → s.Commands → List Leaf → s.Command × List Leaf
closed p cs (k.CloseBrace q ∷ ts) = (s.block p cs q, ts)
closed p cs ts = (s.block p cs a_place, ts)

abbrev mutual
  pub command : ℕ → List Leaf → s.Command × List Leaf
  command (suc n) (k.Operand (v.Known (e.Name x)) ∷ ts) = named x ts
  command (suc n) (k.Operand (v.Known a) ∷ ts) = mutated a ts
  command (suc n) (k.Dispose p ∷ ts) = disposed p ts
  command (suc n) (k.If p ∷ ts) =
      let b = test expr_in (behind ts) in
      let c = command n (behind b.1) in
      branch n p b.0 c.0 c.1
  command (suc n) (k.While p ∷ ts) =
      let b = test expr_in (behind ts) in
      let x = maybe_annotation n (behind b.1) in
      let c = command n x.1 in
      (s.while p b.0 x.0 c.0, c.1)
  command (suc n) (k.With p ∷ k.Operand (v.Known (e.Name x)) ∷ w ∷ o ∷ ts) =
      let b = test expr_in ts in
      let c = command n (behind b.1) in
      (s.with p x b.0 c.0, c.1)
  command (suc n) (k.OpenBrace p ∷ ts) = let cs = commands n ts in closed p cs.0 cs.1
  command _ ts = (s.new a_word, ts)

  pub branch : ℕ → Place → SurfaceTest SurfaceExpr → s.Command → List Leaf → s.Command × List Leaf
  branch (suc n) p b c (k.Else ∷ ts) = let x = command n ts in (s.if p b c x.0, x.1)
  branch _ p b c ts = (s.if_alone p b c, ts)

  pub commands : ℕ → List Leaf → s.Commands × List Leaf
  commands (suc n) (k.CloseBrace q ∷ ts) = (s.done, k.CloseBrace q ∷ ts)
  commands (suc n) ts =
      let c = command n ts in
      let cs = commands n c.1 in
      (s.then c.0 cs.0, cs.1)
  commands zero ts = (s.done, ts)

abbrev pub locals : ℕ → List Leaf → List s.Names × List Leaf
locals (suc n) (k.Local ∷ k.Operand (v.Known (e.Name x)) ∷ ts) =
    let xs = more_names ts in
    let ls = locals n (behind xs.1) in
    (record { first = x; more = xs.0 } ∷ ls.0, ls.1)
locals _ ts = ([], ts)

-- after its body
abbrev pub procedure : ℕ → (Place → Option s.Note → s.Procedure) → List Leaf → s.Item × List Leaf
procedure n f (k.CloseBrace q ∷ ts) = let post = maybe_annotation n ts in (s.procedure (f q post.0), post.1)
procedure n f ts = (s.procedure (f a_place None), ts)

-- after its note
abbrev pub body : ℕ → Word → s.Parameters → Option s.Note → List Leaf → s.Item × List Leaf
body n x ps pre (k.OpenBrace o ∷ ts) =
    let ls = locals n ts in
    let cs = commands n ls.1 in
    procedure n (λ q post. record { name = x; parameters = ps; pre = pre; opens = o; locals = ls.0; body = cs.0; closes = q; post = post }) cs.1
body n x ps pre ts = (s.fields (record { first = x; more = [] }), ts)

abbrev pub item : ℕ → List Leaf → s.Item × List Leaf
item n (k.Resource p ∷ k.Operand (v.Known (e.Name x)) ∷ o ∷ ts) =
    let xs = maybe_names ts in
    let i = inside n (behind (behind xs.1)) in
    (s.resource (record { place = p; name = x; variables = xs.0; invariant = i.0 }), i.1)
item n (k.Operand (v.Known (e.Name x)) ∷ k.OpenRound ∷ ts) =
    let ps = parameters ts in
    let pre = maybe_annotation n (behind ps.1) in
    body n x ps.0 pre.0 pre.1
item n (k.Operand (v.Known (e.Name x)) ∷ ts) = let xs = more_names ts in (s.fields (record { first = x; more = xs.0 }), behind xs.1)
item n ts = (s.fields (record { first = a_word; more = [] }), ts)

abbrev pub items : ℕ → List Leaf → List s.Item
items (suc n) (t ∷ ts) = let i = item n (t ∷ ts) in i.0 ∷ items n i.1
items _ _ = []
