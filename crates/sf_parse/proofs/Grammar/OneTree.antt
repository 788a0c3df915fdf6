-- The reader gives back what was spelled. So tokens spell one tree alone.
use Rattle.std.proofs.Common.{◌≡◌, ◌≤◌, ◌+◌, ◌*◌, ℕ, zero, suc, List, [], ◌∷◌, length, map, Bool, true, false, Option, Some, None, refl, ap, sym, ◌∙◌, arith}
use Rattle.sf_base.specs.declared.place.Place.{Place}
use Rattle.sf_ast.specs.declared.assertion.SurfaceField.{SurfaceField}
use Rattle.sf_ast.specs.declared.word.SurfaceExpr.{SurfaceExpr}
use Rattle.sf_ast.specs.declared.word.SurfaceExpr.TheVariants as e
use Rattle.sf_ast.specs.declared.word.SurfaceOperand.{SurfaceOperand}
use Rattle.sf_ast.specs.declared.word.SurfaceTest.{SurfaceTest}
use Rattle.sf_ast.specs.declared.word.SurfaceTest.TheVariants as t
use Rattle.sf_ast.specs.declared.word.Word.{Word}
use Rattle.sf_ast.specs.Surface as s
use Rattle.sf_parse.specs.Leaf.{Leaf}
use Rattle.sf_parse.specs.Leaf as k
use Rattle.sf_parse.specs.Grammar as g
use Rattle.sf_parse.specs.Checked.Parser.{NotStar, Ends}
use Rattle.sf_parse.specs.Nearest.{NotElse, Follows, ConjunctNearest, AssertionNearest, NoteNearest, MaybeNearest, CommandNearest, CommandsNearest, ItemNearest, IsNearest}
use Rattle.sf_parse.proofs.Grammar.CommandsLonger.{command_longer, commands_longer, more_names_longer, maybe_names_longer, maybe_annotation_longer, locals_longer, parameters_longer, item_longer}
use Rattle.sf_parse.proofs.Grammar.Longer.{test_longer, if_test_longer, conjunct_longer, assertion_longer}
use Rattle.sf_parse.proofs.Grammar.Predicates.{behind}
use Rattle.sf_parse.proofs.Grammar.Reader as read
use Rattle.sf_parse.proofs.Machine.Back.{follows_else}
use Rattle.sf_parse.proofs.Machine.Forth.{AfterConjunct, closed_ends, ends_before}
use Rattle.sf_parse.proofs.Machine.ForthFiles.{follows_any, no_else_fronts}
use Rattle.sf_parse.proofs.Parser.Arguments.{names_spelled}

-- lists, where no more of them comes after them
more_names : (xs : List Word) (r : List Leaf) → read.more_names r ≡ ([], r) → read.more_names (g.more_names xs r) ≡ (xs, r)
more_names [] r h = h
more_names (x ∷ xs) r h = rw (more_names xs r h) refl

maybe_names : (xs : List Word) (r : List Leaf) → read.maybe_names r ≡ ([], r) → read.more_names r ≡ ([], r) → read.maybe_names (g.maybe_names xs r) ≡ (xs, r)
maybe_names [] r h i = h
maybe_names (x ∷ xs) r h i = rw (more_names xs r i) refl

more_exprs : (xs : List SurfaceExpr) (r : List Leaf) → read.more_exprs r ≡ ([], r) → read.more_exprs (g.more_exprs xs r) ≡ (xs, r)
more_exprs [] r h = h
more_exprs (x ∷ xs) r h = rw (more_exprs xs r h) refl

maybe_exprs : (xs : List SurfaceExpr) (r : List Leaf) → read.maybe_exprs r ≡ ([], r) → read.more_exprs r ≡ ([], r) → read.maybe_exprs (g.maybe_exprs xs r) ≡ (xs, r)
maybe_exprs [] r h i = h
maybe_exprs (x ∷ xs) r h i = rw (more_exprs xs r i) refl

more_fields : (fs : List SurfaceField) (r : List Leaf) → read.more_fields r ≡ ([], r) → read.more_fields (g.more_fields fs r) ≡ (fs, r)
more_fields [] r h = h
more_fields (f ∷ fs) r h = rw (more_fields fs r h) refl

maybe_fields : (fs : List SurfaceField) (r : List Leaf) → read.maybe_fields r ≡ ([], r) → read.more_fields r ≡ ([], r) → read.maybe_fields (g.maybe_fields fs r) ≡ (fs, r)
maybe_fields [] r h i = h
maybe_fields (f ∷ fs) r h i = rw (more_fields fs r i) refl

parameters : (ps : s.Parameters) (r : List Leaf) → read.parameters (g.parameters ps (k.CloseRound ∷ r)) ≡ (ps, k.CloseRound ∷ r)
parameters (s.only_values xs) r = rw (maybe_names xs (k.CloseRound ∷ r) refl refl) refl
parameters (s.references_and_values xs ys) r = rw (maybe_names xs (k.Semicolon ∷ g.maybe_names ys (k.CloseRound ∷ r)) refl refl, maybe_names ys (k.CloseRound ∷ r) refl refl) refl

names_in : (ns : List Word) → read.names_in (map e.Name ns) ≡ ns
names_in [] = refl
names_in (x ∷ ns) = ap (λ (xs : List Word). x ∷ xs) (names_in ns)

arguments : (a : s.Arguments) (r : List Leaf) → read.arguments (g.arguments a (k.CloseRound ∷ r)) ≡ (a, k.CloseRound ∷ r)
arguments (s.values xs) r = rw (maybe_exprs xs (k.CloseRound ∷ r) refl refl) refl
arguments (s.both ns xs) r =
    let rest = k.Semicolon ∷ g.maybe_exprs xs (k.CloseRound ∷ r) in
    rw (← names_spelled ns rest, maybe_exprs (map e.Name ns) rest refl refl, maybe_exprs xs (k.CloseRound ∷ r) refl refl, names_in ns) refl

test : (b : SurfaceTest SurfaceExpr) (r : List Leaf) → read.test read.expr_in (g.test g.expr b r) ≡ (b, r)
test (t.True p) r = refl
test _ r = refl

if_test : (round : Bool) (b : SurfaceTest SurfaceOperand) (r : List Leaf) → read.if_test (g.bracketed round (g.test g.operand b) r) ≡ ((round, b), r)
if_test true (t.True p) r = refl
if_test true _ r = refl
if_test false (t.True p) r = refl
if_test false _ r = refl

no_fields : (r : List Leaf) → AfterConjunct r → (read.maybe_fields r ≡ ([], r)) × (read.more_fields r ≡ ([], r))
no_fields [] h = absurd h
no_fields (k.Star ∷ r) h = (refl, refl)
no_fields (k.CloseRound ∷ r) h = (refl, refl)
no_fields (k.CloseSquare ∷ r) h = (refl, refl)
no_fields (k.Else ∷ r) h = (refl, refl)
no_fields (_ ∷ r) h = absurd h

no_more_conjuncts : (n : ℕ) (c : s.Conjunct) (r : List Leaf) → NotStar r → read.more_conjuncts n c r ≡ (s.only c, r)
no_more_conjuncts zero c r h = refl
no_more_conjuncts (suc n) c [] h = refl
no_more_conjuncts (suc n) c (k.Star ∷ r) h = absurd h
no_more_conjuncts (suc n) c (_ ∷ r) h = refl

-- an assertion after its first conjunct
first_conjunct : (n : ℕ) (ts : List Leaf) (c : s.Conjunct) (r : List Leaf) → read.conjunct n ts ≡ (c, r) → read.assertion (suc n) ts ≡ read.more_conjuncts n c r
first_conjunct n ts c r e = rw e refl

mutual
  conjunct : (c : s.Conjunct) (n : ℕ) (r : List Leaf) → 3 * length (g.conjunct c r) ≤ n → ConjunctNearest c → AfterConjunct r → Ends c r → read.conjunct n (g.conjunct c r) ≡ (c, r)
  conjunct c zero r le near a f = absurd (omega (arith, conjunct_longer c r))
  conjunct (s.group x) (suc n) r le near a f = rw (assertion x n (k.CloseRound ∷ r) (omega arith) near tt tt) refl
  conjunct (s.choose p round b x y) (suc n) r le near a f =
      let longer = if_test_longer round b (k.Then ∷ g.assertion x (k.Else ∷ g.assertion y r)) in
      rw (
        if_test round b (k.Then ∷ g.assertion x (k.Else ∷ g.assertion y r)),
        assertion x n (k.Else ∷ g.assertion y r) (omega (arith, longer)) near.0 tt tt,
        assertion y n r (omega (arith, longer, assertion_longer x (k.Else ∷ g.assertion y r))) near.1 a f,
      ) refl
  conjunct (s.points x fs) (suc n) r le near a f = let none = no_fields r a in rw (maybe_fields fs r none.0 none.1) refl
  conjunct _ (suc n) r le near a f = refl

  assertion : (x : s.Assertion) (n : ℕ) (r : List Leaf) → 3 * length (g.assertion x r) + 1 ≤ n → AssertionNearest x → AfterConjunct r → NotStar r → read.assertion n (g.assertion x r) ≡ (x, r)
  assertion x zero r le near a f = absurd (omega arith)
  assertion (s.only c) (suc n) r le near a f = first_conjunct n (g.conjunct c r) c r (conjunct c n r (omega arith) near a (ends_before c r f)) ∙ no_more_conjuncts n c r f
  assertion (s.star c x) (suc zero) r le near a f = absurd (omega (arith, conjunct_longer c (k.Star ∷ g.assertion x r)))
  assertion (s.star c x) (suc (suc n)) r le near a f =
      let rest : List Leaf = k.Star ∷ g.assertion x r in
      first_conjunct (suc n) (g.conjunct c rest) c rest (conjunct c (suc n) rest (omega arith) near.0 tt (closed_ends c rest near.1)) ∙ rw (assertion x n r (omega (arith, conjunct_longer c rest)) near.2 a f) refl

-- what occurs in square brackets, after the opening one
some_inside : (n : ℕ) (c : s.Conjunct) (r : List Leaf) → read.inside n (g.conjunct c r) ≡ (let a = read.assertion n (g.conjunct c r) in (s.filled a.0, behind a.1))
some_inside n (s.emp p) r = refl
some_inside n _ r = refl

filled : (x : s.Assertion) (n : ℕ) (r : List Leaf) → 3 * length (g.assertion x (k.CloseSquare ∷ r)) + 1 ≤ n → AssertionNearest x → read.inside n (g.assertion x (k.CloseSquare ∷ r)) ≡ (s.filled x, r)
filled (s.only c) n r le near = some_inside n c (k.CloseSquare ∷ r) ∙ rw (assertion (s.only c) n (k.CloseSquare ∷ r) le near tt tt) refl
filled (s.star c x) n r le near = some_inside n c (k.Star ∷ g.assertion x (k.CloseSquare ∷ r)) ∙ rw (assertion (s.star c x) n (k.CloseSquare ∷ r) le near tt tt) refl

inside : (x : s.Note) (n : ℕ) (r : List Leaf) → 3 * length (g.annotation x r) ≤ n → NoteNearest x → read.inside n (behind (g.annotation x r)) ≡ (x, r)
inside s.blank n r le near = refl
inside (s.filled a) n r le near = filled a n r (omega arith) near

maybe_annotation : (x : Option s.Note) (n : ℕ) (r : List Leaf) → 3 * length (g.maybe_annotation x r) ≤ n → MaybeNearest x → read.maybe_annotation n r ≡ (None, r) → read.maybe_annotation n (g.maybe_annotation x r) ≡ (x, r)
maybe_annotation None n r le near h = h
maybe_annotation (Some s.blank) n r le near h = refl
maybe_annotation (Some (s.filled a)) n r le near h = rw (filled a n r (omega arith) near) refl

no_branch : (n : ℕ) (p : Place) (b : SurfaceTest SurfaceExpr) (c : s.Command) (r : List Leaf) → NotElse r → read.branch n p b c r ≡ (s.if_alone p b c, r)
no_branch zero p b c r h = refl
no_branch (suc n) p b c [] h = refl
no_branch (suc n) p b c (k.Else ∷ r) h = absurd h
no_branch (suc n) p b c (_ ∷ r) h = refl

-- a command begins no note, and no `}`
no_annotation : (n : ℕ) (c : s.Command) (r : List Leaf) → read.maybe_annotation n (g.command c r) ≡ (None, g.command c r)
no_annotation n (s.new x) r = refl
no_annotation n _ r = refl

another : (n : ℕ) (c : s.Command) (r : List Leaf) → read.commands (suc n) (g.command c r)
    ≡ (let x = read.command n (g.command c r) in let xs = read.commands n x.1 in (s.then x.0 xs.0, xs.1))
another n (s.new x) r = refl
another n _ r = refl

-- an `if` after its first branch
first_branch : (n : ℕ) (p : Place) (b : SurfaceTest SurfaceExpr) (c : s.Command) (q r : List Leaf) → read.command n q ≡ (c, r) → read.command (suc n) (k.If p ∷ k.OpenRound ∷ g.test g.expr b (k.CloseRound ∷ q)) ≡ read.branch n p b c r
first_branch n p b c q r e = rw (test b (k.CloseRound ∷ q), e) refl

mutual
  command : (c : s.Command) (n : ℕ) (r : List Leaf) → 3 * length (g.command c r) ≤ n → CommandNearest c → Follows c r → read.command n (g.command c r) ≡ (c, r)
  command c zero r le near f = absurd (omega (arith, command_longer c r))
  command (s.mutate (e.Name x) y b) (suc n) r le near f = refl
  command (s.mutate _ y b) (suc n) r le near f = refl
  command (s.dispose p true a) (suc n) r le near f = refl
  command (s.dispose p false a) (suc n) r le near f = refl
  command (s.call c) (suc n) r le near f = rw (arguments c.arguments (k.Semicolon ∷ r)) refl
  command (s.fork c x) (suc n) r le near f = rw (arguments c.arguments (k.Bars ∷ g.call x (k.Semicolon ∷ r)), arguments x.arguments (k.Semicolon ∷ r)) refl
  command (s.if_alone p b c) (suc n) r le near f =
      first_branch n p b c (g.command c r) r (command c n r (omega (arith, test_longer g.expr b (k.CloseRound ∷ g.command c r))) near (follows_any c r f)) ∙ no_branch n p b c r f
  command (s.if p b c x) (suc zero) r le near f = absurd (omega (arith, test_longer g.expr b (k.CloseRound ∷ g.command c (k.Else ∷ g.command x r))))
  command (s.if p b c x) (suc (suc n)) r le near f =
      let rest : List Leaf = k.Else ∷ g.command x r in
      let longer = test_longer g.expr b (k.CloseRound ∷ g.command c rest) in
      first_branch (suc n) p b c (g.command c rest) rest (command c (suc n) rest (omega (arith, longer)) near.0 (follows_else c [] (g.command x r) near.2))
      ∙ rw (command x n r (omega (arith, longer, command_longer c rest)) near.1 f) refl
  command (s.while p b x c) (suc n) r le near f =
      let longer = test_longer g.expr b (k.CloseRound ∷ g.maybe_annotation x (g.command c r)) in
      rw (
        test b (k.CloseRound ∷ g.maybe_annotation x (g.command c r)),
        maybe_annotation x n (g.command c r) (omega (arith, longer)) near.0 (no_annotation n c r),
        command c n r (omega (arith, longer, maybe_annotation_longer x (g.command c r))) near.1 f,
      ) refl
  command (s.with p x b c) (suc n) r le near f =
      let longer = test_longer g.expr b (k.CloseRound ∷ g.command c r) in
      rw (test b (k.CloseRound ∷ g.command c r), command c n r (omega (arith, longer)) near f) refl
  command (s.block p cs q) (suc n) r le near f = rw (commands cs n q r (omega arith) near) refl
  command _ (suc n) r le near f = refl

  -- commands before a `}`
  commands : (cs : s.Commands) (n : ℕ) (q : Place) (r : List Leaf) → 3 * length (g.commands cs (k.CloseBrace q ∷ r)) + 1 ≤ n → CommandsNearest cs → read.commands n (g.commands cs (k.CloseBrace q ∷ r)) ≡ (cs, k.CloseBrace q ∷ r)
  commands cs zero q r le near = absurd (omega arith)
  commands s.done (suc n) q r le near = refl
  commands (s.then c cs) (suc n) q r le near =
      let rest = g.commands cs (k.CloseBrace q ∷ r) in
      another n c rest
      ∙ rw (command c n rest (omega arith) near.0 (follows_any c rest (no_else_fronts cs (k.CloseBrace q ∷ r) tt)), commands cs n q r (omega (arith, command_longer c rest)) near.1) refl

-- a body after its `local`s begins with none
no_local : (n : ℕ) (cs : s.Commands) (q : Place) (r : List Leaf) → read.locals n (g.commands cs (k.CloseBrace q ∷ r)) ≡ ([], g.commands cs (k.CloseBrace q ∷ r))
no_local zero cs q r = refl
no_local (suc n) s.done q r = refl
no_local (suc n) (s.then (s.new x) cs) q r = refl
no_local (suc n) (s.then _ cs) q r = refl

locals : (ls : List s.Names) (n : ℕ) (cs : s.Commands) (q : Place) (r : List Leaf) → length (g.locals ls (g.commands cs (k.CloseBrace q ∷ r))) ≤ n → read.locals n (g.locals ls (g.commands cs (k.CloseBrace q ∷ r))) ≡ (ls, g.commands cs (k.CloseBrace q ∷ r))
locals [] n cs q r le = no_local n cs q r
locals (x ∷ ls) zero cs q r le = absurd (omega arith)
locals (x ∷ ls) (suc n) cs q r le =
    let rest = k.Semicolon ∷ g.locals ls (g.commands cs (k.CloseBrace q ∷ r)) in
    rw (more_names x.more rest refl, locals ls n cs q r (omega (arith, more_names_longer x.more rest))) refl

fields : (x : Word) (xs : List Word) (n : ℕ) (r : List Leaf) → read.item n (k.Name x ∷ g.more_names xs (k.Semicolon ∷ r)) ≡ (s.fields (record { first = x; more = xs }), r)
fields x [] n r = refl
fields x (y ∷ ys) n r = rw (more_names ys (k.Semicolon ∷ r) refl) refl

item : (i : s.Item) (n : ℕ) (r : List Leaf) → 3 * length (g.item i r) ≤ n → ItemNearest i → read.maybe_annotation n r ≡ (None, r) → read.item n (g.item i r) ≡ (i, r)
item (s.fields ns) n r le near h = fields ns.first ns.more n r
item (s.resource x) n r le near h =
    let behind = k.CloseRound ∷ g.annotation x.invariant r in
    rw (maybe_names x.variables behind refl refl, inside x.invariant n r (omega (arith, maybe_names_longer x.variables behind)) near) refl
item (s.procedure f) n r le near h =
    let close = k.CloseBrace f.closes ∷ g.maybe_annotation f.post r in
    let inner = g.locals f.locals (g.commands f.body close) in
    let first = parameters_longer f.parameters (k.CloseRound ∷ g.maybe_annotation f.pre (k.OpenBrace f.opens ∷ inner)) in
    let second = maybe_annotation_longer f.pre (k.OpenBrace f.opens ∷ inner) in
    let third = locals_longer f.locals (g.commands f.body close) in
    rw (
      parameters f.parameters (g.maybe_annotation f.pre (k.OpenBrace f.opens ∷ inner)),
      maybe_annotation f.pre n (k.OpenBrace f.opens ∷ inner) (omega (arith, first)) near.0 refl,
      locals f.locals n f.body f.closes (g.maybe_annotation f.post r) (omega (arith, first, second)),
      commands f.body n f.closes (g.maybe_annotation f.post r) (omega (arith, first, second, third)) near.1,
      maybe_annotation f.post n r (omega (arith, first, second, third, commands_longer f.body close)) near.2 h,
    ) refl

-- an item begins no note
no_annotation_items : (n : ℕ) (is : List s.Item) → read.maybe_annotation n (g.items is []) ≡ (None, g.items is [])
no_annotation_items n [] = refl
no_annotation_items n (s.fields x ∷ is) = refl
no_annotation_items n (_ ∷ is) = refl

another_item : (n : ℕ) (i : s.Item) (r : List Leaf) → read.items (suc n) (g.item i r) ≡ (let x = read.item n (g.item i r) in x.0 ∷ read.items n x.1)
another_item n (s.fields x) r = refl
another_item n _ r = refl

items : (is : List s.Item) (n : ℕ) → 3 * length (g.items is []) + 1 ≤ n → IsNearest is → read.items n (g.items is []) ≡ is
items is zero le near = absurd (omega arith)
items [] (suc n) le near = refl
items (i ∷ is) (suc n) le near =
    let longer = item_longer i (g.items is []) in
    another_item n i (g.items is []) ∙ rw (item i n (g.items is []) (omega arith) near.0 (no_annotation_items n is), items is n (omega (arith, longer)) near.1) refl

-- tokens spell one file alone
pub items_once : (is js : List s.Item) → IsNearest is → IsNearest js → g.items is [] ≡ g.items js [] → is ≡ js
items_once is js v w f =
    let n : ℕ = 3 * length (g.items is []) + 1 in
    sym (items is n (omega arith) v) ∙ ap (read.items n) f ∙ items js n (omega (arith, ap length f)) w
