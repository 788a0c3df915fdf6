-- What each leaf of something's spelling has, those behind it have.
use Rattle.std.proofs.Common.{List, [], ◌∷◌, Bool, true, false, Option, Some, None}
use Rattle.std.specs.List.{AllByRecursion}
use Rattle.sf_ast.specs.declared.assertion.SurfaceField.{SurfaceField}
use Rattle.sf_ast.specs.declared.word.SurfaceExpr.{SurfaceExpr}
use Rattle.sf_ast.specs.declared.word.SurfaceOperand.{SurfaceOperand}
use Rattle.sf_ast.specs.declared.word.SurfaceTest.{SurfaceTest}
use Rattle.sf_ast.specs.declared.word.SurfaceTest.TheVariants as t
use Rattle.sf_ast.specs.declared.word.Word.{Word}
use Rattle.sf_ast.specs.Surface as s
use Rattle.sf_parse.specs.Grammar as g
use Rattle.sf_parse.specs.Leaf.{Leaf}
use Rattle.sf_parse.specs.Leaf as k

module _ (P : Leaf → Type 0) where
  -- each of them has it
  abbrev Have : List Leaf → Type 0
  Have ls = AllByRecursion P ls

  more_names-behind : (xs : List Word) (r : List Leaf) → Have (g.more_names xs r) → Have r
  more_names-behind [] r h = h
  more_names-behind (x ∷ xs) r h = more_names-behind xs r h.1.1

  maybe_names-behind : (xs : List Word) (r : List Leaf) → Have (g.maybe_names xs r) → Have r
  maybe_names-behind [] r h = h
  maybe_names-behind (x ∷ xs) r h = more_names-behind xs r h.1

  more_exprs-behind : (xs : List SurfaceExpr) (r : List Leaf) → Have (g.more_exprs xs r) → Have r
  more_exprs-behind [] r h = h
  more_exprs-behind (x ∷ xs) r h = more_exprs-behind xs r h.1.1

  maybe_exprs-behind : (xs : List SurfaceExpr) (r : List Leaf) → Have (g.maybe_exprs xs r) → Have r
  maybe_exprs-behind [] r h = h
  maybe_exprs-behind (x ∷ xs) r h = more_exprs-behind xs r h.1

  arguments-behind : (a : s.Arguments) (r : List Leaf) → Have (g.arguments a r) → Have r
  arguments-behind (s.values xs) r h = maybe_exprs-behind xs r h
  arguments-behind (s.both ns xs) r h = maybe_exprs-behind xs r (maybe_names-behind ns (k.Semicolon ∷ g.maybe_exprs xs r) h).1

  call-behind : (c : s.Call) (r : List Leaf) → Have (g.call c r) → Have r
  call-behind c r h = (arguments-behind c.arguments (k.CloseRound ∷ r) h.1.1).1

  test-behind : {E : Type 0} (side : E → Leaf) (b : SurfaceTest E) (r : List Leaf) → Have (g.test side b r) → Have r
  test-behind side (t.True p) r h = h.1
  test-behind side (t.Equal x y) r h = h.1.1.1
  test-behind side (t.Differ x y) r h = h.1.1.1

  -- a test in round brackets or not
  if_test-behind : (round : Bool) (b : SurfaceTest SurfaceOperand) (r : List Leaf) → Have (g.bracketed round (g.test g.operand b) r) → Have r
  if_test-behind false b r h = test-behind g.operand b r h
  if_test-behind true b r h = (test-behind g.operand b (k.CloseRound ∷ r) h.1).1

  more_fields-behind : (fs : List SurfaceField) (r : List Leaf) → Have (g.more_fields fs r) → Have r
  more_fields-behind [] r h = h
  more_fields-behind (f ∷ fs) r h = more_fields-behind fs r h.1.1.1.1

  maybe_fields-behind : (fs : List SurfaceField) (r : List Leaf) → Have (g.maybe_fields fs r) → Have r
  maybe_fields-behind [] r h = h
  maybe_fields-behind (f ∷ fs) r h = more_fields-behind fs r h.1.1.1

  mutual
    conjunct-behind : (c : s.Conjunct) (r : List Leaf) → Have (g.conjunct c r) → Have r
    conjunct-behind (s.emp p) r h = h.1
    conjunct-behind (s.group a) r h = (assertion-behind a (k.CloseRound ∷ r) h.1).1
    conjunct-behind (s.choose p round b x y) r h =
        let test = if_test-behind round b (k.Then ∷ g.assertion x (k.Else ∷ g.assertion y r)) h.1 in
        assertion-behind y r (assertion-behind x (k.Else ∷ g.assertion y r) test.1).1
    conjunct-behind (s.equal x y) r h = h.1.1.1
    conjunct-behind (s.differ x y) r h = h.1.1.1
    conjunct-behind (s.points x fs) r h = maybe_fields-behind fs r h.1.1
    conjunct-behind (s.ls p long x y) r h = h.1.1.1.1.1.1
    conjunct-behind (s.dll p from before last to) r h = h.1.1.1.1.1.1.1.1.1.1
    conjunct-behind (s.list p x) r h = h.1.1.1.1
    conjunct-behind (s.tree p x) r h = h.1.1.1.1

    assertion-behind : (a : s.Assertion) (r : List Leaf) → Have (g.assertion a r) → Have r
    assertion-behind (s.only c) r h = conjunct-behind c r h
    assertion-behind (s.star c a) r h = assertion-behind a r (conjunct-behind c (k.Star ∷ g.assertion a r) h).1

  pub annotation-behind : (x : s.Note) (r : List Leaf) → Have (g.annotation x r) → Have r
  annotation-behind s.blank r h = h.1.1
  annotation-behind (s.filled a) r h = (assertion-behind a (k.CloseSquare ∷ r) h.1).1

  pub maybe_annotation-behind : (x : Option s.Note) (r : List Leaf) → Have (g.maybe_annotation x r) → Have r
  maybe_annotation-behind None r h = h
  maybe_annotation-behind (Some x) r h = annotation-behind x r h

  mutual
    command-behind : (c : s.Command) (r : List Leaf) → Have (g.command c r) → Have r
    command-behind (s.assign x a) r h = h.1.1.1.1
    command-behind (s.look_up x a f) r h = h.1.1.1.1.1.1
    command-behind (s.new x) r h = h.1.1.1.1.1.1
    command-behind (s.mutate a f b) r h = h.1.1.1.1.1.1
    command-behind (s.dispose p true a) r h = h.1.1.1.1.1
    command-behind (s.dispose p false a) r h = h.1.1.1
    command-behind (s.if_alone p b c) r h = command-behind c r (test-behind g.expr b (k.CloseRound ∷ g.command c r) h.1.1).1
    command-behind (s.if p b c d) r h =
        let first = test-behind g.expr b (k.CloseRound ∷ g.command c (k.Else ∷ g.command d r)) h.1.1 in
        command-behind d r (command-behind c (k.Else ∷ g.command d r) first.1).1
    command-behind (s.while p b n c) r h =
        let first = test-behind g.expr b (k.CloseRound ∷ g.maybe_annotation n (g.command c r)) h.1.1 in
        command-behind c r (maybe_annotation-behind n (g.command c r) first.1)
    command-behind (s.with p x b c) r h = command-behind c r (test-behind g.expr b (k.CloseRound ∷ g.command c r) h.1.1.1.1).1
    command-behind (s.call c) r h = (call-behind c (k.Semicolon ∷ r) h).1
    command-behind (s.fork c d) r h = (call-behind d (k.Semicolon ∷ r) (call-behind c (k.Bars ∷ g.call d (k.Semicolon ∷ r)) h).1).1
    command-behind (s.block p cs q) r h = (commands-behind cs (k.CloseBrace q ∷ r) h.1).1

    pub commands-behind : (cs : s.Commands) (r : List Leaf) → Have (g.commands cs r) → Have r
    commands-behind s.done r h = h
    commands-behind (s.then c cs) r h = commands-behind cs r (command-behind c (g.commands cs r) h)

  pub locals-behind : (nss : List s.Names) (r : List Leaf) → Have (g.locals nss r) → Have r
  locals-behind [] r h = h
  locals-behind (ns ∷ nss) r h = locals-behind nss r (more_names-behind ns.more (k.Semicolon ∷ g.locals nss r) h.1.1).1
