-- What spells a command or an item is longer than what comes after it.
use Rattle.std.proofs.Common.{◌≡◌, ◌≤◌, ◌<◌, List, [], ◌∷◌, length, Option, Some, None, true, false, arith}
use Rattle.sf_ast.specs.declared.word.SurfaceExpr.{SurfaceExpr}
use Rattle.sf_ast.specs.declared.word.Word.{Word}
use Rattle.sf_ast.specs.Surface as s
use Rattle.sf_parse.specs.Leaf.{Leaf, leaves}
use Rattle.sf_parse.specs.Leaf as k
use Rattle.sf_lex.specs.declared.token.Token.{Token}
use Rattle.sf_parse.specs.Grammar as g
use Rattle.sf_parse.proofs.Grammar.Longer.{test_longer, assertion_longer, fewer}

pub more_names_longer : (xs : List Word) (r : List Leaf) → length r ≤ length (g.more_names xs r)
more_names_longer [] r = omega arith
more_names_longer (x ∷ xs) r = omega (arith, more_names_longer xs r)

pub maybe_names_longer : (xs : List Word) (r : List Leaf) → length r ≤ length (g.maybe_names xs r)
maybe_names_longer [] r = omega arith
maybe_names_longer (x ∷ xs) r = omega (arith, more_names_longer xs r)

more_exprs_longer : (xs : List SurfaceExpr) (r : List Leaf) → length r ≤ length (g.more_exprs xs r)
more_exprs_longer [] r = omega arith
more_exprs_longer (x ∷ xs) r = omega (arith, more_exprs_longer xs r)

maybe_exprs_longer : (xs : List SurfaceExpr) (r : List Leaf) → length r ≤ length (g.maybe_exprs xs r)
maybe_exprs_longer [] r = omega arith
maybe_exprs_longer (x ∷ xs) r = omega (arith, more_exprs_longer xs r)

arguments_longer : (a : s.Arguments) (r : List Leaf) → length r ≤ length (g.arguments a r)
arguments_longer (s.values xs) r = maybe_exprs_longer xs r
arguments_longer (s.both ns xs) r = omega (arith, maybe_names_longer ns (k.Semicolon ∷ g.maybe_exprs xs r), maybe_exprs_longer xs r)

call_longer : (c : s.Call) (r : List Leaf) → length r < length (g.call c r)
call_longer c r = omega (arith, arguments_longer c.arguments (k.CloseRound ∷ r))

pub annotation_longer : (x : s.Note) (r : List Leaf) → length r < length (g.annotation x r)
annotation_longer s.blank r = omega arith
annotation_longer (s.filled a) r = omega (arith, assertion_longer a (k.CloseSquare ∷ r))

pub maybe_annotation_longer : (x : Option s.Note) (r : List Leaf) → length r ≤ length (g.maybe_annotation x r)
maybe_annotation_longer None r = omega arith
maybe_annotation_longer (Some x) r = omega (arith, annotation_longer x r)

mutual
  pub command_longer : (c : s.Command) (r : List Leaf) → length r < length (g.command c r)
  command_longer (s.dispose p true a) r = omega arith
  command_longer (s.dispose p false a) r = omega arith
  command_longer (s.if_alone p b c) r = omega (arith, test_longer g.expr b (k.CloseRound ∷ g.command c r), command_longer c r)
  command_longer (s.if p b c d) r = omega (arith, test_longer g.expr b (k.CloseRound ∷ g.command c (k.Else ∷ g.command d r)), command_longer c (k.Else ∷ g.command d r), command_longer d r)
  command_longer (s.while p b n c) r = omega (arith, test_longer g.expr b (k.CloseRound ∷ g.maybe_annotation n (g.command c r)), maybe_annotation_longer n (g.command c r), command_longer c r)
  command_longer (s.with p x b c) r = omega (arith, test_longer g.expr b (k.CloseRound ∷ g.command c r), command_longer c r)
  command_longer (s.call c) r = omega (arith, call_longer c (k.Semicolon ∷ r))
  command_longer (s.fork c d) r = omega (arith, call_longer c (k.Bars ∷ g.call d (k.Semicolon ∷ r)), call_longer d (k.Semicolon ∷ r))
  command_longer (s.block p cs o) r = omega (arith, commands_longer cs (k.CloseBrace o ∷ r))
  command_longer _ r = omega arith

  pub commands_longer : (cs : s.Commands) (r : List Leaf) → length r ≤ length (g.commands cs r)
  commands_longer s.done r = omega arith
  commands_longer (s.then c cs) r = omega (arith, command_longer c (g.commands cs r), commands_longer cs r)

-- so fewer tokens are left after it
pub fewer_behind_command : (c : s.Command) (ts r : List Token) → leaves ts ≡ g.command c (leaves r) → length r < length ts
fewer_behind_command c ts r h = fewer r ts (rw h (command_longer c (leaves r)))

pub locals_longer : (ls : List s.Names) (r : List Leaf) → length r ≤ length (g.locals ls r)
locals_longer [] r = omega arith
locals_longer (x ∷ ls) r = omega (arith, more_names_longer x.more (k.Semicolon ∷ g.locals ls r), locals_longer ls r)

pub parameters_longer : (ps : s.Parameters) (r : List Leaf) → length r ≤ length (g.parameters ps r)
parameters_longer (s.only_values xs) r = maybe_names_longer xs r
parameters_longer (s.references_and_values xs ys) r = omega (arith, maybe_names_longer xs (k.Semicolon ∷ g.maybe_names ys r), maybe_names_longer ys r)

procedure_longer : (f : s.Procedure) (r : List Leaf) → length r < length (g.procedure f r)
procedure_longer f r =
    omega (
      arith,
      parameters_longer f.parameters (k.CloseRound ∷ g.maybe_annotation f.pre (k.OpenBrace f.opens ∷ g.locals f.locals (g.commands f.body (k.CloseBrace f.closes ∷ g.maybe_annotation f.post r)))),
      maybe_annotation_longer f.pre (k.OpenBrace f.opens ∷ g.locals f.locals (g.commands f.body (k.CloseBrace f.closes ∷ g.maybe_annotation f.post r))),
      locals_longer f.locals (g.commands f.body (k.CloseBrace f.closes ∷ g.maybe_annotation f.post r)),
      commands_longer f.body (k.CloseBrace f.closes ∷ g.maybe_annotation f.post r),
      maybe_annotation_longer f.post r,
    )

pub item_longer : (i : s.Item) (r : List Leaf) → length r < length (g.item i r)
item_longer (s.fields ns) r = omega (arith, more_names_longer ns.more (k.Semicolon ∷ r))
item_longer (s.resource x) r = omega (arith, maybe_names_longer x.variables (k.CloseRound ∷ g.annotation x.invariant r), annotation_longer x.invariant r)
item_longer (s.procedure f) r = procedure_longer f r

pub fewer_behind_item : (i : s.Item) (ts r : List Token) → leaves ts ≡ g.item i (leaves r) → length r < length ts
fewer_behind_item i ts r h = fewer r ts (rw h (item_longer i (leaves r)))
