-- What a tree elaborates to is nested no deeper than the tree: blocks and groups vanish.
use Rattle.std.proofs.Common.{◌≡◌, ◌≤◌, ◌+◌, ℕ, suc, max, Bool, true, false, cond, List, [], ◌∷◌, ◌++◌, arith}
use Rattle.sf_ast.specs.declared.word.Word.{Word}
use Rattle.sf_ast.specs.Depth as d
use Rattle.sf_ast.specs.Surface as s
use Rattle.sf_base.specs.declared.place.Place.{Place}
use Rattle.sf_core.specs.declared.command.Expr.TheVariants.{Var as Variable}
use Rattle.sf_core.specs.Program.Formed.{level_depth, conjuncts_depth, conjunct_depth, block_depth}
use Rattle.sf_core.specs.Program.Syntax as c
use Rattle.sf_core.specs.Program.View.{conjuncts, block}
use Rattle.sf_elab.specs.declared.levels.Levels.{Levels}
use Rattle.sf_elab.specs.Annotations.Assertions.{conjunct_of, conjuncts_of, level_of}
use Rattle.sf_elab.specs.Bodies.Commands.{command_of, commands_of}
use Rattle.sf_elab.specs.Annotations.Existentials.{opened, taking, names_after, names_after_level}
use Rattle.sf_elab.specs.Annotations.Flat as f
use Rattle.sf_elab.specs.Names.InEnv.{Env}
use Rattle.sf_elab.specs.Bodies.Procedures.{first_assignments, own_at}

-- how deep levels are nested in a flat one
abbrev mutual
  flat_depth : f.Flat → ℕ
  flat_depth (f.choose p t a b) = suc (max (flats_depth a) (flats_depth b))
  flat_depth _ = 0

  flats_depth : f.Flats → ℕ
  flats_depth f.none = 0
  flats_depth (f.also c cs) = max (flat_depth c) (flats_depth cs)

flats_joined : (xs ys : List f.Flat) → flats_depth (f.flats (xs ++ ys)) ≡ max (flats_depth (f.flats xs)) (flats_depth (f.flats ys))
flats_joined [] ys = omega arith
flats_joined (x ∷ xs) ys = omega (arith, flats_joined xs ys)

mutual
  flat_no_deeper : (c : s.Conjunct) → flats_depth (f.flats (f.flat c)) ≤ d.conjunct_depth c
  flat_no_deeper (s.group a) = omega (arith, all_no_deeper a)
  flat_no_deeper (s.choose p k t a b) = omega (arith, all_no_deeper a, all_no_deeper b)
  flat_no_deeper _ = omega arith

  all_no_deeper : (a : s.Assertion) → suc (flats_depth (f.level_in a)) ≤ d.assertion_depth a
  all_no_deeper (s.only c) = omega (arith, flat_no_deeper c)
  all_no_deeper (s.star c a) = omega (arith, flats_joined (f.flat c) (f.flat_all a), flat_no_deeper c, all_no_deeper a)

mutual
  conjunct_no_deeper : (i : Env) (l : Levels) (c : f.Flat) → conjunct_depth (conjunct_of i l c) ≤ flat_depth c
  conjunct_no_deeper i l (f.choose p t a b) =
      omega (arith, conjuncts_no_deeper i (opened i.bytes l a) a, conjuncts_no_deeper i (opened i.bytes (taking l (names_after_level i.bytes l a)) b) b)
  conjunct_no_deeper i l _ = omega arith

  conjuncts_no_deeper : (i : Env) (l : Levels) (cs : f.Flats) → conjuncts_depth (conjuncts (conjuncts_of i l cs)) ≤ flats_depth cs
  conjuncts_no_deeper i l f.none = omega arith
  conjuncts_no_deeper i l (f.also c cs) = omega (arith, conjunct_no_deeper i l c, conjuncts_no_deeper i (taking l (names_after i.bytes l c)) cs)

pub level_no_deeper : (i : Env) (l : Levels) (a : s.Assertion) → level_depth (level_of i l (f.level_in a)) ≤ d.assertion_depth a
level_no_deeper i l a = omega (arith, conjuncts_no_deeper i (opened i.bytes l (f.level_in a)) (f.level_in a), all_no_deeper a)

block_joined : (xs ys : List c.Command) → block_depth (block (xs ++ ys)) ≡ max (block_depth (block xs)) (block_depth (block ys))
block_joined [] ys = omega arith
block_joined (x ∷ xs) ys = omega (arith, block_joined xs ys)

mutual
  command_no_deeper : (i : Env) (x : s.Command) → block_depth (block (command_of i x)) ≤ d.command_depth x
  command_no_deeper i (s.if_alone p t x) = omega (arith, command_no_deeper i x)
  command_no_deeper i (s.if p t x y) = omega (arith, command_no_deeper i x, command_no_deeper i y)
  command_no_deeper i (s.while p t n x) = omega (arith, command_no_deeper i x)
  command_no_deeper i (s.with p r t x) = omega (arith, command_no_deeper i x)
  command_no_deeper i (s.block p xs q) = omega (arith, commands_no_deeper i xs)
  command_no_deeper i _ = omega arith

  pub commands_no_deeper : (i : Env) (xs : s.Commands) → block_depth (block (commands_of i xs)) ≤ d.commands_depth xs
  commands_no_deeper i s.done = omega arith
  commands_no_deeper i (s.then x xs) = omega (arith, block_joined (command_of i x) (commands_of i xs), command_no_deeper i x, commands_no_deeper i xs)

first_flat : (primed : Word → Bool) (at : Place) (k p : ℕ) (ws : List Word) → block_depth (block (first_assignments primed at k p ws)) ≤ 1
first_flat primed at k p [] = omega arith
first_flat primed at k p (w ∷ ws) = go (primed w) (first_flat primed at (k + 1) (p + 1) ws) (first_flat primed at (k + 1) p ws)
  where
    go : (t : Bool) → block_depth (block (first_assignments primed at (k + 1) (p + 1) ws)) ≤ 1 → block_depth (block (first_assignments primed at (k + 1) p ws)) ≤ 1
        → block_depth (block (cond t (c.assign at (own_at at p) (Variable (own_at at k)) ∷ first_assignments primed at (k + 1) (p + 1) ws) (first_assignments primed at (k + 1) p ws))) ≤ 1
    go true m n = omega arith
    go false m n = n

-- a body with what it begins with
pub body_no_deeper : (i : Env) (primed : Word → Bool) (at : Place) (k p : ℕ) (ws : List Word) (xs : s.Commands) (limit : ℕ) → 1 ≤ limit → d.commands_depth xs ≤ limit
    → block_depth (block (first_assignments primed at k p ws ++ commands_of i xs)) ≤ limit
body_no_deeper i primed at k p ws xs limit h j =
    omega (arith, block_joined (first_assignments primed at k p ws) (commands_of i xs), first_flat primed at k p ws, commands_no_deeper i xs)
