-- Procedures that need nothing to start.
-- Ordinary: no resources, no parameters, and a contract that speaks of no cells.
use Rattle.std.specs.Prelude.{◌≡◌, []}
use Rattle.sf_core.specs.declared.command.Expr.{Expr}
use Rattle.sf_core.specs.Program.Syntax.{Level, level, none, also, Procedure, Program}

-- the level has no conjunct
abbrev pub HasNone : Level Expr → Type 0
HasNone (level made none) = Unit {0}
HasNone (level made (also c cs)) = ⊥

-- there are no resources, and the procedure has no parameters and speaks of no cells
pub record IsPlain (p : Program) (g : Procedure) : Type 0 where
  pub resources : p.resources ≡ []
  pub references : g.references ≡ 0
  pub values : g.values ≡ 0
  pub pre : HasNone g.pre.level
  pub post : HasNone g.post.level
