-- Guards: the condition of the region at which a task stands.
-- Hoare, "Towards a Theory of Parallel Programming" (1972): with r when B do C.
use Rattle.std.specs.Prelude.{◌≡◌, List}
use Rattle.sf_base.specs.declared.ids.ResId.{ResId}
use Rattle.sf_base.specs.declared.place.Place.{Place}
use Rattle.sf_core.specs.declared.assertion.Test.{Test}
use Rattle.sf_core.specs.declared.command.Expr.{Expr}
use Rattle.sf_core.specs.Machine.Config.{Item, Fixed, Frame, runs}
use Rattle.sf_core.specs.Machine.Next.{Next, does, next}
use Rattle.sf_core.specs.Machine.Whole.{Part, running}
use Rattle.sf_core.specs.Program.Syntax.{with, Block}

-- what comes next is a region of that resource, with that condition, in that frame
pub record IsGuard (what : Next) (r : ResId) (f : Fixed) (test : Test Expr) : Type 0 where
  pub below : List Frame
  pub place : Place
  pub body : Block
  pub rest : List Item
  pub is : what ≡ does f below (with place r test body) rest

-- the task of the part stands at such a region
abbrev pub StandsAt : Part → ResId → Fixed → Test Expr → Type 0
StandsAt a r f test = (frames : List Frame) × (a.stand ≡ running frames)
    × IsGuard (next (runs frames)) r f test

-- the task stands at a region of that resource
abbrev pub IsAtRegion : Part → ResId → Type 0
IsAtRegion a r = (f : Fixed) × (test : Test Expr) × StandsAt a r f test
