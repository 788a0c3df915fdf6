-- Examples of safety: a body that isn't safe for one event, a fork of two calls that enter one region, and procedures that
-- set a resource up.
-- The fork is that of O'Hearn, "Resources, Concurrency and Local Reasoning" (2007), at its smallest.
use Rattle.std.specs.Prelude.{pos, [], ◌∷◌, codes}
use Rattle.sf_core.specs.declared.assertion.Test.TheVariants.{True}
use Rattle.sf_core.specs.declared.command.Expr.TheVariants.{Int}
use Rattle.sf_core.specs.Machine.Config.{items}
use Rattle.sf_core.specs.Checked.Machine.Examples.{calls, emp, guarding, hd, here, lock, own_one, procedure, shared_one}
use Rattle.sf_core.specs.Checked.Machine.SettingUp.{makes_its_cell, makes_nothing, set_up_by}
use Rattle.sf_core.specs.Program.Syntax.{done, fork, mutate, then, with, Procedure, Program}
use Rattle.sf_safe.specs.Checked.Own.{Own}
use Rattle.sf_safe.specs.Checked.Contract.{Entered, Known}
use Rattle.sf_safe.specs.Checked.Safe.{Safe}
use Rattle.sf_core.specs.Machine.Sound.{IsSound}

-- writes(x;) [] { x->hd = 7; } []
abbrev pub writes : Procedure
writes = procedure (codes "x" ∷ []) 1 0 emp (then (mutate here (own_one 0) hd (Int (pos 7))) done)

-- just this one, with no resource
abbrev pub writing : Program
writing = record { fields = codes "hd" ∷ []; resources = []; procedures = writes ∷ [] }

-- a body that writes a cell which its precondition doesn't give it isn't safe for one event, from anything that its
-- frame may begin with; and there is such a beginning
pub record WritingIsNotSafe : Type 0 where
  pub known : Known
  pub owned : Own
  pub begins : Entered writing known owned
  pub unsafe : (k : Known) (w : Own) → Entered writing k w → Safe writing 1 k (items writes.body) w → ⊥

-- fills() [] { with lock when (true) { v->hd = 7; } } []
abbrev pub fills : Procedure
fills = procedure [] 0 0 emp
    (then (with here lock True (then (mutate here shared_one hd (Int (pos 7))) done)) done)

-- twice() [] { fills() || fills(); } []
abbrev pub twice : Procedure
twice = procedure [] 0 0 emp (then (fork here (calls 1 []) (calls 1 [])) done)

-- both, with resource lock (v) [v |->]
abbrev pub filling_twice : Program
filling_twice = record {
  fields = codes "hd" ∷ [];
  resources = guarding ∷ [];
  procedures = twice ∷ fills ∷ [];
}

-- two tasks that write one cell, each inside the region of the resource that owns it, are sound
unfoldable pub FillingTwiceIsSound : Type 0
FillingTwiceIsSound = IsSound filling_twice

-- `skip` beside a procedure that makes the cell of resource lock (v) [v |->] first is sound, from settled and fresh starts
unfoldable pub SettingUpIsSound : Type 0
SettingUpIsSound = IsSound (set_up_by makes_its_cell)

-- beside one that makes nothing it isn't
unfoldable pub UnmetInvariantsAreNotSound : Type 0
UnmetInvariantsAreNotSound = IsSound (set_up_by makes_nothing) → ⊥
