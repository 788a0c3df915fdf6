-- How a run begins, by the number of the procedure that sets the resources up first, if one does, and the variables
-- that are there.
-- Ordinary: a look-up in a table.
use Rattle.std.specs.Prelude.{ℕ, ◌==◌, ◌&&◌, nat_lt, cond, Option, Some, None, List, length, slice_get, slice_index_or}
use Rattle.sf_base.specs.declared.ids.ProcId.{ProcId}
use Rattle.sf_base.specs.declared.ids.Var.TheVariants.{Shared}
use Rattle.sf_base.specs.declared.value.Value.TheVariants.{Nil as nil}
use Rattle.sf_base.specs.HeapStore.{Store, shared, own}
use Rattle.sf_core.specs.Machine.Start.{Beginning, settled, fresh}
use Rattle.sf_core.specs.Program.Syntax.{Procedure, Program}
use Rattle.sf_core.specs.declared.program.Resource.{Resource}
use Rattle.sf_foot.specs.declared.vars.Vars.{Vars}
use Rattle.sf_foot.specs.Variables.{value_of}
use Rattle.sf_frame.specs.Checked.Resources.{counts_of, in_resources}

-- with the procedure that was found
abbrev pub beginning_with : ProcId → Option Procedure → Beginning
beginning_with n (Some h) = fresh n h
beginning_with n None = settled

-- with the procedure of that number
abbrev pub beginning_at : Program → Option ProcId → Beginning
beginning_at p (Some n) = beginning_with n (slice_get p.procedures n.0)
beginning_at p None = settled

-- the variables with which a run begins: so many of number 0, the first with these values, and those of the resources
abbrev pub first_store : (count : ℕ) → List Resource → Vars → Store
first_store count rs vars (own e i) =
    cond ((e == 0) && nat_lt i count) (Some (slice_index_or vars.own.items i nil)) None
first_store count rs vars (shared r i) =
    cond (in_resources (counts_of rs) (length rs) (shared r i)) (Some (value_of vars (Shared r i))) None
