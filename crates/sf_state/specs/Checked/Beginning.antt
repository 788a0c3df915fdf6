-- What a start makes of variables and cells that a text gave.
-- Ordinary: the answers of a call by cases.
use Rattle.std.specs.Prelude.{◌≡◌, ◌⊎◌, ℕ, ◌+◌, Bool, true, Ok, Err, Result, length, map}
use Rattle.sf_base.specs.declared.ids.ProcId.{ProcId}
use Rattle.sf_base.specs.declared.ids.ResId.{ResId}
use Rattle.sf_base.specs.declared.ids.Var.{Var}
use Rattle.sf_base.specs.declared.ids.Var.TheVariants.{Shared}
use Rattle.sf_base.specs.declared.value.Value.{Value}
use Rattle.sf_base.specs.declared.value.Value.TheVariants.{Nil as nil}
use Rattle.sf_base.specs.HeapStore.{Heap}
use Rattle.sf_core.specs.Program.Syntax.{Procedure, Program}
use Rattle.sf_heap.specs.Cells.{Cells, heap_of}
use Rattle.sf_foot.specs.declared.start.Start.{Start}
use Rattle.sf_foot.specs.declared.vars.Vars.{Vars}
use Rattle.sf_foot.specs.Starting.{IsFirstUnit, StartsWith, assertions_of}
use Rattle.sf_foot.specs.Variables.{value_of}
use Rattle.sf_state.specs.declared.fault.StartFault.{StartFault}
use Rattle.sf_state.specs.declared.fault.StartFault.TheVariants as fault
use Rattle.sf_state.specs.Names.{has_init}
use Rattle.sf_state.specs.Starts.{IsLeftOver, IsUnmet, assertion_name}

-- there is a value for each of the procedure's references and values, and for each variable of a
-- resource
pub record Fits (p : Program) (g : Procedure) (vars : Vars) : Type 0 where
  pub own : length vars.own.items ≡ g.references + g.values
  pub shared : map (λ vs. length vs.items) vars.shared.items ≡ map (λ r. length r.variables) p.resources

-- a fresh state is of a program with `init`, and gives nil to the variables of resources
pub record SuitsFresh (p : Program) (vars : Vars) : Type 0 where
  pub init : has_init p ≡ true
  pub values : (r : ResId) (i : ℕ) → value_of vars (Shared r i) ≡ nil

-- why the procedure doesn't start with them, fresh or not: an assertion is unmet, or a cell is left
-- over
abbrev pub IsBeginFault : Program → Procedure → Bool → (Var → Value) → Heap → StartFault → Type 0
IsBeginFault p g fresh vars heap e = ((number : ℕ) × (e ≡ fault.Unmet (assertion_name p number))
    × IsUnmet vars heap (assertions_of p g fresh) number)
    ⊎ ((location : ℕ) × (e ≡ fault.LeftOver location)
    × IsLeftOver vars heap (assertions_of p g fresh) location)

-- the call makes the start with these variables and cells, or says why there is none, or memory
-- runs out
abbrev pub Begins : Program → ProcId → Procedure → Bool → Vars → Cells → Result Start StartFault → Type 0
Begins p f g fresh vars heap (Ok s) = (s.vars ≡ vars) × (s.heap ≡ heap)
    × StartsWith p f fresh vars heap s.parts.items × IsFirstUnit vars heap s.unit × (s.fresh ≡ fresh)
Begins p f g fresh vars heap (Err e) = (e ≡ fault.OutOfMemory)
    ⊎ IsBeginFault p g fresh (value_of vars) (heap_of heap) e
