-- Each program has one answer: no condition on variables is broken, or a fault comes first, and not
-- both; and nothing comes earlier than what is first.
-- Ordinary: a relation that is total has a value for each argument, and the least of an order nothing below it.
use Rattle.std.specs.Prelude.{◌≡◌, ◌⊎◌, ℕ, Some}
use Rattle.sf_base.specs.declared.ids.ProcId.{ProcId}
use Rattle.sf_core.specs.Program.Formed.{IsFormed}
use Rattle.sf_core.specs.Program.Syntax.{Program}
use Rattle.sf_calls.specs.declared.breach.Breach.{Breach}
use Rattle.sf_calls.specs.FirstBreach.{Conditions, FirstBreach}
use Rattle.sf_vars.specs.Earlier.{IsEarlierBreach, IsLocated, Located}
use Rattle.sf_vars.specs.Faults.{IsFirstFault}
use Rattle.sf_vars.specs.declared.fault.VarFault.{VarFault}

-- a program that is in order breaks no condition, or has a first fault
abbrev pub EachProgramHasAnAnswer : Type 0
EachProgramHasAnAnswer =
    (p : Program) → IsFormed p → Conditions p ⊎ ((fault : VarFault) × IsFirstFault p fault)

-- a program has one first fault at most, and none where it breaks no condition
pub record EachProgramHasOneAnswer : Type 0 where
  pub one_fault : (p : Program) (fault other : VarFault) → IsFirstFault p fault → IsFirstFault p other
      → fault ≡ other
  pub not_both : (p : Program) (fault : VarFault) → Conditions p → IsFirstFault p fault → ⊥

-- what comes first is at some command, and no breach of the program is earlier by procedure, command and kind
abbrev pub NothingComesEarlier : Type 0
NothingComesEarlier =
    (p : Program) (f : ProcId) (b : Breach) → IsFormed p → FirstBreach p (Some (f, b))
    → (k : ℕ) × IsLocated p (record { procedure = f; command = k; breach = b })
    × ((d : Located) → IsLocated p d
    → ¬ (IsEarlierBreach d (record { procedure = f; command = k; breach = b })))
