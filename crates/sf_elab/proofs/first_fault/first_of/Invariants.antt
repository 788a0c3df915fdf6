use Rattle.std.proofs.Common.{take}
use Rattle.sf_base.specs.First.{IsFirstOf}
use Rattle.sf_elab.specs.Files.Faults.{is_earlier}
use Rattle.sf_elab.proofs.first_fault.first_of.Given as goal

-- the first of those that were looked at
abbrev pub invariant-loop-fault : goal.invariant-loop-fault
invariant-loop-fault l = IsFirstOf is_earlier (take l.fault-index l.faults) l.found
