use Rattle.std.proofs.Common.{◌≡◌, drop, map}
use Rattle.sf_core.specs.Program.View.{procedure_of}
use Rattle.sf_vars.specs.Checked.Search.{in_procedures}
use Rattle.sf_vars.proofs.condition.first_breach.Given as goal

-- what was passed breaks nothing
abbrev pub invariant-loop-i : goal.invariant-loop-i
invariant-loop-i l =
    in_procedures l.calls 0 (map procedure_of l.p.procedures.items)
    ≡ in_procedures l.calls l.i (map procedure_of (drop l.i l.p.procedures.items))
