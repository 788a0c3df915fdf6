use Rattle.std.proofs.Common.{◌≡◌, ◌++◌, drop}
use Rattle.sf_state.specs.StateText.{variable_lines}
use Rattle.sf_state.proofs.text.put_variables.Given as goal

abbrev pub invariant-loop-i : goal.invariant-loop-i
invariant-loop-i l = l.fn.text.items ++ variable_lines l.names 0 l.values
    ≡ l.text.items ++ variable_lines (drop l.i l.names) l.i l.values
