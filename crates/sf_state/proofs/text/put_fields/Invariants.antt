use Rattle.std.proofs.Common.{◌≡◌, ◌++◌, drop}
use Rattle.sf_state.specs.StateText.{field_texts}
use Rattle.sf_state.proofs.text.put_fields.Given as goal

abbrev pub invariant-loop-i : goal.invariant-loop-i
invariant-loop-i l = l.fn.text.items ++ field_texts l.names 0 l.values
    ≡ l.text.items ++ field_texts (drop l.i l.names) l.i l.values
