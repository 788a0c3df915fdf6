use Rattle.std.proofs.Common.{drop}
use Rattle.sf_core.specs.Assertions.Sat.{value}
use Rattle.sf_heap.specs.Cells.{cell_of}
use Rattle.sf_foot.specs.Checked.Known.{FieldsLeft}
use Rattle.sf_foot.specs.Variables.{value_of}
use Rattle.sf_foot.proofs.known.Known.meet_fields.Given as goal

-- what the fields that are left say, and what was learned, is what all of them say
abbrev pub invariant-loop-field : goal.invariant-loop-field
invariant-loop-field l =
    FieldsLeft (value (value_of l.vars)) (cell_of l.cell) l.initial.self l.fields l.self (drop l.field-index l.fields)
