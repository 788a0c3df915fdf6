-- How the code's results of meeting operands are read: the state and what existentials stand for are changed in place.
-- Ordinary: one record a result.
use Rattle.std.specs.Prelude.{List, Option}
use Rattle.sf_base.specs.declared.ids.FieldId.{FieldId}
use Rattle.sf_sym.specs.State.{State}
use Rattle.sf_sym.specs.declared.term.Term.{Term}
use Rattle.sf_produce.specs.Add.{Met, MetBoth, MetFields, MetFour}

-- one operand
abbrev pub met_of : State → List (Option Term) → Term → Met
met_of s bindings t = record { term = t; state = s; bindings = bindings }

-- two
abbrev pub both_of : State → List (Option Term) → Term × Term → MetBoth
both_of s bindings e = record { one = e.0; two = e.1; state = s; bindings = bindings }

-- four
abbrev pub four_of : State → List (Option Term) → Term × Term × Term × Term → MetFour
four_of s bindings d =
    record { from = d.0; before = d.1; last = d.2; to = d.3; state = s; bindings = bindings }

-- the fields of a cell
abbrev pub fields_of : State → List (Option Term) → List (FieldId × Term) → MetFields
fields_of s bindings fields = record { fields = fields; state = s; bindings = bindings }
