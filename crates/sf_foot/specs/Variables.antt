-- The values of variables, by their numbers.
-- Ordinary: a store of variables, in which one that isn't there is nil.
use Rattle.std.specs.Prelude.{List, [], slice_index_or, slice_get, Option, Some, None, Vec}
use Rattle.std.specs.declared.alloc.Global.{Global}
use Rattle.sf_base.specs.declared.ids.Var.{Var}
use Rattle.sf_base.specs.declared.ids.Var.TheVariants.{Own, Shared}
use Rattle.sf_base.specs.declared.value.Value.{Value}
use Rattle.sf_base.specs.declared.value.Value.TheVariants.{Nil as nil}
use Rattle.sf_foot.specs.declared.vars.Vars.{Vars}

-- the values of a resource's variables, where it is there
abbrev pub values_or_none : Option (Vec Value Global) → List Value
values_or_none None = []
values_or_none (Some values) = values.items

-- the value of a variable, nil where it isn't there
abbrev pub value_of : Vars → Var → Value
value_of vars (Own i) = slice_index_or vars.own.items i nil
value_of vars (Shared r i) = slice_index_or (values_or_none (slice_get vars.shared.items r.0)) i nil
