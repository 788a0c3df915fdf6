-- Located: the values that a witness gives to symbols and terms.
-- Ordinary: a model by its own names, each symbol a location of its own.
use Rattle.std.specs.Prelude.{ℕ, suc}
use Rattle.sf_base.specs.declared.value.Value.{Value}
use Rattle.sf_base.specs.declared.value.Value.TheVariants.{Loc as loc}
use Rattle.sf_sym.specs.declared.term.Term.{Term}
use Rattle.sf_sym.specs.Holds.{term_value}

-- symbol sN is the location N + 1
abbrev pub located : ℕ → Value
located n = loc (suc n)

-- the value of a term
abbrev pub value_at : Term → Value
value_at t = term_value located t
