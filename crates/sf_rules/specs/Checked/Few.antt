-- How many new symbols a row of the function may need.
-- This project's own, as the counting around the rules.
use Rattle.std.specs.Prelude.{ℕ, cond, nat_lt, Option, None, List}
use Rattle.sf_rules.specs.declared.few.TheConstants.{TOO_MANY}
use Rattle.sf_sym.specs.Goal.{Goal}

-- what is left, where fewer than `TOO_MANY` symbols are needed at once
abbrev pub if_few : (count : ℕ) → Option (List Goal) → Option (List Goal)
if_few count left = cond (nat_lt count TOO_MANY) left None
