-- Which calls of a stand-in for the outside are made to fail.
-- Faults injected at chosen calls: Segall and others, FIAT, a fault injection based automated testing environment, 1988.
use Rattle.std.specs.Prelude.{◌+◌, ◌-◌, ◌^◌, min, ℕ, List, Contains}

-- how many calls were made, and the numbers, from 1, of those that are to fail
pub record Plan : Type 0 where
  pub made : ℕ
  pub failing : List ℕ

-- a count that is one greater, or at its end
abbrev pub one_more : ℕ → ℕ
one_more n = min (n + 1) (2 ^ 64 - 1)

-- the plan once one more call is made
abbrev pub after_call : Plan → Plan
after_call plan = record plan { made = one_more plan.made }

-- the next call is to fail
abbrev pub IsDue : Plan → Type 0
IsDue plan = Contains plan.failing (one_more plan.made)
