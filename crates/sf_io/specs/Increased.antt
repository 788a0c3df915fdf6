-- When a count of faults of the outside increased in a call.
-- A count only ever increases: Timany and Birkedal, Reasoning about monotonicity in separation logic, 2021.
use Rattle.std.specs.Prelude.{◌≡◌, ◌<◌, ◌-◌, ◌^◌, ◌⊎◌, ℕ}

-- where a count of faults ends
abbrev pub last_count : ℕ
last_count = 2 ^ 64 - 1

-- the count is greater after the call, or at its end
abbrev pub Increased : ℕ → ℕ → Type 0
Increased before after = (before < after) ⊎ (after ≡ last_count)
