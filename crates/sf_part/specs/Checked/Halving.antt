-- The units that two children get of what is left.
-- Ordinary: a list in two.
use Rattle.std.specs.Prelude.{◌≡◌, ◌/◌, ℕ, List, drop, length, take}
use Rattle.sf_core.specs.Machine.Whole.{Range}
use Rattle.sf_part.specs.declared.supply.Units.{Units}
use Rattle.sf_part.specs.Checked.Ranges.{range_of}
use Rattle.std.specs.Prelude.{map}

-- the first half, rounded down, and the rest
pub record AreHalves (all one two : List ℕ) : Type 0 where
  pub first : one ≡ take (length all / 2) all
  pub second : two ≡ drop (length all / 2) all

-- ranges of the code in the order in which they are listed
abbrev pub in_list : List Units → List Range
in_list = map range_of
