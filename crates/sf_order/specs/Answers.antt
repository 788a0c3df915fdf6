-- What the answers of `rank` and `check_ranks` say.
use Rattle.std.specs.Prelude.{◌<◌, ℕ, List, All}
use Rattle.sf_base.specs.declared.ids.ResId.{ResId}
use Rattle.sf_order.specs.Cycles.{IsFirstCycle}
use Rattle.sf_order.specs.declared.ranked.RankFault.{RankFault}
use Rattle.sf_order.specs.declared.ranked.RankFault.TheVariants.{Cycle, OutOfMemory}

-- the pairs are of the first so many resources
abbrev pub AreBelow : ℕ → List (ResId × ResId) → Type 0
AreBelow count pairs = All (λ e. (e.0.0 < count) × (e.1.0 < count)) pairs

-- there is a cycle, and this is the first one; or memory ran out
abbrev pub IsCause : (ResId → ResId → Type 0) → RankFault → Type 0
IsCause R (Cycle xs) = IsFirstCycle R xs
IsCause R OutOfMemory = Unit {0}
