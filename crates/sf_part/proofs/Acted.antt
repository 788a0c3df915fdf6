-- A part after an event of its own, which spends its next unit and is noted at the next time.
-- Names: `acted-keeps`.
use Rattle.std.specs.Prelude.{◌≡◌, ◌≢◌, ◌+◌, ℕ, List, ◌∷◌, ◌++◌, map, Contains}
use Rattle.std.proofs.Common.{refl, arith}
use Rattle.sf_core.specs.Machine.Whole.{Range, numbers}
use Rattle.sf_frame.specs.Commons.{common_of}
use Rattle.sf_frame.specs.declared.shared.Shared.{Shared}
use Rattle.sf_part.specs.Checked.Stepping.{own_event}
use Rattle.sf_part.specs.declared.log.Stamped.{Stamped as CodeStamped}
use Rattle.sf_part.specs.declared.part.Part.{Part as CodePart}
use Rattle.sf_part.specs.declared.stand.Stand.{Stand as CodeStand}
use Rattle.sf_part.specs.Keeps.{IsUnmade, IsWaiting, Keeps}
use Rattle.sf_part.specs.Parts.{entry_of, part_with}
use Rattle.sf_part.specs.PartView.{part_of}
use Rattle.sf_part.specs.Stands.{stand_in}
use Rattle.sf_part.specs.Timed.{noted}
use Rattle.sf_part.proofs.Performed.{performed-keeps}

pub acted-keeps : (a : CodePart) (number : ℕ) (stand : CodeStand) (now : Shared)
    (supply : List Range) (log : List CodeStamped)
    → numbers a.supply ≡ number ∷ numbers supply
    → ((n : ℕ) → Contains (numbers a.supply) n → n ≢ number
    → IsUnmade (common_of a.shared).heap (common_of a.shared).store n
    → IsUnmade (common_of now).heap (common_of now).store n)
    → (IsWaiting (stand_in stand) → ⊥)
    → map entry_of log ≡ map entry_of a.log.items
    ++ noted a.keeps (record { stamp = a.clock + 1; task = a.task; number = number })
    → Keeps (part_with a.task stand now supply (a.clock + 1) a.keeps log a.given)
acted-keeps a number stand now supply log units unmade runs notes =
    performed-keeps (own_event a number) a.clock (part_of a)
    (part_with a.task stand now supply (a.clock + 1) a.keeps log a.given) a.kept units unmade runs
    (omega arith) a.kept.time.within
    (record { keeps = refl; given = refl; clock_is = omega arith; log_is = notes })
