-- Forking: that a task is at a parallel call, and that it has nothing to lend to the two children.
-- O'Hearn (2007): the parallel rule splits what a task owns along the preconditions of the two
-- calls.
use Rattle.std.specs.Prelude.{◌≡◌, List}
use Rattle.sf_core.specs.Machine.Config.{Frame, runs}
use Rattle.sf_core.specs.Machine.Next.{next}
use Rattle.sf_core.specs.Machine.Step.{Event}
use Rattle.sf_core.specs.Machine.Whole.{Part, running}
use Rattle.sf_core.specs.Program.Syntax.{Program}
use Rattle.sf_part.specs.Lent.{Lends}
use Rattle.sf_part.specs.Steps.{IsFork}
use Rattle.sf_part.specs.Timed.{TimedPart}

-- what comes next is a parallel call
abbrev pub IsAtFork : Part → Type 0
IsAtFork a = (frames : List Frame) × (a.stand ≡ running frames) × IsFork (next (runs frames))

-- nothing that the part has is just the shares of the two children
abbrev pub HasNoShares : Program → TimedPart → Type 0
HasNoShares p a = (event : Event) (after one two : TimedPart) → Lends p event a after one two → ⊥
