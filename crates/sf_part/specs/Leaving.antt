-- Leaving: that a task is at an exit or sets the resources up, and that it has nothing to leave.
-- Hoare, "Towards a Theory of Parallel Programming" (1972); O'Hearn (2007) for what crosses.
use Rattle.std.specs.Prelude.{◌≡◌, List, length}
use Rattle.std.specs.List.{AllByRecursion}
use Rattle.sf_base.specs.declared.ids.ResId.{ResId}
use Rattle.sf_core.specs.Machine.Config.{Frame, runs}
use Rattle.sf_core.specs.Machine.Next.{next}
use Rattle.sf_core.specs.Machine.Whole.{Part, Content, running}
use Rattle.sf_core.specs.Program.Syntax.{Program}
use Rattle.sf_part.specs.Given.{IsContentOf}
use Rattle.sf_part.specs.Steps.{AreFrom, HandsOut, HasInHand, IsExit, IsSettling}
use Rattle.sf_part.specs.Timed.{TimedContent}

-- what comes next is the exit from a region of that resource
abbrev pub IsAtExit : Part → ResId → Type 0
IsAtExit a r = (frames : List Frame) × (a.stand ≡ running frames) × IsExit (next (runs frames)) r

-- nothing that the part has is just the resource's: its variables, and cells that satisfy its
-- invariant
abbrev pub HasNoContent : Program → Part → ResId → Type 0
HasNoContent p a r = (k : Content) (less : Part) → k.resource ≡ r → HasInHand less k a
    → IsContentOf p k → ⊥

-- what comes next is the return of the procedure that sets the resources up
abbrev pub IsAtInit : Program → Part → Type 0
IsAtInit p a = (frames : List Frame) × (a.stand ≡ running frames)
    × IsSettling p (next (runs frames))

-- nothing that the part has is just the contents of all resources, each of what the earlier ones
-- leave
abbrev pub HasNoContents : Program → Part → Type 0
HasNoContents p a = (contents : List TimedContent) (rest : Part) → AreFrom 0 contents
    → length contents ≡ length p.resources → HandsOut a contents rest
    → AllByRecursion (λ (k : TimedContent). IsContentOf p k.content) contents → ⊥
