-- How a task of the code stands, as in the definitions.
-- Ordinary: each with its frames.
use Rattle.std.specs.Prelude.{[]}
use Rattle.sf_core.specs.Machine.Whole.{Stand, running, waiting}
use Rattle.sf_frame.specs.Frames.{stack_of}
use Rattle.sf_part.specs.declared.stand.Stand.{Stand as CodeStand}
use Rattle.sf_part.specs.declared.stand.Stand.TheVariants.{Runs, Waits, Over}

-- how it stands
abbrev pub stand_in : CodeStand → Stand
stand_in (Runs stack) = running (stack_of stack)
stand_in (Waits stack) = waiting (stack_of stack)
stand_in Over = running []
