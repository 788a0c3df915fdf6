-- Whether the frames of a task may change.
-- Ordinary: a case of how it stands.
use Rattle.sf_frame.specs.Checked.Frames.{HasRoom}
use Rattle.sf_frame.specs.declared.stack.Change.{Change}
use Rattle.sf_part.specs.declared.stand.Stand.{Stand}
use Rattle.sf_part.specs.declared.stand.Stand.TheVariants.{Runs as runs, Waits as waits, Over as over}

-- the task runs frames
abbrev pub Runs : Stand → Type 0
Runs (runs stack) = Unit {0}
Runs (waits stack) = ⊥
Runs over = ⊥

-- there is room for a change of the frames that it runs
abbrev pub HasStandRoom : Change → Stand → Type 0
HasStandRoom change (runs stack) = HasRoom change stack
HasStandRoom change (waits stack) = Unit {0}
HasStandRoom change over = Unit {0}
