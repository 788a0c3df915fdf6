-- Turns that were read.
-- Ordinary: a list, cut in two.
use Rattle.std.specs.Prelude.{◌++◌, Option, Some, None}
use Rattle.sf_core.specs.Machine.Config.{Path}

-- these turns and those after them, if they are turns
abbrev pub ahead : Path → Option Path → Option Path
ahead path None = None
ahead path (Some rest) = Some (path ++ rest)
