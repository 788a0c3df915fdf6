-- What a proof promises: a program that tags prove by the rows of the whole table is sound.
-- The soundness theorem of concurrent separation logic: O'Hearn, "Resources, Concurrency and Local Reasoning" (2007);
-- Brookes, "A Semantics for Concurrent Separation Logic" (2007).
use Rattle.std.specs.Prelude.{List, Contains}
use Rattle.sf_calls.specs.FirstBreach.{Conditions}
use Rattle.sf_calls.specs.Sets.{AreSetsOf}
use Rattle.sf_core.specs.Assertions.Determined.{Determined}
use Rattle.sf_core.specs.Program.Formed.{IsFormed}
use Rattle.sf_core.specs.Program.Syntax.{Assertion}
use Rattle.sf_precise.specs.Annotations.{annotations_in}
use Rattle.sf_precise.specs.Order.{IsOrdering}
use Rattle.sf_rules.specs.Setting.{Setting}
use Rattle.sf_core.specs.Machine.Sound.{IsSound}
use Rattle.sf_rules.specs.Proving.{Proves}
use Rattle.sf_sym.specs.declared.tag.Tag.{Tag}

-- a program that is formed and meets the conditions on variables, whose annotations are determined, and that tags
-- prove, by its own least sets and with its annotations in order, is sound
unfoldable pub ProofsAreSound : Type 0
ProofsAreSound =
    (d : Setting) (tags : List Tag) → IsFormed d.program → Conditions d.program → AreSetsOf d.program d.sets
    → ((a : Assertion) → Contains (annotations_in d.program) a → Determined a.level) → IsOrdering d.ordered
    → Proves d tags → IsSound d.program
