-- What a proof shows of the bodies of a program: they are safe, for every number of events, from whatever they may
-- begin with.
-- Vafeiadis, "Concurrent Separation Logic and Operational Semantics" (2011): the meaning of a proved triple.
use Rattle.std.specs.Prelude.{List, Contains}
use Rattle.sf_calls.specs.FirstBreach.{Conditions}
use Rattle.sf_calls.specs.Sets.{AreSetsOf}
use Rattle.sf_core.specs.Assertions.Determined.{Determined}
use Rattle.sf_core.specs.Program.Formed.{IsFormed}
use Rattle.sf_core.specs.Program.Syntax.{Assertion, Program}
use Rattle.sf_precise.specs.Annotations.{annotations_in}
use Rattle.sf_precise.specs.Order.{IsOrdering}
use Rattle.sf_rules.specs.Proving.{Proves}
use Rattle.sf_rules.specs.Setting.{Setting}
use Rattle.sf_safe.specs.Checked.Law.{BodiesAreSafe}
use Rattle.sf_safe.specs.Checked.LocalSafe.{BodiesAreLocallySafe}
use Rattle.sf_sym.specs.declared.tag.Tag.{Tag}

-- a program that is formed and meets the conditions on variables, whose annotations are determined, and that tags
-- prove, by its own least sets and with its annotations in order, has that
abbrev pub ProofsShow : (Program → Type 0) → Type 0
ProofsShow P = (d : Setting) (tags : List Tag) → IsFormed d.program → Conditions d.program
    → AreSetsOf d.program d.sets
    → ((a : Assertion) → Contains (annotations_in d.program) a → Determined a.level) → IsOrdering d.ordered
    → Proves d tags → P d.program

-- its bodies are safe as they see themselves
unfoldable pub ProvedBodiesAreLocallySafe : Type 0
ProvedBodiesAreLocallySafe = ProofsShow BodiesAreLocallySafe

-- and as the machine runs them
unfoldable pub ProvedBodiesAreSafe : Type 0
ProvedBodiesAreSafe = ProofsShow BodiesAreSafe
