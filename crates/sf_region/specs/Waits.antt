-- Waits: what the misses of a task at a region stand for in the list of events.
-- Hoare, "Towards a Theory of Parallel Programming" (1972): with r when B do C.
use Rattle.std.specs.Prelude.{◌≡◌, ◌≢◌, ℕ, ◌<◌, ◌≤◌, List, [], ◌∷◌, map, take, length}
use mathlib.Core.Option.{some}
use lib.ListN.{get_elem?}
use Rattle.sf_base.specs.declared.ids.ResId.{ResId}
use Rattle.sf_core.specs.Machine.Config.{Path, Config}
use Rattle.sf_core.specs.Machine.SpentWaits.{MayMiss}
use Rattle.sf_core.specs.Machine.Whole.{Part, Content, Whole}
use Rattle.sf_core.specs.Program.ProgramView.{program_of}
use Rattle.sf_core.specs.Program.Syntax.{Program}
use Rattle.sf_part.specs.declared.content.Content.{Content as CodeContent}
use Rattle.sf_part.specs.Contents.{content_of}
use Rattle.sf_part.specs.PartView.{part_of}
use Rattle.sf_part.specs.Timed.{TimedPart}
use Rattle.sf_region.specs.declared.views.Begun.{Begun}
use Rattle.sf_region.specs.Marks.{Mark, Arrives}
use Rattle.sf_region.specs.Stamps.{units_of}

-- the program of a table, and the part with which it began
abbrev pub program_in : Begun → Program
program_in b = program_of b.program

abbrev pub first_of : Begun → TimedPart
first_of b = part_of b.part

-- the first part alone
abbrev pub opening_parts : Begun → List Part
opening_parts b = (first_of b).part ∷ []

abbrev pub contents_in : List CodeContent → List Content
contents_in contents = map (λ (k : CodeContent). (content_of k).content) contents

-- the table began at that configuration: the part and the contents are it, taken together
abbrev pub BeganAt : Begun → Config → Type 0
BeganAt b c = Whole (opening_parts b) (contents_in b.contents) c

-- Places: so many places in the list, none before an earlier one, and no event of the task between
-- them or after; at each a try of the task at the region may miss, wherever the table began
pub record Places (b : Begun) (marks : List Mark) (task : Path) (r : ResId) (count : ℕ) : Type 0
  where
    pub place : ℕ → ℕ
    pub order : (j k : ℕ) → j ≤ k → k < count → place j ≤ place k
    pub within : (k : ℕ) → k < count → place k ≤ length marks
    pub quiet : (k j : ℕ) (m : Mark) → k < count → place k ≤ j → get_elem? marks j ≡ some m
        → m.event.task ≢ task
    pub missed : (k : ℕ) → k < count → (c : Config) → BeganAt b c
        → (a : Arrives (program_in b) (opening_parts b) c (take (place k) marks))
        × MayMiss a.config task r

-- Missed: some list of events has such places, and leaves units of those with which the table began
pub record Missed (b : Begun) (task : Path) (r : ResId) (count : ℕ) : Type 0 where
  pub marks : List Mark
  pub places : Places b marks task r count
  pub left : 0 < count → length marks < units_of (first_of b)
