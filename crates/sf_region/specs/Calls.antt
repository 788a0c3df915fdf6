-- Calls: when a task may call the table, and what it is told.
-- Hoare, "Towards a Theory of Parallel Programming" (1972); O'Hearn (2007) for what crosses.
use Rattle.std.specs.Prelude.{◌≡◌, ◌≢◌, ◌<◌, false, List, [], length}
use Rattle.sf_base.specs.declared.ids.ResId.{ResId}
use Rattle.sf_base.specs.declared.path.Turn.{Turn}
use Rattle.sf_core.specs.declared.assertion.Test.{Test}
use Rattle.sf_core.specs.declared.command.Expr.{Expr}
use Rattle.sf_core.specs.Assertions.Sat.{IsTrueOf}
use Rattle.sf_core.specs.Machine.Config.{Frame, Fixed, runs, evaluate}
use Rattle.sf_core.specs.Machine.Enabled.{HasEnded}
use Rattle.sf_core.specs.Machine.Step.{Event}
use Rattle.sf_core.specs.Machine.Whole.{numbers, running}
use Rattle.sf_core.specs.Program.Syntax.{Program}
use Rattle.sf_frame.specs.Stores.{together}
use Rattle.sf_part.specs.declared.content.Content.{Content}
use Rattle.sf_part.specs.declared.part.Part.{Part}
use Rattle.sf_part.specs.Contents.{IsContentIn, content_of}
use Rattle.sf_part.specs.Guards.{IsAtRegion, StandsAt}
use Rattle.sf_part.specs.PartView.{IsPartOf, part_of}
use Rattle.sf_part.specs.Steps.{Forks, IsChild}
use Rattle.sf_region.specs.declared.entry.Entry.{Entry}
use Rattle.sf_region.specs.declared.entry.Entry.TheVariants.{Entered, Held}
use Rattle.sf_region.specs.declared.views.View.{View}
use Rattle.sf_region.specs.Holdings.{Advance}
use Rattle.sf_region.specs.Marks.{Mark}
use Rattle.sf_region.specs.Plays.{IsFor, IsThere, giving, lost, moved, won}
use Rattle.sf_region.specs.Rule.{holding}
use Rattle.sf_region.specs.Waits.{first_of}

-- the part is reached from the one in the view, by private events, by the entry with a content in
-- hand and by the join of children whose parts are there, and none of these is left then
abbrev pub IsNear : Program → View → Part → Type 0
IsNear p v a = (marks : List Mark) × Advance p (holding v) marks (holding (moved a [] v))

-- MayTry: a task that stands at a region, which it isn't inside of yet, with a unit left for the
-- entry, may try it
pub record MayTry (p : Program) (v : View) (a : Part) (r : ResId) : Type 0 where
  pub resource : r.0 < length p.resources
  pub near : IsNear p v a
  pub stands : IsAtRegion (part_of a).part r
  pub outside : (part_of a).part.holds r ≡ false
  pub unit : numbers (part_of a).part.supply ≢ []

-- the view after a try, and what a content that is got may be relied on for
abbrev pub Tells : Part → ResId → (before after : View) → Entry → Type 0
Tells a r v w (Entered k) = (w ≡ won k (moved a [] v)) × IsFor v.begun (part_of a) r k
Tells a r v w Held = (w ≡ lost r (moved a [] v)) × IsThere v.begun (part_of a)

-- the condition of the region at which the task stands is false of the content
pub record IsRefused (p : Program) (a : Part) (k : Content) : Type 0 where
  pub of : IsPartOf p a
  pub is_in : IsContentIn p k
  pub false_there : (f : Fixed) (test : Test Expr)
      → StandsAt (part_of a).part k.resource f test
      → IsTrueOf (evaluate f.slots
      (together (part_of a).part.store (content_of k).content.store)) test → ⊥

-- MayLeave: a content may be put back after the exit that left it, as it was left; and where there
-- was no event since it was got, so that it is as it was, if the condition is false of it
pub record MayLeave (p : Program) (v : View) (a : Part) (r : ResId) (k : Content) : Type 0 where
  pub resource : k.resource ≡ r
  pub number : r.0 < length p.resources
  pub near : (marks : List Mark) × Advance p (holding v) marks (holding (giving k a v))
  pub refused : a.clock ≡ v.part.clock → IsRefused p a k

-- MaySplit: the task has made a fork, which left it and its two children these parts
pub record MaySplit (p : Program) (v : View) (a one two : Part) : Type 0 where
  pub before : Part
  pub near : IsNear p v before
  pub event : Event
  pub forks : Forks p event (part_of before) (part_of a) (part_of one) (part_of two)

-- MayEnd: a child's task has ended, and its part is reached from the one in its seat's view
pub record MayEnd (p : Program) (v : View) (turn : Turn) (u : View) (one : Part) : Type 0 where
  pub near : IsNear p u one
  pub child : IsChild (part_of v.part).part turn (part_of one).part
  pub ended : (part_of one).part.stand ≡ running []

-- MayClose: the task with which the table began has ended
pub record MayClose (p : Program) (v : View) (a : Part) : Type 0 where
  pub near : IsNear p v a
  pub first : (part_of a).part.task ≡ (first_of v.begun).part.task
  pub frames : List Frame
  pub stand : (part_of a).part.stand ≡ running frames
  pub ended : HasEnded (part_of a).part.task (runs frames)
