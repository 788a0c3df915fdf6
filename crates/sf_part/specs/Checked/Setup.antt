-- What becomes of a part that gives the contents of all resources up.
-- Ordinary: unions of maps.
use Rattle.std.specs.Prelude.{◌≡◌, ◌+◌, ◌++◌, ℕ, [], List, drop, length, map, None}
use Rattle.std.specs.List.{AllByRecursion}
use Rattle.sf_base.specs.HeapStore.{Store}
use Rattle.sf_core.specs.Machine.Config.{Fixed, Frame}
use Rattle.sf_core.specs.Machine.Whole.{running, numbers}
use Rattle.sf_core.specs.Program.Syntax.{Program}
use Rattle.sf_foot.specs.Starting.{HasWidth}
use Rattle.sf_frame.specs.Checked.Frames.{moved}
use Rattle.sf_frame.specs.Checked.Nexts.{frames_with}
use Rattle.sf_frame.specs.Commons.{common_of}
use Rattle.sf_frame.specs.declared.frame.Room.{Room}
use Rattle.sf_frame.specs.declared.stack.Change.TheVariants.{Return}
use Rattle.sf_frame.specs.Frames.{room_of}
use Rattle.sf_part.specs.Checked.Handing.{Hands, HaveStamp, timed_of}
use Rattle.sf_part.specs.declared.content.Content.{Content}
use Rattle.sf_part.specs.declared.part.Part.{Part}
use Rattle.sf_part.specs.Given.{IsContentOf}
use Rattle.sf_part.specs.Of.{frames_in, without}
use Rattle.sf_part.specs.Parts.{entry_of}
use Rattle.sf_part.specs.Stands.{stand_in}
use Rattle.sf_part.specs.Steps.{AreFrom}
use Rattle.sf_part.specs.Timed.{TimedContent, noted}

-- the task returns next from a frame whose slots are those
pub record ReturnsFrom (a : Part) (room : Room) : Type 0 where
  pub fixed : Fixed
  pub below : List Frame
  pub stand : stand_in a.stand ≡ running (frames_with fixed [] below)
  pub room_is : fixed.room ≡ room_of room

-- the part is after that return, without the contents of all resources
pub record IsSettled (p : Program) (number : ℕ) (room : Room) (contents : List Content) (a b : Part)
    : Type 0 where
  pub in_order : AreFrom 0 (timed_of contents)
  pub each : length contents ≡ length p.resources
  pub exactly : AllByRecursion (λ (k : TimedContent). IsContentOf p k.content) (timed_of contents)
  pub stamps : HaveStamp b.clock (timed_of contents)
  pub left : Store
  pub hands : Hands (common_of a.shared).heap (common_of a.shared).store (timed_of contents)
      (common_of b.shared).heap left
  pub store : (common_of b.shared).store ≡ without (room_of room) left
  pub held : (common_of b.shared).held ≡ (λ q. None)
  pub task : b.task ≡ a.task
  pub stand : stand_in b.stand ≡ running (moved Return (frames_in (stand_in a.stand)))
  pub supply : numbers b.supply ≡ drop 1 (numbers a.supply)
  pub clock : b.clock ≡ a.clock + 1
  pub keeps : b.keeps ≡ a.keeps
  pub given : b.given ≡ a.given
  pub blank : b.blank ≡ a.blank
  pub log : map entry_of b.log.items ≡ map entry_of a.log.items
      ++ noted a.keeps (record { stamp = b.clock; task = a.task; number = number })
  pub width : (count : ℕ) → HasWidth count a.shared.heap → HasWidth count b.shared.heap
      × AllByRecursion (λ (k : Content). HasWidth count k.heap) contents
