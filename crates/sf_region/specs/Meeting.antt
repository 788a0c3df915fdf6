-- Meeting: what a task's tries at regions, and its exits, make of its part, and what its seat has
-- seen of it.
-- Hoare, "Towards a Theory of Parallel Programming" (1972): with r when B do C; O'Hearn (2007) for
-- what crosses.
use Rattle.std.specs.Prelude.{◌≡◌, [], None}
use Rattle.sf_base.specs.declared.ids.ResId.{ResId}
use Rattle.sf_core.specs.Machine.Step.{Event}
use Rattle.sf_core.specs.Program.Syntax.{Program}
use Rattle.sf_part.specs.declared.part.Part.{Part}
use Rattle.sf_part.specs.Given.{Gives, IsContentOf}
use Rattle.sf_part.specs.PartView.{part_of}
use Rattle.sf_part.specs.Steps.{Enters}
use Rattle.sf_part.specs.Timed.{TimedPart, TimedContent}
use Rattle.sf_region.specs.declared.views.View.{View}
use Rattle.sf_region.specs.Plays.{bump, since}

-- the task has entered the region of the resource, with a content that is exactly the resource's
pub record HasEntered (p : Program) (r : ResId) (before after : TimedPart) : Type 0 where
  pub event : Event
  pub content : TimedContent
  pub resource : content.content.resource ≡ r
  pub exactly : IsContentOf p content.content
  pub enters : Enters p event before content after

-- it has left one, and left just what is its resource's
abbrev pub HasLeft : Program → (before after : TimedPart) → Type 0
HasLeft p before after = (event : Event) × (content : TimedContent)
    × Gives p event before content after

-- the seat has seen the part as it now is, with nothing in hand and no children beside it
pub record IsAtRest (v : View) (a : Part) : Type 0 where
  pub hand : v.hand ≡ None
  pub part : v.part ≡ a
  pub kids : v.kids ≡ []

-- it has missed: its part is as it was, the seat has seen it, and the view counts one miss more
-- since the last event
pub record HasMissed (r : ResId) (v : View) (before : Part) (w : View) (after : Part) : Type 0 where
  pub same : part_of after ≡ part_of before
  pub rest : IsAtRest w after
  pub resource : w.missed ≡ r
  pub count : w.misses ≡ bump (since before v)

-- no miss of it counts: it had an event since its last one, or there was none
abbrev pub HasNoMisses : View → Part → Type 0
HasNoMisses v a = since a v ≡ 0
