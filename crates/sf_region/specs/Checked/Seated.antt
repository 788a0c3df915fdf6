-- Seated: what a task keeps of its part and its seat.
-- Ordinary: what the calls of the table ask, in one place.
use Rattle.sf_part.specs.declared.part.Part.{Part}
use Rattle.sf_part.specs.PartView.{IsPartOf}
use Rattle.sf_region.specs.Calls.{IsNear}
use Rattle.sf_region.specs.declared.views.View.{View}
use Rattle.sf_region.specs.Waits.{program_in}

-- the part is of the program with which the table began, and it is reached from the one that the
-- seat saw last
pub record IsSeated (v : View) (a : Part) : Type 0 where
  pub of : IsPartOf (program_in v.begun) a
  pub near : IsNear (program_in v.begun) v a
