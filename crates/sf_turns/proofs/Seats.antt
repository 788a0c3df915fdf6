-- Tasks at a table that go on.
-- Names: `EVENT-WHAT`, what is so after the event.
use Rattle.std.proofs.Common.{refl, ◌∙◌}
use Rattle.sf_base.specs.declared.ids.ProcId.{ProcId}
use Rattle.sf_core.specs.Program.ProgramView.{program_of}
use Rattle.sf_part.specs.Checked.LawsOfGoing.{GoingComposes, GoingKeepsPath}
use Rattle.sf_part.specs.Going.{GoesTo}
use Rattle.sf_part.specs.PartView.{part_of}
use Rattle.sf_precise.specs.declared.arranged.Arranged.{Arranged}
use Rattle.sf_turns.specs.Checked.Seats.{HasGone, IsEntryAt, RunsAt, Seen, Table}

module _ (a : Arranged) (t : Table) where
  pub going-again : GoingComposes → (k l m : Seen) → HasGone a t k l → HasGone a t l m
      → HasGone a t k m
  unfolding GoingComposes
  going-again law k l m g h = record {
    now = h.now;
    goes = law (program_of a.program) (part_of k.1) (part_of l.1) (part_of m.1) g.goes h.goes;
  }

  pub going-nowhere : (k : Seen) → RunsAt a t k → HasGone a t k k
  going-nowhere k h = record { now = h; goes = GoesTo.stays refl }

  pub going-entry : GoingKeepsPath → (f : ProcId) (k l : Seen) → IsEntryAt a f t k
      → HasGone a t k l → IsEntryAt a f t l
  unfolding GoingKeepsPath
  going-entry law f k l h g = record {
    run = h.run;
    runs = g.now;
    entry = law (program_of a.program) (part_of k.1) (part_of l.1) g.goes ∙ h.entry;
  }
