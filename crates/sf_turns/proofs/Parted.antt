-- Tasks at a table that fork, their children, and their joins.
-- Names: `EVENT-WHAT`, what is so after the event.
use Rattle.std.specs.Prelude.{◌≡◌}
use Rattle.std.proofs.Common.{ap, subst, ◌∙◌}
use Rattle.sf_base.specs.declared.ids.ProcId.{ProcId}
use Rattle.sf_core.specs.Machine.Step.{Event}
use Rattle.sf_core.specs.Program.ProgramView.{program_of}
use Rattle.sf_part.specs.Checked.LawsOfGoing.{ChildrenGoOn, GoingComposes, GoingKeepsPath, GoingKeepsRunning}
use Rattle.sf_part.specs.Going.{GoesTo, HaveGoneOn}
use Rattle.sf_part.specs.Keeps.{IsWaiting}
use Rattle.sf_part.specs.Lent.{Lends}
use Rattle.sf_part.specs.PartView.{part_of}
use Rattle.sf_part.specs.Timed.{TimedPart}
use Rattle.sf_precise.specs.declared.arranged.Arranged.{Arranged}
use Rattle.sf_region.specs.Meeting.{IsAtRest}
use Rattle.sf_region.specs.Waits.{program_in}
use Rattle.sf_turns.proofs.Seats.{going-again, going-entry, going-nowhere}
use Rattle.sf_turns.specs.Checked.Parting.{HasParted, IsEntryParted, MayJoin}
use Rattle.sf_turns.specs.Checked.Seats.{HasEnded, HasGone, IsAt, IsEntryAt, Seen, Table}
use Rattle.sf_turns.specs.declared.forks.Parted.{Parted}

module _ (a : Arranged) (t : Table) where
  -- a seat at the table of another one
  seat-at : (k l : Seen) → IsAt a t k → l.0.0 ≡ k.0.0 → l.0.1.begun ≡ k.0.1.begun → IsAt a t l
  seat-at k l h table begun = record {
    table = table ∙ h.table;
    begun = begun ∙ h.begun;
    program = ap program_in begun ∙ h.program;
    same = h.same;
  }

  pub fork-parted : (k j w l r : Seen) (event : Event) → HasGone a t k j
      → Lends (program_of a.program) event (part_of j.1) (part_of w.1) (part_of l.1) (part_of r.1)
      → HaveGoneOn (program_of a.program) (part_of j.1) (part_of w.1) (part_of l.1) (part_of r.1)
      → (w.0.0 ≡ j.0.0) × (l.0.0 ≡ j.0.0) × (r.0.0 ≡ j.0.0)
      → (w.0.1.begun ≡ j.0.1.begun) × (l.0.1.begun ≡ j.0.1.begun) × (r.0.1.begun ≡ j.0.1.begun)
      → IsAtRest w.0.1 w.1 → HasParted a t k (record { waits = w; left = l; right = r })
  fork-parted k j w l r event gone lends since tables begun rest = record {
    came = j;
    gone = gone;
    forked = record {
      gone = since;
      seat = seat-at j w gone.now.seat tables.0 begun.0;
      rest = rest;
      left = record {
        seat = seat-at j l gone.now.seat tables.1 begun.1;
        runs = λ waits. subst IsWaiting lends.forks.left_begins.stand waits;
      };
      right = record {
        seat = seat-at j r gone.now.seat tables.2 begun.2;
        runs = λ waits. subst IsWaiting lends.forks.right_begins.stand waits;
      };
    };
  }

  -- both children go on
  pub parted-on : ChildrenGoOn → (k : Seen) (f : Parted) (l r : Seen) → HasParted a t k f
      → HasGone a t f.left l → HasGone a t f.right r
      → HasParted a t k (record { waits = f.waits; left = l; right = r })
  unfolding ChildrenGoOn
  parted-on law k f l r h left right = record {
    came = h.came;
    gone = h.gone;
    forked = record {
      gone = law (program_of a.program) (part_of h.came.1) (part_of f.waits.1) (part_of f.left.1)
          (part_of f.right.1) (part_of l.1) (part_of r.1) h.forked.gone left.goes right.goes;
      seat = h.forked.seat;
      rest = h.forked.rest;
      left = left.now;
      right = right.now;
    };
  }

  pub parted-left : ChildrenGoOn → (k : Seen) (f : Parted) (l : Seen) → HasParted a t k f
      → HasGone a t f.left l → HasParted a t k (record { waits = f.waits; left = l; right = f.right })
  parted-left law k f l h left =
      parted-on law k f l f.right h left (going-nowhere a t f.right h.forked.right)

  pub parted-right : ChildrenGoOn → (k : Seen) (f : Parted) (r : Seen) → HasParted a t k f
      → HasGone a t f.right r → HasParted a t k (record { waits = f.waits; left = f.left; right = r })
  parted-right law k f r h right =
      parted-on law k f f.left r h (going-nowhere a t f.left h.forked.left) right

  -- where both have ended
  pub both-ended : ChildrenGoOn → (f : Parted) (l r : Seen) → HasEnded a t f.left l
      → HasEnded a t f.right r → (k : Seen) → HasParted a t k f
      → MayJoin a t k (record { waits = f.waits; left = l; right = r })
  both-ended law f l r left right k h =
      let g = parted-on law k f l r h left.gone right.gone in
      record {
        came = g.came;
        way = g.gone;
        gone = g.forked.gone;
        seat = g.forked.seat;
        rest = g.forked.rest;
        left = g.forked.left.seat;
        right = g.forked.right.seat;
        left_ended = left.done;
        right_ended = right.done;
      }

  -- by their join the task goes on
  pub join-gone : GoingComposes → GoingKeepsRunning → (f : Parted) (j : Seen)
      → ((before : TimedPart) → HaveGoneOn (program_of a.program) before (part_of f.waits.1)
      (part_of f.left.1) (part_of f.right.1) → GoesTo (program_of a.program) before (part_of j.1))
      → (j.0.0 ≡ f.waits.0.0) × (j.0.1.begun ≡ f.waits.0.1.begun) → (k : Seen) → MayJoin a t k f
      → HasGone a t k j
  unfolding GoingKeepsRunning
  join-gone composes keeps f j on table k h =
      let goes = on (part_of h.came.1) h.gone in
      going-again a t composes k h.came j h.way (record {
        now = record {
          seat = seat-at f.waits j h.seat table.0 table.1;
          runs = keeps (program_of a.program) (part_of h.came.1) (part_of j.1) goes h.way.now.runs;
        };
        goes = goes;
      })

  -- the entry's task, when its children have gone on, and after their join
  pub entry-parted : (f : ProcId) (one two : Parted) → IsEntryParted a f t one
      → ((k : Seen) → HasParted a t k one → HasParted a t k two) → IsEntryParted a f t two
  entry-parted f one two h on = (h.0, h.1, on h.0 h.2)

  pub entry-joined : GoingKeepsPath → (f : ProcId) (one : Parted) (j : Seen) → IsEntryParted a f t one
      → ((k : Seen) → HasParted a t k one → HasGone a t k j) → IsEntryAt a f t j
  entry-joined law f one j h on = going-entry a t law f h.0 j h.1 (on h.0 h.2)
