use Rattle.sf_turns.specs.Checked.Seats.{IsEntryAt}
use Rattle.sf_part_bench.proofs.running.visits.Given as goal

-- the entry's task runs at the table
abbrev pub invariant-loop-made : goal.invariant-loop-made
invariant-loop-made l = IsEntryAt l.at.p.now l.at.f l.at.regions l.at.task
