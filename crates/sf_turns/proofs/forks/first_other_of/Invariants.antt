use Rattle.sf_turns.specs.Checked.Parting.{IsEntryParted}
use Rattle.sf_turns.proofs.forks.first_other_of.Given as goal

-- the entry's task has gone on, and forked
abbrev pub invariant-loop-number : goal.invariant-loop-number
invariant-loop-number l = IsEntryParted l.at.p.now l.at.f l.at.regions l.at.parted
