use Rattle.std.proofs.Common.{◌≤◌, ◌-◌, length}
use Rattle.sf_base.specs.declared.limits.TheConstants.{FILE_TAGS}
use Rattle.sf_search.specs.Checked.Judging.{Judged}
use Rattle.sf_verify.proofs.verifying.tags_on.Given as goal

abbrev pub invariant-loop-i : goal.invariant-loop-i
invariant-loop-i g l = record {
  judged : Judged g.K.Subject.setting l.spent l.i l.tags.items;
  spent : l.spent ≤ FILE_TAGS;
  within : l.i ≤ length l.arranged.program.procedures.items;
}

abbrev pub decreases-loop-i : goal.decreases-loop-i
decreases-loop-i g l = length l.arranged.program.procedures.items - l.i
