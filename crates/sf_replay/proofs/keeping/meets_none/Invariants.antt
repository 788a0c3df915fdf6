use Rattle.std.proofs.Common.{length, map}
use Rattle.sf_replay.specs.Checked.Keeping.{MeetsNone}
use Rattle.sf_replay.specs.Checked.Looks.{seen_of}
use Rattle.sf_replay.proofs.keeping.meets_none.Given as goal

-- where it conflicts with none of those that are left, it does with none of all
abbrev pub invariant-looks : goal.invariant-looks
invariant-looks l =
    MeetsNone (seen_of l.one) (map seen_of l.left) → MeetsNone (seen_of l.one) (map seen_of l.fn.looks)

abbrev pub decreases-looks : goal.decreases-looks
decreases-looks l = length l.left
