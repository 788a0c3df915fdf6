use Rattle.std.proofs.Common.{◌≡◌, Some, take}
use Rattle.sf_check.specs.Checked.Stands.{stand_of}
use Rattle.sf_check.specs.Checked.Taken.{after}
use Rattle.sf_check.specs.Stand.{start}
use Rattle.sf_check.proofs.proving.take_all.Given as goal

-- the tags so far were taken, and led to this stand
abbrev pub invariant-loop-number : goal.invariant-loop-number
invariant-loop-number g l = after g.d start (take l.number l.tags) ≡ Some (stand_of l.stand)

abbrev pub ghost-is_finished : goal.ghost-is_finished
ghost-is_finished g a = g.d

abbrev pub ghost-take : goal.ghost-take
ghost-take g a = g.d
