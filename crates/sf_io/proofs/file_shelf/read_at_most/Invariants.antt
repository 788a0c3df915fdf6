use Rattle.sf_io.proofs.Reading.{HasRead}
use Rattle.sf_io.proofs.file_shelf.read_at_most.Given as goal

abbrev pub invariant-loop-left : goal.invariant-loop-left
invariant-loop-left g l =
    HasRead l.most l.left l.initial.out.items l.out.items (g.F.Read.remaining l.initial.file) (g.F.Read.remaining l.file)

abbrev pub decreases-loop-left : goal.decreases-loop-left
decreases-loop-left g l = l.left
