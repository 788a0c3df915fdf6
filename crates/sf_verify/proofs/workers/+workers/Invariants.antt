use Rattle.std.proofs.Common.{◌+◌, ◌*◌}
use Rattle.sf_verify.proofs.workers.+workers.Given as goal

abbrev pub decreases-call_beside : goal.decreases-call_beside
decreases-call_beside g l = 2 * l.count

abbrev pub decreases-front : goal.decreases-front
decreases-front g l = 2 * l.low + 1

abbrev pub decreases-back : goal.decreases-back
decreases-back g l = 2 * l.high + 1
