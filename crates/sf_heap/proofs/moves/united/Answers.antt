use Rattle.sf_heap.proofs.Splits.{AreApart-swap, IsMerge-swap}
use Rattle.sf_heap.proofs.moves.united.Goals as goal

-- the other way round
pub poured-requires-clause-apart : goal.poured-requires-clause-apart
poured-requires-clause-apart c = AreApart-swap _ _ c.requires.apart

pub returns-then-pours_first : goal.returns-then-pours_first
returns-then-pours_first c = IsMerge-swap _ _ _ c.requires.apart c.poured.ensures
