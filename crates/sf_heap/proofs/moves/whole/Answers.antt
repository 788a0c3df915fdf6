use Rattle.std.proofs.Common.{◌∙◌, sym, ap, subst}
use Rattle.sf_heap.specs.Checked.Entries.{map_of}
use Rattle.sf_heap.specs.Checked.Trees.{kept, AreKept}
use Rattle.sf_heap.proofs.Forks.{Rises-put, map-put}
use Rattle.sf_heap.proofs.moves.whole.Goals as goal

-- the cell in hand goes to its place
pub returns-in-Fork-clause-rises : goal.returns-in-Fork-clause-rises
returns-in-Fork-clause-rises c =
    Rises-put _ _ _ c.add.ensures (subst (λ h. AreKept h c.args.cells) c.in-Fork.is c.requires).0

pub returns-in-Fork-clause-same : goal.returns-in-Fork-clause-same
returns-in-Fork-clause-same c =
    map-put _ _ _ c.add.ensures ∙ sym (ap (λ h. map_of (kept h c.args.cells)) c.in-Fork.is)
