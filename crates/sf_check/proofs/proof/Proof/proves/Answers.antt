use Rattle.std.proofs.Common.{subst}
use Rattle.sf_check.specs.Accepted.{arranged_in, tags_in}
use Rattle.sf_check.specs.Checked.Laws.{ProvenFromTruncation}
use Rattle.sf_check.specs.Proven.{Proven}
use Rattle.sf_check.proofs.proof.Proof.proves.Goals as goal

pub returns : goal.returns
unfolding ProvenFromTruncation
returns c =
    let inside = c.self.inside in
    subst (λ proof. Proven (arranged_in proof) (tags_in proof)) c.self.view_is
    (c.proven_from_truncation.ensures inside.arranged.now inside.tags.items c.self.invariant)
