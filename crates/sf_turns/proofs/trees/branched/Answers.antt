use Rattle.std.proofs.Common.{sym, subst}
use Rattle.sf_turns.specs.Checked.Trees.{HasGrown}
use Rattle.sf_turns.proofs.trees.branched.Goals as goal

pub returns : goal.returns
returns c = λ a t k h. (
  h.0,
  h.1,
  h.2,
  subst (HasGrown a t h.0) (sym c.in_ok-left.ensures.ok) h.3,
  subst (HasGrown a t h.1) (sym c.in_ok-right.ensures.ok) h.4,
)
