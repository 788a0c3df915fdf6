use Rattle.sf_witness.proofs.Normality.{all-new, not-new}
use Rattle.sf_witness.proofs.normal.has_own_roots.Goals as goal

pub returns-then-not-branch : goal.returns-then-not-branch
returns-then-not-branch c =
    not-new c.new-seen.result c.args.s.now _ c.new-seen.ensures.empty c.atoms.ensures c.if-not-branch.true
    c.in_ok-note_roots.ensures

pub returns : goal.returns
returns c =
    all-new c.new-seen.result c.args.s.now _ _ c.new-seen.ensures.empty c.atoms.ensures c.taken.ensures c.if-not-branch.false
    c.in_ok-note_roots.ensures c.in_ok-own.ensures
