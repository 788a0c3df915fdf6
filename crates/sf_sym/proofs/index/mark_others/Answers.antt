use Rattle.std.proofs.Common.{sym, subst}
use Rattle.sf_sym.specs.Checked.Keeping.{In}
use Rattle.sf_sym.proofs.Indexed.{on-ok}
use Rattle.sf_sym.proofs.index.mark_others.Goals as goal

pub returns-clause-ok : goal.returns-clause-ok
returns-clause-ok c =
    on-ok c.mark_all_at.result
    (λ all x h t e. all t (subst (In t) (sym c.as_slice.ensures.keys) (c.in_ok-others.ensures x t h e)))
    c.mark_all_at.ensures.ok
