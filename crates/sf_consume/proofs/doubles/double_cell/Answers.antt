use Rattle.std.proofs.Common.{rules}
use Rattle.sf_consume.proofs.doubles.double_cell.Goals as goal

pub returns-in_default-fit_known-clause-linked : goal.returns-in_default-fit_known-clause-linked
returns-in_default-fit_known-clause-linked c =
    let known = c.in_default-fit_known.ensures.fits c.args.bindings.now in
    search rules

pub returns-clause-linked : goal.returns-clause-linked
returns-clause-linked c =
    let known = c.in-Some-fit_known.ensures.fits c.args.bindings.now in
    let linked = c.in_ok-link.ensures.linked c.args.bindings.now in
    search rules
