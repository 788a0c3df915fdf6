use Rattle.sf_run.proofs.Tables.{begin-may, begin-running}
use Rattle.sf_run.proofs.opening.open.Goals as goal

pub begin-requires : goal.begin-requires
begin-requires g c = begin-may c.args.p.now.program c.args.f c.args.start.fresh c.args.start.vars
    c.args.start.heap c.args.start.unit c.args.steps c.in-Ok.prepared.0 c.in-Ok.prepared.1.items
    c.in-Ok.ensures.prepared

pub returns-in-Ok-begin-clause-running : goal.returns-in-Ok-begin-clause-running
returns-in-Ok-begin-clause-running g c = begin-running c.args.p.now.program c.args.f
    c.args.start.fresh c.args.start.vars c.args.start.heap c.args.start.unit c.args.steps
    c.in-Ok.prepared.0 c.in-Ok.prepared.1.items c.in-Ok-begin.opened.0 c.in-Ok-begin.opened.1
    c.in-Ok.ensures.prepared (c.in-Ok-begin.ensures.table).0 (c.in-Ok-begin.ensures.table).1
    c.in-Ok-begin.ensures.view c.in-Ok-begin.ensures.part
