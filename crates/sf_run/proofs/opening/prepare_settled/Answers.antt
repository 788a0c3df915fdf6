use Rattle.sf_run.proofs.Tables.{first-prepared}
use Rattle.sf_run.proofs.opening.prepare_settled.Goals as goal

pub returns-clause-prepared : goal.returns-clause-prepared
returns-clause-prepared c = first-prepared c.first_parts_are_whole.ensures c.first_parts_are_safe.ensures
    c.args.p.now.program c.requires.accepted c.args.f c.args.start.fresh c.args.start.vars
    c.args.start.heap c.args.start.parts.items c.args.start.unit c.args.steps c.in_ok-part.part
    c.in_ok-part.contents.items c.requires.starts c.in_ok-part.ensures.starts c.requires.most
    c.requires.settled c.in_ok-part.ensures.of c.in_ok-part.ensures.exactly
    c.in_ok-part.ensures.contents
