use Rattle.std.proofs.Common.{rules}
use Rattle.sf_consume.proofs.cells.list_head.Goals as goal

pub returns-clause-answers : goal.returns-clause-answers
returns-clause-answers c =
    let linked = c.in_ok-fit-2.ensures.linked c.args.want.now.bindings in
    record { done = search rules; none = tt; kept = tt; kept_want = tt }
