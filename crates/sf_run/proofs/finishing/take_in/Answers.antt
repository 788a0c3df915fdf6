use Rattle.sf_core.specs.Program.ProgramView.{program_of}
use Rattle.sf_frame.specs.Checked.Resources.{counts_of}
use Rattle.sf_frame.specs.Stores.{store_of}
use Rattle.sf_part.specs.Contents.{content_of}
use Rattle.std.specs.Prelude.{length}
use Rattle.sf_run.proofs.Ending.{take-apart, take-row, take-wide}
use Rattle.sf_run.proofs.finishing.take_in.Goals as goal

pub join-requires : goal.join-requires
join-requires c = take-apart c.args.heap.now c.into_parts-store.result.1
    (content_of c.args.content).content.heap c.into_parts-store.ensures.cells c.requires.apart

pub returns-in-Ok-clause-row : goal.returns-in-Ok-clause-row
returns-in-Ok-clause-row c = take-row (store_of c.into_parts-store.result.0)
    (content_of c.args.content).content.store c.resource-r.result c.args.content.resource
    c.variable_count-count.result (counts_of c.args.p.now.resources.items) c.in_ok-row.row.items
    c.into_parts-store.ensures.variables c.resource-r.ensures c.variable_count-count.ensures.count
    c.in_ok-row.ensures

pub returns-in-Ok-clause-wide : goal.returns-in-Ok-clause-wide
returns-in-Ok-clause-wide c = take-wide (length (program_of c.args.p.now).fields)
    c.join.new.self c.args.heap.now c.into_parts-store.result.1 c.in-Ok.ensures.ok c.requires.wide
    (c.into_parts-store.ensures.wide (program_of c.args.p.now) c.requires.of)
