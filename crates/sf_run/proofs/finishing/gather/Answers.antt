use Rattle.std.proofs.Common.{◌∷◌, arith, length, List, subst}
use Rattle.std.proofs.lemmas.List.{length-map}
use Rattle.std.specs.Vec.Iter.{into_iter_items}
use Rattle.sf_core.specs.Program.ProgramView.{program_of}
use Rattle.sf_core.specs.Program.View.{resource_of}
use Rattle.sf_frame.specs.Checked.Resources.{counts_of}
use Rattle.sf_part.specs.declared.content.Content.{Content}
use Rattle.sf_run.proofs.Ending.{Gathers, gather-apart, gather-cells, gather-more, gather-next, none-comes}
use Rattle.sf_run.proofs.finishing.gather.Goals.{In-Some}
use Rattle.sf_run.proofs.finishing.gather.Goals as goal

-- what the content in hand, with the others still to come, gathers
gathers : (c : In-Some)
    → Gathers (counts_of c.args.p.now.resources.items) (length (program_of c.args.p.now).fields)
    c.args.contents.items c.args.heap.now c.loop-content.heap
    (c.in-Some.content ∷ into_iter_items c.next.new.self) c.loop-content.rows.items
gathers c = subst (λ (z : List Content). Gathers (counts_of c.args.p.now.resources.items)
    (length (program_of c.args.p.now).fields) c.args.contents.items c.args.heap.now
    c.loop-content.heap z c.loop-content.rows.items) (c.in-Some.ensures.cases).0
    c.loop-content.invariant

pub take_in-requires-clause-resource : goal.take_in-requires-clause-resource
take_in-requires-clause-resource c =
    let counts = counts_of c.args.p.now.resources.items in
    let width = length (program_of c.args.p.now).fields in
    let all = c.args.contents.items in
    let now = c.loop-content.heap in
    let g = gathers (goal.at.take_in-requires-clause-resource c).In-Some in
    let l = (gather-next counts width all c.args.heap.now (program_of c.args.p.now) c.requires.all now
    c.in-Some.content (into_iter_items c.next.new.self) c.loop-content.rows.items g).0 in
    omega (arith, l, length-map c.args.p.now.resources.items resource_of)

pub take_in-requires-clause-of : goal.take_in-requires-clause-of
take_in-requires-clause-of c =
    let counts = counts_of c.args.p.now.resources.items in
    let width = length (program_of c.args.p.now).fields in
    let all = c.args.contents.items in
    let now = c.loop-content.heap in
    let g = gathers (goal.at.take_in-requires-clause-of c).In-Some in
    (gather-next counts width all c.args.heap.now (program_of c.args.p.now) c.requires.all now
    c.in-Some.content (into_iter_items c.next.new.self) c.loop-content.rows.items g).1

pub take_in-requires-clause-apart : goal.take_in-requires-clause-apart
take_in-requires-clause-apart c =
    let counts = counts_of c.args.p.now.resources.items in
    let width = length (program_of c.args.p.now).fields in
    let all = c.args.contents.items in
    let now = c.loop-content.heap in
    let g = gathers (goal.at.take_in-requires-clause-apart c).In-Some in
    gather-apart counts width all c.args.heap.now (c.requires.apart).0 (c.requires.apart).1 now
    c.in-Some.content (into_iter_items c.next.new.self) c.loop-content.rows.items g

pub loop-content-preserved : goal.loop-content-preserved
loop-content-preserved c =
    let counts = counts_of c.args.p.now.resources.items in
    let width = length (program_of c.args.p.now).fields in
    let all = c.args.contents.items in
    let now = c.loop-content.heap in
    let g = gathers (goal.at.loop-content-preserved c).In-Some in
    gather-more counts width all c.args.heap.now now c.take_in.new.heap c.in-Some.content
    (into_iter_items c.next.new.self) c.loop-content.rows.items c.push.new.self.items
    c.in_ok-row.row g c.in_ok-row.ensures.row c.in_ok-row.ensures.heap c.in_ok-row.ensures.wide
    c.in_ok-push.ensures.items

pub returns-clause-heap : goal.returns-clause-heap
returns-clause-heap c =
    let counts = counts_of c.args.p.now.resources.items in
    let width = length (program_of c.args.p.now).fields in
    let all = c.args.contents.items in
    let now = c.loop-content.heap in
    gather-cells counts width all c.args.heap.now now c.loop-content.rows.items
    (subst (λ (z : List Content). Gathers counts width all c.args.heap.now now z
    c.loop-content.rows.items)
    (none-comes c.loop-content.rest c.next.new.self c.next.result c.in_default.not-Some
    c.next.ensures.cases) c.loop-content.invariant)
