use Rattle.sf_core.specs.Program.ProgramView.{program_of}
use Rattle.sf_foot.specs.Starting.{StartsWith}
use Rattle.sf_part.specs.Contents.{content_of}
use Rattle.sf_part.specs.PartView.{part_of}
use Rattle.sf_part.specs.Starts.{Starts}
use Rattle.std.specs.Prelude.{map}
use Rattle.std.proofs.Common.{subst}
use Rattle.sf_core.specs.Program.Syntax.{Program}
use Rattle.sf_region.proofs.Opening.{may-begin}
use Rattle.sf_region.proofs.task.Task.first.Goals as goal

-- src/starting.rt:50:9
pub begin-requires : goal.begin-requires
begin-requires c =
    let p : Program = program_of c.args.p.now.program in
    let e = c.in_ok-part.ensures in
    may-begin c.first_parts_are_whole.ensures c.args.p.now.program c.args.f c.args.start.vars
    c.args.start.heap c.args.start.parts.items c.args.start.unit c.args.steps c.in_ok-part.part
    c.in_ok-part.contents.items
    (subst (λ z. StartsWith p c.args.f z c.args.start.vars c.args.start.heap
    c.args.start.parts.items) c.requires.settled c.requires.starts)
    (subst (λ z. Starts p c.args.f z c.args.start.vars c.args.start.heap c.args.start.unit
    c.args.steps (part_of c.in_ok-part.part) (map content_of c.in_ok-part.contents.items))
    c.requires.settled e.starts)
    e.of e.exactly e.contents
