use Rattle.std.proofs.Common.{map, subst, sym}
use Rattle.std.specs.Prelude.{Bool}
use Rattle.sf_core.specs.Program.ProgramView.{program_of}
use Rattle.sf_part.specs.Contents.{content_of}
use Rattle.sf_part.specs.PartView.{part_of}
use Rattle.sf_run.specs.Checked.Opened.{IsPrepared, IsUnready, told_of}
use Rattle.sf_threads.specs.declared.stop.Stop.{Stop}
use Rattle.sf_run.proofs.Fresh.{fresh-prepared, fresh-start, fresh-stopped}
use Rattle.sf_run.proofs.opening.prepare_fresh.Goals as goal

pub set_up-requires-clause-fresh : goal.set_up-requires-clause-fresh
set_up-requires-clause-fresh g c = λ κs bounds.
    let k = fresh-start c.first_parts_begin_fresh.ensures (program_of c.args.p.now.program) c.args.f
    c.args.start.fresh c.args.start.vars c.args.start.heap c.args.start.parts.items
    c.args.start.unit c.args.steps (part_of c.in-Ok.first.0)
    (map content_of c.in-Ok.first.1.items) c.requires.fresh c.requires.starts
    c.in-Ok.ensures.starts in
    (k.origin, k.begins)

pub returns-in-Ok-set_up-clause-prepared : goal.returns-in-Ok-set_up-clause-prepared
returns-in-Ok-set_up-clause-prepared g c =
    let k = fresh-start c.first_parts_begin_fresh.ensures (program_of c.args.p.now.program) c.args.f
    c.args.start.fresh c.args.start.vars c.args.start.heap c.args.start.parts.items
    c.args.start.unit c.args.steps (part_of c.in-Ok.first.0)
    (map content_of c.in-Ok.first.1.items) c.requires.fresh c.requires.starts
    c.in-Ok.ensures.starts in
    subst (λ (z : Bool). IsPrepared (program_of c.args.p.now.program) c.args.f z c.args.start.vars
    c.args.start.heap c.args.start.unit c.args.steps c.in-Ok-set_up.prepared.0
    c.in-Ok-set_up.prepared.1.items) (sym c.requires.fresh)
    (fresh-prepared c.first_parts_are_whole.ensures c.events_alone_are_steps.ensures
    c.settling_is_a_step.ensures c.held_are_of_the_program.ensures c.running_parts_run.ensures
    c.setting_up_is_told.ensures c.args.p.now.program c.args.f c.args.start.vars c.args.start.heap c.args.start.parts.items
    c.args.start.unit c.args.steps k.with_ k.origin (part_of c.in-Ok.first.0)
    c.in-Ok-set_up.prepared.0 c.in-Ok-set_up.prepared.1.items k.begins k.is
    c.in-Ok-set_up.ensures.ok (c.in-Ok-set_up.ensures.leads k.origin k.begins)
    c.in-Ok-set_up.ensures.keeps c.in-Ok-set_up.ensures.of c.in-Ok-set_up.ensures.contents)

pub returns-clause-stops : goal.returns-clause-stops
returns-clause-stops g c =
    let k = fresh-start c.first_parts_begin_fresh.ensures (program_of c.args.p.now.program) c.args.f
    c.args.start.fresh c.args.start.vars c.args.start.heap c.args.start.parts.items
    c.args.start.unit c.args.steps (part_of c.in-Ok.first.0)
    (map content_of c.in-Ok.first.1.items) c.requires.fresh c.requires.starts
    c.in-Ok.ensures.starts in
    subst (λ (z : Stop). IsUnready (program_of c.args.p.now.program) c.args.f c.args.start.fresh
    c.args.start.vars c.args.start.heap c.args.start.unit c.args.steps z) (sym c.told.ensures)
    (subst (λ (z : Bool). IsUnready (program_of c.args.p.now.program) c.args.f z c.args.start.vars
    c.args.start.heap c.args.start.unit c.args.steps (told_of c.in-Err-set_up.stop))
    (sym c.requires.fresh)
    (fresh-stopped (program_of c.args.p.now.program) c.args.f c.args.start.vars c.args.start.heap
    c.args.start.parts.items c.args.start.unit c.args.steps k.with_ k.origin k.is
    c.in-Err-set_up.stop (c.in-Err-set_up.ensures.err k.origin k.begins)))
