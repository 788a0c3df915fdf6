use Rattle.std.proofs.Common.{[], ◌≡◌, ◌∙◌, ap, arith, sym}
use Rattle.std.proofs.lemmas.List.{length-map}
use Rattle.std.proofs.lemmas.Option.{slice_get_within}
use Rattle.sf_core.specs.Program.ProgramView.{program_of}
use Rattle.sf_core.specs.Program.Syntax.{Program}
use Rattle.sf_core.specs.Program.View.{procedure_of}
use Rattle.sf_part.specs.Checked.LawsOfGoing.{GoingKeepsPath}
use Rattle.sf_part.specs.declared.part.Part.{Part}
use Rattle.sf_part.specs.Going.{GoesTo}
use Rattle.sf_part.specs.PartView.{part_of}
use Rattle.sf_run.proofs.Alone.{alone-ends}
use Rattle.sf_run.proofs.Playing.{play-closed, play-logged}
use Rattle.sf_run.proofs.Stops.{stop-alone, stop-is, unready-alone}
use Rattle.sf_run.proofs.running.run_accepted.Goals as goal

-- the task that began at the root stands there at its end
entry-there : {first opened : Part} → GoingKeepsPath → (p : Program) (last : Part)
    → first ≡ opened → (part_of first).part.task ≡ []
    → GoesTo p (part_of opened) (part_of last) → (part_of last).part.task ≡ []
unfolding GoingKeepsPath
entry-there {first} {opened} keeps p last same root goes =
    keeps p (part_of opened) (part_of last) goes
    ∙ (ap (λ (z : Part). (part_of z).part.task) (sym same) ∙ root)

pub returns-in-Err-clause-stops_alone : goal.returns-in-Err-clause-stops_alone
returns-in-Err-clause-stops_alone g c = λ n. unready-alone (program_of c.args.p.now.program) c.args.f
    c.args.start.fresh c.args.start.vars c.args.start.heap c.args.start.parts.items
    c.args.start.unit c.args.budget n c.requires.starts c.in-Err.stop c.in-Err.ensures.stops

pub returns-in-Err-run_tasks-clause-stops : goal.returns-in-Err-run_tasks-clause-stops
returns-in-Err-run_tasks-clause-stops g c = stop-is (program_of c.args.p.now.program) c.args.f
    c.args.start.fresh c.args.start.vars c.args.start.heap c.args.start.unit c.args.budget
    c.in-Ok.opened.0.1 c.in-Ok.ensures.opened c.requires.waits
    c.drained_tasks_have_spent_steps.ensures c.in-Err-run_tasks.stop
    c.in-Err-run_tasks.ensures.says c.in-Err-run_tasks.ensures.places

pub returns-in-Err-run_tasks-clause-stops_alone : goal.returns-in-Err-run_tasks-clause-stops_alone
returns-in-Err-run_tasks-clause-stops_alone g c = λ n. stop-alone (program_of c.args.p.now.program)
    c.args.f c.args.start.fresh c.args.start.vars c.args.start.heap c.args.start.unit
    c.args.budget c.in-Ok.opened.0.1 c.in-Ok.ensures.opened c.requires.waits
    c.args.start.parts.items n c.requires.starts c.args.p.now.program.formed
    (c.requires.accepted).conditions c.drained_tasks_have_spent_steps.ensures
    c.in-Err-run_tasks.stop c.in-Err-run_tasks.ensures.says c.in-Err-run_tasks.ensures.places

pub close-requires-clause-procedure : goal.close-requires-clause-procedure
close-requires-clause-procedure g c =
    let below = slice_get_within (program_of c.args.p.now.program).procedures c.args.f.0
    (c.requires.starts).procedure (c.requires.starts).there in
    omega (arith, below, length-map c.args.p.now.program.procedures.items procedure_of)

pub close-requires-clause-entry : goal.close-requires-clause-entry
close-requires-clause-entry g c =
    entry-there c.going_keeps_path.ensures (program_of c.args.p.now.program)
    c.in-Ok-run_tasks.last.1 c.in-Ok.ensures.first ((c.in-Ok.ensures.opened).prepared).task
    (c.in-Ok-run_tasks.ensures.ended).goes

pub returns-in-Ok-close-clause-ends : goal.returns-in-Ok-close-clause-ends
returns-in-Ok-close-clause-ends g c =
    let entry = entry-there c.going_keeps_path.ensures (program_of c.args.p.now.program)
    c.in-Ok-run_tasks.last.1 c.in-Ok.ensures.first ((c.in-Ok.ensures.opened).prepared).task
    (c.in-Ok-run_tasks.ensures.ended).goes in
    play-closed c.running_parts_run.ensures (program_of c.args.p.now.program) c.args.f
    c.args.start.fresh c.args.start.vars c.args.start.heap c.args.start.unit
    c.args.budget.steps c.in-Ok.opened.0.1 c.in-Ok-run_tasks.last.0.1.begun c.in-Ok.ensures.opened
    (part_of c.in-Ok-run_tasks.last.1) c.in-Ok-close.ended.0 c.in-Ok-close.ended.2
    ((c.in-Ok-run_tasks.ensures.ended).running).begun c.in-Ok-close.ensures.closed
    (c.in-Ok-run_tasks.ensures.ended).done entry

pub returns-in-Ok-close-clause-ends_alone : goal.returns-in-Ok-close-clause-ends_alone
returns-in-Ok-close-clause-ends_alone g c = λ n.
    let entry = entry-there c.going_keeps_path.ensures (program_of c.args.p.now.program)
    c.in-Ok-run_tasks.last.1 c.in-Ok.ensures.first ((c.in-Ok.ensures.opened).prepared).task
    (c.in-Ok-run_tasks.ensures.ended).goes in
    alone-ends (program_of c.args.p.now.program) c.args.f
    c.args.start.fresh c.args.start.vars c.args.start.heap c.args.start.parts.items
    c.args.start.unit c.args.budget.steps n c.requires.starts c.in-Ok-close.ended.0
    (play-closed c.running_parts_run.ensures (program_of c.args.p.now.program) c.args.f
    c.args.start.fresh c.args.start.vars c.args.start.heap c.args.start.unit
    c.args.budget.steps c.in-Ok.opened.0.1 c.in-Ok-run_tasks.last.0.1.begun c.in-Ok.ensures.opened
    (part_of c.in-Ok-run_tasks.last.1) c.in-Ok-close.ended.0 c.in-Ok-close.ended.2
    ((c.in-Ok-run_tasks.ensures.ended).running).begun c.in-Ok-close.ensures.closed
    (c.in-Ok-run_tasks.ensures.ended).done entry)

pub returns-in-Ok-close-clause-log : goal.returns-in-Ok-close-clause-log
returns-in-Ok-close-clause-log g c = λ kept.
    let entry = entry-there c.going_keeps_path.ensures (program_of c.args.p.now.program)
    c.in-Ok-run_tasks.last.1 c.in-Ok.ensures.first ((c.in-Ok.ensures.opened).prepared).task
    (c.in-Ok-run_tasks.ensures.ended).goes in
    play-logged c.running_parts_run.ensures c.tables_go_on_with_logs.ensures (program_of c.args.p.now.program) c.args.f
    c.args.start.fresh c.args.start.vars c.args.start.heap c.args.start.unit
    c.args.budget.steps c.in-Ok.opened.0.1 c.in-Ok-run_tasks.last.0.1.begun c.in-Ok.ensures.opened
    (part_of c.in-Ok-run_tasks.last.1) c.in-Ok-close.ended.0 c.in-Ok-close.ended.2
    ((c.in-Ok-run_tasks.ensures.ended).running).begun c.in-Ok-close.ensures.closed
    (c.in-Ok-run_tasks.ensures.ended).done entry (c.in-Ok.ensures.keeps ∙ kept)
