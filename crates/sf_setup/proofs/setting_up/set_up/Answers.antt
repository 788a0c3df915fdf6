use Rattle.sf_core.specs.Program.ProgramView.{program_of}
use Rattle.sf_part.specs.Contents.{content_of}
use Rattle.sf_part.specs.PartView.{part_of}
use Rattle.std.specs.Prelude.{map}
use Rattle.sf_setup.proofs.Meeting.{err-also, ok-also}
use Rattle.sf_setup.proofs.Staying.{come-settling, first-alone, first-sets_up}
use Rattle.sf_setup.proofs.Whole.{up-has, up-keeps, up-stopped, up-stopped_later}
use Rattle.sf_setup.specs.Checked.Laws.{ResourcesAreSetUp}
use Rattle.sf_setup.proofs.setting_up.set_up.Goals as goal

pub run_alone-requires-clause-alone : goal.run_alone-requires-clause-alone
run_alone-requires-clause-alone g c κs within =
    first-alone c.run_laws.ensures (program_of c.args.p.now.program) c.requires.accepted
    c.requires.fresh.0 c.args.part c.requires.fresh.1 c.requires.of c.task-path.ensures.keeps

pub settle-requires-clause-alone : goal.settle-requires-clause-alone
settle-requires-clause-alone g c = c.in-Ok.ensures.come.alone

pub settle-requires-clause-setting_up : goal.settle-requires-clause-setting_up
settle-requires-clause-setting_up g c =
    let p = program_of c.args.p.now.program in
    (come-settling c.run_laws.ensures p c.requires.accepted c.args.part c.in-Ok.last
    (first-sets_up c.run_laws.ensures p c.requires.accepted c.requires.fresh.0
    (part_of c.args.part) c.requires.fresh.1) c.in-Ok.ensures.come).0

pub settle-requires-clause-at : goal.settle-requires-clause-at
settle-requires-clause-at g c =
    let p = program_of c.args.p.now.program in
    (come-settling c.run_laws.ensures p c.requires.accepted c.args.part c.in-Ok.last
    (first-sets_up c.run_laws.ensures p c.requires.accepted c.requires.fresh.0
    (part_of c.args.part) c.requires.fresh.1) c.in-Ok.ensures.come).1

pub returns-clause-ok : goal.returns-clause-ok
returns-clause-ok g c =
    let p = program_of c.args.p.now.program in
    ok-also c.settle.result c.settle.ensures.gives
    (λ t h. up-has p c.args.part c.in-Ok.last (map content_of t.1.items) (part_of t.0)
    c.in-Ok.ensures.come h.0 h.1)

pub returns-clause-keeps : goal.returns-clause-keeps
returns-clause-keeps g c =
    let p = program_of c.args.p.now.program in
    ok-also c.settle.result c.settle.ensures.gives
    (λ t h. up-keeps p c.args.part c.in-Ok.last (map content_of t.1.items) (part_of t.0)
    c.in-Ok.ensures.come h.0 h.1)

pub returns-clause-leads : goal.returns-clause-leads
unfolding ResourcesAreSetUp
returns-clause-leads g c =
    let p = program_of c.args.p.now.program in
    ok-also c.settle.result c.settle.ensures.gives
    (λ t h o x. c.resources_are_set_up.ensures p c.requires.accepted o (part_of c.args.part)
    (part_of t.0) (map content_of t.1.items) x
    (up-has p c.args.part c.in-Ok.last (map content_of t.1.items) (part_of t.0)
    c.in-Ok.ensures.come h.0 h.1))

pub returns-clause-err : goal.returns-clause-err
returns-clause-err g c =
    let p = program_of c.args.p.now.program in
    err-also c.settle.result c.settle.ensures.drained
    (λ stop d o x. up-stopped_later c.drained_tasks_have_spent_steps.ensures p o c.args.part
    c.in-Ok.last stop c.in-Ok.ensures.come x d)

pub returns-in-Err-clause-err : goal.returns-in-Err-clause-err
returns-in-Err-clause-err g c = λ o x.
    up-stopped c.drained_tasks_have_spent_steps.ensures (program_of c.args.p.now.program) o
    (part_of c.args.part) c.in-Err.stop x c.in-Err.ensures.drained
