use Rattle.std.proofs.Common.{◌≡◌, ◌<◌, ◌⊎◌, arith, length, subst}
use Rattle.std.proofs.lemmas.Result.{IfOk-weaker}
use Rattle.sf_base.proofs.Results.{ok-both}
use Rattle.sf_core.specs.Program.ProgramView.{program_of}
use Rattle.sf_precise.specs.declared.arranged.Arranged.{Arranged}
use Rattle.sf_run.specs.Running.{program_in}
use Rattle.sf_state.specs.Entering.{IsEntry, IsEntryFault}
use Rattle.sf_state.specs.declared.fault.StartFault.TheVariants as fault
use Rattle.sf_cli.proofs.Kept.{kept-unfinished}
use Rattle.sf_cli.proofs.RunReplies.{entry-refused, entry-run, proved-entered}
use Rattle.sf_cli.specs.Answer.{IsRun, RunFileAnswer, RunFileJournal, no_entry}
use Rattle.sf_cli.proofs.run.run_proved.Goals as goal

pub run_state_file-requires-clause-there : goal.run_state_file-requires-clause-there
run_state_file-requires-clause-there g c = λ κs b.
    subst (λ (a : Arranged). c.in-Ok.f.0 < length a.program.procedures.items) c.arranged-arranged.ensures
    c.in-Ok.ensures.within

pub run_state_file-requires-clause-free : goal.run_state_file-requires-clause-free
run_state_file-requires-clause-free g c = λ κs b.
    (subst (λ (a : Arranged). IsEntry (program_of a.program) c.args.words.now.procedure.now c.in-Ok.f)
    c.arranged-arranged.ensures c.in-Ok.ensures.decides.found).free

pub run_state_file-requires-clause-other : goal.run_state_file-requires-clause-other
run_state_file-requires-clause-other g c = λ κs b.
    (subst (λ (a : Arranged). IsEntry (program_of a.program) c.args.words.now.procedure.now c.in-Ok.f)
    c.arranged-arranged.ensures c.in-Ok.ensures.decides.found).other

pub returns-in-Ok-clause-answered : goal.returns-in-Ok-clause-answered
returns-in-Ok-clause-answered g c =
    let run : IsRun (program_in c.args.proof.now) c.args.words.now.procedure.now c.in-Ok.f =
    entry-run _ _ _ _ c.arranged-arranged.ensures c.requires.proved c.in-Ok.ensures.decides.found in
    IfOk-weaker c.run_state_file.result _ _
    (λ said k less. let (given, has, a) = k less in
    proved-entered c.args.words.now.kept (g.S.Shelf.files c.args.shelf.now) (program_in c.args.proof.now)
    c.args.words.now.procedure.now c.args.words.now.state.now given said.text.items c.args.words.now.budget.steps
    c.args.words.now.budget.waits said.status c.in-Ok.f run has a) c.run_state_file.ensures.answered

pub returns-in-Ok-clause-unread : goal.returns-in-Ok-clause-unread
returns-in-Ok-clause-unread g c =
    let run : IsRun (program_in c.args.proof.now) c.args.words.now.procedure.now c.in-Ok.f =
    entry-run _ _ _ _ c.arranged-arranged.ensures c.requires.proved c.in-Ok.ensures.decides.found in
    IfOk-weaker c.run_state_file.result _ _
    (λ said k seven. let u = k seven in ((c.in-Ok.f, run), u.0, u.1)) c.run_state_file.ensures.unread

pub returns-in-Ok-clause-others : goal.returns-in-Ok-clause-others
returns-in-Ok-clause-others g c = λ other h.
    let run : IsRun (program_in c.args.proof.now) c.args.words.now.procedure.now c.in-Ok.f =
    entry-run _ _ _ _ c.arranged-arranged.ensures c.requires.proved c.in-Ok.ensures.decides.found in
    c.run_state_file.ensures.others other (λ e. h (e, (c.in-Ok.f, run)))

pub returns-in-Err-clause-answered : goal.returns-in-Err-clause-answered
returns-in-Err-clause-answered g c =
    let p = program_in c.args.proof.now in
    let name = c.args.words.now.procedure.now in
    let refused = subst (λ (a : Arranged). (c.in-Err.fault ≡ fault.OutOfMemory)
    ⊎ IsEntryFault (program_of a.program) name c.in-Err.fault) c.arranged-arranged.ensures
    c.in-Err.ensures.decides.refused in
    let words = c.args.words.now in
    let told = g.S.Shelf.files c.args.shelf.now in
    ok-both c.say_no_start.result _ _ _
    (λ said s n less. let five = s.1 in
    kept-unfinished words.kept (RunFileAnswer told p name words.state.now words.budget.steps words.budget.waits)
    (RunFileJournal told p name words.state.now words.budget.steps) said.text.items said.status
    (λ z. omega (arith, five, z)) (no_entry c.in-Err.fault c.requires.proved
    (entry-refused (IsEntryFault p name) c.in-Err.fault refused n) s.0 s.1)) c.say_no_start.ensures.said
    c.say_no_start.ensures.cause
