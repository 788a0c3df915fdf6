use Rattle.std.proofs.Common.{◌≡◌, ◌<◌, arith, false, length, subst, sym}
use Rattle.std.proofs.lemmas.Result.{IfOk-weaker}
use Rattle.std.specs.declared.result.Result.TheVariants.{Ok, Err}
use Rattle.std.specs.Prelude.{IfSome, slice_get}
use Rattle.sf_base.proofs.Results.{ok-both}
use Rattle.sf_check.specs.Accepted.{arranged_in}
use Rattle.sf_core.specs.Program.Init.{sets_up}
use Rattle.sf_core.specs.Program.ProgramView.{program_of}
use Rattle.sf_precise.specs.declared.arranged.Arranged.{Arranged}
use Rattle.sf_run.specs.Running.{program_in}
use Rattle.sf_state.specs.Entering.{HoldsNone}
use Rattle.sf_state.specs.Starts.{DecidesStart}
use Rattle.sf_cli.proofs.RunReplies.{entry-there, ran-answer, ran-refused, ran-started}
use Rattle.sf_cli.proofs.Kept.{kept-unfinished}
use Rattle.sf_cli.specs.Journaled.{StateJournal}
use Rattle.sf_cli.specs.Ran.{StateAnswer, no_start}
use Rattle.sf_cli.proofs.run.answer_to_state.Goals as goal

pub read-requires-clause-there : goal.read-requires-clause-there
read-requires-clause-there g c =
    subst (λ (a : Arranged). c.args.f.0 < length a.program.procedures.items) (sym c.arranged-arranged.ensures)
    c.requires.there

pub read-requires-clause-free : goal.read-requires-clause-free
read-requires-clause-free g c =
    subst (λ (a : Arranged). HoldsNone (program_of a.program) c.args.f) (sym c.arranged-arranged.ensures)
    c.requires.free

pub read-requires-clause-other : goal.read-requires-clause-other
read-requires-clause-other g c =
    subst (λ (a : Arranged). sets_up (program_of a.program) c.args.f ≡ false) (sym c.arranged-arranged.ensures)
    c.requires.other

pub answer_to_start-requires-clause-starts : goal.answer_to_start-requires-clause-starts
answer_to_start-requires-clause-starts g c = λ κs b.
    let p = program_in c.args.proof.now in
    let found = entry-there (arranged_in c.args.proof.now) c.args.f c.requires.there in
    let decides = subst (λ (a : Arranged). IfSome (slice_get (program_of a.program).procedures c.args.f.0)
    (λ h. DecidesStart (program_of a.program) c.args.f h c.args.state.now (Ok c.in-Ok.start)))
    c.arranged-arranged.ensures c.in-Ok.ensures in
    (ran-started p c.args.f c.args.state.now c.in-Ok.start found.0 found.1 decides).starts

pub returns-in-Ok : goal.returns-in-Ok
returns-in-Ok g c =
    let p = program_in c.args.proof.now in
    let found = entry-there (arranged_in c.args.proof.now) c.args.f c.requires.there in
    let decides = subst (λ (a : Arranged). IfSome (slice_get (program_of a.program).procedures c.args.f.0)
    (λ h. DecidesStart (program_of a.program) c.args.f h c.args.state.now (Ok c.in-Ok.start)))
    c.arranged-arranged.ensures c.in-Ok.ensures in
    IfOk-weaker c.answer_to_start.result _ _
    (λ said k. ran-answer c.args.words.now.kept p c.args.f found.0 c.args.state.now c.in-Ok.start
    c.args.words.now.budget.steps c.args.words.now.budget.waits said.text.items said.status found.1
    (ran-started p c.args.f c.args.state.now c.in-Ok.start found.0 found.1 decides) k) c.answer_to_start.ensures

pub returns-in-Err : goal.returns-in-Err
returns-in-Err g c =
    let p = program_in c.args.proof.now in
    let found = entry-there (arranged_in c.args.proof.now) c.args.f c.requires.there in
    let decides = subst (λ (a : Arranged). IfSome (slice_get (program_of a.program).procedures c.args.f.0)
    (λ h. DecidesStart (program_of a.program) c.args.f h c.args.state.now (Err c.in-Err.fault)))
    c.arranged-arranged.ensures c.in-Err.ensures in
    let words = c.args.words.now in
    ok-both c.say_no_start.result _ _ _
    (λ said s n. let five = s.1 in
    kept-unfinished words.kept (StateAnswer p c.args.f c.args.state.now words.budget.steps words.budget.waits)
    (StateJournal p c.args.f c.args.state.now words.budget.steps) said.text.items said.status
    (λ z. omega (arith, five, z)) (no_start found.0 c.in-Err.fault found.1
    (ran-refused p c.args.f c.args.state.now c.in-Err.fault found.0 found.1 decides n) s.0 s.1))
    c.say_no_start.ensures.said c.say_no_start.ensures.cause
