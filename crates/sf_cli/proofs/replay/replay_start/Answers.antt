use Rattle.std.proofs.Common.{ap, refl, subst, sym, ◌∙◌}
use Rattle.std.proofs.lemmas.Result.{IfOk-weaker}
use Rattle.std.specs.declared.result.Result.TheVariants.{Err}
use Rattle.sf_core.specs.Program.ProgramView.{program_of}
use Rattle.sf_replay.specs.declared.limits.TheConstants.{SCHEDULE_BYTES}
use Rattle.sf_cli.proofs.ReplayReplies.{fetched-schedule_file, replay-answering}
use Rattle.sf_cli.specs.Answer.{read_fault_text}
use Rattle.sf_cli.specs.Checked.Fetched.{Fetched}
use Rattle.sf_cli.specs.Checked.Stages.{fails, says}
use Rattle.sf_words.specs.Words.{Text}
use Rattle.sf_cli.proofs.replay.replay_start.Goals as goal

pub returns-in-Ok-clause-said : goal.returns-in-Ok-clause-said
returns-in-Ok-clause-said g c =
    let told = g.S.Shelf.files c.args.shelf.now in
    let name = c.args.name.now in
    let p = program_of c.args.arranged.now.program in
    let start = c.args.start in
    let out = c.as_slice.result.now in
    let fetched : Fetched SCHEDULE_BYTES told name out =
    subst (λ (z : Text). Fetched SCHEDULE_BYTES told name z) (sym c.as_slice.ensures.value) c.in-Ok.ensures.fetched in
    IfOk-weaker c.answer_to_schedule.result _ _
    (λ said k. says (replay-answering p c.args.f start.fresh start.vars start.heap out said.text.items said.status k)
    (fetched-schedule_file told p c.args.f start.fresh start.vars start.heap name out said.text.items said.status fetched
    k)) c.answer_to_schedule.ensures

pub returns-in-Err-Failed-clause-said : goal.returns-in-Err-Failed-clause-said
returns-in-Err-Failed-clause-said g c =
    IfOk-weaker c.say_of.result _ _
    (λ said k. fails k.1 c.args.name.now refl (c.in-Err-Failed.ensures.failed (ap Err c.in-Err-Failed.field-0-is))
    (k.0 ∙ ap read_fault_text c.as_bytes.ensures.value)) c.say_of.ensures
