use Rattle.std.proofs.Common.{◌<◌, arith, subst, sym}
use Rattle.std.proofs.lemmas.Result.{IfOk-weaker}
use Rattle.sf_base.specs.declared.limits.TheConstants.{STATE_BYTES}
use Rattle.sf_run.specs.Running.{program_in}
use Rattle.sf_cli.proofs.RunReplies.{fetched-state_file, ran-status}
use Rattle.sf_cli.specs.Checked.Fetched.{Fetched}
use Rattle.sf_words.specs.Words.{Text}
use Rattle.sf_cli.proofs.run.run_state_file.Goals as goal

pub returns-in-Ok-clause-status : goal.returns-in-Ok-clause-status
returns-in-Ok-clause-status g c =
    IfOk-weaker c.answer_to_state.result _ _
    (λ said k. let l : said.status < 7 = ran-status c.args.words.now.kept (program_in c.args.proof.now) c.args.f c.as_slice.result.now
    c.args.words.now.budget.steps c.args.words.now.budget.waits said.text.items said.status k in omega (arith, l))
    c.answer_to_state.ensures

pub returns-in-Ok-clause-answered : goal.returns-in-Ok-clause-answered
returns-in-Ok-clause-answered g c =
    let told = g.S.Shelf.files c.args.shelf.now in
    let name = c.args.words.now.state.now in
    let fetched : Fetched STATE_BYTES told name c.as_slice.result.now =
    subst (λ (z : Text). Fetched STATE_BYTES told name z) (sym c.as_slice.ensures.value) c.in-Ok.ensures.fetched in
    IfOk-weaker c.answer_to_state.result _ _
    (λ said k less. fetched-state_file c.args.words.now.kept told (program_in c.args.proof.now) c.args.f name c.as_slice.result.now
    c.args.words.now.budget.steps c.args.words.now.budget.waits said.text.items said.status fetched k)
    c.answer_to_state.ensures

pub returns-in-Ok-clause-unread : goal.returns-in-Ok-clause-unread
returns-in-Ok-clause-unread g c =
    IfOk-weaker c.answer_to_state.result _ _
    (λ said k seven. let l : said.status < 7 = ran-status c.args.words.now.kept (program_in c.args.proof.now) c.args.f c.as_slice.result.now
    c.args.words.now.budget.steps c.args.words.now.budget.waits said.text.items said.status k in
    absurd (omega (arith, l, seven))) c.answer_to_state.ensures
