use Rattle.std.proofs.Common.{Option, ap, inl, inr, refl, subst, sym, ◌∙◌}
use Rattle.std.proofs.lemmas.Result.{IfOk-weaker}
use Rattle.std.specs.declared.result.Result.TheVariants.{Err}
use Rattle.sf_base.specs.declared.limits.TheConstants.{STATE_BYTES}
use Rattle.sf_core.specs.Program.ProgramView.{program_of}
use Rattle.sf_io.specs.Shelf.{Files}
use Rattle.sf_cli.proofs.ReplayReplies.{fetched-begun, fetched-comes, replay-later}
use Rattle.sf_cli.specs.Answer.{read_fault_text}
use Rattle.sf_cli.specs.Checked.Fetched.{Fetched}
use Rattle.sf_cli.specs.Checked.Stages.{fails}
use Rattle.sf_cli.specs.Replayed.{BegunAnswer, ComesByEntry, ComesByState, StateFileAnswer}
use Rattle.sf_words.specs.Words.{Text}
use Rattle.sf_cli.proofs.replay.replay_entry.Goals as goal

pub returns-in-Ok-clause-said : goal.returns-in-Ok-clause-said
returns-in-Ok-clause-said g c =
    let told = g.S.Shelf.files c.args.shelf.now in
    let now = g.S.Shelf.files c.fetch_up_to.new.shelf in
    let p = program_of c.args.arranged.now.program in
    let f = c.args.f in
    let state = c.args.words.now.state.now in
    let name = c.args.words.now.schedule.now in
    let out = c.as_slice.result.now in
    let fetched : Fetched STATE_BYTES told state out =
    subst (λ (z : Text). Fetched STATE_BYTES told state z) (sym c.as_slice.ensures.value) c.in-Ok.ensures.fetched in
    IfOk-weaker c.replay_state.result _ _
    (λ said k. replay-later (BegunAnswer now p f out name) (StateFileAnswer told p f state name)
    (ComesByState p f out name) (ComesByEntry told p f state name) (g.S.Shelf.faults c.args.shelf.now)
    (g.S.Shelf.faults c.fetch_up_to.new.shelf) (g.S.Shelf.faults c.replay_state.new.shelf) said.text.items said.status
    c.fetch_up_to.ensures.counts
    (λ a. (
      fetched.bytes,
      fetched.may_have,
      fetched-begun told p f out fetched.bytes name said.text.items said.status fetched.is
          (subst (λ (z : Option Files). BegunAnswer z p f out name said.text.items said.status)
          c.fetch_up_to.ensures.files a),
    ))
    (λ other e. inr (fetched.bytes, fetched.may_have, fetched-comes p f out fetched.bytes name other fetched.is e)) k)
    c.replay_state.ensures.said

pub returns-in-Ok-clause-others : goal.returns-in-Ok-clause-others
returns-in-Ok-clause-others g c = λ other h.
    let told = g.S.Shelf.files c.args.shelf.now in
    let p = program_of c.args.arranged.now.program in
    let state = c.args.words.now.state.now in
    let out = c.as_slice.result.now in
    let fetched : Fetched STATE_BYTES told state out =
    subst (λ (z : Text). Fetched STATE_BYTES told state z) (sym c.as_slice.ensures.value) c.in-Ok.ensures.fetched in
    c.replay_state.ensures.others other
    (λ e. h (inr (
      fetched.bytes,
      fetched.may_have,
      fetched-comes p c.args.f out fetched.bytes c.args.words.now.schedule.now other fetched.is e,
    )))
    ∙ c.fetch_up_to.ensures.others other (λ e. h (inl e))

pub returns-in-Ok-clause-quiet : goal.returns-in-Ok-clause-quiet
returns-in-Ok-clause-quiet g c =
    IfOk-weaker c.replay_state.result _ _ (λ said k answering any. k answering any ∙ c.in-Ok.ensures.ok any)
    c.replay_state.ensures.quiet

pub returns-in-Err-Failed-clause-said : goal.returns-in-Err-Failed-clause-said
returns-in-Err-Failed-clause-said g c =
    IfOk-weaker c.say_of.result _ _
    (λ said k. fails k.1 c.args.words.now.state.now (inl refl)
    (c.in-Err-Failed.ensures.failed (ap Err c.in-Err-Failed.field-0-is))
    (k.0 ∙ ap read_fault_text c.as_bytes.ensures.value)) c.say_of.ensures
