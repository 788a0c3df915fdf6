use Rattle.std.proofs.Common.{Option, Some, ap, inl, inr, refl, subst, sym, ◌∙◌}
use Rattle.std.proofs.lemmas.Result.{IfOk-weaker}
use Rattle.std.specs.declared.result.Result.TheVariants.{Err}
use Rattle.sf_base.specs.declared.limits.TheConstants.{FILE_BYTES}
use Rattle.sf_io.specs.Shelf.{Files}
use Rattle.sf_cli.proofs.Replies.{reply-unread}
use Rattle.sf_cli.proofs.ReplayReplies.{fetched-comes_by, replay-reply, replay-said}
use Rattle.sf_cli.specs.Answer.{read_fault_text}
use Rattle.sf_cli.specs.Checked.Fetched.{Fetched}
use Rattle.sf_cli.specs.Checked.Stages.{Says}
use Rattle.sf_cli.specs.Replayed.{ComesByBytes, ReplayAnswer}
use Rattle.sf_words.specs.Words.{Text, replay}
use Rattle.sf_cli.proofs.replay.replay_file.Goals as goal

pub returns-in-Ok-clause-said : goal.returns-in-Ok-clause-said
returns-in-Ok-clause-said g c =
    let told = g.S.Shelf.files c.args.shelf.now in
    let words = c.args.words.now in
    let file = c.args.file.now in
    let out = c.as_slice.result.now in
    let mid = g.S.Shelf.faults c.fetch_up_to.new.shelf in
    let after = g.S.Shelf.faults c.replay_bytes.new.shelf in
    let fetched : Fetched FILE_BYTES told file out =
    subst (λ (z : Text). Fetched FILE_BYTES told file z) (sym c.as_slice.ensures.value) c.in-Ok.ensures.fetched in
    IfOk-weaker c.replay_bytes.result _ _
    (λ said k. replay-reply told (g.S.Shelf.faults c.args.shelf.now) mid after file words.procedure.now words.state.now
    words.schedule.now out said.text.items said.status fetched c.fetch_up_to.ensures.counts
    (subst (λ (z : Option Files). Says (ReplayAnswer z out words.procedure.now words.state.now words.schedule.now)
    (ComesByBytes z out words.procedure.now words.state.now words.schedule.now) mid after said.text.items said.status)
    c.fetch_up_to.ensures.files k)) c.replay_bytes.ensures.said

pub returns-in-Ok-clause-status : goal.returns-in-Ok-clause-status
returns-in-Ok-clause-status g c =
    let words = c.args.words.now in
    IfOk-weaker c.replay_bytes.result _ _
    (λ said k. replay-said (g.S.Shelf.files c.args.shelf.now) (g.S.Shelf.faults c.args.shelf.now)
    (g.S.Shelf.faults c.replay_bytes.new.shelf) c.args.file.now words.procedure.now words.state.now words.schedule.now
    said.text.items said.status k) (returns-in-Ok-clause-said g c)

pub returns-in-Ok-clause-others : goal.returns-in-Ok-clause-others
returns-in-Ok-clause-others g c = λ other h.
    let told = g.S.Shelf.files c.args.shelf.now in
    let words = c.args.words.now in
    let file = c.args.file.now in
    let out = c.as_slice.result.now in
    let fetched : Fetched FILE_BYTES told file out =
    subst (λ (z : Text). Fetched FILE_BYTES told file z) (sym c.as_slice.ensures.value) c.in-Ok.ensures.fetched in
    c.replay_bytes.ensures.others other
    (λ e. h (inr (
      fetched.bytes,
      fetched.may_have,
      fetched-comes_by told out fetched.bytes words.procedure.now words.state.now words.schedule.now other fetched.is
          (subst (λ (z : Option Files). ComesByBytes z out words.procedure.now words.state.now words.schedule.now other)
          c.fetch_up_to.ensures.files e),
    )))
    ∙ c.fetch_up_to.ensures.others other (λ e. h (inl e))

pub returns-in-Ok-clause-quiet : goal.returns-in-Ok-clause-quiet
returns-in-Ok-clause-quiet g c =
    IfOk-weaker c.replay_bytes.result _ _ (λ said k answering any. k answering any ∙ c.in-Ok.ensures.ok any)
    c.replay_bytes.ensures.quiet

pub returns-in-Err-Failed-clause-said : goal.returns-in-Err-Failed-clause-said
returns-in-Err-Failed-clause-said g c =
    let words = c.args.words.now in
    IfOk-weaker c.say_of.result _ _
    (λ said k. reply-unread (g.S.Shelf.files c.args.shelf.now) (g.S.Shelf.faults c.args.shelf.now)
    (g.S.Shelf.faults c.fetch_up_to.new.shelf) (Some (replay c.args.file.now words.procedure.now words.state.now
    words.schedule.now)) c.args.file.now said.text.items said.status (inl refl)
    (c.in-Err-Failed.ensures.failed (ap Err c.in-Err-Failed.field-0-is)) (k.0 ∙ ap read_fault_text c.as_bytes.ensures.value)
    k.1) c.say_of.ensures
