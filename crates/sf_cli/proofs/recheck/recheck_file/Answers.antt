use Rattle.std.proofs.Common.{Some, ap, inl, refl, subst, sym, ◌∙◌}
use Rattle.std.proofs.lemmas.Result.{IfOk-weaker}
use Rattle.std.specs.declared.result.Result.TheVariants.{Err}
use Rattle.sf_base.specs.declared.limits.TheConstants.{FILE_BYTES}
use Rattle.sf_cli.proofs.Replies.{ok-reply, reaches-proof, reply-unread}
use Rattle.sf_cli.specs.Answer.{read_fault_text}
use Rattle.sf_cli.specs.Checked.Fetched.{Fetched}
use Rattle.sf_words.specs.Words.{Text, recheck}
use Rattle.sf_cli.proofs.recheck.recheck_file.Goals as goal

pub returns-in-Ok-clause-said : goal.returns-in-Ok-clause-said
returns-in-Ok-clause-said g c =
    let told = g.S.Shelf.files c.args.shelf.now in
    let file = c.args.file.now in
    let fetched : Fetched FILE_BYTES told file c.as_slice.result.now =
    subst (λ (z : Text). Fetched FILE_BYTES told file z) (sym c.as_slice.ensures.value) c.in-Ok.ensures.fetched in
    ok-reply c.recheck_bytes.result told (g.S.Shelf.files c.fetch_up_to.new.shelf) c.fetch_up_to.ensures.files
    (g.S.Shelf.faults c.args.shelf.now) (g.S.Shelf.faults c.fetch_up_to.new.shelf)
    (g.S.Shelf.faults c.recheck_bytes.new.shelf) file c.args.proof.now c.as_slice.result.now fetched
    c.fetch_up_to.ensures.counts c.recheck_bytes.ensures.status c.recheck_bytes.ensures.answered
    c.recheck_bytes.ensures.unread

pub returns-in-Ok-clause-others : goal.returns-in-Ok-clause-others
returns-in-Ok-clause-others g c = λ other h.
    let told = g.S.Shelf.files c.args.shelf.now in
    let file = c.args.file.now in
    let fetched : Fetched FILE_BYTES told file c.as_slice.result.now =
    subst (λ (z : Text). Fetched FILE_BYTES told file z) (sym c.as_slice.ensures.value) c.in-Ok.ensures.fetched in
    c.recheck_bytes.ensures.others other
    (λ k. h (reaches-proof told file c.args.proof.now c.as_slice.result.now other fetched k))
    ∙ c.fetch_up_to.ensures.others other (λ e. h (inl e))

pub returns-in-Err-Failed-clause-said : goal.returns-in-Err-Failed-clause-said
returns-in-Err-Failed-clause-said g c =
    IfOk-weaker c.say_of.result _ _
    (λ said k. reply-unread (g.S.Shelf.files c.args.shelf.now) (g.S.Shelf.faults c.args.shelf.now)
    (g.S.Shelf.faults c.fetch_up_to.new.shelf) (Some (recheck c.args.file.now c.args.proof.now)) c.args.file.now
    said.text.items said.status (inl refl) (c.in-Err-Failed.ensures.failed (ap Err c.in-Err-Failed.field-0-is)) (k.0 ∙ ap read_fault_text c.as_bytes.ensures.value) k.1) c.say_of.ensures

pub returns-in-Ok-clause-quiet : goal.returns-in-Ok-clause-quiet
returns-in-Ok-clause-quiet g c =
    IfOk-weaker c.recheck_bytes.result _ _ (λ said k less any. k less any ∙ c.in-Ok.ensures.ok any)
    c.recheck_bytes.ensures.quiet
