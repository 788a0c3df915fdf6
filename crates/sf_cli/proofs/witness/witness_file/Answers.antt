use Rattle.std.proofs.Common.{Some, ap, inl, refl, subst, sym, ◌∙◌}
use Rattle.std.proofs.lemmas.Result.{IfOk-weaker}
use Rattle.std.specs.declared.result.Result.TheVariants.{Err}
use Rattle.sf_base.specs.declared.limits.TheConstants.{FILE_BYTES}
use Rattle.sf_cli.proofs.Witnesses.{witness-reply, witness-status}
use Rattle.sf_cli.proofs.Replies.{reply-unread}
use Rattle.sf_cli.specs.Answer.{read_fault_text}
use Rattle.sf_cli.specs.Checked.Fetched.{Fetched}
use Rattle.sf_words.specs.Words.{Text, witness}
use Rattle.sf_cli.proofs.witness.witness_file.Goals as goal

pub returns-in-Ok-clause-status : goal.returns-in-Ok-clause-status
returns-in-Ok-clause-status g c =
    IfOk-weaker c.answer_to_bytes.result _ _
    (λ said k. inl (witness-status c.as_slice.result.now said.text.items said.status k)) c.answer_to_bytes.ensures

pub returns-in-Ok-clause-said : goal.returns-in-Ok-clause-said
returns-in-Ok-clause-said g c =
    let told = g.S.Shelf.files c.args.shelf.now in
    let file = c.args.file.now in
    let fetched : Fetched FILE_BYTES told file c.as_slice.result.now =
    subst (λ (z : Text). Fetched FILE_BYTES told file z) (sym c.as_slice.ensures.value) c.in-Ok.ensures.fetched in
    IfOk-weaker c.answer_to_bytes.result _ _
    (λ said k. witness-reply told (g.S.Shelf.faults c.args.shelf.now) (g.S.Shelf.faults c.fetch_up_to.new.shelf) file
    c.as_slice.result.now said.text.items said.status fetched k) c.answer_to_bytes.ensures

pub returns-in-Err-Failed-clause-said : goal.returns-in-Err-Failed-clause-said
returns-in-Err-Failed-clause-said g c =
    IfOk-weaker c.say_of.result _ _
    (λ said k. reply-unread (g.S.Shelf.files c.args.shelf.now) (g.S.Shelf.faults c.args.shelf.now)
    (g.S.Shelf.faults c.fetch_up_to.new.shelf) (Some (witness c.args.file.now)) c.args.file.now said.text.items
    said.status refl (c.in-Err-Failed.ensures.failed (ap Err c.in-Err-Failed.field-0-is))
    (k.0 ∙ ap read_fault_text c.as_bytes.ensures.value) k.1) c.say_of.ensures
