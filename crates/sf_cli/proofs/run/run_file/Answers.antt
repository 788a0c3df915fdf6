use Rattle.std.proofs.Common.{◌∙◌, Some, ap, subst, sym}
use Rattle.std.proofs.lemmas.Result.{IfOk-weaker}
use Rattle.std.specs.declared.result.Result.TheVariants.{Err}
use Rattle.sf_base.specs.declared.limits.TheConstants.{FILE_BYTES}
use Rattle.sf_cli.proofs.Replies.{reply-unread}
use Rattle.sf_cli.proofs.RunReplies.{reply-ok, reply-reaches}
use Rattle.sf_cli.proofs.Kept.{kept-program}
use Rattle.sf_cli.specs.Answer.{Reaches, read_fault_text}
use Rattle.sf_cli.specs.Checked.Kept.{run_order}
use Rattle.sf_cli.specs.Checked.Fetched.{Fetched}
use Rattle.sf_words.specs.Words.{Text}
use Rattle.sf_cli.proofs.run.run_file.Goals as goal

pub returns-in-Ok-clause-said : goal.returns-in-Ok-clause-said
returns-in-Ok-clause-said g c =
    let told = g.S.Shelf.files c.args.shelf.now in
    let file = c.args.file.now in
    let words = c.args.words.now in
    let fetched : Fetched FILE_BYTES told file c.as_slice.result.now =
    subst (λ (z : Text). Fetched FILE_BYTES told file z) (sym c.as_slice.ensures.value) c.in-Ok.ensures.fetched in
    reply-ok c.run_bytes.result words.kept told (g.S.Shelf.files c.fetch_up_to.new.shelf) c.fetch_up_to.ensures.files
    (g.S.Shelf.faults c.args.shelf.now) (g.S.Shelf.faults c.fetch_up_to.new.shelf)
    (g.S.Shelf.faults c.run_bytes.new.shelf) file words.procedure.now words.state.now c.as_slice.result.now
    words.budget.steps words.budget.waits fetched c.fetch_up_to.ensures.counts c.run_bytes.ensures.status
    c.run_bytes.ensures.answered c.run_bytes.ensures.unread

pub returns-in-Ok-clause-others : goal.returns-in-Ok-clause-others
returns-in-Ok-clause-others g c = λ other h.
    let told = g.S.Shelf.files c.args.shelf.now in
    let file = c.args.file.now in
    let words = c.args.words.now in
    let fetched : Fetched FILE_BYTES told file c.as_slice.result.now =
    subst (λ (z : Text). Fetched FILE_BYTES told file z) (sym c.as_slice.ensures.value) c.in-Ok.ensures.fetched in
    c.run_bytes.ensures.others other
    (λ k. h (reply-reaches words.kept told file words.procedure.now words.state.now c.as_slice.result.now other
    words.budget.steps words.budget.waits fetched k))
    ∙ c.fetch_up_to.ensures.others other
    (λ e. h (subst (λ (z : Text). Reaches told (Some (run_order words.kept file words.procedure.now words.state.now
    words.budget.steps words.budget.waits)) z) (sym e) (kept-program words.kept told file words.procedure.now
    words.state.now words.budget.steps words.budget.waits)))

pub returns-in-Err-Failed-clause-said : goal.returns-in-Err-Failed-clause-said
returns-in-Err-Failed-clause-said g c =
    let words = c.args.words.now in
    IfOk-weaker c.say_of.result _ _
    (λ said k. reply-unread (g.S.Shelf.files c.args.shelf.now) (g.S.Shelf.faults c.args.shelf.now)
    (g.S.Shelf.faults c.fetch_up_to.new.shelf) (Some (run_order words.kept c.args.file.now words.procedure.now
    words.state.now words.budget.steps words.budget.waits)) c.args.file.now said.text.items said.status
    (kept-program words.kept (g.S.Shelf.files c.args.shelf.now) c.args.file.now words.procedure.now words.state.now
    words.budget.steps words.budget.waits)
    (c.in-Err-Failed.ensures.failed (ap Err c.in-Err-Failed.field-0-is)) (k.0 ∙ ap read_fault_text c.as_bytes.ensures.value)
    k.1) c.say_of.ensures

pub returns-in-Ok-clause-quiet : goal.returns-in-Ok-clause-quiet
returns-in-Ok-clause-quiet g c =
    IfOk-weaker c.run_bytes.result _ _ (λ said k less any. k less any ∙ c.in-Ok.ensures.ok any)
    c.run_bytes.ensures.quiet
