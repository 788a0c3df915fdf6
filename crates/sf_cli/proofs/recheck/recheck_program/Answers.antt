use Rattle.std.proofs.Common.{◌<◌, arith, subst, sym}
use Rattle.std.proofs.lemmas.Result.{IfOk-weaker}
use Rattle.sf_base.specs.declared.limits.TheConstants.{PROOF_BYTES}
use Rattle.sf_core.specs.Program.ProgramView.{program_of}
use Rattle.sf_cli.proofs.Replies.{fetched-proof_file, proof-status}
use Rattle.sf_cli.specs.Checked.Fetched.{Fetched}
use Rattle.sf_words.specs.Words.{Text}
use Rattle.sf_cli.proofs.recheck.recheck_program.Goals as goal

pub returns-in-Ok-clause-status : goal.returns-in-Ok-clause-status
returns-in-Ok-clause-status g c =
    let p = program_of c.args.arranged.now.program in
    IfOk-weaker c.answer_to_proof.result _ _
    (λ said k. let l : said.status < 7 = proof-status p c.as_slice.result.now said.text.items said.status k in
    omega (arith, l)) c.answer_to_proof.ensures

pub returns-in-Ok-clause-answered : goal.returns-in-Ok-clause-answered
returns-in-Ok-clause-answered g c =
    let told = g.S.Shelf.files c.args.shelf.now in
    let p = program_of c.args.arranged.now.program in
    let name = c.args.proof.now in
    let fetched : Fetched PROOF_BYTES told name c.as_slice.result.now =
    subst (λ (z : Text). Fetched PROOF_BYTES told name z) (sym c.as_slice.ensures.value) c.in-Ok.ensures.fetched in
    IfOk-weaker c.answer_to_proof.result _ _
    (λ said k less. fetched-proof_file told p name c.as_slice.result.now said.text.items said.status fetched k)
    c.answer_to_proof.ensures

pub returns-in-Ok-clause-unread : goal.returns-in-Ok-clause-unread
returns-in-Ok-clause-unread g c =
    let p = program_of c.args.arranged.now.program in
    IfOk-weaker c.answer_to_proof.result _ _
    (λ said k seven. let l : said.status < 7 = proof-status p c.as_slice.result.now said.text.items said.status k in
    absurd (omega (arith, l, seven))) c.answer_to_proof.ensures
