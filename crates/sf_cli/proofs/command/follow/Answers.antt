use Rattle.std.proofs.lemmas.Result.{IfOk-weaker}
use Rattle.sf_base.proofs.Results.{ok-both}
use Rattle.sf_cli.proofs.Complete.{answering-small, said-small}
use Rattle.sf_cli.proofs.DemoAnswers.{demo-answering}
use Rattle.sf_cli.specs.Answer.{OrderAnswer, Reaches, answer}
use Rattle.sf_words.specs.WordsOf.{order_as}
use Rattle.sf_words.specs.declared.order.Order.{Order as CodeOrder}
use Rattle.std.proofs.Common.{Some, inl, subst, sym}
use Rattle.sf_cli.proofs.command.follow.Goals as goal

pub returns-in-Verify-clause-status : goal.returns-in-Verify-clause-status
returns-in-Verify-clause-status g c =
    IfOk-weaker c.verify_file.result _ _ (λ said l. said-small said.status l) c.verify_file.ensures.status

pub returns-in-Verify-clause-quiet : goal.returns-in-Verify-clause-quiet
returns-in-Verify-clause-quiet g c =
    ok-both c.verify_file.result _ _ _ (λ said l q a. q (answering-small said.status l a)) c.verify_file.ensures.status
    c.verify_file.ensures.quiet

pub returns-in-Recheck-clause-status : goal.returns-in-Recheck-clause-status
returns-in-Recheck-clause-status g c =
    IfOk-weaker c.recheck_file.result _ _ (λ said l. said-small said.status l) c.recheck_file.ensures.status

pub returns-in-Recheck-clause-quiet : goal.returns-in-Recheck-clause-quiet
returns-in-Recheck-clause-quiet g c =
    ok-both c.recheck_file.result _ _ _ (λ said l q a. q (answering-small said.status l a))
    c.recheck_file.ensures.status c.recheck_file.ensures.quiet

pub returns-in-Run-clause-status : goal.returns-in-Run-clause-status
returns-in-Run-clause-status g c =
    IfOk-weaker c.run_file.result _ _ (λ said l. said-small said.status l) c.run_file.ensures.status

pub returns-in-Run-clause-quiet : goal.returns-in-Run-clause-quiet
returns-in-Run-clause-quiet g c =
    ok-both c.run_file.result _ _ _ (λ said l q a. q (answering-small said.status l a)) c.run_file.ensures.status
    c.run_file.ensures.quiet

pub returns-in-Journal-clause-status : goal.returns-in-Journal-clause-status
returns-in-Journal-clause-status g c =
    IfOk-weaker c.run_file-in-Journal.result _ _ (λ said l. said-small said.status l) c.run_file-in-Journal.ensures.status

pub returns-in-Journal-clause-quiet : goal.returns-in-Journal-clause-quiet
returns-in-Journal-clause-quiet g c =
    ok-both c.run_file-in-Journal.result _ _ _ (λ said l q a. q (answering-small said.status l a))
    c.run_file-in-Journal.ensures.status c.run_file-in-Journal.ensures.quiet

pub returns-in-Demo-clause-status : goal.returns-in-Demo-clause-status
returns-in-Demo-clause-status g c =
    IfOk-weaker c.demonstrate.result _ _
    (λ said k. inl (demo-answering c.in-Demo.procedures said.text.items said.status k)) c.demonstrate.ensures

pub returns-in-Demo-clause-said : goal.returns-in-Demo-clause-said
returns-in-Demo-clause-said g c =
    IfOk-weaker c.demonstrate.result _ _
    (λ said k. answer (demo-answering c.in-Demo.procedures said.text.items said.status k)
    (subst (λ (o : CodeOrder). OrderAnswer (g.S.Shelf.files c.args.shelf.now) (Some (order_as o)) said.text.items
    said.status) (sym c.in-Demo.is) k)) c.demonstrate.ensures

pub returns-in-Replay-clause-others : goal.returns-in-Replay-clause-others
returns-in-Replay-clause-others g c other unreached =
    c.replay_file.ensures.others other
    (λ r. unreached (subst (λ (o : CodeOrder). Reaches (g.S.Shelf.files c.args.shelf.now) (Some (order_as o)) other)
    (sym c.in-Replay.is) r))
