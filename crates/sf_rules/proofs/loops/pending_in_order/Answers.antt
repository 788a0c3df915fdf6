use Rattle.std.proofs.Common.{◌∙◌, ap, sym}
use Rattle.std.proofs.lemmas.Result.{IfOk-weaker}
use Rattle.sf_rules.specs.Words.{pending_assertion}
use Rattle.sf_sym.specs.State.{term}
use Rattle.sf_rules.proofs.loops.pending_in_order.Goals as goal

pub returns-in-Ok-clause-pending : goal.returns-in-Ok-clause-pending
returns-in-Ok-clause-pending g c =
    IfOk-weaker c.pending.result _ _
    (λ given e. e ∙ ap (pending_assertion (term c.args.vars.now))
    (sym (c.requires.ordered _ _ c.in-Ok.ensures.ordered))) c.pending.ensures

pub returns-in-Ok-clause-names : goal.returns-in-Ok-clause-names
returns-in-Ok-clause-names g c =
    IfOk-weaker c.pending.result _ _
    (λ given e. ap (λ a. a.names) (c.requires.ordered _ _ c.in-Ok.ensures.ordered)
    ∙ c.in-Ok.ensures.ordered.names) c.pending.ensures
