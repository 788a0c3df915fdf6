use Rattle.std.proofs.lemmas.Result.{IfOk-weaker}
use Rattle.sf_consume.proofs.Misfits.{misfit-none}
use Rattle.sf_consume.proofs.differing.first_misfit.Goals as goal

pub returns-clause-all : goal.returns-clause-all
returns-clause-all c =
    IfOk-weaker c.find.result _ _
    (λ m e. misfit-none c.args.next_sym
    (record { next_sym = c.args.next_sym; fields = c.args.fields.now; bindings = c.args.bindings.now })
    c.args.wanted.now m e) c.find.ensures
