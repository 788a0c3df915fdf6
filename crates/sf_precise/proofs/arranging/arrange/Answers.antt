use Rattle.std.proofs.Common.{map}
use Rattle.std.proofs.lemmas.Result.{err_from_is_err_and}
use Rattle.std.specs.declared.result.Result.TheVariants.{Ok, Err}
use Rattle.sf_core.specs.Program.View.{assertion_of}
use Rattle.sf_core.specs.Program.ProgramView.{program_of}
use Rattle.sf_precise.specs.Annotations.{annotations_in}
use Rattle.sf_precise.proofs.Exactly.{only-arranged, only-stuck}
use Rattle.sf_precise.proofs.arranging.arrange.Goals as goal

pub returns-in_err-found-clause-only_arranged : goal.returns-in_err-found-clause-only_arranged
returns-in_err-found-clause-only_arranged c =
    let p = err_from_is_err_and c.from_residual.result c.from_residual.ensures.1 in
    rw (p.1, p.2)
    (only-arranged (annotations_in (program_of c.args.p)) (λ os. os) (Err _) tt c.in_err-found.ensures.undetermined)

pub returns-in_err-found-clause-only_undetermined : goal.returns-in_err-found-clause-only_undetermined
returns-in_err-found-clause-only_undetermined c =
    let p = err_from_is_err_and c.from_residual.result c.from_residual.ensures.1 in
    rw (p.1, p.2)
    (only-stuck (annotations_in (program_of c.args.p)) (λ os. os) (Err _) tt c.in_err-found.ensures.undetermined)

pub returns-clause-only_arranged : goal.returns-clause-only_arranged
returns-clause-only_arranged c =
    only-arranged (annotations_in (program_of c.args.p))
    (λ os. os) (Ok (map (λ o. assertion_of o.assertion) c.in_ok-found.found.orders.items))
    c.in_ok-found.ensures.orders tt

pub returns-clause-only_undetermined : goal.returns-clause-only_undetermined
returns-clause-only_undetermined c =
    only-stuck (annotations_in (program_of c.args.p))
    (λ os. os) (Ok (map (λ o. assertion_of o.assertion) c.in_ok-found.found.orders.items))
    c.in_ok-found.ensures.orders tt
