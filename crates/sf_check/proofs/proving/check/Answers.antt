use Rattle.std.proofs.Common.{◌≡◌}
use Rattle.std.proofs.lemmas.Result.{err_from_is_err_and}
use Rattle.std.specs.declared.result.Result.TheVariants.{Ok, Err}
use Rattle.sf_check.proofs.Exactly.{only-proved, only-refused}
use Rattle.sf_check.proofs.proving.check.Goals as goal

pub returns-in_err-take_all-clause-only_proved : goal.returns-in_err-take_all-clause-only_proved
returns-in_err-take_all-clause-only_proved g c =
    let p = err_from_is_err_and c.from_residual.result c.from_residual.ensures.1 in
    let same : c.deref.result.now ≡ c.args.tags.items = cc in
    rw (p.1, p.2)
    (only-proved {X = Unit {0}} g.d c.args.tags.items c.deref.result.now (Err _) same
    c.in_err-take_all.ensures.err)

pub returns-in_err-take_all-clause-only_refused : goal.returns-in_err-take_all-clause-only_refused
returns-in_err-take_all-clause-only_refused g c =
    let p = err_from_is_err_and c.from_residual.result c.from_residual.ensures.1 in
    let same : c.deref.result.now ≡ c.args.tags.items = cc in
    rw (p.1, p.2)
    (only-refused {X = Unit {0}} g.d c.args.tags.items c.deref.result.now (Err _) same tt
    c.in_err-take_all.ensures.err)

pub returns-clause-only_refused : goal.returns-clause-only_refused
returns-clause-only_refused g c =
    let same : c.deref.result.now ≡ c.args.tags.items = cc in
    only-refused {X = Unit {0}} g.d c.args.tags.items c.deref.result.now (Ok (tt {0})) same
    c.in_ok-take_all.ensures.ok tt
