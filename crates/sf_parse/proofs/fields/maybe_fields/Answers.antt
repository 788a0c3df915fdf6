use Rattle.std.proofs.Common.{[], ◌∷◌, refl}
use Rattle.std.proofs.lemmas.Result.{err_from_is_err_and}
use Rattle.sf_parse.specs.Checked.Machine as m
use Rattle.sf_parse.proofs.Parser.Choices.{fails_as}
use Rattle.sf_parse.proofs.fields.maybe_fields.Goals as goal

pub returns-in_err-first-clause-fault : goal.returns-in_err-first-clause-fault
returns-in_err-first-clause-fault c =
    let p = err_from_is_err_and c.from_residual.result c.from_residual.ensures.1 in
    rw (p.1, p.2) (fails_as c.in_err-first.field-0.0 (m.maybe_fields ∷ []) (m.exact m.a_name ∷ m.exact m.a_colon ∷ m.operand ∷ []) (m.more_fields ∷ []) c.args.tokens.now c.args.tokens.now (λ st. rw c.in-Some.ensures.spelled refl) c.in_err-first.ensures.fault)
