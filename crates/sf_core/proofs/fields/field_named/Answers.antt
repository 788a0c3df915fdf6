use Rattle.std.proofs.Common.{Some, refl, sym, ◌∙◌, ap}
use Rattle.std.proofs.lemmas.Slice.Eq.{bytes_eq-Decides}
use Rattle.sf_base.proofs.Lookup.{get-none_all, get-none_more, get-read}
use Rattle.sf_core.proofs.fields.field_named.Goals as goal

pub returns-then-eq-clause-first : goal.returns-then-eq-clause-first
returns-then-eq-clause-first c =
    let here = get-read c.args.fields.now c.args.fields.now c.loop-i.i c.index-fields-i.result refl
    c.loop-i-test.true c.index-fields-i.is in
    let same = (bytes_eq-Decides c.as_bytes.result.now c.as_bytes-in-loop-i.result.now).0
    (sym c.eq.ensures ∙ c.if-eq.true) in
    (here ∙ ap Some (sym c.as_bytes.ensures ∙ same ∙ c.as_bytes-in-loop-i.ensures.value), c.loop-i.invariant)

pub loop-i-preserved : goal.loop-i-preserved
loop-i-preserved c =
    get-none_more c.args.fields.now c.index-fields-i.result c.args.name.now c.loop-i.i
    (get-read c.args.fields.now c.args.fields.now c.loop-i.i c.index-fields-i.result refl c.loop-i-test.true
    c.index-fields-i.is)
    (λ e. let yes_ = (bytes_eq-Decides c.as_bytes.result.now c.as_bytes-in-loop-i.result.now).1
    (c.as_bytes.ensures ∙ e ∙ sym c.as_bytes-in-loop-i.ensures.value) in
    cc (c.eq.ensures, c.if-eq.false, yes_))
    c.loop-i.invariant

pub returns-clause-first : goal.returns-clause-first
returns-clause-first c = get-none_all c.args.fields.now c.args.name.now c.loop-i.i c.loop-i-test.false
    c.loop-i.invariant
