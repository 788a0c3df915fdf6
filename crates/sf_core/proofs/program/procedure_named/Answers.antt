use Rattle.std.proofs.Common.{map, Some, arith, refl, sym, ◌∙◌, ap}
use Rattle.std.proofs.lemmas.List.{length-map}
use Rattle.std.proofs.lemmas.Slice.Eq.{bytes_eq-Decides}
use Rattle.sf_base.proofs.Lookup.{get-none_all, get-none_more, get-read_map}
use Rattle.sf_core.specs.declared.program.Proc.{Proc}
use Rattle.sf_core.proofs.program.procedure_named.Goals as goal

pub returns-then-eq-clause-first : goal.returns-then-eq-clause-first
returns-then-eq-clause-first c =
    let here = get-read_map (λ (f : Proc). f.name) c.args.procedures.now
    c.args.procedures.now c.loop-i.i c.index-procedures-i.result
    refl c.loop-i-test.true c.index-procedures-i.is in
    let same = (bytes_eq-Decides c.as_bytes.result.now c.as_bytes-in-loop-i.result.now).0
    (sym c.eq.ensures ∙ c.if-eq.true) in
    (here ∙ ap Some (sym c.as_bytes.ensures ∙ same ∙ c.as_bytes-in-loop-i.ensures.value), c.loop-i.invariant)

pub loop-i-preserved : goal.loop-i-preserved
loop-i-preserved c =
    get-none_more (map (λ (f : Proc). f.name) c.args.procedures.now) c.index-procedures-i.result.name
    c.args.name.now c.loop-i.i
    (get-read_map (λ (f : Proc). f.name) c.args.procedures.now c.args.procedures.now
    c.loop-i.i c.index-procedures-i.result refl c.loop-i-test.true
    c.index-procedures-i.is)
    (λ e. let yes_ = (bytes_eq-Decides c.as_bytes.result.now c.as_bytes-in-loop-i.result.now).1
    (c.as_bytes.ensures ∙ e ∙ sym c.as_bytes-in-loop-i.ensures.value) in
    cc (c.eq.ensures, c.if-eq.false, yes_))
    c.loop-i.invariant

pub returns-clause-first : goal.returns-clause-first
returns-clause-first c = get-none_all (map (λ (f : Proc). f.name) c.args.procedures.now)
    c.args.name.now c.loop-i.i
    (omega (
      arith,
      length-map c.args.procedures.now (λ (f : Proc). f.name),
    )) c.loop-i.invariant
