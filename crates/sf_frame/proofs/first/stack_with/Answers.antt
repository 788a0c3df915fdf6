use Rattle.std.proofs.Common.{◌≡◌, ◌∙◌, ◌∷◌, [], Some, ap, arith, sym}
use Rattle.std.proofs.lemmas.Result.{IfOk-weaker}
use Rattle.sf_base.proofs.Options.{some-once}
use Rattle.sf_core.specs.Machine.Start.{Beginning, entry_frame, first_frames, init_frame}
use Rattle.sf_core.specs.Machine.Step.{procedure_at}
use Rattle.sf_core.specs.Program.ProgramView.{program_of}
use Rattle.sf_core.specs.Program.View.{procedure_of}
use Rattle.sf_frame.specs.Checked.Firsts.{beginning_at, beginning_with}
use Rattle.sf_frame.proofs.first.stack_with.Goals as goal

pub entry_frame-requires-clause-few : goal.entry_frame-requires-clause-few
entry_frame-requires-clause-few c =
    let within = c.args.p.now.formed.procedures _ _ c.proc.ensures.meaning in
    omega (arith, within.declared_count, within.primed)

pub entry_frame-requires-clause-references : goal.entry_frame-requires-clause-references
entry_frame-requires-clause-references c =
    let within = c.args.p.now.formed.procedures _ _ c.proc.ensures.meaning in
    omega (arith, within.declared)

pub init_frame-requires-clause-few : goal.init_frame-requires-clause-few
init_frame-requires-clause-few c =
    let within = c.args.p.now.formed.procedures _ _ c.proc-in-Some.ensures.meaning in
    omega (arith, within.declared_count, within.primed)

pub init_frame-requires-clause-references : goal.init_frame-requires-clause-references
init_frame-requires-clause-references c =
    let within = c.args.p.now.formed.procedures _ _ c.proc-in-Some.ensures.meaning in
    omega (arith, within.declared)

pub returns-in_ok-top-in-Some : goal.returns-in_ok-top-in-Some
returns-in_ok-top-in-Some c = IfOk-weaker c.above.result _ _ (λ stack is g e.
    let p = program_of c.args.p.now in
    let n = c.in-Some.n in
    let entry = procedure_of c.proc.result.now in
    let top = procedure_of c.proc-in-Some.result.now in
    let same : entry ≡ g = some-once (procedure_at p c.args.f) entry g c.proc.ensures.meaning e in
    let begins : beginning_at p c.args.init ≡ beginning_at p (Some n) =
    ap (beginning_at p) c.in-Some.is in
    is
    ∙ (λ i. c.in_ok-top-in-Some.ensures i ∷ c.in_ok-entry.ensures i ∷ [])
    ∙ (λ i. init_frame n top (c.own_count.ensures.count g e i) ∷ entry_frame c.args.f (same i) ∷ [])
    ∙ sym (ap (λ (b : Beginning). first_frames b c.args.f g)
    (begins ∙ ap (beginning_with n) c.proc-in-Some.ensures.meaning))) c.above.ensures

pub returns-in-None : goal.returns-in-None
returns-in-None c = λ g e.
    let p = program_of c.args.p.now in
    let entry = procedure_of c.proc.result.now in
    let same : entry ≡ g = some-once (procedure_at p c.args.f) entry g c.proc.ensures.meaning e in
    c.of.ensures ∙ (λ i. c.in_ok-entry.ensures i ∷ [])
    ∙ (λ i. entry_frame c.args.f (same i) ∷ [])
    ∙ sym (ap (λ (b : Beginning). first_frames b c.args.f g) (ap (beginning_at p) c.in-None.is))
