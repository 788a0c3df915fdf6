use Rattle.std.proofs.Common.{ap, sym, ◌∙◌}
use Rattle.std.specs.List.{position_or_len}
use Rattle.std.specs.Str.{bytes_eq}
use Rattle.sf_base.specs.declared.ids.ProcId.{ProcId}
use Rattle.sf_core.specs.declared.program.Proc.{Proc}
use Rattle.sf_core.specs.Program.Syntax.{Procedure}
use Rattle.sf_core.specs.Program.View.{procedure_of}
use Rattle.sf_proof.proofs.Naming.{position_or_len-map}
use Rattle.sf_proof.proofs.words.procedure_named.Goals as goal

pub returns : goal.returns
returns c =
    let P : _ → ProcId = λ n. record { 0 = n } in
    ap P (c.procedures_before.ensures.before
    ∙ ap (position_or_len (λ (f : Proc). bytes_eq f.name c.args.name.now)) c.deref.ensures.value
    ∙ sym (position_or_len-map (λ (f : Procedure). bytes_eq f.name c.args.name.now) procedure_of
    c.args.p.now.procedures.items))
