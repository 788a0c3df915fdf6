use Rattle.std.proofs.Common.{List, ap, refl, subst, ◌∙◌, ℕ}
use Rattle.sf_check.specs.declared.refusal.CheckFault.{CheckFault}
use Rattle.sf_check.specs.Refusal.{IfRefused, Refused}
use Rattle.sf_rules.specs.Proving.{Proves}
use Rattle.sf_sym.specs.declared.tag.Tag.{Tag}
use Rattle.sf_core.specs.Program.ProgramView.{program_of}
use Rattle.sf_rules.specs.Checked.LawsOfSettings.{ArrangedHasSetting}
use Rattle.sf_rules.specs.Setting.{setting_of}
use Rattle.sf_cli.proofs.Ordering.{is_ordering, ordered}
use Rattle.sf_cli.proofs.Refused.{refused-by, refused-text}
use Rattle.sf_cli.specs.Rechecked.{ProofFault, in_tags}
use Rattle.sf_cli.specs.Rejections.{of_tags}
use Rattle.sf_cli.proofs.recheck.accept.Goals as goal

pub check-requires : goal.check-requires
check-requires c = (is_ordering, refl)

pub returns-in_err-lined-clause-refused : goal.returns-in_err-lined-clause-refused
returns-in_err-lined-clause-refused c =
    let p = program_of c.args.arranged.now.program in
    refused-by c.from_residual.result (ProofFault p c.args.proof.now) _ c.from_residual.ensures.1
    (refused-text p c.args.proof.now c.in_err-lined.field-0.0 c.in_err-lined.ensures.refused)

pub returns-in-Ok-clause-accepted : goal.returns-in-Ok-clause-accepted
unfolding ArrangedHasSetting
returns-in-Ok-clause-accepted c = record {
  setting = setting_of ordered c.args.arranged.now;
  own = c.arranged_has_setting.ensures ordered c.args.arranged.now is_ordering;
  lined = c.in_ok-lined.lined;
  reads = c.in_ok-lined.ensures.found;
  proves = subst (λ (ts : List Tag). Proves (setting_of ordered c.args.arranged.now) ts) c.into_vec.ensures
      c.in-Ok.ensures.proves;
}

pub returns-in-Err-Refused-clause-refused : goal.returns-in-Err-Refused-clause-refused
unfolding ArrangedHasSetting
returns-in-Err-Refused-clause-refused c = λ n.
    let d = setting_of ordered c.args.arranged.now in
    let refused = subst (λ (ts : List Tag). IfRefused c.in-Err-Refused.field-0 (Refused d ts)) c.into_vec.ensures
    c.in-Err-Refused.ensures.refused in
    in_tags d c.in_ok-lined.lined c.in-Err-Refused.number c.in-Err-Refused.why
    (c.arranged_has_setting.ensures ordered c.args.arranged.now is_ordering) c.in_ok-lined.ensures.found
    (subst (λ (e : CheckFault). IfRefused e (Refused d c.in_ok-lined.lined.tags)) c.in-Err-Refused.field-0-is refused)
    (c.of_tags.ensures
    ∙ ap (λ (ls : List ℕ). of_tags ls c.in-Err-Refused.number c.in-Err-Refused.why) c.as_slice.ensures)
