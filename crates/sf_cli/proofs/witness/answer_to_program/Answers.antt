use Rattle.std.proofs.Common.{refl, subst}
use Rattle.std.proofs.lemmas.Result.{IfOk-weaker}
use Rattle.sf_core.specs.Program.ProgramView.{program_of}
use Rattle.sf_rules.specs.Checked.LawsOfSettings.{ArrangedHasSetting}
use Rattle.sf_rules.specs.Setting.{setting_of}
use Rattle.sf_search.specs.declared.verdicts.VerifyFault.{VerifyFault}
use Rattle.sf_search.specs.Ends.{cause_of, FailsAs}
use Rattle.sf_search.specs.Judge.{proof}
use Rattle.sf_cli.proofs.Ordering.{is_ordering, ordered}
use Rattle.sf_cli.proofs.Witnesses.{witness-failed, witness-judged}
use Rattle.sf_cli.proofs.witness.answer_to_program.Goals as goal

pub verify-requires : goal.verify-requires
verify-requires c = (is_ordering, refl)

pub returns-in-Ok : goal.returns-in-Ok
unfolding ArrangedHasSetting
returns-in-Ok c =
    let own = c.arranged_has_setting.ensures ordered c.args.arranged.now is_ordering in
    IfOk-weaker c.say.result _ _
    (λ said k. witness-judged (program_of c.args.arranged.now.program) (setting_of ordered c.args.arranged.now)
    (proof c.in-Ok.field-0.items) said.text.items said.status own c.in-Ok.ensures.ok k) c.say.ensures

pub returns-in-Err-Failed : goal.returns-in-Err-Failed
unfolding ArrangedHasSetting
returns-in-Err-Failed c =
    let own = c.arranged_has_setting.ensures ordered c.args.arranged.now is_ordering in
    let failed = subst (λ (fault : VerifyFault). FailsAs (setting_of ordered c.args.arranged.now) fault)
    c.in-Err-Failed.field-0-is c.in-Err-Failed.ensures.err in
    IfOk-weaker c.say_witness.result _ _
    (λ said k. witness-failed (program_of c.args.arranged.now.program) (setting_of ordered c.args.arranged.now)
    c.in-Err-Failed.f (cause_of c.in-Err-Failed.why) said.text.items said.status own failed k)
    c.say_witness.ensures
