use Rattle.std.proofs.Common.{refl, subst}
use Rattle.std.proofs.lemmas.Result.{IfOk-weaker}
use Rattle.sf_check.specs.Accepted.{tags_in}
use Rattle.sf_core.specs.Program.ProgramView.{program_of}
use Rattle.sf_rules.specs.Checked.LawsOfSettings.{ArrangedHasSetting}
use Rattle.sf_rules.specs.Setting.{setting_of}
use Rattle.sf_search.specs.declared.verdicts.VerifyFault.{VerifyFault}
use Rattle.sf_search.specs.Ends.{cause_of, FailsAs}
use Rattle.sf_cli.proofs.DemoAnswers.{demo-failed, demo-proved}
use Rattle.sf_cli.proofs.Ordering.{is_ordering, ordered}
use Rattle.sf_cli.proofs.demo.answer_to_program.Goals as goal

pub verify-requires : goal.verify-requires
verify-requires g c = λ κs b. (b.0, (b.1, (c.type_bounds.sync-R, (c.type_bounds.sync-G, (is_ordering, refl)))))

pub returns-in-Ok : goal.returns-in-Ok
unfolding ArrangedHasSetting
returns-in-Ok g c =
    let own = c.arranged_has_setting.ensures ordered c.args.arranged.now is_ordering in
    IfOk-weaker c.say_sizes.result _ _
    (λ said k. demo-proved c.args.procedures (program_of c.args.arranged.now.program) c.args.made.now
    c.requires.made c.requires.admitted (setting_of ordered c.args.arranged.now) own (tags_in c.in-Ok.found)
    c.in-Ok.ensures.proved said.text.items said.status k) c.say_sizes.ensures

pub returns-in-Err-Failed : goal.returns-in-Err-Failed
unfolding ArrangedHasSetting
returns-in-Err-Failed g c =
    let own = c.arranged_has_setting.ensures ordered c.args.arranged.now is_ordering in
    let failed = subst (λ (fault : VerifyFault). FailsAs (setting_of ordered c.args.arranged.now) fault)
    c.in-Err-Failed.field-0-is c.in-Err-Failed.ensures.failed in
    IfOk-weaker c.say_failure.result _ _
    (λ said k. demo-failed c.args.procedures (program_of c.args.arranged.now.program) c.args.made.now
    c.requires.made c.requires.admitted (setting_of ordered c.args.arranged.now) own
    c.in-Err-Failed.f (cause_of c.in-Err-Failed.why) failed said.text.items said.status k)
    c.say_failure.ensures
