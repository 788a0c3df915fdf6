use Rattle.std.proofs.Common.{◌≡◌, ◌<◌, arith, refl, subst, sym}
use Rattle.std.proofs.lemmas.Result.{IfOk-weaker}
use Rattle.std.specs.Prelude.{IfOk}
use Rattle.sf_check.specs.Accepted.{tags_in}
use Rattle.sf_core.specs.Program.ProgramView.{program_of}
use Rattle.sf_precise.specs.declared.arranged.Arranged.{Arranged}
use Rattle.sf_rules.specs.Checked.LawsOfSettings.{ArrangedHasSetting}
use Rattle.sf_rules.specs.Setting.{setting_of}
use Rattle.sf_search.specs.declared.verdicts.VerifyFault.{VerifyFault}
use Rattle.sf_search.specs.Ends.{cause_of, FailsAs}
use Rattle.sf_cli.proofs.Ordering.{is_ordering, ordered}
use Rattle.sf_cli.proofs.Verdicts.{failed-answer, failed-status}
use Rattle.sf_cli.proofs.Kept.{kept-unfinished}
use Rattle.sf_cli.specs.Answer.{HasRun, IsProved, RunFileAnswer, RunFileJournal, unproved}
use Rattle.sf_cli.specs.Checked.Kept.{KeptAnswer}
use Rattle.sf_cli.proofs.run.run_program.Goals as goal

pub verify-requires : goal.verify-requires
verify-requires g c = λ κs b. (b.0, (b.1, (c.type_bounds.sync-R, (c.type_bounds.sync-G, (is_ordering, refl)))))

pub run_proved-requires-clause-proved : goal.run_proved-requires-clause-proved
unfolding ArrangedHasSetting
run_proved-requires-clause-proved g c = λ κs b.
    let proved : IsProved (program_of c.args.arranged.now.program) = record {
      setting = setting_of ordered c.args.arranged.now;
      own = c.arranged_has_setting.ensures ordered c.args.arranged.now is_ordering;
      tags = tags_in c.in-Ok.proof;
      judged = c.in-Ok.ensures.proved;
    } in
    subst (λ (a : Arranged). IsProved (program_of a.program)) (sym c.in-Ok.ensures.arranged) proved

pub returns-in-Ok-clause-answered : goal.returns-in-Ok-clause-answered
returns-in-Ok-clause-answered g c =
    let words = c.args.words.now in
    let told = g.S.Shelf.files c.args.shelf.now in
    subst (λ (a : Arranged). IfOk c.run_proved.result (λ said. said.status < 7 → KeptAnswer words.kept
    (RunFileAnswer told (program_of a.program) words.procedure.now words.state.now words.budget.steps words.budget.waits)
    (RunFileJournal told (program_of a.program) words.procedure.now words.state.now words.budget.steps) said.text.items
    said.status))
    c.in-Ok.ensures.arranged c.run_proved.ensures.answered

pub returns-in-Ok-clause-unread : goal.returns-in-Ok-clause-unread
returns-in-Ok-clause-unread g c =
    IfOk-weaker c.run_proved.result _ _
    (λ said k seven. let u = k seven in (
      subst (λ (a : Arranged). HasRun (program_of a.program) c.args.words.now.procedure.now) c.in-Ok.ensures.arranged u.0,
      u.1,
      u.2,
    )) c.run_proved.ensures.unread

pub returns-in-Ok-clause-others : goal.returns-in-Ok-clause-others
returns-in-Ok-clause-others g c = λ other h.
    c.run_proved.ensures.others other
    (λ e. h (
      e.0,
      subst (λ (a : Arranged). HasRun (program_of a.program) c.args.words.now.procedure.now)
          c.in-Ok.ensures.arranged e.1,
    ))

pub returns-in-Err-Failed-clause-status : goal.returns-in-Err-Failed-clause-status
returns-in-Err-Failed-clause-status g c =
    let failed = subst (λ (fault : VerifyFault). FailsAs (setting_of ordered c.args.arranged.now) fault)
    c.in-Err-Failed.field-0-is c.in-Err-Failed.ensures.failed in
    IfOk-weaker c.say_failure.result _ _
    (λ said k. let one : said.status ≡ 1 = failed-status (program_of c.args.arranged.now.program)
    (setting_of ordered c.args.arranged.now) c.in-Err-Failed.f (cause_of c.in-Err-Failed.why) said.text.items said.status
    failed k in omega (arith, one)) c.say_failure.ensures

pub returns-in-Err-Failed-clause-answered : goal.returns-in-Err-Failed-clause-answered
unfolding ArrangedHasSetting
returns-in-Err-Failed-clause-answered g c =
    let own = c.arranged_has_setting.ensures ordered c.args.arranged.now is_ordering in
    let failed = subst (λ (fault : VerifyFault). FailsAs (setting_of ordered c.args.arranged.now) fault)
    c.in-Err-Failed.field-0-is c.in-Err-Failed.ensures.failed in
    let words = c.args.words.now in
    let told = g.S.Shelf.files c.args.shelf.now in
    let p = program_of c.args.arranged.now.program in
    IfOk-weaker c.say_failure.result _ _
    (λ said k less. let one : said.status ≡ 1 = failed-status p (setting_of ordered c.args.arranged.now)
    c.in-Err-Failed.f (cause_of c.in-Err-Failed.why) said.text.items said.status failed k in
    kept-unfinished words.kept
    (RunFileAnswer told p words.procedure.now words.state.now words.budget.steps words.budget.waits)
    (RunFileJournal told p words.procedure.now words.state.now words.budget.steps) said.text.items said.status
    (λ z. omega (arith, one, z)) (unproved (failed-answer (program_of c.args.arranged.now.program)
    (setting_of ordered c.args.arranged.now) c.in-Err-Failed.f (cause_of c.in-Err-Failed.why) said.text.items said.status
    own failed k) one)) c.say_failure.ensures

pub returns-in-Err-Failed-clause-unread : goal.returns-in-Err-Failed-clause-unread
returns-in-Err-Failed-clause-unread g c =
    let failed = subst (λ (fault : VerifyFault). FailsAs (setting_of ordered c.args.arranged.now) fault)
    c.in-Err-Failed.field-0-is c.in-Err-Failed.ensures.failed in
    IfOk-weaker c.say_failure.result _ _
    (λ said k seven. let one : said.status ≡ 1 = failed-status (program_of c.args.arranged.now.program)
    (setting_of ordered c.args.arranged.now) c.in-Err-Failed.f (cause_of c.in-Err-Failed.why) said.text.items said.status
    failed k in absurd (omega (arith, one, seven))) c.say_failure.ensures
