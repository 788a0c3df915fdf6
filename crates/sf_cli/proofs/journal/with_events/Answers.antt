use Rattle.std.proofs.Common.{◌≡◌, ◌∙◌, ◌++◌, ap, append_assoc, codes, refl, sym}
use Rattle.std.specs.List.{flat_map}
use Rattle.std.proofs.lemmas.List.Folds.{flat_map-map}
use Rattle.sf_machine.specs.Events.{event_of}
use Rattle.sf_replay.specs.ScheduleText.{events_of}
use Rattle.sf_replay.specs.declared.schedule.Scheduled.{Scheduled}
use Rattle.sf_cli.specs.Checked.Printed.{told_line}
use Rattle.sf_cli.specs.Journaled.{event_line}
use Rattle.sf_words.specs.Words.{Text}
use Rattle.sf_cli.proofs.journal.with_events.Goals as goal

pub returns-clause-text : goal.returns-clause-text
returns-clause-text c =
    let schedule = c.in_ok-schedule.schedule in
    let said = c.args.said.text.items in
    let lines = flat_map told_line c.as_slice.result.now in
    let put : c.put_events.new.text.items ≡ (said ++ codes "schedule\n") ++ lines = c.in_ok-put_events.ensures
    ∙ ap (λ (t : Text). t ++ lines) c.in_ok-put.ensures in
    let seen = c.as_slice.ensures in
    let view = c.schedule.view_is in
    let slice : c.as_slice.result.now ≡ schedule = cc in (
      events_of schedule,
      (schedule, c.in_ok-schedule.ensures.merges, refl),
      put ∙ append_assoc said (codes "schedule\n") lines
          ∙ ap (λ (t : Text). said ++ (codes "schedule\n" ++ t)) (ap (flat_map told_line) slice
          ∙ sym (flat_map-map event_line (λ (s : Scheduled). event_of s.event) schedule)),
    )
