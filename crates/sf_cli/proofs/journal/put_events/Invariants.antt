use Rattle.std.proofs.Common.{◌≡◌, ◌++◌, drop}
use Rattle.std.specs.List.{flat_map}
use Rattle.sf_cli.specs.Checked.Printed.{told_line}
use Rattle.sf_cli.proofs.journal.put_events.Given as goal

-- those so far and those that are left are all
abbrev pub invariant-loop-scheduled : goal.invariant-loop-scheduled
invariant-loop-scheduled l =
    l.text.items ++ flat_map told_line (drop l.scheduled-index l.schedule)
    ≡ l.initial.text.items ++ flat_map told_line l.schedule
