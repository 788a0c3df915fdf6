use Rattle.std.proofs.Common.{◌≡◌}
use Rattle.sf_core.specs.Program.ProgramView.{program_of}
use Rattle.sf_machine.specs.Configs.{config_of, IsWide}
use Rattle.sf_machine.specs.Reached.{IsReached}
use Rattle.sf_tour.proofs.driving.move_first.Given as goal

-- the configuration is reached, its cells have all fields, and the event's fields stay
abbrev pub invariant-loop-task : goal.invariant-loop-task
invariant-loop-task l = record {
  reached : IsReached (program_of l.p) (config_of l.c);
  wide : IsWide (program_of l.p) l.c;
  fields : l.event.fields ≡ l.initial.event.fields;
}
