use Rattle.std.proofs.Common.{◌≡◌, length}
use Rattle.sf_core.specs.Program.ProgramView.{program_of}
use Rattle.sf_machine.specs.Configs.{config_of, IsWide}
use Rattle.sf_machine.specs.Reached.{IsReached}
use Rattle.sf_tour.proofs.driving.drive_on.Given as goal

-- the configuration is reached, its cells have all fields, and the event has the program's fields
abbrev pub invariant-loop-made : goal.invariant-loop-made
invariant-loop-made l = record {
  reached : IsReached (program_of l.p) (config_of l.c);
  wide : IsWide (program_of l.p) l.c;
  fields : length l.event.fields ≡ length l.p.fields.items;
}
