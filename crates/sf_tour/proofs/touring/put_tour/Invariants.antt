use Rattle.sf_core.specs.Program.ProgramView.{program_of}
use Rattle.sf_machine.specs.Configs.{config_of, IsWide}
use Rattle.sf_machine.specs.Reached.{IsReached}
use Rattle.sf_tour.proofs.touring.put_tour.Given as goal

-- the configuration is reached, and its cells have all fields
abbrev pub invariant-loop-scheduled : goal.invariant-loop-scheduled
invariant-loop-scheduled l = record {
  reached : IsReached (program_of l.p) (config_of l.c);
  wide : IsWide (program_of l.p) l.c;
}
