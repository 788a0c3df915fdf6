use Rattle.sf_core.specs.Program.ProgramView.{program_of}
use Rattle.sf_machine.specs.Configs.{config_of, IsWide}
use Rattle.sf_machine.specs.Reached.{IsReached}
use Rattle.sf_running_tests.proofs.running.forked.Given as goal

-- the configuration is one that is reached, and its cells have all fields
abbrev pub invariant-loop-number : goal.invariant-loop-number
invariant-loop-number l = IsReached (program_of l.fn.p) (config_of l.c) × IsWide (program_of l.fn.p) l.c
