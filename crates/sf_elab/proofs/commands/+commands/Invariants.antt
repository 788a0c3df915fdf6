use Rattle.std.proofs.Common.{◌≡◌, drop, map, ◌++◌}
use Rattle.sf_ast.specs.View.{commands as surface_commands, command_of as surface_command}
use Rattle.sf_core.specs.Program.View.{command_of}
use Rattle.sf_elab.specs.Bodies.Commands.{commands_of, commands_faults}
use Rattle.sf_elab.specs.Names.InEnv.{env_of}
use Rattle.sf_elab.proofs.commands.+commands.Given as goal

-- those so far and those of what is left are all
abbrev pub invariant-add_commands-loop-c : goal.invariant-add_commands-loop-c
invariant-add_commands-loop-c l = record {
  commands : map command_of l.done.items ++ commands_of (env_of l.env) (surface_commands (map surface_command (drop l.c-index l.commands))) ≡ map command_of l.fn.done.items ++ commands_of (env_of l.env) (surface_commands (map surface_command l.commands));
  faults : l.found.items ++ commands_faults (env_of l.env) (surface_commands (map surface_command (drop l.c-index l.commands))) ≡ l.fn.found.items ++ commands_faults (env_of l.env) (surface_commands (map surface_command l.commands));
}
