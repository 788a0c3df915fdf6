use Rattle.std.proofs.Common.{◌≡◌, drop, map, ◌++◌}
use Rattle.sf_ast.specs.View.{commands, command_of}
use Rattle.sf_elab.specs.Bodies.Commands.{set_in_all}
use Rattle.sf_elab.proofs.commands.+sets.Given as goal

-- those so far and those of what is left are all
abbrev pub invariant-add_set_in_all-loop-c : goal.invariant-add_set_in_all-loop-c
invariant-add_set_in_all-loop-c l = l.words.items ++ set_in_all (commands (map command_of (drop l.c-index l.commands))) ≡ l.initial.words.items ++ set_in_all (commands (map command_of l.commands))
