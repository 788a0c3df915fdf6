use Rattle.std.proofs.Common.{◌≡◌, List, ◌∷◌, ◌+◌, map, length}
use Rattle.sf_ast.specs.View.{command_of, commands}
use Rattle.sf_parse.specs.Grammar as g
use Rattle.sf_parse.specs.Checked.Machine as m
use Rattle.sf_parse.specs.Checked.Machine.{Predicted, verdict}
use Rattle.sf_parse.specs.Nearest.{CommandsNearest}
use Rattle.sf_parse.specs.Nesting.{CommandsWithin}
use Rattle.sf_parse.specs.Leaf.{leaves}
use Rattle.sf_parse.proofs.command.+nest.Given as goal

abbrev pub decreases-if_command : goal.decreases-if_command
decreases-if_command l = l.depth + l.depth + l.depth

abbrev pub decreases-while_command : goal.decreases-while_command
decreases-while_command l = l.depth + l.depth + l.depth

abbrev pub decreases-with_command : goal.decreases-with_command
decreases-with_command l = l.depth + l.depth + l.depth

abbrev pub decreases-block : goal.decreases-block
decreases-block l = l.depth + l.depth + l.depth

abbrev pub decreases-command : goal.decreases-command
decreases-command l = l.depth + l.depth + l.depth + 1

abbrev pub decreases-commands : goal.decreases-commands
decreases-commands l = l.depth + l.depth + l.depth + 2

abbrev pub invariant-commands-loop-alloc : goal.invariant-commands-loop-alloc
invariant-commands-loop-alloc l = record {
  spelled : leaves l.tokens ≡ g.commands (commands (map command_of l.found.items)) (leaves l.rest);
  within : CommandsWithin (commands (map command_of l.found.items)) 0 l.depth (leaves l.rest);
  nearest : CommandsNearest (commands (map command_of l.found.items));
  taken : (st : List Predicted) → verdict 0 (leaves l.tokens) (m.commands l.depth ∷ st) ≡ verdict 0 (leaves l.rest) (m.commands l.depth ∷ st);
}

abbrev pub decreases-commands-loop-alloc : goal.decreases-commands-loop-alloc
decreases-commands-loop-alloc l = length l.rest
