-- Items of the code that are nothing to do.
-- Ordinary: an empty run of commands.
use Rattle.std.specs.Prelude.{Bool, false, ◌==◌, length}
use Rattle.sf_sym.specs.declared.goal.Item.{Item as CodeItem}
use Rattle.sf_sym.specs.declared.goal.Item.TheVariants.{Run}

-- an item that is nothing to do: no commands
abbrev pub is_nothing : CodeItem → Bool
is_nothing (Run commands) = length commands.now == 0
is_nothing item = false
