use Rattle.std.proofs.Common.{◌≡◌, ◌++◌, drop}
use Rattle.std.specs.List.{flat_map}
use Rattle.sf_cli.specs.TaskText.{turn_text}
use Rattle.sf_cli.proofs.writing.put_turns.Given as goal

-- those so far and those that are left are all
abbrev pub invariant-loop-turn : goal.invariant-loop-turn
invariant-loop-turn l =
    l.text.items ++ flat_map turn_text (drop l.turn-index l.turns) ≡ l.initial.text.items ++ flat_map turn_text l.turns
