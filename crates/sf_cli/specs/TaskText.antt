-- TaskText: how a task is named in what is printed.
-- This project's own names; a task is found by the turns on the way to it, as a node of a binary tree is.
use Rattle.std.specs.Prelude.{◌++◌, codes}
use Rattle.std.specs.List.{flat_map}
use Rattle.sf_base.specs.declared.path.Turn.{Turn}
use Rattle.sf_base.specs.declared.path.Turn.TheVariants.{Left as left, Right as right}
use Rattle.sf_core.specs.Machine.Config.{Path}
use Rattle.sf_words.specs.Words.{Text}

-- a turn: a dot, and which of the two calls of a parallel call the task runs
abbrev pub turn_text : Turn → Text
turn_text left = codes ".1"
turn_text right = codes ".2"

-- a task, by the turns on the way to it from the entry's task, which is 0
abbrev pub task_text : Path → Text
task_text path = codes "0" ++ flat_map turn_text path
