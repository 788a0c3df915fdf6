-- The tasks of a configuration, by their paths.
-- Ordinary: the nodes of a tree in preorder.
use Rattle.std.specs.Prelude.{List, [], ◌∷◌, ◌++◌, map}
use Rattle.sf_base.specs.declared.path.Turn.TheVariants.{Left as left, Right as right}
use Rattle.sf_core.specs.Machine.Config.{Task, runs, waits, Path}

-- the paths of all tasks of a tree, where a child of a fork begins with that turn
abbrev pub paths_below : List Path → List Path → List Path
paths_below one two = map (λ path. left ∷ path) one ++ map (λ path. right ∷ path) two

-- the paths of all tasks of a tree: that of a task comes before those of its children, and those of the left child
-- and below it before those of the right one
abbrev pub paths_of : Task → List Path
paths_of (runs frames) = [] ∷ []
paths_of (waits frames one two) = [] ∷ paths_below (paths_of one) (paths_of two)
