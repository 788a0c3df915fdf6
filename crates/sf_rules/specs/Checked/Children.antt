-- How the goals that a row leaves are read, and those that are still open.
-- Ordinary: a list by its length.
use Rattle.std.specs.Prelude.{List, [], ◌∷◌, map, reverse}
use Rattle.sf_sym.specs.declared.goal.Goal.{Goal as CodeGoal}
use Rattle.sf_sym.specs.Goal.{Goal, goal_of}
use Rattle.sf_rules.specs.declared.children.Children.{Children}
use Rattle.sf_rules.specs.declared.children.Children.TheVariants.{None, One, Two}

-- the goals that a row leaves, the first first
abbrev pub children_of : Children → List Goal
children_of None = []
children_of (One goal) = goal_of goal ∷ []
children_of (Two first second) = goal_of first ∷ goal_of second ∷ []

-- open goals, by a list that has the next one last
abbrev pub stack_of : List CodeGoal → List Goal
stack_of goals = map goal_of (reverse goals)
