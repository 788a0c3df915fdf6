-- The stand that a check has come to: its open goals are a stack, of which the last is the next.
-- Ordinary: a list in place of a stack.
use Rattle.sf_check.specs.declared.proving.Stand.{Stand as CodeStand}
use Rattle.sf_check.specs.Stand.{Stand}
use Rattle.sf_rules.specs.Checked.Children.{stack_of}

-- the stand
abbrev pub stand_of : CodeStand → Stand
stand_of s = record { begun = s.begun; goals = stack_of s.goals.items }
