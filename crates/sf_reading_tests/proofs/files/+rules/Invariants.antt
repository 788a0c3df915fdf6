use Rattle.std.proofs.Common.{◌+◌}
use Rattle.sf_reading_tests.proofs.files.+rules.Given as goal

abbrev pub decreases-ends_of_rule : goal.decreases-ends_of_rule
decreases-ends_of_rule l = l.fuel + l.fuel

abbrev pub decreases-ends_of_parts : goal.decreases-ends_of_parts
decreases-ends_of_parts l = l.fuel + l.fuel + 1
