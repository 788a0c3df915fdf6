use Rattle.std.proofs.Common.{◌-◌, length}
use Rattle.sf_core.specs.Program.ProgramView.{program_of}
use Rattle.sf_part.proofs.setup.+give_from.Given as goal

-- the resources that are left
abbrev pub decreases-give_from : goal.decreases-give_from
decreases-give_from l = length (program_of l.p.now.program).resources - l.r
