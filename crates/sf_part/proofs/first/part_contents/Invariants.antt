use Rattle.sf_core.specs.Program.ProgramView.{program_of}
use Rattle.sf_part.specs.Checked.Parting.{ArePartedOff}
use Rattle.sf_part.proofs.first.part_contents.Given as goal

-- those of so many resources are parted off
abbrev pub invariant-loop-number : goal.invariant-loop-number
invariant-loop-number l = ArePartedOff (program_of l.p).resources l.parts l.number l.initial.shared
    l.contents.items l.shared
