use Rattle.sf_core.specs.Program.ProgramView.{program_of}
use Rattle.sf_part.specs.PartView.{IsPartOf, part_of}
use Rattle.sf_turns.specs.Checked.Running.{IsAtEntry}
use Rattle.sf_turns.proofs.parts.own_steps.Given as goal

-- the part is the program's, and its task is the entry's, which runs
abbrev pub invariant-loop-count : goal.invariant-loop-count
invariant-loop-count l = IsPartOf (program_of l.fn.p) l.part × IsAtEntry (part_of l.part)
