use Rattle.std.proofs.Common.{◌≡◌, ◌++◌, codes, drop}
use Rattle.sf_core.specs.Program.ProgramView.{program_of}
use Rattle.sf_report.specs.Pieces.{joined, numbered_text}
use Rattle.sf_report.proofs.pieces.put_atoms.Given as goal

abbrev pub invariant-loop-a : goal.invariant-loop-a
invariant-loop-a l =
    l.initial.text.items ++ joined (numbered_text (program_of l.p)) (codes " ") (codes ", ") l.atoms
    ≡ l.text.items ++ joined (numbered_text (program_of l.p)) l.before (codes ", ") (drop l.a-index l.atoms)
