use Rattle.std.proofs.Common.{◌≡◌, ◌++◌, codes, drop, map}
use Rattle.sf_core.specs.Program.ProgramView.{program_of}
use Rattle.sf_report.specs.Pieces.{joined, numbered_text}
use Rattle.sf_report.proofs.failure.put_taken.Given as goal

abbrev pub invariant-loop-a : goal.invariant-loop-a
invariant-loop-a l =
    l.initial.text.items ++ joined (numbered_text (program_of l.p)) (codes " ") (codes ", ")
    (map (λ a. a.now) l.atoms)
    ≡ l.text.items ++ joined (numbered_text (program_of l.p)) l.before (codes ", ")
    (map (λ a. a.now) (drop l.a-index l.atoms))
