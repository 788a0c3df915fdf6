use Rattle.std.proofs.Common.{◌≡◌, ◌++◌, drop}
use Rattle.sf_core.specs.Program.ProgramView.{program_of}
use Rattle.sf_proof.specs.ProofText.{proof_text, lines_of}
use Rattle.sf_proof.proofs.text.proof_text.Given as goal

abbrev pub invariant-loop-tag : goal.invariant-loop-tag
invariant-loop-tag l =
    proof_text (program_of l.p) l.tags ≡ l.text.items ++ lines_of (program_of l.p) (drop l.tag-index l.tags)
