use Rattle.std.proofs.Common.{◌≡◌, ◌++◌, drop}
use Rattle.std.specs.List.{flat_map}
use Rattle.sf_core.specs.Program.ProgramView.{program_of}
use Rattle.sf_witness.specs.WitnessText.{value_line}
use Rattle.sf_witness.proofs.text.put_lines.Given as goal

abbrev pub invariant-loop-v : goal.invariant-loop-v
invariant-loop-v l =
    l.initial.text.items ++ flat_map (value_line (program_of l.p) l.f) l.vars
    ≡ l.text.items ++ flat_map (value_line (program_of l.p) l.f) (drop l.v-index l.vars)
