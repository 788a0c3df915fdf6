use Rattle.std.proofs.Common.{◌≡◌, ◌++◌, drop}
use Rattle.std.specs.List.{flat_map}
use Rattle.sf_core.specs.Program.ProgramView.{program_of}
use Rattle.sf_cli.specs.Ranked.{cycle_word}
use Rattle.sf_cli.proofs.ranking.put_words.Given as goal

-- those so far and those that are left are all
abbrev pub invariant-loop-r : goal.invariant-loop-r
invariant-loop-r l =
    l.text.items ++ flat_map (cycle_word (program_of l.p)) (drop l.r-index l.rs)
    ≡ l.initial.text.items ++ flat_map (cycle_word (program_of l.p)) l.rs
