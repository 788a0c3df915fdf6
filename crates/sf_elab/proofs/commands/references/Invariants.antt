use Rattle.std.proofs.Common.{◌≡◌, drop, map, ◌++◌}
use Rattle.sf_elab.specs.Bodies.Commands.{all_faults}
use Rattle.sf_elab.specs.Names.InEnv.{env_of, occurrence, variable_faults}
use Rattle.sf_elab.proofs.commands.references.Given as goal

-- those so far and those of what is left are all
abbrev pub invariant-loop-word : goal.invariant-loop-word
invariant-loop-word l = record {
  same : l.done.items ++ map (occurrence (env_of l.env)) (drop l.word-index l.words) ≡ map (occurrence (env_of l.env)) l.words;
  faults : l.found.items ++ all_faults (variable_faults (env_of l.env)) (drop l.word-index l.words) ≡ l.fn.found.items ++ all_faults (variable_faults (env_of l.env)) l.words;
}
