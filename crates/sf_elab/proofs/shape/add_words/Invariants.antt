use Rattle.std.proofs.Common.{◌≡◌, drop, map, ◌++◌}
use Rattle.sf_elab.specs.declared.fault.Fault.TheVariants.{InitShape}
use Rattle.sf_elab.proofs.shape.add_words.Given as goal

-- those so far and those of what is left are all
abbrev pub invariant-loop-word : goal.invariant-loop-word
invariant-loop-word l = l.found.items ++ map (λ w. InitShape w.place) (drop l.word-index l.words) ≡ l.initial.found.items ++ map (λ w. InitShape w.place) l.words
