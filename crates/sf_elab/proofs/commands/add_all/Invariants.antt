use Rattle.std.proofs.Common.{◌≡◌, drop, ◌++◌}
use Rattle.sf_elab.proofs.commands.add_all.Given as goal

-- those so far and those that are left are all
abbrev pub invariant-loop-word : goal.invariant-loop-word
invariant-loop-word l = l.words.items ++ drop l.word-index l.more ≡ l.initial.words.items ++ l.more
