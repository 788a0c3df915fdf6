use Rattle.std.proofs.Common.{◌≡◌, drop, length, ◌++◌}
use Rattle.sf_base.specs.declared.ids.Var.TheVariants.{Own}
use Rattle.sf_base.specs.declared.limits.TheConstants.{OWN_VARIABLES}
use Rattle.sf_elab.specs.Names.Declarations.{numbered, numbered_faults}
use Rattle.sf_elab.proofs.declarations.declare_own.Given as goal

-- those so far and those of what is left are all
abbrev pub invariant-loop-word : goal.invariant-loop-word
invariant-loop-word l = record {
  declared : l.declared ++ drop l.word-index l.words ≡ l.fn.declared ++ l.words;
  table : numbered l.bytes Own (length l.declared) (drop l.word-index l.words) l.own ≡ numbered l.bytes Own (length l.fn.declared) l.words l.fn.own;
  faults : l.found.items ++ numbered_faults l.bytes OWN_VARIABLES Own (length l.declared) (drop l.word-index l.words) l.own ≡ l.fn.found.items ++ numbered_faults l.bytes OWN_VARIABLES Own (length l.fn.declared) l.words l.fn.own;
}
