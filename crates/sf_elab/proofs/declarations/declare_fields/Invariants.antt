use Rattle.std.proofs.Common.{◌≡◌, drop, length, ◌++◌}
use Rattle.sf_base.specs.declared.limits.TheConstants.{FIELDS}
use Rattle.sf_elab.specs.Names.Declarations.{nth_field, numbered, numbered_faults}
use Rattle.sf_elab.proofs.declarations.declare_fields.Given as goal

-- those so far and those of what is left are all
abbrev pub invariant-loop-word : goal.invariant-loop-word
invariant-loop-word l = record {
  table : numbered l.bytes nth_field (length l.declared) (drop l.word-index l.words) l.fields ≡ numbered l.bytes nth_field 0 l.words l.fn.fields;
  faults : l.found.items ++ numbered_faults l.bytes FIELDS nth_field (length l.declared) (drop l.word-index l.words) l.fields ≡ l.fn.found.items ++ numbered_faults l.bytes FIELDS nth_field 0 l.words l.fn.fields;
}
