use Rattle.std.proofs.Common.{◌≡◌, drop, ◌++◌}
use Rattle.sf_elab.specs.Annotations.Flat.{words_in_fields}
use Rattle.sf_elab.proofs.flat.add_fields.Given as goal

-- those so far and those of what is left are all
abbrev pub invariant-loop-field : goal.invariant-loop-field
invariant-loop-field l = l.words.items ++ words_in_fields (drop l.field-index l.fields) ≡ l.initial.words.items ++ words_in_fields l.fields
