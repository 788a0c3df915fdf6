use Rattle.std.proofs.Common.{◌≡◌, ◌++◌, drop, length, map}
use Rattle.std.specs.List.{flat_map}
use Rattle.sf_core.specs.Program.View.{assertion_of, procedure_of}
use Rattle.sf_precise.specs.Annotations.{notes_of}
use Rattle.sf_precise.specs.Checked.Starts.{ends_from}
use Rattle.sf_precise.proofs.annotations.add_annotations.Given as goal

-- those so far and those of what is left are all
abbrev pub invariant-loop-procedure : goal.invariant-loop-procedure
invariant-loop-procedure l = record {
  notes : map (λ a. assertion_of a.now) l.notes.items
      ++ flat_map notes_of (map procedure_of (drop l.procedure-index l.procedures))
      ≡ map (λ a. assertion_of a.now) l.initial.notes.items
      ++ flat_map notes_of (map procedure_of l.procedures);
  ends : l.ends.items
      ++ ends_from (length l.notes.items) (map procedure_of (drop l.procedure-index l.procedures))
      ≡ l.initial.ends.items ++ ends_from (length l.initial.notes.items) (map procedure_of l.procedures);
}
