use Rattle.std.proofs.Common.{◌≡◌, ◌<◌, ℕ, length, slice_get, slice_index_or, unwrap_or}
use Rattle.sf_base.specs.declared.ids.ResId.{ResId}
use Rattle.sf_base.specs.declared.value.Value.TheVariants.{Nil as nil}
use Rattle.sf_base.specs.HeapStore.{shared}
use Rattle.sf_core.specs.Program.Formed.{variable_count}
use Rattle.sf_core.specs.Program.ProgramView.{program_of}
use Rattle.sf_foot.specs.Variables.{values_or_none}
use Rattle.sf_frame.specs.Stores.{store_of}
use Rattle.sf_part.proofs.children.shared_rows.Given as goal

-- the rows so far
abbrev pub invariant-loop-number : goal.invariant-loop-number
invariant-loop-number l = (length l.rows.items ≡ l.number)
    × ((r : ResId) (i : ℕ) → r.0 < l.number
    → i < variable_count (slice_get (program_of l.p).resources r.0)
    → slice_index_or (values_or_none (slice_get l.rows.items r.0)) i nil
    ≡ unwrap_or (store_of l.store (shared r i)) nil)
