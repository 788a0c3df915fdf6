use Rattle.std.proofs.Common.{◌≡◌, ◌<◌, ℕ, length, slice_index_or}
use Rattle.sf_base.specs.declared.ids.Var.TheVariants.{Own}
use Rattle.sf_base.specs.declared.value.Value.TheVariants.{Nil as nil}
use Rattle.sf_frame.specs.Frames.{frame_of}
use Rattle.sf_frame.specs.Stores.{store_of}
use Rattle.sf_part.specs.Checked.Children.{seen_by}
use Rattle.sf_part.proofs.children.own_values.Given as goal

-- the values so far
abbrev pub invariant-loop-i : goal.invariant-loop-i
invariant-loop-i l = (length l.values.items ≡ l.i) × ((n : ℕ) → n < l.i
    → slice_index_or l.values.items n nil
    ≡ seen_by (frame_of l.frame) (store_of l.store) (Own n))
