use Rattle.std.proofs.Common.{◌≡◌, ℕ, ◌-◌, ◌<◌, ◌≤◌, map, take, Some, false, get_or, vec_capacity}
use Rattle.std.specs.Mem.Slots.{slots_filled, slots_items, slots_len}
use Rattle.std.specs.Mem.Slots.Ownership.{Filled}
use Rattle.sf_region.proofs.regions.drained.Given as goal

abbrev pub invariant-loop-i : goal.invariant-loop-i
invariant-loop-i l = (slots_items l.rest.slots ≡ slots_items l.fn.closed.slots)
    × (slots_len l.rest.slots ≡ slots_len l.fn.closed.slots)
    × (map Some l.contents.items ≡ take l.i (slots_items l.fn.closed.slots))
    × (vec_capacity l.fn.home ≤ vec_capacity l.contents)
    × (l.i ≤ slots_len l.fn.closed.slots)
    × Filled (slots_filled l.rest.slots) l.i (slots_len l.rest.slots)
    × ((k : ℕ) → k < l.i → get_or (slots_filled l.rest.slots) k false ≡ false)

abbrev pub decreases-loop-i : goal.decreases-loop-i
decreases-loop-i l = slots_len l.rest.slots - l.i
