-- Precision: a property that picks out at most one part of each heap.
-- O'Hearn, Yang, Reynolds, "Separation and Information Hiding" (2004).
use Rattle.std.specs.Prelude.{◌≡◌}
use Rattle.sf_base.specs.HeapStore.{Heap, Splits}

-- of each heap at most one part has the property
abbrev pub IsPrecise : (Heap → Type 0) → Type 0
IsPrecise P = (heap one two other another : Heap) → Splits heap one other → Splits heap two another → P one
    → P two → one ≡ two
