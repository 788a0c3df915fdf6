-- What comes first: of tasks by their paths, and of things that steps read and write.
-- Ordinary: lexicographic orders, where a path stands before those that it is a prefix of.
use Rattle.std.specs.Prelude.{Bool, true, false, ◌&&◌, ◌||◌, ◌==◌, nat_lt, [], ◌∷◌}
use Rattle.sf_base.specs.declared.path.Turn.TheVariants.{Left as left, Right as right}
use Rattle.sf_base.specs.HeapStore.{Slot, shared, own}
use Rattle.sf_core.specs.Machine.Config.{Path}
use Rattle.sf_core.specs.Machine.Enabled.{Thing, variable, cell}

-- the one path comes before the other
abbrev pub path_before : Path → Path → Bool
path_before [] [] = false
path_before [] (turn ∷ other) = true
path_before (turn ∷ path) [] = false
path_before (left ∷ path) (left ∷ other) = path_before path other
path_before (left ∷ path) (right ∷ other) = true
path_before (right ∷ path) (left ∷ other) = false
path_before (right ∷ path) (right ∷ other) = path_before path other

-- the one slot comes before the other: those of resources first, by resource and variable, and then those that
-- events made, by event and index
abbrev pub slot_before : Slot → Slot → Bool
slot_before (shared r i) (shared s j) = nat_lt r.0 s.0 || ((r.0 == s.0) && nat_lt i j)
slot_before (shared r i) (own f j) = true
slot_before (own e i) (shared s j) = false
slot_before (own e i) (own f j) = nat_lt e f || ((e == f) && nat_lt i j)

-- the one thing comes before the other: variables by their slots first, and then cells by their locations
abbrev pub thing_before : Thing → Thing → Bool
thing_before (variable s) (variable t) = slot_before s t
thing_before (variable s) (cell m) = true
thing_before (cell l) (variable t) = false
thing_before (cell l) (cell m) = nat_lt l m
