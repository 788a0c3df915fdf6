-- What is kept of the next steps of tasks from one configuration to the next.
-- Ordinary: a list compared with the one before it.
use Rattle.std.specs.Prelude.{◌≡◌, ◌⊎◌, List, [], ◌∷◌, None}
use Rattle.sf_replay.specs.Checked.Looks.{Seen, meeting}

-- one of these is that
abbrev pub IsAmong : List Seen → Seen → Type 0
IsAmong [] l = ⊥
IsAmong (m ∷ ms) l = (l ≡ m) ⊎ IsAmong ms l

-- its step conflicts with that of none of these which is another task's
abbrev pub MeetsNone : Seen → List Seen → Type 0
MeetsNone l [] = Unit {0}
MeetsNone l (m ∷ ms) = ((m.path ≡ l.path) ⊎ (meeting l m ≡ None)) × MeetsNone l ms

-- each of these was there before, or is at no absent cell and conflicts with none of all
abbrev pub AreStillFine : (before all : List Seen) → List Seen → Type 0
AreStillFine before all [] = Unit {0}
AreStillFine before all (l ∷ ls) = (IsAmong before l ⊎ ((l.absent ≡ None) × MeetsNone l all))
    × AreStillFine before all ls
