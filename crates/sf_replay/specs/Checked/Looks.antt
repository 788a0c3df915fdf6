-- What is known of the next step of each task, and what is found in it.
-- Ordinary: the first in a list, and the least of a list.
use Rattle.std.specs.Prelude.{◌≡◌, ◌==◌, ◌&&◌, ℕ, Bool, false, if◌then◌else◌, Option, Some, None, List, [], ◌∷◌, MatchOption}
use Rattle.std.specs.List.{list_any}
use Rattle.sf_base.specs.declared.ids.Thing.{Thing}
use Rattle.sf_base.specs.declared.ids.Thing.TheVariants.{Shared, Own, At}
use Rattle.sf_base.specs.declared.value.Value.{Value}
use Rattle.sf_core.specs.Machine.Config.{Path, Config}
use Rattle.sf_machine.specs.Absent.{IsAtAbsent}
use Rattle.sf_machine.specs.Accessing.{AreAccesses, thing_of}
use Rattle.sf_replay.specs.declared.found.Found.{Found}
use Rattle.sf_replay.specs.declared.found.Found.TheVariants.{Absent, Race}
use Rattle.sf_replay.specs.declared.look.Look.{Look}
use Rattle.sf_replay.specs.Order.{thing_before}

-- what is known of the next step of a task: whose it is, the value at which it looks for a cell where there is none,
-- and what it reads and writes
pub record Seen : Type 0 where
  pub path : Path
  pub absent : Option Value
  pub reads : List Thing
  pub writes : List Thing

-- what the code knows
abbrev pub seen_of : Look → Seen
seen_of l = record
    { path = l.path; absent = l.absent; reads = l.accesses.reads.items; writes = l.accesses.writes.items }

-- it is what is known of the next step of the task at the path
pub record IsLook (c : Config) (path : Path) (look : Seen) : Type 0 where
  pub path_is : look.path ≡ path
  pub absent : MatchOption look.absent ((v : Value) → IsAtAbsent c path v → ⊥) (IsAtAbsent c path)
  pub accesses : AreAccesses c path look.reads look.writes

-- they are what is known of the next steps of the tasks at the paths
abbrev pub AreLooks : Config → List Path → List Seen → Type 0
AreLooks c [] [] = Unit {0}
AreLooks c [] (l ∷ ls) = ⊥
AreLooks c (p ∷ ps) [] = ⊥
AreLooks c (p ∷ ps) (l ∷ ls) = IsLook c p l × AreLooks c ps ls

-- the two are one thing
abbrev pub same_thing : Thing → Thing → Bool
same_thing (Shared r i) (Shared s j) = (r.0 == s.0) && (i == j)
same_thing (Shared r i) (Own t) = false
same_thing (Shared r i) (At m) = false
same_thing (Own s) (Shared r j) = false
same_thing (Own s) (Own t) = (s.event == t.event) && (s.index == t.index)
same_thing (Own s) (At m) = false
same_thing (At l) (Shared r j) = false
same_thing (At l) (Own t) = false
same_thing (At l) (At m) = l == m

-- the thing is among these
abbrev pub is_among : List Thing → Thing → Bool
is_among things x = list_any (λ y. same_thing y x) things

-- the one that comes first of the least so far and another
abbrev pub lesser : Option Thing → Thing → Thing
lesser None x = x
lesser (Some y) x = if thing_before (thing_of x) (thing_of y) then x else y

-- the least so far, once a thing was looked at
abbrev pub improved : Option Thing → Thing → (among : List Thing) → Option Thing
improved least x among = if is_among among x then Some (lesser least x) else least

-- the least of what is the least so far, and of these that are among those
abbrev pub least_in : Option Thing → (of among : List Thing) → Option Thing
least_in least [] among = least
least_in least (x ∷ xs) among = least_in (improved least x among) xs among

-- the first thing on which two steps conflict
abbrev pub meeting : Seen → Seen → Option Thing
meeting l m = least_in (least_in (least_in None l.writes m.reads) l.writes m.writes) l.reads m.writes

-- that path and thing, or else the others
abbrev pub partner_or : Path → Option Thing → Option (Path × Thing) → Option (Path × Thing)
partner_or path None rest = rest
partner_or path (Some x) rest = Some (path, x)

-- the first of these whose step conflicts with the one's, and the first thing on which it does
abbrev pub partner_in : Seen → List Seen → Option (Path × Thing)
partner_in l [] = None
partner_in l (m ∷ ms) = partner_or m.path (meeting l m) (partner_in l ms)

-- that path with those, or else the others
abbrev pub race_or : Path → Option (Path × Thing) → Option (Path × Path × Thing) → Option (Path × Path × Thing)
race_or path None rest = rest
race_or path (Some found) rest = Some (path, found.0, found.1)

-- the first pair of these whose steps conflict, and the first thing on which they do
abbrev pub race_in : List Seen → Option (Path × Path × Thing)
race_in [] = None
race_in (l ∷ ls) = race_or l.path (partner_in l ls) (race_in ls)

-- that path and value, or else the others
abbrev pub absent_or : Path → Option Value → Option (Path × Value) → Option (Path × Value)
absent_or path None rest = rest
absent_or path (Some v) rest = Some (path, v)

-- the first of these that is at an absent cell, and the value at which it looks for one
abbrev pub absent_in : List Seen → Option (Path × Value)
absent_in [] = None
absent_in (l ∷ ls) = absent_or l.path l.absent (absent_in ls)

-- the one, or else the other, after so many events
abbrev pub found_or : ℕ → Option (Path × Value) → Option (Path × Path × Thing) → Option Found
found_or number (Some a) race = Some (Absent number a.0 a.1)
found_or number None (Some r) = Some (Race number r.0 r.1 r.2)
found_or number None None = None

-- what is found in these after so many events
abbrev pub found_in : ℕ → List Seen → Option Found
found_in number looks = found_or number (absent_in looks) (race_in looks)
