-- Laws of entries, of starts and of a state's text, in words of their own.
-- Ordinary: a format has one reading, and what is written is read back, as of any printer and its
-- parser.
use Rattle.std.specs.Prelude.{◌≡◌, ◌↔◌, ◌⊎◌, ◌≤◌, ℕ, Bool, false, List, ◌++◌, Some, Contains, codes, length, map, slice_get}
use Rattle.std.specs.List.{All, AllZip}
use Rattle.sf_base.specs.declared.ids.ProcId.{ProcId}
use Rattle.sf_base.specs.declared.limits.TheConstants.{STATE_BYTES}
use Rattle.sf_core.specs.Assertions.Determined.{Determined}
use Rattle.sf_core.specs.Program.Formed.{IsFormed}
use Rattle.sf_core.specs.Program.Init.{sets_up}
use Rattle.sf_core.specs.Program.Syntax.{Procedure, Program}
use Rattle.sf_heap.specs.Cells.{Cells}
use Rattle.sf_foot.specs.declared.vars.Vars.{Vars}
use Rattle.sf_precise.specs.Annotations.{annotations_in}
use Rattle.sf_lines.specs.Lines.{Text}
use Rattle.sf_state.specs.declared.fault.StartFault.{StartFault}
use Rattle.sf_state.specs.Entering.{HoldsNone, IsEntry, IsEntryFault}
use Rattle.sf_state.specs.Finishing.{IsFinishText}
use Rattle.sf_state.specs.Starts.{GivesState, IsStartFault, IsStartText}
use Rattle.sf_state.specs.Checked.Written.{AreWritable, HasNames}

-- the name is that of one entry at most, or has one fault at most, and not both
pub record EntersOnce (p : Program) (name : Text) : Type 0 where
  pub entries : (f g : ProcId) → IsEntry p name f → IsEntry p name g → f ≡ g
  pub faults : (d e : StartFault) → IsEntryFault p name d → IsEntryFault p name e → d ≡ e
  pub apart : (f : ProcId) (e : StartFault) → IsEntry p name f → IsEntryFault p name e → ⊥

-- each name is
unfoldable pub EntryIsUnique : Type 0
EntryIsUnique = (p : Program) (name : Text) → EntersOnce p name

-- each name is that of an entry, or has a fault
unfoldable pub EntryExists : Type 0
EntryExists = (p : Program) (name : Text) → IsFormed p
    → ((f : ProcId) × IsEntry p name f) ⊎ ((e : StartFault) × IsEntryFault p name e)

-- each annotation of the program is determined
abbrev pub AreDetermined : Program → Type 0
AreDetermined p = All (λ a. Determined a.level) (annotations_in p)

-- the same values of all variables
pub record SameVars (v w : Vars) : Type 0 where
  pub own : v.own.items ≡ w.own.items
  pub shared : map (λ vs. vs.items) v.shared.items ≡ map (λ vs. vs.items) w.shared.items

-- the same locations, in whatever order
abbrev pub SameLocations : List ℕ → List ℕ → Type 0
SameLocations ls ms = (l : ℕ) → Contains ls l ↔ Contains ms l

-- the text is one start at most, its parts taken as sets of locations, or is refused for one reason
-- at most, and not both
pub record StartsOnce (p : Program) (f : ProcId) (g : Procedure) (text : Text) : Type 0 where
  pub variables : (v w : Vars) (h k : Cells) (ps qs : List (List ℕ)) (t u : ℕ) (m n : Bool) → IsStartText p f g text v h ps t m
      → IsStartText p f g text w k qs u n → SameVars v w
  pub cells : (v w : Vars) (h k : Cells) (ps qs : List (List ℕ)) (t u : ℕ) (m n : Bool) → IsStartText p f g text v h ps t m
      → IsStartText p f g text w k qs u n → h ≡ k
  pub parts : (v w : Vars) (h k : Cells) (ps qs : List (List ℕ)) (t u : ℕ) (m n : Bool) → IsStartText p f g text v h ps t m
      → IsStartText p f g text w k qs u n → AllZip SameLocations ps qs
  pub unit : (v w : Vars) (h k : Cells) (ps qs : List (List ℕ)) (t u : ℕ) (m n : Bool) → IsStartText p f g text v h ps t m
      → IsStartText p f g text w k qs u n → t ≡ u
  pub fresh : (v w : Vars) (h k : Cells) (ps qs : List (List ℕ)) (t u : ℕ) (m n : Bool) → IsStartText p f g text v h ps t m
      → IsStartText p f g text w k qs u n → m ≡ n
  pub faults : (d e : StartFault) → IsStartFault p g text d → IsStartFault p g text e → d ≡ e
  pub apart : (v : Vars) (h : Cells) (ps : List (List ℕ)) (t : ℕ) (m : Bool) (e : StartFault)
      → IsStartText p f g text v h ps t m → IsStartFault p g text e → ⊥

-- each text is, where annotations are determined
unfoldable pub StartIsUnique : Type 0
StartIsUnique = (p : Program) (f : ProcId) (g : Procedure) (text : Text) → AreDetermined p
    → slice_get p.procedures f.0 ≡ Some g → StartsOnce p f g text

-- each text is a start of a procedure that holds no resource and isn't `init`, or is refused
unfoldable pub StartExists : Type 0
StartExists = (p : Program) (f : ProcId) (g : Procedure) (text : Text) → IsFormed p → AreDetermined p
    → slice_get p.procedures f.0 ≡ Some g → HoldsNone p f → sets_up p f ≡ false
    → ((vars : Vars) × (heap : Cells) × (parts : List (List ℕ)) × (unit : ℕ) × (fresh : Bool)
    × IsStartText p f g text vars heap parts unit fresh) ⊎ ((e : StartFault) × IsStartFault p g text e)

-- variables and cells have one text at most
unfoldable pub FinishTextIsUnique : Type 0
FinishTextIsUnique = (p : Program) (g : Procedure) (vars : Vars) (heap : Cells) (text other : Text)
    → IsFinishText p g vars heap text → IsFinishText p g vars heap other → text ≡ other

-- and they have one
unfoldable pub FinishTextExists : Type 0
FinishTextExists = (p : Program) (g : Procedure) (vars : Vars) (heap : Cells)
    → (text : Text) × IsFinishText p g vars heap text

-- the text of such variables and cells reads as these, after the line `finished` too, where it is
-- within the limit
pub record ReadsBack (p : Program) (g : Procedure) (vars : Vars) (heap : Cells) (text : Text) : Type 0 where
  pub alone : length text ≤ STATE_BYTES → GivesState p g text vars heap
  pub after_finished : length (codes "finished\n" ++ text) ≤ STATE_BYTES
      → GivesState p g (codes "finished\n" ++ text) vars heap

-- in a program with names each such text does
unfoldable pub WrittenStatesReadBack : Type 0
WrittenStatesReadBack = (p : Program) (f : ProcId) (g : Procedure) (vars : Vars) (heap : Cells) (text : Text)
    → IsFormed p → HasNames p → slice_get p.procedures f.0 ≡ Some g → AreWritable p g vars heap
    → IsFinishText p g vars heap text → ReadsBack p g vars heap text
