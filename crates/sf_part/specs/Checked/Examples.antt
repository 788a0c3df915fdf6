-- Worked examples of the events of parts: one of each kind that there is, and what there isn't.
-- Small programs and small numbers, as one would do by hand.
use Rattle.std.specs.Prelude.{◌≡◌, ℕ, true, false, cond, List, [], ◌∷◌, map, Some, None, ◌==◌}
use Rattle.sf_base.specs.declared.path.Turn.TheVariants.{Left as left, Right as right}
use Rattle.sf_base.specs.declared.value.Value.{Value}
use Rattle.sf_base.specs.declared.value.Value.TheVariants.{Nil as nil, Loc as loc}
use Rattle.sf_base.specs.HeapStore.{Heap, Store, shared, own, same_slot}
use Rattle.sf_core.specs.declared.assertion.Test.TheVariants.{Equal}
use Rattle.sf_core.specs.declared.command.Expr.TheVariants.{Nil}
use Rattle.sf_core.specs.Checked.Machine.Examples.{at_own, calls, event, forking, guarded, here, lock, one_in, shared_one, skip}
use Rattle.sf_core.specs.Checked.Machine.WholeExamples.{cell_at, nils, range}
use Rattle.sf_core.specs.Machine.Config.{Item, command, leave, Frame, Path, Common}
use Rattle.sf_core.specs.Machine.Start.{entry_slot}
use Rattle.sf_core.specs.Machine.Step.{Event, arguments, callee_frame, open_room, room_count, room_for}
use Rattle.sf_core.specs.Machine.Whole.{Range, Stand, running, waiting, Part, numbers, Content}
use Rattle.sf_core.specs.Program.Syntax.{assign, fork, with, done}
use Rattle.sf_part.specs.Given.{IsContentOf}
use Rattle.sf_part.specs.Steps.{common_of, Private, Enters, Exits, Forks, Joins}
use Rattle.sf_part.specs.Timed.{Stamped, TimedPart, TimedContent}

-- a frame of the first procedure that has that to do
abbrev pub frame : List Item → Frame
frame todo = record {
  fixed = record {
    procedure = record { 0 = 0 };
    slots = entry_slot;
    room = record { event = 0; first = 0; count = 1 };
  };
  todo = todo;
}

-- the part of a left child that stands so, with these slots and units
abbrev pub left_part : Stand → Store → List Range → Part
left_part stand store supply = record {
  task = left ∷ [];
  stand = stand;
  heap = λ location. None;
  store = store;
  holds = λ r. false;
  supply = supply;
}

-- the part of a left child whose one frame has that to do
abbrev pub doing : List Item → Store → List Range → Part
doing todo store supply = left_part (running (frame todo ∷ [])) store supply

-- the same with a clock and a log
abbrev pub timed : Part → (clock : ℕ) → List Stamped → TimedPart
timed part clock log = record { part = part; clock = clock; keeps = true; log = log; given = 9 }

-- the left child's event with that stamp and number
abbrev pub noted_at : (stamp number : ℕ) → Stamped
noted_at stamp number = record { stamp = stamp; task = left ∷ []; number = number }

-- no slot
abbrev pub no_slots : Store
no_slots = λ slot. None

-- x = nil;
abbrev pub assigns : List Item
assigns = command (assign here (at_own 0) Nil) ∷ []

-- its part, at clock 3, with the units 5 and 6
abbrev pub assigning : TimedPart
assigning = timed (doing assigns (one_in (loc 1)) (range 5 2)) 3 []

-- after event 5 the variable is nil, 6 is left, and the log has the event with the clock
abbrev pub assigned : TimedPart
assigned = timed (doing [] (λ slot. cond (same_slot slot (own 0 0)) (Some nil)
    (one_in (loc 1) slot)) (range 6 1)) 4
    (noted_at 4 5 ∷ [])

-- that is a private event
unfoldable pub AssigningIsPrivate : Type 0
AssigningIsPrivate = Private forking (event (left ∷ []) 5) assigning assigned

-- it has no other number
unfoldable pub OtherNumbersAreNotTaken : Type 0
OtherNumbersAreNotTaken = (path : Path) (b : TimedPart) → Private forking (event path 6) assigning b
    → ⊥

-- without units there is none
unfoldable pub SpentPartsHaveNoEvent : Type 0
SpentPartsHaveNoEvent = (ev : Event) (b : TimedPart)
    → Private forking ev (timed (doing assigns (one_in (loc 1)) []) 3 []) b → ⊥

-- nor where the variable isn't the part's
unfoldable pub OthersVariablesAreNotWritten : Type 0
OthersVariablesAreNotWritten = (ev : Event) (b : TimedPart)
    → Private forking ev (timed (doing assigns no_slots (range 5 2)) 3 []) b → ⊥

-- nor where the log lacks it
unfoldable pub EventsAreLogged : Type 0
EventsAreLogged = (ev : Event) (b : TimedPart) → b.log ≡ [] → Private forking ev assigning b → ⊥

-- with lock when (v == nil) { }
abbrev pub enters : List Item
enters = command (with here lock (Equal shared_one Nil) done) ∷ []

-- its part, at clock 3, with the units 5 and 6
abbrev pub entering : TimedPart
entering = timed (doing enters no_slots (range 5 2)) 3 []

-- the resource's variable alone
abbrev pub shared_slot : Value → Store
shared_slot v = λ slot. cond (same_slot slot (shared lock 0)) (Some v) None

-- the content of the resource with that value and stamp
abbrev pub content : Value → (stamp : ℕ) → TimedContent
content v stamp = record {
  content = record { resource = lock; heap = λ location. None; store = shared_slot v };
  stamp = stamp;
}

-- inside of the region, with the content, at a clock after the content's stamp
abbrev pub inside : TimedPart
inside = timed (record (doing (leave lock ∷ []) (shared_slot nil) (range 6 1))
    { holds = λ r. r.0 == 0 }) 10
    (noted_at 10 5 ∷ [])

-- the entry leads there
unfoldable pub EntersWithContent : Type 0
EntersWithContent = Enters forking (event (left ∷ []) 5) entering (content nil 9) inside

-- there is no entry where the condition is false of the content
unfoldable pub FalseConditionsAreNotEntered : Type 0
FalseConditionsAreNotEntered = (ev : Event) (b : TimedPart)
    → Enters forking ev entering (content (loc 1) 9) b → ⊥

-- nor one whose clock goes on from the task's own alone
unfoldable pub EntriesComeAfterContents : Type 0
EntriesComeAfterContents = (ev : Event) (b : TimedPart) → b.clock ≡ 4
    → Enters forking ev entering (content nil 9) b
    → ⊥

-- outside again, without the content and without units
abbrev pub outside : TimedPart
outside = timed (doing [] no_slots []) 11 (noted_at 10 5 ∷ noted_at 11 6 ∷ [])

-- the exit leads there, and the content has its stamp
unfoldable pub ExitsWithContent : Type 0
ExitsWithContent = Exits forking (event (left ∷ []) 6) inside (content nil 11) outside

-- it hasn't that of an earlier event
unfoldable pub ContentsGetTheExitsStamp : Type 0
ContentsGetTheExitsStamp = (ev : Event) (b : TimedPart) → Exits forking ev inside (content nil 10) b
    → ⊥

-- of resource lock (v) [v |->]: these slots and cells
abbrev pub of_lock : Store → Heap → Content
of_lock store heap = record { resource = lock; heap = heap; store = store }

-- its variable at location 1, with the cell there, is just its content
unfoldable pub JustTheContentIsGiven : Type 0
JustTheContentIsGiven = IsContentOf guarded (of_lock (shared_slot (loc 1)) (cell_at 1))

-- without the cell it isn't
unfoldable pub MissingCellsAreNotGiven : Type 0
MissingCellsAreNotGiven = IsContentOf guarded (of_lock (shared_slot (loc 1)) (λ location. None)) → ⊥

-- nor with another one beside it
unfoldable pub MoreCellsAreNotGiven : Type 0
MoreCellsAreNotGiven = IsContentOf guarded
    (of_lock (shared_slot (loc 1)) (λ location. cond (location == 1) (Some nils)
    (cell_at 2 location))) → ⊥

-- nor without the variable
unfoldable pub KeptVariablesAreNotGiven : Type 0
KeptVariablesAreNotGiven = IsContentOf guarded (of_lock no_slots (cell_at 1)) → ⊥

-- skip() || skip();
abbrev pub forks : List Item
forks = command (fork here (calls 1 []) (calls 1 [])) ∷ []

-- its part, at clock 3, with so many units from 5 on
abbrev pub forker : (count : ℕ) → TimedPart
forker count = timed (doing forks no_slots (range 5 count)) 3 []

-- what is shared after its event: the children have no variables
abbrev pub opened : Common
opened = open_room (room_for skip 5 (room_count skip)) (arguments entry_slot no_slots (calls 1 []))
    (open_room (room_for skip 5 0) (arguments entry_slot no_slots (calls 1 []))
    (common_of (forker 5).part))

-- the parent waits, without units
abbrev pub forked : TimedPart
forked = timed (left_part (waiting (frame [] ∷ [])) opened.store []) 4 (noted_at 4 5 ∷ [])

-- a child at that path, whose slots would begin there, with the units from there on
abbrev pub child : Path → (slots first : ℕ) → TimedPart
child path slots first = record {
  part = record {
    task = path;
    stand = running (callee_frame entry_slot (calls 1 []) skip (room_for skip 5 slots) ∷ []);
    heap = λ location. None;
    store = no_slots;
    holds = λ r. false;
    supply = range first 2;
  };
  clock = 4;
  keeps = true;
  log = [];
  given = 2;
}

-- of five units the fork takes 5, the left child has 6 and 7, and the right one 8 and 9
unfoldable pub ForksInHalves : Type 0
ForksInHalves = Forks forking (event (left ∷ []) 5) (forker 5) forked (child (left ∷ left ∷ []) 0 6)
    (child (left ∷ right ∷ []) (room_count skip) 8)

-- no other units are theirs
unfoldable pub HalvesAreExact : Type 0
HalvesAreExact = (ev : Event) (b one two : TimedPart) → Forks forking ev (forker 5) b one two
    → (numbers one.part.supply ≡ 6 ∷ 7 ∷ []) × (numbers two.part.supply ≡ 8 ∷ 9 ∷ [])

-- of four units the left child has one, and the right one two
unfoldable pub LeftHalvesAreRoundedDown : Type 0
LeftHalvesAreRoundedDown = (ev : Event) (b one two : TimedPart)
    → Forks forking ev (forker 4) b one two
    → (numbers one.part.supply ≡ 6 ∷ []) × (numbers two.part.supply ≡ 7 ∷ 8 ∷ [])

-- a join takes the first unit that the left child has left, and what the right one has left comes
-- last
unfoldable pub JoinsTakeTheLeftUnitsFirst : Type 0
JoinsTakeTheLeftUnitsFirst = (ev : Event) (a one two b : TimedPart) → Joins forking ev a one two b
    → numbers one.part.supply ≡ 6 ∷ 7 ∷ [] → numbers two.part.supply ≡ 9 ∷ []
    → (ev.number ≡ 6) × (numbers b.part.supply ≡ 7 ∷ 9 ∷ [])

-- it comes after all that its children did, and their logs are kept, the left one's first
unfoldable pub JoinsKeepLogsInOrder : Type 0
JoinsKeepLogsInOrder = (ev : Event) (a one two b : TimedPart) → Joins forking ev a one two b
    → a.clock ≡ 4 → one.clock ≡ 6 → two.clock ≡ 9 → a.keeps ≡ true → a.log ≡ noted_at 4 5 ∷ []
    → one.log ≡ noted_at 6 6 ∷ [] → two.log ≡ noted_at 9 8 ∷ []
    → (b.clock ≡ 10) × (map (λ (s : Stamped). s.stamp) b.log ≡ 4 ∷ 6 ∷ 9 ∷ 10 ∷ [])
