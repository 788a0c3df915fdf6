-- What a task was lent at the fork that made it, it has until its parent joins it.
-- Names: `still-CASE` of a slot after a private event, `some-LAW` and `three-LAW` of slots that one
-- of two or three stores has; each law has the name of its function.
use Rattle.std.specs.Prelude.{◌≡◌, ◌⊎◌, ◌==◌, ◌||◌, ℕ, Bool, true, false, cond, List, [], ◌∷◌, ◌++◌, Option, Some, None, Contains, is_some}
use Rattle.std.proofs.Common.{true≢false, sym, ap, ◌∙◌, refl, subst, inl, inr}
use Rattle.std.proofs.lemmas.Bool.{and_from, or_from, or_parts}
use Rattle.sf_base.proofs.Bools.{and-left, and-right}
use Rattle.sf_base.proofs.Elements.{contains-cons}
use Rattle.sf_base.proofs.MapSplits.{splits-at_left, splits-comm, splits-has_left, splits-lacks_right}
use Rattle.sf_base.proofs.Options.{cond-some, is_some-false}
use Rattle.sf_base.proofs.StoreSplits.{resource-same}
use Rattle.sf_base.specs.declared.ids.ResId.{ResId}
use Rattle.sf_base.specs.declared.value.Value.{Value}
use Rattle.sf_base.specs.HeapStore.{Slot, Splits, Store, own, same_slot}
use Rattle.sf_base.specs.declared.place.Place.{Place}
use Rattle.sf_core.specs.declared.assertion.Test.{Test}
use Rattle.sf_core.specs.declared.command.Expr.{Expr}
use Rattle.sf_core.specs.Machine.Config.{Item, command, leave, items, Room, in_room, Fixed, Frame, Task, runs, waits, Path, Common}
use Rattle.sf_core.specs.Machine.Next.{Next, does, leaves, returns, joins, nothing, frame_next, next}
use Rattle.sf_core.specs.Machine.Step.{Event, room_count, room_for, callee_frame, set_holder, set_slot, task_with, Does, Goes, TaskStep}
use Rattle.sf_core.specs.Machine.Whole.{Part, running, holders, numbers, IsUnion}
use Rattle.sf_core.specs.Program.Formed.{variable_count}
use Rattle.sf_core.specs.Program.Syntax.{Block, Call, Command, assign, look_up, mutate, new, dispose, if, while, call, fork, with, Program}
use Rattle.sf_part.specs.Borrowed.{StillHas, in_both, in_rooms, is_resource_slot}
use Rattle.sf_part.specs.Checked.LawsOfLending.{ContentsAreTheirVariables, EntriesKeepLent, ExitsKeepLent, ForksLend, JoinsBringBack, ParentsGoOn, PrivateEventsKeepLent}
use Rattle.sf_part.specs.Given.{is_variable_of}
use Rattle.sf_part.specs.Keeps.{Keeps}
use Rattle.sf_part.specs.Of.{FramesAreOf, IsOf, StandIsOf, frames_in}
use Rattle.sf_part.specs.Steps.{Exits, Forks, HasChildren, IsLocal, IsPrivate, Joins, common_of}
use Rattle.sf_part.specs.Timed.{TimedPart}
use Rattle.sf_part.specs.Joining.{GoesOnIn}
use Rattle.sf_part.proofs.Beside.{takes-fork, takes-one}
use Rattle.sf_part.specs.Checked.Lemmas.Shapes.{next-shape}
use Rattle.sf_part.proofs.Owned.{frames-grow, goes-frame, room-clear}
use Rattle.sf_part.proofs.Regained.{three-both, three-rest}
use Rattle.sf_part.proofs.Sites.{sites-rest}

-- a value that is put somewhere
set-there : (b : Bool) (v : Value) (o : Option Value) → is_some o ≡ true
    → is_some (cond b (Some v) o) ≡ true
set-there true v o h = refl
set-there false v o h = h

-- a slot that is there is in no room that is absent
not-in : (room : Room) (n : ℕ) (store : Store) → room.event ≡ n
    → ((i : ℕ) → store (own n i) ≡ None) → (slot : Slot) → is_some (store slot) ≡ true
    → in_room room slot ≡ false
not-in room n store e none slot h = go (in_room room slot) refl
  where
    go : (b : Bool) → in_room room slot ≡ b → in_room room slot ≡ false
    go true i =
        absurd (true≢false (sym h ∙ ap is_some (room-clear room n store e none slot i)))
    go false i = i

-- the rooms of the frames of what comes next are those of the task
abbrev next_rooms : Next → Slot → Bool
next_rooms (does f below c rest) slot = in_room f.room slot || in_rooms below slot
next_rooms (leaves f below r rest) slot = in_room f.room slot || in_rooms below slot
next_rooms (returns f below) slot = in_room f.room slot || in_rooms below slot
next_rooms (joins frames one two) slot = in_rooms frames slot
next_rooms nothing slot = false

rooms-next : (frames : List Frame) (slot : Slot) → next_rooms (next (runs frames)) slot
    ≡ in_rooms frames slot
rooms-next [] slot = refl
rooms-next (f ∷ below) slot = go f.todo
  where
    go : (todo : List Item) → next_rooms (frame_next f.fixed below todo) slot
        ≡ in_room f.fixed.room slot || in_rooms below slot
    go [] = refl
    go (command c ∷ rest) = refl
    go (leave r ∷ rest) = refl

-- Still: a task with these frames still has a slot, which is in the room of none of them
record Still (slot : Slot) (s t : Common) (u : Task) : Type 0 where
  frames : List Frame
  is : u ≡ runs frames
  here : is_some (t.store slot) ≡ true
  out : in_rooms frames slot ≡ false
  held : t.held ≡ s.held

module _ (p : Program) (ev : Event) (s t : Common) (u : Task) (slot : Slot)
    (fresh : (i : ℕ) → s.store (own ev.number i) ≡ None) (here : is_some (s.store slot) ≡ true)
  where
    -- a variable gets a value
    still-set : (at : Slot) (v : Value) (frames : List Frame) → t.store ≡ (set_slot at v s).store
        → t.held ≡ s.held → u ≡ runs frames → in_rooms frames slot ≡ false → Still slot s t u
    still-set at v frames e held is out = record {
      frames = frames;
      is = is;
      here = ap (λ (z : Store). is_some (z slot)) e
          ∙ set-there (same_slot slot at) v (s.store slot) here;
      out = out;
      held = held;
    }

    -- the variables stay
    still-same : (frames : List Frame) → t.store ≡ s.store → t.held ≡ s.held → u ≡ runs frames
        → in_rooms frames slot ≡ false → Still slot s t u
    still-same frames e held is out = record {
      frames = frames;
      is = is;
      here = ap (λ (z : Store). is_some (z slot)) e ∙ here;
      out = out;
      held = held;
    }

    still-does : (f : Fixed) (below : List Frame) (c : Command) (rest : List Item) → IsLocal c
        → in_room f.room slot || in_rooms below slot ≡ false → Does p ev s f below c rest t u
        → Still slot s t u
    still-does f below (assign q x e) rest l out d =
        still-set (f.slots x.var) _ (record { fixed = f; todo = rest } ∷ below)
        (ap (λ (z : Common). z.store) d.0) (ap (λ (z : Common). z.held) d.0) d.1 out
    still-does f below (look_up q x e k) rest l out d =
        still-set (f.slots x.var) _ (record { fixed = f; todo = rest } ∷ below)
        (ap (λ (z : Common). z.store) d.3) (ap (λ (z : Common). z.held) d.3) d.4 out
    still-does f below (mutate q e k v) rest l out d =
        still-same (record { fixed = f; todo = rest } ∷ below)
        (ap (λ (z : Common). z.store) d.3) (ap (λ (z : Common). z.held) d.3) d.4 out
    still-does f below (new q x) rest l out d =
        still-set (f.slots x.var) _ (record { fixed = f; todo = rest } ∷ below)
        (ap (λ (z : Common). z.store) d.2) (ap (λ (z : Common). z.held) d.2) d.3 out
    still-does f below (dispose q e) rest l out d =
        still-same (record { fixed = f; todo = rest } ∷ below)
        (ap (λ (z : Common). z.store) d.3) (ap (λ (z : Common). z.held) d.3) d.4 out
    still-does f below (if q test this that) rest l out d = elim d.1 [
      | inl y ↦ still-same (record { fixed = f; todo = items this ++ rest } ∷ below)
          (ap (λ (z : Common). z.store) d.0) (ap (λ (z : Common). z.held) d.0) y.1 out
      | inr m ↦ still-same (record { fixed = f; todo = items that ++ rest } ∷ below)
          (ap (λ (z : Common). z.store) d.0) (ap (λ (z : Common). z.held) d.0) m.1 out
    ]
    still-does f below (while q test kept body) rest l out d = elim d.1 [
      | inl y ↦ still-same
          (record { fixed = f; todo = items body ++ (command (while q test kept body) ∷ rest) }
          ∷ below) (ap (λ (z : Common). z.store) d.0) (ap (λ (z : Common). z.held) d.0) y.1 out
      | inr m ↦ still-same (record { fixed = f; todo = rest } ∷ below)
          (ap (λ (z : Common). z.store) d.0) (ap (λ (z : Common). z.held) d.0) m.1 out
    ]
    still-does f below (call q c) rest l out d =
        let room = room_for d.0 ev.number 0 in
        record {
          frames = callee_frame f.slots c d.0 room ∷ record { fixed = f; todo = rest } ∷ below;
          is = d.3;
          here = ap (λ (z : Common). is_some (z.store slot)) d.2
              ∙ set-there (in_room room slot) _ (s.store slot) here;
          out = or_from (in_room room slot) (in_room f.room slot || in_rooms below slot)
              (not-in room ev.number s.store refl fresh slot here) out;
          held = ap (λ (z : Common). z.held) d.2;
        }
    still-does f below (fork q c e) rest l out d = absurd l
    still-does f below (with q r test body) rest l out d = absurd l

    still-goes : (f : Fixed) (below : List Frame) (todo : List Item)
        → IsPrivate p (frame_next f below todo)
        → in_room f.room slot || in_rooms below slot ≡ false
        → Goes p ev s (frame_next f below todo) t u → Still slot s t u
    still-goes f below [] l out d =
        let parts = or_parts (in_room f.room slot) (in_rooms below slot) out in
        record {
          frames = below;
          is = d.2;
          here = ap (λ (z : Common). is_some (z.store slot)) d.1
              ∙ ap (λ b. is_some (cond b None (s.store slot))) parts.0 ∙ here;
          out = parts.1;
          held = ap (λ (z : Common). z.held) d.1 ∙ ap (λ b. λ r. cond b None (s.held r)) l;
        }
    still-goes f below (command c ∷ rest) l out d = still-does f below c rest l out d
    still-goes f below (leave r ∷ rest) l out d = absurd l

    still-steps : (frames : List Frame) → IsPrivate p (next (runs frames))
        → in_rooms frames slot ≡ false → TaskStep p ev s (runs frames) t u → Still slot s t u
    still-steps [] l out d = absurd l
    still-steps (f ∷ below) l out d = still-goes f.fixed below f.todo l out d

-- a resource that is held by the same task was held
holder-back : (a b : Part) (r : ResId) → b.holds r ≡ true → holders b r ≡ holders a r
    → a.holds r ≡ true
holder-back a b r h e =
    cond-some (a.holds r) a.task b.task (sym e ∙ ap (λ z. cond z (Some b.task) None) h)

-- the number of an event is among the units that its task had
unit-there : (n : ℕ) (us vs : List ℕ) → us ≡ n ∷ vs → Contains us n
unit-there n us vs e = subst (λ z. Contains z n) (sym e) ((contains-cons n vs n).1 (inl refl))

-- so none of its slots is there
fresh-there : (a : TimedPart) (n : ℕ) → Keeps a → Contains (numbers a.part.supply) n → (i : ℕ)
    → a.part.store (own n i) ≡ None
fresh-there a n k h i = is_some-false (a.part.store (own n i)) ((k.unmade n h).store i)

pub private_events_keep_lent : PrivateEventsKeepLent
unfolding PrivateEventsKeepLent
private_events_keep_lent p event a b lent e k h = record {
  there = λ slot l. (still slot l).here;
  outside = λ slot l.
      let same : e.kept ≡ (still slot l).frames = let is = (still slot l).is in cc in
      ap (λ z. in_rooms (frames_in z) slot) e.acts.to_is
      ∙ ap (λ z. in_rooms z slot) same ∙ (still slot l).out;
  apart = λ slot r l held. h.apart slot r l (holder-back a.part b.part r held
      (ap (λ (f : ResId → Option Path). f r) (still slot l).held));
}
  where
    still : (slot : Slot) → lent slot ≡ true
        → Still slot (common_of a.part) (common_of b.part) (runs e.kept)
    still slot l = still-steps p event (common_of a.part) (common_of b.part) (runs e.kept) slot
        (fresh-there a event.number k (unit-there event.number (numbers a.part.supply)
        (numbers b.part.supply) (takes-one event (next (runs e.frames))
        (numbers a.part.supply) (numbers b.part.supply) e.spends)))
        (h.there slot l) e.frames e.private
        (sym (ap (λ z. in_rooms (frames_in z) slot) e.acts.from_is) ∙ h.outside slot l)
        e.acts.steps

-- Maps of which a slot is in one
-- what a map has, it has with a value
has-value : (x : Store) (slot : Slot) → is_some (x slot) ≡ true → (v : Value) × (x slot ≡ Some v)
has-value x slot h = go (x slot) refl h
  where
    go : (o : Option Value) → x slot ≡ o → is_some o ≡ true → (v : Value) × (x slot ≡ Some v)
    go None e i = absurd (true≢false (sym i))
    go (Some v) e i = (v, e)

some-left : (w x y : Store) (slot : Slot) → Splits w x y → is_some (x slot) ≡ true
    → is_some (w slot) ≡ true
some-left w x y slot s h =
    let (v, e) = has-value x slot h in ap is_some (splits-has_left slot v s e)

some-right : (w x y : Store) (slot : Slot) → Splits w x y → is_some (y slot) ≡ true
    → is_some (w slot) ≡ true
some-right w x y slot s h = some-left w y x slot (splits-comm s) h

-- what the one part has, the other one lacks
left-lacks : (w x y : Store) (slot : Slot) → Splits w x y → is_some (x slot) ≡ true
    → is_some (y slot) ≡ false
left-lacks w x y slot s h =
    let (v, e) = has-value x slot h in ap is_some (splits-lacks_right slot v s e)

-- what the whole has, and the one part lacks, the other one has
some-other : (w x y : Store) (slot : Slot) → Splits w x y → is_some (w slot) ≡ true
    → is_some (y slot) ≡ false → is_some (x slot) ≡ true
some-other w x y slot s h n =
    ap is_some (sym (splits-at_left slot s (is_some-false (y slot) n))) ∙ h

pub entries_keep_lent : EntriesKeepLent
unfolding EntriesKeepLent
entries_keep_lent p event a b k lent e just h = record {
  there = λ slot l. ap (λ (z : Common). is_some (z.store slot)) does_it.2
      ∙ some-left e.both.store a.part.store k.content.store slot e.hand.store (h.there slot l);
  outside = λ slot l.
      ap (λ z. in_rooms (frames_in z) slot) e.acts.to_is
      ∙ ap (λ z. in_rooms z slot) kept_is
      ∙ sym (ap (λ z. next_rooms z slot) is) ∙ rooms-next e.frames slot
      ∙ sym (ap (λ z. in_rooms (frames_in z) slot) (sym e.hand.stand ∙ e.acts.from_is))
      ∙ h.outside slot l;
  apart = λ slot r l held. apart slot r l held (r.0 == k.content.resource.0) refl;
}
  where
    shape : (f : Fixed) × (below : List Frame) × (place : Place) × (test : Test Expr)
        × (body : Block) × (rest : List Item)
        × (next (runs e.frames) ≡ does f below (with place k.content.resource test body) rest)
    shape = e.entry

    is : next (runs e.frames)
        ≡ does shape.0 shape.1 (with shape.2 k.content.resource shape.3 shape.4) shape.5
    is = shape.6

    does_it : Does p event (common_of e.both) shape.0 shape.1
        (with shape.2 k.content.resource shape.3 shape.4) shape.5 (common_of b.part) (runs e.kept)
    does_it = subst (λ z. Goes p event (common_of e.both) z (common_of b.part) (runs e.kept)) is
        e.acts.steps

    kept_is : e.kept ≡ record {
      fixed = shape.0;
      todo = items shape.4 ++ (leave k.content.resource ∷ shape.5);
    } ∷ shape.1
    kept_is = let u = does_it.3 in cc

    holders-now : (r : ResId) → holders b.part r
        ≡ cond (r.0 == k.content.resource.0) (Some event.task) (holders e.both r)
    holders-now r = ap (λ (z : Common). z.held r) does_it.2

    apart : (slot : Slot) (r : ResId) → lent slot ≡ true → b.part.holds r ≡ true → (c : Bool)
        → r.0 == k.content.resource.0 ≡ c → is_resource_slot p r slot ≡ false
    apart slot r l held true i =
        ap (λ z. is_resource_slot p z slot) (resource-same r k.content.resource i)
        ∙ sym (just slot)
        ∙ left-lacks e.both.store a.part.store k.content.store slot e.hand.store (h.there slot l)
    apart slot r l held false i = h.apart slot r l
        (ap (λ (f : ResId → Bool). f r) (sym e.hand.holds) ∙ holder-back e.both b.part r held
        (holders-now r ∙ ap (λ z. cond z (Some event.task) (holders e.both r)) i))

pub contents_are_their_variables : ContentsAreTheirVariables
unfolding ContentsAreTheirVariables
contents_are_their_variables p k h slot = h.variables slot
    ∙ ap (λ z. is_variable_of k.resource (variable_count z) slot) (sym h.there)

pub exits_keep_lent : ExitsKeepLent
unfolding ExitsKeepLent
exits_keep_lent p event a b k lent g h = record {
  there = λ slot l. some-other e.both.store b.part.store k.content.store slot e.hand.store
      (ap (λ (z : Common). is_some (z.store slot)) does_it.1 ∙ h.there slot l) (lacks slot l);
  outside = λ slot l.
      ap (λ z. in_rooms (frames_in z) slot) (sym e.hand.stand ∙ e.acts.to_is)
      ∙ ap (λ z. in_rooms z slot) kept_is
      ∙ sym (ap (λ z. next_rooms z slot) shape.3) ∙ rooms-next e.frames slot
      ∙ sym (ap (λ z. in_rooms (frames_in z) slot) e.acts.from_is) ∙ h.outside slot l;
  apart = λ slot r l held. apart slot r l
      (ap (λ (f : ResId → Bool). f r) e.hand.holds ∙ held) (r.0 == k.content.resource.0) refl;
}
  where
    e : Exits p event a k b
    e = g.exits

    shape : (f : Fixed) × (below : List Frame) × (rest : List Item)
        × (next (runs e.frames) ≡ leaves f below k.content.resource rest)
    shape = e.exit

    does_it : ((common_of a.part).held k.content.resource ≡ Some event.task)
        × (common_of e.both ≡ set_holder k.content.resource None (common_of a.part))
        × (runs e.kept ≡ task_with shape.0 shape.2 shape.1)
    does_it = subst (λ z. Goes p event (common_of a.part) z (common_of e.both) (runs e.kept))
        shape.3 e.acts.steps

    kept_is : e.kept ≡ record { fixed = shape.0; todo = shape.2 } ∷ shape.1
    kept_is = let u = does_it.2 in cc

    -- it holds the resource, so no slot of that was lent
    lacks : (slot : Slot) → lent slot ≡ true → is_some (k.content.store slot) ≡ false
    lacks slot l = g.exactly.variables slot
        ∙ sym (ap (λ z. is_variable_of k.content.resource (variable_count z) slot)
        g.exactly.there)
        ∙ h.apart slot k.content.resource l
        (cond-some (a.part.holds k.content.resource) a.part.task event.task does_it.0)

    holders-now : (r : ResId) → holders e.both r
        ≡ cond (r.0 == k.content.resource.0) None (holders a.part r)
    holders-now r = ap (λ (z : Common). z.held r) does_it.1

    apart : (slot : Slot) (r : ResId) → lent slot ≡ true → e.both.holds r ≡ true → (c : Bool)
        → r.0 == k.content.resource.0 ≡ c → is_resource_slot p r slot ≡ false
    apart slot r l held true i =
        let there : holders e.both r ≡ Some e.both.task =
        ap (λ z. cond z (Some e.both.task) None) held in
        absurd (let n : None ≡ Some e.both.task =
        sym (holders-now r ∙ ap (λ z. cond z None (holders a.part r)) i) ∙ there in cc)
    apart slot r l held false i = h.apart slot r l (holder-back a.part e.both r held
        (holders-now r ∙ ap (λ z. cond z None (holders a.part r)) i))

-- Unions of three
some-which : (w x y : Store) (slot : Slot) → Splits w x y → is_some (w slot) ≡ true
    → (is_some (x slot) ≡ true) ⊎ (is_some (y slot) ≡ true)
some-which w x y slot s h = go (is_some (y slot)) refl
  where
    go : (b : Bool) → is_some (y slot) ≡ b
        → (is_some (x slot) ≡ true) ⊎ (is_some (y slot) ≡ true)
    go true e = inr e
    go false e = inl (some-other w x y slot s h e)

three-which : (w u v x : Store) (slot : Slot) → IsUnion w (u ∷ v ∷ x ∷ [])
    → is_some (w slot) ≡ true
    → (is_some (u slot) ≡ true) ⊎ ((is_some (v slot) ≡ true) ⊎ (is_some (x slot) ≡ true))
three-which w u v x slot s h =
    let (m, i) = three-rest w u v x s in
    elim (some-which w u m slot (three-both w u v x m s i) h) [
      | inl here ↦ inl here
      | inr rest ↦ inr (some-which m v x slot i rest)
    ]

three-some : (w u v x : Store) (slot : Slot) → IsUnion w (u ∷ v ∷ x ∷ [])
    → (is_some (u slot) ≡ true) ⊎ ((is_some (v slot) ≡ true) ⊎ (is_some (x slot) ≡ true))
    → is_some (w slot) ≡ true
three-some w u v x slot s h =
    let (m, i) = three-rest w u v x s in
    let j = three-both w u v x m s i in
    elim h [
      | inl here ↦ some-left w u m slot j here
      | inr rest ↦ some-right w u m slot j (elim rest [
        | inl one ↦ some-left m v x slot i one
        | inr two ↦ some-right m v x slot i two
      ])
    ]

module _ (p : Program) (event : Event) (a b one two : TimedPart) (e : Forks p event a b one two)
    (k : Keeps a) where
  fork_shape : (f : Fixed) × (below : List Frame) × (place : Place) × (c : Call) × (d : Call)
      × (rest : List Item) × (next (runs e.frames) ≡ does f below (fork place c d) rest)
  fork_shape = e.fork

  abbrev command_there : Command
  command_there = fork fork_shape.2 fork_shape.3 fork_shape.4

  forked : Does p event (common_of a.part) fork_shape.0 fork_shape.1 command_there fork_shape.5
      (common_of e.all) (waits e.kept (runs e.left_frames) (runs e.right_frames))
  forked = subst (λ z. Goes p event (common_of a.part) z (common_of e.all)
      (waits e.kept (runs e.left_frames) (runs e.right_frames))) fork_shape.6 e.acts.steps

  abbrev left_room : Room
  left_room = room_for forked.1 event.number 0

  abbrev right_room : Room
  right_room = room_for forked.2 event.number (room_count forked.1)

  left_is : e.left_frames ≡ callee_frame (fork_shape.0).slots fork_shape.3 forked.1 left_room ∷ []
  left_is = let u = forked.6 in cc

  right_is : e.right_frames
      ≡ callee_frame (fork_shape.0).slots fork_shape.4 forked.2 right_room ∷ []
  right_is = let u = forked.6 in cc

  waiting_is : e.kept ≡ record { fixed = fork_shape.0; todo = fork_shape.5 } ∷ fork_shape.1
  waiting_is = let u = forked.6 in cc

  fresh : (i : ℕ) → a.part.store (own event.number i) ≡ None
  fresh = fresh-there a event.number k (unit-there event.number (numbers a.part.supply)
      (numbers one.part.supply ++ numbers two.part.supply)
      (takes-fork event (next (runs e.frames)) (numbers a.part.supply)
      (numbers one.part.supply) (numbers two.part.supply) e.fork e.spends))

  -- each slot is still somewhere
  slot-there : (slot : Slot) → is_some (a.part.store slot) ≡ true
      → is_some (e.all.store slot) ≡ true
  slot-there slot h = ap (λ (z : Common). is_some (z.store slot)) forked.5
      ∙ set-there (in_room right_room slot) _ _
      (set-there (in_room left_room slot) _ (a.part.store slot) h)

  -- and in no room that the fork makes
  callee-out : (room : Room) → room.event ≡ event.number → (frames : List Frame) (f : Frame)
      → f.fixed.room ≡ room → frames ≡ f ∷ [] → (slot : Slot)
      → is_some (a.part.store slot) ≡ true → in_rooms frames slot ≡ false
  callee-out room is frames f its all slot h = ap (λ z. in_rooms z slot) all
      ∙ or_from (in_room f.fixed.room slot) false
      (ap (λ z. in_room z slot) its ∙ not-in room event.number a.part.store is fresh slot h) refl

  child-has : (child : Part) (frames : List Frame) → child.stand ≡ running frames
      → child.holds ≡ (λ r. false)
      → ((slot : Slot) → is_some (a.part.store slot) ≡ true → in_rooms frames slot ≡ false)
      → StillHas p (in_both a.part.store child.store) child
  child-has child frames stand holds out = record {
    there = λ slot l. and-right (is_some (a.part.store slot)) (is_some (child.store slot)) l;
    outside = λ slot l. ap (λ z. in_rooms (frames_in z) slot) stand
        ∙ out slot (and-left (is_some (a.part.store slot)) (is_some (child.store slot)) l);
    apart = λ slot r l held.
        absurd (true≢false (sym held ∙ ap (λ (f : ResId → Bool). f r) holds));
  }

  pub fork-lends : StillHas p (in_both a.part.store one.part.store) one.part
      × StillHas p (in_both a.part.store two.part.store) two.part
  fork-lends = (
    child-has one.part e.left_frames e.left_begins.stand e.children.left_one.holds
        (callee-out left_room refl e.left_frames _ refl left_is),
    child-has two.part e.right_frames e.right_begins.stand e.children.right_one.holds
        (callee-out right_room refl e.right_frames _ refl right_is),
  )

  module _ (ended last : Part) (h : StillHas p (in_both a.part.store one.part.store) ended)
      (i : StillHas p (in_both a.part.store two.part.store) last) where
    -- what the parent had is back
    brings : (all : Part) → HasChildren b.part ended last all → (slot : Slot)
        → is_some (a.part.store slot) ≡ true → is_some (all.store slot) ≡ true
    brings all c slot there =
        three-some all.store b.part.store ended.store last.store slot c.store
        (elim (three-which e.all.store b.part.store one.part.store two.part.store slot
        e.children.store (slot-there slot there)) [
          | inl parent ↦ inl parent
          | inr rest ↦ inr (elim rest [
            | inl x ↦ inl (h.there slot (and_from (is_some (a.part.store slot)) _ there x))
            | inr y ↦ inr (i.there slot (and_from (is_some (a.part.store slot)) _ there y))
          ])
        ])

    pub join-keeps : (later : Event) (one_ended two_ended : TimedPart) (c : TimedPart)
        (lent : Slot → Bool) → one_ended.part ≡ ended → two_ended.part ≡ last
        → StillHas p lent a.part → Joins p later b one_ended two_ended c
        → StillHas p lent c.part
    join-keeps later one_ended two_ended c lent is_one is_two s j = record {
      there = λ slot l. ap (λ (z : Common). is_some (z.store slot)) j.acts.steps.2
          ∙ brings j.all (subst (λ z. HasChildren b.part ended z j.all) is_two
          (subst (λ z. HasChildren b.part z two_ended.part j.all) is_one j.children)) slot
          (s.there slot l);
      outside = λ slot l.
          let same : j.kept ≡ j.frames = let u = j.acts.steps.3 in cc in
          ap (λ z. in_rooms (frames_in z) slot) j.acts.to_is ∙ ap (λ z. in_rooms z slot) same
          ∙ ap (λ z. in_rooms (frames_in z) slot)
          (sym j.acts.from_is ∙ j.children.stand ∙ sym e.children.stand ∙ e.acts.to_is)
          ∙ ap (λ z. in_rooms z slot) waiting_is
          ∙ sym (ap (λ z. next_rooms z slot) fork_shape.6) ∙ rooms-next e.frames slot
          ∙ sym (ap (λ z. in_rooms (frames_in z) slot) e.acts.from_is) ∙ s.outside slot l;
      apart = λ slot r l held.
          let back : j.all.holds r ≡ true = holder-back j.all c.part r held
          (ap (λ (z : Common). z.held r) j.acts.steps.2) in
          s.apart slot r l (holder-back a.part e.all r
          (ap (λ (f : ResId → Bool). f r) (e.children.holds ∙ sym j.children.holds) ∙ back)
          (ap (λ (z : Common). z.held r) forked.5));
    }

    pub parent-goes_on : IsOf p a.part → GoesOnIn p b.part ended last
    parent-goes_on of all c =
        let f = fork_shape.0 in
        let frames : FramesAreOf p a.part.store e.frames =
        subst (StandIsOf p a.part.store) e.acts.from_is of.stands in
        let shaped = subst (FramesAreOf p a.part.store)
        (next-shape e.frames f fork_shape.1 command_there fork_shape.5 fork_shape.6) frames in
        let kept : FramesAreOf p a.part.store
        (record { fixed = f; todo = fork_shape.5 } ∷ fork_shape.1) = (
          goes-frame p a.part.store a.part.store f (command command_there ∷ fork_shape.5)
              fork_shape.5 (λ slot there. there) (sites-rest command_there fork_shape.5) refl
              shaped.0,
          shaped.1,
        ) in
        subst (λ z. FramesAreOf p all.store (frames_in z))
        (sym e.acts.to_is ∙ e.children.stand)
        (subst (FramesAreOf p all.store) (sym waiting_is)
        (frames-grow p a.part.store all.store
        (record { fixed = f; todo = fork_shape.5 } ∷ fork_shape.1) (brings all c) kept))

pub forks_lend : ForksLend
unfolding ForksLend
forks_lend = fork-lends

pub joins_bring_back : JoinsBringBack
unfolding JoinsBringBack
joins_bring_back p event later a b one two ended last c lent e k s h i j =
    join-keeps p event a b one two e k ended.part last.part h i later ended last c lent refl refl s
    j

pub parents_go_on : ParentsGoOn
unfolding ParentsGoOn
parents_go_on p event a b one two ended last e k of h i =
    parent-goes_on p event a b one two e k ended.part last.part h i of
