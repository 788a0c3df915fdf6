-- That each kind of event keeps a configuration in order.
-- Names: `WHAT-keeps`.
use Rattle.std.specs.Prelude.{◌≡◌, ℕ, zero, suc, ◌+◌, ◌-◌, ◌==◌, ◌≤◌, ◌<◌, Bool, true, false, cond, ◌&&◌, leb, ltb, List, [], ◌∷◌, Some, None, length, is_some}
use Rattle.std.specs.List.{AllByRecursion}
use Rattle.std.proofs.Common.{sym, ap, ◌∙◌, refl, subst, inl, inr, arith}
use Rattle.std.proofs.lemmas.Bool.{and_parts, cond-true, or_left, or_right}
use Rattle.std.proofs.lemmas.Bool.Decides.{nat_tests}
use Rattle.sf_base.proofs.HeapSplits.{at-self}
use Rattle.sf_base.specs.declared.ids.ResId.{ResId}
use Rattle.sf_base.specs.declared.limits.TheConstants.{TURNS}
use Rattle.sf_base.specs.declared.path.Turn.TheVariants.{Left as left, Right as right}
use Rattle.sf_base.specs.HeapStore.{Slot, shared, own}
use Rattle.sf_core.specs.Machine.Config.{Item, command, leave, items, Room, in_room, Fixed, Frame, Task, runs, waits, Path, Common, Config, task_at, put_task, adds, IsCalled, IsOver}
use Rattle.sf_core.specs.Checked.Machine.InOrder.{EachStack, stack_of, ItemWithin, FrameIsFormed, exits, throughout, regions, is_outer, rooms_with, times_there, with_rooms, NamesInTree, EndsInEntry, WaitersHaveFrames, HasTurns, IsInOrder}
use Rattle.sf_core.specs.Machine.Next.{frame_next}
use Rattle.sf_core.specs.Machine.Step.{Event, index_of, returned, arguments, room_for, room_count, callee_frame, fork_task, task_with, procedure_at, Goes, TaskStep, Step}
use Rattle.sf_core.specs.Program.Formed.{CallWithin, IsFormed}
use Rattle.sf_core.specs.Program.Init.{sets_up}
use Rattle.sf_core.specs.Program.Syntax.{Call, Command, Procedure, Program}
use Rattle.sf_core.proofs.Machine.InOrder.Names.{callee-names}
use Rattle.sf_core.proofs.Machine.InOrder.Regions.{HoldsRegions, holds-same, holds-goes_on, holds-freed}
use Rattle.sf_core.proofs.Machine.InOrder.Shapes.{SetsVariable, Hands, same, enters, exits_one, GoesOn, CallsOne, CallsTwo, block-within, block-exits, command-shape, exit-shape}
use Rattle.sf_core.proofs.Machine.InOrder.Slots.{Counts, one_if, counts-of, counts-disjoint, counts-store, counts-there, counts-same, counts-opened, counts-opened_two, counts-closed, fresh-slot, is_some-set, NamesAt, names-at, names-there}
use Rattle.sf_core.proofs.Machine.InOrder.Trees.{bottom-at, bottom-put, bottom-return, bottom-todo, each-at, each-put, each-map, waiting-put, turns-put, names-put, regions-put}

module _ (p : Program) (g0 : Procedure) (c : Config) (o : IsInOrder p g0 c) where
  -- how often each slot is there
  pub counts-now : Counts p g0 c.common.store c.tasks
  counts-now slot =
      counts-of (times_there p g0 c.tasks slot) (is_some (c.common.store slot)) (o.disjoint slot) (o.store slot)

  -- the slot is in the store
  abbrev pub There : Slot → Type 0
  There slot = is_some (c.common.store slot) ≡ true

  -- what a task names is there
  pub names-now : (path : Path) (from : Task) → task_at path c.tasks ≡ Some from → NamesAt p There from
  names-now path from e = names-at p There (is_outer p g0) path c.tasks from e o.names
      (λ slot h. counts-there (times_there p g0 c.tasks slot) (is_some (c.common.store slot)) (counts-now slot)
      (let one : one_if (is_outer p g0 slot) ≡ 1 = ap one_if h in omega arith))
      (λ slot l. counts-there (times_there p g0 c.tasks slot) (is_some (c.common.store slot)) (counts-now slot)
      (let some : 1 ≤ rooms_with slot c.tasks = l in omega arith))

  -- the frames of a task are formed
  pub formed-now : (path : Path) (from : Task) → task_at path c.tasks ≡ Some from
      → EachStack (AllByRecursion (FrameIsFormed p)) from
  formed-now path from e = each-at (AllByRecursion (FrameIsFormed p)) path c.tasks from e o.formed

  -- the regions of each task
  pub regions-now : HoldsRegions p c.common.held c.tasks
  regions-now = record { inside = o.inside; outside = o.outside }

  module _ (formed : IsFormed p) (ev : Event) (new : c.used ev.number ≡ false) (t : Common) where
    -- the rooms of these frames are of used numbers, with the event's
    abbrev HasNumbers : List Frame → Type 0
    HasNumbers = AllByRecursion (λ f. adds ev.number c.used f.fixed.room.event ≡ true)

    -- where the event leads to
    abbrev pub after : Task → Config
    after u = record { common = t; used = adds ev.number c.used; tasks = put_task ev.task u c.tasks }

    still-used : (frames : List Frame) → AllByRecursion (λ f. c.used f.fixed.room.event ≡ true) frames
        → HasNumbers frames
    still-used [] h = tt
    still-used (f ∷ frames) h = (
      or_right (f.fixed.room.event == ev.number) (c.used f.fixed.room.event) h.0,
      still-used frames h.1,
    )

    -- the event's number is used
    now-used : adds ev.number c.used ev.number ≡ true
    now-used = or_left (ev.number == ev.number) (c.used ev.number) (at-self ev.number)

    numbers-now : (from : Task) → task_at ev.task c.tasks ≡ Some from → EachStack HasNumbers from
    numbers-now from e = each-map still-used from
        (each-at (AllByRecursion (λ f. c.used f.fixed.room.event ≡ true)) ev.task c.tasks from e o.numbers)

    -- a configuration in order from what is said of the task that is put
    builds : (from u : Task) → task_at ev.task c.tasks ≡ Some from
        → EachStack (AllByRecursion (FrameIsFormed p)) u → HoldsRegions p t.held (put_task ev.task u c.tasks)
        → EachStack HasNumbers u → Counts p g0 t.store (put_task ev.task u c.tasks)
        → ((s : Slot → Bool) → NamesInTree p s from → NamesInTree p s u)
        → (ev.task ≡ [] → EndsInEntry g0 (stack_of (Some u))) → WaitersHaveFrames u
        → ((m : ℕ) → TURNS ≡ length ev.task + m → HasTurns m u) → IsInOrder p g0 (after u)
    builds from u e frames regions numbers counts names bottom waiting turns = record {
      formed = each-put (AllByRecursion (FrameIsFormed p)) ev.task c.tasks u o.formed frames;
      inside = regions.inside;
      outside = regions.outside;
      numbers = each-put HasNumbers ev.task c.tasks u (each-map still-used c.tasks o.numbers) numbers;
      start = or_right (0 == ev.number) (c.used 0) o.start;
      disjoint = λ slot. counts-disjoint (times_there p g0 (put_task ev.task u c.tasks) slot)
          (is_some (t.store slot)) (counts slot);
      store = λ slot. counts-store (times_there p g0 (put_task ev.task u c.tasks) slot)
          (is_some (t.store slot)) (counts slot);
      names = names-put p (is_outer p g0) ev.task c.tasks from u e names o.names;
      bottom = bottom-put g0 ev.task c.tasks u bottom o.bottom;
      waiting = waiting-put ev.task c.tasks u o.waiting waiting;
      depth = turns-put TURNS ev.task c.tasks from u o.depth e turns;
    }

    -- the entry's frame is at the bottom of the task that steps where that is the entry's
    bottom-now : (from : Task) → task_at ev.task c.tasks ≡ Some from → ev.task ≡ []
        → EndsInEntry g0 (stack_of (Some from))
    bottom-now from e top = bottom-at g0 ev.task c.tasks from top e o.bottom

    -- a procedure that is called sets no resources up
    callee-plain : {g : Procedure} (call : Call) → CallWithin p g call → (r : ResId)
        → cond {A = ℕ} (sets_up p call.callee && ltb r.0 (length p.resources)) 1 0 ≡ 0
    callee-plain call within r = ap (λ b. cond (b && ltb r.0 (length p.resources)) 1 0) within.no_init

    -- the frame of a call is formed
    callee-formed : (call : Call) (h : Procedure) (f : Fixed) (room : Room)
        → procedure_at p call.callee ≡ Some h → FrameIsFormed p (callee_frame f.slots call h room)
    callee-formed call h f room e = record {
      procedure = h;
      there = e;
      todo = block-within p h h.body (formed.procedures call.callee.0 h e).body;
    }

    -- a variable that is set is there
    still-there : (f : Fixed) (old : List Item) (below : List Frame) (g : Procedure)
        → task_at ev.task c.tasks ≡ Some (runs (record { fixed = f; todo = old } ∷ below))
        → procedure_at p f.procedure ≡ Some g → SetsVariable p g f c.common t → (slot : Slot)
        → is_some (t.store slot) ≡ is_some (c.common.store slot)
    still-there f old below g e i (inl k) slot = ap (λ z. is_some (z slot)) k
    still-there f old below g e i (inr k) slot =
        let n = names-now ev.task (runs (record { fixed = f; todo = old } ∷ below)) e in
        ap (λ z. is_some (z slot)) k.3
        ∙ is_some-set (f.slots k.0) k.1 c.common
        (names-there p There f old below n (f.slots k.0) ((n.names.0).within g i k.0 k.2)) slot

    -- an event with which a frame goes on
    pub goes_on-keeps : (f : Fixed) (old : List Item) (below : List Frame) (g : Procedure) (u : Task)
        → task_at ev.task c.tasks ≡ Some (runs (record { fixed = f; todo = old } ∷ below))
        → procedure_at p f.procedure ≡ Some g → AllByRecursion (FrameIsFormed p) below
        → GoesOn p g ev.task c.common f below old t u → IsInOrder p g0 (after u)
    goes_on-keeps f old below g u e i others k =
        subst (λ z. IsInOrder p g0 (after z)) (sym k.is)
        (builds (runs (record { fixed = f; todo = old } ∷ below)) (task_with f k.todo below) e
        (record { procedure = g; there = i; todo = k.within }, others)
        (holds-goes_on p f below old k.todo ev.task c.tasks e c.common t regions-now k.hands)
        (numbers-now (runs (record { fixed = f; todo = old } ∷ below)) e)
        (counts-same p g0 c.common.store t.store ev.task c.tasks
        (runs (record { fixed = f; todo = old } ∷ below)) (task_with f k.todo below) e counts-now
        (λ slot. refl) (still-there f old below g e i k.sets)) (λ s n. n)
        (λ top. bottom-todo g0 f old k.todo below
        (bottom-now (runs (record { fixed = f; todo = old } ∷ below)) e top)) tt (λ m j. tt))

    -- a call
    pub call-keeps : (f : Fixed) (cmd : Command) (rest : List Item) (below : List Frame) (g : Procedure) (u : Task)
        → task_at ev.task c.tasks
        ≡ Some (runs (record { fixed = f; todo = command cmd ∷ rest } ∷ below))
        → procedure_at p f.procedure ≡ Some g → AllByRecursion (ItemWithin p g) rest
        → AllByRecursion (FrameIsFormed p) below → CallsOne p g ev c.common f below rest t u
        → IsInOrder p g0 (after u)
    call-keeps f cmd rest below g u e i todo others k =
        subst (λ z. IsInOrder p g0 (after z)) (sym k.is)
        (builds from (runs (top ∷ mine ∷ below)) e
        (callee-formed k.c k.h f room k.there, (record { procedure = g; there = i; todo = todo }, others))
        (holds-same p c.common.held t.held c.tasks (put_task ev.task (runs (top ∷ mine ∷ below)) c.tasks)
        regions-now (ap (λ (z : Common). z.held) k.common)
        (λ r. regions-put p r ev.task c.tasks from (runs (top ∷ mine ∷ below)) e (same-regions r)))
        (now-used, numbers-now from e)
        (counts-opened p g0 c.common.store t.store ev.task c.tasks from (runs (top ∷ mine ∷ below)) room
        (λ slot. arguments f.slots c.common.store k.c (index_of slot - room.first)) e counts-now
        (λ slot h. fresh-slot p g0 c.used c.tasks room slot new o.start o.numbers h) (λ slot. refl)
        (λ slot. ap (λ (z : Common). z.store slot) k.common))
        (λ s n. (callee-names p g (with_rooms (mine ∷ below) s) f k.c k.h ev.number 0 n.0 i k.within k.there, n))
        (λ above. bottom-todo g0 f (command cmd ∷ rest) rest below (bottom-now from e above)) tt (λ m j. tt))
      where
        room : Room
        room = room_for k.h ev.number 0

        mine : Frame
        mine = record { fixed = f; todo = rest }

        top : Frame
        top = callee_frame f.slots k.c k.h room

        from : Task
        from = runs (record { fixed = f; todo = command cmd ∷ rest } ∷ below)

        same-regions : (r : ResId) (path : Path) → regions p r (stack_of (task_at path (runs (top ∷ mine ∷ below))))
            ≡ regions p r (stack_of (task_at path from))
        same-regions r [] =
            let none : exits r (items k.h.body) ≡ 0 = block-exits r k.h.body in
            let plain : throughout p r top.fixed ≡ 0 = callee-plain k.c k.within r in
            omega arith
        same-regions r (left ∷ path) = refl
        same-regions r (right ∷ path) = refl

    -- a fork
    pub fork-keeps : (f : Fixed) (cmd : Command) (rest : List Item) (below : List Frame) (g : Procedure) (u : Task)
        → task_at ev.task c.tasks
        ≡ Some (runs (record { fixed = f; todo = command cmd ∷ rest } ∷ below))
        → procedure_at p f.procedure ≡ Some g → AllByRecursion (ItemWithin p g) rest
        → AllByRecursion (FrameIsFormed p) below → CallsTwo p g ev c.common f below rest t u
        → IsInOrder p g0 (after u)
    fork-keeps f cmd rest below g u e i todo others k =
        subst (λ z. IsInOrder p g0 (after z)) (sym k.is)
        (builds from both e (
          (record { procedure = g; there = i; todo = todo }, others),
          (callee-formed k.c k.h f one k.there, tt),
          (callee-formed k.d k.k f two k.there_right, tt),
        )
        (holds-same p c.common.held t.held c.tasks (put_task ev.task both c.tasks)
        regions-now (ap (λ (z : Common). z.held) k.common)
        (λ r. regions-put p r ev.task c.tasks from both e (same-regions r)))
        (numbers-now from e, (now-used, tt), (now-used, tt))
        (counts-opened_two p g0 c.common.store t.store ev.task c.tasks from both one two
        (λ slot. arguments f.slots c.common.store k.c (index_of slot - one.first))
        (λ slot. arguments f.slots c.common.store k.d (index_of slot - two.first)) e counts-now
        (λ slot h. fresh-slot p g0 c.used c.tasks one slot new o.start o.numbers h)
        (λ slot h. fresh-slot p g0 c.used c.tasks two slot new o.start o.numbers h) apart rooms
        (λ slot. ap (λ (z : Common). z.store slot) k.common))
        (λ s n. (
          n,
          (callee-names p g (with_rooms (mine ∷ below) s) f k.c k.h ev.number 0 n.0 i k.within k.there, tt),
          (
            callee-names p g (with_rooms (mine ∷ below) s) f k.d k.k ev.number (room_count k.h) n.0 i k.within_right
                k.there_right,
            tt,
          ),
        ))
        (λ top. bottom-todo g0 f (command cmd ∷ rest) rest below (bottom-now from e top))
        ((λ z. absurd (cc)), tt, tt) turns)
      where
        one : Room
        one = room_for k.h ev.number 0

        two : Room
        two = room_for k.k ev.number (room_count k.h)

        mine : Frame
        mine = record { fixed = f; todo = rest }

        from : Task
        from = runs (record { fixed = f; todo = command cmd ∷ rest } ∷ below)

        both : Task
        both = fork_task f.slots k.c k.h k.d k.k ev.number (mine ∷ below)

        body-regions : (r : ResId) (call : Call) (h : Procedure) → CallWithin p g call
            → (cond (sets_up p call.callee && ltb r.0 (length p.resources)) 1 0 + exits r (items h.body)) + 0 ≡ 0
        body-regions r call h within =
            let none : exits r (items h.body) ≡ 0 = block-exits r h.body in
            let plain : cond {A = ℕ} (sets_up p call.callee && ltb r.0 (length p.resources)) 1 0 ≡ 0 =
            callee-plain call within r in
            omega arith

        same-regions : (r : ResId) (path : Path) → regions p r (stack_of (task_at path both))
            ≡ regions p r (stack_of (task_at path from))
        same-regions r [] = refl
        same-regions r (left ∷ []) = body-regions r k.c k.h k.within
        same-regions r (left ∷ left ∷ path) = refl
        same-regions r (left ∷ right ∷ path) = refl
        same-regions r (right ∷ []) = body-regions r k.d k.k k.within_right
        same-regions r (right ∷ left ∷ path) = refl
        same-regions r (right ∷ right ∷ path) = refl

        apart : (slot : Slot) → in_room two slot ≡ true → in_room one slot ≡ false
        apart (shared r j) h = refl
        apart (own n j) h =
            let b = and_parts (n == ev.number) _ h in
            let low : leb (room_count k.h) j ≡ true = (and_parts (leb (room_count k.h) j) _ b.1).0 in
            go (n == ev.number) (leb 0 j) (grind (arith, nat_tests))
          where
            go : (x y : Bool) → ltb j (0 + room_count k.h) ≡ false
                → (x && (y && ltb j (0 + room_count k.h))) ≡ false
            go true true q = q
            go true false q = refl
            go false y q = refl

        rooms : (slot : Slot) → rooms_with slot both
            ≡ one_if (in_room one slot) + (one_if (in_room two slot) + rooms_with slot from)
        rooms slot = omega arith

        turns : (m : ℕ) → TURNS ≡ length ev.task + m → HasTurns m both
        turns zero j =
            let few : length ev.task < TURNS = k.turns in
            absurd (omega (arith, few, j))
        turns (suc m) j = (tt, tt)

    -- a return
    pub return-keeps : (f : Fixed) (below : List Frame)
        → task_at ev.task c.tasks ≡ Some (runs (record { fixed = f; todo = [] } ∷ below))
        → AllByRecursion (FrameIsFormed p) below → IsCalled ev.task below → t ≡ returned p f c.common
        → IsInOrder p g0 (after (runs below))
    return-keeps f below e others called k =
        builds from (runs below) e others
        (holders (sets_up p f.procedure) refl)
        (numbers-now from e).1
        (counts-closed p g0 c.common.store t.store ev.task c.tasks from (runs below) f.room e counts-now
        (λ slot. refl) (λ slot. ap (λ (z : Common). z.store slot) k)) (λ s n. n.1)
        (λ top. bottom-return g0 ev.task (record { fixed = f; todo = [] }) below called top (bottom-now from e top)) tt
        (λ m j. tt)
      where
        from : Task
        from = runs (record { fixed = f; todo = [] } ∷ below)

        same-regions : (r : ResId) → throughout p r f ≡ 0 → (path : Path)
            → regions p r (stack_of (task_at path (runs below))) ≡ regions p r (stack_of (task_at path from))
        same-regions r plain [] = omega arith
        same-regions r plain (left ∷ path) = refl
        same-regions r plain (right ∷ path) = refl

        holders : (b : Bool) → sets_up p f.procedure ≡ b
            → HoldsRegions p t.held (put_task ev.task (runs below) c.tasks)
        holders true sets = holds-freed p f below ev.task c.tasks e sets o.formed c.common.held regions-now t.held
            (λ r. ap (λ (z : Common). z.held r) k ∙ cond-true (sets_up p f.procedure) None (c.common.held r) sets)
        holders false sets =
            holds-same p c.common.held t.held c.tasks (put_task ev.task (runs below) c.tasks) regions-now
            (ap (λ (z : Common). z.held) k ∙ (λ i r. cond (sets i) None (c.common.held r)))
            (λ r. regions-put p r ev.task c.tasks from (runs below) e
            (same-regions r (ap (λ b. cond (b && ltb r.0 (length p.resources)) 1 0) sets)))

    -- a join
    pub join-keeps : (frames : List Frame) (one two : Task)
        → task_at ev.task c.tasks ≡ Some (waits frames one two) → IsOver one → IsOver two → t ≡ c.common
        → IsInOrder p g0 (after (runs frames))
    join-keeps frames one two e done also k =
        builds (waits frames one two) (runs frames) e (formed-now ev.task (waits frames one two) e).0
        (holds-same p c.common.held t.held c.tasks (put_task ev.task (runs frames) c.tasks) regions-now
        (ap (λ (z : Common). z.held) k)
        (λ r. regions-put p r ev.task c.tasks (waits frames one two) (runs frames) e (same-regions r)))
        (numbers-now (waits frames one two) e).0
        (counts-same p g0 c.common.store t.store ev.task c.tasks (waits frames one two) (runs frames) e counts-now
        rooms (λ slot. ap (λ (z : Common). is_some (z.store slot)) k)) (λ s n. n.0)
        (bottom-now (waits frames one two) e) tt (λ m j. tt)
      where
        over-regions : (r : ResId) (path : Path) (task : Task) → IsOver task
            → 0 ≡ regions p r (stack_of (task_at path task))
        over-regions r [] (runs []) h = refl
        over-regions r (left ∷ path) (runs []) h = refl
        over-regions r (right ∷ path) (runs []) h = refl
        over-regions r path (runs (f ∷ below)) h = absurd h
        over-regions r path (waits fs a b) h = absurd h

        over-rooms : (slot : Slot) (task : Task) → IsOver task → rooms_with slot task ≡ 0
        over-rooms slot (runs []) h = refl
        over-rooms slot (runs (f ∷ below)) h = absurd h
        over-rooms slot (waits fs a b) h = absurd h

        same-regions : (r : ResId) (path : Path) → regions p r (stack_of (task_at path (runs frames)))
            ≡ regions p r (stack_of (task_at path (waits frames one two)))
        same-regions r [] = refl
        same-regions r (left ∷ path) = over-regions r path one done
        same-regions r (right ∷ path) = over-regions r path two also

        rooms : (slot : Slot) → rooms_with slot (runs frames) ≡ rooms_with slot (waits frames one two)
        rooms slot =
            let left : rooms_with slot one ≡ 0 = over-rooms slot one done in
            let right : rooms_with slot two ≡ 0 = over-rooms slot two also in
            omega arith

    -- a command that is done leaves no region
    with_command : (f : Fixed) (below : List Frame) (cmd : Command) (rest : List Item) (g : Procedure) (u : Task)
        → GoesOn p g ev.task c.common f below rest t u → GoesOn p g ev.task c.common f below (command cmd ∷ rest) t u
    with_command f below cmd rest g u k = record {
      todo = k.todo;
      is = k.is;
      within = k.within;
      sets = k.sets;
      hands = over k.hands;
    }
      where
        over : Hands ev.task c.common t rest k.todo → Hands ev.task c.common t (command cmd ∷ rest) k.todo
        over (same e n) = same e n
        over (enters q free e n) = enters q free e n
        over (exits_one q held e n) = exits_one q held e n

    -- an event of a frame
    stack-keeps : (f : Fixed) (todo : List Item) (below : List Frame) (u : Task)
        → task_at ev.task c.tasks ≡ Some (runs (record { fixed = f; todo = todo } ∷ below))
        → Goes p ev c.common (frame_next f below todo) t u → IsInOrder p g0 (after u)
    stack-keeps f [] below u e d =
        let frames = formed-now ev.task (runs (record { fixed = f; todo = [] } ∷ below)) e in
        subst (λ z. IsInOrder p g0 (after z)) (sym d.2) (return-keeps f below e frames.1 d.0 d.1)
    stack-keeps f (command cmd ∷ rest) below u e d =
        let frames = formed-now ev.task (runs (record { fixed = f; todo = command cmd ∷ rest } ∷ below)) e in
        let mine = frames.0 in
        elim (command-shape p mine.procedure ev c.common f below rest t u (mine.todo).1 cmd (mine.todo).0 d) [
          | inl k ↦ goes_on-keeps f (command cmd ∷ rest) below mine.procedure u e mine.there frames.1
              (with_command f below cmd rest mine.procedure u k)
          | inr k ↦ elim k [
            | inl j ↦ call-keeps f cmd rest below mine.procedure u e mine.there (mine.todo).1 frames.1 j
            | inr j ↦ fork-keeps f cmd rest below mine.procedure u e mine.there (mine.todo).1 frames.1 j
          ]
        ]
    stack-keeps f (leave q ∷ rest) below u e d =
        let frames = formed-now ev.task (runs (record { fixed = f; todo = leave q ∷ rest } ∷ below)) e in
        let mine = frames.0 in
        goes_on-keeps f (leave q ∷ rest) below mine.procedure u e mine.there frames.1
        (exit-shape p mine.procedure ev c.common f below rest t u (mine.todo).1 q d.0 d.1 d.2)

    -- an event of a task
    pub task-keeps : (from u : Task) → task_at ev.task c.tasks ≡ Some from
        → TaskStep p ev c.common from t u → IsInOrder p g0 (after u)
    task-keeps (runs []) u e d = absurd d
    task-keeps (runs (f ∷ below)) u e d = stack-keeps f.fixed f.todo below u e d
    task-keeps (waits frames one two) u e d =
        subst (λ z. IsInOrder p g0 (after z)) (sym d.3) (join-keeps frames one two e d.0 d.1 d.2)

-- each step keeps it
pub step-keeps : (p : Program) (g0 : Procedure) (ev : Event) (c d : Config) → IsFormed p → IsInOrder p g0 c
    → Step p ev c d → IsInOrder p g0 d
step-keeps p g0 ev c d formed o s =
    let there : d ≡ record {
      common = d.common;
      used = adds ev.number c.used;
      tasks = put_task ev.task s.to c.tasks;
    } =
    λ i. record { common = d.common; used = s.used i; tasks = s.tasks i } in
    subst (IsInOrder p g0) (sym there)
    (task-keeps p g0 c o formed ev s.fresh d.common s.from s.to s.there s.steps)
