-- That steps of different tasks commute where nothing is bad.
-- Names: `WHAT-fresh` speaks of slots that are made, `race-LAW` of what isn't a race.
use Rattle.std.specs.Prelude.{◌≡◌, ◌≢◌, ℕ, ◌==◌, true, false, [], ◌∷◌, Option, Some, None, ◌⊎◌, is_some}
use Rattle.std.proofs.Common.{true≢false, sym, ap, ◌∙◌, refl, subst, inl, inr}
use Rattle.std.proofs.lemmas.Bool.{and_parts}
use Rattle.sf_base.proofs.HeapSplits.{at-same}
use Rattle.sf_base.proofs.Options.{some-none}
use Rattle.sf_base.specs.declared.ids.ResId.{ResId}
use Rattle.sf_base.specs.declared.path.Turn.TheVariants.{Left as left, Right as right}
use Rattle.sf_base.specs.HeapStore.{Slot, shared, own}
use Rattle.sf_core.specs.Machine.Bad.{Bad}
use Rattle.sf_core.specs.Machine.Config.{Room, in_room, Task, Path, Config, task_at}
use Rattle.sf_core.specs.Machine.Enabled.{IsBlocked, IsEnabled, Thing, variable, cell, Reads, Writes}
use Rattle.sf_core.specs.Checked.Machine.InOrder.{times_there, IsInOrder}
use Rattle.sf_core.specs.Checked.Machine.Laws.{CommandMakes, Makes, Moves, Diverge, AreIndependent, DoNotCompete}
use Rattle.sf_core.specs.Machine.Next.{Next, does, leaves, returns, joins, nothing, next}
use Rattle.sf_core.specs.Machine.Step.{Event, TaskStep, Step}
use Rattle.sf_core.specs.Program.Syntax.{Command, assign, look_up, mutate, new, dispose, if, while, call, fork, with, Procedure, Program}
use Rattle.sf_core.proofs.Machine.Commute.{diverge-sym, footprint-leaves, step-commute}
use Rattle.sf_core.proofs.Machine.Decided.{changes-or_not}
use Rattle.sf_core.proofs.Machine.Frames.{next-finds}
use Rattle.sf_core.proofs.Machine.InOrder.Kept.{counts-now}
use Rattle.sf_core.proofs.Machine.InOrder.Met.{used-there}
use Rattle.sf_core.proofs.Machine.InOrder.Slots.{fresh-slot, not-there}
use Rattle.sf_core.proofs.Machine.Runs.{adds-fresh}
use Rattle.sf_core.proofs.Machine.Steps.{absent-by_next, next-footprint}
use Rattle.sf_core.proofs.Machine.Tasks.{ended-no_step, goes-not_blocked, step-enabled, task_at-other}

-- What is made
-- a slot that an event makes is in a room of its number
record HasRoom (number : ℕ) (slot : Slot) : Type 0 where
  room : Room
  event : room.event ≡ number
  in_it : in_room room slot ≡ true

command-makes-room : (p : Program) (ev : Event) (c : Command) (slot : Slot) → CommandMakes p ev c (variable slot)
    → HasRoom ev.number slot
command-makes-room p ev (call place c) slot m = record { room = _; event = refl; in_it = m.2 }
command-makes-room p ev (fork place c d) slot m = elim m.4 [
  | inl i ↦ record { room = _; event = refl; in_it = i }
  | inr i ↦ record { room = _; event = refl; in_it = i }
]
command-makes-room p ev (new place x) slot m = absurd (cc)
command-makes-room p ev (assign place x e) slot m = absurd m
command-makes-room p ev (look_up place x e g) slot m = absurd m
command-makes-room p ev (mutate place e g v) slot m = absurd m
command-makes-room p ev (dispose place e) slot m = absurd m
command-makes-room p ev (if place test this that) slot m = absurd m
command-makes-room p ev (while place test kept body) slot m = absurd m
command-makes-room p ev (with place r test body) slot m = absurd m

makes-room : (p : Program) (ev : Event) (n : Next) (slot : Slot) → Makes p ev n (variable slot)
    → HasRoom ev.number slot
makes-room p ev (does f below c rest) slot m = command-makes-room p ev c slot m
makes-room p ev (leaves f below r rest) slot m = absurd m
makes-room p ev (returns f below) slot m = absurd m
makes-room p ev (joins frames one two) slot m = absurd m
makes-room p ev nothing slot m = absurd m

-- a slot is in rooms of one number
rooms-number : (one two : ℕ) (slot : Slot) → HasRoom one slot → HasRoom two slot → one ≡ two
rooms-number one two (shared r i) h k = absurd (true≢false (sym h.in_it))
rooms-number one two (own n i) h k =
    sym h.event ∙ sym (at-same (h.room).event n (and_parts (n == (h.room).event) _ h.in_it).0)
    ∙ at-same (k.room).event n (and_parts (n == (k.room).event) _ k.in_it).0 ∙ k.event

-- Who has to wait
-- only the resource that comes next matters
blocked-back : (p : Program) (held now : ResId → Option Path) (n : Next) → ((r : ResId) → Moves p n r → now r ≡ held r)
    → IsBlocked held n → IsBlocked now n
blocked-back p held now (does f below (with place q test body) rest) h b = λ e. b (sym (h q refl) ∙ e)
blocked-back p held now (does f below (assign place x e) rest) h b = b
blocked-back p held now (does f below (look_up place x e g) rest) h b = b
blocked-back p held now (does f below (mutate place e g v) rest) h b = b
blocked-back p held now (does f below (new place x) rest) h b = b
blocked-back p held now (does f below (dispose place e) rest) h b = b
blocked-back p held now (does f below (if place test this that) rest) h b = b
blocked-back p held now (does f below (while place test kept body) rest) h b = b
blocked-back p held now (does f below (call place c) rest) h b = b
blocked-back p held now (does f below (fork place c d) rest) h b = b
blocked-back p held now (leaves f below r rest) h b = b
blocked-back p held now (returns f below) h b = b
blocked-back p held now (joins frames one two) h b = b
blocked-back p held now nothing h b = b

-- paths that diverge differ
diverge-differ : (path other : Path) → Diverge path other → path ≢ other
diverge-differ path other h e = go other (subst (λ z. Diverge z other) e h)
  where
    go : (path : Path) → Diverge path path → ⊥
    go [] h = h
    go (left ∷ path) h = go path h
    go (right ∷ path) h = go path h

module _ (p : Program) (entry : Procedure) (one two : Event) (c d e : Config) (this that : Task)
    (order : IsInOrder p entry c) (never : Bad c → ⊥) (there : task_at one.task c.tasks ≡ Some this)
    (also : task_at two.task c.tasks ≡ Some that) (apart : Diverge one.task two.task)
    (free : DoNotCompete p one two c.common.store (next this) (next that))
    (s : Step p one c d) (r : Step p two d e) where
  -- the first task's step, and the second one's
  first-step : TaskStep p one c.common this d.common s.to
  first-step =
      let same : s.from ≡ this = cc (there, s.there) in
      subst (λ z. TaskStep p one c.common z d.common s.to) same s.steps

  second-step : TaskStep p two d.common that e.common r.to
  second-step =
      let here : task_at two.task d.tasks ≡ Some that = ap (task_at two.task) s.tasks
      ∙ task_at-other two.task one.task s.to c.tasks (diverge-sym one.task two.task apart) ∙ also in
      let same : r.from ≡ that = cc (here, r.there) in
      subst (λ z. TaskStep p two d.common z e.common r.to) same r.steps

  -- both are enabled
  first-enabled : IsEnabled c one.task this
  first-enabled =
      let k = step-enabled p one c d s in
      let t : task_at one.task c.tasks ≡ Some k.0 = (k.1).there in
      let same : k.0 ≡ this = cc (there, t) in
      subst (λ z. IsEnabled c one.task z) same k.1

  second-enabled : IsEnabled c two.task that
  second-enabled = record {
    there = also;
    going = λ h. ended-no_step p two d.common e.common two.task refl that r.to second-step h;
    free = λ h. goes-not_blocked p two d.common e.common (next that) r.to second-step
        (blocked-back p c.common.held d.common.held (next that)
        (λ q m. (next-footprint p one c.common d.common (next this) s.to first-step).kept q
        (λ k. free.hands q k m)) h);
  }

  -- the second event's number is new from the beginning
  second-new : (two.number ≢ one.number) × (c.used two.number ≡ false)
  second-new = adds-fresh two.number one.number c.used (ap (λ f. f two.number) (sym s.used) ∙ r.fresh)

  -- what one task writes the other neither reads nor writes
  race-first : (thing : Thing) → Writes c.common.store (next this) thing
      → Reads c.common.store (next that) thing ⊎ Writes c.common.store (next that) thing → ⊥
  race-first thing w m = never (inr (record {
    path = one.task;
    task = this;
    enabled = first-enabled;
    other_path = two.task;
    other = that;
    other_enabled = second-enabled;
    different = diverge-differ one.task two.task apart;
    thing = thing;
    writes = w;
    meets = m;
  }))

  race-second : (thing : Thing) → Writes c.common.store (next that) thing
      → Reads c.common.store (next this) thing → ⊥
  race-second thing w m = never (inr (record {
    path = two.task;
    task = that;
    enabled = second-enabled;
    other_path = one.task;
    other = this;
    other_enabled = first-enabled;
    different = λ k. diverge-differ one.task two.task apart (sym k);
    thing = thing;
    writes = w;
    meets = inl m;
  }))

  -- slots that an event with a new number makes are used by no task
  made-fresh : (ev : Event) (n : Next) (path : Path) (task : Task) (slot : Slot) → c.used ev.number ≡ false
      → Makes p ev n (variable slot) → task_at path c.tasks ≡ Some task
      → Reads c.common.store (next task) (variable slot) ⊎ Writes c.common.store (next task) (variable slot) → ⊥
  made-fresh ev n path task slot unused m e h =
      let k = makes-room p ev n slot m in
      let none = not-there (times_there p entry c.tasks slot) (is_some (c.common.store slot))
      (counts-now p entry c order slot)
      (fresh-slot p entry c.used c.tasks k.room slot (ap c.used k.event ∙ unused) order.start order.numbers k.in_it) in
      let v = used-there p entry c path order task slot e h in
      true≢false (sym (ap is_some v.1) ∙ none)

  -- the cells that a task reads or writes are there
  cell-there : (path : Path) (task : Task) (a : ℕ) → IsEnabled c path task
      → Reads c.common.store (next task) (cell a) ⊎ Writes c.common.store (next task) (cell a)
      → c.common.heap a ≡ None → ⊥
  cell-there path task a enabled h none =
      let k = next-finds c.common (next task) a
      (λ n. never (inl (record { path = path; task = task; enabled = enabled; absent = n }))) h in
      some-none k.0 (sym k.1 ∙ none)

  -- what the first event makes the second task doesn't use
  made-first : (thing : Thing) → Makes p one (next this) thing
      → Reads c.common.store (next that) thing ⊎ Writes c.common.store (next that) thing → ⊥
  made-first (variable slot) m h = made-fresh one (next this) two.task that slot s.fresh m also h
  made-first (cell a) m h = cell-there two.task that a second-enabled h
      (absent-by_next p one c.common d.common (next this) s.to first-step a m)

  -- nor the other way round
  made-second : (thing : Thing) → Makes p two (next that) thing → Reads c.common.store (next this) thing → ⊥
  made-second (variable slot) m h = made-fresh two (next that) one.task this slot second-new.1 m there (inl h)
  made-second (cell a) m h = elim (changes-or_not p one c.common.store (next this) (cell a)) [
    | inl k ↦ elim k [ inl w ↦ free.written a w m | inr k ↦ free.made a k m ]
    | inr n ↦ cell-there one.task this a first-enabled (inl h)
        (sym (footprint-leaves p one (next this) c.common d.common
        (next-footprint p one c.common d.common (next this) s.to first-step) (cell a) n)
        ∙ absent-by_next p two d.common e.common (next that) r.to second-step a m)
  ]

  -- what the first event writes the second doesn't make
  written-made : (thing : Thing) → Writes c.common.store (next this) thing → Makes p two (next that) thing → ⊥
  written-made (variable slot) w m = made-fresh two (next that) one.task this slot second-new.1 m there (inr w)
  written-made (cell a) w m = free.written a w m

  -- nor what it makes
  made-made : (thing : Thing) → Makes p one (next this) thing → Makes p two (next that) thing → ⊥
  made-made (variable slot) m k = second-new.0 (sym (rooms-number one.number two.number slot
      (makes-room p one (next this) slot m) (makes-room p two (next that) slot k)))
  made-made (cell a) m k = free.made a m k

  independent : AreIndependent p one two c.common.store (next this) (next that)
  independent = record {
    first = λ thing x y. elim x [
      | inl w ↦ elim y [
        | inl h ↦ race-first thing w (inl h)
        | inr k ↦ elim k [ inl h ↦ race-first thing w (inr h) | inr m ↦ written-made thing w m ]
      ]
      | inr w ↦ elim y [
        | inl h ↦ made-first thing w (inl h)
        | inr k ↦ elim k [ inl h ↦ made-first thing w (inr h) | inr m ↦ made-made thing w m ]
      ]
    ];
    second = λ thing x y. elim x [ inl w ↦ race-second thing w y | inr m ↦ made-second thing m y ];
    hands = free.hands;
  }

  -- where nothing is bad, steps that don't compete commute
  pub race_free-commute : (m : Config) × Step p two c m × Step p one m e
  race_free-commute = step-commute p one two c d e this that there also apart independent s r
