-- The frames of a part that is of a program: what occurs next is there, and a private event leaves
-- the
-- frames the program's.
-- Names: `variable-LAW` of the variables of a frame, `frame-LAW` and `frames-LAW` of frames,
-- `goes-LAW` of
-- an event.
use Rattle.std.specs.Prelude.{◌≡◌, ◌⊎◌, ◌==◌, ◌+◌, ◌-◌, ◌<◌, ◌&&◌, ℕ, zero, suc, Bool, true, false, cond, ltb, List, [], ◌∷◌, ◌++◌, length, Option, Some, None, Contains, is_some}
use Rattle.std.proofs.Common.{true≢false, sym, ap, ◌∙◌, refl, subst, inl, inr, arith}
use Rattle.std.specs.List.{flat_map, slice_get}
use Rattle.std.proofs.lemmas.List.Elements.{Contains-append_cases, Contains-append_left, Contains-append_right}
use Rattle.sf_base.proofs.Elements.{contains-nil, contains-rest}
use Rattle.sf_base.proofs.Members.{contains-flat_map, contains-flat_map_from}
use Rattle.sf_base.proofs.Bools.{and-left}
use Rattle.sf_base.proofs.HeapSplits.{at-same}
use Rattle.sf_base.specs.declared.ids.ResId.{ResId}
use Rattle.sf_base.specs.declared.ids.Var.{Var}
use Rattle.sf_base.specs.declared.ids.Var.TheVariants.{Own, Shared}
use Rattle.sf_base.specs.declared.value.Value.{Value}
use Rattle.sf_base.specs.HeapStore.{Slot, Store, own, same_slot, shared}
use Rattle.sf_calls.specs.Conditions.{Free}
use Rattle.sf_calls.specs.Outside.{IsAmong}
use Rattle.sf_calls.specs.Reaches.{directly, through}
use Rattle.sf_core.specs.Checked.Machine.InOrder.{exits, regions, throughout}
use Rattle.sf_core.specs.declared.command.Occurrence.{Occurrence}
use Rattle.sf_core.specs.Machine.Config.{Item, command, items, Room, in_room, Fixed, Frame, Task, runs, Common}
use Rattle.sf_core.specs.Machine.Enabled.{variable, CommandReads, CommandWrites}
use Rattle.sf_core.specs.Machine.Step.{Event, arguments, callee_frame, index_of, own_slot, open_room, procedure_at, returned, room_count, room_for, set_slot, slots_of, task_with, Does}
use Rattle.sf_core.specs.Program.Formed.{HasCounts, CallWithin, CommandWithin, IsFormed, IsInBody, variable_count}
use Rattle.sf_core.specs.Program.Heads.{call_occurrences, expr_occurrences, head_calls, head_occurrences, head_regions, occurrences_at, sites}
use Rattle.sf_core.specs.Program.Init.{sets_up}
use Rattle.sf_core.specs.Program.Syntax.{Call, Command, assign, look_up, mutate, new, dispose, if, while, call, fork, with, Procedure, Program}
use Rattle.sf_core.proofs.HeadsWithin.{call-within, calls-within, head-within, sites-within}
use Rattle.sf_core.proofs.Machine.InOrder.Names.{in_room-own}
use Rattle.sf_core.proofs.Machine.InOrder.Shapes.{items-exits, block-exits}
use Rattle.sf_part.specs.Of.{FrameIsOf, FramesAreOf, IsVariable, inside, without}
use Rattle.sf_part.specs.Steps.{IsLocal}
use Rattle.sf_part.proofs.Occur.{OccursIn, among, in-first, reads-occur, writes-occur}
use Rattle.sf_part.proofs.Sites.{StandIn, among_or_not, inside-block, inside-items, sites-again, sites-block, sites-first, sites-inner, sites-rest}

-- what is there in the one store is there in the other
abbrev pub Grows : (before after : Store) → Type 0
Grows before after = (slot : Slot) → is_some (before slot) ≡ true → is_some (after slot) ≡ true

-- A command of a frame's procedure
module _ (p : Program) (formed : IsFormed p) (f : Fixed) (c : Command) (rest : List Item)
    (g : Procedure)
    (there : procedure_at p f.procedure ≡ Some g)
    (here : Contains (sites [] g.body) (record { entered = inside rest; command = c })) where
  -- the frame
  abbrev now : Frame
  now = record { fixed = f; todo = command c ∷ rest }

  -- it is well formed
  pub command-within : CommandWithin p g c
  command-within = sites-within p g [] g.body (formed.procedures f.procedure.0 g there).body
      (record { entered = inside rest; command = c }) here

  -- so what occurs in it may be read
  in-body : (x : Occurrence) → Contains (occurrences_at c) x → IsInBody p g x.var
  in-body x h =
      elim (Contains-append_cases (head_occurrences c) (flat_map call_occurrences (head_calls c)) x
      h) [
        | inl k ↦ head-within p g c command-within x k
        | inr k ↦
            let d = contains-flat_map_from call_occurrences (head_calls c) x k in
            call-within p g d.0 (calls-within p g c command-within d.0 d.1) x d.2
      ]

  -- a variable that occurs in it, which enters no region, is one of the frame's
  pub variable-here : head_regions c ≡ [] → (x : Occurrence) → Contains (occurrences_at c) x
      → IsVariable p now g x.var
  variable-here none x h = go x.var refl (in-body x h)
    where
      go : (y : Var) → x.var ≡ y → IsInBody p g y → IsVariable p now g y
      go (Own n) e k = k
      go (Shared r i) e k = (
        k,
        elim (among_or_not (inside rest) r) [
          | inl m ↦ inr (inl m)
          | inr m ↦ inl (
            tt,
            directly (
              g,
              there,
              inr (inr (
                record { entered = inside rest; command = c },
                here,
                (
                  subst (λ z. Contains (z ++ inside rest) r → ⊥) (sym none) m,
                  subst (λ z. IsAmong z (occurrences_at c)) e
                      (among (occurrences_at c) x h),
                ),
              )),
            ),
          )
        ],
      )

  -- or it is one of the resource whose region it enters
  pub variable-near : (x : Occurrence) → Contains (occurrences_at c) x
      → IsVariable p now g x.var ⊎ ((r : ResId) × (i : ℕ) × (x.var ≡ Shared r i)
      × Contains (head_regions c) r
      × (i < variable_count (slice_get p.resources r.0)))
  variable-near x h = go x.var refl (in-body x h)
    where
      go : (y : Var) → x.var ≡ y → IsInBody p g y → IsVariable p now g y
          ⊎ ((r : ResId) × (i : ℕ) × (y ≡ Shared r i) × Contains (head_regions c) r
          × (i < variable_count (slice_get p.resources r.0)))
      go (Own n) e k = inl k
      go (Shared r i) e k = elim (among_or_not (head_regions c ++ inside rest) r) [
        | inl m ↦ elim (Contains-append_cases (head_regions c) (inside rest) r m) [
          | inl entered ↦ inr (r, i, refl, entered, k)
          | inr before ↦ inl (k, inr (inl before))
        ]
        | inr m ↦ inl (
          k,
          inl (
            tt,
            directly (
              g,
              there,
              inr (inr (
                record { entered = inside rest; command = c },
                here,
                (
                  m,
                  subst (λ z. IsAmong z (occurrences_at c)) e (among (occurrences_at c) x h),
                ),
              )),
            ),
          ),
        )
      ]

  -- so is one that is free in a procedure that it calls
  pub variable-called : (d : Call) → Contains (head_calls c) d → (r : ResId) (i : ℕ)
      → i < variable_count (slice_get p.resources r.0) → Free p d.callee (Shared r i)
      → IsVariable p now g (Shared r i)
  variable-called d k r i l free = (
    l,
    elim (among_or_not (inside rest) r) [
      | inl m ↦ inr (inl m)
      | inr m ↦ inl (
        tt,
        through d.callee (
          g,
          there,
          (record { entered = inside rest; command = c }, here, (m, (d, k, refl))),
        ) free.1,
      )
    ],
  )

-- Stores that grow
pub grows-cond : (b : Bool) (x y : Option Value) → (is_some x ≡ true → is_some y ≡ true)
    → is_some (cond b None x) ≡ true → is_some (cond b None y) ≡ true
grows-cond true x y g h = h
grows-cond false x y g h = g h

pub frame-grows : (p : Program) (s t : Store) (f : Frame) → Grows s t → FrameIsOf p s f
    → FrameIsOf p t f
frame-grows p s t f g h = record {
  procedure = h.procedure;
  there = h.there;
  todo = h.todo;
  names = h.names;
  variables = λ x v. g (f.fixed.slots x) (h.variables x v);
  room = λ slot i. g slot (h.room slot i);
}

pub frames-grow : (p : Program) (s t : Store) (fs : List Frame) → Grows s t → FramesAreOf p s fs
    → FramesAreOf p t fs
frames-grow p s t [] g h = tt
frames-grow p s t (f ∷ fs) g h = (
  frame-grows p s t f g h.0,
  frames-grow p (without f.fixed.room s) (without f.fixed.room t) fs
      (λ slot. grows-cond (in_room f.fixed.room slot) (s slot) (t slot) (g slot)) h.1,
)

pub grows-set : (slot : Slot) (v : Value) (s : Store)
    → Grows s (λ other. cond (same_slot other slot) (Some v) (s other))
grows-set slot v s other h = go (same_slot other slot)
  where
    go : (b : Bool) → is_some (cond b (Some v) (s other)) ≡ true
    go true = refl
    go false = h

-- A frame that goes on with other things to do
pub goes-frame : (p : Program) (s t : Store) (f : Fixed) (old todo : List Item) → Grows s t
    → StandIn todo old
    → inside todo ≡ inside old → FrameIsOf p s (record { fixed = f; todo = old })
    → FrameIsOf p t (record { fixed = f; todo = todo })
goes-frame p s t f old todo g within same h = record {
  procedure = h.procedure;
  there = h.there;
  todo = λ z k. h.todo z (within z k);
  names = h.names;
  variables = λ x v. g (f.slots x) (h.variables x (back x v));
  room = λ slot i. g slot (h.room slot i);
}
  where
    back : (x : Var) → IsVariable p (record { fixed = f; todo = todo }) h.procedure x
        → IsVariable p (record { fixed = f; todo = old }) h.procedure x
    back (Own n) v = v
    back (Shared r i) v =
        subst (λ z. (i < variable_count (slice_get p.resources r.0))
        × (Free p f.procedure (Shared r i) ⊎ (Contains z r ⊎ (sets_up p f.procedure ≡ true)))) same
        v

-- Goes: what a private event makes of the frames, in order in the program and inside of the same
-- regions
pub record Goes (p : Program) (s : Common) (old : List Frame) (t : Common) (u : Task) : Type 0 where
  pub frames : List Frame
  pub is : u ≡ runs frames
  pub of : FramesAreOf p t.store frames
  pub regions : (r : ResId) → regions p r frames ≡ regions p r old
  pub held : t.held ≡ s.held

module _ (p : Program) (s : Common) (f : Fixed) (below : List Frame) (c : Command)
    (rest : List Item)
    (t : Common) (u : Task)
    (of : FramesAreOf p s.store (record { fixed = f; todo = command c ∷ rest } ∷ below)) where
  -- with what comes after the command, or a block before it
  goes-on : (todo : List Item) → u ≡ task_with f todo below → Grows s.store t.store
      → t.held ≡ s.held
      → StandIn todo (command c ∷ rest) → inside todo ≡ inside rest
      → ((r : ResId) → exits r todo ≡ exits r rest)
      → Goes p s (record { fixed = f; todo = command c ∷ rest } ∷ below) t u
  goes-on todo is g held within same same_exits = record {
    frames = record { fixed = f; todo = todo } ∷ below;
    is = is;
    of = (
      goes-frame p s.store t.store f (command c ∷ rest) todo g within same of.0,
      frames-grow p (without f.room s.store) (without f.room t.store) below
          (λ slot. grows-cond (in_room f.room slot) (s.store slot) (t.store slot) (g slot)) of.1,
    );
    regions = λ r. ap (λ z. (throughout p r f + z) + regions p r below) (same_exits r);
    held = held;
  }

  -- a variable gets a value
  goes-set : (slot : Slot) (v : Value) → t.store ≡ (set_slot slot v s).store → t.held ≡ s.held
      → u ≡ task_with f rest below
      → Goes p s (record { fixed = f; todo = command c ∷ rest } ∷ below) t u
  goes-set slot v e held is =
      goes-on rest is (subst (Grows s.store) (sym e) (grows-set slot v s.store)) held
      (sites-rest c rest) refl (λ r. refl)

  -- the variables stay
  goes-same : t.store ≡ s.store → t.held ≡ s.held → u ≡ task_with f rest below
      → Goes p s (record { fixed = f; todo = command c ∷ rest } ∷ below) t u
  goes-same e held is = goes-on rest is (subst (Grows s.store) (sym e) (λ slot h. h)) held
      (sites-rest c rest) refl (λ r. refl)

-- The frame of a call
-- a reference names a variable of the caller's, and the other variables are in the room
own-there : (caller : Var → Slot) (store : Store) (room : Room) (xs : List Occurrence) (n : ℕ)
    → ((x : Occurrence) → Contains xs x → is_some (store (caller x.var)) ≡ true)
    → ((slot : Slot) → in_room room slot ≡ true → is_some (store slot) ≡ true)
    → n < length xs + room.count → is_some (store (own_slot caller xs room n)) ≡ true
own-there caller store room [] n refs opens l =
    opens (own room.event (room.first + n))
    (in_room-own room.event room.first room.count n (omega (arith, l)))
own-there caller store room (x ∷ xs) zero refs opens l = refs x (in-first x xs)
own-there caller store room (x ∷ xs) (suc n) refs opens l =
    own-there caller store room xs n (λ y h. refs y (contains-rest x xs y h)) opens
    (omega (arith, l))

-- a room that comes up is there, and so is what was there before
pub opened-there : (room : Room) (v : ℕ → Value) (s : Common) (slot : Slot)
    → in_room room slot ≡ true
    → is_some ((open_room room v s).store slot) ≡ true
opened-there room v s slot h =
    let one = λ (b : Bool). is_some (cond b (Some (v (index_of slot - room.first)))
    (s.store slot)) in
    ap one h

pub opened-grows : (room : Room) (v : ℕ → Value) (s : Common)
    → Grows s.store (open_room room v s).store
opened-grows room v s slot h = go (in_room room slot)
  where
    go : (b : Bool) → is_some (cond b (Some (v (index_of slot - room.first)))
        (s.store slot)) ≡ true
    go true = refl
    go false = h

-- what was there is there without the room that came up, of which nothing was
opened-without : (room : Room) (v : ℕ → Value) (s : Common)
    → ((slot : Slot) → in_room room slot ≡ true → s.store slot ≡ None)
    → Grows s.store (without room (open_room room v s).store)
opened-without room v s none slot h = go (in_room room slot) refl
  where
    go : (b : Bool) → in_room room slot ≡ b
        → is_some (cond b None (cond b (Some (v (index_of slot - room.first)))
        (s.store slot))) ≡ true
    go true e = absurd (true≢false (sym h ∙ ap is_some (none slot e)))
    go false e = h

-- a slot of a room of that number is one of its slots
pub room-clear : (room : Room) (n : ℕ) (store : Store) → room.event ≡ n
    → ((i : ℕ) → store (own n i) ≡ None) → (slot : Slot) → in_room room slot ≡ true
    → store slot ≡ None
room-clear room n store e none (shared r i) h = absurd (true≢false (sym h))
room-clear room n store e none (own m i) h =
    let same : m ≡ room.event = at-same room.event m (and-left (m == room.event) _ h) in
    ap (λ z. store (own z i)) (same ∙ e) ∙ none i

-- whatever comes up for it: its room is there, and so is what was there before
module _ (p : Program) (formed : IsFormed p) (store : Store) (f : Fixed) (rest : List Item)
    (c : Command) (d : Call) (h : Procedure) (none : head_regions c ≡ [])
    (call : Contains (head_calls c) d)
    (caller : FrameIsOf p store (record { fixed = f; todo = command c ∷ rest }))
    (there : procedure_at p d.callee ≡ Some h) (room : Room) (many : room.count ≡ room_count h)
    (after : Store) (grows : Grows store after)
    (opens : (slot : Slot) → in_room room slot ≡ true → is_some (after slot) ≡ true) where
  here : Contains (sites [] (caller.procedure).body) (record { entered = inside rest; command = c })
  here = caller.todo (record { entered = inside rest; command = c }) (sites-first c rest)

  within : CallWithin p caller.procedure d
  within = calls-within p caller.procedure c
      (command-within p formed f c rest caller.procedure caller.there here) d call

  pub callee-no_init : sets_up p d.callee ≡ false
  callee-no_init = within.no_init

  -- what occurs in the call is there
  pub callee-given : (x : Occurrence) → Contains d.references x
      → is_some (store (f.slots x.var)) ≡ true
  callee-given x k = caller.variables x.var
      (variable-here p formed f c rest caller.procedure caller.there here none x
      (Contains-append_right (head_occurrences c) (flat_map call_occurrences (head_calls c)) x
      (contains-flat_map call_occurrences (head_calls c) d x call
      (Contains-append_left d.references (flat_map expr_occurrences d.values) x k))))

  pub callee-counts : length d.references ≡ h.references
  callee-counts = (subst (λ z. HasCounts z d) there within.callee).0

  pub callee-variables : (x : Var) → IsVariable p (callee_frame f.slots d h room) h x
      → is_some (after (slots_of f.slots d room x)) ≡ true
  callee-variables (Own k) v = own-there f.slots after room d.references k
      (λ x m. grows (f.slots x.var) (callee-given x m)) opens
      (let most : k < length h.names = v in let refs = callee-counts in omega (arith, many))
  callee-variables (Shared r i) v = elim v.1 [
    | inl free ↦ grows (shared r i) (subst (λ z. is_some (store z) ≡ true) (caller.names r i)
        (caller.variables (Shared r i)
        (variable-called p formed f c rest caller.procedure caller.there here d call r i v.0 free)))
    | inr k ↦ elim k [
      | inl m ↦ absurd (contains-nil r (subst (λ z. Contains z r) (inside-block h.body) m))
      | inr m ↦ absurd (true≢false (sym m ∙ callee-no_init))
    ]
  ]

  pub callee-of : FrameIsOf p after (callee_frame f.slots d h room)
  callee-of = record {
    procedure = h;
    there = there;
    todo = λ z k. subst (λ w. Contains w z) (sites-block h.body) k;
    names = λ r i. refl;
    variables = callee-variables;
    room = opens;
  }

module _ (p : Program) (formed : IsFormed p) (s : Common) (f : Fixed) (below : List Frame)
    (rest : List Item)
    (n : ℕ) (fresh : (i : ℕ) → s.store (own n i) ≡ None)
    (of : FramesAreOf p s.store (record { fixed = f; todo = rest } ∷ below)) (c : Command)
    (d : Call)
    (h : Procedure) (none : head_regions c ≡ []) (call : Contains (head_calls c) d)
    (caller : FrameIsOf p s.store (record { fixed = f; todo = command c ∷ rest }))
    (there : procedure_at p d.callee ≡ Some h) where
  -- the callee's room, and the store with it
  abbrev room : Room
  room = room_for h n 0

  abbrev after : Store
  after = (open_room room (arguments f.slots s.store d) s).store

  -- the callee's frame on top of those of its caller
  pub frames-called : FramesAreOf p after
      (callee_frame f.slots d h room ∷ record { fixed = f; todo = rest } ∷ below)
  frames-called = (
    callee-of p formed s.store f rest c d h none call caller there room refl after
        (opened-grows room (arguments f.slots s.store d) s)
        (opened-there room (arguments f.slots s.store d) s),
    frames-grow p s.store (without room after) (record { fixed = f; todo = rest } ∷ below)
        (opened-without room (arguments f.slots s.store d) s (room-clear room n s.store refl fresh))
        of,
  )

-- the event of a command that is the task's own affair
pub goes-local : (p : Program) (formed : IsFormed p) (ev : Event) (s : Common) (f : Fixed)
    (below : List Frame)
    (c : Command) (rest : List Item) (t : Common) (u : Task) → IsLocal c
    → ((i : ℕ) → s.store (own ev.number i) ≡ None)
    → FramesAreOf p s.store (record { fixed = f; todo = command c ∷ rest } ∷ below)
    → Does p ev s f below c rest t u
    → Goes p s (record { fixed = f; todo = command c ∷ rest } ∷ below) t u
goes-local p formed ev s f below (assign q x e) rest t u l fresh of d =
    goes-set p s f below (assign q x e) rest t u of (f.slots x.var) _
    (ap (λ (z : Common). z.store) d.0)
    (ap (λ (z : Common). z.held) d.0) d.1
goes-local p formed ev s f below (look_up q x e k) rest t u l fresh of d =
    goes-set p s f below (look_up q x e k) rest t u of (f.slots x.var) _
    (ap (λ (z : Common). z.store) d.3)
    (ap (λ (z : Common). z.held) d.3) d.4
goes-local p formed ev s f below (mutate q e k v) rest t u l fresh of d =
    goes-same p s f below (mutate q e k v) rest t u of (ap (λ (z : Common). z.store) d.3)
    (ap (λ (z : Common). z.held) d.3) d.4
goes-local p formed ev s f below (new q x) rest t u l fresh of d =
    goes-set p s f below (new q x) rest t u of (f.slots x.var) _ (ap (λ (z : Common). z.store) d.2)
    (ap (λ (z : Common). z.held) d.2) d.3
goes-local p formed ev s f below (dispose q e) rest t u l fresh of d =
    goes-same p s f below (dispose q e) rest t u of (ap (λ (z : Common). z.store) d.3)
    (ap (λ (z : Common). z.held) d.3) d.4
goes-local p formed ev s f below (if q test this that) rest t u l fresh of d =
    let grows : Grows s.store t.store =
    subst (Grows s.store) (sym (ap (λ (z : Common). z.store) d.0)) (λ slot h. h) in
    elim d.1 [
      | inl y ↦ goes-on p s f below (if q test this that) rest t u of (items this ++ rest) y.1 grows
          (ap (λ (z : Common). z.held) d.0)
          (sites-inner (if q test this that) this rest
          (λ z k. Contains-append_left (sites (inside rest) this) (sites (inside rest) that) z k))
          (inside-items this rest) (λ r. items-exits r this rest)
      | inr m ↦ goes-on p s f below (if q test this that) rest t u of (items that ++ rest) m.1 grows
          (ap (λ (z : Common). z.held) d.0)
          (sites-inner (if q test this that) that rest
          (λ z k. Contains-append_right (sites (inside rest) this) (sites (inside rest) that) z k))
          (inside-items that rest) (λ r. items-exits r that rest)
    ]
goes-local p formed ev s f below (while q test kept body) rest t u l fresh of d =
    let grows : Grows s.store t.store =
    subst (Grows s.store) (sym (ap (λ (z : Common). z.store) d.0)) (λ slot h. h) in
    elim d.1 [
      | inl y ↦ goes-on p s f below (while q test kept body) rest t u of
          (items body ++ command (while q test kept body) ∷ rest) y.1 grows
          (ap (λ (z : Common). z.held) d.0)
          (sites-again (while q test kept body) body rest (λ z k. k))
          (inside-items body (command (while q test kept body) ∷ rest))
          (λ r. items-exits r body (command (while q test kept body) ∷ rest))
      | inr m ↦ goes-on p s f below (while q test kept body) rest t u of rest m.1 grows
          (ap (λ (z : Common). z.held) d.0) (sites-rest (while q test kept body) rest) refl
          (λ r. refl)
    ]
goes-local p formed ev s f below (call q c) rest t u l fresh of d =
    let after = goes-frame p s.store s.store f (command (call q c) ∷ rest) rest (λ slot h. h)
    (sites-rest (call q c) rest) refl of.0 in
    record {
      frames = callee_frame f.slots c d.0 (room_for d.0 ev.number 0) ∷ record {
        fixed = f;
        todo = rest;
      } ∷ below;
      is = d.3;
      of = subst (λ (z : Common). FramesAreOf p z.store
          (callee_frame f.slots c d.0 (room_for d.0 ev.number 0) ∷ record { fixed = f; todo = rest }
          ∷ below))
          (sym d.2)
          (frames-called p formed s f below rest ev.number fresh (after, of.1) (call q c) c d.0 refl
          (in-first c []) of.0 d.1);
      regions = λ r. called-regions r d.0 (no_init of.0);
      held = ap (λ (z : Common). z.held) d.2;
    }
  where
    no_init : FrameIsOf p s.store (record { fixed = f; todo = command (call q c) ∷ rest })
        → sets_up p c.callee ≡ false
    no_init o = (calls-within p o.procedure (call q c)
        (command-within p formed f (call q c) rest o.procedure o.there
        (o.todo (record { entered = inside rest; command = call q c })
        (sites-first (call q c) rest))) c
        (in-first c [])).no_init

    called-regions : (r : ResId) (h : Procedure) → sets_up p c.callee ≡ false
        → regions p r (callee_frame f.slots c h (room_for h ev.number 0) ∷ record {
          fixed = f;
          todo = rest;
        } ∷ below)
        ≡ regions p r (record { fixed = f; todo = command (call q c) ∷ rest } ∷ below)
    called-regions r h e =
        let none : throughout p r (callee_frame f.slots c h (room_for h ev.number 0)).fixed ≡ 0 =
        ap (λ z. cond (z && ltb r.0 (length p.resources)) 1 0) e in
        let block : exits r (items h.body) ≡ 0 = block-exits r h.body in
        omega arith
goes-local p formed ev s f below (fork q c e) rest t u l fresh of d = absurd l
goes-local p formed ev s f below (with q r test body) rest t u l fresh of d = absurd l

-- the return of a procedure that doesn't set the resources up
pub goes-return : (p : Program) (s : Common) (f : Fixed) (below : List Frame) (t : Common)
    (u : Task)
    → sets_up p f.procedure ≡ false
    → FramesAreOf p s.store (record { fixed = f; todo = [] } ∷ below)
    → t ≡ returned p f s → u ≡ runs below → Goes p s (record { fixed = f; todo = [] } ∷ below) t u
goes-return p s f below t u e of is now = record {
  frames = below;
  is = now;
  of = subst (λ (z : Common). FramesAreOf p z.store below) (sym is) of.1;
  regions = λ r.
      let none : throughout p r f ≡ 0 = ap (λ z. cond (z && ltb r.0 (length p.resources)) 1 0) e in
      omega arith;
  held = ap (λ (z : Common). z.held) is ∙ ap (λ b. λ r. cond b None (s.held r)) e;
}

-- What occurs next is there
some-value : (o : Option Value) → is_some o ≡ true → (v : Value) × (o ≡ Some v)
some-value None h = absurd (true≢false (sym h))
some-value (Some v) h = (v, refl)

-- the variables of a command that enters no region
pub command-there : (p : Program) (formed : IsFormed p) (store : Store) (f : Fixed) (c : Command)
    (rest : List Item) → FrameIsOf p store (record { fixed = f; todo = command c ∷ rest })
    → head_regions c ≡ [] → (slot : Slot)
    → CommandReads f.slots store c (variable slot) ⊎ CommandWrites f.slots store c (variable slot)
    → (v : Value) × (store slot ≡ Some v)
command-there p formed store f c rest of none slot h =
    let o : OccursIn f.slots (occurrences_at c) slot = elim h [
      | inl r ↦ reads-occur f.slots store slot c r
      | inr w ↦ writes-occur f.slots store slot c w
    ] in
    some-value (store slot) (ap (λ z. is_some (store z)) o.is
    ∙ of.variables (o.x).var (variable-here p formed f c rest of.procedure of.there
    (of.todo (record { entered = inside rest; command = c }) (sites-first c rest)) none o.x o.here))

-- and those of a room that is to vanish
pub room-there : (p : Program) (store : Store) (f : Frame) → FrameIsOf p store f → (slot : Slot)
    → in_room f.fixed.room slot ≡ true → (v : Value) × (store slot ≡ Some v)
room-there p store f of slot h = some-value (store slot) (of.room slot h)
