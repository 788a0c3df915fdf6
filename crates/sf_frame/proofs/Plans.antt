-- What the code plans for the event of a command.
-- Names: `plan_KIND` for each kind of command, `refuse_KIND` where its event is none, `room_LAW` of rooms that come up.
use Rattle.std.specs.Prelude.{◌≡◌, ℕ, ◌+◌, ◌*◌, ◌-◌, ◌<◌, ◌≤◌, Bool, true, false, cond, get_or, List, [], ◌∷◌, length, map, Some, None, Result, Ok, Err, IfOk, OnErr}
use Rattle.std.specs.List.{slice_get}
use Rattle.std.specs.Option.{option_map}
use Rattle.std.proofs.Common.{true≢false, sym, ap, ◌∙◌, refl, inl, inr, arith}
use Rattle.std.proofs.lemmas.Bool.Decides.{nat_tests}
use Rattle.std.proofs.lemmas.Option.{slice_get-map, slice_get_cases}
use Rattle.sf_base.specs.declared.limits.TheConstants.{OWN_VARIABLES, TURNS}
use Rattle.sf_base.specs.declared.value.Value.TheVariants.{Nil as nil}
use Rattle.sf_base.specs.HeapStore.{Slot, shared, own, Store}
use Rattle.sf_core.specs.Machine.Config.{Room, in_room, Fixed, runs, waits, Common}
use Rattle.sf_core.specs.Machine.Step.{Event, open_room, arguments, callee_frame, index_of, procedure_at, room_count, room_for}
use Rattle.sf_core.specs.Program.Syntax.{Call, Command, Procedure, Program}
use Rattle.sf_frame.specs.declared.effect.Effect.TheVariants.{Open}
use Rattle.sf_frame.specs.declared.effect.Opening.{Opening}
use Rattle.sf_frame.specs.declared.refusal.Refusal.TheVariants.{TooDeep}
use Rattle.sf_frame.specs.declared.frame.Frame.{Frame as CodeFrame}
use Rattle.sf_frame.specs.declared.frame.Room.{Room as CodeRoom}
use Rattle.sf_frame.specs.declared.plan.Plan.{Plan}
use Rattle.sf_frame.specs.declared.plan.Plan.TheVariants.{Acts, Forks, Refused}
use Rattle.sf_frame.specs.declared.stack.Change.TheVariants.{Call as calls}
use Rattle.sf_frame.specs.Checked.Effects.{opened, opened_store, IsClearStore}
use Rattle.sf_frame.specs.Checked.Plans.{FitsPlan, PlansCall, PlansFork, TakesRoom}
use Rattle.sf_frame.specs.Frames.{frame_of, room_of}

-- what holds anyway holds of a refusal
pub on_err : {A E P : Type 0} (r : Result A E) → P → OnErr r P
on_err (Ok x) h = tt
on_err (Err e) h = h

-- a command whose event may take room may have any plan
fits_any : (one : Command) (plan : Plan) → TakesRoom one → FitsPlan one plan
fits_any one (Acts effect change) t = λ h. t
fits_any one (Forks left right) t = tt
fits_any one (Refused why) t = tt

pub ok_fits : {E : Type 0} (one : Command) (r : Result Plan E) → TakesRoom one
    → IfOk r (FitsPlan one)
ok_fits one (Ok plan) t = fits_any one plan t
ok_fits one (Err e) t = tt

-- a procedure of that number is there
pub procedure_there : {A : Type 0} (v : A → Procedure) (xs : List A) (k : ℕ) → k < length xs
    → (g : Procedure) × (slice_get (map v xs) k ≡ Some g)
procedure_there v xs k l = elim (slice_get_cases xs k).1 [
  | inl h ↦ (v h.0, slice_get-map v xs k ∙ ap (option_map v) h.2)
  | inr h ↦ absurd (omega (arith, l, h.0))
]

-- a slot of a room is of its event
pub room_event : (room : Room) (slot : Slot) → in_room room slot ≡ true → (i : ℕ) × (slot ≡ own room.event i)
room_event room (shared r i) h = absurd (true≢false (sym h))
room_event room (own e i) h =
    let same : e ≡ room.event = grind (arith, nat_tests) in
    (i, ap (λ z. own z i) same)

-- a room that ends where the other one begins has no slot of it
pub room_apart : (one two : Room) (slot : Slot) → one.first + one.count ≤ two.first → in_room one slot ≡ true
    → in_room two slot ≡ true → ⊥
room_apart one two (shared r i) l h k = true≢false (sym h)
room_apart one two (own e i) l h k =
    let high : i < one.first + one.count = grind (arith, nat_tests) in
    let low : two.first ≤ i = grind (arith, nat_tests) in
    absurd (omega (arith, l, high, low))

-- the slots of a room of an event are absent where none of that event is there
pub room_clear : (o : Opening) (room : CodeRoom) (event first : ℕ) (store : Store) → o.room ≡ room
    → room.event ≡ event → room.first ≡ first → room.count ≤ 2 * OWN_VARIABLES → first ≤ 2 * OWN_VARIABLES
    → ((i : ℕ) → store (own event i) ≡ None) → IsClearStore o store
room_clear o room event first store same is at few low none = (
  (
      let begins : o.room.first ≡ first = ap (λ (z : CodeRoom). z.first) same ∙ at in
      let counts : o.room.count ≡ room.count = ap (λ (z : CodeRoom). z.count) same in
      omega (arith, begins, counts, few, low)
      ),
  λ slot h.
      let k = room_event (room_of o.room) slot h in
      let number : o.room.event ≡ event = ap (λ (z : CodeRoom). z.event) same ∙ is in
      ap store (k.1 ∙ ap (λ z. own z k.0) number) ∙ none k.0,
)

-- so are those of one that comes after another, which came up
pub room_next_clear : (o q : Opening) (store : Store) → o.room.first + o.room.count ≤ q.room.first
    → IsClearStore q store → IsClearStore q (opened_store o store)
room_next_clear o q store after clear = (
  clear.0,
  λ slot h. go slot h (in_room (room_of o.room) slot) refl,
)
  where
    go : (slot : Slot) → in_room (room_of q.room) slot ≡ true → (b : Bool) → in_room (room_of o.room) slot ≡ b
        → opened_store o store slot ≡ None
    go slot h true e = absurd (room_apart (room_of o.room) (room_of q.room) slot after e h)
    go slot h false e =
        ap (λ b. cond b (Some (get_or o.values.items (index_of slot - o.room.first) nil)) (store slot)) e
        ∙ clear.1 slot h

-- what a call makes of what is shared
call_opens : (s : Common) (f : Fixed) (c : Call) (t : Common) (o : Opening) (room : CodeRoom) (made : Room)
    → room_of room ≡ made
    → ((w : Common) → opened o w ≡ open_room (room_of room) (arguments f.slots s.store c) w)
    → opened o t ≡ open_room made (arguments f.slots s.store c) t
call_opens s f c t o room made is opens =
    opens t ∙ ap (λ (z : Room). open_room z (arguments f.slots s.store c) t) is

-- `f(x; E)`
pub plan_call : (p : Program) (ev : Event) (s : Common) (f : Fixed) (c : Call) (g : Procedure) (o : Opening)
    (room : CodeRoom) (callee : CodeFrame) → procedure_at p c.callee ≡ Some g
    → room_of room ≡ room_for g ev.number 0 → room.count ≤ 2 * OWN_VARIABLES → o.room ≡ room
    → ((w : Common) → opened o w ≡ open_room (room_of room) (arguments f.slots s.store c) w)
    → frame_of callee ≡ callee_frame f.slots c g (room_of room)
    → ((i : ℕ) → s.store (own ev.number i) ≡ None) → PlansCall p ev s f c (Acts (Open o) (calls callee))
plan_call p ev s f c g o room callee there is few same opens frame none = λ place below rest. (
  (
    g,
    there,
    call_opens s f c s o room (room_for g ev.number 0) is opens,
    λ i. runs ((frame ∙ ap (callee_frame f.slots c g) is) i ∷ record { fixed = f; todo = rest } ∷ below),
  ),
  room_clear o room ev.number 0 s.store same (ap (λ (z : Room). z.event) is) (ap (λ (z : Room). z.first) is) few
      (omega arith) none,
  tt,
)

-- a fork below 63 turns
pub refuse_fork : (p : Program) (ev : Event) (s : Common) (f : Fixed) (c d : Call) → TURNS ≤ length ev.task
    → PlansFork p ev s f c d (Refused TooDeep)
refuse_fork p ev s f c d deep = λ place below rest. (refl, deep)

-- `f(x; E) || g(y; F)`
pub plan_fork : (p : Program) (ev : Event) (s : Common) (f : Fixed) (c d : Call) (g h : Procedure) (o q : Opening)
    (left right : CodeRoom) (one two : CodeFrame) → length ev.task < TURNS
    → procedure_at p c.callee ≡ Some g → procedure_at p d.callee ≡ Some h
    → room_of left ≡ room_for g ev.number 0 → room_of right ≡ room_for h ev.number left.count
    → left.count ≤ 2 * OWN_VARIABLES → right.count ≤ 2 * OWN_VARIABLES → o.room ≡ left → q.room ≡ right
    → ((w : Common) → opened o w ≡ open_room (room_of left) (arguments f.slots s.store c) w)
    → ((w : Common) → opened q w ≡ open_room (room_of right) (arguments f.slots s.store d) w)
    → frame_of one ≡ callee_frame f.slots c g (room_of left) → frame_of two ≡ callee_frame f.slots d h (room_of right)
    → ((i : ℕ) → s.store (own ev.number i) ≡ None)
    → PlansFork p ev s f c d (Forks (record { opening = o; frame = one }) (record { opening = q; frame = two }))
plan_fork p ev s f c d g h o q left right one two deep there here is at few less same also opens more task other none =
    λ place below rest.
    let count : left.count ≡ room_count g = ap (λ (z : Room). z.count) is in
    let right_is : room_of right ≡ room_for h ev.number (room_count g) = at ∙ ap (room_for h ev.number) count in (
      (
        deep,
        g,
        h,
        there,
        here,
        call_opens s f d (opened o s) q right (room_for h ev.number (room_count g)) right_is more
            ∙ ap (open_room (room_for h ev.number (room_count g)) (arguments f.slots s.store d))
            (call_opens s f c s o left (room_for g ev.number 0) is opens),
        λ i. waits (record { fixed = f; todo = rest } ∷ below)
            (runs ((task ∙ ap (callee_frame f.slots c g) is) i ∷ []))
            (runs ((other ∙ ap (callee_frame f.slots d h) right_is) i ∷ [])),
      ),
      (
        room_clear o left ev.number 0 s.store same (ap (λ (z : Room). z.event) is) (ap (λ (z : Room). z.first) is) few
            (omega arith) none,
        room_next_clear o q s.store (
            let begins : o.room.first ≡ 0 = ap (λ (z : CodeRoom). z.first) same ∙ ap (λ (z : Room). z.first) is in
            let counts : o.room.count ≡ left.count = ap (λ (z : CodeRoom). z.count) same in
            let next : q.room.first ≡ left.count = ap (λ (z : CodeRoom). z.first) also ∙ ap (λ (z : Room). z.first) at in
            omega (arith, begins, counts, next)
            ) (room_clear q right ev.number left.count s.store also (ap (λ (z : Room). z.event) at)
            (ap (λ (z : Room). z.first) at) less few none),
      ),
    )
