-- Whether a thing is one that an event writes or makes, and whether a resource is the one that it moves.
-- Names: `WHAT-or_not` decides.
use Rattle.std.specs.Prelude.{◌≡◌, ℕ, Bool, true, false, Option, Some, None, ◌⊎◌}
use Rattle.std.proofs.Common.{true≢false, sym, ap, refl, subst, inl, inr}
use Rattle.std.proofs.lemmas.Bool.{cases_eq}
use Rattle.sf_base.proofs.Options.{some-none, some-once}
use Rattle.sf_base.proofs.StoreSplits.{slot-which, resource-is}
use Rattle.sf_base.specs.declared.ids.ResId.{ResId}
use Rattle.sf_base.specs.declared.value.Value.{Value}
use Rattle.sf_base.specs.declared.value.Value.TheVariants.{Nil as nil, Int as int, Loc as loc}
use Rattle.sf_base.specs.HeapStore.{Slot, Store}
use Rattle.sf_core.specs.Machine.Config.{Room, in_room, Fixed, evaluate}
use Rattle.sf_core.specs.Machine.Next.{Next, does, leaves, returns, joins, nothing}
use Rattle.sf_core.specs.Machine.Enabled.{Thing, variable, cell, IsInRoom, IsCellAt, CommandWrites, Writes}
use Rattle.sf_core.specs.Checked.Machine.Laws.{CommandMakes, Makes, Enters, Moves}
use Rattle.sf_core.specs.Machine.Step.{Event, procedure_at, room_count, room_for}
use Rattle.sf_core.specs.Program.Init.{sets_up}
use Rattle.sf_core.specs.Program.Syntax.{Command, assign, look_up, mutate, new, dispose, if, while, call, fork, with, Procedure, Program}

-- it is so, or it isn't
abbrev pub Decided : Type 0 → Type 0
Decided P = P ⊎ (P → ⊥)

variable-or_not : (thing : Thing) (slot : Slot) → Decided (thing ≡ variable slot)
variable-or_not (variable y) x =
    elim (slot-which x y) [ inl e ↦ inl (ap variable e) | inr n ↦ inr (λ e. n.0 (cc)) ]
variable-or_not (cell a) x = inr (λ e. absurd (cc))

cell-or_not : (thing : Thing) (location : ℕ) → Decided (thing ≡ cell location)
cell-or_not (variable y) a = inr (λ e. absurd (cc))
cell-or_not (cell b) a = elim (cases_eq b a) [ inl e ↦ inl (ap cell e) | inr n ↦ inr (λ e. n (cc)) ]

at-or_not : (v : Value) (thing : Thing) → Decided (IsCellAt v thing)
at-or_not nil thing = inr (λ h. h)
at-or_not (int i) thing = inr (λ h. h)
at-or_not (loc a) thing = cell-or_not thing a

true-or_not : (b : Bool) → Decided (b ≡ true)
true-or_not true = inl refl
true-or_not false = inr (λ e. true≢false (sym e))

room-or_not : (room : Room) (thing : Thing) → Decided (IsInRoom room thing)
room-or_not room (variable y) = true-or_not (in_room room y)
room-or_not room (cell a) = inr (λ h. h)

pub resource-or_not : (r q : ResId) → Decided (r ≡ q)
resource-or_not r q =
    elim (cases_eq r.0 q.0) [ inl e ↦ inl (resource-is r q e) | inr n ↦ inr (λ e. n (ap (λ (z : ResId). z.0) e)) ]

either-or_not : {P Q : Type 0} → Decided P → Decided Q → Decided (P ⊎ Q)
either-or_not (inl p) e = inl (inl p)
either-or_not (inr n) (inl q) = inl (inr q)
either-or_not (inr n) (inr m) = inr (λ h. elim h [ inl p ↦ n p | inr q ↦ m q ])

command-writes-or_not : (f : Fixed) (store : Store) (c : Command) (thing : Thing)
    → Decided (CommandWrites f.slots store c thing)
command-writes-or_not f store (assign place x e) thing = variable-or_not thing (f.slots x.var)
command-writes-or_not f store (look_up place x e g) thing = variable-or_not thing (f.slots x.var)
command-writes-or_not f store (mutate place e g v) thing = at-or_not (evaluate f.slots store e) thing
command-writes-or_not f store (new place x) thing = variable-or_not thing (f.slots x.var)
command-writes-or_not f store (dispose place e) thing = at-or_not (evaluate f.slots store e) thing
command-writes-or_not f store (if place test this that) thing = inr (λ h. h)
command-writes-or_not f store (while place test kept body) thing = inr (λ h. h)
command-writes-or_not f store (call place c) thing = inr (λ h. h)
command-writes-or_not f store (fork place c d) thing = inr (λ h. h)
command-writes-or_not f store (with place r test body) thing = inr (λ h. h)

call-makes-or_not : (p : Program) (ev : Event) (o : Option Procedure) (thing : Thing)
    → Decided ((g : Procedure) × (o ≡ Some g) × IsInRoom (room_for g ev.number 0) thing)
call-makes-or_not p ev None thing = inr (λ m. some-none m.0 (sym m.1))
call-makes-or_not p ev (Some g) thing = elim (room-or_not (room_for g ev.number 0) thing) [
  | inl i ↦ inl (g, refl, i)
  | inr n ↦ inr (λ m. n (subst (λ (z : Procedure). IsInRoom (room_for z ev.number 0) thing)
      (some-once (Some g) m.0 g m.1 refl) m.2))
]

fork-makes-or_not : (p : Program) (ev : Event) (o q : Option Procedure) (thing : Thing)
    → Decided ((g : Procedure) × (h : Procedure) × (o ≡ Some g) × (q ≡ Some h)
    × (IsInRoom (room_for g ev.number 0) thing ⊎ IsInRoom (room_for h ev.number (room_count g)) thing))
fork-makes-or_not p ev None q thing = inr (λ m. some-none m.0 (sym m.2))
fork-makes-or_not p ev (Some g) None thing = inr (λ m. some-none m.1 (sym m.3))
fork-makes-or_not p ev (Some g) (Some h) thing =
    elim (either-or_not (room-or_not (room_for g ev.number 0) thing)
    (room-or_not (room_for h ev.number (room_count g)) thing)) [
      | inl i ↦ inl (g, h, refl, refl, i)
      | inr n ↦ inr (λ m. n (subst (λ (z : Procedure). IsInRoom (room_for z ev.number 0) thing
          ⊎ IsInRoom (room_for h ev.number (room_count z)) thing) (some-once (Some g) m.0 g m.2 refl)
          (subst (λ (z : Procedure). IsInRoom (room_for m.0 ev.number 0) thing
          ⊎ IsInRoom (room_for z ev.number (room_count m.0)) thing) (some-once (Some h) m.1 h m.3 refl) m.4)))
    ]

command-makes-or_not : (p : Program) (ev : Event) (c : Command) (thing : Thing)
    → Decided (CommandMakes p ev c thing)
command-makes-or_not p ev (assign place x e) thing = inr (λ h. h)
command-makes-or_not p ev (look_up place x e g) thing = inr (λ h. h)
command-makes-or_not p ev (mutate place e g v) thing = inr (λ h. h)
command-makes-or_not p ev (new place x) thing = cell-or_not thing ev.at
command-makes-or_not p ev (dispose place e) thing = inr (λ h. h)
command-makes-or_not p ev (if place test this that) thing = inr (λ h. h)
command-makes-or_not p ev (while place test kept body) thing = inr (λ h. h)
command-makes-or_not p ev (call place c) thing = call-makes-or_not p ev (procedure_at p c.callee) thing
command-makes-or_not p ev (fork place c d) thing =
    fork-makes-or_not p ev (procedure_at p c.callee) (procedure_at p d.callee) thing
command-makes-or_not p ev (with place r test body) thing = inr (λ h. h)

-- whether an event writes or makes the thing
pub changes-or_not : (p : Program) (ev : Event) (store : Store) (n : Next) (thing : Thing)
    → Decided (Writes store n thing ⊎ Makes p ev n thing)
changes-or_not p ev store (does f below c rest) thing =
    either-or_not (command-writes-or_not f store c thing) (command-makes-or_not p ev c thing)
changes-or_not p ev store (leaves f below r rest) thing = either-or_not (inr (λ h. h)) (inr (λ h. h))
changes-or_not p ev store (returns f below) thing = either-or_not (room-or_not f.room thing) (inr (λ h. h))
changes-or_not p ev store (joins frames one two) thing = either-or_not (inr (λ h. h)) (inr (λ h. h))
changes-or_not p ev store nothing thing = either-or_not (inr (λ h. h)) (inr (λ h. h))

enters-or_not : (c : Command) (r : ResId) → Decided (Enters c r)
enters-or_not (with place q test body) r = resource-or_not r q
enters-or_not _ r = inr (λ h. absurd h)

-- whether an event enters or leaves a region of the resource, or makes all free
pub moves-or_not : (p : Program) (n : Next) (r : ResId) → Decided (Moves p n r)
moves-or_not p (does f below c rest) r = enters-or_not c r
moves-or_not p (leaves f below q rest) r = resource-or_not r q
moves-or_not p (returns f below) r = true-or_not (sets_up p f.procedure)
moves-or_not p (joins frames one two) r = inr (λ h. h)
moves-or_not p nothing r = inr (λ h. h)
