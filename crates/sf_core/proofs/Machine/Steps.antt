-- What one step of the machine changes, and what it leaves alone.
-- Names: WHAT-RELATION, as `store-kept`: the part of the configuration, and what is said of it.
use Rattle.std.specs.Prelude.{◌≡◌, ℕ, true, List, Option, Some, None, ◌==◌}
use Rattle.std.proofs.Common.{sym, ap, ◌∙◌, subst, inl, inr}
use Rattle.std.proofs.lemmas.Bool.{cond-true}
use Rattle.sf_base.proofs.Bools.{cond-else}
use Rattle.sf_base.specs.declared.ids.ResId.{ResId}
use Rattle.sf_base.specs.declared.value.Value.{Value}
use Rattle.sf_base.specs.declared.value.Value.TheVariants.{Loc as loc}
use Rattle.sf_base.proofs.HeapSplits.{at-self, put-elsewhere}
use Rattle.sf_base.proofs.StoreSplits.{slot-elsewhere, resource-same}
use Rattle.sf_core.specs.Machine.Config.{Item, Room, in_room, Fixed, Frame, Task, Path, Common}
use Rattle.sf_core.specs.Machine.Next.{Next, does, leaves, returns, joins, nothing}
use Rattle.sf_core.specs.Machine.Enabled.{variable, cell, IsCellAt, CommandWrites}
use Rattle.sf_base.specs.HeapStore.{Cell, Slot}
use Rattle.sf_core.specs.Checked.Machine.Laws.{CommandMakes, Makes, IsLeft, Enters, Moves, HolderChanges, ChangesOnlyFootprint}
use Rattle.sf_core.specs.Machine.Step.{Event, set_slot, set_cell, set_holder, open_room, close_room, room_count, room_for, arguments, Does, Goes}
use Rattle.sf_core.specs.Program.Init.{sets_up}
use Rattle.sf_core.specs.Program.Syntax.{Command, assign, look_up, mutate, new, dispose, if, while, call, fork, with, Program}

set_slot-other : (x y : Slot) (v : Value) (s : Common) → (variable y ≡ variable x → ⊥)
    → (set_slot x v s).store y ≡ s.store y
set_slot-other x y v s n = slot-elsewhere x y (Some v) s.store (λ e. n (ap variable e))

set_cell-other : (a b : ℕ) (k : Option Cell) (s : Common) → (cell b ≡ cell a → ⊥)
    → (set_cell a k s).heap b ≡ s.heap b
set_cell-other a b k s n = put-elsewhere a b k s.heap (λ e. n (ap cell e))

open_room-other : (room : Room) (y : Slot) (v : ℕ → Value) (s : Common) → (in_room room y ≡ true → ⊥)
    → (open_room room v s).store y ≡ s.store y
open_room-other room y v s n = cond-else (in_room room y) (Some (v _)) (s.store y) n

close_room-other : (room : Room) (y : Slot) (s : Common) → (in_room room y ≡ true → ⊥)
    → (close_room room s).store y ≡ s.store y
close_room-other room y s n = cond-else (in_room room y) None (s.store y) n

-- the cell at a value that is a location
pub cell-at : (v : Value) (a b : ℕ) → v ≡ loc a → cell b ≡ cell a → IsCellAt v (cell b)
cell-at v a b e h = subst (λ z. IsCellAt z (cell b)) (sym e) h

-- Variables
store-by_command : (p : Program) (ev : Event) (s t : Common) (f : Fixed) (below : List Frame) (c : Command)
    (rest : List Item) (u : Task)
    → Does p ev s f below c rest t u → (y : Slot) → (CommandWrites f.slots s.store c (variable y) → ⊥)
    → (CommandMakes p ev c (variable y) → ⊥)
    → t.store y ≡ s.store y
store-by_command p ev s t f below (assign place x e) rest u d y w m =
    ap (λ (z : Common). z.store y) d.0 ∙ set_slot-other (f.slots x.var) y _ s w
store-by_command p ev s t f below (look_up place x e g) rest u d y w m =
    ap (λ (z : Common). z.store y) d.3 ∙ set_slot-other (f.slots x.var) y _ s w
store-by_command p ev s t f below (mutate place e g v) rest u d y w m = ap (λ (z : Common). z.store y) d.3
store-by_command p ev s t f below (new place x) rest u d y w m =
    ap (λ (z : Common). z.store y) d.2
    ∙ set_slot-other (f.slots x.var) y _ (set_cell ev.at (Some ev.fields) s) w
store-by_command p ev s t f below (dispose place e) rest u d y w m = ap (λ (z : Common). z.store y) d.3
store-by_command p ev s t f below (if place test this that) rest u d y w m =
    ap (λ (z : Common). z.store y) d.0
store-by_command p ev s t f below (while place test kept body) rest u d y w m =
    ap (λ (z : Common). z.store y) d.0
store-by_command p ev s t f below (call place c) rest u d y w m =
    ap (λ (z : Common). z.store y) d.2
    ∙ open_room-other (room_for d.0 ev.number 0) y (arguments f.slots s.store c) s (λ i. m (d.0, d.1, i))
store-by_command p ev s t f below (fork place c e) rest u d y w m =
    ap (λ (z : Common). z.store y) d.5
    ∙ (open_room-other (room_for d.2 ev.number (room_count d.1)) y (arguments f.slots s.store e)
    (open_room (room_for d.1 ev.number 0) (arguments f.slots s.store c) s)
    (λ i. m (d.1, d.2, d.3, d.4, inr i))
    ∙ open_room-other (room_for d.1 ev.number 0) y (arguments f.slots s.store c) s
    (λ i. m (d.1, d.2, d.3, d.4, inl i)))
store-by_command p ev s t f below (with place r test body) rest u d y w m = ap (λ (z : Common). z.store y) d.2

-- what an event neither writes nor makes of the store stays
pub store-by_next : (p : Program) (ev : Event) (s t : Common) (n : Next) (u : Task)
    → Goes p ev s n t u → (y : Slot) → IsLeft p ev s.store n (variable y) → t.store y ≡ s.store y
store-by_next p ev s t (does f below c rest) u d y l =
    store-by_command p ev s t f below c rest u d y l.unwritten l.not_made
store-by_next p ev s t (leaves f below r rest) u d y l = ap (λ (z : Common). z.store y) d.1
store-by_next p ev s t (returns f below) u d y l =
    ap (λ (z : Common). z.store y) d.1 ∙ close_room-other f.room y s l.unwritten
store-by_next p ev s t (joins frames one two) u d y l = ap (λ (z : Common). z.store y) d.2
store-by_next p ev s t nothing u d y l = absurd d

-- Cells
heap-by_command : (p : Program) (ev : Event) (s t : Common) (f : Fixed) (below : List Frame) (c : Command)
    (rest : List Item) (u : Task)
    → Does p ev s f below c rest t u → (a : ℕ) → (CommandWrites f.slots s.store c (cell a) → ⊥)
    → (CommandMakes p ev c (cell a) → ⊥)
    → t.heap a ≡ s.heap a
heap-by_command p ev s t f below (assign place x e) rest u d a w m = ap (λ (z : Common). z.heap a) d.0
heap-by_command p ev s t f below (look_up place x e g) rest u d a w m = ap (λ (z : Common). z.heap a) d.3
heap-by_command p ev s t f below (mutate place e g v) rest u d a w m =
    ap (λ (z : Common). z.heap a) d.3 ∙ set_cell-other d.0 a _ s (λ h. w (cell-at _ d.0 a d.2.is h))
heap-by_command p ev s t f below (new place x) rest u d a w m =
    ap (λ (z : Common). z.heap a) d.2 ∙ set_cell-other ev.at a _ s m
heap-by_command p ev s t f below (dispose place e) rest u d a w m =
    ap (λ (z : Common). z.heap a) d.3 ∙ set_cell-other d.0 a None s (λ h. w (cell-at _ d.0 a d.2.is h))
heap-by_command p ev s t f below (if place test this that) rest u d a w m = ap (λ (z : Common). z.heap a) d.0
heap-by_command p ev s t f below (while place test kept body) rest u d a w m =
    ap (λ (z : Common). z.heap a) d.0
heap-by_command p ev s t f below (call place c) rest u d a w m = ap (λ (z : Common). z.heap a) d.2
heap-by_command p ev s t f below (fork place c e) rest u d a w m = ap (λ (z : Common). z.heap a) d.5
heap-by_command p ev s t f below (with place r test body) rest u d a w m = ap (λ (z : Common). z.heap a) d.2

-- what an event neither writes nor makes of the heap stays
pub heap-by_next : (p : Program) (ev : Event) (s t : Common) (n : Next) (u : Task)
    → Goes p ev s n t u → (a : ℕ) → IsLeft p ev s.store n (cell a) → t.heap a ≡ s.heap a
heap-by_next p ev s t (does f below c rest) u d a l =
    heap-by_command p ev s t f below c rest u d a l.unwritten l.not_made
heap-by_next p ev s t (leaves f below r rest) u d a l = ap (λ (z : Common). z.heap a) d.1
heap-by_next p ev s t (returns f below) u d a l = ap (λ (z : Common). z.heap a) d.1
heap-by_next p ev s t (joins frames one two) u d a l = ap (λ (z : Common). z.heap a) d.2
heap-by_next p ev s t nothing u d a l = absurd d

-- The cell that a `new` makes
absent-by_command : (p : Program) (ev : Event) (s t : Common) (f : Fixed) (below : List Frame) (c : Command)
    (rest : List Item) (u : Task)
    → Does p ev s f below c rest t u → (a : ℕ) → CommandMakes p ev c (cell a) → s.heap a ≡ None
absent-by_command p ev s t f below (new place x) rest u d a m = let e : a ≡ ev.at = cc in ap s.heap e ∙ d.1
absent-by_command p ev s t f below (assign place x e) rest u d a m = absurd m
absent-by_command p ev s t f below (look_up place x e g) rest u d a m = absurd m
absent-by_command p ev s t f below (mutate place e g v) rest u d a m = absurd m
absent-by_command p ev s t f below (dispose place e) rest u d a m = absurd m
absent-by_command p ev s t f below (if place test this that) rest u d a m = absurd m
absent-by_command p ev s t f below (while place test kept body) rest u d a m = absurd m
absent-by_command p ev s t f below (call place c) rest u d a m = absurd m.2
absent-by_command p ev s t f below (fork place c e) rest u d a m =
    elim m.4 [ inl i ↦ absurd i | inr i ↦ absurd i ]
absent-by_command p ev s t f below (with place r test body) rest u d a m = absurd m

-- the cell that an event makes wasn't there before
pub absent-by_next : (p : Program) (ev : Event) (s t : Common) (n : Next) (u : Task)
    → Goes p ev s n t u → (a : ℕ) → Makes p ev n (cell a) → s.heap a ≡ None
absent-by_next p ev s t (does f below c rest) u d a m = absent-by_command p ev s t f below c rest u d a m
absent-by_next p ev s t (leaves f below r rest) u d a m = absurd m
absent-by_next p ev s t (returns f below) u d a m = absurd m
absent-by_next p ev s t (joins frames one two) u d a m = absurd m
absent-by_next p ev s t nothing u d a m = absurd m

-- Holders
-- the resource has that holder afterwards
pub holder-here : (r : ResId) (holder : Option Path) (s : Common) → (set_holder r holder s).held r ≡ holder
holder-here r holder s = cond-true (r.0 == r.0) holder (s.held r) (at-self r.0)

-- and no other has
pub holder-other : (r q : ResId) (holder : Option Path) (s : Common) → (q ≡ r → ⊥)
    → (set_holder r holder s).held q ≡ s.held q
holder-other r q holder s n = cond-else (q.0 == r.0) holder (s.held q) (λ t. n (resource-same q r t))

-- the holder where the resource is the one that gets it
holder-set : (r q : ResId) (holder : Option Path) (s t : Common) → q ≡ r → t ≡ set_holder r holder s
    → t.held q ≡ holder
holder-set r q holder s t e i =
    ap (λ (z : Common). z.held q) i ∙ ap (λ z. (set_holder r holder s).held z) e ∙ holder-here r holder s

moved-by_command : (p : Program) (ev : Event) (s t : Common) (f : Fixed) (below : List Frame) (c : Command)
    (rest : List Item) (u : Task) → Does p ev s f below c rest t u → (r : ResId) → Enters c r
    → (s.held r ≡ None) × (t.held r ≡ Some ev.task)
moved-by_command p ev s t f below (with place q test body) rest u d r m =
    (ap s.held m ∙ d.0, holder-set q r (Some ev.task) s t m d.2)
moved-by_command p ev s t f below _ rest u d r m = absurd m

-- the resource that an event enters was free, the one that it leaves was the task's own, and where all become free they are
pub moved-by_next : (p : Program) (ev : Event) (s t : Common) (n : Next) (u : Task) → Goes p ev s n t u
    → (r : ResId) → Moves p n r → HolderChanges ev.task n (s.held r) (t.held r)
moved-by_next p ev s t (does f below c rest) u d r m = moved-by_command p ev s t f below c rest u d r m
moved-by_next p ev s t (leaves f below q rest) u d r m =
    (ap s.held m ∙ d.0, holder-set q r None s t m d.1)
moved-by_next p ev s t (returns f below) u d r m =
    ap (λ (z : Common). z.held r) d.1 ∙ cond-true (sets_up p f.procedure) None (s.held r) m
moved-by_next p ev s t (joins frames one two) u d r m = absurd m
moved-by_next p ev s t nothing u d r m = absurd m

held-by_command : (p : Program) (ev : Event) (s t : Common) (f : Fixed) (below : List Frame) (c : Command)
    (rest : List Item) (u : Task) → Does p ev s f below c rest t u → (r : ResId) → (Enters c r → ⊥)
    → t.held r ≡ s.held r
held-by_command p ev s t f below (assign place x e) rest u d r n = ap (λ (z : Common). z.held r) d.0
held-by_command p ev s t f below (look_up place x e g) rest u d r n = ap (λ (z : Common). z.held r) d.3
held-by_command p ev s t f below (mutate place e g v) rest u d r n = ap (λ (z : Common). z.held r) d.3
held-by_command p ev s t f below (new place x) rest u d r n = ap (λ (z : Common). z.held r) d.2
held-by_command p ev s t f below (dispose place e) rest u d r n = ap (λ (z : Common). z.held r) d.3
held-by_command p ev s t f below (if place test this that) rest u d r n = ap (λ (z : Common). z.held r) d.0
held-by_command p ev s t f below (while place test kept body) rest u d r n =
    ap (λ (z : Common). z.held r) d.0
held-by_command p ev s t f below (call place c) rest u d r n = ap (λ (z : Common). z.held r) d.2
held-by_command p ev s t f below (fork place c e) rest u d r n = ap (λ (z : Common). z.held r) d.5
held-by_command p ev s t f below (with place q test body) rest u d r n =
    ap (λ (z : Common). z.held r) d.2 ∙ holder-other q r (Some ev.task) s n

-- the other resources stay with their holders
pub held-by_next : (p : Program) (ev : Event) (s t : Common) (n : Next) (u : Task) → Goes p ev s n t u
    → (r : ResId) → (Moves p n r → ⊥) → t.held r ≡ s.held r
held-by_next p ev s t (does f below c rest) u d r n = held-by_command p ev s t f below c rest u d r n
held-by_next p ev s t (leaves f below q rest) u d r n =
    ap (λ (z : Common). z.held r) d.1 ∙ holder-other q r None s n
held-by_next p ev s t (returns f below) u d r n =
    ap (λ (z : Common). z.held r) d.1 ∙ cond-else (sets_up p f.procedure) None (s.held r) n
held-by_next p ev s t (joins frames one two) u d r n = ap (λ (z : Common). z.held r) d.2
held-by_next p ev s t nothing u d r n = absurd d

-- all that an event can change
pub next-footprint : (p : Program) (event : Event) (s t : Common) (n : Next) (u : Task) → Goes p event s n t u
    → ChangesOnlyFootprint p event n s t
next-footprint p event s t n u d = record {
  variables = λ slot l. store-by_next p event s t n u d slot l;
  cells = λ location l. heap-by_next p event s t n u d location l;
  absent = λ location m. absent-by_next p event s t n u d location m;
  moved = λ r m. moved-by_next p event s t n u d r m;
  kept = λ r m. held-by_next p event s t n u d r m;
}
