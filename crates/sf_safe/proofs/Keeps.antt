-- Every event keeps what is owned.
-- Names: `room-LAW` speaks of new slots, `step-LAW` of one event, `reach-LAW` of a list of them.
use Rattle.std.specs.Prelude.{◌≡◌, ◌≢◌, ℕ, suc, Bool, true, false, cond, List, [], ◌∷◌, ◌++◌, Option, Some, None, ◌⊎◌, ◌==◌, ◌-◌, ◌||◌}
use Rattle.std.proofs.Common.{true≢false, sym, ap, ◌∙◌, refl, subst, arith, inl, inr}
use Rattle.std.proofs.lemmas.Bool.Decides.{nat_tests}
use Rattle.std.proofs.lemmas.Option.{same_Some}
use Rattle.sf_base.specs.declared.path.Turn.TheVariants.{Left as left, Right as right}
use Rattle.sf_base.specs.declared.value.Value.{Value}
use Rattle.sf_base.specs.HeapStore.{Slot, shared, own}
use Rattle.sf_core.specs.Machine.Config.{Item, command, leave, items, Room, in_room, Frame, Task, runs, waits, Path, Common, Config, IsCalled, put_task, task_at}
use Rattle.sf_core.specs.Machine.Next.{frame_next}
use Rattle.sf_core.specs.Machine.Reach.{Reach}
use Rattle.sf_core.specs.Machine.Step.{Event, Goes, TaskStep, Step, arguments, open_room, room_for, room_count, index_of}
use Rattle.sf_core.specs.Program.Formed.{IsFormed}
use Rattle.sf_core.specs.Program.Syntax.{assign, look_up, mutate, new, dispose, if, while, call, fork, with, Procedure, Program}
use Rattle.sf_safe.specs.Checked.Own.{Own, Parts, everything}
use Rattle.sf_safe.specs.Checked.Contract.{Known}
use Rattle.sf_safe.specs.Checked.Safe.{Safe}
use Rattle.sf_safe.specs.Checked.Invariant.{known, Tree, Resources, HasFrame, IsMadeBefore, IsOwned}
use Rattle.sf_safe.specs.Checked.Law.{BodiesAreSafe}
use Rattle.sf_safe.proofs.Calls.{called, frame-returned}
use Rattle.sf_safe.proofs.Commands.{assigned, disposed, looked_up, made, mutated, tested, Moved}
use Rattle.sf_safe.proofs.Events.{alone}
use Rattle.sf_safe.specs.Checked.LawsOfShares.{After, EventsKeepShares}
use Rattle.sf_safe.specs.Checked.Rooms.{AllMade, first-true, room-apart, room-fresh}
use Rattle.sf_safe.proofs.Forks.{forked, joined}
use Rattle.sf_safe.specs.Checked.Owns.{Sums, group, opened, pair, parts-right, two}
use Rattle.sf_safe.proofs.Regions.{entered, exited}
use Rattle.sf_safe.proofs.Trees.{focus}

-- NEW SLOTS

-- the slots after an event were there, or are the event's
abbrev Grows : ℕ → Common → Common → Type 0
Grows number s t = (slot : Slot) → t.store slot ≢ None
    → (s.store slot ≢ None) ⊎ AllMade (λ e. e ≡ number) slot

room-grows : (room : Room) (s : Common) (number : ℕ) (v : ℕ → Value) → room.event ≡ number
    → Grows number s (open_room room v s)
room-grows room s number v i (shared q k) h = inl h
room-grows room s number v i (own g k) h = go (in_room room (own g k)) refl h
  where
    go : (b : Bool) → in_room room (own g k) ≡ b
        → cond b (Some (v (index_of (own g k) - room.first))) (s.store (own g k)) ≢ None
        → (s.store (own g k) ≢ None) ⊎ AllMade (λ e. e ≡ number) (own g k)
    go true j z = inr (first-true g room.event _ j ∙ i)
    go false j z = inl z

cond-old : (b : Bool) (x : Option Value) → cond b None x ≢ None → x ≢ None
cond-old true x h e = h refl
cond-old false x h e = h e

module _ (p : Program) where
  -- ONE EVENT of one task

  event : IsFormed p → BodiesAreSafe p → (n : ℕ) (owed : Known) (ev : Event) (before after : Task) (s t : Common)
      (used : ℕ → Type 0) (u r e : Own) → ((slot : Slot) → s.store slot ≢ None → AllMade used slot)
      → (used ev.number → ⊥) → Sums (everything p s) (u ∷ r ∷ e ∷ []) → Tree p (suc n) owed before u
      → Resources p s.held 0 p.resources e → TaskStep p ev s before t after → After p n owed t after r
  event formed bodies n owed ev (runs []) after s t used u r e old unused a tree free d = absurd d
  event formed bodies n owed ev (waits frames one other) after s t used u r e old unused a tree free d =
      joined p n owed s t after u r e a free frames one other tree d.0 d.1 d.2 d.3
  event formed bodies n owed ev (runs (f ∷ below)) after s t used u r e old unused a tree free d = go f.todo refl d
    where
      fresh : (g : Procedure) (slot : Slot) → in_room (room_for g ev.number 0) slot ≡ true
          → s.store slot ≡ None
      fresh g = room-fresh s used (room_for g ev.number 0) old unused

      -- the events of the frame alone
      mine : (todo : List Item) → f.todo ≡ todo
          → ((values : ℕ → Value) (share rest : Own) → Parts (everything p s) share rest
          → Safe p (suc n) (known f values) todo share → Moved p n (known f values) below s t after rest)
          → After p n owed t after r
      mine todo i moves = alone p n owed f below todo s t after u r e i a tree free moves

      go : (todo : List Item) → f.todo ≡ todo → Goes p ev s (frame_next f.fixed below todo) t after
          → After p n owed t after r
      go [] i x = frame-returned p n owed f below s t after u r e a tree free formed i x.1 x.2
      go (leave q ∷ rest) i x = exited p n owed f below s t after u r e a tree free ev.task q rest i x.0 x.1 x.2
      go (command (with place q test body) ∷ rest) i x =
          entered p n owed f below s t after u r e a tree free ev place q test body rest i x
      go (command (call place c) ∷ rest) i x =
          called p n owed f below s t after u r e a tree free bodies ev place c rest fresh i x
      go (command (fork place c h) ∷ rest) i x =
          forked p n owed s t after u r e a free bodies f below tree ev place c h rest fresh
          (λ g o slot j. ap
          (λ b. cond b (Some (arguments f.fixed.slots s.store c (index_of slot - 0))) (s.store slot))
          (room-apart g o ev.number slot j)
          ∙ room-fresh s used (room_for o ev.number (room_count g)) old unused slot j)
          i x
      go (command (assign place z v) ∷ rest) i x = mine _ i
          (λ values share others q safe. assigned p n (known f values) ev below rest s t after share others q place z v
          safe x)
      go (command (look_up place z v field) ∷ rest) i x = mine _ i
          (λ values share others q safe. looked_up p n (known f values) ev below rest s t after share others q place z v
          field safe x)
      go (command (mutate place z field v) ∷ rest) i x = mine _ i
          (λ values share others q safe. mutated p n (known f values) ev below rest s t after share others q place z
          field v safe x)
      go (command (new place z) ∷ rest) i x = mine _ i
          (λ values share others q safe. made p n (known f values) ev below rest s t after share others q place z safe x)
      go (command (dispose place z) ∷ rest) i x = mine _ i
          (λ values share others q safe. disposed p n (known f values) ev below rest s t after share others q place z
          safe x)
      go (command (if place test this that) ∷ rest) i x = mine _ i
          (λ values share others q safe. tested p n (known f values) ev below rest s t after share others q test
          (items this ++ rest) (items that ++ rest) safe x.0 x.1)
      go (command (while place test kept body) ∷ rest) i x = mine _ i
          (λ values share others q safe. tested p n (known f values) ev below rest s t after share others q test
          (items body ++ (command (while place test kept body) ∷ rest)) rest safe x.0 x.1)

  grows : (n : ℕ) (owed : Known) (ev : Event) (before after : Task) (s t : Common) (u r : Own)
      → Parts (everything p s) u r → Tree p (suc n) owed before u → TaskStep p ev s before t after
      → Grows ev.number s t
  grows n owed ev (runs []) after s t u r q tree d slot h = absurd d
  grows n owed ev (waits frames one other) after s t u r q tree d slot h =
      inl (λ e. h (ap (λ (z : Common). z.store slot) d.2 ∙ e))
  grows n owed ev (runs (f ∷ below)) after s t u r q (v, k) d slot h = go f.todo refl d
    where
      k-parts : (rest : Own) × Parts (everything p s) k.left rest
      k-parts = let m = parts-right k.parts q in (_, m.1)

      mine : (todo : List Item) → f.todo ≡ todo
          → (Safe p (suc n) (known f v) todo k.left → Moved p n (known f v) below s t after k-parts.0)
          → (s.store slot ≢ None) ⊎ AllMade (λ e. e ≡ ev.number) slot
      mine todo i moves =
          inl ((moves (subst (λ z. Safe p (suc n) (known f v) z k.left) i k.first)).old slot h)

      go : (todo : List Item) → f.todo ≡ todo → Goes p ev s (frame_next f.fixed below todo) t after
          → (s.store slot ≢ None) ⊎ AllMade (λ e. e ≡ ev.number) slot
      go [] i y = inl (cond-old (in_room f.fixed.room slot) (s.store slot)
          (λ e. h (ap (λ (z : Common). z.store slot) y.1 ∙ e)))
      go (leave g ∷ rest) i y = inl (λ e. h (ap (λ (z : Common). z.store slot) y.1 ∙ e))
      go (command (with place g test body) ∷ rest) i y = inl (λ e. h (ap (λ (z : Common). z.store slot) y.2 ∙ e))
      go (command (call place c) ∷ rest) i y =
          room-grows (room_for y.0 ev.number 0) s ev.number (arguments f.fixed.slots s.store c) refl slot
          (λ e. h (ap (λ (z : Common). z.store slot) y.2 ∙ e))
      go (command (fork place c g) ∷ rest) i y =
          elim (room-grows (room_for y.2 ev.number (room_count y.1))
          (open_room (room_for y.1 ev.number 0) (arguments f.fixed.slots s.store c) s) ev.number
          (arguments f.fixed.slots s.store g) refl slot (λ e. h (ap (λ (z : Common). z.store slot) y.5 ∙ e))) [
            | inl z ↦ room-grows (room_for y.1 ev.number 0) s ev.number (arguments f.fixed.slots s.store c) refl slot z
            | inr z ↦ inr z
          ]
      go (command (assign place z g) ∷ rest) i x = mine _ i
          (λ safe. assigned p n (known f v) ev below rest s t after k.left k-parts.0 k-parts.1 place z g safe x)
      go (command (look_up place z g field) ∷ rest) i x = mine _ i
          (λ safe. looked_up p n (known f v) ev below rest s t after k.left k-parts.0 k-parts.1 place z g field safe x)
      go (command (mutate place z field g) ∷ rest) i x = mine _ i
          (λ safe. mutated p n (known f v) ev below rest s t after k.left k-parts.0 k-parts.1 place z field g safe x)
      go (command (new place z) ∷ rest) i x = mine _ i
          (λ safe. made p n (known f v) ev below rest s t after k.left k-parts.0 k-parts.1 place z safe x)
      go (command (dispose place z) ∷ rest) i x = mine _ i
          (λ safe. disposed p n (known f v) ev below rest s t after k.left k-parts.0 k-parts.1 place z safe x)
      go (command (if place test this that) ∷ rest) i x = mine _ i
          (λ safe. tested p n (known f v) ev below rest s t after k.left k-parts.0 k-parts.1 test
          (items this ++ rest) (items that ++ rest) safe x.0 x.1)
      go (command (while place test kept body) ∷ rest) i x = mine _ i
          (λ safe. tested p n (known f v) ev below rest s t after k.left k-parts.0 k-parts.1 test
          (items body ++ (command (while place test kept body) ∷ rest)) rest safe x.0 x.1)

-- no slot that is there is of a number that none of them has
other-made : (s : Common) (number : ℕ) → ((index : ℕ) → s.store (own number index) ≡ None) → (slot : Slot)
    → s.store slot ≢ None → AllMade (λ e. e ≡ number → ⊥) slot
other-made s number none (shared r i) h = tt
other-made s number none (own e i) h = λ same. h (ap (λ z. s.store (own z i)) same ∙ none i)

pub events_keep_shares : EventsKeepShares
unfolding EventsKeepShares
events_keep_shares p formed bodies n owed ev before after s t u r e none sums tree free steps =
    event p formed bodies n owed ev before after s t (λ m. m ≡ ev.number → ⊥) u r e (other-made s ev.number none)
    (λ h. h refl) sums tree free steps

-- CONFIGURATIONS

made-same : (c : Config) (slot : Slot) → IsMadeBefore c slot → AllMade (λ e. c.used e ≡ true) slot
made-same c (shared r i) h = h
made-same c (own e i) h = h

adds-old : (i number : ℕ) (b : Bool) → b ≡ true → (i == number) || b ≡ true
adds-old i number b e = grind (arith, nat_tests, e)

adds-new : (i number : ℕ) (b : Bool) → i ≡ number → (i == number) || b ≡ true
adds-new i number b e = grind (arith, nat_tests, e)

made-after : (p : Program) (ev : Event) (c d : Config) → Step p ev c d
    → ((slot : Slot) → c.common.store slot ≢ None → IsMadeBefore c slot) → Grows ev.number c.common d.common
    → (slot : Slot) → d.common.store slot ≢ None → IsMadeBefore d slot
made-after p ev c d st a g (shared q k) h = tt
made-after p ev c d st a g (own i k) h = ap (λ us. us i) st.used ∙ elim (g (own i k) h) [
  | inl x ↦ adds-old i ev.number (c.used i) (a (own i k) x)
  | inr x ↦ adds-new i ev.number (c.used i) x
]

-- THE ENTRY is not returned from

frame-stays : (p : Program) (n : ℕ) (owed : Known) (ev : Event) (before after : Task) (s t : Common) (w : Own)
    → ev.task ≡ [] → Tree p (suc n) owed before w → TaskStep p ev s before t after → HasFrame after
frame-stays p n owed ev (runs []) after s t w top tree d = absurd d
frame-stays p n owed ev (waits [] one other) after s t w top (g, h, k) d = absurd k.first
frame-stays p n owed ev (waits (f ∷ below) one other) after s t w top tree d = subst HasFrame (sym d.3) tt
frame-stays p n owed ev (runs (f ∷ below)) after s t w top tree d = go f.todo d
  where
    called-by : (below : List Frame) → IsCalled [] below → HasFrame (runs below)
    called-by [] h = absurd h
    called-by (g ∷ below) h = tt

    go : (todo : List Item) → Goes p ev s (frame_next f.fixed below todo) t after → HasFrame after
    go [] x = subst HasFrame (sym x.2) (called-by below (subst (λ z. IsCalled z below) top x.0))
    go (leave r ∷ rest) x = subst HasFrame (sym x.2) tt
    go (command (assign _ y z) ∷ rest) x = subst HasFrame (sym x.1) tt
    go (command (look_up _ y z g) ∷ rest) x = subst HasFrame (sym x.4) tt
    go (command (mutate _ y g z) ∷ rest) x = subst HasFrame (sym x.4) tt
    go (command (new _ y) ∷ rest) x = subst HasFrame (sym x.3) tt
    go (command (dispose _ y) ∷ rest) x = subst HasFrame (sym x.4) tt
    go (command (if _ b y z) ∷ rest) x =
        elim x.1 [ inl k ↦ subst HasFrame (sym k.1) tt | inr k ↦ subst HasFrame (sym k.1) tt ]
    go (command (while _ b y z) ∷ rest) x =
        elim x.1 [ inl k ↦ subst HasFrame (sym k.1) tt | inr k ↦ subst HasFrame (sym k.1) tt ]
    go (command (call _ c) ∷ rest) x = subst HasFrame (sym x.3) tt
    go (command (fork _ c h) ∷ rest) x = subst HasFrame (sym x.6) tt
    go (command (with _ r b y) ∷ rest) x = subst HasFrame (sym x.3) tt

entry-stays : (p : Program) (n : ℕ) (owed : Known) (ev : Event) (c d : Config) (w : Own) → Step p ev c d
    → Tree p (suc n) owed c.tasks w → HasFrame d.tasks
entry-stays p n owed ev c d w st tree = subst HasFrame (sym st.tasks) (go ev.task refl c.tasks tree st.there)
  where
    go : (path : Path) → ev.task ≡ path → (t : Task) → Tree p (suc n) owed t w → task_at path t ≡ Some st.from
        → HasFrame (put_task path st.to t)
    go [] i t a x = frame-stays p n owed ev st.from st.to c.common d.common w i
        (subst (λ z. Tree p (suc n) owed z w) (same_Some t st.from x) a) st.steps
    go (left ∷ path) i (runs frames) a x = absurd (cc)
    go (right ∷ path) i (runs frames) a x = absurd (cc)
    go (left ∷ path) i (waits frames one two) a x = tt
    go (right ∷ path) i (waits frames one two) a x = tt

-- one event keeps what is owned, for one event less
pub step-owned : (p : Program) → IsFormed p → BodiesAreSafe p → (n : ℕ) (entry : Known) (ev : Event) (c d : Config)
    → IsOwned p (suc n) entry c → Step p ev c d → IsOwned p n entry d
step-owned p formed bodies n entry ev c d s st =
    let k = focus p n entry ev.task c.tasks st.from s.tasks st.there s.tree in
    let all = opened (k.part ∷ k.rest ∷ []) (s.free ∷ []) (two s.parts) (two k.parts) in
    let x = event p formed bodies n k.owes ev st.from st.to c.common d.common (λ e. c.used e ≡ true) k.part k.rest s.free
    (λ slot h. made-same c slot (s.made slot h)) (λ i. true≢false (sym i ∙ st.fresh)) all k.here s.resources st.steps in
    let g = group (x.free ∷ []) x.sums in
    record {
      tasks = g.both;
      free = x.free;
      parts = pair g.sums;
      tree = subst (λ z. Tree p n entry z g.both) (sym st.tasks) (k.back st.to x.part g.both x.tree g.parts);
      resources = x.resources;
      made = made-after p ev c d st s.made
          (grows p n k.owes ev st.from st.to c.common d.common k.part all.0 all.1 k.here st.steps);
      stays = entry-stays p n entry ev c d s.tasks st s.tree;
      plain = s.plain;
    }

-- a list of events keeps it, where it holds for every number of events
pub reach-owned : (p : Program) → IsFormed p → BodiesAreSafe p
    → (events : List Event) (n : ℕ) (entry : Known) (c d : Config)
    → ((m : ℕ) → IsOwned p m entry c) → Reach p c events d → IsOwned p n entry d
reach-owned p formed bodies [] n entry c d s r = subst (IsOwned p n entry) (sym r) (s n)
reach-owned p formed bodies (ev ∷ events) n entry c d s (m, x, y) =
    reach-owned p formed bodies events n entry m d (λ k. step-owned p formed bodies k entry ev c m (s (suc k)) x) y
