-- Calls and returns keep what is owned.
-- Names: the event's.
use Rattle.std.specs.Prelude.{◌≡◌, ℕ, suc, Bool, true, false, cond, List, [], ◌∷◌, Option, Some, None, ◌&&◌, ltb, length}
use Rattle.std.proofs.Common.{sym, ap, ap₂, ◌∙◌, refl, subst}
use Rattle.sf_base.specs.declared.place.Place.{Place}
use Rattle.sf_base.specs.HeapStore.{Slot}
use Rattle.sf_base.specs.declared.ids.ResId.{ResId}
use Rattle.sf_base.proofs.MapSplits.{splits-has_left, splits-lacks_both, splits-lacks_right}
use Rattle.sf_base.proofs.Options.{cond-some, some-none}
use Rattle.sf_core.specs.Machine.Config.{Item, command, in_room, Frame, Task, runs, Common}
use Rattle.sf_core.specs.Machine.Step.{Event, Does, arguments, open_room, returned, room_for}
use Rattle.sf_core.specs.Program.Formed.{IsFormed}
use Rattle.sf_core.specs.Program.Init.{is_init, sets_up}
use Rattle.sf_core.specs.Program.Syntax.{Call, call, Procedure, Program}
use Rattle.sf_core.proofs.Inits.{sets_up-is}
use Rattle.sf_safe.specs.Checked.Own.{Own, Parts, everything, new_slots, nothing, without_room}
use Rattle.sf_safe.specs.Checked.Contract.{Known, Ended, Returned, given_back}
use Rattle.sf_safe.specs.Checked.Safe.{Safe, callee}
use Rattle.sf_safe.specs.Checked.Invariant.{known, Callers, Running, Tree, Resources}
use Rattle.sf_safe.specs.Checked.Law.{BodiesAreSafe}
use Rattle.sf_safe.specs.Checked.LawsOfShares.{After}
use Rattle.sf_safe.proofs.Freed.{freed-resources, resources-nothing}
use Rattle.sf_safe.specs.Checked.Owns.{Sums, front, group, opened, order, parts-comm, parts-of_nothing, parts-open_room, parts-without_room, two}
use Rattle.sf_safe.specs.Checked.Rooms.{owned-room}
use Rattle.sf_safe.specs.Checked.Seen.{seen-arguments}
use Rattle.sf_safe.proofs.Shuffles.{after-back, after-call}
use Rattle.sf_safe.specs.Checked.Fewer.{fewer, fewer-callers}

module _ (p : Program) (n : ℕ) (owed : Known) (f : Frame) (below : List Frame) (s t : Common) (task : Task)
    (u r e : Own) (sums : Sums (everything p s) (u ∷ r ∷ e ∷ []))
    (running : Running p (suc n) owed (f ∷ below) u) (free : Resources p s.held 0 p.resources e) where
  -- a call: the callee begins with what its caller gives and its new slots
  pub called : BodiesAreSafe p → (ev : Event) (place : Place) (c : Call) (rest : List Item)
      → ((g : Procedure) (slot : Slot) → in_room (room_for g ev.number 0) slot ≡ true → s.store slot ≡ None)
      → f.todo ≡ command (call place c) ∷ rest → Does p ev s f.fixed below (call place c) rest t task
      → After p n owed t task r
  called bodies ev place c rest new i (g, there, becomes, is) =
      let v = running.0 in
      let k = running.1 in
      let me = known f v in
      let slots = f.fixed.slots in
      let room = room_for g ev.number 0 in
      let safe = subst (λ z. Safe p (suc n) me z k.left) i k.first in
      let rule = safe.1 g there in
      let all = opened (k.left ∷ k.right ∷ []) (r ∷ e ∷ []) sums (two k.parts) in
      let args = seen-arguments slots (everything p s) k.left all.0 all.1 c safe.0 in
      let new_ = new_slots room (arguments slots k.left.slots c) in
      let parts : Parts (everything p t) (everything p s) new_ =
      subst (λ z. Parts (everything p z) (everything p s) new_) (sym becomes)
      (subst (λ z. Parts (everything p (open_room room (arguments slots s.store c) s)) (everything p s)
      (new_slots room z)) args (parts-open_room p room (arguments slots s.store c) s (new g))) in
      let more = front (rule.given ∷ rule.kept ∷ k.right ∷ r ∷ e ∷ []) (parts-comm parts)
      (opened (rule.given ∷ rule.kept ∷ []) (k.right ∷ r ∷ e ∷ []) all (two rule.parts)) in
      let x = after-call (everything p t) new_ rule.given rule.kept k.right r e more in
      record {
        part = x.below.stack;
        free = e;
        sums = x.below.sums;
        tree = subst (λ z. Tree p n owed z x.below.stack) (sym is) (
          arguments slots k.left.slots c,
          record {
            left = x.callee;
            right = x.below.frame;
            parts = parts-comm x.below.split;
            first = bodies (callee me k.left c g room) g there n x.callee
                (rule.enters ev.number x.callee x.entered);
            second = (
              v,
              record {
                left = rule.kept;
                right = k.right;
                parts = x.below.back;
                first = rule.goes_on ev.number;
                second = fewer-callers p n me below owed k.right k.second;
              },
            );
          },
        );
        resources = subst (λ z. Resources p z.held 0 p.resources e) (sym becomes) free;
      }

  -- what is given back goes to the caller, or is what the task owed; the resources have another share then
  given-on : (k : Known) (callers : List Frame) (q b o : Own) → Sums (everything p t) (b ∷ q ∷ r ∷ o ∷ [])
      → Callers p (suc n) k callers owed q → Returned p k b → Resources p t.held 0 p.resources o
      → task ≡ runs callers → After p n owed t task r
  given-on k [] q b o a w back res is =
      let z = group (r ∷ o ∷ []) a in
      let same = parts-of_nothing (subst (Parts z.both b) w.1 z.parts) in
      record {
        part = z.both;
        free = o;
        sums = z.sums;
        tree = subst (λ y. Tree p n owed y z.both) (sym is)
            (subst (Returned p owed) (sym same) (subst (λ y. Returned p y b) w.0 back));
        resources = res;
      }
  given-on k (g ∷ callers) q b o a (v, w) back res is =
      let all = order (2 ∷ 0 ∷ []) (w.left ∷ w.right ∷ b ∷ r ∷ o ∷ []) (everything p t)
      (opened (w.left ∷ w.right ∷ []) (b ∷ r ∷ o ∷ [])
      (order (1 ∷ []) (b ∷ q ∷ r ∷ o ∷ []) (everything p t) a) (two w.parts)) in
      let z = after-back (everything p t) b w.left w.right r o all in
      record {
        part = z.stack;
        free = o;
        sums = z.sums;
        tree = subst (λ y. Tree p n owed y z.stack) (sym is) (
          v,
          record {
            left = z.frame;
            right = w.right;
            parts = z.split;
            first = fewer p n (known g v) g.todo z.frame (w.first b z.frame back z.back);
            second = fewer-callers p n (known g v) callers owed w.right w.second;
          },
        );
        resources = res;
      }

  -- the frame that returns, and its share
  abbrev me : Known
  me = known f running.0

  abbrev mine : Own
  mine = (running.1).left

  abbrev theirs : Own
  theirs = (running.1).right

  all-parts : Sums (everything p s) (mine ∷ theirs ∷ r ∷ e ∷ [])
  all-parts = opened (mine ∷ theirs ∷ []) (r ∷ e ∷ []) sums (two (running.1).parts)

  -- its slots vanish
  slots-gone : Ended p me mine → t ≡ returned p f.fixed s
      → Sums (everything p t) (without_room f.fixed.room mine ∷ theirs ∷ r ∷ e ∷ [])
  slots-gone ended becomes =
      let all = all-parts in
      let room = f.fixed.room in
      let parts = parts-without_room room
      (λ slot h. let a = owned-room p me ended.procedure mine ended.owns slot h in
      splits-lacks_right slot a.0 all.1.slots a.1) all.1 in
      subst (λ z. Sums (everything p z) (without_room room mine ∷ theirs ∷ r ∷ e ∷ [])) (sym becomes)
      (front (theirs ∷ r ∷ e ∷ []) parts all.2)

  module _ (formed : IsFormed p) (ended : Ended p me mine) (becomes : t ≡ returned p f.fixed s)
      (is : task ≡ runs below) where
    -- whether its procedure sets the resources up
    sets : sets_up p f.fixed.procedure ≡ is_init ended.procedure
    sets = sets_up-is p f.fixed.procedure ended.procedure ended.owns.frame.there

    held-now : (b : Bool) → is_init ended.procedure ≡ b → t.held ≡ (λ q. cond b None (s.held q))
    held-now b i = ap (λ (z : Common). z.held) becomes ∙ (λ j q. cond ((sets ∙ i) j) None (s.held q))

    -- another procedure: what else the frame owns goes to its caller
    plain-returned : is_init ended.procedure ≡ false → After p n owed t task r
    plain-returned i =
        let room = f.fixed.room in
        given-on me below theirs (without_room room mine) e (slots-gone ended becomes) (running.1).second
        (record { full = mine; ended = ended; is = sym (ap (λ b. given_back b room mine) i) })
        (subst (λ z. Resources p z 0 p.resources e) (sym (held-now false i)) free) is

    -- no resource is free while another frame has all tokens
    token-held : is_init ended.procedure ≡ true → (q : ResId) → e.tokens q ≡ None
    token-held i q = go (e.tokens q) refl
      where
        go : (o : Option (Unit {0})) → e.tokens q ≡ o → o ≡ None
        go None h = refl
        go (Some x) h =
            let all = order (3 ∷ []) (mine ∷ theirs ∷ r ∷ e ∷ []) (everything p s) all-parts in
            let others : (all.0).tokens q ≡ None = splits-lacks_right q x all.1.tokens h in
            let lacks : mine.tokens q ≡ None = (splits-lacks_both q all.2.1.tokens others).0 in
            let whole : (everything p s).tokens q ≡ Some x = splits-has_left q x all.1.tokens h in
            let there = cond-some (ltb q.0 (length p.resources)) tt x whole in
            let has : mine.tokens q ≡ Some tt = ended.owns.tokens q
            ∙ ap₂ (λ a b. cond {A = Option (Unit {0})} (a && b) (Some tt) None) i there in
            absurd (some-none tt (sym has ∙ lacks))

    -- the procedure that sets the resources up: what else the frame owns are their shares, and its caller has its own
    init-returned : is_init ended.procedure ≡ true → After p n owed t task r
    init-returned i =
        let room = f.fixed.room in
        let none = resources-nothing p s.held 0 p.resources e (token-held i) free in
        let all = subst (λ z. Sums (everything p t) (without_room room mine ∷ theirs ∷ r ∷ z ∷ [])) none
        (slots-gone ended becomes) in
        given-on me below theirs nothing (without_room room mine)
        (order (3 ∷ 1 ∷ 1 ∷ []) (without_room room mine ∷ theirs ∷ r ∷ nothing ∷ []) (everything p t) all)
        (running.1).second
        (record { full = mine; ended = ended; is = sym (ap (λ b. given_back b room mine) i) })
        (subst (λ z. Resources p z 0 p.resources (without_room room mine)) (sym (held-now true i))
        (freed-resources p formed me mine ended i)) is

  -- a return
  pub frame-returned : IsFormed p → f.todo ≡ [] → t ≡ returned p f.fixed s → task ≡ runs below
      → After p n owed t task r
  frame-returned formed i becomes is = go (is_init ended.procedure) refl
    where
      ended : Ended p me mine
      ended = subst (λ z. Safe p (suc n) me z mine) i (running.1).first

      go : (b : Bool) → is_init ended.procedure ≡ b → After p n owed t task r
      go false j = plain-returned formed ended becomes is j
      go true j = init-returned formed ended becomes is j
