-- Forks and joins keep what is owned.
-- Names: the event's.
use Rattle.std.specs.Prelude.{◌≡◌, ℕ, suc, true, List, [], ◌∷◌, None, Some}
use Rattle.std.proofs.Common.{sym, subst, refl}
use Rattle.sf_base.specs.declared.place.Place.{Place}
use Rattle.sf_base.specs.HeapStore.{Slot}
use Rattle.sf_core.specs.Machine.Config.{Item, command, in_room, items, Frame, Task, runs, waits, Common, IsOver}
use Rattle.sf_core.specs.Machine.Step.{Event, Does, arguments, open_room, procedure_at, room_for, room_count}
use Rattle.sf_core.specs.Program.Syntax.{Call, fork, Procedure, Program}
use Rattle.sf_safe.specs.Checked.Own.{Own, Parts, everything, new_slots, nothing}
use Rattle.sf_safe.specs.Checked.Safe.{Safe, callee}
use Rattle.sf_safe.specs.Checked.Contract.{Entered, Known}
use Rattle.sf_safe.specs.Checked.Invariant.{known, Running, Tree, Resources}
use Rattle.sf_safe.specs.Checked.Law.{BodiesAreSafe}
use Rattle.sf_safe.specs.Checked.LawsOfShares.{After}
use Rattle.sf_safe.specs.Checked.Owns.{Sums, front, opened, order, parts-comm, parts-nothing, parts-open_room, two}
use Rattle.sf_safe.specs.Checked.Seen.{seen-arguments}
use Rattle.sf_safe.proofs.Shuffles.{after-back, after-fork}
use Rattle.sf_safe.specs.Checked.Fewer.{fewer, fewer-callers}

-- the frame with which a call's task begins
abbrev first_frame : Known → Procedure → Frame
first_frame k g = record { fixed = k.fixed; todo = items g.body }

-- a task begins with one frame, which has all of its share
begins : {p : Program} (n : ℕ) → BodiesAreSafe p → (k : Known) (g : Procedure)
    → procedure_at p k.fixed.procedure ≡ Some g → (w : Own) → Entered p k w
    → Running p n k (first_frame k g ∷ []) w
begins n bodies k g there w entered = (
  k.values,
  record {
    left = w;
    right = nothing;
    parts = parts-nothing w;
    first = bodies k g there n w entered;
    second = (refl, refl);
  },
)

module _ (p : Program) (n : ℕ) (owed : Known) (s t : Common) (task : Task) (u r e : Own)
    (sums : Sums (everything p s) (u ∷ r ∷ e ∷ [])) (free : Resources p s.held 0 p.resources e) where
  -- a fork: each child begins with what its parent gives it and its new slots
  pub forked : BodiesAreSafe p → (f : Frame) (below : List Frame) → Running p (suc n) owed (f ∷ below) u
      → (ev : Event)
      (place : Place) (c d : Call) (rest : List Item)
      → ((g : Procedure) (slot : Slot) → in_room (room_for g ev.number 0) slot ≡ true → s.store slot ≡ None)
      → ((g h : Procedure) (slot : Slot) → in_room (room_for h ev.number (room_count g)) slot ≡ true
      → (open_room (room_for g ev.number 0) (arguments f.fixed.slots s.store c) s).store slot ≡ None)
      → f.todo ≡ command (fork place c d) ∷ rest → Does p ev s f.fixed below (fork place c d) rest t task
      → After p n owed t task r
  forked bodies f below running ev place c d rest new new2 i does =
      let g = does.1 in
      let h = does.2 in
      let v = running.0 in
      let k = running.1 in
      let me = known f v in
      let slots = f.fixed.slots in
      let one = room_for g ev.number 0 in
      let other = room_for h ev.number (room_count g) in
      let safe = subst (λ z. Safe p (suc n) me z k.left) i k.first in
      let rule = safe.2 g h does.3 does.4 in
      let all = opened (k.left ∷ k.right ∷ []) (r ∷ e ∷ []) sums (two k.parts) in
      let args = seen-arguments slots (everything p s) k.left all.0 all.1 c safe.0 in
      let args2 = seen-arguments slots (everything p s) k.left all.0 all.1 d safe.1 in
      let first = new_slots one (arguments slots k.left.slots c) in
      let second = new_slots other (arguments slots k.left.slots d) in
      let between = open_room one (arguments slots s.store c) s in
      let parts : Parts (everything p between) (everything p s) first =
      subst (λ z. Parts (everything p between) (everything p s) (new_slots one z)) args
      (parts-open_room p one (arguments slots s.store c) s (new g)) in
      let parts2 : Parts (everything p t) (everything p between) second =
      subst (λ z. Parts (everything p z) (everything p between) second) (sym does.5)
      (subst (λ z. Parts (everything p (open_room other (arguments slots s.store d) between))
      (everything p between) (new_slots other z)) args2
      (parts-open_room p other (arguments slots s.store d) between (new2 g h))) in
      let given = opened (rule.left ∷ rule.right ∷ []) (rule.kept ∷ k.right ∷ r ∷ e ∷ [])
      (opened (rule.given ∷ rule.kept ∷ []) (k.right ∷ r ∷ e ∷ []) all (two rule.parts)) (two rule.apart) in
      let more = front (rule.left ∷ rule.right ∷ rule.kept ∷ k.right ∷ r ∷ e ∷ []) (parts-comm parts) given in
      let more2 = front (first ∷ rule.left ∷ rule.right ∷ rule.kept ∷ k.right ∷ r ∷ e ∷ []) (parts-comm parts2)
      more in
      let x = after-fork (everything p t) second first rule.left rule.right rule.kept k.right r e more2 in
      let stacked = x.children.below in
      let left = callee me k.left c g one in
      let right = callee me k.left d h other in
      record {
        part = stacked.stack;
        free = e;
        sums = stacked.sums;
        tree = subst (λ z. Tree p n owed z stacked.stack) (sym does.6) (
          left,
          right,
          record {
            left = stacked.frame;
            right = x.children.callee;
            parts = stacked.split;
            first = (
              v,
              record {
                left = rule.kept;
                right = k.right;
                parts = stacked.back;
                first = rule.goes_on ev.number;
                second = fewer-callers p n me below owed k.right k.second;
              },
            );
            second = record {
              left = x.first;
              right = x.second;
              parts = x.children.entered;
              first = begins n bodies left g does.3 x.first (rule.enters_left ev.number x.first x.first_entered);
              second = begins n bodies right h does.4 x.second (rule.enters_right ev.number x.second x.second_entered);
            };
          },
        );
        resources = subst (λ z. Resources p z.held 0 p.resources e) (sym does.5) free;
      }

  -- a join: what the two children give back goes to their parent
  pub joined : (frames : List Frame) (one other : Task) → Tree p (suc n) owed (waits frames one other) u
      → IsOver one
      → IsOver other → t ≡ s → task ≡ runs frames → After p n owed t task r
  joined [] one other (g, h, k) x y d i = absurd k.first
  joined (f ∷ below) (waits _ _ _) other (g, h, k) x y d i = absurd x
  joined (f ∷ below) (runs (_ ∷ _)) other (g, h, k) x y d i = absurd x
  joined (f ∷ below) (runs []) (waits _ _ _) (g, h, k) x y d i = absurd y
  joined (f ∷ below) (runs []) (runs (_ ∷ _)) (g, h, k) x y d i = absurd y
  joined (f ∷ below) (runs []) (runs []) (g, h, k) x y d i =
      let v = k.first.0 in
      let m = k.first.1 in
      let all = opened (k.left ∷ k.right ∷ []) (r ∷ e ∷ []) sums (two k.parts) in
      let all2 = opened (m.left ∷ m.right ∷ []) (k.right ∷ r ∷ e ∷ []) all (two m.parts) in
      let z = after-back (everything p s) k.right m.left m.right r e
      (order (2 ∷ []) (m.left ∷ m.right ∷ k.right ∷ r ∷ e ∷ []) (everything p s) all2) in
      record {
        part = z.stack;
        free = e;
        sums = subst (λ b. Sums (everything p b) (z.stack ∷ r ∷ e ∷ [])) (sym d) z.sums;
        tree = subst (λ b. Tree p n owed b z.stack) (sym i) (
          v,
          record {
            left = z.frame;
            right = m.right;
            parts = z.split;
            first = fewer p n (known f v) f.todo z.frame
                (m.first k.second.left k.second.right k.right z.frame k.second.first k.second.second k.second.parts
                z.back);
            second = fewer-callers p n (known f v) below owed m.right m.second;
          },
        );
        resources = subst (λ b. Resources p b.held 0 p.resources e) (sym d) free;
      }
