-- A private event that was planned and made is one, and leaves the part the program's.
-- Names: `made-LAW`.
use Rattle.std.specs.Prelude.{◌≡◌, ℕ, cond, List, [], ◌∷◌, drop, length, Option, Some, None, is_some}
use Rattle.std.proofs.Common.{sym, ap, ◌∙◌, refl, subst, arith}
use Rattle.std.proofs.lemmas.List.{length-replicate}
use Rattle.sf_base.specs.declared.ids.ResId.{ResId}
use Rattle.sf_base.specs.HeapStore.{Heap, Splits, Store}
use Rattle.sf_base.specs.declared.value.Value.TheVariants.{Nil as nil}
use Rattle.sf_core.specs.Checked.Machine.InOrder.{regions}
use Rattle.sf_core.specs.Machine.Config.{Frame, runs, Path, Common}
use Rattle.sf_core.specs.Machine.Next.{Next, next}
use Rattle.sf_core.specs.Machine.Step.{Event, TaskStep}
use Rattle.sf_core.specs.Machine.Supplies.{has, NextTakes}
use Rattle.sf_core.specs.Machine.Whole.{Part as WholePart, Content, running, numbers}
use Rattle.sf_core.specs.Program.Syntax.{Program}
use Rattle.sf_foot.specs.Starting.{HasWidth}
use Rattle.sf_frame.specs.Commons.{common_of, held_of}
use Rattle.sf_frame.specs.Checked.Frames.{moved}
use Rattle.sf_frame.specs.declared.effect.Effect.{Effect}
use Rattle.sf_frame.specs.declared.stack.Change.{Change}
use Rattle.sf_part.proofs.Held.{times-regions}
use Rattle.sf_part.specs.Checked.Standing.{Runs}
use Rattle.sf_part.specs.Checked.Stepping.{ActsLocally, IsPerformed, acted, own_event}
use Rattle.sf_part.specs.declared.part.Part.{Part}
use Rattle.sf_part.specs.declared.stand.Stand.{Stand as CodeStand}
use Rattle.sf_part.specs.declared.stand.Stand.TheVariants.{Runs as runs_frames, Waits, Over}
use Rattle.sf_part.specs.Of.{AreInOrder, FramesAreOf, StandIsOf, frames_in}
use Rattle.sf_part.specs.PartView.{IsPartOf, part_of}
use Rattle.sf_part.specs.Stands.{stand_in}
use Rattle.sf_part.specs.Steps.{HasInHand, IsPrivate, Private, common_of as part_common}
use Rattle.sf_part.proofs.Beside.{takes-one}
use Rattle.sf_part.proofs.Orders.{order-private}

-- what a part has and holds is what the code has of it
at-holder : (o : Option Path) (task : Path) → ((holder : Path) → o ≡ Some holder → holder ≡ task)
    → cond (is_some o) (Some task) None ≡ o
at-holder None task h = refl
at-holder (Some holder) task h = ap Some (sym (h holder refl))

pub part-common : (a : Part) → part_common (part_of a).part ≡ common_of a.shared
part-common a = λ i. record {
  heap = (common_of a.shared).heap;
  store = (common_of a.shared).store;
  held = λ r. at-holder (held_of a.shared.held r) a.task (λ holder e. a.own r.0 holder e) i;
}

-- what two share who have the same cells and slots is the same where they hold the same
pub same-held : (heap : Heap) (store : Store) {one other : ResId → Option Path} → one ≡ other
    → ◌≡◌ {A = Common} (record { heap = heap; store = store; held = one })
    (record { heap = heap; store = store; held = other })
same-held heap store e = λ i. record { heap = heap; store = store; held = e i }

-- a part with the cells and slots of a content besides has it in hand
pub in-hand : (a : WholePart) (k : Content) (heap : Heap) (store : Store) → Splits heap a.heap k.heap
    → Splits store a.store k.store → HasInHand a k (record a { heap = heap; store = store })
in-hand a k heap store cells slots = record {
  task = refl;
  stand = refl;
  holds = refl;
  supply = refl;
  heap = cells;
  store = slots;
}

-- a step that takes a unit takes the first, and leaves those that it leaves
pub takes-first : (event : Event) (what : Next) (a b : Part) {number : ℕ}
    → numbers a.supply ≡ number ∷ drop 1 (numbers a.supply)
    → numbers b.supply ≡ drop 1 (numbers a.supply)
    → NextTakes event what (has (number ∷ numbers b.supply)) (has (numbers b.supply))
    → NextTakes event what (has (numbers a.supply)) (has (numbers b.supply))
takes-first event what a b {number = number} units left takes =
    subst (λ z. NextTakes event what (has z) (has (numbers b.supply)))
    (sym (units ∙ ap (λ z. number ∷ z) (sym left))) takes

-- a part with a private event next runs frames
pub made-runs : (p : Program) (s : CodeStand) (frames : List Frame) → stand_in s ≡ running frames
    → IsPrivate p (next (runs frames)) → Runs s
made-runs p (runs_frames stack) frames e h = tt
made-runs p (Waits stack) frames e h = absurd (cc)
made-runs p Over frames e h =
    let none : frames ≡ [] = cc in
    absurd (subst (λ (z : List Frame). IsPrivate p (next (runs z))) none h)

module _ (p : Program) (a b : Part) (number : ℕ) (effect : Effect) (change : Change)
    (frames : List Frame)
    (stand : stand_in a.stand ≡ running frames) (acts : ActsLocally p a number effect change frames)
  where
    -- the number is the next unit
    pub made-next : numbers a.supply ≡ number ∷ drop 1 (numbers a.supply)
    made-next = takes-one (own_event a number) (next (runs frames)) (numbers a.supply)
        (drop 1 (numbers a.supply)) acts.takes

    module _ (made : IsPerformed number effect change a b) where
      now : stand_in b.stand ≡ running (moved change frames)
      now = made.stand ∙ ap (λ z. running (moved change (frames_in z))) stand

      before : common_of a.shared ≡ part_common (part_of a).part
      before = sym (part-common a)

      after : acted a number effect ≡ part_common (part_of b).part
      after = sym (part-common b ∙ made.common)

      -- the event is private
      pub made-private : Private p (own_event a number) (part_of a) (part_of b)
      made-private = record {
        frames = frames;
        kept = moved change frames;
        private = acts.private;
        acts = record {
          own = refl;
          task = made.task;
          from_is = stand;
          to_is = now;
          steps = subst (λ z. TaskStep p (own_event a number) (part_common (part_of a).part)
              (runs frames) z
              (runs (moved change frames))) after
              (subst (λ z. TaskStep p (own_event a number) z (runs frames) (acted a number effect)
              (runs (moved change frames))) before acts.steps);
          slots = acts.slots;
        };
        spends = subst (λ z. NextTakes (own_event a number) (next (runs frames))
            (has (numbers a.supply)) (has z))
            (sym made.supply) acts.takes;
        notes = record {
          keeps = made.keeps;
          given = made.given;
          clock_is = let c = made.clock in omega arith;
          log_is = made.log;
        };
      }

      -- and the part is still the program's
      pub made-of : IsPartOf p a
          → ((count : ℕ) → length a.blank ≡ count → HasWidth count a.shared.heap
          → HasWidth count b.shared.heap)
          → IsPartOf p b
      made-of of width = record {
        is = record {
          stands = subst (StandIsOf p (common_of b.shared).store) (sym now)
              (subst (λ (z : Common). FramesAreOf p z.store (moved change frames)) (sym made.common)
              acts.of);
          inside = λ r. times-regions p r (frames_in (part_of b).part.stand)
              ∙ ap (λ z. regions p r (frames_in z)) now ∙ acts.regions r
              ∙ sym (ap (λ z. regions p r (frames_in z)) stand)
              ∙ sym (times-regions p r (frames_in (part_of a).part.stand)) ∙ of.is.inside r
              ∙ ap (λ (f : ResId → Option Path). cond (is_some (f r)) 1 0)
              (sym (ap (λ (z : Common). z.held) made.common ∙ (acts.own).held));
          order =
              let o = order-private p (own_event a number) (common_of a.shared)
              (acted a number effect) frames (runs (moved change frames)) acts.private
              (subst (StandIsOf p (common_of a.shared).store) stand of.is.stands)
              (subst (λ z. AreInOrder p (frames_in z)) stand of.is.order) acts.steps in
              let same : o.frames ≡ moved change frames = let e = o.is in cc in
              subst (λ z. AreInOrder p (frames_in z)) (sym now)
              (subst (AreInOrder p) same o.order);
        };
        wide = width (length p.fields) (ap length of.blank ∙ length-replicate (length p.fields) nil)
            of.wide;
        blank = made.blank ∙ of.blank;
      }
