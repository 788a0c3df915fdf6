-- A task that took a content in and went into the region of its resource has entered it.
-- Names: `made-LAW`.
use Rattle.std.specs.Prelude.{◌≡◌, ◌==◌, ◌+◌, ℕ, Bool, true, false, cond, List, ◌∷◌, ◌++◌, drop, length, Option, Some, None, is_some, OnErr, OnOk, Result, Ok, Err}
use Rattle.std.proofs.Common.{sym, ap, ◌∙◌, refl, subst, arith}
use Rattle.std.proofs.lemmas.Bool.Decides.{nat_tests}
use Rattle.sf_base.proofs.MapSplits.{map-same}
use Rattle.sf_base.proofs.StoreSplits.{resource-same}
use Rattle.sf_base.specs.declared.ids.ResId.{ResId}
use Rattle.sf_base.specs.declared.place.Place.{Place}
use Rattle.sf_core.specs.declared.assertion.Test.{Test}
use Rattle.sf_core.specs.declared.command.Expr.{Expr}
use Rattle.sf_core.specs.Assertions.Sat.{IsTrueOf}
use Rattle.sf_core.specs.Checked.Machine.InOrder.{exits, regions}
use Rattle.sf_core.specs.Machine.Config.{Item, command, leave, items, Fixed, Frame, runs, Path, Common, evaluate}
use Rattle.sf_core.specs.Machine.Next.{next}
use Rattle.sf_core.specs.Machine.Step.{set_holder}
use Rattle.sf_core.specs.Machine.Supplies.{has, NextTakes}
use Rattle.sf_core.specs.Machine.Whole.{Part, running, numbers}
use Rattle.sf_core.specs.Program.Formed.{IsFormed}
use Rattle.sf_core.specs.Program.Syntax.{Block, with, Program}
use Rattle.sf_core.proofs.Machine.InOrder.Shapes.{items-exits}
use Rattle.sf_foot.specs.Starting.{HasWidth}
use Rattle.sf_frame.specs.Checked.Frames.{moved}
use Rattle.sf_frame.specs.Checked.Nexts.{frames_with}
use Rattle.sf_frame.specs.Commons.{common_of}
use Rattle.sf_frame.specs.declared.frame.Way.TheVariants.{Into}
use Rattle.sf_frame.specs.declared.stack.Change.TheVariants.{GoOn}
use Rattle.sf_frame.specs.Stores.{together}
use Rattle.sf_part.proofs.Held.{times-regions}
use Rattle.sf_part.specs.Checked.Standing.{Runs}
use Rattle.sf_part.specs.Checked.Stepping.{own_event}
use Rattle.sf_part.specs.Checked.Taking.{IsEntered}
use Rattle.sf_part.specs.Contents.{IsContentIn, content_of}
use Rattle.sf_part.specs.declared.content.Content.{Content}
use Rattle.sf_part.specs.declared.part.Part.{Part as CodePart}
use Rattle.sf_part.specs.declared.stand.Stand.{Stand as CodeStand}
use Rattle.sf_part.specs.declared.stand.Stand.TheVariants.{Runs as runs_frames, Waits, Over}
use Rattle.sf_part.specs.Entry.{MayEnter}
use Rattle.sf_part.specs.Of.{AreInOrder, FramesAreOf, IsOf, StandIsOf, frames_in}
use Rattle.sf_part.specs.PartView.{IsPartOf, part_of}
use Rattle.sf_part.specs.Stands.{stand_in}
use Rattle.sf_part.specs.Timed.{TimedPart}
use Rattle.sf_part.specs.Steps.{Enters, HasInHand, common_of as part_common}
use Rattle.sf_part.specs.Checked.Lemmas.Shapes.{next-shape}
use Rattle.sf_part.proofs.Entries.{enter-frames, enter-slots}
use Rattle.sf_part.proofs.Made.{in-hand, part-common, same-held, takes-first}
use Rattle.sf_part.proofs.Orders.{order-enter}
use Rattle.sf_part.proofs.Supplies.{one_if}

-- a fact about what came well
pub on-ok : {T E P Q : Type 0} (r : Result T E) → OnOk r P → (P → Q) → OnOk r Q
on-ok (Ok x) h f = f h
on-ok (Err e) h f = tt

-- a task that stands at a region runs frames
pub made-stands : (s : CodeStand) (f : Frame) (below : List Frame)
    → stand_in s ≡ running (f ∷ below) → Runs s
made-stands (runs_frames stack) f below e = tt
made-stands (Waits stack) f below e = absurd (cc)
made-stands Over f below e = absurd (cc)

-- the frames of a task that may enter a region
pub record Standing (a : CodePart) (k : Content) : Type 0 where
  pub fixed : Fixed
  pub place : Place
  pub test : Test Expr
  pub body : Block
  pub rest : List Item
  pub below : List Frame
  pub stand : stand_in a.stand
      ≡ running (frames_with fixed (command (with place k.resource test body) ∷ rest) below)
  pub is_true : IsTrueOf
      (evaluate fixed.slots (together (common_of a.shared).store (content_of k).content.store)) test

pub made-standing : (a : CodePart) (k : Content) → MayEnter (part_of a) (content_of k)
    → Standing a k
made-standing a k may =
    let (f, test, (frames, stand, guard), so) = may.opens in
    record {
      fixed = f;
      place = guard.place;
      test = test;
      body = guard.body;
      rest = guard.rest;
      below = guard.below;
      stand = stand
          ∙ ap running
          (next-shape frames f guard.below (with guard.place k.resource test guard.body)
          guard.rest guard.is);
      is_true = so;
    }

module _ (p : Program) (formed : IsFormed p) (a b : CodePart) (k : Content) (number : ℕ)
    (of : IsPartOf p a)
    (content : IsContentIn p k) (may : MayEnter (part_of a) (content_of k))
    (units : numbers a.supply ≡ number ∷ drop 1 (numbers a.supply)) (made : IsEntered number k a b)
    (s : Standing a k) where
  abbrev frames : List Frame
  frames = frames_with s.fixed (command (with s.place k.resource s.test s.body) ∷ s.rest) s.below

  abbrev kept : List Frame
  kept = frames_with s.fixed (items s.body ++ (leave k.resource ∷ s.rest)) s.below

  now : stand_in b.stand ≡ running kept
  now = made.stand ∙ ap (λ z. running (moved (GoOn Into) (frames_in z))) s.stand

  frames_are : FramesAreOf p (common_of a.shared).store frames
  frames_are = subst (StandIsOf p (common_of a.shared).store) s.stand of.is.stands

  -- the part with the content in hand
  abbrev both : Part
  both = record (part_of a).part {
    heap = (common_of b.shared).heap;
    store = (common_of b.shared).store;
  }

  hand : HasInHand (part_of a).part (content_of k).content both
  hand = in-hand (part_of a).part (content_of k).content (common_of b.shared).heap
      (common_of b.shared).store made.heap made.store

  -- the condition is true of what it has then
  holds-there : IsTrueOf (evaluate s.fixed.slots (common_of b.shared).store) s.test
  holds-there = subst (λ z. IsTrueOf (evaluate s.fixed.slots z) s.test)
      (sym (map-same (common_of b.shared).store
      (together (common_of a.shared).store (content_of k).content.store) (made.store).is)) s.is_true

  free : (part_common both).held k.resource ≡ None
  free = ap (λ z. cond z (Some a.task) None) may.outside

  holders-after : (part_common (part_of b).part).held
      ≡ (set_holder k.resource (Some a.task) (part_common both)).held
  holders-after = ap (λ (z : Common). z.held) (part-common b) ∙ made.held
      ∙ (λ i. λ q. cond (q.0 == k.resource.0) (Some a.task)
      (ap (λ (z : Common). z.held q) (sym (part-common a)) i))

  common-after : part_common (part_of b).part ≡ set_holder k.resource (Some a.task)
      (part_common both)
  common-after = same-held (common_of b.shared).heap (common_of b.shared).store holders-after

  takes : NextTakes (own_event a number) (next (runs frames)) (has (numbers a.supply))
      (has (numbers b.supply))
  takes = takes-first (own_event a number) (next (runs frames)) a b units made.supply
      (numbers b.supply, (refl, refl), refl)

  -- it is an entry
  pub made-enters : Enters p (own_event a number) (part_of a) (content_of k) (part_of b)
  made-enters = record {
    both = both;
    hand = hand;
    frames = frames;
    kept = kept;
    entry = (s.fixed, s.below, s.place, s.test, s.body, s.rest, refl);
    acts = record {
      own = refl;
      task = made.task;
      from_is = s.stand;
      to_is = now;
      steps = (free, holds-there, common-after, refl);
      slots = enter-slots p formed (common_of a.shared).store (common_of b.shared).store k content
          made.store
          s.fixed s.place s.test s.body s.rest s.below frames_are;
    };
    spends = takes;
    notes = record {
      keeps = made.keeps;
      given = made.given;
      clock_is = let c = made.clock in omega arith;
      log_is = made.log;
    };
  }

  -- how often it is inside of each region, and what it holds
  inside-after : (q : ResId) → regions p q kept ≡ cond ((part_of b).part.holds q) 1 0
  inside-after q =
      let before : regions p q frames ≡ cond ((part_of a).part.holds q) 1 0 =
      sym (ap (λ z. regions p q (frames_in z)) s.stand)
      ∙ sym (times-regions p q (frames_in (part_of a).part.stand)) ∙ of.is.inside q in
      let one : exits q (items s.body ++ (leave k.resource ∷ s.rest))
      ≡ cond (k.resource.0 == q.0) 1 0 + exits q s.rest =
      items-exits q s.body (leave k.resource ∷ s.rest) in
      let held = ap (λ (f : ResId → Option Path). one_if (is_some (f q))) made.held in
      go (q.0 == k.resource.0) refl (k.resource.0 == q.0) refl before one held
    where
      go : (x : Bool) → q.0 == k.resource.0 ≡ x → (y : Bool) → k.resource.0 == q.0 ≡ y
          → regions p q frames ≡ cond ((part_of a).part.holds q) 1 0
          → exits q (items s.body ++ (leave k.resource ∷ s.rest)) ≡ cond (k.resource.0 == q.0) 1 0 +
          exits q s.rest
          → one_if ((part_of b).part.holds q)
          ≡ one_if (is_some
          (cond (q.0 == k.resource.0) (Some a.task) ((common_of a.shared).held q)))
          → regions p q kept ≡ cond ((part_of b).part.holds q) 1 0
      go true e true i before one held =
          let same : q ≡ k.resource = resource-same q k.resource e in
          let none : one_if ((part_of a).part.holds q) ≡ 0 =
          ap (λ z. one_if ((part_of a).part.holds z)) same ∙ ap one_if may.outside in
          let first : one_if (k.resource.0 == q.0) ≡ 1 = ap one_if i in
          let then_ : one_if
          (is_some (cond (q.0 == k.resource.0) (Some a.task) ((common_of a.shared).held q)))
          ≡ 1 = ap (λ z. one_if (is_some (cond z (Some a.task) ((common_of a.shared).held q)))) e in
          omega arith
      go false e false i before one held =
          let first : one_if (k.resource.0 == q.0) ≡ 0 = ap one_if i in
          let then_ : one_if
          (is_some (cond (q.0 == k.resource.0) (Some a.task) ((common_of a.shared).held q)))
          ≡ one_if ((part_of a).part.holds q) =
          ap (λ z. one_if (is_some (cond z (Some a.task) ((common_of a.shared).held q)))) e in
          omega arith
      go true e false i before one held = absurd (grind (arith, nat_tests))
      go false e true i before one held = absurd (grind (arith, nat_tests))

  -- and the part is still the program's
  pub made-inside : HasWidth (length p.fields) b.shared.heap → IsPartOf p b
  made-inside wide = record {
    is = record {
      stands = subst (StandIsOf p (common_of b.shared).store) (sym now)
          (enter-frames p formed (common_of a.shared).store (common_of b.shared).store k content
          made.store
          s.fixed s.place s.test s.body s.rest s.below frames_are);
      inside = λ q. times-regions p q (frames_in (part_of b).part.stand)
          ∙ ap (λ z. regions p q (frames_in z)) now ∙ inside-after q;
      order = subst (λ z. AreInOrder p (frames_in z)) (sym now)
          (order-enter p (common_of a.shared).store s.fixed s.place k.resource s.test s.body s.rest
          s.below frames_are.0 (subst (λ z. AreInOrder p (frames_in z)) s.stand of.is.order));
    };
    wide = wide;
    blank = made.blank ∙ of.blank;
  }

-- whether it entered or not
pub enter-of : {T E : Type 0} (p : Program) (formed : IsFormed p) (a b : CodePart) (k : Content)
    → IsPartOf p a
    → IsContentIn p k → MayEnter (part_of a) (content_of k) → (r : Result T E)
    → OnOk r ((number : ℕ) × (numbers a.supply ≡ number ∷ drop 1 (numbers a.supply))
    × IsEntered number k a b)
    → OnErr r (part_of b ≡ part_of a) → b.blank ≡ a.blank → HasWidth (length p.fields) b.shared.heap
    → IsPartOf p b
enter-of p formed a b k of content may (Ok x) h e blank wide =
    made-inside p formed a b k h.0 of content may h.1 h.2 (made-standing a k may) wide
enter-of p formed a b k of content may (Err x) h e blank wide = record {
  is = subst (λ (z : TimedPart). IsOf p z.part) (sym e) of.is;
  wide = wide;
  blank = blank ∙ of.blank;
}
