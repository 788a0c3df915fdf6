-- The exit from a region keeps a part safe, where it leaves what is just the resource's.
-- Names: `exit-LAW`; the lemma of the law has the name of its function.
use Rattle.std.specs.Prelude.{◌≡◌, ◌==◌, ℕ, suc, Bool, true, false, cond, List, [], ◌∷◌}
use Rattle.std.proofs.Common.{sym, ap, ◌∙◌, refl, subst}
use Rattle.sf_base.proofs.MapSplits.{splits-cancel_left, splits-comm}
use Rattle.sf_base.specs.declared.ids.ResId.{ResId}
use Rattle.sf_base.specs.HeapStore.{Splits}
use Rattle.sf_core.specs.Machine.Config.{Item, leave, Fixed, Frame, runs}
use Rattle.sf_core.specs.Machine.Step.{Event, TaskStep, Goes}
use Rattle.sf_core.specs.Machine.Next.{leaves}
use Rattle.sf_core.specs.Machine.Whole.{Part, running, stand_of}
use Rattle.sf_core.specs.Program.Syntax.{Program}
use Rattle.sf_own.proofs.Annotations.{determined-invariant}
use Rattle.sf_own.proofs.Contents.{content_of, content-of_free}
use Rattle.sf_part.specs.Checked.Lemmas.Shapes.{leave-shape}
use Rattle.sf_own.proofs.Standing.{frame_with, running-safe}
use Rattle.sf_own.proofs.Tokens.{HoldsMore, holds-left, token-more}
use Rattle.sf_own.specs.Checked.Accepted.{IsAccepted}
use Rattle.sf_own.specs.Checked.Laws.{ExitsKeepSafe}
use Rattle.sf_own.specs.Checked.Safe.{HoldsWithin, IsSafe, own_of}
use Rattle.sf_part.specs.Checked.LawsOfGiving.{GivenContentsAreOne}
use Rattle.sf_part.specs.Given.{Gives}
use Rattle.sf_part.specs.Steps.{HasInHand, common_of}
use Rattle.sf_part.specs.Timed.{TimedContent, TimedPart}
use Rattle.sf_safe.specs.Checked.Contract.{Known, FreeShare}
use Rattle.sf_safe.specs.Checked.Fewer.{fewer-callers}
use Rattle.sf_safe.specs.Checked.Invariant.{known, Running}
use Rattle.sf_safe.specs.Checked.Own.{Own, Parts}
use Rattle.sf_safe.specs.Checked.Owns.{opened, own-same, pair, two}

-- a part with those cells and slots in place of its own
abbrev pub part_with : Part → Own → Part
part_with a w = record a { heap = w.cells; store = w.slots }

-- what a frame at an exit gives up, beside all that it and its callers keep
pub record Leaving (p : Program) (n : ℕ) (owed : Known) (f : Fixed) (rest : List Item)
    (below : List Frame) (r : ResId) (w : Own) : Type 0 where
  pub share : Own
  pub kept : Own
  pub parts : Parts w share kept
  pub free : FreeShare p r share
  pub safe : Running p n owed (frame_with f rest ∷ below) kept

-- a safe frame at an exit has that
pub exit-leaving : (p : Program) (n : ℕ) (owed : Known) (f : Fixed) (rest : List Item)
    (below : List Frame) (r : ResId) (w : Own)
    → Running p (suc n) owed (frame_with f (leave r ∷ rest) ∷ below) w
    → Leaving p n owed f rest below r w
exit-leaving p n owed f rest below r w (v, k) =
    let rule = k.first in
    let all = opened (rule.share ∷ rule.kept ∷ []) (k.right ∷ []) (two k.parts) (two rule.parts) in
    record {
      share = rule.share;
      kept = all.0;
      parts = all.1;
      free = rule.free;
      safe = (
        v,
        record {
          left = rule.kept;
          right = k.right;
          parts = pair all.2;
          first = rule.goes_on;
          second = fewer-callers p n (known (frame_with f rest) v) below owed k.right k.second;
        },
      );
    }

module _ (p : Program) (accepted : IsAccepted p) (law : GivenContentsAreOne) (owed : Known)
    (ev : Event) (before : TimedPart) (content : TimedContent) (after : TimedPart)
    (g : Gives p ev before content after) (s : IsSafe p owed before.part) (f : Fixed)
    (below : List Frame) (rest : List Item)
    (shape : g.exits.frames ≡ frame_with f (leave content.content.resource ∷ rest) ∷ below) where
  abbrev r : ResId
  r = content.content.resource

  abbrev all : Part
  all = g.exits.both

  abbrev frame : Frame
  frame = frame_with f (leave r ∷ rest)

  steps : Goes p ev (common_of before.part) (leaves f below r rest) (common_of all)
      (runs g.exits.kept)
  steps = subst (λ z. TaskStep p ev (common_of before.part) (runs z) (common_of all)
      (runs g.exits.kept)) shape g.exits.acts.steps

  heap : all.heap ≡ before.part.heap
  heap = ap (λ z. z.heap) steps.1

  store : all.store ≡ before.part.store
  store = ap (λ z. z.store) steps.1

  held_more : HoldsMore all before.part r
  held_more = holds-left before.part all r ev.task steps.0 (ap (λ z. z.held) steps.1)

  more : HoldsMore after.part before.part r
  more = subst (λ (h : ResId → Bool). HoldsMore (record after.part { holds = h }) before.part r)
      g.exits.hand.holds
      (record { lacks = held_more.lacks; others = held_more.others })

  stand : before.part.stand ≡ running (frame ∷ below)
  stand = g.exits.acts.from_is ∙ ap running shape

  leaving : (n : ℕ) → Leaving p n owed f rest below r (own_of before.part)
  leaving n = exit-leaving p n owed f rest below r (own_of before.part)
      (running-safe p owed before.part (frame ∷ below) s stand (suc n))

  -- what the part keeps is what the frame's rule keeps
  module _ (n : ℕ) where
    abbrev l : Leaving p n owed f rest below r (own_of before.part)
    l = leaving n

    abbrev less : Part
    less = part_with all l.kept

    hand : HasInHand less (content_of r l.share) all
    hand = record {
      task = refl;
      stand = refl;
      holds = refl;
      supply = refl;
      heap = subst (λ z. Splits z l.kept.cells l.share.cells) (sym heap)
          (splits-comm l.parts.cells);
      store = subst (λ z. Splits z l.kept.slots l.share.slots) (sym store)
          (splits-comm l.parts.slots);
    }

    one : after.part ≡ less
    unfolding GivenContentsAreOne
    one = (law p all after.part less content.content (content_of r l.share)
        (determined-invariant p accepted) g.exits.hand hand refl g.exactly
        (content-of_free p r l.share l.free)).1

    tokens : (own_of after.part).tokens ≡ l.kept.tokens
    tokens = splits-cancel_left
        (splits-comm (token-more after.part before.part r more))
        (subst (λ z. Splits (own_of before.part).tokens z l.kept.tokens) l.free.tokens
        l.parts.tokens)

    kept-is : l.kept ≡ own_of after.part
    kept-is = own-same l.kept (own_of after.part) (sym (ap (λ z. z.heap) one))
        (sym (ap (λ z. z.store) one)) (sym tokens)

    safe : Running p n owed (frame_with f rest ∷ below) (own_of after.part)
    safe = subst (Running p n owed (frame_with f rest ∷ below)) kept-is l.safe

  within : HoldsWithin p after.part
  within q e = s.within q (more.others q ∙ ap (λ z. cond (q.0 == r.0) true z) e ∙ both (q.0 == r.0))
    where
      both : (b : Bool) → cond b true true ≡ true
      both true = refl
      both false = refl

  pub exit-safe : IsSafe p owed after.part
  exit-safe = record {
    within = within;
    frames = frame_with f rest ∷ below;
    runs = sym g.exits.hand.stand ∙ g.exits.acts.to_is ∙ ap stand_of steps.2;
    safe = safe;
  }

pub exits_keep_safe : GivenContentsAreOne → ExitsKeepSafe
unfolding ExitsKeepSafe
exits_keep_safe law p accepted owed ev before content after g s =
    let (f, below, rest, is) = g.exits.exit in
    exit-safe p accepted law owed ev before content after g s f below rest
    (leave-shape g.exits.frames f below content.content.resource rest is)
