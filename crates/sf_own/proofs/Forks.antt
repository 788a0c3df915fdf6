-- A fork that lends each child just its share leaves a parent and two children that are safe.
-- Names: `fork-LAW`; the lemma of the law has the name of its function.
use Rattle.std.specs.Prelude.{◌≡◌, ℕ, suc, Bool, false, List, [], ◌∷◌, Some, None}
use Rattle.std.proofs.Common.{true≢false, sym, ap, ◌∙◌, refl, subst}
use Rattle.sf_base.proofs.Options.{is_some-false}
use Rattle.sf_base.specs.declared.ids.ResId.{ResId}
use Rattle.sf_base.specs.declared.place.Place.{Place}
use Rattle.sf_base.specs.HeapStore.{own}
use Rattle.sf_core.specs.Machine.Config.{Item, command, items, Fixed, Frame, runs, waits}
use Rattle.sf_core.specs.Machine.Next.{does, next}
use Rattle.sf_core.specs.Machine.Step.{Event, TaskStep, Does, procedure_at, room_count, room_for}
use Rattle.sf_core.specs.Machine.Supplies.{NextTakes, has, lent}
use Rattle.sf_core.specs.Machine.Whole.{Part, numbers, running, waiting}
use Rattle.sf_core.specs.Program.Formed.{CallWithin}
use Rattle.sf_core.specs.Program.Syntax.{Call, fork, Procedure, Program}
use Rattle.sf_own.proofs.Annotations.{determined-pre}
use Rattle.sf_own.proofs.Exits.{part_with}
use Rattle.sf_own.proofs.Lending.{Lending, kept-tokens, lend, lend-tokens, lent_known, opened_own, sums-cells, sums-slots}
use Rattle.sf_own.proofs.Private.{taken-there}
use Rattle.sf_own.proofs.Shares.{call-plain, fork-within, share-of}
use Rattle.sf_part.specs.Checked.Lemmas.Shapes.{next-shape}
use Rattle.sf_own.proofs.Standing.{frame_with, running-safe}
use Rattle.sf_own.proofs.Tokens.{holds-same}
use Rattle.sf_own.proofs.Unions.{tokens-none, tokens-same}
use Rattle.sf_own.specs.Checked.Accepted.{IsAccepted}
use Rattle.sf_own.specs.Checked.Laws.{ForksKeepSafe}
use Rattle.sf_own.specs.Checked.Safe.{AreSafe, IsSafe, own_of}
use Rattle.sf_part.specs.Checked.LawsOfGiving.{LentSharesAreOne}
use Rattle.sf_part.specs.Keeps.{Keeps}
use Rattle.sf_part.specs.Lent.{IsShareOf, Lends}
use Rattle.sf_part.specs.Of.{FrameIsOf, IsOf, StandIsOf}
use Rattle.sf_part.specs.Steps.{HasChildren, common_of}
use Rattle.sf_part.specs.Timed.{TimedPart}
use Rattle.sf_safe.specs.Checked.Contract.{Entered, Known}
use Rattle.sf_safe.specs.Checked.Invariant.{Waiting}
use Rattle.sf_safe.specs.Checked.Own.{nothing}
use Rattle.sf_safe.specs.Checked.Owns.{Sums, own-same, parts-nothing}

-- a child is safe with what it begins with
pub child-safe : (p : Program) → IsAccepted p → (k : Known) (g : Procedure) (a : Part)
    → procedure_at p k.fixed.procedure ≡ Some g → a.holds ≡ (λ r. false)
    → a.stand ≡ running (frame_with k.fixed (items g.body) ∷ []) → Entered p k (own_of a)
    → IsSafe p k a
child-safe p accepted k g a there none stand entered = record {
  within = λ r e. absurd (true≢false (sym e ∙ ap (λ (h : ResId → Bool). h r) none));
  frames = frame_with k.fixed (items g.body) ∷ [];
  runs = stand;
  safe = λ n. (
    k.values,
    record {
      left = own_of a;
      right = nothing;
      parts = parts-nothing (own_of a);
      first = accepted.bodies k g there n (own_of a) entered;
      second = (refl, refl);
    },
  );
}

module _ (p : Program) (accepted : IsAccepted p) (law : LentSharesAreOne) (owed : Known)
    (ev : Event) (before after one two : TimedPart) (keeps : Keeps before)
    (x : Lends p ev before after one two) (of : IsOf p before.part) (s : IsSafe p owed before.part)
    (f : Fixed) (below : List Frame) (place : Place) (c d : Call) (rest : List Item)
    (is : next (runs x.forks.frames) ≡ does f below (fork place c d) rest) where
  abbrev a : Part
  a = before.part

  abbrev all : Part
  all = x.forks.all

  abbrev frame : Frame
  frame = frame_with f (command (fork place c d) ∷ rest)

  shape : x.forks.frames ≡ frame ∷ below
  shape = next-shape x.forks.frames f below (fork place c d) rest is

  stand : a.stand ≡ running (frame ∷ below)
  stand = x.forks.acts.from_is ∙ ap running shape

  steps : Does p ev (common_of a) f below (fork place c d) rest (common_of all)
      (waits x.forks.kept (runs x.forks.left_frames) (runs x.forks.right_frames))
  steps = subst (λ z. TaskStep p ev (common_of a) (runs z) (common_of all)
      (waits x.forks.kept (runs x.forks.left_frames) (runs x.forks.right_frames))) shape
      x.forks.acts.steps

  abbrev g : Procedure
  g = steps.1

  abbrev h : Procedure
  h = steps.2

  -- the fork's number is no slot's
  fresh : (index : ℕ) → a.store (own ev.number index) ≡ None
  fresh index = is_some-false (a.store (own ev.number index))
      ((keeps.unmade ev.number
      (taken-there ev.number (numbers a.supply) takes.0 takes.1)).store index)
    where
      takes : NextTakes ev (does f below (fork place c d) rest) (has (numbers a.supply))
          (lent (has (numbers one.part.supply)) (has (numbers two.part.supply)))
      takes = subst (λ z. NextTakes ev z (has (numbers a.supply))
          (lent (has (numbers one.part.supply)) (has (numbers two.part.supply)))) is x.forks.spends

  abbrev left : Known
  left = lent_known a f c g (room_for g ev.number 0)

  abbrev right : Known
  right = lent_known a f d h (room_for h ev.number (room_count g))

  abbrev kept_frames : List Frame
  kept_frames = frame_with f rest ∷ below

  lending : (n : ℕ) → Lending p n owed left right kept_frames (opened_own a f ev.number c d g h)
  lending n = lend p owed a ev.number fresh f below place c d rest g h steps.3 steps.4 n
      (running-safe p owed a (frame ∷ below) s stand (suc n))

  -- neither callee sets the resources up
  within_body : (k : Procedure) × CallWithin p k c × CallWithin p k d
  within_body = fork-within p accepted.formed a.store f place c d rest frame_of
    where
      frame_of : FrameIsOf p a.store frame
      frame_of = (subst (StandIsOf p a.store) stand of.stands).0

  -- the whole is what the part and the rooms have
  holds : all.holds ≡ a.holds
  holds = holds-same a all (ap (λ z. z.held) steps.5)

  whole : own_of all ≡ opened_own a f ev.number c d g h
  whole = own-same (own_of all) (opened_own a f ev.number c d g h) (ap (λ z. z.heap) steps.5)
      (ap (λ z. z.store) steps.5) (tokens-same all a holds)

  tasks : waits x.forks.kept (runs x.forks.left_frames) (runs x.forks.right_frames)
      ≡ waits kept_frames (runs (frame_with left.fixed (items g.body) ∷ []))
      (runs (frame_with right.fixed (items h.body) ∷ []))
  tasks = steps.6

  left_frames : x.forks.left_frames ≡ frame_with left.fixed (items g.body) ∷ []
  left_frames = let t = tasks in cc

  right_frames : x.forks.right_frames ≡ frame_with right.fixed (items h.body) ∷ []
  right_frames = let t = tasks in cc

  kept_are : x.forks.kept ≡ kept_frames
  kept_are = let t = tasks in cc

  left_is : x.left ≡ frame_with left.fixed (items g.body)
  left_is =
      let same : running (x.left ∷ []) ≡ running (frame_with left.fixed (items g.body) ∷ []) =
      sym x.left_runs ∙ x.forks.left_begins.stand ∙ ap running left_frames in cc

  right_is : x.right ≡ frame_with right.fixed (items h.body)
  right_is =
      let same : running (x.right ∷ []) ≡ running (frame_with right.fixed (items h.body) ∷ []) =
      sym x.right_runs ∙ x.forks.right_begins.stand ∙ ap running right_frames in cc

  -- what the children and the parent have is what the rule lends and keeps
  module _ (n : ℕ) where
    abbrev l : Lending p n owed left right kept_frames (opened_own a f ev.number c d g h)
    l = lending n

    sums : Sums (own_of all) (l.kept ∷ l.one ∷ l.two ∷ [])
    sums = subst (λ z. Sums z (l.kept ∷ l.one ∷ l.two ∷ [])) (sym whole) l.parts

    children : HasChildren (part_with after.part l.kept) (part_with one.part l.one)
        (part_with two.part l.two) all
    children = record {
      task = x.forks.children.task;
      stand = x.forks.children.stand;
      holds = x.forks.children.holds;
      heap = sums-cells sums;
      store = sums-slots sums;
      left_one = record {
        task = x.forks.children.left_one.task;
        holds = x.forks.children.left_one.holds;
      };
      right_one = record {
        task = x.forks.children.right_one.task;
        holds = x.forks.children.right_one.holds;
      };
    }

    same : (one.part.heap ≡ l.one.cells) × (one.part.store ≡ l.one.slots)
        × (two.part.heap ≡ l.two.cells) × (two.part.store ≡ l.two.slots)
        × (after.part.heap ≡ l.kept.cells) × (after.part.store ≡ l.kept.slots)
    unfolding LentSharesAreOne
    same = law p all after.part (part_with after.part l.kept) one.part two.part
        (part_with one.part l.one) (part_with two.part l.two) x.left x.right
        (determined-pre p accepted) x.forks.children children x.left_exactly
        (subst (λ z. IsShareOf p z (part_with one.part l.one)) (sym left_is)
        (share-of p accepted.formed left g.body l.one one.part l.first))
        x.right_exactly
        (subst (λ z. IsShareOf p z (part_with two.part l.two)) (sym right_is)
        (share-of p accepted.formed right h.body l.two two.part l.second))

    one_tokens : l.one.tokens ≡ (λ r. None)
    one_tokens = lend-tokens p left g l.one steps.3
        (call-plain p within_body.0 g c within_body.1 steps.3) l.first

    two_tokens : l.two.tokens ≡ (λ r. None)
    two_tokens = lend-tokens p right h l.two steps.4
        (call-plain p within_body.0 h d within_body.2 steps.4) l.second

    one_is : l.one ≡ own_of one.part
    one_is = own-same l.one (own_of one.part) (sym same.0) (sym same.1)
        (one_tokens ∙ sym (tokens-none one.part x.forks.children.left_one.holds))

    two_is : l.two ≡ own_of two.part
    two_is = own-same l.two (own_of two.part) (sym same.2) (sym same.3)
        (two_tokens ∙ sym (tokens-none two.part x.forks.children.right_one.holds))

    kept_is : l.kept ≡ own_of after.part
    kept_is = own-same l.kept (own_of after.part) (sym same.4) (sym same.5)
        (sym (kept-tokens one_tokens two_tokens l.parts)
        ∙ sym (tokens-same all a holds) ∙ tokens-same all after.part x.forks.children.holds)

  pub fork-safe : AreSafe p owed after.part one.part two.part
  fork-safe = record {
    left = left;
    right = right;
    waits = record {
      within = λ r e. s.within r
          (ap (λ (z : ResId → Bool). z r) (sym holds ∙ x.forks.children.holds) ∙ e);
      frames = kept_frames;
      waits = sym x.forks.children.stand ∙ x.forks.acts.to_is ∙ ap waiting kept_are;
      safe = λ n. subst (Waiting p n owed kept_frames left right) (kept_is n) (lending n).waits;
    };
    first = child-safe p accepted left g one.part steps.3 x.forks.children.left_one.holds
        (x.left_runs ∙ ap (λ z. running (z ∷ [])) left_is)
        (subst (Entered p left) (one_is 0) (lending 0).first);
    second = child-safe p accepted right h two.part steps.4 x.forks.children.right_one.holds
        (x.right_runs ∙ ap (λ z. running (z ∷ [])) right_is)
        (subst (Entered p right) (two_is 0) (lending 0).second);
  }

pub forks_keep_safe : LentSharesAreOne → ForksKeepSafe
unfolding ForksKeepSafe
forks_keep_safe law p accepted owed ev before after one two keeps x of s =
    let (f, below, place, c, d, rest, is) = x.forks.fork in
    fork-safe p accepted law owed ev before after one two keeps x of s f below place c d rest is
