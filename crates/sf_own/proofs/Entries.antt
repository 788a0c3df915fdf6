-- The entry of a region keeps a part safe.
-- Names: `entry-LAW`; the lemma of the law has the name of its function.
use Rattle.std.specs.Prelude.{◌≡◌, ◌==◌, ◌<◌, ℕ, suc, Bool, true, false, cond, List, [], ◌∷◌, ◌++◌, length}
use Rattle.std.proofs.Common.{sym, ap, ◌∙◌, refl, subst}
use Rattle.std.proofs.lemmas.Option.{slice_get_within}
use Rattle.sf_base.proofs.StoreSplits.{resource-same}
use Rattle.sf_base.specs.declared.ids.ResId.{ResId}
use Rattle.sf_base.specs.declared.place.Place.{Place}
use Rattle.sf_base.specs.HeapStore.{Splits}
use Rattle.sf_core.specs.declared.assertion.Test.{Test}
use Rattle.sf_core.specs.declared.command.Expr.{Expr}
use Rattle.sf_core.specs.Assertions.Sat.{IsTrueOf}
use Rattle.sf_core.specs.Machine.Config.{Item, command, leave, items, Fixed, Frame, runs, evaluate}
use Rattle.sf_core.specs.Machine.Step.{Event, TaskStep, Does}
use Rattle.sf_core.specs.Machine.Whole.{Part, running, stand_of}
use Rattle.sf_core.specs.Program.Syntax.{Block, with, Program}
use Rattle.sf_own.proofs.Contents.{content-free, share_of}
use Rattle.sf_part.specs.Checked.Lemmas.Shapes.{next-shape}
use Rattle.sf_own.proofs.Standing.{frame_with, running-safe}
use Rattle.sf_own.proofs.Tokens.{HoldsMore, holds-entered, token-more}
use Rattle.sf_own.specs.Checked.Laws.{EntriesKeepSafe}
use Rattle.sf_own.specs.Checked.Safe.{HoldsWithin, IsSafe, own_of}
use Rattle.sf_part.specs.Given.{IsContentOf}
use Rattle.sf_part.specs.Steps.{Enters, common_of}
use Rattle.sf_part.specs.Timed.{TimedContent, TimedPart}
use Rattle.sf_safe.specs.Checked.Contract.{Known, FreeShare}
use Rattle.sf_safe.specs.Checked.Fewer.{fewer-callers}
use Rattle.sf_safe.specs.Checked.Invariant.{known, Running}
use Rattle.sf_safe.specs.Checked.Own.{Own, Parts}
use Rattle.sf_safe.specs.Checked.Owns.{group, opened, order, pair, two}
use Rattle.sf_safe.specs.Checked.Seen.{seen-test}

-- the resource of a content is the program's
content-within : (p : Program) (r : ResId) (w : Own) → FreeShare p r w → r.0 < length p.resources
content-within p r w f = slice_get_within p.resources r.0 f.resource f.there

-- what a part holds is the program's, where it holds one resource of the program more
within-more : (p : Program) (less more : Part) (r : ResId) → HoldsMore less more r
    → r.0 < length p.resources → HoldsWithin p less → HoldsWithin p more
within-more p less more r h l within q e = go (q.0 == r.0) refl (sym (h.others q) ∙ e)
  where
    go : (b : Bool) → q.0 == r.0 ≡ b → cond b true (less.holds q) ≡ true → q.0 < length p.resources
    go true i k = subst (λ z. z.0 < length p.resources) (sym (resource-same q r i)) l
    go false i k = within q k

module _ (p : Program) (owed : Known) (ev : Event) (before : TimedPart) (content : TimedContent)
    (after : TimedPart) (e : Enters p ev before content after)
    (exactly : IsContentOf p content.content) (s : IsSafe p owed before.part)
    (f : Fixed) (below : List Frame) (place : Place) (test : Test Expr) (body : Block)
    (rest : List Item)
    (shape : e.frames
    ≡ frame_with f (command (with place content.content.resource test body) ∷ rest) ∷ below) where
  abbrev r : ResId
  r = content.content.resource

  abbrev frame : Frame
  frame = frame_with f (command (with place r test body) ∷ rest)

  abbrev inner : List Item
  inner = items body ++ (leave r ∷ rest)

  steps : Does p ev (common_of e.both) f below (with place r test body) rest (common_of after.part)
      (runs e.kept)
  steps = subst (λ z. TaskStep p ev (common_of e.both) (runs z) (common_of after.part)
      (runs e.kept)) shape e.acts.steps

  heap : after.part.heap ≡ e.both.heap
  heap = ap (λ z. z.heap) steps.2

  store : after.part.store ≡ e.both.store
  store = ap (λ z. z.store) steps.2

  more : HoldsMore before.part after.part r
  more =
      let x = holds-entered e.both after.part r ev.task steps.0 (ap (λ z. z.held) steps.2) in
      record {
        lacks = ap (λ h. h r) (sym e.hand.holds) ∙ x.lacks;
        others = λ q. x.others q ∙ ap (λ h. cond (q.0 == r.0) true (h q)) e.hand.holds;
      }

  free : FreeShare p r (share_of content.content)
  free = content-free p content.content exactly

  parts : Parts (own_of after.part) (own_of before.part) (share_of content.content)
  parts = record {
    cells = subst (λ z. Splits z before.part.heap content.content.heap) (sym heap) e.hand.heap;
    slots = subst (λ z. Splits z before.part.store content.content.store) (sym store) e.hand.store;
    tokens = token-more before.part after.part r more;
  }

  stand : before.part.stand ≡ running (frame ∷ below)
  stand = sym e.hand.stand ∙ e.acts.from_is ∙ ap running shape

  true_now : IsTrueOf (evaluate f.slots after.part.store) test
  true_now = subst (λ z. IsTrueOf (evaluate f.slots z) test) (sym store) steps.1

  safe : (n : ℕ) → Running p n owed (frame_with f inner ∷ below) (own_of after.part)
  safe n =
      let run = running-safe p owed before.part (frame ∷ below) s stand (suc n) in
      let k = run.1 in
      let rule = k.first in
      let all =
      opened (k.left ∷ k.right ∷ []) (share_of content.content ∷ []) (two parts) (two k.parts) in
      let m = group (k.right ∷ [])
      (order (0 ∷ 1 ∷ []) (k.left ∷ k.right ∷ share_of content.content ∷ []) (own_of after.part)
      all) in
      let split = pair m.sums in
      let reads = rule.reads (share_of content.content) m.both free m.parts in
      let same = seen-test f.slots (own_of after.part) m.both k.right split test reads in (
        run.0,
        record {
          left = m.both;
          right = k.right;
          parts = split;
          first = rule.goes_on (share_of content.content) m.both free m.parts
              (subst (λ z. z) same true_now);
          second = fewer-callers p n (known frame run.0) below owed k.right k.second;
        },
      )

  pub entry-safe : IsSafe p owed after.part
  entry-safe = record {
    within = within-more p before.part after.part r more
        (content-within p r (share_of content.content) free) s.within;
    frames = frame_with f inner ∷ below;
    runs = e.acts.to_is ∙ ap stand_of steps.3;
    safe = safe;
  }

pub entries_keep_safe : EntriesKeepSafe
unfolding EntriesKeepSafe
entries_keep_safe p known owed ev before content after e exactly s =
    let (f, below, place, test, body, rest, is) = e.entry in
    entry-safe p owed ev before content after e exactly s f below place test body rest
    (next-shape e.frames f below (with place content.content.resource test body) rest is)
