-- Contents of all resources, handed out one after the other, are the shares of all free resources.
-- Names: `hand-LAW`.
use Rattle.std.specs.Prelude.{◌≡◌, ◌==◌, ◌<◌, ◌≤◌, ◌+◌, ℕ, suc, Bool, true, false, cond, List, [], ◌∷◌, length, map, Option, Some, None}
use Rattle.std.specs.List.{AllByRecursion}
use Rattle.std.proofs.Common.{sym, ap, ◌∙◌, refl, subst, arith}
use Rattle.std.proofs.lemmas.Bool.Decides.{nat_tests}
use Rattle.sf_base.proofs.MapSplits.{splits-assoc_left, splits-comm, splits-has_left, splits-has_right, splits-of_empty_right, empty-holds}
use Rattle.sf_base.proofs.StoreSplits.{resource-is}
use Rattle.sf_base.specs.declared.ids.ResId.{ResId}
use Rattle.sf_base.specs.HeapStore.{Heap, Splits, Store}
use Rattle.sf_core.specs.Machine.Whole.{Part, Content, IsUnion}
use Rattle.sf_core.specs.Program.Syntax.{Program, Resource}
use Rattle.sf_own.proofs.Annotations.{determined-invariant}
use Rattle.sf_own.proofs.Contents.{content_of, content-of_free}
use Rattle.sf_own.proofs.Exits.{part_with}
use Rattle.sf_own.specs.Checked.Accepted.{IsAccepted}
use Rattle.sf_part.specs.Checked.LawsOfGiving.{GivenContentsAreOne}
use Rattle.sf_part.specs.Given.{IsContentOf}
use Rattle.sf_part.specs.Steps.{AreFrom, HandsOut, HasInHand}
use Rattle.sf_part.specs.Timed.{TimedContent, contents_of}
use Rattle.sf_safe.specs.Checked.Invariant.{Resources}
use Rattle.sf_safe.specs.Checked.Own.{Own}

-- the part has these cells and slots beside that share
pub record IsBeside (a : Part) (heap : Heap) (store : Store) (share : Own) : Type 0 where
  pub cells : Splits a.heap heap share.cells
  pub slots : Splits a.store store share.slots

-- what is left once contents are handed out: these cells and slots, and all else as it was
pub record IsRest (all after : Part) (heap : Heap) (store : Store) : Type 0 where
  pub cells : after.heap ≡ heap
  pub slots : after.store ≡ store
  pub holds : after.holds ≡ all.holds
  pub stand : after.stand ≡ all.stand

-- a part as another with these cells and slots
pub hand-part : (a : Part) (w : Own) (content : Own) (r : ResId)
    → Splits a.heap w.cells content.cells
    → Splits a.store w.slots content.slots → HasInHand (part_with a w) (content_of r content) a
hand-part a w content r cells slots = record {
  task = refl;
  stand = refl;
  holds = refl;
  supply = refl;
  heap = cells;
  store = slots;
}

module _ (p : Program) (accepted : IsAccepted p) (law : GivenContentsAreOne) where
  -- what is left is what there is beside the shares
  pub hand-rest : (m : ℕ) (rs : List Resource) (contents : List TimedContent) (all after : Part)
      (free : Own) (heap : Heap) (store : Store) → AreFrom m contents
      → length contents ≡ length rs → HandsOut all contents after
      → AllByRecursion (λ (k : TimedContent). IsContentOf p k.content) contents
      → Resources p (λ r. None) m rs free → IsBeside all heap store free
      → IsRest all after heap store
  unfolding GivenContentsAreOne
  hand-rest m [] [] all after free heap store from each out exactly s b = record {
    cells = ap (λ (z : Part). z.heap) out ∙ splits-of_empty_right empty-holds
        (subst (λ (z : Own). Splits all.heap heap z.cells) s b.cells);
    slots = ap (λ (z : Part). z.store) out ∙ splits-of_empty_right empty-holds
        (subst (λ (z : Own). Splits all.store store z.slots) s b.slots);
    holds = ap (λ (z : Part). z.holds) out;
    stand = ap (λ (z : Part). z.stand) out;
  }
  hand-rest m [] (k ∷ contents) all after free heap store from each out exactly s b =
      absurd (omega (arith, each))
  hand-rest m (q ∷ rs) [] all after free heap store from each out exactly s b =
      absurd (omega (arith, each))
  hand-rest m (q ∷ rs) (k ∷ contents) all after free heap store from each (less, hand, out) exactly s
      b =
      let r : ResId = record { 0 = m } in
      let cells = splits-assoc_left (splits-comm s.parts.cells) b.cells in
      let slots = splits-assoc_left (splits-comm s.parts.slots) b.slots in
      let w : Own = record { cells = _; slots = _; tokens = λ r. None } in
      let same = (law p all less (part_with all w) k.content (content_of r s.left)
      (determined-invariant p accepted) hand (hand-part all w s.left r cells.1 slots.1)
      (resource-is k.content.resource r from.0) exactly.0 (content-of_free p r s.left s.first)).1 in
      let rest = hand-rest (suc m) rs contents less after s.right heap store from.1
      (omega (arith, each)) out exactly.1 s.second
      (record {
        cells = subst (λ z. Splits z heap s.right.cells) (sym (ap (λ (z : Part). z.heap) same))
            cells.0;
        slots = subst (λ z. Splits z store s.right.slots) (sym (ap (λ (z : Part). z.store) same))
            slots.0;
      }) in
      record {
        cells = rest.cells;
        slots = rest.slots;
        holds = rest.holds ∙ sym hand.holds;
        stand = rest.stand ∙ sym hand.stand;
      }

-- contents that a part can hand out, one of each resource from that number on
pub record Hands (p : Program) (m : ℕ) (rs : List Resource) (all : Part) : Type 0 where
  pub contents : List TimedContent
  pub rest : Part
  pub from : AreFrom m contents
  pub each : length contents ≡ length rs
  pub out : HandsOut all contents rest
  pub exactly : AllByRecursion (λ (k : TimedContent). IsContentOf p k.content) contents

-- of the shares of all resources each is a content
pub hand-out : (p : Program) (m : ℕ) (rs : List Resource) (all : Part) (free : Own) (heap : Heap)
    (store : Store) → Resources p (λ r. None) m rs free → IsBeside all heap store free
    → Hands p m rs all
hand-out p m [] all free heap store s b = record {
  contents = [];
  rest = all;
  from = tt;
  each = refl;
  out = refl;
  exactly = tt;
}
hand-out p m (q ∷ rs) all free heap store s b =
    let r : ResId = record { 0 = m } in
    let cells = splits-assoc_left (splits-comm s.parts.cells) b.cells in
    let slots = splits-assoc_left (splits-comm s.parts.slots) b.slots in
    let w : Own = record { cells = _; slots = _; tokens = λ r. None } in
    let k : TimedContent = record { content = content_of r s.left; stamp = 0 } in
    let more = hand-out p (suc m) rs (part_with all w) s.right heap store s.second
    (record { cells = cells.0; slots = slots.0 }) in
    record {
      contents = k ∷ more.contents;
      rest = more.rest;
      from = (refl, more.from);
      each = ap suc more.each;
      out = (part_with all w, hand-part all w s.left r cells.1 slots.1, more.out);
      exactly = (content-of_free p r s.left s.first, more.exactly);
    }

-- a part beside contents, with all that they have, hands them out
pub hand-union : (a : Part) (contents : List TimedContent) (heap more : Heap) (store others : Store)
    → Splits heap a.heap more → Splits store a.store others
    → IsUnion more (map (λ (k : Content). k.heap) (contents_of contents))
    → IsUnion others (map (λ (k : Content). k.store) (contents_of contents))
    → HandsOut (record a { heap = heap; store = store }) contents a
hand-union a [] heap more store others h s e d =
    let cells = splits-of_empty_right e h in
    let slots = splits-of_empty_right d s in
    λ i. record a { heap = sym cells i; store = sym slots i }
hand-union a (k ∷ contents) heap more store others h s (x, hs, xs) (y, ss, ys) =
    let cells = splits-assoc_left (splits-comm hs) h in
    let slots = splits-assoc_left (splits-comm ss) s in (
      record a { heap = _; store = _ },
      record {
        task = refl;
        stand = refl;
        holds = refl;
        supply = refl;
        heap = cells.1;
        store = slots.1;
      },
      hand-union a contents _ x _ y cells.0 slots.0 xs ys,
    )

-- each resource's token is among the shares
pub hand-token : (p : Program) (m : ℕ) (rs : List Resource) (free : Own) (r : ResId)
    → Resources p (λ r. None) m rs free → m ≤ r.0 → r.0 < m + length rs → free.tokens r ≡ Some tt
hand-token p m [] free r s l h = absurd (omega (arith, l, h))
hand-token p m (q ∷ rs) free r s l h = go (r.0 == m) refl
    (λ k. hand-token p (suc m) rs s.right r s.second k (omega (arith, h)))
  where
    above : (m r : ℕ) → m ≤ r → r == m ≡ false → suc m ≤ r
    above m r l i = grind (arith, nat_tests)

    go : (b : Bool) → r.0 == m ≡ b → (suc m ≤ r.0 → s.right.tokens r ≡ Some tt)
        → free.tokens r ≡ Some tt
    go true i later = splits-has_left r tt s.parts.tokens
        (ap (λ z. z r) s.first.tokens ∙ ap (λ b. cond {A = Option (Unit {0})} b (Some tt) None) i)
    go false i later = splits-has_right r tt s.parts.tokens (later (above m r.0 l i))
