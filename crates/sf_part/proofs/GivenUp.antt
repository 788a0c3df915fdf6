-- What is there once a share of a resource is out, and the resource is free.
-- Names: `given-LAW`.
use Rattle.std.specs.Prelude.{◌≡◌, ◌==◌, ℕ, Bool, true, false, cond, Option, Some, None, is_some}
use Rattle.std.proofs.Common.{sym, ap, ◌∙◌, subst}
use Rattle.sf_base.proofs.MapSplits.{map-same, splits-comm, splits-lacks_both}
use Rattle.sf_base.proofs.Options.{is_some-false}
use Rattle.sf_base.specs.declared.ids.ResId.{ResId}
use Rattle.sf_base.specs.HeapStore.{Heap, Splits, Store, own}
use Rattle.sf_core.specs.Machine.Config.{Path, Common}
use Rattle.sf_core.specs.Machine.Step.{set_holder}
use Rattle.sf_frame.specs.Checked.Effects.{IsSameCommon}
use Rattle.sf_frame.specs.Commons.{common_of}
use Rattle.sf_frame.specs.declared.shared.Shared.{Shared}
use Rattle.sf_part.specs.Checked.KeepsIsProp.{AreOwn}
use Rattle.sf_part.specs.Keeps.{IsUnmade}

-- less is there, by these cells and slots, and nobody holds the resource
pub record Less (before : Common) (cells : Heap) (slots : Store) (r : ResId) (after : Common)
    : Type 0 where
  pub heap : Splits before.heap after.heap cells
  pub store : Splits before.store after.store slots
  pub held : after.held ≡ (λ q. cond (q.0 == r.0) None (before.held q))

pub given-after : (s t u : Common) (cells : Heap) (slots : Store) (r : ResId)
    → Splits s.heap cells t.heap → Splits s.store slots t.store → t.held ≡ s.held
    → IsSameCommon u (set_holder r None t) → Less s cells slots r u
given-after s t u cells slots r h k held same = record {
  heap = subst (λ z. Splits s.heap z cells) (sym (map-same u.heap t.heap same.heap))
      (splits-comm h);
  store = subst (λ z. Splits s.store z slots) (sym (map-same u.store t.store same.store))
      (splits-comm k);
  held = (λ i. λ q. same.held q i) ∙ (λ i. λ q. cond (q.0 == r.0) None (held i q));
}

-- a number stays unmade
pub given-unmade : (s u : Common) (cells : Heap) (slots : Store) (r : ResId) (n : ℕ)
    → Less s cells slots r u → IsUnmade s.heap s.store n → IsUnmade u.heap u.store n
given-unmade s u cells slots r n less m = record {
  positive = m.positive;
  heap = ap is_some (splits-lacks_both n less.heap (is_some-false (s.heap n) m.heap)).0;
  store = λ i. ap is_some (splits-lacks_both (own n i) less.store
      (is_some-false (s.store (own n i)) (m.store i))).0;
}

-- whoever holds something is still the task
pub given-own : (task : Path) (before after : Shared) (cells : Heap) (slots : Store) (r : ResId)
    → Less (common_of before) cells slots r (common_of after) → AreOwn before.held task
    → AreOwn after.held task
given-own task before after cells slots r less h q holder e =
    go (q == r.0) (sym (ap (λ (f : ResId → Option Path). f (record { 0 = q })) less.held) ∙ e)
  where
    go : (b : Bool) → cond b None ((common_of before).held (record { 0 = q })) ≡ Some holder
        → holder ≡ task
    go true f = absurd (let k : None ≡ Some holder = f in cc)
    go false f = h q holder f
