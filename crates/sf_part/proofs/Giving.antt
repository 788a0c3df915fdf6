-- What a part gives up is determined.
-- Names: the lemma of the law has the name of its function; `given-LAW` speaks of two ways to give.
use Rattle.std.specs.Prelude.{◌≡◌, Option, Some, None, is_some, length}
use Rattle.std.specs.List.{slice_get}
use Rattle.std.proofs.Common.{true≢false, sym, ap, ◌∙◌, refl, subst}
use Rattle.std.proofs.lemmas.Option.{same_Some}
use Rattle.sf_base.proofs.MapSplits.{map-same, splits-cancel_right, splits-comm, splits-has_right}
use Rattle.sf_base.specs.declared.value.Value.TheVariants.{Nil as nil}
use Rattle.sf_base.specs.HeapStore.{Slot, Splits, Store}
use Rattle.sf_core.specs.Assertions.Sat.{Sat}
use Rattle.sf_core.specs.Machine.Config.{evaluate}
use Rattle.sf_core.specs.Machine.Start.{entry_slot}
use Rattle.sf_core.specs.Program.Syntax.{Resource}
use Rattle.sf_core.proofs.Assertions.Determined.{determined-precise}
use Rattle.sf_part.specs.Checked.LawsOfGiving.{GivenContentsAreOne}
use Rattle.sf_part.specs.Given.{is_variable_of}

-- parts of one map that have the same keys have the same there
pub given-same : {X : Type 0} (o q whole : Option X) → is_some o ≡ is_some q
    → ((v : X) → o ≡ Some v → whole ≡ Some v) → ((v : X) → q ≡ Some v → whole ≡ Some v)
    → o ≡ q
given-same None None whole e f g = refl
given-same None (Some w) whole e f g = absurd (true≢false (sym e))
given-same (Some v) None whole e f g = absurd (true≢false e)
given-same (Some v) (Some w) whole e f g = sym (f v refl) ∙ g w refl

pub given_contents_are_one : GivenContentsAreOne
unfolding GivenContentsAreOne
given_contents_are_one p both a b k j determined h g same x y = (
  λ i. record { resource = same i; heap = heaps i; store = stores i },
  λ i. record {
    task = (sym h.task ∙ g.task) i;
    stand = (sym h.stand ∙ g.stand) i;
    heap = kept_heaps i;
    store = kept_stores i;
    holds = (sym h.holds ∙ g.holds) i;
    supply = (sym h.supply ∙ g.supply) i;
  },
)
  where
    -- both are of one resource
    resource : y.resource ≡ x.resource
    resource = same_Some y.resource x.resource
        (sym y.there ∙ ap (λ r. slice_get p.resources r.0) (sym same) ∙ x.there)

    slots : (slot : Slot) → is_some (k.store slot) ≡ is_some (j.store slot)
    slots slot = x.variables slot
        ∙ ap (λ r. is_variable_of r (length x.resource.variables) slot) same
        ∙ ap (λ (r : Resource). is_variable_of j.resource (length r.variables) slot) (sym resource)
        ∙ sym (y.variables slot)

    stores : k.store ≡ j.store
    stores = map-same k.store j.store (λ slot. given-same (k.store slot) (j.store slot)
        (both.store slot)
        (slots slot) (λ v e. splits-has_right slot v h.store e)
        (λ v e. splits-has_right slot v g.store e))

    -- the other's cells satisfy the same invariant with the same values
    also : Sat x.resource.invariant.level (evaluate entry_slot k.store) (λ n. nil) j.heap
    also = subst (λ (r : Resource). Sat r.invariant.level (evaluate entry_slot k.store) (λ n. nil)
        j.heap)
        resource
        (subst (λ (s : Store). Sat y.resource.invariant.level (evaluate entry_slot s) (λ n. nil)
        j.heap)
        (sym stores) y.invariant)

    heaps : k.heap ≡ j.heap
    heaps = determined-precise x.resource.invariant.level (evaluate entry_slot k.store) (λ n. nil)
        (determined k.resource.0 x.resource x.there) both.heap k.heap j.heap a.heap b.heap
        (splits-comm h.heap) (splits-comm g.heap) x.invariant also

    kept_heaps : a.heap ≡ b.heap
    kept_heaps = splits-cancel_right h.heap
        (subst (λ z. Splits both.heap b.heap z) (sym heaps) g.heap)

    kept_stores : a.store ≡ b.store
    kept_stores = splits-cancel_right h.store
        (subst (λ z. Splits both.store b.store z) (sym stores) g.store)
