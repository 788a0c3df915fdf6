use Rattle.std.proofs.Common.{◌∙◌, ◌≡◌, slice_get, subst, sym}
use Rattle.sf_base.proofs.MapSplits.{map-same}
use Rattle.sf_base.proofs.Options.{some-holds}
use Rattle.sf_base.specs.HeapStore.{Store}
use Rattle.sf_core.specs.Program.ProgramView.{program_of}
use Rattle.sf_core.specs.Program.Syntax.{Resource}
use Rattle.sf_core.specs.Program.View.{assertion_of}
use Rattle.sf_foot.specs.Footprint.{HasNoFootprint}
use Rattle.sf_foot.specs.Variables.{value_of}
use Rattle.sf_frame.specs.Stores.{store_of}
use Rattle.sf_heap.specs.Cells.{heap_of}
use Rattle.sf_precise.specs.Order.{IsOrderOf}
use Rattle.sf_part.specs.Checked.Sharing.{seen_in}
use Rattle.sf_part.proofs.Footprints.{foot-found, foot-none}
use Rattle.sf_part.proofs.share.resource_share.Goals as goal

pub returns-in-Some-clause-ok : goal.returns-in-Some-clause-ok
returns-in-Some-clause-ok c =
    let p = program_of c.args.p.now.program in
    let ord = some-holds
    (λ (h : Resource). IsOrderOf h.invariant (assertion_of c.invariant.result.now.assertion))
    (slice_get p.resources c.args.r.0) c.requires.0 c.requires.1 c.invariant.ensures in
    record {
      resource = c.requires.0;
      there = c.requires.1;
      variables = c.in_ok-store.ensures;
      cells = rw c.in-Some.is at c.in_ok-at.ensures.there;
      foot = foot-found c.order_keeps_meaning.ensures c.requires.0.invariant
          (assertion_of c.invariant.result.now.assertion) ord (value_of c.in_ok-vars.vars)
          (seen_in (store_of c.in_ok-store.store)) c.in_ok-vars.ensures
          (heap_of c.args.shared.now.heap) c.in-Some.at
          (rw c.in-Some.is at c.in_ok-at.ensures.found);
    }

pub returns-in-None-clause-none : goal.returns-in-None-clause-none
returns-in-None-clause-none c = λ e resource part there own.
    let p = program_of c.args.p.now.program in
    let ord = some-holds
    (λ (h : Resource). IsOrderOf h.invariant (assertion_of c.invariant.result.now.assertion))
    (slice_get p.resources c.args.r.0) resource there c.invariant.ensures in
    let same : store_of c.in_ok-store.store ≡ part =
    map-same (store_of c.in_ok-store.store) part
    (λ slot. c.in_ok-store.ensures slot ∙ sym (own slot)) in
    subst (λ (z : Store). HasNoFootprint resource.invariant.level (seen_in z)
    (heap_of c.args.shared.now.heap)) same
    (foot-none c.order_keeps_meaning.ensures resource.invariant
    (assertion_of c.invariant.result.now.assertion) ord (value_of c.in_ok-vars.vars)
    (seen_in (store_of c.in_ok-store.store)) c.in_ok-vars.ensures
    (heap_of c.args.shared.now.heap) (rw c.in-None.is at c.in_ok-at.ensures.none))
