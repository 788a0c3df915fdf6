use Rattle.std.proofs.Common.{length, arith, refl}
use Rattle.std.proofs.lemmas.Option.{slice_get_read}
use Rattle.sf_calls.specs.Checked.Lemmas.Searches.{search_starts, search_goes_on, search_ends, queued_within, callers_within}
use Rattle.sf_calls.proofs.leading.leading.Goals as goal

pub loop-g-init : goal.loop-g-init
loop-g-init c = search_starts _ _ _ c.requires.size (rw c.deref.ensures.value at c.in_ok-queue.ensures)

pub bounds-callers-g : goal.bounds-callers-g
bounds-callers-g c = queued_within _ _ _ _ _ c.in-Some.g c.in-Some.ensures.items c.loop-g.invariant

pub visit_all-requires : goal.visit_all-requires
visit_all-requires c =
    rw c.deref-in-Some.ensures.value
    (callers_within _ c.args.callers.now _ _ c.in-Some.g c.index-callers-g.result c.requires.within
    (slice_get_read c.args.callers.now (length c.args.callers.now) c.in-Some.g.0 c.index-callers-g.result
    refl (queued_within _ _ _ _ _ c.in-Some.g c.in-Some.ensures.items c.loop-g.invariant)
    c.index-callers-g.is)
    c.loop-g.invariant)

pub loop-g-preserved : goal.loop-g-preserved
loop-g-preserved c =
    search_goes_on _ c.args.callers.now _ c.pop.new.self.items c.in-Some.g c.index-callers-g.result _ _
    (slice_get_read c.args.callers.now (length c.args.callers.now) c.in-Some.g.0 c.index-callers-g.result
    refl (queued_within _ _ _ _ _ c.in-Some.g c.in-Some.ensures.items c.loop-g.invariant)
    c.index-callers-g.is)
    (rw c.deref-in-Some.ensures.value at c.in_ok-visit_all.ensures)
    (rw c.in-Some.ensures.items at c.loop-g.invariant)

pub returns-clause-members : goal.returns-clause-members
returns-clause-members c =
    λ f. (
      c.loop-g.invariant.sound f,
      search_ends _ _ _ c.loop-g.queue.items
          (omega (arith, c.in_default.ensures.cases)) c.loop-g.invariant f,
    )
