use Rattle.std.proofs.Common.{All, false, nat_cmp, refl, subst, sym, ◌≡◌, ◌∙◌}
use Rattle.std.specs.BTreeSet.{contains}
use Rattle.std.specs.List.{concat}
use Rattle.sf_base.proofs.Options.{none-holds, some-holds}
use Rattle.sf_core.specs.Program.View.{assertion_of}
use Rattle.sf_foot.specs.Footprint.{IsFootprint}
use Rattle.sf_foot.specs.Variables.{value_of}
use Rattle.sf_heap.specs.Cells.{HasCell, heap_of}
use Rattle.sf_foot.proofs.Founds.{next_apart, next_none, next_overlap}
use Rattle.sf_foot.proofs.found.Found.take.Goals as goal

-- the whole heap has none
pub returns-in_default : goal.returns-in_default
returns-in_default c = λ apart. (
  refl,
  λ precise. next_none (assertion_of c.args.a.now.assertion).level (value_of c.args.vars.now)
      (heap_of c.args.heap.now)
      (concat c.args.self.now.parts.items) (none-holds c.in_ok-at.field-0 c.in_default.is
      c.in_ok-at.ensures.none),
)

-- it has a cell of an earlier one
pub returns-then-overlaps : goal.returns-then-overlaps
returns-then-overlaps c = λ apart. (
  refl,
  λ precise.
      let both = c.overlaps.ensures.some c.if-overlaps.true in
      next_overlap (assertion_of c.args.a.now.assertion).level (value_of c.args.vars.now)
      (heap_of c.args.heap.now)
      (concat c.args.self.now.parts.items) c.as_slice.result.now both.0 precise
      (subst (λ ls. IsFootprint (assertion_of c.args.a.now.assertion).level
      (value_of c.args.vars.now)
      (heap_of c.args.heap.now) ls) (sym c.as_slice.ensures.value)
      (some-holds (λ ls. IsFootprint (assertion_of c.args.a.now.assertion).level
      (value_of c.args.vars.now)
      (heap_of c.args.heap.now) ls) c.in_ok-at.field-0 c.in-Some.at c.in-Some.is
      c.in_ok-at.ensures.found))
      both.1 (sym (apart.marks both.0) ∙ both.2),
)

pub returns : goal.returns
returns c = λ apart. (
  next_apart c.args.heap.now c.args.self.now (record
      { parts = c.push.new.self; taken = c.add_all.new.taken }) c.in-Some.at
      c.as_slice-2.result.now apart
      (some-holds (λ ls. All (HasCell c.args.heap.now) ls) c.in_ok-at.field-0 c.in-Some.at
      c.in-Some.is
      c.in_ok-at.ensures.there)
      c.as_slice-2.ensures.value c.as_slice-2.ensures.rising
      (subst (All (λ l. contains nat_cmp c.args.self.now.taken l ≡ false))
      (c.as_slice.ensures.value ∙ sym c.as_slice-2.ensures.value)
      (c.overlaps.ensures.none c.if-overlaps.false))
      c.in_ok-push.ensures.items c.in_ok-add_all.ensures,
  c.in-Some.at,
  c.in_ok-push.ensures.items,
  some-holds (λ ls. IsFootprint (assertion_of c.args.a.now.assertion).level
      (value_of c.args.vars.now)
      (heap_of c.args.heap.now) ls) c.in_ok-at.field-0 c.in-Some.at c.in-Some.is
      c.in_ok-at.ensures.found,
)
