use Rattle.std.proofs.Common.{rules, ◌≡◌, ◌∙◌, ap, arith, map, subst, sym, Some}
use mathlib.Core.Option.{some}
use lib.ListN.{get_elem?}
use Rattle.sf_region.proofs.Draining.{drain-more, drain-some}
use Rattle.std.specs.Mem.Slots.{slots_items}
use Rattle.sf_region.proofs.regions.drained.Goals as goal

pub unreachable-requires : goal.unreachable-requires
unreachable-requires c =
    let i = c.loop-i.invariant in
    drain-some c.requires.contents.0 c.loop-i.i
    (ap (λ z. get_elem? z c.loop-i.i) (sym (i.0 ∙ c.requires.contents.1))
    ∙ (c.take.ensures.value ∙ ap some c.in-None.is))

pub loop-i-preserved : goal.loop-i-preserved
loop-i-preserved c =
    let i = c.loop-i.invariant in
    let o = c.take.ensures.others in
    let r = c.put.ensures.room in
    let l = c.loop-i-test.true in
    let n = c.slot_count.ensures in (
      o.0 ∙ i.0,
      o.2 ∙ i.1,
      ap (map Some) c.put.ensures.items ∙ drain-more (slots_items c.args.closed.slots)
          c.loop-i.contents.items c.loop-i.i c.in-Some.content i.2
          (subst (λ z. get_elem? z c.loop-i.i ≡ some (Some c.in-Some.content)) i.0
          (c.take.ensures.value ∙ ap some c.in-Some.is)),
      (let m = i.3 in omega arith),
      (let m = i.1 in omega arith),
      search rules,
      search rules,
    )
