use Rattle.std.proofs.Common.{rules, [], ◌≡◌, ◌∙◌, ap, sym, subst, None}
use Rattle.atomic_table.specs.Seated.{TableId}
use Rattle.atomic_table.specs.Table.{Me}
use Rattle.sf_part.specs.PartView.{part_of}
use Rattle.sf_region.proofs.Ends.{count-is, taken-now, try-entered, try-invariant, try-missed, try-slot, try-some, try-still, try-told, try-view}
use Rattle.sf_region.specs.Calls.{Tells}
use Rattle.sf_region.specs.declared.views.View.{View}
use Rattle.sf_region.specs.Plays.{IsThere, bump, lost, moved}
use Rattle.sf_region.specs.Rule.{Slot}
use Rattle.sf_region.specs.Waits.{program_in}
use Rattle.sf_region.proofs.regions.Regions.try_enter.Goals as goal

pub exchange-requires : goal.exchange-requires
exchange-requires c = (
  search rules,
  try-slot c.args.part.now c.self.inside.table.shared.table_id.slots c.args.r c.seat.inside.seat.me
      c.try_word-found.new.seat.me c.try_word-found.new.seat.me c.try_word-found.result
      c.try_word-found.ensures.tries None c.if-found-eq0.true,
)

pub entry_with-requires : goal.entry_with-requires
entry_with-requires c =
    try-some c.args.part.now c.self.inside.table.shared.table_id.slots c.args.r
    c.seat.inside.seat.me
    c.try_word-found.new.seat.me c.try_word-found.new.seat.me c.try_word-found.result
    c.try_word-found.ensures.tries c.exchange.result c.if-found-eq0.true c.exchange.ensures.2

pub invariant_of-seat : goal.invariant_of-seat
invariant_of-seat c =
    let a = c.args.part.now in
    let slots = c.self.inside.table.shared.table_id.slots in
    let m : Me Slot View = c.seat.inside.seat.me in
    let n : Me Slot View = c.try_word-found.new.seat.me in
    let l : Me Slot View = c.exchange.new.seat.me in
    let t = c.try_word-found.ensures.tries in
    let hit = c.if-found-eq0.true in
    let e = c.exchange.ensures in
    let deep = taken-now (program_in c.args.self.now.1) _ c.args.seat.now a m c.seat.view_is
    c.seat.invariant.1 c.requires.may.near in
    let h = try-invariant a slots c.args.r m n l c.try_word-found.result t c.exchange.result hit e.3
    c.seat.invariant.0 deep in
    let view = try-view a slots c.args.r m n l c.try_word-found.result t c.exchange.result hit e.3
    in
    let w = (try-told a slots c.args.r m n l c.try_word-found.result t c.exchange.result).0 hit in (
      h.0,
      h.1,
      c.task-seat-inside.ensures.path ∙ sym (ap (λ (v : View). (part_of v.part).part.task) view),
      c.clock-now.ensures ∙ sym (ap (λ (v : View). v.part.clock) view),
      sym (ap (λ (v : View). v.missed) view ∙ w.2.resource),
      c.counting-misses.ensures ∙ (count-is c.clock-now.ensures c.seat.invariant.3
          c.seat.invariant.5 ∙ sym (ap (λ (v : View). v.misses) view)),
      h.2,
    )

pub invariant_of-seat-else-found-eq0 : goal.invariant_of-seat-else-found-eq0
invariant_of-seat-else-found-eq0 c =
    let a = c.args.part.now in
    let slots = c.self.inside.table.shared.table_id.slots in
    let m : Me Slot View = c.seat.inside.seat.me in
    let n : Me Slot View = c.try_word-found.new.seat.me in
    let t = c.try_word-found.ensures.tries in
    let miss = c.if-found-eq0.false in
    let deep = taken-now (program_in c.args.self.now.1) _ c.args.seat.now a m c.seat.view_is
    c.seat.invariant.1 c.requires.may.near in
    let h = try-still a slots c.args.r m n n c.try_word-found.result t None miss
    c.seat.invariant.0 deep in
    let view = try-missed a slots c.args.r m n n c.try_word-found.result t None miss in (
      h.0,
      h.1,
      c.task-seat-inside.ensures.path ∙ sym (ap (λ (v : View). (part_of v.part).part.task) view),
      c.clock-now.ensures ∙ sym (ap (λ (v : View). v.part.clock) view),
      sym (ap (λ (v : View). v.missed) view),
      c.bumped-seat-inside.ensures ∙ (ap bump (c.counting-misses.ensures
          ∙ count-is c.clock-now.ensures c.seat.invariant.3 c.seat.invariant.5)
          ∙ sym (ap (λ (v : View). v.misses) view)),
      h.2,
    )

pub returns-then-found-eq0-clause-tells : goal.returns-then-found-eq0-clause-tells
returns-then-found-eq0-clause-tells c =
    let e = c.exchange.ensures in
    subst (λ (z : TableId × View). Tells c.args.part.now c.args.r z.1 c.exchange.new.seat.me.0
    c.entry_with.result) c.seat.view_is
    (try-entered c.args.part.now c.self.inside.table.shared.table_id.slots c.args.r
    c.seat.inside.seat.me c.try_word-found.new.seat.me c.exchange.new.seat.me
    c.try_word-found.result c.try_word-found.ensures.tries c.exchange.result c.if-found-eq0.true
    e.2 e.3 c.entry_with.result c.entry_with.ensures)

pub returns-else-found-eq0-clause-tells : goal.returns-else-found-eq0-clause-tells
returns-else-found-eq0-clause-tells c =
    let a = c.args.part.now in
    let slots = c.self.inside.table.shared.table_id.slots in
    let m : Me Slot View = c.seat.inside.seat.me in
    let n : Me Slot View = c.try_word-found.new.seat.me in
    let t = c.try_word-found.ensures.tries in
    let miss = c.if-found-eq0.false in
    subst (λ (z : TableId × View). (n.0 ≡ lost c.args.r (moved a [] z.1))
    × IsThere z.1.begun (part_of a)) c.seat.view_is (
      try-missed a slots c.args.r m n n c.try_word-found.result t None miss,
      ((try-told a slots c.args.r m n n c.try_word-found.result t None).1 miss).1,
    )
