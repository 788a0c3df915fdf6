use Rattle.std.proofs.Common.{rules, [], ◌∷◌, ◌≡◌, ◌∙◌, ap, arith, sym, subst}
use Rattle.atomic_table.specs.Table.{Me}
use Rattle.sf_part.specs.PartView.{part_of}
use Rattle.sf_region.proofs.Asks.{splits-seat}
use Rattle.sf_region.proofs.Ends.{count-is, split-left, split-right, taken-split}
use Rattle.sf_region.specs.declared.views.View.{View}
use Rattle.sf_region.specs.Holdings.{taken}
use Rattle.sf_region.specs.Plays.{Known, child, hollow, moved, other_kids, parent}
use Rattle.sf_region.specs.Rule.{Slot, holding, newcomer}
use Rattle.sf_region.specs.Waits.{program_in}
use Rattle.sf_region.proofs.regions.Regions.split.Goals as goal

pub split_seat-one-requires : goal.split_seat-one-requires
split_seat-one-requires c =
    let n = c.fork_word.ensures.notes.0 in (
      search rules,
      (let w = c.self.inside.wide in omega arith),
      splits-seat c.part_laws.ensures _ _ c.fork_word.new.seat.me.0 c.args.left.now (c.args.right.now ∷ [])
          (ap (λ (m : Me Slot View). m.0.live) n ∙ c.seat.invariant.0)
          (ap (λ (m : Me Slot View). m.0.kids) n)
          (split-left (program_in c.args.self.now.1) c.args.seat.now.1 c.args.part.now
          c.args.left.now c.args.right.now c.requires.may),
    )

pub split_seat-two-requires : goal.split_seat-two-requires
split_seat-two-requires c =
    let n = c.fork_word.ensures.notes.0 in
    let o = c.split_seat-one.ensures in (
      search rules,
      (let w = c.self.inside.wide in omega arith),
      splits-seat c.part_laws.ensures _ _ c.split_seat-one.new.seat.me.0 c.args.right.now []
          (ap (λ (m : Me Slot View). m.0.live) o.2
          ∙ (ap (λ (m : Me Slot View). m.0.live) n ∙ c.seat.invariant.0))
          (ap (λ (m : Me Slot View). m.0.kids) o.2
          ∙ ap (λ (m : Me Slot View). other_kids m.0.kids) n)
          (split-right (program_in c.args.self.now.1) c.args.seat.now.1 c.args.part.now
          c.args.left.now c.args.right.now c.requires.may),
    )

pub invariant_of-seat : goal.invariant_of-seat
invariant_of-seat c =
    let a = c.args.part.now in
    let n = c.fork_word.ensures.notes.0 in
    let o = c.split_seat-one.ensures.2 in
    let t = c.split_seat-two.ensures.2 in
    let m : Me Slot View = c.seat.inside.seat.me in
    let view : c.split_seat-two.new.seat.me.0 ≡ moved a [] m.0 = ap (λ (k : Me Slot View). k.0) t
    ∙ (ap (λ (k : Me Slot View). parent k.0) o ∙ ap (λ (k : Me Slot View). parent (parent k.0)) n)
    in
    let slots : c.split_seat-two.new.seat.me.1 ≡ m.1 = ap (λ (k : Me Slot View). k.1) t
    ∙ (ap (λ (k : Me Slot View). k.1) o ∙ ap (λ (k : Me Slot View). k.1) n) in (
      ap (λ (v : View). v.live) view ∙ c.seat.invariant.0,
      slots ∙ (taken-split (program_in c.args.self.now.1) _ c.args.seat.now a c.args.left.now
          c.args.right.now m c.seat.view_is c.seat.invariant.1 c.requires.may
          ∙ ap (λ (v : View). hollow (taken (holding v))) (sym view)),
      c.task-seat-inside.ensures.path ∙ sym (ap (λ (v : View). (part_of v.part).part.task) view),
      c.clock-now.ensures ∙ sym (ap (λ (v : View). v.part.clock) view),
      c.seat.invariant.4 ∙ sym (ap (λ (v : View). v.missed) view),
      c.counting-seat-inside.ensures ∙ (count-is c.clock-now.ensures c.seat.invariant.3
          c.seat.invariant.5 ∙ sym (ap (λ (v : View). v.misses) view)),
      subst Known (sym view) c.fork_word.ensures.notes.2,
    )

pub seated-requires-clause-slots : goal.seated-requires-clause-slots
seated-requires-clause-slots c =
    let n = c.fork_word.ensures.notes.0 in
    let e = c.split_seat-one.ensures.4 in
    let view : c.split_seat-one.result.me.0 ≡ newcomer c.args.left.now c.seat.inside.seat.me.0.begun
    = ap (λ (k : Me Slot View). k.0) e ∙ ap (λ (k : Me Slot View). child k.0) n in
    ap (λ (k : Me Slot View). k.1) e ∙ sym (ap (λ (v : View). hollow (taken (holding v))) view
    ∙ ap hollow (split-left (program_in c.args.self.now.1) c.args.seat.now.1 c.args.part.now
    c.args.left.now c.args.right.now c.requires.may))

pub seated-requires-2-clause-slots : goal.seated-requires-2-clause-slots
seated-requires-2-clause-slots c =
    let n = c.fork_word.ensures.notes.0 in
    let o = c.split_seat-one.ensures.2 in
    let e = c.split_seat-two.ensures.4 in
    let view : c.split_seat-two.result.me.0
    ≡ newcomer c.args.right.now c.seat.inside.seat.me.0.begun = ap (λ (k : Me Slot View). k.0) e
    ∙ (ap (λ (k : Me Slot View). child k.0) o
    ∙ ap (λ (k : Me Slot View). child (parent k.0)) n) in
    ap (λ (k : Me Slot View). k.1) e ∙ sym (ap (λ (v : View). hollow (taken (holding v))) view
    ∙ ap hollow (split-right (program_in c.args.self.now.1) c.args.seat.now.1 c.args.part.now
    c.args.left.now c.args.right.now c.requires.may))
