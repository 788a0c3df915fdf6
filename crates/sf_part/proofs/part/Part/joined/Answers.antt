use Rattle.std.proofs.Common.{ap, ◌∙◌, ◌+◌, refl, subst, sym, arith}
use Rattle.sf_core.specs.Machine.Whole.{running}
use Rattle.sf_frame.specs.Commons.{common_of}
use Rattle.sf_part.specs.Checked.Stepping.{own_event}
use Rattle.sf_part.specs.Keeps.{IsWaiting}
use Rattle.sf_part.specs.Of.{frames_in}
use Rattle.sf_part.specs.Parts.{part_with}
use Rattle.sf_part.specs.PartView.{part_of}
use Rattle.sf_part.specs.Stands.{stand_in}
use Rattle.sf_part.proofs.Joined.{emptied-keeps, emptied-own, joined-keeps, joined-log, joined-units, same-whole}
use Rattle.sf_part.proofs.Performed.{on-err, same-own}
use Rattle.sf_part.proofs.Regained.{three-same}
use Rattle.sf_part.proofs.Unchanged.{still-kept, still-own, still-part}
use Rattle.sf_part.proofs.part.Part.joined.Goals as goal

pub invariant_of-self : goal.invariant_of-self
invariant_of-self c =
    let a = c.args.self.now in
    let same = c.in_err-take_back.ensures.err in
    record { kept = still-kept a c.take_back.new.shared same; own = still-own a c.take_back.new.shared same }

pub returns-in_err-take_back-clause-err : goal.returns-in_err-take_back-clause-err
returns-in_err-take_back-clause-err c = on-err c.from_residual.result
    (still-part c.args.self.now c.take_back.new.shared c.in_err-take_back.ensures.err)

pub returns-in_err-take_back-clause-children : goal.returns-in_err-take_back-clause-children
returns-in_err-take_back-clause-children c = on-err c.from_residual.result (
  same-whole c.args.left.now c.take_back.new.left c.in_err-take_back.ensures.both.0 _ _,
  same-whole c.args.right.now c.take_back.new.right c.in_err-take_back.ensures.both.1 _ _,
)

pub invariant_of-left-2 : goal.invariant_of-left-2
invariant_of-left-2 c = record {
  kept = emptied-keeps c.args.left.now c.take_back.new.left c.append_both.new.left.items
      c.in_ok-take_back.ensures.left_gone c.append_both.ensures.none.0;
  own = emptied-own c.args.left.now c.take_back.new.left c.in_ok-take_back.ensures.left_gone;
}

pub invariant_of-right-2 : goal.invariant_of-right-2
invariant_of-right-2 c = record {
  kept = emptied-keeps c.args.right.now c.take_back.new.right c.append_both.new.right.items
      c.in_ok-take_back.ensures.right_gone c.append_both.ensures.none.1;
  own = emptied-own c.args.right.now c.take_back.new.right c.in_ok-take_back.ensures.right_gone;
}

pub invariant_of-self-2 : goal.invariant_of-self-2
invariant_of-self-2 c =
    let taken = c.in_ok-take_back.ensures.ok in
    let may = c.requires.may in
    record {
      kept = joined-keeps (part_of c.args.self.now) (part_of c.args.left.now)
          (part_of c.args.right.now) may c.args.self.now.kept c.args.left.now.kept
          c.args.right.now.kept (own_event c.args.self.now c.next-number.result)
          (part_with c.args.self.now.task c.resumed.result c.take_back.new.shared
          c.spend.new.self (c.max-2.result + 1) c.args.self.now.keeps c.note.new.log.items
          c.args.self.now.given)
          (joined-units c.args.left.now.supply c.args.right.now.supply c.args.supply
          c.spend.new.self c.next-number.result c.requires.units c.next-number.ensures
          c.spend.ensures)
          (three-same (common_of c.take_back.new.shared).heap may.all.heap
          (common_of c.args.self.now.shared).heap (common_of c.args.left.now.shared).heap
          (common_of c.args.right.now.shared).heap taken.cells.union may.children.heap)
          (three-same (common_of c.take_back.new.shared).store may.all.store
          (common_of c.args.self.now.shared).store (common_of c.args.left.now.shared).store
          (common_of c.args.right.now.shared).store taken.store may.children.store)
          (subst (λ z. IsWaiting z → ⊥) (sym c.resumed.ensures) (λ h. h))
          (record {
            keeps = refl;
            given = refl;
            clock_is = let e = c.max.ensures in let f = c.max-2.ensures in omega arith;
            log_is = joined-log c.args.self.now.log.items c.args.left.now.log.items
                c.args.right.now.log.items c.append_both.new.log.items c.note.new.log.items _
                c.append_both.ensures.items c.note.ensures;
          });
      own = same-own c.args.self.now.task c.args.self.now.shared c.take_back.new.shared
          taken.held c.args.self.now.own;
    }

pub returns-clause-ok : goal.returns-clause-ok
returns-clause-ok c =
    let taken = c.in_ok-take_back.ensures.ok in (
      c.next-number.result,
      record {
        units = joined-units c.args.left.now.supply c.args.right.now.supply c.args.supply
            c.spend.new.self c.next-number.result c.requires.units c.next-number.ensures
            c.spend.ensures;
        task = refl;
        stand = c.resumed.ensures
            ∙ ap (λ z. running (frames_in (stand_in z))) c.replace-stand.ensures.value;
        heap = taken.cells.union;
        store = taken.store;
        held = taken.held;
        clock = let e = c.max.ensures in let f = c.max-2.ensures in omega arith;
        keeps = refl;
        given = refl;
        log = joined-log c.args.self.now.log.items c.args.left.now.log.items
            c.args.right.now.log.items c.append_both.new.log.items c.note.new.log.items _
            c.append_both.ensures.items c.note.ensures;
      },
    )

pub returns-clause-width : goal.returns-clause-width
returns-clause-width c = λ count own left right.
    c.in_ok-take_back.ensures.ok.cells.width count own left right
