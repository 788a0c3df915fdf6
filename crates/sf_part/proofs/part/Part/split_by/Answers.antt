use Rattle.std.proofs.Common.{Err, ap, ◌∙◌, ◌+◌, ◌++◌, ◌≡◌, ◌∷◌, [], length, refl, subst, sym}
use Rattle.std.proofs.lemmas.List.{length-replicate}
use Rattle.sf_base.specs.declared.path.Turn.TheVariants.{Left as left, Right as right}
use Rattle.sf_base.specs.declared.value.Value.TheVariants.{Nil as nil}
use Rattle.sf_core.specs.Machine.Config.{Path}
use Rattle.sf_core.specs.Machine.Whole.{numbers, waiting}
use Rattle.sf_core.specs.Program.ProgramView.{program_of}
use Rattle.sf_foot.specs.Starting.{HasWidth}
use Rattle.sf_frame.specs.Checked.Frames.{moved}
use Rattle.sf_frame.specs.declared.frame.Way.TheVariants.{Past}
use Rattle.sf_frame.specs.declared.stack.Change.TheVariants.{GoOn}
use Rattle.sf_part.specs.Checked.Splitting.{begun_of}
use Rattle.sf_part.specs.Checked.Standing.{Runs}
use Rattle.sf_part.specs.Checked.Stepping.{own_event}
use Rattle.sf_part.specs.declared.fault.PartFault.TheVariants.{NoFootprint}
use Rattle.sf_part.specs.Lent.{Lends}
use Rattle.sf_part.specs.Of.{IsOf, frames_in}
use Rattle.sf_part.specs.Parts.{part_with}
use Rattle.sf_part.specs.PartView.{part_of}
use Rattle.sf_part.specs.Stands.{stand_in}
use Rattle.sf_part.specs.Timed.{TimedPart}
use Rattle.sf_part.proofs.Callees.{fork-first}
use Rattle.sf_part.proofs.ForkMade.{Made, split-made, split-none}
use Rattle.sf_part.proofs.ForkPlan.{plan-runs}
use Rattle.sf_part.proofs.Performed.{same-own}
use Rattle.sf_part.proofs.Unchanged.{still-kept, still-own, still-part}
use Rattle.sf_part.proofs.part.Part.split_by.Goals.{After-note, In-Err-lend}
use Rattle.sf_part.proofs.part.Part.split_by.Goals as goal

pub lend-requires-clause-suits : goal.lend-requires-clause-suits
lend-requires-clause-suits c =
    let s = c.requires.fork c.next-number.result c.next-number.ensures in s.suits

pub lend-requires-clause-first : goal.lend-requires-clause-first
lend-requires-clause-first c = fork-first (program_of c.args.p.now.program)
    c.args.p.now.program.formed c.args.self.now c.requires.of c.next-number.result c.args.fork
    (c.requires.fork c.next-number.result c.next-number.ensures)

pub invariant_of-self : goal.invariant_of-self
invariant_of-self c =
    let a = c.args.self.now in
    let same = c.in-Err-lend.ensures.err in
    record { kept = still-kept a c.lend.new.shared same; own = still-own a c.lend.new.shared same }

pub returns-in-Err-lend-clause-none : goal.returns-in-Err-lend-clause-none
returns-in-Err-lend-clause-none c = λ e.
    let fault : c.in-Err-lend.fault ≡ NoFootprint = cc in
    split-none (program_of c.args.p.now.program) c.args.p.now.program.formed c.args.self.now
    c.requires.of
    c.next-number.result c.next-number.ensures c.args.fork
    (c.requires.fork c.next-number.result c.next-number.ensures)
    (c.in-Err-lend.ensures.none (ap Err fault))

-- the part is as it was
same : (c : In-Err-lend)
    → part_with c.args.self.now.task c.args.self.now.stand c.lend.new.shared c.args.self.now.supply
    c.args.self.now.clock c.args.self.now.keeps c.args.self.now.log.items c.args.self.now.given
    ≡ part_of c.args.self.now
same c = still-part c.args.self.now c.lend.new.shared c.in-Err-lend.ensures.err

pub returns-in-Err-lend-clause-err : goal.returns-in-Err-lend-clause-err
returns-in-Err-lend-clause-err c =
    same (goal.at.returns-in-Err-lend-clause-err c).In-Err-lend

pub returns-in-Err-lend-clause-of : goal.returns-in-Err-lend-clause-of
returns-in-Err-lend-clause-of c =
    let p = program_of c.args.p.now.program in
    record {
      is = subst (λ (z : TimedPart). IsOf p z.part)
          (sym (same (goal.at.returns-in-Err-lend-clause-of c).In-Err-lend)) c.requires.of.is;
      wide = c.in-Err-lend.ensures.width (length p.fields)
          (ap length c.requires.of.blank ∙ length-replicate (length p.fields) nil)
          c.requires.of.wide;
      blank = c.requires.of.blank;
    }

pub waiting-requires : goal.waiting-requires
waiting-requires c =
    let s = c.requires.fork c.next-number.result c.next-number.ensures in
    subst Runs (sym c.replace-stand.ensures.value)
    (plan-runs c.args.self.now.stand _ s.below s.stand)

-- what the fork comes to, with its children at these paths
made : (c : After-note) → (one_task two_task : Path)
    → one_task ≡ c.args.self.now.task ++ left ∷ [] → two_task ≡ c.args.self.now.task ++ right ∷ []
    → Made (program_of c.args.p.now.program) (own_event c.args.self.now c.next-number.result)
    c.args.self.now c.lend.new.shared c.in-Ok-lend.begun.0 c.in-Ok-lend.begun.1
    (part_with c.args.self.now.task c.waiting.result c.lend.new.shared c.none.result
    (c.args.self.now.clock + 1) c.args.self.now.keeps c.note.new.log.items c.args.self.now.given)
    (begun_of one_task c.in-Ok-lend.begun.0 c.in-Ok.both.0.supply (c.args.self.now.clock + 1)
    c.args.self.now.keeps)
    (begun_of two_task c.in-Ok-lend.begun.1 c.in-Ok.both.1.supply (c.args.self.now.clock + 1)
    c.args.self.now.keeps)
made c one_task two_task one_path two_path =
    let p = program_of c.args.p.now.program in
    split-made p c.args.p.now.program.formed c.args.self.now c.requires.of c.next-number.result
    c.next-number.ensures c.args.fork
    (c.requires.fork c.next-number.result c.next-number.ensures) (length c.args.self.now.blank)
    c.lend.new.shared c.in-Ok-lend.begun.0 c.in-Ok-lend.begun.1 c.in-Ok-lend.ensures.ok
    c.in-Ok.both.0.supply c.in-Ok.both.1.supply c.in-Ok.ensures.halves c.waiting.result
    (c.waiting.ensures ∙ ap (λ z. waiting (moved (GoOn Past) (frames_in (stand_in z))))
    c.replace-stand.ensures.value) c.note.new.log.items c.note.ensures c.none.result
    (ap numbers c.none.ensures) one_task two_task one_path two_path
    (ap length c.requires.of.blank ∙ length-replicate (length p.fields) nil)

pub invariant_of-self-2 : goal.invariant_of-self-2
invariant_of-self-2 c =
    let m = made (goal.at.invariant_of-self-2 c).After-note (c.args.self.now.task ++ left ∷ [])
    (c.args.self.now.task ++ right ∷ []) refl refl in
    record {
      kept = m.kept;
      own = same-own c.args.self.now.task c.args.self.now.shared c.lend.new.shared m.held
          c.args.self.now.own;
    }

pub child_part-first-requires-clause-kept : goal.child_part-first-requires-clause-kept
child_part-first-requires-clause-kept c =
    let m = made (goal.at.child_part-first-requires-clause-kept c).After-note c.child.result
    (c.args.self.now.task ++ right ∷ []) c.child.ensures refl in
    m.left_kept

pub child_part-second-requires-clause-kept : goal.child_part-second-requires-clause-kept
child_part-second-requires-clause-kept c =
    let m = made (goal.at.child_part-second-requires-clause-kept c).After-note c.child.result
    c.child-2.result c.child.ensures c.child-2.ensures in
    m.right_kept

pub returns-clause-ok : goal.returns-clause-ok
returns-clause-ok c =
    let p = program_of c.args.p.now.program in
    let event = own_event c.args.self.now c.next-number.result in
    let m = made (goal.at.returns-clause-ok c).After-note c.child.result c.child-2.result
    c.child.ensures c.child-2.ensures in
    let after = (part_with c.args.self.now.task c.waiting.result c.lend.new.shared c.none.result
    (c.args.self.now.clock + 1) c.args.self.now.keeps c.note.new.log.items
    c.args.self.now.given) in (
      event,
      subst (λ z. Lends p event (part_of c.args.self.now) after z
          (part_of c.child_part-second.result)) (sym c.child_part-first.ensures.part)
          (subst (λ z. Lends p event (part_of c.args.self.now) after (begun_of c.child.result
          c.in-Ok-lend.begun.0 c.in-Ok.both.0.supply
          (c.args.self.now.clock + 1) c.args.self.now.keeps) z)
          (sym c.child_part-second.ensures.part) m.lends),
    )

pub returns-clause-of : goal.returns-clause-of
returns-clause-of c =
    let m = made (goal.at.returns-clause-of c).After-note c.child.result c.child-2.result
    c.child.ensures c.child-2.ensures in
    record { is = m.of; wide = m.wide; blank = c.requires.of.blank }

pub returns-clause-left_of : goal.returns-clause-left_of
returns-clause-left_of c =
    let p = program_of c.args.p.now.program in
    let m = made (goal.at.returns-clause-left_of c).After-note c.child.result c.child-2.result
    c.child.ensures c.child-2.ensures in
    record {
      is = subst (λ (z : TimedPart). IsOf p z.part) (sym c.child_part-first.ensures.part) m.left_of;
      wide = subst (HasWidth (length p.fields)) (sym c.child_part-first.ensures.heap) m.left_wide;
      blank = c.child_part-first.ensures.blank ∙ c.in-Ok.ensures.left;
    }

pub returns-clause-right_of : goal.returns-clause-right_of
returns-clause-right_of c =
    let p = program_of c.args.p.now.program in
    let m = made (goal.at.returns-clause-right_of c).After-note c.child.result c.child-2.result
    c.child.ensures c.child-2.ensures in
    record {
      is = subst (λ (z : TimedPart). IsOf p z.part) (sym c.child_part-second.ensures.part)
          m.right_of;
      wide = subst (HasWidth (length p.fields)) (sym c.child_part-second.ensures.heap) m.right_wide;
      blank = c.child_part-second.ensures.blank ∙ c.in-Ok.ensures.right;
    }
