use Rattle.std.proofs.Common.{ap, ◌∙◌, ◌+◌, ◌≡◌, ◌≤◌, ◌∷◌, Some, length, refl, subst, sym, arith}
use Rattle.sf_base.proofs.Options.{is_some-false}
use Rattle.sf_base.specs.declared.limits.TheConstants.{STEPS}
use Rattle.sf_core.specs.Machine.Config.{Common}
use Rattle.sf_core.specs.Machine.Step.{set_holder}
use Rattle.sf_core.specs.Machine.Whole.{numbers}
use Rattle.sf_frame.specs.Checked.Effects.{IsSameCommon}
use Rattle.sf_frame.specs.Commons.{common_of, held_of}
use Rattle.sf_frame.specs.declared.frame.Way.TheVariants.{Into}
use Rattle.sf_frame.specs.declared.stack.Change.TheVariants.{GoOn}
use Rattle.sf_part.specs.Checked.Stepping.{own_event}
use Rattle.sf_part.specs.Contents.{content_of}
use Rattle.sf_part.specs.Keeps.{IsWaiting}
use Rattle.sf_part.specs.Parts.{part_with}
use Rattle.sf_part.specs.PartView.{part_of}
use Rattle.sf_part.proofs.Performed.{moved-stand, performed-keeps, same-common}
use Rattle.sf_part.proofs.Taking.{taking-after, taking-freed, taking-own, taking-unmade}
use Rattle.sf_part.proofs.Unchanged.{still-kept, still-own, still-part, unchanged-kept, unchanged-own, unchanged-part}
use Rattle.sf_part.proofs.part.Part.entered.Goals.{After-edit}
use Rattle.sf_part.proofs.part.Part.entered.Goals as goal

pub invariant_of-self : goal.invariant_of-self
invariant_of-self c =
    let a = c.args.self.now in
    let same = c.in-Err.ensures.err in
    record { kept = still-kept a c.apply.new.shared same; own = still-own a c.apply.new.shared same }

pub returns-in-Err-clause-err : goal.returns-in-Err-clause-err
returns-in-Err-clause-err c =
    still-part c.args.self.now c.apply.new.shared c.in-Err.ensures.err

-- the resource is free again, and nothing else has changed
freed : (c : After-edit) → IsSameCommon (common_of c.take_in.new.shared)
    (common_of c.apply.new.shared)
    → common_of c.edit.new.shared ≡ common_of c.args.self.now.shared
freed c kept =
    let before = common_of c.args.self.now.shared in
    let r = c.args.content.resource in
    let task = c.args.self.now.task in
    let same = same-common (common_of c.take_in.new.shared) (common_of c.apply.new.shared) kept in
    taking-freed before (common_of c.take_in.new.shared) (common_of c.edit.new.shared) r task
    (is_some-false (held_of c.args.self.now.shared.held r) c.requires.may.outside)
    (subst (λ (z : Common). IsSameCommon z (set_holder r (Some task) before)) (sym same)
    c.in_default.ensures.ok) c.edit.ensures.done

pub invariant_of-self-in-Err-take_in : goal.invariant_of-self-in-Err-take_in
invariant_of-self-in-Err-take_in c =
    let a = c.args.self.now in
    let common = freed (goal.at.invariant_of-self-in-Err-take_in c).After-edit
    c.in-Err-take_in.ensures.err in
    record {
      kept = unchanged-kept a a.stand c.edit.new.shared refl common;
      own = unchanged-own a a.stand c.edit.new.shared refl common;
    }

pub returns-in-Err-take_in-clause-err : goal.returns-in-Err-take_in-clause-err
returns-in-Err-take_in-clause-err c =
    unchanged-part c.args.self.now c.args.self.now.stand c.edit.new.shared refl
    (freed (goal.at.returns-in-Err-take_in-clause-err c).After-edit c.in-Err-take_in.ensures.err)

pub invariant_of-self-2 : goal.invariant_of-self-2
invariant_of-self-2 c =
    let taken = taking-after (common_of c.args.self.now.shared) (common_of c.apply.new.shared)
    (common_of c.take_in.new.shared) (content_of c.args.content).content c.args.content.resource
    c.args.self.now.task c.in_default.ensures.ok c.in_default-take_in.ensures.ok.heap
    c.in_default-take_in.ensures.ok.store c.in_default-take_in.ensures.ok.held in
    let time : c.max.result + length (numbers c.args.self.now.supply) ≤ STEPS =
    rw c.max.ensures c.requires.may.time in
    record {
      kept = performed-keeps (own_event c.args.self.now c.next-number.result) c.max.result
          (part_of c.args.self.now)
          (part_with c.args.self.now.task c.changed.result c.take_in.new.shared c.spend.new.self
          (c.max.result + 1) c.args.self.now.keeps c.note.new.log.items c.args.self.now.given)
          c.args.self.now.kept
          (c.next-number.ensures ∙ ap (λ z. c.next-number.result ∷ z) (sym c.spend.ensures))
          (λ n there other h. taking-unmade (common_of c.args.self.now.shared)
          (common_of c.take_in.new.shared)
          (content_of c.args.content).content c.args.content.resource c.args.self.now.task n taken h
          (c.requires.may.apart.units n there))
          (subst (λ z. IsWaiting z → ⊥) (sym c.changed.ensures) (λ h. h)) (omega arith) time
          (record { keeps = refl; given = refl; clock_is = omega arith; log_is = c.note.ensures });
      own = taking-own c.args.self.now.task c.args.self.now.shared c.take_in.new.shared
          (content_of c.args.content).content c.args.content.resource taken c.args.self.now.own;
    }

pub returns-clause-ok : goal.returns-clause-ok
returns-clause-ok c =
    let taken = taking-after (common_of c.args.self.now.shared) (common_of c.apply.new.shared)
    (common_of c.take_in.new.shared) (content_of c.args.content).content c.args.content.resource
    c.args.self.now.task c.in_default.ensures.ok c.in_default-take_in.ensures.ok.heap
    c.in_default-take_in.ensures.ok.store c.in_default-take_in.ensures.ok.held in (
      c.next-number.result,
      c.next-number.ensures,
      record {
        task = refl;
        stand = moved-stand (GoOn Into) c.replace-stand.ensures.value c.changed.ensures;
        heap = taken.heap;
        store = taken.store;
        held = taken.held;
        supply = c.spend.ensures;
        clock = ap (λ z. z + 1) c.max.ensures;
        keeps = refl;
        given = refl;
        blank = refl;
        log = c.note.ensures;
      },
    )

pub returns-in-Err-take_in-clause-width : goal.returns-in-Err-take_in-clause-width
returns-in-Err-take_in-clause-width c = λ count blank content wide.
    c.edit.ensures.width count
    (c.in-Err-take_in.ensures.width count content (c.in_default.ensures.width count blank wide))

pub returns-clause-width : goal.returns-clause-width
returns-clause-width c = λ count blank content wide.
    c.in_default-take_in.ensures.width count content (c.in_default.ensures.width count blank wide)
