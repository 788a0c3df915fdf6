use Rattle.std.proofs.Common.{ap, inl, inr, ◌∙◌, ◌≡◌, ◌∷◌, refl, subst, sym}
use Rattle.sf_core.specs.Machine.Config.{Common}
use Rattle.sf_core.specs.Machine.Whole.{running}
use Rattle.sf_frame.specs.Checked.Frames.{moved}
use Rattle.sf_frame.specs.Commons.{common_of}
use Rattle.sf_part.specs.Checked.Stepping.{acted}
use Rattle.sf_part.specs.Keeps.{IsUnmade, IsWaiting}
use Rattle.sf_part.specs.Of.{frames_in}
use Rattle.sf_part.proofs.Acted.{acted-keeps}
use Rattle.sf_part.proofs.Performed.{moved-stand, on-err, same-common, same-own}
use Rattle.sf_part.proofs.Unchanged.{unchanged-kept, unchanged-own, unchanged-part}
use Rattle.sf_part.proofs.part.Part.perform.Goals as goal

pub invariant_of-self-in-Break-branch-2 : goal.invariant_of-self-in-Break-branch-2
invariant_of-self-in-Break-branch-2 c =
    let common : common_of c.apply.new.shared ≡ common_of c.args.self.now.shared =
    same-common (common_of c.apply.new.shared) (common_of c.args.self.now.shared)
    c.in_err-apply.ensures.err in
    let same = c.reserve.ensures.same in record {
      kept = unchanged-kept c.args.self.now c.reserve.new.self c.apply.new.shared same common;
      own = unchanged-own c.args.self.now c.reserve.new.self c.apply.new.shared same common;
    }

pub returns-in_err-apply-clause-err : goal.returns-in_err-apply-clause-err
returns-in_err-apply-clause-err c = on-err c.from_residual-in_err-apply.result
    (unchanged-part c.args.self.now c.reserve.new.self c.apply.new.shared c.reserve.ensures.same
    (same-common (common_of c.apply.new.shared) (common_of c.args.self.now.shared)
    c.in_err-apply.ensures.err))

pub invariant_of-self-2 : goal.invariant_of-self-2
invariant_of-self-2 c =
    let common : common_of c.apply.new.shared ≡ acted c.args.self.now c.args.number c.args.effect =
    same-common (common_of c.apply.new.shared) (acted c.args.self.now c.args.number c.args.effect)
    c.in_ok-apply.ensures.ok in
    record {
      kept = acted-keeps c.args.self.now c.args.number c.changed.result c.apply.new.shared
          c.spend.new.self c.note.new.log.items
          (c.requires.next ∙ ap (λ z. c.args.number ∷ z) (sym c.spend.ensures))
          (λ n there other h. subst (λ (z : Common). IsUnmade z.heap z.store n) (sym common)
          (c.requires.own.unmade n other h))
          (subst (λ z. IsWaiting z → ⊥) (sym c.changed.ensures) (λ h. h)) c.note.ensures;
      own = same-own c.args.self.now.task c.args.self.now.shared c.apply.new.shared
          (ap (λ (z : Common). z.held) common ∙ c.requires.own.held) c.args.self.now.own;
    }

pub returns-clause-ok : goal.returns-clause-ok
returns-clause-ok c = record {
  task = refl;
  stand = moved-stand c.args.change c.replace-stand.ensures.value c.changed.ensures
      ∙ ap (λ z. running (moved c.args.change (frames_in z))) c.reserve.ensures.same;
  common = same-common (common_of c.apply.new.shared)
      (acted c.args.self.now c.args.number c.args.effect)
      c.in_ok-apply.ensures.ok;
  supply = c.spend.ensures;
  clock = refl;
  keeps = refl;
  given = refl;
  blank = refl;
  log = c.note.ensures;
}

pub returns-in_err-reserve-clause-memory : goal.returns-in_err-reserve-clause-memory
returns-in_err-reserve-clause-memory c =
    on-err c.from_residual.result (inr c.in_err-reserve.ensures.memory)

pub returns-in_err-apply-clause-memory : goal.returns-in_err-apply-clause-memory
returns-in_err-apply-clause-memory c =
    on-err c.from_residual-in_err-apply.result (inl c.in_err-apply.ensures.memory)
