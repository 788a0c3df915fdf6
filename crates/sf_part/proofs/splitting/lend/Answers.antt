use Rattle.std.proofs.Common.{Err, ap, ◌≡◌, subst, sym}
use Rattle.sf_core.specs.Program.ProgramView.{program_of}
use Rattle.sf_foot.specs.Starting.{HasWidth}
use Rattle.sf_frame.specs.Checked.Effects.{IsSameCommon, opened}
use Rattle.sf_frame.specs.Commons.{common_of}
use Rattle.sf_frame.specs.declared.shared.Shared.{Shared}
use Rattle.sf_frame.specs.Frames.{frame_of}
use Rattle.sf_part.specs.Checked.Children.{HasNoneLent, HasVariablesOf}
use Rattle.sf_part.specs.Checked.Splitting.{forked_of}
use Rattle.sf_part.specs.declared.fault.PartFault.TheVariants.{NoFootprint}
use Rattle.sf_part.proofs.Opened.{opened-closed}
use Rattle.sf_part.proofs.Performed.{same-common, same-store}
use Rattle.sf_part.proofs.splitting.lend.Goals as goal

pub lend_opened-requires-clause-left_first : goal.lend_opened-requires-clause-left_first
lend_opened-requires-clause-left_first c =
    let first = c.requires.first in (
      first.left,
      first.left_first,
      same-store (HasVariablesOf (program_of c.args.p.now.program)
          (frame_of c.args.fork.left.frame) first.left) c.in_default.ensures.ok first.left_there,
    )

pub lend_opened-requires-clause-right_first : goal.lend_opened-requires-clause-right_first
lend_opened-requires-clause-right_first c =
    let first = c.requires.first in (
      first.right,
      first.right_first,
      same-store (HasVariablesOf (program_of c.args.p.now.program)
          (frame_of c.args.fork.right.frame) first.right) c.in_default.ensures.ok first.right_there,
    )

pub returns-in-Ok-clause-ok : goal.returns-in-Ok-clause-ok
returns-in-Ok-clause-ok c = record {
  all = c.apply.new.shared;
  opens = same-common (common_of c.apply.new.shared)
      (forked_of c.args.fork (common_of c.args.shared.now)) c.in_default.ensures.ok;
  out = c.in-Ok.ensures.ok;
  width = c.apply.ensures.width;
}

pub returns-in-Err-lend_opened-clause-none : goal.returns-in-Err-lend_opened-clause-none
returns-in-Err-lend_opened-clause-none c = λ e g k there also.
    let p = program_of c.args.p.now.program in
    let fault : c.in-Err-lend_opened.fault ≡ NoFootprint = cc in
    let same = same-common (common_of c.apply.new.shared)
    (forked_of c.args.fork (common_of c.args.shared.now)) c.in_default.ensures.ok in
    subst (λ z. HasNoneLent p (frame_of c.args.fork.left.frame)
    (frame_of c.args.fork.right.frame) g k z) same
    (c.in-Err-lend_opened.ensures.none (ap Err fault) g k there also)

pub returns-in-Err-lend_opened-clause-err : goal.returns-in-Err-lend_opened-clause-err
returns-in-Err-lend_opened-clause-err c =
    let s = common_of c.args.shared.now in
    opened-closed c.args.fork.left.opening c.args.fork.right.opening s
    (common_of c.lend_opened.new.shared) (common_of c.edit.new.shared)
    (common_of c.edit-in-Err-lend_opened.new.shared) c.requires.suits.0 c.requires.suits.1
    (subst (λ (z : Shared). IsSameCommon (common_of z)
    (opened c.args.fork.right.opening (opened c.args.fork.left.opening s)))
    (sym c.in-Err-lend_opened.ensures.err) c.in_default.ensures.ok)
    c.edit.ensures.done c.edit-in-Err-lend_opened.ensures.done

pub returns-in-Err-lend_opened-clause-width : goal.returns-in-Err-lend_opened-clause-width
returns-in-Err-lend_opened-clause-width c = λ count e w.
    c.edit-in-Err-lend_opened.ensures.width count (c.edit.ensures.width count
    (subst (λ (z : Shared). HasWidth count z.heap) (sym c.in-Err-lend_opened.ensures.err)
    (c.apply.ensures.width count e w)))
