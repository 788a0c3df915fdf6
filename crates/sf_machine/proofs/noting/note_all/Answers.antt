use Rattle.std.proofs.Common.{List, sym, subst, inr}
use Rattle.sf_core.specs.declared.command.Expr.{Expr}
use Rattle.sf_core.specs.Machine.Enabled.{ReadsAll, variable}
use Rattle.sf_machine.specs.Checked.Noting.{Notes}
use Rattle.sf_frame.specs.Frames.{fixed_of}
use Rattle.sf_machine.proofs.Notes.{noted_then}
use Rattle.sf_machine.proofs.noting.note_all.Goals as goal

-- one expression more
pub exprs-preserved : goal.exprs-preserved
exprs-preserved c = (
  λ new n. c.exprs.invariant.0 new
      (subst (λ (z : List Expr). Notes c.exprs.things.items new (ReadsAll (fixed_of c.args.frame.now).slots z))
      (sym c.in-Some.ensures.cases.0)
      (noted_then c.exprs.things.items c.note_expr.new.things.items new _ _ c.in_ok-note_expr.ensures n)),
  λ slot h. c.exprs.invariant.1 slot
      (subst (λ (z : List Expr). ReadsAll (fixed_of c.args.frame.now).slots z (variable slot))
      (sym c.in-Some.ensures.cases.0) (inr h)),
)
