-- Regions at which tasks stand.
-- Names: `guard-LAW`.
use Rattle.std.specs.Prelude.{◌≡◌, List, ◌∷◌}
use Rattle.std.proofs.Common.{sym, ap, ◌∙◌}
use Rattle.sf_base.specs.declared.ids.ResId.{ResId}
use Rattle.sf_core.specs.declared.assertion.Test.{Test}
use Rattle.sf_core.specs.declared.command.Expr.{Expr}
use Rattle.sf_core.specs.Machine.Config.{Item, command, Fixed, Frame, runs}
use Rattle.sf_core.specs.Machine.Next.{does, next}
use Rattle.sf_core.specs.Program.Syntax.{Command, with}
use Rattle.sf_frame.specs.Checked.Nexts.{frames_with}
use Rattle.sf_part.specs.Guards.{IsGuard}

-- the frame and the command of the region at which a task stands are those that come next
pub guard-next : (frames : List Frame) (r : ResId) (f g : Fixed) (test : Test Expr) (one : Command)
    (rest : List Item) (below : List Frame) → frames ≡ frames_with g (command one ∷ rest) below
    → (h : IsGuard (next (runs frames)) r f test) → (f ≡ g) × (one ≡ with h.place r test h.body)
guard-next frames r f g test one rest below e h =
    let n : does f h.below (with h.place r test h.body) h.rest ≡ does g below one rest =
    sym h.is ∙ ap (λ z. next (runs z)) e in
    let frame : f ≡ g = cc in
    let region : one ≡ with h.place r test h.body = cc in (frame, region)
