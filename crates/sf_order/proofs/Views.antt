-- The commands of the code that may enter resources as those of the definitions.
-- Names: `view_KIND`.
use Rattle.std.specs.Prelude.{◌≡◌}
use Rattle.std.proofs.Common.{Vec, Global, sym, ap, ◌∙◌}
use Rattle.sf_base.specs.declared.ids.ResId.{ResId}
use Rattle.sf_base.specs.declared.place.Place.{Place}
use Rattle.sf_core.specs.declared.assertion.Test.{Test}
use Rattle.sf_core.specs.declared.command.Call.{Call as CodeCall}
use Rattle.sf_core.specs.declared.command.Command.{Command as CodeCommand, Call as CallOne, Fork, With}
use Rattle.sf_core.specs.declared.command.Command.TheFolds.{fold-roll-Command}
use Rattle.sf_core.specs.declared.command.Command.TheVariants.{rolls-Call, rolls-Fork, rolls-With}
use Rattle.sf_core.specs.declared.command.Expr.{Expr}
use Rattle.sf_core.specs.Program.Syntax.{Command, call, fork, with}
use Rattle.sf_core.specs.Program.View.{block_of, call_of, command_of, command_step}

-- `f(x; E)`
pub view_call : (p : Place) (c : CodeCall) → command_of (CallOne p c) ≡ call p (call_of c)
view_call p c = ap command_of (sym (rolls-Call p c)) ∙ fold-roll-Command Command command_step _

-- `f(x; E) || g(y; F)`
pub view_fork : (p : Place) (c d : CodeCall) → command_of (Fork p c d) ≡ fork p (call_of c) (call_of d)
view_fork p c d = ap command_of (sym (rolls-Fork p c d)) ∙ fold-roll-Command Command command_step _

-- `with r when (B) C`
pub view_with : (p : Place) (r : ResId) (t : Test Expr) (body : Vec CodeCommand Global)
    → command_of (With p r t body) ≡ with p r t (block_of body.items)
view_with p r t body = ap command_of (sym (rolls-With p r t body)) ∙ fold-roll-Command Command command_step _
