-- The commands of the code as those of the definitions, each kind by its parts.
-- Names: `view_KIND`.
use Rattle.std.specs.Prelude.{◌≡◌}
use Rattle.std.proofs.Common.{Vec, Global, sym, ap, ◌∙◌}
use Rattle.sf_base.specs.declared.ids.FieldId.{FieldId}
use Rattle.sf_base.specs.declared.ids.ResId.{ResId}
use Rattle.sf_base.specs.declared.place.Place.{Place}
use Rattle.sf_core.specs.declared.assertion.Assertion.{Assertion as CodeAssertion}
use Rattle.sf_core.specs.declared.assertion.Test.{Test}
use Rattle.sf_core.specs.declared.command.Call.{Call as CodeCall}
use Rattle.sf_core.specs.declared.command.Command.{Command as CodeCommand, Assign, LookUp, Mutate, New, Dispose, If as Cond, While, Call as CallOne, Fork, With}
use Rattle.sf_core.specs.declared.command.Command.TheFolds.{fold-roll-Command}
use Rattle.sf_core.specs.declared.command.Command.TheVariants.{rolls-Assign, rolls-LookUp, rolls-Mutate, rolls-New, rolls-Dispose, rolls-If, rolls-While, rolls-Call, rolls-Fork, rolls-With}
use Rattle.sf_core.specs.declared.command.Expr.{Expr}
use Rattle.sf_core.specs.declared.command.Occurrence.{Occurrence}
use Rattle.sf_core.specs.Program.Syntax.{Command, assign, look_up, mutate, new, dispose, if, while, call, fork, with}
use Rattle.sf_core.specs.Program.View.{assertion_of, block_of, call_of, command_of, command_step}

-- `x = E`
pub view_assign : (p : Place) (x : Occurrence) (e : Expr) → command_of (Assign p x e) ≡ assign p x e
view_assign p x e = ap command_of (sym (rolls-Assign p x e)) ∙ fold-roll-Command Command command_step _

-- `x = E->f`
pub view_look_up : (p : Place) (x : Occurrence) (e : Expr) (f : FieldId)
    → command_of (LookUp p x e f) ≡ look_up p x e f
view_look_up p x e f = ap command_of (sym (rolls-LookUp p x e f)) ∙ fold-roll-Command Command command_step _

-- `E->f = F`
pub view_mutate : (p : Place) (e : Expr) (f : FieldId) (v : Expr) → command_of (Mutate p e f v) ≡ mutate p e f v
view_mutate p e f v = ap command_of (sym (rolls-Mutate p e f v)) ∙ fold-roll-Command Command command_step _

-- `x = new()`
pub view_new : (p : Place) (x : Occurrence) → command_of (New p x) ≡ new p x
view_new p x = ap command_of (sym (rolls-New p x)) ∙ fold-roll-Command Command command_step _

-- `dispose(E)`
pub view_dispose : (p : Place) (e : Expr) → command_of (Dispose p e) ≡ dispose p e
view_dispose p e = ap command_of (sym (rolls-Dispose p e)) ∙ fold-roll-Command Command command_step _

-- `if (B) C else D`
pub view_if : (p : Place) (t : Test Expr) (this that : Vec CodeCommand Global)
    → command_of (Cond p t this that) ≡ if p t (block_of this.items) (block_of that.items)
view_if p t this that = ap command_of (sym (rolls-If p t this that)) ∙ fold-roll-Command Command command_step _

-- `while (B) C`
pub view_while : (p : Place) (t : Test Expr) (kept : CodeAssertion) (body : Vec CodeCommand Global)
    → command_of (While p t kept body) ≡ while p t (assertion_of kept) (block_of body.items)
view_while p t kept body = ap command_of (sym (rolls-While p t kept body)) ∙ fold-roll-Command Command command_step _

-- `f(x; E)`
pub view_call : (p : Place) (c : CodeCall) → command_of (CallOne p c) ≡ call p (call_of c)
view_call p c = ap command_of (sym (rolls-Call p c)) ∙ fold-roll-Command Command command_step _

-- `f(x; E) || g(y; F)`
pub view_fork : (p : Place) (c d : CodeCall) → command_of (Fork p c d) ≡ fork p (call_of c) (call_of d)
view_fork p c d = ap command_of (sym (rolls-Fork p c d)) ∙ fold-roll-Command Command command_step _

-- `with r when (B) C`
pub view_with : (p : Place) (r : ResId) (t : Test Expr) (body : Vec CodeCommand Global)
    → command_of (With p r t body) ≡ with p r t (block_of body.items)
view_with p r t body = ap command_of (sym (rolls-With p r t body)) ∙ fold-roll-Command Command command_step _
