-- How commands of the code are read.
-- Names: COMMAND_view.
use Rattle.std.proofs.Common.{◌≡◌, Vec, Global, map, sym, ap, ◌∙◌}
use Rattle.sf_base.specs.declared.ids.FieldId.{FieldId}
use Rattle.sf_base.specs.declared.place.Place.{Place}
use Rattle.sf_core.specs.declared.assertion.Test.{Test}
use Rattle.sf_core.specs.declared.command.Command.{Command as CodeCommand, Dispose, If, LookUp, Mutate}
use Rattle.sf_core.specs.declared.command.Command.TheFolds.{fold-roll-Command}
use Rattle.sf_core.specs.declared.command.Command.TheVariants.{rolls-Dispose, rolls-If, rolls-LookUp, rolls-Mutate}
use Rattle.sf_core.specs.declared.command.Expr.{Expr}
use Rattle.sf_core.specs.declared.command.Occurrence.{Occurrence}
use Rattle.sf_core.specs.Program.Syntax.{Command, dispose, if, look_up, mutate}
use Rattle.sf_core.specs.Program.View.{block, command_of, command_step}

pub look_up_view : (p : Place) (x : Occurrence) (e : Expr) (f : FieldId)
    → command_of (LookUp p x e f) ≡ look_up p x e f
look_up_view p x e f = ap command_of (sym (rolls-LookUp p x e f)) ∙ fold-roll-Command Command command_step _

pub mutate_view : (p : Place) (e : Expr) (f : FieldId) (v : Expr) → command_of (Mutate p e f v) ≡ mutate p e f v
mutate_view p e f v = ap command_of (sym (rolls-Mutate p e f v)) ∙ fold-roll-Command Command command_step _

pub dispose_view : (p : Place) (e : Expr) → command_of (Dispose p e) ≡ dispose p e
dispose_view p e = ap command_of (sym (rolls-Dispose p e)) ∙ fold-roll-Command Command command_step _

pub if_view : (p : Place) (t : Test Expr) (this that : Vec CodeCommand Global)
    → command_of (If p t this that) ≡ if p t (block (map command_of this.items)) (block (map command_of that.items))
if_view p t this that = ap command_of (sym (rolls-If p t this that)) ∙ fold-roll-Command Command command_step _
