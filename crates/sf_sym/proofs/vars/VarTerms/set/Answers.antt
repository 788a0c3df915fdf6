use Rattle.std.proofs.Common.{◌≡◌, sym, ap, ◌∙◌, subst}
use Rattle.sf_sym.specs.Checked.Insertion.{insert_var}
use Rattle.sf_sym.specs.Checked.Lemmas.Updates.{set-order}
use Rattle.sf_sym.specs.Variables.{AreInOrder, set_var}
use Rattle.sf_sym.proofs.VariableLists.{insert-is}
use Rattle.sf_sym.proofs.vars.VarTerms.set.Goals as goal

set : (c : goal.After-set_in_room)
    → c.set_in_room.new.vars.items ≡ set_var c.args.x c.args.t c.self.inside.items.items
set c =
    c.set_in_room.ensures.items ∙ ap (insert_var c.args.x c.args.t) c.reserve.ensures.items
    ∙ insert-is c.args.x c.args.t c.self.inside.items.items c.self.invariant

pub invariant_of-self-2 : goal.invariant_of-self-2
invariant_of-self-2 c =
    subst AreInOrder (sym (set c))
    (set-order c.args.x c.args.t c.self.inside.items.items c.self.invariant)

pub returns-clause-ok : goal.returns-clause-ok
returns-clause-ok c = set c ∙ ap (set_var c.args.x c.args.t) c.self.view_is
