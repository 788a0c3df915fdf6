use Rattle.std.proofs.Common.{◌≡◌, sym, ap, ◌∙◌, subst}
use Rattle.sf_sym.specs.Checked.Insertion.{insert_vars}
use Rattle.sf_sym.specs.Checked.Lemmas.Updates.{set_vars-order}
use Rattle.sf_sym.specs.Variables.{AreInOrder, set_vars}
use Rattle.sf_sym.proofs.VariableLists.{insert_vars-is}
use Rattle.sf_sym.proofs.vars.VarTerms.set_all.Goals as goal

set : (c : goal.After-set_all_in_room)
    → c.set_all_in_room.new.vars.items
    ≡ set_vars c.args.xs.now c.self.inside.items.items
set c =
    c.set_all_in_room.ensures ∙ ap (insert_vars c.args.xs.now) c.reserve.ensures.items
    ∙ insert_vars-is c.args.xs.now c.self.inside.items.items c.self.invariant

pub invariant_of-self-2 : goal.invariant_of-self-2
invariant_of-self-2 c =
    subst AreInOrder (sym (set c))
    (set_vars-order c.args.xs.now c.self.inside.items.items c.self.invariant)

pub returns-clause-ok : goal.returns-clause-ok
returns-clause-ok c = set c ∙ ap (set_vars c.args.xs.now) c.self.view_is
