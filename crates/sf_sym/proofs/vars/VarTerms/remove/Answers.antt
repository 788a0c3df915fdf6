use Rattle.std.proofs.Common.{◌≡◌, Some, None, sym, ap, ◌∙◌, subst}
use Rattle.std.specs.List.{position}
use Rattle.sf_base.specs.Variables.{same_var}
use Rattle.sf_sym.specs.Checked.Lemmas.Updates.{remove-order}
use Rattle.sf_sym.specs.Variables.{AreInOrder, remove_var}
use Rattle.sf_sym.proofs.VariableLists.{delete-is, removed-at, removed-none}
use Rattle.sf_sym.proofs.vars.VarTerms.remove.Goals as goal

removed : (c : goal.After-remove)
    → remove_var c.args.x c.self.inside.items.items ≡ c.remove.new.self.items
removed c =
    let found : position (λ v. same_var v.0 c.args.x) c.self.inside.items.items ≡ Some c.in-Some.i =
    ap (position (λ v. same_var v.0 c.args.x)) (sym c.deref.ensures.value) ∙ sym c.in-Some.ensures.index in
    sym (delete-is c.args.x c.self.inside.items.items c.self.invariant)
    ∙ removed-at c.args.x c.in-Some.i c.self.inside.items.items found ∙ sym c.remove.ensures.items

pub invariant_of-self : goal.invariant_of-self
invariant_of-self c =
    subst AreInOrder (removed c) (remove-order c.args.x c.self.inside.items.items c.self.invariant)

pub returns-in-Some : goal.returns-in-Some
returns-in-Some c = sym (removed c) ∙ ap (remove_var c.args.x) c.self.view_is

pub returns-in-None : goal.returns-in-None
returns-in-None c =
    let none : position (λ v. same_var v.0 c.args.x) c.self.inside.items.items ≡ None =
    ap (position (λ v. same_var v.0 c.args.x)) (sym c.deref.ensures.value) ∙ sym c.in-None.ensures.index in
    let stays : remove_var c.args.x c.self.inside.items.items ≡ c.self.inside.items.items =
    sym (delete-is c.args.x c.self.inside.items.items c.self.invariant)
    ∙ removed-none c.args.x c.self.inside.items.items none in
    sym c.self.view_is ∙ sym stays ∙ ap (remove_var c.args.x) c.self.view_is
