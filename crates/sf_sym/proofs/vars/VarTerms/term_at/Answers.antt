use Rattle.std.proofs.Common.{◌≡◌, true, length, Some, slice_get, ◌∙◌, sym, ap}
use Rattle.std.proofs.lemmas.Bool.Decides.{Decides-ltb}
use Rattle.std.proofs.lemmas.Option.{slice_get-get_or}
use Rattle.sf_base.specs.Variables.{same_var}
use Rattle.sf_sym.specs.State.{term_at}
use Rattle.sf_sym.proofs.VariableLists.{term_there}
use Rattle.sf_sym.proofs.vars.VarTerms.term_at.Goals as goal

pub returns-in-Some : goal.returns-in-Some
returns-in-Some c =
    let vars = c.deref.result.now in
    let v = c.in-Some.v.now in
    let at = c.number_of.result in
    let there : slice_get vars at ≡ Some v =
    slice_get-get_or vars at v ((Decides-ltb at (length vars)).0 (sym c.in-Some.ensures.lookup.0))
    ∙ ap Some (sym c.in-Some.ensures.lookup.1) in
    let same : same_var v.0 c.args.x ≡ true = sym c.if-is_same.ensures in
    let items : vars ≡ c.self.inside.items.items = c.deref.ensures.value in
    sym (term_there c.args.x at v c.self.inside.items.items c.self.invariant (ap (λ z. slice_get z at) (sym items) ∙ there) same)
    ∙ ap (λ z. term_at z c.args.x) c.self.view_is
