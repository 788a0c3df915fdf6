use Rattle.std.proofs.Common.{◌≡◌, true, false, slice_get, slice_set, rules, ap, ◌∙◌, subst}
use Rattle.std.specs.List.{insert}
use Rattle.sf_sym.specs.Checked.VariablePlaces.{is_var, place_of}
use Rattle.sf_sym.proofs.VariableLists.{insert-new, insert-there}
use Rattle.sf_sym.proofs.vars.set_in_room.Goals as goal

pub returns-then-is_at-clause-items : goal.returns-then-is_at-clause-items
returns-then-is_at-clause-items c =
    let vs = c.args.vars.now.items in
    let place : c.place_of-at.result ≡ place_of c.args.x vs = search rules in
    let there : is_var c.args.x (slice_get vs (place_of c.args.x vs)) ≡ true =
    subst (λ k. is_var c.args.x (slice_get vs k) ≡ true) place (search rules) in
    ap (λ k. slice_set vs k (c.args.x, c.args.t)) place ∙ insert-there c.args.x c.args.t vs there

pub returns-else-is_err-clause-items : goal.returns-else-is_err-clause-items
returns-else-is_err-clause-items c =
    let vs = c.args.vars.now.items in
    let place : c.place_of-at.result ≡ place_of c.args.x vs = search rules in
    let new : is_var c.args.x (slice_get vs (place_of c.args.x vs)) ≡ false =
    subst (λ k. is_var c.args.x (slice_get vs k) ≡ false) place (search rules) in
    let put : c.insert.new.self.items ≡ insert vs c.place_of-at.result (c.args.x, c.args.t) = search rules in
    put ∙ ap (λ k. insert vs k (c.args.x, c.args.t)) place ∙ insert-new c.args.x c.args.t vs new
