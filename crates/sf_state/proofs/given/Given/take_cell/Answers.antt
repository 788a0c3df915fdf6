use Rattle.std.proofs.Common.{◌≡◌, ◌<◌, ◌+◌, length, refl, sym, ◌∙◌, ap, arith, cond, false, Some, nat_cmp, is_some}
use Rattle.std.specs.BTreeMap.{btree_map_len, get, is_at}
use Rattle.sf_base.specs.declared.limits.TheConstants.{STATE_CELLS}
use Rattle.sf_state.specs.declared.given.Given.{Given}
use Rattle.sf_state.specs.Refused.{cell_values}
use Rattle.sf_state.proofs.Keeping.{taken-cell}
use Rattle.sf_state.proofs.given.Given.take_cell.Goals as goal

pub returns : goal.returns
returns c =
    let new : Given = record { values = c.args.self.now.values; cells = c.insert.new.self } in
    let few : btree_map_len c.args.self.now.cells < STATE_CELLS = omega arith in
    let none : is_some (get nat_cmp c.args.self.now.cells c.args.location) ≡ false =
    sym c.contains_key.ensures ∙ c.if-contains_key.false in
    let width : c.len-2.result ≡ length c.args.p.now.fields.items = omega arith in
    let cell : c.in_ok-cell.cell ≡ cell_values (length c.args.p.now.fields.items) c.args.settings.now =
    c.in_ok-cell.ensures ∙ ap (λ n. cell_values n c.args.settings.now) width in
    λ names es k. taken-cell c.args.p.now.fields.items names c.args.self.now new es c.args.location
    c.args.settings.now k none (sym c.in-None.ensures) few refl
    (λ q. c.in_ok-insert.ensures.updates.0 q
    ∙ ap (λ v. cond (is_at (nat_cmp c.args.location) q) (Some v) (get nat_cmp c.args.self.now.cells q)) cell)
    (c.in_ok-insert.ensures.len
    ∙ ap (λ b. btree_map_len c.args.self.now.cells + cond b 0 1) (ap is_some c.in_ok-insert.ensures.old ∙ none))
