use Rattle.std.proofs.Common.{rules}
use Rattle.std.proofs.lemmas.Fn.{filter_same}
use Rattle.std.specs.List.{list_any}
use Rattle.sf_base.specs.Variables.{same_var}
use Rattle.sf_core.specs.Program.View.{block_of}
use Rattle.sf_rules.proofs.Looping.{kept_unknown}
use Rattle.sf_rules.proofs.loops.unknown_in.Goals as goal

pub returns : goal.returns
returns g c =
    let vars = c.vars-vars.result.now in
    let all = c.in_ok-unknown.unknown.items in
    kept_unknown g.d c.args.state.now (block_of c.args.body.now) vars all c.retain.new.self.items c.vars-vars.ensures
    (search rules)
    (filter_same _ (λ x. list_any (λ v. same_var v.0 x) vars) _ (λ x b f k. search rules) all c.retain.new.self.items
    c.retain.ensures.filtered)
