use Rattle.std.proofs.Common.{◌≡◌, ◌+◌, ◌∙◌, [], get_or, rules}
use Rattle.std.proofs.lemmas.Result.{IfOk-weaker}
use Rattle.std.specs.List.{flat_map}
use Rattle.sf_core.proofs.Inits.{sets_up-is}
use Rattle.sf_core.specs.Program.Init.{is_init}
use Rattle.sf_core.specs.Program.ProgramView.{program_of}
use Rattle.sf_core.specs.Program.View.{procedure_of}
use Rattle.sf_rules.specs.First.{links_of, own_vars, with_held}
use Rattle.sf_rules.specs.Resources.{variables_of}
use Rattle.sf_rules.proofs.Firsts.{own_firsts-below, own_firsts-order}
use Rattle.sf_sym.specs.State.{first_state}
use Rattle.sf_rules.proofs.start.first_state.Goals as goal

pub new-requires : goal.new-requires
new-requires c =
    let parameters = c.args.procedure.now.references + c.args.procedure.now.values in
    record {
      order = own_firsts-order _ parameters c.len.result c.in_ok-vars.ensures;
      below = own_firsts-below _ parameters c.len.result c.in_ok-vars.ensures;
    }

pub returns : goal.returns
returns c =
    let p = program_of c.args.arranged.now.program in
    let g = procedure_of c.args.procedure.now in
    let sets_up : c.is_init.result ≡ is_init g = c.is_init.ensures
    ∙ sets_up-is p c.args.f g c.requires.own in
    let held : c.deref.result.now
    ≡ flat_map (variables_of p) (get_or c.args.arranged.now.calls.holds c.args.f.0 []) = c.deref.ensures.value
    ∙ c.in_ok-held.ensures.variables in
    let state : c.in_ok-state.state ≡ first_state (links_of p) (own_vars g) (g.references + g.values) =
    search rules in
    IfOk-weaker c.with_held.result _ _ (λ after e. e ∙ (λ i. with_held (sets_up i) (held i) (state i)))
    c.with_held.ensures
