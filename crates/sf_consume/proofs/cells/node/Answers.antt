use Rattle.std.proofs.Common.{◌≡◌, [], ap, rules, sym, ◌∙◌}
use Rattle.sf_consume.specs.Checked.Fits.{after_changes, fit_of, link_of}
use Rattle.sf_consume.specs.Subtract.{first_fit, link}
use Rattle.sf_consume.proofs.Nodes.{node_is}
use Rattle.sf_consume.proofs.cells.node.Goals as goal

pub returns-in-Ok-clause-answers : goal.returns-in-Ok-clause-answers
returns-in-Ok-clause-answers c =
    let bindings = c.args.want.now.bindings in
    let fit = c.in-Some-2.fit in
    let symbols : fit.next_sym ≡ c.args.state.now.next_sym = search rules in
    let changes : fit.changes.items ≡ [] = search rules in
    let start : fit_of bindings fit ≡ first_fit c.args.state.now fit.fields bindings = (λ i. record {
      next_sym = symbols i;
      fields = fit.fields;
      bindings = after_changes (changes i) bindings;
    }) in
    let some = c.in-Some.ensures.some in
    record {
      done =
          node_is c.args.a c.args.state.now c.hand_over_cell.new.self c.args.want.now c.split_first.new.self
          c.in-Some-as_tree.w c.in-Some-term_of.t fit.fields
          (link_of bindings (c.in_ok-fit-2.fit, c.in_ok-fit-2.l))
          (link_of bindings (c.in_ok-fit-3.fit, c.in_ok-fit-3.r))
          c.in-Some.c.now c.tree_from.result c.tree_from-2.result some.0 some.1
          (c.in_ok-c.ensures.conjuncts c.in-Some.c.now some.0 some.1) (search rules) (search rules) (search rules)
          (search rules) (search rules) (search rules)
          (ap (λ f. link f c.in-Some-as_tree.w.left) (sym start) ∙ sym (c.in_ok-fit-2.ensures.linked bindings))
          (sym (c.in_ok-fit-3.ensures.linked bindings)) (search rules);
      none = tt;
      kept = tt;
      kept_want = tt;
    }
