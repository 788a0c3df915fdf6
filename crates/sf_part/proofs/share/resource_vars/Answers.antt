use Rattle.std.proofs.Common.{ap, ◌∙◌, sym}
use Rattle.sf_core.specs.Program.Formed.{variable_count}
use Rattle.sf_frame.specs.Stores.{store_of}
use Rattle.sf_part.specs.Given.{is_variable_of}
use Rattle.sf_part.proofs.Rows.{row-values}
use Rattle.sf_part.proofs.share.resource_vars.Goals as goal

pub returns : goal.returns
returns c =
    let count = c.variable_count.ensures c.requires.there.0 c.requires.there.1 in
    row-values c.in_ok-shared.shared.items c.in_ok-resource_values.field-0 c.args.r
    c.variable_count.result (store_of c.args.store.now)
    (record { own = c.new.result; shared = c.push.new.self }) c.in_ok-shared.ensures.len
    c.in_ok-shared.ensures.empty c.in_ok-resource_values.ensures.len
    c.in_ok-resource_values.ensures.values
    (λ slot h. ap (λ n. is_variable_of c.args.r n slot)
    (count ∙ ap variable_count (sym c.requires.there.1)) ∙ c.requires.own slot h)
    c.new.ensures.items c.in_ok-push.ensures.items
