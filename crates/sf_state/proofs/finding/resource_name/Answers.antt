use Rattle.std.proofs.Common.{◌≡◌, ◌∙◌, ◌++◌, ap₂, subst}
use Rattle.std.specs.Result.{IfOk}
use Rattle.sf_state.proofs.Placed.{resource-name}
use Rattle.sf_state.proofs.finding.resource_name.Goals as goal

pub returns : goal.returns
returns c =
    subst (λ text. IfOk c.new.result (λ name. name ≡ text))
    (c.deref.ensures.value ∙ c.in_ok-extend_from_slice.ensures.items
    ∙ ap₂ (λ xs ys. xs ++ ys) c.in_ok-bytes.ensures.items
    (c.as_bytes.ensures ∙ resource-name c.args.p.now.program.resources.items c.args.r c.index.result.now c.requires c.index.ensures))
    c.new.ensures
