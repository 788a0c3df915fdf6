use Rattle.std.proofs.Common.{ap, subst}
use Rattle.sf_sym.specs.declared.outline.Row.{Row}
use Rattle.sf_sym.specs.Checked.Keeping.{Forgets}
use Rattle.sf_sym.proofs.store.forget.Goals as goal

pub returns : goal.returns
returns c =
    let i = c.args.index.now in
    let j = c.forget.new.self in
    subst (λ (z : Row). Forgets z i.roots i.cells i.marks j.roots j.cells j.marks)
    (ap (λ o. record { number = c.args.part.number; outline = o }) c.of-outline.ensures) c.forget.ensures
