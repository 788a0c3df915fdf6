use Rattle.std.proofs.Common.{sym, ap, ◌∙◌}
use Rattle.std.proofs.lemmas.Bool.{false≢true}
use Rattle.std.specs.List.{slice_get}
use Rattle.sf_sym.specs.Known.{first_nothing}
use Rattle.sf_sym.proofs.EmptyNumbers.{empty-first, key-first}
use Rattle.sf_sym.proofs.atoms.Atoms.first_nothing.Goals as goal

pub returns-in_err-number : goal.returns-in_err-number
returns-in_err-number c =
    let inside = c.self.inside in
    c.from_residual.ensures ∙ sym (key-first inside.empty.keys (λ lt. false≢true (c.in_err-number.ensures.variant.1 lt)))
    ∙ ap (λ ks. slice_get ks 0) c.self.invariant ∙ empty-first inside.parts ∙ ap first_nothing c.self.view_is

pub returns : goal.returns
returns c =
    let inside = c.self.inside in
    sym c.in_ok-number.ensures.first
    ∙ ap (λ ks. slice_get ks 0) c.self.invariant ∙ empty-first inside.parts ∙ ap first_nothing c.self.view_is
