use Rattle.std.proofs.Common.{List, ℕ, subst, sym}
use Rattle.sf_page.specs.Written.{IsWritten}
use Rattle.sf_page.proofs.Pieces.{written_closing}
use Rattle.sf_page.proofs.html.Html.close.Goals as goal

pub invariant_of-self-in_default : goal.invariant_of-self-in_default
invariant_of-self-in_default c =
    subst (λ (bytes : List ℕ). ∥ IsWritten bytes ∥₁) (sym c.in_default.ensures)
    (written_closing _ c.args.element c.self.invariant)
