use Rattle.std.proofs.Common.{List, ℕ, subst, sym}
use Rattle.sf_page.specs.Written.{IsWritten}
use Rattle.sf_page.proofs.Pieces.{written_shown}
use Rattle.sf_page.proofs.html.Html.show.Goals as goal

pub invariant_of-self-in_default : goal.invariant_of-self-in_default
invariant_of-self-in_default c =
    subst (λ (bytes : List ℕ). ∥ IsWritten bytes ∥₁) (sym c.in_default.ensures)
    (written_shown _ c.args.text.now c.self.invariant)
