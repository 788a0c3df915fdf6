use Rattle.std.proofs.Common.{List, ℕ, subst, sym}
use Rattle.sf_page.specs.Written.{IsPage, IsWritten}
use Rattle.sf_page.proofs.Pieces.{page_written}
use Rattle.sf_page.proofs.whole.make_page.Goals as goal

pub returns : goal.returns
returns c =
    subst (λ (title : List ℕ). ∥ IsPage title c.in_ok-bytes.bytes.items ∥₁) c.deref-3.ensures.value
    (page_written c.deref-3.result.now c.deref-4.result.now _ _ _ _ c.fixed_text-head.ensures
    c.fixed_text-style.ensures c.fixed_text-script.ensures c.in_ok-bytes.ensures
    (subst (λ (body : List ℕ). ∥ IsWritten body ∥₁) (sym c.deref-4.ensures.value) c.into_bytes-body.ensures.written))
