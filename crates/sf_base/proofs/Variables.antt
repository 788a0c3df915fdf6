-- Variables: the test whether two are one decides it.
-- Names: `WHAT-decides`.
use Rattle.std.proofs.Common.{◌≡◌, ◌==◌, ◌&&◌, ap}
use Rattle.std.specs.Bool.{Decides}
use Rattle.std.proofs.lemmas.Bool.Decides.{Decides-and, Decides-eqb}
use Rattle.sf_base.specs.declared.ids.ResId.{ResId}
use Rattle.sf_base.specs.declared.ids.Var.{Var}
use Rattle.sf_base.specs.declared.ids.Var.TheVariants.{Own, Shared}
use Rattle.sf_base.proofs.StoreSplits.{resource-is}
use Rattle.sf_base.specs.Variables.{same_var}

-- resources are one where their numbers are
pub resource-decides : (r q : ResId) → Decides (r.0 == q.0) (r ≡ q)
resource-decides r q = (
  λ e. resource-is r q ((Decides-eqb r.0 q.0).0 e),
  λ e. (Decides-eqb r.0 q.0).1 (ap (λ (k : ResId). k.0) e),
)

-- the test of two variables is true exactly where they are one
pub same_var-decides : (x y : Var) → Decides (same_var x y) (x ≡ y)
same_var-decides (Own i) (Own j) =
    (λ e. ap Own ((Decides-eqb i j).0 e), λ e. (Decides-eqb i j).1 (let s : i ≡ j = cc in s))
same_var-decides (Own i) (Shared s j) = (λ e. absurd (cc), λ e. absurd (cc))
same_var-decides (Shared r i) (Own j) = (λ e. absurd (cc), λ e. absurd (cc))
same_var-decides (Shared r i) (Shared s j) = (λ e. to (both.0 e), λ e. both.1 (from e))
  where
    both : Decides ((r.0 == s.0) && (i == j)) ((r ≡ s) × (i ≡ j))
    both = Decides-and (r.0 == s.0) (i == j) (resource-decides r s) (Decides-eqb i j)

    to : (r ≡ s) × (i ≡ j) → Shared r i ≡ Shared s j
    to h = let a : r ≡ s = h.0 in let b : i ≡ j = h.1 in cc

    from : Shared r i ≡ Shared s j → (r ≡ s) × (i ≡ j)
    from e = (let a : r ≡ s = cc in a, let b : i ≡ j = cc in b)
