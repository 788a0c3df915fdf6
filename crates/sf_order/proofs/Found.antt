-- Whether two resources are one of some pairs.
-- Names: `WHAT-is`.
use Rattle.std.specs.Prelude.{◌≡◌, ◌==◌, ◌&&◌, ℕ, ◌<◌, ◌+◌, List, [], ◌∷◌, ◌++◌, All, Contains, get_or, length, take}
use Rattle.std.specs.Bool.{Decides}
use Rattle.std.proofs.Common.{sym, ap, ap₂, inl, inr, arith}
use Rattle.std.proofs.lemmas.Bool.Decides.{Decides-and, Decides-or}
use Rattle.std.proofs.lemmas.List.{take_more}
use Rattle.std.proofs.lemmas.List.Elements.{All-append, All-cons}
use Rattle.sf_base.proofs.Elements.{contains-cons, contains-nil}
use Rattle.sf_base.proofs.Variables.{resource-decides}
use Rattle.sf_base.specs.declared.ids.ResId.{ResId}
use Rattle.sf_calls.specs.Checked.Lemmas.Decided.{resource}
use Rattle.sf_order.specs.Checked.Tests.{has_pair}

pub has_pair-is : (r s : ResId) (pairs : List (ResId × ResId)) → Decides (has_pair r s pairs) (Contains pairs (r, s))
has_pair-is r s [] = (λ e. absurd (cc), λ c. absurd (contains-nil (r, s) c))
has_pair-is r s (e ∷ es) =
    let both = Decides-or ((e.0.0 == r.0) && (e.1.0 == s.0)) (has_pair r s es)
    (Decides-and (e.0.0 == r.0) (e.1.0 == s.0) (resource-decides e.0 r) (resource-decides e.1 s))
    (has_pair-is r s es) in (
      λ h. (contains-cons e es (r, s)).1 (elim (both.0 h) [
        | inl k ↦ inl (ap₂ (λ (a b : ResId). let t : ResId × ResId = (a, b) in t) k.0 k.1)
        | inr k ↦ inr k
      ]),
      λ c. both.1 (elim ((contains-cons e es (r, s)).0 c) [
        | inl k ↦ inl (ap (λ (t : ResId × ResId). t.0) k, ap (λ (t : ResId × ResId). t.1) k)
        | inr k ↦ inr k
      ]),
    )

-- one more pair of which it holds
pub all-push : (P : ResId × ResId → Type 0) (es : List (ResId × ResId)) (e : ResId × ResId) → All P es → P e
    → All P (es ++ e ∷ [])
all-push P es e h p = All-append P es (e ∷ []) h (All-cons P e [] p (λ k d l. absurd (omega (arith, l))))

-- the pair that stands for an element where there is none
abbrev pub nothing : ResId × ResId
nothing = (resource 0, resource 0)

-- so it holds of what a walk over them has passed, with the pair where it stands
pub all-next : (P : ResId × ResId → Type 0) (es items : List (ResId × ResId)) (i : ℕ) → items ≡ es → i < length items
    → All P (take i es) → P (get_or items i nothing) → All P (take (i + 1) es)
all-next P es items i same there h p =
    rw (sym same, take_more items i nothing there)
    (all-push P (take i items) (get_or items i nothing) (rw (sym same) at h) p)
