-- Whether units are left, as a test tells it; and what else a task is told than that a step was
-- made.
-- Names: `none-WHERE`, `either-WHICH`, `other-ANSWER`.
use Rattle.std.specs.Prelude.{◌≡◌, ◌≢◌, ◌↔◌, ℕ, Bool, true, false, List, [], ◌∷◌, ◌++◌}
use Rattle.std.proofs.Common.{true≢false, sym, ◌∙◌, refl, subst}
use Rattle.sf_part.specs.declared.local.Local.{Local}
use Rattle.sf_part.specs.declared.local.Local.TheVariants.{AtFork, AtInit, Done, Moved, Spent}

-- a test that there are some says no only where there are none
pub none-left : (us : List ℕ) (b : Bool) → (b ≡ true) ↔ (us ≢ []) → b ≡ false → us ≡ []
none-left [] b h e = refl
none-left (u ∷ us) b h e = absurd (true≢false (sym (h.1 (λ k. cc)) ∙ e))

-- of two lists that are none together each is none
pub none-both : (us vs : List ℕ) → us ++ vs ≡ [] → (us ≡ []) × (vs ≡ [])
none-both [] vs e = (refl, e)
none-both (u ∷ us) vs e = absurd (cc)

-- one has some
pub either-first : (us vs : List ℕ) → us ≢ [] → (true ≡ true) ↔ (us ++ vs ≢ [])
either-first us vs n = (λ i k. n (none-both us vs k).0, λ i. refl)

-- or it hasn't, and the other tells it
pub either-second : (us vs : List ℕ) (b : Bool) → us ≡ [] → (b ≡ true) ↔ (vs ≢ [])
    → (b ≡ true) ↔ (us ++ vs ≢ [])
either-second us vs b e h = subst (λ z. (b ≡ true) ↔ (z ++ vs ≢ [])) (sym e) h

-- an answer other than that a step was made
pub other-done : (told : Local) → told ≡ Done → told ≢ Moved
other-done told e k = let h : Done ≡ Moved = sym e ∙ k in cc

pub other-init : (told : Local) → told ≡ AtInit → told ≢ Moved
other-init told e k = let h : AtInit ≡ Moved = sym e ∙ k in cc

pub other-fork : (told : Local) → told ≡ AtFork → told ≢ Moved
other-fork told e k = let h : AtFork ≡ Moved = sym e ∙ k in cc

pub other-spent : (told : Local) → told ≡ Spent → told ≢ Moved
other-spent told e k = let h : Spent ≡ Moved = sym e ∙ k in cc
