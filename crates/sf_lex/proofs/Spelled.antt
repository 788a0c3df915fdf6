-- A text of so many bytes is its bytes, one after the other.
use Rattle.std.proofs.Common.{◌≡◌, ◌≤◌, ◌<◌, ℕ, List, [], ◌∷◌, length, slice_index_or, refl, arith}

pub spells_five : (bs : List ℕ) → 5 ≤ length bs → length bs < 6 → bs ≡ slice_index_or bs 0 0 ∷ slice_index_or bs 1 0 ∷ slice_index_or bs 2 0 ∷ slice_index_or bs 3 0 ∷ slice_index_or bs 4 0 ∷ []
spells_five (a ∷ b ∷ c ∷ d ∷ e ∷ []) h l = refl
spells_five _ h l = absurd (omega arith)

pub spells_seven : (bs : List ℕ) → 7 ≤ length bs → length bs < 8 → bs ≡ slice_index_or bs 0 0 ∷ slice_index_or bs 1 0 ∷ slice_index_or bs 2 0 ∷ slice_index_or bs 3 0 ∷ slice_index_or bs 4 0 ∷ slice_index_or bs 5 0 ∷ slice_index_or bs 6 0 ∷ []
spells_seven (a ∷ b ∷ c ∷ d ∷ e ∷ f ∷ g ∷ []) h l = refl
spells_seven _ h l = absurd (omega arith)

pub spells_eight : (bs : List ℕ) → 8 ≤ length bs → length bs < 9 → bs ≡ slice_index_or bs 0 0 ∷ slice_index_or bs 1 0 ∷ slice_index_or bs 2 0 ∷ slice_index_or bs 3 0 ∷ slice_index_or bs 4 0 ∷ slice_index_or bs 5 0 ∷ slice_index_or bs 6 0 ∷ slice_index_or bs 7 0 ∷ []
spells_eight (a ∷ b ∷ c ∷ d ∷ e ∷ f ∷ g ∷ i ∷ []) h l = refl
spells_eight _ h l = absurd (omega arith)
