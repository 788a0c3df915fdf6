-- Equality: steps between four things, and the test of two texts.
-- Names: `same-LAW` of equal things, `bytes_eq-LAW` of the test. Std has `ap₂` for a function of two
-- arguments.
use Rattle.std.specs.Prelude.{◌≡◌, ◌≢◌, ℕ, true, false, List}
use Rattle.std.specs.Str.{bytes_eq}
use Rattle.std.proofs.Common.{refl, sym, ◌∙◌}
use Rattle.std.proofs.lemmas.Slice.Eq.{bytes_eq-Decides}

-- two things are one where what they equal is one
pub same-by : {X : Type 0} {a b c d : X} → a ≡ c → b ≡ d → c ≡ d → a ≡ b
same-by e f g = e ∙ (g ∙ sym f)

-- texts that the test takes for one are one
pub bytes_eq-same : (m n : List ℕ) → bytes_eq m n ≡ true → m ≡ n
bytes_eq-same m n h = (bytes_eq-Decides m n).0 h

-- a text is itself
pub bytes_eq-self : (n : List ℕ) → bytes_eq n n ≡ true
bytes_eq-self n = (bytes_eq-Decides n n).1 refl

-- texts that the test tells apart differ
pub bytes_eq-other : (m n : List ℕ) → bytes_eq m n ≡ false → m ≢ n
bytes_eq-other m n h e = let t : bytes_eq m n ≡ true = (bytes_eq-Decides m n).1 e in absurd cc
