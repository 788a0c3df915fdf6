-- What a word of a state's text begins with.
-- Ordinary: its first byte.
use Rattle.std.specs.Prelude.{ℕ, ◌==◌, Bool, false, [], ◌∷◌}
use Rattle.sf_lines.specs.Lines.{Text}

-- it begins with that byte
abbrev pub begins : ℕ → Text → Bool
begins byte [] = false
begins byte (b ∷ bs) = b == byte
