-- What the machine's verdict says of a file: its fault, at the place of the token there, or of the file's end.
-- Ordinary: predictive parsing with a stack, as in Aho, Sethi, Ullman, "Compilers" (1986), section 4.4.
use Rattle.std.specs.Prelude.{◌≡◌, ◌-◌, ℕ, zero, suc, List, length, pos, slice_index_or}
use Rattle.sf_base.specs.declared.place.Place.{Place}
use Rattle.sf_lex.specs.declared.token.Kind.TheVariants.{Name}
use Rattle.sf_lex.specs.declared.token.Token.{Token}
use Rattle.sf_lex.specs.Reading.{first_place}
use Rattle.sf_parse.specs.declared.fault.ParseFault.{ParseFault}
use Rattle.sf_parse.specs.declared.fault.ParseFault.TheVariants.{Unexpected, TooDeep, OutOfMemory}
use Rattle.sf_parse.specs.Checked.Machine.{Verdict, unexpected, too_deep}

-- no token of a file
abbrev pub no_token : Token
no_token = record { kind = Name; value = pos 0; start = 0; end = 0; place = first_place }

-- the token with which so many are left
abbrev pub token_left : List Token → ℕ → Token
token_left ts n = slice_index_or ts (length ts - n) no_token

-- the place of the token with which so many are left, or that of the file's end
abbrev pub place_left : (end : Place) → List Token → ℕ → Place
place_left end ts zero = end
place_left end ts (suc n) = (token_left ts (suc n)).place

-- the fault is what the verdict says, at its place
abbrev pub Says : (end : Place) → List Token → ParseFault → Verdict → Type 0
Says end ts (Unexpected p) v = (n : ℕ) × (v ≡ unexpected n) × (p ≡ place_left end ts n)
Says end ts (TooDeep p) v = (n : ℕ) × (v ≡ too_deep n) × (p ≡ place_left end ts n)
Says end ts OutOfMemory v = ⊥
