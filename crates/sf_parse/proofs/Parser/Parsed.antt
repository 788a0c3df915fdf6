-- What the answer of a whole file is, from what its items give.
use Rattle.std.proofs.Common.{◌≡◌, ◌≤◌, ◌<◌, ◌-◌, ℕ, zero, suc, List, [], ◌∷◌, length, get_or, true, false, refl, ap, ◌∙◌, arith}
use Rattle.std.proofs.lemmas.List.{get_or_default, length-map}
use Rattle.sf_base.specs.declared.place.Place.{Place}
use Rattle.sf_lex.specs.declared.token.Token.{Token}
use Rattle.sf_parse.specs.declared.fault.ParseFault.TheVariants as p
use Rattle.sf_parse.specs.declared.stop.Stop.TheVariants as t
use Rattle.sf_parse.specs.Checked.Faults.{no_token, token_left, place_left}
use Rattle.sf_parse.specs.Checked.Machine as m
use Rattle.sf_parse.specs.Leaf.{leaf, leaves}
use Rattle.sf_parse.specs.Parsing.{IsFault}
use Rattle.sf_parse.specs.Checked.Parser.{FailsAt}
use Rattle.sf_parse.proofs.Machine.Exactly.{fault_le}
use Rattle.sf_parse.proofs.Machine.Faults.{says_fault}

-- no more tokens are left than there are
pub left_within : (ts : List Token) (n : ℕ) → FailsAt (t.Unexpected n) (m.items ∷ []) ts → n ≤ length ts
left_within ts n h = let le : n ≤ length (leaves ts) = fault_le (leaves ts) (m.items ∷ []) true n (h []) in omega (arith, length-map ts leaf)

pub deep_within : (ts : List Token) (n : ℕ) → FailsAt (t.TooDeep n) (m.items ∷ []) ts → n ≤ length ts
deep_within ts n h = let le : n ≤ length (leaves ts) = fault_le (leaves ts) (m.items ∷ []) false n (h []) in omega (arith, length-map ts leaf)

-- the fault where reading stops
pub unexpected_there : (end : Place) (ts : List Token) (n : ℕ) (place : Place) → FailsAt (t.Unexpected n) (m.items ∷ []) ts → place ≡ place_left end ts n → IsFault end ts (p.Unexpected place)
unexpected_there end ts n place h at = says_fault end ts (p.Unexpected place) (n, h [], at)

pub too_deep_there : (end : Place) (ts : List Token) (n : ℕ) (place : Place) → FailsAt (t.TooDeep n) (m.items ∷ []) ts → place ≡ place_left end ts n → IsFault end ts (p.TooDeep place)
too_deep_there end ts n place h at = says_fault end ts (p.TooDeep place) (n, h [], at)

-- where tokens are left
place_of_token : (end : Place) (ts : List Token) (n : ℕ) → 0 < n → (token_left ts n).place ≡ place_left end ts n
place_of_token end ts zero h = absurd (omega arith)
place_of_token end ts (suc n) h = refl

pub place_at : (end : Place) (ts : List Token) (n : ℕ) (d : Token) → 0 < n → n ≤ length ts → (get_or ts (length ts - n) d).place ≡ place_left end ts n
place_at end ts n d some le = ap (λ (x : Token). x.place) (get_or_default ts (length ts - n) d no_token (omega arith)) ∙ place_of_token end ts n some
