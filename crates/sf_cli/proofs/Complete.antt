-- Where no count of faults rises: what is said is an answer, and it is put whole, or memory ran out.
-- Names: complete-*.
use Rattle.std.proofs.Common.{◌≡◌, ℕ, ◌<◌, ◌⊎◌, inl, inr, Option, subst, sym, arith}
use Rattle.std.proofs.lemmas.Bool.{cases_lt}
use Rattle.sf_io.specs.Increased.{Increased}
use Rattle.sf_io.specs.Shelf.{Files}
use Rattle.sf_cli.specs.Answer.{IsAnswering, IsSaid, Reply, answer, unread}
use Rattle.sf_words.specs.Words.{Order, Text}

-- what is said is an answer
pub complete-reply : (told : Option Files) (before after : Text → ℕ) (order : Option Order) (text : Text) (status : ℕ)
    → Reply told before after order text status
    → ((name : Text) → Increased (before name) (after name) → ⊥) → IsAnswering status
complete-reply told before after order text status (answer l a) quiet = l
complete-reply told before after order text status (unread s u) quiet = absurd (quiet u.name u.increased)

-- what is put is all of it, or memory ran out
pub complete-status : (result status : ℕ) → (IsSaid result → result ≡ status) → IsAnswering status → (result ≡ 8 → ⊥)
    → IsSaid result ⊎ ((result ≡ 8) ⊎ (result ≡ 9)) → IsAnswering result ⊎ (result ≡ 9)
complete-status result status whole small quiet (inl said) = inl (subst IsAnswering (sym (whole said)) small)
complete-status result status whole small quiet (inr (inl eight)) = absurd (quiet eight)
complete-status result status whole small quiet (inr (inr nine)) = inr nine

-- what is said with a status below 8 is said
pub said-small : (status : ℕ) → status < 8 → IsSaid status
said-small status l = elim (cases_lt status 7) [
  | inl less ↦ inl (inl less)
  | inr more ↦ inr (omega (arith, l, more))
]

-- and where it is an answer it is below 7
pub answering-small : (status : ℕ) → status < 8 → IsAnswering status → status < 7
answering-small status l (inl less) = less
answering-small status l (inr more) = absurd (omega (arith, l, more.0))
