-- What is written is read back: the numbers and terms of written texts.
use Rattle.std.proofs.Common.{◌≡◌, ◌<◌, ◌^◌, nat_lt, Some, None, refl, arith, decimal, ℕ, [], ◌∷◌}
use Rattle.std.proofs.lemmas.Bool.Decides.{nat_tests}
use Rattle.std.specs.Fmt.{signed_decimal}
use Rattle.sf_lines.specs.Checked.Lemmas.Tokens.{BeginsOtherwise, decimal-back, decimal-plain, otherwise-apart, signed-back, signed-other, signed-plain}
use Rattle.sf_lines.specs.Checked.Lemmas.Written.{IsPlain}
use Rattle.sf_sym.specs.declared.term.Term.{Term}
use Rattle.sf_sym.specs.declared.term.Term.TheVariants.{Nil, Int, Sym}
use Rattle.sf_proof.specs.Checked.Laws.{IsTermOfCode}
use Rattle.sf_proof.specs.ProofText.{Text, term_text}
use Rattle.sf_proof.specs.Words.{natural_of, symbol_of, term_of}

-- an atom's number is read back
pub natural-decimal : (n : ℕ) → n < 2 ^ 32 → natural_of (decimal n) ≡ Some n
natural-decimal n h = decimal-back (λ k. nat_lt k (2 ^ 32)) n (omega arith) (grind (arith, nat_tests))

pub term-plain : (x : Term) → IsTermOfCode x → IsPlain (term_text x)
term-plain Nil h = record { some = refl; visible = refl }
term-plain (Int i) h = signed-plain i h
term-plain (Sym n) h = record { some = refl; visible = (decimal-plain n (omega arith)).visible }

-- what begins otherwise is no symbol
symbol-none : (text : Text) → BeginsOtherwise 115 text → symbol_of text ≡ None
symbol-none text b = rw (b.is, b.other) refl

-- a term is read back
pub term-back : (x : Term) → IsTermOfCode x → term_of (term_text x) ≡ Some x
term-back Nil h = refl
term-back (Sym n) h = rw (natural-decimal n h) refl
term-back (Int i) h =
    rw (
      otherwise-apart 110 (signed_decimal i) (105 ∷ 108 ∷ []) (signed-other i 110 h refl refl),
      symbol-none (signed_decimal i) (signed-other i 115 h refl refl),
      signed-back i h,
    ) refl
