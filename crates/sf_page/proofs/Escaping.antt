-- An escaped text has no byte that can be markup.
use Rattle.std.proofs.Common.{◌≡◌, ◌==◌, ◌∙◌, ℕ, Bool, true, false, cond, codes, [], ◌∷◌, refl}
use Rattle.std.specs.Prelude.{◌||◌}
use Rattle.std.specs.List.{list_any}
use Rattle.std.proofs.lemmas.List.Folds.{list_any-append}
use Rattle.sf_page.specs.Checked.Laws.{EscapedHasNoMarkup, is_markup}
use Rattle.sf_page.specs.Escaped.{escaped, escaped_byte}

-- an entity has none, and a byte that needs no entity is none
by_tests : (b : ℕ) (and less greater double single : Bool) → (b == 60) ≡ less → (b == 62) ≡ greater
    → (b == 34) ≡ double → (b == 39) ≡ single
    → list_any is_markup (cond and (codes "&amp;") (cond less (codes "&lt;") (cond greater (codes "&gt;")
    (cond double (codes "&quot;") (cond single (codes "&#39;") (b ∷ [])))))) ≡ false
by_tests b true less greater double single e f g h = refl
by_tests b false true greater double single e f g h = refl
by_tests b false false true double single e f g h = refl
by_tests b false false false true single e f g h = refl
by_tests b false false false false true e f g h = refl
by_tests b false false false false false e f g h = simp (e, f, g, h)

-- no byte as it stands in a page has any
byte-none : (b : ℕ) → list_any is_markup (escaped_byte b) ≡ false
byte-none b = by_tests b (b == 38) (b == 60) (b == 62) (b == 34) (b == 39) refl refl refl refl

-- two tests that fail
or-none : (a b : Bool) → a ≡ false → b ≡ false → (a || b) ≡ false
or-none a b e f = simp (e, f)

-- nor has a text
pub escaped_has_no_markup : EscapedHasNoMarkup
escaped_has_no_markup [] = refl
escaped_has_no_markup (b ∷ bs) =
    list_any-append is_markup (escaped_byte b) (escaped bs)
    ∙ or-none (list_any is_markup (escaped_byte b)) (list_any is_markup (escaped bs)) (byte-none b)
    (escaped_has_no_markup bs)
