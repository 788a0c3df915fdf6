-- The two loops over the words: what is left of the words begins with the next one.
use Rattle.std.proofs.Common.{◌≡◌, ◌<◌, ◌+◌, ◌∙◌, ◌||◌, ℕ, Bool, List, [], ◌∷◌, ap, arith, cond, drop, false, get_or, length, refl, suc, sym, true, zero}
use Rattle.std.specs.Borrow.{Bor}
use Rattle.std.specs.List.{list_any}
use Rattle.std.specs.Str.{bytes_eq}
use Rattle.sf_words.specs.Checked.Screen.{has_bundle, is_bundle}
use Rattle.sf_words.specs.Words.{Text, dashes, is_blank}
use Rattle.sf_words.specs.WordsOf.{words_of}

word-next : (ws : List (Bor Text)) (i : ℕ) (d : Bor Text) → i < length ws → drop i (words_of ws) ≡ (get_or ws i d).now ∷ drop (i + 1) (words_of ws)
word-next [] i d lt = absurd (omega arith)
word-next (w ∷ ws) zero d lt = refl
word-next (w ∷ ws) (suc i) d lt =
    let n : suc i + 1 ≡ suc (i + 1) = omega arith in
    rw n (word-next ws i d (omega arith))

pub blank-step : (ws : List (Bor Text)) (i : ℕ) (d : Bor Text) (b : Bool) → i < length ws → b ≡ is_blank (get_or ws i d).now
    → list_any is_blank (words_of ws) ≡ list_any is_blank (drop i (words_of ws))
    → list_any is_blank (words_of ws) ≡ (b || list_any is_blank (drop (i + 1) (words_of ws)))
blank-step ws i d b lt e kept = kept ∙ ap (list_any is_blank) (word-next ws i d lt) ∙ ap (λ x. x || list_any is_blank (drop (i + 1) (words_of ws))) (sym e)

pub bundle-end : (ws : List (Bor Text)) (i : ℕ) (d : Bor Text) → i < length ws → true ≡ bytes_eq (get_or ws i d).now dashes
    → has_bundle (words_of ws) ≡ has_bundle (drop i (words_of ws)) → false ≡ has_bundle (words_of ws)
bundle-end ws i d lt e kept =
    sym (kept ∙ ap has_bundle (word-next ws i d lt)
    ∙ ap (λ b. cond b false (is_bundle (get_or ws i d).now || has_bundle (drop (i + 1) (words_of ws)))) (sym e))

pub bundle-more : (ws : List (Bor Text)) (i : ℕ) (d : Bor Text) (b : Bool) → i < length ws → false ≡ bytes_eq (get_or ws i d).now dashes
    → b ≡ is_bundle (get_or ws i d).now → has_bundle (words_of ws) ≡ has_bundle (drop i (words_of ws))
    → has_bundle (words_of ws) ≡ (b || has_bundle (drop (i + 1) (words_of ws)))
bundle-more ws i d b lt e is kept =
    kept ∙ ap has_bundle (word-next ws i d lt)
    ∙ ap (λ x. cond x false (is_bundle (get_or ws i d).now || has_bundle (drop (i + 1) (words_of ws)))) (sym e)
    ∙ ap (λ x. x || has_bundle (drop (i + 1) (words_of ws))) (sym is)
