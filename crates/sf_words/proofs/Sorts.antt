-- What a word is by its first bytes, where it isn't blank and no bundle: the end of the options, an
-- option, or neither.
use Rattle.std.proofs.Common.{◌≡◌, ◌∙◌, ◌⊎◌, ◌||◌, ◌==◌, ℕ, Bool, true, false, List, [], ◌∷◌, None, ap, cond, inl, inr, refl, sym, true≢false}
use Rattle.std.specs.List.{list_any}
use Rattle.std.specs.Str.{bytes_eq}
use Rattle.std.proofs.lemmas.Bool.Decides.{Decides-eqb}
use Rattle.clap.specs.Lexer.{long_of, short_of}
use Rattle.sf_words.specs.Checked.Screen.{has_bundle, is_bundle}
use Rattle.sf_words.specs.Words.{Text, begins_with_hyphen, dashes, is_blank}

-- one of the three
abbrev pub Sort : Text → Type 0
Sort w = (w ≡ dashes) ⊎ (((b : ℕ) × (bs : Text) × (w ≡ 45 ∷ 45 ∷ b ∷ bs)) ⊎ (begins_with_hyphen w ≡ false))

eq-true : (m n : ℕ) → (m == n) ≡ true → m ≡ n
eq-true m n e = (Decides-eqb m n).0 e

pub sort : (w : Text) → is_blank w ≡ false → is_bundle w ≡ false → Sort w
sort [] full single = inr (inr refl)
sort (a ∷ []) full single = go (a == 45) refl
  where
    go : (t : Bool) → (a == 45) ≡ t → Sort (a ∷ [])
    go false e = inr (inr e)
    go true e =
        let blank : is_blank (a ∷ []) ≡ true = ap (λ (x : ℕ). is_blank (x ∷ [])) (eq-true a 45 e) in
        absurd (true≢false (sym blank ∙ full))
sort (a ∷ b ∷ rest) full single = go (a == 45) refl (b == 45) refl rest
  where
    pair : (r : Text) → a ≡ 45 → b ≡ 45 → Sort (a ∷ b ∷ r)
    pair [] e f = inl (ap (λ (x : ℕ). x ∷ b ∷ []) e ∙ ap (λ (x : ℕ). 45 ∷ x ∷ []) f)
    pair (c ∷ cs) e f = inr (inl (c, cs, ap (λ (x : ℕ). x ∷ b ∷ c ∷ cs) e ∙ ap (λ (x : ℕ). 45 ∷ x ∷ c ∷ cs) f))

    go : (t : Bool) → (a == 45) ≡ t → (u : Bool) → (b == 45) ≡ u → (r : Text) → Sort (a ∷ b ∷ r)
    go false e u f r = inr (inr e)
    go true e true f r = pair r (eq-true a 45 e) (eq-true b 45 f)
    go true e false f r =
        let bundle : is_bundle (a ∷ b ∷ rest) ≡ true = rw (e, f) refl in
        absurd (true≢false (sym bundle ∙ single))

-- a word that doesn't begin with `-` is no option, no bundle, and not the end of the options
pub plain-long : (w : Text) → begins_with_hyphen w ≡ false → long_of w ≡ None
plain-long [] e = refl
plain-long (a ∷ rest) e = rw e refl

pub plain-short : (w : Text) → begins_with_hyphen w ≡ false → short_of w ≡ None
plain-short [] e = refl
plain-short (a ∷ rest) e = rw e refl

pub plain-dashes : (w : Text) → begins_with_hyphen w ≡ false → bytes_eq w dashes ≡ false
plain-dashes [] e = refl
plain-dashes (a ∷ rest) e = rw e refl

-- ---- lists of words of which none is blank, and none before the end of the options a bundle

pub record Tidy (words : List Text) : Type 0 where
  pub full : list_any is_blank words ≡ false
  pub single : has_bundle words ≡ false

or-left : (a b : Bool) → (a || b) ≡ false → a ≡ false
or-left false b e = refl
or-left true b e = e

or-right : (a b : Bool) → (a || b) ≡ false → b ≡ false
or-right false b e = e
or-right true b e = absurd (true≢false e)

-- the first of them is of a sort
pub tidy-sort : (w : Text) (ws : List Text) → Tidy (w ∷ ws) → Sort w
tidy-sort w ws t = go (bytes_eq w dashes) refl
  where
    go : (b : Bool) → bytes_eq w dashes ≡ b → Sort w
    go true e = inl ((Rattle.std.proofs.lemmas.Slice.Eq.bytes_eq-Decides w dashes).0 e)
    go false e =
        let single : (is_bundle w || has_bundle ws) ≡ false = sym (ap (λ (x : Bool). cond x false (is_bundle w || has_bundle ws)) e) ∙ t.single in
        sort w (or-left (is_blank w) (list_any is_blank ws) t.full) (or-left (is_bundle w) (has_bundle ws) single)

-- and those after it are tidy, unless it ends the options
pub tidy-rest : (w : Text) (ws : List Text) → bytes_eq w dashes ≡ false → Tidy (w ∷ ws) → Tidy ws
tidy-rest w ws e t =
    let single : (is_bundle w || has_bundle ws) ≡ false = sym (ap (λ (x : Bool). cond x false (is_bundle w || has_bundle ws)) e) ∙ t.single in
    record {
      full = or-right (is_blank w) (list_any is_blank ws) t.full;
      single = or-right (is_bundle w) (has_bundle ws) single;
    }
