-- Words with a bundle of letters before the end of the options are no order.
use Rattle.std.proofs.Common.{◌≡◌, ◌∙◌, ◌||◌, ◌&&◌, ◌==◌, Bool, true, false, not, List, [], ◌∷◌, Option, Some, None, ap, codes, cond, refl, sym, true≢false}
use Rattle.std.specs.List.{list_any}
use Rattle.std.specs.Prelude.{option_and_then}
use Rattle.std.specs.Str.{bytes_eq}
use Rattle.sf_base.proofs.Equality.{bytes_eq-same}
use Rattle.sf_words.specs.Checked.Screen.{has_bundle, is_bundle}
use Rattle.sf_words.specs.Words.{Given, Order, Part, Text, begins_with_hyphen, dashes, demo_given, due_behind, ending, given, given_with, is_among, is_blank, journal_given, no_options, operand, option_of, order_of, order_of_command, outside, part_of, part_of_option, ranking_given, recheck_given, replay_given, run_given, run_options, setting, verify_given, verify_options, witness_given}

module _ (names : List Text) where
  -- a bundle may not stand there
  bundle-outside : (waits : Option Text) (w : Text) → is_bundle w ≡ true → part_of names waits w ≡ outside
  bundle-outside waits [] e = absurd (true≢false (sym e))
  bundle-outside waits (a ∷ []) e = absurd (true≢false (sym e))
  bundle-outside waits (a ∷ b ∷ rest) e = go (a == 45) refl (b == 45) refl waits
    where
      go : (t : Bool) → (a == 45) ≡ t → (u : Bool) → (b == 45) ≡ u → (o : Option Text) → part_of names o (a ∷ b ∷ rest) ≡ outside
      go false f u g o = absurd (true≢false (sym e ∙ ap (λ (x : Bool). x && not (b == 45)) f))
      go true f true g o = absurd (true≢false (sym e ∙ ap (λ (x : Bool). x && not (b == 45)) f ∙ ap not g))
      go true f false g (Some n) = rw f refl
      go true f false g None = rw (f, g) refl

  -- where the words after it give nothing, and it doesn't end the options, it gives nothing
  option-none : (words : List Text) (o : Option (Text × Option Text)) → given_with (part_of_option names o) words None ≡ None
  option-none words None = refl
  option-none words (Some (n, Some value)) = go (is_among names n)
    where
      go : (b : Bool) → given_with (cond b (setting n value) outside) words None ≡ None
      go true = refl
      go false = refl
  option-none words (Some (n, None)) = go (is_among names n)
    where
      go : (b : Bool) → given_with (cond b (Rattle.sf_words.specs.Words.due n) outside) words None ≡ None
      go true = refl
      go false = refl

  part-none : (waits : Option Text) (w : Text) (words : List Text) → bytes_eq w dashes ≡ false → given_with (part_of names waits w) words None ≡ None
  part-none (Some n) w words e = go (begins_with_hyphen w)
    where
      go : (b : Bool) → given_with (cond b outside (setting n w)) words None ≡ None
      go true = refl
      go false = refl
  part-none None w words e = go (begins_with_hyphen w)
    where
      inner : (b : Bool) → b ≡ false → given_with (cond b ending (part_of_option names (option_of w))) words None ≡ None
      inner false f = option-none words (option_of w)
      inner true f = absurd (true≢false f)

      go : (b : Bool) → given_with (cond (not b) (operand w) (cond (bytes_eq w dashes) ending (part_of_option names (option_of w)))) words None ≡ None
      go false = refl
      go true = inner (bytes_eq w dashes) e

  given-step : (waits : Option Text) (w : Text) (words : List Text)
      → given names waits (w ∷ words) ≡ given_with (part_of names waits w) words (given names (due_behind (part_of names waits w)) words)
  given-step None w words = refl
  given-step (Some n) w words = refl

  pub bundle-gives : (waits : Option Text) (words : List Text) → has_bundle words ≡ true → given names waits words ≡ None
  bundle-gives waits [] e = absurd (true≢false (sym e))
  bundle-gives waits (w ∷ words) e =
      go (bytes_eq w dashes) refl (is_bundle w) refl (λ h. bundle-gives (due_behind (part_of names waits w)) words h)
    where
      go : (a : Bool) → bytes_eq w dashes ≡ a → (b : Bool) → is_bundle w ≡ b
          → (has_bundle words ≡ true → given names (due_behind (part_of names waits w)) words ≡ None) → given names waits (w ∷ words) ≡ None
      go true f b g below = absurd (true≢false (sym e ∙ ap (λ (x : Bool). cond x false (is_bundle w || has_bundle words)) f))
      go false f true g below =
          given-step waits w words ∙ ap (λ (p : Part). given_with p words (given names (due_behind p) words)) (bundle-outside waits w g)
      go false f false g below =
          let rest : has_bundle words ≡ true = sym (ap (λ (x : Bool). cond x false (is_bundle w || has_bundle words)) f ∙ ap (λ (x : Bool). x || has_bundle words) g) ∙ e in
          given-step waits w words ∙ ap (λ (o : Option Given). given_with (part_of names waits w) words o) (below rest) ∙ part-none waits w words f

-- a command's words
command-none : (w : Text) (words : List Text) → has_bundle (w ∷ words) ≡ true → order_of_command w words ≡ None
command-none w words e =
    go (bytes_eq (codes "verify") w) refl (bytes_eq (codes "recheck") w) refl (bytes_eq (codes "run") w) refl (bytes_eq (codes "demo") w) refl
    (bytes_eq (codes "order") w) refl (bytes_eq (codes "replay") w) refl
    (bytes_eq (codes "witness") w) refl (bytes_eq (codes "journal") w) refl
  where
    rest : (name : Text) → bytes_eq name w ≡ true → (has_bundle (name ∷ words) ≡ true → has_bundle words ≡ true) → has_bundle words ≡ true
    rest name f h = h (ap (λ (x : Text). has_bundle (x ∷ words)) (bytes_eq-same name w f) ∙ e)

    go : (a : Bool) → bytes_eq (codes "verify") w ≡ a → (b : Bool) → bytes_eq (codes "recheck") w ≡ b → (d : Bool) → bytes_eq (codes "run") w ≡ d
        → (f : Bool) → bytes_eq (codes "demo") w ≡ f → (g : Bool) → bytes_eq (codes "order") w ≡ g
        → (h : Bool) → bytes_eq (codes "replay") w ≡ h → (k : Bool) → bytes_eq (codes "witness") w ≡ k
        → (j : Bool) → bytes_eq (codes "journal") w ≡ j
        → order_of_command w words ≡ None
    go true e₁ b e₂ d e₃ f e₄ g e₅ h e₆ k e₇ j e₈ = rw e₁ (ap (option_and_then verify_given) (bundle-gives verify_options None words (rest (codes "verify") e₁ (λ h. h))))
    go false e₁ true e₂ d e₃ f e₄ g e₅ h e₆ k e₇ j e₈ = rw (e₁, e₂) (ap (option_and_then recheck_given) (bundle-gives no_options None words (rest (codes "recheck") e₂ (λ h. h))))
    go false e₁ false e₂ true e₃ f e₄ g e₅ h e₆ k e₇ j e₈ = rw (e₁, e₂, e₃) (ap (option_and_then run_given) (bundle-gives run_options None words (rest (codes "run") e₃ (λ h. h))))
    go false e₁ false e₂ false e₃ true e₄ g e₅ h e₆ k e₇ j e₈ = rw (e₁, e₂, e₃, e₄) (ap (option_and_then demo_given) (bundle-gives no_options None words (rest (codes "demo") e₄ (λ h. h))))
    go false e₁ false e₂ false e₃ false e₄ true e₅ h e₆ k e₇ j e₈ =
        rw (e₁, e₂, e₃, e₄, e₅) (ap (option_and_then ranking_given) (bundle-gives no_options None words (rest (codes "order") e₅ (λ h. h))))
    go false e₁ false e₂ false e₃ false e₄ false e₅ true e₆ k e₇ j e₈ =
        rw (e₁, e₂, e₃, e₄, e₅, e₆) (ap (option_and_then replay_given) (bundle-gives no_options None words (rest (codes "replay") e₆ (λ h. h))))
    go false e₁ false e₂ false e₃ false e₄ false e₅ false e₆ true e₇ j e₈ =
        rw (e₁, e₂, e₃, e₄, e₅, e₆, e₇) (ap (option_and_then witness_given) (bundle-gives no_options None words (rest (codes "witness") e₇ (λ h. h))))
    go false e₁ false e₂ false e₃ false e₄ false e₅ false e₆ false e₇ true e₈ =
        rw (e₁, e₂, e₃, e₄, e₅, e₆, e₇, e₈) (ap (option_and_then journal_given) (bundle-gives run_options None words (rest (codes "journal") e₈ (λ h. h))))
    go false e₁ false e₂ false e₃ false e₄ false e₅ false e₆ false e₇ false e₈ = rw (e₁, e₂, e₃, e₄, e₅, e₆, e₇, e₈) refl

pub bundle-none : (words : List Text) → has_bundle words ≡ true → order_of words ≡ None
bundle-none [] e = refl
bundle-none (w ∷ words) e = go (list_any is_blank (w ∷ words)) (command-none w words e)
  where
    go : (b : Bool) → order_of_command w words ≡ None → cond b None (order_of_command w words) ≡ None
    go true f = refl
    go false f = f
