-- What the reader of command lines knows of a command once it is built, and how it finds an option.
use Rattle.std.proofs.Common.{◌≡◌, ◌∙◌, ◌||◌, ◌&&◌, Bool, true, false, not, List, [], ◌∷◌, Some, None, ap, cond, map, refl, sym, true≢false}
use Rattle.std.specs.List.{find}
use Rattle.std.specs.Option.{is_some}
use Rattle.std.specs.Str.{bytes_eq}
use Rattle.clap.specs.Simple.{filled, new_shape, with_index}
use Rattle.clap.specs.Walk.{arg_by_id, arg_by_long, has_long}
use Rattle.clap.specs.Words.{Rule, Shape}
use Rattle.sf_base.proofs.Equality.{bytes_eq-same}
use Rattle.sf_words.specs.Checked.Forms.{operands_id, operands_rule, option_rule}
use Rattle.sf_words.specs.Words.{Text, is_among}

-- the operands, at the first place
abbrev pub operands_full : Rule
operands_full = with_index 1 (filled operands_rule)

-- an option
abbrev pub option_full : Text → Rule
option_full name = with_index 2 (filled (option_rule name))

abbrev pub rules : List Text → List Rule
rules names = operands_full ∷ map option_full names

-- the command
abbrev pub level : Text → List Text → Shape
level name names = record (new_shape name) {
  rules = rules names;
  no_binary_name = true;
  disable_help_flag = true;
  disable_help_subcommand = true;
  disable_version_flag = true;
  is_built = true;
}

-- an option is found by its name
long-among : (names : List Text) (n : Text) → find (λ (a : Rule). not (is_some a.index) && has_long a n) (map option_full names) ≡ cond (is_among names n) (Some (option_full n)) None
long-among [] n = refl
long-among (m ∷ names) n = go (bytes_eq m n) refl (long-among names n)
  where
    go : (b : Bool) → bytes_eq m n ≡ b → find (λ (a : Rule). not (is_some a.index) && has_long a n) (map option_full names) ≡ cond (is_among names n) (Some (option_full n)) None
        → find (λ (a : Rule). not (is_some a.index) && has_long a n) (map option_full (m ∷ names)) ≡ cond (is_among (m ∷ names) n) (Some (option_full n)) None
    go true e below = rw e (ap (λ (t : Text). Some (option_full t)) (bytes_eq-same m n e))
    go false e below = rw e below

pub option-by_long : (names : List Text) (n : Text) → arg_by_long (rules names) n ≡ cond (is_among names n) (Some (option_full n)) None
option-by_long names n = long-among names n

-- and by its id, which is its name
id-among : (names : List Text) (n : Text) → is_among names n ≡ true → find (λ (a : Rule). bytes_eq a.id n) (map option_full names) ≡ Some (option_full n)
id-among [] n e = absurd (true≢false (sym e))
id-among (m ∷ names) n e = go (bytes_eq m n) refl (λ f. id-among names n (sym (ap (λ (b : Bool). b || is_among names n) f) ∙ e))
  where
    go : (b : Bool) → bytes_eq m n ≡ b → (bytes_eq m n ≡ false → find (λ (a : Rule). bytes_eq a.id n) (map option_full names) ≡ Some (option_full n))
        → find (λ (a : Rule). bytes_eq a.id n) (map option_full (m ∷ names)) ≡ Some (option_full n)
    go true f below = rw f (ap (λ (t : Text). Some (option_full t)) (bytes_eq-same m n f))
    go false f below = rw f (below f)

-- no option has the operands' id
pub among-other : (names : List Text) (n : Text) → is_among names operands_id ≡ false → is_among names n ≡ true → bytes_eq operands_id n ≡ false
among-other names n apart e = go (bytes_eq operands_id n) refl
  where
    go : (b : Bool) → bytes_eq operands_id n ≡ b → b ≡ false
    go false f = refl
    go true f =
        let same : is_among names operands_id ≡ true = ap (is_among names) (bytes_eq-same operands_id n f) ∙ e in
        absurd (true≢false (sym same ∙ apart))

pub option-by_id : (names : List Text) (n : Text) → is_among names operands_id ≡ false → is_among names n ≡ true → arg_by_id (rules names) n ≡ Some (option_full n)
option-by_id names n apart e = rw (among-other names n apart e) (id-among names n e)
