-- A command's words as a whole: what the reader of command lines adds at their end changes nothing.
use Rattle.std.proofs.Common.{◌≡◌, ◌∙◌, ◌||◌, ◌&&◌, Bool, true, false, not, List, [], ◌∷◌, None, ap, ap₂, cond, map, refl, subst, sym}
use Rattle.std.specs.List.{fold, list_any}
use Rattle.clap.specs.Faults.{check_fault, defaults_fault, level_fault, settle_fault, walk_fault}
use Rattle.clap.specs.Kinds.{Kinds, check_kinds, or_else}
use Rattle.clap.specs.Takes.{is_given}
use Rattle.clap.specs.Walk.{has_row, idle, nothing_held, rows_after, walk, with_default}
use Rattle.clap.specs.Words.{Row, Rule, Shape}
use Rattle.sf_words.proofs.Rules.{operands_full, option_full, rules}
use Rattle.sf_words.proofs.Sorts.{Tidy}
use Rattle.sf_words.proofs.Steps.{at, shape, stands-none}
use Rattle.sf_words.proofs.Walks.{Claims, both, tail_fault, tail_rows}
use Rattle.sf_words.specs.Checked.Forms.{operands_id}
use Rattle.sf_words.specs.Words.{Text, given, is_among}

-- ---- nothing has a default, and nothing is required

quiet : (b : Bool) (k : Kinds) → cond (b || true) [] k ≡ []
quiet true k = refl
quiet false k = refl

same : (b : Bool) (rows : List Row) → cond b rows rows ≡ rows
same true rows = refl
same false rows = refl

option-kept : (n : Text) (rows : List Row) → with_default rows (option_full n) ≡ rows
option-kept n rows = same (has_row n rows) rows

operands-kept : (rows : List Row) → with_default rows operands_full ≡ rows
operands-kept rows = same (has_row operands_id rows) rows

options-quiet : (names : List Text) (rows : List Row) → defaults_fault rows (map option_full names) ≡ []
unfolding defaults_fault
options-quiet [] rows = refl
options-quiet (n ∷ names) rows =
    ap₂ or_else (quiet (has_row n rows) []) (ap (λ (r : List Row). defaults_fault r (map option_full names)) (option-kept n rows) ∙ options-quiet names rows)

rules-quiet : (names : List Text) (rows : List Row) → defaults_fault rows (rules names) ≡ []
unfolding defaults_fault
rules-quiet names rows =
    ap₂ or_else (quiet (has_row operands_id rows) []) (ap (λ (r : List Row). defaults_fault r (map option_full names)) (operands-kept rows) ∙ options-quiet names rows)

options-kept : (names : List Text) (rows : List Row) → fold with_default rows (map option_full names) ≡ rows
options-kept [] rows = refl
options-kept (n ∷ names) rows = ap (λ (r : List Row). fold with_default r (map option_full names)) (option-kept n rows) ∙ options-kept names rows

rules-kept : (names : List Text) (rows : List Row) → fold with_default rows (rules names) ≡ rows
rules-kept names rows = ap (λ (r : List Row). fold with_default r (map option_full names)) (operands-kept rows) ∙ options-kept names rows

none-required : (names : List Text) (rows : List Row) → list_any (λ (a : Rule). a.required && not (is_given a.id rows)) (map option_full names) ≡ false
none-required [] rows = refl
none-required (n ∷ names) rows = none-required names rows

or_else-nil : (k : Kinds) → or_else k [] ≡ k
or_else-nil [] = refl
or_else-nil (k ∷ ks) = refl

module _ (name : Text) (names : List Text) (apart : is_among names operands_id ≡ false) where
  abbrev s : Shape
  s = shape name names apart

  check-quiet : (rows : List Row) → check_fault s rows false ≡ []
  check-quiet rows = ap (λ (b : Bool). check_kinds false false b) (none-required names rows)

  level-tail : (words : List Text) → tail_fault s (at [] None idle false) words ≡ level_fault s [] nothing_held words false []
  level-tail words =
      let end = (walk s.rules [] nothing_held words).held in
      let rows = tail_rows s (at [] None idle false) words in
      let last : or_else (defaults_fault rows s.rules) (check_fault s (fold with_default rows s.rules) false) ≡ [] =
      ap₂ or_else (rules-quiet names rows) (check-quiet (fold with_default rows s.rules)) in
      sym (ap (λ (k : Kinds). or_else (walk_fault s [] (at [] None idle false) words) (or_else (settle_fault s.rules false end) k)) last
      ∙ ap (λ (k : Kinds). or_else (walk_fault s [] (at [] None idle false) words) k) (or_else-nil (settle_fault s.rules false end)))

  pub level-claims : (words : List Text) → Tidy words
      → Claims names (given names None words) (level_fault s [] nothing_held words false []) [] (rows_after s.rules [] words)
  level-claims words t =
      let start = at [] None idle false in
      let rows : tail_rows s start words ≡ rows_after s.rules [] words = sym (rules-kept names (tail_rows s start words)) in
      let walks = (both name names apart words t).0 false [] None [] (stands-none name names apart []) in
      subst (λ (k : Kinds). Claims names (given names None words) k [] (rows_after s.rules [] words)) (level-tail words)
      (subst (λ (r : List Row). Claims names (given names None words) (tail_fault s start words) [] r) rows walks)
