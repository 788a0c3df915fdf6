-- What the reader of command lines does at one word of a command's, by the sort of the word.
use Rattle.std.proofs.Common.{◌≡◌, ◌∙◌, ◌&&◌, Bool, true, false, List, [], ◌∷◌, Option, Some, None, ℕ, ap, ap₂, cond, refl}
use Rattle.clap.specs.Faults.{long_fault, settle_fault, step_fault, turn_fault}
use Rattle.clap.specs.Kinds.{Kinds, or_else}
use Rattle.clap.specs.Walk.{Held, Waiting, Walk, after_flag, after_step, arg_by_long, idle, is_pending, long_met, option, positional, reading_by, settled_rows, walked, with_values}
use Rattle.clap.specs.Words.{Row, Rule, Shape}
use Rattle.clap.specs.declared.error.kind.ErrorKind.TheVariants as kind
use Rattle.clap.specs.declared.parser.matches.ValueSource.TheVariants.{CommandLine}
use Rattle.sf_base.proofs.Equality.{bytes_eq-self}
use Rattle.sf_words.proofs.Rules.{level, operands_full, option-by_id, option-by_long, option_full, rules}
use Rattle.sf_words.proofs.Sorts.{plain-dashes, plain-long, plain-short}
use Rattle.sf_words.specs.Checked.Forms.{operands_id}
use Rattle.sf_words.specs.Words.{Text, begins_with_hyphen, dashes, is_among, name_part, value_part}

abbrev pub Pending : Type 0
Pending = Option (Text × List Text)

abbrev pub held : List Row → Pending → Held
held rows pending = record { rows = rows; pending = pending; skip = 0 }

-- where the walk stands between two words
abbrev pub at : List Row → Pending → Waiting → Bool → Walk
at rows pending waiting trailing = record {
  held = held rows pending;
  waiting = waiting;
  position = 1;
  is_trailing = trailing;
  stopped = None;
}

-- no option's value is due; the flag says whether the word before was an operand
abbrev pub free : Bool → Waiting
free true = positional
free false = idle

-- one more value under a name
abbrev pub more : Rule → Text → List Row → List Row
more a value rows = with_values a.id (reading_by a) CommandLine (value ∷ []) rows

module _ (name : Text) (names : List Text) (apart : is_among names operands_id ≡ false) where
  abbrev pub shape : Shape
  shape = level name names

  abbrev pub c : List Rule
  c = rules names

  -- what was seen is in order, and gives these rows
  pub record Stands (rows : List Row) (pending : Pending) (gives : List Row) : Type 0 where
    pub fits : settle_fault c false (held rows pending) ≡ []
    pub given : settled_rows c pending rows ≡ gives

  and-false : (b : Bool) → (b && false) ≡ false
  and-false true = refl
  and-false false = refl

  -- an operand stands
  pub stands-operand : (word : Text) (rows : List Row) → Stands rows (Some (operands_id, word ∷ [])) (more operands_full word rows)
  stands-operand word rows = record { fits = refl; given = refl }

  -- an option's value stands
  pub stands-value : (n value : Text) (rows : List Row) → is_among names n ≡ true → Stands rows (Some (n, value ∷ [])) (more (option_full n) value rows)
  stands-value n value rows e = let by = option-by_id names n apart e in record { fits = rw by refl; given = rw by refl }

  pub stands-none : (rows : List Row) → Stands rows None rows
  stands-none rows = record { fits = refl; given = refl }

  -- an option without its value doesn't
  pub unfilled : (n : Text) (rows : List Row) → is_among names n ≡ true → settle_fault c false (held rows (Some (n, []))) ≡ kind.InvalidValue ∷ []
  unfilled n rows e = let by = option-by_id names n apart e in rw by refl

  -- ---- a word that doesn't begin with `-`

  -- where no value is due it is an operand
  pub operand-fault : (b : Bool) (word : Text) (rows : List Row) (pending : Pending) (gives : List Row) → begins_with_hyphen word ≡ false → Stands rows pending gives
      → turn_fault shape [] (at rows pending (free b) false) word ≡ []
  operand-fault true word rows pending gives e st = rw (plain-dashes word e, plain-long word e, plain-short word e, and-false (is_pending operands_full pending)) st.fits
  operand-fault false word rows pending gives e st = rw (plain-dashes word e, plain-long word e, plain-short word e, and-false (is_pending operands_full pending)) st.fits

  pub operand-walk : (b : Bool) (word : Text) (rows : List Row) (pending : Pending) (gives : List Row) → begins_with_hyphen word ≡ false → Stands rows pending gives
      → walked c [] (at rows pending (free b) false) word ≡ at gives (Some (operands_id, word ∷ [])) positional false
  unfolding walked
  operand-walk true word rows pending gives e st =
      rw (plain-dashes word e, plain-long word e, plain-short word e, and-false (is_pending operands_full pending)) (ap (λ (r : List Row). at r (Some (operands_id, word ∷ [])) positional false) st.given)
  operand-walk false word rows pending gives e st =
      rw (plain-dashes word e, plain-long word e, plain-short word e, and-false (is_pending operands_full pending)) (ap (λ (r : List Row). at r (Some (operands_id, word ∷ [])) positional false) st.given)

  -- behind the end of the options each word is one
  pub trailing-fault : (waiting : Waiting) (word : Text) (rows : List Row) (pending : Pending) → turn_fault shape [] (at rows pending waiting true) word ≡ settle_fault c false (held rows pending)
  trailing-fault waiting word rows pending = go (is_pending operands_full pending)
    where
      go : (b : Bool) → cond (b && false) [] (settle_fault c false (held rows pending)) ≡ settle_fault c false (held rows pending)
      go true = refl
      go false = refl

  pub trailing-walk : (waiting : Waiting) (word : Text) (rows : List Row) (pending : Pending) (gives : List Row) → Stands rows pending gives
      → walked c [] (at rows pending waiting true) word ≡ at gives (Some (operands_id, word ∷ [])) positional true
  unfolding walked
  trailing-walk waiting word rows pending gives st =
      rw (and-false (is_pending operands_full pending)) (ap (λ (r : List Row). at r (Some (operands_id, word ∷ [])) positional true) st.given)

  -- where a value is due it is that
  pub value-fault : (n word : Text) (rows : List Row) → begins_with_hyphen word ≡ false → turn_fault shape [] (at rows (Some (n, [])) (option n) false) word ≡ []
  value-fault n word rows e = rw (plain-dashes word e, plain-long word e, plain-short word e) refl

  pub value-walk : (n word : Text) (rows : List Row) → begins_with_hyphen word ≡ false → is_among names n ≡ true
      → walked c [] (at rows (Some (n, [])) (option n) false) word ≡ at rows (Some (n, word ∷ [])) idle false
  unfolding walked
  value-walk n word rows e is =
      rw (plain-dashes word e, plain-long word e, plain-short word e, option-by_id names n apart is, bytes_eq-self n) refl

  -- ---- the end of the options

  pub end-fault : (waiting : Waiting) (rows : List Row) (pending : Pending) → turn_fault shape [] (at rows pending waiting false) dashes ≡ []
  end-fault idle rows pending = refl
  end-fault (option n) rows pending = refl
  end-fault positional rows pending = refl

  pub end-walk : (waiting : Waiting) (rows : List Row) (pending : Pending) → walked c [] (at rows pending waiting false) dashes ≡ at rows pending waiting true
  unfolding walked
  end-walk idle rows pending = refl
  end-walk (option n) rows pending = refl
  end-walk positional rows pending = refl

  -- ---- an option

  abbrev flag_fault : Waiting → Text → Option Rule → Option Text → Held → Kinds
  flag_fault waiting word found v h =
      let met = after_flag c waiting word (long_met c found v h).0 (long_met c found v h).1 in
      or_else (long_fault c false found v h) (step_fault shape 1 met.0 met.1)

  abbrev flag_walk : Waiting → Text → Option Rule → Option Text → List Row → Pending → Walk
  flag_walk waiting word found v rows pending =
      let h = held rows pending in
      let met = after_flag c waiting word (long_met c found v h).0 (long_met c found v h).1 in
      after_step c word (at rows pending waiting false) met.0 met.1

  module _ (x : ℕ) (xs : Text) where
    abbrev pub flag : Text
    flag = 45 ∷ 45 ∷ x ∷ xs

    abbrev pub flag_name : Text
    flag_name = name_part (x ∷ xs)

    abbrev pub flag_value : Option Text
    flag_value = value_part (x ∷ xs)

    flag-fault_is : (waiting : Waiting) (rows : List Row) (pending : Pending)
        → turn_fault shape [] (at rows pending waiting false) flag ≡ flag_fault waiting flag (arg_by_long c flag_name) flag_value (held rows pending)
    flag-fault_is idle rows pending = refl
    flag-fault_is (option n) rows pending = refl
    flag-fault_is positional rows pending = refl

    flag-walk_is : (waiting : Waiting) (rows : List Row) (pending : Pending)
        → walked c [] (at rows pending waiting false) flag ≡ flag_walk waiting flag (arg_by_long c flag_name) flag_value rows pending
    unfolding walked
    flag-walk_is idle rows pending = refl
    flag-walk_is (option n) rows pending = refl
    flag-walk_is positional rows pending = refl

    -- the command has no such option
    pub stranger-fault : (waiting : Waiting) (rows : List Row) (pending : Pending) → is_among names flag_name ≡ false
        → turn_fault shape [] (at rows pending waiting false) flag ≡ kind.UnknownArgument ∷ []
    stranger-fault waiting rows pending e =
        flag-fault_is waiting rows pending
        ∙ ap (λ f. flag_fault waiting flag f flag_value (held rows pending)) (option-by_long names flag_name ∙ ap (λ b. cond b (Some (option_full flag_name)) None) e)

    known : is_among names flag_name ≡ true → arg_by_long c flag_name ≡ Some (option_full flag_name)
    known e = option-by_long names flag_name ∙ ap (λ b. cond b (Some (option_full flag_name)) None) e

    known-fault : (waiting : Waiting) (rows : List Row) (pending : Pending) (v : Option Text) → is_among names flag_name ≡ true → flag_value ≡ v
        → turn_fault shape [] (at rows pending waiting false) flag ≡ flag_fault waiting flag (Some (option_full flag_name)) v (held rows pending)
    known-fault waiting rows pending v e f =
        flag-fault_is waiting rows pending ∙ ap₂ (λ o w. flag_fault waiting flag o w (held rows pending)) (known e) f

    known-walk : (waiting : Waiting) (rows : List Row) (pending : Pending) (v : Option Text) → is_among names flag_name ≡ true → flag_value ≡ v
        → walked c [] (at rows pending waiting false) flag ≡ flag_walk waiting flag (Some (option_full flag_name)) v rows pending
    known-walk waiting rows pending v e f =
        flag-walk_is waiting rows pending ∙ ap₂ (λ o w. flag_walk waiting flag o w rows pending) (known e) f

    -- it has, and the value stands in the same word
    pub joined-fault : (waiting : Waiting) (value : Text) (rows : List Row) (pending : Pending) → is_among names flag_name ≡ true → flag_value ≡ Some value
        → turn_fault shape [] (at rows pending waiting false) flag ≡ or_else (or_else (settle_fault c false (held rows pending)) []) []
    joined-fault waiting value rows pending e f = known-fault waiting rows pending (Some value) e f

    pub joined-walk : (waiting : Waiting) (value : Text) (rows : List Row) (pending : Pending) (gives : List Row) → is_among names flag_name ≡ true → flag_value ≡ Some value
        → Stands rows pending gives → walked c [] (at rows pending waiting false) flag ≡ at (more (option_full flag_name) value gives) None idle false
    joined-walk waiting value rows pending gives e f st =
        known-walk waiting rows pending (Some value) e f ∙ ap (λ (r : List Row). at (more (option_full flag_name) value r) None idle false) st.given

    -- or the next word is to be the value
    pub apart-fault : (waiting : Waiting) (rows : List Row) (pending : Pending) → is_among names flag_name ≡ true → flag_value ≡ None
        → turn_fault shape [] (at rows pending waiting false) flag ≡ or_else (settle_fault c false (held rows pending)) []
    apart-fault waiting rows pending e f = known-fault waiting rows pending None e f

    pub apart-walk : (waiting : Waiting) (rows : List Row) (pending : Pending) (gives : List Row) → is_among names flag_name ≡ true → flag_value ≡ None
        → Stands rows pending gives → walked c [] (at rows pending waiting false) flag ≡ at gives (Some (flag_name, [])) (option flag_name) false
    apart-walk waiting rows pending gives e f st =
        known-walk waiting rows pending None e f ∙ ap (λ (r : List Row). at r (Some (flag_name, [])) (option flag_name) false) st.given
