-- What the reader of command lines finds in the words behind a command's is what they give to it.
use Rattle.std.proofs.Common.{◌≡◌, ◌∙◌, ◌++◌, Bool, true, false, List, [], ◌∷◌, Option, Some, None, ℕ, ap, ap₂, append_assoc, append-nil, cond, inl, inr, refl, subst, sym, true≢false}
use Rattle.std.specs.List.{fold}
use Rattle.std.specs.Str.{bytes_eq}
use Rattle.clap.specs.Faults.{settle_fault, turn_fault, walk_fault}
use Rattle.clap.specs.Kinds.{Kinds, or_else}
use Rattle.clap.specs.Walk.{Waiting, Walk, idle, option, positional, reading_by, settled_rows, walked}
use Rattle.clap.specs.Words.{Row, Shape}
use Rattle.clap.specs.declared.error.kind.ErrorKind.{ErrorKind}
use Rattle.clap.specs.declared.error.kind.ErrorKind.TheVariants as kind
use Rattle.clap.specs.declared.parser.matches.ValueSource.TheVariants.{CommandLine}
use Rattle.sf_base.proofs.Equality.{bytes_eq-same}
use Rattle.sf_words.proofs.Rules.{among-other, option_full, operands_full}
use Rattle.sf_words.proofs.Sorts.{Tidy, plain-dashes, tidy-rest, tidy-sort}
use Rattle.sf_words.proofs.Steps as step
use Rattle.sf_words.proofs.Steps.{Pending, Stands, at, free, held, more, shape}
use Rattle.sf_words.proofs.Values.{values-added}
use Rattle.sf_words.specs.Checked.Forms.{operands_id, values_at}
use Rattle.sf_words.specs.Words.{Given, Part, Text, begins_with_hyphen, dashes, due, due_behind, given, given_with, is_among, operand, outside, part_of, part_of_option, setting, values_of}

-- ---- the faults and the rows of the walk from a place on, with what is pending at its end

abbrev pub tail_fault : Shape → Walk → List Text → Kinds
tail_fault s w words = or_else (walk_fault s [] w words) (settle_fault s.rules s.args_override_self (fold (walked s.rules []) w words).held)

abbrev pub tail_rows : Shape → Walk → List Text → List Row
tail_rows s w words = settled_rows s.rules (fold (walked s.rules []) w words).held.pending (fold (walked s.rules []) w words).held.rows

or_else-assoc : (a b c : Kinds) → or_else (or_else a b) c ≡ or_else a (or_else b c)
or_else-assoc [] b c = refl
or_else-assoc (k ∷ ks) b c = refl

tail-next : (s : Shape) (w : Walk) (word : Text) (words : List Text)
    → tail_fault s w (word ∷ words) ≡ or_else (turn_fault s [] w word) (tail_fault s (walked s.rules [] w word) words)
unfolding walk_fault
tail-next s w word words =
    or_else-assoc (turn_fault s [] w word) (walk_fault s [] (walked s.rules [] w word) words)
    (settle_fault s.rules s.args_override_self (fold (walked s.rules []) (walked s.rules [] w word) words).held)

tail-end : (s : Shape) (w : Walk) → tail_fault s w [] ≡ settle_fault s.rules s.args_override_self w.held
unfolding walk_fault
tail-end s w = refl

cons-nil : (k : ErrorKind) (ks : Kinds) → k ∷ ks ≡ [] → ⊥
cons-nil k ks e = cc

-- ---- what the words give, and what is found

-- from what stood under each name before the words, what stands there after them
abbrev pub Claims : List Text → Option Given → Kinds → List Row → List Row → Type 0
Claims names None kinds before after = kinds ≡ [] → ⊥
Claims names (Some g) kinds before after = (kinds ≡ []) × (values_at operands_id after ≡ values_at operands_id before ++ g.operands)
    × ((n : Text) → is_among names n ≡ true → values_at n after ≡ values_at n before ++ values_of n g.settings)

module _ (name : Text) (names : List Text) (apart : is_among names operands_id ≡ false) where
  abbrev s : Shape
  s = shape name names apart

  -- the word is refused
  refused : (w : Walk) (word : Text) (words : List Text) (k : ErrorKind) (ks : Kinds) (before after : List Row)
      → turn_fault s [] w word ≡ k ∷ ks → Claims names None (tail_fault s w (word ∷ words)) before after
  refused w word words k ks before after e none =
      cons-nil k (ks) (sym (tail-next s w word words ∙ ap (λ (x : Kinds). or_else x (tail_fault s (walked s.rules [] w word) words)) e) ∙ none)

  -- the word passes
  passed : (w next : Walk) (word : Text) (words : List Text) (o : Option Given) (before : List Row) → turn_fault s [] w word ≡ []
      → walked s.rules [] w word ≡ next → Claims names o (tail_fault s next words) before (tail_rows s next words)
      → Claims names o (tail_fault s w (word ∷ words)) before (tail_rows s w (word ∷ words))
  passed w next word words o before e to h =
      let kinds : tail_fault s next words ≡ tail_fault s w (word ∷ words) =
      sym (tail-next s w word words ∙ ap₂ (λ (x : Kinds) (y : Walk). or_else x (tail_fault s y words)) e to) in
      let rows : tail_rows s next words ≡ tail_rows s w (word ∷ words) = ap (λ (y : Walk). tail_rows s y words) (sym to) in
      subst (λ (ks : Kinds). Claims names o ks before (tail_rows s w (word ∷ words))) kinds
      (subst (λ (rs : List Row). Claims names o (tail_fault s next words) before rs) rows h)

  -- ---- what one more word adds

  abbrev operand_more : Text → List Row → List Row
  operand_more word before = more operands_full word before

  abbrev setting_more : Text → Text → List Row → List Row
  setting_more n value before = more (option_full n) value before

  other-way : (n : Text) → is_among names n ≡ true → bytes_eq n operands_id ≡ false
  other-way n e = go (bytes_eq n operands_id) refl
    where
      go : (b : Bool) → bytes_eq n operands_id ≡ b → b ≡ false
      go false f = refl
      go true f =
          let same : is_among names operands_id ≡ true = sym (ap (is_among names) (bytes_eq-same n operands_id f)) ∙ e in
          absurd (true≢false (sym same ∙ apart))

  -- an operand
  one_operand : (word : Text) (words : List Text) (o : Option Given) (kinds : Kinds) (before after : List Row)
      → Claims names o kinds (operand_more word before) after → Claims names (given_with (operand word) words o) kinds before after
  one_operand word words None kinds before after h = h
  one_operand word words (Some g) kinds before after h = (
    h.0,
    h.1 ∙ ap (λ (x : List Text). x ++ g.operands) (values-added operands_id operands_id (reading_by operands_full) CommandLine (word ∷ []) before)
        ∙ append_assoc (values_at operands_id before) (word ∷ []) g.operands,
    λ n e. h.2 n e ∙ ap (λ (x : List Text). x ++ values_of n g.settings)
        (values-added operands_id n (reading_by operands_full) CommandLine (word ∷ []) before
        ∙ ap (λ (b : Bool). cond b (values_at n before ++ word ∷ []) (values_at n before)) (among-other names n apart e)),
  )

  -- the values under a name, with one more option
  one_value : (n m value : Text) (settings : List (Text × Text)) (before : List Text) (b : Bool) → bytes_eq n m ≡ b
      → cond b (before ++ value ∷ []) before ++ values_of m settings ≡ before ++ cond b (value ∷ values_of m settings) (values_of m settings)
  one_value n m value settings before true e = append_assoc before (value ∷ []) (values_of m settings)
  one_value n m value settings before false e = refl

  -- an option with its value
  one_setting : (n value : Text) (words : List Text) (o : Option Given) (kinds : Kinds) (before after : List Row) → is_among names n ≡ true
      → Claims names o kinds (setting_more n value before) after → Claims names (given_with (setting n value) words o) kinds before after
  one_setting n value words None kinds before after e h = h
  one_setting n value words (Some g) kinds before after e h = (
    h.0,
    h.1 ∙ ap (λ (x : List Text). x ++ g.operands)
        (values-added n operands_id (reading_by (option_full n)) CommandLine (value ∷ []) before
        ∙ ap (λ (b : Bool). cond b (values_at operands_id before ++ value ∷ []) (values_at operands_id before)) (other-way n e)),
    λ m f. h.2 m f ∙ ap (λ (x : List Text). x ++ values_of m g.settings) (values-added n m (reading_by (option_full n)) CommandLine (value ∷ []) before)
        ∙ one_value n m value g.settings (values_at m before) (bytes_eq n m) refl,
  )

  -- ---- behind the end of the options

  trail : (rows : List Row) (pending : Pending) (waiting : Waiting) (gives : List Row) (words : List Text) → Stands name names apart rows pending gives
      → Claims names (Some (record { operands = words; settings = [] })) (tail_fault s (at rows pending waiting true) words) gives (tail_rows s (at rows pending waiting true) words)
  trail rows pending waiting gives [] st = (
    tail-end s (at rows pending waiting true) ∙ st.fits,
    ap (values_at operands_id) st.given ∙ sym (append-nil (values_at operands_id gives)),
    λ n e. ap (values_at n) st.given ∙ sym (append-nil (values_at n gives)),
  )
  trail rows pending waiting gives (word ∷ words) st =
      passed (at rows pending waiting true) (at gives (Some (operands_id, word ∷ [])) positional true) word words (Some (record { operands = word ∷ words; settings = [] })) gives
      (step.trailing-fault name names apart waiting word rows pending ∙ st.fits) (step.trailing-walk name names apart waiting word rows pending gives st)
      (one_operand word words (Some (record { operands = words; settings = [] })) (tail_fault s (at gives (Some (operands_id, word ∷ [])) positional true) words) gives
      (tail_rows s (at gives (Some (operands_id, word ∷ [])) positional true) words)
      (trail gives (Some (operands_id, word ∷ [])) positional (operand_more word gives) words (step.stands-operand name names apart word gives)))

  -- where the value of an option is due, the end of the options is refused at the next step
  starved : (n : Text) (rows before after : List Row) (waiting : Waiting) (words : List Text) → is_among names n ≡ true
      → Claims names None (tail_fault s (at rows (Some (n, [])) waiting true) words) before after
  starved n rows before after waiting [] e =
      λ none. cons-nil kind.InvalidValue [] (sym (tail-end s (at rows (Some (n, [])) waiting true) ∙ step.unfilled name names apart n rows e) ∙ none)
  starved n rows before after waiting (word ∷ words) e =
      refused (at rows (Some (n, [])) waiting true) word words kind.InvalidValue [] before after
      (step.trailing-fault name names apart waiting word rows (Some (n, [])) ∙ step.unfilled name names apart n rows e)

  -- ---- what a word is

  part-plain : (word : Text) → begins_with_hyphen word ≡ false → part_of names None word ≡ operand word
  part-plain word e = rw e refl

  part-value : (n word : Text) → begins_with_hyphen word ≡ false → part_of names (Some n) word ≡ setting n word
  part-value n word e = rw e refl

  part-stranger : (n : Text) (v : Option Text) → is_among names n ≡ false → part_of_option names (Some (n, v)) ≡ outside
  part-stranger n (Some value) e = rw e refl
  part-stranger n None e = rw e refl

  part-joined : (n value : Text) (v : Option Text) → is_among names n ≡ true → v ≡ Some value → part_of_option names (Some (n, v)) ≡ setting n value
  part-joined n value v e f = ap (λ (o : Option Text). part_of_option names (Some (n, o))) f ∙ rw e refl

  part-apart : (n : Text) (v : Option Text) → is_among names n ≡ true → v ≡ None → part_of_option names (Some (n, v)) ≡ due n
  part-apart n v e f = ap (λ (o : Option Text). part_of_option names (Some (n, o))) f ∙ rw e refl

  -- ---- the words from a place on

  abbrev given_by : List Text → Part → Option Given
  given_by words part = given_with part words (given names (due_behind part) words)

  by_part : (words : List Text) (p q : Part) (kinds : Kinds) (before after : List Row) → p ≡ q → Claims names (given_by words q) kinds before after
      → Claims names (given_by words p) kinds before after
  by_part words p q kinds before after e h = subst (λ (x : Part). Claims names (given_by words x) kinds before after) (sym e) h

  -- where no value is due, and where one is
  abbrev Free : List Text → Type 0
  Free words = (b : Bool) (rows : List Row) (pending : Pending) (gives : List Row) → Stands name names apart rows pending gives
      → Claims names (given names None words) (tail_fault s (at rows pending (free b) false) words) gives (tail_rows s (at rows pending (free b) false) words)

  abbrev Due : List Text → Type 0
  Due words = (n : Text) (rows : List Row) → is_among names n ≡ true
      → Claims names (given names (Some n) words) (tail_fault s (at rows (Some (n, [])) (option n) false) words) rows (tail_rows s (at rows (Some (n, [])) (option n) false) words)

  abbrev Both : List Text → Type 0
  Both words = Free words × Due words

  free-end : Free []
  free-end b rows pending gives st = (
    tail-end s (at rows pending (free b) false) ∙ st.fits,
    ap (values_at operands_id) st.given ∙ sym (append-nil (values_at operands_id gives)),
    λ n e. ap (values_at n) st.given ∙ sym (append-nil (values_at n gives)),
  )

  due-end : Due []
  due-end n rows e = λ none. cons-nil kind.InvalidValue [] (sym (tail-end s (at rows (Some (n, [])) (option n) false) ∙ step.unfilled name names apart n rows e) ∙ none)

  free-plain : (word : Text) (words : List Text) → begins_with_hyphen word ≡ false → Both words → Free (word ∷ words)
  free-plain word words e below b rows pending gives st =
      let w = at rows pending (free b) false in
      let next = at gives (Some (operands_id, word ∷ [])) positional false in
      let more = below.0 true gives (Some (operands_id, word ∷ [])) (operand_more word gives) (step.stands-operand name names apart word gives) in
      by_part words (part_of names None word) (operand word) (tail_fault s w (word ∷ words)) gives (tail_rows s w (word ∷ words)) (part-plain word e)
      (passed w next word words (given_by words (operand word)) gives (step.operand-fault name names apart b word rows pending gives e st)
      (step.operand-walk name names apart b word rows pending gives e st)
      (one_operand word words (given names None words) (tail_fault s next words) gives (tail_rows s next words) more))

  free-ends : (words : List Text) → Free (dashes ∷ words)
  free-ends words b rows pending gives st =
      passed (at rows pending (free b) false) (at rows pending (free b) true) dashes words (Some (record { operands = words; settings = [] })) gives
      (step.end-fault name names apart (free b) rows pending) (step.end-walk name names apart (free b) rows pending) (trail rows pending (free b) gives words st)

  due-plain : (word : Text) (words : List Text) → begins_with_hyphen word ≡ false → Both words → Due (word ∷ words)
  due-plain word words e below n rows is =
      let w = at rows (Some (n, [])) (option n) false in
      let next = at rows (Some (n, word ∷ [])) idle false in
      let more = below.0 false rows (Some (n, word ∷ [])) (setting_more n word rows) (step.stands-value name names apart n word rows is) in
      by_part words (part_of names (Some n) word) (setting n word) (tail_fault s w (word ∷ words)) rows (tail_rows s w (word ∷ words)) (part-value n word e)
      (passed w next word words (given_by words (setting n word)) rows (step.value-fault name names apart n word rows e)
      (step.value-walk name names apart n word rows e is)
      (one_setting n word words (given names None words) (tail_fault s next words) rows (tail_rows s next words) is more))

  due-ends : (words : List Text) → Due (dashes ∷ words)
  due-ends words n rows is =
      passed (at rows (Some (n, [])) (option n) false) (at rows (Some (n, [])) (option n) true) dashes words None rows
      (step.end-fault name names apart (option n) rows (Some (n, []))) (step.end-walk name names apart (option n) rows (Some (n, [])))
      (starved n rows rows (tail_rows s (at rows (Some (n, [])) (option n) true) words) (option n) words is)

  module _ (x : ℕ) (xs : Text) (words : List Text) where
    abbrev word : Text
    word = step.flag name names apart x xs

    abbrev n : Text
    n = step.flag_name name names apart x xs

    abbrev v : Option Text
    v = step.flag_value name names apart x xs

    free-flag : Both words → Free (word ∷ words)
    free-flag below b rows pending gives st = go (is_among names n) refl v refl
      where
        go : (i : Bool) → is_among names n ≡ i → (o : Option Text) → v ≡ o
            → Claims names (given_by words (part_of_option names (Some (n, v)))) (tail_fault s (at rows pending (free b) false) (word ∷ words)) gives
            (tail_rows s (at rows pending (free b) false) (word ∷ words))
        go false e o f =
            let w = at rows pending (free b) false in
            by_part words (part_of_option names (Some (n, v))) outside (tail_fault s w (word ∷ words)) gives (tail_rows s w (word ∷ words)) (part-stranger n v e)
            (refused w word words kind.UnknownArgument [] gives (tail_rows s w (word ∷ words)) (step.stranger-fault name names apart x xs (free b) rows pending e))
        go true e (Some value) f =
            let w = at rows pending (free b) false in
            let next = at (setting_more n value gives) None idle false in
            let more = below.0 false (setting_more n value gives) None (setting_more n value gives) (step.stands-none name names apart (setting_more n value gives)) in
            by_part words (part_of_option names (Some (n, v))) (setting n value) (tail_fault s w (word ∷ words)) gives (tail_rows s w (word ∷ words)) (part-joined n value v e f)
            (passed w next word words (given_by words (setting n value)) gives
            (step.joined-fault name names apart x xs (free b) value rows pending e f ∙ ap (λ (k : Kinds). or_else (or_else k []) []) st.fits)
            (step.joined-walk name names apart x xs (free b) value rows pending gives e f st)
            (one_setting n value words (given names None words) (tail_fault s next words) gives (tail_rows s next words) e more))
        go true e None f =
            let w = at rows pending (free b) false in
            let next = at gives (Some (n, [])) (option n) false in
            by_part words (part_of_option names (Some (n, v))) (due n) (tail_fault s w (word ∷ words)) gives (tail_rows s w (word ∷ words)) (part-apart n v e f)
            (passed w next word words (given_by words (due n)) gives
            (step.apart-fault name names apart x xs (free b) rows pending e f ∙ ap (λ (k : Kinds). or_else k []) st.fits)
            (step.apart-walk name names apart x xs (free b) rows pending gives e f st)
            (below.1 n gives e))

    due-flag : Due (word ∷ words)
    due-flag m rows is = go (is_among names n) refl v refl
      where
        no : settle_fault s.rules false (held rows (Some (m, []))) ≡ kind.InvalidValue ∷ []
        no = step.unfilled name names apart m rows is

        go : (i : Bool) → is_among names n ≡ i → (o : Option Text) → v ≡ o
            → Claims names None (tail_fault s (at rows (Some (m, [])) (option m) false) (word ∷ words)) rows (tail_rows s (at rows (Some (m, [])) (option m) false) (word ∷ words))
        go false e o f =
            let w = at rows (Some (m, [])) (option m) false in
            refused w word words kind.UnknownArgument [] rows (tail_rows s w (word ∷ words)) (step.stranger-fault name names apart x xs (option m) rows (Some (m, [])) e)
        go true e (Some value) f =
            let w = at rows (Some (m, [])) (option m) false in
            refused w word words kind.InvalidValue [] rows (tail_rows s w (word ∷ words))
            (step.joined-fault name names apart x xs (option m) value rows (Some (m, [])) e f ∙ ap (λ (k : Kinds). or_else (or_else k []) []) no)
        go true e None f =
            let w = at rows (Some (m, [])) (option m) false in
            refused w word words kind.InvalidValue [] rows (tail_rows s w (word ∷ words))
            (step.apart-fault name names apart x xs (option m) rows (Some (m, [])) e f ∙ ap (λ (k : Kinds). or_else k []) no)

  pub both : (words : List Text) → Tidy words → Both words
  both [] t = (free-end, due-end)
  both (word ∷ words) t = elim (tidy-sort word words t) [
    | inl e ↦ subst (λ (w : Text). Both (w ∷ words)) (sym e) (free-ends words, due-ends words)
    | inr rest ↦ elim rest [
      | inl flag ↦
          let apart_from : bytes_eq word dashes ≡ false = ap (λ (w : Text). bytes_eq w dashes) flag.2 in
          let below = both words (tidy-rest word words apart_from t) in
          subst (λ (w : Text). Both (w ∷ words)) (sym flag.2) (free-flag flag.0 flag.1 words below, due-flag flag.0 flag.1 words)
      | inr e ↦
          let below = both words (tidy-rest word words (plain-dashes word e) t) in
          (free-plain word words e below, due-plain word words e below)
    ]
  ]
