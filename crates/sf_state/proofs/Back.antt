-- Written states are read back: no line is refused, and all of them give what was written.
-- Names: `refused-LAW` that none is refused, `given-LAW` of what they give, `WHAT-back`.
use Rattle.std.proofs.Common.{◌≡◌, ◌≤◌, ◌+◌, ◌++◌, ◌==◌, ℕ, suc, Bool, true, false, cond, nat_lt, List, [], ◌∷◌, length, map, replicate, Contains, Option, Some, None, is_some, slice_index_or, slice_set, refl, ap, ap₂, sym, ◌∙◌, arith, append_assoc, append-nil, codes, inl, inr, take}
use Rattle.std.proofs.Math.Seq.{set-append_seam}
use Rattle.std.proofs.lemmas.Bool.{eq-eqb, eqb-true, false≢true, lt-ltb}
use Rattle.std.proofs.lemmas.List.{length-append, take-map}
use Rattle.std.proofs.lemmas.List.Folds.{list_any-append}
use Rattle.std.proofs.lemmas.List.Sums.{sum_by-append}
use Rattle.std.specs.Option.{option_map, option_or}
use Rattle.sf_base.specs.declared.limits.TheConstants.{STATE_BYTES, STATE_CELLS}
use Rattle.sf_base.specs.declared.value.Value.{Value}
use Rattle.sf_base.specs.declared.value.Value.TheVariants.{Nil as nil}
use Rattle.sf_base.proofs.Elements.{contains-cons, contains-nil}
use Rattle.sf_base.proofs.Numbers.{eqb-less}
use Rattle.sf_base.proofs.Options.{option_or-assoc}
use Rattle.sf_lex.specs.Whole.{is_name}
use Rattle.sf_lines.specs.Checked.Lemmas.Written.{lines-before}
use Rattle.sf_lines.specs.Lines.{Text, lines}
use Rattle.sf_state.specs.declared.fault.StartFault.TheVariants.{TooLong, Twice}
use Rattle.sf_state.specs.declared.fields.Setting.{Setting}
use Rattle.sf_state.specs.declared.line.Entry.{Entry}
use Rattle.sf_state.specs.declared.line.Entry.TheVariants.{Nothing, Variable, Cell}
use Rattle.sf_state.specs.Names.{field_at, is_target}
use Rattle.sf_state.specs.Refused.{is_cell, cell_count, cell_given, cell_in, cell_name, cell_refusal, cell_values, first_refusal, is_set, name_at, set_again, value_given, value_in, values_after}
use Rattle.sf_state.specs.Says.{entries_from, entries_of}
use Rattle.sf_state.specs.Names.{Format}
use Rattle.sf_state.specs.Stated.{Gives, is_fresh, missing_from, needed, or_nil, text_refusal, values_given}
use Rattle.sf_state.specs.StateText.{cell_lines, state_text, values_or_none}
use Rattle.sf_state.proofs.AllValues.{text-short}
use Rattle.sf_state.proofs.Keeping.{cell-push, count-push, value-push}
use Rattle.sf_state.proofs.WrittenLines.{AreCells, ArePlaced, EachWritable, cell_entries, entries-cells, entries-variables, setting_at, settings_from, variable_entries}

-- nothing before gives one of the variables from that number on
abbrev GivesNoneFrom : ℕ → List Entry → Type 0
GivesNoneFrom number es = (k : ℕ) → number ≤ k → value_given es k ≡ None

gives_none-next : (number : ℕ) (v : Value) (before : List Entry) → GivesNoneFrom number before
    → GivesNoneFrom (suc number) (before ++ Variable number v ∷ [])
gives_none-next number v before none k h = value-push before (Variable number v) k
    ∙ ap₂ (λ o b. option_or o (cond b (Some v) None)) (none k (omega (arith, h))) (eqb-less number k (omega (arith, h)))

-- no variable is refused
refused-variables : (fields all names : List Text) (number : ℕ) (values : List Value) (before es : List Entry)
    → GivesNoneFrom number before → first_refusal fields all before (variable_entries names number values ++ es)
    ≡ first_refusal fields all (before ++ variable_entries names number values) es
refused-variables fields all [] number values before es none =
    ap (λ b. first_refusal fields all b es) (sym (append-nil before))
refused-variables fields all (name ∷ more) number values before es none =
    let v : Value = slice_index_or values number nil in
    let same : number ≤ number = omega arith in
    ap (λ o. option_or (cond (is_some o) (Some (Twice (name_at all number))) None)
    (first_refusal fields all (before ++ Variable number (slice_index_or values number nil) ∷ [])
    (variable_entries more (suc number) values ++ es))) (none number same)
    ∙ refused-variables fields all more (suc number) values (before ++ Variable number (slice_index_or values number nil) ∷ [])
    es (gives_none-next number (slice_index_or values number nil) before none)
    ∙ ap (λ b. first_refusal fields all b es)
    (append_assoc before (Variable number (slice_index_or values number nil) ∷ []) (variable_entries more (suc number) values))

-- no field of a cell is set again
refused-settings : (names : List Text) (number : ℕ) (values : List Value) (before : List Setting)
    → ((k : ℕ) → number ≤ k → is_set before (field_at k) ≡ false)
    → set_again before (settings_from names number values) ≡ None
refused-settings [] number values before none = refl
refused-settings (name ∷ more) number values before none =
    let same : number ≤ number = omega arith in
    ap (λ b. cond b (Some (field_at number))
    (set_again (before ++ setting_at number values ∷ []) (settings_from more (suc number) values))) (none number same)
    ∙ refused-settings more (suc number) values (before ++ setting_at number values ∷ []) next
  where
    next : (k : ℕ) → suc number ≤ k → is_set (before ++ setting_at number values ∷ []) (field_at k) ≡ false
    next k h = list_any-append (λ (s : Setting). s.field.0 == k) before (setting_at number values ∷ [])
        ∙ rw (none k (omega (arith, h)), eqb-less number k (omega (arith, h))) refl

-- the values at these numbers, the first of which is that one
abbrev read_from : (names : List Text) (number : ℕ) → List Value → List Value
read_from [] number values = []
read_from (name ∷ more) number values = slice_index_or values number nil ∷ read_from more (suc number) values

index-seam : (done more : List Value) (v : Value) → slice_index_or (done ++ v ∷ more) (length done) nil ≡ v
index-seam [] more v = refl
index-seam (x ∷ done) more v = index-seam done more v

length-next : (done : List Value) (v : Value) → length (done ++ v ∷ []) ≡ suc (length done)
length-next done v = let n : length (done ++ v ∷ []) ≡ length done + length (v ∷ []) = length-append done (v ∷ []) in
    omega (arith, n)

read-more : (names : List Text) (number : ℕ) (done more : List Value) → number ≡ length done
    → length more ≡ length names → read_from names number (done ++ more) ≡ more
read-more [] number done [] n e = refl
read-more [] number done (v ∷ more) n e = absurd (omega arith)
read-more (name ∷ names) number done [] n e = absurd (omega arith)
read-more (name ∷ names) number done (v ∷ more) n e =
    ap₂ ◌∷◌ (ap (λ k. slice_index_or (done ++ v ∷ more) k nil) n ∙ index-seam done more v)
    (ap (read_from names (suc number)) (sym (append_assoc done (v ∷ []) more))
    ∙ read-more names (suc number) (done ++ v ∷ []) more (ap suc n ∙ sym (length-next done v)) (omega arith))

read-all : (names : List Text) (values : List Value) → length values ≡ length names → read_from names 0 values ≡ values
read-all names values e = read-more names 0 [] values refl e

-- a cell's fields have the values that they are set to
set-more : (names : List Text) (number : ℕ) (values done : List Value) → number ≡ length done
    → values_after (done ++ replicate (length names) nil) (settings_from names number values)
    ≡ done ++ read_from names number values
set-more [] number values done n = refl
set-more (name ∷ more) number values done n =
    ap (λ vs. values_after vs (settings_from more (suc number) values))
    (ap (λ k. slice_set (done ++ nil ∷ replicate (length more) nil) k (slice_index_or values number nil)) n
    ∙ set-append_seam done nil (replicate (length more) nil) (slice_index_or values number nil)
    ∙ sym (append_assoc done (slice_index_or values number nil ∷ []) (replicate (length more) nil)))
    ∙ set-more more (suc number) values (done ++ slice_index_or values number nil ∷ [])
    (ap suc n ∙ sym (length-next done (slice_index_or values number nil)))
    ∙ append_assoc done (slice_index_or values number nil ∷ []) (read_from more (suc number) values)

set-all : (names : List Text) (values : List Value) → length values ≡ length names
    → cell_values (length names) (settings_from names 0 values) ≡ values
set-all names values e = set-more names 0 values [] refl ∙ read-all names values e

-- what lines give, and then others
value-append : (a b : List Entry) (number : ℕ) → value_given (a ++ b) number
    ≡ option_or (value_given a number) (value_given b number)
value-append [] b number = refl
value-append (e ∷ a) b number = ap (option_or (value_in number e)) (value-append a b number)
    ∙ sym (option_or-assoc (value_in number e) (value_given a number) (value_given b number))

cell-append : (a b : List Entry) (l : ℕ) → cell_given (a ++ b) l ≡ option_or (cell_given a l) (cell_given b l)
cell-append [] b l = refl
cell-append (e ∷ a) b l = ap (option_or (cell_in l e)) (cell-append a b l)
    ∙ sym (option_or-assoc (cell_in l e) (cell_given a l) (cell_given b l))

-- the variables have the values that were written
given-variables : (names : List Text) (number : ℕ) (values : List Value) (es before rest : List Entry)
    → es ≡ before ++ (variable_entries names number values ++ rest) → GivesNoneFrom number before
    → values_given es number names ≡ map Some (read_from names number values)
given-variables [] number values es before rest e none = refl
given-variables (name ∷ more) number values es before rest e none = ap₂ ◌∷◌ here
    (given-variables more (suc number) values es (before ++ Variable number (slice_index_or values number nil) ∷ []) rest
    (e ∙ sym (append_assoc before (Variable number (slice_index_or values number nil) ∷ [])
    (variable_entries more (suc number) values ++ rest)))
    (gives_none-next number (slice_index_or values number nil) before none))
  where
    here : value_given es number ≡ Some (slice_index_or values number nil)
    here = ap (λ xs. value_given xs number) e
        ∙ value-append before (variable_entries (name ∷ more) number values ++ rest) number
        ∙ ap (λ o. option_or o (value_given (variable_entries (name ∷ more) number values ++ rest) number))
        (none number (omega arith))
        ∙ ap (λ b. option_or (cond b (Some (slice_index_or values number nil)) None)
        (value_given (variable_entries more (suc number) values ++ rest) number)) (eq-eqb number number refl)

no_cells : (names : List Text) (number : ℕ) (values : List Value) (l : ℕ)
    → cell_given (variable_entries names number values) l ≡ None
no_cells [] number values l = refl
no_cells (name ∷ more) number values l = no_cells more (suc number) values l

no_count : (names : List Text) (number : ℕ) (values : List Value) → cell_count (variable_entries names number values) ≡ 0
no_count [] number values = refl
no_count (name ∷ more) number values = no_count more (suc number) values

-- no variable is missing
none_missing : (names : List Text) (number : ℕ) (values : List Value) → missing_from names number (map Some values) ≡ None
none_missing names number [] = refl
none_missing names number (v ∷ values) = none_missing names (suc number) values

-- nor is any that is needed
none_needed : (fields names : List Text) (own : ℕ) (init : Bool) (values : List Value) (given : List (Option Value))
    → given ≡ map Some values
    → missing_from names 0 (needed (record { fields = fields; names = names; own = own; init = init }) given) ≡ None
none_needed fields names own init values given e = ap (λ vs. missing_from names 0 (needed m vs)) e
    ∙ go (is_fresh m (map Some values))
  where
    m : Format
    m = record { fields = fields; names = names; own = own; init = init }

    go : (b : Bool) → missing_from names 0 (cond b (take own (map Some values)) (map Some values)) ≡ None
    go true = ap (missing_from names 0) (take-map Some own values) ∙ none_missing names 0 (take own values)
    go false = none_missing names 0 values

-- given values are the values
all_given : (values : List Value) → map or_nil (map Some values) ≡ values
all_given [] = refl
all_given (v ∷ values) = ap (λ vs. v ∷ vs) (all_given values)

-- the text isn't refused, and gives these values and cells
abbrev pub IsBack : (fields names : List Text) (own : ℕ) (init : Bool) → Text → List Value
    → (cells : ℕ → Option (List Value)) → Type 0
IsBack fields names own init text values cells =
    (text_refusal (record { fields = fields; names = names; own = own; init = init }) text ≡ None)
    × Gives (record { fields = fields; names = names; own = own; init = init }) text values cells

-- Cells that are written
module _ (fields names : List Text) (cells : ℕ → Option (List Value)) where
  abbrev entries_of_cells : List ℕ → List Entry
  entries_of_cells ls = cell_entries fields names cells ls

  abbrev settings_of : ℕ → List Setting
  settings_of l = settings_from fields 0 (values_or_none (cells l))

  -- no cell is refused
  refused-cells : (ls : List ℕ) (before : List Entry) → AreCells fields names cells ls
      → ((q : ℕ) → Contains ls q → cell_given before q ≡ None) → cell_count before + length ls ≤ STATE_CELLS
      → first_refusal fields names before (entries_of_cells ls) ≡ None
  refused-cells [] before c none few = refl
  refused-cells (l ∷ ls) before c none few =
      ap (λ o. option_or (cond (is_some o) (Some (Twice (cell_name l)))
      (cell_refusal fields before (set_again [] (settings_of l))))
      (first_refusal fields names (before ++ Cell l (settings_of l) ∷ []) (entries_of_cells ls)))
      (none l ((contains-cons l ls l).1 (inl refl)))
      ∙ ap (λ o. option_or (cell_refusal fields before o)
      (first_refusal fields names (before ++ Cell l (settings_of l) ∷ []) (entries_of_cells ls)))
      (refused-settings fields 0 (values_or_none (cells l)) [] (λ k h. refl))
      ∙ ap (λ b. option_or (cond b None (Some TooLong))
      (first_refusal fields names (before ++ Cell l (settings_of l) ∷ []) (entries_of_cells ls))) room
      ∙ refused-cells ls (before ++ Cell l (settings_of l) ∷ []) c.2 next
      (let n : cell_count (before ++ Cell l (settings_of l) ∷ []) ≡ cell_count before + 1 =
      count-push before (Cell l (settings_of l)) in omega (arith, n, few))
    where
      room : nat_lt (cell_count before) STATE_CELLS ≡ true
      room = lt-ltb (cell_count before) STATE_CELLS (omega (arith, few))

      next : (q : ℕ) → Contains ls q → cell_given (before ++ Cell l (settings_of l) ∷ []) q ≡ None
      next q i = cell-push before (Cell l (settings_of l)) q
          ∙ ap₂ (λ o b. option_or o (cond b (Some (settings_of l)) None))
          (none q ((contains-cons l ls q).1 (inr i))) (c.1 q i)

  -- at each location is the cell that was written
  given-cells : (ls : List ℕ) (l : ℕ) → AreCells fields names cells ls → ((Contains ls l → ⊥) → cells l ≡ None)
      → cells l ≡ option_map (cell_values (length fields)) (cell_given (entries_of_cells ls) l)
  given-cells [] l c out = out (contains-nil l)
  given-cells (q ∷ ls) l c out = go (q == l) refl (given-cells ls l c.2)
    where
      go : (b : Bool) → (q == l) ≡ b
          → (((Contains ls l → ⊥) → cells l ≡ None)
          → cells l ≡ option_map (cell_values (length fields)) (cell_given (entries_of_cells ls) l))
          → cells l ≡ option_map (cell_values (length fields))
          (option_or (cond b (Some (settings_of q)) None) (cell_given (entries_of_cells ls) l))
      go true e more =
          let same : q ≡ l = eqb-true q l e in
          sym (ap cells same) ∙ c.0.there ∙ sym (ap Some (set-all fields (values_or_none (cells q)) c.0.size))
      go false e more = more (λ no. out (λ i. elim ((contains-cons q ls l).0 i) [
        | inl same ↦ false≢true (sym e ∙ eq-eqb q l same)
        | inr d ↦ no d
      ]))

  -- variables and cells that can be written, the cells at those locations
  pub record AreWritten (values : List Value) (ls : List ℕ) : Type 0 where
    pub fields_placed : ArePlaced is_name fields 0 fields
    pub names_placed : ArePlaced is_target names 0 names
    pub size : length values ≡ length names
    pub each : EachWritable values
    pub at : AreCells fields names cells ls
    pub out : (l : ℕ) → (Contains ls l → ⊥) → cells l ≡ None
    pub few : length ls ≤ STATE_CELLS

  -- lines before them that give nothing, and are not refused
  pub record AreNothing (before : List Entry) : Type 0 where
    pub no_values : (k : ℕ) → value_given before k ≡ None
    pub no_cell : (l : ℕ) → cell_given before l ≡ None
    pub count : cell_count before ≡ 0
    pub fine : (es : List Entry) → first_refusal fields names [] (before ++ es) ≡ first_refusal fields names before es

  -- they are read back, however many of the names are the procedure's own
  pub written-back : (own : ℕ) (init : Bool) (values : List Value) (ls : List ℕ) (text : Text) (before : List Entry)
      → AreWritten values ls → AreNothing before → length text ≤ STATE_BYTES
      → entries_of fields names text ≡ before ++ (variable_entries names 0 values ++ entries_of_cells ls)
      → IsBack fields names own init text values cells
  written-back own init values ls text before w nothing short e = (
    text-short (record { fields = fields; names = names; own = own; init = init }) text short
        ∙ ap₂ option_or refused (none_needed fields names own init values
        (values_given (entries_of fields names text) 0 names) given),
    record {
      values_are = sym (ap (map or_nil) given ∙ all_given values);
      cells_are = λ l. given-cells ls l w.at (w.out l) ∙ ap (option_map (cell_values (length fields))) (sym (found l));
    },
  )
    where
      given : values_given (entries_of fields names text) 0 names ≡ map Some values
      given = given-variables names 0 values (entries_of fields names text) before (entries_of_cells ls) e
          (λ k h. nothing.no_values k) ∙ ap (map Some) (read-all names values w.size)

      found : (l : ℕ) → cell_given (entries_of fields names text) l ≡ cell_given (entries_of_cells ls) l
      found l = ap (λ es. cell_given es l) e
          ∙ cell-append before (variable_entries names 0 values ++ entries_of_cells ls) l
          ∙ ap (λ o. option_or o (cell_given (variable_entries names 0 values ++ entries_of_cells ls) l)) (nothing.no_cell l)
          ∙ cell-append (variable_entries names 0 values) (entries_of_cells ls) l
          ∙ ap (λ o. option_or o (cell_given (entries_of_cells ls) l)) (no_cells names 0 values l)

      counted : cell_count (before ++ variable_entries names 0 values) ≡ 0
      counted = sum_by-append (λ x. cond (is_cell x) 1 0) before (variable_entries names 0 values)
          ∙ ap₂ ◌+◌ nothing.count (no_count names 0 values)

      refused : first_refusal fields names [] (entries_of fields names text) ≡ None
      refused = ap (first_refusal fields names []) e
          ∙ nothing.fine (variable_entries names 0 values ++ entries_of_cells ls)
          ∙ refused-variables fields names names 0 values before (entries_of_cells ls) (λ k h. nothing.no_values k)
          ∙ refused-cells ls (before ++ variable_entries names 0 values) w.at
          (λ q i. cell-append before (variable_entries names 0 values) q
          ∙ ap₂ option_or (nothing.no_cell q) (no_cells names 0 values q)) (omega (arith, counted, w.few))

  -- what the written text says, and the same after the line `finished`
  entries-text : (values : List Value) (ls : List ℕ) → AreWritten values ls → (k : ℕ)
      → entries_from fields names k (lines (state_text fields names values cells ls))
      ≡ variable_entries names 0 values ++ entries_of_cells ls
  entries-text values ls w k = entries-variables fields names names 0 values (cell_lines fields cells ls)
      (entries_of_cells ls) w.names_placed w.each (entries-cells fields names cells w.fields_placed ls w.at) k

  pub text-back : (own : ℕ) (init : Bool) (values : List Value) (ls : List ℕ) → AreWritten values ls
      → length (state_text fields names values cells ls) ≤ STATE_BYTES
      → IsBack fields names own init (state_text fields names values cells ls) values cells
  text-back own init values ls w short = written-back own init values ls (state_text fields names values cells ls) [] w
      (record { no_values = λ k. refl; no_cell = λ l. refl; count = refl; fine = λ es. refl }) short
      (entries-text values ls w 0)

  pub finished-back : (own : ℕ) (init : Bool) (values : List Value) (ls : List ℕ) → AreWritten values ls
      → length (codes "finished\n" ++ state_text fields names values cells ls) ≤ STATE_BYTES
      → IsBack fields names own init (codes "finished\n" ++ state_text fields names values cells ls) values cells
  finished-back own init values ls w short =
      written-back own init values ls (codes "finished\n" ++ state_text fields names values cells ls) (Nothing ∷ []) w
      (record { no_values = λ k. refl; no_cell = λ l. refl; count = refl; fine = λ es. refl }) short
      (ap (entries_from fields names 0) (lines-before (codes "finished") (state_text fields names values cells ls) refl)
      ∙ ap (λ es. Nothing ∷ es) (entries-text values ls w 1))
