-- What each written line of a state says, and all of them.
-- Names: `written-LAW` of a line, `entries-LAW` of all.
use Rattle.std.proofs.Common.{◌≡◌, ◌++◌, ◌==◌, ℕ, zero, suc, Bool, true, false, cond, not, List, [], ◌∷◌, length, Contains, Option, Some, None, slice_index_or, refl, ap, ap₂, sym, ◌∙◌, append_assoc, append-nil, codes}
use Rattle.std.specs.List.{list_all}
use Rattle.std.specs.Option.{option_map}
use Rattle.sf_base.specs.declared.value.Value.{Value}
use Rattle.sf_base.specs.declared.value.Value.TheVariants.{Nil as nil}
use Rattle.sf_lex.specs.Whole.{is_name}
use Rattle.sf_lines.specs.Checked.Lemmas.Written.{IsPlain, all-append, is_inline, is_visible, lines-before, plain-append, plain-inline, split-sign, words-before, words-plain}
use Rattle.sf_lines.specs.Lines.{Text, lines, only, split_once, words}
use Rattle.sf_state.specs.declared.fields.Fields.TheVariants.{Are}
use Rattle.sf_state.specs.declared.fields.Setting.{Setting}
use Rattle.sf_state.specs.declared.line.Entry.{Entry}
use Rattle.sf_state.specs.declared.line.Entry.TheVariants.{Nothing, Bad, Variable, Cell}
use Rattle.sf_state.specs.Checked.Written.{IsWritable}
use Rattle.sf_state.specs.Names.{field_at, is_target, place_of}
use Rattle.sf_state.specs.Refused.{cell_name}
use Rattle.sf_state.specs.Says.{assigned, both, cell_said, cell_with, entries_from, field_said, fields_said, is_finished, named_value, named_value_in, said, says, set_field, set_variable, setting_of, variable_said, variable_with}
use Rattle.sf_state.specs.StateText.{cell_lines, field_text, field_texts, value_text, values_or_none, variable_line, variable_lines}
use Rattle.sf_state.specs.Values.{is_location}
use Rattle.sf_state.specs.Words.{begins}
use Rattle.sf_state.proofs.Spelling.{location-back, location-plain, value-back, value-plain}

-- a name as it is written: it has a form, and nothing in it ends a word or is a sign
pub record IsSpelled (form : Text → Bool) (name : Text) : Type 0 where
  pub plain : IsPlain name
  pub formed : form name ≡ true
  pub no_sign : list_all (λ b. not (b == 61)) name ≡ true
  pub no_comment : begins 35 name ≡ false
  pub no_cell : begins 64 name ≡ false

-- each of these is, and stands at its number among all
abbrev pub ArePlaced : (form : Text → Bool) (all : List Text) (number : ℕ) → List Text → Type 0
ArePlaced form all number [] = Unit {0}
ArePlaced form all number (name ∷ more) = IsSpelled form name × (place_of all name ≡ Some number)
    × ArePlaced form all (suc number) more

-- each value among these can be written
abbrev pub EachWritable : List Value → Type 0
EachWritable values = (k : ℕ) → IsWritable (slice_index_or values k nil)

-- a written line says that, on whichever line it stands
record IsWritten (fields names : List Text) (line : Text) (e : Entry) : Type 0 where
  inline : list_all is_inline line ≡ true
  says : (k : ℕ) → says fields names k line ≡ e

written-words : (fields names : List Text) (line : Text) (ws : List Text) (e : Entry) → words line ≡ ws
    → is_finished (only ws) ≡ false → said fields names line ws ≡ e → (k : ℕ) → says fields names k line ≡ e
written-words fields names line ws e w f s zero =
    ap (λ xs. cond (is_finished (only xs)) Nothing (said fields names line xs)) w
    ∙ ap (λ b. cond b Nothing (said fields names line ws)) f ∙ s
written-words fields names line ws e w f s (suc k) = ap (said fields names line) w ∙ s

-- a variable
written-variable : (fields names : List Text) (name : Text) (number : ℕ) (v : Value) → IsSpelled is_target name
    → place_of names name ≡ Some number → IsWritable v
    → IsWritten fields names (name ++ codes " = " ++ value_text v) (Variable number v)
written-variable fields names name number v s place h =
    let plain = value-plain v h in
    let whole : name ++ codes " = " ++ value_text v ≡ name ++ 32 ∷ 61 ∷ 32 ∷ value_text v =
    append_assoc name (codes " = ") (value_text v) in
    let spelled : words (name ++ codes " = " ++ value_text v) ≡ name ∷ (61 ∷ []) ∷ value_text v ∷ [] =
    ap words whole ∙ words-before name (61 ∷ 32 ∷ value_text v) s.plain
    ∙ ap (λ ws. name ∷ ws) (words-before (61 ∷ []) (value_text v) (record { some = refl; visible = refl })
    ∙ ap (λ ws. (61 ∷ []) ∷ ws) (words-plain (value_text v) plain)) in
    let parts : split_once 61 (name ++ codes " = " ++ value_text v) ≡ Some (name ++ 32 ∷ [], 32 ∷ value_text v) =
    ap (split_once 61) (whole ∙ sym (append_assoc name (32 ∷ []) (61 ∷ 32 ∷ value_text v)))
    ∙ split-sign 61 (name ++ 32 ∷ []) (32 ∷ value_text v)
    (all-append (λ b. not (b == 61)) name (32 ∷ []) s.no_sign refl) in
    let left : words (name ++ 32 ∷ []) ≡ name ∷ [] = words-before name [] s.plain in
    let right : words (32 ∷ value_text v) ≡ value_text v ∷ [] = words-plain (value_text v) plain in
    let set : variable_said names (split_once 61 (name ++ codes " = " ++ value_text v)) ≡ Variable number v =
    ap (variable_said names) parts ∙ ap₂ (λ a b. assigned names (only a) (only b)) left right
    ∙ ap (variable_with names name) (value-back v h)
    ∙ ap (λ b. cond b (set_variable name v (place_of names name)) Bad) s.formed ∙ ap (set_variable name v) place in
    record {
      inline = all-append is_inline (name ++ codes " = ") (value_text v)
          (all-append is_inline name (codes " = ") (plain-inline name s.plain) refl)
          (plain-inline (value_text v) plain);
      says = written-words fields names (name ++ codes " = " ++ value_text v) (name ∷ (61 ∷ []) ∷ value_text v ∷ [])
          (Variable number v) spelled refl (rw (s.no_comment, s.no_cell) set);
    }

-- the words of a cell's fields, the first of which has that number, and what they set
abbrev field_words : (names : List Text) (number : ℕ) → List Value → List Text
field_words [] number values = []
field_words (name ∷ more) number values = (name ++ 61 ∷ value_text (slice_index_or values number nil))
    ∷ field_words more (suc number) values

abbrev pub setting_at : ℕ → List Value → Setting
setting_at number values = record { field = field_at number; value = slice_index_or values number nil }

abbrev pub settings_from : (names : List Text) (number : ℕ) → List Value → List Setting
settings_from [] number values = []
settings_from (name ∷ more) number values = setting_at number values ∷ settings_from more (suc number) values

written-fields : (all names : List Text) (number : ℕ) (values : List Value) (w : Text) → IsPlain w
    → ArePlaced is_name all number names → EachWritable values
    → words (w ++ field_texts names number values) ≡ w ∷ field_words names number values
written-fields all [] number values w p s h = ap words (append-nil w) ∙ words-plain w p
written-fields all (name ∷ more) number values w p s h =
    let v : Value = slice_index_or values number nil in
    let plain = value-plain (slice_index_or values number nil) (h number) in
    let shape : w ++ field_texts (name ∷ more) number values
    ≡ w ++ 32 ∷ ((name ++ 61 ∷ value_text (slice_index_or values number nil)) ++ field_texts more (suc number) values) =
    ap (λ x. w ++ 32 ∷ (x ++ field_texts more (suc number) values))
    (append_assoc name (codes "=") (value_text (slice_index_or values number nil))) in
    ap words shape
    ∙ words-before w ((name ++ 61 ∷ value_text (slice_index_or values number nil)) ++ field_texts more (suc number) values) p
    ∙ ap (λ ws. w ∷ ws) (written-fields all more (suc number) values
    (name ++ 61 ∷ value_text (slice_index_or values number nil))
    (plain-append name (61 ∷ value_text (slice_index_or values number nil)) s.0.plain
    (all-append is_visible (61 ∷ []) (value_text (slice_index_or values number nil)) refl plain.visible)) s.2 h)

-- the word of a field sets it
written-setting : (all : List Text) (name : Text) (number : ℕ) (v : Value) → IsSpelled is_name name
    → place_of all name ≡ Some number → IsWritable v → field_said all (setting_of (name ++ 61 ∷ value_text v))
    ≡ Are (record { field = field_at number; value = v } ∷ [])
written-setting all name number v s place h =
    let setting : setting_of (name ++ 61 ∷ value_text v) ≡ Some (name, v) =
    ap named_value_in (split-sign 61 name (value_text v) s.no_sign) ∙ ap (named_value name) (value-back v h)
    ∙ ap (λ b. cond b (Some (name, v)) None) s.formed in
    ap (field_said all) setting ∙ ap (λ o. set_field name v (option_map field_at o)) place

written-settings : (all names : List Text) (number : ℕ) (values : List Value) → ArePlaced is_name all number names
    → EachWritable values → fields_said all (field_words names number values) ≡ Are (settings_from names number values)
written-settings all [] number values s h = refl
written-settings all (name ∷ more) number values s h =
    ap₂ both (written-setting all name number (slice_index_or values number nil) s.0 s.1 (h number))
    (written-settings all more (suc number) values s.2 h)

inline-fields : (all names : List Text) (number : ℕ) (values : List Value) → ArePlaced is_name all number names
    → EachWritable values → list_all is_inline (field_texts names number values) ≡ true
inline-fields all [] number values s h = refl
inline-fields all (name ∷ more) number values s h =
    let v : Value = slice_index_or values number nil in
    all-append is_inline (field_text name (slice_index_or values number nil)) (field_texts more (suc number) values)
    (all-append is_inline (codes " " ++ name ++ codes "=") (value_text (slice_index_or values number nil))
    (all-append is_inline (codes " " ++ name) (codes "=") (all-append is_inline (codes " ") name refl
    (plain-inline name s.0.plain)) refl)
    (plain-inline (value_text (slice_index_or values number nil)) (value-plain (slice_index_or values number nil) (h number))))
    (inline-fields all more (suc number) values s.2 h)

not_finished : (l : ℕ) (ws : List Text) → is_finished (only (cell_name l ∷ ws)) ≡ false
not_finished l [] = refl
not_finished l (w ∷ ws) = refl

-- a cell
written-cell : (fields names : List Text) (l : ℕ) (values : List Value) → ArePlaced is_name fields 0 fields
    → is_location l ≡ true → EachWritable values
    → IsWritten fields names (cell_name l ++ field_texts fields 0 values) (Cell l (settings_from fields 0 values))
written-cell fields names l values s there h =
    let plain = location-plain l there in
    record {
      inline = all-append is_inline (cell_name l) (field_texts fields 0 values) (plain-inline (cell_name l) plain)
          (inline-fields fields fields 0 values s h);
      says = written-words fields names (cell_name l ++ field_texts fields 0 values)
          (cell_name l ∷ field_words fields 0 values) (Cell l (settings_from fields 0 values))
          (written-fields fields fields 0 values (cell_name l) plain s h)
          (not_finished l (field_words fields 0 values))
          (ap (λ o. cell_said fields o (field_words fields 0 values)) (location-back l there)
          ∙ ap (cell_with l) (written-settings fields fields 0 values s h));
    }

-- what all lines say: first the variables, then the cells
abbrev pub variable_entries : (names : List Text) (number : ℕ) → List Value → List Entry
variable_entries [] number values = []
variable_entries (name ∷ more) number values = Variable number (slice_index_or values number nil)
    ∷ variable_entries more (suc number) values

pub entries-variables : (fields all names : List Text) (number : ℕ) (values : List Value) (tail : Text) (es : List Entry)
    → ArePlaced is_target all number names → EachWritable values
    → ((k : ℕ) → entries_from fields all k (lines tail) ≡ es) → (k : ℕ)
    → entries_from fields all k (lines (variable_lines names number values ++ tail))
    ≡ variable_entries names number values ++ es
entries-variables fields all [] number values tail es s h t k = t k
entries-variables fields all (name ∷ more) number values tail es s h t k =
    let v : Value = slice_index_or values number nil in
    let w = written-variable fields all name number (slice_index_or values number nil) s.0 s.1 (h number) in
    let line : Text = name ++ codes " = " ++ value_text (slice_index_or values number nil) in
    let rest : Text = variable_lines more (suc number) values in
    let cut : lines (variable_lines (name ∷ more) number values ++ tail)
    ≡ (name ++ codes " = " ++ value_text (slice_index_or values number nil))
    ∷ lines (variable_lines more (suc number) values ++ tail) =
    ap lines (append_assoc (variable_line name (slice_index_or values number nil)) (variable_lines more (suc number) values) tail
    ∙ append_assoc (name ++ codes " = " ++ value_text (slice_index_or values number nil)) (codes "\n")
    (variable_lines more (suc number) values ++ tail))
    ∙ lines-before (name ++ codes " = " ++ value_text (slice_index_or values number nil))
    (variable_lines more (suc number) values ++ tail) w.inline in
    ap (entries_from fields all k) cut
    ∙ ap₂ ◌∷◌ (w.says k) (entries-variables fields all more (suc number) values tail es s.2 h t (suc k))

-- A list of locations with their cells
module _ (fields names : List Text) (cells : ℕ → Option (List Value)) where
  -- a cell that is there, with a value for each field, can be written
  pub record IsCell (l : ℕ) : Type 0 where
    pub location : is_location l ≡ true
    pub there : cells l ≡ Some (values_or_none (cells l))
    pub size : length (values_or_none (cells l)) ≡ length fields
    pub each : EachWritable (values_or_none (cells l))

  -- each of these is, and no location is there twice
  abbrev pub AreCells : List ℕ → Type 0
  AreCells [] = Unit {0}
  AreCells (l ∷ ls) = IsCell l × ((q : ℕ) → Contains ls q → (l == q) ≡ false) × AreCells ls

  abbrev pub cell_entries : List ℕ → List Entry
  cell_entries [] = Nothing ∷ []
  cell_entries (l ∷ ls) = Cell l (settings_from fields 0 (values_or_none (cells l))) ∷ cell_entries ls

  pub entries-cells : ArePlaced is_name fields 0 fields → (ls : List ℕ) → AreCells ls → (k : ℕ)
      → entries_from fields names k (lines (cell_lines fields cells ls)) ≡ cell_entries ls
  entries-cells s [] c zero = refl
  entries-cells s [] c (suc k) = refl
  entries-cells s (l ∷ ls) c k =
      let w = written-cell fields names l (values_or_none (cells l)) s c.0.location c.0.each in
      let cut : lines (cell_lines fields cells (l ∷ ls))
      ≡ (cell_name l ++ field_texts fields 0 (values_or_none (cells l))) ∷ lines (cell_lines fields cells ls) =
      ap lines (append_assoc (cell_name l ++ field_texts fields 0 (values_or_none (cells l))) (codes "\n")
      (cell_lines fields cells ls))
      ∙ lines-before (cell_name l ++ field_texts fields 0 (values_or_none (cells l))) (cell_lines fields cells ls) w.inline in
      ap (entries_from fields names k) cut ∙ ap₂ ◌∷◌ (w.says k) (entries-cells s ls c.2 (suc k))
