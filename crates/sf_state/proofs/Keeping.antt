-- What is kept once one line more is taken.
-- Names: `keeps-LAW` of all that is kept, `value-`, `cell-`, `count-` of its parts.
use Rattle.std.proofs.Common.{◌≡◌, ◌<◌, ◌≢◌, ◌+◌, ◌==◌, ◌++◌, ℕ, Bool, true, false, cond, List, [], ◌∷◌, Some, None, Option, length, refl, ap, sym, ◌∙◌, subst, arith, slice_get, slice_index_or, set, is_some, nat_lt}
use Rattle.std.specs.BTreeMap.{btree_map_len, get, is_at}
use Rattle.std.specs.Option.{option_map, option_or}
use Rattle.std.specs.Ordering.{nat_cmp}
use Rattle.std.proofs.lemmas.Bool.{eq-eqb, eqb-true, lt-ltb}
use Rattle.std.proofs.lemmas.List.{length-set}
use Rattle.std.proofs.lemmas.List.Sums.{sum_by_push}
use Rattle.sf_base.specs.declared.limits.TheConstants.{STATE_CELLS}
use Rattle.sf_base.specs.declared.value.Value.{Value}
use Rattle.sf_base.proofs.Lookup.{get-read, get-set_other, get-set_same}
use Rattle.sf_base.proofs.Numbers.{at-is}
use Rattle.sf_base.proofs.Options.{is_some-false, option_map-none, option_or-assoc, some-once}
use Rattle.sf_state.specs.declared.line.Entry.{Entry}
use Rattle.sf_state.specs.declared.line.Entry.TheVariants.{Nothing, Variable, Cell}
use Rattle.sf_state.specs.declared.fault.StartFault.TheVariants.{Twice, TooLong}
use Rattle.sf_state.specs.declared.fields.Setting.{Setting}
use Rattle.sf_state.specs.declared.given.Given.{Given}
use Rattle.sf_state.specs.Checked.Keeping.{Keeps}
use Rattle.sf_lines.specs.Lines.{Text}
use Rattle.sf_state.specs.Refused.{cell_count, cell_given, cell_in, cell_name, cell_refusal, cell_values, is_cell, name_at, refusal, set_again, value_given, value_in}

or-none : {X : Type 0} (o : Option X) → option_or o None ≡ o
or-none None = refl
or-none (Some x) = refl

-- one line more gives what was given, or what it gives itself
pub value-push : (es : List Entry) (e : Entry) (number : ℕ) → value_given (es ++ e ∷ []) number
    ≡ option_or (value_given es number) (value_in number e)
value-push [] e number = or-none (value_in number e)
value-push (d ∷ es) e number = ap (option_or (value_in number d)) (value-push es e number)
    ∙ sym (option_or-assoc (value_in number d) (value_given es number) (value_in number e))

pub cell-push : (es : List Entry) (e : Entry) (location : ℕ) → cell_given (es ++ e ∷ []) location
    ≡ option_or (cell_given es location) (cell_in location e)
cell-push [] e location = or-none (cell_in location e)
cell-push (d ∷ es) e location = ap (option_or (cell_in location d)) (cell-push es e location)
    ∙ sym (option_or-assoc (cell_in location d) (cell_given es location) (cell_in location e))

pub count-push : (es : List Entry) (e : Entry) → cell_count (es ++ e ∷ []) ≡ cell_count es + cond (is_cell e) 1 0
count-push es e = sum_by_push (λ x. cond (is_cell x) 1 0) es e

-- a line that gives nothing
pub keeps-nothing : (fields names : List Text) (given : Given) (es : List Entry) → Keeps fields names given es
    → Keeps fields names given (es ++ Nothing ∷ [])
keeps-nothing fields names given es k = record {
  size = k.size;
  values = λ n h. k.values n h ∙ ap Some (sym (value-push es Nothing n ∙ or-none (value_given es n)));
  cells = λ l. k.cells l
      ∙ ap (option_map (cell_values (length fields))) (sym (cell-push es Nothing l ∙ or-none (cell_given es l)));
  count = let n : cell_count (es ++ Nothing ∷ []) ≡ cell_count es + 0 = count-push es Nothing in
      k.count ∙ omega arith;
}

-- a variable that wasn't given
pub keeps-variable : (fields names : List Text) (old new : Given) (es : List Entry) (number : ℕ) (value : Value)
    → Keeps fields names old es → number < length names → value_given es number ≡ None
    → new.values.items ≡ set old.values.items number (Some value) → new.cells ≡ old.cells
    → Keeps fields names new (es ++ Variable number value ∷ [])
keeps-variable fields names old new es number value k within absent values cells = record {
  size = ap length values ∙ length-set old.values.items number (Some value) ∙ k.size;
  values = at;
  cells = λ l. ap (λ m. get nat_cmp m l) cells ∙ k.cells l ∙ ap (option_map (cell_values (length fields)))
      (sym (cell-push es (Variable number value) l ∙ or-none (cell_given es l)));
  count = let n : cell_count (es ++ Variable number value ∷ []) ≡ cell_count es + 0 =
      count-push es (Variable number value) in ap btree_map_len cells ∙ k.count ∙ omega arith;
}
  where
    inside : number < length old.values.items
    inside = let size : length old.values.items ≡ length names = k.size in omega arith

    At : (n : ℕ) → Type 0
    At n = slice_get new.values.items n ≡ Some (value_given (es ++ Variable number value ∷ []) n)

    go : (n : ℕ) → n < length names → (b : Bool) → (number == n) ≡ b → At n
    go n h true e =
        let same : number ≡ n = eqb-true number n e in
        subst At same (ap (λ vs. slice_get vs number) values
        ∙ get-set_same old.values.items number (Some value) inside
        ∙ ap Some (sym (value-push es (Variable number value) number
        ∙ ap (λ o. option_or o (value_in number (Variable number value))) absent
        ∙ ap (λ b. cond b (Some value) None) (ap (λ m. number == m) same ∙ e))))
    go n h false e =
        let other : n ≢ number = λ s. let yes : (number == n) ≡ true = eq-eqb number n (sym s) in absurd cc in
        ap (λ vs. slice_get vs n) values ∙ get-set_other old.values.items number n (Some value) other ∙ k.values n h
        ∙ ap Some (sym (value-push es (Variable number value) n
        ∙ ap (λ b. option_or (value_given es n) (cond b (Some value) None)) e ∙ or-none (value_given es n)))

    at : (n : ℕ) → n < length names → At n
    at n h = go n h (number == n) refl

-- a cell that wasn't given
pub keeps-cell : (fields names : List Text) (old new : Given) (es : List Entry) (location : ℕ)
    (settings : List Setting) → Keeps fields names old es → cell_given es location ≡ None
    → new.values ≡ old.values
    → ((q : ℕ) → get nat_cmp new.cells q ≡ cond (is_at (nat_cmp location) q)
    (Some (cell_values (length fields) settings)) (get nat_cmp old.cells q))
    → btree_map_len new.cells ≡ btree_map_len old.cells + 1
    → Keeps fields names new (es ++ Cell location settings ∷ [])
keeps-cell fields names old new es location settings k absent values cells count = record {
  size = ap (λ vs. length vs.items) values ∙ k.size;
  values = λ n h. ap (λ vs. slice_get vs.items n) values ∙ k.values n h
      ∙ ap Some (sym (value-push es (Cell location settings) n ∙ or-none (value_given es n)));
  cells = at;
  count = let n : cell_count (es ++ Cell location settings ∷ []) ≡ cell_count es + 1 =
      count-push es (Cell location settings) in
      let m : btree_map_len old.cells ≡ cell_count es = k.count in omega arith;
}
  where
    view : List Setting → List Value
    view = cell_values (length fields)

    At : (q : ℕ) → Type 0
    At q = get nat_cmp new.cells q ≡ option_map view (cell_given (es ++ Cell location settings ∷ []) q)

    go : (q : ℕ) → (b : Bool) → (location == q) ≡ b → At q
    go q true e =
        let same : location ≡ q = eqb-true location q e in
        cells q ∙ ap (λ b. cond b (Some (view settings)) (get nat_cmp old.cells q)) (at-is location q ∙ e)
        ∙ ap (option_map view) (sym (cell-push es (Cell location settings) q
        ∙ ap (λ o. option_or o (cell_in q (Cell location settings))) (ap (cell_given es) (sym same) ∙ absent)
        ∙ ap (λ b. cond b (Some settings) None) e))
    go q false e =
        cells q ∙ ap (λ b. cond b (Some (view settings)) (get nat_cmp old.cells q)) (at-is location q ∙ e)
        ∙ k.cells q ∙ ap (option_map view) (sym (cell-push es (Cell location settings) q
        ∙ ap (λ b. option_or (cell_given es q) (cond b (Some settings) None)) e ∙ or-none (cell_given es q)))

    at : (q : ℕ) → At q
    at q = go q (location == q) refl

-- nothing is given where the table has nothing
absent-value : (fields names : List Text) (given : Given) (es : List Entry) (number : ℕ) (slot : Option Value)
    → Keeps fields names given es → number < length names → slot ≡ slice_index_or given.values.items number slot
    → is_some slot ≡ false → value_given es number ≡ None
absent-value fields names given es number slot k h is none =
    let size : length given.values.items ≡ length names = k.size in
    let here : slice_get given.values.items number ≡ Some slot =
    get-read given.values.items given.values.items number slot refl (omega arith) is in
    some-once (slice_get given.values.items number) (value_given es number) slot (k.values number h) here
    ∙ is_some-false slot none

-- a variable is taken
pub taken-variable : (fields names : List Text) (old new : Given) (es : List Entry) (number : ℕ) (value : Value)
    (slot : Option Value) → Keeps fields names old es → number < length names
    → slot ≡ slice_index_or old.values.items number slot → is_some slot ≡ false
    → new.values.items ≡ set old.values.items number (Some value) → new.cells ≡ old.cells
    → (refusal fields names es (Variable number value) ≡ None) × Keeps fields names new (es ++ Variable number value ∷ [])
taken-variable fields names old new es number value slot k h is none values cells =
    let absent : value_given es number ≡ None = absent-value fields names old es number slot k h is none in (
      ap (λ o. cond (is_some o) (Some (Twice (name_at names number))) None) absent,
      keeps-variable fields names old new es number value k h absent values cells,
    )

-- a cell is taken
pub taken-cell : (fields names : List Text) (old new : Given) (es : List Entry) (location : ℕ)
    (settings : List Setting) → Keeps fields names old es → is_some (get nat_cmp old.cells location) ≡ false
    → set_again [] settings ≡ None → btree_map_len old.cells < STATE_CELLS → new.values ≡ old.values
    → ((q : ℕ) → get nat_cmp new.cells q ≡ cond (is_at (nat_cmp location) q)
    (Some (cell_values (length fields) settings)) (get nat_cmp old.cells q))
    → btree_map_len new.cells ≡ btree_map_len old.cells + 1
    → (refusal fields names es (Cell location settings) ≡ None)
    × Keeps fields names new (es ++ Cell location settings ∷ [])
taken-cell fields names old new es location settings k none once few values cells count =
    let absent : cell_given es location ≡ None =
    option_map-none (cell_values (length fields)) (cell_given es location)
    (sym (k.cells location) ∙ is_some-false (get nat_cmp old.cells location) none) in
    let counted : btree_map_len old.cells ≡ cell_count es = k.count in
    let room : nat_lt (cell_count es) STATE_CELLS ≡ true = lt-ltb (cell_count es) STATE_CELLS (omega arith) in (
      ap (λ o. cond (is_some o) (Some (Twice (cell_name location))) (cell_refusal fields es (set_again [] settings)))
          absent
          ∙ ap (cell_refusal fields es) once
          ∙ ap (λ b. cond b None (Some TooLong)) room,
      keeps-cell fields names old new es location settings k absent values cells count,
    )

-- a line that gives nothing is taken
pub taken-nothing : (fields names : List Text) (given : Given) (es : List Entry) (e : Entry)
    → Keeps fields names given es → e ≡ Nothing
    → (refusal fields names es e ≡ None) × Keeps fields names given (es ++ e ∷ [])
taken-nothing fields names given es e k is =
    subst (λ x. (refusal fields names es x ≡ None) × Keeps fields names given (es ++ x ∷ [])) (sym is)
    (refl, keeps-nothing fields names given es k)
