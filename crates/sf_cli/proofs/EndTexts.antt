-- The text of the configuration in which a run has ended: there is one at most, and one where the cells are finitely
-- many; and what a run answers is written as it.
-- Names: rising-*, values-*, lines-*, end-*.
use Rattle.std.proofs.Common.{◌≡◌, ◌≢◌, ◌∙◌, ◌↔◌, ◌+◌, ◌<◌, ◌≤◌, ◌++◌, ℕ, zero, suc, [], ◌∷◌, List, Option, Some, None, inl, inr, ap, ap₂, arith, codes, get_or, length, length-take, refl, subst, sym}
use Rattle.std.specs.FinMap.{get}
use Rattle.std.specs.List.{flat_map}
use Rattle.std.specs.List.Sorted.{IsStrictlyIncreasing}
use Rattle.std.specs.Option.{option_map, unwrap_or}
use Rattle.std.specs.Prelude.{AllPairs, Contains, IsTrue, Vec, is_some, slice_get, slice_index_or}
use Rattle.std.specs.declared.alloc.Global.{Global}
use Rattle.std.proofs.lemmas.Bool.{cases_lt}
use Rattle.std.proofs.lemmas.List.Elements.{All-contains, Contains-append_left, Contains-get_or, Contains-push, Contains-push_cases}
use Rattle.std.proofs.lemmas.List.Kept.{AllPairs-from_increasing}
use Rattle.std.proofs.lemmas.List.Quantifiers.{all_pairs_push}
use Rattle.sf_base.proofs.Elements.{contains-cons, contains-nil, contains-rest, pairs-head, pairs-tail}
use Rattle.sf_base.proofs.Options.{some-none, some-once}
use Rattle.sf_base.specs.HeapStore.{Cell, Heap, Store, own, shared}
use Rattle.sf_base.specs.declared.ids.ProcId.{ProcId}
use Rattle.sf_base.specs.declared.ids.Var.TheVariants.{Own, Shared}
use Rattle.sf_base.specs.declared.value.Value.{Value}
use Rattle.sf_base.specs.declared.value.Value.TheVariants.{Nil as nil}
use Rattle.sf_core.specs.Machine.Config.{Config}
use Rattle.sf_core.specs.Machine.Step.{procedure_at}
use Rattle.sf_core.specs.Program.Formed.{IsFormed, variable_count}
use Rattle.sf_core.specs.Program.Syntax.{Procedure, Program, Resource}
use Rattle.sf_foot.specs.declared.vars.Vars.{Vars}
use Rattle.sf_foot.specs.Variables.{values_or_none as row}
use Rattle.sf_heap.specs.Cells.{Cells, cell_of}
use Rattle.sf_machine.specs.Ending.{Ends}
use Rattle.sf_state.specs.Finishing.{IsFinishText, values_of}
use Rattle.sf_state.specs.Names.{names_of, parameters}
use Rattle.sf_state.specs.StateText.{cell_lines, field_text, field_texts, state_text, values_or_none, variable_lines}
use Rattle.sf_state.specs.Refused.{cell_name}
use Rattle.sf_cli.specs.EndText.{IsEndText, cells_in, shared_values, values_by, values_in}
use Rattle.sf_words.specs.Words.{Text}

-- ---- locations by rising number

-- each number is below all later ones
abbrev Rises : List ℕ → Type 0
Rises xs = AllPairs (λ x y. x < y) xs

-- two lists that rise and have the same members are one
pub rising-same : (xs ys : List ℕ) → Rises xs → Rises ys → ((l : ℕ) → Contains xs l ↔ Contains ys l) → xs ≡ ys
rising-same [] [] p q h = refl
rising-same [] (y ∷ ys) p q h = absurd (contains-nil y ((h y).1 (0, omega arith, refl)))
rising-same (x ∷ xs) [] p q h = absurd (contains-nil x ((h x).0 (0, omega arith, refl)))
rising-same (x ∷ xs) (y ∷ ys) p q h =
    ap₂ (λ (a : ℕ) (as_ : List ℕ). a ∷ as_) same
    (rising-same xs ys (pairs-tail (λ a b. a < b) x xs p) (pairs-tail (λ a b. a < b) y ys q) (λ l. (to l, from l)))
  where
    above-x : (l : ℕ) → Contains xs l → x < l
    above-x l c = All-contains (λ z. x < z) xs l (pairs-head (λ a b. a < b) x xs p) c

    above-y : (l : ℕ) → Contains ys l → y < l
    above-y l c = All-contains (λ z. y < z) ys l (pairs-head (λ a b. a < b) y ys q) c

    same : x ≡ y
    same = elim ((contains-cons y ys x).0 ((h x).0 (0, omega arith, refl))) [
      | inl e ↦ sym e
      | inr m ↦ elim ((contains-cons x xs y).0 ((h y).1 (0, omega arith, refl))) [
        | inl e ↦ e
        | inr n ↦ let one = above-y x m in let two = above-x y n in absurd (omega (arith, one, two))
      ]
    ]

    to : (l : ℕ) → Contains xs l → Contains ys l
    to l m = elim ((contains-cons y ys l).0 ((h l).0 (contains-rest x xs l m))) [
      | inl e ↦ let one = above-x l m in absurd (omega (arith, one, same, e))
      | inr n ↦ n
    ]

    from : (l : ℕ) → Contains ys l → Contains xs l
    from l m = elim ((contains-cons x xs l).0 ((h l).1 (contains-rest y ys l m))) [
      | inl e ↦ let one = above-y l m in absurd (omega (arith, one, same, e))
      | inr n ↦ n
    ]

rising-increasing : (xs : List ℕ) → Rises xs → IsStrictlyIncreasing xs
rising-increasing xs h k l = h k (k + 1) 0 (omega arith) l

-- the locations below a number at which a heap has cells, by rising number
record Found (heap : Heap) (n : ℕ) : Type 0 where
  locations : List ℕ
  rises : Rises locations
  all : (l : ℕ) → ((l < n) × (heap l ≢ None)) ↔ Contains locations l

rising-more : (heap : Heap) (n : ℕ) → Found heap n → (o : Option Cell) → heap n ≡ o → Found heap (suc n)
rising-more heap n before None e = record {
  locations = before.locations;
  rises = before.rises;
  all = λ l. (to l, λ c. let h = (before.all l).1 c in (let less = h.0 in omega (arith, less), h.1));
}
  where
    to : (l : ℕ) → (l < suc n) × (heap l ≢ None) → Contains before.locations l
    to l h = elim (cases_lt l n) [
      | inl less ↦ (before.all l).0 (less, h.1)
      | inr more ↦
          let within = h.0 in
          let is : l ≡ n = omega (arith, more, within) in absurd (h.1 (ap heap is ∙ e))
    ]
rising-more heap n before (Some cell) e = record {
  locations = before.locations ++ n ∷ [];
  rises = all_pairs_push (λ x y. x < y) before.locations n before.rises below;
  all = λ l. (to l, from l);
}
  where
    below : (k d : ℕ) → k < length before.locations → get_or before.locations k d < n
    below k d less = ((before.all (get_or before.locations k d)).1 (Contains-get_or before.locations k d less)).0

    to : (l : ℕ) → (l < suc n) × (heap l ≢ None) → Contains (before.locations ++ n ∷ []) l
    to l h = elim (cases_lt l n) [
      | inl less ↦ Contains-append_left before.locations (n ∷ []) l ((before.all l).0 (less, h.1))
      | inr more ↦
          let within = h.0 in
          let is : n ≡ l = omega (arith, more, within) in
          subst (λ (z : ℕ). Contains (before.locations ++ n ∷ []) z) is (Contains-push before.locations n)
    ]

    from : (l : ℕ) → Contains (before.locations ++ n ∷ []) l → (l < suc n) × (heap l ≢ None)
    from l c = elim (Contains-push_cases before.locations n l c) [
      | inl m ↦ let h = (before.all l).1 m in (let less = h.0 in omega (arith, less), h.1)
      | inr is ↦ (omega (arith, is), λ none. some-none cell (sym e ∙ ap heap is ∙ none))
    ]

rising-found : (heap : Heap) (n : ℕ) → Found heap n
rising-found heap zero = record {
  locations = [];
  rises = λ i j d less below. absurd (omega (arith, less, below));
  all = λ l. (λ h. let none = h.0 in absurd (omega (arith, none)), λ c. absurd (contains-nil l c));
}
rising-found heap (suc n) = rising-more heap n (rising-found heap n) (heap n) refl

-- ---- values and lines

-- the value of a number among the values by numbers
values-at : (value : ℕ → Value) (number : ℕ) (names : List Text) (i j : ℕ) → i < length names → j ≡ number + i
    → slice_index_or (values_by value number names) i nil ≡ value j
values-at value number [] i j l e = absurd (omega (arith, l))
values-at value number (name ∷ more) zero j l e =
    let is : number ≡ j = omega (arith, e) in ap value is
values-at value number (name ∷ more) (suc i) j l e =
    values-at value (suc number) more i j (omega (arith, l)) (omega (arith, e))

-- a list that has just these values
values-are : (items : List Value) (value : ℕ → Value) (number : ℕ) (names : List Text) → length items ≡ length names
    → ((i j : ℕ) → i < length names → j ≡ number + i → slice_index_or items i nil ≡ value j)
    → items ≡ values_by value number names
values-are [] value number [] e h = refl
values-are [] value number (name ∷ more) e h = absurd (omega (arith, e))
values-are (item ∷ items) value number [] e h = absurd (omega (arith, e))
values-are (item ∷ items) value number (name ∷ more) e h =
    ap₂ (λ (a : Value) (as_ : List Value). a ∷ as_) (h 0 number (omega arith) (omega arith))
    (values-are items value (suc number) more (omega (arith, e))
    (λ i j l f. h (suc i) j (omega (arith, l)) (omega (arith, f))))

-- what is kept of the variables of resources
values-shared : (store : Store) (rows : List (Vec Value Global)) (number : ℕ) (rs : List Resource)
    → length rows ≡ length rs
    → ((k : ℕ) (of : Resource) → slice_get rs k ≡ Some of → length (row (slice_get rows k)) ≡ length of.variables)
    → ((k j : ℕ) (of : Resource) (i : ℕ) → slice_get rs k ≡ Some of → i < length of.variables → j ≡ number + k
    → slice_index_or (row (slice_get rows k)) i nil ≡ unwrap_or (store (shared (record { 0 = j }) i)) nil)
    → flat_map (λ (vs : Vec Value Global). vs.items) rows ≡ shared_values store number rs
values-shared store [] number [] e sizes h = refl
values-shared store [] number (r ∷ rs) e sizes h = absurd (omega (arith, e))
values-shared store (vs ∷ rows) number [] e sizes h = absurd (omega (arith, e))
values-shared store (vs ∷ rows) number (r ∷ rs) e sizes h =
    ap₂ (λ (a b : List Value). a ++ b)
    (values-are vs.items (λ i. unwrap_or (store (shared (record { 0 = number }) i)) nil) 0 r.variables
    (sizes 0 r refl) (λ i j l f. own-value i j l f))
    (values-shared store rows (suc number) rs (omega (arith, e)) (λ k of g. sizes (suc k) of g)
    (λ k j of i g l f. h (suc k) j of i g l (omega (arith, f))))
  where
    own-value : (i j : ℕ) → i < length r.variables → j ≡ 0 + i
        → slice_index_or vs.items i nil ≡ unwrap_or (store (shared (record { 0 = number }) j)) nil
    own-value i j l f =
        let is : i ≡ j = omega (arith, f) in
        h 0 number r i refl l (omega arith)
        ∙ ap (λ (z : ℕ). unwrap_or (store (shared (record { 0 = number }) z)) nil) is

-- the text of fields goes by the values of their numbers
lines-fields : (names : List Text) (number : ℕ) (one other : List Value)
    → ((i : ℕ) → number ≤ i → i < number + length names → slice_index_or one i nil ≡ slice_index_or other i nil)
    → field_texts names number one ≡ field_texts names number other
lines-fields [] number one other h = refl
lines-fields (name ∷ more) number one other h =
    ap₂ (λ (a : Value) (b : Text). field_text name a ++ b) (h number (omega arith) (omega arith))
    (lines-fields more (suc number) one other (λ i l m. h i (omega (arith, l)) (omega (arith, m))))

-- the lines of cells go by the values of their fields
lines-cells : (fields : List Text) (one other : ℕ → Option (List Value)) (ls : List ℕ)
    → ((l i : ℕ) → i < length fields
    → slice_index_or (values_or_none (one l)) i nil ≡ slice_index_or (values_or_none (other l)) i nil)
    → cell_lines fields one ls ≡ cell_lines fields other ls
lines-cells fields one other [] h = refl
lines-cells fields one other (l ∷ ls) h =
    ap₂ (λ (a b : Text). (cell_name l ++ a ++ codes "\n") ++ b)
    (lines-fields fields 0 (values_or_none (one l)) (values_or_none (other l)) (λ i z m. h l i (omega (arith, m))))
    (lines-cells fields one other ls h)

-- a cell of finitely many values, and that of a heap
lines-cell : (p : Program) (heap : Heap) (l : ℕ) (o : Option (List Value)) → option_map cell_of o ≡ heap l → (i : ℕ)
    → i < length p.fields → slice_index_or (values_or_none o) i nil
    ≡ slice_index_or (values_or_none (cells_in p heap l)) i nil
lines-cell p heap l None e i less =
    ap (λ (c : Option Cell). slice_index_or (values_or_none (option_map (λ cell. values_by cell 0 p.fields) c)) i nil) e
lines-cell p heap l (Some values) e i less =
    sym (values-at (cell_of values) 0 p.fields i i less (omega arith))
    ∙ ap (λ (c : Option Cell). slice_index_or (values_or_none (option_map (λ cell. values_by cell 0 p.fields) c)) i nil) e

-- ---- the text at an end

-- there is one at most
pub end-once : (p : Program) (g : Procedure) (c : Config) (text other : Text) → IsEndText p g c text
    → IsEndText p g c other → text ≡ other
end-once p g c text other h k =
    h.is ∙ ap (state_text p.fields (names_of p g) (values_in p g c.common.store) (cells_in p c.common.heap)) same
    ∙ sym k.is
  where
    same : h.locations ≡ k.locations
    same = rising-same h.locations k.locations (AllPairs-from_increasing h.locations h.rising)
        (AllPairs-from_increasing k.locations k.rising)
        (λ l. (λ m. (k.all l).0 ((h.all l).1 m), λ m. (h.all l).0 ((k.all l).1 m)))

-- there is one where no cell is from some location on
pub end-there : (p : Program) (g : Procedure) (c : Config) (n : ℕ) → ((l : ℕ) → n ≤ l → c.common.heap l ≡ None)
    → (text : Text) × IsEndText p g c text
end-there p g c n none = (
  state_text p.fields (names_of p g) (values_in p g c.common.store) (cells_in p c.common.heap) found.locations,
  record {
    locations = found.locations;
    rising = rising-increasing found.locations found.rises;
    all = λ l. (λ h. (found.all l).0 (below l h, h), λ m. ((found.all l).1 m).1);
    is = refl;
  },
)
  where
    found : Found c.common.heap n
    found = rising-found c.common.heap n

    below : (l : ℕ) → c.common.heap l ≢ None → l < n
    below l h = elim (cases_lt l n) [ inl less ↦ less | inr more ↦ absurd (h (none l more)) ]

-- what a run answers is written as it
pub end-written : (p : Program) (f : ProcId) (g : Procedure) (c : Config) (vars : Vars) (heap : Cells) (text : Text)
    → IsFormed p → procedure_at p f ≡ Some g → Ends p f c vars heap → IsFinishText p g vars heap text
    → IsEndText p g c text
end-written p f g c vars heap text formed there ends w = record {
  locations = w.locations;
  rising = w.rising;
  all = λ l. (λ h. (w.all l).0 (has l h), λ m. lacks l ((w.all l).1 m));
  is = w.is ∙ ap₂ (λ (values : List Value) (lines : Text).
      variable_lines (names_of p g) 0 values ++ lines) values
      (lines-cells p.fields (get heap) (cells_in p c.common.heap) w.locations
      (λ l i less. lines-cell p c.common.heap l (get heap l) (cell l) i less));
}
  where
    same : ends.procedure ≡ g
    same = some-once (procedure_at p f) ends.procedure g ends.there there

    store : Store
    store = c.common.store

    cell : (l : ℕ) → option_map cell_of (get heap l) ≡ c.common.heap l
    cell l = ap (λ (h : Heap). h l) ends.cells

    has : (l : ℕ) → c.common.heap l ≢ None → IsTrue (is_some (get heap l))
    has l h = go (get heap l) (cell l)
      where
        go : (o : Option (List Value)) → option_map cell_of o ≡ c.common.heap l → IsTrue (is_some o)
        go None e = absurd (h (sym e))
        go (Some values) e = refl

    lacks : (l : ℕ) → IsTrue (is_some (get heap l)) → c.common.heap l ≢ None
    lacks l h none = go (get heap l) (cell l) h
      where
        go : (o : Option (List Value)) → option_map cell_of o ≡ c.common.heap l → IsTrue (is_some o) → ⊥
        go None e t = cc
        go (Some values) e t = some-none (cell_of values) (e ∙ none)

    enough : g.references + g.values ≤ length g.names
    enough =
        let within = formed.procedures f.0 g there in
        let declared : g.references + g.values + g.locals ≤ length g.names = within.declared in omega arith

    parameter_count : length (parameters g) ≡ g.references + g.values
    parameter_count = length-take (g.references + g.values) g.names ∙ omega (arith, enough)

    own-count : length vars.own.items ≡ length (parameters g)
    own-count = ends.parameters ∙ ap (λ (h : Procedure). h.references + h.values) same ∙ sym parameter_count

    own-values : (i j : ℕ) → i < length (parameters g) → j ≡ 0 + i
        → slice_index_or vars.own.items i nil ≡ unwrap_or (store (own 0 j)) nil
    own-values i j less e =
        let is : i ≡ j = omega (arith, e) in
        ends.values (Own i)
        (subst (λ (h : Procedure). i < h.references + h.values) (sym same) (omega (arith, less, parameter_count)))
        ∙ ap (λ (z : ℕ). unwrap_or (store (own 0 z)) nil) is

    shared-values : (k j : ℕ) (of : Resource) (i : ℕ) → slice_get p.resources k ≡ Some of → i < length of.variables
        → j ≡ 0 + k → slice_index_or (row (slice_get vars.shared.items k)) i nil
        ≡ unwrap_or (store (shared (record { 0 = j }) i)) nil
    shared-values k j of i at less e =
        let is : k ≡ j = omega (arith, e) in
        let counted : i < variable_count (slice_get p.resources k) =
        subst (λ (o : Option Resource). i < variable_count o) (sym at) less in
        ends.values (Shared (record { 0 = k }) i) counted
        ∙ ap (λ (z : ℕ). unwrap_or (store (shared (record { 0 = z }) i)) nil) is

    values : values_of vars ≡ values_in p g store
    values = ap₂ (λ (a b : List Value). a ++ b)
        (values-are vars.own.items (λ i. unwrap_or (store (own 0 i)) nil) 0 (parameters g) own-count own-values)
        (values-shared store vars.shared.items 0 p.resources ends.resources
        (λ k of at. ends.variables (record { 0 = k }) of at) shared-values)
