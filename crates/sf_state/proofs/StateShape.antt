-- A state that a text gives has a value for each variable, and its locations are below 2^62.
-- Names: `shape-LAW` for the values; `state-LAW` for the state.
use Rattle.std.proofs.Common.{◌≡◌, ◌⊎◌, ◌<◌, ◌≤◌, ◌+◌, ◌^◌, ℕ, zero, suc, true, nat_cmp, List, [], ◌∷◌, Option, Some, None, Contains, length, map, take, drop, get_or, replicate, slice_get, set, is_some, refl, sym, ap, ◌∙◌, subst, inl, inr, arith, Vec, Global, is_none, Bool, true≢false}
use Rattle.std.specs.BTreeMap as tree
use Rattle.std.specs.FinMap.{get}
use Rattle.std.specs.List.{flat_map, list_all}
use Rattle.std.specs.Option.{IfSome, option_map}
use Rattle.std.proofs.lemmas.List.{length-append, length-map, length-replicate, length-set, drop-map}
use Rattle.std.proofs.lemmas.Option.{none-some, same_Some}
use Rattle.std.proofs.lemmas.Simd.{map-map}
use Rattle.sf_base.specs.declared.ids.Var.{Var}
use Rattle.sf_base.specs.declared.ids.Var.TheVariants.{Own, Shared}
use Rattle.sf_base.specs.declared.value.Value.{Value}
use Rattle.sf_base.specs.declared.value.Value.TheVariants.{Nil as nil, Loc as loc}
use Rattle.sf_base.proofs.Elements.{contains-cons, contains-nil, contains-replicate, contains-rest}
use Rattle.sf_base.proofs.Lists.{cons-parts}
use Rattle.sf_base.proofs.Options.{option_map-some}
use Rattle.sf_base.proofs.Members.{contains-map}
use Rattle.sf_core.specs.Program.Syntax.{Procedure, Program, Resource}
use Rattle.sf_heap.specs.Cells.{Cells, FieldValues}
use Rattle.sf_foot.specs.declared.vars.Vars.{Vars}
use Rattle.sf_foot.specs.Starting.{HasWidth, IsMentioned}
use Rattle.sf_foot.specs.Variables.{value_of, values_or_none}
use Rattle.sf_state.specs.declared.fields.Setting.{Setting}
use Rattle.sf_state.specs.declared.line.Entry.{Entry}
use Rattle.sf_state.specs.Checked.Beginning.{Fits, SuitsFresh}
use Rattle.sf_state.specs.Checked.FirstUnit.{AreInBounds, IsValueIn}
use Rattle.sf_lines.specs.Lines.{Text, lines}
use Rattle.sf_state.specs.Names.{format_of, has_init, names_of, names_of_resource, parameters, qualified}
use Rattle.sf_state.specs.Refused.{cell_given, cell_values, value_given, values_after}
use Rattle.sf_state.specs.Says.{entries_of}
use Rattle.sf_state.specs.Starts.{GivesState, by_resource, gives_fresh}
use Rattle.sf_state.specs.Stated.{Gives, given_by, is_fresh, or_nil, text_refusal, values_given}
use Rattle.sf_state.proofs.Bounds.{AllSmall, EntriesSmall, IfCellSmall, IfSmall, IsSmall, small-cell_given, small-entries, small-given}
use Rattle.sf_state.proofs.Mentions.{contains-at, value-read}
use Rattle.std.proofs.lemmas.Bool.{and_parts}
use Rattle.sf_base.specs.declared.ids.ResId.{ResId}

-- what is there
pub some-of : {X : Type 0} (R : X → Type 0) (o : Option X) (x : X) → o ≡ Some x → R x → IfSome o R
some-of R o x e r = subst (λ q. IfSome q R) (sym e) r

-- so many are there
shape-take : {X : Type 0} (n : ℕ) (xs : List X) → n ≤ length xs → length (take n xs) ≡ n
shape-take zero xs h = refl
shape-take (suc n) [] h = absurd (omega (arith, h))
shape-take (suc n) (x ∷ xs) h = ap suc (shape-take n xs (omega (arith, h)))

shape-drop : {X : Type 0} (k n : ℕ) (xs : List X) → k + n ≤ length xs → n ≤ length (drop k xs)
shape-drop zero n xs h = omega (arith, h)
shape-drop (suc k) n [] h = absurd (omega (arith, h))
shape-drop (suc k) n (x ∷ xs) h = shape-drop k n xs (omega (arith, h))

-- as many values as names
shape-given : (es : List Entry) (k : ℕ) (names : List Text) → length (values_given es k names) ≡ length names
shape-given es k [] = refl
shape-given es k (name ∷ names) = ap suc (shape-given es (suc k) names)

-- each resource has its share of them
shape-shared : (rs : List Resource) (vs : List Value) → length (flat_map names_of_resource rs) ≤ length vs
    → map (λ (ws : List Value). length ws) (by_resource rs vs) ≡ map (λ (r : Resource). length r.variables) rs
shape-shared [] vs h = refl
shape-shared (r ∷ rs) vs h =
    let both = length-append (names_of_resource r) (flat_map names_of_resource rs) in
    let own = length-map r.variables (qualified r.name) in
    ap (λ n. n ∷ map (λ (ws : List Value). length ws) (by_resource rs (drop (length r.variables) vs)))
    (shape-take (length r.variables) vs (omega (arith, h, both, own)))
    ∙ ap (λ ns. length r.variables ∷ ns)
    (shape-shared rs (drop (length r.variables) vs)
    (shape-drop (length r.variables) (length (flat_map names_of_resource rs)) vs (omega (arith, h, both, own))))

-- a value for each variable
pub state-fits : (p : Program) (g : Procedure) (text : Text) (vars : Vars) (heap : Cells)
    → g.references + g.values ≤ length g.names → GivesState p g text vars heap → Fits p g vars
state-fits p g text vars heap enough s =
    let n = g.references + g.values in
    let all : length s.values ≡ length (names_of p g) =
    ap length s.gives.values_are ∙ length-map (given_by (format_of p g) text) or_nil
    ∙ shape-given (entries_of p.fields (names_of p g) text) 0 (names_of p g) in
    let parts = length-append (parameters g) (flat_map names_of_resource p.resources) in
    let own = shape-take n g.names enough in
    record {
      own = ap length s.own ∙ shape-take n s.values (omega (arith, all, parts, own));
      shared = sym (map-map (λ (ws : List Value). length ws) (λ (vs : Vec Value Global). vs.items) vars.shared.items)
          ∙ ap (map (λ (ws : List Value). length ws)) s.shared
          ∙ shape-shared p.resources (drop n s.values)
          (shape-drop n (length (flat_map names_of_resource p.resources)) s.values (omega (arith, all, parts, own)));
    }

-- a cell has as many values as there are fields, whichever are set
values-many : (values : List Value) (settings : List Setting) → length (values_after values settings) ≡ length values
values-many values [] = refl
values-many values (s ∷ more) =
    values-many (set values s.field.0 s.value) more ∙ length-set values s.field.0 s.value

pub cell-many : (count : ℕ) (settings : List Setting) → length (cell_values count settings) ≡ count
cell-many count settings = values-many (replicate count nil) settings ∙ length-replicate count nil

-- each cell has a value for each field
pub state-width : (p : Program) (g : Procedure) (text : Text) (vars : Vars) (heap : Cells)
    → GivesState p g text vars heap → HasWidth (length p.fields) heap
state-width p g text vars heap s location values e =
    let made = option_map-some (cell_values (length p.fields))
    (cell_given (entries_of p.fields (names_of p g) text) location) values
    (sym (s.gives.cells_are location) ∙ e) in
    ap length made.2 ∙ values-many (replicate (length p.fields) nil) made.0
    ∙ length-replicate (length p.fields) nil

-- values that lines give are small, and nil is
shape-small : (es : List Entry) (k : ℕ) (names : List Text) (v : Value) → EntriesSmall es
    → Contains (map or_nil (values_given es k names)) v → IsSmall v
shape-small es k [] v small c = absurd (contains-nil v c)
shape-small es k (name ∷ names) v small c =
    elim ((contains-cons (or_nil (value_given es k)) (map or_nil (values_given es (suc k) names)) v).0 c) [
      | inl f ↦ subst IsSmall f (one (value_given es k) (small-given es k small))
      | inr d ↦ shape-small es (suc k) names v small d
    ]
  where
    one : (o : Option Value) → IfSmall o → IsSmall (or_nil o)
    one None h = tt
    one (Some u) h = h

-- those among the first, and those after them
among-take : {X : Type 0} (n : ℕ) (xs : List X) (x : X) → Contains (take n xs) x → Contains xs x
among-take zero xs x c = absurd (contains-nil x c)
among-take (suc n) [] x c = c
among-take (suc n) (y ∷ xs) x c = elim ((contains-cons y (take n xs) x).0 c) [
  | inl e ↦ (contains-cons y xs x).1 (inl e)
  | inr d ↦ contains-rest y xs x (among-take n xs x d)
]

among-drop : {X : Type 0} (n : ℕ) (xs : List X) (x : X) → Contains (drop n xs) x → Contains xs x
among-drop zero xs x c = c
among-drop (suc n) [] x c = c
among-drop (suc n) (y ∷ xs) x c = contains-rest y xs x (among-drop n xs x c)

among-shared : (rs : List Resource) (vs ws : List Value) (v : Value) → Contains (by_resource rs vs) ws → Contains ws v
    → Contains vs v
among-shared [] vs ws v c d = absurd (contains-nil ws c)
among-shared (r ∷ rs) vs ws v c d =
    elim ((contains-cons (take (length r.variables) vs) (by_resource rs (drop (length r.variables) vs)) ws).0 c) [
      | inl e ↦ among-take (length r.variables) vs v (subst (λ us. Contains us v) (sym e) d)
      | inr k ↦ among-drop (length r.variables) vs v
          (among-shared rs (drop (length r.variables) vs) ws v k d)
    ]

-- the values of fields
among-set : {X : Type 0} (xs : List X) (i : ℕ) (x y : X) → Contains (set xs i x) y → (x ≡ y) ⊎ Contains xs y
among-set [] i x y c = inr c
among-set (z ∷ xs) zero x y c = elim ((contains-cons x xs y).0 c) [
  | inl e ↦ inl e
  | inr d ↦ inr (contains-rest z xs y d)
]
among-set (z ∷ xs) (suc i) x y c = elim ((contains-cons z (set xs i x) y).0 c) [
  | inl e ↦ inr ((contains-cons z xs y).1 (inl e))
  | inr d ↦ elim (among-set xs i x y d) [
    | inl e ↦ inl e
    | inr k ↦ inr (contains-rest z xs y k)
  ]
]

fields-small : (vs : List Value) (settings : List Setting) (v : Value) → ((w : Value) → Contains vs w → IsSmall w)
    → AllSmall settings → Contains (values_after vs settings) v → IsSmall v
fields-small vs [] v all small c = all v c
fields-small vs (s ∷ settings) v all small c = fields-small (set vs s.field.0 s.value) settings v
    (λ w d. elim (among-set vs s.field.0 s.value w d) [
      | inl e ↦ subst IsSmall e small.0
      | inr k ↦ all w k
    ]) small.1 c

-- all locations are small
pub state-bounds : (p : Program) (g : Procedure) (text : Text) (vars : Vars) (heap : Cells)
    → GivesState p g text vars heap → AreInBounds (IsMentioned vars heap)
state-bounds p g text vars heap s = bound
  where
    small : EntriesSmall (entries_of p.fields (names_of p g) text)
    small = small-entries p.fields (names_of p g) 0 (lines text)

    value : (v : Value) → Contains s.values v → IsSmall v
    value v c = shape-small (entries_of p.fields (names_of p g) text) 0 (names_of p g) v small
        (subst (λ vs. Contains vs v) s.gives.values_are c)

    own : (l : ℕ) → IsValueIn vars.own.items l → l < 2 ^ 62
    own l v = subst IsSmall v.2 (value v.0
        (among-take (g.references + g.values) s.values v.0 (subst (λ vs. Contains vs v.0) s.own v.1)))

    resource : (ws : Vec Value Global) (l : ℕ) → Contains vars.shared.items ws → IsValueIn ws.items l → l < 2 ^ 62
    resource ws l c v = subst IsSmall v.2 (value v.0
        (among-drop (g.references + g.values) s.values v.0
        (among-shared p.resources (drop (g.references + g.values) s.values) ws.items v.0
        (subst (λ ls. Contains ls ws.items) s.shared
        (contains-map (λ (vs : Vec Value Global). vs.items) vars.shared.items ws c)) v.1)))

    cell : (l : ℕ) (here : FieldValues) → get heap l ≡ Some here
        → (l < 2 ^ 62) × ((v : Value) → Contains here v → IsSmall v)
    cell l here e = go (cell_given (entries_of p.fields (names_of p g) text) l)
        (small-cell_given (entries_of p.fields (names_of p g) text) l small) (sym (s.gives.cells_are l) ∙ e)
      where
        go : (o : Option (List Setting)) → IfCellSmall l o → option_map (cell_values (length p.fields)) o ≡ Some here
            → (l < 2 ^ 62) × ((v : Value) → Contains here v → IsSmall v)
        go None h f = absurd (none-some here f)
        go (Some settings) h f = (
          h.0,
          λ v c. fields-small (replicate (length p.fields) nil) settings v
              (λ w d. subst IsSmall (sym (contains-replicate (length p.fields) nil w d)) tt) h.1
              (subst (λ vs. Contains vs v) (sym (same_Some (cell_values (length p.fields) settings) here f)) c),
        )

    variable : (x : Var) (l : ℕ) → value_of vars x ≡ loc l → l < 2 ^ 62
    variable (Own k) l e = own l (value-read vars.own.items k l e)
    variable (Shared r k) l e = go (slice_get vars.shared.items r.0) refl e
      where
        go : (o : Option (Vec Value Global)) → slice_get vars.shared.items r.0 ≡ o
            → get_or (values_or_none o) k nil ≡ loc l → l < 2 ^ 62
        go None f h = absurd cc
        go (Some ws) f h = resource ws l (contains-at vars.shared.items r.0 ws f) (value-read ws.items k l h)

    bound : (l : ℕ) → IsMentioned vars heap l → l < 2 ^ 62
    bound l (inl h) = go (get heap l) refl h
      where
        go : (o : Option FieldValues) → get heap l ≡ o → is_some o ≡ true → l < 2 ^ 62
        go None f k = absurd cc
        go (Some here) f k = (cell l here f).0
    bound l (inr (inl v)) = variable v.0 l v.1
    bound l (inr (inr f)) =
        let v = value-read f.1 f.2 l f.4 in subst IsSmall v.2 ((cell f.0 f.1 f.3).1 v.0 v.1)

-- a state from what a text gives and where that went
pub state-from : (p : Program) (g : Procedure) (text : Text) (vars : Vars) (heap : Cells) (values list : List Value)
    (cells : tree.BTreeMap ℕ FieldValues)
    → (text_refusal (format_of p g) text ≡ None) × Gives (format_of p g) text values (tree.get nat_cmp cells)
    → ((l : ℕ) → get heap l ≡ tree.get nat_cmp cells l) → list ≡ values
    → vars.own.items ≡ take (g.references + g.values) list
    → map (λ vs. vs.items) vars.shared.items ≡ by_resource p.resources (drop (g.references + g.values) list)
    → GivesState p g text vars heap
state-from p g text vars heap values list cells t placed e own shared = record {
  accepted = t.0;
  values = values;
  gives = record { values_are = t.1.values_are; cells_are = λ l. placed l ∙ t.1.cells_are l };
  own = own ∙ ap (take (g.references + g.values)) e;
  shared = shared ∙ ap (λ vs. by_resource p.resources (drop (g.references + g.values) vs)) e;
}

-- values that aren't given are nil
fresh-nil : (given : List (Option Value)) (v : Value) → list_all is_none given ≡ true
    → Contains (map or_nil given) v → v ≡ nil
fresh-nil [] v h c = absurd (contains-nil v c)
fresh-nil (None ∷ given) v h c = elim ((contains-cons nil (map or_nil given) v).0 c) [
  | inl e ↦ sym e
  | inr d ↦ fresh-nil given v h d
]
fresh-nil (Some w ∷ given) v h c = absurd (true≢false (sym h))

-- a value at a place is nil where all are
fresh-at : (vs : List Value) (k : ℕ) → ((v : Value) → Contains vs v → v ≡ nil) → get_or vs k nil ≡ nil
fresh-at [] k all = refl
fresh-at (v ∷ vs) zero all = all v ((contains-cons v vs v).1 (inl refl))
fresh-at (v ∷ vs) (suc k) all = fresh-at vs k (λ w c. all w (contains-rest v vs w c))

-- a fresh state leaves the variables of resources nil
pub state-fresh : (p : Program) (g : Procedure) (text : Text) (vars : Vars) (heap : Cells)
    → g.references + g.values ≤ length g.names → GivesState p g text vars heap → gives_fresh p g text ≡ true
    → SuitsFresh p vars
state-fresh p g text vars heap enough s fresh = record { init = both.0; values = variable }
  where
    given : List (Option Value)
    given = given_by (format_of p g) text

    both : (has_init p ≡ true) × (list_all is_none (drop (length (parameters g)) given) ≡ true)
    both = and_parts (has_init p) (list_all is_none (drop (length (parameters g)) given)) fresh

    own : length (parameters g) ≡ g.references + g.values
    own = shape-take (g.references + g.values) g.names enough

    shared : drop (g.references + g.values) s.values ≡ map or_nil (drop (length (parameters g)) given)
    shared = ap (drop (g.references + g.values)) s.gives.values_are
        ∙ ap (λ n. drop n (map or_nil given)) (sym own) ∙ drop-map or_nil (length (parameters g)) given

    row : (ws : Vec Value Global) → Contains vars.shared.items ws → (v : Value) → Contains ws.items v → v ≡ nil
    row ws c v d = fresh-nil (drop (length (parameters g)) given) v both.1
        (subst (λ vs. Contains vs v) shared
        (among-shared p.resources (drop (g.references + g.values) s.values) ws.items v
        (subst (λ ls. Contains ls ws.items) s.shared
        (contains-map (λ (vs : Vec Value Global). vs.items) vars.shared.items ws c)) d))

    variable : (r : ResId) (i : ℕ) → value_of vars (Shared r i) ≡ nil
    variable r i = go (slice_get vars.shared.items r.0) refl
      where
        go : (o : Option (Vec Value Global)) → slice_get vars.shared.items r.0 ≡ o
            → get_or (values_or_none o) i nil ≡ nil
        go None e = refl
        go (Some ws) e = fresh-at ws.items i (row ws (contains-at vars.shared.items r.0 ws e))
