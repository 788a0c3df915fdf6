-- A text that isn't refused gives variables and cells.
-- Names: `make-WHAT` for what is made of its lines, `made-WHAT` for what that is; `state-exists`.
use Rattle.std.proofs.Common.{◌≡◌, ◌⊎◌, ◌<◌, ◌≤◌, ◌+◌, ◌^◌, ℕ, suc, Bool, true, false, cond, nat_eq, List, [], ◌∷◌, Option, Some, None, Contains, length, map, take, drop, slice_get, refl, sym, ap, ap₂, ◌∙◌, inl, inr, arith, Vec, Global}
use denote.RawPtr.{null_ptr}
use Rattle.std.specs.FinMap.{empty, get, get-empty, get-insert, insert}
use Rattle.std.specs.List.{flat_map, sum_by}
use Rattle.std.specs.Option.{option_map, option_or}
use Rattle.std.specs.Ordering.{eq_by_cmp, nat_cmp}
use Rattle.std.proofs.lemmas.Bool.{eq-eqb, eqb-true}
use Rattle.std.proofs.lemmas.Cmp.{nat_cmp_total}
use Rattle.std.proofs.lemmas.List.{length-append, length-drop, length-map, length-take}
use Rattle.std.proofs.lemmas.List.Sums.{sum_by-cons}
use Rattle.sf_base.specs.declared.ids.ProcId.{ProcId}
use Rattle.sf_base.specs.declared.limits.TheConstants.{OWN_VARIABLES, RESOURCE_VARIABLES}
use Rattle.sf_base.specs.declared.value.Value.{Value}
use Rattle.sf_base.proofs.Bools.{bool-same}
use Rattle.sf_base.proofs.Elements.{contains-cons, contains-nil, contains-rest}
use Rattle.sf_base.proofs.Numbers.{at-is}
use Rattle.sf_core.specs.Program.Formed.{IsFormed}
use Rattle.sf_core.specs.Program.Syntax.{Procedure, Program, Resource}
use Rattle.sf_heap.specs.Cells.{Cells}
use Rattle.sf_foot.specs.declared.vars.Vars.{Vars}
use Rattle.sf_lines.specs.Lines.{Text}
use Rattle.sf_state.specs.declared.line.Entry.{Entry}
use Rattle.sf_state.specs.declared.line.Entry.TheVariants.{Nothing, Bad, Unknown, Variable, Cell}
use Rattle.sf_state.specs.Names.{format_of, names_of, names_of_resource, parameters, qualified}
use Rattle.sf_state.specs.Refused.{cell_given, cell_values}
use Rattle.sf_state.specs.Says.{entries_of}
use Rattle.sf_state.specs.Stated.{given_by, or_nil, text_refusal, values_given}
use Rattle.sf_state.specs.Starts.{GivesState, by_resource}

-- the cells that lines give
make-cells : (count : ℕ) → List Entry → Cells
make-cells count [] = empty
make-cells count (Cell at settings ∷ es) = insert (make-cells count es) at (cell_values count settings)
make-cells count (Nothing ∷ es) = make-cells count es
make-cells count (Bad ∷ es) = make-cells count es
make-cells count (Unknown name ∷ es) = make-cells count es
make-cells count (Variable k v ∷ es) = make-cells count es

pub by_cmp : (x y : ℕ) → eq_by_cmp nat_cmp x y ≡ nat_eq x y
by_cmp x y = at-is x y

eq-sym : (x y : ℕ) → nat_eq x y ≡ nat_eq y x
eq-sym x y = bool-same (nat_eq x y) (nat_eq y x) (λ e. eq-eqb y x (sym (eqb-true x y e)))
    (λ e. eq-eqb x y (sym (eqb-true y x e)))

made-cells : (count : ℕ) (es : List Entry) (l : ℕ)
    → get (make-cells count es) l ≡ option_map (cell_values count) (cell_given es l)
unfolding make-cells
made-cells count [] l = get-empty nat_cmp l
made-cells count (Cell at settings ∷ es) l =
    get-insert nat_cmp_total (make-cells count es) at (cell_values count settings) l
    ∙ ap₂ (λ b o. cond b (Some (cell_values count settings)) o) (by_cmp l at ∙ eq-sym l at) (made-cells count es l)
    ∙ both (nat_eq at l)
  where
    both : (b : Bool) → cond b (Some (cell_values count settings)) (option_map (cell_values count) (cell_given es l))
        ≡ option_map (cell_values count) (option_or (cond b (Some settings) None) (cell_given es l))
    both true = refl
    both false = refl
made-cells count (Nothing ∷ es) l = made-cells count es l
made-cells count (Bad ∷ es) l = made-cells count es l
made-cells count (Unknown name ∷ es) l = made-cells count es l
made-cells count (Variable k v ∷ es) l = made-cells count es l

-- a vector of a list that isn't too long
make-vec : {X : Type 0} (xs : List X) → length xs < 2 ^ 63 → (v : Vec X Global) × (v.items ≡ xs)
make-vec xs small = (
  record {
    ptr = null_ptr;
    len = length xs;
    cap = length xs;
    alloc = record { memory = record { seal = tt } };
    items = xs;
    ok = (refl, omega arith);
    small = small;
  },
  refl,
)

-- the lists of the values of each resource's variables, as vectors
make-vecs : (lists : List (List Value)) (most : ℕ) → most < 2 ^ 63 → ((xs : List Value) → Contains lists xs → length xs ≤ most)
    → (vs : List (Vec Value Global)) × (map (λ v. v.items) vs ≡ lists)
make-vecs [] most small few = ([], refl)
make-vecs (xs ∷ lists) most small few =
    let short = few xs ((contains-cons xs lists xs).1 (inl refl)) in
    let v = make-vec xs (omega (arith, short, small)) in
    let more = make-vecs lists most small (λ ys c. few ys (contains-rest xs lists ys c)) in
    (v.0 ∷ more.0, ap₂ ◌∷◌ v.1 more.1)

resource-short : (rs : List Resource) (values xs : List Value) → Contains (by_resource rs values) xs
    → length xs ≤ length values
resource-short [] values xs c = absurd (contains-nil xs c)
resource-short (r ∷ rs) values xs c =
    elim ((contains-cons (take (length r.variables) values) (by_resource rs (drop (length r.variables) values)) xs).0 c) [
      | inl e ↦
          let size = length-take (length r.variables) values in
          let same : length (take (length r.variables) values) ≡ length xs = ap length e in
          omega (arith, size, same)
      | inr d ↦
          let short = resource-short rs (drop (length r.variables) values) xs d in
          let size = length-drop (length r.variables) values in
          omega (arith, short, size)
    ]

resource-count : (rs : List Resource) (values : List Value) → length (by_resource rs values) ≡ length rs
resource-count [] values = refl
resource-count (r ∷ rs) values = ap suc (resource-count rs (drop (length r.variables) values))

-- there are so many names of variables
names-count : (rs : List Resource) → length (flat_map names_of_resource rs) ≡ sum_by (λ r. length r.variables) rs
names-count [] = refl
names-count (r ∷ rs) = length-append (names_of_resource r) (flat_map names_of_resource rs)
    ∙ ap₂ ◌+◌ (length-map r.variables (qualified r.name)) (names-count rs)
    ∙ sym (sum_by-cons (λ (q : Resource). length q.variables) r rs)

given-count : (es : List Entry) (number : ℕ) (names : List Text) → length (values_given es number names) ≡ length names
given-count es number [] = refl
given-count es number (n ∷ names) = ap suc (given-count es (suc number) names)

-- a program's procedure has not too many variables
names-few : (p : Program) (f : ProcId) (g : Procedure) → IsFormed p → slice_get p.procedures f.0 ≡ Some g
    → length (names_of p g) ≤ OWN_VARIABLES + RESOURCE_VARIABLES
names-few p f g formed there =
    let within = formed.procedures f.0 g there in
    let own = length-take (g.references + g.values) g.names in
    let shared = names-count p.resources in
    let whole = length-append (parameters g) (flat_map names_of_resource p.resources) in
    let few = within.declared_count in
    let variables = formed.variables in
    omega (arith, own, shared, whole, few, variables)

-- a text that isn't refused gives a state
pub state-exists : (p : Program) (f : ProcId) (g : Procedure) (text : Text) → IsFormed p
    → slice_get p.procedures f.0 ≡ Some g → text_refusal (format_of p g) text ≡ None
    → (vars : Vars) × (heap : Cells) × GivesState p g text vars heap
state-exists p f g text formed there accepted =
    let given = given_by (format_of p g) text in
    let values = map or_nil given in
    let size : length values ≡ length (names_of p g) = length-map given or_nil
    ∙ given-count (entries_of p.fields (names_of p g) text) 0 (names_of p g) in
    let few = names-few p f g formed there in
    let taken = length-take (g.references + g.values) values in
    let dropped = length-drop (g.references + g.values) values in
    let own = make-vec (take (g.references + g.values) values) (omega (arith, taken, size, few)) in
    let lists = make-vecs (by_resource p.resources (drop (g.references + g.values) values))
    (OWN_VARIABLES + RESOURCE_VARIABLES) (omega arith) (λ xs c.
    let short = resource-short p.resources (drop (g.references + g.values) values) xs c in
    omega (arith, short, dropped, size, few)) in
    let count : length lists.0 ≡ length p.resources = sym (length-map lists.0 (λ (v : Vec Value Global). v.items))
    ∙ ap length lists.1 ∙ resource-count p.resources (drop (g.references + g.values) values) in
    let resources = formed.resource_count in
    let shared = make-vec lists.0 (omega (arith, count, resources)) in (
      record { own = own.0; shared = shared.0 },
      make-cells (length p.fields) (entries_of p.fields (names_of p g) text),
      record {
        accepted = accepted;
        values = values;
        gives = record {
          values_are = refl;
          cells_are = made-cells (length p.fields) (entries_of p.fields (names_of p g) text);
        };
        own = own.1;
        shared = ap (map (λ (v : Vec Value Global). v.items)) shared.1 ∙ lists.1;
      },
    )
