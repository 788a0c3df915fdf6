-- With which variables and cells a procedure starts, once footprints are found for all its assertions.
-- Names: `begin-LAW`; `store-LAW` for the store.
use Rattle.std.proofs.Common.{◌≡◌, ◌≢◌, ◌<◌, ◌≤◌, ◌+◌, ◌==◌, ◌&&◌, ℕ, Bool, true, false, cond, nat_eq, nat_lt, nat_cmp, List, [], ◌∷◌, Option, Some, None, All, Contains, length, map, get_or, slice_get, is_some, refl, sym, ap, ◌∙◌, subst, arith, Vec, Global, inl, inr, bytes_eq}
use Rattle.std.specs.BTreeSet.{contains}
use Rattle.std.specs.FinMap.{contains_key, get}
use Rattle.std.specs.List.{AllZip, IsDistinct, concat}
use Rattle.std.specs.Option.{option_map, unwrap_or}
use Rattle.std.specs.Set.{is_member}
use Rattle.std.proofs.lemmas.Bool.{false≢true, lt-ltb, ltb-false, ltb-true}
use Rattle.std.proofs.lemmas.Bool.Decides.{Decides-eqb}
use Rattle.std.proofs.lemmas.List.Elements.{All-contains}
use Rattle.std.proofs.lemmas.Option.{none-some, slice_get-get_or, slice_get-map, slice_get_past, slice_get_within, unwrap_or-slice_get, get_or_from_slice_get}
use Rattle.sf_base.specs.declared.ids.ProcId.{ProcId}
use Rattle.sf_base.specs.declared.ids.Var.{Var}
use Rattle.sf_base.specs.declared.ids.Var.TheVariants.{Own, Shared}
use Rattle.sf_base.specs.declared.value.Value.{Value}
use Rattle.sf_base.specs.declared.value.Value.TheVariants.{Nil as nil}
use Rattle.sf_base.specs.HeapStore.{Heap, IsEmpty, Slot, Store, own, shared}
use Rattle.sf_base.proofs.Bools.{and-left, and-right, bool-same}
use Rattle.sf_base.proofs.Options.{cond-some, is_some-false, is_some-map, option_map-some}
use Rattle.sf_core.specs.declared.command.Expr.{Expr}
use Rattle.sf_core.specs.Assertions.Sat.{Sat, value}
use Rattle.sf_core.specs.Machine.Config.{evaluate}
use Rattle.sf_core.specs.Machine.Start.{Beginning, settled, fresh, BeginsWith, Invariants, IsKept, MeetsPre, entry_slot, first_count, initial_config}
use Rattle.sf_core.specs.Program.Init.{init_name, is_init, sets_up}
use Rattle.sf_core.specs.Program.Named.{name_in}
use Rattle.sf_core.specs.Program.Syntax.{Assertion, Procedure, Program, Resource}
use Rattle.sf_heap.specs.Cells.{AreAt, Cells, cell_of, heap_of}
use Rattle.sf_foot.specs.declared.vars.Vars.{Vars}
use Rattle.sf_foot.specs.Footprint.{IsFootprint}
use Rattle.sf_foot.specs.Starting.{HasWidth, IsBeginning, StartsWith, assertions_of, store_of}
use Rattle.sf_foot.specs.Variables.{value_of, values_or_none}
use Rattle.sf_foot.specs.declared.found.Found.{Found}
use Rattle.sf_state.specs.Entering.{HoldsNone}
use Rattle.sf_state.specs.Checked.Beginning.{Fits, SuitsFresh}
use Rattle.sf_state.specs.Checked.Found.{AreFound, IsLeast}
use Rattle.sf_state.specs.Names.{has_init}
use Rattle.sf_state.specs.Starts.{HaveFootprints, IsLeftOver, without}
use Rattle.sf_state.proofs.FirstNamed.{first-named, some-named}
use Rattle.sf_state.proofs.Turns.{turns-from_parts}
use Rattle.sf_state.proofs.Without.{foot-splits, without-append, without-other, without-taken}
use Rattle.sf_base.specs.declared.ids.ResId.{ResId}
use Rattle.sf_base.proofs.MapSplits.{splits-of_empty_right}
use Rattle.sf_base.proofs.Equality.{bytes_eq-self}

-- the invariants hold of footprints in turn that leave nothing
begin-invariants : (rs : List Resource) (vars : Var → Value) (store : Store) (heap : Heap) (parts : List (List ℕ))
    → value vars ≡ evaluate entry_slot store → HaveFootprints vars heap (map (λ r. r.invariant) rs) parts
    → IsEmpty (without (concat parts) heap) → Invariants rs store heap
begin-invariants [] vars store heap parts e f empty =
    subst (λ ps. IsEmpty (without (concat ps) heap)) f empty
begin-invariants (r ∷ rs) vars store heap [] e f empty = absurd f
begin-invariants (r ∷ rs) vars store heap (ls ∷ parts) e f empty = record {
  left = f.0.part;
  right = without ls heap;
  splits = foot-splits r.invariant.level vars heap ls f.0;
  first = subst (λ (val : Expr → Value). Sat r.invariant.level val (λ n. nil) f.0.part) e f.0.foot.sat;
  second = begin-invariants rs vars store (without ls heap) parts e f.1
      (subst (λ (rest : Heap). IsEmpty rest) (without-append ls (concat parts) heap) empty);
}

-- the values of a procedure's variables in the store of a start
store-values : (b : Beginning) (g : Procedure) (vars : Vars) → length vars.own.items ≤ first_count b g
    → value (value_of vars) ≡ evaluate entry_slot (store_of b g vars)
store-values b g vars few = ap value (λ i x. at x i)
  where
    past : (k : ℕ) → first_count b g ≤ k → get_or vars.own.items k nil ≡ nil
    past k h = sym (unwrap_or-slice_get vars.own.items k nil)
        ∙ ap (λ o. unwrap_or o nil) (slice_get_past vars.own.items k (omega (arith, few, h)))

    choose : (k : ℕ) (within : Bool) → nat_lt k (first_count b g) ≡ within
        → get_or vars.own.items k nil ≡ unwrap_or (cond within (Some (get_or vars.own.items k nil)) None) nil
    choose k true e = refl
    choose k false e = past k (ltb-false k (first_count b g) e)

    at : (x : Var) → value_of vars x ≡ unwrap_or (store_of b g vars (entry_slot x)) nil
    at (Own k) = choose k (nat_lt k (first_count b g)) refl
    at (Shared r k) = sym (unwrap_or-slice_get (values_or_none (slice_get vars.shared.items r.0)) k nil)

-- the numbers of variables of each resource
store-counts : (p : Program) (g : Procedure) (vars : Vars) (r : ℕ) → Fits p g vars
    → option_map (λ (vs : Vec Value Global). length vs.items) (slice_get vars.shared.items r)
    ≡ option_map (λ (h : Resource). length h.variables) (slice_get p.resources r)
store-counts p g vars r fits =
    sym (slice_get-map (λ (vs : Vec Value Global). length vs.items) vars.shared.items r)
    ∙ ap (λ ns. slice_get ns r) fits.shared ∙ slice_get-map (λ (h : Resource). length h.variables) p.resources r

-- each variable has a value
store-kept : (b : Beginning) (p : Program) (g : Procedure) (vars : Vars) → Fits p g vars → (slot : Slot)
    → IsKept b p g slot → (v : Value) × (store_of b g vars slot ≡ Some v)
store-kept b p g vars fits (own e i) k = (
  get_or vars.own.items i nil,
  ap (λ z. cond (z && nat_lt i (first_count b g)) (Some (get_or vars.own.items i nil)) None)
      ((Decides-eqb e 0).1 k.0)
      ∙ ap (λ z. cond z (Some (get_or vars.own.items i nil)) None) (lt-ltb i (first_count b g) k.1),
)
store-kept b p g vars fits (shared r i) k =
    let counted = option_map-some (λ (vs : Vec Value Global). length vs.items) (slice_get vars.shared.items r.0)
    (length k.0.variables) (store-counts p g vars r.0 fits ∙ ap (option_map (λ (h : Resource). length h.variables)) k.1) in (
      get_or counted.0.items i nil,
      ap (λ o. slice_get (values_or_none o) i) counted.1
          ∙ slice_get-get_or counted.0.items i nil (omega (arith, k.2, counted.2)),
    )

-- and nothing else has one
store-no_more : (b : Beginning) (p : Program) (g : Procedure) (vars : Vars) → Fits p g vars → (slot : Slot)
    (v : Value) → store_of b g vars slot ≡ Some v → IsKept b p g slot
store-no_more b p g vars fits (own e i) v s =
    let both = cond-some ((e == 0) && nat_lt i (first_count b g)) (get_or vars.own.items i nil) v s in (
      (Decides-eqb e 0).0 (and-left (e == 0) (nat_lt i (first_count b g)) both),
      ltb-true i (first_count b g) (and-right (e == 0) (nat_lt i (first_count b g)) both),
    )
store-no_more b p g vars fits (shared r i) v s = go (slice_get vars.shared.items r.0) refl s
  where
    go : (o : Option (Vec Value Global)) → slice_get vars.shared.items r.0 ≡ o
        → slice_get (values_or_none o) i ≡ Some v → IsKept b p g (shared r i)
    go None e s = absurd (none-some v s)
    go (Some vs) e s =
        let counted = option_map-some (λ (h : Resource). length h.variables) (slice_get p.resources r.0)
        (length vs.items)
        (sym (store-counts p g vars r.0 fits) ∙ ap (option_map (λ (ws : Vec Value Global). length ws.items)) e) in
        let within = slice_get_within vs.items i v s in
        (counted.0, counted.1, omega (arith, within, counted.2))

-- its locals are nil
store-locals : (b : Beginning) (p : Program) (g : Procedure) (vars : Vars) → Fits p g vars → (i : ℕ)
    → g.references + g.values ≤ i → i < first_count b g → store_of b g vars (own 0 i) ≡ Some nil
store-locals b p g vars fits i past within =
    ap (λ z. cond z (Some (get_or vars.own.items i nil)) None) (lt-ltb i (first_count b g) within)
    ∙ ap Some (sym (unwrap_or-slice_get vars.own.items i nil)
    ∙ ap (λ o. unwrap_or o nil) (slice_get_past vars.own.items i (omega (arith, past, fits.own))))

-- what is left of a heap of which all cells were taken
begin-empty : (heap : Cells) (parts : List (List ℕ))
    → ((l : ℕ) → contains_key heap l ≡ is_member nat_eq (concat parts) l)
    → IsEmpty (without (concat parts) (heap_of heap))
begin-empty heap parts all = record { none = λ l. at l (is_member nat_eq (concat parts) l) refl }
  where
    at : (l : ℕ) (b : Bool) → is_member nat_eq (concat parts) l ≡ b → without (concat parts) (heap_of heap) l ≡ None
    at l true e = without-taken (concat parts) (heap_of heap) l e
    at l false e = without-other (concat parts) (heap_of heap) l e
        ∙ ap (option_map cell_of) (is_some-false (get heap l) (all l ∙ e))

-- where all cells were taken, the locations of cells are those that were taken
pub begin-all : (as_found : List Assertion) (vars : Var → Value) (heap : Cells) (found : Found) (at : List ℕ)
    → AreFound as_found vars heap found → AreAt at heap → All (λ l. contains nat_cmp found.taken l ≡ true) at
    → (l : ℕ) → contains_key heap l ≡ is_member nat_eq (concat found.parts.items) l
begin-all as_found vars heap found at are all taken l =
    bool-same (contains_key heap l) (is_member nat_eq (concat found.parts.items) l)
    (λ h. sym (are.apart.marks l) ∙ All-contains (λ q. contains nat_cmp found.taken q ≡ true) at l taken ((all l).0 h))
    (are.apart.there l)

-- where the variables of resources are nil, they are so in the store
store-nil : (b : Beginning) (g : Procedure) (vars : Vars) → ((r : ResId) (i : ℕ) → value_of vars (Shared r i) ≡ nil)
    → (r : ResId) (i : ℕ) (v : Value) → store_of b g vars (shared r i) ≡ Some v → v ≡ nil
store-nil b g vars all r i v e =
    sym (get_or_from_slice_get (values_or_none (slice_get vars.shared.items r.0)) i v nil e) ∙ all r i

-- the program's procedure that sets the resources up
pub first-init : (p : Program) → has_init p ≡ true
    → (n : ProcId) × (h : Procedure) × IsBeginning p true (fresh n h) × (is_init h ≡ true)
first-init p has = elim (first-named (map (λ g. g.name) p.procedures) init_name) [
  | inl f ↦
      let at = option_map-some (λ (g : Procedure). g.name) (slice_get p.procedures f.0) init_name
      (sym (slice_get-map (λ (g : Procedure). g.name) p.procedures f.0) ∙ f.1.0) in (
        record { 0 = f.0 },
        at.0,
        (at.1, f.1),
        ap (λ n. bytes_eq n init_name) (sym at.2) ∙ bytes_eq-self init_name,
      )
  | inr none ↦ absurd (some-named p.procedures has none)
]

-- whether a procedure sets the resources up goes by its number too
pub init-at : (p : Program) (f : ProcId) (g : Procedure) → slice_get p.procedures f.0 ≡ Some g
    → sets_up p f ≡ is_init g
init-at p f g there = ap (λ o. bytes_eq (name_in o) init_name) there

-- Variables and cells of a procedure, and its parts of them
module _ (p : Program) (f : ProcId) (g : Procedure) (is_fresh : Bool) (vars : Vars) (heap : Cells)
    (parts : List (List ℕ)) (there : slice_get p.procedures f.0 ≡ Some g) (enough : g.references + g.values ≤ length g.names)
    (free : HoldsNone p f) (other : sets_up p f ≡ false) (fits : Fits p g vars) (width : HasWidth (length p.fields) heap)
    (footprints : AllZip (λ a ls. IsFootprint a.level (value_of vars) (heap_of heap) ls) (assertions_of p g is_fresh) parts)
    (distinct : IsDistinct nat_eq (concat parts))
    (all : (l : ℕ) → contains_key heap l ≡ is_member nat_eq (concat parts) l) where
  -- the procedure starts where a run begins so
  begin-with : (b : Beginning) → IsBeginning p is_fresh b → length g.names ≤ first_count b g
      → BeginsWith b p g (store_of b g vars) (heap_of heap) → StartsWith p f is_fresh vars heap parts
  begin-with b kind few begins = record {
    procedure = g;
    beginning = b;
    config = initial_config b p f g (store_of b g vars) (heap_of heap);
    there = there;
    parameters = fits.own;
    kind = kind;
    starts = record {
      procedure = g;
      there = there;
      beginning = b;
      is = refl;
      holds_none = free;
      no_init = sym (init-at p f g there) ∙ other;
      kept = store-kept b p g vars fits;
      no_more = store-no_more b p g vars fits;
      locals = store-locals b p g vars fits;
      begins = begins;
    };
    begins = refl;
    width = width;
    footprints = footprints;
    union = (distinct, all);
  }

  begin-values : (b : Beginning) → length g.names ≤ first_count b g
      → value (value_of vars) ≡ evaluate entry_slot (store_of b g vars)
  begin-values b few = store-values b g vars (omega (arith, fits.own, enough, few))

-- what is left of the heap of a start
begin-rest : (heap : Heap) (ls : List ℕ) (parts : List (List ℕ)) → IsEmpty (without (concat (ls ∷ parts)) heap)
    → IsEmpty (without (concat parts) (without ls heap))
begin-rest heap ls parts empty = subst (λ (rest : Heap). IsEmpty rest) (without-append ls (concat parts) heap) empty

-- a settled start's parts are those of the precondition and the invariants
begin-settled : (p : Program) (g : Procedure) (vars : Vars) (heap : Heap) (parts : List (List ℕ))
    → value (value_of vars) ≡ evaluate entry_slot (store_of settled g vars)
    → HaveFootprints (value_of vars) heap (assertions_of p g false) parts → IsEmpty (without (concat parts) heap)
    → BeginsWith settled p g (store_of settled g vars) heap
begin-settled p g vars heap [] values turns empty = absurd turns
begin-settled p g vars heap (ls ∷ parts) values turns empty = record {
  left = turns.0.part;
  right = without ls heap;
  splits = foot-splits g.pre.level (value_of vars) heap ls turns.0;
  first = subst (λ (val : Expr → Value). Sat g.pre.level val (λ n. nil) turns.0.part) values turns.0.foot.sat;
  second = begin-invariants p.resources (value_of vars) (store_of settled g vars) (without ls heap) parts values
      turns.1 (begin-rest heap ls parts empty);
}

-- a fresh start's part is that of the precondition alone
begin-fresh : (p : Program) (g : Procedure) (vars : Vars) (heap : Heap) (parts : List (List ℕ)) (b : Beginning)
    → value (value_of vars) ≡ evaluate entry_slot (store_of b g vars)
    → HaveFootprints (value_of vars) heap (assertions_of p g true) parts → IsEmpty (without (concat parts) heap)
    → MeetsPre g (store_of b g vars) heap
begin-fresh p g vars heap [] b values turns empty = absurd turns
begin-fresh p g vars heap (ls ∷ parts) b values turns empty =
    let none : IsEmpty (without ls heap) =
    subst (λ ps. IsEmpty (without (concat ps) (without ls heap))) turns.1 (begin-rest heap ls parts empty) in
    let whole = splits-of_empty_right none (foot-splits g.pre.level (value_of vars) heap ls turns.0) in
    subst (λ (h : Heap). MeetsPre g (store_of b g vars) h) (sym whole)
    (subst (λ (val : Expr → Value). Sat g.pre.level val (λ n. nil) turns.0.part) values turns.0.foot.sat)

-- the procedure starts
pub begin-starts : (p : Program) (f : ProcId) (g : Procedure) (is_fresh : Bool) (vars : Vars) (heap : Cells)
    (parts : List (List ℕ)) → slice_get p.procedures f.0 ≡ Some g → g.references + g.values ≤ length g.names
    → HoldsNone p f → sets_up p f ≡ false → (is_fresh ≡ true → SuitsFresh p vars) → Fits p g vars
    → HasWidth (length p.fields) heap
    → AllZip (λ a ls. IsFootprint a.level (value_of vars) (heap_of heap) ls) (assertions_of p g is_fresh) parts
    → IsDistinct nat_eq (concat parts) → ((l : ℕ) → contains_key heap l ≡ is_member nat_eq (concat parts) l)
    → StartsWith p f is_fresh vars heap parts
begin-starts p f g false vars heap parts there enough free other suits fits width footprints distinct all =
    let turns = turns-from_parts (value_of vars) (heap_of heap) (assertions_of p g false) parts footprints distinct in
    begin-with p f g false vars heap parts there enough free other fits width footprints distinct all settled tt
    (omega arith) (begin-settled p g vars (heap_of heap) parts
    (begin-values p f g false vars heap parts there enough free other fits width footprints distinct all settled (omega arith))
    turns (begin-empty heap parts all))
begin-starts p f g true vars heap parts there enough free other suits fits width footprints distinct all =
    let turns = turns-from_parts (value_of vars) (heap_of heap) (assertions_of p g true) parts footprints distinct in
    let s = suits refl in
    let i = first-init p s.init in
    let b = fresh i.0 i.1 in
    let few : length g.names ≤ length g.names + length i.1.names = omega arith in
    begin-with p f g true vars heap parts there enough free other fits width footprints distinct all b i.2
    few (
      i.2.0,
      i.3,
      store-nil b g vars s.values,
      begin-fresh p g vars (heap_of heap) parts b
          (begin-values p f g true vars heap parts there enough free other fits width footprints distinct all b few)
          turns (begin-empty heap parts all),
    )

-- a start's parts leave nothing
pub begin-leaves_none : (p : Program) (f : ProcId) (vars : Vars) (heap : Cells) (parts : List (List ℕ))
    (is_fresh : Bool) → StartsWith p f is_fresh vars heap parts → IsEmpty (without (concat parts) (heap_of heap))
begin-leaves_none p f vars heap parts is_fresh s = begin-empty heap parts s.union.1

-- the least cell that wasn't taken is left over
pub begin-left_over : (as_found : List Assertion) (vars : Var → Value) (heap : Cells) (found : Found) (at : List ℕ)
    (location : ℕ) → AreFound as_found vars heap found → AreAt at heap
    → IsLeast (λ l. Contains at l × (contains nat_cmp found.taken l ≡ false)) location
    → IsLeftOver vars (heap_of heap) as_found location
begin-left_over as_found vars heap found at location are all first = record {
  parts = found.parts.items;
  all = turns-from_parts vars (heap_of heap) as_found found.parts.items are.footprints are.apart.distinct;
  there = λ n. false≢true (sym (ap is_some (sym (without-other (concat found.parts.items) (heap_of heap) location
      (sym (are.apart.marks location) ∙ first.here.1)) ∙ n)) ∙ is_some-map cell_of (get heap location)
      ∙ (all location).1 first.here.0);
  least = λ l some. first.least l (here l some (is_member nat_eq (concat found.parts.items) l) refl);
}
  where
    here : (l : ℕ) → without (concat found.parts.items) (heap_of heap) l ≢ None → (b : Bool)
        → is_member nat_eq (concat found.parts.items) l ≡ b → Contains at l × (contains nat_cmp found.taken l ≡ false)
    here l some true e = absurd (some (without-taken (concat found.parts.items) (heap_of heap) l e))
    here l some false e = ((all l).0 (present (contains_key heap l) refl), are.apart.marks l ∙ e)
      where
        present : (b : Bool) → contains_key heap l ≡ b → contains_key heap l ≡ true
        present true h = h
        present false h = absurd (some (without-other (concat found.parts.items) (heap_of heap) l e
            ∙ ap (option_map cell_of) (is_some-false (get heap l) h)))
