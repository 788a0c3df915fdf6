-- Where a procedure that needs nothing starts.
-- Names: `plain_LAW`.
use Rattle.std.specs.Prelude.{◌≡◌, ◌↔◌, ℕ, ◌+◌, ◌<◌, ◌==◌, ◌&&◌, Bool, true, false, cond, nat_lt, nat_eq, Contains, length, map, List, [], ◌∷◌, slice_get, slice_index_or, Some, None, is_some}
use Rattle.std.specs.FinMap.{contains_key, empty, get, get-empty}
use Rattle.std.specs.List.{AllZip, IsDistinct}
use Rattle.std.specs.Option.{option_map, option_or}
use Rattle.std.specs.Ordering.{nat_cmp}
use Rattle.std.proofs.Common.{true≢false, sym, ap, ◌∙◌, refl, subst, inl, inr, arith}
use Rattle.std.proofs.lemmas.Bool.Decides.{nat_tests}
use Rattle.sf_base.proofs.Elements.{contains-nil}
use Rattle.sf_base.proofs.Options.{some-once}
use Rattle.sf_base.specs.declared.ids.ProcId.{ProcId}
use Rattle.sf_base.specs.declared.ids.ResId.{ResId}
use Rattle.sf_base.specs.declared.ids.Var.{Var}
use Rattle.sf_base.specs.declared.ids.Var.TheVariants.{Own as own_variable, Shared as shared_variable}
use Rattle.sf_base.specs.declared.value.Value.{Value}
use Rattle.sf_base.specs.declared.value.Value.TheVariants.{Nil as nil, Loc as loc}
use Rattle.sf_base.specs.HeapStore.{Apart, Heap, IsEmpty, Slot, Splits, shared, own, Store}
use Rattle.sf_core.specs.declared.command.Expr.{Expr}
use Rattle.sf_core.specs.Assertions.Occurs.{VarOccursIn}
use Rattle.sf_core.specs.Assertions.Sat.{Sat, value}
use Rattle.sf_core.specs.Machine.Config.{evaluate}
use Rattle.sf_core.specs.Machine.HasThroughout.{HasThroughout}
use Rattle.sf_core.specs.Machine.Start.{entry_slot, initial_config, Invariants, IsKept, settled}
use Rattle.sf_core.specs.Program.Init.{sets_up}
use Rattle.sf_core.proofs.Inits.{sets_up-is}
use Rattle.sf_core.specs.Program.Syntax.{Assertion, Level, level, none, also, Procedure, Program, Resource}
use Rattle.sf_foot.specs.declared.vars.Vars.{Vars}
use Rattle.sf_foot.specs.Footprint.{IsFootprint}
use Rattle.sf_foot.specs.Starting.{HasWidth, IsDisjointUnion, IsFirstUnit, IsMentioned, StartsWith, store_of}
use Rattle.sf_foot.specs.Variables.{value_of, values_or_none}
use Rattle.sf_heap.specs.Cells.{Cells, cell_of, heap_of}
use Rattle.sf_machine_bench.specs.Plain.{HasNone, IsPlain}

-- nil is no location
no_nil : (location : ℕ) → nil ≡ loc location → ⊥
no_nil location e = cc

-- nothing is no cell
no_some : {X : Type 0} (x : X) → Some x ≡ None → ⊥
no_some x e = cc

-- no locations are distinct
plain_distinct : IsDistinct nat_eq []
unfolding IsDistinct
plain_distinct = tt

-- no cells are an empty heap
plain_empty : (cells : Cells) → cells ≡ empty → IsEmpty (heap_of cells)
plain_empty cells e = record {
  none = λ l. ap (λ (z : Cells). heap_of z l) e ∙ ap (option_map cell_of) (get-empty nat_cmp l);
}

-- it splits into nothing and nothing
plain_splits : (heap : Heap) → IsEmpty heap → Splits heap heap heap
plain_splits heap e = record {
  apart = λ l. subst (λ o. Apart o (heap l)) (sym (e.none l)) tt;
  is = λ l. e.none l ∙ sym (ap (λ o. option_or o o) (e.none l));
}

-- a level without conjuncts is satisfied by nothing
plain_sat : (a : Level Expr) (val : Expr → Value) (some : ℕ → Value) (heap : Heap) → HasNone a → IsEmpty heap
    → Sat a val some heap
plain_sat (level made none) val some heap h e = (some, λ n outside. refl, e)
plain_sat (level made (also c cs)) val some heap h e = absurd h

-- and no variable occurs in it
plain_occurs : (a : Level Expr) (x : Var) → HasNone a → VarOccursIn a x → ⊥
plain_occurs (level made none) x h o = (o.2).0
plain_occurs (level made (also c cs)) x h o = h

-- no resource counts as held
plain_holds : (p : Program) (f : ProcId) (g : Procedure) → slice_get p.procedures f.0 ≡ Some g → sets_up p f ≡ false
    → IsPlain p g → (r : ResId) → HasThroughout p f r → ⊥
plain_holds p f g there other plain r (inr up) = absurd (true≢false (sym up.0 ∙ other))
plain_holds p f g there other plain r (inl held) =
    let same : held.procedure ≡ g = some-once (slice_get p.procedures f.0) held.procedure g held.there there in
    let x = shared_variable r held.variable in
    elim held.occurs [
      | inl o ↦
          plain_occurs g.pre.level x plain.pre (subst (λ (h : Procedure). VarOccursIn h.pre.level x) same o)
      | inr o ↦
          plain_occurs g.post.level x plain.post (subst (λ (h : Procedure). VarOccursIn h.post.level x) same o)
    ]

-- its footprint is nothing
plain_foot : (a : Level Expr) (vars : Vars) (heap : Heap) (ls : List ℕ) → HasNone a → IsEmpty heap → ls ≡ []
    → IsFootprint a (value_of vars) heap ls
plain_foot a vars heap ls h e n = record {
  part = heap;
  foot = record {
    rest = heap;
    splits = plain_splits heap e;
    sat = plain_sat a (value (value_of vars)) (λ i. nil) heap h e;
  };
  at = λ l. (λ there. absurd (there (e.none l)), λ there. absurd (contains-nil l (subst (λ z. Contains z l) n there)));
}

-- without resources all their invariants hold of nothing
plain_invariants : (rs : List Resource) (store : Store) (heap : Heap) → rs ≡ [] → IsEmpty heap
    → Invariants rs store heap
plain_invariants rs store heap n e = subst (λ z. Invariants z store heap) (sym n) e

-- an own variable is nil
plain_own : (g : Procedure) (vars : Vars) (i : ℕ) → vars.own.items ≡ [] → i < length g.names
    → store_of settled g vars (own 0 i) ≡ Some nil
plain_own g vars i n l =
    let test : nat_lt i (length g.names) ≡ true = grind (arith, nat_tests) in
    ap (λ b. cond ((0 == 0) && b) (Some (slice_index_or vars.own.items i nil)) None) test
    ∙ ap (λ (z : List Value). Some (slice_index_or z i nil)) n

-- the variables that are there are those of the procedure
plain_kept : (p : Program) (g : Procedure) (vars : Vars) (slot : Slot) → p.resources ≡ [] → vars.own.items ≡ []
    → IsKept settled p g slot → (v : Value) × (store_of settled g vars slot ≡ Some v)
plain_kept p g vars (own e i) rs n k =
    (nil, ap (λ z. store_of settled g vars (own z i)) (k.0) ∙ plain_own g vars i n k.1)
plain_kept p g vars (shared r i) rs n k =
    absurd (no_more k.0 (ap (λ (z : List Resource). slice_get z r.0) (sym rs) ∙ k.1))
  where
    no_more : (of : Resource) → slice_get [] r.0 ≡ Some of → ⊥
    no_more of e = cc

-- and no others
plain_no_more : (p : Program) (g : Procedure) (vars : Vars) (slot : Slot) (v : Value) → vars.shared.items ≡ []
    → store_of settled g vars slot ≡ Some v → IsKept settled p g slot
plain_no_more p g vars (own e i) v n h = go (e == 0) (nat_lt i (length g.names)) refl refl h
  where
    go : (a b : Bool) → (e == 0) ≡ a → nat_lt i (length g.names) ≡ b
        → cond (a && b) (Some (slice_index_or vars.own.items i nil)) None ≡ Some v → IsKept settled p g (own e i)
    go true true s t h = (grind (arith, nat_tests), grind (arith, nat_tests))
    go true false s t h = cc
    go false b s t h = cc
plain_no_more p g vars (shared r i) v n h =
    absurd (gone (ap (λ z. slice_get (values_or_none (slice_get z r.0)) i) (sym n) ∙ h))
  where
    gone : slice_get (values_or_none (slice_get [] r.0)) i ≡ Some v → ⊥
    gone e = cc

-- nothing is the union of a part without locations
plain_union : (heap : Cells) (ls : List ℕ) → heap ≡ empty → ls ≡ [] → IsDisjointUnion heap (ls ∷ [])
plain_union heap ls no_cells no_locations =
    subst (λ z. IsDisjointUnion heap (z ∷ [])) (sym no_locations)
    (subst (λ (z : Cells). IsDisjointUnion z ([] ∷ [])) (sym no_cells) without)
  where
    without : IsDisjointUnion empty ([] ∷ [])
    without = (plain_distinct, λ l. ap is_some (get-empty nat_cmp l))

-- nothing is mentioned
plain_mentions : (vars : Vars) (heap : Cells) (location : ℕ) → vars.own.items ≡ [] → vars.shared.items ≡ []
    → heap ≡ empty → IsMentioned vars heap location → ⊥
plain_mentions vars heap location n m e (inl there) =
    absurd (true≢false (sym there ∙ ap (λ (z : Cells). contains_key z location) e
    ∙ ap is_some (get-empty nat_cmp location)))
plain_mentions vars heap location n m e (inr (inl (own_variable i, at))) =
    no_nil location (sym (ap (λ (z : List Value). slice_index_or z i nil) n) ∙ at)
plain_mentions vars heap location n m e (inr (inl (shared_variable r i, at))) =
    no_nil location (sym (ap (λ z. slice_index_or (values_or_none (slice_get z r.0)) i nil) m) ∙ at)
plain_mentions vars heap location n m e (inr (inr (at, here, field, there, held))) =
    no_some here (sym there ∙ ap (λ (z : Cells). get z at) e ∙ get-empty nat_cmp at)

-- the first unit is 1
pub plain_unit : (vars : Vars) (heap : Cells) → vars.own.items ≡ [] → vars.shared.items ≡ [] → heap ≡ empty
    → IsFirstUnit vars heap 1
plain_unit vars heap n m e =
    (((omega arith, omega arith), λ location there. absurd (plain_mentions vars heap location n m e there)), inl refl)

-- a list without elements
plain_none : (ls ms : List ℕ) → ((l : ℕ) → Contains ls l ↔ Contains ms l) → ms ≡ [] → ls ≡ []
plain_none [] ms h n = refl
plain_none (x ∷ xs) ms h n =
    absurd (contains-nil x (subst (λ z. Contains z x) n ((h x).0 (0, omega arith, refl))))

-- no cell lacks a field
plain_width : (heap : Cells) (count : ℕ) → heap ≡ empty → HasWidth count heap
plain_width heap count no_cells location values h =
    absurd (no_some values (sym h ∙ ap (λ (z : Cells). get z location) no_cells ∙ get-empty nat_cmp location))

-- it starts with nothing, and one part without locations
plain_part : (p : Program) (f : ProcId) (g : Procedure) (vars : Vars) (heap : Cells) (ls : List ℕ)
    → slice_get p.procedures f.0 ≡ Some g → sets_up p f ≡ false → IsPlain p g → vars.own.items ≡ []
    → vars.shared.items ≡ [] → heap ≡ empty → ls ≡ [] → StartsWith p f false vars heap (ls ∷ [])
plain_part p f g vars heap ls there other plain no_own no_shared no_cells no_locations = record {
  procedure = g;
  beginning = settled;
  config = initial_config settled p f g (store_of settled g vars) (heap_of heap);
  there = there;
  parameters = ap (λ (z : List Value). length z) no_own ∙ sym (λ i. plain.references i + plain.values i);
  kind = tt;
  starts = record {
    procedure = g;
    there = there;
    beginning = settled;
    is = refl;
    holds_none = plain_holds p f g there other plain;
    no_init = sym (sets_up-is p f g there) ∙ other;
    kept = λ slot k. plain_kept p g vars slot plain.resources no_own k;
    no_more = λ slot v e. plain_no_more p g vars slot v no_shared e;
    locals = λ i l m. plain_own g vars i no_own m;
    begins = record {
      left = heap_of heap;
      right = heap_of heap;
      splits = plain_splits (heap_of heap) nothing;
      first = plain_sat g.pre.level (evaluate entry_slot (store_of settled g vars)) (λ i. nil) (heap_of heap) plain.pre nothing;
      second = plain_invariants p.resources (store_of settled g vars) (heap_of heap) plain.resources nothing;
    };
  };
  begins = refl;
  width = plain_width heap (length p.fields) no_cells;
  footprints = subst (λ (rs : List Resource). AllZip
      (λ (a : Assertion) (at : List ℕ). IsFootprint a.level (value_of vars) (heap_of heap) at)
      (g.pre ∷ map (λ (r : Resource). r.invariant) rs) (ls ∷ [])) (sym plain.resources)
      (plain_foot g.pre.level vars (heap_of heap) ls plain.pre nothing no_locations, tt);
  union = plain_union heap ls no_cells no_locations;
}
  where
    nothing : IsEmpty (heap_of heap)
    nothing = plain_empty heap no_cells

-- it starts with nothing
pub plain_starts : (p : Program) (f : ProcId) (g : Procedure) (vars : Vars) (heap : Cells) (ls ms : List ℕ)
    (parts : List (List ℕ)) → slice_get p.procedures f.0 ≡ Some g → sets_up p f ≡ false → IsPlain p g
    → vars.own.items ≡ [] → vars.shared.items ≡ [] → heap ≡ empty → parts ≡ ls ∷ []
    → ((l : ℕ) → Contains ls l ↔ Contains ms l) → ms ≡ [] → StartsWith p f false vars heap parts
plain_starts p f g vars heap ls ms parts there other plain no_own no_shared no_cells one same no_more =
    subst (λ (z : List (List ℕ)). StartsWith p f false vars heap z) (sym one)
    (plain_part p f g vars heap ls there other plain no_own no_shared no_cells (plain_none ls ms same no_more))
