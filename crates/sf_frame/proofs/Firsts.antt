-- The variables that come up where a run begins.
-- Names: `count_LAW` speaks of how many variables a resource has, `store_LAW` of the store that comes up.
use Rattle.std.specs.Prelude.{◌≡◌, ℕ, zero, suc, ◌+◌, ◌-◌, ◌<◌, ◌≤◌, ◌==◌, Bool, true, false, ◌&&◌, ◌||◌, cond, leb, ltb, nat_lt, List, [], ◌∷◌, map, length, get_or, slice_get, slice_index_or, Option, Some, None, is_some}
use Rattle.std.specs.List.{sum_by}
use Rattle.std.specs.Option.{unwrap_or}
use Rattle.std.specs.Ordering.{nat_cmp}
use Rattle.std.specs.BTreeMap.{BTreeMap, get, is_at}
use Rattle.std.specs.Map.{lookup}
use Rattle.std.proofs.Common.{true≢false, sym, ap, ap₂, ◌∙◌, refl, subst, inl, inr, arith}
use Rattle.std.proofs.lemmas.Bool.{and_parts, cases_lt}
use Rattle.std.proofs.lemmas.Bool.Decides.{Decides-ltb, nat_tests}
use Rattle.std.proofs.lemmas.List.{length-map}
use Rattle.std.proofs.lemmas.Simd.{map-map}
use Rattle.std.proofs.lemmas.List.Sums.{get_or-le-sum_by}
use Rattle.std.proofs.lemmas.Option.{unwrap_or-slice_get, slice_get_within}
use Rattle.sf_base.specs.declared.ids.ProcId.{ProcId}
use Rattle.sf_base.specs.declared.ids.ResId.{ResId}
use Rattle.sf_base.specs.declared.ids.Var.TheVariants.{Shared as shared_variable}
use Rattle.sf_base.specs.declared.path.Turn.{Turn}
use Rattle.sf_base.specs.declared.value.Value.{Value}
use Rattle.sf_base.specs.declared.value.Value.TheVariants.{Nil as nil}
use Rattle.sf_base.specs.HeapStore.{Heap, Slot, shared, own, Store}
use Rattle.sf_core.specs.declared.program.Resource.{Resource as CodeResource}
use Rattle.sf_core.specs.Machine.Config.{Config, in_room}
use Rattle.sf_core.specs.Machine.Start.{Beginning, settled, fresh, Start, first_count, first_holders, initial_config, IsKept}
use Rattle.sf_core.specs.Program.Init.{IsInitAmong, init_name}
use Rattle.sf_core.specs.Program.Named.{IsFirstNamed}
use Rattle.sf_core.specs.Machine.Step.{index_of}
use Rattle.sf_core.specs.Program.Syntax.{Procedure, Program, Resource}
use Rattle.sf_core.specs.Program.ProgramView.{program_of}
use Rattle.sf_core.specs.Program.View.{procedure_of, resource_of}
use Rattle.sf_core.specs.declared.program.Program.{Program as CodeProgram}
use Rattle.sf_foot.specs.declared.vars.Vars.{Vars}
use Rattle.sf_foot.specs.Starting.{IsBeginning, store_of}
use Rattle.sf_foot.specs.Variables.{value_of, values_or_none}
use Rattle.sf_heap.specs.Cells.{Cells, heap_of}
use Rattle.sf_frame.specs.Commons.{common_of, held_of}
use Rattle.sf_frame.specs.declared.shared.Shared.{Shared}
use Rattle.sf_frame.specs.Checked.Firsts.{beginning_at, beginning_with, first_store}
use Rattle.sf_frame.specs.Checked.Resources.{counts_of, in_resources, var_at}
use Rattle.sf_frame.specs.Stores.{store_of as code_store}
use Rattle.sf_frame.specs.Checked.Frames.{first_slots}
use Rattle.sf_base.proofs.Numbers.{at-is}
use Rattle.std.specs.Cmp.{nat_eq_equiv}

-- a resource has few variables
pub few_at : (rs : List CodeResource) (k : ℕ) (r : CodeResource) → k < length rs
    → sum_by (λ (of : Resource). length of.variables) (map resource_of rs) ≤ 256 → slice_get rs k ≡ Some r
    → length r.variables.items ≤ 256
few_at rs k r l few e =
    let most = get_or-le-sum_by (λ (of : Resource). length of.variables) (map resource_of rs) k (resource_of r)
    (omega (arith, l, length-map rs resource_of)) in
    let same : get_or (map resource_of rs) k (resource_of r) ≡ resource_of r = read_map rs k r e in
    let count = ap (λ (z : Resource). length z.variables) same in
    omega (arith, most, few, count)
  where
    read_map : (rs : List CodeResource) (k : ℕ) (r : CodeResource) → slice_get rs k ≡ Some r
        → get_or (map resource_of rs) k (resource_of r) ≡ resource_of r
    read_map [] k r e = refl
    read_map (x ∷ xs) zero r e = ap resource_of (let same : x ≡ r = cc in same)
    read_map (x ∷ xs) (suc k) r e = read_map xs k r e

-- how many variables the resource of a number has
count_at : (rs : List Resource) (k : ℕ) (of : Resource) → slice_get rs k ≡ Some of
    → get_or (map (λ (r : Resource). length r.variables) rs) k 0 ≡ length of.variables
count_at [] k of e = cc
count_at (x ∷ xs) zero of e = ap (λ (z : Resource). length z.variables) (let same : x ≡ of = cc in same)
count_at (x ∷ xs) (suc k) of e = count_at xs k of e

-- and in the code
pub counted : (rs : List CodeResource) (k : ℕ) (r : CodeResource) → slice_get rs k ≡ Some r
    → get_or (counts_of rs) k 0 ≡ length r.variables.items
counted [] k r e = cc
counted (x ∷ xs) zero r e = ap (λ (z : CodeResource). length z.variables.items) (let same : x ≡ r = cc in same)
counted (x ∷ xs) (suc k) r e = counted xs k r e

-- below their count there is a resource
resource_at : (rs : List Resource) (k : ℕ) → k < length rs → (of : Resource) × (slice_get rs k ≡ Some of)
resource_at [] k l = absurd (omega (arith, l))
resource_at (x ∷ xs) zero l = (x, refl)
resource_at (x ∷ xs) (suc k) l = resource_at xs k (omega (arith, l))

-- the counts of the code are those of the definitions
pub counts_same : (rs : List CodeResource) → counts_of rs ≡ map (λ (r : Resource). length r.variables) (map resource_of rs)
counts_same [] = refl
counts_same (x ∷ xs) = ap (λ (z : List ℕ). length x.variables.items ∷ z) (counts_same xs)

-- the entry's own variables come up
pub store_own : (values : List Value) (n e i : ℕ)
    → cond (in_room (first_slots 0 0 n) (own e i)) (Some (get_or values (index_of (own e i) - 0) nil)) None
    ≡ cond ((e == 0) && nat_lt i n) (Some (slice_index_or values i nil)) None
store_own values n e i =
    let within : (leb 0 i && ltb i (0 + n)) ≡ ltb i n = grind (arith, nat_tests) in
    let place : i - 0 ≡ i = omega arith in
    λ k. cond ((e == 0) && within k) (Some (get_or values (place k) nil)) None

module _ (p : Program) (f : ProcId) (b : Beginning) (g : Procedure) (vars : Vars) (heap : Heap) (config : Config)
    (start : Start p f (store_of b g vars) heap config) where
  -- a variable of a resource that is counted is kept
  kept_there : (n : ℕ) (r : ResId) (i : ℕ) → n ≡ length p.resources
      → in_resources (map (λ (r : Resource). length r.variables) p.resources) n (shared r i) ≡ true
      → IsKept start.beginning p start.procedure (shared r i)
  kept_there n r i e h =
      let parts = and_parts (ltb r.0 n) (ltb i (get_or (map (λ (r : Resource). length r.variables) p.resources) r.0 0)) h in
      let below : r.0 < n = (Decides-ltb r.0 n).0 parts.0 in
      let within = (Decides-ltb i (get_or (map (λ (r : Resource). length r.variables) p.resources) r.0 0)).0 parts.1 in
      let of = resource_at p.resources r.0 (omega (arith, below, e)) in
      let count = count_at p.resources r.0 of.0 of.1 in
      (of.0, of.1, omega (arith, within, count))

  -- one that is kept is counted
  kept_counted : (n : ℕ) (r : ResId) (i : ℕ) → n ≡ length p.resources → IsKept start.beginning p start.procedure (shared r i)
      → in_resources (map (λ (r : Resource). length r.variables) p.resources) n (shared r i) ≡ true
  kept_counted n r i e k =
      let below : r.0 < n = omega (arith, e, slice_get_within p.resources r.0 k.0 k.1) in
      let count = count_at p.resources r.0 k.0 k.1 in
      let within : i < get_or (map (λ (r : Resource). length r.variables) p.resources) r.0 0 =
      omega (arith, count, k.2) in
      ap₂ (λ a b. a && b) ((Decides-ltb r.0 n).1 below)
      ((Decides-ltb i (get_or (map (λ (r : Resource). length r.variables) p.resources) r.0 0)).1 within)

  -- the variables of resources come up
  pub store_shared : (n : ℕ) (r : ResId) (i : ℕ) → n ≡ length p.resources
      → cond (in_resources (map (λ (r : Resource). length r.variables) p.resources) n (shared r i))
      (Some (value_of vars (shared_variable r i))) None ≡ store_of b g vars (shared r i)
  store_shared n r i e =
      go (in_resources (map (λ (r : Resource). length r.variables) p.resources) n (shared r i)) refl
      (store_of b g vars (shared r i)) refl
    where
      go : (counts : Bool) → in_resources (map (λ (r : Resource). length r.variables) p.resources) n (shared r i) ≡ counts
          → (o : Option Value) → store_of b g vars (shared r i) ≡ o
          → cond counts (Some (value_of vars (shared_variable r i))) None ≡ o
      go true h o s =
          let k = start.kept (shared r i) (kept_there n r i e h) in
          let value : value_of vars (shared_variable r i) ≡ k.0 =
          sym (unwrap_or-slice_get (values_or_none (slice_get vars.shared.items r.0)) i nil)
          ∙ ap (λ (z : Option Value). unwrap_or z nil) k.1 in
          ap Some value ∙ sym k.1 ∙ s
      go false h None s = refl
      go false h (Some v) s =
          absurd (true≢false (sym (kept_counted n r i e (start.no_more (shared r i) v s)) ∙ h))

  -- so do all variables
  pub store_all : (count : ℕ) (rs : List CodeResource) → count ≡ first_count b g → map resource_of rs ≡ p.resources
      → (slot : Slot) → first_store count rs vars slot ≡ store_of b g vars slot
  store_all count rs e same (own d i) =
      ap (λ z. cond ((d == 0) && nat_lt i z) (Some (slice_index_or vars.own.items i nil)) None) e
  store_all count rs e same (shared r i) =
      ap (λ z. cond (in_resources z (length rs) (shared r i)) (Some (value_of vars (shared_variable r i))) None)
      (counts_same rs ∙ ap (map (λ (of : Resource). length of.variables)) same)
      ∙ store_shared (length rs) r i (sym (length-map rs resource_of) ∙ ap length same)

-- the variables that come up are those with which a run begins
pub first_all : (rs : List CodeResource) (vars : Vars) (n : ℕ) (added opened empty : Store)
    → ((slot : Slot) → empty slot ≡ None)
    → ((slot : Slot) → opened slot ≡ cond (in_room (first_slots 0 0 n) slot)
    (Some (get_or vars.own.items (index_of slot - 0) nil)) (empty slot))
    → ((slot : Slot) → added slot ≡ cond (in_resources (counts_of rs) (length rs) slot)
    (Some (value_of vars (var_at slot))) (opened slot))
    → (slot : Slot) → added slot ≡ first_store n rs vars slot
first_all rs vars n added opened empty none opens add (own d i) = add (own d i) ∙ opens (own d i)
    ∙ ap (λ z. cond (in_room (first_slots 0 0 n) (own d i)) (Some (get_or vars.own.items (i - 0) nil)) z)
    (none (own d i))
    ∙ store_own vars.own.items n d i
first_all rs vars n added opened empty none opens add (shared r i) = add (shared r i)
    ∙ ap (λ z. cond (in_resources (counts_of rs) (length rs) (shared r i)) (Some (value_of vars (shared_variable r i))) z)
    (opens (shared r i) ∙ none (shared r i))

-- nobody holds anything where the map is empty
pub held_none : (m : BTreeMap ℕ (List Turn)) → m.entries ≡ [] → (r : ResId) → held_of m r ≡ None
held_none m e r = ap (λ es. lookup (is_at (nat_cmp r.0)) es) e

-- the first resource is held, and one more
pub held_first : (m : BTreeMap ℕ (List Turn)) → m.entries ≡ [] → (r : ResId)
    → held_of m r ≡ cond (ltb r.0 0) (Some []) None
held_first m e r = held_none m e r ∙ sym (ap (λ z. cond z (Some []) None) (let none : ltb r.0 0 ≡ false = grind (arith, nat_tests) in none))

pub held_more : (old new : BTreeMap ℕ (List Turn)) (n : ℕ) (path : List Turn)
    → ((r : ResId) → held_of old r ≡ cond (ltb r.0 n) (Some []) None)
    → ((q : ℕ) → get nat_cmp new q ≡ cond (is_at (nat_cmp n) q) (Some path) (get nat_cmp old q)) → path ≡ []
    → (r : ResId) → held_of new r ≡ cond (ltb r.0 (n + 1)) (Some []) None
held_more old new n path h put is r = put r.0
    ∙ ap₂ (λ (b : Bool) (z : List Turn). cond b (Some z) (held_of old r)) (at-is n r.0 ∙ nat_eq_equiv.symm n r.0) is
    ∙ ap (λ z. cond (r.0 == n) (Some []) z) (h r) ∙ go (r.0 == n) (ltb r.0 n) (ltb r.0 (n + 1))
    (let more : ltb r.0 (n + 1) ≡ ((r.0 == n) || ltb r.0 n) = grind (arith, nat_tests) in more)
  where
    go : (a b d : Bool) → d ≡ (a || b)
        → cond a (Some []) (cond b (Some []) None) ≡ cond {A = Option (List Turn)} d (Some []) None
    go true b d e = ap (λ z. cond z (Some []) None) (sym e)
    go false b d e = ap (λ z. cond z (Some []) None) (sym e)

-- the program's own procedure that sets the resources up is the one with which a run begins
pub beginning_same : (p : Program) (init : Option ProcId) (is_fresh : Bool) (b : Beginning)
    → IsInitAmong (map (λ g. g.name) p.procedures) init → IsBeginning p is_fresh b
    → beginning_at p (cond is_fresh init None) ≡ b
beginning_same p init true settled named kind = absurd kind
beginning_same p init false (fresh n h) named kind = absurd kind
beginning_same p init false settled named kind = refl
beginning_same p None true (fresh n h) named kind = absurd (named n.0 kind.1.0)
beginning_same p (Some m) true (fresh n h) named kind =
    let same : m.0 ≡ n.0 = first_same (map (λ (g : Procedure). g.name) p.procedures) init_name m.0 n.0 named kind.1 in
    let one : m ≡ n = λ i. record { 0 = same i } in
    ap (λ (k : ProcId). beginning_with k (slice_get p.procedures k.0)) one ∙ ap (beginning_with n) kind.0
  where
    first_same : (names : List (List ℕ)) (name : List ℕ) (j k : ℕ) → IsFirstNamed names name (Some j)
        → IsFirstNamed names name (Some k) → j ≡ k
    first_same names name j k a b = elim (cases_lt j k) [
      | inl h ↦ absurd (b.1 j h a.0)
      | inr h ↦ elim (cases_lt k j) [
        | inl g ↦ absurd (a.1 k g b.0)
        | inr g ↦ omega (arith, h, g)
      ]
    ]

-- the code keeps that procedure
pub beginning_kept : (p : CodeProgram) (is_fresh : Bool) (b : Beginning) → IsBeginning (program_of p) is_fresh b
    → beginning_at (program_of p) (cond is_fresh p.init None) ≡ b
beginning_kept p is_fresh b kind = beginning_same (program_of p) p.init is_fresh b
    (subst (λ names. IsInitAmong names p.init)
    (sym (map-map (λ (g : Procedure). g.name) procedure_of p.procedures.items)) p.set_up) kind

-- who holds the resources, by the number of the procedure that sets them up first
pub holders_same : (p : Program) (rs : List CodeResource) (init : Option ProcId) (b : Beginning) (count : ℕ)
    (held : ResId → Option (List Turn)) → map resource_of rs ≡ p.resources → beginning_at p init ≡ b
    → ((n : ProcId) → init ≡ Some n → (h : Procedure) × (slice_get p.procedures n.0 ≡ Some h))
    → count ≡ cond (is_some init) (length rs) 0
    → ((r : ResId) → held r ≡ cond (ltb r.0 count) (Some []) None) → (r : ResId) → held r ≡ first_holders b p r
holders_same p rs None b count held same is there many h r = h r
    ∙ ap (λ z. cond z (Some []) None) (let none : ltb r.0 count ≡ false = grind (arith, nat_tests) in none)
    ∙ ap (λ (z : Beginning). first_holders z p r) is
holders_same p rs (Some n) b count held same is there many h r =
    let at = there n refl in
    h r
    ∙ ap (λ z. cond (ltb r.0 z) (Some []) None) (many ∙ sym (length-map rs resource_of) ∙ ap length same)
    ∙ ap (λ (z : Beginning). first_holders z p r) (sym (ap (beginning_with n) at.1) ∙ is)

-- what is shared by these parts is what is shared where a procedure starts
pub common_as : (p : Program) (f : ProcId) (g : Procedure) (b : Beginning) (vars : Vars) (heap : Cells)
    (s : Shared) → heap_of s.heap ≡ heap_of heap
    → ((slot : Slot) → code_store s.store slot ≡ store_of b g vars slot)
    → ((r : ResId) → held_of s.held r ≡ first_holders b p r)
    → common_of s ≡ (initial_config b p f g (store_of b g vars) (heap_of heap)).common
common_as p f g b vars heap s a e h = λ i. record {
  heap = a i;
  store = λ slot. e slot i;
  held = λ r. h r i;
}
