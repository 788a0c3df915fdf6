-- A content that a part takes in.
-- Names: `taking-LAW`.
use Rattle.std.specs.Prelude.{◌≡◌, ◌==◌, ◌<◌, ◌≤◌, ℕ, zero, suc, Bool, true, false, cond, List, [], ◌∷◌, Option, Some, None, get_or, is_some, length, map}
use Rattle.std.specs.FinMap.{get}
use Rattle.std.specs.List.{slice_get, sum_by}
use Rattle.std.specs.Option.{option_map, option_or}
use Rattle.std.proofs.Common.{true≢false, sym, ap, ◌∙◌, refl, subst, arith}
use Rattle.sf_base.proofs.MapSplits.{map-same, splits-cancel_left, splits-comm}
use Rattle.sf_base.proofs.StoreSplits.{resource-same}
use Rattle.std.proofs.lemmas.List.Sums.{sum_by-cons}
use Rattle.sf_base.proofs.Options.{is_some-false}
use Rattle.sf_base.specs.declared.ids.ResId.{ResId}
use Rattle.sf_base.specs.declared.value.Value.{Value}
use Rattle.sf_base.specs.HeapStore.{Apart, Slot, Splits, Store, own}
use Rattle.sf_core.specs.declared.program.Resource.{Resource as CodeResource}
use Rattle.sf_core.specs.Machine.Config.{Path, Common}
use Rattle.sf_core.specs.Machine.Step.{set_holder}
use Rattle.sf_core.specs.Machine.Whole.{Content}
use Rattle.sf_core.specs.Program.Formed.{IsFormed}
use Rattle.sf_core.specs.Program.Syntax.{Program, Resource}
use Rattle.sf_core.specs.Program.View.{resource_of}
use Rattle.sf_foot.specs.Starting.{HasWidth}
use Rattle.sf_frame.specs.Checked.Effects.{IsSameCommon}
use Rattle.sf_frame.specs.Commons.{common_of}
use Rattle.sf_frame.specs.declared.shared.Shared.{Shared}
use Rattle.sf_frame.specs.declared.spot.Spot.{Spot}
use Rattle.sf_frame.specs.declared.store.Store.{Store as CodeStore}
use Rattle.sf_frame.specs.Stores.{is_among, store_of}
use Rattle.sf_heap.specs.Cells.{Cells, FieldValues, cell_of}
use Rattle.sf_part.specs.Checked.KeepsIsProp.{AreOwn}
use Rattle.sf_part.specs.Keeps.{IsUnmade}
use Rattle.sf_part.proofs.Performed.{same-common}

-- a copy of all slots is the same store
pub taking-copy : (store copy : CodeStore) (spots : List Spot)
    → ((slot : Slot) → is_some (store_of store slot) ≡ true → is_among spots slot ≡ true)
    → ((slot : Slot) → store_of copy slot ≡ cond (is_among spots slot) (store_of store slot) None)
    → store_of copy ≡ store_of store
taking-copy store copy spots has is = map-same (store_of copy) (store_of store)
    (λ slot. is slot ∙ go (is_among spots slot) (store_of store slot) (has slot))
  where
    go : (b : Bool) (o : Option Value) → (is_some o ≡ true → b ≡ true) → cond b o None ≡ o
    go true o h = refl
    go false None h = refl
    go false (Some v) h = absurd (true≢false (sym (h refl)))

-- the store as it was, once the same slots are out of it again
pub taking-back : (old part joined copy now : Store) → copy ≡ part → Splits joined old copy
    → Splits joined part now → now ≡ old
taking-back old part joined copy now e s t =
    splits-cancel_left t (splits-comm (subst (λ z. Splits joined old z) e s))

-- cells apart by their locations are apart by their values
pub taking-cells : (x y : Option FieldValues) → Apart (option_map cell_of x) (option_map cell_of y)
    → Apart x y
taking-cells None y h = tt
taking-cells (Some x) None h = tt
taking-cells (Some x) (Some y) h = h

-- each cell of two heaps together has the fields of its own
pub taking-width : (n : ℕ) (all one other : Cells) → Splits (get all) (get one) (get other)
    → HasWidth n one → HasWidth n other → HasWidth n all
taking-width n all one other s h k location values e =
    go (get one location) refl (sym (s.is location) ∙ e)
  where
    go : (o : Option FieldValues) → get one location ≡ o → option_or o (get other location)
        ≡ Some values
        → length values ≡ n
    go None i f = k location values f
    go (Some v) i f = h location values (i ∙ f)

-- what was held and is free again is as it was
pub taking-freed : (s t u : Common) (r : ResId) (task : Path) → s.held r ≡ None
    → IsSameCommon t (set_holder r (Some task) s) → IsSameCommon u (set_holder r None t) → u ≡ s
taking-freed s t u r task free h k = same-common u s (record {
  heap = λ location. k.heap location ∙ h.heap location;
  store = λ slot. k.store slot ∙ h.store slot;
  held = λ q. k.held q ∙ go q (q.0 == r.0) refl (h.held q);
})
  where
    go : (q : ResId) (b : Bool) → q.0 == r.0 ≡ b
        → t.held q ≡ cond (q.0 == r.0) (Some task) (s.held q)
        → cond (q.0 == r.0) None (t.held q) ≡ s.held q
    go q true e i = ap (λ z. cond z None (t.held q)) e
        ∙ sym (ap s.held (resource-same q r e) ∙ free)
    go q false e i = ap (λ z. cond z None (t.held q)) e ∙ i
        ∙ ap (λ z. cond z (Some task) (s.held q)) e

-- what is there after a hold and a content that is taken in
pub record Taken (before after : Common) (k : Content) (r : ResId) (task : Path) : Type 0 where
  pub heap : Splits after.heap before.heap k.heap
  pub store : Splits after.store before.store k.store
  pub held : after.held ≡ (λ q. cond (q.0 == r.0) (Some task) (before.held q))

pub taking-after : (s t u : Common) (k : Content) (r : ResId) (task : Path)
    → IsSameCommon t (set_holder r (Some task) s) → Splits u.heap t.heap k.heap
    → Splits u.store t.store k.store
    → u.held ≡ t.held → Taken s u k r task
taking-after s t u k r task h cells slots held = record {
  heap = subst (λ z. Splits u.heap z k.heap) (map-same t.heap s.heap h.heap) cells;
  store = subst (λ z. Splits u.store z k.store) (map-same t.store s.store h.store) slots;
  held = held ∙ (λ i. λ q. h.held q i);
}

-- a number that neither has stays unmade
pub taking-unmade : (s u : Common) (k : Content) (r : ResId) (task : Path) (n : ℕ)
    → Taken s u k r task
    → IsUnmade s.heap s.store n → (k.heap n ≡ None) × ((i : ℕ) → k.store (own n i) ≡ None)
    → IsUnmade u.heap u.store n
taking-unmade s u k r task n t m (cells, slots) = record {
  positive = m.positive;
  heap = ap is_some ((t.heap).is n ∙ ap (option_or (s.heap n)) cells ∙ ap (λ z. option_or z None)
      (is_some-false (s.heap n) m.heap));
  store = λ i. ap is_some ((t.store).is (own n i) ∙ ap (option_or (s.store (own n i))) (slots i)
      ∙ ap (λ z. option_or z None) (is_some-false (s.store (own n i)) (m.store i)));
}

-- whoever holds something is still the task
pub taking-own : (task : Path) (before after : Shared) (k : Content) (r : ResId)
    → Taken (common_of before) (common_of after) k r task → AreOwn before.held task
    → AreOwn after.held task
taking-own task before after k r t h q holder e =
    go (q == r.0) refl (sym (ap (λ (f : ResId → Option Path). f (record { 0 = q })) t.held) ∙ e)
  where
    go : (b : Bool) → q == r.0 ≡ b
        → cond b (Some task) ((common_of before).held (record { 0 = q })) ≡ Some holder
        → holder ≡ task
    go true i f = let same : Some task ≡ Some holder = f in cc
    go false i f = h q holder f

-- a resource of a program has as many variables as all of them may have
few-variables : (rs : List Resource) (n most : ℕ) (r : Resource) → slice_get rs n ≡ Some r
    → sum_by (λ (q : Resource). length q.variables) rs ≤ most → length r.variables ≤ most
few-variables [] n most r e h = absurd (let k : None ≡ Some r = e in cc)
few-variables (q ∷ rs) zero most r e h =
    let same : q ≡ r = let k : Some q ≡ Some r = e in cc in
    let s = sum_by-cons (λ (x : Resource). length x.variables) q rs in
    let l : length q.variables ≡ length r.variables =
    ap (λ (x : Resource). length x.variables) same in
    omega arith
few-variables (q ∷ rs) (suc n) most r e h =
    let s = sum_by-cons (λ (x : Resource). length x.variables) q rs in
    few-variables rs n most r e (omega arith)

pub taking-few : (p : Program) (formed : IsFormed p) (n : ℕ) (r : Resource)
    → slice_get p.resources n ≡ Some r
    → length r.variables ≤ 256
taking-few p formed n r e = few-variables p.resources n 256 r e formed.variables

-- the variables of a resource of the code are those of the resource
pub taking-count : (items : List CodeResource) (n : ℕ) (q : CodeResource) (r : Resource)
    → n < length items
    → q ≡ get_or items n q → slice_get (map resource_of items) n ≡ Some r
    → length q.variables.items ≡ length r.variables
taking-count [] n q r l e h = absurd (omega arith)
taking-count (x ∷ items) zero q r l e h =
    let same : resource_of x ≡ r = let k : Some (resource_of x) ≡ Some r = h in cc in
    ap (λ (z : CodeResource). length z.variables.items) e
    ∙ ap (λ (z : Resource). length z.variables) same
taking-count (x ∷ items) (suc n) q r l e h = taking-count items n q r (omega arith) e h

-- and so is its number
pub taking-there : (items : List CodeResource) (n : ℕ) (r : Resource)
    → slice_get (map resource_of items) n ≡ Some r
    → n < length items
taking-there [] n r h = absurd (let k : None ≡ Some r = h in cc)
taking-there (x ∷ items) zero r h = omega arith
taking-there (x ∷ items) (suc n) r h = let l = taking-there items n r h in omega arith
