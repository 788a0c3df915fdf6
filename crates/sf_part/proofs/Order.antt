-- The order of parts and of contents: each may come first.
-- Names: `whole-LAW`; `count-LAW` counts contents of a resource, `free-LAW` says that contents are
-- of free ones.
use Rattle.std.specs.Prelude.{◌≡◌, ℕ, ◌+◌, ◌≤◌, ◌==◌, cond, List, [], ◌∷◌, ◌++◌, map, None, Contains}
use Rattle.std.specs.List.{AllByRecursion, count_by}
use Rattle.std.proofs.Common.{sym, refl, subst, arith}
use Rattle.std.proofs.lemmas.List.Sums.{sum_by-cons}
use Rattle.sf_base.specs.declared.ids.ResId.{ResId}
use Rattle.sf_base.specs.HeapStore.{Heap, Store}
use Rattle.sf_core.specs.Machine.Config.{Config}
use Rattle.sf_core.specs.Machine.Whole.{Part, Content, stands, own_stand, holders, supplies, IsUnused, Whole}
use Rattle.sf_part.proofs.Supplies.{contains-count, count-contains, count-focus, one_if, times}
use Rattle.sf_part.proofs.Unions.{union-focus_all, union-focus_map, union-focus_tail, union-unfocus_all, union-unfocus_map, union-unfocus_tail}

-- the cells of a part, or its slots, and those of a content
abbrev pub part_heap : Part → Heap
part_heap a = a.heap

abbrev pub part_store : Part → Store
part_store a = a.store

abbrev pub content_heap : Content → Heap
content_heap k = k.heap

abbrev pub content_store : Content → Store
content_store k = k.store

-- the units of one list of parts are those of another, which counts them alike
unused-same : (c : Config) (parts others : List Part)
    → ((n : ℕ) → times n (supplies parts) ≡ times n (supplies others))
    → ((n : ℕ) → Contains (supplies parts) n → IsUnused c n) → (n : ℕ)
    → Contains (supplies others) n → IsUnused c n
unused-same c parts others e u n h =
    let k : 1 ≤ times n (supplies others) = count-contains n (supplies others) h in
    u n (contains-count n (supplies parts) (subst (λ z. 1 ≤ z) (sym (e n)) k))

-- a part in the middle may come first
pub whole-focus : (before after : List Part) (a : Part) (contents : List Content) (c : Config)
    → Whole (before ++ a ∷ after) contents c → Whole (a ∷ before ++ after) contents c
whole-focus before after a contents c w = record {
  tasks = union-focus_all own_stand before a after (stands c.tasks) w.tasks;
  heap = union-focus_map part_heap (map content_heap contents) before a after c.common.heap w.heap;
  store = union-focus_map part_store (map content_store contents) before a after c.common.store
      w.store;
  held = union-focus_all holders before a after c.common.held w.held;
  free = w.free;
  different = w.different;
  once = λ n. subst (λ z. z ≤ 1) (count-focus n before a after) (w.once n);
  unused = unused-same c (before ++ a ∷ after) (a ∷ before ++ after)
      (λ n. count-focus n before a after) w.unused;
}

-- a part that comes first may come in the middle
pub whole-unfocus : (before after : List Part) (a : Part) (contents : List Content) (c : Config)
    → Whole (a ∷ before ++ after) contents c → Whole (before ++ a ∷ after) contents c
whole-unfocus before after a contents c w = record {
  tasks = union-unfocus_all own_stand before a after (stands c.tasks) w.tasks;
  heap = union-unfocus_map part_heap (map content_heap contents) before a after c.common.heap
      w.heap;
  store = union-unfocus_map part_store (map content_store contents) before a after c.common.store
      w.store;
  held = union-unfocus_all holders before a after c.common.held w.held;
  free = w.free;
  different = w.different;
  once = λ n. subst (λ z. z ≤ 1) (sym (count-focus n before a after)) (w.once n);
  unused = unused-same c (a ∷ before ++ after) (before ++ a ∷ after)
      (λ n. sym (count-focus n before a after)) w.unused;
}

-- how many contents are of a resource
abbrev pub of_resource : ResId → List Content → ℕ
of_resource r contents = count_by (λ (k : Content). k.resource.0 == r.0) contents

pub of_resource-cons : (r : ResId) (k : Content) (contents : List Content)
    → of_resource r (k ∷ contents) ≡ one_if (k.resource.0 == r.0) + of_resource r contents
of_resource-cons r k contents = sum_by-cons (λ (k : Content). cond (k.resource.0 == r.0) 1 0) k
    contents

of_resource-focus : (r : ResId) (before : List Content) (k : Content) (after : List Content)
    → of_resource r (before ++ k ∷ after) ≡ of_resource r (k ∷ before ++ after)
of_resource-focus r [] k after = refl
of_resource-focus r (j ∷ before) k after =
    let e = of_resource-focus r before k after in
    let p = of_resource-cons r j (before ++ k ∷ after) in
    let q = of_resource-cons r k (j ∷ before ++ after) in
    let s = of_resource-cons r j (before ++ after) in
    let t = of_resource-cons r k (before ++ after) in
    omega arith

module _ (P : Content → Type 0) where
  all-focus : (before : List Content) (k : Content) (after : List Content)
      → AllByRecursion P (before ++ k ∷ after)
      → AllByRecursion P (k ∷ before ++ after)
  all-focus [] k after h = h
  all-focus (j ∷ before) k after (x, h) = let (y, g) = all-focus before k after h in (y, (x, g))

  all-unfocus : (before : List Content) (k : Content) (after : List Content)
      → AllByRecursion P (k ∷ before ++ after)
      → AllByRecursion P (before ++ k ∷ after)
  all-unfocus [] k after h = h
  all-unfocus (j ∷ before) k after (y, (x, g)) = (x, all-unfocus before k after (y, g))

-- a content in the middle may come first
pub whole-focus_content : (parts : List Part) (before after : List Content) (k : Content)
    (c : Config)
    → Whole parts (before ++ k ∷ after) c → Whole parts (k ∷ before ++ after) c
whole-focus_content parts before after k c w = record {
  tasks = w.tasks;
  heap = union-focus_tail content_heap (map part_heap parts) before k after c.common.heap w.heap;
  store = union-focus_tail content_store (map part_store parts) before k after c.common.store
      w.store;
  held = w.held;
  free = all-focus (λ (j : Content). c.common.held j.resource ≡ None) before k after w.free;
  different = λ r. subst (λ z. z ≤ 1) (of_resource-focus r before k after) (w.different r);
  once = w.once;
  unused = w.unused;
}

-- a content that comes first may come in the middle
pub whole-unfocus_content : (parts : List Part) (before after : List Content) (k : Content)
    (c : Config)
    → Whole parts (k ∷ before ++ after) c → Whole parts (before ++ k ∷ after) c
whole-unfocus_content parts before after k c w = record {
  tasks = w.tasks;
  heap = union-unfocus_tail content_heap (map part_heap parts) before k after c.common.heap w.heap;
  store = union-unfocus_tail content_store (map part_store parts) before k after c.common.store
      w.store;
  held = w.held;
  free = all-unfocus (λ (j : Content). c.common.held j.resource ≡ None) before k after w.free;
  different = λ r. subst (λ z. z ≤ 1) (sym (of_resource-focus r before k after)) (w.different r);
  once = w.once;
  unused = w.unused;
}
