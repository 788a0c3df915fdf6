-- What a run ends with: the cells and variables of the entry's part and of the contents, which
-- together are the configuration.
-- Names: `union-LAW` of maps that make up one; `at-LAW` of elements of lists; `gather-LAW` of
-- contents that are taken in, one after the other; `rows-LAW` of the values of their variables.
use Rattle.std.specs.declared.alloc.Global.{Global}
use Rattle.std.specs.FinMap.{get}
use Rattle.std.specs.Option.{option_map}
use Rattle.std.specs.List.{AllByRecursion}
use Rattle.std.specs.Prelude.{◌≡◌, ◌<◌, ℕ, zero, suc, true, Vec, Option, Some, None, is_some, map, get_or, slice_get, List, [], ◌∷◌, ◌++◌, length, unwrap_or}
use Rattle.std.proofs.Common.{true≢false, sym, ap, ◌∙◌, refl, subst, inl, inr, ⊎_elim, arith, append-nil}
use Rattle.std.proofs.lemmas.Bool.Decides.{nat_tests}
use Rattle.std.specs.declared.vec.IntoIter.{IntoIter}
use Rattle.std.specs.Vec.Iter.{into_iter_items, into_iter_steps}
use Rattle.std.proofs.lemmas.Option.{get_or_from_slice_get, same_Some, slice_get-map, slice_get_within}
use mathlib.Core.Option.{some, some-injective, some-ne-none}
use lib.ListN.{get_elem?}
use Rattle.sf_base.proofs.MapSplits.{splits-assoc_left, splits-at_left, splits-has_left, splits-has_right, splits-is, splits-of_empty_right, splits-which}
use Rattle.sf_base.proofs.Options.{is_some-false, some-or_none}
use Rattle.sf_base.specs.declared.ids.ProcId.{ProcId}
use Rattle.sf_base.specs.declared.ids.ResId.{ResId}
use Rattle.sf_base.specs.declared.ids.Var.{Var}
use Rattle.sf_base.specs.declared.ids.Var.TheVariants.{Own, Shared}
use Rattle.sf_base.specs.declared.value.Value.{Value}
use Rattle.sf_base.specs.declared.value.Value.TheVariants.{Nil as nil}
use Rattle.sf_base.specs.HeapStore.{Apart, Heap, Map, Slot, Splits, Store, own, shared}
use Rattle.sf_core.specs.declared.program.Program.{Program as CodeProgram}
use Rattle.sf_core.specs.declared.program.Resource.{Resource as CodeResource}
use Rattle.sf_core.specs.Machine.Config.{Config}
use Rattle.sf_core.specs.Machine.Start.{entry_slot}
use Rattle.sf_core.specs.Machine.Whole.{Content as WholeContent, IsUnion, Whole}
use Rattle.sf_core.specs.Program.Formed.{IsParameter, variable_count}
use Rattle.sf_core.specs.Program.ProgramView.{program_of}
use Rattle.sf_core.specs.Program.Syntax.{Program, Resource}
use Rattle.sf_core.specs.Program.View.{resource_of}
use Rattle.sf_foot.specs.declared.vars.Vars.{Vars}
use Rattle.sf_foot.specs.Starting.{HasWidth}
use Rattle.sf_foot.specs.Variables.{value_of, values_or_none}
use Rattle.sf_frame.specs.Checked.Endings.{AreValues}
use Rattle.sf_frame.specs.Checked.Resources.{counts_of}
use Rattle.sf_heap.specs.Cells.{Cells, cell_of, heap_of}
use Rattle.sf_machine.specs.Ending.{Ends}
use Rattle.sf_part.specs.declared.content.Content.{Content}
use Rattle.sf_part.specs.Contents.{IsContentIn, content_of}
use Rattle.sf_part.specs.Ends.{Ends as EndsPart}
use Rattle.sf_part.specs.Given.{is_variable_of}
use Rattle.sf_part.specs.Timed.{Stamped, TimedPart}
use Rattle.sf_region.specs.Waits.{contents_in}
use Rattle.sf_run.specs.Checked.Gathered.{AreAll, AreRowsOf, heaps_of}

module _ {K X : Type 0} where
  -- the first two maps have nothing in common
  pub union-apart : (w u v : Map K X) (us : List (Map K X)) → IsUnion w (u ∷ v ∷ us) → (key : K)
      → Apart (u key) (v key)
  union-apart w u v us (x, p, (y, q, s)) key = (splits-assoc_left q p).0.apart key

  -- they become one
  pub union-join : (w m u v : Map K X) (us : List (Map K X)) → Splits m u v
      → IsUnion w (u ∷ v ∷ us) → IsUnion w (m ∷ us)
  union-join w m u v us i (x, p, (y, q, s)) =
      let n = splits-assoc_left q p in
      (y, subst (λ z. Splits w z y) (sym (splits-is i)) n.1, s)

  -- one map alone is the whole
  pub union-one : (w u : Map K X) → IsUnion w (u ∷ []) → u ≡ w
  union-one w u (x, p, e) = sym (splits-of_empty_right e p)

  -- what none of them has, the whole lacks
  union-none : (key : K) (us : List (Map K X)) (w : Map K X) → IsUnion w us
      → AllByRecursion (λ (u : Map K X). u key ≡ None) us → w key ≡ None
  union-none key [] w e h = e.none key
  union-none key (u ∷ us) w (x, p, s) (here, others) =
      splits-at_left key p (union-none key us x s others) ∙ here

  -- what the others lack, is as in the first
  pub union-first : (key : K) (u : Map K X) (us : List (Map K X)) (w : Map K X) → IsUnion w (u ∷ us)
      → AllByRecursion (λ (v : Map K X). v key ≡ None) us → w key ≡ u key
  union-first key u us w (x, p, s) others = splits-at_left key p (union-none key us x s others)

  -- what one of them has, the whole has
  pub union-has : (key : K) (v : X) (us : List (Map K X)) (i : ℕ) (u w : Map K X) → IsUnion w us
      → get_elem? us i ≡ some u → u key ≡ Some v → w key ≡ Some v
  union-has key v [] i u w s e h = absurd (some-ne-none u (sym e))
  union-has key v (x ∷ us) zero u w (y, p, s) e h =
      splits-has_left key v p (ap (λ z. z key) (some-injective x u e) ∙ h)
  union-has key v (x ∷ us) (suc i) u w (y, p, s) e h =
      splits-has_right key v p (union-has key v us i u y s e h)

-- an element's place is within the list
pub at-within : {A : Type 0} (xs : List A) (i : ℕ) (x : A) → get_elem? xs i ≡ some x → i < length xs
at-within [] i x e = absurd (some-ne-none x (sym e))
at-within (y ∷ xs) zero x e = omega arith
at-within (y ∷ xs) (suc i) x e = let l = at-within xs i x e in omega (arith, l)

-- each place within a list has an element
at-some : {A : Type 0} (xs : List A) (i : ℕ) → i < length xs → (x : A) × (get_elem? xs i ≡ some x)
at-some [] i l = absurd (omega (arith, l))
at-some (x ∷ xs) zero l = (x, refl)
at-some (x ∷ xs) (suc i) l = at-some xs i (omega (arith, l))

-- the element after a front
at-after : {A : Type 0} (front : List A) (x : A) (back : List A)
    → get_elem? (front ++ x ∷ back) (length front) ≡ some x
at-after [] x back = refl
at-after (y ∷ front) x back = at-after front x back

-- an element of a list is one of the list that a function makes of it
at-mapped : {A B : Type 0} (f : A → B) (xs : List A) (i : ℕ) (x : A) → get_elem? xs i ≡ some x
    → get_elem? (map f xs) i ≡ some (f x)
at-mapped f [] i x e = absurd (some-ne-none x (sym e))
at-mapped f (y ∷ xs) zero x e = ap (λ z. some (f z)) (some-injective y x e)
at-mapped f (y ∷ xs) (suc i) x e = at-mapped f xs i x e

-- what is so of each is so of all
at-all : {A : Type 0} (P : A → Type 0) (xs : List A)
    → ((i : ℕ) (x : A) → get_elem? xs i ≡ some x → P x) → AllByRecursion P xs
at-all P [] h = tt
at-all P (x ∷ xs) h = (h 0 x refl, at-all P xs (λ i y e. h (suc i) y e))

all-mapped : {A B : Type 0} (f : A → B) (P : B → Type 0) (xs : List A)
    → AllByRecursion (λ (x : A). P (f x)) xs → AllByRecursion P (map f xs)
all-mapped f P [] h = tt
all-mapped f P (x ∷ xs) (here, others) = (here, all-mapped f P xs others)

-- a row more
rows-more : (counts : List ℕ) (ks : List Content) (rows : List (Vec Value Global)) (k : Content)
    (row : Vec Value Global) → AreRowsOf counts ks rows
    → AreValues (content_of k).content.store (shared k.resource) (get_or counts k.resource.0 0)
    row.items
    → AreRowsOf counts (ks ++ k ∷ []) (rows ++ row ∷ [])
rows-more counts [] [] k row h v = (v, tt)
rows-more counts [] (r ∷ rows) k row h v = absurd h
rows-more counts (q ∷ ks) [] k row h v = absurd h
rows-more counts (q ∷ ks) (r ∷ rows) k row (here, others) v =
    (here, rows-more counts ks rows k row others v)

rows-length : (counts : List ℕ) (ks : List Content) (rows : List (Vec Value Global))
    → AreRowsOf counts ks rows → length rows ≡ length ks
rows-length counts [] [] h = refl
rows-length counts [] (r ∷ rows) h = absurd h
rows-length counts (q ∷ ks) [] h = absurd h
rows-length counts (q ∷ ks) (r ∷ rows) (here, others) = ap suc (rows-length counts ks rows others)

-- the row of a content
rows-at : (counts : List ℕ) (ks : List Content) (rows : List (Vec Value Global)) (i : ℕ) (k : Content)
    → AreRowsOf counts ks rows → get_elem? ks i ≡ some k
    → AreValues (content_of k).content.store (shared k.resource) (get_or counts k.resource.0 0)
    (values_or_none (slice_get rows i))
rows-at counts [] rows i k h e = absurd (some-ne-none k (sym e))
rows-at counts (q ∷ ks) [] i k h e = absurd h
rows-at counts (q ∷ ks) (r ∷ rows) zero k (here, others) e =
    subst (λ (z : Content). AreValues (content_of z).content.store (shared z.resource)
    (get_or counts z.resource.0 0) r.items) (some-injective q k e) here
rows-at counts (q ∷ ks) (r ∷ rows) (suc i) k (here, others) e = rows-at counts ks rows i k others e

-- cells that have nothing in common, as the code has them
unmapped-apart : {A B : Type 0} (f : A → B) (x y : Option A) → Apart (option_map f x) (option_map f y)
    → Apart x y
unmapped-apart f None y h = tt
unmapped-apart f (Some x) None h = tt
unmapped-apart f (Some x) (Some y) h = h

pub take-apart : (one other : Cells) (h : Heap) → heap_of other ≡ h
    → ((location : ℕ) → Apart (heap_of one location) (h location)) → (location : ℕ)
    → Apart (get one location) (get other location)
take-apart one other h is apart location = unmapped-apart cell_of (get one location) (get other location)
    (subst (λ (z : Heap). Apart (heap_of one location) (z location)) (sym is) (apart location))

-- the values of a row are those of the content's store
pub take-row : (s t : Store) (q r : ResId) (n : ℕ) (counts : List ℕ) (values : List Value) → s ≡ t → q ≡ r
    → n ≡ get_or counts q.0 0 → AreValues s (shared q) n values
    → AreValues t (shared r) (get_or counts r.0 0) values
take-row s t q r n counts values store same count v =
    subst (λ (z : ResId). AreValues t (shared z) (get_or counts z.0 0) values) same
    (subst (λ (z : ℕ). AreValues t (shared q) z values) count
    (subst (λ (z : Store). AreValues z (shared q) n values) store v))

-- cells of two heaps have all fields where those of each have
pub take-wide : (count : ℕ) (new old other : Cells) → Splits (get new) (get old) (get other)
    → HasWidth count old → HasWidth count other → HasWidth count new
take-wide count new old other splits wide also location values e =
    ⊎_elim (λ h. wide location values h.0) (λ h. also location values h.0)
    (splits-which location values splits e)

-- after some of the contents were taken in: they have their rows, and the cells that are there now
-- and those of the others make up what there was
pub record Gathers (counts : List ℕ) (width : ℕ) (all : List Content) (before now : Cells)
    (rest : List Content) (rows : List (Vec Value Global)) : Type 0 where
  pub done : List Content
  pub are : done ++ rest ≡ all
  pub rows_are : AreRowsOf counts done rows
  pub union_is : (w : Heap) → IsUnion w (heap_of before ∷ heaps_of all)
      → IsUnion w (heap_of now ∷ heaps_of rest)
  pub wide : HasWidth width now

module _ (counts : List ℕ) (width : ℕ) (all : List Content) (before : Cells) where
  pub gather-none : HasWidth width before → Gathers counts width all before before all []
  gather-none wide =
      record { done = []; are = refl; rows_are = tt; union_is = λ w s. s; wide = wide }

  pub gather-more : (now after : Cells) (k : Content) (rest : List Content)
      (rows more : List (Vec Value Global)) (row : Vec Value Global)
      → Gathers counts width all before now (k ∷ rest) rows
      → AreValues (content_of k).content.store (shared k.resource) (get_or counts k.resource.0 0)
      row.items → Splits (heap_of after) (heap_of now) (content_of k).content.heap
      → HasWidth width after → more ≡ rows ++ row ∷ []
      → Gathers counts width all before after rest more
  gather-more now after k rest rows more row g values cells wide is = record {
    done = g.done ++ k ∷ [];
    are = append_assoc ∙ g.are;
    rows_are = subst (AreRowsOf counts (g.done ++ k ∷ [])) (sym is)
        (rows-more counts g.done rows k row g.rows_are values);
    union_is = λ w s. union-join w (heap_of after) (heap_of now) (content_of k).content.heap
        (heaps_of rest) cells (g.union_is w s);
    wide = wide;
  }
    where
      append_assoc : (g.done ++ k ∷ []) ++ rest ≡ g.done ++ k ∷ rest
      append_assoc = simp Rattle.std.proofs.Common.append_assoc

  -- the next content is of a resource of the program, and its cells are none of those that are there
  pub gather-next : (p : Program) → AreAll p all → (now : Cells) (k : Content) (rest : List Content)
      (rows : List (Vec Value Global)) → Gathers counts width all before now (k ∷ rest) rows
      → (k.resource.0 < length p.resources) × IsContentIn p k
  gather-next p every now k rest rows g =
      let there : get_elem? all (length g.done) ≡ some k =
      subst (λ z. get_elem? z (length g.done) ≡ some k) g.are (at-after g.done k rest) in
      let e = every.exactly (length g.done) k there in
      let l = at-within all (length g.done) k there in
      (omega (arith, e.number, l, every.each), e.is_in)

  pub gather-apart : (w : Heap) → IsUnion w (heap_of before ∷ heaps_of all) → (now : Cells)
      (k : Content) (rest : List Content) (rows : List (Vec Value Global))
      → Gathers counts width all before now (k ∷ rest) rows → (location : ℕ)
      → Apart (heap_of now location) ((content_of k).content.heap location)
  gather-apart w s now k rest rows g location =
      union-apart w (heap_of now) (content_of k).content.heap (heaps_of rest) (g.union_is w s) location

  -- where none is left, all have their rows, and the cells are all that there was
  pub gather-rows : (now : Cells) (rows : List (Vec Value Global))
      → Gathers counts width all before now [] rows → AreRowsOf counts all rows
  gather-rows now rows g =
      subst (λ z. AreRowsOf counts z rows) (sym (append-nil g.done) ∙ g.are) g.rows_are

  pub gather-cells : (now : Cells) (rows : List (Vec Value Global))
      → Gathers counts width all before now [] rows → (w : Heap)
      → IsUnion w (heap_of before ∷ heaps_of all) → heap_of now ≡ w
  gather-cells now rows g w s = union-one w (heap_of now) (g.union_is w s)

none-long : {A : Type 0} (xs : List A) → length xs ≡ 0 → xs ≡ []
none-long [] e = refl
none-long (x ∷ xs) e = absurd (omega (arith, e))

-- where no element comes, none is left
pub none-comes : (before after : IntoIter Content Global) (came : Option Content)
    → ((k : Content) → came ≡ Some k → ⊥) → into_iter_steps before came after
    → into_iter_items before ≡ []
none-comes before after None never h = none-long (into_iter_items before)
    (sym (before.rest).ok.0 ∙ h.0)
none-comes before after (Some k) never h = absurd (never k refl)

-- how many variables a resource has, by the counts
counts-same : (rs : List CodeResource)
    → counts_of rs ≡ map (λ (r : Resource). length r.variables) (map resource_of rs)
counts-same [] = refl
counts-same (x ∷ xs) = ap (λ (z : List ℕ). length x.variables.items ∷ z) (counts-same xs)

count-is : (rs : List CodeResource) (r : ℕ) (of : Resource)
    → slice_get (map resource_of rs) r ≡ Some of → get_or (counts_of rs) r 0 ≡ length of.variables
count-is rs r of e = ap (λ z. get_or z r 0) (counts-same rs)
    ∙ get_or_from_slice_get (map (λ (q : Resource). length q.variables) (map resource_of rs)) r
    (length of.variables) 0
    (slice_get-map (λ (q : Resource). length q.variables) (map resource_of rs) r
    ∙ ap (option_map (λ (q : Resource). length q.variables)) e)

-- a resource with a variable is there
resource-there : (o : Option Resource) (i : ℕ) → i < variable_count o
    → (of : Resource) × (o ≡ Some of) × (i < length of.variables)
resource-there None i l = absurd (omega (arith, l))
resource-there (Some of) i l = (of, refl, l)

module _ (p : CodeProgram) (f : ProcId) (c : Config) (a : TimedPart) (ks : List Content)
    (every : AreAll (program_of p) ks)
    (whole : Whole (a.part ∷ []) (contents_in ks) c) (vars : Vars) (log : List Stamped) (first heap : Cells)
    (end : EndsPart (program_of p) f a vars first log) (values : Vec (Vec Value Global) Global)
    (rows : AreRowsOf (counts_of p.resources.items) ks values.items)
    (cells : heap_of heap ≡ c.common.heap)
    (wide : HasWidth (length (program_of p).fields) heap) where
  -- what runs end with
  abbrev all_vars : Vars
  all_vars = record { own = vars.own; shared = values }

  -- the content of a resource
  content-at : (r : ResId) → r.0 < length ks
      → (k : Content) × (get_elem? ks r.0 ≡ some k) × (k.resource ≡ r) × IsContentIn (program_of p) k
  content-at r l =
      let k = at-some ks r.0 l in
      let e = every.exactly r.0 k.0 k.1 in
      (k.0, k.1, (λ i. record { 0 = e.number i }), e.is_in)

  -- it has none of the entry's variables
  no-own : (e i : ℕ) → AllByRecursion (λ (m : Map Slot Value). m (own e i) ≡ None)
      (map (λ (k : WholeContent). k.store) (contents_in ks))
  no-own e i = all-mapped (λ (k : WholeContent). k.store)
      (λ (m : Map Slot Value). m (own e i) ≡ None) (contents_in ks)
      (all-mapped (λ (k : Content). (content_of k).content)
      (λ (k : WholeContent). k.store (own e i) ≡ None) ks
      (at-all (λ (k : Content). (content_of k).content.store (own e i) ≡ None) ks
      (λ j k at. is_some-false ((content_of k).content.store (own e i))
      ((every.exactly j k at).is_in.variables (own e i)))))

  -- it has the resource's variables
  has-shared : (k : Content) (i : ℕ) (in_it : IsContentIn (program_of p) k)
      → i < length in_it.resource.variables
      → (v : Value) × ((content_of k).content.store (shared k.resource i) ≡ Some v)
  has-shared k i in_it l =
      let is : is_variable_of k.resource (length in_it.resource.variables) (shared k.resource i) ≡ true =
      grind (arith, nat_tests) in
      elim (some-or_none ((content_of k).content.store (shared k.resource i))) [
        | inl h ↦ h
        | inr none ↦ absurd (true≢false (sym is ∙ sym (in_it.variables (shared k.resource i))
            ∙ ap is_some none))
      ]

  -- so the values of these are those of the configuration
  shared-same : (k : Content) (i : ℕ) → get_elem? ks k.resource.0 ≡ some k
      → (in_it : IsContentIn (program_of p) k) → i < length in_it.resource.variables
      → (content_of k).content.store (shared k.resource i) ≡ c.common.store (shared k.resource i)
  shared-same k i at in_it l =
      let h = has-shared k i in_it l in
      h.1 ∙ sym (union-has (shared k.resource i) h.0
      (a.part.store ∷ map (λ (z : WholeContent). z.store) (contents_in ks)) (suc k.resource.0)
      (content_of k).content.store c.common.store whole.store
      (at-mapped (λ (z : WholeContent). z.store) (contents_in ks) k.resource.0 (content_of k).content
      (at-mapped (λ (z : Content). (content_of z).content) ks k.resource.0 k at)) h.1)

  -- the row of a resource
  row-at : (r : ResId) (of : Resource) → slice_get (program_of p).resources r.0 ≡ Some of
      → AreValues c.common.store (shared r) (length of.variables)
      (values_or_none (slice_get values.items r.0))
  row-at r of there =
      let within = slice_get_within (program_of p).resources r.0 of there in
      let k = content-at r (omega (arith, within, every.each)) in
      subst (λ (z : ResId). AreValues c.common.store (shared z) (length of.variables)
      (values_or_none (slice_get values.items z.0))) k.2 (here k.0
      (subst (λ (z : ResId). get_elem? ks z.0 ≡ some k.0) (sym k.2) k.1) k.3
      (ap (λ (z : ResId). slice_get (program_of p).resources z.0) k.2 ∙ there))
    where
      here : (k : Content) → get_elem? ks k.resource.0 ≡ some k → IsContentIn (program_of p) k
          → slice_get (program_of p).resources k.resource.0 ≡ Some of
          → AreValues c.common.store (shared k.resource) (length of.variables)
          (values_or_none (slice_get values.items k.resource.0))
      here k at in_it there =
          let row = rows-at (counts_of p.resources.items) ks values.items k.resource.0 k rows at in
          let count = count-is p.resources.items k.resource.0 of there in
          let same : in_it.resource ≡ of =
          same_Some in_it.resource of (sym in_it.there ∙ there) in record {
            length = row.length ∙ count;
            at = λ i l. row.at i (omega (arith, l, count))
                ∙ ap (λ z. unwrap_or z nil)
                (shared-same k i at in_it (subst (λ (z : Resource). i < length z.variables) (sym same) l));
          }

  values-ended : (x : Var) → IsParameter (program_of p) end.procedure x
      → value_of all_vars x ≡ unwrap_or (c.common.store (entry_slot x)) nil
  values-ended (Own i) l = end.values i l
      ∙ ap (λ z. unwrap_or z nil) (sym (union-first (own 0 i) a.part.store
      (map (λ (k : WholeContent). k.store) (contents_in ks)) c.common.store whole.store (no-own 0 i)))
  values-ended (Shared r i) l =
      let k = resource-there (slice_get (program_of p).resources r.0) i l in
      (row-at r k.0 k.1).at i k.2

  -- what the run ends with
  pub ends-whole : Ends (program_of p) f c all_vars heap
  ends-whole = record {
    procedure = end.procedure;
    there = end.there;
    parameters = end.parameters;
    resources = rows-length (counts_of p.resources.items) ks values.items rows ∙ every.each;
    variables = λ r of e. (row-at r of e).length;
    values = values-ended;
    cells = cells;
    width = wide;
  }
