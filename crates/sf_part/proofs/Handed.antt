-- Contents of resources that go out one after the other, each found beside the earlier ones.
-- Names: `next-LAW` of what is found next, `handed-LAW` of what goes out.
use Rattle.std.specs.Prelude.{◌≡◌, ◌⊎◌, ◌==◌, ◌<◌, ℕ, suc, Bool, true, false, cond, ltb, List, [], ◌∷◌, ◌++◌, length, get_or, All, Option, Some, None, Contains, is_some, nat_eq, reverse, Ok}
use Rattle.std.specs.FinMap.{get}
use Rattle.std.specs.List.{AllByRecursion, IsDistinct, concat, slice_get}
use Rattle.std.specs.Option.{option_map}
use Rattle.std.specs.Set.{is_member}
use Rattle.std.proofs.Common.{true≢false, sym, ap, ◌∙◌, refl, subst, inl, inr, arith}
use Rattle.std.proofs.lemmas.Bool.{false≢true}
use Rattle.std.proofs.lemmas.Bool.Decides.{Decides-eqb, nat_tests}
use Rattle.std.proofs.lemmas.List.{append-nil, reverse-append}
use Rattle.std.proofs.lemmas.List.Elements.{All-contains_itself, Contains-append_cases, Contains-append_left, Contains-append_right}
use Rattle.std.proofs.lemmas.List.Folds.{concat-append}
use Rattle.std.proofs.lemmas.Map.Made.{is_member-Decides}
use Rattle.std.proofs.lemmas.Option.{same_Some}
use Rattle.sf_base.proofs.Bools.{and-left, and-right}
use Rattle.sf_base.proofs.Elements.{contains-cons, contains-nil}
use Rattle.sf_base.proofs.MapSplits.{map-same, part-left, part-right, part-trans, splits-assoc_left, splits-assoc_right, splits-at_right, splits-at_left, splits-comm, splits-has_left, splits-has_right, splits-lacks_both, splits-lacks_left, union}
use Rattle.sf_base.proofs.Options.{is_some-false, is_some-map, some-or_none}
use Rattle.sf_base.proofs.StoreSplits.{resource-is, resource-same}
use Rattle.sf_base.specs.declared.ids.ResId.{ResId}
use Rattle.sf_base.specs.declared.ids.Var.{Var}
use Rattle.sf_base.specs.declared.value.Value.{Value}
use Rattle.sf_base.specs.declared.value.Value.TheVariants.{Nil as nil}
use Rattle.sf_base.specs.HeapStore.{Heap, Slot, Splits, Store, own, shared}
use Rattle.sf_core.specs.Assertions.Determined.{Determined}
use Rattle.sf_core.specs.Assertions.Sat.{Foot, Sat, value}
use Rattle.sf_core.specs.Machine.Config.{evaluate}
use Rattle.sf_core.specs.Machine.Start.{entry_slot}
use Rattle.sf_core.specs.Program.Formed.{variable_count}
use Rattle.sf_core.specs.Program.Syntax.{Assertion, Program, Resource}
use Rattle.sf_core.proofs.Assertions.Determined.{determined-precise}
use Rattle.sf_foot.specs.declared.found.Found.{Found}
use Rattle.sf_foot.specs.Found.{FindsNext}
use Rattle.sf_frame.specs.Commons.{common_of}
use Rattle.sf_frame.specs.Stores.{store_of}
use Rattle.sf_frame.specs.declared.shared.Shared.{Shared}
use Rattle.sf_frame.specs.declared.store.Store.{Store as CodeStore}
use Rattle.sf_heap.specs.Cells.{Cells, HasCell, cell_of, heap_of}
use Rattle.sf_precise.specs.Checked.Laws.{OrderKeepsMeaning, OrderedIsDetermined}
use Rattle.sf_precise.specs.Order.{IsOrderOf}
use Rattle.sf_part.specs.Checked.Handing.{Hands, HasNoNext, HasNoneFrom, HasVariables, IsFrom, IsGivenFrom, IsNextShare, IsTaken, LosesShare, timed_of}
use Rattle.sf_part.specs.Checked.Sharing.{IsOwnOf, seen_in}
use Rattle.sf_part.specs.Contents.{content_of}
use Rattle.sf_part.specs.declared.content.Content.{Content as CodeContent}
use Rattle.sf_part.specs.Given.{IsContentOf, is_variable_of}
use Rattle.sf_part.specs.Steps.{AreFrom}
use Rattle.sf_part.specs.Timed.{TimedContent}
use Rattle.sf_part.proofs.Exits.{same-there}
use Rattle.sf_part.proofs.Footprints.{foot-found}
use Rattle.sf_part.proofs.Giving.{given-same}

-- What is found next
module _ (keeps : OrderKeepsMeaning) (determined : OrderedIsDetermined) (p : Program) (r : ResId)
    (s : Shared) (old new : Found) (store : CodeStore) (resource : Resource) (o : Assertion)
    (there : slice_get p.resources r.0 ≡ Some resource) (ord : IsOrderOf resource.invariant o)
    (known : Var → Value) (same : (x : Var) → known x ≡ seen_in (store_of store) x)
    (variables : IsOwnOf p r (common_of s).store (store_of store)) where
  decided : Determined resource.invariant.level
  decided = (determined resource.invariant.level o.level ord.level).0

  pub next-share : FindsNext o.level known s.heap old new (Ok true)
      → IsNextShare p r s old new store
  next-share f = record {
    resource = resource;
    there = there;
    determined = decided;
    variables = variables;
    at = f.1;
    parts = f.2;
    apart = f.0;
    foot = foot-found keeps resource.invariant o ord known (seen_in (store_of store)) same
        (heap_of s.heap) f.1 f.3;
  }

  pub next-none : FindsNext o.level known s.heap old new (Ok false) → HasNoNext p r s old
  next-none f other part is mine piece foot lacks =
      let one : resource ≡ other = same_Some resource other (sym there ∙ is) in
      let stores : store_of store ≡ part =
      map-same (store_of store) part (λ slot. variables slot ∙ sym (mine slot)) in
      let values : known ≡ seen_in part =
      (λ i x. same x i) ∙ (λ i. seen_in (stores i)) in
      f.1 (λ heap one two other another s t h k.
      determined-precise resource.invariant.level (value known)
      (λ n. nil) decided heap one two other
      another s t ((keeps resource.invariant.level o.level known (λ n. nil) one ord.level).1 h)
      ((keeps resource.invariant.level o.level known (λ n. nil) two ord.level).1 k))
      piece (record {
        rest = foot.rest;
        splits = foot.splits;
        sat = (keeps resource.invariant.level o.level known (λ n. nil) piece ord.level).0
            (subst (λ z. Sat resource.invariant.level (value z) (λ n. nil) piece) (sym values)
            (subst (λ (z : Resource). Sat z.invariant.level (value (seen_in part)) (λ n. nil) piece)
            (sym one) foot.sat));
      }) lacks

-- The locations that were found
pub member-decides : (ls : List ℕ) (l : ℕ) → (is_member nat_eq ls l ≡ true → Contains ls l)
    × (Contains ls l → is_member nat_eq ls l ≡ true)
member-decides ls l = let d = is_member-Decides Decides-eqb ls l in (d.0, d.1)

all-member : (P : ℕ → Type 0) (xs : List ℕ) (l : ℕ) → AllByRecursion P xs → Contains xs l → P l
all-member P [] l a c = absurd (contains-nil l c)
all-member P (x ∷ xs) l a c = elim ((contains-cons x xs l).0 c) [
  | inl e ↦ subst P e a.0
  | inr d ↦ all-member P xs l a.1 d
]

pub distinct-apart : (xs ys : List ℕ) (l : ℕ) → IsDistinct nat_eq (xs ++ ys) → Contains xs l
    → Contains ys l → ⊥
unfolding IsDistinct
distinct-apart [] ys l d c k = contains-nil l c
distinct-apart (x ∷ xs) ys l d c k = elim ((contains-cons x xs l).0 c) [
  | inl e ↦ false≢true (sym (all-member (λ y. nat_eq x y ≡ false) (xs ++ ys) l d.0
      (Contains-append_right xs ys l k)) ∙ (Decides-eqb x l).1 e)
  | inr i ↦ distinct-apart xs ys l d.1 i k
]

module _ (p : Program) (r : ResId) (s : Shared) (old new : Found) (store : CodeStore)
    (next : IsNextShare p r s old new store) where
  all : concat new.parts.items ≡ concat old.parts.items ++ next.at
  all = ap concat next.parts ∙ concat-append old.parts.items (next.at ∷ [])
      ∙ ap (λ z. concat old.parts.items ++ z) (append-nil next.at)

  pub next-old : (l : ℕ) → IsTaken old l → IsTaken new l
  next-old l t = (member-decides (concat new.parts.items) l).1
      (subst (λ z. Contains z l) (sym all) (Contains-append_left (concat old.parts.items) next.at l
      ((member-decides (concat old.parts.items) l).0 t)))

  pub next-own : (l : ℕ) → Contains next.at l → IsTaken new l
  next-own l c = (member-decides (concat new.parts.items) l).1
      (subst (λ z. Contains z l) (sym all)
      (Contains-append_right (concat old.parts.items) next.at l c))

  pub next-which : (l : ℕ) → IsTaken new l → IsTaken old l ⊎ Contains next.at l
  next-which l t = elim (Contains-append_cases (concat old.parts.items) next.at l
      (subst (λ z. Contains z l) all ((member-decides (concat new.parts.items) l).0 t))) [
        | inl c ↦ inl ((member-decides (concat old.parts.items) l).1 c)
        | inr c ↦ inr c
      ]

  pub next-apart : (l : ℕ) → IsTaken old l → Contains next.at l → ⊥
  next-apart l t c = distinct-apart (concat old.parts.items) next.at l
      (subst (IsDistinct nat_eq) all next.apart.distinct)
      ((member-decides (concat old.parts.items) l).0 t) c

  -- each of them is there, where cells that were found stay
  pub next-cells : (cells : Cells) → ((l : ℕ) → IsTaken new l → get cells l ≡ get s.heap l)
      → All (HasCell cells) next.at
  next-cells cells same k d l =
      let here = All-contains_itself next.at k d l in
      let taken = next-own (get_or next.at k d) here in
      ap is_some (same (get_or next.at k d) taken) ∙ next.apart.there (get_or next.at k d) taken

-- What goes out last may go out first
pub hands-last : (heap : Heap) (store : Store) (ks : List TimedContent) (rest : Heap) (left : Store)
    (k : TimedContent) (less : Heap) (fewer : Store) → Hands heap store ks rest left
    → Splits rest less k.content.heap → Splits left fewer k.content.store
    → Hands heap store (k ∷ ks) less fewer
hands-last heap store [] rest left k less fewer (e, f) s t = (
  less,
  fewer,
  subst (λ z. Splits z less k.content.heap) e s,
  subst (λ z. Splits z fewer k.content.store) f t,
  (refl, refl),
)
hands-last heap store (j ∷ ks) rest left k less fewer (h, l, c, d, more) s t =
    let (h', l', c', d', more') = hands-last h l ks rest left k less fewer more s t in
    let m = splits-assoc_right c' c in
    let n = splits-assoc_left (splits-comm m.0) m.1 in
    let x = splits-assoc_right d' d in
    let y = splits-assoc_left (splits-comm x.0) x.1 in (
      union h' j.content.heap,
      union l' j.content.store,
      n.1,
      y.1,
      (h', l', n.0, y.0, more'),
    )

-- A content whose slots are a resource's in what is there
module _ (p : Program) (r : ResId) (resource : Resource)
    (there : slice_get p.resources r.0 ≡ Some resource) where
  pub own-resource : (q : ResId) (i : ℕ)
      → is_variable_of r (length resource.variables) (shared q i) ≡ true
      → (q ≡ r) × (i < length resource.variables)
  own-resource q i e =
      let low : q.0 == r.0 ≡ true = and-left (q.0 == r.0) _ e in
      let high : ltb i (length resource.variables) ≡ true = and-right (q.0 == r.0) _ e in
      (resource-same q r low, grind (arith, nat_tests))

  pub own-there : (whole : Store)
      → ((i : ℕ) → i < variable_count (slice_get p.resources r.0)
      → is_some (whole (shared r i)) ≡ true) → (slot : Slot)
      → is_some (cond (is_variable_of r (length resource.variables) slot) (whole slot) None)
      ≡ is_variable_of r (length resource.variables) slot
  own-there whole h (own e i) = refl
  own-there whole h (shared q i) = go (is_variable_of r (length resource.variables)
      (shared q i)) refl
    where
      go : (c : Bool) → is_variable_of r (length resource.variables) (shared q i) ≡ c
          → is_some (cond c (whole (shared q i)) None) ≡ c
      go false e = refl
      go true e =
          let (same, few) = own-resource q i e in
          ap (λ (z : ResId). is_some (whole (shared z i))) same
          ∙ h i (subst (λ z. i < variable_count z) (sym there) few)

  pub own-slots : (whole part : Store) → IsOwnOf p r whole part
      → ((i : ℕ) → i < variable_count (slice_get p.resources r.0)
      → is_some (whole (shared r i)) ≡ true) → (slot : Slot)
      → is_some (part slot) ≡ is_variable_of r (length resource.variables) slot
  own-slots whole part is h slot =
      ap is_some (is slot)
      ∙ ap (λ z. is_some (cond (is_variable_of r (variable_count z) slot) (whole slot) None)) there
      ∙ own-there whole h slot

  -- the other way round
  pub own-of : (whole part : Store) → ((slot : Slot) → is_some (part slot)
      ≡ is_variable_of r (length resource.variables) slot)
      → ((slot : Slot) (v : Value) → part slot ≡ Some v → whole slot ≡ Some v)
      → IsOwnOf p r whole part
  own-of whole part is h slot =
      go (part slot) (whole slot) (is_variable_of r (variable_count
      (slice_get p.resources r.0)) slot)
      (is slot ∙ ap (λ z. is_variable_of r (variable_count z) slot) (sym there)) (h slot)
    where
      go : (o w : Option Value) (c : Bool) → is_some o ≡ c
          → ((v : Value) → o ≡ Some v → w ≡ Some v) → o ≡ cond c w None
      go None w true e h = absurd (true≢false (sym e))
      go None w false e h = refl
      go (Some v) w true e h = sym (h v refl)
      go (Some v) w false e h = absurd (true≢false e)

-- What is handed out begins with the content of the resource of that number
module _ (p : Program) (n : ℕ) (s : Shared) (found : Found) (heap other : Heap) (store : Store)
    (k : TimedContent) (less : Heap) (fewer : Store)
    (whole : Splits (heap_of s.heap) heap other)
    (sub : (slot : Slot) (v : Value) → store slot ≡ Some v → (common_of s).store slot ≡ Some v)
    (c : Splits heap less k.content.heap) (d : Splits store fewer k.content.store)
    (number : k.content.resource.0 ≡ n) (of : IsContentOf p k.content) where
  abbrev r : ResId
  r = record { 0 = n }

  same_r : k.content.resource ≡ r
  same_r = resource-is k.content.resource r number

  first-there : slice_get p.resources n ≡ Some of.resource
  first-there = ap (slice_get p.resources) (sym number) ∙ of.there

  first-own : IsOwnOf p r (common_of s).store k.content.store
  first-own = own-of p r of.resource first-there (common_of s).store k.content.store
      (λ slot. of.variables slot
      ∙ ap (λ z. is_variable_of z (length of.resource.variables) slot) same_r)
      (λ slot v e. sub slot v (splits-has_right slot v d e))

  first-part : Foot of.resource.invariant.level (value (seen_in k.content.store)) (heap_of s.heap)
      k.content.heap
  first-part =
      let part = part-trans (part-right c) (part-left whole) in
      record { rest = part.rest; splits = part.splits; sat = of.invariant }

  pub first-none : HasNoNext p r s found → ((l : ℕ) → IsTaken found l → heap l ≡ None) → ⊥
  first-none none lacks = none of.resource k.content.store first-there first-own k.content.heap
      first-part (λ l m. (splits-lacks_both l c (lacks l m)).1)

  -- which is what was found
  module _ (new : Found) (found_store : CodeStore) (next : IsNextShare p r s found new found_store)
    where
      first-same : k.content.heap ≡ next.foot.part
      first-same =
          let one : next.resource ≡ of.resource =
          same_Some next.resource of.resource (sym next.there ∙ first-there) in
          let stores : store_of found_store ≡ k.content.store =
          map-same (store_of found_store) k.content.store
          (λ slot. next.variables slot ∙ sym (first-own slot)) in
          determined-precise next.resource.invariant.level (value (seen_in k.content.store))
          (λ n. nil)
          next.determined (heap_of s.heap) k.content.heap next.foot.part first-part.rest
          next.foot.foot.rest first-part.splits next.foot.foot.splits
          (subst (λ (z : Resource). Sat z.invariant.level (value (seen_in k.content.store))
          (λ n. nil)
          k.content.heap) (sym one) of.invariant)
          (subst (λ (z : Store). Sat next.resource.invariant.level (value (seen_in z)) (λ n. nil)
          next.foot.part) stores next.foot.foot.sat)

      pub first-lacks : ((l : ℕ) → IsTaken found l → heap l ≡ None) → (l : ℕ) → IsTaken new l
          → less l ≡ None
      first-lacks lacks l t = elim (next-which p r s found new found_store next l t) [
        | inl old ↦ (splits-lacks_both l c (lacks l old)).0
        | inr at ↦ elim (some-or_none (k.content.heap l)) [
          | inl x ↦ splits-lacks_left l x.0 c x.1
          | inr x ↦ absurd ((next.foot.at l).1 at
              (sym (ap (λ (z : Heap). z l) first-same) ∙ x))
        ]
      ]

-- so nothing can be handed out
pub handed-none : (p : Program) (n : ℕ) (s : Shared) (found : Found) → n < length p.resources
    → HasNoNext p (record { 0 = n }) s found → HasNoneFrom p n s found
handed-none p n s found l none heap other rest store left [] whole lacks sub hands from len each =
    absurd (omega arith)
handed-none p n s found l none heap other rest store left (k ∷ ks) whole lacks sub
    (less, fewer, c, d, more) from len each =
    first-none p n s found heap other store k less fewer whole sub c d from.0 each.0 none lacks

pub handed-no_more : (p : Program) (n m : ℕ) (s : Shared) (found new : Found) (store : CodeStore)
    → n < length p.resources → m ≡ suc n → IsNextShare p (record { 0 = n }) s found new store
    → HasNoneFrom p m s new → HasNoneFrom p n s found
handed-no_more p n m s found new own_store l e next none heap other rest store left [] whole lacks
    sub hands from len each = absurd (omega arith)
handed-no_more p n m s found new own_store l e next none heap other rest store left (k ∷ ks) whole
    lacks sub (less, fewer, c, d, more) from len each =
    let part = part-trans (part-left c) (part-left whole) in
    none less part.rest rest fewer left ks part.splits
    (first-lacks p n s found heap other store k less fewer whole sub c d from.0 each.0 new own_store
    next lacks)
    (λ slot v f. sub slot v (splits-has_left slot v d f)) more
    (subst (λ z. AreFrom z ks) (sym e) from.1) (omega arith) each.1

-- Nothing more goes out
pub handed-nothing : (p : Program) (n stamp : ℕ) (found : Found) (a : Shared)
    (out : List CodeContent) → n ≡ length p.resources → out ≡ []
    → IsGivenFrom p n stamp found a out a
handed-nothing p n stamp found a out e is = record {
  contents = [];
  is = is;
  in_order = tt;
  each = omega arith;
  exactly = tt;
  hands = (refl, refl);
  stamps = tt;
  held = refl;
  cells = λ l t. refl;
  slots = λ slot h. refl;
  width = λ count w. (w, tt);
}

-- One more goes out
module _ (p : Program) (n m stamp : ℕ) (s b c : Shared) (found new : Found) (store : CodeStore)
    (out : List CodeContent) (k : CodeContent) (e : m ≡ suc n)
    (next : IsNextShare p (record { 0 = n }) s found new store)
    (variables : HasVariables p n (common_of s).store)
    (more : IsGivenFrom p m stamp new s out b)
    (loses : LosesShare (record { 0 = n }) stamp store next.at b k c) where
  abbrev res : ResId
  res = record { 0 = n }

  slots_are : (slot : Slot) → is_some ((content_of k).content.store slot)
      ≡ is_variable_of res (length next.resource.variables) slot
  slots_are slot = ap (λ (z : Store). is_some (z slot)) loses.is_share
      ∙ own-slots p res next.resource next.there (common_of s).store (store_of store) next.variables
      (λ i l. variables res i (omega arith) l) slot

  kept : (l : ℕ) → IsTaken new l → (common_of b).heap l ≡ (common_of s).heap l
  kept l t = ap (option_map cell_of) (more.cells l t)

  cells_are : next.foot.part ≡ (content_of k).content.heap
  cells_are = map-same next.foot.part (content_of k).content.heap (λ location.
      given-same (next.foot.part location) ((content_of k).content.heap location)
      ((common_of s).heap location)
      (same-there (next.foot.part location) (get k.heap location) _ (next.foot.at location)
      (loses.at_is location) ∙ sym (is_some-map cell_of (get k.heap location)))
      (λ v f. splits-has_left location v next.foot.foot.splits f)
      (λ v f. sym (kept location (next-own p res s found new store next location
      ((loses.at_is location).0
      (sym (is_some-map cell_of (get k.heap location)) ∙ ap is_some f))))
      ∙ splits-has_right location v loses.heap f))

  content_is : IsContentOf p (content_of k).content
  content_is = record {
    resource = next.resource;
    there = ap (λ (z : ResId). slice_get p.resources z.0) loses.resource ∙ next.there;
    variables = λ slot. slots_are slot
        ∙ ap (λ z. is_variable_of z (length next.resource.variables) slot) (sym loses.resource);
    invariant = subst (λ (z : Heap). Sat next.resource.invariant.level
        (evaluate entry_slot (content_of k).content.store) (λ n. nil) z) cells_are
        (subst (λ (z : Store). Sat next.resource.invariant.level (value (seen_in z)) (λ n. nil)
        next.foot.part) (sym loses.is_share) next.foot.foot.sat);
  }

  lacks-slot : (slot : Slot) → (IsFrom n slot → ⊥) → (content_of k).content.store slot ≡ None
  lacks-slot (own f i) h = is_some-false ((content_of k).content.store (own f i)) (slots_are
      (own f i))
  lacks-slot (shared q i) h = go (is_variable_of res (length next.resource.variables)
      (shared q i)) refl
    where
      go : (x : Bool) → is_variable_of res (length next.resource.variables) (shared q i) ≡ x
          → (content_of k).content.store (shared q i) ≡ None
      go false f = is_some-false ((content_of k).content.store (shared q i))
          (slots_are (shared q i) ∙ f)
      go true f =
          let (same, few) = own-resource p res next.resource next.there q i f in
          absurd (h (res, i, ap (λ z. shared z i) same, omega arith))

  lacks-cell : (l : ℕ) → IsTaken found l → get k.heap l ≡ None
  lacks-cell l t = elim (some-or_none (get k.heap l)) [
    | inl x ↦ absurd (next-apart p res s found new store next l t
        ((loses.at_is l).0 (ap is_some x.1)))
    | inr x ↦ x
  ]

  pub handed-more : IsGivenFrom p n stamp found s (out ++ k ∷ []) c
  handed-more = record {
    contents = k ∷ more.contents;
    is = ap (λ z. z ++ k ∷ []) more.is ∙ sym (reverse-append (k ∷ []) more.contents);
    in_order = (
      ap (λ (z : ResId). z.0) loses.resource,
      subst (λ z. AreFrom z (timed_of more.contents)) e more.in_order,
    );
    each = let h = more.each in omega arith;
    exactly = (content_is, more.exactly);
    hands = hands-last (common_of s).heap (common_of s).store (timed_of more.contents)
        (common_of b).heap (common_of b).store (content_of k) (common_of c).heap (common_of c).store
        more.hands loses.heap loses.slots;
    stamps = (loses.stamp_is, more.stamps);
    held = loses.held ∙ more.held;
    cells = λ l t. sym (splits-at_right l loses.cells (lacks-cell l t))
        ∙ more.cells l (next-old p res s found new store next l t);
    slots = λ slot h. sym (splits-at_left slot loses.slots (lacks-slot slot h))
        ∙ more.slots slot (λ f. h (f.0, f.1, f.2, let g = f.3 in omega arith));
    width = λ count w.
        let (x, y) = more.width count w in (
          λ location values f. x location values (splits-has_right location values loses.cells f),
          (
            λ location values f. x location values (splits-has_left location values loses.cells f),
            y,
          ),
        );
  }

-- the last of a list is one
pub last-same : {A : Type 0} (xs ys : List A) (x y : A) → xs ++ x ∷ [] ≡ ys ++ y ∷ [] → x ≡ y
last-same xs ys x y e =
    let f : x ∷ reverse xs ≡ y ∷ reverse ys =
    sym (reverse-append xs (x ∷ [])) ∙ ap reverse e ∙ reverse-append ys (y ∷ []) in
    cc
