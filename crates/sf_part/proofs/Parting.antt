-- The contents of the resources, parted off one after the other where a run begins.
-- Names: `distinct-LAW` of lists without repeats, `sub-LAW` of cells among others, `parting-LAW`.
use Rattle.std.specs.Prelude.{◌≡◌, ◌+◌, ◌<◌, ◌≤◌, ◌&&◌, ℕ, zero, suc, Bool, true, false, cond, ltb, nat_eq, List, [], ◌∷◌, ◌++◌, get_or, length, map, slice_get, Option, Some, None, Contains, is_some}
use Rattle.std.specs.FinMap as cells
use Rattle.std.specs.List.{AllByRecursion, IsDistinct, concat}
use Rattle.std.proofs.Common.{true≢false, sym, ap, ◌∙◌, refl, subst, inl, inr, arith, length-append}
use Rattle.std.proofs.lemmas.Bool.Decides.{Decides-eqb, eqb_tells}
use Rattle.std.proofs.lemmas.List.{append-nil}
use Rattle.std.proofs.lemmas.Option.{slice_get_cases}
use Rattle.std.proofs.lemmas.List.Elements.{Contains-append_left, Contains-append_right}
use Rattle.sf_base.proofs.Elements.{contains-cons, contains-nil}
use Rattle.sf_base.proofs.Lookup.{get-push_cases}
use Rattle.sf_base.proofs.MapSplits.{splits-at_right, splits-comm, splits-has_left}
use Rattle.sf_base.specs.declared.ids.ResId.{ResId}
use Rattle.sf_base.specs.HeapStore.{Slot, Splits, own, shared}
use Rattle.sf_core.specs.Machine.Whole.{IsUnion}
use Rattle.sf_core.specs.Program.Syntax.{Resource}
use Rattle.sf_foot.specs.Starting.{HasWidth}
use Rattle.sf_frame.specs.declared.shared.Shared.{Shared}
use Rattle.sf_frame.specs.Stores.{store_of}
use Rattle.sf_heap.specs.Cells.{Cells, FieldValues, HasCell, heap_of}
use Rattle.sf_part.specs.declared.content.Content.{Content}
use Rattle.sf_part.specs.Given.{is_variable_of}
use Rattle.sf_part.specs.Checked.Parting.{ArePartedOff, IsPartedOff, PartsOff}
use Rattle.sf_part.proofs.Firsts.{union-alone}
use Rattle.sf_part.proofs.Unions.{union-part, union-unfocus_tail}

-- Lists without repeats
all-member : (P : ℕ → Type 0) (xs : List ℕ) (l : ℕ) → AllByRecursion P xs → Contains xs l → P l
all-member P [] l a c = absurd (contains-nil l c)
all-member P (x ∷ xs) l a c = elim ((contains-cons x xs l).0 c) [
  | inl e ↦ subst P e a.0
  | inr d ↦ all-member P xs l a.1 d
]

distinct-right : (xs ys : List ℕ) → IsDistinct nat_eq (xs ++ ys) → IsDistinct nat_eq ys
unfolding IsDistinct
distinct-right [] ys d = d
distinct-right (x ∷ xs) ys d = distinct-right xs ys d.1

distinct-apart : (xs ys : List ℕ) (l : ℕ) → IsDistinct nat_eq (xs ++ ys) → Contains xs l
    → Contains ys l → ⊥
unfolding IsDistinct
distinct-apart [] ys l d c k = contains-nil l c
distinct-apart (x ∷ xs) ys l d c k = elim ((contains-cons x xs l).0 c) [
  | inl e ↦ true≢false (sym ((Decides-eqb x l).1 e)
      ∙ all-member (λ y. nat_eq x y ≡ false) (xs ++ ys) l d.0 (Contains-append_right xs ys l k))
  | inr i ↦ distinct-apart xs ys l d.1 i k
]

-- what is in one of several lists is in all of them together
pub concat-has : (parts : List (List ℕ)) (k l : ℕ) → Contains (get_or parts k []) l
    → Contains (concat parts) l
concat-has [] k l c = absurd (contains-nil l c)
concat-has (xs ∷ parts) zero l c = Contains-append_left xs (concat parts) l c
concat-has (xs ∷ parts) (suc k) l c =
    Contains-append_right xs (concat parts) l (concat-has parts k l c)

-- no number is in two of several lists that have no repeats together
pub distinct-parts : (parts : List (List ℕ)) → IsDistinct nat_eq (concat parts) → (j k l : ℕ)
    → j < k → Contains (get_or parts j []) l → Contains (get_or parts k []) l → ⊥
distinct-parts [] d j k l less c e = contains-nil l c
distinct-parts (xs ∷ parts) d j zero l less c e = absurd (omega (arith, less))
distinct-parts (xs ∷ parts) d zero (suc k) l less c e =
    distinct-apart xs (concat parts) l d c (concat-has parts k l e)
distinct-parts (xs ∷ parts) d (suc j) (suc k) l less c e =
    distinct-parts parts (distinct-right xs (concat parts) d) j k l (omega (arith, less)) c e

-- Cells among others
pub sub-width : (n : ℕ) (all one other : Cells)
    → Splits (cells.get all) (cells.get one) (cells.get other)
    → HasWidth n all → HasWidth n one
sub-width n all one other s h location values e =
    h location values (splits-has_left location values s e)

sub-rest : (all one other : Cells) (location : ℕ)
    → Splits (cells.get all) (cells.get one) (cells.get other)
    → HasCell all location → (HasCell one location → ⊥) → HasCell other location
sub-rest all one other location s h out = go (cells.get one location) refl
  where
    go : (o : Option FieldValues) → cells.get one location ≡ o → HasCell other location
    go None e = sym (ap is_some (splits-at_right location s e)) ∙ h
    go (Some v) e = absurd (out (ap is_some e))

-- The slots of a resource
of-resource : (r q : ResId) (count i : ℕ) → is_variable_of r count (shared q i) ≡ true → q.0 ≡ r.0
of-resource r q count i e = elim (eqb_tells q.0 r.0) [
  | inl t ↦ t.1
  | inr t ↦ absurd (true≢false (sym e ∙ ap (λ z. z && ltb i count) t.0))
]

of-others : (r q : ResId) (count i : ℕ) → r.0 < q.0 → is_variable_of r count (shared q i) ≡ false
of-others r q count i less = elim (eqb_tells q.0 r.0) [
  | inl t ↦ absurd (let e : q.0 ≡ r.0 = t.1 in omega (arith, less, e))
  | inr t ↦ ap (λ z. z && ltb i count) t.0
]

-- a place of a list has an item
pub item-there : {A : Type 0} (rs : List A) (k : ℕ) → k < length rs
    → (r : A) × (slice_get rs k ≡ Some r)
item-there rs k l = elim (slice_get_cases rs k).1 [
  | inl h ↦ (h.0, h.2)
  | inr h ↦ absurd (omega (arith, l, h.0))
]

-- no content is parted off
pub parting-none : (resources : List Resource) (parts : List (List ℕ)) (s : Shared)
    → ((number location : ℕ) → Contains (get_or parts number []) location
    → HasCell s.heap location) → ArePartedOff resources parts 0 s [] s
parting-none resources parts s there = record {
  each = refl;
  heap = union-alone (heap_of s.heap) (heap_of s.heap) refl;
  store = union-alone (store_of s.store) (store_of s.store) refl;
  held = refl;
  contents_are = λ number k e. absurd (cc);
  there = λ number location less c. there number location c;
  variables = λ r i least. refl;
  own = λ event index. refl;
  wide = λ count h. h;
}

module _ (resources : List Resource) (parts : List (List ℕ)) (n : ℕ) (old between new : Shared)
    (contents : List Content) (k : Content) (r : ResId) (count : ℕ) (resource : Resource)
    (apart : (i j l : ℕ) → i < j → Contains (get_or parts i []) l
    → Contains (get_or parts j []) l → ⊥)
    (before : ArePartedOff resources parts n old contents between)
    (more : PartsOff r count (get_or parts (n + 1) []) between k new) (number : r.0 ≡ n)
    (found : slice_get resources n ≡ Some resource) (many : count ≡ length resource.variables) where
  -- a variable of it is as it was
  same : (slot : Slot) (b : Bool) → is_variable_of r count slot ≡ b
      → cond b (store_of between.store slot) None ≡ cond b (store_of old.store slot) None
  same slot false e = refl
  same (own event index) true e = absurd (true≢false (sym e))
  same (shared q i) true e =
      let least : n ≤ q.0 = omega (arith, of-resource r q count i e, number) in
      before.variables q i least

  last : IsPartedOff resources parts old n k
  last = record {
    number_is = ap (λ (q : ResId). q.0) more.resource ∙ number;
    stamp = more.stamp;
    heap = λ location c e.
        splits-has_left location c before.heap.1 (splits-has_left location c more.heap e);
    locations = more.locations;
    resource = resource;
    there = found;
    variables = λ slot. more.variables slot
        ∙ same slot (is_variable_of r count slot) refl
        ∙ (λ i. cond (is_variable_of (sym more.resource i) (many i) slot)
        (store_of old.store slot) None);
    wide = λ width h.
        sub-width width between.heap k.heap new.heap more.cells (before.wide width h);
  }

  -- a slot that is none of its variables is as it was
  rest-same : (slot : Slot) → is_variable_of r count slot ≡ false
      → store_of new.store slot ≡ store_of between.store slot
  rest-same slot e = sym (splits-at_right slot more.store
      (more.variables slot ∙ ap (λ b. cond b (store_of between.store slot) None) e))

  one-more : ArePartedOff resources parts (n + 1) old (contents ++ k ∷ []) new
  one-more = record {
    each = omega (arith, length-append contents (k ∷ []), before.each);
    heap = union-unfocus_tail (λ (z : Content). heap_of z.heap) (heap_of new.heap ∷ []) contents
        k [] (heap_of old.heap)
        (subst (λ (zs : List Content). IsUnion (heap_of old.heap)
        (heap_of new.heap ∷ heap_of k.heap ∷ map (λ (z : Content). heap_of z.heap) zs))
        (sym (append-nil contents))
        (union-part (heap_of old.heap) (heap_of between.heap) (heap_of new.heap) (heap_of k.heap)
        (map (λ (z : Content). heap_of z.heap) contents) (splits-comm more.heap) before.heap));
    store = union-unfocus_tail (λ (z : Content). store_of z.store) (store_of new.store ∷ [])
        contents k [] (store_of old.store)
        (subst (λ (zs : List Content). IsUnion (store_of old.store)
        (store_of new.store ∷ store_of k.store ∷ map (λ (z : Content). store_of z.store) zs))
        (sym (append-nil contents))
        (union-part (store_of old.store) (store_of between.store) (store_of new.store)
        (store_of k.store) (map (λ (z : Content). store_of z.store) contents)
        (splits-comm more.store) before.store));
    held = more.held ∙ before.held;
    contents_are = λ i z e. elim (get-push_cases contents k i z e) [
      | inl h ↦ before.contents_are i z h
      | inr h ↦
          let at : n ≡ i = omega (arith, h.0, before.each) in
          subst (λ j. IsPartedOff resources parts old j z) at
          (subst (IsPartedOff resources parts old n) h.1 last)
    ];
    there = λ i location less c. sub-rest between.heap k.heap new.heap location more.cells
        (before.there i location (omega (arith, less)) c)
        (λ h. apart (n + 1) i location (omega (arith, less)) ((more.locations location).0 h) c);
    variables = λ q i least. rest-same (shared q i)
        (of-others r q count i (omega (arith, least, number)))
        ∙ before.variables q i (omega (arith, least));
    own = λ event index. rest-same (own event index) refl ∙ before.own event index;
    wide = λ width h. sub-width width between.heap new.heap k.heap (splits-comm more.cells)
        (before.wide width h);
  }

  pub parting-more : (all : List Content) → all ≡ contents ++ k ∷ []
      → ArePartedOff resources parts (n + 1) old all new
  parting-more all is =
      subst (λ ks. ArePartedOff resources parts (n + 1) old ks new) (sym is) one-more
