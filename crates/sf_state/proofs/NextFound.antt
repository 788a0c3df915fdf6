-- The next footprint that is looked for, and what the ones so far are.
-- Names: `ordered-LAW` for assertions in order; `found-CASE` for what comes of the next one.
use Rattle.std.proofs.Common.{◌≡◌, ◌<◌, ◌≤◌, ◌+◌, ◌||◌, ℕ, zero, suc, Bool, true, false, nat_eq, nat_cmp, List, [], ◌∷◌, ◌++◌, Option, Some, None, Contains, length, take, slice_get, refl, sym, ap, ◌∙◌, subst, inl, inr, arith}
use Rattle.std.specs.BTreeSet.{contains}
use Rattle.std.specs.List.{AllByRecursion, AllZip, IsDistinct, concat}
use Rattle.std.specs.Option.{IfSome, option_map}
use Rattle.std.specs.Set.{is_member}
use Rattle.std.proofs.lemmas.Bool.{false≢true}
use Rattle.std.proofs.lemmas.List.{length-map, take_all, take_more}
use Rattle.std.proofs.lemmas.Option.{get_or_from_slice_get, slice_get-map, slice_get_within, none-some}
use Rattle.std.proofs.lemmas.Slice.Zip.{all_zipped_more}
use Rattle.sf_base.specs.declared.ids.Var.{Var}
use Rattle.sf_base.specs.declared.value.Value.{Value}
use Rattle.sf_base.specs.declared.value.Value.TheVariants.{Nil as nil}
use Rattle.sf_base.specs.HeapStore.{Heap}
use Rattle.sf_base.proofs.Elements.{all_by-append, contains-cons}
use Rattle.sf_core.specs.Checked.Assertions.Laws.{DeterminedHasOneFootprint}
use Rattle.sf_core.specs.Checked.Assertions.Precise.{IsPrecise}
use Rattle.sf_core.specs.Assertions.Sat.{Sat, value}
use Rattle.sf_core.specs.Program.Syntax.{Assertion, Procedure, Program, Resource}
use Rattle.sf_heap.specs.Cells.{Cells, heap_of}
use Rattle.sf_foot.specs.Footprint.{HasNoFootprint, IsFootprint}
use Rattle.sf_precise.specs.Checked.Laws.{OrderedIsDetermined, OrderKeepsMeaning}
use Rattle.sf_precise.specs.Order.{IsOrderOf}
use Rattle.sf_foot.specs.Starting.{assertions_of}
use Rattle.sf_foot.specs.declared.found.Found.{Found}
use Rattle.sf_foot.specs.Found.{AreApart, FindsNext, HasNoneBeside}
use Rattle.sf_state.specs.Checked.Found.{AlsoFound, AreFound}
use Rattle.std.specs.declared.alloc.AllocError.{AllocError}
use Rattle.std.specs.Prelude.{Result, Ok, Err}
use Rattle.sf_state.specs.Starts.{IsUnmet, without}
use Rattle.sf_state.proofs.Turns.{turns-from_parts}
use Rattle.sf_state.proofs.Without.{foot-whole, part-none}

-- an assertion that has an order is precise
pub ordered-precise : OrderedIsDetermined → DeterminedHasOneFootprint → (a o : Assertion) (vars : Var → Value)
    → IsOrderOf a o → IsPrecise (Sat a.level (value vars) (λ n. nil))
unfolding DeterminedHasOneFootprint
ordered-precise determined one a o vars ord = one a.level vars (λ n. nil) (determined a.level o.level ord.level).0

-- its footprints are those of its order
ordered-foot : OrderKeepsMeaning → (a o : Assertion) (vars : Var → Value) (heap : Heap) (ls : List ℕ) → IsOrderOf a o
    → IsFootprint o.level vars heap ls → IsFootprint a.level vars heap ls
ordered-foot keeps a o vars heap ls ord f = record {
  part = f.part;
  foot = record {
    rest = f.foot.rest;
    splits = f.foot.splits;
    sat = (keeps a.level o.level vars (λ n. nil) f.part ord.level).1 f.foot.sat;
  };
  at = f.at;
}

ordered-none : OrderKeepsMeaning → (a o : Assertion) (vars : Var → Value) (heap : Heap) → IsOrderOf a o
    → HasNoFootprint o.level vars heap → HasNoFootprint a.level vars heap
ordered-none keeps a o vars heap ord none part f = none part (record {
  rest = f.rest;
  splits = f.splits;
  sat = (keeps a.level o.level vars (λ n. nil) part ord.level).0 f.sat;
})

-- there is none beside the earlier ones
pub found-none : OrderKeepsMeaning → OrderedIsDetermined → DeterminedHasOneFootprint → (a o : Assertion)
    (vars : Var → Value) (heap : Heap) (taken : List ℕ) → IsOrderOf a o
    → (IsPrecise (Sat o.level (value vars) (λ n. nil)) → HasNoneBeside taken o.level vars heap)
    → HasNoFootprint a.level vars (without taken heap)
found-none keeps determined one a o vars heap taken ord none part g =
    none (λ whole two three other another s t h k. ordered-precise determined one a o vars ord whole two three other another
    s t ((keeps a.level o.level vars (λ n. nil) two ord.level).1 h)
    ((keeps a.level o.level vars (λ n. nil) three ord.level).1 k)) part (record {
      rest = (foot-whole a.level vars heap part taken g).rest;
      splits = (foot-whole a.level vars heap part taken g).splits;
      sat = (keeps a.level o.level vars (λ n. nil) part ord.level).0 g.sat;
    }) (part-none taken heap part g.rest g.splits)

-- two lists without repeats that have no number together
pub distinct-append : (xs ys : List ℕ) → IsDistinct nat_eq xs → IsDistinct nat_eq ys
    → ((l : ℕ) → Contains xs l → is_member nat_eq ys l ≡ false) → IsDistinct nat_eq (xs ++ ys)
unfolding IsDistinct
distinct-append [] ys d e out = e
distinct-append (x ∷ xs) ys d e out = (
  all_by-append (λ y. nat_eq x y ≡ false) xs ys d.0 (none ys (out x ((contains-cons x xs x).1 (inl refl)))),
  distinct-append xs ys d.1 e (λ l c. out l ((contains-cons x xs l).1 (inr c))),
)
  where
    first : (b c : Bool) → (b || c) ≡ false → b ≡ false
    first true c h = h
    first false c h = refl

    rest : (b c : Bool) → (b || c) ≡ false → c ≡ false
    rest true c h = absurd (false≢true (sym h))
    rest false c h = h

    none : (zs : List ℕ) → is_member nat_eq zs x ≡ false → AllByRecursion (λ y. nat_eq x y ≡ false) zs
    none [] h = tt
    none (z ∷ zs) h = (first (nat_eq x z) (is_member nat_eq zs x) h, none zs (rest (nat_eq x z) (is_member nat_eq zs x) h))

-- it has one, and is found too
pub found-more : OrderKeepsMeaning → (a o : Assertion) (before : List Assertion) (vars : Var → Value) (heap : Cells)
    (old new : Found) (ls : List ℕ) → IsOrderOf a o → AreFound before vars heap old → AreApart heap new
    → new.parts.items ≡ old.parts.items ++ ls ∷ [] → IsFootprint o.level vars (heap_of heap) ls
    → AreFound (before ++ a ∷ []) vars heap new
found-more keeps a o before vars heap old new ls ord found apart parts f = record {
  footprints = subst (λ ps. AllZip (λ a ls. IsFootprint a.level vars (heap_of heap) ls) (before ++ a ∷ []) ps) (sym parts)
      (all_zipped_more (λ (b : Assertion) ms. IsFootprint b.level vars (heap_of heap) ms) before old.parts.items a ls
      found.footprints (ordered-foot keeps a o vars (heap_of heap) ls ord f));
  apart = apart;
}

-- what comes of the next one
pub found-next : OrderKeepsMeaning → OrderedIsDetermined → DeterminedHasOneFootprint → (a o : Assertion)
    (before : List Assertion) (vars : Var → Value) (heap : Cells) (old new : Found) (r : Result Bool AllocError)
    → IsOrderOf a o → AreFound before vars heap old → FindsNext o.level vars heap old new r
    → AlsoFound before a vars heap old new r
found-next keeps determined one a o before vars heap old new (Ok true) ord found next =
    found-more keeps a o before vars heap old new next.1 ord found next.0 next.2 next.3
found-next keeps determined one a o before vars heap old new (Ok false) ord found next =
    found-none keeps determined one a o vars (heap_of heap) (concat old.parts.items) ord next.1
found-next keeps determined one a o before vars heap old new (Err e) ord found next = tt

-- of the assertions of a start the next one is unmet
pub found-unmet : (p : Program) (g : Procedure) (is_fresh : Bool) (vars : Var → Value) (heap : Cells) (found : Found)
    (k : ℕ) (a : Assertion) → AreFound (take k (assertions_of p g is_fresh)) vars heap found
    → slice_get (assertions_of p g is_fresh) k ≡ Some a
    → HasNoFootprint a.level vars (without (concat found.parts.items) (heap_of heap))
    → IsUnmet vars (heap_of heap) (assertions_of p g is_fresh) k
found-unmet p g is_fresh vars heap found k a are there none = record {
  parts = found.parts.items;
  earlier = turns-from_parts vars (heap_of heap) (take k (assertions_of p g is_fresh)) found.parts.items are.footprints
      are.apart.distinct;
  assertion = a;
  there = there;
  none = none;
}

-- what is unmet alone is the first that is unmet of more
pub unmet-more : (vars : Var → Value) (heap : Heap) (a : Assertion) (more : List Assertion) (k : ℕ)
    → IsUnmet vars heap (a ∷ []) k → IsUnmet vars heap (a ∷ more) k
unmet-more vars heap a more zero u = record {
  parts = u.parts;
  earlier = u.earlier;
  assertion = u.assertion;
  there = u.there;
  none = u.none;
}
unmet-more vars heap a more (suc k) u = absurd (none-some u.assertion u.there)

-- what holds where something is there follows for it alone
pub some-then : {X : Type 0} (P R : X → Type 0) (o : Option X) → IfSome o P → ((x : X) → o ≡ Some x → P x → R x)
    → IfSome o R
some-then P R None h f = tt
some-then P R (Some x) h f = f x refl h

-- something is at a place within a list
pub there-at : {X : Type 0} (xs : List X) (k : ℕ) → k < length xs → (x : X) × (slice_get xs k ≡ Some x)
there-at [] k h = absurd (omega (arith, h))
there-at (x ∷ xs) zero h = (x, refl)
there-at (x ∷ xs) (suc k) h = there-at xs k (omega (arith, h))

-- nothing is found yet
pub found-nothing : (vars : Var → Value) (heap : Cells) (found : Found) → found.parts.items ≡ [] → AreApart heap found
    → AreFound [] vars heap found
found-nothing vars heap found e apart = record {
  footprints = subst (λ ps. AllZip (λ (a : Assertion) ls. IsFootprint a.level vars (heap_of heap) ls) [] ps) (sym e) tt;
  apart = apart;
}

-- the invariant of the resource of a number is the assertion after that number
invariant-there : (p : Program) (g : Procedure) (r : ℕ) (h : Resource) → slice_get p.resources r ≡ Some h
    → slice_get (assertions_of p g false) (suc r) ≡ Some h.invariant
invariant-there p g r h e = slice_get-map (λ (x : Resource). x.invariant) p.resources r
    ∙ ap (option_map (λ (x : Resource). x.invariant)) e

-- one more is taken
take-next : {X : Type 0} (xs : List X) (k : ℕ) (x : X) → slice_get xs k ≡ Some x
    → take (k + 1) xs ≡ take k xs ++ x ∷ []
take-next xs k x e = take_more xs k x (slice_get_within xs k x e)
    ∙ ap (λ y. take k xs ++ y ∷ []) (get_or_from_slice_get xs k x x e)

add-one : (r : ℕ) → r + 1 ≡ suc r
add-one r = omega arith

-- the invariant of the next resource is unmet
pub next-unmet : (p : Program) (g : Procedure) (vars : Var → Value) (heap : Cells) (found : Found) (r : ℕ) (h : Resource)
    → AreFound (take (r + 1) (assertions_of p g false)) vars heap found → slice_get p.resources r ≡ Some h
    → HasNoFootprint h.invariant.level vars (without (concat found.parts.items) (heap_of heap))
    → IsUnmet vars (heap_of heap) (assertions_of p g false) (suc r)
next-unmet p g vars heap found r h are e none =
    found-unmet p g false vars heap found (suc r) h.invariant
    (subst (λ k. AreFound (take k (assertions_of p g false)) vars heap found) (add-one r) are) (invariant-there p g r h e) none

-- or it is found
pub next-found : (p : Program) (g : Procedure) (vars : Var → Value) (heap : Cells) (new : Found) (r : ℕ) (h : Resource)
    → AreFound (take (r + 1) (assertions_of p g false) ++ h.invariant ∷ []) vars heap new → slice_get p.resources r ≡ Some h
    → AreFound (take (r + 1 + 1) (assertions_of p g false)) vars heap new
next-found p g vars heap new r h are e =
    subst (λ xs. AreFound xs vars heap new)
    (sym (take-next (assertions_of p g false) (r + 1) h.invariant
    (ap (slice_get (assertions_of p g false)) (add-one r) ∙ invariant-there p g r h e))) are

-- at the end all are
pub found-all : (p : Program) (g : Procedure) (vars : Var → Value) (heap : Cells) (found : Found) (r : ℕ)
    → length p.resources ≤ r → AreFound (take (r + 1) (assertions_of p g false)) vars heap found
    → AreFound (assertions_of p g false) vars heap found
found-all p g vars heap found r h are = subst (λ xs. AreFound xs vars heap found)
    (take_all (r + 1) (assertions_of p g false) (omega (arith, h, length-map p.resources (λ (x : Resource). x.invariant)))) are
