-- Where the annotations of a procedure are among all annotations of a program.
-- Names: `PART-at` says where a PART is, `order-LAW` speaks of the orders beside the annotations.
use Rattle.std.proofs.Common.{◌≡◌, ◌∙◌, ◌+◌, ◌-◌, ◌<◌, ◌≤◌, ℕ, zero, suc, List, [], ◌∷◌, ◌++◌, length, length-append, map, slice_get, get_or, Option, Some, None, IfSome, refl, sym, ap, subst, append_assoc, arith}
use Rattle.std.specs.List.{flat_map}
use Rattle.std.specs.Option.{option_map}
use Rattle.std.proofs.lemmas.List.{length-map}
use Rattle.std.proofs.lemmas.Option.{none-some, same_Some, slice_get-map, slice_get_read, slice_get_within}
use Rattle.std.proofs.lemmas.Slice.Zip.{AllZip-long}
use Rattle.sf_base.proofs.Lookup.{get-middle}
use Rattle.sf_base.proofs.Zips.{zip-at}
use Rattle.sf_core.specs.Program.Syntax.{Assertion, Procedure, Program, Resource}
use Rattle.sf_precise.specs.Annotations.{AreOrdersOf, annotations_in, loops_in, notes_of}
use Rattle.sf_precise.specs.Checked.Starts.{starts_from}
use Rattle.sf_precise.specs.Order.{IsOrderOf}

-- what is after the first of two lists, and what is in it
get-after : {A : Type 0} (xs ys : List A) (i : ℕ) → slice_get (xs ++ ys) (length xs + i) ≡ slice_get ys i
get-after [] ys i = ap (slice_get ys) (let e : 0 + i ≡ i = omega arith in e)
get-after (x ∷ xs) ys i =
    ap (slice_get (x ∷ (xs ++ ys))) (let e : suc (length xs) + i ≡ suc (length xs + i) = omega arith in e)
    ∙ get-after xs ys i

get-before : {A : Type 0} (xs ys : List A) (i : ℕ) (x : A) → slice_get xs i ≡ Some x
    → slice_get (xs ++ ys) i ≡ Some x
get-before [] ys i x e = absurd (none-some x e)
get-before (y ∷ xs) ys zero x e = e
get-before (y ∷ xs) ys (suc i) x e = get-before xs ys i x e

-- a pre is where its procedure's annotations start
start-at : (A : List Assertion) (k : ℕ) (hs : List Procedure) (f : ℕ) (h : Procedure) → length A ≡ k
    → slice_get hs f ≡ Some h
    → slice_get (A ++ flat_map notes_of hs) (get_or (starts_from k hs) f 0) ≡ Some h.pre
start-at A k [] f h size e = absurd (none-some h e)
start-at A k (g ∷ gs) zero h size e =
    subst (λ (n : ℕ). slice_get (A ++ flat_map notes_of (g ∷ gs)) n ≡ Some h.pre)
    (let same : length A + 0 ≡ k = omega (arith, size) in same)
    (get-after A (flat_map notes_of (g ∷ gs)) 0 ∙ ap (λ (t : Procedure). Some t.pre) (same_Some g h e))
start-at A k (g ∷ gs) (suc f) h size e =
    subst
    (λ (z : List Assertion). slice_get z (get_or (starts_from (k + length (notes_of g)) gs) f 0) ≡ Some h.pre)
    (append_assoc A (notes_of g) (flat_map notes_of gs))
    (start-at (A ++ notes_of g) (k + length (notes_of g)) gs f h
    (length-append A (notes_of g) ∙ ap (λ (n : ℕ). n + length (notes_of g)) size) e)

-- a post is the last before the next ones start
end-at : (A : List Assertion) (k : ℕ) (hs : List Procedure) (f : ℕ) (h : Procedure) → length A ≡ k
    → slice_get hs f ≡ Some h
    → slice_get (A ++ flat_map notes_of hs) (get_or (starts_from k hs) (suc f) 0 - 1) ≡ Some h.post
end-at A k [] f h size e = absurd (none-some h e)
end-at A k (g ∷ gs) zero h size e =
    subst (λ (n : ℕ). slice_get (A ++ flat_map notes_of (g ∷ gs)) n ≡ Some h.post) last
    (get-after A (flat_map notes_of (g ∷ gs)) (suc (length (loops_in g.body)))
    ∙ get-middle (loops_in g.body) (flat_map notes_of gs) g.post
    ∙ ap (λ (t : Procedure). Some t.post) (same_Some g h e))
  where
    last : length A + suc (length (loops_in g.body)) ≡ k + length (notes_of g) - 1
    last = omega (arith, size, length-append (loops_in g.body) (g.post ∷ []))
end-at A k (g ∷ gs) (suc f) h size e =
    subst
    (λ (z : List Assertion). slice_get z (get_or (starts_from (k + length (notes_of g)) gs) (suc f) 0 - 1)
    ≡ Some h.post)
    (append_assoc A (notes_of g) (flat_map notes_of gs))
    (end-at (A ++ notes_of g) (k + length (notes_of g)) gs f h
    (length-append A (notes_of g) ∙ ap (λ (n : ℕ). n + length (notes_of g)) size) e)

-- there are as many starts as procedures, and the end
pub length-starts : (k : ℕ) (hs : List Procedure) → length (starts_from k hs) ≡ suc (length hs)
length-starts k [] = refl
length-starts k (h ∷ hs) = ap suc (length-starts (k + length (notes_of h)) hs)

-- the invariants of a program's resources
abbrev invariants : Program → List Assertion
invariants p = map (λ r. r.invariant) p.resources

-- where a procedure's pre and post are, and a resource's invariant
pub pre-at : (p : Program) (k : ℕ) (starts : List ℕ) (f v : ℕ) → length p.resources ≡ k
    → starts ≡ starts_from k p.procedures → v ≡ get_or starts f 0 → (h : Procedure)
    → slice_get p.procedures f ≡ Some h → slice_get (annotations_in p) v ≡ Some h.pre
pre-at p k starts f v size e read h at =
    subst (λ (n : ℕ). slice_get (annotations_in p) n ≡ Some h.pre)
    (sym (read ∙ ap (λ (xs : List ℕ). get_or xs f 0) e))
    (start-at (invariants p) k p.procedures f h (length-map p.resources (λ r. r.invariant) ∙ size) at)

pub post-at : (p : Program) (k : ℕ) (starts : List ℕ) (f v : ℕ) → length p.resources ≡ k
    → starts ≡ starts_from k p.procedures → v ≡ get_or starts (suc f) 0 → (h : Procedure)
    → slice_get p.procedures f ≡ Some h → slice_get (annotations_in p) (v - 1) ≡ Some h.post
post-at p k starts f v size e read h at =
    subst (λ (n : ℕ). slice_get (annotations_in p) (n - 1) ≡ Some h.post)
    (sym (read ∙ ap (λ (xs : List ℕ). get_or xs (suc f) 0) e))
    (end-at (invariants p) k p.procedures f h (length-map p.resources (λ r. r.invariant) ∙ size) at)

pub invariant-at : (p : Program) (r : ℕ) (h : Resource) → slice_get p.resources r ≡ Some h
    → slice_get (annotations_in p) r ≡ Some h.invariant
invariant-at p r h e =
    get-before (invariants p) (flat_map notes_of p.procedures) r h.invariant
    (slice_get-map (λ t. t.invariant) p.resources r ∙ ap (option_map (λ t. t.invariant)) e)

-- after the last annotation of a procedure nothing starts at 0
pub end-positive : (k : ℕ) (starts : List ℕ) (hs : List Procedure) (f v : ℕ) → starts ≡ starts_from k hs
    → v ≡ get_or starts (suc f) 0 → f < length hs → 1 ≤ v
end-positive k starts hs f v e read below =
    let at : 1 ≤ get_or (starts_from k hs) (suc f) 0 = positive k hs f below in
    omega (arith, at, read, ap (λ (xs : List ℕ). get_or xs (suc f) 0) e)
  where
    positive : (k : ℕ) (hs : List Procedure) (f : ℕ) → f < length hs → 1 ≤ get_or (starts_from k hs) (suc f) 0
    positive k [] f below = absurd (omega (arith, below))
    positive k (h ∷ hs) zero below = let some : 1 ≤ length (notes_of h) = omega arith in omega (arith, some)
    positive k (h ∷ hs) (suc f) below = positive (k + length (notes_of h)) hs f (omega (arith, below))

some-at : {A : Type 0} (xs : List A) (i : ℕ) → i < length xs → (x : A) × (slice_get xs i ≡ Some x)
some-at [] i below = absurd (omega (arith, below))
some-at (x ∷ xs) zero below = (x, refl)
some-at (x ∷ xs) (suc i) below = some-at xs i (omega (arith, below))

pub if-some : {A : Type 0} (P : A → Type 0) (o : Option A) → ((x : A) → o ≡ Some x → P x) → IfSome o P
if-some P None h = tt
if-some P (Some x) h = h x refl

-- an annotation that is at a place has its order there
module _ {A O : Type 0} (g : O → Assertion) (notes : List Assertion) (orders : List O) (xs : List A) (i v : ℕ)
    (note : A → Assertion) (z : AreOrdersOf notes (map g orders))
    (at : (x : A) → slice_get xs i ≡ Some x → slice_get notes v ≡ Some (note x)) where
  within : (a : Assertion) → slice_get notes v ≡ Some a → v < length orders
  within a e =
      let below : v < length notes = slice_get_within notes v a e in
      omega (arith, below, AllZip-long IsOrderOf notes (map g orders) z, length-map orders g)

  pub order-within : i < length xs → v < length orders
  order-within below = let x = some-at xs i below in within (note x.0) (at x.0 x.1)

  pub order-there : (o : O) → o ≡ get_or orders v o → IfSome (slice_get xs i) (λ x. IsOrderOf (note x) (g o))
  order-there o is =
      if-some (λ x. IsOrderOf (note x) (g o)) (slice_get xs i)
      (λ x e. zip-at IsOrderOf notes (map g orders) v (note x) (g o) z (at x e)
      (slice_get-map g orders v
      ∙ ap (option_map g) (slice_get_read orders (length orders) v o refl (within (note x) (at x e)) is)))
