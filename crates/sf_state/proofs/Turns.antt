-- Footprints one after the other: how they follow from disjoint ones in the whole heap, that there is one way at
-- most to have them, and that a start's assertions hold of them.
-- Names: `turns-LAW` for footprints in turn; `distinct-LAW` for lists without repeats.
use Rattle.std.proofs.Common.{◌≡◌, ◌⊎◌, ◌<◌, ◌≤◌, ℕ, zero, suc, Bool, true, false, nat_eq, List, [], ◌∷◌, ◌++◌, Some, Contains, take, refl, sym, ap, ◌∙◌, subst, inl, inr, arith}
use Rattle.std.specs.List.{AllByRecursion, AllZip, IsDistinct, concat, slice_get}
use Rattle.std.specs.Set.{is_member}
use Rattle.std.proofs.lemmas.Bool.{cases_lt, false≢true}
use Rattle.std.proofs.lemmas.Bool.Decides.{Decides-eqb}
use Rattle.std.proofs.lemmas.List.{take-take}
use Rattle.std.proofs.lemmas.List.Elements.{Contains-append_left, Contains-append_right}
use Rattle.std.proofs.lemmas.Option.{none-some, same_Some}
use Rattle.sf_base.proofs.Elements.{contains-cons, contains-nil, contains-rest}
use Rattle.sf_base.specs.declared.ids.Var.{Var}
use Rattle.sf_base.specs.declared.value.Value.{Value}
use Rattle.sf_base.specs.declared.value.Value.TheVariants.{Nil as nil}
use Rattle.sf_base.specs.HeapStore.{Heap, IsEmpty}
use Rattle.sf_core.specs.Checked.Assertions.Precise.{IsPrecise}
use Rattle.sf_core.specs.Assertions.Sat.{Sat, value}
use Rattle.sf_core.specs.Program.Syntax.{Assertion}
use Rattle.sf_foot.specs.Footprint.{IsFootprint}
use Rattle.sf_state.specs.Starts.{HaveFootprints, IsLeftOver, IsUnmet, without}
use Rattle.sf_state.proofs.Without.{foot-left, foot-same, member-decides, without-append}

-- of each heap at most one part satisfies each of these
abbrev pub ArePrecise : (Var → Value) → List Assertion → Type 0
ArePrecise vars notes = (a : Assertion) → Contains notes a → IsPrecise (Sat a.level (value vars) (λ n. nil))

-- the same of all but the first
precise-rest : (vars : Var → Value) (a : Assertion) (notes : List Assertion) → ArePrecise vars (a ∷ notes)
    → ArePrecise vars notes
precise-rest vars a notes h b c = h b (contains-rest a notes b c)

-- in turn, they leave one heap
pub turns-same : (vars : Var → Value) (heap : Heap) (notes : List Assertion) (ps qs : List (List ℕ))
    → ArePrecise vars notes → HaveFootprints vars heap notes ps → HaveFootprints vars heap notes qs
    → without (concat ps) heap ≡ without (concat qs) heap
turns-same vars heap [] ps qs h f g = ap (λ xs. without (concat xs) heap) (f ∙ sym g)
turns-same vars heap (a ∷ notes) [] qs h f g = absurd f
turns-same vars heap (a ∷ notes) (ls ∷ ps) [] h f g = absurd g
turns-same vars heap (a ∷ notes) (ls ∷ ps) (ms ∷ qs) h f g =
    let same = foot-same a.level vars heap ls ms (h a ((contains-cons a notes a).1 (inl refl))) f.0 g.0 in
    without-append ls (concat ps) heap
    ∙ turns-same vars (without ls heap) notes ps qs (precise-rest vars a notes h) f.1
    (subst (λ (rest : Heap). HaveFootprints vars rest notes qs) (sym same) g.1)
    ∙ ap (without (concat qs)) same ∙ sym (without-append ms (concat qs) heap)

-- of assertions that have footprints in turn each has one in what those before it leave
pub turns-at : (vars : Var → Value) (heap : Heap) (notes : List Assertion) (ps : List (List ℕ)) (k : ℕ) (a : Assertion)
    → HaveFootprints vars heap notes ps → slice_get notes k ≡ Some a
    → (qs : List (List ℕ)) × HaveFootprints vars heap (take k notes) qs
    × ((ls : List ℕ) × IsFootprint a.level vars (without (concat qs) heap) ls)
turns-at vars heap [] ps k a f e = absurd (none-some a e)
turns-at vars heap (b ∷ notes) [] k a f e = absurd f
turns-at vars heap (b ∷ notes) (ls ∷ ps) zero a f e =
    ([], refl, (ls, subst (λ (c : Assertion). IsFootprint c.level vars heap ls) (same_Some b a e) f.0))
turns-at vars heap (b ∷ notes) (ls ∷ ps) (suc k) a f e =
    let r = turns-at vars (without ls heap) notes ps k a f.1 e in (
      ls ∷ r.0,
      (f.0, r.1),
      (
        r.2.0,
        subst (λ (rest : Heap). IsFootprint a.level vars rest r.2.0)
            (sym (without-append ls (concat r.0) heap)) r.2.1,
      ),
    )

-- one of the first ones is one of all
contains-take : {X : Type 0} (k : ℕ) (xs : List X) (x : X) → Contains (take k xs) x → Contains xs x
contains-take zero xs x c = absurd (contains-nil x c)
contains-take (suc k) [] x c = c
contains-take (suc k) (y ∷ xs) x c = elim ((contains-cons y (take k xs) x).0 c) [
  | inl e ↦ (contains-cons y xs x).1 (inl e)
  | inr d ↦ contains-rest y xs x (contains-take k xs x d)
]

precise-take : (vars : Var → Value) (k : ℕ) (notes : List Assertion) → ArePrecise vars notes → ArePrecise vars (take k notes)
precise-take vars k notes h a c = h a (contains-take k notes a c)

-- one of the first ones has its place there
get-take : {X : Type 0} (n m : ℕ) (xs : List X) → n < m → slice_get (take m xs) n ≡ slice_get xs n
get-take n zero xs h = absurd (omega (arith, h))
get-take n (suc m) [] h = refl
get-take zero (suc m) (x ∷ xs) h = refl
get-take (suc n) (suc m) (x ∷ xs) h = get-take n m xs (omega (arith, h))

-- where all of these have footprints in turn, none is unmet in what the same ones before it leave
unmet-met : (vars : Var → Value) (heap : Heap) (notes bs : List Assertion) (n : ℕ) (ps : List (List ℕ))
    → ArePrecise vars notes → (u : IsUnmet vars heap notes n) → HaveFootprints vars heap bs ps
    → slice_get bs n ≡ Some u.assertion → take n bs ≡ take n notes → ⊥
unmet-met vars heap notes bs n ps h u f there same =
    let at = turns-at vars heap bs ps n u.assertion f there in
    let left = turns-same vars heap (take n notes) at.0 u.parts (precise-take vars n notes h)
    (subst (λ (xs : List Assertion). HaveFootprints vars heap xs at.0) same at.1) u.earlier in
    let foot = subst (λ (rest : Heap). IsFootprint u.assertion.level vars rest at.2.0) left at.2.1 in
    u.none foot.part foot.foot

pub unmet-not_all : (vars : Var → Value) (heap : Heap) (notes : List Assertion) (n : ℕ) (ps : List (List ℕ))
    → ArePrecise vars notes → IsUnmet vars heap notes n → HaveFootprints vars heap notes ps → ⊥
unmet-not_all vars heap notes n ps h u f = unmet-met vars heap notes notes n ps h u f u.there refl

-- the first that is unmet is one
pub unmet-once : (vars : Var → Value) (heap : Heap) (notes : List Assertion) (n m : ℕ) → ArePrecise vars notes
    → IsUnmet vars heap notes n → IsUnmet vars heap notes m → n ≡ m
unmet-once vars heap notes n m h u v = go (cases_lt n m)
  where
    earlier : (n m : ℕ) → IsUnmet vars heap notes n → IsUnmet vars heap notes m → n < m → ⊥
    earlier n m u v less = unmet-met vars heap notes (take m notes) n v.parts h u v.earlier
        (get-take n m notes less ∙ u.there) (take-take n m notes (omega (arith, less)))

    go : ((n < m) ⊎ (m ≤ n)) → n ≡ m
    go (inl less) = absurd (earlier n m u v less)
    go (inr most) = and (cases_lt m n)
      where
        and : ((m < n) ⊎ (n ≤ m)) → n ≡ m
        and (inl less) = absurd (earlier m n v u less)
        and (inr least) = omega (arith, most, least)

-- the least cell that is left over is one
pub left_over-once : (vars : Var → Value) (heap : Heap) (notes : List Assertion) (l k : ℕ) → ArePrecise vars notes
    → IsLeftOver vars heap notes l → IsLeftOver vars heap notes k → l ≡ k
left_over-once vars heap notes l k h u v =
    let same = turns-same vars heap notes u.parts v.parts h u.all v.all in
    let one = u.least k (λ n. v.there (ap (λ (rest : Heap). rest k) (sym same) ∙ n)) in
    let two = v.least l (λ n. u.there (ap (λ (rest : Heap). rest l) same ∙ n)) in
    omega (arith, one, two)

-- and none is where footprints leave nothing
pub left_over-empty : (vars : Var → Value) (heap : Heap) (notes : List Assertion) (l : ℕ) (ps : List (List ℕ))
    → ArePrecise vars notes → IsLeftOver vars heap notes l → HaveFootprints vars heap notes ps
    → IsEmpty (without (concat ps) heap) → ⊥
left_over-empty vars heap notes l ps h u f e =
    u.there (ap (λ (rest : Heap). rest l) (turns-same vars heap notes u.parts ps h u.all f) ∙ e.none l)

-- of a list without repeats the second part has none, and no number of the first
distinct-right : (xs ys : List ℕ) → IsDistinct nat_eq (xs ++ ys) → IsDistinct nat_eq ys
unfolding IsDistinct
distinct-right [] ys d = d
distinct-right (x ∷ xs) ys d = distinct-right xs ys d.1

all-member : (P : ℕ → Type 0) (xs : List ℕ) (l : ℕ) → AllByRecursion P xs → Contains xs l → P l
all-member P [] l a c = absurd (contains-nil l c)
all-member P (x ∷ xs) l a c = elim ((contains-cons x xs l).0 c) [
  | inl e ↦ subst P e a.0
  | inr d ↦ all-member P xs l a.1 d
]

distinct-apart : (xs ys : List ℕ) (l : ℕ) → IsDistinct nat_eq (xs ++ ys) → Contains xs l → Contains ys l → ⊥
unfolding IsDistinct
distinct-apart [] ys l d c k = contains-nil l c
distinct-apart (x ∷ xs) ys l d c k = elim ((contains-cons x xs l).0 c) [
  | inl e ↦ false≢true (sym (all-member (λ y. nat_eq x y ≡ false) (xs ++ ys) l d.0 (Contains-append_right xs ys l k))
      ∙ (Decides-eqb x l).1 e)
  | inr i ↦ distinct-apart xs ys l d.1 i k
]

-- disjoint footprints in the whole heap are footprints in turn
pub turns-from_parts : (vars : Var → Value) (heap : Heap) (notes : List Assertion) (ps : List (List ℕ))
    → AllZip (λ a ls. IsFootprint a.level vars heap ls) notes ps → IsDistinct nat_eq (concat ps)
    → HaveFootprints vars heap notes ps
turns-from_parts vars heap [] [] z d = refl
turns-from_parts vars heap [] (ls ∷ ps) z d = absurd z
turns-from_parts vars heap (a ∷ notes) [] z d = absurd z
turns-from_parts vars heap (a ∷ notes) (ls ∷ ps) z d = (
  z.0,
  turns-from_parts vars (without ls heap) notes ps
      (later notes ps z.1 (λ l here there. distinct-apart ls (concat ps) l d here there))
      (distinct-right ls (concat ps) d),
)
  where
    absent : (l : ℕ) → (Contains ls l → ⊥) → is_member nat_eq ls l ≡ false
    absent l out = step (is_member nat_eq ls l) refl
      where
        step : (b : Bool) → is_member nat_eq ls l ≡ b → is_member nat_eq ls l ≡ false
        step true e = absurd (out ((member-decides ls l).0 e))
        step false e = e

    later : (bs : List Assertion) (qs : List (List ℕ)) → AllZip (λ a ls. IsFootprint a.level vars heap ls) bs qs
        → ((l : ℕ) → Contains ls l → Contains (concat qs) l → ⊥)
        → AllZip (λ b ms. IsFootprint b.level vars (without ls heap) ms) bs qs
    later [] [] z out = tt
    later [] (ms ∷ qs) z out = absurd z
    later (b ∷ bs) [] z out = absurd z
    later (b ∷ bs) (ms ∷ qs) z out = (
      foot-left b.level vars heap ls ms z.0
          (λ l c. absent l (λ here. out l here (Contains-append_left ms (concat qs) l c))),
      later bs qs z.1 (λ l here there. out l here (Contains-append_right ms (concat qs) l there)),
    )
