-- The terms of a cell's fields: where a term is put.
-- Names: `insert-LAW` speaks of what the code does, `put-LAW` of `put_term`.
use Rattle.std.proofs.Common.{◌≡◌, ℕ, suc, ◌==◌, Bool, true, false, cond, nat_lt, List, [], ◌∷◌, length, slice_get, slice_set, refl, sym, ap, ◌∙◌, arith}
use Rattle.std.specs.List.{insert, refill}
use Rattle.std.proofs.lemmas.Bool.Decides.{nat_tests}
use Rattle.std.proofs.lemmas.List.{length-set}
use Rattle.sf_base.specs.declared.ids.FieldId.{FieldId}
use Rattle.sf_sym.specs.declared.term.Term.{Term}
use Rattle.sf_sym.specs.Checked.Insertion.{insert_term}
use Rattle.sf_sym.specs.Checked.Lemmas.Updates.{fields, fields-ordered, inserted, inserted-is}
use Rattle.sf_sym.specs.Fields.{AreOrdered, put_term}
use Rattle.sf_sym.specs.Checked.Places.{is_field, place_of}

-- a list that was lent whole comes back whole
pub refill-whole : {X : Type 0} (xs ws : List X) → length ws ≡ length xs → refill (length xs) xs ws ≡ ws
refill-whole [] [] e = refl
refill-whole [] (w ∷ ws) e = absurd (omega (arith, e))
refill-whole (x ∷ xs) [] e = absurd (omega (arith, e))
refill-whole (x ∷ xs) (w ∷ ws) e = let rest : length ws ≡ length xs = omega (arith, e) in
    ap (λ ys. w ∷ ys) (refill-whole xs ws rest)

module _ (f : FieldId) (u : Term) where
  insert-later : (g : FieldId × Term) (gs : List (FieldId × Term)) → nat_lt g.0.0 f.0 ≡ true
      → insert_term f u (g ∷ gs) ≡ g ∷ insert_term f u gs
  insert-later g gs l =
      let other : g.0.0 == f.0 ≡ false = grind (arith, nat_tests) in
      let before : nat_lt f.0 g.0.0 ≡ false = grind (arith, nat_tests) in
      rw other (rw before refl)

  insert-before : (g : FieldId × Term) (gs : List (FieldId × Term)) → nat_lt g.0.0 f.0 ≡ false
      → g.0.0 == f.0 ≡ false → insert_term f u (g ∷ gs) ≡ (f, u) ∷ g ∷ gs
  insert-before g gs l e =
      let before : nat_lt f.0 g.0.0 ≡ true = grind (arith, nat_tests) in
      rw e (rw before refl)

  -- what is done at a field's place is an insertion, where it goes by the fields that come before, and is one at
  -- the first that doesn't: `b` says whether the field is there
  inserted-at : (b : Bool) (put : List (FieldId × Term) → ℕ → List (FieldId × Term))
      → ((g : FieldId × Term) (gs : List (FieldId × Term)) (n : ℕ) → put (g ∷ gs) (suc n) ≡ g ∷ put gs n)
      → (false ≡ b → put [] 0 ≡ (f, u) ∷ [])
      → ((g : FieldId × Term) (gs : List (FieldId × Term)) → nat_lt g.0.0 f.0 ≡ false → g.0.0 == f.0 ≡ b
      → put (g ∷ gs) 0 ≡ insert_term f u (g ∷ gs))
      → (fs : List (FieldId × Term)) → is_field f (slice_get fs (place_of f fs)) ≡ b
      → put fs (place_of f fs) ≡ insert_term f u fs
  inserted-at b put past none here [] e = none e
  inserted-at b put past none here (g ∷ gs) e = go (nat_lt g.0.0 f.0) refl (inserted-at b put past none here gs) e
    where
      go : (c : Bool) → nat_lt g.0.0 f.0 ≡ c
          → (is_field f (slice_get gs (place_of f gs)) ≡ b → put gs (place_of f gs) ≡ insert_term f u gs)
          → is_field f (slice_get (g ∷ gs) (cond c (suc (place_of f gs)) 0)) ≡ b
          → put (g ∷ gs) (cond c (suc (place_of f gs)) 0) ≡ insert_term f u (g ∷ gs)
      go true l rest e = past g gs (place_of f gs) ∙ ap (λ ys. g ∷ ys) (rest e) ∙ sym (insert-later g gs l)
      go false l rest e = here g gs l e

  -- a field that is there gets its term at its place
  pub insert-there : (fs : List (FieldId × Term)) → is_field f (slice_get fs (place_of f fs)) ≡ true
      → slice_set fs (place_of f fs) (f, u) ≡ insert_term f u fs
  insert-there =
      inserted-at true (λ fs n. slice_set fs n (f, u)) (λ g gs n. refl) (λ e. absurd (cc)) (λ g gs l e. rw e refl)

  -- one that isn't is put in at its place
  pub insert-new : (fs : List (FieldId × Term)) → is_field f (slice_get fs (place_of f fs)) ≡ false
      → insert fs (place_of f fs) (f, u) ≡ insert_term f u fs
  insert-new =
      inserted-at false (λ fs n. insert fs n (f, u)) (λ g gs n. refl) (λ e. refl)
      (λ g gs l e. sym (insert-before g gs l e))

insert-put : (f : FieldId) (u : Term) (fs : List (FieldId × Term))
    → insert_term f u fs ≡ inserted fields f u fs
insert-put f u [] = refl
insert-put f u (g ∷ gs) =
    ap (λ r. cond (g.0.0 == f.0) ((f, u) ∷ gs)
    (cond (nat_lt f.0 g.0.0) ((f, u) ∷ g ∷ gs) (g ∷ r)))
    (insert-put f u gs)

-- in fields in declared order a term is put by what the code does
insert-is : (f : FieldId) (u : Term) (fs : List (FieldId × Term)) → AreOrdered fs
    → insert_term f u fs ≡ put_term f u fs
insert-is f u fs o = insert-put f u fs ∙ inserted-is fields f u fs (fields-ordered fs o)

-- the same where the fields were lent to be written
pub put-lent : (f : FieldId) (u : Term) (fs ws : List (FieldId × Term)) (at : ℕ) → AreOrdered fs
    → true ≡ is_field f (slice_get fs at) → at ≡ place_of f fs → ws ≡ fs
    → refill (length fs) fs (slice_set ws at (f, u)) ≡ put_term f u fs
put-lent f u fs ws at o e i w =
    let there : is_field f (slice_get fs (place_of f fs)) ≡ true = cc in
    let set : slice_set ws at (f, u) ≡ slice_set fs (place_of f fs) (f, u) = cc in
    ap (refill (length fs) fs) set
    ∙ refill-whole fs (slice_set fs (place_of f fs) (f, u)) (length-set fs (place_of f fs) (f, u))
    ∙ insert-there f u fs there
    ∙ insert-is f u fs o

-- and where one was put in
pub put-in : (f : FieldId) (u : Term) (fs ws : List (FieldId × Term)) (at : ℕ) → AreOrdered fs
    → false ≡ is_field f (slice_get fs at) → at ≡ place_of f fs → ws ≡ insert fs at (f, u)
    → ws ≡ put_term f u fs
put-in f u fs ws at o e i w =
    let new : is_field f (slice_get fs (place_of f fs)) ≡ false = cc in
    let same : ws ≡ insert fs (place_of f fs) (f, u) = cc in
    same ∙ insert-new f u fs new ∙ insert-is f u fs o
