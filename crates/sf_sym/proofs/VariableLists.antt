-- Lists of variables with their terms: what the code does that sets and removes in them.
-- Names: `insert-LAW` speaks of a list in which one is set, `removed-LAW` of one from which one is
-- removed, `insert_vars-LAW` and `delete-LAW` of both as updates.
use Rattle.std.proofs.Common.{◌≡◌, ℕ, zero, suc, ◌+◌, Bool, true, false, cond, IsTrue, Some, None, List, [], ◌∷◌, slice_get, slice_set, map, refl, sym, ap, ◌∙◌, subst, arith}
use Rattle.std.specs.List.{insert, remove, position, position_from}
use Rattle.std.proofs.lemmas.Iterator.Adapters.{position_from-zero}
use Rattle.sf_base.specs.declared.ids.Var.{Var}
use Rattle.sf_base.specs.Variables.{same_var}
use Rattle.sf_sym.specs.declared.term.Term.{Term}
use Rattle.sf_sym.specs.Checked.VariablePlaces.{is_var, place_of}
use Rattle.sf_sym.specs.Checked.Insertion.{delete_var, insert_var, insert_vars}
use Rattle.sf_sym.specs.Checked.Lemmas.Updates.{by-false, by-true, deleted, deleted-is, inserted, inserted-is, is-false, set-order, variables, variables-ordered}
use Rattle.sf_sym.proofs.InPlace.{all-image}
use Rattle.sf_sym.specs.State.{term_at}
use Rattle.sf_sym.specs.Variables.{AreInOrder, IsBeforeAll, comes_before, remove_var, set_var, set_vars}

-- variables stay in order where they have other terms
pub map-order : (to : Term → Term) (vs : List (Var × Term)) → AreInOrder vs
    → AreInOrder (map (λ v. (v.0, to v.1)) vs)
map-order to [] o = tt
map-order to (v ∷ vs) o =
    (all-image (λ w. IsTrue (comes_before v.0 w.0)) (λ (w : Var × Term). (w.0, to w.1)) vs o.0, map-order to vs o.1)

before_all-at : (x : Var) (i : ℕ) (v : Var × Term) (vs : List (Var × Term)) → IsBeforeAll x vs
    → slice_get vs i ≡ Some v → comes_before x v.0 ≡ true
before_all-at x i v [] b e = absurd (cc)
before_all-at x zero v (w ∷ vs) b e = let same : w ≡ v = cc in subst (λ y. comes_before x y.0 ≡ true) same b.0
before_all-at x (suc i) v (w ∷ vs) b e = before_all-at x i v vs b.1 e

-- a variable that is at an index has the term there
pub term_there : (x : Var) (i : ℕ) (v : Var × Term) (vs : List (Var × Term)) → AreInOrder vs
    → slice_get vs i ≡ Some v → same_var v.0 x ≡ true → term_at vs x ≡ v.1
term_there x i v [] o e s = absurd (cc)
term_there x zero v (w ∷ vs) o e s =
    let same : w ≡ v = cc in
    subst (λ y. term_at (y ∷ vs) x ≡ v.1) (sym same) (by-true (same_var v.0 x) v.1 (term_at vs x) s)
term_there x (suc i) v (w ∷ vs) o e s =
    by-false (same_var w.0 x) w.1 (term_at vs x)
    (is-false (same_var w.0 x) (λ t.
    let one : w.0 ≡ v.0 = variables.is w.0 x t ∙ sym (variables.is v.0 x s) in
    let other : same_var v.0 w.0 ≡ false = variables.apart w.0 v.0 (before_all-at w.0 i v vs o.0 e) in
    let self : same_var v.0 w.0 ≡ true = ap (same_var v.0) one ∙ variables.self v.0 in absurd (cc)))
    ∙ term_there x i v vs o.1 e s

-- a variable that is there gets its term at its place
pub insert-there : (x : Var) (t : Term) (vs : List (Var × Term)) → is_var x (slice_get vs (place_of x vs)) ≡ true
    → slice_set vs (place_of x vs) (x, t) ≡ insert_var x t vs
insert-there x t [] e = absurd (cc)
insert-there x t (v ∷ vs) e = go (same_var v.0 x) (comes_before x v.0) refl (insert-there x t vs) e
  where
    go : (c d : Bool) → same_var v.0 x ≡ c
        → (is_var x (slice_get vs (place_of x vs)) ≡ true
        → slice_set vs (place_of x vs) (x, t) ≡ insert_var x t vs)
        → is_var x (slice_get (v ∷ vs) (cond c 0 (cond d 0 (suc (place_of x vs))))) ≡ true
        → slice_set (v ∷ vs) (cond c 0 (cond d 0 (suc (place_of x vs)))) (x, t)
        ≡ cond c ((x, t) ∷ vs) (cond d ((x, t) ∷ v ∷ vs) (v ∷ insert_var x t vs))
    go true d s rest e = refl
    go false true s rest e = absurd (cc)
    go false false s rest e = ap (λ ys. v ∷ ys) (rest e)

-- one that isn't there is put in at its place
pub insert-new : (x : Var) (t : Term) (vs : List (Var × Term)) → is_var x (slice_get vs (place_of x vs)) ≡ false
    → insert vs (place_of x vs) (x, t) ≡ insert_var x t vs
insert-new x t [] e = refl
insert-new x t (v ∷ vs) e = go (same_var v.0 x) (comes_before x v.0) refl (insert-new x t vs) e
  where
    go : (c d : Bool) → same_var v.0 x ≡ c
        → (is_var x (slice_get vs (place_of x vs)) ≡ false → insert vs (place_of x vs) (x, t) ≡ insert_var x t vs)
        → is_var x (slice_get (v ∷ vs) (cond c 0 (cond d 0 (suc (place_of x vs))))) ≡ false
        → insert (v ∷ vs) (cond c 0 (cond d 0 (suc (place_of x vs)))) (x, t)
        ≡ cond c ((x, t) ∷ vs) (cond d ((x, t) ∷ v ∷ vs) (v ∷ insert_var x t vs))
    go true d s rest e = absurd (cc)
    go false true s rest e = refl
    go false false s rest e = ap (λ ys. v ∷ ys) (rest e)

removed-from : (x : Var) (i k : ℕ) (vs : List (Var × Term)) → position_from (λ v. same_var v.0 x) i vs ≡ Some k
    → (at : ℕ) × (i + at ≡ k) × (delete_var x vs ≡ remove vs at)
removed-from x i k [] e = absurd (cc)
removed-from x i k (v ∷ vs) e = go (same_var v.0 x) (removed-from x (i + 1) k vs) e
  where
    go : (c : Bool)
        → (position_from (λ v. same_var v.0 x) (i + 1) vs ≡ Some k
        → (at : ℕ) × (i + 1 + at ≡ k) × (delete_var x vs ≡ remove vs at))
        → cond c (Some i) (position_from (λ v. same_var v.0 x) (i + 1) vs) ≡ Some k
        → (at : ℕ) × (i + at ≡ k) × (cond c vs (v ∷ delete_var x vs) ≡ remove (v ∷ vs) at)
    go true rest e = let same : i ≡ k = cc in (0, omega (arith, same), refl)
    go false rest e = let r = rest e in (suc r.0, omega (arith, r.1), ap (λ ys. v ∷ ys) r.2)

-- a variable is removed at the first index that has it
pub removed-at : (x : Var) (k : ℕ) (vs : List (Var × Term)) → position (λ v. same_var v.0 x) vs ≡ Some k
    → delete_var x vs ≡ remove vs k
removed-at x k vs e =
    let r = removed-from x 0 k vs (sym (position_from-zero (λ v. same_var v.0 x) vs) ∙ e) in let same : r.0 ≡ k = omega (arith, r.1) in r.2 ∙ ap (remove vs) same

none-from : (x : Var) (i : ℕ) (vs : List (Var × Term)) → position_from (λ v. same_var v.0 x) i vs ≡ None
    → delete_var x vs ≡ vs
none-from x i [] e = refl
none-from x i (v ∷ vs) e = go (same_var v.0 x) (none-from x (i + 1) vs) e
  where
    go : (c : Bool) → (position_from (λ v. same_var v.0 x) (i + 1) vs ≡ None → delete_var x vs ≡ vs)
        → cond c (Some i) (position_from (λ v. same_var v.0 x) (i + 1) vs) ≡ None
        → cond c vs (v ∷ delete_var x vs) ≡ v ∷ vs
    go true rest e = absurd (cc)
    go false rest e = ap (λ ys. v ∷ ys) (rest e)

-- and where none has it, nothing is
pub removed-none : (x : Var) (vs : List (Var × Term)) → position (λ v. same_var v.0 x) vs ≡ None
    → delete_var x vs ≡ vs
removed-none x vs e = none-from x 0 vs (sym (position_from-zero (λ v. same_var v.0 x) vs) ∙ e)

-- AS UPDATES
insert-put : (x : Var) (t : Term) (vs : List (Var × Term))
    → insert_var x t vs ≡ inserted variables x t vs
insert-put x t [] = refl
insert-put x t (v ∷ vs) =
    ap (λ r. cond (same_var v.0 x) ((x, t) ∷ vs)
    (cond (comes_before x v.0) ((x, t) ∷ v ∷ vs) (v ∷ r)))
    (insert-put x t vs)

-- in a list in order a variable is set by what the code does
pub insert-is : (x : Var) (t : Term) (vs : List (Var × Term)) → AreInOrder vs
    → insert_var x t vs ≡ set_var x t vs
insert-is x t vs o = insert-put x t vs ∙ inserted-is variables x t vs (variables-ordered vs o)

-- and so are several
pub insert_vars-is : (xs vs : List (Var × Term)) → AreInOrder vs
    → insert_vars xs vs ≡ set_vars xs vs
insert_vars-is [] vs o = refl
insert_vars-is (x ∷ xs) vs o =
    ap (insert_vars xs) (insert-is x.0 x.1 vs o)
    ∙ insert_vars-is xs (set_var x.0 x.1 vs) (set-order x.0 x.1 vs o)

delete-gone : (x : Var) (vs : List (Var × Term)) → delete_var x vs ≡ deleted variables x vs
delete-gone x [] = refl
delete-gone x (v ∷ vs) = ap (λ r. cond (same_var v.0 x) vs (v ∷ r)) (delete-gone x vs)

-- and one is removed
pub delete-is : (x : Var) (vs : List (Var × Term)) → AreInOrder vs
    → delete_var x vs ≡ remove_var x vs
delete-is x vs o = delete-gone x vs ∙ deleted-is variables x vs (variables-ordered vs o)
