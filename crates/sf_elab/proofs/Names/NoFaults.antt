-- Where nothing is wrong with several things, nothing is wrong with each.
use Rattle.std.proofs.Common.{◌≡◌, ℕ, zero, suc, Bool, true, false, not, List, [], ◌∷◌, ◌++◌, slice_get, Option, Some, None, is_some, refl, subst}
use Rattle.std.specs.List.{AllByRecursion}
use Rattle.sf_elab.specs.declared.fault.Fault.{Fault}
use Rattle.sf_elab.specs.Bodies.Commands.{all_faults}
use Rattle.sf_elab.specs.Files.Faults.{where_}

pub none_both : (xs ys : List Fault) → xs ++ ys ≡ [] → (xs ≡ []) × (ys ≡ [])
none_both [] ys h = (refl, h)
none_both (x ∷ xs) ys h = absurd cc

pub none_three : (xs ys zs : List Fault) → xs ++ ys ++ zs ≡ [] → (xs ≡ []) × (ys ≡ []) × (zs ≡ [])
none_three xs ys zs h =
    let last = none_both (xs ++ ys) zs h in
    let first = none_both xs ys last.0 in
    (first.0, first.1, last.1)

pub none_four : (xs ys zs ws : List Fault) → xs ++ ys ++ zs ++ ws ≡ [] → (xs ≡ []) × (ys ≡ []) × (zs ≡ []) × (ws ≡ [])
none_four xs ys zs ws h =
    let last = none_both (xs ++ ys ++ zs) ws h in
    let first = none_three xs ys zs last.0 in
    (first.0, first.1, first.2, last.1)

pub none_five : (xs ys zs ws vs : List Fault) → xs ++ ys ++ zs ++ ws ++ vs ≡ [] → (xs ≡ []) × (ys ≡ []) × (zs ≡ []) × (ws ≡ []) × (vs ≡ [])
none_five xs ys zs ws vs h =
    let last = none_both (xs ++ ys ++ zs ++ ws) vs h in
    let first = none_four xs ys zs ws last.0 in
    (first.0, first.1, first.2, first.3, last.1)

pub none_six : (xs ys zs ws vs us : List Fault) → xs ++ ys ++ zs ++ ws ++ vs ++ us ≡ [] → (xs ≡ []) × (ys ≡ []) × (zs ≡ []) × (ws ≡ []) × (vs ≡ []) × (us ≡ [])
none_six xs ys zs ws vs us h =
    let last = none_both (xs ++ ys ++ zs ++ ws ++ vs) us h in
    let first = none_five xs ys zs ws vs last.0 in
    (first.0, first.1, first.2, first.3, first.4, last.1)

pub none_where : (t : Bool) (f : Fault) → where_ t f ≡ [] → t ≡ false
none_where true f h = absurd cc
none_where false f h = refl

-- what is looked for is there
pub there : {A : Type 0} (o : Option A) (f : Fault) → where_ (not (is_some o)) f ≡ [] → (a : A) × (o ≡ Some a)
there None f h = absurd cc
there (Some a) f h = (a, refl)

pub none_each : {A : Type 0} (faults : A → List Fault) (xs : List A) → all_faults faults xs ≡ [] → AllByRecursion (λ x. faults x ≡ []) xs
none_each faults [] h = tt
none_each faults (x ∷ xs) h = let both = none_both (faults x) (all_faults faults xs) h in (both.0, none_each faults xs both.1)

pub none_at : {A : Type 0} (faults : A → List Fault) (xs : List A) (k : ℕ) (x : A) → slice_get xs k ≡ Some x → all_faults faults xs ≡ [] → faults x ≡ []
none_at faults [] k x e h = absurd cc
none_at faults (y ∷ xs) zero x e h = let same : y ≡ x = cc in subst (λ z. faults z ≡ []) same (none_both (faults y) (all_faults faults xs) h).0
none_at faults (y ∷ xs) (suc k) x e h = none_at faults xs k x e (none_both (faults y) (all_faults faults xs) h).1
