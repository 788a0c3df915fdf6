-- Tables: the entries of a map whose keys have bytes, and what is found among names.
use Rattle.std.proofs.Common.{◌≡◌, ℕ, Bool, true, false, cond, List, [], ◌∷◌, ◌++◌, map, Some, None, is_some, refl, sym, ◌∙◌, ap, subst}
use Rattle.std.specs.Map.{lookup}
use Rattle.std.specs.Str.{bytes_eq}
use Rattle.std.proofs.lemmas.List.{map-append}
use Rattle.sf_base.proofs.Options.{is_some-false}
use Rattle.indexmap.specs.IndexMap.{insert_entry}
use Rattle.sf_elab.specs.Names.Table.{Table, find, declare}

-- the names of a map's keys, with their values
abbrev pub named : {K X : Type 0} → (K → List ℕ) → List (K × X) → Table X
named bytes es = map (λ e. (bytes e.0, e.1)) es

pub found_by : {K X : Type 0} (bytes : K → List ℕ) (name : List ℕ) (es : List (K × X)) → lookup (λ k. bytes_eq name (bytes k)) es ≡ find name (named bytes es)
found_by bytes name [] = refl
found_by bytes name (e ∷ es) = ap (cond (bytes_eq name (bytes e.0)) (Some e.1)) (found_by bytes name es)

added_one : {K X : Type 0} (eq : K → K → Bool) (e : K × X) (es more : List (K × X)) (k : K) (v : X) (t : Bool) → t ≡ eq k e.0 → cond t (Some e.1) (lookup (eq k) es) ≡ None → (lookup (eq k) es ≡ None → insert_entry eq es k v ≡ more)
    → cond t ((e.0, v) ∷ es) (e ∷ insert_entry eq es k v) ≡ e ∷ more
added_one eq e es more k v true p h rest = cc
added_one eq e es more k v false p h rest = ap (λ xs. e ∷ xs) (rest h)

pub added_last : {K X : Type 0} (eq : K → K → Bool) (es : List (K × X)) (k : K) (v : X) → lookup (eq k) es ≡ None → insert_entry eq es k v ≡ es ++ (k, v) ∷ []
added_last eq [] k v h = refl
added_last eq (e ∷ es) k v h = added_one eq e es (es ++ (k, v) ∷ []) k v (eq k e.0) refl h (added_last eq es k v)

-- an entry is added, where none has its name
pub declared_in : {K X : Type 0} (bytes : K → List ℕ) (name : List ℕ) (es fs : List (K × X)) (k : K) (v : X) → fs ≡ insert_entry (λ i j. bytes_eq (bytes i) (bytes j)) es k v → bytes k ≡ name → is_some (find name (named bytes es)) ≡ false
    → named bytes fs ≡ declare name v (named bytes es)
declared_in {K = K} {X = X} bytes name es fs k v p q r =
    let eq : K → K → Bool = λ i j. bytes_eq (bytes i) (bytes j) in
    let absent : lookup (λ j. bytes_eq name (bytes j)) es ≡ None = found_by bytes name es ∙ is_some-false (find name (named bytes es)) r in
    let last : fs ≡ es ++ (k, v) ∷ [] = p ∙ added_last eq es k v (subst (λ (n : List ℕ). lookup (λ j. bytes_eq n (bytes j)) es ≡ None) (sym q) absent) in
    let here : named bytes fs ≡ named bytes es ++ (bytes k, v) ∷ [] = ap (named bytes) last ∙ map-append (λ (e : K × X). (bytes e.0, e.1)) es ((k, v) ∷ []) in
    rw r (subst (λ (n : List ℕ). named bytes fs ≡ named bytes es ++ (n, v) ∷ []) q here)
