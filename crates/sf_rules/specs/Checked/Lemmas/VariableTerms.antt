-- The variables of a state keep a term each, where one is set or removed, and stay in order where
-- terms are replaced.
-- Names: `set-LAW`, `all-LAW` of several that are set, `remove-LAW`, `map-LAW`.
use Rattle.std.specs.List.{AllByRecursion}
use Rattle.std.specs.Prelude.{is_some}
use Rattle.std.proofs.Common.{◌≡◌, Bool, true, false, not, ◌||◌, List, [], ◌∷◌, map, refl, sym, ap, ◌∙◌, subst, inl, inr}
use Rattle.std.proofs.lemmas.Bool.{or_cases}
use Rattle.sf_base.proofs.Variables.{same_var-decides}
use Rattle.sf_base.specs.declared.ids.Var.{Var}
use Rattle.sf_base.specs.Variables.{same_var}
use Rattle.sf_sym.specs.declared.term.Term.{Term}
use Rattle.sf_sym.specs.Checked.Lemmas.Updates.{all-kept, gone-elsewhere, listed-found, put-elsewhere, put-here, variables}
use Rattle.sf_sym.specs.Ready.{is_listed}
use Rattle.sf_sym.specs.Variables.{AreInOrder, comes_before, remove_var, remove_vars, set_var, set_vars}

-- the variable comes before each of them
abbrev pub BeforeAll : Var → List (Var × Term) → Type 0
BeforeAll x vs = AllByRecursion (λ (v : Var × Term). comes_before x v.0 ≡ true) vs

-- one is set
pub set-listed_here : (x : Var) (t : Term) (vs : List (Var × Term))
    → is_listed (set_var x t vs) x ≡ true
set-listed_here x t vs =
    listed-found (set_var x t vs) x ∙ ap is_some (put-here variables x t vs)

pub set-listed : (x : Var) (t : Term) (vs : List (Var × Term)) (y : Var) → is_listed vs y ≡ true
    → is_listed (set_var x t vs) y ≡ true
set-listed x t vs y e = go (same_var x y) refl
  where
    go : (b : Bool) → same_var x y ≡ b → is_listed (set_var x t vs) y ≡ true
    go true i =
        subst (λ z. is_listed (set_var x t vs) z ≡ true) ((same_var-decides x y).0 i)
        (set-listed_here x t vs)
    go false i =
        listed-found (set_var x t vs) y ∙ ap is_some (put-elsewhere variables x t vs y i)
        ∙ sym (listed-found vs y) ∙ e

-- several are set, one after the other
pub all-listed : (set vs : List (Var × Term)) (y : Var) → is_listed vs y ≡ true
    → is_listed (set_vars set vs) y ≡ true
all-listed [] vs y e = e
all-listed (x ∷ xs) vs y e = all-listed xs (set_var x.0 x.1 vs) y (set-listed x.0 x.1 vs y e)

pub all-listed_here : (set vs : List (Var × Term)) (y : Var) → is_listed set y ≡ true
    → is_listed (set_vars set vs) y ≡ true
all-listed_here [] vs y e = absurd (cc)
all-listed_here (x ∷ xs) vs y e = elim (or_cases (same_var x.0 y) (is_listed xs y) e) [
  | inl here ↦ all-listed xs (set_var x.0 x.1 vs) y
      (subst (λ z. is_listed (set_var x.0 x.1 vs) z ≡ true) ((same_var-decides x.0 y).0 here)
      (set-listed_here x.0 x.1 vs))
  | inr there ↦ all-listed_here xs (set_var x.0 x.1 vs) y there
]

-- one is removed
pub remove-all : (P : Var × Term → Type 0) (x : Var) (vs : List (Var × Term)) → AllByRecursion P vs
    → AllByRecursion P (remove_var x vs)
remove-all P x vs a = all-kept P (λ v. not (same_var v.0 x)) vs a

pub remove-listed : (x : Var) (vs : List (Var × Term)) (y : Var) → same_var x y ≡ false
    → is_listed vs y ≡ true → is_listed (remove_var x vs) y ≡ true
remove-listed x vs y n e =
    listed-found (remove_var x vs) y ∙ ap is_some (gone-elsewhere variables x vs y n)
    ∙ sym (listed-found vs y) ∙ e

-- several are removed
pub remove_all-listed : (xs : List Var) (vs : List (Var × Term)) (y : Var)
    → AllByRecursion (λ (x : Var). same_var x y ≡ false) xs → is_listed vs y ≡ true
    → is_listed (remove_vars xs vs) y ≡ true
remove_all-listed [] vs y n e = e
remove_all-listed (x ∷ xs) vs y n e = remove_all-listed xs (remove_var x vs) y n.1 (remove-listed x vs y n.0 e)

pub remove_all-all : (P : Var × Term → Type 0) (xs : List Var) (vs : List (Var × Term)) → AllByRecursion P vs
    → AllByRecursion P (remove_vars xs vs)
remove_all-all P [] vs a = a
remove_all-all P (x ∷ xs) vs a = remove_all-all P xs (remove_var x vs) (remove-all P x vs a)

-- terms are replaced
module _ (to : Term → Term) where
  before-map : (y : Var) (vs : List (Var × Term)) → BeforeAll y vs → BeforeAll y (map (λ x. (x.0, to x.1)) vs)
  before-map y [] a = tt
  before-map y (v ∷ vs) a = (a.0, before-map y vs a.1)

  pub map-order : (vs : List (Var × Term)) → AreInOrder vs → AreInOrder (map (λ x. (x.0, to x.1)) vs)
  map-order [] o = tt
  map-order (v ∷ vs) o = (before-map v.0 vs o.0, map-order vs o.1)

  pub map-listed : (vs : List (Var × Term)) (y : Var) → is_listed (map (λ x. (x.0, to x.1)) vs) y ≡ is_listed vs y
  map-listed [] y = refl
  map-listed (v ∷ vs) y = ap (λ b. same_var v.0 y || b) (map-listed vs y)
