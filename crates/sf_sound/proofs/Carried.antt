-- What is to do is done as well where it is stated again: with other terms, which have by other values of the symbols
-- the values that those had.
-- Names: `PART-restated`.
use Rattle.std.specs.List.{AllByRecursion}
use Rattle.std.proofs.Common.{◌≡◌, ℕ, List, [], ◌∷◌, map, refl, ap, ◌∙◌, subst, subst₂}
use Rattle.sf_base.proofs.HeapSplits.{star-map}
use Rattle.sf_base.specs.declared.ids.Var.{Var}
use Rattle.sf_base.specs.declared.value.Value.{Value}
use Rattle.sf_core.specs.Machine.Config.{command, leave}
use Rattle.sf_core.specs.Program.Syntax.{Program, while}
use Rattle.sf_safe.specs.Checked.Local.{Local, put_variable}
use Rattle.sf_safe.specs.Checked.LocalSafe.{LocalSafe}
use Rattle.sf_sound.specs.Checked.Claims.{Does, Owed, put_values, steps, with_cells}
use Rattle.sf_sym.specs.Below.{AllInItem, AllPaired, IsBelow}
use Rattle.sf_sym.specs.declared.term.Term.{Term}
use Rattle.sf_sym.specs.Equalities.{item_with}
use Rattle.sf_sym.specs.Goal.{Item, run, add, take, gave, head, again, exit, return, end}
use Rattle.sf_sym.specs.Holds.{term_value}
use Rattle.sf_sym.specs.Checked.Lemmas.Restated.{adds-restated, pending-restated}

-- what the machine does of it, and what is owed at its end, has no terms
pub steps-with : (to : Term → Term) (todo : List Item) → steps (map (item_with to) todo) ≡ steps todo
steps-with to [] = refl
steps-with to (run c ∷ rest) = ap (λ ss. command c ∷ ss) (steps-with to rest)
steps-with to (exit q r ∷ rest) = ap (λ ss. leave r ∷ ss) (steps-with to rest)
steps-with to (add q given ∷ rest) = refl
steps-with to (take q want names ∷ rest) = refl
steps-with to (gave q set removed ∷ rest) = refl
steps-with to (head q test invariant body ∷ rest) = refl
steps-with to (again q invariant ∷ rest) = refl
steps-with to (return q post ∷ rest) = refl
steps-with to (end q ∷ rest) = refl

pub owed-with : (to : Term → Term) (todo : List Item) → Owed (map (item_with to) todo) ≡ Owed todo
owed-with to [] = refl
owed-with to (run c ∷ rest) = owed-with to rest
owed-with to (exit q r ∷ rest) = owed-with to rest
owed-with to (add q given ∷ rest) = refl
owed-with to (take q want names ∷ rest) = refl
owed-with to (gave q set removed ∷ rest) = refl
owed-with to (head q test invariant body ∷ rest) = refl
owed-with to (again q invariant ∷ rest) = refl
owed-with to (return q post ∷ rest) = refl
owed-with to (end q ∷ rest) = refl

module _ (n : ℕ) (w v : ℕ → Value) (to : Term → Term)
    (same : (t : Term) → IsBelow n t → term_value v (to t) ≡ term_value w t) where
  -- variables that are set
  values-restated : (set : List (Var × Term)) (l : Local) → AllPaired (IsBelow n) set
      → put_values v (map (λ x. (x.0, to x.1)) set) l ≡ put_values w set l
  values-restated [] l b = refl
  values-restated (x ∷ xs) l b =
      values-restated xs (put_variable x.0 (term_value v (to x.1)) l) b.1
      ∙ ap (λ u. put_values w xs (put_variable x.0 u l)) (same x.1 b.0)

  module _ (p : Program) (k : ℕ) where
    pub does-restated : (todo : List Item) (l : Local) → AllByRecursion (AllInItem (IsBelow n)) todo
        → Does p k v (map (item_with to) todo) l → Does p k w todo l
    does-restated [] l b d = tt
    does-restated (run c ∷ rest) l b d =
        subst₂ (λ e ss. LocalSafe p k e (command c ∷ ss) l) (owed-with to rest) (steps-with to rest) d
    does-restated (add q given ∷ rest) l b d = does-restated rest l b.1 d
    does-restated (take q want names ∷ rest) l b d =
        star-map (λ part h. (pending-restated n w v to same want part b.0).0 h)
        (λ part h. does-restated rest (with_cells part l) b.1 h) d
    does-restated (gave q set removed ∷ rest) l b d = λ more whole a parts.
        subst (λ z. Does p k w rest (with_cells whole z)) (values-restated set l b.0)
        (does-restated rest (with_cells whole (put_values v (map (λ x. (x.0, to x.1)) set) l)) b.1
        (d more whole (adds-restated n w v to same rest more b.1 a) parts))
    does-restated (head q test invariant body ∷ rest) l b d = λ part whole i parts.
        subst₂ (λ e ss. LocalSafe p k e (command (while q test invariant body) ∷ ss) (with_cells whole l))
        (owed-with to rest) (steps-with to rest) (d part whole i parts)
    does-restated (again q invariant ∷ rest) l b d = d
    does-restated (exit q r ∷ rest) l b d =
        subst₂ (λ e ss. LocalSafe p k e (leave r ∷ ss) l) (owed-with to rest) (steps-with to rest) d
    does-restated (return q post ∷ rest) l b d = d
    does-restated (end q ∷ rest) l b d = d
