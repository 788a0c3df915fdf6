-- What a goal claims where what was taken is gone for good: variables are set and removed, and the rest is done.
-- Names: `give-claims`.
use Rattle.std.specs.List.{AllByRecursion}
use Rattle.std.proofs.Common.{◌≡◌, ℕ, Bool, true, false, List, [], ◌∷◌, refl, ap, ◌∙◌}
use Rattle.sf_base.proofs.HeapSplits.{star-drop_right, star-of}
use Rattle.sf_base.proofs.MapSplits.{empty-holds, empty_map, splits-comm, splits-empty_right}
use Rattle.sf_base.proofs.Variables.{same_var-decides}
use Rattle.sf_base.specs.declared.ids.Var.{Var}
use Rattle.sf_base.specs.declared.place.Place.{Place}
use Rattle.sf_base.specs.declared.value.Value.{Value}
use Rattle.sf_base.specs.Variables.{same_var}
use Rattle.sf_rules.specs.Setting.{Setting}
use Rattle.sf_safe.specs.Checked.Local.{Local, put_variable}
use Rattle.sf_sound.proofs.FreshTerms.{put-agrees}
use Rattle.sf_sound.proofs.Standing.{domain-put}
use Rattle.sf_rules.specs.Checked.Lemmas.VariableTerms.{all-listed, remove_all-all, remove_all-listed}
use Rattle.sf_sound.specs.Checked.Claims.{put_values, with_cells}
use Rattle.sf_sound.specs.Checked.Suits.{Claim, Domain, HasDomain, IsListed}
use Rattle.sf_sym.specs.declared.term.Term.{Term}
use Rattle.sf_sym.specs.Goal.{Item, gave}
use Rattle.sf_sym.specs.Holds.{term_value, Agrees}
use Rattle.sf_sym.specs.State.{State}
use Rattle.sf_sym.specs.Variables.{remove_vars, set_vars}
use Rattle.sf_sym.specs.Shape.{HasShape}

-- variables that a frame has get values
pub domain-put_values : (D : Domain) (w : ℕ → Value) (set : List (Var × Term)) (l : Local)
    → AllByRecursion (λ (x : Var × Term). D.has x.0 ≡ true) set → HasDomain D l → HasDomain D (put_values w set l)
domain-put_values D w [] l a h = h
domain-put_values D w (x ∷ xs) l a h =
    domain-put_values D w xs (put_variable x.0 (term_value w x.1) l) a.1
    (domain-put D l x.0 (term_value w x.1) a.0 h)

-- in the state that is left the variables of the frame have terms
given-listed : (D : Domain) (s : State) (set : List (Var × Term)) (removed : List Var) → IsListed D s
    → AllByRecursion (λ (x : Var). D.has x ≡ false) removed
    → IsListed D (record s { taken = []; vars = remove_vars removed (set_vars set s.vars) })
given-listed D s set removed t lacks x e =
    remove_all-listed removed (set_vars set s.vars) x (others x e removed lacks) (all-listed set s.vars x (t x e))
  where
    others : (x : Var) → D.has x ≡ true → (xs : List Var) → AllByRecursion (λ (x : Var). D.has x ≡ false) xs
        → AllByRecursion (λ (y : Var). same_var y x ≡ false) xs
    others x e [] a = tt
    others x e (y ∷ ys) a = (go (same_var y x) refl, others x e ys a.1)
      where
        go : (b : Bool) → same_var y x ≡ b → b ≡ false
        go true i = let same : D.has y ≡ true = ap D.has ((same_var-decides y x).0 i) ∙ e in absurd (cc)
        go false i = refl

pub give-claims : (d : Setting) (s : State) (q : Place) (set : List (Var × Term)) (removed : List Var)
    (rest : List Item) → HasShape (record { state = s; todo = gave q set removed ∷ rest })
    → Claim d (record {
      state = record s { taken = []; vars = remove_vars removed (set_vars set s.vars) };
      todo = rest;
    })
    → Claim d (record { state = s; todo = gave q set removed ∷ rest })
give-claims d s q set removed rest shape claim n w D l taken u has holds = λ more whole adds splits.
    let domain = domain-put_values D w set l u.todo.0 has in
    claim n w D (with_cells whole (put_values w set l)) empty_map
    (record { listed = given-listed D s set removed u.listed u.todo.1; todo = u.todo.2 })
    (record { variables = domain.variables; tokens = domain.tokens })
    (record {
      vars = remove_all-all (Agrees w (put_values w set l).values) removed (set_vars set s.vars)
          (put-agrees w set s.vars l shape.vars holds.vars);
      apart = holds.apart;
      disjoint = (splits-empty_right {map = whole} empty-holds).apart;
      there = star-of (splits-comm splits) (star-drop_right holds.there) adds;
      gone = empty-holds;
    })
