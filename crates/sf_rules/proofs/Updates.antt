-- Lists in order as finite maps.
-- Names: `one-LAW` speaks of lists that say the same; the laws have the names of the functions whose
-- contracts they are.
use Rattle.std.proofs.Common.{◌≡◌, Bool, true, false, cond, Option, Some, None, List, [], ◌∷◌, refl, sym, ap, ap₂, ◌∙◌, subst}
use Rattle.std.proofs.lemmas.Option.{same_Some}
use Rattle.sf_base.specs.declared.ids.Var.{Var}
use Rattle.sf_base.specs.Variables.{same_var}
use Rattle.sf_rules.specs.Checked.LawsOfUpdates.{FieldsAreOneList, FieldsAreUpdated, IsUpdate, VariablesAreOneList, VariablesAreUpdated, variable_term}
use Rattle.sf_sym.specs.Checked.Lemmas.Updates.{AllAfter, Keys, Ordered, after-more, after-none, by-false, by-true, field-found, fields, fields-ordered, flipped, found, gone, gone-elsewhere, gone-here, other, put, put-elsewhere, put-here, put-order, remove-order, set-order, variables, variables-ordered}
use Rattle.sf_sym.specs.declared.term.Term.{Term}
use Rattle.sf_sym.specs.Fields.{field_term}

module _ {K : Type 0} (k : Keys K) where
  -- the first of a list in order is in no list that begins after it
  first-in : (v w : K × Term) (vs ws : List (K × Term)) → AllAfter k w.0 ws
      → ((x : K) → found k (v ∷ vs) x ≡ found k (w ∷ ws) x) → k.before v.0 w.0 ≡ true
      → ⊥
  first-in v w vs ws a e b =
      let none : found k (w ∷ ws) v.0 ≡ None = after-none k v.0 (w ∷ ws) (b, after-more k v.0 w.0 ws b a) in
      let some : found k (v ∷ vs) v.0 ≡ Some v.1 =
      by-true (k.same v.0 v.0) (Some v.1) (found k vs v.0) (k.self v.0) in
      let both : Some v.1 ≡ None = sym some ∙ e v.0 ∙ none in absurd (cc)

  -- lists in order that say the same are the same
  one : (vs ws : List (K × Term)) → Ordered k vs → Ordered k ws → ((x : K) → found k vs x ≡ found k ws x)
      → vs ≡ ws
  one [] [] o p e = refl
  one [] (w ∷ ws) o p e =
      let some : found k (w ∷ ws) w.0 ≡ Some w.1 =
      by-true (k.same w.0 w.0) (Some w.1) (found k ws w.0) (k.self w.0) in
      let both : None ≡ Some w.1 = e w.0 ∙ some in absurd (cc)
  one (v ∷ vs) [] o p e =
      let some : found k (v ∷ vs) v.0 ≡ Some v.1 =
      by-true (k.same v.0 v.0) (Some v.1) (found k vs v.0) (k.self v.0) in
      let both : Some v.1 ≡ None = sym some ∙ e v.0 in absurd (cc)
  one (v ∷ vs) (w ∷ ws) o p e =
      go (one vs ws o.1 p.1) (k.same v.0 w.0) refl (k.before v.0 w.0) refl
    where
      rest : v.0 ≡ w.0 → (x : K) → (b : Bool) → k.same v.0 x ≡ b → found k vs x ≡ found k ws x
      rest i x true j =
          after-none k x vs (subst (λ z. AllAfter k z vs) (k.is v.0 x j) o.0)
          ∙ sym (after-none k x ws (subst (λ z. AllAfter k z ws) (sym i ∙ k.is v.0 x j) p.0))
      rest i x false j =
          sym (by-false (k.same v.0 x) (Some v.1) (found k vs x) j) ∙ e x
          ∙ by-false (k.same w.0 x) (Some w.1) (found k ws x) (ap (λ z. k.same z x) (sym i) ∙ j)

      terms : v.0 ≡ w.0 → v.1 ≡ w.1
      terms i =
          same_Some v.1 w.1
          (sym (by-true (k.same v.0 v.0) (Some v.1) (found k vs v.0) (k.self v.0)) ∙ e v.0
          ∙ by-true (k.same w.0 v.0) (Some w.1) (found k ws v.0)
          (ap (λ z. k.same z v.0) (sym i) ∙ k.self v.0))

      go : (((x : K) → found k vs x ≡ found k ws x) → vs ≡ ws) → (b : Bool) → k.same v.0 w.0 ≡ b
          → (c : Bool) → k.before v.0 w.0 ≡ c → v ∷ vs ≡ w ∷ ws
      go r true i c j =
          let keys = k.is v.0 w.0 i in
          let first : v ≡ w = (λ n. (keys n, terms keys n)) in
          ap₂ ◌∷◌ first (r (λ x. rest keys x (k.same v.0 x) refl))
      go r false i true j = absurd (first-in v w vs ws p.0 e j)
      go r false i false j =
          absurd (first-in w v ws vs o.0 (λ x. sym (e x)) (k.total v.0 w.0 (flipped k v.0 w.0 i) j))

-- updates, by what a list says of a key
module _ {K : Type 0} (k : Keys K) (said : List (K × Term) → K → Option Term)
    (is-found : (vs : List (K × Term)) (x : K) → said vs x ≡ found k vs x) where
  put-update : (x : K) (t : Term) (vs : List (K × Term)) → IsUpdate x (Some t) (said vs) (said (put k x t vs))
  put-update x t vs = record {
    here = is-found (put k x t vs) x ∙ put-here k x t vs;
    elsewhere = λ y n. is-found (put k x t vs) y ∙ put-elsewhere k x t vs y (other k x y n) ∙ sym (is-found vs y);
  }

  gone-update : (x : K) (vs : List (K × Term)) → IsUpdate x None (said vs) (said (gone k x vs))
  gone-update x vs = record {
    here = is-found (gone k x vs) x ∙ gone-here k x vs;
    elsewhere = λ y n. is-found (gone k x vs) y ∙ gone-elsewhere k x vs y (other k x y n) ∙ sym (is-found vs y);
  }

-- Variables
variable-found : (vs : List (Var × Term)) (x : Var) → variable_term vs x ≡ found variables vs x
variable-found [] x = refl
variable-found (v ∷ vs) x = ap (λ o. cond (same_var v.0 x) (Some v.1) o) (variable-found vs x)

pub variables_are_updated : VariablesAreUpdated
unfolding VariablesAreUpdated
variables_are_updated x t vs o = (
  (set-order x t vs o, put-update variables variable_term variable-found x t vs),
  remove-order x vs o,
  gone-update variables variable_term variable-found x vs,
)

pub variables_are_one_list : VariablesAreOneList
unfolding VariablesAreOneList
variables_are_one_list vs ws o p e =
    one variables vs ws (variables-ordered vs o) (variables-ordered ws p)
    (λ x. sym (variable-found vs x) ∙ e x ∙ variable-found ws x)

-- Fields
pub fields_are_updated : FieldsAreUpdated
unfolding FieldsAreUpdated
fields_are_updated f t fs o = (put-order f t fs o, put-update fields field_term field-found f t fs)

pub fields_are_one_list : FieldsAreOneList
unfolding FieldsAreOneList
fields_are_one_list fs gs o p e =
    one fields fs gs (fields-ordered fs o) (fields-ordered gs p)
    (λ f. sym (field-found fs f) ∙ e f ∙ field-found gs f)
