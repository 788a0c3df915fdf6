-- The first goal of each procedure is shaped, and has few symbols.
-- Names: `held-LAW` of the resources that are held, `own-below` of the procedure's own variables, `first-LAW`.
use Rattle.std.specs.List.{AllByRecursion, AllPairs, Contains, IsDistinct, flat_map, list_any, slice_get}
use Rattle.std.specs.Option.{option_map, unwrap_or}
use Rattle.std.specs.Prelude.{All}
use Rattle.std.proofs.Common.{◌≡◌, ℕ, zero, suc, ◌+◌, ◌-◌, ◌*◌, ◌<◌, ◌≤◌, ◌==◌, Bool, true, false, cond, get_or, Option, Some, None, List, [], ◌∷◌, ◌++◌, length, map, refl, sym, ap, ◌∙◌, subst, inl, inr, arith, length-append}
use Rattle.std.proofs.lemmas.Bool.{or_cases}
use Rattle.std.proofs.lemmas.Bool.Decides.{Decides-eqb, nat_tests}
use Rattle.std.proofs.lemmas.List.{length-map}
use Rattle.std.proofs.lemmas.List.Elements.{All-head, All-tail}
use Rattle.std.proofs.lemmas.Map.Steps.{length-le_from_distinct_below}
use Rattle.std.proofs.lemmas.Option.{unwrap_or-slice_get}
use Rattle.sf_base.proofs.Elements.{all_by-append, contains-cons, pairs-head, pairs-tail}
use Rattle.sf_base.specs.declared.ids.ProcId.{ProcId}
use Rattle.sf_base.specs.declared.ids.ResId.{ResId}
use Rattle.sf_base.specs.declared.ids.Var.{Var}
use Rattle.sf_base.specs.declared.limits.TheConstants.{RESOURCES, RESOURCE_VARIABLES}
use Rattle.sf_calls.specs.Checked.Laws.{HeldResourcesAreThere}
use Rattle.sf_calls.specs.Sets.{AreSetsOf, IsEarlierResource}
use Rattle.sf_core.specs.Program.Formed.{IsFormed}
use Rattle.sf_core.specs.Program.Init.{is_init}
use Rattle.sf_core.specs.Program.Syntax.{Procedure, Resource}
use Rattle.sf_precise.specs.Annotations.{owed}
use Rattle.sf_rules.specs.First.{first_goal, first_state_of, links_of, nils, own_vars, symbols, with_held}
use Rattle.sf_rules.specs.Resources.{variables_of, variables_from}
use Rattle.sf_rules.specs.Setting.{Setting}
use Rattle.sf_rules.proofs.Fitting.{to_add-below, to_add-fits, to_run-below, to_run-fits}
use Rattle.sf_rules.proofs.FittingStates.{StateShaped}
use Rattle.sf_rules.proofs.FormedBodies.{resource-few}
use Rattle.sf_rules.specs.Checked.Lemmas.FreshVariables.{term-below, variables-length}
use Rattle.sf_rules.proofs.ShapedGoals.{goal-shaped}
use Rattle.sf_rules.proofs.ShapedRows.{ProgramFits, fresh-shaped, nil-shaped}
use Rattle.sf_rules.specs.Shape.{BlockFits, AnnotationFits, MayStand}
use Rattle.sf_rules.proofs.Fits.{IsFitting}
use Rattle.sf_sym.specs.Below.{AllPaired, IsBelow}
use Rattle.sf_sym.specs.declared.term.Term.{Term}
use Rattle.sf_sym.specs.Goal.{return, to_run}
use Rattle.sf_sym.specs.Checked.Lemmas.Below.{below-symbol}
use Rattle.sf_sym.specs.State.{State, first_state, term}

-- RESOURCES THAT ARE HELD, by their numbers
resources-distinct : (rs : List ResId) → AllPairs IsEarlierResource rs
    → IsDistinct ◌==◌ (map (λ (r : ResId). r.0) rs)
unfolding IsDistinct
resources-distinct [] o = tt
resources-distinct (r ∷ rs) o = (
  others rs (pairs-head IsEarlierResource r rs o),
  resources-distinct rs (pairs-tail IsEarlierResource r rs o),
)
  where
    others : (qs : List ResId) → All (IsEarlierResource r) qs
        → AllByRecursion (λ k. r.0 == k ≡ false) (map (λ (q : ResId). q.0) qs)
    others [] a = tt
    others (q ∷ qs) a =
        (less q (All-head (IsEarlierResource r) q qs a), others qs (All-tail (IsEarlierResource r) q qs a))
      where
        less : (q : ResId) → r.0 < q.0 → r.0 == q.0 ≡ false
        less q l = grind (arith, nat_tests)

resources-within : (rs : List ResId) (count k : ℕ) → ((r : ResId) → Contains rs r → r.0 < count)
    → list_any (◌==◌ k) (map (λ (r : ResId). r.0) rs) ≡ true → k < count
resources-within [] count k h e = absurd (cc)
resources-within (r ∷ rs) count k h e =
    elim (or_cases (k == r.0) (list_any (◌==◌ k) (map (λ (r : ResId). r.0) rs)) e) [
      | inl here ↦
          subst (λ i. i < count) (sym ((Decides-eqb k r.0).0 here)) (h r ((contains-cons r rs r).1 (inl refl)))
      | inr there ↦ resources-within rs count k (λ q c. h q ((contains-cons r rs q).1 (inr c))) there
    ]

-- lists of few elements each
flat-few : {A B : Type 0} (f : A → List B) (most : ℕ) (xs : List A) → ((x : A) → length (f x) ≤ most)
    → length (flat_map f xs) ≤ most * length xs
flat-few f most [] few = omega arith
flat-few f most (x ∷ xs) few =
    let rest = flat-few f most xs few in
    let here = few x in
    let both = length-append (f x) (flat_map f xs) in
    omega (arith, rest, here, both)

-- THE PROCEDURE'S OWN VARIABLES
symbols-below : (most from count : ℕ) → from + count ≤ most → AllPaired (IsBelow most) (symbols from count)
symbols-below most from zero l = tt
symbols-below most from (suc count) l =
    (below-symbol most from (omega (arith, l)), symbols-below most (suc from) count (omega (arith, l)))

nils-below : (most from count : ℕ) → AllPaired (IsBelow most) (nils from count)
nils-below most from zero = tt
nils-below most from (suc count) = (refl, nils-below most (suc from) count)

own-below : (g : Procedure) → AllPaired (IsBelow (g.references + g.values)) (own_vars g)
own-below g =
    all_by-append (λ (x : Var × Term). IsBelow (g.references + g.values) x.1) (symbols 0 (g.references + g.values))
    (nils (g.references + g.values) (length g.names - (g.references + g.values)))
    (symbols-below (g.references + g.values) 0 (g.references + g.values) (omega arith))
    (nils-below (g.references + g.values) (g.references + g.values) (length g.names - (g.references + g.values)))

module _ (d : Setting) (formed : IsFormed d.program) (sets : AreSetsOf d.program d.sets)
    (held_there : HeldResourcesAreThere) where
  held-list : (f : ProcId) (o : Option (List ResId)) → slice_get d.sets.holds f.0 ≡ o
      → unwrap_or o [] ≡ get_or d.sets.holds f.0 []
  held-list f o e = ap (λ (z : Option (List ResId)). unwrap_or z []) (sym e) ∙ unwrap_or-slice_get d.sets.holds f.0 []

  held-few : (f : ProcId) → length (get_or d.sets.holds f.0 []) ≤ RESOURCES
  held-few f = go (slice_get d.sets.holds f.0) refl
    where
      go : (o : Option (List ResId)) → slice_get d.sets.holds f.0 ≡ o → length (get_or d.sets.holds f.0 []) ≤ RESOURCES
      go None e = subst (λ (rs : List ResId). length rs ≤ RESOURCES) (held-list f None e) (omega arith)
      go (Some rs) e =
          let is = sets.holds.is f rs e in
          let few = length-le_from_distinct_below (map (λ (r : ResId). r.0) rs) (length d.program.resources)
          (resources-distinct rs is.ordered)
          (λ k i. resources-within rs (length d.program.resources) k
          (λ r c. held_there d.program formed f r ((is.members r).0 c)) i) in
          let same = length-map rs (λ (r : ResId). r.0) in
          subst (λ (qs : List ResId). length qs ≤ RESOURCES) (held-list f (Some rs) e)
          (omega (arith, few, same, formed.resource_count))

  variables-few : (r : ResId) → length (variables_of d.program r) ≤ RESOURCE_VARIABLES
  variables-few r = go (slice_get d.program.resources r.0) refl
    where
      go : (o : Option Resource) → slice_get d.program.resources r.0 ≡ o
          → length (unwrap_or (option_map (λ (of : Resource). variables_from r 0 of.variables) o) []) ≤ RESOURCE_VARIABLES
      go None e = omega arith
      go (Some of) e =
          let few = resource-few d.program.resources r.0 of e in
          let same = variables-length r 0 of.variables in
          omega (arith, few, same, formed.variables)

  -- variables of resources that are held need a symbol each at most
  held-next : (b : Bool) (xs : List Var) (s : State) (most : ℕ) → s.next_sym + length xs ≤ most
      → (with_held b xs s).next_sym ≤ most
  held-next true xs s most l = omega (arith, l)
  held-next false xs s most l = l

  -- the first goal has few symbols
  pub first-symbols : (f : ProcId) (g : Procedure) → slice_get d.program.procedures f.0 ≡ Some g
      → (first_goal d f g).state.next_sym ≤ 20000
  first-symbols f g there =
      let flat = flat-few (variables_of d.program) RESOURCE_VARIABLES (get_or d.sets.holds f.0 []) variables-few in
      held-next (is_init g) (flat_map (variables_of d.program) (get_or d.sets.holds f.0 []))
      (first_state (links_of d.program) (own_vars g) (g.references + g.values)) 20000
      (omega (arith, flat, held-few f, (formed.procedures f.0 g there).declared_count))

  -- variables of resources that are held are there
  held-shaped : (xs : List Var) (s : State) → StateShaped d s → (b : Bool) → StateShaped d (with_held b xs s)
  held-shaped xs s h true = nil-shaped d s xs h
  held-shaped xs s h false = fresh-shaped d s xs h

  -- what its return owes fits
  invariants-fit : (rs : List Resource)
      → ((k : ℕ) (r : Resource) → slice_get rs k ≡ Some r → AnnotationFits d r.invariant)
      → AllByRecursion (MayStand (links_of d.program)) (map d.ordered (map (λ r. r.invariant) rs))
  invariants-fit [] fits = tt
  invariants-fit (r ∷ rs) fits = (fits 0 r refl, invariants-fit rs (λ k q e. fits (suc k) q e))

  owed-fits : (b : Bool) (g : Procedure) → AnnotationFits d g.post → ProgramFits d
      → AllByRecursion (MayStand (links_of d.program))
      (map d.ordered (cond b (map (λ r. r.invariant) d.program.resources) (g.post ∷ [])))
  owed-fits true g post fits = invariants-fit d.program.resources fits.resources
  owed-fits false g post fits = (post, tt)

  -- the next atom is its first one
  pub first-atom : (f : ProcId) (g : Procedure) → (first_goal d f g).state.next_atom ≡ 1
  first-atom f g = go (is_init g)
    where
      go : (b : Bool)
          → (with_held b (flat_map (variables_of d.program) (get_or d.sets.holds f.0 []))
          (first_state (links_of d.program) (own_vars g) (g.references + g.values))).next_atom ≡ 1
      go true = refl
      go false = refl

  -- it is shaped
  pub first-shaped : (f : ProcId) (g : Procedure) → slice_get d.program.procedures f.0 ≡ Some g → ProgramFits d
      → BlockFits d g.body → IsFitting d (first_goal d f g)
  first-shaped f g there fits body =
      let s = first_state_of d f g in
      let own : StateShaped d (first_state (links_of d.program) (own_vars g) (g.references + g.values)) = record {
        below = record { vars = own-below g; apart = tt; atoms = tt; taken = tt };
        fits = record { links = refl; atoms = tt; rising = tt; given = tt };
      } in
      let k = held-shaped (flat_map (variables_of d.program) (get_or d.sets.holds f.0 []))
      (first_state (links_of d.program) (own_vars g) (g.references + g.values)) own (is_init g) in
      let f2 = fits.procedures f.0 g there in
      let last = return g.end (map d.ordered (owed d.program g)) ∷ [] in
      goal-shaped d s _ k
      (to_add-below (IsBelow s.next_sym) g.place (term s.vars) (d.ordered g.pre) (to_run g.body ++ last)
      (term-below s.next_sym s.vars k.below.vars) (to_run-below (IsBelow s.next_sym) g.body last (tt, tt)))
      (to_add-fits d g.place (term s.vars) (d.ordered g.pre) (to_run g.body ++ last) f2.0
      (to_run-fits d g.body last body (owed-fits (is_init g) g f2.1 fits)))
