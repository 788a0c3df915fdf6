-- The variables of what a procedure holds are few; the first goal by what the code puts there.
use Rattle.std.proofs.Common.{append_assoc, ◌≡◌, ℕ, zero, suc, ◌<◌, ◌≤◌, ◌^◌, List, [], ◌∷◌, ◌++◌, All, AllPairs, get_or, length, IfSome, map, Option, Some, None, refl, sym, ap, ap₂, ◌∙◌, subst, arith}
use Rattle.std.specs.List.{flat_map, slice_get}
use Rattle.std.specs.Option.{option_map, unwrap_or}
use Rattle.std.proofs.lemmas.List.Concat.{flat_map-cons, length-flat_map}
use Rattle.std.proofs.lemmas.List.Elements.{Contains-get_or}
use Rattle.std.proofs.lemmas.List.Sums.{sum_by-le}
use Rattle.sf_base.proofs.Options.{some-holds}
use Rattle.sf_base.specs.declared.ids.ProcId.{ProcId}
use Rattle.sf_base.specs.declared.ids.ResId.{ResId}
use Rattle.sf_base.specs.declared.ids.Var.{Var}
use Rattle.sf_core.specs.Program.Formed.{IsFormed}
use Rattle.sf_core.specs.Program.ProgramView.{program_of}
use Rattle.sf_core.specs.Program.Syntax.{Assertion, Procedure, Program, Resource}
use Rattle.sf_precise.specs.declared.arranged.Arranged.{Arranged}
use Rattle.sf_precise.specs.Annotations.{AreOrdersOf, owed}
use Rattle.sf_precise.specs.Order.{IsOrderOf, IsOrdering}
use Rattle.sf_sym.specs.declared.term.Term.{Term}
use Rattle.sf_sym.specs.Goal.{Goal, Item, return, to_run}
use Rattle.sf_sym.specs.State.{State, term}
use Rattle.sf_calls.specs.Sets.{AreSetsOf, IsEarlierResource, Sets}
use Rattle.sf_core.specs.Machine.HasThroughout.{HasThroughout}
use Rattle.sf_rules.specs.First.{first_goal, first_state_of, state_by}
use Rattle.sf_rules.specs.Resources.{variables_of, variables_from}
use Rattle.sf_rules.specs.Setting.{Setting, setting_of}
use Rattle.sf_rules.specs.Words.{to_add}
use Rattle.sf_rules.proofs.RegionRows.{length_variables}
use Rattle.std.proofs.lemmas.List.Sums.{get_or-le-sum_by}
use Rattle.std.proofs.lemmas.Option.{get_or_from_slice_get, slice_get_within}

-- the goal with that state and those items
abbrev goal_of_parts : State → List Item → Goal
goal_of_parts s todo = record { state = s; todo = todo }

-- the i-th of rising numbers is at least i
at_least : (rs : List ResId) (d : ResId) (i : ℕ) → AllPairs IsEarlierResource rs → i < length rs
    → i ≤ (get_or rs i d).0
at_least rs d zero rising below = omega arith
at_least rs d (suc i) rising below =
    let before = at_least rs d i rising (omega (arith, below)) in
    let more = rising i (suc i) d (omega arith) below in
    omega (arith, before, more)

-- so there are no more of them than numbers
rising_few : (rs : List ResId) (n : ℕ) → AllPairs IsEarlierResource rs → All (λ r. r.0 < n) rs → length rs ≤ n
rising_few [] n rising below = omega arith
rising_few (r ∷ rs) n rising below =
    let last = at_least (r ∷ rs) r (length rs) rising (omega arith) in
    let few = below (length rs) r (omega arith) in
    omega (arith, last, few)

-- a resource has few variables
few_of : (p : Program) (r : ResId) → IsFormed p → length (variables_of p r) ≤ 256
few_of p r formed = go (slice_get p.resources r.0) refl
  where
    go : (o : Option Resource) → slice_get p.resources r.0 ≡ o
        → length (unwrap_or (option_map (λ (of : Resource). variables_from r 0 of.variables) o) []) ≤ 256
    go None e = omega arith
    go (Some of) e =
        let le = get_or-le-sum_by (λ (q : Resource). length q.variables) p.resources r.0 of
        (slice_get_within p.resources r.0 of e) in
        let here : get_or p.resources r.0 of ≡ of = get_or_from_slice_get p.resources r.0 of of e in
        let all = formed.variables in
        let same = length_variables r 0 of.variables in
        omega (arith, rw here at le, all, same)

-- few variables are held
pub few_held : (p : Program) (rs : List ResId) → IsFormed p → AllPairs IsEarlierResource rs
    → All (λ r. r.0 < length p.resources) rs → length (flat_map (variables_of p) rs) < 2 ^ 20
few_held p rs formed rising below =
    let resources = rising_few rs (length p.resources) rising below in
    let limit = formed.resource_count in
    let sum = length-flat_map (variables_of p) rs in
    let each = sum_by-le (λ r. length (variables_of p r)) 256 rs (λ i d within. few_of p (get_or rs i d) formed) in
    omega (arith, resources, limit, sum, each)

-- the variables of one resource more
module _ (p : Program) (r : ResId) (rest left : List ResId) (all found : List Var)
    (e : all ≡ found ++ flat_map (variables_of p) left) (l : left ≡ r ∷ rest) where
  one_more : all ≡ found ++ (variables_of p r ++ flat_map (variables_of p) rest)
  one_more = e ∙ ap (λ rs. found ++ flat_map (variables_of p) rs) l
      ∙ ap (λ ys. found ++ ys) (flat_map-cons (variables_of p) r rest)

  pub more_variables : (of : Resource) (names : List (List ℕ)) (now : List Var)
      → slice_get p.resources r.0 ≡ Some of → names ≡ of.variables → now ≡ found ++ variables_from r 0 names
      → all ≡ now ++ flat_map (variables_of p) rest
  more_variables of names now at n k =
      let own : variables_from r 0 names ≡ variables_of p r =
      ap (variables_from r 0) n
      ∙ sym (ap (λ (o : Option Resource). unwrap_or (option_map (λ (x : Resource). variables_from r 0 x.variables) o) [])
      at) in
      one_more ∙ sym (append_assoc found (variables_of p r) (flat_map (variables_of p) rest))
      ∙ ap (λ ys. (found ++ ys) ++ flat_map (variables_of p) rest) (sym own)
      ∙ ap (λ ys. ys ++ flat_map (variables_of p) rest) (sym k)

  pub no_variables : slice_get p.resources r.0 ≡ None → all ≡ found ++ flat_map (variables_of p) rest
  no_variables at =
      one_more
      ∙ ap (λ (o : Option Resource). found ++ (unwrap_or (option_map (λ (x : Resource). variables_from r 0 x.variables)
      o) [] ++ flat_map (variables_of p) rest)) at

-- what a procedure holds is there
pub held_there : (p : Program) (sets : Sets) (f : ProcId) (rs : List ResId) → IsFormed p → AreSetsOf p sets
    → ((q : Program) → IsFormed q → (g : ProcId) (r : ResId) → HasThroughout q g r → r.0 < length q.resources)
    → slice_get sets.holds f.0 ≡ Some rs → All (λ r. r.0 < length p.resources) rs
held_there p sets f rs formed own law at k d below =
    law p formed f (get_or rs k d)
    (((own.holds.is f rs at).members (get_or rs k d)).0 (Contains-get_or rs k d below))

-- assertions in their orders
orders_are : (ordered : Assertion → Assertion) → IsOrdering ordered → (notes orders : List Assertion)
    → AreOrdersOf notes orders → orders ≡ map ordered notes
orders_are ordered is [] [] z = refl
orders_are ordered is [] (o ∷ os) z = absurd z
orders_are ordered is (n ∷ ns) [] z = absurd z
orders_are ordered is (n ∷ ns) (o ∷ os) z =
    ap₂ (λ a others. a ∷ others) (sym (is.ordered n o z.0)) (orders_are ordered is ns os z.1)

-- the first goal by what the code puts there
pub first_left : (d : Setting) (a : Arranged) (f : ProcId) (g : Procedure) (s : State) (vars : List (Var × Term))
    (pre : Assertion) (due : List Assertion) (last todo : List Item) → IsOrdering d.ordered → d ≡ setting_of d.ordered a
    → slice_get (program_of a.program).procedures f.0 ≡ Some g
    → s ≡ state_by (program_of a.program) (get_or a.calls.holds f.0 []) g → vars ≡ s.vars
    → IfSome (slice_get (program_of a.program).procedures f.0) (λ h. IsOrderOf h.pre pre)
    → IfSome (slice_get (program_of a.program).procedures f.0) (λ h. AreOrdersOf (owed (program_of a.program) h) due)
    → last ≡ to_run g.body ++ (return g.end due ∷ []) → todo ≡ to_add g.place (term vars) pre ++ last
    → IfSome (slice_get d.program.procedures f.0) (λ h. goal_of_parts s todo ≡ first_goal d f h)
first_left d a f g s vars pre due last todo ordering e at is v first end l t =
    let here : slice_get d.program.procedures f.0 ≡ Some g =
    ap (λ (z : Setting). slice_get z.program.procedures f.0) e ∙ at in
    let state : s ≡ first_state_of d f g = is ∙ ap (λ (z : Setting). first_state_of z f g) (sym e) in
    let asked : pre ≡ d.ordered g.pre = sym (ordering.ordered g.pre pre
    (some-holds (λ h. IsOrderOf h.pre pre) (slice_get (program_of a.program).procedures f.0) g at first)) in
    let promised : due ≡ map d.ordered (owed d.program g) =
    orders_are d.ordered ordering (owed (program_of a.program) g) due
    (some-holds (λ h. AreOrdersOf (owed (program_of a.program) h) due)
    (slice_get (program_of a.program).procedures f.0) g at end)
    ∙ ap (λ (z : Setting). map d.ordered (owed z.program g)) (sym e) in
    let same : vars ≡ (first_state_of d f g).vars = v ∙ ap (λ (z : State). z.vars) state in
    let all : todo ≡ to_add g.place (term (first_state_of d f g).vars) (d.ordered g.pre)
    ++ (to_run g.body ++ (return g.end (map d.ordered (owed d.program g)) ∷ [])) =
    t ∙ ap (λ ys. to_add g.place (term vars) pre ++ ys) l
    ∙ (λ i. to_add g.place (term (same i)) (asked i) ++ (to_run g.body ++ (return g.end (promised i) ∷ []))) in
    subst (λ (o : Option Procedure). IfSome o (λ h. goal_of_parts s todo ≡ first_goal d f h)) (sym here)
    (λ i. goal_of_parts (state i) (all i))
