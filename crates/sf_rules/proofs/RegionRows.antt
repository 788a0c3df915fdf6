-- What the rows of critical regions leave, by what the code puts before what is left to do.
use Rattle.std.proofs.Common.{◌≡◌, ℕ, suc, ◌<◌, false, nat_lt, List, [], ◌∷◌, ◌++◌, length, map, IfSome, Option, Some, None, Vec, Global, refl, sym, ap, ◌∙◌}
use Rattle.std.specs.Borrow.{Bor}
use Rattle.std.specs.List.{slice_get}
use Rattle.std.specs.Option.{option_and_then}
use Rattle.sf_base.proofs.Options.{some-holds}
use Rattle.sf_base.specs.declared.ids.ResId.{ResId}
use Rattle.sf_base.specs.declared.ids.Var.{Var}
use Rattle.sf_base.specs.declared.place.Place.{Place}
use Rattle.sf_core.specs.declared.assertion.Test.{Test}
use Rattle.sf_core.specs.declared.command.Command.{Command as CodeCommand, With}
use Rattle.sf_core.specs.declared.command.Command.TheVariants.{rolls-With}
use Rattle.sf_core.specs.declared.command.Command.TheFolds.{fold-roll-Command}
use Rattle.sf_core.specs.declared.command.Expr.{Expr}
use Rattle.sf_core.specs.Program.Syntax.{Assertion, Block, Command, Resource, with}
use Rattle.sf_core.specs.declared.program.Resource.{Resource as CodeResource}
use Rattle.sf_core.specs.Program.ProgramView.{program_of}
use Rattle.sf_core.specs.Program.View.{assertion_of, block, command_of, command_step, resource_of}
use Rattle.sf_precise.specs.declared.arranged.Arranged.{Arranged}
use Rattle.sf_precise.specs.Order.{IsOrderOf, IsOrdering}
use Rattle.sf_sym.specs.declared.goal.Item.{Item as CodeItem}
use Rattle.sf_sym.specs.declared.goal.Item.TheVariants.{Exit, Run}
use Rattle.sf_sym.specs.declared.term.Term.{Term}
use Rattle.sf_sym.specs.Goal.{Goal, Item, exit, gave, one_goal, run, to_run, todo_of}
use Rattle.sf_sym.specs.State.{State, term}
use Rattle.sf_sym.specs.Variables.{with_fresh}
use Rattle.sf_rules.specs.declared.few.TheConstants.{TOO_MANY}
use Rattle.sf_rules.specs.Checked.Rows.Front.{at_command, at_exit}
use Rattle.sf_rules.specs.Checked.Rows.Regions.{enter_row, entered, entered_with, exit_row}
use Rattle.sf_rules.specs.Resources.{variables_from}
use Rattle.sf_rules.specs.Setting.{Setting, setting_of}
use Rattle.sf_rules.specs.Words.{to_add, to_add_test, to_take}
use Rattle.sf_rules.proofs.CallRows.{are_few, are_many}
use Rattle.sf_rules.proofs.Items.{to_run_of}
use Rattle.sf_rules.proofs.Looping.{pushed}

-- as many variables as names
pub length_variables : (r : ResId) (i : ℕ) (names : List (List ℕ)) → length (variables_from r i names) ≡ length names
length_variables r i [] = refl
length_variables r i (name ∷ names) = ap suc (length_variables r (suc i) names)

-- what a resource has, in order
pub region_is : (d : Setting) (a : Arranged) (r : ResId) (x : CodeResource) (names : List (List ℕ))
    (invariant : Assertion) → IsOrdering d.ordered → d ≡ setting_of d.ordered a
    → slice_get (program_of a.program).resources r.0 ≡ Some (resource_of x) → names ≡ x.variables.items
    → IfSome (slice_get (program_of a.program).resources r.0) (λ h. IsOrderOf h.invariant invariant)
    → (of : Resource) × (slice_get d.program.resources r.0 ≡ Some of) × (names ≡ of.variables)
    × (invariant ≡ d.ordered of.invariant)
region_is d a r x names invariant ordering e at n o = (
  resource_of x,
  ap (λ (z : Setting). slice_get z.program.resources r.0) e ∙ at,
  n,
  sym (ordering.ordered (assertion_of x.invariant) invariant
      (some-holds (λ h. IsOrderOf h.invariant invariant) (slice_get (program_of a.program).resources r.0)
      (resource_of x) at o)),
)

-- how a region is read
pub region_view : (p : Place) (r : ResId) (t : Test Expr) (body : Vec CodeCommand Global)
    → command_of (With p r t body) ≡ with p r t (block (map command_of body.items))
region_view p r t body = ap command_of (sym (rolls-With p r t body)) ∙ fold-roll-Command Command command_step _

-- a body and the exit after it
pub inside_todo : (p : Place) (r : ResId) (body : Bor (List CodeCommand)) (first more all : List CodeItem)
    → more ≡ first ++ Exit p r ∷ [] → all ≡ more ++ Run body ∷ []
    → todo_of all ≡ to_run (block (map command_of body.now)) ++ (exit p r ∷ todo_of first)
inside_todo p r body first more all m e =
    pushed more all (Run body) e
    ∙ ap (λ ys. map (λ c. run (command_of c)) body.now ++ ys) (pushed first more (Exit p r) m)
    ∙ ap (λ ys. ys ++ (exit p r ∷ todo_of first)) (sym (to_run_of body.now))

module _ (s : State) (p : Place) (xs : List Var) (invariant : Assertion) (t : Test Expr) (inside : List Item) where
  -- what is left of an entry, where the resource has these variables
  abbrev inner : Option (List Goal)
  inner =
      one_goal (with_fresh xs s)
      (to_add p (term (with_fresh xs s).vars) invariant ++ (to_add_test p (term (with_fresh xs s).vars) t ++ inside))

  pub entered_left : (now : State) (vars : List (Var × Term)) (mid todo : List Item) → length xs < TOO_MANY
      → now ≡ with_fresh xs s → vars ≡ now.vars → mid ≡ to_add_test p (term vars) t ++ inside
      → todo ≡ to_add p (term vars) invariant ++ mid
      → Some (record { state = now; todo = todo } ∷ []) ≡ entered_with s p xs invariant t inside
  entered_left now vars mid todo few n v m e =
      let same : vars ≡ (with_fresh xs s).vars = v ∙ ap (λ (x : State). x.vars) n in
      let due : todo ≡ to_add p (term (with_fresh xs s).vars) invariant
      ++ (to_add_test p (term (with_fresh xs s).vars) t ++ inside) =
      e ∙ ap (λ ys. to_add p (term vars) invariant ++ ys) m
      ∙ ap (λ vs. to_add p (term vs) invariant ++ (to_add_test p (term vs) t ++ inside)) same in
      (λ i. Some (record { state = n i; todo = due i } ∷ [])) ∙ are_few (length xs) inner few

  pub entered_many : nat_lt (length xs) TOO_MANY ≡ false → None ≡ entered_with s p xs invariant t inside
  entered_many many = are_many (length xs) inner many

module _ (d : Setting) (s : State) (p : Place) (r : ResId) (rest items : List Item) where
  module _ (t : Test Expr) (body : Block) (i : items ≡ run (with p r t body) ∷ rest) where
    pub enter_at : (x : Option (List Goal)) (of : Resource) (names : List (List ℕ)) (invariant : Assertion)
        (inside : List Item) → slice_get d.program.resources r.0 ≡ Some of → names ≡ of.variables
        → invariant ≡ d.ordered of.invariant → inside ≡ to_run body ++ (exit p r ∷ rest)
        → x ≡ entered_with s p (variables_from r 0 names) invariant t inside
        → x ≡ at_command (enter_row d s) items
    enter_at x of names invariant inside there n v u e =
        e ∙ (λ j. entered_with s p (variables_from r 0 (n j)) (v j) t (u j))
        ∙ sym (ap (option_and_then (entered d s p r t body rest)) there) ∙ sym (ap (at_command (enter_row d s)) i)

    pub enter_absent : slice_get d.program.resources r.0 ≡ None → None ≡ at_command (enter_row d s) items
    enter_absent there =
        sym (ap (option_and_then (entered d s p r t body rest)) there) ∙ sym (ap (at_command (enter_row d s)) i)

  module _ (i : items ≡ exit p r ∷ rest) where
    abbrev left_by : Resource → Option (List Goal)
    left_by of =
        one_goal s (to_take p (term s.vars) (d.ordered of.invariant)
        ++ (gave p [] (variables_from r 0 of.variables) ∷ rest))

    pub exit_at : (of : Resource) (names : List (List ℕ)) (invariant : Assertion) (vars : List (Var × Term))
        (mid todo : List Item)
        → slice_get d.program.resources r.0 ≡ Some of → names ≡ of.variables → invariant ≡ d.ordered of.invariant
        → vars ≡ s.vars → mid ≡ gave p [] (variables_from r 0 names) ∷ rest
        → todo ≡ to_take p (term vars) invariant ++ mid
        → Some (record { state = s; todo = todo } ∷ []) ≡ at_exit (exit_row d s) items
    exit_at of names invariant vars mid todo there n v w m e =
        let due : todo ≡ to_take p (term s.vars) (d.ordered of.invariant)
        ++ (gave p [] (variables_from r 0 of.variables) ∷ rest) =
        e ∙ ap (λ ys. to_take p (term vars) invariant ++ ys) m
        ∙ (λ j. to_take p (term (w j)) (v j) ++ (gave p [] (variables_from r 0 (n j)) ∷ rest)) in
        (λ j. Some (record { state = s; todo = due j } ∷ []))
        ∙ sym (ap (option_and_then left_by) there) ∙ sym (ap (at_exit (exit_row d s)) i)

    pub exit_absent : slice_get d.program.resources r.0 ≡ None → None ≡ at_exit (exit_row d s) items
    exit_absent there = sym (ap (option_and_then left_by) there) ∙ sym (ap (at_exit (exit_row d s)) i)
