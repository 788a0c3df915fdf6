-- Every row keeps the shape of goals, and raises the numbers of symbols and atoms by less than `TOO_MANY`.
-- Names: `ROW-keeps`, `cases-keep`.
use Rattle.sf_rules.specs.First.{nil_for, with_nil}
use Rattle.std.specs.List.{AllByRecursion, slice_get}
use Rattle.std.proofs.Common.{◌≡◌, ℕ, ◌+◌, ◌<◌, is_some, Some, List, [], ◌∷◌, ◌++◌, length, refl, sym, ap, subst, arith, length-append}
use Rattle.sf_base.proofs.Elements.{all_by-append}
use Rattle.sf_base.proofs.Options.{some-once}
use Rattle.sf_base.specs.declared.ids.ResId.{ResId}
use Rattle.sf_base.specs.declared.ids.Var.{Var}
use Rattle.sf_base.specs.declared.place.Place.{Place}
use Rattle.sf_calls.specs.Changes.{changed, changes_in}
use Rattle.sf_core.specs.declared.assertion.Test.{Test}
use Rattle.sf_core.specs.declared.command.Expr.{Expr}
use Rattle.sf_core.specs.declared.command.Expr.TheVariants.{Nil as ENil}
use Rattle.sf_core.specs.Program.Syntax.{Assertion, Block, Call, while, call, fork, with, Procedure, Resource}
use Rattle.sf_produce.specs.Add.{operands}
use Rattle.sf_rules.specs.declared.few.TheConstants.{TOO_MANY}
use Rattle.sf_rules.specs.Checked.Lemmas.{few-left}
use Rattle.sf_rules.specs.Checked.RowCases.{Rows, by_absurd, by_add, by_again, by_around, by_assign, by_back, by_call, by_choice, by_choice_assumed, by_choice_shown, by_dispose, by_drop, by_end, by_enter, by_exit, by_force, by_fork, by_give, by_look, by_loop, by_mutate, by_new, by_return, by_split, by_step, by_unroll, goal_of}
use Rattle.sf_rules.specs.Callee.{term_after, term_before}
use Rattle.sf_rules.specs.Checked.Rows.Loops.{after_loop, body_once}
use Rattle.sf_rules.specs.Rules.{unknown_in}
use Rattle.sf_rules.specs.Resources.{variables_from}
use Rattle.sf_rules.specs.Setting.{Setting}
use Rattle.sf_rules.specs.Words.{negation, to_add, to_add_test, to_take, to_take_each}
use Rattle.sf_rules.proofs.Fitting.{to_add-below, to_add-fits, to_add_test-below, to_add_test-fits, to_run-below, to_run-fits, to_take-below, to_take-fits, to_take_each-below, to_take_each-fits}
use Rattle.sf_rules.proofs.FittingStates.{StateShaped, empty-shaped, given-shaped, symbols-shaped, vars-shaped}
use Rattle.sf_rules.specs.Checked.Lemmas.FreshVariables.{after-below, before-below, few-filtered, fresh-below, fresh-length, removed-below, set_all-below, term-below, variables-length, nil_for-below}
use Rattle.sf_rules.proofs.ShapedAdds.{add-keeps}
use Rattle.sf_rules.proofs.ShapedChoices.{choice_assumed-keeps, choice_shown-keeps}
use Rattle.sf_rules.proofs.ShapedCommands.{assign-keeps, choice-keeps, dispose-keeps, look-keeps, mutate-keeps, new-keeps}
use Rattle.sf_rules.proofs.ShapedGoals.{AllKeep, Rises, keeps-goal, none-keep, rest-below, rises-none, state-shaped}
use Rattle.sf_rules.proofs.ShapedKnown.{absurd-keeps, back-keeps, drop-keeps, force-keeps, split-keeps, unroll-keeps}
use Rattle.sf_rules.proofs.ShapedTakes.{step-keeps}
use Rattle.sf_rules.specs.Shape.{AnnotationFits}
use Rattle.sf_rules.proofs.Fits.{IsFitting, ItemsFit}
use Rattle.sf_sym.specs.Below.{AllInItem, IsBelow}
use Rattle.sf_sym.specs.declared.term.Term.{Term}
use Rattle.sf_sym.specs.Goal.{Item, run, gave, head, again, exit, return, end, Goal, to_run}
use Rattle.sf_sym.specs.Ready.{is_listed}
use Rattle.sf_sym.specs.State.{State, term, with_symbols}
use Rattle.sf_sym.specs.Variables.{fresh_for, remove_vars, set_vars, with_fresh}

-- the annotations of a program's contracts and resources fit
pub record ProgramFits (d : Setting) : Type 0 where
  pub procedures : (k : ℕ) (g : Procedure) → slice_get d.program.procedures k ≡ Some g
      → AnnotationFits d g.pre × AnnotationFits d g.post
  pub resources : (k : ℕ) (r : Resource) → slice_get d.program.resources k ≡ Some r → AnnotationFits d r.invariant

-- a state in which variables have fresh symbols
pub fresh-shaped : (d : Setting) (s : State) (xs : List Var) → StateShaped d s → StateShaped d (with_fresh xs s)
fresh-shaped d s xs h =
    let r = symbols-shaped d s h (length xs) in
    let m = vars-shaped d (with_symbols (length xs) s) r (set_vars (fresh_for s.next_sym xs) s.vars)
    (set_all-below (s.next_sym + length xs) (fresh_for s.next_sym xs) s.vars
    (fresh-below s.next_sym xs (s.next_sym + length xs) (omega arith)) r.below.vars) in
    record {
      below = record { vars = m.below.vars; apart = m.below.apart; atoms = m.below.atoms; taken = m.below.taken };
      fits = record { links = m.fits.links; atoms = m.fits.atoms; rising = m.fits.rising; given = m.fits.given };
    }

-- a state in which variables are nil
pub nil-shaped : (d : Setting) (s : State) (xs : List Var) → StateShaped d s → StateShaped d (with_nil xs s)
nil-shaped d s xs h =
    let m = vars-shaped d s h (set_vars (nil_for xs) s.vars)
    (set_all-below s.next_sym (nil_for xs) s.vars (nil_for-below s.next_sym xs) h.below.vars) in
    record {
      below = record { vars = m.below.vars; apart = m.below.apart; atoms = m.below.atoms; taken = m.below.taken };
      fits = record { links = m.fits.links; atoms = m.fits.atoms; rising = m.fits.rising; given = m.fits.given };
    }

-- THE ROWS
module _ (d : Setting) (s : State) (item : Item) (rest : List Item) (left : List Goal)
    (h : IsFitting d (record { state = s; todo = item ∷ rest })) where
  shaped : StateShaped d s
  shaped = state-shaped d (record { state = s; todo = item ∷ rest }) h

  one-left : (s2 : State) (todo : List Item) → left ≡ goal_of s2 todo ∷ [] → StateShaped d s2 → Rises s s2
      → AllByRecursion (AllInItem (IsBelow s2.next_sym)) todo → ItemsFit d todo → AllKeep d s left
  one-left s2 todo e k r b f = subst (AllKeep d s) (sym e) (keeps-goal d s s2 todo k r b f, tt)

  to-below : (e : Expr) → IsBelow s.next_sym (term s.vars e)
  to-below e = term-below s.next_sym s.vars h.below.state.vars e

  self-rises : Rises s s
  self-rises = rises-none s s refl refl

  -- the rest, in a state with a higher next symbol
  rest-later : (s2 : State) → Rises s s2 → AllByRecursion (AllInItem (IsBelow s2.next_sym)) rest
  rest-later s2 r = rest-below s s2 rest r h.below.todo.1

module _ (d : Setting) (s : State) (rest : List Item) (left : List Goal) where
  abbrev Before : Item → Type 0
  Before item = IsFitting d (record { state = s; todo = item ∷ rest })

  abbrev n : ℕ
  n = s.next_sym

  loop-keeps : (p : Place) (t : Test Expr) (invariant : Assertion) (body : Block)
      → Before (run (while p t invariant body))
      → left ≡ goal_of s (to_take p (term s.vars) (d.ordered invariant) ++ (head p t invariant body ∷ rest)) ∷ []
      → AllKeep d s left
  loop-keeps p t invariant body h e =
      let item = run (while p t invariant body) in
      one-left d s item rest left h s (to_take p (term s.vars) (d.ordered invariant) ++ (head p t invariant body ∷ rest))
      e (shaped d s item rest left h) (self-rises d s item rest left h)
      (to_take-below (IsBelow n) p (term s.vars) (d.ordered invariant) (head p t invariant body ∷ rest)
      (to-below d s item rest left h) (tt, h.below.todo.1))
      (to_take-fits d p (term s.vars) (d.ordered invariant) (head p t invariant body ∷ rest) h.todo.0.0
      (h.todo.0.0, h.todo.0.1, h.todo.0.2, h.todo.1))

  give-keeps : (p : Place) (set : List (Var × Term)) (removed : List Var) → Before (gave p set removed)
      → left ≡ goal_of (record s { taken = []; vars = remove_vars removed (set_vars set s.vars) }) rest ∷ []
      → AllKeep d s left
  give-keeps p set removed h e =
      let item = gave p set removed in
      let vars = remove_vars removed (set_vars set s.vars) in
      let one = vars-shaped d s (shaped d s item rest left h) vars
      (removed-below n removed (set_vars set s.vars)
      (set_all-below n set s.vars h.below.todo.0 h.below.state.vars)) in
      let two = given-shaped d (record s { vars = vars }) one in
      one-left d s item rest left h (record s { taken = []; vars = vars }) rest e
      two (rises-none s _ refl refl) h.below.todo.1 h.todo

  again-keeps : (p : Place) (invariant : Assertion) → Before (again p invariant)
      → left ≡ goal_of s (to_take p (term s.vars) (d.ordered invariant) ++ (end p ∷ [])) ∷ [] → AllKeep d s left
  again-keeps p invariant h e =
      let item = again p invariant in
      one-left d s item rest left h s (to_take p (term s.vars) (d.ordered invariant) ++ (end p ∷ [])) e
      (shaped d s item rest left h) (self-rises d s item rest left h)
      (to_take-below (IsBelow n) p (term s.vars) (d.ordered invariant) (end p ∷ []) (to-below d s item rest left h)
      (tt, tt))
      (to_take-fits d p (term s.vars) (d.ordered invariant) (end p ∷ []) h.todo tt)

  return-keeps : (p : Place) (owed : List Assertion) → Before (return p owed)
      → left ≡ goal_of s (to_take_each p (term s.vars) owed (end p ∷ [])) ∷ [] → AllKeep d s left
  return-keeps p owed h e =
      let item = return p owed in
      one-left d s item rest left h s (to_take_each p (term s.vars) owed (end p ∷ [])) e
      (shaped d s item rest left h) (self-rises d s item rest left h)
      (to_take_each-below (IsBelow n) p (term s.vars) owed (end p ∷ []) (to-below d s item rest left h) (tt, tt))
      (to_take_each-fits d p (term s.vars) owed (end p ∷ []) h.todo tt)

  module _ (fits : ProgramFits d) where
    exit-keeps : (p : Place) (r : ResId) (of : Resource) → slice_get d.program.resources r.0 ≡ Some of
        → Before (exit p r)
        → left ≡ goal_of s (to_take p (term s.vars) (d.ordered of.invariant)
        ++ (gave p [] (variables_from r 0 of.variables) ∷ rest)) ∷ []
        → AllKeep d s left
    exit-keeps p r of there h e =
        let item = exit p r in
        let then = gave p [] (variables_from r 0 of.variables) ∷ rest in
        one-left d s item rest left h s (to_take p (term s.vars) (d.ordered of.invariant) ++ then) e
        (shaped d s item rest left h) (self-rises d s item rest left h)
        (to_take-below (IsBelow n) p (term s.vars) (d.ordered of.invariant) then (to-below d s item rest left h)
        (tt, h.below.todo.1))
        (to_take-fits d p (term s.vars) (d.ordered of.invariant) then (fits.resources r.0 of there) h.todo.1)

    call-keeps : (p : Place) (c : Call) (callee : Procedure) → slice_get d.program.procedures c.callee.0 ≡ Some callee
        → Before (run (call p c))
        → (let set = fresh_for n (changed d.sets c) in
        left ≡ goal_of (with_symbols (length set) s) (to_take c.place (term_before s c) (d.ordered callee.pre)
        ++ (gave p set [] ∷ (to_add p (term_after s set c) (d.ordered callee.post) ++ rest))) ∷ [])
        → AllKeep d s left
    call-keeps p c callee there h e =
        let item = run (call p c) in
        let set = fresh_for n (changed d.sets c) in
        let many : length set ≡ length (changed d.sets c) = fresh-length n (changed d.sets c) in
        let few : length (changed d.sets c) < TOO_MANY = h.todo.0.1 in
        let s2 = with_symbols (length set) s in
        let k = symbols-shaped d s (shaped d s item rest left h) (length set) in
        let r : Rises s s2 = record {
          kept = omega arith;
          symbols = omega (arith, many, few);
          atoms = omega arith;
        } in
        let new = fresh-below n (changed d.sets c) (n + length set) (omega (arith, many)) in
        let vars = k.below.vars in
        let f = fits.procedures c.callee.0 callee there in
        let adds = to_add p (term_after s set c) (d.ordered callee.post) ++ rest in
        one-left d s item rest left h s2
        (to_take c.place (term_before s c) (d.ordered callee.pre) ++ (gave p set [] ∷ adds)) e k r
        (to_take-below (IsBelow (n + length set)) c.place (term_before s c) (d.ordered callee.pre)
        (gave p set [] ∷ adds) (before-below (n + length set) s c vars) (
          new,
          to_add-below (IsBelow (n + length set)) p (term_after s set c) (d.ordered callee.post) rest
              (after-below (n + length set) s set c vars new) (rest-later d s item rest left h s2 r),
        ))
        (to_take-fits d c.place (term_before s c) (d.ordered callee.pre) (gave p set [] ∷ adds) f.0
        (to_add-fits d p (term_after s set c) (d.ordered callee.post) rest f.1 h.todo.1))

    fork-keeps : (p : Place) (c e : Call) (one two : Procedure)
        → slice_get d.program.procedures c.callee.0 ≡ Some one → slice_get d.program.procedures e.callee.0 ≡ Some two
        → Before (run (fork p c e))
        → (let first = fresh_for n (changed d.sets c) in
        let second = fresh_for (n + length first) (changed d.sets e) in
        left ≡ goal_of (with_symbols (length (first ++ second)) s)
        (to_take c.place (term_before s c) (d.ordered one.pre)
        ++ (to_take e.place (term_before s e) (d.ordered two.pre)
        ++ (gave p (first ++ second) [] ∷ (to_add p (term_after s first c) (d.ordered one.post)
        ++ (to_add p (term_after s second e) (d.ordered two.post) ++ rest))))) ∷ [])
        → AllKeep d s left
    fork-keeps p c e one two there also_there h i =
        let item = run (fork p c e) in
        let first = fresh_for n (changed d.sets c) in
        let second = fresh_for (n + length first) (changed d.sets e) in
        let one_many : length first ≡ length (changed d.sets c) = fresh-length n (changed d.sets c) in
        let two_many : length second ≡ length (changed d.sets e) =
        fresh-length (n + length first) (changed d.sets e) in
        let both : length (first ++ second) ≡ length first + length second = length-append first second in
        let few : length (changed d.sets c) + length (changed d.sets e) < TOO_MANY = h.todo.0.2 in
        let most = n + length (first ++ second) in
        let s2 = with_symbols (length (first ++ second)) s in
        let k = symbols-shaped d s (shaped d s item rest left h) (length (first ++ second)) in
        let r : Rises s s2 = record {
          kept = omega arith;
          symbols = omega (arith, one_many, two_many, both, few);
          atoms = omega arith;
        } in
        let new = fresh-below n (changed d.sets c) most (omega (arith, one_many, both)) in
        let newer = fresh-below (n + length first) (changed d.sets e) most (omega (arith, two_many, both)) in
        let vars = k.below.vars in
        let f = fits.procedures c.callee.0 one there in
        let g = fits.procedures e.callee.0 two also_there in
        let adds_two = to_add p (term_after s second e) (d.ordered two.post) ++ rest in
        let adds = to_add p (term_after s first c) (d.ordered one.post) ++ adds_two in
        let gives = gave p (first ++ second) [] ∷ adds in
        let takes = to_take e.place (term_before s e) (d.ordered two.pre) ++ gives in
        one-left d s item rest left h s2 (to_take c.place (term_before s c) (d.ordered one.pre) ++ takes) i k r
        (to_take-below (IsBelow most) c.place (term_before s c) (d.ordered one.pre) takes (before-below most s c vars)
        (to_take-below (IsBelow most) e.place (term_before s e) (d.ordered two.pre) gives (before-below most s e vars) (
          all_by-append (λ (x : Var × Term). IsBelow most x.1) first second new newer,
          to_add-below (IsBelow most) p (term_after s first c) (d.ordered one.post) adds_two
              (after-below most s first c vars new)
              (to_add-below (IsBelow most) p (term_after s second e) (d.ordered two.post) rest
              (after-below most s second e vars newer) (rest-later d s item rest left h s2 r)),
        )))
        (to_take-fits d c.place (term_before s c) (d.ordered one.pre) takes f.0
        (to_take-fits d e.place (term_before s e) (d.ordered two.pre) gives g.0
        (to_add-fits d p (term_after s first c) (d.ordered one.post) adds_two f.1
        (to_add-fits d p (term_after s second e) (d.ordered two.post) rest g.1 h.todo.1))))

    enter-keeps : (p : Place) (r : ResId) (t : Test Expr) (body : Block) (of : Resource)
        → slice_get d.program.resources r.0 ≡ Some of → Before (run (with p r t body))
        → (let now = with_fresh (variables_from r 0 of.variables) s in
        left ≡ goal_of now (to_add p (term now.vars) (d.ordered of.invariant)
        ++ (to_add_test p (term now.vars) t ++ (to_run body ++ (exit p r ∷ rest)))) ∷ [])
        → AllKeep d s left
    enter-keeps p r t body of there h e =
        let item = run (with p r t body) in
        let xs = variables_from r 0 of.variables in
        let now = with_fresh xs s in
        let k = fresh-shaped d s xs (shaped d s item rest left h) in
        let same = some-once (slice_get d.program.resources r.0) h.todo.0.0.0 of h.todo.0.0.1 there in
        let few : length of.variables < TOO_MANY =
        subst (λ (z : Resource). length z.variables < TOO_MANY) same h.todo.0.0.2 in
        let many : length xs ≡ length of.variables = variables-length r 0 of.variables in
        let rises : Rises s now = record {
          kept = omega arith;
          symbols = omega (arith, many, few);
          atoms = omega arith;
        } in
        let to = term-below now.next_sym now.vars k.below.vars in
        let inside = to_run body ++ (exit p r ∷ rest) in
        let tests = to_add_test p (term now.vars) t ++ inside in
        one-left d s item rest left h now (to_add p (term now.vars) (d.ordered of.invariant) ++ tests) e k rises
        (to_add-below (IsBelow now.next_sym) p (term now.vars) (d.ordered of.invariant) tests to
        (to_add_test-below (IsBelow now.next_sym) p (term now.vars) t inside to
        (to_run-below (IsBelow now.next_sym) body (exit p r ∷ rest) (tt, rest-later d s item rest left h now rises))))
        (to_add-fits d p (term now.vars) (d.ordered of.invariant) tests (fits.resources r.0 of there)
        (to_add_test-fits d p (term now.vars) t inside
        (to_run-fits d body (exit p r ∷ rest) h.todo.0.1 (ap is_some there, h.todo.1))))

  around-keeps : (p : Place) (t : Test Expr) (invariant : Assertion) (body : Block) → Before (head p t invariant body)
      → (let now = with_fresh (unknown_in d s body) s in
      left ≡ body_once d now p t invariant body ∷ after_loop d now p t invariant rest ∷ [])
      → AllKeep d s left
  around-keeps p t invariant body h e =
      let item = head p t invariant body in
      let xs = unknown_in d s body in
      let now = with_fresh xs s in
      let k = fresh-shaped d s xs (shaped d s item rest left h) in
      let few = few-filtered (is_listed s.vars) (changes_in d.sets body) h.todo.1 in
      let rises : Rises s now = record { kept = omega arith; symbols = omega (arith, few); atoms = omega arith } in
      let to = term-below now.next_sym now.vars k.below.vars in
      let inside = to_run body ++ (again p invariant ∷ []) in
      let tests = to_add_test p (term now.vars) t ++ inside in
      let others = to_add_test p (term now.vars) (negation ENil t) ++ rest in
      subst (AllKeep d s) (sym e) (
        keeps-goal d s (record now { atoms = []; taken = [] })
            (to_add p (term now.vars) (d.ordered invariant) ++ tests) (empty-shaped d now k)
            (record { kept = rises.kept; symbols = rises.symbols; atoms = rises.atoms })
            (to_add-below (IsBelow now.next_sym) p (term now.vars) (d.ordered invariant) tests to
            (to_add_test-below (IsBelow now.next_sym) p (term now.vars) t inside to
            (to_run-below (IsBelow now.next_sym) body (again p invariant ∷ []) (tt, tt))))
            (to_add-fits d p (term now.vars) (d.ordered invariant) tests h.todo.0
            (to_add_test-fits d p (term now.vars) t inside
            (to_run-fits d body (again p invariant ∷ []) h.todo.2 h.todo.0))),
        (
          keeps-goal d s (record now { taken = [] }) (to_add p (term now.vars) (d.ordered invariant) ++ others)
              (given-shaped d now k) (record { kept = rises.kept; symbols = rises.symbols; atoms = rises.atoms })
              (to_add-below (IsBelow now.next_sym) p (term now.vars) (d.ordered invariant) others to
              (to_add_test-below (IsBelow now.next_sym) p (term now.vars) (negation ENil t) rest to
              (rest-later d s item rest left h now rises)))
              (to_add-fits d p (term now.vars) (d.ordered invariant) others h.todo.0
              (to_add_test-fits d p (term now.vars) (negation ENil t) rest h.todo.3)),
          tt,
        ),
      )

-- ALL ROWS
module _ (d : Setting) (fits : ProgramFits d) (goal : Goal) (left : List Goal) (h : IsFitting d goal) where
  front : (todo : List Item) → goal.todo ≡ todo → IsFitting d (record { state = goal.state; todo = todo })
  front todo e = subst (λ z. IsFitting d (record { state = goal.state; todo = z })) e h

  pub cases-keep : Rows d goal left → AllKeep d goal.state left
  cases-keep (by_absurd e) = absurd-keeps d goal left h e
  cases-keep (by_drop a e) = drop-keeps d goal left h a e
  cases-keep (by_force a e) = force-keeps d goal left h a e
  cases-keep (by_split x y e) = split-keeps d goal left h x y e
  cases-keep (by_unroll a e) = unroll-keeps d goal left h a e
  cases-keep (by_back a e) = back-keeps d goal left h a e
  cases-keep (by_assign p x e rest is row) = assign-keeps d goal.state rest left p x e (front _ is) row
  cases-keep (by_look a p x e f rest is row) = look-keeps d goal.state rest left p x e f a (front _ is) row
  cases-keep (by_mutate a p e f v rest is row) = mutate-keeps d goal.state rest left p e f v a (front _ is) row
  cases-keep (by_new p x rest is row) = new-keeps d goal.state rest left p x (front _ is) row
  cases-keep (by_dispose a p e rest is row) = dispose-keeps d goal.state rest left p e a (front _ is) row
  cases-keep (by_choice so p t this that rest is row) =
      choice-keeps d goal.state rest left so p t this that (front _ is) row
  cases-keep (by_loop p t invariant body rest is e) =
      loop-keeps d goal.state rest left p t invariant body (front _ is) e
  cases-keep (by_call p c callee rest is there e) =
      call-keeps d goal.state rest left fits p c callee there (front _ is) e
  cases-keep (by_fork p c o one two rest is there also_there e) =
      fork-keeps d goal.state rest left fits p c o one two there also_there (front _ is) e
  cases-keep (by_enter p r t body of rest is there e) =
      enter-keeps d goal.state rest left fits p r t body of there (front _ is) e
  cases-keep (by_add p given rest is row) =
      add-keeps d goal.state p given rest left (front _ is) (few-left (operands given.conjuncts) _ left row)
  cases-keep (by_choice_assumed so p given rest is row) =
      choice_assumed-keeps d so goal.state p rest left given (front _ is) row
  cases-keep (by_step tag p want names rest is row) =
      step-keeps d goal.state p want names rest (front _ is) tag left row
  cases-keep (by_choice_shown so p want names rest is row) =
      choice_shown-keeps d so goal.state p rest left want names (front _ is) row
  cases-keep (by_give p set removed rest is e) = give-keeps d goal.state rest left p set removed (front _ is) e
  cases-keep (by_around p t invariant body rest is e) =
      around-keeps d goal.state rest left p t invariant body (front _ is) e
  cases-keep (by_again p invariant rest is e) = again-keeps d goal.state rest left p invariant (front _ is) e
  cases-keep (by_exit p r of rest is there e) = exit-keeps d goal.state rest left fits p r of there (front _ is) e
  cases-keep (by_return p owed rest is e) = return-keeps d goal.state rest left p owed (front _ is) e
  cases-keep (by_end p rest is none e) = none-keep d goal.state left (ap Some (sym e))
