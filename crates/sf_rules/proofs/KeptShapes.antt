-- Every row keeps what the shape of a goal asks beside the symbols that it speaks of and what fits: its lists are in order,
-- its conjuncts are formed, and what it has to do has the form that rows make.
-- Names: `ROW-orderly`; `WHAT-formed` of things to do.
use Rattle.sf_sym.specs.declared.atom.Numbered.{Numbered}
use Rattle.sf_precise.specs.Annotations.{owed}
use Rattle.sf_core.specs.Program.Init.{is_init}
use Rattle.std.specs.List.{AllByRecursion, IsDistinct, flat_map}
use Rattle.std.specs.Prelude.{get_or}
use Rattle.std.proofs.Common.{◌≡◌, ℕ, ◌+◌, ◌-◌, Bool, true, false, Some, List, [], ◌∷◌, ◌++◌, length, refl, sym, ◌∙◌, subst, inl, inr, arith, map}
use Rattle.sf_base.proofs.Elements.{all_by-append}
use Rattle.sf_base.specs.declared.ids.ProcId.{ProcId}
use Rattle.sf_base.specs.declared.ids.ResId.{ResId}
use Rattle.sf_base.specs.declared.ids.Var.{Var}
use Rattle.sf_base.specs.declared.place.Place.{Place}
use Rattle.sf_calls.specs.Changes.{changed}
use Rattle.sf_core.specs.declared.assertion.Test.{Test}
use Rattle.sf_core.specs.declared.assertion.Test.TheVariants.{True, Equal, Differ}
use Rattle.sf_core.specs.declared.command.Expr.{Expr}
use Rattle.sf_core.specs.declared.command.Expr.TheVariants.{Nil as ENil}
use Rattle.sf_core.specs.declared.fields.Links.{Links}
use Rattle.sf_core.specs.Program.Syntax.{Assertion, Block, Command, assign, look_up, mutate, new, dispose, if, while, call, fork, with, Procedure}
use Rattle.sf_normal.specs.Checked.Laws.{AbsurdKeepsGoals, BackKeepsGoals, DropKeepsGoals, ForceKeepsGoals, SplitKeepsGoals, UnrollKeepsGoals}
use Rattle.sf_produce.specs.Add.{operands}
use Rattle.sf_rules.proofs.ShapedRows.{ProgramFits}
use Rattle.sf_rules.specs.Checked.LawsOfCommands.{AssignFollowsEvent, DisposeFollowsEvent, ElseFollowsTest, LookFollowsEvent, MutateFollowsEvent, NewFollowsEvent, ThenFollowsTest, before_command}
use Rattle.sf_rules.specs.Checked.LawsOfRows.{RowLaws}
use Rattle.sf_rules.specs.Checked.LawsOfConjuncts.{AssumeKeepsGoals, AssumedBranchKeepsGoals, LeftToShow, ShownBranchLeavesRest, SubtractionLeavesRest, showing}
use Rattle.sf_rules.specs.Checked.Lemmas.{few-left}
use Rattle.sf_rules.specs.Checked.Lemmas.CommandChildren.{IsOrdered, Stays, assign-stays, branch-stays, dispose-stays, look-stays, mutate-stays, new-stays}
use Rattle.sf_rules.specs.Checked.Lemmas.FirstVariables.{symbols-order}
use Rattle.sf_rules.specs.Checked.Lemmas.Forms.{adding-assuming, body-assuming, body-run, form-command, items-formed_run, taking-showing}
use Rattle.sf_rules.specs.Checked.Lemmas.StateChildren.{AllStay, absurd-stays, add-stays, back-stays, choice-stays, drop-stays, force-stays, split-stays, unroll-stays}
use Rattle.sf_rules.specs.Checked.Lemmas.Subtracting.{Lists, chosen-lists, subtract-lists}
use Rattle.sf_sym.specs.Checked.Lemmas.Updates.{remove_vars-order, set_vars-order}
use Rattle.sf_rules.specs.Checked.RowCases.{Rows, by_absurd, by_add, by_again, by_around, by_assign, by_back, by_call, by_choice, by_choice_assumed, by_choice_shown, by_dispose, by_drop, by_end, by_enter, by_exit, by_force, by_fork, by_give, by_look, by_loop, by_mutate, by_new, by_return, by_split, by_step, by_unroll, goal_of}
use Rattle.sf_rules.specs.First.{first_goal, links_of, nils, own_vars, symbols, nil_for, with_held, with_nil}
use Rattle.sf_rules.specs.Resources.{variables_of, variables_from}
use Rattle.sf_rules.specs.Checked.Rows.Branches.{branch_row}
use Rattle.sf_rules.specs.Callee.{term_after, term_before}
use Rattle.sf_rules.specs.Checked.Rows.Loops.{after_loop, body_once}
use Rattle.sf_rules.specs.Rules.{unknown_in}
use Rattle.sf_rules.specs.Setting.{Setting}
use Rattle.sf_rules.specs.Shape.{IsShaped, MayStand}
use Rattle.sf_rules.specs.Words.{negation, pending_assertion, test_conjuncts, to_add, to_add_test, to_take, to_take_each}
use Rattle.sf_sym.specs.Checked.Laws.{Follows}
use Rattle.sf_sym.specs.Checked.Lemmas.Formed.{formed-adding, formed-taking}
use Rattle.sf_sym.specs.declared.term.Term.{Term}
use Rattle.sf_sym.specs.Formed.{AreFormed, IsScoped, ItemFormed, PendingFormed}
use Rattle.sf_sym.specs.Goal.{Item, run, add, take, gave, head, again, exit, return, end, Goal, to_run}
use Rattle.sf_sym.specs.Pending.{Pending}
use Rattle.sf_sym.specs.Ready.{HasOrder}
use Rattle.sf_sym.specs.Shape.{HasForm, IsAssuming, IsBody, IsShowing}
use Rattle.sf_sym.specs.State.{State, term, with_symbols, first_state}
use Rattle.sf_sym.specs.Variables.{AreInOrder, fresh_for, remove_vars, set_vars, with_fresh}

-- what the shape of a goal asks beside the symbols that it speaks of and what fits
pub record IsOrderly (goal : Goal) : Type 0 where
  pub ordered : IsOrdered goal.state
  pub formed : AreFormed goal
  pub form : HasForm goal

abbrev pub AllOrderly : List Goal → Type 0
AllOrderly left = AllByRecursion IsOrderly left

-- THINGS TO DO that are formed
test-formed : (links : Links) (p : Place) (to : Expr → Term) (t : Test Expr)
    → PendingFormed links (record { conjuncts = test_conjuncts p to t; bindings = [] })
    × IsScoped (record { conjuncts = test_conjuncts p to t; bindings = [] })
unfolding IsDistinct
test-formed links p to True =
    (tt, record { distinct = tt; occurring = λ n o. absurd o; bound = λ n u e. refl })
test-formed links p to (Equal x y) =
    (((tt, tt), tt), record { distinct = tt; occurring = λ n o. refl; bound = λ n u e. refl })
test-formed links p to (Differ x y) =
    (((tt, tt), tt), record { distinct = tt; occurring = λ n o. refl; bound = λ n u e. refl })

abbrev Formed : Links → List Item → Type 0
Formed links todo = AllByRecursion (ItemFormed links) todo

module _ (links : Links) (p : Place) (to : Expr → Term) where
  pub to_add-formed : (a : Assertion) (rest : List Item) → MayStand links a → Formed links rest
      → Formed links (to_add p to a ++ rest)
  to_add-formed a rest m f =
      let k = m to in
      all_by-append (ItemFormed links) (to_add p to a) rest
      (formed-adding links p (pending_assertion to a) k.0 k.1) f

  pub to_take-formed : (a : Assertion) (rest : List Item) → MayStand links a → Formed links rest
      → Formed links (to_take p to a ++ rest)
  to_take-formed a rest m f =
      all_by-append (ItemFormed links) (to_take p to a) rest
      (formed-taking links p (pending_assertion to a) a.names (m to).0) f

  pub to_add_test-formed : (t : Test Expr) (rest : List Item) → Formed links rest
      → Formed links (to_add_test p to t ++ rest)
  to_add_test-formed t rest f =
      let k = test-formed links p to t in
      all_by-append (ItemFormed links) (to_add_test p to t) rest
      (formed-adding links p (record { conjuncts = test_conjuncts p to t; bindings = [] }) k.0 k.1) f

-- ROWS OF WHICH A LAW SAYS what follows
follow-orderly : (goal : Goal) → AreFormed goal → HasForm goal → (left : List Goal)
    → AllByRecursion (Follows goal) left → AllStay goal left → AllOrderly left
follow-orderly goal formed form [] f s = tt
follow-orderly goal formed form (g ∷ gs) f s = (
  record { ordered = s.0.state.ordered; formed = f.0.formed formed; form = s.0.form form },
  follow-orderly goal formed form gs f.1 s.1,
)

-- after a command, the rest or a block and the rest is to be done
command-orderly : (goal : Goal) (todo : List Item) → AreFormed goal → IsBody todo → goal.state.taken ≡ []
    → (left : List Goal) → AllByRecursion (Follows goal) left → AllByRecursion (Stays goal.state todo) left
    → AllOrderly left
command-orderly goal todo formed body taken [] f s = tt
command-orderly goal todo formed body taken (g ∷ gs) f s = (
  record {
    ordered = s.0.ordered;
    formed = f.0.formed formed;
    form = inl (subst IsAssuming (sym s.0.to_do) (body-assuming todo body), s.0.taken ∙ taken);
  },
  command-orderly goal todo formed body taken gs f.1 s.1,
)

module _ (s : State) (rest : List Item) (left : List Goal) where
  -- a command in front
  module _ (c : Command) (h : IsOrderly (before_command s c rest)) where
    form : IsBody rest × (s.taken ≡ [])
    form = form-command s c rest h.form

    one-command : AllByRecursion (Follows (before_command s c rest)) left → AllByRecursion (Stays s rest) left
        → AllOrderly left
    one-command f k = command-orderly (before_command s c rest) rest h.formed form.0 form.1 left f k

    branch-command : (b : Block) → AllByRecursion (Follows (before_command s c rest)) left
        → AllByRecursion (Stays s (to_run b ++ rest)) left → AllOrderly left
    branch-command b f k =
        command-orderly (before_command s c rest) (to_run b ++ rest) h.formed (body-run b rest form.0) form.1 left f k

  -- conjuncts to show in front
  shown-orderly : (p : Place) (want : Pending) (names : List (List ℕ)) → IsOrderly (showing s p want names rest)
      → LeftToShow s p want names rest left → AllByRecursion (λ (g : Goal). Lists s g.state) left
      → AllOrderly left
  shown-orderly p want names h k l =
      let list = (subst (AllByRecursion (λ (g : Goal). Lists s g.state)) k.is l).0 in
      let form : IsShowing rest = elim h.form [ inl i ↦ absurd i.0 | inr i ↦ i ] in
      subst AllOrderly (sym k.is) (
        record {
          ordered = record {
            vars = subst AreInOrder (sym list.vars) h.ordered.vars;
            fields = list.fields h.ordered.fields;
          };
          formed = k.follow.formed h.formed;
          form = inr (taking-showing p _ names rest form);
        },
        tt,
      )

-- ROWS THAT LEAVE what is written
module _ (d : Setting) (s : State) (links : s.links ≡ links_of d.program) (rest : List Item) (left : List Goal) where
  -- an assertion that may stand in goals of the program may in this one
  stands : (a : Assertion) → MayStand (links_of d.program) a → MayStand s.links a
  stands a m = subst (λ k. MayStand k a) (sym links) m

  one-left : (s2 : State) (todo : List Item) → left ≡ goal_of s2 todo ∷ [] → IsOrdered s2
      → Formed s2.links todo → HasForm (goal_of s2 todo) → AllOrderly left
  one-left s2 todo e o f k = subst AllOrderly (sym e) (record { ordered = o; formed = f; form = k }, tt)

  module _ (item : Item) (h : IsOrderly (record { state = s; todo = item ∷ rest })) where
    loop-orderly : (p : Place) (t : Test Expr) (invariant : Assertion) (body : Block)
        → MayStand (links_of d.program) (d.ordered invariant) → IsBody rest
        → left ≡ goal_of s (to_take p (term s.vars) (d.ordered invariant) ++ (head p t invariant body ∷ rest)) ∷ []
        → AllOrderly left
    loop-orderly p t invariant body m b e =
        let a = d.ordered invariant in
        let after = head p t invariant body ∷ rest in
        one-left s (to_take p (term s.vars) a ++ after) e h.ordered
        (to_take-formed s.links p (term s.vars) a after (stands a m) (tt, h.formed.1))
        (inr (taking-showing p (pending_assertion (term s.vars) a) a.names after b))

    -- an assertion is due, and then all ends
    end-orderly : (p : Place) (a : Assertion) → MayStand (links_of d.program) a
        → left ≡ goal_of s (to_take p (term s.vars) a ++ (end p ∷ [])) ∷ [] → AllOrderly left
    end-orderly p a m e =
        one-left s (to_take p (term s.vars) a ++ (end p ∷ [])) e h.ordered
        (to_take-formed s.links p (term s.vars) a (end p ∷ []) (stands a m) (tt, tt))
        (inr (taking-showing p (pending_assertion (term s.vars) a) a.names (end p ∷ []) tt))

    -- assertions are due, one after the other, and then all ends
    each-formed : (p : Place) (owed : List Assertion) → AllByRecursion (MayStand (links_of d.program)) owed
        → Formed s.links (to_take_each p (term s.vars) owed (end p ∷ []))
    each-formed p [] m = (tt, tt)
    each-formed p (a ∷ owed) m =
        to_take-formed s.links p (term s.vars) a (to_take_each p (term s.vars) owed (end p ∷ [])) (stands a m.0)
        (each-formed p owed m.1)

    each-showing : (p : Place) (owed : List Assertion) → IsShowing (to_take_each p (term s.vars) owed (end p ∷ []))
    each-showing p [] = tt
    each-showing p (a ∷ owed) =
        taking-showing p (pending_assertion (term s.vars) a) a.names (to_take_each p (term s.vars) owed (end p ∷ []))
        (each-showing p owed)

    ends-orderly : (p : Place) (owed : List Assertion) → AllByRecursion (MayStand (links_of d.program)) owed
        → left ≡ goal_of s (to_take_each p (term s.vars) owed (end p ∷ [])) ∷ [] → AllOrderly left
    ends-orderly p owed m e =
        one-left s (to_take_each p (term s.vars) owed (end p ∷ [])) e h.ordered (each-formed p owed m)
        (inr (each-showing p owed))

    exit-orderly : (p : Place) (xs : List Var) (a : Assertion) → MayStand (links_of d.program) a → IsBody rest
        → left ≡ goal_of s (to_take p (term s.vars) a ++ (gave p [] xs ∷ rest)) ∷ [] → AllOrderly left
    exit-orderly p xs a m b e =
        let after = gave p [] xs ∷ rest in
        one-left s (to_take p (term s.vars) a ++ after) e h.ordered
        (to_take-formed s.links p (term s.vars) a after (stands a m) (tt, h.formed.1))
        (inr (taking-showing p (pending_assertion (term s.vars) a) a.names after (body-assuming rest b)))

    give-orderly : (set : List (Var × Term)) (removed : List Var) → IsAssuming rest
        → left ≡ goal_of (record s { taken = []; vars = remove_vars removed (set_vars set s.vars) }) rest ∷ []
        → AllOrderly left
    give-orderly set removed b e =
        one-left (record s { taken = []; vars = remove_vars removed (set_vars set s.vars) }) rest e
        (record {
          vars = remove_vars-order removed (set_vars set s.vars) (set_vars-order set s.vars h.ordered.vars);
          fields = h.ordered.fields;
        })
        h.formed.1 (inl (b, refl))

    call-orderly : (p q : Place) (to after : Expr → Term) (set : List (Var × Term)) (pre post : Assertion)
        → MayStand (links_of d.program) pre → MayStand (links_of d.program) post → IsBody rest
        → left ≡ goal_of (with_symbols (length set) s) (to_take q to pre
        ++ (gave p set [] ∷ (to_add p after post ++ rest))) ∷ []
        → AllOrderly left
    call-orderly p q to after set pre post m k b e =
        let adds = to_add p after post ++ rest in
        let gives = gave p set [] ∷ adds in
        one-left (with_symbols (length set) s) (to_take q to pre ++ gives) e
        (record { vars = h.ordered.vars; fields = h.ordered.fields })
        (to_take-formed s.links q to pre gives (stands pre m)
        (tt, to_add-formed s.links p after post rest (stands post k) h.formed.1))
        (inr (taking-showing q (pending_assertion to pre) pre.names gives
        (adding-assuming p (pending_assertion after post) rest (body-assuming rest b))))

    fork-orderly : (p q r : Place) (to_one to_two after_one after_two : Expr → Term) (set : List (Var × Term))
        (pre_one pre_two post_one post_two : Assertion) → MayStand (links_of d.program) pre_one
        → MayStand (links_of d.program) pre_two → MayStand (links_of d.program) post_one
        → MayStand (links_of d.program) post_two → IsBody rest
        → left ≡ goal_of (with_symbols (length set) s) (to_take q to_one pre_one ++ (to_take r to_two pre_two
        ++ (gave p set [] ∷ (to_add p after_one post_one ++ (to_add p after_two post_two ++ rest))))) ∷ []
        → AllOrderly left
    fork-orderly p q r to_one to_two after_one after_two set pre_one pre_two post_one post_two m k m2 k2 b e =
        let adds_two = to_add p after_two post_two ++ rest in
        let adds = to_add p after_one post_one ++ adds_two in
        let gives = gave p set [] ∷ adds in
        let takes = to_take r to_two pre_two ++ gives in
        one-left (with_symbols (length set) s) (to_take q to_one pre_one ++ takes) e
        (record { vars = h.ordered.vars; fields = h.ordered.fields })
        (to_take-formed s.links q to_one pre_one takes (stands pre_one m)
        (to_take-formed s.links r to_two pre_two gives (stands pre_two k) (
          tt,
          to_add-formed s.links p after_one post_one adds_two (stands post_one m2)
              (to_add-formed s.links p after_two post_two rest (stands post_two k2) h.formed.1),
        )))
        (inr (taking-showing q (pending_assertion to_one pre_one) pre_one.names takes
        (taking-showing r (pending_assertion to_two pre_two) pre_two.names gives
        (adding-assuming p (pending_assertion after_one post_one) adds_two
        (adding-assuming p (pending_assertion after_two post_two) rest (body-assuming rest b))))))

    enter-orderly : (p : Place) (r : ResId) (t : Test Expr) (body : Block) (xs : List Var) (a : Assertion)
        → MayStand (links_of d.program) a → IsBody rest → s.taken ≡ []
        → (let now = with_fresh xs s in
        left ≡ goal_of now (to_add p (term now.vars) a
        ++ (to_add_test p (term now.vars) t ++ (to_run body ++ (exit p r ∷ rest)))) ∷ [])
        → AllOrderly left
    enter-orderly p r t body xs a m b taken e =
        let now = with_fresh xs s in
        let to = term now.vars in
        let inside = to_run body ++ (exit p r ∷ rest) in
        let tests = to_add_test p to t ++ inside in
        one-left now (to_add p to a ++ tests) e
        (record { vars = set_vars-order (fresh_for s.next_sym xs) s.vars h.ordered.vars; fields = h.ordered.fields })
        (to_add-formed s.links p to a tests (stands a m) (to_add_test-formed s.links p to t inside
        (items-formed_run s.links body (exit p r ∷ rest) (tt, h.formed.1))))
        (inl (
          adding-assuming p (pending_assertion to a) tests (adding-assuming p
              (record { conjuncts = test_conjuncts p to t; bindings = [] }) inside
              (body-assuming inside (body-run body (exit p r ∷ rest) b))),
          taken,
        ))

    around-orderly : (p : Place) (t : Test Expr) (invariant : Assertion) (body : Block)
        → MayStand (links_of d.program) (d.ordered invariant) → IsBody rest
        → (let now = with_fresh (unknown_in d s body) s in
        left ≡ body_once d now p t invariant body ∷ after_loop d now p t invariant rest ∷ [])
        → AllOrderly left
    around-orderly p t invariant body m b e =
        let xs = unknown_in d s body in
        let now = with_fresh xs s in
        let to = term now.vars in
        let a = d.ordered invariant in
        let order = set_vars-order (fresh_for s.next_sym xs) s.vars h.ordered.vars in
        let inside = to_run body ++ (again p invariant ∷ []) in
        let tests = to_add_test p to t ++ inside in
        let others = to_add_test p to (negation ENil t) ++ rest in
        subst AllOrderly (sym e) (
          record {
            ordered = record { vars = order; fields = tt };
            formed = to_add-formed s.links p to a tests (stands a m) (to_add_test-formed s.links p to t inside
                (items-formed_run s.links body (again p invariant ∷ []) (tt, tt)));
            form = inl (
              adding-assuming p (pending_assertion to a) tests (adding-assuming p
                  (record { conjuncts = test_conjuncts p to t; bindings = [] }) inside
                  (body-assuming inside (body-run body (again p invariant ∷ []) tt))),
              refl,
            );
          },
          (
            record {
              ordered = record { vars = order; fields = h.ordered.fields };
              formed = to_add-formed s.links p to a others (stands a m)
                  (to_add_test-formed s.links p to (negation ENil t) rest h.formed.1);
              form = inl (
                adding-assuming p (pending_assertion to a) others (adding-assuming p
                    (record { conjuncts = test_conjuncts p to (negation ENil t); bindings = [] }) rest
                    (body-assuming rest b)),
                refl,
              );
            },
            tt,
          ),
        )

-- ALL ROWS
module _ (laws : RowLaws) (d : Setting) (fits : ProgramFits d) (goal : Goal) (left : List Goal)
    (h : IsShaped d goal) where
  abbrev s : State
  s = goal.state

  orderly : IsOrderly goal
  orderly = record {
    ordered = record { vars = h.shape.vars; fields = h.shape.fields };
    formed = h.shape.formed;
    form = h.shape.form;
  }

  state-orderly : AllByRecursion (Follows goal) left → AllStay goal left → AllOrderly left
  state-orderly f k = follow-orderly goal h.shape.formed h.shape.form left f k

  module _ (todo : List Item) (is : goal.todo ≡ todo) where
    front : IsShaped d (record { state = s; todo = todo })
    front = subst (λ z. IsShaped d (record { state = s; todo = z })) is h

    front-orderly : IsOrderly (record { state = s; todo = todo })
    front-orderly = subst (λ z. IsOrderly (record { state = s; todo = z })) is orderly

  order : IsOrdered s
  order = orderly.ordered

  choice-orderly : (so : Bool) (p : Place) (t : Test Expr) (this that : Block) (rest : List Item)
      → goal.todo ≡ run (if p t this that) ∷ rest → branch_row so s (run (if p t this that) ∷ rest) ≡ Some left
      → AllOrderly left
  unfolding ThenFollowsTest ElseFollowsTest
  choice-orderly true p t this that rest is row =
      let c = if p t this that in
      branch-command s rest left c (front-orderly (run c ∷ rest) is) this
      (laws.then_law s rest left p t this that (front (run c ∷ rest) is).shape row).follow
      (branch-stays true s rest left p t this that order row)
  choice-orderly false p t this that rest is row =
      let c = if p t this that in
      branch-command s rest left c (front-orderly (run c ∷ rest) is) that
      (laws.else_law s rest left p t this that (front (run c ∷ rest) is).shape row).follow
      (branch-stays false s rest left p t this that order row)

  module _ (c : Command) (rest : List Item) (is : goal.todo ≡ run c ∷ rest) where
    here : IsShaped d (before_command s c rest)
    here = front (run c ∷ rest) is

    here-orderly : IsOrderly (before_command s c rest)
    here-orderly = front-orderly (run c ∷ rest) is

    body : IsBody rest
    body = (form-command s c rest here.shape.form).0

    one : AllByRecursion (Follows (before_command s c rest)) left → AllByRecursion (Stays s rest) left
        → AllOrderly left
    one f k = one-command s rest left c here-orderly f k

  cases-orderly : Rows d goal left → AllOrderly left
  unfolding AbsurdKeepsGoals DropKeepsGoals ForceKeepsGoals SplitKeepsGoals UnrollKeepsGoals BackKeepsGoals AssignFollowsEvent LookFollowsEvent MutateFollowsEvent NewFollowsEvent DisposeFollowsEvent AssumeKeepsGoals AssumedBranchKeepsGoals SubtractionLeavesRest ShownBranchLeavesRest
  cases-orderly (by_absurd e) =
      state-orderly (laws.absurd_law goal left h.shape e).follow (absurd-stays goal left e)
  cases-orderly (by_drop a e) =
      state-orderly (laws.drop_law a goal left h.shape e).follow (drop-stays goal left a order e)
  cases-orderly (by_force a e) =
      state-orderly (laws.force_law a goal left h.shape e).follow (force-stays goal left a order e)
  cases-orderly (by_split x y e) =
      state-orderly (laws.split_law x y goal left h.shape e).follow (split-stays goal left x y order e)
  cases-orderly (by_unroll a e) =
      state-orderly (laws.unroll_law a goal left h.shape e).follow (unroll-stays goal left a order e)
  cases-orderly (by_back a e) =
      state-orderly (laws.back_law a goal left h.shape e).follow (back-stays goal left a order e)
  cases-orderly (by_assign p x e rest is row) =
      let c = assign p x e in
      one c rest is (laws.assign_law s rest left p x e (here c rest is).shape row).follow
      (assign-stays s rest left p x e order row)
  cases-orderly (by_look a p x e f rest is row) =
      let c = look_up p x e f in
      one c rest is (laws.look_law s rest left p x e f a (here c rest is).shape row).follow
      (look-stays s rest left p x e f a order row)
  cases-orderly (by_mutate a p e f v rest is row) =
      let c = mutate p e f v in
      one c rest is (laws.mutate_law s rest left p e f v a (here c rest is).shape row).follow
      (mutate-stays s rest left p e f v a order row)
  cases-orderly (by_new p x rest is row) =
      let c = new p x in
      one c rest is (laws.new_law s rest left p x (here c rest is).shape row).follow
      (new-stays s rest left p x order row)
  cases-orderly (by_dispose a p e rest is row) =
      let c = dispose p e in
      one c rest is (laws.dispose_law s rest left p e a (here c rest is).shape row).follow
      (dispose-stays s rest left p e a order row)
  cases-orderly (by_choice so p t this that rest is row) = choice-orderly so p t this that rest is row
  cases-orderly (by_loop p t invariant inside rest is e) =
      let c = while p t invariant inside in
      loop-orderly d s h.state.links rest left (run c) (here-orderly c rest is) p t invariant inside
      (here c rest is).todo.0.0 (body c rest is) e
  cases-orderly (by_call p c callee rest is there e) =
      let it = call p c in
      let f = fits.procedures c.callee.0 callee there in
      call-orderly d s h.state.links rest left (run it) (here-orderly it rest is) p c.place (term_before s c)
      (term_after s (fresh_for s.next_sym (changed d.sets c)) c) (fresh_for s.next_sym (changed d.sets c))
      (d.ordered callee.pre) (d.ordered callee.post) f.0 f.1 (body it rest is) e
  cases-orderly (by_fork p c o one two rest is there also_there e) =
      let it = fork p c o in
      let f = fits.procedures c.callee.0 one there in
      let g = fits.procedures o.callee.0 two also_there in
      let first = fresh_for s.next_sym (changed d.sets c) in
      let second = fresh_for (s.next_sym + length first) (changed d.sets o) in
      fork-orderly d s h.state.links rest left (run it) (here-orderly it rest is) p c.place o.place (term_before s c)
      (term_before s o) (term_after s first c) (term_after s second o) (first ++ second) (d.ordered one.pre)
      (d.ordered two.pre) (d.ordered one.post) (d.ordered two.post) f.0 g.0 f.1 g.1 (body it rest is) e
  cases-orderly (by_enter p r t inside of rest is there e) =
      let c = with p r t inside in
      enter-orderly d s h.state.links rest left (run c) (here-orderly c rest is) p r t inside
      (variables_from r 0 of.variables) (d.ordered of.invariant) (fits.resources r.0 of there) (body c rest is)
      (form-command s c rest (here c rest is).shape.form).1 e
  cases-orderly (by_add p given rest is row) =
      let it = add p given ∷ rest in
      follow-orderly (record { state = s; todo = it }) (front-orderly it is).formed (front-orderly it is).form left
      (laws.assume_law s p given rest left (front it is).shape row).follow
      (add-stays s p given rest left order (few-left (operands given.conjuncts) _ left row))
  cases-orderly (by_choice_assumed so p given rest is row) =
      let it = add p given ∷ rest in
      follow-orderly (record { state = s; todo = it }) (front-orderly it is).formed (front-orderly it is).form left
      (laws.assumed_branch_law so s p given rest left (front it is).shape row).follow
      (choice-stays so s p given rest left order row)
  cases-orderly (by_step tag p want names rest is row) =
      let it = take p want names ∷ rest in
      shown-orderly s rest left p want names (front-orderly it is)
      (laws.subtraction_law tag s p want names rest left (front it is).shape row)
      (subtract-lists tag s p want names rest left row)
  cases-orderly (by_choice_shown so p want names rest is row) =
      let it = take p want names ∷ rest in
      shown-orderly s rest left p want names (front-orderly it is)
      (laws.shown_branch_law so s p want names rest left (front it is).shape row)
      (chosen-lists so s p want names rest left row)
  cases-orderly (by_give p set removed rest is e) =
      let it = gave p set removed ∷ rest in
      give-orderly d s h.state.links rest left (gave p set removed) (front-orderly it is) set removed
      (elim (front it is).shape.form [ inl i ↦ absurd i.0 | inr i ↦ i ]) e
  cases-orderly (by_around p t invariant inside rest is e) =
      let it = head p t invariant inside ∷ rest in
      around-orderly d s h.state.links rest left (head p t invariant inside) (front-orderly it is) p t invariant
      inside (front it is).todo.0 (elim (front it is).shape.form [ inl i ↦ absurd i.0 | inr i ↦ i ]) e
  cases-orderly (by_again p invariant rest is e) =
      let it = again p invariant ∷ rest in
      end-orderly d s h.state.links rest left (again p invariant) (front-orderly it is) p (d.ordered invariant)
      (front it is).todo e
  cases-orderly (by_exit p r of rest is there e) =
      let it = exit p r ∷ rest in
      exit-orderly d s h.state.links rest left (exit p r) (front-orderly it is) p
      (variables_from r 0 of.variables) (d.ordered of.invariant) (fits.resources r.0 of there)
      (elim (front it is).shape.form [ inl i ↦ i.0 | inr i ↦ absurd i ]) e
  cases-orderly (by_return p owed rest is e) =
      let it = return p owed ∷ rest in
      ends-orderly d s h.state.links rest left (return p owed) (front-orderly it is) p owed (front it is).todo e
  cases-orderly (by_end p rest is none e) = subst AllOrderly (sym e) tt

  pub rows-orderly : Rows d goal left → AllOrderly left
  rows-orderly r = cases-orderly r

-- THE FIRST GOAL in a state that has its variables in order, and of the heap knows nothing
first-orderly_in : (d : Setting) (g : Procedure) (s : State) → MayStand (links_of d.program) (d.ordered g.pre)
    → AreInOrder s.vars → s.atoms ≡ [] → s.taken ≡ [] → s.links ≡ links_of d.program
    → IsOrderly (record {
      state = s;
      todo = to_add g.place (term s.vars) (d.ordered g.pre)
          ++ (to_run g.body ++ (return g.end (map d.ordered (owed d.program g)) ∷ []));
    })
first-orderly_in d g s m order atoms taken links =
    let a = d.ordered g.pre in
    let to = term s.vars in
    let last = return g.end (map d.ordered (owed d.program g)) ∷ [] in
    record {
      ordered = record {
        vars = order;
        fields = subst (AllByRecursion (λ (x : Numbered). HasOrder x.atom)) (sym atoms) tt;
      };
      formed = subst (λ k. Formed k (to_add g.place to a ++ (to_run g.body ++ last))) (sym links)
          (to_add-formed (links_of d.program) g.place to a (to_run g.body ++ last) m
          (items-formed_run (links_of d.program) g.body last (tt, tt)));
      form = inl (
        adding-assuming g.place (pending_assertion to a) (to_run g.body ++ last)
            (body-assuming (to_run g.body ++ last) (body-run g.body last tt)),
        taken,
      );
    }

pub first-orderly : (d : Setting) (f : ProcId) (g : Procedure) → MayStand (links_of d.program) (d.ordered g.pre)
    → IsOrderly (first_goal d f g)
first-orderly d f g m = go (is_init g)
  where
    own : AreInOrder (own_vars g)
    own = subst (λ k. AreInOrder (symbols 0 (g.references + g.values) ++ nils k (length g.names - (g.references + g.values))))
        (let e : 0 + (g.references + g.values) ≡ g.references + g.values = omega arith in e)
        (symbols-order 0 (g.references + g.values) (length g.names - (g.references + g.values)))

    go : (b : Bool) → IsOrderly (record {
      state = with_held b (flat_map (variables_of d.program) (get_or d.sets.holds f.0 []))
          (first_state (links_of d.program) (own_vars g) (g.references + g.values));
      todo = to_add g.place (term (with_held b (flat_map (variables_of d.program) (get_or d.sets.holds f.0 []))
          (first_state (links_of d.program) (own_vars g) (g.references + g.values))).vars) (d.ordered g.pre)
          ++ (to_run g.body ++ (return g.end (map d.ordered (owed d.program g)) ∷ []));
    })
    go true =
        first-orderly_in d g (with_nil (flat_map (variables_of d.program) (get_or d.sets.holds f.0 []))
        (first_state (links_of d.program) (own_vars g) (g.references + g.values))) m
        (set_vars-order (nil_for (flat_map (variables_of d.program) (get_or d.sets.holds f.0 []))) (own_vars g) own)
        refl refl refl
    go false =
        first-orderly_in d g (with_fresh (flat_map (variables_of d.program) (get_or d.sets.holds f.0 []))
        (first_state (links_of d.program) (own_vars g) (g.references + g.values))) m
        (set_vars-order (fresh_for (g.references + g.values)
        (flat_map (variables_of d.program) (get_or d.sets.holds f.0 []))) (own_vars g) own)
        refl refl refl
