-- What the rows of loops and of ends leave, by what the code puts before what is left to do.
use Rattle.std.specs.List.{filter, list_any}
use Rattle.std.proofs.Common.{◌≡◌, ◌<◌, Bool, true, ◌||◌, cond, nat_lt, List, [], ◌∷◌, ◌++◌, length, Some, None, Vec, Global, map, refl, sym, ap, ◌∙◌, arith}
use Rattle.std.proofs.lemmas.Bool.Decides.{nat_tests}
use Rattle.std.proofs.lemmas.List.Elements.{filter_agree}
use Rattle.std.specs.Borrow.{Bor}
use Rattle.sf_base.specs.declared.ids.Var.{Var}
use Rattle.sf_base.specs.declared.place.Place.{Place}
use Rattle.sf_base.specs.Variables.{same_var}
use Rattle.sf_calls.specs.Changes.{changes_in}
use Rattle.sf_core.specs.declared.assertion.Test.{Test}
use Rattle.sf_core.specs.declared.assertion.Assertion.{Assertion as CodeAssertion}
use Rattle.sf_core.specs.declared.command.Command.{Command as CodeCommand, While}
use Rattle.sf_core.specs.declared.command.Command.TheVariants.{rolls-While}
use Rattle.sf_core.specs.declared.command.Command.TheFolds.{fold-roll-Command}
use Rattle.sf_core.specs.declared.command.Expr.{Expr}
use Rattle.sf_core.specs.declared.command.Expr.TheVariants.{Nil as ENil}
use Rattle.sf_core.specs.Program.Syntax.{Assertion, Block, Command, while}
use Rattle.sf_core.specs.Program.View.{assertion_of, block, block_of, command_of, command_step}
use Rattle.sf_sym.specs.declared.goal.Item.{Item as CodeItem}
use Rattle.sf_sym.specs.declared.goal.Item.TheVariants.{Again, Run}
use Rattle.sf_sym.specs.declared.term.Term.{Term}
use Rattle.sf_sym.specs.Goal.{Goal, Item, adding, again, end, head, items_of, return, run, taking, to_run, todo_of}
use Rattle.sf_sym.specs.Checked.Lemmas.{todo_of_push}
use Rattle.sf_sym.specs.Pending.{Pending}
use Rattle.sf_sym.specs.Ready.{is_listed}
use Rattle.sf_sym.specs.State.{State, term}
use Rattle.sf_sym.specs.Variables.{with_fresh}
use Rattle.sf_rules.specs.declared.few.TheConstants.{TOO_MANY}
use Rattle.sf_rules.specs.Checked.Rows.Ends as ends
use Rattle.sf_rules.specs.Checked.Rows.Front.{at_again, at_command, at_head, at_return}
use Rattle.sf_rules.specs.Checked.Rows.Loops as loops
use Rattle.sf_rules.specs.Rules.{unknown_in}
use Rattle.sf_rules.specs.Setting.{Setting}
use Rattle.sf_rules.specs.Words.{negation, pending_assertion, to_add, to_add_test, to_take, to_take_each}
use Rattle.sf_rules.proofs.Items.{to_run_of}

-- the goal with that state and those items
abbrev goal_of_parts : State → List Item → Goal
goal_of_parts s todo = record { state = s; todo = todo }

-- one item of the code more
pub pushed : (xs ys : List CodeItem) (x : CodeItem) → ys ≡ xs ++ x ∷ [] → todo_of ys ≡ items_of x ++ todo_of xs
pushed xs ys x e = ap todo_of e ∙ todo_of_push xs x

-- a body and what comes after it
pub body_todo : (p : Place) (a : Bor CodeAssertion) (body : Bor (List CodeCommand)) (first more all : List CodeItem)
    → first ≡ [] → more ≡ first ++ Again p a ∷ [] → all ≡ more ++ Run body ∷ []
    → todo_of all ≡ to_run (block_of body.now) ++ (again p (assertion_of a.now) ∷ [])
body_todo p a body first more all n m e =
    pushed more all (Run body) e
    ∙ (λ i. sym (to_run_of body.now) i
    ++ (pushed first more (Again p a) m ∙ ap (λ xs. again p (assertion_of a.now) ∷ todo_of xs) n) i)

module _ (vars : List (Var × Term)) (p : Place) (d : Setting) (a : Assertion) (rest todo : List Item) where
  -- an invariant in order, to assume
  pub given_first : (given : Pending) (next : List Item) → given ≡ pending_assertion (term vars) (d.ordered a)
      → next ≡ rest → todo ≡ adding p given ++ next → todo ≡ to_add p (term vars) (d.ordered a) ++ rest
  given_first given next w n t = t ∙ (λ i. adding p (w i) ++ n i)

  -- and to show
  pub due_first : (want : Pending) → want ≡ pending_assertion (term vars) (d.ordered a)
      → (d.ordered a).names ≡ a.names → todo ≡ taking p want a.names ++ rest
      → todo ≡ to_take p (term vars) (d.ordered a) ++ rest
  due_first want w n t = t ∙ (λ i. taking p (w i) (sym n i) ++ rest)

module _ (s : State) (vars : List (Var × Term)) (v : vars ≡ s.vars) (p : Place) where
  due : (a : Assertion) (todo next more : List Item) → todo ≡ to_take p (term vars) a ++ next → next ≡ more
      → todo ≡ to_take p (term s.vars) a ++ more
  due a todo next more t n = t ∙ (λ i. to_take p (term (v i)) a ++ n i)

  pub return_left : (owed : List Assertion) (rest items last todo : List Item) → items ≡ return p owed ∷ rest
      → last ≡ end p ∷ [] → todo ≡ to_take_each p (term vars) owed last
      → Some (goal_of_parts s todo ∷ []) ≡ at_return (ends.return_row s) items
  return_left owed rest items last todo i l t =
      ap (λ ys. Some (goal_of_parts s ys ∷ [])) (t ∙ (λ j. to_take_each p (term (v j)) owed (l j)))
      ∙ sym (ap (at_return (ends.return_row s)) i)

  module _ (d : Setting) (a : Assertion) where
    pub again_left : (rest items last todo : List Item) → items ≡ again p a ∷ rest → last ≡ end p ∷ []
        → todo ≡ to_take p (term vars) (d.ordered a) ++ last
        → Some (goal_of_parts s todo ∷ []) ≡ at_again (loops.again_row d s) items
    again_left rest items last todo i l t =
        ap (λ ys. Some (goal_of_parts s ys ∷ [])) (due (d.ordered a) todo last (end p ∷ []) t l)
        ∙ sym (ap (at_again (loops.again_row d s)) i)

    pub loop_left : (x : Test Expr) (body : Block) (rest items mid todo : List Item)
        → items ≡ run (while p x a body) ∷ rest → mid ≡ head p x a body ∷ rest
        → todo ≡ to_take p (term vars) (d.ordered a) ++ mid
        → Some (goal_of_parts s todo ∷ []) ≡ at_command (loops.loop_row d s) items
    loop_left x body rest items mid todo i m t =
        ap (λ ys. Some (goal_of_parts s ys ∷ [])) (due (d.ordered a) todo mid (head p x a body ∷ rest) t m)
        ∙ sym (ap (at_command (loops.loop_row d s)) i)

    -- an invariant and a test, to assume
    given_now : (x y : Test Expr) (todo next more : List Item) → y ≡ x → next ≡ more
        → todo ≡ to_add p (term vars) (d.ordered a) ++ (to_add_test p (term vars) y ++ next)
        → todo ≡ to_add p (term s.vars) (d.ordered a) ++ (to_add_test p (term s.vars) x ++ more)
    given_now x y todo next more e n t =
        t ∙ (λ i. to_add p (term (v i)) (d.ordered a) ++ (to_add_test p (term (v i)) (e i) ++ n i))

    pub body_left : (x : Test Expr) (body : Block) (now : State) (todo next : List Item)
        → now ≡ record s { atoms = []; taken = [] } → next ≡ to_run body ++ (again p a ∷ [])
        → todo ≡ to_add p (term vars) (d.ordered a) ++ (to_add_test p (term vars) x ++ next)
        → goal_of_parts now todo ≡ loops.body_once d s p x a body
    body_left x body now todo next n m t =
        let due_now = given_now x x todo next (to_run body ++ (again p a ∷ [])) refl m t in
        λ i. record { state = n i; todo = due_now i }

    pub after_left : (x y : Test Expr) (now : State) (todo rest : List Item) → now ≡ record s { taken = [] }
        → y ≡ negation ENil x
        → todo ≡ to_add p (term vars) (d.ordered a) ++ (to_add_test p (term vars) y ++ rest)
        → goal_of_parts now todo ≡ loops.after_loop d s p x a rest
    after_left x y now todo rest n e t =
        let due_now = given_now (negation ENil x) y todo rest rest e refl t in
        λ i. record { state = n i; todo = due_now i }

-- how a loop is read
pub loop_view : (p : Place) (t : Test Expr) (a : CodeAssertion) (body : Vec CodeCommand Global)
    → command_of (While p t a body) ≡ while p t (assertion_of a) (block (map command_of body.items))
loop_view p t a body = ap command_of (sym (rolls-While p t a body)) ∙ fold-roll-Command Command command_step _

-- whether a variable has a term, by looking at each of them
pub listed_any : (vars : List (Var × Term)) (x : Var) → list_any (λ v. same_var v.0 x) vars ≡ is_listed vars x
listed_any [] x = refl
listed_any (v ∷ vs) x = ap (λ b. same_var v.0 x || b) (listed_any vs x)

-- of what a body may change what has a term
pub kept_unknown : (d : Setting) (s : State) (body : Block) (vars : List (Var × Term)) (all kept : List Var)
    → vars ≡ s.vars → all ≡ changes_in d.sets body → kept ≡ filter (λ x. list_any (λ v. same_var v.0 x) vars) all
    → kept ≡ unknown_in d s body
kept_unknown d s body vars all kept v a k =
    k ∙ filter_agree (λ x. list_any (λ v. same_var v.0 x) vars) (is_listed vars) (listed_any vars) all
    ∙ (λ i. filter (is_listed (v i)) (a i))

-- both goals that are left of a loop, where its body leaves few variables unknown
pub around_left : (d : Setting) (s now : State) (p : Place) (x : Test Expr) (a : Assertion) (body : Block)
    (rest items : List Item) (once after : Goal) → items ≡ head p x a body ∷ rest
    → length (unknown_in d s body) < TOO_MANY → now ≡ with_fresh (unknown_in d s body) s
    → once ≡ loops.body_once d now p x a body → after ≡ loops.after_loop d now p x a rest
    → Some (once ∷ after ∷ []) ≡ at_head (loops.around_row d s) items
around_left d s now p x a body rest items once after i few n o e =
    let less : nat_lt (length (unknown_in d s body)) TOO_MANY ≡ true = grind (arith, nat_tests) in
    let both : List Goal = loops.body_once d (with_fresh (unknown_in d s body) s) p x a body
    ∷ loops.after_loop d (with_fresh (unknown_in d s body) s) p x a rest ∷ [] in
    let left : Some (once ∷ after ∷ []) ≡ Some both = λ j. Some ((o ∙ ap (λ z. loops.body_once d z p x a body) n) j
    ∷ (e ∙ ap (λ z. loops.after_loop d z p x a rest) n) j ∷ []) in
    left ∙ sym (ap (λ (b : Bool). cond b (Some both) None) less) ∙ sym (ap (at_head (loops.around_row d s)) i)
