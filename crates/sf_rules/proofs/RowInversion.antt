-- The inversion of the table: what is in front for each row, and what it leaves.
-- Names: `at-FRONT` of a row that has that in front, `TAG-case` of the row of that tag.
use Rattle.std.specs.Option.{option_and_then}
use Rattle.std.specs.List.{slice_get}
use Rattle.std.proofs.Common.{◌≡◌, ℕ, Bool, true, false, cond, Option, Some, None, List, [], ◌∷◌, refl, sym}
use Rattle.std.proofs.lemmas.Option.{option_and_then_some, same_Some}
use Rattle.sf_base.specs.declared.ids.ResId.{ResId}
use Rattle.sf_base.specs.declared.ids.Var.{Var}
use Rattle.sf_base.specs.declared.place.Place.{Place}
use Rattle.sf_core.specs.declared.assertion.Test.{Test}
use Rattle.sf_core.specs.declared.command.Expr.{Expr}
use Rattle.sf_core.specs.Program.Syntax.{Assertion, Block, Command, assign, look_up, mutate, new, dispose, if, while, call, fork, with, Procedure}
use Rattle.sf_rules.specs.Rules.{has_numbers}
use Rattle.sf_rules.specs.Checked.Lemmas.{few-left}
use Rattle.sf_rules.specs.Checked.RowCases.{Rows, by_absurd, by_drop, by_force, by_split, by_unroll, by_back, by_assign, by_look, by_mutate, by_new, by_dispose, by_choice, by_loop, by_call, by_fork, by_enter, by_add, by_choice_assumed, by_step, by_choice_shown, by_give, by_around, by_again, by_exit, by_return, by_end, RowsHaveCases}
use Rattle.sf_rules.specs.Checked.Rows.Branches.{branch_row}
use Rattle.sf_rules.specs.Checked.Rows.Calls.{called, call_row, forked, fork_row, give_row}
use Rattle.sf_rules.specs.Checked.Rows.Commands.{assign_row, look_row, mutate_row, new_row, dispose_row}
use Rattle.sf_rules.specs.Checked.Rows.Ends.{return_row, end_row, is_empty}
use Rattle.sf_rules.specs.Checked.Rows.Front.{at_command, at_add, at_take, at_gave, at_head, at_again, at_exit, at_return, at_end}
use Rattle.sf_rules.specs.Checked.Rows.Loops.{loop_row, around_row, again_row}
use Rattle.sf_rules.specs.Checked.Rows.Regions.{entered, enter_row, exit_row}
use Rattle.sf_rules.specs.Checked.Rows.Take.{subtract_row}
use Rattle.sf_rules.specs.Checked.Rows.Whole.{row_of}
use Rattle.sf_rules.specs.Checked.Rows.Add.{assume_row}
use Rattle.sf_rules.specs.Setting.{Setting}
use Rattle.sf_sym.specs.declared.tag.Tag.{Tag}
use Rattle.sf_sym.specs.declared.tag.Tag.TheVariants as t
use Rattle.sf_sym.specs.declared.term.Term.{Term}
use Rattle.sf_sym.specs.Goal.{Item, run, add, take, gave, head, again, exit, return, end, Goal}
use Rattle.sf_sym.specs.Pending.{Pending}

-- Rows by what is in front: what is there, and what the row says of it
module _ (todo : List Item) (left : List Goal) (P : Type 0) where
  at-command : (row : Command → List Item → Option (List Goal)) → at_command row todo ≡ Some left
      → ((c : Command) (rest : List Item) → todo ≡ run c ∷ rest → row c rest ≡ Some left → P) → P
  at-command row e then = go todo refl e
    where
      go : (items : List Item) → todo ≡ items → at_command row items ≡ Some left → P
      go (run c ∷ rest) i e = then c rest i e
      go _ i e = absurd (cc)

  at-add : (row : Place → Pending → List Item → Option (List Goal)) → at_add row todo ≡ Some left
      → ((p : Place) (given : Pending) (rest : List Item) → todo ≡ add p given ∷ rest → row p given rest ≡ Some left → P) → P
  at-add row e then = go todo refl e
    where
      go : (items : List Item) → todo ≡ items → at_add row items ≡ Some left → P
      go (add p given ∷ rest) i e = then p given rest i e
      go _ i e = absurd (cc)

  at-take : (row : Place → Pending → (names : List (List ℕ)) → List Item → Option (List Goal)) → at_take row todo ≡ Some left
      → ((p : Place) (want : Pending) (names : List (List ℕ)) (rest : List Item) → todo ≡ take p want names ∷ rest → row p want names rest ≡ Some left → P) → P
  at-take row e then = go todo refl e
    where
      go : (items : List Item) → todo ≡ items → at_take row items ≡ Some left → P
      go (take p want names ∷ rest) i e = then p want names rest i e
      go _ i e = absurd (cc)

  at-gave : (row : Place → (set : List (Var × Term)) → (removed : List Var) → List Item → Option (List Goal)) → at_gave row todo ≡ Some left
      → ((p : Place) (set : List (Var × Term)) (removed : List Var) (rest : List Item) → todo ≡ gave p set removed ∷ rest → row p set removed rest ≡ Some left → P) → P
  at-gave row e then = go todo refl e
    where
      go : (items : List Item) → todo ≡ items → at_gave row items ≡ Some left → P
      go (gave p set removed ∷ rest) i e = then p set removed rest i e
      go _ i e = absurd (cc)

  at-head : (row : Place → Test Expr → (invariant : Assertion) → Block → List Item → Option (List Goal)) → at_head row todo ≡ Some left
      → ((p : Place) (t : Test Expr) (invariant : Assertion) (body : Block) (rest : List Item) → todo ≡ head p t invariant body ∷ rest → row p t invariant body rest ≡ Some left → P) → P
  at-head row e then = go todo refl e
    where
      go : (items : List Item) → todo ≡ items → at_head row items ≡ Some left → P
      go (head p t invariant body ∷ rest) i e = then p t invariant body rest i e
      go _ i e = absurd (cc)

  at-again : (row : Place → (invariant : Assertion) → List Item → Option (List Goal)) → at_again row todo ≡ Some left
      → ((p : Place) (invariant : Assertion) (rest : List Item) → todo ≡ again p invariant ∷ rest → row p invariant rest ≡ Some left → P) → P
  at-again row e then = go todo refl e
    where
      go : (items : List Item) → todo ≡ items → at_again row items ≡ Some left → P
      go (again p invariant ∷ rest) i e = then p invariant rest i e
      go _ i e = absurd (cc)

  at-exit : (row : Place → ResId → List Item → Option (List Goal)) → at_exit row todo ≡ Some left
      → ((p : Place) (r : ResId) (rest : List Item) → todo ≡ exit p r ∷ rest → row p r rest ≡ Some left → P) → P
  at-exit row e then = go todo refl e
    where
      go : (items : List Item) → todo ≡ items → at_exit row items ≡ Some left → P
      go (exit p r ∷ rest) i e = then p r rest i e
      go _ i e = absurd (cc)

  at-return : (row : Place → List Assertion → List Item → Option (List Goal)) → at_return row todo ≡ Some left
      → ((p : Place) (owed : List Assertion) (rest : List Item) → todo ≡ return p owed ∷ rest
      → row p owed rest ≡ Some left → P) → P
  at-return row e then = go todo refl e
    where
      go : (items : List Item) → todo ≡ items → at_return row items ≡ Some left → P
      go (return p owed ∷ rest) i e = then p owed rest i e
      go _ i e = absurd (cc)

  at-end : (row : Place → List Item → Option (List Goal)) → at_end row todo ≡ Some left
      → ((p : Place) (rest : List Item) → todo ≡ end p ∷ rest → row p rest ≡ Some left → P) → P
  at-end row e then = go todo refl e
    where
      go : (items : List Item) → todo ≡ items → at_end row items ≡ Some left → P
      go (end p ∷ rest) i e = then p rest i e
      go _ i e = absurd (cc)

-- the goals that are left are these
only : (gs left : List Goal) → Some gs ≡ Some left → left ≡ gs
only gs left e = sym (same_Some gs left e)

module _ (d : Setting) (g : Goal) (left : List Goal) where
  assign-case : at_command (assign_row g.state) g.todo ≡ Some left → Rows d g left
  assign-case e = at-command g.todo left (Rows d g left) (assign_row g.state) e go
    where
      go : (c : Command) (rest : List Item) → g.todo ≡ run c ∷ rest → assign_row g.state c rest ≡ Some left
          → Rows d g left
      go (assign p x v) rest i e = by_assign p x v rest i e
      go _ rest i e = absurd (cc)

  look-case : (a : ℕ) → at_command (look_row a g.state) g.todo ≡ Some left → Rows d g left
  look-case a e = at-command g.todo left (Rows d g left) (look_row a g.state) e go
    where
      go : (c : Command) (rest : List Item) → g.todo ≡ run c ∷ rest → look_row a g.state c rest ≡ Some left
          → Rows d g left
      go (look_up p x v f) rest i e = by_look a p x v f rest i e
      go _ rest i e = absurd (cc)

  mutate-case : (a : ℕ) → at_command (mutate_row a g.state) g.todo ≡ Some left → Rows d g left
  mutate-case a e = at-command g.todo left (Rows d g left) (mutate_row a g.state) e go
    where
      go : (c : Command) (rest : List Item) → g.todo ≡ run c ∷ rest → mutate_row a g.state c rest ≡ Some left
          → Rows d g left
      go (mutate p x f v) rest i e = by_mutate a p x f v rest i e
      go _ rest i e = absurd (cc)

  new-case : at_command (new_row g.state) g.todo ≡ Some left → Rows d g left
  new-case e = at-command g.todo left (Rows d g left) (new_row g.state) e go
    where
      go : (c : Command) (rest : List Item) → g.todo ≡ run c ∷ rest → new_row g.state c rest ≡ Some left
          → Rows d g left
      go (new p x) rest i e = by_new p x rest i e
      go _ rest i e = absurd (cc)

  dispose-case : (a : ℕ) → at_command (dispose_row a g.state) g.todo ≡ Some left → Rows d g left
  dispose-case a e = at-command g.todo left (Rows d g left) (dispose_row a g.state) e go
    where
      go : (c : Command) (rest : List Item) → g.todo ≡ run c ∷ rest → dispose_row a g.state c rest ≡ Some left
          → Rows d g left
      go (dispose p x) rest i e = by_dispose a p x rest i e
      go _ rest i e = absurd (cc)

  branch-case : (so : Bool) → branch_row so g.state g.todo ≡ Some left → Rows d g left
  branch-case so e = go g.todo refl e
    where
      go : (items : List Item) → g.todo ≡ items → branch_row so g.state items ≡ Some left → Rows d g left
      go (run (if p x this that) ∷ rest) i e = by_choice so p x this that rest i e
      go (add p given ∷ rest) i e = by_choice_assumed so p given rest i e
      go (take p want names ∷ rest) i e = by_choice_shown so p want names rest i e
      go _ i e = absurd (cc)

  loop-case : at_command (loop_row d g.state) g.todo ≡ Some left → Rows d g left
  loop-case e = at-command g.todo left (Rows d g left) (loop_row d g.state) e go
    where
      go : (c : Command) (rest : List Item) → g.todo ≡ run c ∷ rest → loop_row d g.state c rest ≡ Some left
          → Rows d g left
      go (while p x invariant body) rest i e = by_loop p x invariant body rest i (only _ left e)
      go _ rest i e = absurd (cc)

  call-case : at_command (call_row d g.state) g.todo ≡ Some left → Rows d g left
  call-case e = at-command g.todo left (Rows d g left) (call_row d g.state) e go
    where
      go : (c : Command) (rest : List Item) → g.todo ≡ run c ∷ rest → call_row d g.state c rest ≡ Some left
          → Rows d g left
      go (call p c) rest i e =
          option_and_then_some (called d g.state p c rest) (slice_get d.program.procedures c.callee.0) left e
          (λ callee there k. by_call p c callee rest i there (only _ left (few-left _ _ left k)))
      go _ rest i e = absurd (cc)

  fork-case : at_command (fork_row d g.state) g.todo ≡ Some left → Rows d g left
  fork-case e = at-command g.todo left (Rows d g left) (fork_row d g.state) e go
    where
      go : (c : Command) (rest : List Item) → g.todo ≡ run c ∷ rest → fork_row d g.state c rest ≡ Some left
          → Rows d g left
      go (fork p c o) rest i e =
          option_and_then_some
          (λ (one : Procedure). option_and_then (forked d g.state p c o rest one)
          (slice_get d.program.procedures o.callee.0))
          (slice_get d.program.procedures c.callee.0) left e
          (λ one there k. option_and_then_some (forked d g.state p c o rest one)
          (slice_get d.program.procedures o.callee.0) left k
          (λ two also_there j. by_fork p c o one two rest i there also_there (only _ left (few-left _ _ left j))))
      go _ rest i e = absurd (cc)

  enter-case : at_command (enter_row d g.state) g.todo ≡ Some left → Rows d g left
  enter-case e = at-command g.todo left (Rows d g left) (enter_row d g.state) e go
    where
      go : (c : Command) (rest : List Item) → g.todo ≡ run c ∷ rest → enter_row d g.state c rest ≡ Some left
          → Rows d g left
      go (with p r x body) rest i e =
          option_and_then_some (entered d g.state p r x body rest) (slice_get d.program.resources r.0) left e
          (λ of there k. by_enter p r x body of rest i there (only _ left (few-left _ _ left k)))
      go _ rest i e = absurd (cc)

  add-case : at_add (assume_row g.state) g.todo ≡ Some left → Rows d g left
  add-case e = at-add g.todo left (Rows d g left) (assume_row g.state) e (λ p given rest i k. by_add p given rest i k)

  step-case : (tag : Tag) → at_take (subtract_row tag g.state) g.todo ≡ Some left → Rows d g left
  step-case tag e = at-take g.todo left (Rows d g left) (subtract_row tag g.state) e
      (λ p want names rest i k. by_step tag p want names rest i k)

  give-case : at_gave (give_row g.state) g.todo ≡ Some left → Rows d g left
  give-case e = at-gave g.todo left (Rows d g left) (give_row g.state) e
      (λ p set removed rest i k. by_give p set removed rest i (only _ left k))

  around-case : at_head (around_row d g.state) g.todo ≡ Some left → Rows d g left
  around-case e = at-head g.todo left (Rows d g left) (around_row d g.state) e
      (λ p x invariant body rest i k. by_around p x invariant body rest i (only _ left (few-left _ _ left k)))

  again-case : at_again (again_row d g.state) g.todo ≡ Some left → Rows d g left
  again-case e = at-again g.todo left (Rows d g left) (again_row d g.state) e
      (λ p invariant rest i k. by_again p invariant rest i (only _ left k))

  exit-case : at_exit (exit_row d g.state) g.todo ≡ Some left → Rows d g left
  exit-case e = at-exit g.todo left (Rows d g left) (exit_row d g.state) e
      (λ p r rest i k. option_and_then_some _ (slice_get d.program.resources r.0) left k
      (λ of there j. by_exit p r of rest i there (only _ left j)))

  return-case : at_return (return_row g.state) g.todo ≡ Some left → Rows d g left
  return-case e = at-return g.todo left (Rows d g left) (return_row g.state) e
      (λ p owed rest i k. by_return p owed rest i (only _ left k))

  end-case : at_end (end_row g.state) g.todo ≡ Some left → Rows d g left
  end-case e = at-end g.todo left (Rows d g left) (end_row g.state) e
      (λ p rest i k. go p rest i (is_empty g.state.atoms) refl k)
    where
      go : (p : Place) (rest : List Item) → g.todo ≡ end p ∷ rest → (b : Bool) → is_empty g.state.atoms ≡ b
          → cond b (Some []) None ≡ Some left → Rows d g left
      go p rest i true n k = by_end p rest i n (only [] left k)
      go p rest i false n k = absurd (cc)

  tag-case : (tag : Tag) → row_of d g tag ≡ Some left → Rows d g left
  tag-case (t.Procedure f) e = absurd (cc)
  tag-case t.Absurd e = by_absurd e
  tag-case (t.Drop a) e = by_drop a e
  tag-case (t.Force a) e = by_force a e
  tag-case (t.Split x y) e = by_split x y e
  tag-case (t.Unroll a) e = by_unroll a e
  tag-case (t.Back a) e = by_back a e
  tag-case t.Assign e = assign-case e
  tag-case (t.Look a) e = look-case a e
  tag-case (t.Mutate a) e = mutate-case a e
  tag-case t.New e = new-case e
  tag-case (t.Dispose a) e = dispose-case a e
  tag-case t.Then e = branch-case true e
  tag-case t.Else e = branch-case false e
  tag-case t.Loop e = loop-case e
  tag-case t.Around e = around-case e
  tag-case t.Again e = again-case e
  tag-case t.Call e = call-case e
  tag-case t.Fork e = fork-case e
  tag-case t.Enter e = enter-case e
  tag-case t.Exit e = exit-case e
  tag-case t.Return e = return-case e
  tag-case t.Give e = give-case e
  tag-case t.End e = end-case e
  tag-case t.Add e = add-case e
  tag-case t.Bind e = step-case t.Bind e
  tag-case t.Same e = step-case t.Same e
  tag-case t.Apart e = step-case t.Apart e
  tag-case (t.Cell a) e = step-case (t.Cell a) e
  tag-case t.Empty e = step-case t.Empty e
  tag-case (t.Exact a) e = step-case (t.Exact a) e
  tag-case (t.Head a) e = step-case (t.Head a) e
  tag-case (t.Join a) e = step-case (t.Join a) e
  tag-case (t.Node a) e = step-case (t.Node a) e

pub rows_have_cases : RowsHaveCases
unfolding RowsHaveCases
rows_have_cases d g tag left e = go (has_numbers g.state) e
  where
    go : (b : Bool) → cond b (row_of d g tag) None ≡ Some left → Rows d g left
    go true e = tag-case d g left tag e
    go false e = absurd (cc)
