-- What each row of the table needs in front, and what it leaves: one case for each.
-- Ordinary: the inversion of a definition by cases.
use Rattle.std.specs.Prelude.{◌≡◌, ℕ, ◌+◌, Bool, true, Some, List, [], ◌∷◌, ◌++◌, length}
use Rattle.std.specs.List.{slice_get}
use Rattle.sf_base.specs.declared.ids.FieldId.{FieldId}
use Rattle.sf_base.specs.declared.ids.ResId.{ResId}
use Rattle.sf_base.specs.declared.ids.Var.{Var}
use Rattle.sf_base.specs.declared.place.Place.{Place}
use Rattle.sf_calls.specs.Changes.{changed}
use Rattle.sf_core.specs.declared.assertion.Test.{Test}
use Rattle.sf_core.specs.declared.command.Expr.{Expr}
use Rattle.sf_core.specs.declared.command.Occurrence.{Occurrence}
use Rattle.sf_core.specs.Program.Syntax.{Assertion, Block, Call, assign, look_up, mutate, new, dispose, if, while, call, fork, with, Procedure, Resource}
use Rattle.sf_normal.specs.Knowledge.{absurd_row, back_row, drop_row, force_row, split_row, unroll_row}
use Rattle.sf_rules.specs.Checked.Rows.Add.{assume_row}
use Rattle.sf_rules.specs.Checked.Rows.Branches.{branch_row}
use Rattle.sf_rules.specs.Callee.{term_after, term_before}
use Rattle.sf_rules.specs.Checked.Rows.Commands.{assign_row, look_row, mutate_row, new_row, dispose_row}
use Rattle.sf_rules.specs.Checked.Rows.Ends.{is_empty}
use Rattle.sf_rules.specs.Checked.Rows.Loops.{after_loop, body_once}
use Rattle.sf_rules.specs.Rules.{unknown_in}
use Rattle.sf_rules.specs.Resources.{variables_from}
use Rattle.sf_rules.specs.Checked.Rows.Take.{subtract_row}
use Rattle.sf_rules.specs.Checked.Rows.Whole.{row}
use Rattle.sf_rules.specs.Setting.{Setting}
use Rattle.sf_rules.specs.Words.{to_add, to_add_test, to_take, to_take_each}
use Rattle.sf_sym.specs.declared.tag.Tag.{Tag}
use Rattle.sf_sym.specs.declared.term.Term.{Term}
use Rattle.sf_sym.specs.Goal.{Item, run, add, take, gave, head, again, exit, return, end, Goal, to_run}
use Rattle.sf_sym.specs.Pending.{Pending}
use Rattle.sf_sym.specs.State.{State, term, with_symbols}
use Rattle.sf_sym.specs.Variables.{fresh_for, remove_vars, set_vars, with_fresh}

-- that state, and these things to do
abbrev pub goal_of : State → List Item → Goal
goal_of s todo = record { state = s; todo = todo }

-- the rows at a goal that leave these goals. Where a row has a law, its case is the premise of that
pub data Rows (d : Setting) (g : Goal) (left : List Goal) : Type 0 where
  -- what is known, whatever is in front
  by_absurd : absurd_row g ≡ Some left → Rows d g left
  by_drop : (a : ℕ) → drop_row g a ≡ Some left → Rows d g left
  by_force : (a : ℕ) → force_row g a ≡ Some left → Rows d g left
  by_split : (t u : Term) → split_row g t u ≡ Some left → Rows d g left
  by_unroll : (a : ℕ) → unroll_row g a ≡ Some left → Rows d g left
  by_back : (a : ℕ) → back_row g a ≡ Some left → Rows d g left
  -- a command in front
  by_assign : (p : Place) (x : Occurrence) (e : Expr) (rest : List Item) → g.todo ≡ run (assign p x e) ∷ rest
      → assign_row g.state (assign p x e) rest ≡ Some left → Rows d g left
  by_look : (a : ℕ) (p : Place) (x : Occurrence) (e : Expr) (f : FieldId) (rest : List Item)
      → g.todo ≡ run (look_up p x e f) ∷ rest → look_row a g.state (look_up p x e f) rest ≡ Some left
      → Rows d g left
  by_mutate : (a : ℕ) (p : Place) (e : Expr) (f : FieldId) (v : Expr) (rest : List Item)
      → g.todo ≡ run (mutate p e f v) ∷ rest → mutate_row a g.state (mutate p e f v) rest ≡ Some left
      → Rows d g left
  by_new : (p : Place) (x : Occurrence) (rest : List Item) → g.todo ≡ run (new p x) ∷ rest
      → new_row g.state (new p x) rest ≡ Some left → Rows d g left
  by_dispose : (a : ℕ) (p : Place) (e : Expr) (rest : List Item) → g.todo ≡ run (dispose p e) ∷ rest
      → dispose_row a g.state (dispose p e) rest ≡ Some left → Rows d g left
  -- a choice: then where `so`, else
  by_choice : (so : Bool) (p : Place) (t : Test Expr) (this that : Block) (rest : List Item)
      → g.todo ≡ run (if p t this that) ∷ rest
      → branch_row so g.state (run (if p t this that) ∷ rest) ≡ Some left → Rows d g left
  -- a loop: its invariant is due, and then it is in front
  by_loop : (p : Place) (t : Test Expr) (invariant : Assertion) (body : Block) (rest : List Item)
      → g.todo ≡ run (while p t invariant body) ∷ rest
      → left ≡ goal_of g.state (to_take p (term g.state.vars) (d.ordered invariant)
      ++ (head p t invariant body ∷ rest)) ∷ []
      → Rows d g left
  -- a call: the precondition is due, what it may change gets fresh symbols, and the postcondition is assumed
  by_call : (p : Place) (c : Call) (callee : Procedure) (rest : List Item) → g.todo ≡ run (call p c) ∷ rest
      → slice_get d.program.procedures c.callee.0 ≡ Some callee
      → (let set = fresh_for g.state.next_sym (changed d.sets c) in
      left ≡ goal_of (with_symbols (length set) g.state) (to_take c.place (term_before g.state c) (d.ordered callee.pre)
      ++ (gave p set [] ∷ (to_add p (term_after g.state set c) (d.ordered callee.post) ++ rest))) ∷ [])
      → Rows d g left
  -- two calls: the same of both
  by_fork : (p : Place) (c e : Call) (one two : Procedure) (rest : List Item) → g.todo ≡ run (fork p c e) ∷ rest
      → slice_get d.program.procedures c.callee.0 ≡ Some one → slice_get d.program.procedures e.callee.0 ≡ Some two
      → (let first = fresh_for g.state.next_sym (changed d.sets c) in
      let second = fresh_for (g.state.next_sym + length first) (changed d.sets e) in
      left ≡ goal_of (with_symbols (length (first ++ second)) g.state)
      (to_take c.place (term_before g.state c) (d.ordered one.pre)
      ++ (to_take e.place (term_before g.state e) (d.ordered two.pre)
      ++ (gave p (first ++ second) [] ∷ (to_add p (term_after g.state first c) (d.ordered one.post)
      ++ (to_add p (term_after g.state second e) (d.ordered two.post) ++ rest))))) ∷ [])
      → Rows d g left
  -- a region: the resource's variables get fresh symbols, its invariant and the condition are assumed
  by_enter : (p : Place) (r : ResId) (t : Test Expr) (body : Block) (of : Resource) (rest : List Item)
      → g.todo ≡ run (with p r t body) ∷ rest → slice_get d.program.resources r.0 ≡ Some of
      → (let now = with_fresh (variables_from r 0 of.variables) g.state in
      left ≡ goal_of now (to_add p (term now.vars) (d.ordered of.invariant)
      ++ (to_add_test p (term now.vars) t ++ (to_run body ++ (exit p r ∷ rest)))) ∷ [])
      → Rows d g left
  -- what is assumed
  by_add : (p : Place) (given : Pending) (rest : List Item) → g.todo ≡ add p given ∷ rest
      → assume_row g.state p given rest ≡ Some left → Rows d g left
  by_choice_assumed : (so : Bool) (p : Place) (given : Pending) (rest : List Item) → g.todo ≡ add p given ∷ rest
      → branch_row so g.state (add p given ∷ rest) ≡ Some left → Rows d g left
  -- what is to be shown, by a tag of subtraction
  by_step : (tag : Tag) (p : Place) (want : Pending) (names : List (List ℕ)) (rest : List Item)
      → g.todo ≡ take p want names ∷ rest → subtract_row tag g.state p want names rest ≡ Some left → Rows d g left
  by_choice_shown : (so : Bool) (p : Place) (want : Pending) (names : List (List ℕ)) (rest : List Item)
      → g.todo ≡ take p want names ∷ rest → branch_row so g.state (take p want names ∷ rest) ≡ Some left
      → Rows d g left
  -- what was taken is gone, and variables are set and removed
  by_give : (p : Place) (set : List (Var × Term)) (removed : List Var) (rest : List Item)
      → g.todo ≡ gave p set removed ∷ rest
      → left ≡ goal_of (record g.state { taken = []; vars = remove_vars removed (set_vars set g.state.vars) }) rest ∷ []
      → Rows d g left
  -- a loop whose invariant was handed over: the body once, and what comes after the loop
  by_around : (p : Place) (t : Test Expr) (invariant : Assertion) (body : Block) (rest : List Item)
      → g.todo ≡ head p t invariant body ∷ rest
      → (let now = with_fresh (unknown_in d g.state body) g.state in
      left ≡ body_once d now p t invariant body ∷ after_loop d now p t invariant rest ∷ [])
      → Rows d g left
  -- the end of its body: the invariant is due
  by_again : (p : Place) (invariant : Assertion) (rest : List Item) → g.todo ≡ again p invariant ∷ rest
      → left ≡ goal_of g.state (to_take p (term g.state.vars) (d.ordered invariant) ++ (end p ∷ [])) ∷ []
      → Rows d g left
  -- the end of a region: the invariant is due, and then the resource's variables go
  by_exit : (p : Place) (r : ResId) (of : Resource) (rest : List Item) → g.todo ≡ exit p r ∷ rest
      → slice_get d.program.resources r.0 ≡ Some of
      → left ≡ goal_of g.state (to_take p (term g.state.vars) (d.ordered of.invariant)
      ++ (gave p [] (variables_from r 0 of.variables) ∷ rest)) ∷ []
      → Rows d g left
  -- the end of the procedure: what it owes is due, one assertion after the other
  by_return : (p : Place) (owed : List Assertion) (rest : List Item) → g.todo ≡ return p owed ∷ rest
      → left ≡ goal_of g.state (to_take_each p (term g.state.vars) owed (end p ∷ [])) ∷ [] → Rows d g left
  -- the end of all: no atom is left
  by_end : (p : Place) (rest : List Item) → g.todo ≡ end p ∷ rest → is_empty g.state.atoms ≡ true → left ≡ []
      → Rows d g left

-- each row of the table is one of these
unfoldable pub RowsHaveCases : Type 0
RowsHaveCases = (d : Setting) (g : Goal) (tag : Tag) (left : List Goal) → row d g tag ≡ Some left → Rows d g left
