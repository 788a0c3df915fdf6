-- Every row keeps that a goal has the variables that it reads: each of them still has a term, and those of a region are
-- there from its entry to its end.
-- Names: `WHAT-has` of a goal that is left.
use Rattle.std.specs.List.{AllByRecursion, list_any, slice_get}
use Rattle.std.specs.Option.{option_map, unwrap_or}
use Rattle.std.specs.Prelude.{◌&&◌, not}
use Rattle.std.proofs.Common.{◌≡◌, ℕ, suc, ◌+◌, Bool, true, false, ◌||◌, Some, List, [], ◌∷◌, ◌++◌, length, refl, sym, ap, ◌∙◌, subst}
use Rattle.sf_base.proofs.Variables.{same_var-decides}
use Rattle.sf_base.specs.declared.ids.ResId.{ResId}
use Rattle.sf_base.specs.declared.ids.Var.{Var}
use Rattle.sf_base.specs.declared.place.Place.{Place}
use Rattle.sf_base.specs.Variables.{same_var}
use Rattle.sf_calls.specs.Changes.{changed}
use Rattle.sf_core.specs.declared.assertion.Test.{Test}
use Rattle.sf_core.specs.declared.assertion.Test.TheVariants.{True, Equal, Differ}
use Rattle.sf_core.specs.declared.command.Expr.{Expr}
use Rattle.sf_core.specs.Program.Syntax.{Command, assign, look_up, mutate, new, dispose, if, while, call, fork, with, Program, Resource}
use Rattle.sf_core.specs.declared.command.Expr.TheVariants.{Var as Variable, Nil as ENil, Int as EInt}
use Rattle.sf_produce.specs.Add.{operands}
use Rattle.sf_rules.specs.Checked.LawsOfRows.{RowLaws}
use Rattle.sf_rules.specs.Checked.LawsOfCommands.{before_command}
use Rattle.sf_rules.specs.Checked.LawsOfConjuncts.{LeftToShow, ShownBranchLeavesRest, SubtractionLeavesRest, showing}
use Rattle.sf_rules.specs.Checked.Lemmas.{few-left}
use Rattle.sf_rules.specs.Checked.Lemmas.CommandChildren.{IsOrdered, Stays, assign-stays, branch-stays, dispose-stays, look-stays, mutate-stays, new-stays}
use Rattle.sf_rules.specs.Checked.Lemmas.StateChildren.{AllStay, absurd-stays, add-stays, back-stays, choice-stays, drop-stays, force-stays, split-stays, unroll-stays}
use Rattle.sf_rules.specs.Checked.Lemmas.Subtracting.{Lists, chosen-lists, subtract-lists}
use Rattle.sf_rules.specs.Checked.Lemmas.TodoReads.{adding-reads, each-reads, run-reads, taking-reads}
use Rattle.sf_rules.specs.Checked.Lemmas.VariableTerms.{all-listed, all-listed_here, remove_all-listed}
use Rattle.sf_rules.specs.Checked.RowCases.{Rows, by_absurd, by_add, by_again, by_around, by_assign, by_back, by_call, by_choice, by_choice_assumed, by_choice_shown, by_dispose, by_drop, by_end, by_enter, by_exit, by_force, by_fork, by_give, by_look, by_loop, by_mutate, by_new, by_return, by_split, by_step, by_unroll, goal_of}
use Rattle.sf_rules.specs.HasVariables.{HasNone, HasVariables, TodoReadsIn, WholeReadsIn, with_those, without_those}
use Rattle.sf_rules.specs.Callee.{term_after, term_before}
use Rattle.sf_rules.specs.Resources.{variables_from, variables_of}
use Rattle.sf_rules.specs.Rules.{unknown_in}
use Rattle.sf_rules.specs.Setting.{Setting}
use Rattle.sf_rules.specs.Shape.{IsShaped}
use Rattle.sf_rules.specs.Words.{negation, to_add, to_add_test, to_take}
use Rattle.sf_sym.specs.Goal.{Item, run, add, take, gave, head, again, exit, return, end, Goal, to_run}
use Rattle.sf_sym.specs.Pending.{Pending}
use Rattle.sf_sym.specs.Ready.{IsIn, IsTestIn, ReadsIn, is_listed}
use Rattle.sf_sym.specs.Shape.{NextReadsIn}
use Rattle.sf_sym.specs.State.{State, term, with_symbols}
use Rattle.sf_sym.specs.Variables.{fresh_for, set_vars, with_fresh}

-- VARIABLES OF A REGION
-- variables that get fresh symbols have terms
pub fresh-listed : (n : ℕ) (xs : List Var) (x : Var) → is_listed (fresh_for n xs) x ≡ list_any (λ y. same_var y x) xs
fresh-listed n [] x = refl
fresh-listed n (y ∷ ys) x = ap (λ b. same_var y x || b) (fresh-listed (suc n) ys x)

-- those that come with a region have terms inside, and so have the others
pub fresh-has : (s : State) (xs : List Var) (among : Var → Bool)
    → ((x : Var) → among x ≡ true → is_listed s.vars x ≡ true) → (x : Var) → with_those xs among x ≡ true
    → is_listed (with_fresh xs s).vars x ≡ true
fresh-has s xs among listed x e = go (list_any (λ y. same_var y x) xs) refl e
  where
    go : (b : Bool) → list_any (λ y. same_var y x) xs ≡ b → (b || among x) ≡ true
        → is_listed (with_fresh xs s).vars x ≡ true
    go true i e = all-listed_here (fresh_for s.next_sym xs) s.vars x (fresh-listed s.next_sym xs x ∙ i)
    go false i e = all-listed (fresh_for s.next_sym xs) s.vars x (listed x e)

-- none of the list is there
none-of : (xs : List Var) (among : Var → Bool) (x : Var) → HasNone xs among
    → list_any (λ y. same_var y x) xs ≡ true → among x ≡ false
none-of [] among x h e = absurd (cc)
none-of (y ∷ ys) among x h e = go (λ i. none-of ys among x h.1 i) (same_var y x) refl e
  where
    go : (list_any (λ y. same_var y x) ys ≡ true → among x ≡ false) → (b : Bool) → same_var y x ≡ b
        → (b || list_any (λ y. same_var y x) ys) ≡ true → among x ≡ false
    go r true i e = subst (λ z. among z ≡ false) ((same_var-decides y x).0 i) h.0
    go r false i e = r e

-- what comes with a region and goes with it leaves what was there
pub region-same : (xs : List Var) (among : Var → Bool) → HasNone xs among
    → among ≡ without_those xs (with_those xs among)
region-same xs among h = λ i x. same x i
  where
    at : (x : Var) (b : Bool) → list_any (λ y. same_var y x) xs ≡ b
        → among x ≡ not b && (b || among x)
    at x true i = none-of xs among x h i
    at x false i = refl

    same : (x : Var) → among x ≡ without_those xs (with_those xs among) x
    same x = at x (list_any (λ y. same_var y x) xs) refl

-- what is still there once some are gone
kept : (xs : List Var) (among : Var → Bool) (x : Var) → without_those xs among x ≡ true
    → AllByRecursion (λ (y : Var). same_var y x ≡ false) xs × (among x ≡ true)
kept [] among x e = (tt, e)
kept (y ∷ ys) among x e = go (λ i. kept ys among x i) (same_var y x) refl e
  where
    go : (without_those ys among x ≡ true
        → AllByRecursion (λ (y : Var). same_var y x ≡ false) ys × (among x ≡ true)) → (b : Bool)
        → same_var y x ≡ b → (not (b || list_any (λ y. same_var y x) ys) && among x) ≡ true
        → AllByRecursion (λ (y : Var). same_var y x ≡ false) (y ∷ ys) × (among x ≡ true)
    go r true i e = absurd (cc)
    go r false i e = let k = r e in ((i, k.0), k.1)

-- WHAT IS READ NEXT is read of variables that have terms
module _ (among more : Var → Bool) (weaker : (x : Var) → among x ≡ true → more x ≡ true) where
  expr-more : (e : Expr) → IsIn among e → IsIn more e
  expr-more (Variable x) i = weaker x.var i
  expr-more ENil i = tt
  expr-more (EInt n) i = tt

  test-more : (t : Test Expr) → IsTestIn among t → IsTestIn more t
  test-more True i = tt
  test-more (Equal x y) i = (expr-more x i.0, expr-more y i.1)
  test-more (Differ x y) i = (expr-more x i.0, expr-more y i.1)

  values-more : (es : List Expr) → AllByRecursion (IsIn among) es → AllByRecursion (IsIn more) es
  values-more [] i = tt
  values-more (e ∷ es) i = (expr-more e i.0, values-more es i.1)

  command-more : (p : Program) (c : Command) → WholeReadsIn p among c → ReadsIn more c
  command-more p (assign q x e) r = expr-more e r
  command-more p (look_up q x e field) r = expr-more e r
  command-more p (mutate q e field v) r = (expr-more e r.0, expr-more v r.1)
  command-more p (new q x) r = tt
  command-more p (dispose q e) r = expr-more e r
  command-more p (if q test this that) r = test-more test r.0
  command-more p (while q test invariant body) r = test-more test r.0
  command-more p (call q c) r = values-more c.values r
  command-more p (fork q c d) r = (values-more c.values r.0, values-more d.values r.1)
  command-more p (with q r2 test body) r = tt

pub next-reads : (p : Program) (goal : Goal) → HasVariables p goal
    → NextReadsIn (is_listed goal.state.vars) goal.todo
next-reads p goal h = go goal.todo h.reads
  where
    go : (todo : List Item) → TodoReadsIn p h.among todo → NextReadsIn (is_listed goal.state.vars) todo
    go [] r = tt
    go (run c ∷ rest) r = command-more h.among (is_listed goal.state.vars) h.listed p c r.0
    go (add q given ∷ rest) r = tt
    go (take q want names ∷ rest) r = tt
    go (gave q set removed ∷ rest) r = tt
    go (head q test invariant body ∷ rest) r = tt
    go (again q invariant ∷ rest) r = tt
    go (exit q r2 ∷ rest) r = tt
    go (return q owed ∷ rest) r = tt
    go (end q ∷ rest) r = tt

-- ONE GOAL THAT IS LEFT
module _ (p : Program) where
  abbrev pub AllHave : List Goal → Type 0
  AllHave left = AllByRecursion (HasVariables p) left

  -- with all terms and with less to read
  more-has : (goal child : Goal) (h : HasVariables p goal)
      → ((x : Var) → is_listed goal.state.vars x ≡ true → is_listed child.state.vars x ≡ true)
      → TodoReadsIn p h.among child.todo → HasVariables p child
  more-has goal child h more reads =
      record { among = h.among; listed = λ x e. more x (h.listed x e); reads = reads }

  stays-have : (goal : Goal) → HasVariables p goal → (left : List Goal) → AllStay goal left → AllHave left
  stays-have goal h [] s = tt
  stays-have goal h (g ∷ gs) s =
      (more-has goal g h s.0.state.listed (s.0.reads p h.among h.reads), stays-have goal h gs s.1)

  -- after a command that is done
  command-have : (s : State) (c : Command) (rest : List Item) (h : HasVariables p (before_command s c rest))
      (todo : List Item) → TodoReadsIn p h.among todo → (left : List Goal) → AllByRecursion (Stays s todo) left
      → AllHave left
  command-have s c rest h todo r [] k = tt
  command-have s c rest h todo r (g ∷ gs) k = (
    more-has (before_command s c rest) g h k.0.listed (subst (TodoReadsIn p h.among) (sym k.0.to_do) r),
    command-have s c rest h todo r gs k.1,
  )

  -- the goal that is written
  written-has : (left : List Goal) (s2 : State) (todo : List Item) → left ≡ goal_of s2 todo ∷ []
      → HasVariables p (goal_of s2 todo) → AllHave left
  written-has left s2 todo e h = subst AllHave (sym e) (h, tt)

  -- what is left of conjuncts to show
  shown-has : (s : State) (q : Place) (want : Pending) (names : List (List ℕ)) (rest : List Item) (left : List Goal)
      → HasVariables p (showing s q want names rest) → LeftToShow s q want names rest left
      → AllByRecursion (λ (g : Goal). Lists s g.state) left → AllHave left
  shown-has s q want names rest left h k l =
      let list = (subst (AllByRecursion (λ (g : Goal). Lists s g.state)) k.is l).0 in
      subst AllHave (sym k.is) (
        record {
          among = h.among;
          listed = λ x e. subst (λ vs. is_listed vs x ≡ true) (sym list.vars) (h.listed x e);
          reads = taking-reads p h.among q rest h.reads _ names;
        },
        tt,
      )

-- ALL ROWS
module _ (laws : RowLaws) (d : Setting) (goal : Goal) (left : List Goal) (h : IsShaped d goal) where
  abbrev p : Program
  p = d.program

  abbrev s : State
  s = goal.state

  order : IsOrdered s
  order = record { vars = h.shape.vars; fields = h.shape.fields }

  module _ (todo : List Item) (is : goal.todo ≡ todo) where
    front : IsShaped d (goal_of s todo)
    front = subst (λ z. IsShaped d (goal_of s z)) is h

    has : HasVariables p (goal_of s todo)
    has = front.variables

  -- the variables of a resource that is there
  of-there : (r : ResId) (of : Resource) → slice_get p.resources r.0 ≡ Some of
      → variables_of p r ≡ variables_from r 0 of.variables
  of-there r of there =
      ap (λ o. unwrap_or (option_map (λ (of : Resource). variables_from r 0 of.variables) o) []) there

  cases-have : Rows d goal left → AllHave p left
  unfolding SubtractionLeavesRest ShownBranchLeavesRest
  cases-have (by_absurd e) = stays-have p goal h.variables left (absurd-stays goal left e)
  cases-have (by_drop a e) = stays-have p goal h.variables left (drop-stays goal left a order e)
  cases-have (by_force a e) = stays-have p goal h.variables left (force-stays goal left a order e)
  cases-have (by_split t u e) = stays-have p goal h.variables left (split-stays goal left t u order e)
  cases-have (by_unroll a e) = stays-have p goal h.variables left (unroll-stays goal left a order e)
  cases-have (by_back a e) = stays-have p goal h.variables left (back-stays goal left a order e)
  cases-have (by_assign q x e rest is row) =
      let v = has (run (assign q x e) ∷ rest) is in
      command-have p s (assign q x e) rest v rest v.reads.1 left (assign-stays s rest left q x e order row)
  cases-have (by_look a q x e f rest is row) =
      let v = has (run (look_up q x e f) ∷ rest) is in
      command-have p s (look_up q x e f) rest v rest v.reads.1 left (look-stays s rest left q x e f a order row)
  cases-have (by_mutate a q e f u rest is row) =
      let v = has (run (mutate q e f u) ∷ rest) is in
      command-have p s (mutate q e f u) rest v rest v.reads.1 left (mutate-stays s rest left q e f u a order row)
  cases-have (by_new q x rest is row) =
      let v = has (run (new q x) ∷ rest) is in
      command-have p s (new q x) rest v rest v.reads.1 left (new-stays s rest left q x order row)
  cases-have (by_dispose a q e rest is row) =
      let v = has (run (dispose q e) ∷ rest) is in
      command-have p s (dispose q e) rest v rest v.reads.1 left (dispose-stays s rest left q e a order row)
  cases-have (by_choice true q t this that rest is row) =
      let v = has (run (if q t this that) ∷ rest) is in
      command-have p s (if q t this that) rest v (to_run this ++ rest)
      (run-reads p v.among this rest v.reads.0.1 v.reads.1) left
      (branch-stays true s rest left q t this that order row)
  cases-have (by_choice false q t this that rest is row) =
      let v = has (run (if q t this that) ∷ rest) is in
      command-have p s (if q t this that) rest v (to_run that ++ rest)
      (run-reads p v.among that rest v.reads.0.2 v.reads.1) left
      (branch-stays false s rest left q t this that order row)
  cases-have (by_loop q t invariant body rest is e) =
      let v = has (run (while q t invariant body) ∷ rest) is in
      written-has p left s _ e (record {
        among = v.among;
        listed = v.listed;
        reads = taking-reads p v.among q (head q t invariant body ∷ rest) v.reads _ (d.ordered invariant).names;
      })
  cases-have (by_call q c callee rest is there e) =
      let v = has (run (call q c) ∷ rest) is in
      let set = fresh_for s.next_sym (changed d.sets c) in
      let adds = to_add q (term_after s set c) (d.ordered callee.post) ++ rest in
      written-has p left (with_symbols (length set) s) _ e (record {
        among = v.among;
        listed = v.listed;
        reads = taking-reads p v.among c.place (gave q set [] ∷ adds)
            (adding-reads p v.among q rest v.reads.1 _) _ (d.ordered callee.pre).names;
      })
  cases-have (by_fork q c o one two rest is there also_there e) =
      let v = has (run (fork q c o) ∷ rest) is in
      let first = fresh_for s.next_sym (changed d.sets c) in
      let second = fresh_for (s.next_sym + length first) (changed d.sets o) in
      let adds_two = to_add q (term_after s second o) (d.ordered two.post) ++ rest in
      let adds = to_add q (term_after s first c) (d.ordered one.post) ++ adds_two in
      let gives = gave q (first ++ second) [] ∷ adds in
      let takes = to_take o.place (term_before s o) (d.ordered two.pre) ++ gives in
      written-has p left (with_symbols (length (first ++ second)) s) _ e (record {
        among = v.among;
        listed = v.listed;
        reads = taking-reads p v.among c.place takes
            (taking-reads p v.among o.place gives
            (adding-reads p v.among q adds_two (adding-reads p v.among q rest v.reads.1 _) _)
            _ (d.ordered two.pre).names) _ (d.ordered one.pre).names;
      })
  cases-have (by_enter q r t body of rest is there e) =
      let v = has (run (with q r t body) ∷ rest) is in
      let xs = variables_from r 0 of.variables in
      let now = with_fresh xs s in
      let after = exit q r ∷ rest in
      let inside = to_run body ++ after in
      let tests = to_add_test q (term now.vars) t ++ inside in
      let those = with_those (variables_of p r) v.among in
      written-has p left now _ e (record {
        among = those;
        listed = λ x i. fresh-has s xs v.among v.listed x
            (subst (λ ys. with_those ys v.among x ≡ true) (of-there r of there) i);
        reads = adding-reads p those q tests (adding-reads p those q inside
            (run-reads p those body after v.reads.0.2
            (subst (λ a. TodoReadsIn p a rest) (region-same (variables_of p r) v.among v.reads.0.0) v.reads.1))
            _) _;
      })
  cases-have (by_add q given rest is row) =
      let it = add q given ∷ rest in
      stays-have p (goal_of s it) (has it is) left
      (add-stays s q given rest left order (few-left (operands given.conjuncts) _ left row))
  cases-have (by_choice_assumed so q given rest is row) =
      let it = add q given ∷ rest in
      stays-have p (goal_of s it) (has it is) left (choice-stays so s q given rest left order row)
  cases-have (by_step tag q want names rest is row) =
      let it = take q want names ∷ rest in
      shown-has p s q want names rest left (has it is)
      (laws.subtraction_law tag s q want names rest left (front it is).shape row)
      (subtract-lists tag s q want names rest left row)
  cases-have (by_choice_shown so q want names rest is row) =
      let it = take q want names ∷ rest in
      shown-has p s q want names rest left (has it is)
      (laws.shown_branch_law so s q want names rest left (front it is).shape row)
      (chosen-lists so s q want names rest left row)
  cases-have (by_give q set removed rest is e) =
      let v = has (gave q set removed ∷ rest) is in
      written-has p left _ rest e (record {
        among = without_those removed v.among;
        listed = λ x i. let k = kept removed v.among x i in
            remove_all-listed removed (set_vars set s.vars) x k.0 (all-listed set s.vars x (v.listed x k.1));
        reads = v.reads;
      })
  cases-have (by_around q t invariant body rest is e) =
      let v = has (head q t invariant body ∷ rest) is in
      let xs = unknown_in d s body in
      let now = with_fresh xs s in
      let listed : (x : Var) → v.among x ≡ true → is_listed now.vars x ≡ true =
      λ x i. all-listed (fresh_for s.next_sym xs) s.vars x (v.listed x i) in
      let again_here = again q invariant ∷ [] in
      subst (AllHave p) (sym e) (
        record {
          among = v.among;
          listed = listed;
          reads = adding-reads p v.among q (to_add_test q (term now.vars) t ++ (to_run body ++ again_here))
              (adding-reads p v.among q (to_run body ++ again_here)
              (run-reads p v.among body again_here v.reads.0.1 tt) _) _;
        },
        (
          record {
            among = v.among;
            listed = listed;
            reads = adding-reads p v.among q (to_add_test q (term now.vars) (negation ENil t) ++ rest)
                (adding-reads p v.among q rest v.reads.1 _) _;
          },
          tt,
        ),
      )
  cases-have (by_again q invariant rest is e) =
      written-has p left s _ e (record {
        among = h.variables.among;
        listed = h.variables.listed;
        reads = taking-reads p h.variables.among q (end q ∷ []) tt _ (d.ordered invariant).names;
      })
  cases-have (by_exit q r of rest is there e) =
      let v = has (exit q r ∷ rest) is in
      let xs = variables_from r 0 of.variables in
      written-has p left s _ e (record {
        among = v.among;
        listed = v.listed;
        reads = taking-reads p v.among q (gave q [] xs ∷ rest)
            (subst (λ ys. TodoReadsIn p (without_those ys v.among) rest) (of-there r of there) v.reads)
            _ (d.ordered of.invariant).names;
      })
  cases-have (by_return q owed rest is e) =
      written-has p left s _ e (record {
        among = h.variables.among;
        listed = h.variables.listed;
        reads = each-reads p h.variables.among q (term s.vars) owed;
      })
  cases-have (by_end q rest is none e) = subst (AllHave p) (sym e) tt

  pub rows-have : Rows d goal left → AllHave p left
  rows-have r = cases-have r
