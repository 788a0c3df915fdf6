-- A tag that the strategy takes has a row: by what is in front.
-- Names: `good-LAW` of choices whose tag has a row, `LAW-some` of rows that are there.
use Rattle.std.proofs.Common.{◌≡◌, ℕ, ◌+◌, ◌<◌, Bool, true, false, ◌||◌, not, cond, Option, Some, None, List, [], ◌∷◌, ◌++◌, is_some, length, refl, sym, ap, ap₂, ◌∙◌, subst, inl, inr, length-append}
use Rattle.std.proofs.lemmas.Bool.Decides.{Decides-eqb, Decides-int_eq}
use Rattle.std.proofs.lemmas.Bool.{lt-ltb}
use Rattle.std.proofs.lemmas.Option.{same_Some}
use Rattle.std.specs.List.{slice_get}
use Rattle.std.specs.Option.{option_and_then, option_map}
use Rattle.sf_base.specs.declared.ids.FieldId.{FieldId}
use Rattle.sf_base.specs.declared.ids.Var.{Var}
use Rattle.sf_base.specs.declared.place.Place.{Place}
use Rattle.sf_consume.specs.declared.wanted.WantedDouble.{WantedDouble}
use Rattle.sf_calls.specs.Changes.{changed, changes_in}
use Rattle.sf_consume.specs.Subtract.{Fit, Step, apart_step, bind_step, binding, both, cell_step, double_from, double_head_there, double_join_there, double_joined, empty_step, equality, exact_step, exact_there, first_fit, first_of, fit_known, fitting, four, head_step, head_there, is_same_shape, join_step, join_there, joined, list_from, new_symbols, node_step, node_there, removed, removed_if, same_step, step_of, stepped, subtracted, wanted_cell, wanted_shape}
use Rattle.sf_core.specs.Assertions.Occurs.{OccursInAll, OccursInTest}
use Rattle.sf_core.specs.declared.assertion.Operand.{Operand}
use Rattle.sf_core.specs.declared.assertion.Operand.TheVariants.{Known, Exists}
use Rattle.sf_core.specs.declared.assertion.Test.{Test}
use Rattle.sf_core.specs.declared.assertion.Test.TheVariants.{True, Equal, Differ}
use Rattle.sf_core.specs.declared.command.Expr.{Expr}
use Rattle.sf_core.specs.Program.Formed.{TestWithin}
use Rattle.sf_core.specs.Program.Syntax.{Command, assign, look_up, mutate, new, dispose, if, while, call, fork, with, Conjunct, holds, points, segment, doubly, tree, choose, Conjuncts, none, also}
use Rattle.sf_rules.specs.declared.few.TheConstants.{TOO_MANY}
use Rattle.sf_rules.specs.Checked.Few.{if_few}
use Rattle.sf_produce.specs.Add.{operands}
use Rattle.sf_rules.specs.Checked.Rows.Calls.{called, forked}
use Rattle.sf_rules.specs.Checked.Rows.Commands.{looked}
use Rattle.sf_rules.specs.Rules.{unknown_in}
use Rattle.sf_rules.specs.Checked.Rows.Regions.{entered}
use Rattle.sf_rules.specs.Resources.{variables_from}
use Rattle.sf_rules.specs.Checked.Rows.Take.{subtract_row}
use Rattle.sf_rules.specs.Checked.Lemmas.RowRules.{row-leaves}
use Rattle.sf_rules.specs.Checked.Rows.Whole.{row, row_of}
use Rattle.sf_rules.specs.Setting.{Setting}
use Rattle.sf_search.proofs.Found.{found-at, found-forced}
use Rattle.sf_rules.specs.Checked.Lemmas.FreshVariables.{few-filtered, fresh-length, term-below, variables-length}
use Rattle.sf_search.proofs.Rows.{Good, GoodIf, NothingIsKnown, cell-found, good-at_cell, good-at_test, good-if, good-map, good-or, good-split, good-split_or, double-is, segment-is}
use Rattle.sf_search.specs.declared.choices.choice.Choice.{Choice}
use Rattle.sf_search.specs.declared.choices.choice.Choice.TheVariants.{Takes as takes}
use Rattle.sf_search.specs.Strategy.{double_at, has_term, lowest, lowest_forced, segment_at, which}
use Rattle.sf_sym.specs.declared.stuck.Stuck.TheVariants.{EndNotAllocated as end_not_allocated, Leak as leak, NoAtom as no_atom, NotDifferent as not_different, NotEqual as not_equal}
use Rattle.sf_search.specs.Checked.Chooses.{at_choice, at_command, at_double, at_end, at_equality, at_first_cell, at_first_part, at_first_wanted, at_given, at_inequality, at_items, at_known, at_list, at_open_double, at_points, at_tree, at_wanted, begins_with, chooses, exact_atom, field_of, has_step, joins, split_or, takes_if}
use Rattle.sf_search.specs.Checked.Laws.{TakenTagsHaveRows}
use Rattle.sf_search.proofs.Told.{told}
use Rattle.sf_search.proofs.GoalShapes.{IsReady, ready-of}
use Rattle.sf_sym.specs.Below.{AllInPending, AllPaired, IsBelow}
use Rattle.sf_sym.specs.Cells.{cell_at, fields_at, handed}
use Rattle.sf_sym.specs.Decided.{command_test, is_false, is_true, term_of, test_of_terms, two_terms}
use Rattle.sf_sym.specs.declared.atom.Atom.{Atom}
use Rattle.sf_sym.specs.declared.atom.Atom.TheVariants.{Ls, Tree, Dll}
use Rattle.sf_sym.specs.declared.atom.Numbered.{Numbered}
use Rattle.sf_sym.specs.Known.{is_nothing}
use Rattle.sf_sym.specs.declared.tag.Tag.{Tag}
use Rattle.sf_sym.specs.declared.tag.Tag.TheVariants as t
use Rattle.sf_sym.specs.declared.term.Term.{Term}
use Rattle.sf_sym.specs.declared.term.Term.TheVariants.{Nil, Int, Sym}
use Rattle.sf_sym.specs.Fields.{field_term}
use Rattle.sf_sym.specs.Goal.{Goal, Item, run, add, take, gave, head, again, exit, return, end, one_goal}
use Rattle.sf_sym.specs.Pending.{Pending}
use Rattle.sf_sym.specs.Ready.{is_listed}
use Rattle.sf_sym.specs.State.{State, term}
use Rattle.sf_sym.specs.Tests.{allocated, differs, is_absurd, is_constant, same_term}
use Rattle.sf_sym.specs.Variables.{fresh_for}

-- Terms that are below
-- of a command's test
command-below : (n : ℕ) (vars : List (Var × Term)) (test : Test Expr) → AllPaired (IsBelow n) vars
    → TestWithin (IsBelow n) (command_test (term vars) test)
command-below n vars True all = tt
command-below n vars (Equal e f) all = (term-below n vars all e, term-below n vars all f)
command-below n vars (Differ e f) all = (term-below n vars all e, term-below n vars all f)

-- of an operand that has a term
operand-below : (P : Term → Type 0) (p : Pending) → AllInPending P p → (x : Operand Term) (u : Term)
    → OccursInAll p.conjuncts x → term_of p.bindings x ≡ Some u → P u
operand-below P p all (Known v) u at e =
    subst P (same_Some v u e) (all.conjuncts v at)
operand-below P p all (Exists n) u at e = all.bindings n u e

-- of a choice's test
two-below : (P : Term → Type 0) (make : Term → Term → Test Term) (o p : Option Term) (x : Test Term)
    → two_terms make o p ≡ Some x → (u : Term) × (v : Term) × (o ≡ Some u) × (p ≡ Some v) × (make u v ≡ x)
two-below P make (Some u) (Some v) x e = (u, v, refl, refl, same_Some (make u v) x e)
two-below P make (Some u) None x e = absurd (cc)
two-below P make None p x e = absurd (cc)

choice-below : (P : Term → Type 0) (p : Pending) → AllInPending P p → (test : Test (Operand Term))
    → ((x : Operand Term) → OccursInTest test x → OccursInAll p.conjuncts x) → (x : Test Term)
    → test_of_terms p.bindings test ≡ Some x → TestWithin P x
choice-below P p all True at x e = subst (TestWithin P) (same_Some True x e) tt
choice-below P p all (Equal y z) at x e =
    let w = two-below P Equal (term_of p.bindings y) (term_of p.bindings z) x e in
    subst (TestWithin P) w.4
    (operand-below P p all y w.0 (at y (inl refl)) w.2, operand-below P p all z w.1 (at z (inr refl)) w.3)
choice-below P p all (Differ y z) at x e =
    let w = two-below P Differ (term_of p.bindings y) (term_of p.bindings z) x e in
    subst (TestWithin P) w.4
    (operand-below P p all y w.0 (at y (inl refl)) w.2, operand-below P p all z w.1 (at z (inr refl)) w.3)

-- Rows that are there
-- with few new symbols
few-some : (n : ℕ) (o : Option (List Goal)) → n < TOO_MANY → is_some o ≡ true → is_some (if_few n o) ≡ true
few-some n o l h = ap (λ b. is_some (cond b o None)) (lt-ltb n TOO_MANY l) ∙ h

there : {X Y : Type 0} (f : X → Option Y) (o : Option X) → is_some o ≡ true → ((x : X) → is_some (f x) ≡ true)
    → is_some (option_and_then f o) ≡ true
there f None e h = absurd (cc)
there f (Some x) e h = h x

cond-some : {X : Type 0} (b : Bool) (x : X) → b ≡ true → is_some (cond b (Some x) None) ≡ true
cond-some true x e = refl
cond-some false x e = absurd (cc)

look-some : (s : State) (u : Term) (f : FieldId) (a : ℕ) (x : Var) (rest : List Item) (fields : List (FieldId × Term))
    → cell_at s.atoms a u ≡ Some fields → (o : Option Term)
    → is_some (option_and_then (λ after. one_goal after rest) (looked s u f a x o)) ≡ true
look-some s u f a x rest fields e (Some v) = refl
look-some s u f a x rest fields e None = rw e refl

-- Commands
module _ (d : Setting) (s : State) (rest : List Item) where
  abbrev here : Item → Goal
  here i = record { state = s; todo = i ∷ rest }

  good-command : (c : Command) → IsReady d (here (run c)) → NothingIsKnown (here (run c))
      → Good (row_of d (here (run c))) (at_command s c)
  good-command (assign p x e) shape nothing = refl
  good-command (look_up p x e f) shape nothing =
      good-at_cell d (here (run (look_up p x e f))) shape nothing (term s.vars e) _ _
      (λ a fields i. rw i (look-some s (term s.vars e) f a x.var rest fields i (field_term fields f)))
  good-command (mutate p e f v) shape nothing =
      good-at_cell d (here (run (mutate p e f v))) shape nothing (term s.vars e) _ _
      (λ a fields i. rw i refl)
  good-command (new p x) shape nothing = refl
  good-command (dispose p e) shape nothing =
      good-at_cell d (here (run (dispose p e))) shape nothing (term s.vars e) _ _
      (λ a fields i. rw i refl)
  good-command (if p test this that) shape nothing =
      good-at_test d (here (run (if p test this that))) shape (command_test (term s.vars) test)
      (command-below s.next_sym s.vars test shape.below.state.vars)
      (λ i. cond-some (is_true s (command_test (term s.vars) test)) _ i)
      (λ i. cond-some (is_false s (command_test (term s.vars) test)) _ i)
  good-command (while p test invariant body) shape nothing = refl
  good-command (call p c) shape nothing =
      there (called d s p c rest) (slice_get d.program.procedures c.callee.0) shape.front.0
      (λ g. few-some (length (fresh_for s.next_sym (changed d.sets c))) _
      (subst (λ n. n < TOO_MANY) (sym (fresh-length s.next_sym (changed d.sets c))) shape.front.1) refl)
  good-command (fork p c e) shape nothing =
      there (λ g. option_and_then (forked d s p c e rest g) (slice_get d.program.procedures e.callee.0))
      (slice_get d.program.procedures c.callee.0) shape.front.0
      (λ g. there (forked d s p c e rest g) (slice_get d.program.procedures e.callee.0) shape.front.1
      (λ h. few-some (length (fresh_for s.next_sym (changed d.sets c)
      ++ fresh_for (s.next_sym + length (fresh_for s.next_sym (changed d.sets c))) (changed d.sets e))) _
      (subst (λ n. n < TOO_MANY)
      (sym (length-append (fresh_for s.next_sym (changed d.sets c))
      (fresh_for (s.next_sym + length (fresh_for s.next_sym (changed d.sets c))) (changed d.sets e))
      ∙ ap₂ (λ m n. m + n) (fresh-length s.next_sym (changed d.sets c))
      (fresh-length (s.next_sym + length (fresh_for s.next_sym (changed d.sets c))) (changed d.sets e))))
      shape.front.2) refl))
  good-command (with p r test body) shape nothing =
      ap (λ o. is_some (option_and_then (entered d s p r test body rest) o)) shape.front.1
      ∙ few-some (length (variables_from r 0 shape.front.0.variables)) _
      (subst (λ n. n < TOO_MANY) (sym (variables-length r 0 shape.front.0.variables)) shape.front.2) refl

-- Choices among conjuncts
good-choice : (d : Setting) (g : Goal) (shape : IsReady d g) (bindings : List (Option Term))
    (test : Test (Operand Term))
    → ((x : Test Term) → test_of_terms bindings test ≡ Some x → TestWithin (IsBelow g.state.next_sym) x)
    → ((x : Test Term) → test_of_terms bindings test ≡ Some x → is_true g.state x ≡ true
    → is_some (row_of d g t.Then) ≡ true)
    → ((x : Test Term) → test_of_terms bindings test ≡ Some x → is_false g.state x ≡ true
    → is_some (row_of d g t.Else) ≡ true)
    → Good (row_of d g) (at_choice g.state bindings test)
good-choice d g shape bindings test below this that = go (test_of_terms bindings test) refl
  where
    go : (o : Option (Test Term)) → test_of_terms bindings test ≡ o → Good (row_of d g) (at_known g.state o)
    go None i = good-split_or d g shape not_equal
    go (Some x) i = good-at_test d g shape x (below x i) (this x i) (that x i)

-- What is assumed
module _ (d : Setting) (s : State) (rest : List Item) (p : Place) (b : List (Option Term)) where
  abbrev given : Conjuncts Term → Goal
  given cs = record { state = s; todo = add p (record { conjuncts = cs; bindings = b }) ∷ rest }

  good-given : (cs : Conjuncts Term) → IsReady d (given cs) → Good (row_of d (given cs)) (at_given s b cs)
  good-given none shape = absurd (let e : false ≡ true = shape.front.0 in cc)
  good-given (also (choose q test this that) cs) shape =
      good-choice d (given (also (choose q test this that) cs)) shape b test
      (choice-below (IsBelow s.next_sym) (record { conjuncts = also (choose q test this that) cs; bindings = b })
      shape.below.todo.0 test (λ x o. inl (inl o)))
      (λ x i h. rw i (rw h refl)) (λ x i h. rw i (rw h refl))
  good-given (also (holds q True) cs) shape = refl
  good-given (also (holds q (Equal x y)) cs) shape = refl
  good-given (also (holds q (Differ x y)) cs) shape = refl
  good-given (also (points q x fs) cs) shape = few-some (operands (also (points q x fs) cs)) _ shape.front.1 refl
  good-given (also (segment q next x y) cs) shape = refl
  good-given (also (doubly q next back x l y z) cs) shape = refl
  good-given (also (tree q left right x) cs) shape = refl

-- Steps of subtraction, whatever else is wanted
map-any : {X Y : Type 0} (f g : X → Y) (o : Option X) → is_some (option_map f o) ≡ true → is_some (option_map g o) ≡
    true
map-any f g None e = absurd (cc)
map-any f g (Some x) e = refl

then-any : {X Y Z : Type 0} (f g : Y → Z) (h : X → Option Y) (o : Option X)
    → is_some (option_and_then (λ x. option_map f (h x)) o) ≡ true
    → is_some (option_and_then (λ x. option_map g (h x)) o) ≡ true
then-any f g h None e = absurd (cc)
then-any f g h (Some x) e = map-any f g (h x) e

cond-any : {X : Type 0} (c : Bool) (x y : X) → is_some (cond c (Some x) None) ≡ true
    → is_some (cond c (Some y) None) ≡ true
cond-any true x y e = refl
cond-any false x y e = absurd (cc)

removed-any : (test : Term → Term → Bool) (s : State) (b : List (Option Term)) (cs ds : Conjuncts Term)
    (o : Option (Term × Term)) → is_some (option_and_then (removed_if test s b cs) o) ≡ true
    → is_some (option_and_then (removed_if test s b ds) o) ≡ true
removed-any test s b cs ds None e = absurd (cc)
removed-any test s b cs ds (Some q) e = cond-any (test q.0 q.1) (removed s b cs) (removed s b ds) e

nothing-any : (s : State) (b : List (Option Term)) (cs ds : Conjuncts Term) (o : Option Atom)
    → is_some (option_and_then (λ x. cond (is_nothing x) (Some (removed s b cs)) None) o) ≡ true
    → is_some (option_and_then (λ x. cond (is_nothing x) (Some (removed s b ds)) None) o) ≡ true
nothing-any s b cs ds None e = absurd (cc)
nothing-any s b cs ds (Some x) e = cond-any (is_nothing x) (removed s b cs) (removed s b ds) e

bind-any : (s : State) (b : List (Option Term)) (c : Conjunct Term) (cs : Conjuncts Term)
    → has_step bind_step s b c ≡ true → is_some (bind_step s b c cs) ≡ true
bind-any s b c cs e = then-any _ _ (λ q. binding b q.0 q.1) (equality c) e

same-any : (s : State) (b : List (Option Term)) (c : Conjunct Term) (cs : Conjuncts Term)
    → has_step same_step s b c ≡ true → is_some (same_step s b c cs) ≡ true
same-any s b c cs e =
    removed-any same_term s b none cs (option_and_then (λ q. both b q.0 q.1) (equality c)) e

empty-any : (s : State) (b : List (Option Term)) (c : Conjunct Term) (cs : Conjuncts Term)
    → has_step empty_step s b c ≡ true → is_some (empty_step s b c cs) ≡ true
empty-any s b c cs e = nothing-any s b none cs (wanted_shape b c) e

cell-any : (a : ℕ) (s : State) (b : List (Option Term)) (c : Conjunct Term) (cs : Conjuncts Term)
    → has_step (cell_step a) s b c ≡ true → is_some (cell_step a s b c cs) ≡ true
cell-any a s b c cs e = map-any _ _ (option_and_then (fitting a s b) (wanted_cell c)) e

-- a row of subtraction is there where its step is
take-some : (tag : Tag) (step : Step) → step_of tag ≡ Some step → (s : State) (p : Place) (b : List (Option Term))
    (c : Conjunct Term) (cs : Conjuncts Term) (names : List (List ℕ)) (rest : List Item)
    → new_symbols (also c cs) < TOO_MANY → is_some (step s b c cs) ≡ true
    → is_some (subtract_row tag s p (record { conjuncts = also c cs; bindings = b }) names rest) ≡ true
take-some tag step e s p b c cs names rest l h =
    few-some (new_symbols (also c cs)) _ l
    (there _ (subtracted tag (record { state = s; bindings = b; conjuncts = also c cs }))
    (ap (λ o. is_some (option_and_then (λ st.
    stepped st (record { state = s; bindings = b; conjuncts = also c cs })) o)) e ∙ h) (λ w. refl))

term-self : (u : Term) → same_term u u ≡ true
term-self Nil = refl
term-self (Int i) = (Decides-int_eq i i).1 refl
term-self (Sym n) = (Decides-eqb n n).1 refl

if-not : {X : Type 0} (b : Bool) (x : X) → cond b (Some x) None ≡ None → b ≡ false
if-not true x e = absurd (cc)
if-not false x e = refl

not-false : (b : Bool) → not b ≡ false → b ≡ true
not-false true e = refl
not-false false e = absurd (cc)

not-true : (b : Bool) → not b ≡ true → b ≡ false
not-true true e = absurd (cc)
not-true false e = refl

if-so : {X : Type 0} (b : Bool) (x y : X) → cond b (Some x) None ≡ Some y → b ≡ true
if-so true x y e = refl
if-so false x y e = absurd (cc)

-- What is to be shown
module _ (d : Setting) (s : State) (rest : List Item) (p : Place) (names : List (List ℕ)) (b : List (Option Term))
    (cs : Conjuncts Term) where
  abbrev wanting : Conjunct Term → Goal
  wanting c = record { state = s; todo = take p (record { conjuncts = also c cs; bindings = b }) names ∷ rest }

  by-step : (c : Conjunct Term) (tag : Tag) (step : Step) → step_of tag ≡ Some step → IsReady d (wanting c)
      → is_some (step s b c cs) ≡ true
      → is_some (subtract_row tag s p (record { conjuncts = also c cs; bindings = b }) names rest) ≡ true
  by-step c tag step e shape h = take-some tag step e s p b c cs names rest shape.front h

  good-equality : (c : Conjunct Term) → IsReady d (wanting c) → Good (row_of d (wanting c)) (at_equality s b c)
  good-equality c shape =
      good-or (row_of d (wanting c)) (takes_if (has_step bind_step s b c) t.Bind) _
      (good-if (row_of d (wanting c)) (has_step bind_step s b c) t.Bind
      (λ h. by-step c t.Bind bind_step refl shape (bind-any s b c cs h)))
      (λ none. good-or (row_of d (wanting c)) (takes_if (has_step same_step s b c) t.Same) (split_or s not_equal)
      (good-if (row_of d (wanting c)) (has_step same_step s b c) t.Same
      (λ h. by-step c t.Same same_step refl shape (same-any s b c cs h)))
      (λ nor. good-split_or d (wanting c) shape not_equal))

  good-inequality : (q : Place) (x y : Operand Term) → IsReady d (wanting (holds q (Differ x y)))
      → Good (row_of d (wanting (holds q (Differ x y)))) (at_inequality s b x y)
  good-inequality q x y shape =
      good-or (row_of d (wanting (holds q (Differ x y))))
      (option_and_then (λ e. takes_if (differs s e.0 e.1) t.Apart) (both b x y)) (split_or s not_different)
      (go (both b x y) refl) (λ none. good-split_or d (wanting (holds q (Differ x y))) shape not_different)
    where
      go : (o : Option (Term × Term)) → both b x y ≡ o
          → GoodIf (row_of d (wanting (holds q (Differ x y))))
          (option_and_then (λ e. takes_if (differs s e.0 e.1) t.Apart) o)
      go None i = tt
      go (Some e) i =
          good-if (row_of d (wanting (holds q (Differ x y)))) (differs s e.0 e.1) t.Apart
          (λ h. by-step (holds q (Differ x y)) t.Apart apart_step refl shape
          (ap (λ o. is_some (option_and_then (removed_if (differs s) s b cs) o)) i
          ∙ cond-some (differs s e.0 e.1) (removed s b cs) h))

  good-points : (q : Place) (x : Operand Term) (fs : List (FieldId × Operand Term))
      → IsReady d (wanting (points q x fs)) → NothingIsKnown (wanting (points q x fs)) → (o : Option Term)
      → Good (row_of d (wanting (points q x fs))) (at_points s b (points q x fs) o)
  good-points q x fs shape nothing None = good-split_or d (wanting (points q x fs)) shape no_atom
  good-points q x fs shape nothing (Some u) =
      good-at_cell d (wanting (points q x fs)) shape nothing u _ no_atom
      (λ a fields i. good-or (row_of d (wanting (points q x fs)))
      (takes_if (has_step (cell_step a) s b (points q x fs)) (t.Cell a)) (split_or s not_equal)
      (good-if (row_of d (wanting (points q x fs))) (has_step (cell_step a) s b (points q x fs)) (t.Cell a)
      (λ h. by-step (points q x fs) (t.Cell a) (cell_step a) refl shape (cell-any a s b (points q x fs) cs h)))
      (λ none. good-split_or d (wanting (points q x fs)) shape not_equal))

  good-exact : (c : Conjunct Term) → IsReady d (wanting c) → (w : Atom) → wanted_shape b c ≡ Some w
      → GoodIf (row_of d (wanting c)) (exact_atom s (Some w))
  good-exact c shape w i =
      good-map (row_of d (wanting c)) (λ f. t.Exact f.0) (lowest (which (λ x. is_same_shape x w)) s.atoms)
      (λ f e. let x = found-at (which (λ y. is_same_shape y w)) s.atoms shape.rising f.0 f.1 e in
      by-step c (t.Exact f.0) (exact_step f.0) refl shape
      (ap (λ o. is_some (option_and_then (exact_there f.0 s b cs) o)) i
      ∙ ap (λ o. is_some (option_and_then (λ y. cond (is_same_shape y w) (Some (removed (handed s f.0 y) b cs))
      None) o)) x.at
      ∙ cond-some (is_same_shape x.atom w) (removed (handed s f.0 x.atom) b cs)
      (if-so (is_same_shape x.atom w) x.atom f.1 x.is)))

  -- a wanted part that isn't empty isn't nothing
  not-nothing : (c : Conjunct Term) (x : Atom) → wanted_shape b c ≡ Some x
      → takes_if (has_step empty_step s b c) t.Empty ≡ None → is_nothing x ≡ false
  not-nothing c x i h = go (is_nothing x) refl
    where
      no : has_step empty_step s b c ≡ false
      no = if-not (has_step empty_step s b c) (takes t.Empty) h

      go : (r : Bool) → is_nothing x ≡ r → r ≡ false
      go false j = refl
      go true j =
          let yes : has_step empty_step s b c ≡ true =
          ap (λ o. is_some (option_and_then (λ y. cond (is_nothing y) (Some (removed s b none)) None) o)) i
          ∙ cond-some (is_nothing x) (removed s b none) j in
          absurd (let both : true ≡ false = sym yes ∙ no in cc)

  both-below : (c : Conjunct Term) → IsReady d (wanting c) → (x y : Operand Term) (e : Term × Term)
      → OccursInAll (also c cs) x → OccursInAll (also c cs) y → both b x y ≡ Some e
      → IsBelow s.next_sym e.0 × IsBelow s.next_sym e.1
  both-below c shape x y e ox oy i = go (term_of b x) (term_of b y) refl refl i
    where
      go : (o r : Option Term) → term_of b x ≡ o → term_of b y ≡ r
          → option_and_then (λ u. option_map (λ v. (u, v)) r) o ≡ Some e
          → IsBelow s.next_sym e.0 × IsBelow s.next_sym e.1
      go None r j k l = absurd (cc)
      go (Some u) None j k l = absurd (cc)
      go (Some u) (Some v) j k l =
          subst (λ (z : Term × Term). IsBelow s.next_sym z.0 × IsBelow s.next_sym z.1) (same_Some (u, v) e l) (
            operand-below (IsBelow s.next_sym) (record { conjuncts = also c cs; bindings = b })
                shape.below.todo.0 x u ox j,
            operand-below (IsBelow s.next_sym) (record { conjuncts = also c cs; bindings = b })
                shape.below.todo.0 y v oy k,
          )

  good-joins : (q : Place) (next : FieldId) (x y : Operand Term) (e : Term × Term)
      → IsReady d (wanting (segment q next x y)) → both b x y ≡ Some e
      → GoodIf (row_of d (wanting (segment q next x y))) (joins s e.0 e.1)
  good-joins q next x y e shape i = go (lowest (segment_at e.0) s.atoms) refl
    where
      go : (o : Option (ℕ × Term)) → lowest (segment_at e.0) s.atoms ≡ o
          → GoodIf (row_of d (wanting (segment q next x y)))
          (option_map (λ f. cond (is_constant e.1 || allocated s e.1 (Some f.0)) (takes (t.Join f.0))
          (split_or s end_not_allocated)) o)
      go None j = tt
      go (Some f) j = step (is_constant e.1 || allocated s e.1 (Some f.0)) refl
        where
          step : (r : Bool) → is_constant e.1 || allocated s e.1 (Some f.0) ≡ r
              → Good (row_of d (wanting (segment q next x y)))
              (cond r (takes (t.Join f.0)) (split_or s end_not_allocated))
          step true k =
              let w = found-at (segment_at e.0) s.atoms shape.rising f.0 f.1 j in
              by-step (segment q next x y) (t.Join f.0) (join_step f.0) refl shape
              (ap (λ o. is_some (first_of (option_and_then
              (join_there f.0 s b (record { place = q; next = next; from = x; to = y }) cs) o) None)) i
              ∙ ap (λ o. is_some (first_of (option_and_then (λ z.
              option_map (λ v. removed (handed s f.0 z) b (also (list_from
              (record { place = q; next = next; from = x; to = y }) v e.1) cs)) (joined s f.0 e.0 e.1 z)) o) None))
              (w.at ∙ ap Some (segment-is e.0 w.atom f.1 w.is))
              ∙ rw (term-self e.0, k) refl)
          step false k = good-split_or d (wanting (segment q next x y)) shape end_not_allocated

  good-list : (q : Place) (next : FieldId) (x y : Operand Term) → IsReady d (wanting (segment q next x y))
      → (o : Option (Term × Term)) → both b x y ≡ o
      → Good (row_of d (wanting (segment q next x y))) (at_list s b (segment q next x y) o)
  good-list q next x y shape None i = good-split_or d (wanting (segment q next x y)) shape no_atom
  good-list q next x y shape (Some e) i =
      good-or (row_of d (wanting (segment q next x y))) (takes_if (has_step empty_step s b (segment q next x y))
      t.Empty) _
      (good-if (row_of d (wanting (segment q next x y))) (has_step empty_step s b (segment q next x y)) t.Empty (λ
      h. by-step (segment q next x y) t.Empty empty_step refl shape (empty-any s b (segment q next x y) cs h)))
      (λ full. good-or (row_of d (wanting (segment q next x y))) (exact_atom s (wanted_shape b (segment q next x
      y))) _
      (subst (λ (o : Option Atom). GoodIf (row_of d (wanting (segment q next x y))) (exact_atom s o)) (sym shaped)
      (good-exact (segment q next x y) shape (Ls e.0 e.1) shaped))
      (λ other. good-or (row_of d (wanting (segment q next x y))) (takes_if (not (differs s e.0 e.1)) (t.Split e.0
      e.1)) _
      (good-if (row_of d (wanting (segment q next x y))) (not (differs s e.0 e.1)) (t.Split e.0 e.1)
      (λ h. good-split d (wanting (segment q next x y)) shape e.0 e.1
      (not-nothing (segment q next x y) (Ls e.0 e.1) shaped full) below.0 below.1))
      (λ differ. good-or (row_of d (wanting (segment q next x y))) (begins_with s e.0 t.Head) _
      (good-map (row_of d (wanting (segment q next x y))) (λ f. t.Head f.0) (lowest (λ z. fields_at z e.0) s.atoms)
      (λ f j. by-step (segment q next x y) (t.Head f.0) (head_step f.0) refl shape
      (ap (λ o. is_some (first_of (option_and_then
      (head_there f.0 s b (record { place = q; next = next; from = x; to = y }) cs) o) None)) i
      ∙ rw (
        not-false (differs s e.0 e.1) (if-not (not (differs s e.0 e.1)) (takes (t.Split e.0 e.1)) differ),
        cell-found d (wanting (segment q next x y)) shape e.0 f j,
      ) refl)))
      (λ apart. good-or (row_of d (wanting (segment q next x y))) (joins s e.0 e.1) (split_or s no_atom) (good-joins
      q next x y e shape i)
      (λ none. good-split_or d (wanting (segment q next x y)) shape no_atom)))))
    where
      shaped : wanted_shape b (segment q next x y) ≡ Some (Ls e.0 e.1)
      shaped = ap (option_map (λ z. Ls z.0 z.1)) i

      below : IsBelow s.next_sym e.0 × IsBelow s.next_sym e.1
      below = both-below (segment q next x y) shape x y e (inl (inl refl)) (inl (inr refl)) i

  -- the four terms of a wanted doubly linked segment, as two pairs
  four-parts : (x p l y : Operand Term) (w : Term × Term × Term × Term) → four b x p l y ≡ Some w
      → (both b x p ≡ Some (w.0, w.1)) × (both b l y ≡ Some (w.2, w.3))
  four-parts x p l y w i = go (both b x p) (both b l y) refl refl i
    where
      go : (o r : Option (Term × Term)) → both b x p ≡ o → both b l y ≡ r
          → option_and_then (λ e. option_map (λ f. (e.0, e.1, f.0, f.1)) r) o ≡ Some w
          → (both b x p ≡ Some (w.0, w.1)) × (both b l y ≡ Some (w.2, w.3))
      go None r j k e = absurd (cc)
      go (Some u) None j k e = absurd (cc)
      go (Some u) (Some v) j k e =
          let same = same_Some (u.0, u.1, v.0, v.1) w e in (
            j ∙ ap (λ (z : Term × Term × Term × Term). Some (z.0, z.1)) same,
            k ∙ ap (λ (z : Term × Term × Term × Term). Some (z.2, z.3)) same,
          )

  -- a field that is known to have a term fits
  fits-known : (f : Fit) (o : Option Term) (u : Term) → has_term u o ≡ true → fit_known f o u ≡ Some f
  fits-known f None u e = absurd (cc)
  fits-known f (Some v) u e = ap (λ c. cond c (Some f) None) e

  module _ (w : WantedDouble) (ends : Term × Term × Term × Term) where
    abbrev double : Conjunct Term
    double = doubly w.place w.next w.back w.from w.before w.last w.to

    good-first-part : IsReady d (wanting double) → four b w.from w.before w.last w.to ≡ Some ends
        → (o : Option (ℕ × (Term × Term × Term))) → lowest (double_at ends.0) s.atoms ≡ o
        → Good (row_of d (wanting double)) (at_first_part s ends.1 ends.3 o)
    good-first-part shape i None j = good-split_or d (wanting double) shape no_atom
    good-first-part shape i (Some f) j =
        step (same_term f.1.0 ends.1) (is_constant ends.3 || allocated s ends.3 (Some f.0)) refl refl
      where
        step : (r e : Bool) → same_term f.1.0 ends.1 ≡ r → is_constant ends.3 || allocated s ends.3 (Some f.0) ≡ e
            → Good (row_of d (wanting double))
            (cond r (cond e (takes (t.Join f.0)) (split_or s end_not_allocated)) (split_or s not_equal))
        step true true k m =
            let v = found-at (double_at ends.0) s.atoms shape.rising f.0 f.1 j in
            by-step double (t.Join f.0) (join_step f.0) refl shape
            (ap (λ o. is_some (option_and_then (double_join_there f.0 s b w cs) o)) i
            ∙ ap (λ o. is_some (option_and_then (λ z.
            option_map (λ e. removed (handed s f.0 z) b (also (double_from w e.0 e.1 ends.2 ends.3) cs))
            (double_joined s f.0 ends.0 ends.1 ends.3 z)) o))
            (v.at ∙ ap Some (double-is ends.0 v.atom f.1 v.is))
            ∙ rw (term-self ends.0, k, m) refl)
        step true false k m = good-split_or d (wanting double) shape end_not_allocated
        step false e k m = good-split_or d (wanting double) shape not_equal

    good-first-cell : IsReady d (wanting double) → four b w.from w.before w.last w.to ≡ Some ends
        → differs s ends.0 ends.3 ≡ true → (other : Choice) → Good (row_of d (wanting double)) other
        → (o : Option (ℕ × List (FieldId × Term))) → lowest (λ z. fields_at z ends.0) s.atoms ≡ o
        → Good (row_of d (wanting double)) (at_first_cell s ends.1 other (option_map (field_of w.back) o))
    good-first-cell shape i apart other h None j = h
    good-first-cell shape i apart other h (Some f) j = step (has_term ends.1 (field_term f.1 w.back)) refl
      where
        step : (r : Bool) → has_term ends.1 (field_term f.1 w.back) ≡ r
            → Good (row_of d (wanting double)) (cond r (takes (t.Head f.0)) (split_or s not_equal))
        step true k =
            by-step double (t.Head f.0) (head_step f.0) refl shape
            (ap (λ o. is_some (option_and_then (double_head_there f.0 s b w cs) o)) i
            ∙ rw (
              apart,
              cell-found d (wanting double) shape ends.0 f j,
              fits-known (first_fit s f.1 b) (field_term f.1 w.back) ends.1 k,
            ) refl)
        step false k = good-split_or d (wanting double) shape not_equal

    good-open-double : IsReady d (wanting double) → four b w.from w.before w.last w.to ≡ Some ends
        → same_term ends.0 ends.3 ≡ false → Good (row_of d (wanting double)) (at_open_double s w.back ends)
    good-open-double shape i j =
        good-or (row_of d (wanting double)) (takes_if (not (differs s ends.0 ends.3)) (t.Split ends.0 ends.3)) _
        (good-if (row_of d (wanting double)) (not (differs s ends.0 ends.3)) (t.Split ends.0 ends.3)
        (λ h. good-split d (wanting double) shape ends.0 ends.3 j first.0 second.1))
        (λ apart. good-first-cell shape i
        (not-false (differs s ends.0 ends.3)
        (if-not (not (differs s ends.0 ends.3)) (takes (t.Split ends.0 ends.3)) apart))
        (at_first_part s ends.1 ends.3 (lowest (double_at ends.0) s.atoms))
        (good-first-part shape i (lowest (double_at ends.0) s.atoms) refl)
        (lowest (λ z. fields_at z ends.0) s.atoms) refl)
      where
        pairs : (both b w.from w.before ≡ Some (ends.0, ends.1)) × (both b w.last w.to ≡ Some (ends.2, ends.3))
        pairs = four-parts w.from w.before w.last w.to ends i

        first : IsBelow s.next_sym ends.0 × IsBelow s.next_sym ends.1
        first =
            both-below double shape w.from w.before (ends.0, ends.1) (inl (inl refl)) (inl (inr (inl refl))) pairs.0

        second : IsBelow s.next_sym ends.2 × IsBelow s.next_sym ends.3
        second =
            both-below double shape w.last w.to (ends.2, ends.3) (inl (inr (inr (inl refl))))
            (inl (inr (inr (inr refl)))) pairs.1

  good-double : (w : WantedDouble)
      → IsReady d (wanting (doubly w.place w.next w.back w.from w.before w.last w.to))
      → (o : Option (Term × Term × Term × Term)) → four b w.from w.before w.last w.to ≡ o
      → Good (row_of d (wanting (doubly w.place w.next w.back w.from w.before w.last w.to)))
      (at_double s b (doubly w.place w.next w.back w.from w.before w.last w.to) w.back o)
  good-double w shape None i =
      good-split_or d (wanting (doubly w.place w.next w.back w.from w.before w.last w.to)) shape no_atom
  good-double w shape (Some e) i =
      good-or (row_of d (wanting c)) (takes_if (has_step empty_step s b c) t.Empty) _
      (good-if (row_of d (wanting c)) (has_step empty_step s b c) t.Empty
      (λ h. by-step c t.Empty empty_step refl shape (empty-any s b c cs h)))
      (λ full. good-or (row_of d (wanting c)) (exact_atom s (wanted_shape b c)) _
      (subst (λ (o : Option Atom). GoodIf (row_of d (wanting c)) (exact_atom s o)) (sym shaped)
      (good-exact c shape (Dll e.0 e.1 e.2 e.3) shaped))
      (λ other. by-ends (same_term e.0 e.3) refl))
    where
      c : Conjunct Term
      c = doubly w.place w.next w.back w.from w.before w.last w.to

      shaped : wanted_shape b c ≡ Some (Dll e.0 e.1 e.2 e.3)
      shaped = ap (option_map (λ z. Dll z.0 z.1 z.2 z.3)) i

      by-ends : (r : Bool) → same_term e.0 e.3 ≡ r
          → Good (row_of d (wanting c)) (cond r (split_or s not_equal) (at_open_double s w.back e))
      by-ends true j = good-split_or d (wanting c) shape not_equal
      by-ends false j = good-open-double w e shape i j

  good-tree : (q : Place) (left right : FieldId) (x : Operand Term) → IsReady d (wanting (tree q left right x))
      → (o : Option Term) → term_of b x ≡ o
      → Good (row_of d (wanting (tree q left right x))) (at_tree s b (tree q left right x) o)
  good-tree q left right x shape None i = good-split_or d (wanting (tree q left right x)) shape no_atom
  good-tree q left right x shape (Some u) i =
      good-or (row_of d (wanting (tree q left right x))) (takes_if (has_step empty_step s b (tree q left right x))
      t.Empty) _
      (good-if (row_of d (wanting (tree q left right x))) (has_step empty_step s b (tree q left right x)) t.Empty (λ
      h. by-step (tree q left right x) t.Empty empty_step refl shape (empty-any s b (tree q left right x) cs h)))
      (λ full. good-or (row_of d (wanting (tree q left right x))) (exact_atom s (wanted_shape b (tree q left right
      x))) _
      (subst (λ (o : Option Atom). GoodIf (row_of d (wanting (tree q left right x))) (exact_atom s o)) (sym shaped)
      (good-exact (tree q left right x) shape (Tree u) shaped))
      (λ other. good-or (row_of d (wanting (tree q left right x))) (begins_with s u t.Node) _
      (good-map (row_of d (wanting (tree q left right x))) (λ f. t.Node f.0) (lowest (λ z. fields_at z u) s.atoms)
      (λ f j. by-step (tree q left right x) (t.Node f.0) (node_step f.0) refl shape
      (ap (λ o. is_some (option_and_then
      (node_there f.0 s b (record { place = q; left = left; right = right; root = x }) cs) o)) i
      ∙ rw (cell-found d (wanting (tree q left right x)) shape u f j) refl)))
      (λ none. good-or (row_of d (wanting (tree q left right x))) (takes_if (not (differs s u Nil)) (t.Split u Nil))
      (split_or s no_atom)
      (good-if (row_of d (wanting (tree q left right x))) (not (differs s u Nil)) (t.Split u Nil)
      (λ h. good-split d (wanting (tree q left right x)) shape u Nil
      (not-nothing (tree q left right x) (Tree u) shaped full) below refl))
      (λ same. good-split_or d (wanting (tree q left right x)) shape no_atom))))
    where
      shaped : wanted_shape b (tree q left right x) ≡ Some (Tree u)
      shaped = ap (option_map Tree) i

      below : IsBelow s.next_sym u
      below =
          operand-below (IsBelow s.next_sym) (record { conjuncts = also (tree q left right x) cs; bindings = b })
          shape.below.todo.0 x u
          (inl refl) i

  good-wanted : (c : Conjunct Term) → IsReady d (wanting c) → NothingIsKnown (wanting c)
      → Good (row_of d (wanting c)) (at_wanted s b c)
  good-wanted (holds q True) shape nothing = good-split_or d (wanting (holds q True)) shape not_equal
  good-wanted (holds q (Equal x y)) shape nothing = good-equality (holds q (Equal x y)) shape
  good-wanted (holds q (Differ x y)) shape nothing = good-inequality q x y shape
  good-wanted (points q x fs) shape nothing = good-points q x fs shape nothing (term_of b x)
  good-wanted (segment q next x y) shape nothing = good-list q next x y shape (both b x y) refl
  good-wanted (doubly q next back x p l y) shape nothing =
      good-double
      (record { place = q; next = next; back = back; from = x; before = p; last = l; to = y })
      shape (four b x p l y) refl
  good-wanted (tree q left right x) shape nothing = good-tree q left right x shape (term_of b x) refl
  good-wanted (choose q test this that) shape nothing =
      good-choice d (wanting (choose q test this that)) shape b test
      (choice-below (IsBelow s.next_sym) (record { conjuncts = also (choose q test this that) cs; bindings = b })
      shape.below.todo.0 test (λ x o. inl (inl o)))
      (λ x i h. rw i (rw h refl)) (λ x i h. rw i (rw h refl))

-- What is in front
good-end : (d : Setting) (s : State) (q : Place) (rest : List Item)
    → IsReady d (record { state = s; todo = end q ∷ rest })
    → Good (row_of d (record { state = s; todo = end q ∷ rest })) (at_end s s.atoms)
good-end d s q rest shape = go s.atoms refl
  where
    go : (xs : List Numbered) → s.atoms ≡ xs
        → Good (row_of d (record { state = s; todo = end q ∷ rest })) (at_end s xs)
    go [] i = rw i refl
    go (x ∷ xs) i = good-split_or d (record { state = s; todo = end q ∷ rest }) shape leak

good-want : (d : Setting) (s : State) (rest : List Item) (p : Place) (names : List (List ℕ))
    (b : List (Option Term)) (cs : Conjuncts Term)
    → IsReady d (record {
      state = s;
      todo = take p (record { conjuncts = cs; bindings = b }) names ∷ rest;
    })
    → NothingIsKnown (record {
      state = s;
      todo = take p (record { conjuncts = cs; bindings = b }) names ∷ rest;
    })
    → Good (row_of d (record {
      state = s;
      todo = take p (record { conjuncts = cs; bindings = b }) names ∷ rest;
    })) (at_first_wanted s b cs)
good-want d s rest p names b none shape nothing =
    good-split_or d (record { state = s; todo = take p (record { conjuncts = none; bindings = b }) names ∷ rest })
    shape no_atom
good-want d s rest p names b (also c cs) shape nothing = good-wanted d s rest p names b cs c shape nothing

good-items : (d : Setting) (s : State) (todo : List Item) → IsReady d (record { state = s; todo = todo })
    → NothingIsKnown (record { state = s; todo = todo })
    → Good (row_of d (record { state = s; todo = todo })) (at_items s todo)
good-items d s [] shape nothing = absurd shape.front
good-items d s (run c ∷ rest) shape nothing = good-command d s rest c shape nothing
good-items d s (add p given ∷ rest) shape nothing = good-given d s rest p given.bindings given.conjuncts shape
good-items d s (take p want names ∷ rest) shape nothing =
    good-want d s rest p names want.bindings want.conjuncts shape nothing
good-items d s (gave p set removed ∷ rest) shape nothing = refl
good-items d s (head p test invariant body ∷ rest) shape nothing =
    few-some (length (unknown_in d s body)) _ (few-filtered (is_listed s.vars) (changes_in d.sets body) shape.front) refl
good-items d s (again p invariant ∷ rest) shape nothing = refl
good-items d s (exit p r ∷ rest) shape nothing =
    there _ (slice_get d.program.resources r.0) shape.front (λ of. refl)
good-items d s (return p post ∷ rest) shape nothing = refl
good-items d s (end p ∷ rest) shape nothing = good-end d s p rest shape

-- The whole strategy
map-none : {X Y : Type 0} (f : X → Y) (o : Option X) → option_map f o ≡ None → o ≡ None
map-none f None e = refl
map-none f (Some x) e = absurd (cc)

pub good-chooses : (d : Setting) (g : Goal) → IsReady d g → Good (row_of d g) (chooses g)
good-chooses d g shape =
    good-or (row_of d g) (takes_if (is_absurd g.state) t.Absurd) _
    (good-if (row_of d g) (is_absurd g.state) t.Absurd (λ h. cond-some (is_absurd g.state) [] h))
    (λ possible. good-or (row_of d g)
    (option_map (λ f. takes (t.Drop f.0)) (lowest (which is_nothing) g.state.atoms)) _
    (good-map (row_of d g) (λ f. t.Drop f.0) (lowest (which is_nothing) g.state.atoms)
    (λ f e. let x = found-at (which is_nothing) g.state.atoms shape.rising f.0 f.1 e in
    rw x.at (cond-some (is_nothing x.atom) _ (if-so (is_nothing x.atom) x.atom f.1 x.is))))
    (λ full. good-or (row_of d g)
    (option_map (λ f. takes (t.Force f.0)) (lowest_forced g.state g.state.atoms)) (at_items g.state g.todo)
    (good-map (row_of d g) (λ f. t.Force f.0) (lowest_forced g.state g.state.atoms)
    (λ f e. let x = found-forced g.state g.state.atoms shape.rising f.0 f.1 e in
    rw (x.1, x.2) refl))
    (λ free. good-items d g.state g.todo shape (
      map-none (λ f. takes (t.Drop f.0)) (lowest (which is_nothing) g.state.atoms) full,
      map-none (λ f. takes (t.Force f.0)) (lowest_forced g.state g.state.atoms) free,
    ))))

some-there : {X : Type 0} (o : Option X) → is_some o ≡ true → (x : X) × (o ≡ Some x)
some-there None e = absurd (cc)
some-there (Some x) e = (x, refl)

pub taken_tags_have_rows : TakenTagsHaveRows
unfolding TakenTagsHaveRows
taken_tags_have_rows d goal tag shape numbers e =
    let there = some-there (row d goal tag)
    (ap (λ b. is_some (cond b (row_of d goal tag) None)) numbers
    ∙ subst (Good (row_of d goal)) (told goal ∙ e) (good-chooses d goal (ready-of d goal shape numbers))) in
    (there.0, row-leaves d goal tag there.0 there.1)
