-- What a state that a step of subtraction leaves has of the state before: its variables, and no cell whose fields are
-- out of order.
-- Names: `option-LAW` of what there is in an option, `STEP-lists` of that step.
use Rattle.std.specs.List.{AllByRecursion}
use Rattle.std.specs.Option.{option_and_then, option_map}
use Rattle.std.proofs.Common.{◌≡◌, ℕ, Bool, true, false, cond, Option, Some, None, List, ◌∷◌, ◌++◌, refl, subst}
use Rattle.std.proofs.lemmas.Option.{same_Some}
use Rattle.sf_base.specs.declared.place.Place.{Place}
use Rattle.sf_consume.specs.Subtract.{Fit, Step, Want, apart_step, bind_step, binding, both, cell_step, double_cell, double_head_step, double_head_there, double_join_step, double_join_there, double_joined, empty_step, equality, exact_step, exact_there, first_of, fitting, four, handed_cell, head_step, head_there, inequality, join_step, join_there, joined, list_head_step, list_join_step, new_symbols, node_step, node_there, removed, removed_if, same_step, stepped, subtracted, wanted_cell, wanted_double, wanted_list, wanted_shape, wanted_tree}
use Rattle.sf_consume.specs.Wants.{still_wanted, wanting}
use Rattle.sf_core.specs.Program.Syntax.{Conjunct, Conjuncts, none, also}
use Rattle.sf_rules.specs.Checked.Lemmas.{few-left}
use Rattle.sf_rules.specs.Checked.Rows.Branches.{branch_row, chosen}
use Rattle.sf_rules.specs.Checked.Rows.Take.{subtract_row}
use Rattle.sf_sym.specs.Cells.{atom_at, cell_at, handed}
use Rattle.sf_sym.specs.Decided.{term_of}
use Rattle.sf_sym.specs.declared.atom.Atom.{Atom}
use Rattle.sf_sym.specs.declared.atom.Numbered.{Numbered}
use Rattle.sf_sym.specs.declared.tag.Tag.{Tag}
use Rattle.sf_sym.specs.declared.tag.Tag.TheVariants as tags
use Rattle.sf_sym.specs.declared.term.Term.{Term}
use Rattle.sf_sym.specs.Checked.Lemmas.AtomLists.{without-all}
use Rattle.sf_sym.specs.Goal.{Item, take, Goal, one_goal, taking}
use Rattle.sf_sym.specs.Known.{is_nothing}
use Rattle.sf_sym.specs.Pending.{Pending}
use Rattle.sf_sym.specs.Ready.{HasOrder}
use Rattle.sf_sym.specs.State.{State}
use Rattle.sf_sym.specs.Tests.{differs, same_term}

-- WHAT THERE IS IN AN OPTION
abbrev pub AllIn : {X : Type 0} → (X → Type 0) → Option X → Type 0
AllIn P None = Unit {0}
AllIn P (Some x) = P x

pub option-then : {X Y : Type 0} (P : Y → Type 0) (f : X → Option Y) (o : Option X) → ((x : X) → AllIn P (f x))
    → AllIn P (option_and_then f o)
option-then P f None h = tt
option-then P f (Some x) h = h x

pub option-map : {X Y : Type 0} (P : Y → Type 0) (f : X → Y) (o : Option X) → ((x : X) → P (f x))
    → AllIn P (option_map f o)
option-map P f None h = tt
option-map P f (Some x) h = h x

pub option-cond : {X : Type 0} (P : X → Type 0) (b : Bool) (o : Option X) → AllIn P o → AllIn P (cond b o None)
option-cond P true o h = h
option-cond P false o h = tt

pub option-first : {X : Type 0} (P : X → Type 0) (o q : Option X) → AllIn P o → AllIn P q → AllIn P (first_of o q)
option-first P None q h g = g
option-first P (Some x) q h g = h

pub option-is : {X : Type 0} (P : X → Type 0) (o : Option X) (x : X) → o ≡ Some x → AllIn P o → P x
option-is P o x e h = subst (AllIn P) e h

-- THE LISTS OF A STATE
pub record Lists (s s2 : State) : Type 0 where
  pub vars : s2.vars ≡ s.vars
  pub fields : AllByRecursion (λ (a : Numbered). HasOrder a.atom) s.atoms
      → AllByRecursion (λ (a : Numbered). HasOrder a.atom) s2.atoms

pub lists-same : (s : State) → Lists s s
lists-same s = record { vars = refl; fields = λ o. o }

-- of a subtraction
abbrev pub WantLists : State → Want → Type 0
WantLists s w = Lists s w.state

handed-lists : (s : State) (a : ℕ) (x : Atom) → Lists s (handed s a x)
handed-lists s a x = record { vars = refl; fields = λ o. without-all HasOrder s.atoms a o }

cell-lists : (s : State) (root : Term) (a : ℕ) (f : Fit) → Lists s (handed_cell s root a f)
cell-lists s root a f = record { vars = refl; fields = λ o. without-all HasOrder s.atoms a o }

removed-lists : (holds_of : Term → Term → Bool) (s : State) (bindings : List (Option Term)) (cs : Conjuncts Term)
    (e : Term × Term) → AllIn (WantLists s) (removed_if holds_of s bindings cs e)
removed-lists holds_of s bindings cs e =
    option-cond (WantLists s) (holds_of e.0 e.1) (Some (removed s bindings cs)) (lists-same s)

module _ (s : State) (bindings : List (Option Term)) (c : Conjunct Term) (cs : Conjuncts Term) where
  abbrev P : Want → Type 0
  P = WantLists s

  bind-lists : AllIn P (bind_step s bindings c cs)
  bind-lists = option-then P _ (equality c) (λ e. option-map P _ (binding bindings e.0 e.1) (λ b. lists-same s))

  same-lists : AllIn P (same_step s bindings c cs)
  same-lists = option-then P (removed_if same_term s bindings cs)
      (option_and_then (λ e. both bindings e.0 e.1) (equality c)) (removed-lists same_term s bindings cs)

  apart-lists : AllIn P (apart_step s bindings c cs)
  apart-lists = option-then P (removed_if (differs s) s bindings cs)
      (option_and_then (λ e. both bindings e.0 e.1) (inequality c)) (removed-lists (differs s) s bindings cs)

  cell_step-lists : (a : ℕ) → AllIn P (cell_step a s bindings c cs)
  cell_step-lists a = option-map P _ (option_and_then (fitting a s bindings) (wanted_cell c))
      (λ r. cell-lists s r.0 a r.1)

  empty-lists : AllIn P (empty_step s bindings c cs)
  empty-lists = option-then P _ (wanted_shape bindings c)
      (λ x. option-cond P (is_nothing x) (Some (removed s bindings cs)) (lists-same s))

  exact-lists : (a : ℕ) → AllIn P (exact_step a s bindings c cs)
  exact-lists a = option-then P (exact_there a s bindings cs) (wanted_shape bindings c)
      (λ wanted. option-then P _ (atom_at s.atoms a)
      (λ x. option-cond P _ (Some (removed (handed s a x) bindings cs)) (handed-lists s a x)))

  list_head-lists : (a : ℕ) → AllIn P (list_head_step a s bindings c cs)
  list_head-lists a = option-then P _ (wanted_list c)
      (λ w. option-then P (head_there a s bindings w cs) (both bindings w.from w.to)
      (λ e. option-cond P (differs s e.0 e.1) _
      (option-map P _ (cell_at s.atoms a e.0) (λ fields. record {
        vars = refl;
        fields = λ o. without-all HasOrder s.atoms a o;
      }))))

  double_head-lists : (a : ℕ) → AllIn P (double_head_step a s bindings c cs)
  double_head-lists a = option-then P _ (wanted_double c)
      (λ w. option-then P (double_head_there a s bindings w cs) (four bindings w.from w.before w.last w.to)
      (λ e. option-cond P (differs s e.0 e.3) _
      (option-map P _ (double_cell a s bindings w e.0 e.1) (λ r. cell-lists s e.0 a r.0))))

  head-lists : (a : ℕ) → AllIn P (head_step a s bindings c cs)
  head-lists a =
      option-first P (list_head_step a s bindings c cs) (double_head_step a s bindings c cs) (list_head-lists a)
      (double_head-lists a)

  list_join-lists : (a : ℕ) → AllIn P (list_join_step a s bindings c cs)
  list_join-lists a = option-then P _ (wanted_list c)
      (λ w. option-then P (join_there a s bindings w cs) (both bindings w.from w.to)
      (λ e. option-then P _ (atom_at s.atoms a)
      (λ x. option-map P _ (joined s a e.0 e.1 x) (λ v. handed-lists s a x))))

  double_join-lists : (a : ℕ) → AllIn P (double_join_step a s bindings c cs)
  double_join-lists a = option-then P _ (wanted_double c)
      (λ w. option-then P (double_join_there a s bindings w cs) (four bindings w.from w.before w.last w.to)
      (λ e. option-then P _ (atom_at s.atoms a)
      (λ x. option-map P _ (double_joined s a e.0 e.1 e.3 x) (λ v. handed-lists s a x))))

  join-lists : (a : ℕ) → AllIn P (join_step a s bindings c cs)
  join-lists a =
      option-first P (list_join_step a s bindings c cs) (double_join_step a s bindings c cs) (list_join-lists a)
      (double_join-lists a)

  node-lists : (a : ℕ) → AllIn P (node_step a s bindings c cs)
  node-lists a = option-then P _ (wanted_tree c)
      (λ w. option-then P (node_there a s bindings w cs) (term_of bindings w.root)
      (λ t. option-map P _ (cell_at s.atoms a t) (λ fields. record {
        vars = refl;
        fields = λ o. without-all HasOrder s.atoms a o;
      })))

first-lists : (step : Step) (s : State) (bindings : List (Option Term)) (cs : Conjuncts Term)
    → ((c : Conjunct Term) (cs : Conjuncts Term) → AllIn (WantLists s) (step s bindings c cs))
    → AllIn (WantLists s) (stepped step (record { state = s; bindings = bindings; conjuncts = cs }))
first-lists step s bindings none h = tt
first-lists step s bindings (also c cs) h = h c cs

-- every step
pub subtracted-lists : (tag : Tag) (want : Want) → AllIn (WantLists want.state) (subtracted tag want)
subtracted-lists tags.Bind w = first-lists bind_step w.state w.bindings w.conjuncts (bind-lists w.state w.bindings)
subtracted-lists tags.Same w = first-lists same_step w.state w.bindings w.conjuncts (same-lists w.state w.bindings)
subtracted-lists tags.Apart w = first-lists apart_step w.state w.bindings w.conjuncts (apart-lists w.state w.bindings)
subtracted-lists (tags.Cell a) w =
    first-lists (cell_step a) w.state w.bindings w.conjuncts (λ c cs. cell_step-lists w.state w.bindings c cs a)
subtracted-lists tags.Empty w = first-lists empty_step w.state w.bindings w.conjuncts (empty-lists w.state w.bindings)
subtracted-lists (tags.Exact a) w =
    first-lists (exact_step a) w.state w.bindings w.conjuncts (λ c cs. exact-lists w.state w.bindings c cs a)
subtracted-lists (tags.Head a) w =
    first-lists (head_step a) w.state w.bindings w.conjuncts (λ c cs. head-lists w.state w.bindings c cs a)
subtracted-lists (tags.Join a) w =
    first-lists (join_step a) w.state w.bindings w.conjuncts (λ c cs. join-lists w.state w.bindings c cs a)
subtracted-lists (tags.Node a) w =
    first-lists (node_step a) w.state w.bindings w.conjuncts (λ c cs. node-lists w.state w.bindings c cs a)
subtracted-lists _ w = tt

-- THE ROWS
-- a step of subtraction leaves the lists
pub subtract-lists : (tag : Tag) (s : State) (p : Place) (want : Pending) (names : List (List ℕ)) (rest : List Item)
    (left : List Goal) → subtract_row tag s p want names rest ≡ Some left
    → AllByRecursion (λ (g : Goal). Lists s g.state) left
subtract-lists tag s p want names rest left row =
    go (subtracted tag (wanting s want)) (subtracted-lists tag (wanting s want))
    (few-left (new_symbols want.conjuncts) _ left row)
  where
    go : (m : Option Want) → AllIn (WantLists s) m
        → option_and_then (λ w. one_goal w.state (taking p (still_wanted w) names ++ rest)) m ≡ Some left
        → AllByRecursion (λ (g : Goal). Lists s g.state) left
    go None h e = absurd (cc)
    go (Some w) h e = subst (AllByRecursion (λ (g : Goal). Lists s g.state)) (same_Some _ left e) (h, tt)

-- a choice leaves the state
pub chosen-lists : (so : Bool) (s : State) (p : Place) (want : Pending) (names : List (List ℕ)) (rest : List Item)
    (left : List Goal) → branch_row so s (take p want names ∷ rest) ≡ Some left
    → AllByRecursion (λ (g : Goal). Lists s g.state) left
chosen-lists so s p want names rest left row = go (chosen so s want want.conjuncts) row
  where
    go : (m : Option Pending) → option_and_then (λ z. one_goal s (taking p z names ++ rest)) m ≡ Some left
        → AllByRecursion (λ (g : Goal). Lists s g.state) left
    go None e = absurd (cc)
    go (Some z) e = subst (AllByRecursion (λ (g : Goal). Lists s g.state)) (same_Some _ left e) (lists-same s, tt)
