-- The strategy as the code says it: what is in front decides, after what is known.
-- Ordinary: a table as nested choices.
use Rattle.std.specs.Prelude.{ℕ, Bool, ◌||◌, not, cond, is_some, Option, Some, None, List, [], ◌∷◌}
use Rattle.std.specs.Option.{option_map, option_and_then}
use Rattle.sf_consume.specs.Subtract.{bind_step, both, cell_step, empty_step, four, is_same_shape, same_step, wanted_shape, Step}
use Rattle.sf_base.specs.declared.ids.FieldId.{FieldId}
use Rattle.sf_core.specs.declared.assertion.Operand.{Operand}
use Rattle.sf_core.specs.declared.assertion.Test.{Test}
use Rattle.sf_core.specs.declared.assertion.Test.TheVariants.{True, Equal, Differ}
use Rattle.sf_core.specs.Program.Syntax.{Conjunct, holds, points, segment, doubly, tree, choose, Conjuncts, none, also, Command, assign, look_up, mutate, new, dispose, if, while, call, fork, with}
use Rattle.sf_sym.specs.declared.atom.Atom.{Atom}
use Rattle.sf_sym.specs.declared.atom.Numbered.{Numbered}
use Rattle.sf_sym.specs.declared.tag.Tag.{Tag}
use Rattle.sf_sym.specs.declared.tag.Tag.TheVariants as t
use Rattle.sf_sym.specs.declared.term.Term.{Term}
use Rattle.sf_sym.specs.declared.term.Term.TheVariants.{Nil}
use Rattle.sf_sym.specs.Cells.{fields_at}
use Rattle.sf_sym.specs.Fields.{field_term}
use Rattle.sf_sym.specs.Decided.{command_test, is_false, is_true, term_of, test_of_terms}
use Rattle.sf_sym.specs.Goal.{Item, run, add, take, gave, head, again, exit, return, end, Goal}
use Rattle.sf_sym.specs.Pending.{Pending}
use Rattle.sf_sym.specs.State.{State, term}
use Rattle.sf_sym.specs.Tests.{allocated, differs, is_absurd, is_constant, parts, same_term}
use Rattle.sf_sym.specs.Known.{is_nothing}
use Rattle.sf_search.specs.declared.choices.choice.Choice.{Choice}
use Rattle.sf_search.specs.declared.choices.choice.Choice.TheVariants.{Takes as takes, Stays as stays}
use Rattle.sf_search.specs.Strategy.{double_at, has_term, last_at, lowest, lowest_forced, or_else, segment_at, tree_at, undecided_ends, which}
use Rattle.sf_sym.specs.declared.stuck.Stuck.{Stuck}
use Rattle.sf_sym.specs.declared.stuck.Stuck.TheVariants.{NoCell as no_cell, NotEqual as not_equal, NotDifferent as not_different, NoAtom as no_atom, Leak as leak, EndNotAllocated as end_not_allocated}

-- Where a goal would be stuck
-- these ends are split, and without any the goal is stuck
abbrev pub split_found : Stuck → Option (ℕ × (Term × Term)) → Choice
split_found kind None = stays kind
split_found kind (Some (a, e)) = takes (t.Split e.0 e.1)

-- the ends of the lowest atom or taken atom that is undecided are split, and without one the goal is stuck
abbrev pub split_or : State → Stuck → Choice
split_or s kind = split_found kind (lowest (undecided_ends s) (parts s))

-- a part of the heap that may begin with a cell at the term is opened: it is unrolled where it surely isn't empty, and
-- else its ends are split
abbrev pub opened_by : State → (root end_ : Term) → (a : ℕ) → Choice
opened_by s u v a = cond (differs s u v) (takes (t.Unroll a)) (takes (t.Split u v))

-- a doubly linked segment whose last cell may be at the term is opened from there
abbrev pub opened_back : State → ℕ × (Term × Term) → Choice
opened_back s a = cond (differs s a.1.0 a.1.1) (takes (t.Back a.0)) (takes (t.Split a.1.0 a.1.1))

-- the lowest doubly linked segment from the term, or else the lowest whose last cell is there
abbrev pub opened_either : State → Term → Option (ℕ × (Term × Term × Term)) → Option (ℕ × (Term × Term))
    → Option Choice
opened_either s u (Some a) others = Some (opened_by s u a.1.2 a.0)
opened_either s u None others = option_map (opened_back s) others

abbrev pub opened_double : State → Term → Option Choice
opened_double s u = opened_either s u (lowest (double_at u) s.atoms) (lowest (last_at u) s.atoms)

-- the lowest segment there, or else the lowest tree, or else one of these
abbrev pub opened_first : State → Term → Option (ℕ × Term) → Option (ℕ × Atom) → Option Choice → Option Choice
opened_first s u (Some (a, w)) others doubles = Some (opened_by s u w a)
opened_first s u None (Some (a, x)) doubles = Some (opened_by s u Nil a)
opened_first s u None None doubles = doubles

abbrev pub opened : State → Term → Option Choice
opened s u =
    opened_first s u (lowest (segment_at u) s.atoms) (lowest (tree_at u) s.atoms) (opened_double s u)

-- that atom, or else this
abbrev pub found_or : {X : Type 0} → (found : ℕ → Choice) → Choice → Option (ℕ × X) → Choice
found_or found c (Some (a, x)) = found a
found_or found c None = c

-- a cell at that term is wanted: the lowest one, or a part of the heap is opened
abbrev pub at_cell : State → Term → (found : ℕ → Choice) → Stuck → Choice
at_cell s u found kind =
    found_or found (or_else (opened s u) (split_or s kind)) (lowest (λ x. fields_at x u) s.atoms)

-- a tag where its row is there
abbrev pub takes_if : Bool → Tag → Option Choice
takes_if b tag = cond b (Some (takes tag)) None

-- Choices
-- the two terms of a test are split
abbrev pub split_by : Test Term → Choice
split_by True = takes t.Then
split_by (Equal u v) = takes (t.Split u v)
split_by (Differ u v) = takes (t.Split u v)

-- by a test: where it isn't decided it is split
abbrev pub at_test : State → Test Term → Choice
at_test s test =
    cond (is_true s test) (takes t.Then) (cond (is_false s test) (takes t.Else) (split_by test))

-- by a test, if its operands have terms
abbrev pub at_known : State → Option (Test Term) → Choice
at_known s None = split_or s not_equal
at_known s (Some x) = at_test s x

-- a choice among conjuncts
abbrev pub at_choice : State → List (Option Term) → Test (Operand Term) → Choice
at_choice s bindings test = at_known s (test_of_terms bindings test)

-- Commands
abbrev pub at_command : State → Command → Choice
at_command s (assign p x e) = takes t.Assign
at_command s (look_up p x e f) = at_cell s (term s.vars e) (λ a. takes (t.Look a)) no_cell
at_command s (mutate p e f v) = at_cell s (term s.vars e) (λ a. takes (t.Mutate a)) no_cell
at_command s (new p x) = takes t.New
at_command s (dispose p e) = at_cell s (term s.vars e) (λ a. takes (t.Dispose a)) no_cell
at_command s (if p test c d) = at_test s (command_test (term s.vars) test)
at_command s (while p test a c) = takes t.Loop
at_command s (call p c) = takes t.Call
at_command s (fork p c d) = takes t.Fork
at_command s (with p r test c) = takes t.Enter

-- What is assumed
abbrev pub at_given : State → List (Option Term) → Conjuncts Term → Choice
at_given s bindings (also (choose p test this that) cs) = at_choice s bindings test
at_given s bindings _ = takes t.Add

-- What is to be shown
-- whether a step has a row at a conjunct
abbrev pub has_step : Step → State → List (Option Term) → Conjunct Term → Bool
has_step step s bindings c = is_some (step s bindings c none)

-- an equality: an existential gets a term, or the terms are one
abbrev pub at_equality : State → List (Option Term) → Conjunct Term → Choice
at_equality s bindings c =
    or_else (takes_if (has_step bind_step s bindings c) t.Bind)
    (or_else (takes_if (has_step same_step s bindings c) t.Same) (split_or s not_equal))

-- an inequality: the terms surely differ
abbrev pub at_inequality : State → List (Option Term) → (x y : Operand Term) → Choice
at_inequality s bindings x y =
    or_else (option_and_then (λ e. takes_if (differs s e.0 e.1) t.Apart) (both bindings x y))
    (split_or s not_different)

-- a wanted cell at that term: the lowest one there, if it fits
abbrev pub at_wanted_cell : State → List (Option Term) → Conjunct Term → Term → Choice
at_wanted_cell s bindings c u =
    at_cell s u
    (λ a. or_else (takes_if (has_step (cell_step a) s bindings c) (t.Cell a)) (split_or s not_equal)) no_atom

-- the same where its root has a term
abbrev pub at_points : State → List (Option Term) → Conjunct Term → Option Term → Choice
at_points s bindings c None = split_or s no_atom
at_points s bindings c (Some u) = at_wanted_cell s bindings c u

-- the lowest atom that is the wanted one
abbrev pub exact_atom : State → Option Atom → Option Choice
exact_atom s None = None
exact_atom s (Some wanted) =
    option_map (λ f. takes (t.Exact f.0)) (lowest (which (λ x. is_same_shape x wanted)) s.atoms)

-- the lowest cell at that term
abbrev pub begins_with : State → Term → (ℕ → Tag) → Option Choice
begins_with s u tag = option_map (λ f. takes (tag f.0)) (lowest (λ x. fields_at x u) s.atoms)

-- the lowest segment from that term: it is joined where the wanted end can't be inside it
abbrev pub joins : State → (u v : Term) → Option Choice
joins s u v = option_map (λ f. cond (is_constant v || allocated s v (Some f.0)) (takes (t.Join f.0))
    (split_or s end_not_allocated)) (lowest (segment_at u) s.atoms)

-- a wanted list between these terms
abbrev pub at_list : State → List (Option Term) → Conjunct Term → Option (Term × Term) → Choice
at_list s bindings c None = split_or s no_atom
at_list s bindings c (Some (u, v)) =
    or_else (takes_if (has_step empty_step s bindings c) t.Empty)
    (or_else (exact_atom s (wanted_shape bindings c))
    (or_else (takes_if (not (differs s u v)) (t.Split u v))
    (or_else (begins_with s u t.Head)
    (or_else (joins s u v) (split_or s no_atom)))))

-- a wanted tree with that root
abbrev pub at_tree : State → List (Option Term) → Conjunct Term → Option Term → Choice
at_tree s bindings c None = split_or s no_atom
at_tree s bindings c (Some u) =
    or_else (takes_if (has_step empty_step s bindings c) t.Empty)
    (or_else (exact_atom s (wanted_shape bindings c))
    (or_else (begins_with s u t.Node)
    (or_else (takes_if (not (differs s u Nil)) (t.Split u Nil)) (split_or s no_atom))))

-- a wanted doubly linked segment from the lowest segment at its first term: it is joined where the same stands before
-- both, and the wanted end can't be inside it
abbrev pub at_first_part : State → (before to : Term) → Option (ℕ × (Term × Term × Term)) → Choice
at_first_part s p u None = split_or s no_atom
at_first_part s p u (Some a) =
    cond (same_term a.1.0 p)
    (cond (is_constant u || allocated s u (Some a.0)) (takes (t.Join a.0)) (split_or s end_not_allocated))
    (split_or s not_equal)

-- or from the lowest cell there, whose field that leads back is known or not
abbrev pub at_first_cell : State → (before : Term) → (other : Choice) → Option (ℕ × Option Term) → Choice
at_first_cell s p other None = other
at_first_cell s p other (Some a) = cond (has_term p a.1) (takes (t.Head a.0)) (split_or s not_equal)

-- that cell's number and field
abbrev pub field_of : FieldId → ℕ × List (FieldId × Term) → ℕ × Option Term
field_of back a = (a.0, field_term a.1 back)

-- a wanted doubly linked segment between terms that aren't one
abbrev pub at_open_double : State → FieldId → Term × Term × Term × Term → Choice
at_open_double s back w =
    or_else (takes_if (not (differs s w.0 w.3)) (t.Split w.0 w.3))
    (at_first_cell s w.1 (at_first_part s w.1 w.3 (lowest (double_at w.0) s.atoms))
    (option_map (field_of back) (lowest (λ x. fields_at x w.0) s.atoms)))

-- a wanted doubly linked segment between these terms
abbrev pub at_double : State → List (Option Term) → Conjunct Term → FieldId → Option (Term × Term × Term × Term)
    → Choice
at_double s bindings c back None = split_or s no_atom
at_double s bindings c back (Some w) =
    or_else (takes_if (has_step empty_step s bindings c) t.Empty)
    (or_else (exact_atom s (wanted_shape bindings c))
    (cond (same_term w.0 w.3) (split_or s not_equal) (at_open_double s back w)))

-- one wanted conjunct
abbrev pub at_wanted : State → List (Option Term) → Conjunct Term → Choice
at_wanted s bindings (holds p True) = split_or s not_equal
at_wanted s bindings (holds p (Equal x y)) = at_equality s bindings (holds p (Equal x y))
at_wanted s bindings (holds p (Differ x y)) = at_inequality s bindings x y
at_wanted s bindings (points p x fs) = at_points s bindings (points p x fs) (term_of bindings x)
at_wanted s bindings (segment p next x y) =
    at_list s bindings (segment p next x y) (both bindings x y)
at_wanted s bindings (doubly q next back x p l y) =
    at_double s bindings (doubly q next back x p l y) back (four bindings x p l y)
at_wanted s bindings (tree p left right x) = at_tree s bindings (tree p left right x) (term_of bindings x)
at_wanted s bindings (choose p test this that) = at_choice s bindings test

-- the first wanted conjunct
abbrev pub at_first_wanted : State → List (Option Term) → Conjuncts Term → Choice
at_first_wanted s bindings none = split_or s no_atom
at_first_wanted s bindings (also c cs) = at_wanted s bindings c

abbrev pub at_want : State → Pending → Choice
at_want s want = at_first_wanted s want.bindings want.conjuncts

-- The end
abbrev pub at_end : State → List Numbered → Choice
at_end s [] = takes t.End
at_end s (a ∷ rest) = split_or s leak

-- by the item in front
abbrev pub at_items : State → List Item → Choice
at_items s (run c ∷ todo) = at_command s c
at_items s (add p given ∷ todo) = at_given s given.bindings given.conjuncts
at_items s (take p want names ∷ todo) = at_want s want
at_items s (gave p set removed ∷ todo) = takes t.Give
at_items s (head p test invariant body ∷ todo) = takes t.Around
at_items s (again p invariant ∷ todo) = takes t.Again
at_items s (exit p r ∷ todo) = takes t.Exit
at_items s (return p post ∷ todo) = takes t.Return
at_items s (end p ∷ todo) = at_end s s.atoms
at_items s [] = takes t.End

-- Choose: an absurd state is closed; then the lowest empty atom goes; then the lowest atom that can only be empty is
-- so; then the item in front decides
abbrev pub chooses : Goal → Choice
chooses g =
    or_else (takes_if (is_absurd g.state) t.Absurd)
    (or_else (option_map (λ f. takes (t.Drop f.0)) (lowest (which is_nothing) g.state.atoms))
    (or_else (option_map (λ f. takes (t.Force f.0)) (lowest_forced g.state g.state.atoms))
    (at_items g.state g.todo)))
