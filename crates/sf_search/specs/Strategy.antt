-- The strategy: what is tried in which order for what is to be done, and why a goal is stuck where
-- nothing of it applies.
-- Berdine, Calcagno, O'Hearn, "Smallfoot" (2005): proof search by symbolic execution, in this
-- project's own profile.
use Rattle.std.specs.Prelude.{ℕ, Bool, true, false, ◌&&◌, ◌||◌, not, cond, is_some, nat_lt, Option, Some, None, List, [], ◌∷◌}
use Rattle.std.specs.Option.{option_map, option_and_then}
use Rattle.sf_base.specs.declared.ids.FieldId.{FieldId}
use Rattle.sf_consume.specs.Subtract.{both, fitting, four, is_same_shape}
use Rattle.sf_core.specs.declared.assertion.Operand.{Operand}
use Rattle.sf_core.specs.declared.assertion.Test.{Test}
use Rattle.sf_core.specs.declared.assertion.Test.TheVariants.{True, Equal, Differ}
use Rattle.sf_core.specs.Program.Syntax.{Conjunct, holds, points, segment, doubly, tree, choose, Conjuncts, none, also, Command, assign, look_up, mutate, new, dispose, if, while, call, fork, with}
use Rattle.sf_sym.specs.declared.atom.Atom.{Atom}
use Rattle.sf_sym.specs.declared.atom.Atom.TheVariants.{Points, Ls, Tree, Dll}
use Rattle.sf_sym.specs.declared.atom.Numbered.{Numbered}
use Rattle.sf_search.specs.declared.choices.choice.Choice.{Choice}
use Rattle.sf_search.specs.declared.choices.choice.Choice.TheVariants.{Takes as takes, Stays as stays}
use Rattle.sf_sym.specs.declared.stuck.Stuck.{Stuck}
use Rattle.sf_sym.specs.declared.stuck.Stuck.TheVariants.{NoCell as no_cell, NotEqual as not_equal, NotDifferent as not_different, NoAtom as no_atom, Leak as leak, EndNotAllocated as end_not_allocated}
use Rattle.sf_sym.specs.declared.tag.Tag.{Tag}
use Rattle.sf_sym.specs.declared.tag.Tag.TheVariants as t
use Rattle.sf_sym.specs.declared.term.Term.{Term}
use Rattle.sf_sym.specs.declared.term.Term.TheVariants.{Nil}
use Rattle.sf_sym.specs.Cells.{fields_at}
use Rattle.sf_sym.specs.Fields.{field_term}
use Rattle.sf_sym.specs.Decided.{command_test, is_false, is_true, term_of, test_of_terms}
use Rattle.sf_sym.specs.Goal.{Item, run, add, take, gave, head, again, exit, return, end, Goal}
use Rattle.sf_sym.specs.State.{State, term}
use Rattle.sf_sym.specs.Tests.{allocated, differs, is_absurd, is_constant, parts, same_term}
use Rattle.sf_sym.specs.Known.{ends, forced_pair, is_nothing}

-- Atoms
-- what has the lower number, of two things that are there or not
abbrev pub lower : {X : Type 0} → Option (ℕ × X) → Option (ℕ × X) → Option (ℕ × X)
lower None b = b
lower (Some a) None = Some a
lower (Some a) (Some b) = cond (nat_lt b.0 a.0) (Some b) (Some a)

-- the lowest atom of which something is so, with what is said of it
abbrev pub lowest : {X : Type 0} → (Atom → Option X) → List Numbered → Option (ℕ × X)
lowest f [] = None
lowest f (a ∷ rest) = lower (option_map (λ x. (a.number, x)) (f a.atom)) (lowest f rest)

-- an atom of which a test is true
abbrev pub which : (Atom → Bool) → Atom → Option Atom
which test a = cond (test a) (Some a) None

-- it is known, and is that term
abbrev pub has_term : Term → Option Term → Bool
has_term t None = false
has_term t (Some u) = same_term u t

-- the end of a segment that begins at the term
abbrev pub segment_at : Term → Atom → Option Term
segment_at u (Points v fields) = None
segment_at u (Ls v w) = cond (same_term v u) (Some w) None
segment_at u (Tree v) = None
segment_at u (Dll v p l w) = None

-- a tree with that root
abbrev pub tree_at : Term → Atom → Option Atom
tree_at u (Points v fields) = None
tree_at u (Ls v w) = None
tree_at u (Tree v) = cond (same_term v u) (Some (Tree v)) None
tree_at u (Dll v p l w) = None

-- what stands before a doubly linked segment that begins at the term, its last cell, and its end
abbrev pub double_at : Term → Atom → Option (Term × Term × Term)
double_at u (Points v fields) = None
double_at u (Ls v w) = None
double_at u (Tree v) = None
double_at u (Dll v p l w) = cond (same_term v u) (Some (p, l, w)) None

-- the first cell and the end of a doubly linked segment of which the term is the last cell
abbrev pub last_at : Term → Atom → Option (Term × Term)
last_at u (Points v fields) = None
last_at u (Ls v w) = None
last_at u (Tree v) = None
last_at u (Dll v p l w) = cond (same_term l u) (Some (v, w)) None

-- the lowest atom that is to be empty, and two terms that are the same then
abbrev pub lowest_forced : State → List Numbered → Option (ℕ × (Term × Term))
lowest_forced s [] = None
lowest_forced s (a ∷ rest) =
    lower (option_map (λ e. (a.number, e)) (forced_pair s a.number a.atom)) (lowest_forced s rest)

-- the ends of a segment or tree of which it isn't known whether it is empty
abbrev pub undecided_ends : State → Atom → Option (Term × Term)
undecided_ends s x =
    option_and_then (λ e. cond (same_term e.0 e.1 || differs s e.0 e.1) None (Some e)) (ends x)

-- WHAT IS TRIED: a tag, where it applies
-- a tag where something is so
abbrev pub when : Bool → Tag → Option Tag
when so tag = cond so (Some tag) None

-- a tag for the lowest atom of which something is so
abbrev pub lowest_by : {X : Type 0} → (ℕ → Tag) → (Atom → Option X) → State → Option Tag
lowest_by tag f s = option_map (λ a. tag a.0) (lowest f s.atoms)

-- for the lowest cell at that term
abbrev pub cell_by : (ℕ → Tag) → Term → State → Option Tag
cell_by tag t s = lowest_by tag (λ x. fields_at x t) s

-- a segment or tree between these terms is unrolled where it surely isn't empty, and else its ends
-- are split
abbrev pub opening : State → (u v : Term) → (a : ℕ) → Tag
opening s u v a = cond (differs s u v) (t.Unroll a) (t.Split u v)

-- the lowest segment that begins at the term is opened
abbrev pub open_segment : Term → State → Option Tag
open_segment u s = option_map (λ a. opening s u a.1 a.0) (lowest (segment_at u) s.atoms)

-- the lowest tree there is opened
abbrev pub open_tree : Term → State → Option Tag
open_tree u s = option_map (λ a. opening s u Nil a.0) (lowest (tree_at u) s.atoms)

-- the lowest doubly linked segment that begins there is opened
abbrev pub open_double : Term → State → Option Tag
open_double u s = option_map (λ a. opening s u a.1.2 a.0) (lowest (double_at u) s.atoms)

-- the lowest doubly linked segment that ends with the cell there is unrolled from its last cell where it
-- surely isn't empty, and else its ends are split
abbrev pub open_last : Term → State → Option Tag
open_last u s =
    option_map (λ a. cond (differs s a.1.0 a.1.1) (t.Back a.0) (t.Split a.1.0 a.1.1)) (lowest (last_at u) s.atoms)

-- what may have a cell at the term is opened
abbrev pub open_any : Term → State → List (Option Tag)
open_any u s = open_segment u s ∷ open_tree u s ∷ open_double u s ∷ open_last u s ∷ []

-- the ends of the lowest atom or taken atom are split of which it isn't known whether it is empty
abbrev pub split_any : State → Option Tag
split_any s = option_map (λ a. t.Split a.1.0 a.1.1) (lowest (undecided_ends s) (parts s))

-- the two terms of a test are split
abbrev pub split_test : Test Term → Option Tag
split_test True = None
split_test (Equal u v) = Some (t.Split u v)
split_test (Differ u v) = Some (t.Split u v)

-- the lowest segment from the first term on begins what is wanted, where the second term can't be
-- inside it
abbrev pub join : Term × Term → State → Option Tag
join e s =
    option_and_then (λ a. when (is_constant e.1 || allocated s e.1 (Some a.0)) (t.Join a.0))
    (lowest (segment_at e.0) s.atoms)

-- what is tried of something that is there, such as the term of an operand; nothing is tried of
-- what isn't
abbrev pub each : {X : Type 0} → Option X → (X → List (Option Tag)) → List (Option Tag)
each None f = []
each (Some x) f = f x

-- the first of two choices that is there
abbrev pub or_else : Option Choice → Choice → Choice
or_else None c = c
or_else (Some c) d = c

-- the first of these that applies, and else that
abbrev pub first_in : List (Option Tag) → Choice → Choice
first_in [] c = c
first_in (tag ∷ others) c = or_else (option_map (λ x. takes x) tag) (first_in others c)

-- the first of these that applies, then a split of undecided ends; without them the goal is stuck
abbrev pub tried : List (Option Tag) → State → Stuck → Choice
tried tags s kind = first_in tags (first_in (split_any s ∷ []) (stays kind))

-- THE TABLE, in the order of the page
-- what is known, whatever is to do
abbrev pub known : State → List (Option Tag)
known s =
    when (is_absurd s) t.Absurd
    ∷ lowest_by t.Drop (which is_nothing) s
    ∷ option_map (λ a. t.Force a.0) (lowest_forced s s.atoms)
    ∷ []

-- a command on the cell at that term
abbrev pub on_cell : (ℕ → Tag) → Term → State → Choice
on_cell tag u s = tried (cell_by tag u s ∷ open_any u s) s no_cell

-- a choice, by its test
abbrev pub by_test : Option (Test Term) → State → Choice
by_test test s =
    tried
    (each test (λ x.
    when (is_true s x) t.Then
    ∷ when (is_false s x) t.Else
    ∷ split_test x
    ∷ []))
    s not_equal

-- a command
abbrev pub for_command : Command → State → Choice
for_command (assign p x e) s = takes t.Assign
for_command (look_up p x e f) s = on_cell t.Look (term s.vars e) s
for_command (mutate p e f v) s = on_cell t.Mutate (term s.vars e) s
for_command (new p x) s = takes t.New
for_command (dispose p e) s = on_cell t.Dispose (term s.vars e) s
for_command (if p test c d) s = by_test (Some (command_test (term s.vars) test)) s
for_command (while p test a c) s = takes t.Loop
for_command (call p c) s = takes t.Call
for_command (fork p c d) s = takes t.Fork
for_command (with p r test c) s = takes t.Enter

-- what is assumed, by its first conjunct
abbrev pub for_given : Conjuncts Term → List (Option Term) → State → Choice
for_given (also (choose p test this that) cs) terms s = by_test (test_of_terms terms test) s
for_given _ terms s = takes t.Add

-- one operand alone has a term
abbrev pub one_has_term : Option Term → Option Term → Bool
one_has_term (Some u) None = true
one_has_term None (Some u) = true
one_has_term _ _ = false

-- a wanted cell, by the lowest cell at its root
abbrev pub for_cell : Operand Term × List (FieldId × Operand Term) → List (Option Term)
    → Option (ℕ × List (FieldId × Term)) → State → Choice
for_cell w terms (Some a) s =
    tried (when (is_some (fitting a.0 s terms w)) (t.Cell a.0) ∷ []) s not_equal
for_cell w terms None s =
    tried (each (term_of terms w.0) (λ u. open_any u s)) s no_atom

-- why a wanted list between these terms isn't there: a segment begins it, or none does
abbrev pub without_list : Option (Term × Term) → State → Stuck
without_list e s =
    cond (is_some (option_and_then (λ e. lowest (segment_at e.0) s.atoms) e)) end_not_allocated
    no_atom

-- a wanted doubly linked segment whose ends differ, by the lowest cell at its first term: that begins
-- it, where what stands before the cell is known and is what is wanted
abbrev pub for_first_cell : FieldId → (before : Term) → ℕ × List (FieldId × Term) → State → Choice
for_first_cell back p a s =
    tried (when (has_term p (field_term a.1 back)) (t.Head a.0) ∷ []) s not_equal

-- else by the lowest segment from there: that begins it, where what stands before both is one term and
-- the wanted end can't be inside it
abbrev pub for_first_part : (before to : Term) → Option (ℕ × (Term × Term × Term)) → State → Choice
for_first_part p u (Some a) s =
    cond (same_term a.1.0 p)
    (tried (when (is_constant u || allocated s u (Some a.0)) (t.Join a.0) ∷ []) s end_not_allocated)
    (tried [] s not_equal)
for_first_part p u None s = tried [] s no_atom

-- by what is there
abbrev pub for_part : FieldId → Term × Term × Term × Term → Option (ℕ × List (FieldId × Term)) → State → Choice
for_part back w (Some a) s = for_first_cell back w.1 a s
for_part back w None s = for_first_part w.1 w.3 (lowest (double_at w.0) s.atoms) s

-- a wanted doubly linked segment between these terms
abbrev pub for_double : FieldId → Option (Term × Term × Term × Term) → State → Choice
for_double back None s = tried [] s no_atom
for_double back (Some w) s =
    first_in
    (when (same_term w.0 w.3 && same_term w.1 w.2) t.Empty
    ∷ lowest_by t.Exact (which (λ a. is_same_shape a (Dll w.0 w.1 w.2 w.3))) s
    ∷ [])
    (cond (same_term w.0 w.3) (tried [] s not_equal)
    (first_in (when (not (differs s w.0 w.3)) (t.Split w.0 w.3) ∷ [])
    (for_part back w (lowest (λ a. fields_at a w.0) s.atoms) s)))

-- one wanted conjunct; nothing is tried of what is always true, which no assertion says
abbrev pub for_wanted : Conjunct Term → List (Option Term) → State → Choice
for_wanted (holds p True) terms s = tried [] s not_equal
for_wanted (holds p (Equal x y)) terms s =
    tried
    (when (one_has_term (term_of terms x) (term_of terms y)) t.Bind
    ∷ each (both terms x y) (λ e. when (same_term e.0 e.1) t.Same ∷ []))
    s not_equal
for_wanted (holds p (Differ x y)) terms s =
    tried (each (both terms x y) (λ e. when (differs s e.0 e.1) t.Apart ∷ [])) s not_different
for_wanted (points p x fs) terms s =
    for_cell (x, fs) terms
    (option_and_then (λ u. lowest (λ a. fields_at a u) s.atoms) (term_of terms x)) s
for_wanted (segment p next x y) terms s =
    tried
    (each (both terms x y) (λ e.
    when (same_term e.0 e.1) t.Empty
    ∷ lowest_by t.Exact (which (λ a. is_same_shape a (Ls e.0 e.1))) s
    ∷ when (not (differs s e.0 e.1)) (t.Split e.0 e.1)
    ∷ cell_by t.Head e.0 s
    ∷ join e s
    ∷ []))
    s (without_list (both terms x y) s)
for_wanted (doubly q next back x p l y) terms s = for_double back (four terms x p l y) s
for_wanted (tree p left right x) terms s =
    tried
    (each (term_of terms x) (λ u.
    when (same_term u Nil) t.Empty
    ∷ lowest_by t.Exact (which (λ a. is_same_shape a (Tree u))) s
    ∷ cell_by t.Node u s
    ∷ when (not (differs s u Nil)) (t.Split u Nil)
    ∷ []))
    s no_atom
for_wanted (choose p test this that) terms s = by_test (test_of_terms terms test) s

-- what is wanted, by its first conjunct; nothing is tried without one, as no goal of a program is
abbrev pub for_first : Conjuncts Term → List (Option Term) → State → Choice
for_first (also c cs) terms s = for_wanted c terms s
for_first none terms s = tried [] s no_atom

-- the end, where no atom may be left
abbrev pub for_end : List Numbered → State → Choice
for_end [] s = takes t.End
for_end (a ∷ others) s = tried [] s leak

-- what is to do, of which a goal of a program has something
abbrev pub for_todo : List Item → State → Choice
for_todo (run c ∷ rest) s = for_command c s
for_todo (add p given ∷ rest) s = for_given given.conjuncts given.bindings s
for_todo (take p want names ∷ rest) s = for_first want.conjuncts want.bindings s
for_todo (gave p set removed ∷ rest) s = takes t.Give
for_todo (head p test invariant body ∷ rest) s = takes t.Around
for_todo (again p invariant ∷ rest) s = takes t.Again
for_todo (exit p r ∷ rest) s = takes t.Exit
for_todo (return p post ∷ rest) s = takes t.Return
for_todo (end p ∷ rest) s = for_end s.atoms s
for_todo [] s = takes t.End

-- STRATEGY: what it does at a goal, first by what is known and then by what is to do
abbrev pub strategy : Goal → Choice
strategy g = first_in (known g.state) (for_todo g.todo g.state)
