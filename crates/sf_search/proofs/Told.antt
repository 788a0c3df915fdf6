-- The strategy's table tells what the code chooses.
-- Names: `told-NAME` of the table's part of that name.
use Rattle.std.proofs.Common.{◌≡◌, ℕ, Bool, true, false, ◌&&◌, ◌||◌, not, cond, Option, Some, None, List, [], ◌∷◌, is_some, refl, sym, ap, ap₂, ◌∙◌}
use Rattle.std.specs.Prelude.{get_or, IfOk}
use Rattle.std.specs.declared.result.Result.{Result}
use Rattle.std.specs.declared.result.Result.TheVariants.{Ok, Err}
use Rattle.std.specs.Option.{option_and_then, option_map}
use Rattle.sf_base.specs.declared.ids.FieldId.{FieldId}
use Rattle.sf_base.specs.declared.place.Place.{Place}
use Rattle.sf_consume.specs.Subtract.{binding, both, cell_step, first_of, fitting, four, is_same_shape, one_binding, removed, removed_if, unbound}
use Rattle.sf_core.specs.declared.assertion.Operand.{Operand}
use Rattle.sf_core.specs.declared.assertion.Operand.TheVariants.{Known, Exists}
use Rattle.sf_core.specs.declared.assertion.Test.{Test}
use Rattle.sf_core.specs.declared.assertion.Test.TheVariants.{True, Equal, Differ}
use Rattle.sf_core.specs.Program.Syntax.{Command, assign, look_up, mutate, new, dispose, if, while, call, fork, with, Conjunct, holds, points, segment, doubly, tree, choose, Conjuncts, none, also}
use Rattle.sf_search.specs.Checked.Chooses.{at_command, at_double, at_end, at_first_cell, at_first_part, at_equality, at_first_wanted, at_given, at_inequality, at_items, at_known, at_list, at_points, at_test, at_tree, at_wanted, begins_with, chooses, exact_atom, field_of, found_or, has_step, joins, opened, opened_double, opened_either, opened_first, split_by, split_found, split_or, takes_if}
use Rattle.sf_search.specs.declared.choices.choice.Choice.{Choice}
use Rattle.sf_search.specs.declared.choices.choice.Choice.TheVariants.{Takes as takes, Stays as stays}
use Rattle.sf_sym.specs.declared.stuck.Stuck.{Stuck}
use Rattle.sf_sym.specs.declared.stuck.Stuck.TheVariants.{NoCell as no_cell, NotEqual as not_equal, NotDifferent as not_different, NoAtom as no_atom, Leak as leak, EndNotAllocated as end_not_allocated}
use Rattle.sf_search.specs.Strategy.{by_test, cell_by, each, double_at, first_in, for_cell, for_command, for_double, for_end, for_first, for_first_cell, for_first_part, for_given, for_part, for_todo, for_wanted, has_term, join, last_at, lowest, lowest_by, lowest_forced, one_has_term, open_any, open_double, open_last, open_segment, open_tree, opening, or_else, segment_at, split_test, strategy, tree_at, tried, undecided_ends, when, which, without_list}
use Rattle.sf_sym.specs.Cells.{fields_at}
use Rattle.sf_sym.specs.Fields.{field_term}
use Rattle.sf_sym.specs.Decided.{command_test, is_false, is_true, term_of, test_of_terms}
use Rattle.sf_sym.specs.declared.atom.Atom.{Atom}
use Rattle.sf_sym.specs.declared.atom.Atom.TheVariants.{Ls, Tree, Dll}
use Rattle.sf_sym.specs.declared.atom.Numbered.{Numbered}
use Rattle.sf_sym.specs.declared.tag.Tag.{Tag}
use Rattle.sf_sym.specs.declared.tag.Tag.TheVariants as t
use Rattle.sf_sym.specs.declared.term.Term.{Term}
use Rattle.sf_sym.specs.declared.term.Term.TheVariants.{Nil}
use Rattle.sf_sym.specs.Goal.{Goal, Item, run, add, take, gave, head, again, exit, return, end}
use Rattle.sf_sym.specs.Known.{is_nothing}
use Rattle.sf_sym.specs.State.{State, term}
use Rattle.sf_sym.specs.Tests.{allocated, differs, is_absurd, is_constant, parts, same_term}

-- TAGS AND CHOICES
when-takes : (b : Bool) (tag : Tag) → takes_if b tag ≡ option_map (λ x. takes x) (when b tag)
when-takes true tag = refl
when-takes false tag = refl

map-takes : {X : Type 0} (f : X → Tag) (o : Option X)
    → option_map (λ x. takes (f x)) o ≡ option_map (λ x. takes x) (option_map f o)
map-takes f None = refl
map-takes f (Some x) = refl

cond-takes : (b : Bool) (x y : Tag) → cond b (takes x) (takes y) ≡ takes (cond b x y)
cond-takes true x y = refl
cond-takes false x y = refl

some-map : {X Y : Type 0} (f : X → Y) (o : Option X) → is_some (option_map f o) ≡ is_some o
some-map f None = refl
some-map f (Some x) = refl

some-cond : {X : Type 0} (b : Bool) (x : X) → is_some (cond b (Some x) None) ≡ b
some-cond true x = refl
some-cond false x = refl

-- WHERE NOTHING ELSE APPLIES
told-split : (s : State) (kind : Stuck) → split_or s kind ≡ tried [] s kind
told-split s kind = go (lowest (undecided_ends s) (parts s))
  where
    go : (o : Option (ℕ × (Term × Term))) → split_found kind o
        ≡ or_else (option_map (λ x. takes x) (option_map (λ a. t.Split a.1.0 a.1.1) o)) (stays kind)
    go None = refl
    go (Some (a, e)) = refl

-- CELLS
told-doubles : (s : State) (u : Term) (kind : Stuck)
    → or_else (opened_double s u) (split_or s kind) ≡ tried (open_double u s ∷ open_last u s ∷ []) s kind
told-doubles s u kind = go (lowest (double_at u) s.atoms) (lowest (last_at u) s.atoms)
  where
    go : (o : Option (ℕ × (Term × Term × Term))) (p : Option (ℕ × (Term × Term)))
        → or_else (opened_either s u o p) (split_or s kind)
        ≡ or_else (option_map (λ x. takes x) (option_map (λ a. opening s u a.1.2 a.0) o))
        (or_else (option_map (λ x. takes x) (option_map
        (λ a. cond (differs s a.1.0 a.1.1) (t.Back a.0) (t.Split a.1.0 a.1.1)) p))
        (tried [] s kind))
    go (Some a) p = cond-takes (differs s u a.1.2) (t.Unroll a.0) (t.Split u a.1.2)
    go None (Some a) = cond-takes (differs s a.1.0 a.1.1) (t.Back a.0) (t.Split a.1.0 a.1.1)
    go None None = told-split s kind

told-open : (s : State) (u : Term) (kind : Stuck)
    → or_else (opened s u) (split_or s kind) ≡ tried (open_any u s) s kind
told-open s u kind = go (lowest (segment_at u) s.atoms) (lowest (tree_at u) s.atoms)
  where
    go : (o : Option (ℕ × Term)) (p : Option (ℕ × Atom))
        → or_else (opened_first s u o p (opened_double s u)) (split_or s kind)
        ≡ or_else (option_map (λ x. takes x) (option_map (λ a. opening s u a.1 a.0) o))
        (or_else (option_map (λ x. takes x) (option_map (λ a. opening s u Nil a.0) p))
        (tried (open_double u s ∷ open_last u s ∷ []) s kind))
    go (Some (a, w)) p = cond-takes (differs s u w) (t.Unroll a) (t.Split u w)
    go None (Some (a, x)) = cond-takes (differs s u Nil) (t.Unroll a) (t.Split u Nil)
    go None None = told-doubles s u kind

told-cell : (s : State) (u : Term) (tag : ℕ → Tag) (kind : Stuck)
    → found_or (λ a. takes (tag a)) (or_else (opened s u) (split_or s kind))
    (lowest (λ x. fields_at x u) s.atoms)
    ≡ tried (cell_by tag u s ∷ open_any u s) s kind
told-cell s u tag kind = go (lowest (λ x. fields_at x u) s.atoms)
  where
    go : (o : Option (ℕ × List (FieldId × Term)))
        → found_or (λ a. takes (tag a)) (or_else (opened s u) (split_or s kind)) o
        ≡ or_else (option_map (λ x. takes x) (option_map (λ a. tag a.0) o))
        (tried (open_any u s) s kind)
    go None = told-open s u kind
    go (Some (a, x)) = refl

-- CHOICES
told-test : (s : State) (x : Test Term) → at_test s x ≡ by_test (Some x) s
told-test s x = go (is_true s x) (is_false s x) x refl
  where
    go : (b c : Bool) (x : Test Term) → is_true s x ≡ b
        → cond b (takes t.Then) (cond c (takes t.Else) (split_by x))
        ≡ or_else (option_map (λ x. takes x) (when b t.Then))
        (or_else (option_map (λ x. takes x) (when c t.Else))
        (or_else (option_map (λ x. takes x) (split_test x)) (tried [] s not_equal)))
    go true c x i = refl
    go false true x i = refl
    go false false True i = absurd (cc)
    go false false (Equal u v) i = refl
    go false false (Differ u v) i = refl

told-choice : (s : State) (o : Option (Test Term)) → at_known s o ≡ by_test o s
told-choice s None = told-split s not_equal
told-choice s (Some x) = told-test s x

-- COMMANDS, AND WHAT IS ASSUMED
told-command : (s : State) (c : Command) → at_command s c ≡ for_command c s
told-command s (assign p x e) = refl
told-command s (look_up p x e f) = told-cell s (term s.vars e) t.Look no_cell
told-command s (mutate p e f v) = told-cell s (term s.vars e) t.Mutate no_cell
told-command s (new p x) = refl
told-command s (dispose p e) = told-cell s (term s.vars e) t.Dispose no_cell
told-command s (if p test c d) = told-test s (command_test (term s.vars) test)
told-command s (while p test a c) = refl
told-command s (call p c) = refl
told-command s (fork p c d) = refl
told-command s (with p r test c) = refl

told-given : (s : State) (b : List (Option Term)) (cs : Conjuncts Term)
    → at_given s b cs ≡ for_given cs b s
told-given s b none = refl
told-given s b (also (holds p test) cs) = refl
told-given s b (also (points p x fs) cs) = refl
told-given s b (also (segment p next x y) cs) = refl
told-given s b (also (doubly p next back x q l y) cs) = refl
told-given s b (also (tree p left right x) cs) = refl
told-given s b (also (choose p test this that) cs) = told-choice s (test_of_terms b test)

-- EQUALITIES one operand alone has a term
some-both : {X Y : Type 0} (u : Option X) (o : Option Y)
    → is_some {T = X × Y} (option_and_then (λ n. option_map (λ t. (n, t)) o) u)
    ≡ is_some u && is_some o
some-both None o = refl
some-both (Some n) None = refl
some-both (Some n) (Some v) = refl

some-first : {X : Type 0} (o p : Option X) → is_some (first_of o p) ≡ is_some o || is_some p
some-first None p = refl
some-first (Some x) p = refl

some-unbound : (b : List (Option Term)) (x : Operand Term)
    → is_some (unbound b x) ≡ not (is_some (term_of b x))
some-unbound b (Known u) = refl
some-unbound b (Exists n) = go (get_or b n None)
  where
    go : (o : Option Term) → is_some (cond (is_some o) None (Some n)) ≡ not (is_some o)
    go None = refl
    go (Some u) = refl

one-is : (o p : Option Term)
    → one_has_term o p ≡ (not (is_some o) && is_some p) || (not (is_some p) && is_some o)
one-is None None = refl
one-is None (Some u) = refl
one-is (Some u) None = refl
one-is (Some u) (Some v) = refl

binding-one : (b : List (Option Term)) (x y : Operand Term)
    → is_some (one_binding b x y) ≡ not (is_some (term_of b x)) && is_some (term_of b y)
binding-one b x y =
    some-both (unbound b x) (term_of b y) ∙ ap (λ z. z && is_some (term_of b y)) (some-unbound b x)

binding-is : (b : List (Option Term)) (x y : Operand Term)
    → is_some (binding b x y) ≡ one_has_term (term_of b x) (term_of b y)
binding-is b x y =
    some-first (one_binding b x y) (one_binding b y x)
    ∙ ap₂ ◌||◌ (binding-one b x y) (binding-one b y x) ∙ sym (one-is (term_of b x) (term_of b y))

told-equality : (s : State) (b : List (Option Term)) (p : Place) (x y : Operand Term)
    → at_equality s b (holds p (Equal x y)) ≡ for_wanted (holds p (Equal x y)) b s
told-equality s b p x y =
    ap₂ or_else
    (ap (λ z. takes_if z t.Bind) (some-map _ (binding b x y) ∙ binding-is b x y)
    ∙ when-takes (one_has_term (term_of b x) (term_of b y)) t.Bind)
    (go (both b x y))
  where
    go : (o : Option (Term × Term))
        → or_else (takes_if (is_some (option_and_then (removed_if same_term s b none) o)) t.Same)
        (split_or s not_equal)
        ≡ tried (each o (λ e. when (same_term e.0 e.1) t.Same ∷ [])) s not_equal
    go None = told-split s not_equal
    go (Some e) =
        ap₂ or_else (ap (λ z. takes_if z t.Same) (some-cond (same_term e.0 e.1) _)
        ∙ when-takes (same_term e.0 e.1) t.Same) (told-split s not_equal)

told-inequality : (s : State) (b : List (Option Term)) (p : Place) (x y : Operand Term)
    → at_inequality s b x y ≡ for_wanted (holds p (Differ x y)) b s
told-inequality s b p x y = go (both b x y)
  where
    go : (o : Option (Term × Term))
        → or_else (option_and_then (λ e. takes_if (differs s e.0 e.1) t.Apart) o)
        (split_or s not_different)
        ≡ tried (each o (λ e. when (differs s e.0 e.1) t.Apart ∷ [])) s not_different
    go None = told-split s not_different
    go (Some e) =
        ap₂ or_else (when-takes (differs s e.0 e.1) t.Apart) (told-split s not_different)

-- WANTED CELLS, LISTS AND TREES
told-points : (s : State) (b : List (Option Term)) (p : Place) (x : Operand Term)
    (fs : List (FieldId × Operand Term))
    → at_points s b (points p x fs) (term_of b x) ≡ for_wanted (points p x fs) b s
told-points s b p x fs = go (term_of b x) refl
  where
    found : (u : Term) → term_of b x ≡ Some u → (l : Option (ℕ × List (FieldId × Term)))
        → found_or (λ a. or_else (takes_if (has_step (cell_step a) s b (points p x fs)) (t.Cell a))
        (split_or s not_equal)) (or_else (opened s u) (split_or s no_atom)) l
        ≡ for_cell (x, fs) b l s
    found u i None = rw i (told-open s u no_atom)
    found u i (Some (a, gs)) =
        ap₂ or_else (ap (λ z. takes_if z (t.Cell a)) (some-map _ (fitting a s b (x, fs)))
        ∙ when-takes (is_some (fitting a s b (x, fs))) (t.Cell a)) (told-split s not_equal)

    go : (o : Option Term) → term_of b x ≡ o → at_points s b (points p x fs) o
        ≡ for_cell (x, fs) b (option_and_then (λ u. lowest (λ a. fields_at a u) s.atoms) o) s
    go None i = rw i (told-split s no_atom)
    go (Some u) i = found u i (lowest (λ a. fields_at a u) s.atoms)

-- a wanted segment or tree is nothing
told-empty : (s : State) (b : List (Option Term)) (x : Atom)
    → takes_if (is_some (cond (is_nothing x) (Some (removed s b none)) None)) t.Empty
    ≡ option_map (λ x. takes x) (when (is_nothing x) t.Empty)
told-empty s b x =
    ap (λ z. takes_if z t.Empty) (some-cond (is_nothing x) _) ∙ when-takes (is_nothing x) t.Empty

told-exact : (s : State) (x : Atom) → exact_atom s (Some x)
    ≡ option_map (λ x. takes x) (lowest_by t.Exact (which (λ a. is_same_shape a x)) s)
told-exact s x = map-takes (λ f. t.Exact f.0) (lowest (which (λ a. is_same_shape a x)) s.atoms)

told-begins : (s : State) (u : Term) (tag : ℕ → Tag)
    → begins_with s u tag ≡ option_map (λ x. takes x) (cell_by tag u s)
told-begins s u tag = map-takes (λ f. tag f.0) (lowest (λ x. fields_at x u) s.atoms)

told-join : (s : State) (u v : Term) → or_else (joins s u v) (split_or s no_atom)
    ≡ tried (join (u, v) s ∷ []) s (without_list (Some (u, v)) s)
told-join s u v = go (lowest (segment_at u) s.atoms)
  where
    so : (c : Bool) (a : ℕ) → cond c (takes (t.Join a)) (split_or s end_not_allocated)
        ≡ or_else (option_map (λ x. takes x) (when c (t.Join a))) (tried [] s end_not_allocated)
    so true a = refl
    so false a = told-split s end_not_allocated

    go : (l : Option (ℕ × Term)) → or_else
        (option_map (λ f. cond (is_constant v || allocated s v (Some f.0)) (takes (t.Join f.0))
        (split_or s end_not_allocated)) l)
        (split_or s no_atom)
        ≡ or_else (option_map (λ x. takes x)
        (option_and_then (λ a. when (is_constant v || allocated s v (Some a.0)) (t.Join a.0)) l))
        (tried [] s (cond (is_some l) end_not_allocated no_atom))
    go None = told-split s no_atom
    go (Some f) = so (is_constant v || allocated s v (Some f.0)) f.0

told-list : (s : State) (b : List (Option Term)) (p : Place) (next : FieldId) (x y : Operand Term)
    → at_list s b (segment p next x y) (both b x y) ≡ for_wanted (segment p next x y) b s
told-list s b p next x y = go (both b x y) refl
  where
    go : (o : Option (Term × Term)) → both b x y ≡ o → at_list s b (segment p next x y) o
        ≡ tried
        (each o (λ e.
        when (same_term e.0 e.1) t.Empty
        ∷ lowest_by t.Exact (which (λ a. is_same_shape a (Ls e.0 e.1))) s
        ∷ when (not (differs s e.0 e.1)) (t.Split e.0 e.1)
        ∷ cell_by t.Head e.0 s
        ∷ join e s
        ∷ []))
        s (without_list o s)
    go None i = told-split s no_atom
    go (Some (u, v)) i =
        rw i
        (ap₂ or_else (told-empty s b (Ls u v))
        (ap₂ or_else (told-exact s (Ls u v))
        (ap₂ or_else (when-takes (not (differs s u v)) (t.Split u v))
        (ap₂ or_else (told-begins s u t.Head) (told-join s u v)))))

told-tree : (s : State) (b : List (Option Term)) (p : Place) (left right : FieldId)
    (x : Operand Term)
    → at_tree s b (tree p left right x) (term_of b x) ≡ for_wanted (tree p left right x) b s
told-tree s b p left right x = go (term_of b x) refl
  where
    go : (o : Option Term) → term_of b x ≡ o → at_tree s b (tree p left right x) o
        ≡ tried
        (each o (λ u.
        when (same_term u Nil) t.Empty
        ∷ lowest_by t.Exact (which (λ a. is_same_shape a (Tree u))) s
        ∷ cell_by t.Node u s
        ∷ when (not (differs s u Nil)) (t.Split u Nil)
        ∷ []))
        s no_atom
    go None i = told-split s no_atom
    go (Some u) i =
        rw i
        (ap₂ or_else (told-empty s b (Tree u))
        (ap₂ or_else (told-exact s (Tree u))
        (ap₂ or_else (told-begins s u t.Node)
        (ap₂ or_else (when-takes (not (differs s u Nil)) (t.Split u Nil)) (told-split s no_atom)))))

-- a wanted doubly linked segment, by the lowest segment at its first term
told-first-part : (s : State) (p u : Term) (o : Option (ℕ × (Term × Term × Term)))
    → at_first_part s p u o ≡ for_first_part p u o s
told-first-part s p u None = told-split s no_atom
told-first-part s p u (Some a) =
    go (same_term a.1.0 p) (is_constant u || allocated s u (Some a.0))
  where
    go : (r c : Bool)
        → cond r (cond c (takes (t.Join a.0)) (split_or s end_not_allocated)) (split_or s not_equal)
        ≡ cond r (tried (when c (t.Join a.0) ∷ []) s end_not_allocated) (tried [] s not_equal)
    go true true = refl
    go true false = told-split s end_not_allocated
    go false c = told-split s not_equal

-- or by the lowest cell there
told-part : (s : State) (back : FieldId) (w : Term × Term × Term × Term)
    (o : Option (ℕ × List (FieldId × Term)))
    → at_first_cell s w.1 (at_first_part s w.1 w.3 (lowest (double_at w.0) s.atoms))
    (option_map (field_of back) o)
    ≡ for_part back w o s
told-part s back w None = told-first-part s w.1 w.3 (lowest (double_at w.0) s.atoms)
told-part s back w (Some a) = go (has_term w.1 (field_term a.1 back))
  where
    go : (r : Bool) → cond r (takes (t.Head a.0)) (split_or s not_equal)
        ≡ tried (when r (t.Head a.0) ∷ []) s not_equal
    go true = refl
    go false = told-split s not_equal

told-double : (s : State) (b : List (Option Term)) (q : Place) (next back : FieldId) (x p l y : Operand Term)
    → at_double s b (doubly q next back x p l y) back (four b x p l y)
    ≡ for_wanted (doubly q next back x p l y) b s
told-double s b q next back x p l y = go (four b x p l y) refl
  where
    go : (o : Option (Term × Term × Term × Term)) → four b x p l y ≡ o
        → at_double s b (doubly q next back x p l y) back o ≡ for_double back o s
    go None i = told-split s no_atom
    go (Some w) i =
        rw i
        (ap₂ or_else (told-empty s b (Dll w.0 w.1 w.2 w.3))
        (ap₂ or_else (told-exact s (Dll w.0 w.1 w.2 w.3))
        (ap₂ (cond (same_term w.0 w.3)) (told-split s not_equal)
        (ap₂ or_else (when-takes (not (differs s w.0 w.3)) (t.Split w.0 w.3))
        (told-part s back w (lowest (λ a. fields_at a w.0) s.atoms))))))

told-wanted : (s : State) (b : List (Option Term)) (c : Conjunct Term)
    → at_wanted s b c ≡ for_wanted c b s
told-wanted s b (holds p True) = told-split s not_equal
told-wanted s b (holds p (Equal x y)) = told-equality s b p x y
told-wanted s b (holds p (Differ x y)) = told-inequality s b p x y
told-wanted s b (points p x fs) = told-points s b p x fs
told-wanted s b (segment p next x y) = told-list s b p next x y
told-wanted s b (doubly q next back x p l y) = told-double s b q next back x p l y
told-wanted s b (tree p left right x) = told-tree s b p left right x
told-wanted s b (choose p test this that) = told-choice s (test_of_terms b test)

told-first : (s : State) (b : List (Option Term)) (cs : Conjuncts Term)
    → at_first_wanted s b cs ≡ for_first cs b s
told-first s b none = told-split s no_atom
told-first s b (also c cs) = told-wanted s b c

-- WHAT IS TO DO
told-end : (s : State) (atoms : List Numbered) → at_end s atoms ≡ for_end atoms s
told-end s [] = refl
told-end s (a ∷ rest) = told-split s leak

told-todo : (s : State) (todo : List Item) → at_items s todo ≡ for_todo todo s
told-todo s [] = refl
told-todo s (run c ∷ rest) = told-command s c
told-todo s (add p given ∷ rest) = told-given s given.bindings given.conjuncts
told-todo s (take p want names ∷ rest) = told-first s want.bindings want.conjuncts
told-todo s (gave p set removed ∷ rest) = refl
told-todo s (head p test invariant body ∷ rest) = refl
told-todo s (again p invariant ∷ rest) = refl
told-todo s (exit p r ∷ rest) = refl
told-todo s (return p post ∷ rest) = refl
told-todo s (end p ∷ rest) = told-end s s.atoms

-- the code chooses as the table tells
pub told : (g : Goal) → chooses g ≡ strategy g
told g =
    ap₂ or_else (when-takes (is_absurd g.state) t.Absurd)
    (ap₂ or_else (map-takes (λ f. t.Drop f.0) (lowest (which is_nothing) g.state.atoms))
    (ap₂ or_else (map-takes (λ f. t.Force f.0) (lowest_forced g.state g.state.atoms))
    (told-todo g.state g.todo)))

pub ok_told : {E : Type 0} (g : Goal) (r : Result Choice E)
    → IfOk r (λ c. c ≡ chooses g)
    → IfOk r (λ c. c ≡ strategy g)
ok_told g (Ok c) e = e ∙ told g
ok_told g (Err fault) e = tt
