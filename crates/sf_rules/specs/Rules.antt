-- The table as rules of inference: which goals are left of a goal by a tag. Each rule has its
-- premises first, and then the goal's things to do, the tag and the goals that are left.
-- Berdine, Calcagno, O'Hearn, "Symbolic Execution with Separation Logic" (2005) (SE), and
-- "Smallfoot: Modular Automatic Assertion Checking with Separation Logic" (2005) (SF); O'Hearn,
-- "Resources, Concurrency and Local Reasoning" (2007) (R).
use Rattle.std.specs.Prelude.{◌≡◌, ◌≢◌, ℕ, ◌+◌, ◌-◌, ◌^◌, ◌<◌, Bool, true, false, ◌&&◌, ◌||◌, cond, get_or, length, nat_le, Option, Some, None, List, [], ◌∷◌, ◌++◌, set}
use Rattle.std.specs.List.{filter, slice_get}
use Rattle.sf_base.specs.declared.ids.FieldId.{FieldId}
use Rattle.sf_base.specs.declared.ids.ResId.{ResId}
use Rattle.sf_base.specs.declared.ids.Var.{Var}
use Rattle.sf_base.specs.declared.place.Place.{Place}
use Rattle.sf_calls.specs.Changes.{changed, changes_in}
use Rattle.sf_core.specs.declared.assertion.Operand.{Operand}
use Rattle.sf_core.specs.declared.assertion.Operand.TheVariants.{Known, Exists}
use Rattle.sf_core.specs.declared.assertion.Test.TheVariants.{True, Equal, Differ}
use Rattle.sf_core.specs.declared.command.Expr.TheVariants.{Nil as ENil}
use Rattle.sf_core.specs.Program.Syntax as command
use Rattle.sf_core.specs.Program.Syntax.{Block, Call, Conjunct, holds, points, segment, doubly, tree, choose, Conjuncts, also, Procedure, Resource}
use Rattle.sf_rules.specs.declared.few.TheConstants.{TOO_MANY}
use Rattle.sf_rules.specs.Resources.{variables_of, variables_from}
use Rattle.sf_rules.specs.Callee.{term_after, term_before}
use Rattle.sf_rules.specs.Setting.{Setting}
use Rattle.sf_rules.specs.Words.{negation, to_add, to_add_test, to_take, to_take_each}
use Rattle.sf_sym.specs.Below.{IsBelow}
use Rattle.sf_sym.specs.Cells.{atom_at, handed, with_atom, with_cell, with_fields, without}
use Rattle.sf_sym.specs.declared.atom.Atom.{Atom}
use Rattle.sf_sym.specs.declared.atom.Atom.TheVariants.{Points, Ls, Tree, Dll}
use Rattle.sf_sym.specs.declared.tag.Tag.{Tag}
use Rattle.sf_sym.specs.declared.tag.Tag.TheVariants.{Absurd, Drop, Force, Split, Unroll, Back, Assign, Look, Mutate, New, Dispose, Then, Else, Loop, Around, Again, Call as CallTag, Fork, Enter, Exit, Return, Give, End, Add, Bind, Same, Apart, Cell, Empty, Exact, Head, Join, Node}
use Rattle.sf_sym.specs.declared.term.Term.{Term}
use Rattle.sf_sym.specs.declared.term.Term.TheVariants.{Nil, Sym}
use Rattle.sf_sym.specs.Decided.{command_test, is_decided, term_of, test_of_terms}
use Rattle.sf_sym.specs.Equalities.{assumed_apart, assumed_equal}
use Rattle.sf_sym.specs.Fields.{field_term, put_term}
use Rattle.sf_sym.specs.Goal as item
use Rattle.sf_sym.specs.Goal.{Item, run, add, take, gave, Goal, adding, taking, to_run}
use Rattle.sf_sym.specs.Pending.{before, conjuncts_of, existentials_in, one_if_existential}
use Rattle.sf_sym.specs.Ready.{is_listed}
use Rattle.sf_sym.specs.State.{State, term, with_symbols}
use Rattle.sf_sym.specs.Tests.{allocated, differs, is_absurd, is_constant}
use Rattle.sf_sym.specs.Variables.{fresh_for, remove_vars, set_var, set_vars, with_fresh}

-- WORDS
infix 1 ◌⊢◌
infix 3 ◌∋◌
-- the goal with that state and these things to do
abbrev pub ◌⊢◌ : State → List Item → Goal
s ⊢ todo = record { state = s; todo = todo }

-- atom a of the state is x
abbrev pub ◌∋◌ : State → ℕ × Atom → Type 0
s ∋ x = atom_at s.atoms x.0 ≡ Some x.1

-- an atom that is empty: a segment that ends where it begins, its last cell being what stands before it
-- where it is doubly linked; or the tree of nil
pub data IsNothing : Atom → Type 0 where
  no_list : {t : _} → IsNothing (Ls t t)
  no_tree : IsNothing (Tree Nil)
  no_double : {t p : _} → IsNothing (Dll t p p t)

-- an atom that may be empty, from one term to another: a segment, or a tree, which ends at nil
pub data Spans : Atom → Term → Term → Type 0 where
  list_spans : {t u : _} → Spans (Ls t u) t u
  tree_spans : {t : _} → Spans (Tree t) t Nil
  double_spans : {t p l u : _} → Spans (Dll t p l u) t u

-- the two terms surely differ
abbrev pub AreApart : State → Term → Term → Type 0
AreApart s t u = differs s t u ≡ true

-- the term is no cell of atom a: it is a constant, or a cell of another atom
abbrev pub IsElsewhere : State → ℕ → Term → Type 0
IsElsewhere s a t = (is_constant t || allocated s t (Some a)) ≡ true

-- the next symbol
abbrev pub fresh : State → Term
fresh s = Sym s.next_sym

-- the state with that next symbol
abbrev pub next_at : ℕ → State → State
next_at n s = record s { next_sym = n }

-- the state in which atom a is a cell with these fields
abbrev pub with_fields_at : ℕ → Term → List (FieldId × Term) → State → State
with_fields_at a root fs s = record s { atoms = with_fields s.atoms a root fs }

-- the state without atom a
abbrev pub without_atom : ℕ → State → State
without_atom a s = record s { atoms = without s.atoms a }

-- the state in which the variable has that term
abbrev pub with_var : Var → Term → State → State
with_var x t s = record s { vars = set_var x t s.vars }

-- the variables that a loop's body leaves unknown in that state, in order of number: of those that
-- it may change the ones that have a term there. A variable in reach only inside a region of
-- the body has none
abbrev pub unknown_in : Setting → State → Block → List Var
unknown_in d s body = filter (is_listed s.vars) (changes_in d.sets body)

-- these conjuncts to assume, of whose existentials some have terms; and the same where any are left
abbrev pub assume : Place → Conjuncts Term → List (Option Term) → Item
assume p cs terms = add p (record { conjuncts = cs; bindings = terms })

abbrev pub assume_rest : Place → Conjuncts Term → List (Option Term) → List Item
assume_rest p cs terms = adding p (record { conjuncts = cs; bindings = terms })

-- these conjuncts to show, whose existentials have those names; and the same where any are left
abbrev pub show : Place → Conjuncts Term → List (Option Term) → (names : List (List ℕ)) → Item
show p cs terms names = take p (record { conjuncts = cs; bindings = terms }) names

abbrev pub show_rest : Place → Conjuncts Term → List (Option Term) → (names : List (List ℕ))
    → List Item
show_rest p cs terms names = taking p (record { conjuncts = cs; bindings = terms }) names

-- a choice whose test is decided so, as a command, among what is assumed and among what is to be
-- shown; and its branch for that in its place
pub data Goes (so : Bool) (s : State) : Item → List Item → Type 0 where
  command_goes : {p t this that : _} → is_decided so s (command_test (term s.vars) t) ≡ true
      → Goes so s (run (command.if p t this that)) (to_run (cond so this that))
  assumed_goes : {p q t test this that cs terms : _} → test_of_terms terms t ≡ Some test
      → is_decided so s test ≡ true
      → Goes so s (assume p (also (choose q t this that) cs) terms)
      (assume_rest p (before (conjuncts_of (cond so this that)) cs) terms)
  shown_goes : {p q t test this that cs terms names : _} → test_of_terms terms t ≡ Some test
      → is_decided so s test ≡ true
      → Goes so s (show p (also (choose q t this that) cs) terms names)
      (show_rest p (before (conjuncts_of (cond so this that)) cs) terms names)

-- OPERANDS AND FIELDS. n and m are the next symbol before and after, terms and ends what
-- existentials stand for before and after
-- an operand that is assumed is t: it has that term, or is an existential without one, which gets a
-- fresh symbol
pub data Meets : (n : ℕ) (terms : List (Option Term)) → Operand Term → Term
    → (m : ℕ) (ends : List (Option Term)) → Type 0 where
  has : {n terms x t : _} → term_of terms x ≡ Some t
      → Meets n terms x t n terms
  met_first : {n terms k : _} → get_or terms k None ≡ None
      → Meets n terms (Exists k) (Sym n) (n + 1) (set terms k (Some (Sym n)))

-- the fields of a cell that is assumed, in the order written, beside fields that it has
pub data MeetsAll : (n : ℕ) (terms : List (Option Term)) (fs : List (FieldId × Term))
    → List (FieldId × Operand Term)
    → (m : ℕ) (ends : List (Option Term)) (gs : List (FieldId × Term)) → Type 0 where
  all_met : {n terms fs : _} → MeetsAll n terms fs [] n terms fs
  one_met : {n l m terms between ends fs gs f x t others : _} → Meets n terms x t l between
      → MeetsAll l between (put_term f t fs) others m ends gs
      → MeetsAll n terms fs ((f, x) ∷ others) m ends gs

-- field f of a cell with these fields is t: it is known, or gets a fresh symbol; and the fields
-- after that
pub data FieldIs : (n : ℕ) (fs : List (FieldId × Term)) → FieldId → Term
    → (m : ℕ) (gs : List (FieldId × Term)) → Type 0 where
  known : {n fs f t : _} → field_term fs f ≡ Some t
      → FieldIs n fs f t n fs
  missing : {n fs f : _} → field_term fs f ≡ None
      → FieldIs n fs f (Sym n) (n + 1) (put_term f (Sym n) fs)

-- the wanted fields fit a cell with these fields, in the order written
pub data Fits : (n : ℕ) (fs : List (FieldId × Term)) (terms : List (Option Term))
    → List (FieldId × Operand Term)
    → (m : ℕ) (gs : List (FieldId × Term)) (ends : List (Option Term)) → Type 0 where
  all_fit : {n fs terms : _} → Fits n fs terms [] n fs terms
  -- what is wanted has a term, and the field is that
  fits_known : {n m fs gs terms ends f x t others : _} → term_of terms x ≡ Some t
      → field_term fs f ≡ Some t
      → Fits n fs terms others m gs ends
      → Fits n fs terms ((f, x) ∷ others) m gs ends
  -- it is an existential without a term, and gets the field's
  fits_new : {n l m fs gs hs terms ends f k t others : _} → get_or terms k None ≡ None
      → FieldIs n fs f t l gs → Fits l gs (set terms k (Some t)) others m hs ends
      → Fits n fs terms ((f, Exists k) ∷ others) m hs ends

-- a wanted segment or tree, as an atom
pub data Wanted (terms : List (Option Term)) : Conjunct Term → Atom → Type 0 where
  list_wanted : {q next x y t u : _} → term_of terms x ≡ Some t → term_of terms y ≡ Some u
      → Wanted terms (segment q next x y) (Ls t u)
  double_wanted : {q next previous x b l y t r m u : _} → term_of terms x ≡ Some t
      → term_of terms b ≡ Some r
      → term_of terms l ≡ Some m
      → term_of terms y ≡ Some u
      → Wanted terms (doubly q next previous x b l y) (Dll t r m u)
  tree_wanted : {q left right x t : _} → term_of terms x ≡ Some t
      → Wanted terms (tree q left right x) (Tree t)

-- THE RULES. s is the state, todo and rest are things to do, a is an atom's number and x the atom;
-- t, u, v and w are terms; fs, gs and hs the fields of cells; p and q places in the program's text
pub data Rule (d : Setting) (s : State) : List Item → Tag → List Goal → Type 0 where
  -- WHAT IS KNOWN, whatever is to do (SE 4, normalization)
  -- no store and heap have the state, so nothing is left
  absurd_state : {todo : _} → is_absurd s ≡ true
      → Rule d s todo Absurd []
  -- an empty segment or tree goes
  drop : {todo a x : _} → s ∋ (a, x) → IsNothing x
      → Rule d s todo (Drop a) ((without_atom a s ⊢ todo) ∷ [])
  -- a segment or tree that has no cell of its own is empty, so its ends are the same
  force : {todo a x t u : _} → s ∋ (a, x) → Spans x t u → t ≢ u → IsElsewhere s a t
      → Rule d s todo (Force a) (assumed_equal t u (s ⊢ todo) ∷ [])
  -- a doubly linked segment that ends where it begins is empty, so its last cell is what stands
  -- before it
  force_ends : {todo a t p l : _} → s ∋ (a, Dll t p l t) → p ≢ l
      → Rule d s todo (Force a) (assumed_equal p l (s ⊢ todo) ∷ [])
  -- two terms are the same, or they differ
  split : {todo t u : _} → t ≢ u → IsBelow s.next_sym t → IsBelow s.next_sym u
      → Rule d s todo (Split t u) (assumed_equal t u (s ⊢ todo) ∷ assumed_apart t u (s ⊢ todo) ∷ [])
  -- a segment whose ends differ begins with a cell, and goes on from its link
  unroll_list : {todo a t u next : _} → s ∋ (a, Ls t u) → AreApart s t u → s.links.tl ≡ Some next
      → Rule d s todo (Unroll a)
      (let v = fresh s in
      (with_atom (Ls v u) (with_cell (with_symbols 1 (without_atom a s)) t ((next, v) ∷ []))
      ⊢ todo) ∷ [])
  -- a tree whose root isn't nil begins with a cell, and has the trees of its two links
  unroll_tree : {todo a t left right : _} → s ∋ (a, Tree t) → AreApart s t Nil
      → s.links.l ≡ Some left
      → s.links.r ≡ Some right
      → Rule d s todo (Unroll a)
      (let v = fresh s in
      let w = fresh (with_symbols 1 s) in
      (with_atom (Tree w) (with_atom (Tree v)
      (with_cell (with_symbols 2 (without_atom a s)) t (put_term left v (put_term right w []))))
      ⊢ todo) ∷ [])
  -- a doubly linked segment whose ends differ begins with a cell, and goes on from its link: the
  -- cell stands before the rest
  unroll_double : {todo a t p l u next previous : _} → s ∋ (a, Dll t p l u) → AreApart s t u
      → s.links.tl ≡ Some next
      → s.links.pv ≡ Some previous
      → Rule d s todo (Unroll a)
      (let v = fresh s in
      (with_atom (Dll v t l u)
      (with_cell (with_symbols 1 (without_atom a s)) t (put_term next v (put_term previous p [])))
      ⊢ todo) ∷ [])
  -- it ends with a cell, too: its last one, before which it goes on backwards
  back : {todo a t p l u next previous : _} → s ∋ (a, Dll t p l u) → AreApart s t u
      → s.links.tl ≡ Some next
      → s.links.pv ≡ Some previous
      → Rule d s todo (Back a)
      (let v = fresh s in
      (with_cell (with_atom (Dll t p v l) (with_symbols 1 (without_atom a s))) l
      (put_term next u (put_term previous v []))
      ⊢ todo) ∷ [])
  -- COMMANDS (SE 4, symbolic execution)
  -- x = E: x has E's term
  assign : {rest p x e : _}
      → Rule d s (run (command.assign p x e) ∷ rest) Assign
      ((with_var x.var (term s.vars e) s ⊢ rest) ∷ [])
  -- x = E->f: x has the term of the cell's field; a field that isn't known gets a fresh symbol
  -- first
  look : {rest a p x e f t fs gs n : _} → s ∋ (a, Points (term s.vars e) fs)
      → FieldIs s.next_sym fs f t n gs
      → Rule d s (run (command.look_up p x e f) ∷ rest) (Look a)
      ((with_var x.var t (with_fields_at a (term s.vars e) gs (next_at n s)) ⊢ rest) ∷ [])
  -- E->f = F: the cell's field has F's term
  mutate : {rest a p e f e_too fs : _} → s ∋ (a, Points (term s.vars e) fs)
      → Rule d s (run (command.mutate p e f e_too) ∷ rest) (Mutate a)
      ((with_fields_at a (term s.vars e) (put_term f (term s.vars e_too) fs) s ⊢ rest) ∷ [])
  -- x = new(): x is a fresh symbol, and a cell is there of which no field is known
  new : {rest p x : _}
      → Rule d s (run (command.new p x) ∷ rest) New
      ((with_cell (with_var x.var (fresh s) (with_symbols 1 s)) (fresh s) [] ⊢ rest) ∷ [])
  -- dispose(E): the cell goes
  dispose : {rest a p e fs : _} → s ∋ (a, Points (term s.vars e) fs)
      → Rule d s (run (command.dispose p e) ∷ rest) (Dispose a) ((without_atom a s ⊢ rest) ∷ [])
  -- a choice goes its first way, where its test is decided true, and its second, where it is
  -- decided false (SF)
  then : {rest choice branch : _} → Goes true s choice branch
      → Rule d s (choice ∷ rest) Then ((s ⊢ branch ++ rest) ∷ [])
  else : {rest choice branch : _} → Goes false s choice branch
      → Rule d s (choice ∷ rest) Else ((s ⊢ branch ++ rest) ∷ [])
  -- a loop: its invariant is due, and then the loop begins (SF)
  loop : {rest p test invariant body : _}
      → Rule d s (run (command.while p test invariant body) ∷ rest) Loop
      ((s ⊢ to_take p (term s.vars) (d.ordered invariant)
      ++ (item.head p test invariant body ∷ rest)) ∷ [])
  -- the body once, from the invariant alone; and what comes after the loop, beside what was kept
  -- (SF)
  around : {rest p test invariant body : _}
      → Rule d s (item.head p test invariant body ∷ rest) Around
      (let now = with_fresh (unknown_in d s body) s in
      (record now { atoms = []; taken = [] } ⊢ to_add p (term now.vars) (d.ordered invariant)
      ++ (to_add_test p (term now.vars) test ++ (to_run body ++ (item.again p invariant ∷ []))))
      ∷ (record now { taken = [] } ⊢ to_add p (term now.vars) (d.ordered invariant)
      ++ (to_add_test p (term now.vars) (negation ENil test) ++ rest))
      ∷ [])
  -- the end of a loop's body: the invariant is due, and nothing may be left (SF)
  again : {rest p invariant : _}
      → Rule d s (item.again p invariant ∷ rest) Again
      ((s ⊢ to_take p (term s.vars) (d.ordered invariant) ++ (item.end p ∷ [])) ∷ [])
  -- a call: the precondition is due; then what the call may change is unknown, and the
  -- postcondition holds (SF)
  call : {c : Call} {g : Procedure} {rest p : _}
      → slice_get d.program.procedures c.callee.0 ≡ Some g
      → Rule d s (run (command.call p c) ∷ rest) CallTag
      (let new = fresh_for s.next_sym (changed d.sets c) in
      (with_symbols (length new) s ⊢ to_take c.place (term_before s c) (d.ordered g.pre)
      ++ (gave p new [] ∷ (to_add p (term_after s new c) (d.ordered g.post) ++ rest))) ∷ [])
  -- two parallel calls: the same of both, which have disjoint parts of the heap (R)
  fork : {c e : Call} {g h : Procedure} {rest p : _}
      → slice_get d.program.procedures c.callee.0 ≡ Some g
      → slice_get d.program.procedures e.callee.0 ≡ Some h
      → Rule d s (run (command.fork p c e) ∷ rest) Fork
      (let new = fresh_for s.next_sym (changed d.sets c) in
      let new_too = fresh_for (s.next_sym + length new) (changed d.sets e) in
      (with_symbols (length (new ++ new_too)) s
      ⊢ to_take c.place (term_before s c) (d.ordered g.pre)
      ++ (to_take e.place (term_before s e) (d.ordered h.pre)
      ++ (gave p (new ++ new_too) [] ∷ (to_add p (term_after s new c) (d.ordered g.post)
      ++ (to_add p (term_after s new_too e) (d.ordered h.post) ++ rest))))) ∷ [])
  -- a region begins: its variables are there with unknown values, its invariant and the condition
  -- hold (R)
  enter : {r : ResId} {of : Resource} {rest p test body : _}
      → slice_get d.program.resources r.0 ≡ Some of
      → Rule d s (run (command.with p r test body) ∷ rest) Enter
      (let now = with_fresh (variables_from r 0 of.variables) s in
      (now ⊢ to_add p (term now.vars) (d.ordered of.invariant)
      ++ (to_add_test p (term now.vars) test ++ (to_run body ++ (item.exit p r ∷ rest)))) ∷ [])
  -- a region ends: its invariant is due, and then its variables are gone (R)
  exit : {r : ResId} {of : Resource} {rest p : _} → slice_get d.program.resources r.0 ≡ Some of
      → Rule d s (item.exit p r ∷ rest) Exit
      ((s ⊢ to_take p (term s.vars) (d.ordered of.invariant)
      ++ (gave p [] (variables_from r 0 of.variables) ∷ rest)) ∷ [])
  -- the procedure ends: what it owes is due, one assertion after the other, and then nothing may be
  -- left (SF)
  return : {rest p owed : _}
      → Rule d s (item.return p owed ∷ rest) Return
      ((s ⊢ to_take_each p (term s.vars) owed (item.end p ∷ [])) ∷ [])
  -- what was taken is gone for good; variables get terms, and others go
  give : {rest p new gone : _}
      → Rule d s (gave p new gone ∷ rest) Give
      ((record s { taken = []; vars = remove_vars gone (set_vars new s.vars) } ⊢ rest) ∷ [])
  -- the end: no atom is left
  end : {rest p : _} → s.atoms ≡ []
      → Rule d s (item.end p ∷ rest) End []
  -- WHAT IS ASSUMED, conjunct by conjunct (SE 4)
  -- what is always true says nothing
  add_true : {rest p q cs terms : _}
      → Rule d s (assume p (also (holds q True) cs) terms ∷ rest) Add
      ((s ⊢ assume_rest p cs terms ++ rest) ∷ [])
  -- the two terms are the same
  add_equal : {rest p q x y t u cs terms between ends n m : _}
      → Meets s.next_sym terms x t n between
      → Meets n between y u m ends
      → Rule d s (assume p (also (holds q (Equal x y)) cs) terms ∷ rest) Add
      (assumed_equal t u (next_at m s ⊢ assume_rest p cs ends ++ rest) ∷ [])
  -- they differ
  add_differ : {rest p q x y t u cs terms between ends n m : _}
      → Meets s.next_sym terms x t n between
      → Meets n between y u m ends
      → Rule d s (assume p (also (holds q (Differ x y)) cs) terms ∷ rest) Add
      (assumed_apart t u (next_at m s ⊢ assume_rest p cs ends ++ rest) ∷ [])
  -- there is a cell with these fields
  add_cell : {rest p q x t fs gs cs terms between ends n m : _}
      → Meets s.next_sym terms x t n between
      → MeetsAll n between [] fs m ends gs
      → Rule d s (assume p (also (points q x fs) cs) terms ∷ rest) Add
      ((with_cell (next_at m s) t gs ⊢ assume_rest p cs ends ++ rest) ∷ [])
  -- there is a segment
  add_list : {rest p q next x y t u cs terms between ends n m : _}
      → Meets s.next_sym terms x t n between
      → Meets n between y u m ends
      → Rule d s (assume p (also (segment q next x y) cs) terms ∷ rest) Add
      ((with_atom (Ls t u) (next_at m s) ⊢ assume_rest p cs ends ++ rest) ∷ [])
  -- there is a doubly linked segment
  add_double : {rest p q next previous x b l y t r m u cs terms one two three ends i j k n : _}
      → Meets s.next_sym terms x t i one
      → Meets i one b r j two
      → Meets j two l m k three
      → Meets k three y u n ends
      → Rule d s (assume p (also (doubly q next previous x b l y) cs) terms ∷ rest) Add
      ((with_atom (Dll t r m u) (next_at n s) ⊢ assume_rest p cs ends ++ rest) ∷ [])
  -- there is a tree
  add_tree : {rest p q left right x t cs terms ends n : _} → Meets s.next_sym terms x t n ends
      → Rule d s (assume p (also (tree q left right x) cs) terms ∷ rest) Add
      ((with_atom (Tree t) (next_at n s) ⊢ assume_rest p cs ends ++ rest) ∷ [])
  -- WHAT IS TO BE SHOWN, by its first conjunct (SE 5, subtraction)
  -- one side of an equality is an existential without a term, and gets that of the other
  bind : {rest p q names k y t cs terms : _} → get_or terms k None ≡ None → term_of terms y ≡ Some t
      → Rule d s (show p (also (holds q (Equal (Exists k) y)) cs) terms names ∷ rest) Bind
      ((s ⊢ show_rest p cs (set terms k (Some t)) names ++ rest) ∷ [])
  bind_too : {rest p q names x k t cs terms : _} → term_of terms x ≡ Some t
      → get_or terms k None ≡ None
      → Rule d s (show p (also (holds q (Equal x (Exists k))) cs) terms names ∷ rest) Bind
      ((s ⊢ show_rest p cs (set terms k (Some t)) names ++ rest) ∷ [])
  -- an equality of one term with itself
  same : {rest p q names x y t cs terms : _} → term_of terms x ≡ Some t → term_of terms y ≡ Some t
      → Rule d s (show p (also (holds q (Equal x y)) cs) terms names ∷ rest) Same
      ((s ⊢ show_rest p cs terms names ++ rest) ∷ [])
  -- an inequality of terms that surely differ
  apart : {rest p q names x y t u cs terms : _} → term_of terms x ≡ Some t
      → term_of terms y ≡ Some u
      → AreApart s t u
      → Rule d s (show p (also (holds q (Differ x y)) cs) terms names ∷ rest) Apart
      ((s ⊢ show_rest p cs terms names ++ rest) ∷ [])
  -- a wanted cell is atom a, whose fields fit
  cell : {rest a p q names x t fs gs others cs terms ends n : _} → term_of terms x ≡ Some t
      → s ∋ (a, Points t fs)
      → Fits s.next_sym fs terms others n gs ends
      → Rule d s (show p (also (points q x others) cs) terms names ∷ rest) (Cell a)
      ((handed (next_at n s) a (Points t gs) ⊢ show_rest p cs ends names ++ rest) ∷ [])
  -- a wanted segment or tree that is empty is nothing
  empty : {rest p names c x cs terms : _} → Wanted terms c x → IsNothing x
      → Rule d s (show p (also c cs) terms names ∷ rest) Empty
      ((s ⊢ show_rest p cs terms names ++ rest) ∷ [])
  -- a wanted segment or tree is atom a
  exact : {rest a p names c x cs terms : _} → Wanted terms c x → s ∋ (a, x)
      → Rule d s (show p (also c cs) terms names ∷ rest) (Exact a)
      ((handed s a x ⊢ show_rest p cs terms names ++ rest) ∷ [])
  -- a wanted segment whose ends differ begins with the cell that is atom a; the rest from its link
  -- is still wanted
  head : {rest a p q names next x y t u v fs gs cs terms n : _} → term_of terms x ≡ Some t
      → term_of terms y ≡ Some u
      → s ∋ (a, Points t fs) → AreApart s t u → FieldIs s.next_sym fs next v n gs
      → Rule d s (show p (also (segment q next x y) cs) terms names ∷ rest) (Head a)
      ((handed (next_at n s) a (Points t gs)
      ⊢ show_rest p (also (segment q next (Known v) (Known u)) cs) terms names ++ rest) ∷ [])
  -- a wanted segment begins with the segment that is atom a, inside which the wanted end can't be;
  -- the rest from its end is still wanted
  join : {rest a p q names next x y t u v cs terms : _} → term_of terms x ≡ Some t
      → term_of terms y ≡ Some u
      → s ∋ (a, Ls t v) → IsElsewhere s a u
      → Rule d s (show p (also (segment q next x y) cs) terms names ∷ rest) (Join a)
      ((handed s a (Ls t v)
      ⊢ show_rest p (also (segment q next (Known v) (Known u)) cs) terms names ++ rest) ∷ [])
  -- a wanted doubly linked segment whose ends differ begins with the cell that is atom a, which
  -- leads back to what stands before it; the rest from its link is still wanted, and the cell
  -- stands before that
  head_double : {rest a p q names next previous x b l y t r m u v fs gs cs terms n : _}
      → Wanted terms (doubly q next previous x b l y) (Dll t r m u)
      → s ∋ (a, Points t fs) → AreApart s t u → field_term fs previous ≡ Some r
      → FieldIs s.next_sym fs next v n gs
      → Rule d s (show p (also (doubly q next previous x b l y) cs) terms names ∷ rest) (Head a)
      ((handed (next_at n s) a (Points t gs)
      ⊢ show_rest p (also (doubly q next previous (Known v) (Known t) (Known m) (Known u)) cs) terms
      names ++ rest) ∷ [])
  -- it begins with the doubly linked segment that is atom a, inside which the wanted end can't be;
  -- the rest from its end is still wanted, and its last cell stands before that
  join_double : {rest a p q names next previous x b l y t r m u v w cs terms : _}
      → Wanted terms (doubly q next previous x b l y) (Dll t r m u)
      → s ∋ (a, Dll t r w v) → IsElsewhere s a u
      → Rule d s (show p (also (doubly q next previous x b l y) cs) terms names ∷ rest) (Join a)
      ((handed s a (Dll t r w v)
      ⊢ show_rest p (also (doubly q next previous (Known v) (Known w) (Known m) (Known u)) cs) terms
      names ++ rest) ∷ [])
  -- a wanted tree begins with the cell that is atom a; its two subtrees are still wanted
  node : {rest a p q names left right x t v w fs gs hs cs terms n m : _} → term_of terms x ≡ Some t
      → s ∋ (a, Points t fs) → FieldIs s.next_sym fs left v n gs → FieldIs n gs right w m hs
      → Rule d s (show p (also (tree q left right x) cs) terms names ∷ rest) (Node a)
      ((handed (next_at m s) a (Points t hs)
      ⊢ show_rest p
      (also (tree q left right (Known v)) (also (tree q left right (Known w)) cs)) terms names
      ++ rest)
      ∷ [])

-- NUMBERS, which no goal of a program runs out of: a procedure and the resources have 512 variables
-- at most, and a cell 16 fields
-- rules apply only where new numbers can't run out
abbrev pub has_numbers : State → Bool
has_numbers s = nat_le s.next_sym (2 ^ 32 - TOO_MANY) && nat_le s.next_atom (2 ^ 32 - TOO_MANY)

-- so many fresh symbols the conjunct in front may need
abbrev pub needed_to_assume : Conjuncts Term → ℕ
needed_to_assume (also (points q x fs) cs) = one_if_existential x + existentials_in fs
needed_to_assume (also (doubly q next previous x b l y) cs) = 4
needed_to_assume _ = 2

abbrev pub needed_to_show : Conjuncts Term → ℕ
needed_to_show (also (points q x fs) cs) = existentials_in fs
needed_to_show _ = 2

-- so many a tag may need at once
abbrev pub needed : Setting → State → Tag → List Item → ℕ
needed d s Around (item.head p test invariant body ∷ rest) = length (unknown_in d s body)
needed d s CallTag (run (command.call p c) ∷ rest) = length (changed d.sets c)
needed d s Fork (run (command.fork p c e) ∷ rest) =
    length (changed d.sets c) + length (changed d.sets e)
needed d s Enter (run (command.with p r test body) ∷ rest) = length (variables_of d.program r)
needed d s Add (add p given ∷ rest) = needed_to_assume given.conjuncts
needed d s (Cell a) (take p want names ∷ rest) = needed_to_show want.conjuncts
needed d s tag todo = 0

-- Leaves: by a tag these goals are left of a goal: a rule says so, and its numbers can't run out
pub record Leaves (d : Setting) (g : Goal) (tag : Tag) (left : List Goal) : Type 0 where
  pub rule : Rule d g.state g.todo tag left
  pub numbers : has_numbers g.state ≡ true
  pub few : needed d g.state tag g.todo < TOO_MANY

-- no rule of the tag is there
abbrev pub HasNoRule : Setting → Goal → Tag → Type 0
HasNoRule d g tag = (left : List Goal) → ¬ Leaves d g tag left
