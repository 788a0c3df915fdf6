-- The rows of subtraction, of what is to be shown and handed over: bind, same, apart, cell, empty, exact, head, join,
-- node.
-- Berdine, Calcagno, O'Hearn, "Symbolic Execution with Separation Logic" (2005), section 5: subtraction.
use Rattle.std.specs.Prelude.{ℕ, ◌+◌, Bool, false, ◌&&◌, ◌||◌, cond, get_or, is_some, Option, Some, None, List, [], ◌∷◌, set}
use Rattle.std.specs.Option.{option_and_then, option_map}
use Rattle.sf_base.specs.declared.ids.FieldId.{FieldId}
use Rattle.sf_consume.specs.declared.wanted.WantedDouble.{WantedDouble}
use Rattle.sf_consume.specs.declared.wanted.WantedList.{WantedList}
use Rattle.sf_consume.specs.declared.wanted.WantedTree.{WantedTree}
use Rattle.sf_core.specs.declared.assertion.Operand.{Operand}
use Rattle.sf_core.specs.declared.assertion.Operand.TheVariants.{Known, Exists}
use Rattle.sf_core.specs.declared.assertion.Test.TheVariants.{Equal, Differ}
use Rattle.sf_core.specs.Program.Syntax.{Conjunct, holds, points, segment, doubly, tree, Conjuncts, none, also}
use Rattle.sf_sym.specs.declared.atom.Atom.{Atom}
use Rattle.sf_sym.specs.declared.atom.Atom.TheVariants.{Ls, Tree, Dll}
use Rattle.sf_sym.specs.declared.tag.Tag.{Tag}
use Rattle.sf_sym.specs.declared.tag.Tag.TheVariants as tags
use Rattle.sf_sym.specs.Pending.{existentials_in}
use Rattle.sf_sym.specs.declared.term.Term.{Term}
use Rattle.sf_sym.specs.declared.term.Term.TheVariants.{Sym}
use Rattle.sf_sym.specs.Cells.{after_hand_over, atom_at, cell_at, handed}
use Rattle.sf_sym.specs.Decided.{term_of}
use Rattle.sf_sym.specs.Fields.{field_term, put_term}
use Rattle.sf_sym.specs.Known.{is_nothing}
use Rattle.sf_sym.specs.State.{State}
use Rattle.sf_sym.specs.Tests.{allocated, differs, is_constant, same_term}

-- a subtraction under way: the state, what existentials stand for, and the conjuncts that are still wanted
pub record Want : Type 0 where
  pub state : State
  pub bindings : List (Option Term)
  pub conjuncts : Conjuncts Term

-- what is left of a subtraction by one row, or None
abbrev pub Step : Type 0
Step = State → List (Option Term) → Conjunct Term → Conjuncts Term → Option Want

-- the conjunct is gone
abbrev pub removed : State → List (Option Term) → Conjuncts Term → Want
removed s bindings cs = record { state = s; bindings = bindings; conjuncts = cs }

-- What is wanted first
-- the sides of an equality
abbrev pub equality : Conjunct Term → Option (Operand Term × Operand Term)
equality (holds q (Equal x y)) = Some (x, y)
equality _ = None

-- the sides of an inequality
abbrev pub inequality : Conjunct Term → Option (Operand Term × Operand Term)
inequality (holds q (Differ x y)) = Some (x, y)
inequality _ = None

-- the root and the fields of a cell
abbrev pub wanted_cell : Conjunct Term → Option (Operand Term × List (FieldId × Operand Term))
wanted_cell (points q x fs) = Some (x, fs)
wanted_cell _ = None

-- a list segment
abbrev pub wanted_list : Conjunct Term → Option WantedList
wanted_list (segment q next x y) = Some (record { place = q; next = next; from = x; to = y })
wanted_list _ = None

-- a doubly linked segment
abbrev pub wanted_double : Conjunct Term → Option WantedDouble
wanted_double (doubly q next back x b l y) =
    Some (record { place = q; next = next; back = back; from = x; before = b; last = l; to = y })
wanted_double _ = None

-- a tree
abbrev pub wanted_tree : Conjunct Term → Option WantedTree
wanted_tree (tree q left right x) = Some (record { place = q; left = left; right = right; root = x })
wanted_tree _ = None

-- Equalities and inequalities
-- the number of an existential that has no term yet
abbrev pub unbound : List (Option Term) → Operand Term → Option ℕ
unbound bindings (Known u) = None
unbound bindings (Exists n) = cond (is_some (get_or bindings n None)) None (Some n)

-- the first operand is an existential without a term, and the second has one: its number, and that term
abbrev pub one_binding : List (Option Term) → (x y : Operand Term) → Option (ℕ × Term)
one_binding bindings x y =
    option_and_then (λ n. option_map (λ t. (n, t)) (term_of bindings y)) (unbound bindings x)

-- the first of two options that is there
abbrev pub first_of : {X : Type 0} → Option X → Option X → Option X
first_of (Some x) y = Some x
first_of None y = y

-- one side of an equality is an existential without a term, and the other has one
abbrev pub binding : List (Option Term) → (x y : Operand Term) → Option (ℕ × Term)
binding bindings x y = first_of (one_binding bindings x y) (one_binding bindings y x)

-- bind: one side of an equality is an existential without a term, and gets that of the other
abbrev pub bind_step : Step
bind_step s bindings c cs =
    option_and_then (λ e. option_map (λ b. removed s (set bindings b.0 (Some b.1)) cs) (binding bindings e.0 e.1))
    (equality c)

-- both operands have terms
abbrev pub both : List (Option Term) → (x y : Operand Term) → Option (Term × Term)
both bindings x y = option_and_then (λ t. option_map (λ u. (t, u)) (term_of bindings y)) (term_of bindings x)

-- the conjunct is gone, where its two terms are so
abbrev pub removed_if : (Term → Term → Bool) → State → List (Option Term) → Conjuncts Term → Term × Term → Option Want
removed_if holds_of s bindings cs e = cond (holds_of e.0 e.1) (Some (removed s bindings cs)) None

-- same: an equality of one term with itself
abbrev pub same_step : Step
same_step s bindings c cs =
    option_and_then (removed_if same_term s bindings cs)
    (option_and_then (λ e. both bindings e.0 e.1) (equality c))

-- apart: an inequality of terms that surely differ
abbrev pub apart_step : Step
apart_step s bindings c cs =
    option_and_then (removed_if (differs s) s bindings cs)
    (option_and_then (λ e. both bindings e.0 e.1) (inequality c))

-- Cells
-- how far the fields of a wanted cell fit: the number of the next symbol, the cell's fields and what existentials
-- stand for, so far
pub record Fit : Type 0 where
  pub next_sym : ℕ
  pub fields : List (FieldId × Term)
  pub bindings : List (Option Term)

-- a field of a cell, which is a fresh symbol from now on where it isn't known
abbrev pub linked : Fit → FieldId → Option Term → Fit × Term
linked f field (Some t) = (f, t)
linked f field None = (
  record f { next_sym = f.next_sym + 1; fields = put_term field (Sym f.next_sym) f.fields },
  Sym f.next_sym,
)

abbrev pub link : Fit → FieldId → Fit × Term
link f field = linked f field (field_term f.fields field)

-- a wanted field that has a term has it in the cell
abbrev pub fit_known : Fit → Option Term → Term → Option Fit
fit_known f None u = None
fit_known f (Some t) u = cond (same_term t u) (Some f) None

-- an existential without a term gets that of the field
abbrev pub fit_new : Fit → FieldId → ℕ → Fit
fit_new f field n =
    let l = link f field in
    record l.0 { bindings = set l.0.bindings n (Some l.1) }

abbrev pub fit_existential : Fit → FieldId → ℕ → Option Term → Option Fit
fit_existential f field n (Some u) = fit_known f (field_term f.fields field) u
fit_existential f field n None = Some (fit_new f field n)

-- one wanted field
abbrev pub fit_field : Fit → FieldId × Operand Term → Option Fit
fit_field f (field, Known u) = fit_known f (field_term f.fields field) u
fit_field f (field, Exists n) = fit_existential f field n (get_or f.bindings n None)

-- all of them, in the order written
abbrev pub fit_fields : Fit → List (FieldId × Operand Term) → Option Fit
fit_fields f [] = Some f
fit_fields f (w ∷ ws) = option_and_then (λ after. fit_fields after ws) (fit_field f w)

-- how far nothing of a cell with these fields is compared yet
abbrev pub first_fit : State → List (FieldId × Term) → List (Option Term) → Fit
first_fit s fields bindings = record { next_sym = s.next_sym; fields = fields; bindings = bindings }

-- the cell of that number goes to the taken ones with the fields that it has by then
abbrev pub handed_cell : State → (root : Term) → (a : ℕ) → Fit → State
handed_cell s root a f = after_hand_over (record s { next_sym = f.next_sym }) root f.fields a

-- a wanted cell is that one: its root, and how its fields fit
abbrev pub fitting : (a : ℕ) → State → List (Option Term) → Operand Term × List (FieldId × Operand Term)
    → Option (Term × Fit)
fitting a s bindings w =
    option_and_then (λ t. option_and_then (λ fields.
    option_map (λ f. (t, f)) (fit_fields (first_fit s fields bindings) w.1))
    (cell_at s.atoms a t))
    (term_of bindings w.0)

-- cell: a wanted cell is that one, whose fields fit
abbrev pub cell_step : (a : ℕ) → Step
cell_step a s bindings c cs =
    option_map (λ r. removed (handed_cell s r.0 a r.1) r.1.bindings cs)
    (option_and_then (fitting a s bindings) (wanted_cell c))

-- Lists and trees
-- two atoms are one segment, or one tree
abbrev pub is_same_shape : Atom → Atom → Bool
is_same_shape (Ls t u) (Ls v w) = same_term t v && same_term u w
is_same_shape (Tree t) (Tree v) = same_term t v
is_same_shape (Dll v p l u) (Dll t q m w) =
    same_term v t && (same_term p q && (same_term l m && same_term u w))
is_same_shape _ _ = false

-- the terms of a wanted doubly linked segment: where it begins, what stands before it, its last cell, where it ends
abbrev pub four : List (Option Term) → (x b l y : Operand Term) → Option (Term × Term × Term × Term)
four bindings x b l y =
    option_and_then (λ e. option_map (λ f. (e.0, e.1, f.0, f.1)) (both bindings l y)) (both bindings x b)

-- a wanted segment or tree as an atom
abbrev pub wanted_shape : List (Option Term) → Conjunct Term → Option Atom
wanted_shape bindings (segment q next x y) = option_map (λ e. Ls e.0 e.1) (both bindings x y)
wanted_shape bindings (tree q left right x) = option_map Tree (term_of bindings x)
wanted_shape bindings (doubly q next back x b l y) =
    option_map (λ d. Dll d.0 d.1 d.2 d.3) (four bindings x b l y)
wanted_shape bindings _ = None

-- empty: a wanted segment or tree is nothing
abbrev pub empty_step : Step
empty_step s bindings c cs =
    option_and_then (λ x. cond (is_nothing x) (Some (removed s bindings cs)) None) (wanted_shape bindings c)

-- that atom is handed over, where it is the wanted one
abbrev pub exact_there : (a : ℕ) → State → List (Option Term) → Conjuncts Term → (wanted : Atom) → Option Want
exact_there a s bindings cs wanted =
    option_and_then (λ x. cond (is_same_shape x wanted) (Some (removed (handed s a x) bindings cs)) None)
    (atom_at s.atoms a)

-- exact: a wanted segment or tree is that atom
abbrev pub exact_step : (a : ℕ) → Step
exact_step a s bindings c cs = option_and_then (exact_there a s bindings cs) (wanted_shape bindings c)

-- the rest of a wanted list is still wanted
abbrev pub list_from : WantedList → (t u : Term) → Conjunct Term
list_from w t u = segment w.place w.next (Known t) (Known u)

-- a wanted list between terms that differ begins with that cell; the rest of it is still wanted
abbrev pub head_there : (a : ℕ) → State → List (Option Term) → WantedList → Conjuncts Term → Term × Term → Option Want
head_there a s bindings w cs e =
    cond (differs s e.0 e.1)
    (option_map (λ fields.
    let l = link (first_fit s fields bindings) w.next in
    removed (handed_cell s e.0 a l.0) bindings (also (list_from w l.1 e.1) cs))
    (cell_at s.atoms a e.0))
    None

abbrev pub list_head_step : (a : ℕ) → Step
list_head_step a s bindings c cs =
    option_and_then (λ w. option_and_then (head_there a s bindings w cs) (both bindings w.from w.to)) (wanted_list c)

-- the rest of a wanted doubly linked segment is still wanted
abbrev pub double_from : WantedDouble → (v p l u : Term) → Conjunct Term
double_from w v p l u = doubly w.place w.next w.back (Known v) (Known p) (Known l) (Known u)

-- a cell at the term that is known to lead back to that one, and where it leads
abbrev pub double_cell : (a : ℕ) → State → List (Option Term) → WantedDouble → (v p : Term) → Option (Fit × Term)
double_cell a s bindings w v p =
    option_and_then (λ fields. option_map (λ f. link f w.next)
    (fit_known (first_fit s fields bindings) (field_term fields w.back) p))
    (cell_at s.atoms a v)

-- a wanted doubly linked segment between terms that differ begins with that cell; the rest of it, before which that
-- cell stands, is still wanted
abbrev pub double_head_there : (a : ℕ) → State → List (Option Term) → WantedDouble → Conjuncts Term
    → Term × Term × Term × Term → Option Want
double_head_there a s bindings w cs d =
    cond (differs s d.0 d.3)
    (option_map (λ l.
    removed (handed_cell s d.0 a l.0) bindings (also (double_from w l.1 d.0 d.2 d.3) cs))
    (double_cell a s bindings w d.0 d.1))
    None

abbrev pub double_head_step : (a : ℕ) → Step
double_head_step a s bindings c cs =
    option_and_then (λ w.
    option_and_then (double_head_there a s bindings w cs) (four bindings w.from w.before w.last w.to))
    (wanted_double c)

-- by the first of two steps that there is
abbrev pub either_step : (one two : Step) → Step
either_step one two s bindings c cs = first_of (one s bindings c cs) (two s bindings c cs)

-- head: a wanted segment whose ends differ begins with that cell; a doubly linked one only where that is known to
-- lead back to what is to stand before it
abbrev pub head_step : (a : ℕ) → Step
head_step a = either_step (list_head_step a) (double_head_step a)

-- a segment from that term begins a wanted one: the rest goes from its end
abbrev pub joined : State → (a : ℕ) → (t u : Term) → Atom → Option Term
joined s a t u (Ls v w) = cond (same_term v t && (is_constant u || allocated s u (Some a))) (Some w) None
joined s a t u _ = None

-- a wanted list begins with that segment; the rest of it is still wanted
abbrev pub join_there : (a : ℕ) → State → List (Option Term) → WantedList → Conjuncts Term → Term × Term → Option Want
join_there a s bindings w cs e =
    option_and_then (λ x.
    option_map (λ v. removed (handed s a x) bindings (also (list_from w v e.1) cs)) (joined s a e.0 e.1 x))
    (atom_at s.atoms a)

abbrev pub list_join_step : (a : ℕ) → Step
list_join_step a s bindings c cs =
    option_and_then (λ w. option_and_then (join_there a s bindings w cs) (both bindings w.from w.to)) (wanted_list c)

-- a doubly linked segment from the first term, before which the second stands, begins a wanted one: the rest goes from
-- its end, and before that stands its last cell
abbrev pub double_joined : State → (a : ℕ) → (v p u : Term) → Atom → Option (Term × Term)
double_joined s a v p u (Dll t q m w) =
    cond (same_term t v && (same_term q p && (is_constant u || allocated s u (Some a)))) (Some (w, m)) None
double_joined s a v p u _ = None

-- a wanted doubly linked segment begins with that one; the rest of it is still wanted
abbrev pub double_join_there : (a : ℕ) → State → List (Option Term) → WantedDouble → Conjuncts Term
    → Term × Term × Term × Term → Option Want
double_join_there a s bindings w cs d =
    option_and_then (λ x.
    option_map (λ e. removed (handed s a x) bindings (also (double_from w e.0 e.1 d.2 d.3) cs))
    (double_joined s a d.0 d.1 d.3 x))
    (atom_at s.atoms a)

abbrev pub double_join_step : (a : ℕ) → Step
double_join_step a s bindings c cs =
    option_and_then (λ w.
    option_and_then (double_join_there a s bindings w cs) (four bindings w.from w.before w.last w.to))
    (wanted_double c)

-- join: a wanted segment begins with that segment; its end is a constant or a cell of another atom, so it can't be
-- inside that segment
abbrev pub join_step : (a : ℕ) → Step
join_step a = either_step (list_join_step a) (double_join_step a)

-- a subtree of a wanted tree is still wanted
abbrev pub tree_from : WantedTree → Term → Conjunct Term
tree_from w t = tree w.place w.left w.right (Known t)

-- a wanted tree begins with that cell; its two subtrees are still wanted
abbrev pub node_there : (a : ℕ) → State → List (Option Term) → WantedTree → Conjuncts Term → Term → Option Want
node_there a s bindings w cs t =
    option_map (λ fields.
    let l = link (first_fit s fields bindings) w.left in
    let r = link l.0 w.right in
    removed (handed_cell s t a r.0) bindings
    (also (tree_from w l.1) (also (tree_from w r.1) cs)))
    (cell_at s.atoms a t)

-- node: a wanted tree begins with that cell
abbrev pub node_step : (a : ℕ) → Step
node_step a s bindings c cs =
    option_and_then (λ w. option_and_then (node_there a s bindings w cs) (term_of bindings w.root)) (wanted_tree c)

-- All of them
-- the first wanted conjunct by one step
abbrev pub first_by : Step → State → List (Option Term) → Conjuncts Term → Option Want
first_by step s bindings none = None
first_by step s bindings (also c cs) = step s bindings c cs

-- what is left of a subtraction by one step
abbrev pub stepped : Step → Want → Option Want
stepped step w = first_by step w.state w.bindings w.conjuncts

-- the step that a tag of subtraction names
abbrev pub step_of : Tag → Option Step
step_of tags.Bind = Some bind_step
step_of tags.Same = Some same_step
step_of tags.Apart = Some apart_step
step_of (tags.Cell a) = Some (cell_step a)
step_of tags.Empty = Some empty_step
step_of (tags.Exact a) = Some (exact_step a)
step_of (tags.Head a) = Some (head_step a)
step_of (tags.Join a) = Some (join_step a)
step_of (tags.Node a) = Some (node_step a)
step_of _ = None

-- what is left of a subtraction by a tag, or None where it has no row
abbrev pub subtracted : Tag → Want → Option Want
subtracted tag w = option_and_then (λ step. stepped step w) (step_of tag)

-- so many symbols may be new at the first conjunct: one for each existential in a cell's fields, and for a list or
-- tree at most two
abbrev pub new_symbols : Conjuncts Term → ℕ
new_symbols (also (points q x fs) cs) = existentials_in fs
new_symbols _ = 2
