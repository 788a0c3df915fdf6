-- The rows that work out what is known, whatever is to do: absurd, drop, force, split, unroll, back.
-- Berdine, Calcagno, O'Hearn, "Symbolic Execution with Separation Logic" (2005), section 4: normalization.
use Rattle.std.specs.Prelude.{ℕ, ◌+◌, ◌&&◌, not, cond, Option, Some, None, List, [], ◌∷◌}
use Rattle.std.specs.Option.{option_map, option_and_then}
use Rattle.sf_base.specs.declared.ids.FieldId.{FieldId}
use Rattle.sf_core.specs.declared.fields.Links.{Links}
use Rattle.sf_sym.specs.declared.atom.Atom.{Atom}
use Rattle.sf_sym.specs.declared.atom.Atom.TheVariants.{Points, Ls, Tree, Dll}
use Rattle.sf_sym.specs.declared.term.Term.{Term}
use Rattle.sf_sym.specs.declared.term.Term.TheVariants.{Sym}
use Rattle.sf_sym.specs.Below.{is_below}
use Rattle.sf_sym.specs.Cells.{atom_at, with_atom, with_cell, without}
use Rattle.sf_sym.specs.Equalities.{assumed_apart, assumed_equal}
use Rattle.sf_sym.specs.Fields.{put_term}
use Rattle.sf_sym.specs.Goal.{Goal, at_state}
use Rattle.sf_sym.specs.Known.{ends, forced_pair, is_nothing}
use Rattle.sf_sym.specs.State.{State, with_symbols}
use Rattle.sf_sym.specs.Tests.{differs, is_absurd, same_term}

-- absurd: no store and heap have the state, so nothing is left to prove
abbrev pub absurd_row : Goal → Option (List Goal)
absurd_row g = cond (is_absurd g.state) (Some []) None

-- drop: an empty segment or tree goes
abbrev pub drop_row : Goal → (a : ℕ) → Option (List Goal)
drop_row g a =
    option_and_then (λ x. cond (is_nothing x)
    (Some (at_state g (record g.state { atoms = without g.state.atoms a }) ∷ [])) None)
    (atom_at g.state.atoms a)

-- force: a segment or tree that can only be empty, so that two terms are the same: its ends, where
-- its root is a constant or a cell of another atom; or what stands before a doubly linked segment and its
-- last cell, where it ends where it begins
abbrev pub force_row : Goal → (a : ℕ) → Option (List Goal)
force_row g a =
    option_map (λ e. assumed_equal e.0 e.1 g ∷ [])
    (option_and_then (forced_pair g.state a) (atom_at g.state.atoms a))

-- split: two terms are the same, or they differ
abbrev pub split_row : Goal → (t u : Term) → Option (List Goal)
split_row g t u =
    cond (not (same_term t u) && (is_below g.state.next_sym t && is_below g.state.next_sym u))
    (Some (assumed_equal t u g ∷ assumed_apart t u g ∷ [])) None

-- a segment that isn't empty: a cell, and a segment from its link on
abbrev pub unrolled_segment : Option FieldId → (t u : Term) → State → Option State
unrolled_segment None t u s = None
unrolled_segment (Some next) t u s =
    let rest = Sym s.next_sym in
    Some (with_atom (Ls rest u) (with_cell (with_symbols 1 s) t ((next, rest) ∷ [])))

-- a tree that isn't empty: a cell, and the trees of its two links
abbrev pub unrolled_tree : (left right : Option FieldId) → (t : Term) → State → Option State
unrolled_tree None right t s = None
unrolled_tree (Some left) None t s = None
unrolled_tree (Some left) (Some right) t s =
    let one = Sym s.next_sym in
    let two = Sym (s.next_sym + 1) in
    Some (with_atom (Tree two) (with_atom (Tree one)
    (with_cell (with_symbols 2 s) t (put_term left one (put_term right two [])))))

-- a doubly linked segment that isn't empty: a cell, which leads back to what stands before it, and from its
-- link on a segment before which stands that cell
abbrev pub unrolled_double : (next back : Option FieldId) → (v p l u : Term) → State → Option State
unrolled_double None back v p l u s = None
unrolled_double (Some next) None v p l u s = None
unrolled_double (Some next) (Some back) v p l u s =
    let rest = Sym s.next_sym in
    Some (with_atom (Dll rest v l u)
    (with_cell (with_symbols 1 s) v (put_term next rest (put_term back p []))))

-- a segment or tree that isn't empty, in a state without it
abbrev pub unrolled : Links → Atom → State → Option State
unrolled links (Points t fields) s = None
unrolled links (Ls t u) s = unrolled_segment links.tl t u s
unrolled links (Tree t) s = unrolled_tree links.l links.r t s
unrolled links (Dll v p l u) s = unrolled_double links.tl links.pv v p l u s

-- unroll: a segment or tree whose ends differ begins with a cell
abbrev pub unroll_one : Goal → (a : ℕ) → Atom → Option (List Goal)
unroll_one g a x =
    option_and_then (λ e. cond (differs g.state e.0 e.1)
    (option_map (λ s. at_state g s ∷ [])
    (unrolled g.state.links x (record g.state { atoms = without g.state.atoms a }))) None)
    (ends x)

abbrev pub unroll_row : Goal → (a : ℕ) → Option (List Goal)
unroll_row g a = option_and_then (unroll_one g a) (atom_at g.state.atoms a)

-- a doubly linked segment that isn't empty, from behind: the segment up to its last cell, and that cell, which
-- leads to its end and back to the last cell before it
abbrev pub unrolled_last : (next back : Option FieldId) → (v p l u : Term) → State → Option State
unrolled_last None back v p l u s = None
unrolled_last (Some next) None v p l u s = None
unrolled_last (Some next) (Some back) v p l u s =
    let before = Sym s.next_sym in
    Some (with_cell (with_atom (Dll v p before l) (with_symbols 1 s)) l
    (put_term next u (put_term back before [])))

-- back: a doubly linked segment whose ends differ ends with a cell
abbrev pub back_one : Goal → (a : ℕ) → Atom → Option (List Goal)
back_one g a (Points t fields) = None
back_one g a (Ls t u) = None
back_one g a (Tree t) = None
back_one g a (Dll v p l u) =
    cond (differs g.state v u)
    (option_map (λ s. at_state g s ∷ [])
    (unrolled_last g.state.links.tl g.state.links.pv v p l u
    (record g.state { atoms = without g.state.atoms a }))) None

abbrev pub back_row : Goal → (a : ℕ) → Option (List Goal)
back_row g a = option_and_then (back_one g a) (atom_at g.state.atoms a)
