-- What it means to assume that two terms are the same, or that they differ: in a state, and in a whole goal.
-- Substitution of equals: Berdine, Calcagno, O'Hearn, "Symbolic Execution with Separation Logic" (2005), section 4.
use Rattle.std.specs.Prelude.{ℕ, ◌==◌, cond, nat_lt, map, Option, Some, None, [], ◌∷◌, ◌++◌}
use Rattle.std.specs.Option.{option_map}
use Rattle.sf_sym.specs.declared.atom.Atom.{Atom}
use Rattle.sf_sym.specs.declared.atom.Atom.TheVariants.{Points, Ls, Tree, Dll}
use Rattle.sf_sym.specs.declared.atom.Numbered.{Numbered}
use Rattle.sf_sym.specs.declared.term.Term.{Term}
use Rattle.sf_sym.specs.declared.term.Term.TheVariants.{Nil, Int, Sym}
use Rattle.sf_sym.specs.Goal.{Item, run, add, take, gave, head, again, exit, return, end, Goal}
use Rattle.sf_sym.specs.Mapped.{conjuncts_with}
use Rattle.sf_sym.specs.Pending.{Pending}
use Rattle.sf_sym.specs.State.{State}
use Rattle.sf_sym.specs.Tests.{same_term}

-- Replacing: each term is what `to` makes of it
-- in an atom
abbrev pub atom_with : (Term → Term) → Atom → Atom
atom_with to (Points t fields) = Points (to t) (map (λ f. (f.0, to f.1)) fields)
atom_with to (Ls t u) = Ls (to t) (to u)
atom_with to (Tree t) = Tree (to t)
atom_with to (Dll v p l u) = Dll (to v) (to p) (to l) (to u)

-- in a numbered atom, which keeps its number
abbrev pub numbered_with : (Term → Term) → Numbered → Numbered
numbered_with to a = record { number = a.number; atom = atom_with to a.atom }

-- in all that a state knows
abbrev pub state_with : (Term → Term) → State → State
state_with to s = record s {
  vars = map (λ x. (x.0, to x.1)) s.vars;
  apart = map (λ p. (to p.0, to p.1)) s.apart;
  atoms = map (numbered_with to) s.atoms;
  taken = map (numbered_with to) s.taken;
}

-- in conjuncts that are still to be worked, nested branches too, and in what their existentials stand for
abbrev pub pending_with : (Term → Term) → Pending → Pending
pending_with to p = record { conjuncts = conjuncts_with to p.conjuncts; bindings = map (option_map to) p.bindings }

-- in an item that is still to do: those of the program itself have no terms
abbrev pub item_with : (Term → Term) → Item → Item
item_with to (run c) = run c
item_with to (add p given) = add p (pending_with to given)
item_with to (take p want names) = take p (pending_with to want) names
item_with to (gave p set removed) = gave p (map (λ x. (x.0, to x.1)) set) removed
item_with to (head p test invariant body) = head p test invariant body
item_with to (again p invariant) = again p invariant
item_with to (exit p r) = exit p r
item_with to (return p post) = return p post
item_with to (end p) = end p

-- in a whole goal
abbrev pub goal_with : (Term → Term) → Goal → Goal
goal_with to g = record { state = state_with to g.state; todo = map (item_with to) g.todo }

-- that term in place of the symbol, and every other term as it is
abbrev pub put_for : (symbol : ℕ) → (by : Term) → Term → Term
put_for n by Nil = Nil
put_for n by (Int i) = Int i
put_for n by (Sym m) = cond (m == n) by (Sym m)

-- the symbol that goes where two different terms are to be the same, and the term that takes its place: of two
-- symbols the greater goes. Two constants have none
abbrev pub which_goes : Term → Term → Option (ℕ × Term)
which_goes Nil (Sym n) = Some (n, Nil)
which_goes (Int i) (Sym n) = Some (n, Int i)
which_goes (Sym m) Nil = Some (m, Nil)
which_goes (Sym m) (Int i) = Some (m, Int i)
which_goes (Sym m) (Sym n) = cond (nat_lt m n) (Some (n, Sym m)) (Some (m, Sym n))
which_goes _ _ = None

-- the pair differs from now on
abbrev pub with_pair : Term → Term → State → State
with_pair t u s = record s { apart = s.apart ++ (t, u) ∷ [] }

-- assume_apart: the two terms differ
abbrev pub assumed_apart : Term → Term → Goal → Goal
assumed_apart t u g = record g { state = with_pair t u g.state }

-- the goal where one of the two terms goes, if one does; two different constants can't be the same, and then
-- nil is to differ from itself
abbrev pub with_one : Option (ℕ × Term) → Goal → Goal
with_one None g = assumed_apart Nil Nil g
with_one (Some r) g = goal_with (put_for r.0 r.1) g

-- assume_equal: the two terms are the same
abbrev pub assumed_equal : Term → Term → Goal → Goal
assumed_equal t u g = cond (same_term t u) g (with_one (which_goes t u) g)
