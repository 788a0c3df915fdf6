-- State: what is known of the variables and of the heap at one point of a procedure.
-- Berdine, Calcagno, O'Hearn, "Symbolic Execution with Separation Logic" (2005), section 3.
use Rattle.std.specs.Prelude.{ℕ, ◌+◌, cond, List, [], ◌∷◌}
use Rattle.sf_base.specs.declared.ids.Var.{Var}
use Rattle.sf_base.specs.Variables.{same_var}
use Rattle.sf_core.specs.declared.command.Expr.{Expr}
use Rattle.sf_core.specs.declared.command.Expr.TheVariants.{Var as Variable, Nil as ENil, Int as EInt}
use Rattle.sf_core.specs.declared.fields.Links.{Links}
use Rattle.sf_sym.specs.declared.atom.Numbered.{Numbered}
use Rattle.sf_sym.specs.declared.term.Term.{Term}
use Rattle.sf_sym.specs.declared.term.Term.TheVariants.{Nil, Int}

-- State: what a goal knows
pub record State : Type 0 where
  -- the fields of segments and trees, which no step changes
  pub links : Links
  -- a term for each variable in reach
  pub vars : List (Var × Term)
  -- pairs of terms that differ
  pub apart : List (Term × Term)
  -- the parts of the heap, in order of their numbers
  pub atoms : List Numbered
  -- the parts that were handed over in the subtraction now under way, in the order in which they were
  pub taken : List Numbered
  -- the number of the next symbol, from 0
  pub next_sym : ℕ
  -- the number of the next atom, from 1
  pub next_atom : ℕ

-- a state by its parts
abbrev pub state_of : Links → List (Var × Term) → List (Term × Term) → (atoms taken : List Numbered)
    → (next_sym next_atom : ℕ) → State
state_of links vars apart atoms taken next_sym next_atom = record {
  links = links;
  vars = vars;
  apart = apart;
  atoms = atoms;
  taken = taken;
  next_sym = next_sym;
  next_atom = next_atom;
}

-- the state that knows these terms of the variables, and nothing of the heap
abbrev pub first_state : Links → List (Var × Term) → (next_sym : ℕ) → State
first_state links vars next_sym = state_of links vars [] [] [] next_sym 1

-- the state with so many symbols more
abbrev pub with_symbols : ℕ → State → State
with_symbols n s = record s { next_sym = s.next_sym + n }

-- the term of a variable; each variable in reach has one
abbrev pub term_at : List (Var × Term) → Var → Term
term_at [] x = Nil
term_at (v ∷ vs) x = cond (same_var v.0 x) v.1 (term_at vs x)

-- the term of an expression
abbrev pub term : List (Var × Term) → Expr → Term
term vars (Variable x) = term_at vars x.var
term vars ENil = Nil
term vars (EInt i) = Int i
