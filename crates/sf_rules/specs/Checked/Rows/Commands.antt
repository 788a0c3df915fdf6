-- The rows of commands that touch a variable or a cell: assign, look, mutate, new, dispose.
-- Berdine, Calcagno, O'Hearn, "Symbolic Execution with Separation Logic" (2005), section 4: symbolic execution.
use Rattle.std.specs.Prelude.{ℕ, Option, Some, None, List, []}
use Rattle.std.specs.Option.{option_and_then, option_map}
use Rattle.sf_base.specs.declared.ids.FieldId.{FieldId}
use Rattle.sf_base.specs.declared.ids.Var.{Var}
use Rattle.sf_core.specs.Program.Syntax.{Command, assign, look_up, mutate, new, dispose}
use Rattle.sf_rules.specs.Rules.{with_var}
use Rattle.sf_sym.specs.declared.term.Term.{Term}
use Rattle.sf_sym.specs.declared.term.Term.TheVariants.{Sym}
use Rattle.sf_sym.specs.Cells.{cell_at, state_after_write, with_cell, without}
use Rattle.sf_sym.specs.Fields.{field_term}
use Rattle.sf_sym.specs.Goal.{Item, Goal, one_goal}
use Rattle.sf_sym.specs.State.{State, term, with_symbols}

-- assign: the variable has the expression's term
abbrev pub assign_row : State → Command → List Item → Option (List Goal)
assign_row s (assign p x e) rest = one_goal (with_var x.var (term s.vars e) s) rest
assign_row s _ rest = None

-- look: the variable has the term of the cell's field; a field that isn't known gets a fresh symbol first
abbrev pub looked : State → (root : Term) → FieldId → (a : ℕ) → Var → Option Term → Option State
looked s root f a x (Some t) = Some (with_var x t s)
looked s root f a x None =
    option_map (with_var x (Sym s.next_sym)) (state_after_write (with_symbols 1 s) root f (Sym s.next_sym) a)

abbrev pub look_row : (a : ℕ) → State → Command → List Item → Option (List Goal)
look_row a s (look_up p x e f) rest =
    option_and_then (λ fields. option_and_then (λ after. one_goal after rest)
    (looked s (term s.vars e) f a x.var (field_term fields f)))
    (cell_at s.atoms a (term s.vars e))
look_row a s _ rest = None

-- mutate: the cell's field has the expression's term
abbrev pub mutate_row : (a : ℕ) → State → Command → List Item → Option (List Goal)
mutate_row a s (mutate p e f v) rest =
    option_and_then (λ after. one_goal after rest)
    (state_after_write s (term s.vars e) f (term s.vars v) a)
mutate_row a s _ rest = None

-- new: the variable has a fresh symbol, and there is a cell of which no field is known
abbrev pub new_row : State → Command → List Item → Option (List Goal)
new_row s (new p x) rest =
    one_goal (with_cell (with_var x.var (Sym s.next_sym) (with_symbols 1 s)) (Sym s.next_sym) []) rest
new_row s _ rest = None

-- dispose: the cell goes
abbrev pub dispose_row : (a : ℕ) → State → Command → List Item → Option (List Goal)
dispose_row a s (dispose p e) rest =
    option_and_then (λ fields. one_goal (record s { atoms = without s.atoms a }) rest)
    (cell_at s.atoms a (term s.vars e))
dispose_row a s _ rest = None
