-- First: the goal with which the proof of a procedure begins.
-- Berdine, Calcagno, O'Hearn, "Smallfoot" (2005): the precondition is assumed, the body run, the postcondition due.
-- O'Hearn, "Resources, Concurrency and Local Reasoning" (2007): what sets the resources up shows their invariants.
use Rattle.std.specs.Prelude.{ℕ, zero, suc, ◌+◌, ◌-◌, Bool, true, false, cond, Option, Some, None, List, [], ◌∷◌, ◌++◌, codes, get_or, length, map}
use Rattle.std.specs.List.{flat_map}
use Rattle.std.specs.Str.{bytes_eq}
use Rattle.sf_base.specs.declared.ids.FieldId.{FieldId}
use Rattle.sf_base.specs.declared.ids.ProcId.{ProcId}
use Rattle.sf_base.specs.declared.ids.ResId.{ResId}
use Rattle.sf_base.specs.declared.ids.Var.{Var}
use Rattle.sf_base.specs.declared.ids.Var.TheVariants.{Own}
use Rattle.sf_core.specs.declared.fields.Links.{Links}
use Rattle.sf_core.specs.Program.Init.{is_init}
use Rattle.sf_core.specs.Program.Syntax.{Procedure, Program}
use Rattle.sf_precise.specs.Annotations.{owed}
use Rattle.sf_sym.specs.declared.term.Term.{Term}
use Rattle.sf_sym.specs.declared.term.Term.TheVariants.{Nil, Sym}
use Rattle.sf_sym.specs.Goal.{Goal, return, to_run}
use Rattle.sf_sym.specs.State.{State, first_state, term}
use Rattle.sf_sym.specs.Variables.{set_vars, with_fresh}
use Rattle.sf_rules.specs.Resources.{variables_of}
use Rattle.sf_rules.specs.Setting.{Setting}
use Rattle.sf_rules.specs.Words.{to_add}

-- the place of a name in a list
abbrev pub number_of : List (List ℕ) → List ℕ → ℕ → Option FieldId
number_of [] name from = None
number_of (x ∷ xs) name from =
    cond (bytes_eq x name) (Some (record { 0 = from })) (number_of xs name (suc from))

-- the fields that segments and trees go by
abbrev pub links_of : Program → Links
links_of p =
    record {
      tl = number_of p.fields (codes "tl") 0;
      pv = number_of p.fields (codes "pv") 0;
      l = number_of p.fields (codes "l") 0;
      r = number_of p.fields (codes "r") 0;
    }

-- a fresh symbol for each of that many variables, in order
abbrev pub symbols : (from count : ℕ) → List (Var × Term)
symbols from zero = []
symbols from (suc count) = (Own from, Sym from) ∷ symbols (suc from) count

-- nil for each of that many locals
abbrev pub nils : (from count : ℕ) → List (Var × Term)
nils from zero = []
nils from (suc count) = (Own from, Nil) ∷ nils (suc from) count

-- the terms of its own variables at first: a symbol for each parameter, nil for each local
abbrev pub own_vars : Procedure → List (Var × Term)
own_vars g =
    symbols 0 (g.references + g.values)
    ++ nils (g.references + g.values) (length g.names - (g.references + g.values))

-- nil for each of the variables, in their order
abbrev pub nil_for : List Var → List (Var × Term)
nil_for xs = map (λ x. (x, Nil)) xs

-- the state in which each of the variables is nil
abbrev pub with_nil : List Var → State → State
with_nil xs s = record s { vars = set_vars (nil_for xs) s.vars }

-- the variables of the resources that are held are there: each with a fresh symbol, or nil where they are still to be
-- set up
abbrev pub with_held : (sets_up : Bool) → List Var → State → State
with_held false xs s = with_fresh xs s
with_held true xs s = with_nil xs s

-- the first state: the variables, too, of the resources that it holds, and no cell
abbrev pub state_by : Program → (held : List ResId) → Procedure → State
state_by p held g =
    with_held (is_init g) (flat_map (variables_of p) held)
    (first_state (links_of p) (own_vars g) (g.references + g.values))

abbrev pub first_state_of : Setting → ProcId → Procedure → State
first_state_of d f g = state_by d.program (get_or d.sets.holds f.0 []) g

-- the first goal of that procedure, which has that number
abbrev pub first_goal : Setting → ProcId → Procedure → Goal
first_goal d f g = record {
  state = first_state_of d f g;
  todo = to_add g.place (term (first_state_of d f g).vars) (d.ordered g.pre)
      ++ (to_run g.body ++ (return g.end (map d.ordered (owed d.program g)) ∷ []));
}
