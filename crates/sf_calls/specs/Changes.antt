-- Changes: the variables that commands may change, as the list in order of number, where the least sets are known.
-- The modified variables of Hoare logic, where a call changes the variables that its references name and those that
-- are free in its procedure.
use Rattle.std.specs.Prelude.{cond, List, [], ◌∷◌, ◌++◌, get_or, map}
use Rattle.std.specs.List.{flat_map}
use Rattle.sf_base.specs.declared.ids.ProcId.{ProcId}
use Rattle.sf_base.specs.declared.ids.Var.{Var}
use Rattle.sf_base.specs.Variables.{same_var}
use Rattle.sf_core.specs.Program.Heads.{head_calls, head_sets, sites}
use Rattle.sf_core.specs.Program.Syntax.{Block, Call, Command}
use Rattle.sf_calls.specs.Sets.{Sets, is_earlier}

-- what is free in a procedure, in order of number
abbrev pub free_in : Sets → ProcId → List Var
free_in sets f = get_or sets.free f.0 []

-- what a call may change: the variables that its references name, and then those that are free in what it calls
abbrev pub changed : Sets → Call → List Var
changed sets c = map (λ x. x.var) c.references ++ free_in sets c.callee

-- what a command itself may change, in text order
abbrev pub changes_of : Sets → Command → List Var
changes_of sets c = map (λ x. x.var) (head_sets c) ++ flat_map (changed sets) (head_calls c)

-- a list in order of number with one variable more, if it isn't there yet
abbrev pub put_var : Var → List Var → List Var
put_var x [] = x ∷ []
put_var x (y ∷ ys) =
    cond (same_var y x) (y ∷ ys) (cond (is_earlier x y) (x ∷ y ∷ ys) (y ∷ put_var x ys))

-- variables in order of number, each once
abbrev pub in_number_order : List Var → List Var
in_number_order [] = []
in_number_order (x ∷ xs) = put_var x (in_number_order xs)

-- what the commands of a block may change, those inside them too, in order of number and each once
abbrev pub changes_in : Sets → Block → List Var
changes_in sets b = in_number_order (flat_map (λ s. changes_of sets s.command) (sites [] b))
