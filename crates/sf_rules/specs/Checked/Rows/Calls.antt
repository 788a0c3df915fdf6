-- The rows of calls: call, fork, give.
-- Berdine, Calcagno, O'Hearn, "Smallfoot" (2005): the precondition is handed over, and the postcondition comes back;
-- O'Hearn, "Resources, Concurrency and Local Reasoning" (2007), for parallel calls.
use Rattle.std.specs.Prelude.{◌+◌, Option, None, List, [], ◌∷◌, ◌++◌, length}
use Rattle.std.specs.List.{slice_get}
use Rattle.std.specs.Option.{option_and_then}
use Rattle.sf_base.specs.declared.ids.Var.{Var}
use Rattle.sf_base.specs.declared.place.Place.{Place}
use Rattle.sf_core.specs.Program.Syntax.{Assertion, Call, Command, call, fork, Procedure}
use Rattle.sf_sym.specs.declared.term.Term.{Term}
use Rattle.sf_sym.specs.Goal.{Item, gave, Goal, one_goal}
use Rattle.sf_sym.specs.State.{State, with_symbols}
use Rattle.sf_calls.specs.Changes.{changed}
use Rattle.sf_calls.specs.Sets.{Sets}
use Rattle.sf_rules.specs.Checked.Few.{if_few}
use Rattle.sf_rules.specs.Callee.{term_after, term_before}
use Rattle.sf_rules.specs.Setting.{Setting}
use Rattle.sf_rules.specs.Words.{to_add, to_take}
use Rattle.sf_sym.specs.Variables.{fresh_for, remove_vars, set_vars}

-- call: the precondition is due, then what the call may change is unknown, and the postcondition is assumed
abbrev pub called_with : Sets → State → Place → Call → (pre post : Assertion) → List Item → Option (List Goal)
called_with sets s p c pre post rest =
    let set = fresh_for s.next_sym (changed sets c) in
    if_few (length set) (one_goal (with_symbols (length set) s)
    (to_take c.place (term_before s c) pre ++ (gave p set [] ∷ (to_add p (term_after s set c) post ++ rest))))

abbrev pub called : Setting → State → Place → Call → List Item → Procedure → Option (List Goal)
called d s p c rest g = called_with d.sets s p c (d.ordered g.pre) (d.ordered g.post) rest

abbrev pub call_row : Setting → State → Command → List Item → Option (List Goal)
call_row d s (call p c) rest =
    option_and_then (called d s p c rest) (slice_get d.program.procedures c.callee.0)
call_row d s _ rest = None

-- fork: both preconditions are due, then what the calls may change is unknown, and both postconditions are assumed,
-- each with what its own call may have changed
abbrev pub forked_with : Sets → State → Place → (c e : Call) → (pre post : Assertion) → (pre_too post_too : Assertion)
    → List Item → Option (List Goal)
forked_with sets s p c e pre post pre_too post_too rest =
    let first = fresh_for s.next_sym (changed sets c) in
    let second = fresh_for (s.next_sym + length first) (changed sets e) in
    if_few (length (first ++ second)) (one_goal (with_symbols (length (first ++ second)) s)
    (to_take c.place (term_before s c) pre
    ++ (to_take e.place (term_before s e) pre_too
    ++ (gave p (first ++ second) [] ∷ (to_add p (term_after s first c) post
    ++ (to_add p (term_after s second e) post_too ++ rest))))))

abbrev pub forked : Setting → State → Place → (one two : Call) → List Item → (g h : Procedure) → Option (List Goal)
forked d s p c e rest g h =
    forked_with d.sets s p c e (d.ordered g.pre) (d.ordered g.post) (d.ordered h.pre) (d.ordered h.post) rest

abbrev pub fork_row : Setting → State → Command → List Item → Option (List Goal)
fork_row d s (fork p c e) rest =
    option_and_then (λ g. option_and_then (forked d s p c e rest g) (slice_get d.program.procedures e.callee.0))
    (slice_get d.program.procedures c.callee.0)
fork_row d s _ rest = None

-- give: what was taken is gone for good; variables are set and removed
abbrev pub give_row : State → Place → (set : List (Var × Term)) → (removed : List Var) → List Item
    → Option (List Goal)
give_row s p set removed rest =
    one_goal (record s { taken = []; vars = remove_vars removed (set_vars set s.vars) }) rest
