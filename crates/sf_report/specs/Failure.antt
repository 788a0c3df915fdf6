-- The text of a failed obligation: the goal at which a search had no rule.
-- Ordinary: a report of a proof state, one line each for what is known, what was handed over and
-- what is wanted.
use Rattle.std.specs.Prelude.{◌++◌, Option, Some, None, List, [], ◌∷◌, codes, slice_get}
use Rattle.sf_base.specs.declared.ids.ProcId.{ProcId}
use Rattle.sf_base.specs.declared.place.Place.{Place}
use Rattle.sf_core.specs.Program.Named.{name_of}
use Rattle.sf_core.specs.Program.Places.{place_of}
use Rattle.sf_core.specs.Program.Syntax.{Procedure, Program}
use Rattle.sf_sym.specs.Goal.{Goal, Item, run, add, take, gave, head, again, exit, return, end}
use Rattle.sf_sym.specs.State.{State}
use Rattle.sf_proof.specs.ProofText.{Text}
use Rattle.sf_sym.specs.declared.stuck.Stuck.{Stuck}
use Rattle.sf_report.specs.Listed.{atoms_listed, pairs_listed}
use Rattle.sf_report.specs.Pieces.{kind_text, line_text, numbered_text, pair_text, place_text, value_text}
use Rattle.sf_report.specs.Wanted.{want_text}

-- the first place of a text
abbrev pub first_place : Place
first_place = record { line = 1; column = 1 }

-- the place of a thing to do
abbrev pub item_place : Item → Place
item_place (run c) = place_of c
item_place (add p given) = p
item_place (take p want names) = p
item_place (gave p set removed) = p
item_place (head p test invariant body) = p
item_place (again p invariant) = p
item_place (exit p r) = p
item_place (return p post) = p
item_place (end p) = p

-- the place of the first thing to do
abbrev pub front_place : List Item → Place
front_place [] = first_place
front_place (item ∷ todo) = item_place item

-- which procedure, and where, after a word with a blank
abbrev pub where_text : (word : Text) → Program → ProcId → Place → Text
where_text word p f place = word ++ name_of p f ++ codes " at " ++ place_text place ++ codes " "

-- the first line of a failure: which procedure, where and why
abbrev pub head_text : Program → ProcId → Place → (why : Text) → Text
head_text p f place why = where_text (codes "failed ") p f place ++ why ++ codes "\n"

-- the line of a goal at which a search had no rule: a word with a blank, which procedure, where and why
abbrev pub goal_line : (word : Text) → Program → ProcId → Goal → Stuck → Text
goal_line word p f goal kind = where_text word p f (front_place goal.todo) ++ kind_text kind ++ codes "\n"

-- what a state knows: the variables, the pairs that differ, the parts of the heap, and those that
-- were handed over
abbrev pub state_text : Program → ProcId → State → Text
state_text p f s =
    line_text (codes "vars") (value_text p f) s.vars
    ++ line_text (codes "apart") pair_text (pairs_listed s.apart)
    ++ line_text (codes "atoms") (numbered_text p) s.atoms
    ++ line_text (codes "taken") (numbered_text p) (atoms_listed s.taken)

-- the last line
abbrev pub want_line : Text → Text
want_line text = codes "want " ++ text ++ codes "\n"

-- a goal of that procedure at which a search had no rule
abbrev pub failure_text : Program → ProcId → Goal → Stuck → Text
failure_text p f goal kind =
    goal_line (codes "failed ") p f goal kind
    ++ state_text p f goal.state
    ++ want_line (want_text p kind goal.state goal.todo)

-- the place of a procedure's name
abbrev pub procedure_place : Option Procedure → Place
procedure_place None = first_place
procedure_place (Some f) = f.place

-- a procedure whose proof would have too many tags
abbrev pub too_large_text : Program → ProcId → Text
too_large_text p f = head_text p f (procedure_place (slice_get p.procedures f.0)) (codes "TooLarge")
