-- The row of what is assumed: add.
-- Berdine, Calcagno, O'Hearn, "Symbolic Execution with Separation Logic" (2005), section 4.
use Rattle.std.specs.Prelude.{ℕ, ◌+◌, get_or, Option, Some, None, List, [], ◌∷◌, ◌++◌, set}
use Rattle.std.specs.Option.{option_map}
use Rattle.sf_base.specs.declared.ids.FieldId.{FieldId}
use Rattle.sf_base.specs.declared.place.Place.{Place}
use Rattle.sf_core.specs.declared.assertion.Operand.{Operand}
use Rattle.sf_core.specs.declared.assertion.Operand.TheVariants.{Known, Exists}
use Rattle.sf_core.specs.declared.assertion.Test.TheVariants.{True, Equal, Differ}
use Rattle.sf_core.specs.Program.Syntax.{Conjunct, holds, points, segment, doubly, tree, choose, Conjuncts, none, also}
use Rattle.sf_produce.specs.declared.operands.TheConstants.{OPERANDS}
use Rattle.sf_sym.specs.declared.atom.Atom.TheVariants.{Ls, Tree, Dll}
use Rattle.sf_sym.specs.declared.term.Term.{Term}
use Rattle.sf_sym.specs.declared.term.Term.TheVariants.{Sym}
use Rattle.sf_sym.specs.Cells.{with_cell, with_atom}
use Rattle.sf_sym.specs.Equalities.{assumed_apart, assumed_equal}
use Rattle.sf_sym.specs.Fields.{put_term}
use Rattle.sf_sym.specs.Goal.{Item, Goal, adding}
use Rattle.sf_sym.specs.Pending.{Pending, existentials_in, one_if_existential}
use Rattle.sf_sym.specs.State.{State, with_symbols}

-- what meeting an operand gives: its term, the state, and what existentials stand for from then on
pub record Met : Type 0 where
  pub term : Term
  pub state : State
  pub bindings : List (Option Term)

-- an existential that is met for the first time gets a fresh symbol
abbrev pub met_existential : State → List (Option Term) → ℕ → Option Term → Met
met_existential s bindings n (Some t) = record { term = t; state = s; bindings = bindings }
met_existential s bindings n None = record {
  term = Sym s.next_sym;
  state = with_symbols 1 s;
  bindings = set bindings n (Some (Sym s.next_sym));
}

abbrev pub met : State → List (Option Term) → Operand Term → Met
met s bindings (Known t) = record { term = t; state = s; bindings = bindings }
met s bindings (Exists n) = met_existential s bindings n (get_or bindings n None)

-- the fields of a new cell, in the order written, each existential known to the next
pub record MetFields : Type 0 where
  pub fields : List (FieldId × Term)
  pub state : State
  pub bindings : List (Option Term)

abbrev pub met_fields : State → List (Option Term) → List (FieldId × Operand Term) → List (FieldId × Term)
    → MetFields
met_fields s bindings [] made = record { fields = made; state = s; bindings = bindings }
met_fields s bindings (f ∷ fs) made =
    let m = met s bindings f.1 in met_fields m.state m.bindings fs (put_term f.0 m.term made)

-- what meeting two operands gives, the first known to the second
pub record MetBoth : Type 0 where
  pub one : Term
  pub two : Term
  pub state : State
  pub bindings : List (Option Term)

abbrev pub met_both : State → List (Option Term) → (x y : Operand Term) → MetBoth
met_both s bindings x y =
    let first = met s bindings x in
    let second = met first.state first.bindings y in
    record { one = first.term; two = second.term; state = second.state; bindings = second.bindings }

-- what meeting the four operands of a doubly linked segment gives, each known to those behind it
pub record MetFour : Type 0 where
  pub from : Term
  pub before : Term
  pub last : Term
  pub to : Term
  pub state : State
  pub bindings : List (Option Term)

abbrev pub met_four : State → List (Option Term) → (x b l y : Operand Term) → MetFour
met_four s bindings x b l y =
    let first = met_both s bindings x b in
    let second = met_both first.state first.bindings l y in
    record {
      from = first.one;
      before = first.two;
      last = second.one;
      to = second.two;
      state = second.state;
      bindings = second.bindings;
    }

-- the goal with that state, in which those other conjuncts are still to be assumed first
abbrev pub goal_after : State → Place → Conjuncts Term → List (Option Term) → List Item → Goal
goal_after s p cs bindings rest = record {
  state = s;
  todo = adding p (record { conjuncts = cs; bindings = bindings }) ++ rest;
}

-- a list segment is assumed: the field along which it goes is the program's
abbrev pub added_segment : State → Place → List (Option Term) → (x y : Operand Term) → Conjuncts Term → List Item → Goal
added_segment s p bindings x y cs rest =
    let m = met_both s bindings x y in
    goal_after (with_atom (Ls m.one m.two) m.state) p cs m.bindings rest

-- a doubly linked segment
abbrev pub added_double : State → Place → List (Option Term) → (x b l y : Operand Term) → Conjuncts Term → List Item
    → Goal
added_double s p bindings x b l y cs rest =
    let m = met_four s bindings x b l y in
    goal_after (with_atom (Dll m.from m.before m.last m.to) m.state) p cs m.bindings rest

-- a tree
abbrev pub added_tree : State → Place → List (Option Term) → (x : Operand Term) → Conjuncts Term → List Item → Goal
added_tree s p bindings x cs rest =
    let root = met s bindings x in
    goal_after (with_atom (Tree root.term) root.state) p cs root.bindings rest

-- one conjunct is assumed, before these others; a choice can't be before its test is decided
abbrev pub added : State → Place → List (Option Term) → Conjunct Term → Conjuncts Term → List Item → Option Goal
added s p bindings (holds q True) cs rest = Some (goal_after s p cs bindings rest)
added s p bindings (holds q (Equal x y)) cs rest =
    let m = met_both s bindings x y in
    Some (assumed_equal m.one m.two (goal_after m.state p cs m.bindings rest))
added s p bindings (holds q (Differ x y)) cs rest =
    let m = met_both s bindings x y in
    Some (assumed_apart m.one m.two (goal_after m.state p cs m.bindings rest))
added s p bindings (points q x fs) cs rest =
    let root = met s bindings x in
    let m = met_fields root.state root.bindings fs [] in
    Some (goal_after (with_cell m.state root.term m.fields) p cs m.bindings rest)
added s p bindings (segment q next x y) cs rest = Some (added_segment s p bindings x y cs rest)
added s p bindings (doubly q next back x b l y) cs rest = Some (added_double s p bindings x b l y cs rest)
added s p bindings (tree q left right x) cs rest = Some (added_tree s p bindings x cs rest)
added s p bindings (choose q t this that) cs rest = None

-- the first conjunct is assumed
abbrev pub add_first : State → Place → List (Option Term) → Conjuncts Term → List Item → Option Goal
add_first s p bindings none rest = None
add_first s p bindings (also c cs) rest = added s p bindings c cs rest

-- add: the first conjunct to assume is assumed
abbrev pub add_row : State → Place → Pending → List Item → Option (List Goal)
add_row s p given rest = option_map (λ g. g ∷ []) (add_first s p given.bindings given.conjuncts rest)

-- so many symbols may be new: one for each existential of a cell, and else as many as any other
-- conjunct has operands
abbrev pub operands : Conjuncts Term → ℕ
operands (also (points q x fs) cs) = one_if_existential x + existentials_in fs
operands _ = OPERANDS
