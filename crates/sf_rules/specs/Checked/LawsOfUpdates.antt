-- Laws of updates: what it means that a variable, or a field of a cell, has a term from now on, or
-- a variable none. The lists of a state are finite maps in order: one that is in order is known by
-- what it says of each variable, so nothing else need be known of how a term gets into it.
-- Ordinary: finite maps, as in the stores of Berdine, Calcagno, O'Hearn (2005).
use Rattle.std.specs.Prelude.{◌≡◌, cond, Option, Some, None, List, [], ◌∷◌}
use Rattle.sf_base.specs.declared.ids.FieldId.{FieldId}
use Rattle.sf_base.specs.declared.ids.Var.{Var}
use Rattle.sf_base.specs.Variables.{same_var}
use Rattle.sf_sym.specs.declared.term.Term.{Term}
use Rattle.sf_sym.specs.Fields.{AreOrdered, field_term, put_term}
use Rattle.sf_sym.specs.Variables.{AreInOrder, remove_var, set_var}

-- the term of a variable, where it has one
abbrev pub variable_term : List (Var × Term) → Var → Option Term
variable_term [] x = None
variable_term (v ∷ vs) x = cond (same_var v.0 x) (Some v.1) (variable_term vs x)

-- one thing has that term afterwards, or none, and every other one what it had before
pub record IsUpdate {K : Type 0} (x : K) (t : Option Term) (before after : K → Option Term)
    : Type 0 where
  pub here : after x ≡ t
  pub elsewhere : (y : K) → ¬ (x ≡ y) → after y ≡ before y

-- a variable that is set has the term, and one that is removed none; all others keep theirs, and
-- the variables stay in order
unfoldable pub VariablesAreUpdated : Type 0
VariablesAreUpdated =
    (x : Var) (t : Term) (vs : List (Var × Term)) → AreInOrder vs
    → (AreInOrder (set_var x t vs)
    × IsUpdate x (Some t) (variable_term vs) (variable_term (set_var x t vs)))
    × AreInOrder (remove_var x vs)
    × IsUpdate x None (variable_term vs) (variable_term (remove_var x vs))

-- a field that is put has the term; all others keep theirs, and the fields stay in order
unfoldable pub FieldsAreUpdated : Type 0
FieldsAreUpdated =
    (f : FieldId) (t : Term) (fs : List (FieldId × Term)) → AreOrdered fs
    → AreOrdered (put_term f t fs)
    × IsUpdate f (Some t) (field_term fs) (field_term (put_term f t fs))

-- variables in order are one list where each has one term
unfoldable pub VariablesAreOneList : Type 0
VariablesAreOneList =
    (vs ws : List (Var × Term)) → AreInOrder vs → AreInOrder ws
    → ((x : Var) → variable_term vs x ≡ variable_term ws x) → vs ≡ ws

-- so are the fields of a cell
unfoldable pub FieldsAreOneList : Type 0
FieldsAreOneList =
    (fs gs : List (FieldId × Term)) → AreOrdered fs → AreOrdered gs
    → ((f : FieldId) → field_term fs f ≡ field_term gs f) → fs ≡ gs
