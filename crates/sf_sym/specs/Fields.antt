-- The terms of a cell's fields: in declared order, each field once, and how one is read and written.
-- Berdine, Calcagno, O'Hearn, "Symbolic Execution with Separation Logic" (2005), section 3.
use Rattle.std.specs.Prelude.{ℕ, ◌<◌, ◌==◌, cond, Option, Some, None, List, [], ◌∷◌, ◌++◌, nat_lt}
use Rattle.std.specs.List.{AllByRecursion, filter}
use Rattle.sf_base.specs.declared.ids.FieldId.{FieldId}
use Rattle.sf_sym.specs.declared.term.Term.{Term}

-- every field of the list comes after that one
abbrev pub AreAfter : ℕ → List (FieldId × Term) → Type 0
AreAfter n fs = AllByRecursion (λ (g : FieldId × Term). n < g.0.0) fs

-- fields in declared order, each once
abbrev pub AreOrdered : List (FieldId × Term) → Type 0
AreOrdered [] = Unit {0}
AreOrdered (f ∷ fs) = AreAfter f.0.0 fs × AreOrdered fs

-- the field has that term from now on: the fields before it, it, and those after it
abbrev pub put_term : FieldId → Term → List (FieldId × Term) → List (FieldId × Term)
put_term f u fs =
    filter (λ g. nat_lt g.0.0 f.0) fs ++ ((f, u) ∷ filter (λ g. nat_lt f.0 g.0.0) fs)

-- the term of a field, where it is known
abbrev pub field_term : List (FieldId × Term) → FieldId → Option Term
field_term [] f = None
field_term (g ∷ gs) f = cond (g.0.0 == f.0) (Some g.1) (field_term gs f)
