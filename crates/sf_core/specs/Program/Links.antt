-- The links: the fields that segments and trees follow, by their names.
-- The predicates of Berdine, Calcagno, O'Hearn, "Smallfoot" (2005), whose fields are called tl, l and r.
use Rattle.std.specs.Prelude.{ℕ, List, Option, codes}
use Rattle.std.specs.Option.{option_map}
use Rattle.sf_base.specs.declared.ids.FieldId.{FieldId}
use Rattle.sf_core.specs.declared.fields.Links.{Links}
use Rattle.sf_core.specs.Program.Named.{IsFirstNamed}

-- the field that segments follow
abbrev pub next_name : List ℕ
next_name = codes "tl"

-- the field by which doubly linked segments lead back
abbrev pub back_name : List ℕ
back_name = codes "pv"

-- the left field of a tree
abbrev pub left_name : List ℕ
left_name = codes "l"

-- the right field of a tree
abbrev pub right_name : List ℕ
right_name = codes "r"

-- the field is the first one of that name, and None exactly where there is none
abbrev pub IsFieldNamed : List (List ℕ) → List ℕ → Option FieldId → Type 0
IsFieldNamed fields name field = IsFirstNamed fields name (option_map (λ f. f.0) field)

-- these are the links of a file with these fields
pub record AreLinks (fields : List (List ℕ)) (links : Links) : Type 0 where
  pub next : IsFieldNamed fields next_name links.tl
  pub back : IsFieldNamed fields back_name links.pv
  pub left : IsFieldNamed fields left_name links.l
  pub right : IsFieldNamed fields right_name links.r
