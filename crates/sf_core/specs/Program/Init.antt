-- Init: the procedure that sets the resources up, by its name, and its shape.
-- O'Hearn, "Resources, Concurrency and Local Reasoning" (2007): a program with resources has a part that runs first and
-- initializes their variables and cells.
use Rattle.std.specs.Prelude.{◌≡◌, ℕ, Bool, List, Option, codes}
use Rattle.std.specs.Option.{option_map}
use Rattle.std.specs.Str.{bytes_eq}
use Rattle.sf_base.specs.declared.ids.ProcId.{ProcId}
use Rattle.sf_core.specs.Program.Named.{IsFirstNamed, name_at}
use Rattle.sf_core.specs.Program.Syntax.{Level, level, none, also, Procedure, Program}

-- the name of that procedure
abbrev pub init_name : List ℕ
init_name = codes "init"

-- whether a procedure is the one that sets the resources up: by its name
abbrev pub is_init : Procedure → Bool
is_init g = bytes_eq g.name init_name

-- whether the procedure of that number is the one
abbrev pub is_init_at : List Procedure → ProcId → Bool
is_init_at procedures f = bytes_eq (name_at procedures f) init_name

-- whether a program's procedure of that number is the one
abbrev pub sets_up : Program → ProcId → Bool
sets_up p f = is_init_at p.procedures f

-- of procedures with these names that is the number of the first that is named so, and None exactly where none is
abbrev pub IsInitAmong : List (List ℕ) → Option ProcId → Type 0
IsInitAmong names init = IsFirstNamed names init_name (option_map (λ f. f.0) init)

-- the level has no conjunct
abbrev pub HasNoConjunct : {E : Type 0} → Level E → Type 0
HasNoConjunct (level made none) = Unit {0}
HasNoConjunct (level made (also c cs)) = ⊥

-- the procedure has no parameter, and no conjunct in its precondition and postcondition
pub record IsBare (g : Procedure) : Type 0 where
  pub references : g.references ≡ 0
  pub values : g.values ≡ 0
  pub pre : HasNoConjunct g.pre.level
  pub post : HasNoConjunct g.post.level
