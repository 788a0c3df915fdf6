-- Names and what they stand for, in the order in which they were declared.
-- Ordinary: a symbol table, as in Aho, Sethi, Ullman, "Compilers" (1986), chapter 7.
use Rattle.std.specs.Prelude.{ℕ, List, [], ◌∷◌, ◌++◌, Option, is_some, Bool, if◌then◌else◌}
use Rattle.std.specs.Map.{lookup}
use Rattle.std.specs.Str.{bytes_eq}

-- names with what they stand for
abbrev pub Table : Type 0 → Type 0
Table A = List (List ℕ × A)

-- what a name stands for: the first of that name counts
abbrev pub find : {A : Type 0} → List ℕ → Table A → Option A
find name t = lookup (bytes_eq name) t

-- whether it stands for anything
abbrev pub has : {A : Type 0} → List ℕ → Table A → Bool
has name t = is_some (find name t)

-- once more is declared; what is there already stays
abbrev pub declare : {A : Type 0} → List ℕ → A → Table A → Table A
declare name a t = if has name t then t else t ++ (name, a) ∷ []
