-- What comes next, read off the machine's table, and what was begun where its first tokens are read.
-- Ordinary: left factoring, as in Aho, Sethi, Ullman, "Compilers" (1986), section 4.3.
use Rattle.std.specs.Prelude.{List, [], ◌∷◌, Bool, false}
use Rattle.sf_ast.specs.Surface as s
use Rattle.sf_parse.specs.Leaf.{Leaf}
use Rattle.sf_parse.specs.Checked.Machine.{takes, on_command, on_conjunct}

-- a command with no command in it
abbrev pub IsFlat : s.Command → Type 0
IsFlat (s.if_alone p b c) = ⊥
IsFlat (s.if p b c e) = ⊥
IsFlat (s.while p b x c) = ⊥
IsFlat (s.with p x b c) = ⊥
IsFlat (s.block p cs q) = ⊥
IsFlat _ = Unit {0}

-- a command comes next, at whatever level
abbrev pub command_next : List Leaf → Bool
command_next [] = false
command_next (t ∷ r) = takes (on_command 0 t)

-- a conjunct with no assertion in it
abbrev pub IsFlatConjunct : s.Conjunct → Type 0
IsFlatConjunct (s.group a) = ⊥
IsFlatConjunct (s.choose p round b x y) = ⊥
IsFlatConjunct _ = Unit {0}

-- a conjunct comes next, at whatever level
abbrev pub conjunct_next : List Leaf → Bool
conjunct_next [] = false
conjunct_next (t ∷ r) = takes (on_conjunct 0 t)
