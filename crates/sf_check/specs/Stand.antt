-- Stand: how far tags have come, taken in turn: which procedures have begun, and which goals are
-- open.
-- Ordinary: a tree in preorder is read with a stack; Knuth, "The Art of Computer Programming",
-- volume 1 (1968), section 2.3.
use Rattle.std.specs.Prelude.{◌≡◌, ℕ, suc, ◌&&◌, nat_le, Bool, true, false, Some, List, [], ◌∷◌, ◌++◌, length}
use Rattle.std.specs.List.{slice_get}
use Rattle.sf_core.specs.Program.Syntax.{Procedure}
use Rattle.sf_sym.specs.declared.tag.Tag.{Tag}
use Rattle.sf_sym.specs.declared.tag.Tag.TheVariants.{Procedure as Begin}
use Rattle.sf_sym.specs.Goal.{Goal}
use Rattle.sf_rules.specs.First.{first_goal}
use Rattle.sf_rules.specs.Rules.{Leaves}
use Rattle.sf_rules.specs.Setting.{Setting}

-- Stand: how many procedures have begun, in file order, and the open goals, of which the first is
-- worked next
pub record Stand : Type 0 where
  pub begun : ℕ
  pub goals : List Goal

-- before the first tag
abbrev pub start : Stand
start = record { begun = 0; goals = [] }

-- a tag is taken, and after it comes that stand
pub data Takes (d : Setting) : Stand → Tag → Stand → Type 0 where
  -- with no goal open the next procedure begins by its tag
  begins : {f : ℕ} {x : Procedure} → slice_get d.program.procedures f ≡ Some x
      → Takes d (record { begun = f; goals = [] }) (Begin (record { 0 = f }))
      (record { begun = suc f; goals = first_goal d (record { 0 = f }) x ∷ [] })
  -- with goals open a rule leaves others of the first, which come before the rest
  goes_on : {f : ℕ} {goal : Goal} {left rest : List Goal} {tag : Tag} → Leaves d goal tag left
      → Takes d (record { begun = f; goals = goal ∷ rest }) tag
      (record { begun = f; goals = left ++ rest })

-- tags are taken in turn, and after them comes that stand
abbrev pub TakesAll : Setting → Stand → List Tag → Stand → Type 0
TakesAll d s [] t = s ≡ t
TakesAll d s (tag ∷ tags) t = (next : Stand) × Takes d s tag next × TakesAll d next tags t

-- there are no goals
abbrev pub none_open : List Goal → Bool
none_open [] = true
none_open (goal ∷ goals) = false

-- all is proved: no goal is open, and no procedure is left
abbrev pub is_finished : Setting → Stand → Bool
is_finished d s = none_open s.goals && nat_le (length d.program.procedures) s.begun
