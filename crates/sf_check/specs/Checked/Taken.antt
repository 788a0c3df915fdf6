-- The stand after tags as a function, which the code computes.
-- Ordinary: a list's elements in turn.
use Rattle.std.specs.Prelude.{ℕ, suc, ◌==◌, Bool, false, cond, Option, Some, None, List, [], ◌∷◌, ◌++◌}
use Rattle.std.specs.List.{slice_get}
use Rattle.std.specs.Option.{option_and_then, option_map}
use Rattle.sf_core.specs.Program.Syntax.{Procedure}
use Rattle.sf_sym.specs.declared.tag.Tag.{Tag}
use Rattle.sf_sym.specs.declared.tag.Tag.TheVariants.{Procedure as Begin}
use Rattle.sf_sym.specs.Goal.{Goal}
use Rattle.sf_rules.specs.Checked.Rows.Whole.{row}
use Rattle.sf_rules.specs.First.{first_goal}
use Rattle.sf_rules.specs.Setting.{Setting}
use Rattle.sf_check.specs.Stand.{Stand}

-- the tag begins the procedure of that number
abbrev pub is_begin : ℕ → Tag → Bool
is_begin f (Begin g) = g.0 == f
is_begin f tag = false

-- with no goal open: the next procedure, which has that number, is begun by its tag and by no other
abbrev pub begin : Setting → (f : ℕ) → Option Procedure → Tag → Option Stand
begin d f None tag = None
begin d f (Some x) tag =
    cond (is_begin f tag)
    (Some (record { begun = suc f; goals = first_goal d (record { 0 = f }) x ∷ [] })) None

-- the same, or, with goals open, by a row at the first of them, whose children come before the
-- others
abbrev pub taken_at : Setting → (begun : ℕ) → List Goal → Tag → Option Stand
taken_at d f [] tag = begin d f (slice_get d.program.procedures f) tag
taken_at d f (goal ∷ goals) tag =
    option_map (λ children. record { begun = f; goals = children ++ goals }) (row d goal tag)

-- the stand after a tag; None where it can't be taken
abbrev pub taken : Setting → Stand → Tag → Option Stand
taken d s tag = taken_at d s.begun s.goals tag

-- the stand after tags, each taken in turn; None where one of them can't be
abbrev pub after : Setting → Stand → List Tag → Option Stand
after d s [] = Some s
after d s (tag ∷ tags) = option_and_then (λ t. after d t tags) (taken d s tag)
