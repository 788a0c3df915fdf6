-- Examples of the procedure that sets a resource up: tags prove the program of one that makes the cell which the
-- invariant asks for, so it is sound; of one that makes nothing they don't, in whatever order they come.
-- O'Hearn, "Resources, Concurrency and Local Reasoning" (2007), whose programs begin with such a part.
use Rattle.std.specs.Prelude.{List, [], ◌∷◌}
use Rattle.std.specs.List.{All}
use Rattle.sf_calls.specs.FirstBreach.{Conditions}
use Rattle.sf_core.specs.Assertions.Determined.{Determined}
use Rattle.sf_core.specs.Checked.Machine.SettingUp.{makes_its_cell, makes_nothing, set_up_by}
use Rattle.sf_core.specs.Machine.Sound.{IsSound}
use Rattle.sf_core.specs.Program.Formed.{IsFormed}
use Rattle.sf_precise.specs.Annotations.{annotations_in}
use Rattle.sf_rules.specs.Proving.{Proves}
use Rattle.sf_rules.specs.Setting.{IsSettingOf, Setting}
use Rattle.sf_sound.specs.Checked.Examples.{ExampleIsSound}
use Rattle.sf_sym.specs.declared.tag.Tag.{Tag}
use Rattle.sf_sym.specs.declared.tag.Tag.TheVariants as t

-- skip() { } and init() { v = new(); }, with resource lock (v) [v |->]: the tags of its proof
abbrev pub set_up_tags : List Tag
set_up_tags =
    t.Procedure (record { 0 = 0 }) ∷ t.Return ∷ t.End
    ∷ t.Procedure (record { 0 = 1 }) ∷ t.New ∷ t.Return ∷ t.Cell 1 ∷ t.End ∷ []

-- it keeps what the theorem asks of a program, the tags prove it by the rows of the whole table, and it is sound
abbrev pub SetUpIsSound : Type 0
SetUpIsSound = ExampleIsSound (set_up_by makes_its_cell) set_up_tags

-- with init() { } in its place it keeps all that too. But where it starts fresh, `init` is at its return and there is no
-- cell for the invariant: so it isn't sound, and no tags prove it
pub record UnmetInvariantsHaveNoProof : Type 0 where
  pub formed : IsFormed (set_up_by makes_nothing)
  pub conditions : Conditions (set_up_by makes_nothing)
  pub determined : All (λ a. Determined a.level) (annotations_in (set_up_by makes_nothing))
  pub setting : Setting
  pub own_setting : IsSettingOf (set_up_by makes_nothing) setting
  pub unsound : ¬ (IsSound (set_up_by makes_nothing))
  pub unproved : (d : Setting) (tags : List Tag) → IsSettingOf (set_up_by makes_nothing) d → ¬ (Proves d tags)
