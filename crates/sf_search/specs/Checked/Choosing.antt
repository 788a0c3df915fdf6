-- The strategy at a goal by what is known, before what is in front decides, and at commands.
-- Ordinary: one case a case.
use Rattle.std.specs.Prelude.{List, [], ◌∷◌}
use Rattle.std.specs.Option.{option_map}
use Rattle.sf_core.specs.declared.command.Command.{Command}
use Rattle.sf_core.specs.Program.View.{command_of}
use Rattle.sf_sym.specs.declared.tag.Tag.TheVariants as t
use Rattle.sf_sym.specs.Known.{is_nothing}
use Rattle.sf_sym.specs.State.{State}
use Rattle.sf_sym.specs.Tests.{is_absurd}
use Rattle.sf_search.specs.declared.choices.choice.Choice.{Choice}
use Rattle.sf_search.specs.declared.choices.choice.Choice.TheVariants.{Takes as takes}
use Rattle.sf_search.specs.Strategy.{lowest, lowest_forced, or_else, which}
use Rattle.sf_search.specs.Checked.Chooses.{at_command, takes_if}

-- by what is known, and else that
abbrev pub at_state : State → Choice → Choice
at_state s c =
    or_else (takes_if (is_absurd s) t.Absurd)
    (or_else (option_map (λ f. takes (t.Drop f.0)) (lowest (which is_nothing) s.atoms))
    (or_else (option_map (λ f. takes (t.Force f.0)) (lowest_forced s s.atoms)) c))

-- at commands: the first one decides
abbrev pub at_first : State → List Command → Choice
at_first s [] = takes t.End
at_first s (c ∷ cs) = at_command s (command_of c)
