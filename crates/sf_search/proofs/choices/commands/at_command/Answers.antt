use Rattle.std.proofs.Common.{ap, sym, ◌∙◌}
use Rattle.sf_core.specs.Program.View.{command_of}
use Rattle.sf_search.proofs.Views.{dispose_view, if_view, look_up_view, mutate_view}
use Rattle.sf_search.specs.declared.choices.choice.Choice.TheVariants.{Takes as takes}
use Rattle.sf_sym.specs.declared.stuck.Stuck.TheVariants.{NoCell as no_cell}
use Rattle.sf_search.specs.Checked.Chooses.{at_cell, at_command, at_test}
use Rattle.sf_sym.specs.declared.tag.Tag.TheVariants as t
use Rattle.sf_search.proofs.choices.commands.at_command.Goals as goal

pub returns-in-LookUp : goal.returns-in-LookUp
returns-in-LookUp c =
    c.at_look_up.ensures
    ∙ ap (λ u. at_cell c.args.state.now u (λ a. takes (t.Look a)) no_cell) c.term.ensures
    ∙ ap (at_command c.args.state.now) (sym (ap command_of c.in-LookUp.is ∙ look_up_view c.in-LookUp.field-0
    c.in-LookUp.field-1 c.in-LookUp.e c.in-LookUp.field-3))

pub returns-in-Mutate : goal.returns-in-Mutate
returns-in-Mutate c =
    c.at_mutation.ensures
    ∙ ap (λ u. at_cell c.args.state.now u (λ a. takes (t.Mutate a)) no_cell) c.term-in-Mutate.ensures
    ∙ ap (at_command c.args.state.now) (sym (ap command_of c.in-Mutate.is ∙ mutate_view c.in-Mutate.field-0
    c.in-Mutate.e c.in-Mutate.field-2 c.in-Mutate.field-3))

pub returns-in-Dispose : goal.returns-in-Dispose
returns-in-Dispose c =
    c.at_disposal.ensures
    ∙ ap (λ u. at_cell c.args.state.now u (λ a. takes (t.Dispose a)) no_cell) c.term-in-Dispose.ensures
    ∙ ap (at_command c.args.state.now) (sym (ap command_of c.in-Dispose.is ∙ dispose_view c.in-Dispose.field-0
    c.in-Dispose.e))

pub returns-in-If : goal.returns-in-If
returns-in-If c =
    c.at_test.ensures
    ∙ ap (at_test c.args.state.now) c.command_test.ensures
    ∙ ap (at_command c.args.state.now)
    (sym (ap command_of c.in-If.is ∙ if_view c.in-If.field-0 c.in-If.test c.in-If.field-2 c.in-If.field-3))
