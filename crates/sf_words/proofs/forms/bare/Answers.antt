use Rattle.std.proofs.Common.{rules, ap, ap₂, ◌≡◌, ◌∙◌}
use Rattle.clap.specs.Words.{App, app_of, rule_of, with_rule, with_subcommand}
use Rattle.sf_words.specs.Checked.Forms.{bare_form, operands_rule}
use Rattle.sf_words.proofs.forms.bare.Goals as goal

pub returns : goal.returns
returns c =
    let operands_are : rule_of c.action-operands.result ≡ operands_rule = search rules in
    let form_is : app_of c.in_ok-command.command ≡ bare_form c.args.name.now = c.in_ok-command.ensures.shape (search rules)
    ∙ ap₂ with_rule c.new-2.ensures.app operands_are in
    λ old new adds. adds.shape (search rules) ∙ ap (λ (a : App). with_subcommand (app_of old) a.top) form_is
