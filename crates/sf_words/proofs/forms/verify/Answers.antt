use Rattle.std.proofs.Common.{rules, ap, ap₂, codes, ◌≡◌, ◌∙◌}
use Rattle.clap.specs.Words.{App, app_of, rule_of, with_rule, with_subcommand}
use Rattle.sf_words.specs.Checked.Forms.{bare_form, operands_rule, option_rule, verify_form}
use Rattle.sf_words.proofs.forms.verify.Goals as goal

pub returns : goal.returns
returns c =
    let operands_are : rule_of c.action-operands.result ≡ operands_rule = search rules in
    let workers_is : rule_of c.action-workers.result ≡ option_rule (codes "workers") = search rules in
    let bare_is : app_of c.in_ok-bare.bare ≡ bare_form (codes "verify") = c.in_ok-bare.ensures.shape (search rules)
    ∙ ap₂ with_rule c.new-3.ensures.app operands_are in
    let form_is : app_of c.in_ok-command.command ≡ verify_form = c.in_ok-command.ensures.shape (search rules)
    ∙ ap₂ with_rule bare_is workers_is in
    λ old new adds. adds.shape (search rules) ∙ ap (λ (a : App). with_subcommand (app_of old) a.top) form_is
