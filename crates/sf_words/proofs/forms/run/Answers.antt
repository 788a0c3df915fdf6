use Rattle.std.proofs.Common.{rules, ap, ap₂, codes, ◌≡◌, ◌∙◌}
use Rattle.clap.specs.Words.{App, app_of, rule_of, with_rule, with_subcommand}
use Rattle.sf_words.specs.Checked.Forms.{bare_form, operands_rule, option_rule, run_form}
use Rattle.sf_words.proofs.forms.run.Goals as goal

pub returns : goal.returns
returns c =
    let operands_are : rule_of c.action-operands.result ≡ operands_rule = search rules in
    let steps_is : rule_of c.action-steps.result ≡ option_rule (codes "steps") = search rules in
    let waits_is : rule_of c.action-waits.result ≡ option_rule (codes "waits") = search rules in
    let bare_is : app_of c.in_ok-bare.bare ≡ bare_form c.args.name.now = c.in_ok-bare.ensures.shape (search rules)
    ∙ ap₂ with_rule c.new-4.ensures.app operands_are in
    let first_is : app_of c.in_ok-first.first ≡ with_rule (bare_form c.args.name.now) (option_rule (codes "steps")) = c.in_ok-first.ensures.shape (search rules)
    ∙ ap₂ with_rule bare_is steps_is in
    let form_is : app_of c.in_ok-command.command ≡ run_form c.args.name.now = c.in_ok-command.ensures.shape (search rules)
    ∙ ap₂ with_rule first_is waits_is in
    λ old new adds. adds.shape (search rules) ∙ ap (λ (a : App). with_subcommand (app_of old) a.top) form_is
