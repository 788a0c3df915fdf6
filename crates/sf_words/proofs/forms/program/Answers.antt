use Rattle.std.proofs.Common.{ap, codes, true, ◌≡◌, ◌∙◌}
use Rattle.clap.specs.Simple.{app_of_fields, on_top}
use Rattle.clap.specs.Words.{App, Shape, app_of, new_app, with_subcommand}
use Rattle.sf_words.specs.Checked.Forms.{bare_form, run_form, silent, verify_form}
use Rattle.sf_words.proofs.forms.program.Goals as goal

pub returns : goal.returns
returns c =
    let named : app_of c.no_binary_name.result ≡ on_top (λ (s : Shape). record s { no_binary_name = true }) (app_of c.new.result) = ap app_of_fields c.no_binary_name.ensures in
    let flag : app_of c.disable_help_flag.result ≡ on_top (λ (s : Shape). record s { disable_help_flag = true }) (app_of c.no_binary_name.result) = ap app_of_fields c.disable_help_flag.ensures in
    let help : app_of c.disable_help_subcommand.result ≡ on_top (λ (s : Shape). record s { disable_help_subcommand = true }) (app_of c.disable_help_flag.result) = ap app_of_fields c.disable_help_subcommand.ensures in
    let version : app_of c.disable_version_flag.result ≡ on_top (λ (s : Shape). record s { disable_version_flag = true }) (app_of c.disable_help_subcommand.result) = ap app_of_fields c.disable_version_flag.ensures in
    let required : app_of c.subcommand_required-program.result ≡ on_top (λ (s : Shape). record s { subcommand_required = true }) (app_of c.disable_version_flag.result) = ap app_of_fields c.subcommand_required-program.ensures in
    let start_is : app_of c.subcommand_required-program.result ≡ on_top silent (new_app (codes "smallfoot")) = required
    ∙ ap (on_top (λ (s : Shape). record s { subcommand_required = true })) (version
    ∙ ap (on_top (λ (s : Shape). record s { disable_version_flag = true })) (help
    ∙ ap (on_top (λ (s : Shape). record s { disable_help_subcommand = true })) (flag
    ∙ ap (on_top (λ (s : Shape). record s { disable_help_flag = true })) (named
    ∙ ap (on_top (λ (s : Shape). record s { no_binary_name = true })) c.new.ensures.app)))) in
    let one_is = c.in_ok-verify.ensures _ _ c.in_ok-one.ensures ∙ ap (λ (a : App). with_subcommand a verify_form.top) start_is in
    let two_is = c.in_ok-recheck.ensures _ _ c.in_ok-two.ensures ∙ ap (λ (a : App). with_subcommand a (bare_form (codes "recheck")).top) one_is in
    let three_is = c.in_ok-run.ensures _ _ c.in_ok-three.ensures ∙ ap (λ (a : App). with_subcommand a (run_form (codes "run")).top) two_is in
    let four_is = c.in_ok-demo.ensures _ _ c.in_ok-four.ensures ∙ ap (λ (a : App). with_subcommand a (bare_form (codes "demo")).top) three_is in
    let five_is = c.in_ok-order.ensures _ _ c.in_ok-five.ensures ∙ ap (λ (a : App). with_subcommand a (bare_form (codes "order")).top) four_is in
    let six_is = c.in_ok-replay.ensures _ _ c.in_ok-six.ensures ∙ ap (λ (a : App). with_subcommand a (bare_form (codes "replay")).top) five_is in
    let seven_is = c.in_ok-witness.ensures _ _ c.in_ok-seven.ensures ∙ ap (λ (a : App). with_subcommand a (bare_form (codes "witness")).top) six_is in
    c.in_ok-journal.ensures _ _ c.in_ok-all.ensures ∙ ap (λ (a : App). with_subcommand a (run_form (codes "journal")).top) seven_is
