use Rattle.std.proofs.Common.{◌∙◌, ◌++◌, ℕ, List, ap, codes, decimal}
use Rattle.std.proofs.lemmas.List.{append_assoc}
use Rattle.sf_cli.specs.DemoText.{count_text}
use Rattle.sf_cli.proofs.demo.put_size.Goals as goal

pub returns : goal.returns
returns c =
    let bytes = decimal c.args.bytes in
    let word = codes " procedures, " in
    c.in_ok-put_number.ensures ∙ ap (λ (z : List ℕ). z ++ word ++ bytes) c.in_ok-put_count.ensures
    ∙ append_assoc (c.args.text.now.items ++ count_text c.args.procedures) word bytes
    ∙ append_assoc c.args.text.now.items (count_text c.args.procedures) (word ++ bytes)
