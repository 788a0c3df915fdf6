use Rattle.std.proofs.Common.{◌≡◌, ◌++◌, drop}
use Rattle.sf_page.specs.Markup.{numbers_text}
use Rattle.sf_page.proofs.bytes.put_numbers.Given as goal

abbrev pub invariant-loop-number : goal.invariant-loop-number
invariant-loop-number l =
    l.initial.bytes.items ++ numbers_text l.numbers ≡ l.bytes.items ++ numbers_text (drop l.number-index l.numbers)
