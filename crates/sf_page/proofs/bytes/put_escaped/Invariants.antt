use Rattle.std.proofs.Common.{◌≡◌, ◌++◌, drop}
use Rattle.sf_page.specs.Escaped.{escaped}
use Rattle.sf_page.proofs.bytes.put_escaped.Given as goal

abbrev pub invariant-loop-byte : goal.invariant-loop-byte
invariant-loop-byte l =
    l.initial.bytes.items ++ escaped l.text ≡ l.bytes.items ++ escaped (drop l.byte-index l.text)
