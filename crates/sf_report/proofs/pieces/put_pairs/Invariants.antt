use Rattle.std.proofs.Common.{◌≡◌, ◌++◌, codes, drop}
use Rattle.sf_report.specs.Pieces.{joined, pair_text}
use Rattle.sf_report.proofs.pieces.put_pairs.Given as goal

abbrev pub invariant-loop-pair : goal.invariant-loop-pair
invariant-loop-pair l =
    l.initial.text.items ++ joined (pair_text) (codes " ") (codes ", ") l.pairs
    ≡ l.text.items ++ joined (pair_text) l.before (codes ", ") (drop l.pair-index l.pairs)
