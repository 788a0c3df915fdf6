use Rattle.std.proofs.Common.{ap, sym, ◌∙◌, ◌∷◌, [], ◌+◌, drop, arith}
use Rattle.sf_lines.specs.Lines.{lines}
use Rattle.sf_lines.proofs.Splitting.{first_line, last_line}
use Rattle.sf_lines.proofs.lines.next_line.Goals as goal

pub returns-then-end-text-clause-lines : goal.returns-then-end-text-clause-lines
returns-then-end-text-clause-lines c =
    last_line c.args.text.now c.bytes_before-end.result c.bytes_before-end.ensures.length c.if-end-text.true
    ∙ ap (λ line. line ∷ []) (sym c.without_return.ensures)

pub returns-clause-lines : goal.returns-clause-lines
returns-clause-lines c =
    first_line c.args.text.now c.bytes_before-end.result c.bytes_before-end.ensures.length (omega arith)
    ∙ ap (λ line. line ∷ lines (drop (c.bytes_before-end.result + 1) c.args.text.now)) (sym c.without_return-2.ensures)
    ∙ ap (λ rest. c.without_return-2.result.now ∷ lines rest) (sym c.from_index.ensures)
