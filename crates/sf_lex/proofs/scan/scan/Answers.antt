use Rattle.sf_lex.proofs.Steps.{step_so, within_so, bound_so, line_bound, column_bound}
use Rattle.sf_lex.proofs.scan.scan.Goals as goal

pub place_behind-place-requires-clause-line : goal.place_behind-place-requires-clause-line
place_behind-place-requires-clause-line c =
    bound_so c.args.bytes.now c.loop-start.start c.bytes_of.result c.loop-start.place.line c.requires
    (within_so c.args.bytes.now c.from_index.result.now c.loop-start.start c.bytes_of.result c.in_ok-lexeme.lexeme c.loop-start.invariant.within c.from_index.ensures c.in_ok-lexeme.ensures c.bytes_of.ensures)
    (line_bound c.args.bytes.now c.loop-start.start c.loop-start.place c.loop-start.found.items c.loop-start.invariant.read)

pub place_behind-place-requires-clause-column : goal.place_behind-place-requires-clause-column
place_behind-place-requires-clause-column c =
    bound_so c.args.bytes.now c.loop-start.start c.bytes_of.result c.loop-start.place.column c.requires
    (within_so c.args.bytes.now c.from_index.result.now c.loop-start.start c.bytes_of.result c.in_ok-lexeme.lexeme c.loop-start.invariant.within c.from_index.ensures c.in_ok-lexeme.ensures c.bytes_of.ensures)
    (column_bound c.args.bytes.now c.loop-start.start c.loop-start.place c.loop-start.found.items c.loop-start.invariant.read)

pub loop-start-preserved : goal.loop-start-preserved
loop-start-preserved c = record {
  read =
      step_so c.args.bytes.now c.from_index.result.now c.loop-start.start c.bytes_of.result c.loop-start.place c.place_behind-place.result c.loop-start.found.items c.keep.new.found.items c.in_ok-lexeme.lexeme
      c.loop-start.invariant.read c.from_index.ensures c.in_ok-lexeme.ensures c.bytes_of.ensures c.place_behind-place.ensures c.in-Ok.ensures;
  within = within_so c.args.bytes.now c.from_index.result.now c.loop-start.start c.bytes_of.result c.in_ok-lexeme.lexeme c.loop-start.invariant.within c.from_index.ensures c.in_ok-lexeme.ensures c.bytes_of.ensures;
}
