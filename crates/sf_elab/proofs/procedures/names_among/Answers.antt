use Rattle.sf_elab.proofs.Names.Among.{among_more}
use Rattle.sf_elab.proofs.procedures.names_among.Goals as goal

pub loop-word-preserved : goal.loop-word-preserved
loop-word-preserved c = λ name.
    among_more c.args.bytes.now c.args.words.now c.loop-word.word-index c.loop-word.found c.declare.new.table (record { start = 0; end = 0; place = record { line = 0; column = 0 } }) c.loop-word-test.true c.in_ok-declare.ensures name _ (c.loop-word.invariant name)
