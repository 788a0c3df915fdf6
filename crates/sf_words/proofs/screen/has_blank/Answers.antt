use Rattle.std.proofs.Common.{sym}
use Rattle.sf_words.proofs.Screening.{blank-step}
use Rattle.sf_words.proofs.screen.has_blank.Goals as goal

pub returns-then-is_blank : goal.returns-then-is_blank
returns-then-is_blank c = sym (blank-step c.args.words.now c.loop-word.word-index _ _ c.loop-word-test.true c.if-is_blank.ensures c.loop-word.invariant)

pub loop-word-preserved : goal.loop-word-preserved
loop-word-preserved c = blank-step c.args.words.now c.loop-word.word-index _ _ c.loop-word-test.true c.if-is_blank.ensures c.loop-word.invariant
