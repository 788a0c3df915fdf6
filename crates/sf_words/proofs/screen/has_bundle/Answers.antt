use Rattle.std.proofs.Common.{sym}
use Rattle.sf_words.proofs.Screening.{bundle-end, bundle-more}
use Rattle.sf_words.proofs.screen.has_bundle.Goals as goal

pub returns-then-eq : goal.returns-then-eq
returns-then-eq c = bundle-end c.args.words.now c.loop-word.word-index _ c.loop-word-test.true c.if-eq.ensures c.loop-word.invariant

pub returns-then-is_bundle : goal.returns-then-is_bundle
returns-then-is_bundle c = sym (bundle-more c.args.words.now c.loop-word.word-index _ _ c.loop-word-test.true c.if-eq.ensures c.if-is_bundle.ensures c.loop-word.invariant)

pub loop-word-preserved : goal.loop-word-preserved
loop-word-preserved c = bundle-more c.args.words.now c.loop-word.word-index _ _ c.loop-word-test.true c.if-eq.ensures c.if-is_bundle.ensures c.loop-word.invariant
