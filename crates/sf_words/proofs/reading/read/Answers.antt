use Rattle.std.proofs.Common.{◌∙◌, ap, inr, refl, rules, sym}
use Rattle.sf_words.proofs.Answered.{answer-met, answer-refused}
use Rattle.sf_words.proofs.Bundles.{bundle-none}
use Rattle.sf_words.proofs.Ranges.{range-read}
use Rattle.sf_words.specs.Checked.Found.{met_order}
use Rattle.sf_words.specs.WordsOf.{words_of}
use Rattle.sf_words.proofs.reading.read.Goals as goal

pub returns-then-has_bundle-clause-order : goal.returns-then-has_bundle-clause-order
returns-then-has_bundle-clause-order c = inr (refl, bundle-none (words_of c.args.words.now) (sym c.if-has_bundle.ensures))

pub returns-in_err-matches-clause-order : goal.returns-in_err-matches-clause-order
returns-in_err-matches-clause-order c =
    let h = answer-refused (words_of c.args.words.now) c.if-has_blank.ensures c.if-has_bundle.ensures c.in_err-matches.field-0.0 c.in_err-matches.ensures.fault in
    search (rules, h)

pub returns-clause-order : goal.returns-clause-order
returns-clause-order c =
    answer-met (words_of c.args.words.now) c.if-has_blank.ensures c.if-has_bundle.ensures c.met.result c.ok_or.result c.ok_or.ensures.value c.in_ok-matches.ensures.fits
    (c.met.ensures ∙ ap met_order c.in_ok-matches.ensures.met)

pub returns-clause-numbers : goal.returns-clause-numbers
returns-clause-numbers c = range-read (words_of c.args.words.now) c.ok_or.result (returns-clause-order c)
