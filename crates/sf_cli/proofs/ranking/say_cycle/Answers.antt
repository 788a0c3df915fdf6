use Rattle.std.proofs.Common.{refl}
use Rattle.sf_cli.specs.Ranked.{in_cycle}
use Rattle.sf_cli.proofs.ranking.say_cycle.Goals as goal

pub returns : goal.returns
returns c =
    in_cycle c.args.cycle.now c.requires
    (rw (
      c.in_ok-put.ensures,
      c.in_ok-put_again.ensures,
      c.in_ok-put_words.ensures,
      c.in_ok-text.ensures.items,
      c.as_slice.ensures,
      c.as_slice-2.ensures,
    ) refl) refl
