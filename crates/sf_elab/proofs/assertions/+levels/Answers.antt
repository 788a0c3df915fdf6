use Rattle.std.proofs.Common.{rules, map}
use Rattle.sf_elab.specs.Annotations.Flat.{flats, flat_of}
use Rattle.sf_elab.proofs.Annotations.Scopes.{level_left}
use Rattle.sf_elab.proofs.assertions.+levels.Goals as goal

pub level-returns-clause-levels : goal.level-returns-clause-levels
level-returns-clause-levels t c =
    level_left c.args.env.now.bytes.now c.args.levels.now c.enter.new.self c.conjuncts.new.levels (flats (map flat_of c.args.all.now)) c.len-outside.result c.truncate.new.self (search rules) (search rules) (search rules) (search rules)
