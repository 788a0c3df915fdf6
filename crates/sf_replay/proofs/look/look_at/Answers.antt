use Rattle.std.proofs.Common.{map}
use Rattle.sf_machine.specs.Configs.{config_of}
use Rattle.sf_replay.proofs.Firsts.{looks-end}
use Rattle.sf_replay.specs.Checked.Looks.{seen_of}
use Rattle.sf_replay.proofs.look.look_at.Goals as goal

pub returns : goal.returns
returns c = looks-end (config_of c.args.c.now) c.args.paths.now c.paths.left.now (map seen_of c.paths.looks.items)
    c.in_default.ensures.cases c.paths.invariant
