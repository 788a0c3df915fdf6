use Rattle.std.proofs.Common.{rules, map}
use Rattle.sf_elab.specs.Annotations.Flat.{flat_of}
use Rattle.sf_elab.proofs.Annotations.Flats.{flat_pushed}
use Rattle.sf_elab.proofs.flat.+flat.Goals as goal

pub add_all-loop-c-init : goal.add_all-loop-c-init
add_all-loop-c-init t c = flat_pushed (map flat_of c.args.done.now.items) (map flat_of c.add_conjunct.new.done.items) c.args.assertion.now (search rules)
