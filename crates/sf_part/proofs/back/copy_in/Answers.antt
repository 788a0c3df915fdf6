use Rattle.sf_frame.specs.Stores.{store_of}
use Rattle.sf_part.proofs.Regained.{three-of}
use Rattle.sf_part.proofs.back.copy_in.Goals as goal

pub returns-clause-ok : goal.returns-clause-ok
returns-clause-ok c = three-of (store_of c.join.new.self) (store_of c.in_ok-both.both)
    (store_of c.args.store.now) (store_of c.args.left.now) (store_of c.args.right.now)
    c.in_ok-both.ensures c.in_default.ensures.ok
