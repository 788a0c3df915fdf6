use Rattle.sf_frame.specs.Stores.{is_among, store_of}
use Rattle.sf_frame.proofs.Moves.{moved_parts}
use Rattle.sf_frame.proofs.store.Store.part_off.Goals as goal

pub returns-clause-parts : goal.returns-clause-parts
returns-clause-parts c =
    moved_parts (is_among c.args.slots.now) (store_of c.args.self.now) (store_of c.in_ok-part.part)
    (store_of c.clear.new.self) c.in_ok-part.ensures c.clear.ensures
