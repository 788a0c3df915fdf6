use Rattle.std.proofs.Common.{rules, ap, ◌∙◌}
use Rattle.std.specs.BTreeMap.{is_at}
use Rattle.std.specs.Map.{lookup}
use Rattle.std.specs.Map.Iter.{deref_pair}
use Rattle.std.proofs.lemmas.Map.Iter.{btree_map_turn, rest_more}
use Rattle.sf_frame.specs.contracts.spot.SpotOrd.TheImpl.Laws.{total-law}
use Rattle.sf_frame.specs.Spots.{spot_of, spots}
use Rattle.sf_frame.specs.Stores.{store_of}
use Rattle.sf_frame.proofs.Moves.{key_fits, key_slot, moved_done, moved_others}
use Rattle.sf_frame.proofs.store.Store.take_over.Goals as goal

pub put-requires : goal.put-requires
put-requires c =
    let k = btree_map_turn deref_pair c.loop-spot.yielded c.into_iter-spot-iterator.result
    c.loop-spot.spot-iterator
    c.next.new.self c.next.result (c.in-Some.spot, c.in-Some.value) c.loop-spot.yielded_by
    c.in-Some.is
    c.next.ensures.steps total-law c.args.other.now.values (search rules) (search rules) in
    key_fits c.args.other.now.values c.args.other.now.fit c.in-Some.spot.now c.in-Some.value.now k.1

pub loop-spot-preserved : goal.loop-spot-preserved
loop-spot-preserved c =
    let k = btree_map_turn deref_pair c.loop-spot.yielded c.into_iter-spot-iterator.result
    c.loop-spot.spot-iterator
    c.next.new.self c.next.result (c.in-Some.spot, c.in-Some.value) c.loop-spot.yielded_by
    c.in-Some.is
    c.next.ensures.steps total-law c.args.other.now.values (search rules) (search rules) in
    let there = key_slot c.args.other.now.values c.in-Some.spot.now c.in-Some.value.now k.1 in
    let first = rest_more deref_pair c.loop-spot.spot-iterator c.next.new.self c.next.result
    (c.in-Some.spot, c.in-Some.value) c.in-Some.is c.next.ensures.steps in
    record {
      done = λ slot.
          moved_done c.in-Some.spot.now c.in-Some.value.now c.next.new.self
          (store_of c.args.other.now)
          (store_of c.loop-spot.self) (store_of c.put.new.self)
          (store_of c.args.self.now) slot there
          (c.in_ok-put.ensures.ok slot)
          (λ h. c.loop-spot.invariant.done slot
          (ap (lookup (is_at (spots (spot_of slot)))) first ∙ h));
      others = λ slot.
          moved_others c.in-Some.spot.now c.in-Some.value.now (store_of c.args.other.now)
          (store_of c.loop-spot.self)
          (store_of c.put.new.self) (store_of c.args.self.now) slot there
          (c.in_ok-put.ensures.ok slot)
          (c.loop-spot.invariant.others slot);
    }
