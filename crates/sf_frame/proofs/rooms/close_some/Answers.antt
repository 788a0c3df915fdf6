use Rattle.std.proofs.Common.{◌∙◌, sym, ap, cond, None}
use Rattle.sf_base.specs.HeapStore.{same_slot}
use Rattle.sf_frame.specs.declared.spot.Spot.{Spot}
use Rattle.sf_frame.specs.Spots.{slot_of}
use Rattle.sf_frame.specs.Stores.{store_of}
use Rattle.sf_frame.proofs.Opened.{closed_next, room_empty, room_next}
use Rattle.sf_frame.proofs.rooms.close_some.Goals as goal

pub loop-i-init : goal.loop-i-init
loop-i-init c = λ slot.
    ap (λ b. cond b None (store_of c.args.store.now slot))
    (sym (room_empty c.args.room.event c.args.room.first slot))

pub loop-i-preserved : goal.loop-i-preserved
loop-i-preserved c = λ slot.
    c.take.ensures slot
    ∙ ap (λ (s : Spot). cond (same_slot slot (slot_of s)) None (store_of c.loop-i.store slot)) c.spot.ensures
    ∙ closed_next _ _ _ _ _ (room_next c.args.room.event c.args.room.first c.loop-i.i slot)
    (c.loop-i.invariant slot)
