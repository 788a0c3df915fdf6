use Rattle.std.proofs.Common.{◌≡◌, ◌↔◌, ◌+◌, true, subst, sym, arith}
use Rattle.std.specs.Prelude.{List}
use Rattle.sf_frame.specs.declared.spot.Spot.{Spot}
use Rattle.sf_frame.specs.Frames.{frame_of}
use Rattle.sf_frame.specs.Stores.{is_among}
use Rattle.sf_part.specs.Checked.Children.{IsOwnSlot}
use Rattle.sf_part.proofs.Named.{among-own}
use Rattle.sf_part.proofs.children.own_spots.Goals as goal

pub loop-i-preserved : goal.loop-i-preserved
loop-i-preserved c = λ slot. subst (λ (z : List Spot). (is_among z slot ≡ true)
    ↔ IsOwnSlot (frame_of c.args.frame.now) (c.loop-i.i + 1) slot)
    (sym c.in_ok-push.ensures.items)
    (among-own (frame_of c.args.frame.now) c.loop-i.i c.loop-i.spots.items c.spot.result
    c.spot.ensures c.loop-i.invariant slot)

pub returns : goal.returns
returns c = λ slot.
    let same : c.loop-i.i ≡ c.args.count = omega arith in
    subst (λ n. (is_among c.loop-i.spots.items slot ≡ true)
    ↔ IsOwnSlot (frame_of c.args.frame.now) n slot) same (c.loop-i.invariant slot)
