use Rattle.std.proofs.Common.{◌≡◌, ◌↔◌, ◌⊎◌, ◌+◌, true, take, subst, sym}
use Rattle.std.specs.Prelude.{List}
use Rattle.std.proofs.lemmas.List.{take_all}
use Rattle.sf_frame.specs.declared.spot.Spot.{Spot}
use Rattle.sf_frame.specs.Frames.{frame_of}
use Rattle.sf_frame.specs.Stores.{is_among}
use Rattle.sf_part.specs.Checked.Children.{IsSlotOf}
use Rattle.sf_part.proofs.Named.{among-turn}
use Rattle.sf_part.proofs.children.add_spots.Goals as goal

pub loop-x-preserved : goal.loop-x-preserved
loop-x-preserved c = λ slot. subst (λ (z : List Spot). (is_among z slot ≡ true)
    ↔ (is_among c.args.spots.now.items slot ≡ true)
    ⊎ IsSlotOf (frame_of c.args.frame.now) (take (c.loop-x.x-index + 1) c.args.xs.now) slot)
    (sym c.in_ok-push.ensures.items)
    (among-turn (frame_of c.args.frame.now) c.args.xs.now c.loop-x.x-index _ c.loop-x-test.true
    c.args.spots.now.items c.loop-x.spots.items c.spot.result c.spot.ensures c.loop-x.invariant
    slot)

pub returns : goal.returns
returns c = λ slot.
    subst (λ z. (is_among c.loop-x.spots.items slot ≡ true)
    ↔ (is_among c.args.spots.now.items slot ≡ true)
    ⊎ IsSlotOf (frame_of c.args.frame.now) z slot)
    (take_all c.loop-x.x-index c.args.xs.now c.loop-x-test.false) (c.loop-x.invariant slot)
