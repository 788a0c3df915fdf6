use denote.Param.Send.{sendable, view_send}
use denote.Param.SendFields.{declared_send}
use Rattle.std.specs.contracts.option.Option as option
use Rattle.sf_part.specs.contracts.content.Content as content
use Rattle.sf_region.specs.contracts.regions.RegionSeat.TheInside as seat
use Rattle.sf_region.specs.contracts.views.View as view
use Rattle.sf_threads.proofs.Crossed.{seat_send}
use Rattle.sf_threads.proofs.crossing.seats_are_sent.Goals as goal

pub returns : goal.returns
returns c κ = view_send (seat.the_row κ) _ _ _ _ (declared_send (seat.the_type κ) (
  seat_send (option.the_row content.the_row) (view.the_row κ) c.contents_are_sent.ensures.sent,
  (
    search sendable depth 30,
    (search sendable depth 30, (search sendable depth 30, (search sendable depth 30, tt))),
  ),
))
