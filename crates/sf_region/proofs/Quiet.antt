-- That a task whose clock is as it was had no event: the law of src/laws.rt.
use Rattle.sf_region.proofs.Waits.{no-event}
use Rattle.sf_region.specs.Checked.Laws.{StillClocksHaveNoEvent}

pub still_clocks_have_no_event : StillClocksHaveNoEvent
unfolding StillClocksHaveNoEvent
still_clocks_have_no_event p a b marks adv same = (no-event p a b marks adv same).0
