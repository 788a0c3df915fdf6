-- The law: a start is owned, each event keeps what is owned, and what is owned is good.
-- Names: the laws'.
use Rattle.sf_safe.specs.Checked.Law.{SafeProgramsAreSound}
use Rattle.sf_safe.specs.Checked.LawsOfShares.{ReachedIsOwned}
use Rattle.sf_safe.proofs.GoodOwned.{good-owned}
use Rattle.sf_safe.proofs.Keeps.{reach-owned}
use Rattle.sf_safe.proofs.Starts.{entry, start-owned}

pub safe_programs_are_sound : SafeProgramsAreSound
unfolding SafeProgramsAreSound
safe_programs_are_sound p formed conditions bodies f store heap start reached events s r =
    let mine = entry p formed conditions f store heap start s in
    good-owned p formed 0 mine reached
    (reach-owned p formed bodies events 1 mine start reached
    (λ n. start-owned p formed conditions f store heap start s bodies n) r)

pub reached_is_owned : ReachedIsOwned
unfolding ReachedIsOwned
reached_is_owned p formed conditions bodies f store heap start reached events s r n =
    reach-owned p formed bodies events n (entry p formed conditions f store heap start s) start reached
    (λ m. start-owned p formed conditions f store heap start s bodies m) r
