use Rattle.std.proofs.Common.{◌≡◌, ◌⊎◌, List, None, map, subst}
use Rattle.sf_machine.specs.Configs.{config_of}
use Rattle.sf_replay.proofs.Kept.{found-after}
use Rattle.sf_replay.specs.Checked.Keeping.{AreStillFine}
use Rattle.sf_replay.specs.Checked.Looks.{found_in, seen_of}
use Rattle.sf_replay.specs.declared.look.Look.{Look}
use Rattle.sf_replay.proofs.replaying.look_again.Goals as goal

pub returns-clause-found : goal.returns-clause-found
returns-clause-found c = λ d was fine.
    let found = c.found_after-found.result in
    let number = c.args.number in
    let old = c.args.known.now.items in
    let next = c.deref-2.result.now in
    let one = subst (λ (z : List Look). (found ≡ found_in number (map seen_of next))
    ⊎ ((found ≡ None) × AreStillFine (map seen_of z) (map seen_of next) (map seen_of next))) c.deref.ensures.value
    c.found_after-found.ensures in
    let two = subst (λ (z : List Look). (found ≡ found_in number (map seen_of z))
    ⊎ ((found ≡ None) × AreStillFine (map seen_of old) (map seen_of z) (map seen_of z))) c.deref-2.ensures.value one in
    found-after d (config_of c.args.c.now) (map seen_of old) (map seen_of c.in_ok-now.now.items) was c.in_ok-now.ensures
    fine number found two
