use Rattle.std.proofs.Common.{ap, ◌∙◌, ◌<◌, length, sym, arith}
use Rattle.std.proofs.lemmas.Bool.Decides.{nat_tests}
use Rattle.sf_frame.specs.Spots.{slot_of}
use Rattle.sf_frame.proofs.Stacks.{own_slot_none, own_slot_some}
use Rattle.sf_frame.proofs.frame.Room.own_spot.Goals as goal

pub returns-in-Some : goal.returns-in-Some
returns-in-Some c =
    let found = c.in-Some.ensures.lookup in
    let is = found.0 in
    let below : c.args.i < length c.args.references.now = grind (arith, nat_tests) in
    sym (own_slot_some c.args.references.now c.args.self c.args.i c.in-Some.spot.now below found.1)

pub returns-in-None : goal.returns-in-None
returns-in-None c =
    let found = c.in-None.ensures.lookup in
    ap slot_of c.spot.ensures ∙ sym (own_slot_none c.args.references.now c.args.self c.args.i
    found.3)
