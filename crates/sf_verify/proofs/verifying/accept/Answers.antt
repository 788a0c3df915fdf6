use Rattle.sf_search.specs.Checked.Laws.{TakenTagsProve}
use Rattle.sf_verify.proofs.verifying.accept.Goals as goal

-- the tags of a verdict prove the program, so the checker accepts them
pub unreachable-requires : goal.unreachable-requires
unfolding TakenTagsProve
unreachable-requires g c =
    let proves = c.taken_tags_prove.ensures g.d c.args.tags.items c.requires.1.1 in
    let none = c.in-Err-Refused.ensures.only_proved proves in
    let is = c.in-Err-Refused.field-0-is in
    cc
