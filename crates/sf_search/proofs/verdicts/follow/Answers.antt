use Rattle.std.proofs.Common.{is_some, ap, sym, ◌∙◌}
use Rattle.sf_search.proofs.verdicts.follow.Goals as goal

-- the tag has a row
pub unreachable-requires : goal.unreachable-requires
unreachable-requires g c =
    let none = c.in-Err-NotARule.ensures.no_row c.in-Err-NotARule.field-0-is in
    let some = c.requires.1.1 in
    absurd (let both = sym some ∙ ap is_some none in cc)
