use Rattle.std.proofs.Common.{◌∙◌, ◌<◌, rules, length, ap, subst}
use Rattle.sf_heap.specs.Checked.Entries.{Rises}
use Rattle.sf_heap.specs.Checked.Moves.{AreApart}
use Rattle.sf_heap.specs.Checked.Trees.{entries_of}
use Rattle.sf_heap.proofs.Forks.{Rises-left, Rises-put, Rises-right, shorter}
use Rattle.sf_heap.proofs.Merges.{poured-absent, poured-all, poured-left, poured-right}
use Rattle.sf_heap.proofs.moves.+poured.Goals as goal

-- first the cells below
pub poured-into-requires : goal.poured-into-requires
poured-into-requires t c =
    let is = ap entries_of c.in-Fork.is ∙ c.opened-below.ensures.entries in
    let rises = subst Rises is c.requires.from_rises in
    let apart = subst (AreApart (entries_of c.args.into)) is c.requires.apart in
    let smaller : length (entries_of c.opened-below.result.0) < length (entries_of c.args.from) =
    (shorter _ _ _ _ is).0 in
    (search rules, (Rises-left _ _ _ rises, (c.requires.into_rises, poured-left _ _ _ _ rises apart)))

-- then the node's own
pub add-requires-clause-absent : goal.add-requires-clause-absent
add-requires-clause-absent t c =
    let is = ap entries_of c.in-Fork.is ∙ c.opened-below.ensures.entries in
    let rises = subst Rises is c.requires.from_rises in
    let apart = subst (AreApart (entries_of c.args.into)) is c.requires.apart in
    poured-absent _ _ _ _ rises apart _ c.poured-into.ensures

-- then those above
pub poured-requires : goal.poured-requires
poured-requires t c =
    let is = ap entries_of c.in-Fork.is ∙ c.opened-below.ensures.entries in
    let rises = subst Rises is c.requires.from_rises in
    let apart = subst (AreApart (entries_of c.args.into)) is c.requires.apart in
    let smaller : length (entries_of c.opened-below.result.2) < length (entries_of c.args.from) =
    (shorter _ _ _ _ is).1 in (
      search rules,
      (
        Rises-right _ _ _ rises,
        (
          Rises-put _ _ _ c.add.ensures c.poured-into.ensures.rises,
          poured-right _ _ _ _ rises apart _ c.poured-into.ensures _ c.add.ensures,
        ),
      ),
    )

pub returns : goal.returns
returns t c =
    let is = ap entries_of c.in-Fork.is ∙ c.opened-below.ensures.entries in
    let rises = subst Rises is c.requires.from_rises in
    let apart = subst (AreApart (entries_of c.args.into)) is c.requires.apart in
    rw is (poured-all _ _ _ _ rises apart _ c.poured-into.ensures _ c.add.ensures _ c.poured.ensures)
