use Rattle.std.proofs.Common.{sym, ap, ◌∙◌, map}
use Rattle.std.proofs.lemmas.List.{take_all}
use Rattle.sf_core.specs.Program.Syntax.{level}
use Rattle.sf_core.specs.Program.View.{conjunct_of, conjuncts}
use Rattle.sf_sym.proofs.Conjuncts.{level_of-out, level_of-roll, points_copied}
use Rattle.sf_sym.proofs.copy.+copies.Goals as goal

pub copy_conjuncts-returns : goal.copy_conjuncts-returns
copy_conjuncts-returns t c =
    c.loop-c.invariant ∙ ap (map conjunct_of) (take_all c.loop-c.c-index c.args.from.now c.loop-c-test.false)

pub copy_level-returns : goal.copy_level-returns
copy_level-returns t c =
    level_of-roll _
    ∙ ap (level c.args.level.now.made)
    (ap conjuncts c.in_ok-copy_conjuncts.ensures
    ∙ ap (λ xs. conjuncts (map conjunct_of xs)) c.deref.ensures.value)
    ∙ sym (level_of-out c.args.level.now)

pub copy_conjunct-returns-in_ok-fields-in-Points : goal.copy_conjunct-returns-in_ok-fields-in-Points
copy_conjunct-returns-in_ok-fields-in-Points t c =
    points_copied c.args.c.now c.in-Points.place c.in-Points.root c.in-Points.fields
    c.in_ok-fields-in-Points.fields c.in-Points.is
    (c.in_ok-fields-in-Points.ensures.items ∙ c.deref.ensures.value)
