use Rattle.std.proofs.Common.{◌≡◌, ◌<◌, length, subst, sym}
use Rattle.std.proofs.lemmas.Result.{IfErr-weaker, IfOk-weaker}
use Rattle.std.specs.List.{slice_get}
use Rattle.sf_rules.specs.First.{first_goal}
use Rattle.sf_search.specs.Checked.Judging.{at_index, setting_length, some_at}
use Rattle.sf_search.proofs.Leading.{some_weaker}
use Rattle.sf_rules.specs.Checked.LawsOfShape.{IsSetUp}
use Rattle.sf_search.specs.Checked.ShapeLaws.{ArrangedIsSetUp, GoalsHaveShape, KeepsShape}
use Rattle.sf_search.specs.Ends.{EndsAs}
use Rattle.sf_search.specs.Judge.{Search, proved}
use Rattle.sf_sym.specs.Goal.{goal_of}
use Rattle.sf_search.proofs.verdicts.search.Goals as goal

-- the first goal is that of a procedure of a program, so all to which the search comes have their shape
pub search_from-requires : goal.search_from-requires
unfolding ArrangedIsSetUp GoalsHaveShape
search_from-requires g c =
    let setting = c.requires.1.0 in
    let up : IsSetUp g.d =
    subst IsSetUp (sym setting) (c.arranged_is_set_up.ensures g.d.ordered c.args.arranged.now c.requires.0) in
    let within : c.args.f.0 < length g.d.program.procedures =
    subst (λ n. c.args.f.0 < n) (sym (setting_length g.d c.args.arranged.now setting)) c.requires.1.1 in
    let here = at_index g.d.program.procedures c.args.f.0 within in
    let shape : KeepsShape g.d (goal_of c.in_ok-first.first) =
    subst (KeepsShape g.d)
    (sym (some_at (λ h. goal_of c.in_ok-first.first ≡ first_goal g.d c.args.f h)
    (slice_get g.d.program.procedures c.args.f.0) here.0 here.1 c.in_ok-first.ensures))
    (c.goals_have_shape.ensures g.d up c.args.f here.0 here.1) in
    (c.requires.0, (setting, shape))

pub returns-clause-ok : goal.returns-clause-ok
returns-clause-ok g c =
    IfOk-weaker c.search_from.result _ _
    (λ tags s. some_weaker (λ h. goal_of c.in_ok-first.first ≡ first_goal g.d c.args.f h)
    (λ h. Search g.d (first_goal g.d c.args.f h) tags.items proved) (slice_get g.d.program.procedures c.args.f.0)
    (λ h e. subst (λ z. Search g.d z tags.items proved) e s) c.in_ok-first.ensures) c.search_from.ensures.ok

pub returns-clause-err : goal.returns-clause-err
returns-clause-err g c =
    IfErr-weaker c.search_from.result _ _
    (λ fault s. some_weaker (λ h. goal_of c.in_ok-first.first ≡ first_goal g.d c.args.f h)
    (λ h. EndsAs g.d (first_goal g.d c.args.f h) fault) (slice_get g.d.program.procedures c.args.f.0)
    (λ h e. subst (λ z. EndsAs g.d z fault) e s) c.in_ok-first.ensures) c.search_from.ensures.err
