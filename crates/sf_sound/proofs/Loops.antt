-- What goals at a loop claim: from its invariant the loop runs, and what comes after it.
-- Names: `loop-claims`, `around-claims`.
use Rattle.std.proofs.Common.{◌≡◌, true, List, ◌∷◌, ◌++◌}
use Rattle.sf_base.proofs.HeapSplits.{star-drop_right}
use Rattle.sf_base.specs.declared.place.Place.{Place}
use Rattle.sf_core.specs.declared.assertion.Test.{Test}
use Rattle.sf_core.specs.declared.command.Expr.{Expr}
use Rattle.sf_core.specs.Program.Syntax.{Assertion, Block, while}
use Rattle.sf_rules.specs.Checked.LawsOfCommands.{before_command}
use Rattle.sf_rules.specs.Checked.Lemmas.Forms.{form-command, taking-showing}
use Rattle.sf_rules.specs.Setting.{Setting}
use Rattle.sf_rules.specs.Words.{pending_assertion, to_take}
use Rattle.sf_safe.specs.Checked.Local.{value_in}
use Rattle.sf_sound.proofs.Annotated.{usable-shown}
use Rattle.sf_sound.proofs.States.{terms-values}
use Rattle.sf_sound.proofs.Words.{showing-holds, taking-does, taking-suits}
use Rattle.sf_sound.specs.Checked.Suits.{Claim}
use Rattle.sf_sym.specs.Goal.{Item, head}
use Rattle.sf_sym.specs.Shape.{HasShape}
use Rattle.sf_sym.specs.State.{State, term}

-- the invariant is shown, and from it the loop runs
pub loop-claims : (d : Setting) (s : State) (q : Place) (t : Test Expr) (invariant : Assertion) (body : Block)
    (rest : List Item)
    → HasShape (before_command s (while q t invariant body) rest)
    → Claim d (record {
      state = s;
      todo = to_take q (term s.vars) (d.ordered invariant) ++ (head q t invariant body ∷ rest);
    })
    → Claim d (before_command s (while q t invariant body) rest)
loop-claims d s q t invariant body rest shape claim n w D l taken u has holds =
    let to = term s.vars in
    let a = d.ordered invariant in
    let p = pending_assertion to a in
    let after = head q t invariant body ∷ rest in
    let usable = u.todo.0.1 in
    let showing = taking-showing q p a.names after (form-command s (while q t invariant body) rest shape.form).0 in
    let shown = taking-does d.program n w q p a.names after l
    (claim n w D l taken
    (record { listed = u.listed; todo = taking-suits d D q p a.names after u.todo }) has
    (record {
      vars = holds.vars;
      apart = holds.apart;
      disjoint = holds.disjoint;
      there = showing-holds w (to_take q to a ++ after) l.cells showing (star-drop_right holds.there);
      gone = holds.gone;
    })) in
    shown.second shown.left l.cells
    (usable-shown d (λ x. D.has x ≡ true) invariant usable w to (value_in l) shown.left
    (terms-values d D s u.listed w l has holds.vars) shown.first) shown.splits
