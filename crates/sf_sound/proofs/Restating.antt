-- What goals claim that other goals follow: goals with other terms of the same values, or with a conjunct assumed or
-- shown.
-- Names: `PART-with` of what other terms leave as it is, `restated-claims`, `assumed-claims`, `shown-claims`.
use Rattle.std.specs.List.{AllByRecursion}
use Rattle.std.proofs.Common.{◌≡◌, ℕ, true, List, [], ◌∷◌, map, sym, ◌∙◌, subst}
use Rattle.sf_base.proofs.HeapSplits.{star-of}
use Rattle.sf_base.proofs.MapSplits.{splits-assoc_left}
use Rattle.sf_base.specs.declared.ids.Var.{Var}
use Rattle.sf_base.specs.declared.place.Place.{Place}
use Rattle.sf_consume.specs.Wants.{still_wanted}
use Rattle.sf_produce.specs.Checked.Laws.{HoldsAssumed, assuming}
use Rattle.sf_rules.specs.Checked.LawsOfConjuncts.{LeftToShow, showing, still_showing}
use Rattle.sf_rules.specs.Setting.{Setting}
use Rattle.sf_sound.proofs.Carried.{does-restated}
use Rattle.sf_rules.specs.Checked.Lemmas.CommandChildren.{IsOrdered}
use Rattle.sf_sound.proofs.Commands.{pick}
use Rattle.sf_rules.specs.Checked.Lemmas.StateChildren.{AllStay, GoalStays}
use Rattle.sf_rules.specs.Checked.Lemmas.Subtracting.{Lists}
use Rattle.sf_sound.proofs.Words.{adding-does, adding-suits, taking-does, taking-suits}
use Rattle.sf_sound.specs.Checked.Claims.{Does, with_cells}
use Rattle.sf_sound.specs.Checked.Suits.{Claim, Domain, Suits, TodoSuits}
use Rattle.sf_sym.specs.declared.term.Term.{Term}
use Rattle.sf_sym.specs.Equalities.{item_with}
use Rattle.sf_sym.specs.Goal.{Item, run, add, take, gave, head, again, exit, return, end, Goal}
use Rattle.sf_sym.specs.Checked.Laws.{Follows, HoldsAsBefore, KeptWith}
use Rattle.sf_sym.specs.Checked.Lemmas.Below.{below-value}
use Rattle.sf_sym.specs.Checked.Lemmas.Restated.{same-items}
use Rattle.sf_sym.specs.Pending.{Pending}
use Rattle.sf_sym.specs.Ready.{is_listed}
use Rattle.sf_sym.specs.State.{State}
use Rattle.sf_sym.specs.Shape.{HasShape}

-- WHAT OTHER TERMS LEAVE AS IT IS
module _ (to : Term → Term) where
  names-with : (P : Var → Type 0) (set : List (Var × Term)) → AllByRecursion (λ (x : Var × Term). P x.0) set
      → AllByRecursion (λ (x : Var × Term). P x.0) (map (λ x. (x.0, to x.1)) set)
  names-with P [] a = tt
  names-with P (x ∷ xs) a = (a.0, names-with P xs a.1)

  todo-with : (d : Setting) (todo : List Item) (D : Domain) → TodoSuits d D todo
      → TodoSuits d D (map (item_with to) todo)
  todo-with d [] D s = s
  todo-with d (run c ∷ rest) D s = (s.0, todo-with d rest D s.1)
  todo-with d (add q given ∷ rest) D s = todo-with d rest D s
  todo-with d (take q want names ∷ rest) D s = todo-with d rest D s
  todo-with d (gave q set removed ∷ rest) D s =
      (names-with (λ x. D.has x ≡ true) set s.0, s.1, todo-with d rest D s.2)
  todo-with d (head q test invariant body ∷ rest) D s = (s.0, todo-with d rest D s.1)
  todo-with d (again q invariant ∷ rest) D s = s
  todo-with d (exit q r ∷ rest) D s = (s.0, s.1, todo-with d rest _ s.2)
  todo-with d (return q post ∷ rest) D s = s
  todo-with d (end q ∷ rest) D s = s

-- what is known is worked out, and all that is to do is stated again
pub restated-claims : (d : Setting) (goal : Goal) (left : List Goal) → HasShape goal
    → (HasShape goal → KeptWith goal left HoldsAsBefore) → (IsOrdered goal.state → AllStay goal left)
    → AllByRecursion (Claim d) left → Claim d goal
restated-claims d goal left shape law stays claims n w D l taken u has h =
    let k = law shape in
    let m = pick (HoldsAsBefore w goal l.values l.cells taken) (Follows goal) (GoalStays goal)
    (Claim d) left (k.hold w l.values l.cells taken h) k.follow
    (stays (record { vars = shape.vars; fields = shape.fields })) claims in
    let r = m.one.todo in
    let suits : Suits d D m.goal = record {
      listed = λ x e. m.second.state.listed x (u.listed x e);
      todo = subst (TodoSuits d D) (sym r.is) (todo-with r.to d goal.todo D u.todo);
    } in
    does-restated goal.state.next_sym w m.one.still.values r.to
    (λ t b. r.same t ∙ sym (below-value goal.state.next_sym m.one.still.values w m.one.still.same t b)) d.program n
    goal.todo l shape.below.todo
    (subst (λ z. Does d.program n m.one.still.values z l) r.is
    (m.third n m.one.still.values D l taken suits has m.one.still.holds))

-- a conjunct is assumed
pub assumed-claims : (d : Setting) (s : State) (q : Place) (given : Pending) (rest : List Item) (left : List Goal)
    → HasShape (assuming s q given rest)
    → (HasShape (assuming s q given rest) → KeptWith (assuming s q given rest) left (HoldsAssumed q rest))
    → (IsOrdered s → AllStay (assuming s q given rest) left) → AllByRecursion (Claim d) left → Claim d (assuming s q given rest)
assumed-claims d s q given rest left shape law stays claims n w D l taken u has h =
    let goal = assuming s q given rest in
    let k = law shape in
    let m = pick (HoldsAssumed q rest w goal l.values l.cells taken) (Follows goal) (GoalStays goal)
    (Claim d) left (k.hold w l.values l.cells taken h) k.follow
    (stays (record { vars = shape.vars; fields = shape.fields })) claims in
    let r = m.one.restated in
    let suits : Suits d D m.goal = record {
      listed = λ x e. m.second.state.listed x (u.listed x e);
      todo = subst (TodoSuits d D) (sym m.one.todo) (adding-suits d D q m.one.left m.one.others
          (subst (TodoSuits d D) (sym r.is) (todo-with r.to d rest D u.todo)));
    } in
    does-restated s.next_sym w m.one.still.values r.to
    (λ t b. r.same t ∙ sym (below-value s.next_sym m.one.still.values w m.one.still.same t b)) d.program n rest l
    shape.below.todo.1
    (subst (λ z. Does d.program n m.one.still.values z l) r.is
    (adding-does d.program n m.one.still.values q m.one.left m.one.others l
    (subst (λ z. Does d.program n m.one.still.values z l) m.one.todo
    (m.third n m.one.still.values D l taken suits has m.one.still.holds))))

-- a conjunct is shown: a part is handed over, and what is shown of the rest is shown with that part
pub shown-claims : (d : Setting) (s : State) (q : Place) (want : Pending) (names : List (List ℕ)) (rest : List Item)
    (left : List Goal) → HasShape (showing s q want names rest)
    → (HasShape (showing s q want names rest) → LeftToShow s q want names rest left)
    → AllByRecursion (λ (g : Goal). Lists s g.state) left → AllByRecursion (Claim d) left
    → Claim d (showing s q want names rest)
shown-claims d s q want names rest left shape law lists claims n w D l taken u has h =
    let k = law shape in
    let child = still_showing k.after q names rest in
    let claim = (subst (AllByRecursion (Claim d)) k.is claims).0 in
    let list = (subst (AllByRecursion (λ (g : Goal). Lists s g.state)) k.is lists).0 in
    let suits : Suits d D child = record {
      listed = λ x e. subst (λ vs. is_listed vs x ≡ true) (sym list.vars) (u.listed x e);
      todo = taking-suits d D q (still_wanted k.after) names rest u.todo;
    } in
    let on = k.hands w l.values l.cells taken h in
    let hands = on.hands in
    let shown = taking-does d.program n hands.values q (still_wanted k.after) names rest (with_cells hands.rest l)
    (claim n hands.values D (with_cells hands.rest l) hands.gone suits
    (record { variables = has.variables; tokens = has.tokens }) on.holds) in
    let parts = splits-assoc_left {b = shown.left} {c = shown.right} shown.splits hands.splits in
    let wants = hands.wants shown.first.0 shown.left _ parts.0
    (record { bound = shown.first.1; satisfied = shown.first.2 }) in
    star-of parts.1 (shown.first.0, wants.bound, wants.satisfied)
    (does-restated s.next_sym w hands.values (λ t. t)
    (λ t b. sym (below-value s.next_sym hands.values w hands.same t b)) d.program n rest
    (with_cells shown.right l) shape.below.todo.1
    (subst (λ z. Does d.program n hands.values z (with_cells shown.right l)) (sym (same-items rest)) shown.second))
