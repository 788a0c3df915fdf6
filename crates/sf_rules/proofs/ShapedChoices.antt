-- The rows of choices among what is assumed and what is to be shown keep the shape of goals.
-- Names: `choice_assumed-keeps`, `choice_shown-keeps`.
use Rattle.std.specs.Option.{option_and_then}
use Rattle.std.proofs.Common.{◌≡◌, ℕ, Bool, true, false, cond, Option, Some, None, List, ◌∷◌, ◌++◌, refl, sym, subst, inl, inr}
use Rattle.std.proofs.lemmas.Option.{same_Some}
use Rattle.sf_base.specs.declared.place.Place.{Place}
use Rattle.sf_core.specs.Assertions.Occurs.{OccursInAll}
use Rattle.sf_core.specs.declared.assertion.Operand.{Operand}
use Rattle.sf_core.specs.declared.assertion.Operand.TheVariants.{Known}
use Rattle.sf_core.specs.declared.assertion.Test.{Test}
use Rattle.sf_core.specs.declared.fields.Links.{Links}
use Rattle.sf_core.specs.Program.Syntax.{holds, points, segment, doubly, tree, choose, Conjuncts, none, also, Level}
use Rattle.sf_rules.specs.First.{links_of}
use Rattle.sf_rules.specs.Checked.Rows.Branches.{branch_row, chosen}
use Rattle.sf_rules.specs.Setting.{Setting}
use Rattle.sf_rules.proofs.Fitting.{adding-below, adding-fits, before-fit, level-fits, taking-below, taking-fits}
use Rattle.sf_rules.proofs.ShapedGoals.{AllKeep, keeps-goal, one-keeps, rises-none, state-shaped}
use Rattle.sf_rules.proofs.Fits.{ConjunctsFit, IsFitting, LevelFits}
use Rattle.sf_sym.specs.Below.{AllInPending, IsBelow}
use Rattle.sf_sym.specs.Decided.{is_decided, test_of_terms}
use Rattle.sf_sym.specs.declared.term.Term.{Term}
use Rattle.sf_sym.specs.Goal.{Item, add, take, Goal, adding, taking, one_goal}
use Rattle.sf_sym.specs.Checked.Lemmas.Choices.{before-occurs, branch-occurs}
use Rattle.sf_sym.specs.Pending.{Pending, conjuncts_of, with_branch}
use Rattle.sf_sym.specs.State.{State}

-- what there is in an option that is gone through
pub and_then-left : {X Y : Type 0} (o : Option X) (f : X → Option Y) (y : Y) → option_and_then f o ≡ Some y
    → (x : X) × (o ≡ Some x) × (f x ≡ Some y)
and_then-left None f y e = absurd (cc)
and_then-left (Some x) f y e = (x, refl, e)

cond-is : {X : Type 0} (b : Bool) (x y : X) → cond b (Some x) None ≡ Some y → x ≡ y
cond-is true x y e = same_Some x y e
cond-is false x y e = absurd (cc)

-- conjuncts whose terms have a property, and that fit
pub record PendingShaped (P : Term → Type 0) (links : Links) (p : Pending) : Type 0 where
  pub below : AllInPending P p
  pub fits : ConjunctsFit links p.conjuncts

-- with a choice's branch in its place they are so too
module _ (P : Term → Type 0) (links : Links) (so : Bool) (s : State) (p : Pending) (h : PendingShaped P links p) where
  branch-shaped : (place : Place) (t : Test (Operand Term)) (this that : Level Term) (rest : Conjuncts Term)
      → p.conjuncts ≡ also (choose place t this that) rest
      → PendingShaped P links (with_branch p (cond so this that) rest)
  branch-shaped place t this that rest e =
      let fits = subst (ConjunctsFit links) e h.fits in
      record {
        below = record {
          conjuncts = λ u o. elim (before-occurs (conjuncts_of (cond so this that)) rest (Known u) o) [
            | inl here ↦
                h.below.conjuncts u
                (subst (λ z. OccursInAll z (Known u)) (sym e) (inl (branch-occurs so place t this that u here)))
            | inr there ↦ h.below.conjuncts u (subst (λ z. OccursInAll z (Known u)) (sym e) (inr there))
          ];
          bindings = h.below.bindings;
        };
        fits = before-fit links (conjuncts_of (cond so this that)) rest
            (level-fits links (cond so this that) (branch-fits so fits.0)) fits.1;
      }
    where
      branch-fits : (so : Bool) → LevelFits links this × LevelFits links that → LevelFits links (cond so this that)
      branch-fits true f = f.0
      branch-fits false f = f.1

  chosen-shaped : (cs : Conjuncts Term) (left : Pending) → p.conjuncts ≡ cs → chosen so s p cs ≡ Some left
      → PendingShaped P links left
  chosen-shaped none left i e = absurd (cc)
  chosen-shaped (also (holds q t) cs) left i e = absurd (cc)
  chosen-shaped (also (points q x fs) cs) left i e = absurd (cc)
  chosen-shaped (also (segment q next x y) cs) left i e = absurd (cc)
  chosen-shaped (also (doubly q next back x b l y) cs) left i e = absurd (cc)
  chosen-shaped (also (tree q l r x) cs) left i e = absurd (cc)
  chosen-shaped (also (choose place t this that) rest) left i e =
      let m = and_then-left (test_of_terms p.bindings t)
      (λ test. cond (is_decided so s test) (Some (with_branch p (cond so this that) rest)) None) left e in
      subst (PendingShaped P links) (cond-is (is_decided so s m.0) (with_branch p (cond so this that) rest) left m.2)
      (branch-shaped place t this that rest i)

module _ (d : Setting) (so : Bool) (s : State) (p : Place) (rest : List Item) (left : List Goal) where
  pub choice_assumed-keeps : (given : Pending) → IsFitting d (record { state = s; todo = add p given ∷ rest })
      → branch_row so s (add p given ∷ rest) ≡ Some left → AllKeep d s left
  choice_assumed-keeps given h row =
      let m = and_then-left (chosen so s given given.conjuncts) (λ z. one_goal s (adding p z ++ rest)) left row in
      let k = chosen-shaped (IsBelow s.next_sym) (links_of d.program) so s given
      (record { below = h.below.todo.0; fits = h.todo.1 }) given.conjuncts m.0 refl m.1 in
      one-keeps d s _ left m.2
      (keeps-goal d s s (adding p m.0 ++ rest) (state-shaped d _ h) (rises-none s s refl refl)
      (adding-below (IsBelow s.next_sym) p m.0 rest k.below h.below.todo.1)
      (adding-fits d p m.0 rest k.fits h.todo.2))

  pub choice_shown-keeps : (want : Pending) (names : List (List ℕ))
      → IsFitting d (record { state = s; todo = take p want names ∷ rest })
      → branch_row so s (take p want names ∷ rest) ≡ Some left → AllKeep d s left
  choice_shown-keeps want names h row =
      let m = and_then-left (chosen so s want want.conjuncts) (λ z. one_goal s (taking p z names ++ rest)) left row in
      let k = chosen-shaped (IsBelow s.next_sym) (links_of d.program) so s want
      (record { below = h.below.todo.0; fits = h.todo.0 }) want.conjuncts m.0 refl m.1 in
      one-keeps d s _ left m.2
      (keeps-goal d s s (taking p m.0 names ++ rest) (state-shaped d _ h) (rises-none s s refl refl)
      (taking-below (IsBelow s.next_sym) p m.0 names rest k.below h.below.todo.1)
      (taking-fits d p m.0 names rest k.fits h.todo.1))
