-- The goals that a search comes to: each comes after few tags of the first goal, so where those keep their shape the tag that
-- the strategy takes has a row.
-- Names: `reached_LAW` of the open goals.
use Rattle.std.specs.List.{AllByRecursion, Contains}
use Rattle.std.proofs.Common.{◌≡◌, ℕ, suc, ◌+◌, ◌≤◌, Some, List, [], ◌∷◌, ◌++◌, refl, sym, subst, inl, inr, arith}
use Rattle.sf_base.proofs.Elements.{all_by-append, contains-cons}
use Rattle.sf_base.specs.declared.limits.TheConstants.{PROCEDURE_TAGS}
use Rattle.sf_rules.specs.Checked.Lemmas.RowRules.{row-leaves}
use Rattle.sf_rules.specs.Checked.Lemmas.RuleRows.{leaves-row}
use Rattle.sf_rules.specs.Checked.Rows.Whole.{row}
use Rattle.sf_rules.specs.Setting.{Setting}
use Rattle.sf_rules.specs.Shape.{IsGoalAfter}
use Rattle.sf_search.proofs.Taken.{taken_tags_have_rows}
use Rattle.sf_search.specs.Checked.Laws.{TakenTagsHaveRows}
use Rattle.sf_search.specs.Checked.ShapeLaws.{KeepsShape}
use Rattle.sf_search.specs.declared.choices.choice.Choice.TheVariants.{Takes as takes}
use Rattle.sf_search.specs.Strategy.{strategy}
use Rattle.sf_sym.specs.declared.tag.Tag.{Tag}
use Rattle.sf_sym.specs.Goal.{Goal}

module _ (d : Setting) (first : Goal) where
  -- the goal comes after so many tags at most
  abbrev pub IsReached : ℕ → Goal → Type 0
  IsReached most goal = (tags : ℕ) × (tags ≤ most) × IsGoalAfter d first tags goal

  -- at first there is the first goal
  pub reached_first : (most : ℕ) (gs : List Goal) → gs ≡ first ∷ [] → AllByRecursion (IsReached most) gs
  reached_first most gs e = subst (AllByRecursion (IsReached most)) (sym e) ((0, omega arith, refl), tt)

  -- what comes after so many tags comes after more, too
  pub reached_more : (m n : ℕ) (gs : List Goal) → m ≤ n → AllByRecursion (IsReached m) gs
      → AllByRecursion (IsReached n) gs
  reached_more m n [] l a = tt
  reached_more m n (g ∷ gs) l a = ((a.0.0, omega (arith, a.0.1, l), a.0.2), reached_more m n gs l a.1)

  -- what a row leaves comes one tag later
  reached_left : (m : ℕ) (g : Goal) (tag : Tag) (left : List Goal) → IsReached m g → row d g tag ≡ Some left
      → AllByRecursion (IsReached (m + 1)) left
  reached_left m g tag left a r = each left (λ x c. c)
    where
      each : (xs : List Goal) → ((x : Goal) → Contains xs x → Contains left x) → AllByRecursion (IsReached (m + 1)) xs
      each [] among = tt
      each (x ∷ xs) among = (
        (suc a.0, omega (arith, a.1), (g, a.2, tag, left, row-leaves d g tag left r, among x ((contains-cons x xs x).1 (inl refl)))),
        each xs (λ y c. among y ((contains-cons x xs y).1 (inr c))),
      )

  -- with what a row leaves of the next goal in its place
  pub reached_next : (m : ℕ) (g : Goal) (gs : List Goal) (tag : Tag) (left : List Goal) → row d g tag ≡ Some left
      → AllByRecursion (IsReached m) (g ∷ gs) → AllByRecursion (IsReached (m + 1)) (left ++ gs)
  reached_next m g gs tag left r a =
      all_by-append (IsReached (m + 1)) left gs (reached_left m g tag left a.0 r)
      (reached_more m (m + 1) gs (omega arith) a.1)

  -- the tag that the strategy takes there has a row
  pub reached_row : KeepsShape d first → (m : ℕ) (g : Goal) (tag : Tag) → m ≤ PROCEDURE_TAGS → IsReached m g
      → strategy g ≡ takes tag → (left : List Goal) × (row d g tag ≡ Some left)
  unfolding TakenTagsHaveRows
  reached_row keeps m g tag l a c =
      let shape = keeps a.0 g a.2 (omega (arith, a.1, l)) in
      let rule = taken_tags_have_rows d g tag shape.0 shape.1 c in
      (rule.0, leaves-row d g tag rule.0 rule.1)
