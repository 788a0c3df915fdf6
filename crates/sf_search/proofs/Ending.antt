-- Each search comes to an end, and so does each verdict.
-- Names: `search-LAW` of searches, `verdict-LAW` of verdicts.
use Rattle.std.proofs.Common.{◌≡◌, ℕ, zero, suc, ◌+◌, ◌≤◌, inl, inr, Some, List, [], ◌∷◌, ◌++◌, length, refl, subst, arith}
use Rattle.std.specs.List.{AllByRecursion, slice_get}
use Rattle.std.proofs.lemmas.Bool.{cases_lt}
use Rattle.sf_base.specs.declared.ids.ProcId.{ProcId}
use Rattle.sf_base.specs.declared.limits.TheConstants.{PROCEDURE_TAGS, FILE_TAGS}
use Rattle.sf_core.specs.Program.Syntax.{Procedure}
use Rattle.sf_rules.specs.Checked.Lemmas.RowRules.{row-leaves}
use Rattle.sf_rules.specs.Checked.Rows.Whole.{row}
use Rattle.sf_rules.specs.Setting.{Setting}
use Rattle.sf_search.specs.declared.choices.choice.Choice.{Choice}
use Rattle.sf_search.specs.declared.choices.choice.Choice.TheVariants.{Stays as stays, Takes as takes}
use Rattle.sf_search.specs.Strategy.{strategy}
use Rattle.sf_rules.specs.First.{first_goal}
use Rattle.sf_search.specs.Judge.{Chosen, JudgeFrom, Outcome, Search, Verdict, WithinLimit, fails, large, proof, proved, stuck, stuck_at, too_large, with_prefix}
use Rattle.sf_search.proofs.Reached.{IsReached, reached_first, reached_next, reached_row}
use Rattle.sf_search.specs.Checked.Laws.{ProgramsHaveVerdicts, SearchExists}
use Rattle.sf_search.specs.Checked.ShapeLaws.{GoalsHaveShape, KeepsShape}
use Rattle.sf_sym.specs.declared.tag.Tag.{Tag}
use Rattle.sf_sym.specs.declared.tag.Tag.TheVariants.{Procedure as Begin}
use Rattle.sf_sym.specs.Goal.{Goal}

module _ (d : Setting) (first : Goal) (keeps : KeepsShape d first) where
  -- what a search comes to from these goals on, where that many tags were taken before
  record Ends (n : ℕ) (goals : List Goal) : Type 0 where
    tags : List Tag
    outcome : Outcome
    chosen : Chosen d goals tags outcome
    within : WithinLimit outcome (n + length tags)

  -- at a goal the strategy is stuck, or takes a tag
  search-goal : (n k : ℕ) (g : Goal) (gs : List Goal) (c : Choice) → strategy g ≡ c → n + k ≡ PROCEDURE_TAGS
      → ((tag : Tag) → strategy g ≡ takes tag → Ends n (g ∷ gs)) → Ends n (g ∷ gs)
  search-goal n k g gs (stays kind) e s taken =
      record { tags = []; outcome = stuck g kind; chosen = (refl, e); within = omega (arith, s) }
  search-goal n k g gs (takes tag) e s taken = taken tag e

  -- a tag that is taken leaves goals
  search-left : (n k : ℕ) (g : Goal) (gs : List Goal) (tag : Tag) → IsReached d first n g
      → n + suc k ≡ PROCEDURE_TAGS → strategy g ≡ takes tag
      → ((left : List Goal) → row d g tag ≡ Some left → Ends (n + 1) (left ++ gs)) → Ends n (g ∷ gs)
  search-left n k g gs tag here s e others =
      let left = reached_row d first keeps n g tag (omega (arith, s)) here e in
      let rest = others left.0 left.1 in
      record {
        tags = tag ∷ rest.tags;
        outcome = rest.outcome;
        chosen = (e, left.0, row-leaves d g tag left.0 left.1, rest.chosen);
        within = subst (WithinLimit rest.outcome) (omega arith) rest.within;
      }

  -- with room for k more tags a search ends
  search-ends : (k n : ℕ) (goals : List Goal) → AllByRecursion (IsReached d first n) goals → n + k ≡ PROCEDURE_TAGS
      → Ends n goals
  search-ends k n [] a s = record { tags = []; outcome = proved; chosen = tt; within = omega (arith, s) }
  search-ends zero n (g ∷ gs) a s =
      search-goal n zero g gs (strategy g) refl s
      (λ tag e. record { tags = []; outcome = large; chosen = (tag, e); within = omega (arith, s) })
  search-ends (suc k) n (g ∷ gs) a s =
      search-goal n (suc k) g gs (strategy g) refl s
      (λ tag e. search-left n k g gs tag a.0 s e
      (λ left r. search-ends k (n + 1) (left ++ gs) (reached_next d first n g gs tag left r a) (omega (arith, s))))

  -- so the first goal has a search
  pub search-one : (tags : List Tag) × (outcome : Outcome) × Search d first tags outcome
  search-one =
      let ends = search-ends PROCEDURE_TAGS 0 (first ∷ []) (reached_first d first 0 (first ∷ []) refl) (omega arith) in (
        ends.tags,
        ends.outcome,
        record {
          chosen = ends.chosen;
          within = subst (WithinLimit ends.outcome) (omega arith) ends.within;
        },
      )

module _ (d : Setting) (keep : (f : ProcId) (g : Procedure) → slice_get d.program.procedures f.0 ≡ Some g
    → KeepsShape d (first_goal d f g)) where
  -- what a search comes to makes a verdict, where the others have one and the file isn't too large
  verdict-within : (spent f : ℕ) (x : Procedure) (xs : List Procedure) (tags : List Tag) (o : Outcome)
      → Search d (first_goal d (record { 0 = f }) x) tags o → spent + length tags ≤ FILE_TAGS
      → ((v : Verdict) × JudgeFrom d (spent + length tags) (suc f) xs v)
      → (v : Verdict) × JudgeFrom d spent f (x ∷ xs) v
  verdict-within spent f x xs tags proved s fits others = (
    with_prefix (Begin (record { 0 = f }) ∷ tags) others.0,
    (tags, proved, s, inl (fits, (others.0, others.1, refl))),
  )
  verdict-within spent f x xs tags (stuck g kind) s fits others =
      (fails (record { 0 = f }) (stuck_at g kind (length tags)), (tags, stuck g kind, s, inl (fits, refl)))
  verdict-within spent f x xs tags large s fits others =
      (fails (record { 0 = f }) too_large, (tags, large, s, inl (fits, refl)))

  -- the same whatever was used before
  verdict-one : (spent f : ℕ) (x : Procedure) (xs : List Procedure) (tags : List Tag) (o : Outcome)
      → Search d (first_goal d (record { 0 = f }) x) tags o → ((v : Verdict) × JudgeFrom d (spent + length tags)
      (suc f) xs v)
      → (v : Verdict) × JudgeFrom d spent f (x ∷ xs) v
  verdict-one spent f x xs tags o s others = elim (cases_lt FILE_TAGS (spent + length tags)) [
    | inl over ↦ (fails (record { 0 = f }) too_large, (tags, o, s, inr (over, refl)))
    | inr fits ↦ verdict-within spent f x xs tags o s fits others
  ]

  -- procedures of the program, numbered from f on, have a verdict
  pub verdict-from : (spent f : ℕ) (xs : List Procedure)
      → ((i : ℕ) (x : Procedure) → slice_get xs i ≡ Some x → slice_get d.program.procedures (f + i) ≡ Some x)
      → (v : Verdict) × JudgeFrom d spent f xs v
  verdict-from spent f [] are = (proof [], refl)
  verdict-from spent f (x ∷ xs) are =
      let one = search-one d (first_goal d (record { 0 = f }) x) (keep (record { 0 = f }) x here) in
      verdict-one spent f x xs one.0 one.1 one.2 (verdict-from (spent + length one.0) (suc f) xs later)
    where
      here : slice_get d.program.procedures f ≡ Some x
      here = subst (λ k. slice_get d.program.procedures k ≡ Some x) (let e : f + 0 ≡ f = omega arith in e)
          (are 0 x refl)

      later : (i : ℕ) (y : Procedure) → slice_get xs i ≡ Some y
          → slice_get d.program.procedures (suc f + i) ≡ Some y
      later i y e = subst (λ k. slice_get d.program.procedures k ≡ Some y)
          (let n : f + suc i ≡ suc f + i = omega arith in n) (are (suc i) y e)

pub search_exists : SearchExists
unfolding SearchExists
search_exists d goal keeps = search-one d goal keeps

pub programs_have_verdicts : GoalsHaveShape → ProgramsHaveVerdicts
unfolding GoalsHaveShape ProgramsHaveVerdicts
programs_have_verdicts shapes d up =
    verdict-from d (shapes d up) 0 0 d.program.procedures
    (λ i x e. subst (λ k. slice_get d.program.procedures k ≡ Some x) (let z : i ≡ 0 + i = omega arith in z) e)
