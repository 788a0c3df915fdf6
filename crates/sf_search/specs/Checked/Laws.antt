-- Laws of the search: a goal has one search and a program one verdict, whose tags prove it; and a tag that is taken has a
-- rule.
-- Ordinary: the strategy is a function, as the rules say it, too, and a search ends at its limit.
use Rattle.std.specs.Prelude.{◌≡◌, true, List}
use Rattle.sf_rules.specs.Checked.LawsOfShape.{IsSetUp}
use Rattle.sf_rules.specs.Rules.{has_numbers, Leaves}
use Rattle.sf_rules.specs.Setting.{Setting}
use Rattle.sf_rules.specs.Shape.{IsShaped}
use Rattle.sf_search.specs.declared.choices.choice.Choice.TheVariants.{Takes as takes}
use Rattle.sf_search.specs.Strategy.{strategy}
use Rattle.sf_search.specs.Judge.{Judge, Outcome, Search, Verdict, proof}
use Rattle.sf_rules.specs.Proving.{Proves}
use Rattle.sf_search.specs.Checked.ShapeLaws.{KeepsShape}
use Rattle.sf_sym.specs.declared.tag.Tag.{Tag}
use Rattle.sf_sym.specs.Goal.{Goal}

-- the search from a goal comes to something, where each goal to which it may come is as goals of programs are
unfoldable pub SearchExists : Type 0
SearchExists =
    (d : Setting) (goal : Goal) → KeepsShape d goal → (tags : List Tag) × (outcome : Outcome) × Search d goal tags outcome

-- and to one thing alone
unfoldable pub SearchIsUnique : Type 0
SearchIsUnique = (d : Setting) (goal : Goal) (ts us : List Tag) (o q : Outcome) → Search d goal ts o
    → Search d goal us q → (ts ≡ us) × (o ≡ q)

-- each program has a verdict
unfoldable pub ProgramsHaveVerdicts : Type 0
ProgramsHaveVerdicts = (d : Setting) → IsSetUp d → (v : Verdict) × Judge d v

-- and at most one
unfoldable pub VerdictsAreUnique : Type 0
VerdictsAreUnique = (d : Setting) (v w : Verdict) → Judge d v → Judge d w → v ≡ w

-- the tags that the strategy takes prove the program
unfoldable pub TakenTagsProve : Type 0
TakenTagsProve = (d : Setting) (tags : List Tag) → Judge d (proof tags) → Proves d tags

-- a tag that the strategy takes has a rule, at goals as programs have them where numbers suffice
unfoldable pub TakenTagsHaveRows : Type 0
TakenTagsHaveRows = (d : Setting) (goal : Goal) (tag : Tag) → IsShaped d goal → has_numbers goal.state ≡ true
    → strategy goal ≡ takes tag → (left : List Goal) × Leaves d goal tag left
