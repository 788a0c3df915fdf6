-- Judge: what the strategy comes to for a whole program, by the rules.
-- Berdine, Calcagno, O'Hearn, "Smallfoot" (2005): proof search by symbolic execution, in this
-- project's own profile.
use Rattle.std.specs.Prelude.{◌≡◌, ℕ, suc, ◌+◌, ◌≤◌, ◌<◌, List, [], ◌∷◌, ◌++◌, length, ◌⊎◌}
use Rattle.sf_base.specs.declared.ids.ProcId.{ProcId}
use Rattle.sf_base.specs.declared.limits.TheConstants.{PROCEDURE_TAGS, FILE_TAGS}
use Rattle.sf_core.specs.Program.Syntax.{Procedure}
use Rattle.sf_rules.specs.Rules.{Leaves}
use Rattle.sf_rules.specs.Setting.{Setting}
use Rattle.sf_search.specs.declared.choices.choice.Choice.TheVariants.{Stays as stays, Takes as takes}
use Rattle.sf_sym.specs.declared.stuck.Stuck.{Stuck}
use Rattle.sf_search.specs.Strategy.{strategy}
use Rattle.sf_rules.specs.First.{first_goal}
use Rattle.sf_sym.specs.declared.tag.Tag.{Tag}
use Rattle.sf_sym.specs.declared.tag.Tag.TheVariants as t
use Rattle.sf_sym.specs.Goal.{Goal}

-- how a search ends: no goal is left; it is stuck at a goal; or a goal would take more tags than a
-- procedure may have
pub data Outcome : Type 0 where
  proved : Outcome
  stuck : Goal → Stuck → Outcome
  large : Outcome

-- the tags are those that the strategy takes from these goals on, the first goal first, up to that
-- end
abbrev pub Chosen : Setting → List Goal → List Tag → Outcome → Type 0
Chosen d [] [] proved = Unit {0}
Chosen d (g ∷ gs) [] (stuck h kind) = (h ≡ g) × (strategy g ≡ stays kind)
Chosen d (g ∷ gs) [] large = (tag : Tag) × (strategy g ≡ takes tag)
Chosen d (g ∷ gs) (tag ∷ tags) outcome =
    (strategy g ≡ takes tag) × (left : List Goal) × Leaves d g tag left
    × Chosen d (left ++ gs) tags outcome
Chosen d _ _ _ = ⊥

-- a search ends as too large exactly after as many tags as a procedure may have
abbrev pub WithinLimit : Outcome → ℕ → Type 0
WithinLimit proved n = n ≤ PROCEDURE_TAGS
WithinLimit (stuck g kind) n = n ≤ PROCEDURE_TAGS
WithinLimit large n = n ≡ PROCEDURE_TAGS

-- what the search from a goal comes to: its tags and its end
pub record Search (d : Setting) (goal : Goal) (tags : List Tag) (outcome : Outcome) : Type 0 where
  pub chosen : Chosen d (goal ∷ []) tags outcome
  pub within : WithinLimit outcome (length tags)

-- why a procedure isn't proved: its search is stuck at a goal, after so many tags; or it is too
-- large, or the file is
pub data Cause : Type 0 where
  stuck_at : Goal → Stuck → (before : ℕ) → Cause
  too_large : Cause

-- what is said of a program: a proof of it, or the first procedure that fails, and why
pub data Verdict : Type 0 where
  proof : List Tag → Verdict
  fails : ProcId → Cause → Verdict

-- a verdict with these tags before its own
abbrev pub with_prefix : List Tag → Verdict → Verdict
with_prefix tags (proof others) = proof (tags ++ others)
with_prefix tags (fails f why) = fails f why

-- after the search of procedure f, where the file isn't too large yet: the others are judged if it
-- is proved
abbrev pub Continues : (others : Verdict → Type 0) → (f : ℕ) → List Tag → Outcome → Verdict → Type 0
Continues others f tags proved v =
    (w : Verdict) × others w × (v ≡ with_prefix (t.Procedure (record { 0 = f }) ∷ tags) w)
Continues others f tags (stuck g kind) v =
    v ≡ fails (record { 0 = f }) (stuck_at g kind (length tags))
Continues others f tags large v = v ≡ fails (record { 0 = f }) too_large

-- the same where so many tags were used before: with more than a file may have it is too large,
-- whatever its search comes to
abbrev pub JudgedAfter : (others : ℕ → Verdict → Type 0) → (spent f : ℕ) → List Tag → Outcome
    → Verdict → Type 0
JudgedAfter others spent f tags outcome v =
    ((spent + length tags ≤ FILE_TAGS) × Continues (others (spent + length tags)) f tags outcome v)
    ⊎ ((FILE_TAGS < spent + length tags) × (v ≡ fails (record { 0 = f }) too_large))

-- the verdict on these procedures, which are numbered from f on, where that many tags were used
-- before
abbrev pub JudgeFrom : Setting → (spent f : ℕ) → List Procedure → Verdict → Type 0
JudgeFrom d spent f [] v = v ≡ proof []
JudgeFrom d spent f (x ∷ xs) v =
    (tags : List Tag) × (outcome : Outcome)
    × Search d (first_goal d (record { 0 = f }) x) tags outcome
    × JudgedAfter (λ n. JudgeFrom d n (suc f) xs) spent f tags outcome v

-- Judge: the verdict on a program, procedure by procedure in file order
abbrev pub Judge : Setting → Verdict → Type 0
Judge d v = JudgeFrom d 0 0 d.program.procedures v
