-- Proves: tags that prove every procedure of a program, each by a finite tree of rules below its
-- first goal.
-- Berdine, Calcagno, O'Hearn, "Symbolic Execution with Separation Logic" (2005): proof search as a
-- tree of rule applications.
use Rattle.std.specs.Prelude.{◌≡◌, ℕ, suc, List, [], ◌∷◌, ◌++◌}
use Rattle.sf_core.specs.Program.Syntax.{Procedure}
use Rattle.sf_sym.specs.declared.tag.Tag.{Tag}
use Rattle.sf_sym.specs.declared.tag.Tag.TheVariants.{Procedure as Begin}
use Rattle.sf_sym.specs.Goal.{Goal}
use Rattle.sf_rules.specs.First.{first_goal}
use Rattle.sf_rules.specs.Rules.{Leaves}
use Rattle.sf_rules.specs.Setting.{Setting}

mutual
  -- a proof of a goal: a tag that leaves goals of it by a rule, and proofs of these
  pub data Proof (d : Setting) : Goal → Type 0 where
    by : {goal : Goal} → (tag : Tag) (left : List Goal) → Leaves d goal tag left → Proofs d left
        → Proof d goal

  -- a proof of each of the goals
  pub data Proofs (d : Setting) : List Goal → Type 0 where
    no_more : {goals : List Goal} → goals ≡ [] → Proofs d goals
    and : {goals : List Goal} → (goal : Goal) (others : List Goal) → goals ≡ goal ∷ others
        → Proof d goal
        → Proofs d others → Proofs d goals

-- the tags of a proof, each goal's before those of the goals that it leaves, the first of these
-- first
abbrev mutual
  pub preorder : {d : Setting} {goal : Goal} → Proof d goal → List Tag
  preorder (by tag left r proofs) = tag ∷ preorders proofs

  pub preorders : {d : Setting} {goals : List Goal} → Proofs d goals → List Tag
  preorders (no_more e) = []
  preorders (and goal others e proof proofs) = preorder proof ++ preorders proofs

-- the tags prove these procedures, which are numbered from f on
abbrev pub ProvesFrom : Setting → (f : ℕ) → List Procedure → List Tag → Type 0
ProvesFrom d f [] tags = tags ≡ []
ProvesFrom d f (x ∷ xs) tags =
    (proof : Proof d (first_goal d (record { 0 = f }) x)) × (rest : List Tag)
    × (tags ≡ Begin (record { 0 = f }) ∷ (preorder proof ++ rest)) × ProvesFrom d (suc f) xs rest

-- Proves: the tags prove every procedure of the program, in file order
abbrev pub Proves : Setting → List Tag → Type 0
Proves d tags = ProvesFrom d 0 d.program.procedures tags
