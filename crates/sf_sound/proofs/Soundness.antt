-- The laws: the goals of a proved program claim what is to do, by each row; so its bodies are safe, and it is sound.
-- Names: `proof-claims`, `proved-at`; the lemmas of the laws have the names of their functions.
use Rattle.std.specs.List.{AllByRecursion, slice_get}
use Rattle.std.proofs.Common.{◌≡◌, ℕ, zero, suc, ◌+◌, Some, List, [], ◌∷◌, refl, sym, subst, arith}
use Rattle.std.proofs.lemmas.Option.{none-some, same_Some}
use Rattle.sf_calls.specs.Checked.Laws.{ChangesAreAssigned, FirstBreachIsBroken}
use Rattle.sf_core.specs.Assertions.Determined.{Determined}
use Rattle.sf_core.specs.Program.Syntax.{Assertion, Procedure}
use Rattle.sf_precise.specs.Checked.Laws.{DeterminedHasOrder, OrderKeepsForm, OrderKeepsMeaning, OrderedIsDetermined}
use Rattle.sf_precise.specs.Order.{IsOrderOf, IsOrdering}
use Rattle.sf_rules.specs.Checked.LawsOfShape.{FirstGoalsAreShaped, IsLeft, IsSetUp, RowsKeepShape}
use Rattle.sf_rules.specs.Checked.Lemmas.RuleRows.{leaves-row}
use Rattle.sf_rules.specs.Rules.{Leaves}
use Rattle.sf_rules.specs.Setting.{Setting}
use Rattle.sf_rules.specs.Shape.{IsShaped}
use Rattle.sf_safe.specs.Checked.LocalSafe.{LocallySafeBodiesAreSafe, LocallySafeProgramsAreSound}
use Rattle.sf_sound.proofs.Beginnings.{body-safe}
use Rattle.sf_sound.proofs.Bodies.{IsSane}
use Rattle.sf_rules.specs.Checked.LawsOfRows.{RowLaws}
use Rattle.sf_sound.proofs.Table.{row-claims}
use Rattle.sf_rules.specs.First.{first_goal}
use Rattle.sf_rules.specs.Proving.{Proof, Proofs, ProvesFrom, and, by, no_more}
use Rattle.sf_sound.specs.Checked.Bodies.{ProvedBodiesAreLocallySafe, ProvedBodiesAreSafe}
use Rattle.sf_sound.specs.Checked.Suits.{Claim}
use Rattle.sf_sound.specs.Proofs.{ProofsAreSound}
use Rattle.sf_sym.specs.declared.tag.Tag.{Tag}
use Rattle.sf_sym.specs.Goal.{Goal}
use Rattle.sf_sym.specs.State.{State}

-- the laws of the crates below
pub record Laws : Type 0 where
  pub rows : RowLaws
  pub first : FirstGoalsAreShaped
  pub keep : RowsKeepShape
  pub breaches : FirstBreachIsBroken
  pub changes : ChangesAreAssigned
  pub meaning : OrderKeepsMeaning
  pub determined : OrderedIsDetermined
  pub form : OrderKeepsForm
  pub order : DeterminedHasOrder

module _ (laws : RowLaws) (keep : RowsKeepShape) (d : Setting) (up : IsSetUp d) where
  -- the goals that a rule leaves are shaped
  left-shaped : (goal : Goal) (tag : Tag) (left : List Goal) → IsShaped d goal → Leaves d goal tag left
      → AllByRecursion (IsLeft d goal.state) left
  unfolding RowsKeepShape
  left-shaped goal tag left shaped rule = keep d up goal tag left shaped rule

  -- a shaped goal that is proved claims what is to do
  mutual
    proof-claims : (goal : Goal) → IsShaped d goal → Proof d goal → Claim d goal
    proof-claims goal shaped (by tag left rule proofs) =
        row-claims laws d goal left shaped.shape
        (proofs-claim goal.state left (left-shaped goal tag left shaped rule) proofs) tag
        (leaves-row d goal tag left rule)

    proofs-claim : (s : State) (goals : List Goal) → AllByRecursion (IsLeft d s) goals → Proofs d goals
        → AllByRecursion (Claim d) goals
    proofs-claim s goals shaped (no_more e) = subst (AllByRecursion (Claim d)) (sym e) tt
    proofs-claim s goals shaped (and goal others e proof proofs) =
        let each = subst (AllByRecursion (IsLeft d s)) e shaped in
        subst (AllByRecursion (Claim d)) (sym e)
        (proof-claims goal each.0.shaped proof, proofs-claim s others each.1 proofs)

-- each procedure's first goal is proved
proved-at : (d : Setting) (xs : List Procedure) (k i : ℕ) (tags : List Tag) (g : Procedure) → ProvesFrom d k xs tags
    → slice_get xs i ≡ Some g → Proof d (first_goal d (record { 0 = k + i }) g)
proved-at d [] k i tags g p e = absurd (none-some g e)
proved-at d (x ∷ xs) k zero tags g p e =
    subst (λ z. Proof d (first_goal d (record { 0 = k + 0 }) z)) (same_Some x g e)
    (subst (λ n. Proof d (first_goal d (record { 0 = n }) x)) (let n : k ≡ k + 0 = omega arith in n) p.0)
proved-at d (x ∷ xs) k (suc i) tags g p e =
    subst (λ n. Proof d (first_goal d (record { 0 = n }) g)) (let n : suc k + i ≡ k + suc i = omega arith in n)
    (proved-at d xs (suc k) i p.1 g p.3 e)

-- annotations that are determined are put in order
in-order : (d : Setting) → DeterminedHasOrder → IsOrdering d.ordered → (a : Assertion) → Determined a.level
    → IsOrderOf a (d.ordered a)
in-order d order ordering a determined =
    let o = order a.level determined in
    let is : IsOrderOf a (record { names = a.names; level = o.0 }) = record { names = refl; level = o.1 } in
    subst (IsOrderOf a) (sym (ordering.ordered a (record { names = a.names; level = o.0 }) is)) is

pub proved_bodies_are_locally_safe : Laws → ProvedBodiesAreLocallySafe
unfolding ProvedBodiesAreLocallySafe FirstGoalsAreShaped
proved_bodies_are_locally_safe laws d tags formed conditions sets determined ordering proves f g there values n l b =
    body-safe d sane f g there l values b
    (proof-claims laws.rows laws.keep d up (first_goal d f g) (laws.first d up f g there)
    (subst (λ z. Proof d (first_goal d (record { 0 = z }) g)) (let e : 0 + f.0 ≡ f.0 = omega arith in e)
    (proved-at d d.program.procedures 0 f.0 tags g proves there))) n
  where
    up : IsSetUp d
    up = record {
      formed = formed;
      conditions = conditions;
      setting = record { program = refl; sets = sets; ordering = ordering };
    }

    sane : IsSane d
    sane = record {
      formed = formed;
      sets = sets;
      unbroken = λ f g there s m b at. (laws.breaches d.program formed).kept conditions f b (g, there, (s, m, at));
      ordered = λ a i. in-order d laws.order ordering a (determined a i);
      changes = laws.changes;
      meaning = laws.meaning;
      determined = laws.determined;
      form = laws.form;
    }

pub proved_bodies_are_safe : ProvedBodiesAreLocallySafe → LocallySafeBodiesAreSafe → ProvedBodiesAreSafe
unfolding ProvedBodiesAreSafe ProvedBodiesAreLocallySafe LocallySafeBodiesAreSafe
proved_bodies_are_safe bodies safe d tags formed conditions sets determined ordering proves =
    safe d.program formed (bodies d tags formed conditions sets determined ordering proves)

pub proofs_are_sound : ProvedBodiesAreLocallySafe → LocallySafeProgramsAreSound → ProofsAreSound
unfolding ProofsAreSound ProvedBodiesAreLocallySafe LocallySafeProgramsAreSound
proofs_are_sound bodies safe d tags formed conditions sets determined ordering proves =
    safe d.program formed conditions (bodies d tags formed conditions sets determined ordering proves)
