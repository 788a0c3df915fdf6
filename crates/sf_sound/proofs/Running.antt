-- Tags that are run on goals, one after the other: what they leave; and they prove what leaves none.
-- Names: `run-LAW` speaks of tags that leave goals, `shown-LAW` of tags that prove them.
use Rattle.std.specs.Prelude.{◌≡◌, ℕ, suc, List, [], ◌∷◌, ◌++◌, Option, Some, None}
use Rattle.std.specs.Option.{option_and_then}
use Rattle.std.proofs.Common.{ap, refl, subst, sym, ◌∙◌}
use Rattle.std.proofs.lemmas.List.{append-nil, append_assoc}
use Rattle.std.proofs.lemmas.Option.{none-some, option_and_then_some, same_Some}
use Rattle.sf_core.specs.Program.Syntax.{Procedure}
use Rattle.sf_rules.specs.First.{first_goal}
use Rattle.sf_rules.specs.Proving.{Proof, Proofs, ProvesFrom, and, by, no_more, preorder, preorders}
use Rattle.sf_rules.specs.Checked.Lemmas.RowRules.{row-leaves}
use Rattle.sf_rules.specs.Checked.Rows.Whole.{row}
use Rattle.sf_rules.specs.Setting.{Setting}
use Rattle.sf_sym.specs.declared.tag.Tag.{Tag}
use Rattle.sf_sym.specs.declared.tag.Tag.TheVariants.{Procedure as Begin}
use Rattle.sf_sym.specs.Goal.{Goal}

-- the goals that the tags leave of these, each tag applied to the first that is left; None where
-- one has no row
abbrev pub run : Setting → List Goal → List Tag → Option (List Goal)
run d goals [] = Some goals
run d [] (tag ∷ tags) = None
run d (goal ∷ goals) (tag ∷ tags) = option_and_then (λ left. run d (left ++ goals) tags) (row d goal tag)

-- proofs of the goals with just those tags
pub record Shown (d : Setting) (goals : List Goal) (tags : List Tag) : Type 0 where
  pub proofs : Proofs d goals
  pub same : preorders proofs ≡ tags

-- proofs of some goals and of others, apart
record Apart (d : Setting) (goals others : List Goal) (tags : List Tag) : Type 0 where
  first : Proofs d goals
  second : Proofs d others
  same : preorders first ++ preorders second ≡ tags

tags-joined : (one two three rest : List Tag) → two ++ three ≡ rest → (one ++ two) ++ three ≡ one ++ rest
tags-joined one two three rest e = append_assoc one two three ∙ ap (λ l. one ++ l) e

apart : (d : Setting) (goals others all : List Goal) → all ≡ goals ++ others → (proofs : Proofs d all)
    → Apart d goals others (preorders proofs)
apart d [] others all e proofs =
    subst (λ z. (p : Proofs d z) → Apart d [] others (preorders p)) (sym e)
    (λ p. record { first = no_more refl; second = p; same = refl }) proofs
apart d (goal ∷ goals) others all e (no_more n) = absurd (cc)
apart d (goal ∷ goals) others all e (and one rest n proof proofs) =
    let first : goal ∷ goals ≡ one ∷ goals = cc in
    let left : rest ≡ goals ++ others = cc in
    let two = apart d goals others rest left proofs in record {
      first = and one goals first proof two.first;
      second = two.second;
      same = tags-joined (preorder proof) (preorders two.first) (preorders two.second) (preorders proofs) two.same;
    }

-- nothing is shown by no tags
pub shown-nothing : (d : Setting) → Shown d [] []
shown-nothing d = record { proofs = no_more refl; same = refl }

-- a tag, and what shows the goals that it leaves
shown-next : (d : Setting) (goal : Goal) (goals left : List Goal) (tag : Tag) (tags : List Tag)
    → row d goal tag ≡ Some left → Shown d (left ++ goals) tags → Shown d (goal ∷ goals) (tag ∷ tags)
shown-next d goal goals left tag tags r s =
    let two = apart d left goals (left ++ goals) refl s.proofs in record {
      proofs = and goal goals refl (by tag left (row-leaves d goal tag left r) two.first) two.second;
      same = ap (λ l. tag ∷ l) (two.same ∙ s.same);
    }

-- tags that leave goals, and then what shows these
pub run-shown : (d : Setting) (tags more : List Tag) (goals left : List Goal) → run d goals tags ≡ Some left
    → Shown d left more → Shown d goals (tags ++ more)
run-shown d [] more goals left r s = subst (λ z. Shown d z more) (sym (same_Some goals left r)) s
run-shown d (tag ∷ tags) more [] left r s = absurd (none-some left r)
run-shown d (tag ∷ tags) more (goal ∷ goals) left r s =
    option_and_then_some (λ l. run d (l ++ goals) tags) (row d goal tag) left r (λ l e f.
    shown-next d goal goals l tag (tags ++ more) e (run-shown d tags more (l ++ goals) left f s))

-- one goal alone
record OneProof (d : Setting) (goal : Goal) (tags : List Tag) : Type 0 where
  proof : Proof d goal
  same : preorder proof ≡ tags

same-goal : (d : Setting) (goal other : Goal) → other ≡ goal → (proof : Proof d other) → OneProof d goal (preorder proof)
same-goal d goal other e proof =
    subst (λ z. OneProof d z (preorder proof)) e (record { proof = proof; same = refl })

no-tags : (d : Setting) (goals : List Goal) → goals ≡ [] → (proofs : Proofs d goals) → preorders proofs ≡ []
no-tags d goals e (no_more n) = refl
no-tags d goals e (and one rest n proof proofs) = absurd (cc)

tags-alone : (tags one rest : List Tag) → tags ≡ one → rest ≡ [] → tags ≡ one ++ rest
tags-alone tags one rest e none = e ∙ (sym (append-nil one) ∙ ap (λ l. one ++ l) (sym none))

one-proof : (d : Setting) (goal : Goal) (all : List Goal) → all ≡ goal ∷ [] → (proofs : Proofs d all)
    → OneProof d goal (preorders proofs)
one-proof d goal all e (no_more n) = absurd (cc)
one-proof d goal all e (and one rest n proof proofs) =
    let same : one ≡ goal = cc in
    let none : rest ≡ [] = cc in
    let is = same-goal d goal one same proof in record {
      proof = is.proof;
      same = tags-alone (preorder is.proof) (preorder proof) (preorders proofs) is.same (no-tags d rest none proofs);
    }

-- tags that show a procedure's first goal, and those of the procedures after it
pub shown-procedure : (d : Setting) (f : ℕ) (g : Procedure) (gs : List Procedure) (tags more : List Tag)
    → Shown d (first_goal d (record { 0 = f }) g ∷ []) tags → ProvesFrom d (suc f) gs more
    → ProvesFrom d f (g ∷ gs) (Begin (record { 0 = f }) ∷ (tags ++ more))
shown-procedure d f g gs tags more s rest =
    let one = one-proof d (first_goal d (record { 0 = f }) g) (first_goal d (record { 0 = f }) g ∷ []) refl s.proofs in (
      one.proof,
      more,
      ap (λ l. Begin (record { 0 = f }) ∷ (l ++ more)) (sym (one.same ∙ s.same)),
      rest,
    )
