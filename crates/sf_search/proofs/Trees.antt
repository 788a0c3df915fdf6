-- Tags that the strategy takes are those of proofs.
-- Names: `proofs-LAW` of proofs of goals, `chosen-LAW` of tags that are taken, `judge-LAW` of verdicts.
use Rattle.std.proofs.Common.{◌≡◌, ℕ, suc, ◌+◌, inl, inr, List, [], ◌∷◌, ◌++◌, length, refl, sym, ap, ◌∙◌}
use Rattle.sf_core.specs.Program.Syntax.{Procedure}
use Rattle.sf_rules.specs.Checked.Lemmas.{proof-one, proofs-split}
use Rattle.sf_rules.specs.Setting.{Setting}
use Rattle.sf_rules.specs.First.{first_goal}
use Rattle.sf_search.specs.Judge.{Continues, Chosen, JudgedAfter, JudgeFrom, Outcome, Search, Verdict, fails, large, proof, proved, stuck, with_prefix}
use Rattle.sf_search.specs.Checked.Laws.{TakenTagsProve}
use Rattle.sf_rules.specs.Proving.{Proof, by, Proofs, no_more, and, preorder, preorders, ProvesFrom}
use Rattle.sf_sym.specs.declared.tag.Tag.{Tag}
use Rattle.sf_sym.specs.declared.tag.Tag.TheVariants.{Procedure as Begin}
use Rattle.sf_sym.specs.Goal.{Goal}

module _ (d : Setting) where
  -- tags that the strategy takes up to the end are the preorder of proofs
  chosen-proofs : (gs : List Goal) (tags : List Tag) → Chosen d gs tags proved
      → (ps : Proofs d gs) × (preorders ps ≡ tags)
  chosen-proofs [] [] c = (no_more refl, refl)
  chosen-proofs [] (t ∷ ts) c = absurd c
  chosen-proofs (g ∷ gs) [] c = absurd c
  chosen-proofs (g ∷ gs) (t ∷ ts) c =
      let rest = chosen-proofs (c.1 ++ gs) ts c.3 in
      let parts = proofs-split d c.1 gs rest.0 in
      (and g gs refl (by t c.1 c.2 parts.0) parts.1, ap (λ us. t ∷ us) (sym parts.2 ∙ rest.1))

  -- the tags of a search that ends well are those of a proof of its goal
  search-proof : (g : Goal) (tags : List Tag) → Search d g tags proved → (p : Proof d g) × (preorder p ≡ tags)
  search-proof g tags s =
      let all = chosen-proofs (g ∷ []) tags s.chosen in
      let one = proof-one d g (g ∷ []) refl all.0 in
      (one.0, sym one.1 ∙ all.1)

  proved-verdict : (f : ℕ) (x : Procedure) (xs : List Procedure) (tags own : List Tag) (w : Verdict)
      → (others : Verdict → Type 0) → others w → proof tags ≡ with_prefix (Begin (record { 0 = f }) ∷ own) w
      → Search d (first_goal d (record { 0 = f }) x) own proved
      → ((us : List Tag) → others (proof us) → ProvesFrom d (suc f) xs us) → ProvesFrom d f (x ∷ xs) tags
  proved-verdict f x xs tags own (proof us) others k e s each =
      let made = search-proof (first_goal d (record { 0 = f }) x) own s in
      let same : tags ≡ Begin (record { 0 = f }) ∷ (own ++ us) = cc in
      (made.0, us, same ∙ ap (λ ts. Begin (record { 0 = f }) ∷ (ts ++ us)) (sym made.1), each us k)
  proved-verdict f x xs tags own (fails g why) others k e s each = absurd (cc)

  continues-proves : (f : ℕ) (x : Procedure) (xs : List Procedure) (tags own : List Tag) (outcome : Outcome)
      (others : Verdict → Type 0) → Search d (first_goal d (record { 0 = f }) x) own outcome
      → Continues others f own outcome (proof tags)
      → ((us : List Tag) → others (proof us) → ProvesFrom d (suc f) xs us) → ProvesFrom d f (x ∷ xs) tags
  continues-proves f x xs tags own proved others s k each =
      proved-verdict f x xs tags own k.0 others k.1 k.2 s each
  continues-proves f x xs tags own (stuck g kind) others s k each = absurd (cc)
  continues-proves f x xs tags own large others s k each = absurd (cc)

  judged-proves : (spent f : ℕ) (x : Procedure) (xs : List Procedure) (tags own : List Tag) (outcome : Outcome)
      → Search d (first_goal d (record { 0 = f }) x) own outcome
      → JudgedAfter (λ n. JudgeFrom d n (suc f) xs) spent f own outcome (proof tags)
      → ((us : List Tag) → JudgeFrom d (spent + length own) (suc f) xs (proof us) → ProvesFrom d (suc f) xs us)
      → ProvesFrom d f (x ∷ xs) tags
  judged-proves spent f x xs tags own outcome s (inl k) each =
      continues-proves f x xs tags own outcome (JudgeFrom d (spent + length own) (suc f) xs) s k.1 each
  judged-proves spent f x xs tags own outcome s (inr k) each = absurd (let e = k.1 in cc)

  -- a verdict that is a proof proves the procedures
  pub judge-proves : (spent f : ℕ) (xs : List Procedure) (tags : List Tag)
      → JudgeFrom d spent f xs (proof tags) → ProvesFrom d f xs tags
  judge-proves spent f [] tags j = cc
  judge-proves spent f (x ∷ xs) tags j =
      judged-proves spent f x xs tags j.0 j.1 j.2 j.3
      (λ us. judge-proves (spent + length j.0) (suc f) xs us)

pub taken_tags_prove : TakenTagsProve
unfolding TakenTagsProve
taken_tags_prove d tags = judge-proves d 0 0 d.program.procedures tags
