-- A search has one end, and a program one verdict.
-- Names: `chosen-LAW` of tags that are taken, `judge-LAW` of verdicts.
use Rattle.std.proofs.Common.{◌≡◌, ℕ, suc, ◌+◌, ◌≤◌, inl, inr, Some, List, [], ◌∷◌, ◌++◌, length, refl, sym, ap, ap₂, ◌∙◌, subst, arith}
use Rattle.sf_base.specs.declared.limits.TheConstants.{PROCEDURE_TAGS}
use Rattle.sf_core.specs.Program.Syntax.{Procedure}
use Rattle.sf_rules.specs.Checked.Lemmas.RuleRows.{leaves-row}
use Rattle.sf_rules.specs.Checked.Rows.Whole.{row}
use Rattle.sf_rules.specs.Rules.{Leaves}
use Rattle.sf_rules.specs.Setting.{Setting}
use Rattle.sf_search.specs.declared.choices.choice.Choice.TheVariants.{Stays as stays, Takes as takes}
use Rattle.sf_sym.specs.declared.stuck.Stuck.{Stuck}
use Rattle.sf_search.specs.Strategy.{strategy}
use Rattle.sf_rules.specs.First.{first_goal}
use Rattle.sf_search.specs.Judge.{Chosen, Continues, JudgedAfter, JudgeFrom, Outcome, Search, Verdict, WithinLimit, large, proved, stuck, with_prefix}
use Rattle.sf_search.specs.Checked.Laws.{SearchIsUnique, VerdictsAreUnique}
use Rattle.sf_sym.specs.declared.tag.Tag.{Tag}
use Rattle.sf_sym.specs.declared.tag.Tag.TheVariants.{Procedure as Begin}
use Rattle.sf_sym.specs.Goal.{Goal}

module _ (d : Setting) where
  -- with no goal no tag is taken, and the end is good
  chosen-nothing : (ts : List Tag) (o : Outcome) → Chosen d [] ts o → (ts ≡ []) × (o ≡ proved)
  chosen-nothing [] proved c = (refl, refl)
  chosen-nothing [] (stuck g kind) c = absurd c
  chosen-nothing [] large c = absurd c
  chosen-nothing (t ∷ ts) o c = absurd c

  -- with a goal and no tag the strategy is stuck there, or would take one more
  data Stops (g : Goal) (o : Outcome) : Type 0 where
    stays_there : (kind : Stuck) → strategy g ≡ stays kind → o ≡ stuck g kind → Stops g o
    would_take : (tag : Tag) → strategy g ≡ takes tag → o ≡ large → Stops g o

  chosen-stops : (g : Goal) (gs : List Goal) (o : Outcome) → Chosen d (g ∷ gs) [] o → Stops g o
  chosen-stops g gs proved c = absurd c
  chosen-stops g gs (stuck h kind) c = stays_there kind c.1 (ap (λ z. stuck z kind) c.0)
  chosen-stops g gs large c = would_take c.0 c.1 refl

  -- no search has more than the limit, and one that is too large has just that
  within-limit : (o : Outcome) (n : ℕ) → WithinLimit o n → n ≤ PROCEDURE_TAGS
  within-limit proved n l = l
  within-limit (stuck g kind) n l = l
  within-limit large n l = omega (arith, l)

  large-limit : (o : Outcome) (n : ℕ) → o ≡ large → WithinLimit o n → n ≡ PROCEDURE_TAGS
  large-limit o n e l = let m : WithinLimit large n = subst (λ z. WithinLimit z n) e l in m

  not-both : (g : Goal) (tag : Tag) (kind : Stuck) → strategy g ≡ takes tag → strategy g ≡ stays kind → ⊥
  not-both g tag kind a b = let e : takes tag ≡ stays kind = sym a ∙ b in absurd (cc)

  stops-once : (n : ℕ) (g : Goal) (o q : Outcome) → Stops g o → Stops g q → WithinLimit o n → WithinLimit q n → o ≡ q
  stops-once n g o q (stays_there k a e) (stays_there j b f) l m =
      let same : stays k ≡ stays j = sym a ∙ b in
      let kinds : k ≡ j = cc in
      e ∙ ap (λ z. stuck g z) kinds ∙ sym f
  stops-once n g o q (stays_there k a e) (would_take t b f) l m = absurd (not-both g t k b a)
  stops-once n g o q (would_take t a e) (stays_there k b f) l m = absurd (not-both g t k a b)
  stops-once n g o q (would_take t a e) (would_take u b f) l m = e ∙ sym f

  same-tag : (g : Goal) (t u : Tag) → strategy g ≡ takes t → strategy g ≡ takes u → t ≡ u
  same-tag g t u a b = let e : takes t ≡ takes u = sym a ∙ b in cc

  -- where a search stops no other one goes on
  stops-there : (n : ℕ) (g : Goal) (u : Tag) (us : List Tag) (left : List Goal) (o q : Outcome) → Stops g o
      → strategy g ≡ takes u → Leaves d g u left → WithinLimit o (n + 0)
      → WithinLimit q (n + suc (length us)) → ⊥
  stops-there n g u us left o q (stays_there k a e) c r l m = not-both g u k c a
  stops-there n g u us left o q (would_take t a e) c r l m =
      omega (arith, large-limit o (n + 0) e l, within-limit q (n + suc (length us)) m)

  -- tags that the strategy takes from the same goals are the same, where as many were taken before
  chosen-once : (n : ℕ) (gs : List Goal) (ts us : List Tag) (o q : Outcome) → Chosen d gs ts o → Chosen d gs us q
      → WithinLimit o (n + length ts) → WithinLimit q (n + length us) → (ts ≡ us) × (o ≡ q)
  chosen-once n [] ts us o q c e l m =
      let a = chosen-nothing ts o c in
      let b = chosen-nothing us q e in
      (a.0 ∙ sym b.0, a.1 ∙ sym b.1)
  chosen-once n (g ∷ gs) [] [] o q c e l m =
      (refl, stops-once (n + 0) g o q (chosen-stops g gs o c) (chosen-stops g gs q e) l m)
  chosen-once n (g ∷ gs) [] (u ∷ us) o q c e l m =
      absurd (stops-there n g u us e.1 o q (chosen-stops g gs o c) e.0 e.2 l m)
  chosen-once n (g ∷ gs) (t ∷ ts) [] o q c e l m =
      absurd (stops-there n g t ts c.1 q o (chosen-stops g gs q e) c.0 c.2 m l)
  chosen-once n (g ∷ gs) (t ∷ ts) (u ∷ us) o q c e l m =
      let same = same-tag g t u c.0 e.0 in
      let rows : Some c.1 ≡ Some e.1 = sym (leaves-row d g t c.1 c.2) ∙ ap (row d g) same ∙ leaves-row d g u e.1 e.2 in
      let goals : c.1 ≡ e.1 = cc in
      let other : Chosen d (c.1 ++ gs) us q = subst (λ (z : List Goal). Chosen d (z ++ gs) us q) (sym goals) e.3 in
      let rest = chosen-once (suc n) (c.1 ++ gs) ts us o q c.3 other (subst (WithinLimit o) (omega arith) l)
      (subst (WithinLimit q) (omega arith) m) in
      (ap₂ (λ (a : Tag) (b : List Tag). a ∷ b) same rest.0, rest.1)

  -- a goal has one search
  pub search-once : (g : Goal) (ts us : List Tag) (o q : Outcome) → Search d g ts o → Search d g us q
      → (ts ≡ us) × (o ≡ q)
  search-once g ts us o q s r =
      chosen-once 0 (g ∷ []) ts us o q s.chosen r.chosen (subst (WithinLimit o) (omega arith) s.within)
      (subst (WithinLimit q) (omega arith) r.within)

-- what comes of one search is one verdict, where the others have one
continues-once : (others : Verdict → Type 0) (f : ℕ) (tags : List Tag) (o : Outcome) (v w : Verdict)
    → ((x y : Verdict) → others x → others y → x ≡ y) → Continues others f tags o v → Continues others f tags o w
    → v ≡ w
continues-once others f tags proved v w one a b =
    a.2 ∙ ap (with_prefix (Begin (record { 0 = f }) ∷ tags)) (one a.0 b.0 a.1 b.1) ∙ sym b.2
continues-once others f tags (stuck g kind) v w one a b = a ∙ sym b
continues-once others f tags large v w one a b = a ∙ sym b

judged-once : (others : ℕ → Verdict → Type 0) (spent f : ℕ) (tags : List Tag) (o : Outcome) (v w : Verdict)
    → ((x y : Verdict) → others (spent + length tags) x → others (spent + length tags) y → x ≡ y)
    → JudgedAfter others spent f tags o v → JudgedAfter others spent f tags o w → v ≡ w
judged-once others spent f tags o v w one (inl a) (inl b) =
    continues-once (others (spent + length tags)) f tags o v w one a.1 b.1
judged-once others spent f tags o v w one (inl a) (inr b) = absurd (omega (arith, a.0, b.0))
judged-once others spent f tags o v w one (inr a) (inl b) = absurd (omega (arith, a.0, b.0))
judged-once others spent f tags o v w one (inr a) (inr b) = a.1 ∙ sym b.1

-- a program has one verdict
pub judge-once : (d : Setting) (spent f : ℕ) (xs : List Procedure) (v w : Verdict)
    → JudgeFrom d spent f xs v → JudgeFrom d spent f xs w → v ≡ w
judge-once d spent f [] v w a b = a ∙ sym b
judge-once d spent f (x ∷ xs) v w a b =
    let same = search-once d (first_goal d (record { 0 = f }) x) a.0 b.0 a.1 b.1 a.2 b.2 in
    let others = λ (n : ℕ) (z : Verdict). JudgeFrom d n (suc f) xs z in
    let moved : JudgedAfter others spent f a.0 a.1 w =
    subst (λ (o : Outcome). JudgedAfter others spent f a.0 o w) (sym same.1)
    (subst (λ (ts : List Tag). JudgedAfter others spent f ts b.1 w) (sym same.0) b.3) in
    judged-once others spent f a.0 a.1 v w (judge-once d (spent + length a.0) (suc f) xs) a.3 moved

pub search_is_unique : SearchIsUnique
unfolding SearchIsUnique
search_is_unique d goal ts us o q = search-once d goal ts us o q

pub verdicts_are_unique : VerdictsAreUnique
unfolding VerdictsAreUnique
verdicts_are_unique d v w = judge-once d 0 0 d.program.procedures v w
