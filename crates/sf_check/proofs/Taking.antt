-- What tags are taken, one by one: what a stand after them tells, and which stand they lead to.
-- Names: `begin-LAW` and `child-LAW` speak of one tag, with no goal open and at an open one; `after-LAW` of tags;
-- `finished-LAW` of a stand where all is proved.
use Rattle.std.proofs.Common.{◌≡◌, ℕ, suc, ◌≤◌, true, Option, Some, None, List, [], ◌∷◌, ◌++◌, length, refl, sym, ap, ◌∙◌, subst, arith}
use Rattle.std.specs.Prelude.{◌==◌, nat_le, cond}
use Rattle.std.specs.List.{slice_get}
use Rattle.std.specs.Option.{option_and_then, option_map}
use Rattle.std.proofs.lemmas.Bool.Decides.{nat_tests}
use Rattle.std.proofs.lemmas.Option.{cond_some, option_and_then_some, same_Some}
use Rattle.sf_base.proofs.Options.{option_map-some}
use Rattle.sf_core.specs.Program.Syntax.{Procedure}
use Rattle.sf_sym.specs.declared.tag.Tag.{Tag}
use Rattle.sf_sym.specs.declared.tag.Tag.TheVariants.{Procedure as Begin}
use Rattle.sf_sym.specs.Goal.{Goal}
use Rattle.sf_rules.specs.First.{first_goal}
use Rattle.sf_rules.specs.Checked.Lemmas.RowRules.{row-leaves}
use Rattle.sf_rules.specs.Checked.Lemmas.RuleRows.{leaves-row}
use Rattle.sf_rules.specs.Checked.Rows.Whole.{row}
use Rattle.sf_rules.specs.Setting.{Setting}
use Rattle.sf_check.specs.Checked.Taken.{is_begin, begin, taken_at, taken, after}
use Rattle.sf_check.specs.Stand.{Stand, Takes, TakesAll, begins, goes_on, is_finished}

-- the tag of a procedure begins it
pub begin-own : (f : ℕ) → is_begin f (Begin (record { 0 = f })) ≡ true
begin-own f = grind (arith, nat_tests)

-- no other tag does
pub begin-tag : (f : ℕ) (tag : Tag) → is_begin f tag ≡ true → tag ≡ Begin (record { 0 = f })
begin-tag f (Begin g) e =
    let same : g.0 ≡ f = same_number g.0 f e in ap (λ n. Begin (record { 0 = n })) same
  where
    same_number : (n m : ℕ) → (n == m) ≡ true → n ≡ m
    same_number n m e = grind (arith, nat_tests)
begin-tag f tag e = absurd (cc)

-- a tag that is taken with no goal open begins the next procedure
pub begin-taken : (d : Setting) (f : ℕ) (tag : Tag) (t : Stand) → taken_at d f [] tag ≡ Some t
    → (x : Procedure) × (slice_get d.program.procedures f ≡ Some x) × (tag ≡ Begin (record { 0 = f }))
    × (record { begun = suc f; goals = first_goal d (record { 0 = f }) x ∷ [] } ≡ t)
begin-taken d f tag t e = go (slice_get d.program.procedures f) refl e
  where
    go : (o : Option Procedure) → slice_get d.program.procedures f ≡ o → begin d f o tag ≡ Some t
        → (x : Procedure) × (slice_get d.program.procedures f ≡ Some x) × (tag ≡ Begin (record { 0 = f }))
        × (record { begun = suc f; goals = first_goal d (record { 0 = f }) x ∷ [] } ≡ t)
    go None i e = absurd (cc)
    go (Some x) i e =
        let c = cond_some (is_begin f tag)
        (record { begun = suc f; goals = first_goal d (record { 0 = f }) x ∷ [] }) t e in
        (x, i, begin-tag f tag c.0, c.1)

-- the next procedure's tag is taken
pub begin-takes : (d : Setting) (f : ℕ) (x : Procedure) → slice_get d.program.procedures f ≡ Some x
    → taken_at d f [] (Begin (record { 0 = f }))
    ≡ Some (record { begun = suc f; goals = first_goal d (record { 0 = f }) x ∷ [] })
begin-takes d f x e =
    ap (λ o. begin d f o (Begin (record { 0 = f }))) e
    ∙ ap (λ b. cond b (Some (record { begun = suc f; goals = first_goal d (record { 0 = f }) x ∷ [] })) None)
    (begin-own f)

-- a tag that is taken at an open goal has a row there
pub child-taken : (d : Setting) (f : ℕ) (g : Goal) (gs : List Goal) (tag : Tag) (t : Stand)
    → taken_at d f (g ∷ gs) tag ≡ Some t
    → (left : List Goal) × (row d g tag ≡ Some left) × (t ≡ record { begun = f; goals = left ++ gs })
child-taken d f g gs tag t e = option_map-some _ (row d g tag) t e

-- a tag that has a row there is taken
pub child-takes : (d : Setting) (f : ℕ) (g : Goal) (gs : List Goal) (tag : Tag) (left : List Goal)
    → row d g tag ≡ Some left → taken_at d f (g ∷ gs) tag ≡ Some (record { begun = f; goals = left ++ gs })
child-takes d f g gs tag left e = ap (option_map (λ cs. record { begun = f; goals = cs ++ gs })) e

-- the first of tags that are taken is taken
pub after-first : (d : Setting) (s : Stand) (tag : Tag) (tags : List Tag) (u : Stand)
    → after d s (tag ∷ tags) ≡ Some u
    → (t : Stand) × (taken d s tag ≡ Some t) × (after d t tags ≡ Some u)
after-first d s tag tags u e =
    option_and_then_some (λ t. after d t tags) (taken d s tag) u e (λ t a b. (t, a, b))

-- after a tag that is taken come the others
pub after-next : (d : Setting) (s : Stand) (tag : Tag) (tags : List Tag) (t : Stand)
    → taken d s tag ≡ Some t → after d s (tag ∷ tags) ≡ after d t tags
after-next d s tag tags t e = ap (option_and_then (λ u. after d u tags)) e

-- after tags that are taken come the others
pub after-append : (d : Setting) (before : List Tag) (s : Stand) (tags : List Tag) (t : Stand)
    → after d s before ≡ Some t → after d s (before ++ tags) ≡ after d t tags
after-append d [] s tags t e = let same : s ≡ t = cc in ap (λ u. after d u tags) same
after-append d (tag ∷ before) s tags t e =
    let one = after-first d s tag before t e in
    after-next d s tag (before ++ tags) one.0 one.1 ∙ after-append d before one.0 tags t one.2

-- after one that isn't taken nothing is
pub after-stop : (d : Setting) (before : List Tag) (s : Stand) (tag : Tag) (rest : List Tag) (t : Stand)
    → after d s before ≡ Some t → taken d t tag ≡ None → after d s (before ++ tag ∷ rest) ≡ None
after-stop d before s tag rest t e none =
    after-append d before s (tag ∷ rest) t e ∙ ap (option_and_then (λ u. after d u rest)) none

-- where all is proved, no goal is open and no procedure left
pub finished-parts : (d : Setting) (s : Stand) → is_finished d s ≡ true
    → (s.goals ≡ []) × (length d.program.procedures ≤ s.begun)
finished-parts d s e = go s.goals s.begun e
  where
    at_most : (n f : ℕ) → nat_le n f ≡ true → n ≤ f
    at_most n f e = grind (arith, nat_tests)

    go : (gs : List Goal) (f : ℕ) → is_finished d (record { begun = f; goals = gs }) ≡ true
        → (gs ≡ []) × (length d.program.procedures ≤ f)
    go [] f e = (refl, at_most (length d.program.procedures) f e)
    go (g ∷ gs) f e = absurd (cc)

-- and where so, all is proved
pub finished-from : (d : Setting) (f : ℕ) → length d.program.procedures ≤ f
    → is_finished d (record { begun = f; goals = [] }) ≡ true
finished-from d f h = go (length d.program.procedures) h
  where
    go : (n : ℕ) → n ≤ f → nat_le n f ≡ true
    go n h = grind (arith, nat_tests)

-- THE FUNCTION AND THE RELATION
-- what is taken by the relation is taken by the function
takes-taken : (d : Setting) (s : Stand) (tag : Tag) (t : Stand) → Takes d s tag t → taken d s tag ≡ Some t
takes-taken d _ _ _ (begins {f = f} {x = x} there) = begin-takes d f x there
takes-taken d _ _ _ (goes_on {f = f} {goal = goal} {left = left} {rest = rest} {tag = tag} rule) =
    child-takes d f goal rest tag left (leaves-row d goal tag left rule)

-- and back
taken-takes : (d : Setting) (s : Stand) (tag : Tag) (t : Stand) → taken d s tag ≡ Some t → Takes d s tag t
taken-takes d s tag t e = go s.goals e
  where
    go : (gs : List Goal) → taken_at d s.begun gs tag ≡ Some t
        → Takes d (record { begun = s.begun; goals = gs }) tag t
    go [] e =
        let now = begin-taken d s.begun tag t e in
        subst (Takes d (record { begun = s.begun; goals = [] }) tag) now.3
        (subst (λ z. Takes d (record { begun = s.begun; goals = [] }) z
        (record { begun = suc s.begun; goals = first_goal d (record { 0 = s.begun }) now.0 ∷ [] })) (sym now.2)
        (begins now.1))
    go (g ∷ gs) e =
        let now = child-taken d s.begun g gs tag t e in
        subst (Takes d (record { begun = s.begun; goals = g ∷ gs }) tag) (sym now.2)
        (goes_on (row-leaves d g tag now.0 now.1))

-- the same of tags in turn
pub all-after : (d : Setting) (s : Stand) (tags : List Tag) (t : Stand) → TakesAll d s tags t
    → after d s tags ≡ Some t
all-after d s [] t k = ap (λ z. Some z) k
all-after d s (tag ∷ tags) t k =
    after-next d s tag tags k.0 (takes-taken d s tag k.0 k.1) ∙ all-after d k.0 tags t k.2

pub after-all : (d : Setting) (s : Stand) (tags : List Tag) (t : Stand) → after d s tags ≡ Some t
    → TakesAll d s tags t
after-all d s [] t e = same_Some s t e
after-all d s (tag ∷ tags) t e =
    let one = after-first d s tag tags t e in
    (one.0, taken-takes d s tag one.0 one.1, after-all d one.0 tags t one.2)

-- and of a tag that isn't taken
pub none-taken : (d : Setting) (s : Stand) (tag : Tag) → ((next : Stand) → ¬ Takes d s tag next)
    → taken d s tag ≡ None
none-taken d s tag k = go (taken d s tag) refl
  where
    go : (o : Option Stand) → taken d s tag ≡ o → o ≡ None
    go None e = refl
    go (Some t) e = absurd (k t (taken-takes d s tag t e))

pub taken-none : (d : Setting) (s : Stand) (tag : Tag) → taken d s tag ≡ None
    → (next : Stand) → ¬ Takes d s tag next
taken-none d s tag e next k = absurd (let f : Some next ≡ None = sym (takes-taken d s tag next k) ∙ e in cc)
