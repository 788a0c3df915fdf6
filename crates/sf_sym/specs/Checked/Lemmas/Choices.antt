-- The branch of a choice in the choice's place: what occurs there, which scopes there are, and where it holds.
-- Names: `before-LAW` of conjuncts before others, `level-LAW` of a level, `branch-LAW` of the branch that is chosen,
-- `SCOPES-rest` of scopes that come after, `drop-LAW` of a list without a part in its middle.
use Rattle.std.specs.List.{AllByRecursion, IsDistinct}
use Rattle.std.specs.Prelude.{◌⊎◌}
use Rattle.std.proofs.Common.{◌≡◌, ℕ, Bool, true, false, ◌||◌, cond, List, [], ◌∷◌, ◌++◌, Option, refl, sym, ap, ◌∙◌, subst, inl, inr, append_assoc, arith}
use Rattle.std.proofs.lemmas.Bool.Decides.{nat_tests}
use Rattle.std.proofs.lemmas.Map.Keys.{IsDistinct-cons, IsDistinct-head, IsDistinct-tail}
use Rattle.sf_base.proofs.HeapSplits.{star-assoc_left, star-assoc_right, star-drop_left, star-empty_left, star-map_right, star-of}
use Rattle.sf_base.specs.declared.place.Place.{Place}
use Rattle.sf_base.specs.declared.value.Value.{Value}
use Rattle.sf_base.specs.HeapStore.{Heap, ◌⋆◌}
use Rattle.sf_core.proofs.Assertions.Sat.{sat-all_agree}
use Rattle.sf_core.specs.Assertions.Occurs.{OccursIn, OccursInAll, OccursInOne}
use Rattle.sf_core.specs.Assertions.Sat.{SameOutside, Sat, SatAll, operand}
use Rattle.sf_core.specs.Assertions.Scopes.{is_made_by, overlap}
use Rattle.sf_core.specs.declared.assertion.Operand.{Operand}
use Rattle.sf_core.specs.declared.assertion.Operand.TheVariants.{Known, Exists}
use Rattle.sf_core.specs.declared.assertion.Scope.{Scope}
use Rattle.sf_core.specs.declared.assertion.Test.{Test}
use Rattle.sf_core.specs.declared.fields.Links.{Links}
use Rattle.sf_core.specs.Program.Formed.{conjunct_scopes, conjuncts_scopes, is_made, level_scopes}
use Rattle.sf_core.specs.Program.Syntax.{Conjunct, holds, points, segment, doubly, tree, choose, Level, level, Conjuncts, none, also}
use Rattle.sf_sym.specs.declared.term.Term.{Term}
use Rattle.sf_sym.specs.Formed.{AllFormed, IsScoped, LevelFormed, OneFormed, is_made_inside}
use Rattle.sf_sym.specs.Holds.{term_value, IsBound, PendingHolds}
use Rattle.sf_sym.specs.Pending.{before, conjuncts_of}

-- Conjuncts before others
module _ {E : Type 0} where
  pub before-occurs : (bs cs : Conjuncts E) (x : Operand E) → OccursInAll (before bs cs) x
      → OccursInAll bs x ⊎ OccursInAll cs x
  before-occurs none cs x o = inr o
  before-occurs (also b bs) cs x (inl o) = inl (inl o)
  before-occurs (also b bs) cs x (inr o) = elim (before-occurs bs cs x o) [
    | inl here ↦ inl (inr here)
    | inr there ↦ inr there
  ]

  -- they hold on two parts of the heap
  pub before-sat : (bs cs : Conjuncts E) (v : E → Value) (some : ℕ → Value) (heap : Heap)
      → SatAll (before bs cs) v some heap → (SatAll bs v some ⋆ SatAll cs v some) heap
  before-sat none cs v some heap d = star-empty_left d
  before-sat (also b bs) cs v some heap d =
      star-assoc_left (star-map_right (λ part e. before-sat bs cs v some part e) d)

  pub before-join : (bs cs : Conjuncts E) (v : E → Value) (some : ℕ → Value) (heap : Heap)
      → (SatAll bs v some ⋆ SatAll cs v some) heap → SatAll (before bs cs) v some heap
  before-join none cs v some heap d = star-drop_left d
  before-join (also b bs) cs v some heap d =
      star-map_right (λ part e. before-join bs cs v some part e) (star-assoc_right d)

  pub before-scopes : (bs cs : Conjuncts E) (rest : List Scope)
      → conjuncts_scopes (before bs cs) rest ≡ conjuncts_scopes bs (conjuncts_scopes cs rest)
  before-scopes none cs rest = refl
  before-scopes (also b bs) cs rest = ap (conjunct_scopes b) (before-scopes bs cs rest)

pub before-formed : (links : Links) (count : ℕ) (bs cs : Conjuncts Term) → AllFormed links count bs
    → AllFormed links count cs → AllFormed links count (before bs cs)
before-formed links count none cs a b = b
before-formed links count (also c bs) cs a b = (a.0, before-formed links count bs cs a.1 b)

-- Levels
level-occurs : (a : Level Term) (t : Term) → OccursInAll (conjuncts_of a) (Known t) → OccursIn a (Known t)
level-occurs (level made cs) t o = (o, tt)

level-formed : (links : Links) (count : ℕ) (a : Level Term) → LevelFormed links count a
    → AllFormed links count (conjuncts_of a)
level-formed links count (level made cs) k = k

pub level-sat : (a : Level Term) (v : Term → Value) (some : ℕ → Value) (heap : Heap)
    → SatAll (conjuncts_of a) v some heap → Sat a v some heap
level-sat (level made cs) v some heap d = (some, (λ n o. refl), d)

-- the existentials that a level makes
abbrev pub made_by : {E : Type 0} → Level E → Scope
made_by (level made cs) = made

-- a level that holds, by its scope and its conjuncts
level-open : (a : Level Term) (v : Term → Value) (some : ℕ → Value) (heap : Heap) → Sat a v some heap
    → (here : ℕ → Value) × SameOutside (made_by a) some here × SatAll (conjuncts_of a) v here heap
level-open (level made cs) v some heap d = d

-- an existential that occurs in a level is made there, or is one from outside
level-exists : (a : Level Term) (n : ℕ) → OccursInAll (conjuncts_of a) (Exists n)
    → (is_made_by (made_by a) n ≡ true) ⊎ OccursIn a (Exists n)
level-exists (level made cs) n o = go (is_made_by made n) refl
  where
    go : (b : Bool) → is_made_by made n ≡ b → (is_made_by made n ≡ true) ⊎ OccursIn (level made cs) (Exists n)
    go true i = inl i
    go false i = inr (o, i)

-- The branch for that
pub branch-occurs : (so : Bool) (place : Place) (test : Test (Operand Term)) (this that : Level Term) (t : Term)
    → OccursInAll (conjuncts_of (cond so this that)) (Known t)
    → OccursInOne (choose place test this that) (Known t)
branch-occurs true place test this that t o = inr (inl (level-occurs this t o))
branch-occurs false place test this that t o = inr (inr (level-occurs that t o))

pub branch-exists : (so : Bool) (place : Place) (test : Test (Operand Term)) (this that : Level Term) (n : ℕ)
    → OccursInAll (conjuncts_of (cond so this that)) (Exists n)
    → (is_made_by (made_by (cond so this that)) n ≡ true) ⊎ OccursInOne (choose place test this that) (Exists n)
branch-exists true place test this that n o = elim (level-exists this n o) [
  | inl made ↦ inl made
  | inr there ↦ inr (inr (inl there))
]
branch-exists false place test this that n o = elim (level-exists that n o) [
  | inl made ↦ inl made
  | inr there ↦ inr (inr (inr there))
]

pub branch-formed : (so : Bool) (links : Links) (count : ℕ) (place : Place) (test : Test (Operand Term))
    (this that : Level Term) → OneFormed links count (choose place test this that)
    → AllFormed links count (conjuncts_of (cond so this that))
branch-formed true links count place test this that k = level-formed links count this k.1
branch-formed false links count place test this that k = level-formed links count that k.2

-- what puts scopes before others does so where it is done to what another put before them
joined-rest : (f g : List Scope → List Scope) → ((rest : List Scope) → f rest ≡ f [] ++ rest)
    → ((rest : List Scope) → g rest ≡ g [] ++ rest) → (rest : List Scope) → f (g rest) ≡ f (g []) ++ rest
joined-rest f g before_f before_g rest =
    before_f (g rest) ∙ ap (λ ss. f [] ++ ss) (before_g rest) ∙ sym (append_assoc (f []) (g []) rest)
    ∙ ap (λ ss. ss ++ rest) (sym (before_f (g [])))

-- Scopes
module _ {E : Type 0} where
  mutual
    level-rest : (a : Level E) (rest : List Scope) → level_scopes a rest ≡ level_scopes a [] ++ rest
    level-rest (level here cs) rest = ap (λ ss. here ∷ ss) (conjuncts-rest cs rest)

    conjuncts-rest : (cs : Conjuncts E) (rest : List Scope)
        → conjuncts_scopes cs rest ≡ conjuncts_scopes cs [] ++ rest
    conjuncts-rest none rest = refl
    conjuncts-rest (also c cs) rest =
        joined-rest (conjunct_scopes c) (conjuncts_scopes cs) (conjunct-rest c) (conjuncts-rest cs) rest

    conjunct-rest : (c : Conjunct E) (rest : List Scope) → conjunct_scopes c rest ≡ conjunct_scopes c [] ++ rest
    conjunct-rest (holds p t) rest = refl
    conjunct-rest (points p x fs) rest = refl
    conjunct-rest (segment p next x y) rest = refl
    conjunct-rest (doubly p next back x b l y) rest = refl
    conjunct-rest (tree p left right x) rest = refl
    conjunct-rest (choose p t this that) rest =
        joined-rest (level_scopes this) (level_scopes that) (level-rest this) (level-rest that) rest

-- no scope overlaps another one where some of them are left out
drop-all : (P : Scope → Type 0) (xs ys zs : List Scope) → AllByRecursion P (xs ++ (ys ++ zs))
    → AllByRecursion P (xs ++ zs)
drop-all P [] [] zs a = a
drop-all P [] (y ∷ ys) zs a = drop-all P [] ys zs a.1
drop-all P (x ∷ xs) ys zs a = (a.0, drop-all P xs ys zs a.1)

drop-distinct : (xs ys zs : List Scope) → IsDistinct overlap (xs ++ (ys ++ zs)) → IsDistinct overlap (xs ++ zs)
drop-distinct [] [] zs d = d
drop-distinct [] (y ∷ ys) zs d = drop-distinct [] ys zs (IsDistinct-tail overlap y (ys ++ zs) d)
drop-distinct (x ∷ xs) ys zs d =
    IsDistinct-cons overlap x (xs ++ zs)
    (drop-all (λ s. overlap x s ≡ false) xs ys zs (IsDistinct-head overlap x (xs ++ (ys ++ zs)) d))
    (drop-distinct xs ys zs (IsDistinct-tail overlap x (xs ++ (ys ++ zs)) d))

or-none_left : (a b : Bool) → a || b ≡ false → a ≡ false
or-none_left true b e = absurd (cc)
or-none_left false b e = refl

or-none_right : (a b : Bool) → a || b ≡ false → b ≡ false
or-none_right true b e = absurd (cc)
or-none_right false b e = e

or-none : (a b : Bool) → a ≡ false → b ≡ false → a || b ≡ false
or-none true b e f = absurd (cc)
or-none false b e f = f

-- nor makes one of those that are left what none of all makes
drop-made : (xs ys zs : List Scope) (n : ℕ) → is_made (xs ++ (ys ++ zs)) n ≡ false → is_made (xs ++ zs) n ≡ false
drop-made [] [] zs n e = e
drop-made [] (y ∷ ys) zs n e =
    drop-made [] ys zs n (or-none_right (is_made_by y n) (is_made (ys ++ zs) n) e)
drop-made (x ∷ xs) ys zs n e =
    or-none (is_made_by x n) (is_made (xs ++ zs) n)
    (or-none_left (is_made_by x n) (is_made (xs ++ (ys ++ zs)) n) e)
    (drop-made xs ys zs n (or-none_right (is_made_by x n) (is_made (xs ++ (ys ++ zs)) n) e))

-- two scopes that don't overlap make no existential both
apart-one : (s t : Scope) (n : ℕ) → overlap s t ≡ false → is_made_by s n ≡ true → is_made_by t n ≡ false
apart-one s t n e i = grind (arith, nat_tests)

apart-made : (s : Scope) (ss : List Scope) (n : ℕ) → AllByRecursion (λ t. overlap s t ≡ false) ss
    → is_made_by s n ≡ true → is_made ss n ≡ false
apart-made s [] n a i = refl
apart-made s (t ∷ ts) n a i =
    or-none (is_made_by t n) (is_made ts n) (apart-one s t n a.0 i) (apart-made s ts n a.1 i)

-- the scopes of a choice's branch, and those after the choice
abbrev scopes_after : Level Term → Conjuncts Term → List Scope
scopes_after a cs = made_by a ∷ conjuncts_scopes (conjuncts_of a) (conjuncts_scopes cs [])

-- the list is that one, with something in between
abbrev Between : (all some : List Scope) → Type 0
Between all some =
    (xs : List Scope) × (ys : List Scope) × (zs : List Scope) × (all ≡ xs ++ (ys ++ zs)) × (some ≡ xs ++ zs)

between-this : (a other : Level Term) (rest : List Scope)
    → Between (level_scopes a (level_scopes other rest)) (made_by a ∷ conjuncts_scopes (conjuncts_of a) rest)
between-this (level made bs) other rest = (
  made ∷ conjuncts_scopes bs [],
  level_scopes other [],
  rest,
  ap (λ ss. made ∷ ss) (conjuncts-rest bs (level_scopes other rest)
      ∙ ap (λ ss. conjuncts_scopes bs [] ++ ss) (level-rest other rest)),
  ap (λ ss. made ∷ ss) (conjuncts-rest bs rest),
)

between-that : (other a : Level Term) (rest : List Scope)
    → Between (level_scopes other (level_scopes a rest)) (made_by a ∷ conjuncts_scopes (conjuncts_of a) rest)
between-that other (level made bs) rest = (
  [],
  level_scopes other [],
  made ∷ conjuncts_scopes bs rest,
  level-rest other (made ∷ conjuncts_scopes bs rest),
  refl,
)

-- those of the choice are these and those of the other branch
branch-between : (so : Bool) (this that : Level Term) (cs : Conjuncts Term)
    → Between (level_scopes this (level_scopes that (conjuncts_scopes cs []))) (scopes_after (cond so this that) cs)
branch-between true this that cs = between-this this that (conjuncts_scopes cs [])
branch-between false this that cs = between-that this that (conjuncts_scopes cs [])

-- A choice among conjuncts whose scopes are apart
module _ (so : Bool) (place : Place) (test : Test (Operand Term)) (this that : Level Term) (cs : Conjuncts Term)
    (bindings : List (Option Term))
    (scoped : IsScoped (record { conjuncts = also (choose place test this that) cs; bindings = bindings })) where
  -- the branch
  abbrev branch : Level Term
  branch = cond so this that

  after-distinct : IsDistinct overlap (scopes_after branch cs)
  after-distinct =
      let (xs, ys, zs, all, some) = branch-between so this that cs in
      subst (IsDistinct overlap) (sym some)
      (drop-distinct xs ys zs (subst (IsDistinct overlap) all scoped.distinct))

  after-made : (n : ℕ) → is_made (conjuncts_scopes (also (choose place test this that) cs) []) n ≡ false
      → is_made (scopes_after branch cs) n ≡ false
  after-made n e =
      let (xs, ys, zs, all, some) = branch-between so this that cs in
      ap (λ ss. is_made ss n) some ∙ drop-made xs ys zs n (ap (λ ss. is_made ss n) (sym all) ∙ e)

  -- what is made neither in the branch nor in the others isn't made there
  rest-made : (n : ℕ) → is_made (conjuncts_scopes (conjuncts_of branch) (conjuncts_scopes cs [])) n ≡ false
      → is_made (conjuncts_scopes (before (conjuncts_of branch) cs) []) n ≡ false
  rest-made n e = ap (λ ss. is_made ss n) (before-scopes (conjuncts_of branch) cs []) ∙ e

  still-made : (n : ℕ) → is_made (conjuncts_scopes (also (choose place test this that) cs) []) n ≡ false
      → is_made (conjuncts_scopes (before (conjuncts_of branch) cs) []) n ≡ false
  still-made n e =
      rest-made n (or-none_right (is_made_by (made_by branch) n)
      (is_made (conjuncts_scopes (conjuncts_of branch) (conjuncts_scopes cs [])) n) (after-made n e))

  -- the scopes that are left are apart
  pub scoped-branch : IsScoped (record { conjuncts = before (conjuncts_of branch) cs; bindings = bindings })
  scoped-branch = record {
    distinct = subst (IsDistinct overlap) (sym (before-scopes (conjuncts_of branch) cs []))
        (IsDistinct-tail overlap (made_by branch)
        (conjuncts_scopes (conjuncts_of branch) (conjuncts_scopes cs [])) after-distinct);
    occurring = λ n o. elim (before-occurs (conjuncts_of branch) cs (Exists n) o) [
      | inl here ↦ elim (branch-exists so place test this that n here) [
        | inl made ↦ rest-made n (apart-made (made_by branch)
            (conjuncts_scopes (conjuncts_of branch) (conjuncts_scopes cs [])) n
            (IsDistinct-head overlap (made_by branch)
            (conjuncts_scopes (conjuncts_of branch) (conjuncts_scopes cs [])) after-distinct) made)
        | inr there ↦ still-made n (scoped.occurring n (inl there))
      ]
      | inr there ↦ still-made n (scoped.occurring n (inr there))
    ];
    bound = λ n t e. still-made n (scoped.bound n t e);
  }

  -- the branch makes no existential that isn't made inside
  not-branch : (n : ℕ) → is_made (conjuncts_scopes (also (choose place test this that) cs) []) n ≡ false
      → is_made_by (made_by branch) n ≡ false
  not-branch n e =
      or-none_left (is_made_by (made_by branch) n)
      (is_made (conjuncts_scopes (conjuncts_of branch) (conjuncts_scopes cs [])) n) (after-made n e)

  -- where the branch holds beside the others, its conjuncts and the others hold with one choice of the existentials
  pub branch-assumed : (w some : ℕ → Value) (heap : Heap) → IsBound w bindings some
      → (Sat branch (term_value w) some ⋆ SatAll cs (term_value w) some) heap
      → PendingHolds w (record { conjuncts = before (conjuncts_of branch) cs; bindings = bindings }) heap
  branch-assumed w some heap bound s =
      let (here, outside, sat) = level-open branch (term_value w) some s.left s.first in
      let same : (n : ℕ) → is_made_inside (record {
        conjuncts = also (choose place test this that) cs;
        bindings = bindings;
      }) n ≡ false → here n ≡ some n = λ n e. outside n (not-branch n e) in (
        here,
        λ n t e. same n (scoped.bound n t e) ∙ bound n t e,
        before-join (conjuncts_of branch) cs (term_value w) here heap
            (star-of s.splits sat (sat-all_agree cs (term_value w) (term_value w) some here s.right
            (others same) s.second)),
      )
    where
      others : {here : ℕ → Value}
          → ((n : ℕ) → is_made (conjuncts_scopes (also (choose place test this that) cs) []) n ≡ false → here n ≡ some n)
          → (x : Operand Term) → OccursInAll cs x → operand (term_value w) some x ≡ operand (term_value w) here x
      others same (Known t) o = refl
      others same (Exists n) o = sym (same n (scoped.occurring n (inr o)))
