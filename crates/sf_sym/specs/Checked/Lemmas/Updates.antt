-- Lists in order of their keys, as finite maps: an update is what the definitions say, what the code
-- makes by putting an entry in at its place, and what look-ups tell.
-- Names: `after-LAW` speaks of entries that come after a key, `kept-LAW` of those whose keys pass a
-- test, `put-LAW` of an update, `gone-LAW` of the list without a key, `inserted-LAW` and
-- `deleted-LAW` of what the code does, `found-LAW` of look-ups.
use Rattle.std.specs.List.{AllByRecursion, filter}
use Rattle.std.specs.Option.{option_or}
use Rattle.std.specs.Prelude.{is_some}
use Rattle.std.proofs.Common.{◌≡◌, ℕ, ◌==◌, Bool, true, false, not, ◌||◌, cond, nat_lt, Option, Some, None, List, [], ◌∷◌, ◌++◌, refl, sym, ap, ap₂, ◌∙◌, subst, arith}
use Rattle.std.proofs.lemmas.Bool.{lt-ltb, ltb-true}
use Rattle.std.proofs.lemmas.Bool.Decides.{Decides-eqb, nat_tests}
use Rattle.sf_base.proofs.Elements.{all_by-append}
use Rattle.sf_base.proofs.Variables.{same_var-decides}
use Rattle.sf_base.specs.declared.ids.FieldId.{FieldId}
use Rattle.sf_base.specs.declared.ids.Var.{Var}
use Rattle.sf_base.specs.declared.ids.Var.TheVariants.{Own, Shared}
use Rattle.sf_base.specs.Variables.{same_var}
use Rattle.sf_sym.specs.declared.term.Term.{Term}
use Rattle.sf_sym.specs.Fields.{AreAfter, AreOrdered, field_term, put_term}
use Rattle.sf_sym.specs.Ready.{is_listed}
use Rattle.sf_sym.specs.Variables.{AreInOrder, comes_before, remove_var, remove_vars, set_var, set_vars}

-- a test that can't be true is false
pub is-false : (b : Bool) → (b ≡ true → ⊥) → b ≡ false
is-false true h = absurd (h refl)
is-false false h = refl

pub by-false : {X : Type 0} (b : Bool) (x y : X) → b ≡ false → cond b x y ≡ y
by-false b x y e = ap (λ z. cond z x y) e

pub by-true : {X : Type 0} (b : Bool) (x y : X) → b ≡ true → cond b x y ≡ x
by-true b x y e = ap (λ z. cond z x y) e

-- WHAT ALL HAVE
-- what all have, those have that pass a test
pub all-kept : {X : Type 0} (P : X → Type 0) (test : X → Bool) (xs : List X) → AllByRecursion P xs
    → AllByRecursion P (filter test xs)
all-kept P test [] a = tt
all-kept P test (x ∷ xs) a = go (test x) (all-kept P test xs a.1)
  where
    go : (b : Bool) → AllByRecursion P (filter test xs)
        → AllByRecursion P (cond b (x ∷ filter test xs) (filter test xs))
    go true r = (a.0, r)
    go false r = r

-- and what follows from it and the test
pub all-kept_by : {X : Type 0} (P Q : X → Type 0) (test : X → Bool)
    → ((x : X) → test x ≡ true → P x → Q x) → (xs : List X) → AllByRecursion P xs
    → AllByRecursion Q (filter test xs)
all-kept_by P Q test f [] a = tt
all-kept_by P Q test f (x ∷ xs) a = go (test x) refl (all-kept_by P Q test f xs a.1)
  where
    go : (b : Bool) → test x ≡ b → AllByRecursion Q (filter test xs)
        → AllByRecursion Q (cond b (x ∷ filter test xs) (filter test xs))
    go true e r = (f x e a.0, r)
    go false e r = r

-- what all have and one has, all have once it stands between those that pass two tests
pub all-updated : {X : Type 0} (P : X → Type 0) (before after : X → Bool) (x : X) (xs : List X)
    → P x → AllByRecursion P xs
    → AllByRecursion P (filter before xs ++ (x ∷ filter after xs))
all-updated P before after x xs p a =
    all_by-append P (filter before xs) (x ∷ filter after xs) (all-kept P before xs a)
    (p, all-kept P after xs a)

pub all-updated_by : {X : Type 0} (P Q : X → Type 0) (before after : X → Bool)
    → ((x : X) → before x ≡ true → P x → Q x) → ((x : X) → after x ≡ true → P x → Q x) → (x : X)
    → (xs : List X) → Q x → AllByRecursion P xs
    → AllByRecursion Q (filter before xs ++ (x ∷ filter after xs))
all-updated_by P Q before after f g x xs p a =
    all_by-append Q (filter before xs) (x ∷ filter after xs) (all-kept_by P Q before f xs a)
    (p, all-kept_by P Q after g xs a)

-- KEYS: a test whether two are one, and an order of them
pub record Keys (K : Type 0) : Type 0 where
  pub same : K → K → Bool
  pub before : K → K → Bool
  pub is : (x y : K) → same x y ≡ true → x ≡ y
  pub self : (x : K) → same x x ≡ true
  pub apart : (x y : K) → before x y ≡ true → same y x ≡ false
  pub total : (x y : K) → same y x ≡ false → before x y ≡ false → before y x ≡ true
  pub trans : (x y z : K) → before x y ≡ true → before y z ≡ true → before x z ≡ true

module _ {K : Type 0} (k : Keys K) where
  -- the entries whose keys pass a test
  abbrev pub kept : (K → Bool) → List (K × Term) → List (K × Term)
  kept test vs = filter (λ v. test v.0) vs

  -- an update: the entries before the key, it, and those after it
  abbrev pub put : K → Term → List (K × Term) → List (K × Term)
  put x t vs = kept (λ y. k.before y x) vs ++ ((x, t) ∷ kept (λ y. k.before x y) vs)

  -- the entries of other keys
  abbrev pub gone : K → List (K × Term) → List (K × Term)
  gone x vs = kept (λ y. not (k.same y x)) vs

  -- the code's update: at the place of the first entry that doesn't come before it
  abbrev pub inserted : K → Term → List (K × Term) → List (K × Term)
  inserted x t [] = (x, t) ∷ []
  inserted x t (v ∷ vs) =
      cond (k.same v.0 x) ((x, t) ∷ vs) (cond (k.before x v.0) ((x, t) ∷ v ∷ vs) (v ∷ inserted x t vs))

  -- the code's removal: of the first entry of that key
  abbrev pub deleted : K → List (K × Term) → List (K × Term)
  deleted x [] = []
  deleted x (v ∷ vs) = cond (k.same v.0 x) vs (v ∷ deleted x vs)

  -- the term that a list has of a key
  abbrev pub found : List (K × Term) → K → Option Term
  found [] x = None
  found (v ∷ vs) x = cond (k.same v.0 x) (Some v.1) (found vs x)

  -- in order
  abbrev pub AllAfter : K → List (K × Term) → Type 0
  AllAfter x vs = AllByRecursion (λ (v : K × Term). k.before x v.0 ≡ true) vs

  abbrev pub Ordered : List (K × Term) → Type 0
  Ordered [] = Unit {0}
  Ordered (v ∷ vs) = AllAfter v.0 vs × Ordered vs

  -- THE ORDER
  irreflexive : (x : K) → k.before x x ≡ false
  irreflexive x =
      is-false (k.before x x)
      (λ b. let other : k.same x x ≡ false = k.apart x x b in
      let self : k.same x x ≡ true = k.self x in absurd (cc))

  pub asymmetric : (x y : K) → k.before x y ≡ true → k.before y x ≡ false
  asymmetric x y b =
      is-false (k.before y x)
      (λ c. let around : k.before x x ≡ true = k.trans x y x b c in
      let never : k.before x x ≡ false = irreflexive x in absurd (cc))

  pub other : (x y : K) → ¬ (x ≡ y) → k.same x y ≡ false
  other x y n = is-false (k.same x y) (λ e. n (k.is x y e))

  pub flipped : (x y : K) → k.same x y ≡ false → k.same y x ≡ false
  flipped x y n =
      is-false (k.same y x)
      (λ h. let q : k.same x y ≡ true = subst (λ z. k.same z y ≡ true) (k.is y x h) (k.self y) in
      absurd (cc))

  -- ENTRIES AFTER A KEY
  pub after-more : (x y : K) (vs : List (K × Term)) → k.before x y ≡ true → AllAfter y vs
      → AllAfter x vs
  after-more x y [] b a = tt
  after-more x y (v ∷ vs) b a = (k.trans x y v.0 b a.0, after-more x y vs b a.1)

  after-none_before : (x : K) (vs : List (K × Term)) → AllAfter x vs
      → kept (λ y. k.before y x) vs ≡ []
  after-none_before x [] a = refl
  after-none_before x (v ∷ vs) a =
      by-false (k.before v.0 x) (v ∷ kept (λ y. k.before y x) vs) (kept (λ y. k.before y x) vs)
      (asymmetric x v.0 a.0)
      ∙ after-none_before x vs a.1

  after-all_after : (x : K) (vs : List (K × Term)) → AllAfter x vs
      → kept (λ y. k.before x y) vs ≡ vs
  after-all_after x [] a = refl
  after-all_after x (v ∷ vs) a =
      by-true (k.before x v.0) (v ∷ kept (λ y. k.before x y) vs) (kept (λ y. k.before x y) vs) a.0
      ∙ ap (λ ys. v ∷ ys) (after-all_after x vs a.1)

  after-all_other : (x : K) (vs : List (K × Term)) → AllAfter x vs → gone x vs ≡ vs
  after-all_other x [] a = refl
  after-all_other x (v ∷ vs) a =
      by-true (not (k.same v.0 x)) (v ∷ gone x vs) (gone x vs) (ap not (k.apart x v.0 a.0))
      ∙ ap (λ ys. v ∷ ys) (after-all_other x vs a.1)

  pub after-none : (x : K) (vs : List (K × Term)) → AllAfter x vs → found vs x ≡ None
  after-none x [] a = refl
  after-none x (v ∷ vs) a =
      by-false (k.same v.0 x) (Some v.1) (found vs x) (k.apart x v.0 a.0) ∙ after-none x vs a.1

  -- WHAT THE CODE DOES
  put-by : (x : K) (t : Term) (vs us ws : List (K × Term)) → kept (λ y. k.before y x) vs ≡ us
      → kept (λ y. k.before x y) vs ≡ ws → us ++ ((x, t) ∷ ws) ≡ put x t vs
  put-by x t vs us ws e f = ap₂ (λ ys zs. ys ++ ((x, t) ∷ zs)) (sym e) (sym f)

  pub inserted-is : (x : K) (t : Term) (vs : List (K × Term)) → Ordered vs
      → inserted x t vs ≡ put x t vs
  inserted-is x t [] o = refl
  inserted-is x t (v ∷ vs) o =
      go (k.same v.0 x) refl (k.before x v.0) refl (inserted-is x t vs o.1)
    where
      here : v.0 ≡ x → (x, t) ∷ vs ≡ put x t (v ∷ vs)
      here e =
          let a : AllAfter x vs = subst (λ z. AllAfter z vs) e o.0 in
          put-by x t (v ∷ vs) [] vs
          (by-false (k.before v.0 x) (v ∷ kept (λ y. k.before y x) vs) (kept (λ y. k.before y x) vs)
          (subst (λ z. k.before z x ≡ false) (sym e) (irreflexive x))
          ∙ after-none_before x vs a)
          (by-false (k.before x v.0) (v ∷ kept (λ y. k.before x y) vs) (kept (λ y. k.before x y) vs)
          (subst (λ z. k.before x z ≡ false) (sym e) (irreflexive x))
          ∙ after-all_after x vs a)

      go : (b : Bool) → k.same v.0 x ≡ b → (c : Bool) → k.before x v.0 ≡ c
          → inserted x t vs ≡ put x t vs
          → cond b ((x, t) ∷ vs) (cond c ((x, t) ∷ v ∷ vs) (v ∷ inserted x t vs))
          ≡ put x t (v ∷ vs)
      go true i c j r = here (k.is v.0 x i)
      go false i true j r =
          let a : AllAfter x (v ∷ vs) = (j, after-more x v.0 vs j o.0) in
          put-by x t (v ∷ vs) [] (v ∷ vs) (after-none_before x (v ∷ vs) a)
          (after-all_after x (v ∷ vs) a)
      go false i false j r =
          ap (λ ys. v ∷ ys) r
          ∙ put-by x t (v ∷ vs) (v ∷ kept (λ y. k.before y x) vs) (kept (λ y. k.before x y) vs)
          (by-true (k.before v.0 x) (v ∷ kept (λ y. k.before y x) vs) (kept (λ y. k.before y x) vs)
          (k.total x v.0 i j))
          (by-false (k.before x v.0) (v ∷ kept (λ y. k.before x y) vs) (kept (λ y. k.before x y) vs)
          j)

  pub deleted-is : (x : K) (vs : List (K × Term)) → Ordered vs → deleted x vs ≡ gone x vs
  deleted-is x [] o = refl
  deleted-is x (v ∷ vs) o = go (k.same v.0 x) refl (deleted-is x vs o.1)
    where
      go : (b : Bool) → k.same v.0 x ≡ b → deleted x vs ≡ gone x vs
          → cond b vs (v ∷ deleted x vs) ≡ cond (not (k.same v.0 x)) (v ∷ gone x vs) (gone x vs)
      go true i r =
          sym (by-false (not (k.same v.0 x)) (v ∷ gone x vs) (gone x vs) (ap not i)
          ∙ after-all_other x vs (subst (λ z. AllAfter z vs) (k.is v.0 x i) o.0))
      go false i r =
          ap (λ ys. v ∷ ys) r
          ∙ sym (by-true (not (k.same v.0 x)) (v ∷ gone x vs) (gone x vs) (ap not i))

  -- THE LIST STAYS IN ORDER
  inserted-after : (y x : K) (t : Term) (vs : List (K × Term)) → k.before y x ≡ true → AllAfter y vs
      → AllAfter y (inserted x t vs)
  inserted-after y x t [] b a = (b, tt)
  inserted-after y x t (v ∷ vs) b a =
      go (k.same v.0 x) (k.before x v.0) (inserted-after y x t vs b a.1)
    where
      go : (s c : Bool) → AllAfter y (inserted x t vs)
          → AllAfter y (cond s ((x, t) ∷ vs) (cond c ((x, t) ∷ v ∷ vs) (v ∷ inserted x t vs)))
      go true c r = (b, a.1)
      go false true r = (b, a)
      go false false r = (a.0, r)

  inserted-ordered : (x : K) (t : Term) (vs : List (K × Term)) → Ordered vs
      → Ordered (inserted x t vs)
  inserted-ordered x t [] o = (tt, tt)
  inserted-ordered x t (v ∷ vs) o =
      go (k.same v.0 x) refl (k.before x v.0) refl (inserted-ordered x t vs o.1)
    where
      go : (b : Bool) → k.same v.0 x ≡ b → (c : Bool) → k.before x v.0 ≡ c
          → Ordered (inserted x t vs)
          → Ordered (cond b ((x, t) ∷ vs) (cond c ((x, t) ∷ v ∷ vs) (v ∷ inserted x t vs)))
      go true i c j r = (subst (λ z. AllAfter z vs) (k.is v.0 x i) o.0, o.1)
      go false i true j r = ((j, after-more x v.0 vs j o.0), o)
      go false i false j r = (inserted-after v.0 x t vs (k.total x v.0 i j) o.0, r)

  pub put-ordered : (x : K) (t : Term) (vs : List (K × Term)) → Ordered vs → Ordered (put x t vs)
  put-ordered x t vs o = subst Ordered (inserted-is x t vs o) (inserted-ordered x t vs o)

  pub kept-ordered : (test : K → Bool) (vs : List (K × Term)) → Ordered vs → Ordered (kept test vs)
  kept-ordered test [] o = tt
  kept-ordered test (v ∷ vs) o = go (test v.0) (kept-ordered test vs o.1)
    where
      go : (b : Bool) → Ordered (kept test vs)
          → Ordered (cond b (v ∷ kept test vs) (kept test vs))
      go true r =
          (all-kept (λ (w : K × Term). k.before v.0 w.0 ≡ true) (λ w. test w.0) vs o.0, r)
      go false r = r

  -- LOOK-UPS
  found-kept : (test : K → Bool) (vs : List (K × Term)) (y : K) → test y ≡ true
      → found (kept test vs) y ≡ found vs y
  found-kept test [] y e = refl
  found-kept test (v ∷ vs) y e =
      go (k.same v.0 y) refl (test v.0) refl (found-kept test vs y e)
    where
      go : (b : Bool) → k.same v.0 y ≡ b → (c : Bool) → test v.0 ≡ c
          → found (kept test vs) y ≡ found vs y
          → found (cond c (v ∷ kept test vs) (kept test vs)) y ≡ found (v ∷ vs) y
      go b i true j r = ap (λ o. cond (k.same v.0 y) (Some v.1) o) r
      go true i false j r =
          let passes : test v.0 ≡ true = subst (λ z. test z ≡ true) (sym (k.is v.0 y i)) e in
          absurd (cc)
      go false i false j r = r ∙ sym (by-false (k.same v.0 y) (Some v.1) (found vs y) i)

  found-dropped : (test : K → Bool) (vs : List (K × Term)) (y : K) → test y ≡ false
      → found (kept test vs) y ≡ None
  found-dropped test [] y e = refl
  found-dropped test (v ∷ vs) y e =
      go (k.same v.0 y) refl (test v.0) refl (found-dropped test vs y e)
    where
      go : (b : Bool) → k.same v.0 y ≡ b → (c : Bool) → test v.0 ≡ c
          → found (kept test vs) y ≡ None
          → found (cond c (v ∷ kept test vs) (kept test vs)) y ≡ None
      go true i true j r =
          let fails : test v.0 ≡ false = subst (λ z. test z ≡ false) (sym (k.is v.0 y i)) e in
          absurd (cc)
      go false i true j r = by-false (k.same v.0 y) (Some v.1) (found (kept test vs) y) i ∙ r
      go b i false j r = r

  found-append : (us ws : List (K × Term)) (y : K)
      → found (us ++ ws) y ≡ option_or (found us y) (found ws y)
  found-append [] ws y = refl
  found-append (u ∷ us) ws y = go (k.same u.0 y) (found-append us ws y)
    where
      go : (b : Bool) → found (us ++ ws) y ≡ option_or (found us y) (found ws y)
          → cond b (Some u.1) (found (us ++ ws) y)
          ≡ option_or (cond b (Some u.1) (found us y)) (found ws y)
      go true r = refl
      go false r = r

  or-none : (o : Option Term) → option_or o None ≡ o
  or-none None = refl
  or-none (Some t) = refl

  pub put-here : (x : K) (t : Term) (vs : List (K × Term)) → found (put x t vs) x ≡ Some t
  put-here x t vs =
      found-append (kept (λ y. k.before y x) vs) ((x, t) ∷ kept (λ y. k.before x y) vs) x
      ∙ ap₂ option_or (found-dropped (λ y. k.before y x) vs x (irreflexive x))
      (by-true (k.same x x) (Some t) (found (kept (λ y. k.before x y) vs) x) (k.self x))

  pub put-elsewhere : (x : K) (t : Term) (vs : List (K × Term)) (y : K) → k.same x y ≡ false
      → found (put x t vs) y ≡ found vs y
  put-elsewhere x t vs y n =
      found-append (kept (λ z. k.before z x) vs) ((x, t) ∷ kept (λ z. k.before x z) vs) y
      ∙ go (k.before y x) refl (k.before x y) refl
    where
      skipped : found ((x, t) ∷ kept (λ z. k.before x z) vs) y
          ≡ found (kept (λ z. k.before x z) vs) y
      skipped = by-false (k.same x y) (Some t) (found (kept (λ z. k.before x z) vs) y) n

      go : (b : Bool) → k.before y x ≡ b → (c : Bool) → k.before x y ≡ c
          → option_or (found (kept (λ z. k.before z x) vs) y)
          (found ((x, t) ∷ kept (λ z. k.before x z) vs) y)
          ≡ found vs y
      go true i c j =
          ap₂ option_or (found-kept (λ z. k.before z x) vs y i)
          (skipped ∙ found-dropped (λ z. k.before x z) vs y (asymmetric y x i))
          ∙ or-none (found vs y)
      go false i true j =
          ap₂ option_or (found-dropped (λ z. k.before z x) vs y i)
          (skipped ∙ found-kept (λ z. k.before x z) vs y j)
      go false i false j =
          let before : k.before y x ≡ true = k.total x y (flipped x y n) j in absurd (cc)

  pub gone-here : (x : K) (vs : List (K × Term)) → found (gone x vs) x ≡ None
  gone-here x vs = found-dropped (λ y. not (k.same y x)) vs x (ap not (k.self x))

  pub gone-elsewhere : (x : K) (vs : List (K × Term)) (y : K) → k.same x y ≡ false
      → found (gone x vs) y ≡ found vs y
  gone-elsewhere x vs y n =
      found-kept (λ z. not (k.same z x)) vs y (ap not (flipped x y n))

-- VARIABLES
-- what comes before another isn't it
pub before-other : (x y : Var) → comes_before x y ≡ true → same_var y x ≡ false
before-other (Own i) (Own j) b = grind (arith, nat_tests)
before-other (Own i) (Shared r j) b = refl
before-other (Shared q i) (Own j) b = refl
before-other (Shared q i) (Shared r j) b = grind (arith, nat_tests)

-- what comes before another comes before those that it comes before
pub before-trans : (x y z : Var) → comes_before x y ≡ true → comes_before y z ≡ true
    → comes_before x z ≡ true
before-trans (Own i) (Own j) (Own k) b c = grind (arith, nat_tests)
before-trans (Own i) (Own j) (Shared r k) b c = refl
before-trans (Own i) (Shared q j) (Own k) b c = absurd (cc)
before-trans (Own i) (Shared q j) (Shared r k) b c = refl
before-trans (Shared p i) (Own j) z b c = absurd (cc)
before-trans (Shared p i) (Shared q j) (Own k) b c = absurd (cc)
before-trans (Shared p i) (Shared q j) (Shared r k) b c = grind (arith, nat_tests)

-- of two different variables one comes before the other
pub before-total : (x y : Var) → same_var y x ≡ false → comes_before x y ≡ false
    → comes_before y x ≡ true
before-total (Own i) (Own j) n b = grind (arith, nat_tests)
before-total (Own i) (Shared r j) n b = absurd (cc)
before-total (Shared q i) (Own j) n b = refl
before-total (Shared q i) (Shared r j) n b = grind (arith, nat_tests)

abbrev pub variables : Keys Var
variables = record {
  same = same_var;
  before = comes_before;
  is = λ x y. (same_var-decides x y).0;
  self = λ x. (same_var-decides x x).1 refl;
  apart = before-other;
  total = before-total;
  trans = before-trans;
}

-- variables in order are entries in order
pub variables-ordered : (vs : List (Var × Term)) → AreInOrder vs → Ordered variables vs
variables-ordered [] o = tt
variables-ordered (v ∷ vs) o = (o.0, variables-ordered vs o.1)

ordered-variables : (vs : List (Var × Term)) → Ordered variables vs → AreInOrder vs
ordered-variables [] o = tt
ordered-variables (v ∷ vs) o = (o.0, ordered-variables vs o.1)

-- they stay so where one is set, or several, or one is removed, or several
pub set-order : (x : Var) (t : Term) (vs : List (Var × Term)) → AreInOrder vs
    → AreInOrder (set_var x t vs)
set-order x t vs o =
    ordered-variables (set_var x t vs) (put-ordered variables x t vs (variables-ordered vs o))

pub set_vars-order : (xs vs : List (Var × Term)) → AreInOrder vs → AreInOrder (set_vars xs vs)
set_vars-order [] vs o = o
set_vars-order (x ∷ xs) vs o = set_vars-order xs (set_var x.0 x.1 vs) (set-order x.0 x.1 vs o)

pub remove-order : (x : Var) (vs : List (Var × Term)) → AreInOrder vs
    → AreInOrder (remove_var x vs)
remove-order x vs o =
    ordered-variables (remove_var x vs)
    (kept-ordered variables (λ y. not (same_var y x)) vs (variables-ordered vs o))

pub remove_vars-order : (xs : List Var) (vs : List (Var × Term)) → AreInOrder vs
    → AreInOrder (remove_vars xs vs)
remove_vars-order [] vs o = o
remove_vars-order (x ∷ xs) vs o = remove_vars-order xs (remove_var x vs) (remove-order x vs o)

-- a variable has a term where a look-up finds one
pub listed-found : (vs : List (Var × Term)) (x : Var)
    → is_listed vs x ≡ is_some (found variables vs x)
listed-found [] x = refl
listed-found (v ∷ vs) x = go (same_var v.0 x) (listed-found vs x)
  where
    go : (b : Bool) → is_listed vs x ≡ is_some (found variables vs x)
        → b || is_listed vs x ≡ is_some (cond b (Some v.1) (found variables vs x))
    go true r = refl
    go false r = r

-- FIELDS
pub less-other : (m n : ℕ) → nat_lt m n ≡ true → n == m ≡ false
less-other m n e = grind (arith, nat_tests)

pub less-total : (m n : ℕ) → n == m ≡ false → nat_lt m n ≡ false → nat_lt n m ≡ true
less-total m n d e = grind (arith, nat_tests)

pub less-trans : (l m n : ℕ) → nat_lt l m ≡ true → nat_lt m n ≡ true → nat_lt l n ≡ true
less-trans l m n d e = grind (arith, nat_tests)

abbrev pub fields : Keys FieldId
fields = record {
  same = λ f g. f.0 == g.0;
  before = λ f g. nat_lt f.0 g.0;
  is = λ f g e. ap (λ (n : ℕ). let h : FieldId = record { 0 = n } in h) ((Decides-eqb f.0 g.0).0 e);
  self = λ f. (Decides-eqb f.0 f.0).1 refl;
  apart = λ f g. less-other f.0 g.0;
  total = λ f g. less-total f.0 g.0;
  trans = λ f g h. less-trans f.0 g.0 h.0;
}

-- fields in declared order are entries in order
pub fields-ordered : (fs : List (FieldId × Term)) → AreOrdered fs → Ordered fields fs
fields-ordered [] o = tt
fields-ordered (f ∷ fs) o = (after fs o.0, fields-ordered fs o.1)
  where
    after : (gs : List (FieldId × Term)) → AreAfter f.0.0 gs → AllAfter fields f.0 gs
    after [] a = tt
    after (g ∷ gs) a = (lt-ltb f.0.0 g.0.0 a.0, after gs a.1)

ordered-fields : (fs : List (FieldId × Term)) → Ordered fields fs → AreOrdered fs
ordered-fields [] o = tt
ordered-fields (f ∷ fs) o = (after fs o.0, ordered-fields fs o.1)
  where
    after : (gs : List (FieldId × Term)) → AllAfter fields f.0 gs → AreAfter f.0.0 gs
    after [] a = tt
    after (g ∷ gs) a = (ltb-true f.0.0 g.0.0 a.0, after gs a.1)

-- they stay so where one is put
pub put-order : (f : FieldId) (u : Term) (fs : List (FieldId × Term)) → AreOrdered fs
    → AreOrdered (put_term f u fs)
put-order f u fs o =
    ordered-fields (put_term f u fs) (put-ordered fields f u fs (fields-ordered fs o))

-- the term of a field is what a look-up finds
pub field-found : (fs : List (FieldId × Term)) (f : FieldId)
    → field_term fs f ≡ found fields fs f
field-found [] f = refl
field-found (g ∷ gs) f = ap (λ o. cond (g.0.0 == f.0) (Some g.1) o) (field-found gs f)
