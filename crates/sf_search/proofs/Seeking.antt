-- What is sought at a term, as the strategy's table says it.
-- Names: `lowest_FORM_is`; `lowest-at` and `lowest-none` of the lowest atom of a kind.
use Rattle.std.proofs.Common.{◌≡◌, ℕ, ◌<◌, ◌≤◌, ◌&&◌, Bool, true, false, cond, nat_lt, Option, Some, None, List, [], ◌∷◌, is_some, true≢false, refl, sym, ap, ap₂, ◌∙◌, subst, inl, inr, arith}
use Rattle.std.specs.List.{AllByRecursion, Contains}
use Rattle.std.specs.Option.{option_map}
use Rattle.sf_base.proofs.Elements.{contains-cons, contains-nil}
use Rattle.sf_base.specs.declared.ids.FieldId.{FieldId}
use Rattle.sf_consume.specs.Subtract.{is_same_shape}
use Rattle.sf_search.specs.Checked.Seeking.{sought_at}
use Rattle.sf_search.specs.Strategy.{double_at, last_at, lower, lowest, tree_at, which}
use Rattle.sf_sym.specs.declared.atom.Atom.{Atom}
use Rattle.sf_sym.specs.declared.atom.Atom.TheVariants.{Points, Ls, Tree, Dll}
use Rattle.sf_sym.specs.declared.atom.Kind.{Kind}
use Rattle.sf_sym.specs.declared.atom.Kind.TheVariants as kind
use Rattle.sf_sym.specs.declared.atom.Numbered.{Numbered}
use Rattle.sf_sym.specs.declared.term.Term.{Term}
use Rattle.sf_sym.specs.Cells.{atom_at, fields_at}
use Rattle.sf_sym.specs.Kinds.{is_kind}
use Rattle.sf_sym.specs.Known.{IsLowest}
use Rattle.sf_sym.specs.Numbers.{AreRising, numbers}
use Rattle.sf_sym.specs.Tests.{same_term}
use Rattle.sf_search.proofs.Found.{here, later}
use Rattle.sf_search.proofs.Lowest.{lowest_first, lowest_other}

abbrev number : {X : Type 0} → Option (ℕ × X) → Option ℕ
number o = option_map (λ p. p.0) o

-- the lower of two numbers that are there or not
abbrev less : Option ℕ → Option ℕ → Option ℕ
less None b = b
less (Some a) None = Some a
less (Some a) (Some b) = cond (nat_lt b a) (Some b) (Some a)

less-is : {X : Type 0} (a b : Option (ℕ × X)) → number (lower a b) ≡ less (number a) (number b)
less-is None b = refl
less-is (Some a) None = refl
less-is (Some a) (Some b) = go (nat_lt b.0 a.0)
  where
    go : (t : Bool) → number (cond t (Some b) (Some a)) ≡ cond t (Some b.0) (Some a.0)
    go true = refl
    go false = refl

one-is : {X : Type 0} (n : ℕ) (o : Option X) → number (option_map (λ x. (n, x)) o) ≡ cond (is_some o) (Some n) None
one-is n None = refl
one-is n (Some x) = refl

-- of which atoms something is so tells the number of the lowest
same-number : {X Y : Type 0} (f : Atom → Option X) (g : Atom → Option Y) → ((x : Atom) → is_some (f x) ≡ is_some (g x))
    → (xs : List Numbered) → number (lowest f xs) ≡ number (lowest g xs)
same-number f g same [] = refl
same-number f g same (x ∷ xs) =
    less-is (option_map (λ y. (x.number, y)) (f x.atom)) (lowest f xs)
    ∙ ap₂ less
    (one-is x.number (f x.atom) ∙ ap (λ b. cond b (Some x.number) None) (same x.atom)
    ∙ sym (one-is x.number (g x.atom)))
    (same-number f g same xs)
    ∙ sym (less-is (option_map (λ y. (x.number, y)) (g x.atom)) (lowest g xs))

map-some : {X Y : Type 0} (f : X → Y) (o : Option X) → is_some (option_map f o) ≡ is_some o
map-some f None = refl
map-some f (Some x) = refl

pub lowest_cell_is : (t : Term) (xs : List Numbered)
    → option_map (λ f. f.0) (lowest (sought_at kind.Cell t) xs) ≡ option_map (λ f. f.0) (lowest (λ x. fields_at x t) xs)
lowest_cell_is t xs =
    same-number (sought_at kind.Cell t) (λ x. fields_at x t) (λ x. map-some _ (fields_at x t)) xs

pub lowest_tree_is : (t : Term) (xs : List Numbered)
    → option_map (λ f. f.0) (lowest (sought_at kind.Tree t) xs) ≡ option_map (λ f. f.0) (lowest (tree_at t) xs)
lowest_tree_is t xs = same-number (sought_at kind.Tree t) (tree_at t) (λ x. map-some _ (tree_at t x)) xs

-- the lowest atom that is a wanted one
pub lowest_between_is : (t u : Term) (xs : List Numbered)
    → option_map (λ f. f.0) (lowest (sought_at (kind.SegmentTo u) t) xs)
    ≡ option_map (λ f. f.0) (lowest (which (λ x. is_same_shape x (Ls t u))) xs)
lowest_between_is t u xs =
    same-number (sought_at (kind.SegmentTo u) t) (which (λ x. is_same_shape x (Ls t u)))
    (λ x. map-some _ (which (λ y. is_same_shape y (Ls t u)) x)) xs

pub lowest_same_tree_is : (t : Term) (xs : List Numbered)
    → option_map (λ f. f.0) (lowest (sought_at kind.Tree t) xs)
    ≡ option_map (λ f. f.0) (lowest (which (λ x. is_same_shape x (Tree t))) xs)
lowest_same_tree_is t xs = same-number (sought_at kind.Tree t) (which (λ x. is_same_shape x (Tree t))) each xs
  where
    each : (x : Atom) → is_some (sought_at kind.Tree t x) ≡ is_some (which (λ y. is_same_shape y (Tree t)) x)
    each (Points u fields) = refl
    each (Ls u v) = refl
    each (Tree u) = map-some _ (tree_at t (Tree u))
    each (Dll v p l u) = refl

pub lowest_same_double_is : (t q m w : Term) (xs : List Numbered)
    → option_map (λ f. f.0) (lowest (sought_at (kind.DoubleTo q m w) t) xs)
    ≡ option_map (λ f. f.0) (lowest (which (λ x. is_same_shape x (Dll t q m w))) xs)
lowest_same_double_is t q m w xs =
    same-number (sought_at (kind.DoubleTo q m w) t) (which (λ x. is_same_shape x (Dll t q m w)))
    (λ x. map-some _ (which (λ y. is_same_shape y (Dll t q m w)) x)) xs

pub lowest_same_cell_is : (t : Term) (fields : List (FieldId × Term)) (xs : List Numbered)
    → option_map (λ f. f.0) (lowest (which (λ x. is_same_shape x (Points t fields))) xs) ≡ None
lowest_same_cell_is t fields [] = refl
lowest_same_cell_is t fields (x ∷ xs) = go x.atom (lowest_same_cell_is t fields xs)
  where
    go : (a : Atom) → number (lowest (which (λ y. is_same_shape y (Points t fields))) xs) ≡ None
        → number (lower (option_map (λ y. (x.number, y)) (which (λ y. is_same_shape y (Points t fields)) a))
        (lowest (which (λ y. is_same_shape y (Points t fields))) xs)) ≡ None
    go (Points u others) e = e
    go (Ls u v) e = e
    go (Tree u) e = e
    go (Dll v p l u) e = e

some-cond : {X Y : Type 0} (f : X → Y) (b : Bool) (x : X) → is_some (option_map f (cond b (Some x) None)) ≡ b
some-cond f true x = refl
some-cond f false x = refl

is-some-cond : {X : Type 0} (b : Bool) (x : X) → is_some (cond b (Some x) None) ≡ b
is-some-cond true x = refl
is-some-cond false x = refl

-- a doubly linked segment from the term
pub same-double : (t : Term) (x : Atom) → is_some (double_at t x) ≡ is_kind kind.Double t x
same-double t (Points v fields) = refl
same-double t (Ls v w) = refl
same-double t (Tree v) = refl
same-double t (Dll v p l u) = is-some-cond (same_term v t) (p, l, u)

-- one of which the last cell may be there
pub same-last : (t : Term) (x : Atom) → is_some (last_at t x) ≡ is_kind kind.DoubleLast t x
same-last t (Points v fields) = refl
same-last t (Ls v w) = refl
same-last t (Tree v) = refl
same-last t (Dll v p l u) = is-some-cond (same_term l t) (v, u)

-- a cell there
pub same-cell : (t : Term) (x : Atom) → is_some (fields_at x t) ≡ is_kind kind.Cell t x
same-cell t (Points v fields) = is-some-cond (same_term v t) fields
same-cell t (Ls v w) = refl
same-cell t (Tree v) = refl
same-cell t (Dll v p l u) = refl

-- what is sought is an atom of that kind
pub same-kind : (k : Kind) (t : Term) (x : Atom) → is_some (sought_at k t x) ≡ is_kind k t x
same-kind kind.Cell t (Points v fields) = some-cond _ (same_term v t) fields
same-kind kind.Cell t (Ls v w) = refl
same-kind kind.Cell t (Tree v) = refl
same-kind kind.Cell t (Dll v p l u) = refl
same-kind kind.Segment t (Points v fields) = refl
same-kind kind.Segment t (Ls v w) = go (same_term v t)
  where
    go : (b : Bool) → is_some (cond b (Some w) None) ≡ b
    go true = refl
    go false = refl
same-kind kind.Segment t (Tree v) = refl
same-kind kind.Segment t (Dll v p l u) = refl
same-kind (kind.SegmentTo u) t (Points v fields) = refl
same-kind (kind.SegmentTo u) t (Ls v w) = some-cond _ (same_term v t && same_term w u) (Ls v w)
same-kind (kind.SegmentTo u) t (Tree v) = refl
same-kind (kind.SegmentTo w) t (Dll v p l u) = refl
same-kind kind.Tree t (Points v fields) = refl
same-kind kind.Tree t (Ls v w) = refl
same-kind kind.Tree t (Tree v) = some-cond _ (same_term v t) (Tree v)
same-kind kind.Tree t (Dll v p l u) = refl
same-kind kind.Double t x = map-some _ (double_at t x) ∙ same-double t x
same-kind kind.DoubleLast t x = map-some _ (last_at t x) ∙ same-last t x
same-kind (kind.DoubleTo q m w) t (Points v fields) = refl
same-kind (kind.DoubleTo q m w) t (Ls v x) = refl
same-kind (kind.DoubleTo q m w) t (Tree v) = refl
same-kind (kind.DoubleTo q m w) t (Dll v p l u) =
    some-cond _ (same_term v t && (same_term p q && (same_term l m && same_term u w))) (Dll v p l u)

nothing-is : {X : Type 0} (o : Option X) → is_some o ≡ false → o ≡ None
nothing-is None e = refl
nothing-is (Some x) e = absurd (cc)

above-each : (n : ℕ) (xs : List Numbered) → AllByRecursion (λ m. n < m) (numbers xs) → (a : Numbered) → Contains xs a
    → n < a.number
above-each n [] all a c = absurd (contains-nil a c)
above-each n (x ∷ xs) all a c = elim ((contains-cons x xs a).0 c) [
  | inl here ↦ subst (λ (z : Numbered). n < z.number) here all.0
  | inr there ↦ above-each n xs all.1 a there
]

module _ {X : Type 0} (f : Atom → Option X) (test : Atom → Bool) (same : (x : Atom) → is_some (f x) ≡ test x) where
  -- where no atom passes, there is no lowest
  pub lowest-none : (xs : List Numbered) → IsLowest (λ a. test a.atom) xs None → lowest f xs ≡ None
  lowest-none [] l = refl
  lowest-none (y ∷ ys) l =
      lowest_other f y ys (nothing-is (f y.atom) (same y.atom ∙ l y ((contains-cons y ys y).1 (inl refl))))
      ∙ lowest-none ys (λ a c. l a ((contains-cons y ys a).1 (inr c)))

  -- the lowest that passes, by its number
  abbrev IsFound : List Numbered → ℕ → Type 0
  IsFound xs n = (a : Atom) × (x : X) × (atom_at xs n ≡ Some a) × (f a ≡ Some x) × (lowest f xs ≡ Some (n, x))

  pub lowest-at : (xs : List Numbered) → AreRising (numbers xs) → (n : ℕ) → IsLowest (λ a. test a.atom) xs (Some n)
      → IsFound xs n
  lowest-at [] r n l = absurd (contains-nil l.0.0 l.0.1)
  lowest-at (y ∷ ys) r n l = go (f y.atom) refl (lowest-at ys r.1 n)
    where
      first : (z : X) → f y.atom ≡ Some z → y.number ≡ n
      first z e =
          let low : n ≤ y.number =
          l.1 y ((contains-cons y ys y).1 (inl refl)) (sym (same y.atom) ∙ ap is_some e) in
          elim ((contains-cons y ys l.0.0).0 l.0.1) [
            | inl here ↦ ap (λ (z : Numbered). z.number) here ∙ l.0.2
            | inr there ↦
                let more = above-each y.number ys r.0 l.0.0 there in
                let is = l.0.2 in absurd (omega (arith, low, more, is))
          ]

      -- one that doesn't pass isn't it
      others : f y.atom ≡ None → Contains ys l.0.0
      others e = elim ((contains-cons y ys l.0.0).0 l.0.1) [
        | inl here ↦
            let wrong : is_some (f y.atom) ≡ true =
            same y.atom ∙ ap (λ (z : Numbered). test z.atom) here ∙ l.0.3 in
            absurd (true≢false (sym wrong ∙ ap is_some e))
        | inr there ↦ there
      ]

      go : (o : Option X) → f y.atom ≡ o → (IsLowest (λ a. test a.atom) ys (Some n) → IsFound ys n)
          → IsFound (y ∷ ys) n
      go (Some z) e rest =
          let is = first z e in
          (y.atom, z, here y ys n is, e, lowest_first f y ys z r e ∙ ap (λ m. Some (m, z)) is)
      go None e rest =
          let there = others e in
          let w = rest ((l.0.0, there, l.0.2, l.0.3), λ a c t. l.1 a ((contains-cons y ys a).1 (inr c)) t) in
          let before = above-each y.number ys r.0 l.0.0 there in
          let is = l.0.2 in
          (w.0, w.1, later y ys n (omega (arith, before, is)) ∙ w.2, w.3, lowest_other f y ys e ∙ w.4)

  -- the same of a number that is found
  pub found-lowest : (xs : List Numbered) → AreRising (numbers xs) → (o : Option ℕ) (n : ℕ)
      → IsLowest (λ a. test a.atom) xs o → o ≡ Some n → IsFound xs n
  found-lowest xs r o n l e = lowest-at xs r n (subst (IsLowest (λ a. test a.atom) xs) e l)

  pub found-no-lowest : (xs : List Numbered) (o : Option ℕ) → IsLowest (λ a. test a.atom) xs o → o ≡ None
      → lowest f xs ≡ None
  found-no-lowest xs o l e = lowest-none xs (subst (IsLowest (λ a. test a.atom) xs) e l)

-- the lowest atom of a kind at a term is what is sought there
pub kind-found : (k : Kind) (t : Term) (xs : List Numbered) → AreRising (numbers xs) → (o : Option ℕ) (n : ℕ)
    → IsLowest (λ a. is_kind k t a.atom) xs o → o ≡ Some n
    → (a : Atom) × (x : Term) × (atom_at xs n ≡ Some a) × (sought_at k t a ≡ Some x)
    × (lowest (sought_at k t) xs ≡ Some (n, x))
kind-found k t = found-lowest (sought_at k t) (is_kind k t) (same-kind k t)

pub kind-none : (k : Kind) (t : Term) (xs : List Numbered) (o : Option ℕ)
    → IsLowest (λ a. is_kind k t a.atom) xs o → o ≡ None → lowest (sought_at k t) xs ≡ None
kind-none k t = found-no-lowest (sought_at k t) (is_kind k t) (same-kind k t)
