-- The lowest atom of which something is so, where the numbers of the atoms rise.
-- Names: `lowest_LAW` of the lowest of a list, `lower_LAW` of the lower of two.
use Rattle.std.proofs.Common.{◌≡◌, ℕ, ◌<◌, Bool, true, false, cond, nat_lt, Option, Some, None, List, [], ◌∷◌, ◌++◌, is_some, refl, sym, ap, ◌∙◌, arith}
use Rattle.std.proofs.lemmas.Bool.{ltb-true, ltb-false}
use Rattle.std.proofs.lemmas.Option.{same_Some}
use Rattle.std.specs.List.{AllByRecursion}
use Rattle.std.specs.Option.{option_map}
use Rattle.sf_base.specs.declared.ids.FieldId.{FieldId}
use Rattle.sf_sym.specs.declared.atom.Atom.{Atom}
use Rattle.sf_sym.specs.declared.atom.Numbered.{Numbered}
use Rattle.sf_sym.specs.declared.tag.Tag.TheVariants as t
use Rattle.sf_sym.specs.declared.term.Term.{Term}
use Rattle.sf_sym.specs.Known.{forced_pair, first_forced, first_nothing, is_nothing, or_else as first}
use Rattle.sf_sym.specs.Numbers.{AreRising, numbers}
use Rattle.sf_sym.specs.State.{State}
use Rattle.sf_search.specs.declared.choices.choice.Choice.{Choice}
use Rattle.sf_search.specs.declared.choices.choice.Choice.TheVariants.{Takes as takes}
use Rattle.sf_search.specs.Strategy.{lower, lowest, lowest_forced, or_else, which}
use Rattle.sf_search.specs.Checked.Chooses.{found_or, takes_if}

-- a number below another isn't above it
not-above : (m n : ℕ) (b : Bool) → n < m → nat_lt m n ≡ b → b ≡ false
not-above m n true l e = let g : m < n = ltb-true m n e in absurd (omega (arith, l, g))
not-above m n false l e = refl

module _ {X : Type 0} where
  -- of two things the first, where the second doesn't have a lower number
  pub lower-first : (a : ℕ × X) (o : Option (ℕ × X)) → ((b : ℕ × X) → o ≡ Some b → a.0 < b.0)
      → lower (Some a) o ≡ Some a
  lower-first a None above = refl
  lower-first a (Some b) above =
      ap (λ t. cond t (Some b) (Some a)) (not-above b.0 a.0 (nat_lt b.0 a.0) (above b refl) refl)

  -- the lower of two things that are above a number is above it
  lower_above : (n m : ℕ) → n < m → (o : Option X) (p : Option (ℕ × X)) → ((c : ℕ × X) → p ≡ Some c → n < c.0)
      → (b : ℕ × X) → lower (option_map (λ y. (m, y)) o) p ≡ Some b → n < b.0
  lower_above n m l None p others b i = others b i
  lower_above n m l (Some y) None others b i = rw (← ap (λ z. z.0) (same_Some (m, y) b i)) l
  lower_above n m l (Some y) (Some c) others b i = step (nat_lt c.0 m) i
    where
      step : (t : Bool) → cond t (Some c) (Some (m, y)) ≡ Some b → n < b.0
      step true j = rw (← ap (λ z. z.0) (same_Some c b j)) (others c refl)
      step false j = rw (← ap (λ z. z.0) (same_Some (m, y) b j)) l

  -- what is found among atoms has a number above theirs
  pub above-all : (f : Atom → Option X) (n : ℕ) (xs : List Numbered) → AllByRecursion (λ m. n < m) (numbers xs)
      → (b : ℕ × X) → lowest f xs ≡ Some b → n < b.0
  above-all f n [] all b e = absurd (cc)
  above-all f n (x ∷ xs) all b e =
      lower_above n x.number all.0 (f x.atom) (lowest f xs) (above-all f n xs all.1) b e

  -- the first of which something is so is the lowest
  pub lowest_first : (f : Atom → Option X) (a : Numbered) (xs : List Numbered) (x : X)
      → AreRising (numbers (a ∷ xs)) → f a.atom ≡ Some x → lowest f (a ∷ xs) ≡ Some (a.number, x)
  lowest_first f a xs x rising e =
      ap (λ o. lower (option_map (λ y. (a.number, y)) o) (lowest f xs)) e
      ∙ lower-first (a.number, x) (lowest f xs) (above-all f a.number xs rising.0)

  -- the same of its number
  pub number_first : (f : Atom → Option X) (a : Numbered) (xs : List Numbered) → AreRising (numbers (a ∷ xs))
      → is_some (f a.atom) ≡ true → option_map (λ p. p.0) (lowest f (a ∷ xs)) ≡ Some a.number
  number_first f a xs rising e = go (f a.atom) refl e
    where
      go : (o : Option X) → f a.atom ≡ o → is_some o ≡ true → option_map (λ p. p.0) (lowest f (a ∷ xs)) ≡ Some
          a.number
      go None i j = absurd (cc)
      go (Some x) i j = ap (option_map (λ p. p.0)) (lowest_first f a xs x rising i)

  -- where nothing is so of an atom it is left out
  pub lowest_other : (f : Atom → Option X) (a : Numbered) (xs : List Numbered) → f a.atom ≡ None
      → lowest f (a ∷ xs) ≡ lowest f xs
  lowest_other f a xs e = ap (λ o. lower (option_map (λ y. (a.number, y)) o) (lowest f xs)) e

  -- of three things the lowest is one, however they are compared
  pub lower_assoc : (a b c : Option (ℕ × X)) → lower (lower a b) c ≡ lower a (lower b c)
  lower_assoc None b c = refl
  lower_assoc (Some a) None c = refl
  lower_assoc (Some a) (Some b) None = step (nat_lt b.0 a.0)
    where
      step : (t : Bool) → lower (cond t (Some b) (Some a)) None ≡ cond t (Some b) (Some a)
      step true = refl
      step false = refl
  lower_assoc (Some a) (Some b) (Some c) =
      step (nat_lt b.0 a.0) (nat_lt c.0 b.0) (nat_lt c.0 a.0) refl refl refl
    where
      step : (r s t : Bool) → nat_lt b.0 a.0 ≡ r → nat_lt c.0 b.0 ≡ s → nat_lt c.0 a.0 ≡ t
          → lower (cond r (Some b) (Some a)) (Some c) ≡ lower (Some a) (cond s (Some c) (Some b))
      step true true true i j k = ap (λ u. cond u (Some c) (Some b)) j ∙ sym (ap (λ u. cond u (Some c) (Some a)) k)
      step true true false i j k =
          absurd (omega (arith, ltb-true b.0 a.0 i, ltb-true c.0 b.0 j, ltb-false c.0 a.0 k))
      step true false t i j k =
          ap (λ u. cond u (Some c) (Some b)) j ∙ sym (ap (λ u. cond u (Some b) (Some a)) i)
      step false true t i j k = refl
      step false false true i j k =
          absurd (omega (arith, ltb-false b.0 a.0 i, ltb-false c.0 b.0 j, ltb-true c.0 a.0 k))
      step false false false i j k =
          ap (λ u. cond u (Some c) (Some a)) k ∙ sym (ap (λ u. cond u (Some b) (Some a)) i)

  -- the lowest of two lists is the lower one of theirs
  pub lowest_append : (f : Atom → Option X) (xs ys : List Numbered)
      → lowest f (xs ++ ys) ≡ lower (lowest f xs) (lowest f ys)
  lowest_append f [] ys = refl
  lowest_append f (x ∷ xs) ys =
      ap (lower (option_map (λ y. (x.number, y)) (f x.atom))) (lowest_append f xs ys)
      ∙ sym (lower_assoc (option_map (λ y. (x.number, y)) (f x.atom)) (lowest f xs) (lowest f ys))

-- the first empty atom is the lowest one
pub nothing_is_lowest : (xs : List Numbered) → AreRising (numbers xs)
    → option_map (λ f. f.0) (lowest (which is_nothing) xs) ≡ first_nothing xs
nothing_is_lowest [] rising = refl
nothing_is_lowest (x ∷ xs) rising = go (is_nothing x.atom) refl (nothing_is_lowest xs rising.1)
  where
    go : (b : Bool) → is_nothing x.atom ≡ b → option_map (λ f. f.0) (lowest (which is_nothing) xs) ≡ first_nothing xs
        → option_map (λ f. f.0) (lowest (which is_nothing) (x ∷ xs)) ≡ cond b (Some x.number) (first_nothing xs)
    go true e r =
        ap (option_map (λ f. f.0))
        (lowest_first (which is_nothing) x xs x.atom rising (ap (λ t. cond t (Some x.atom) None) e))
    go false e r =
        ap (option_map (λ f. f.0)) (lowest_other (which is_nothing) x xs (ap (λ t. cond t (Some x.atom) None) e)) ∙ r

-- forced atoms have numbers above those of the list
pub forced-above : (s : State) (n : ℕ) (xs : List Numbered) → AllByRecursion (λ m. n < m) (numbers xs)
    → (b : ℕ × (Term × Term)) → lowest_forced s xs ≡ Some b → n < b.0
forced-above s n [] all b e = absurd (cc)
forced-above s n (x ∷ xs) all b e =
    lower_above n x.number all.0 (forced_pair s x.number x.atom) (lowest_forced s xs) (forced-above s n xs all.1) b e

-- the first forced atom is the lowest one
pub forced_is_lowest : (s : State) (xs : List Numbered) → AreRising (numbers xs)
    → option_map (λ f. f.0) (lowest_forced s xs) ≡ option_map (λ f. f.0) (first_forced s xs)
forced_is_lowest s [] rising = refl
forced_is_lowest s (x ∷ xs) rising =
    go (forced_pair s x.number x.atom) (forced_is_lowest s xs rising.1)
  where
    go : (o : Option (Term × Term))
        → option_map (λ f. f.0) (lowest_forced s xs) ≡ option_map (λ f. f.0) (first_forced s xs)
        → option_map (λ f. f.0) (lower (option_map (λ y. (x.number, y)) o) (lowest_forced s xs))
        ≡ option_map (λ f. f.0) (first (option_map (λ e. (x.number, e.0, e.1)) o) (first_forced s xs))
    go None r = r
    go (Some y) r =
        ap (option_map (λ f. f.0))
        (lower-first (x.number, y) (lowest_forced s xs) (forced-above s x.number xs rising.0))

-- at a cell that is wanted: there is one
pub cell_there : (found : ℕ → Choice) (c : Choice) (o : Option (ℕ × List (FieldId × Term))) (a : ℕ)
    → Some a ≡ option_map (λ f. f.0) o → found_or found c o ≡ found a
cell_there found c None a e = absurd (cc)
cell_there found c (Some f) a e = ap found (sym (same_Some a f.0 e))

-- there is none
pub no_cell_there : (found : ℕ → Choice) (c : Choice) (o : Option (ℕ × List (FieldId × Term)))
    → None ≡ option_map (λ f. f.0) o → found_or found c o ≡ c
no_cell_there found c None e = refl
no_cell_there found c (Some f) e = absurd (cc)

-- by what is known alone: nothing is to be done
pub state_none : {X Y : Type 0} (b : Bool) (o : Option (ℕ × X)) (p : Option (ℕ × Y)) (c : Choice) → b ≡ false
    → option_map (λ f. f.0) o ≡ None → option_map (λ f. f.0) p ≡ None
    → or_else (takes_if b t.Absurd)
    (or_else (option_map (λ f. takes (t.Drop f.0)) o) (or_else (option_map (λ f. takes (t.Force f.0)) p) c)) ≡ c
state_none true o p c e f g = absurd (cc)
state_none false (Some x) p c e f g = absurd (cc)
state_none false None (Some y) c e f g = absurd (cc)
state_none false None None c e f g = refl

-- an atom is forced
pub state_forced : {X Y : Type 0} (b : Bool) (o : Option (ℕ × X)) (p : Option (ℕ × Y)) (c : Choice) (a : ℕ)
    → b ≡ false → option_map (λ f. f.0) o ≡ None → option_map (λ f. f.0) p ≡ Some a
    → or_else (takes_if b t.Absurd)
    (or_else (option_map (λ f. takes (t.Drop f.0)) o) (or_else (option_map (λ f. takes (t.Force f.0)) p) c))
    ≡ takes (t.Force a)
state_forced true o p c a e f g = absurd (cc)
state_forced false (Some x) p c a e f g = absurd (cc)
state_forced false None None c a e f g = absurd (cc)
state_forced false None (Some y) c a e f g = ap (λ n. takes (t.Force n)) (same_Some y.0 a g)
