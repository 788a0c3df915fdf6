-- What is found among atoms: its place, and that it is the atom of its number where numbers rise.
-- Names: `found-LAW` of the lowest of a list, `all-LAW` of what is so of each element.
use Rattle.std.proofs.Common.{◌≡◌, ℕ, zero, suc, ◌<◌, ◌==◌, Bool, true, false, cond, nat_lt, Option, Some, None, List, [], ◌∷◌, ◌++◌, refl, sym, ap, ◌∙◌, subst, arith}
use Rattle.std.proofs.lemmas.Bool.Decides.{Decides-eqb}
use Rattle.std.proofs.lemmas.Option.{same_Some}
use Rattle.std.specs.List.{AllByRecursion, slice_get}
use Rattle.std.specs.Option.{option_map}
use Rattle.sf_search.proofs.Lowest.{above-all, forced-above, lower-first, lowest_first, lowest_other}
use Rattle.sf_search.specs.Strategy.{lower, lowest, lowest_forced}
use Rattle.sf_sym.specs.Cells.{atom_at, cell_at, fields_at}
use Rattle.sf_sym.specs.declared.atom.Atom.{Atom}
use Rattle.sf_sym.specs.declared.atom.Numbered.{Numbered}
use Rattle.sf_sym.specs.declared.term.Term.{Term}
use Rattle.sf_sym.specs.Numbers.{AreRising, numbers}
use Rattle.sf_sym.specs.Known.{forced_pair}
use Rattle.sf_sym.specs.State.{State}

-- what is so of each element is so of that one
pub all-at : {X : Type 0} (P : X → Type 0) (xs : List X) (k : ℕ) (x : X) → AllByRecursion P xs
    → slice_get xs k ≡ Some x → P x
all-at P [] k x all e = absurd (cc)
all-at P (y ∷ ys) zero x all e = subst P (same_Some y x e) all.0
all-at P (y ∷ ys) (suc k) x all e = all-at P ys k x all.1 e

-- and of those of two lists
pub all-append : {X : Type 0} (P : X → Type 0) (xs ys : List X) → AllByRecursion P xs → AllByRecursion P ys
    → AllByRecursion P (xs ++ ys)
all-append P [] ys a b = b
all-append P (x ∷ xs) ys a b = (a.0, all-append P xs ys a.1 b)

not-same : (a b : ℕ) (t : Bool) → a < b → a == b ≡ t → t ≡ false
not-same a b true l e = let same : a ≡ b = (Decides-eqb a b).0 e in absurd (omega (arith, l, same))
not-same a b false l e = refl

-- the atom of a number that rises from those before it
pub here : (y : Numbered) (ys : List Numbered) (n : ℕ) → y.number ≡ n → atom_at (y ∷ ys) n ≡ Some y.atom
here y ys n e = ap (λ t. cond t (Some y.atom) (atom_at ys n)) ((Decides-eqb y.number n).1 e)

pub later : (y : Numbered) (ys : List Numbered) (n : ℕ) → y.number < n → atom_at (y ∷ ys) n ≡ atom_at ys n
later y ys n l =
    ap (λ t. cond t (Some y.atom) (atom_at ys n)) (not-same y.number n (y.number == n) l refl)

-- a cell by its number is the atom of that number
pub cell-of_atom : (xs : List Numbered) (n : ℕ) (a : Atom) (u : Term) → atom_at xs n ≡ Some a
    → cell_at xs n u ≡ fields_at a u
cell-of_atom [] n a u e = absurd (cc)
cell-of_atom (y ∷ ys) n a u e = go (y.number == n) refl (cell-of_atom ys n a u) e
  where
    go : (t : Bool) → y.number == n ≡ t → (atom_at ys n ≡ Some a → cell_at ys n u ≡ fields_at a u)
        → cond t (Some y.atom) (atom_at ys n) ≡ Some a
        → cond t (fields_at y.atom u) (cell_at ys n u) ≡ fields_at a u
    go true i r j = ap (λ z. fields_at z u) (same_Some y.atom a j)
    go false i r j = r j

-- the atom of that number, of which that is so, and its place
pub record FoundAt {X : Type 0} (f : Atom → Option X) (n : ℕ) (x : X) (xs : List Numbered) : Type 0 where
  pub atom : Atom
  pub at : atom_at xs n ≡ Some atom
  pub is : f atom ≡ Some x
  pub place : ℕ
  pub there : slice_get xs place ≡ Some (record { number = n; atom = atom })

module _ {X : Type 0} where
  found-here : (f : Atom → Option X) (y : Numbered) (ys : List Numbered) (n : ℕ) (x z : X) → f y.atom ≡ Some z
      → ◌≡◌ {A = ℕ × X} (y.number, z) (n, x) → FoundAt f n x (y ∷ ys)
  found-here f y ys n x z i e = record {
    atom = y.atom;
    at = here y ys n (ap (λ q. q.0) e);
    is = i ∙ ap (λ q. Some q.1) e;
    place = zero;
    there = ap (λ m. Some (record { number = m; atom = y.atom })) (ap (λ q. q.0) e);
  }

  found-later : (f : Atom → Option X) (y : Numbered) (ys : List Numbered) (n : ℕ) (x : X) → y.number < n
      → FoundAt f n x ys → FoundAt f n x (y ∷ ys)
  found-later f y ys n x l w = record {
    atom = w.atom;
    at = later y ys n l ∙ w.at;
    is = w.is;
    place = suc w.place;
    there = w.there;
  }

  -- the lowest is the atom of its number
  pub found-at : (f : Atom → Option X) (xs : List Numbered) → AreRising (numbers xs) → (n : ℕ) (x : X)
      → lowest f xs ≡ Some (n, x) → FoundAt f n x xs
  found-at f [] rising n x e = absurd (cc)
  found-at f (y ∷ ys) rising n x e = go (f y.atom) refl (found-at f ys rising.1 n x)
    where
      go : (o : Option X) → f y.atom ≡ o → (lowest f ys ≡ Some (n, x) → FoundAt f n x ys)
          → FoundAt f n x (y ∷ ys)
      go None i r =
          let rest : lowest f ys ≡ Some (n, x) = sym (lowest_other f y ys i) ∙ e in
          found-later f y ys n x (above-all f y.number ys rising.0 (n, x) rest) (r rest)
      go (Some z) i r =
          found-here f y ys n x z i
          (same_Some (y.number, z) (n, x) (sym (lowest_first f y ys z rising i) ∙ e))

  -- the lowest is one of them, whatever their numbers
  pub found-among : (f : Atom → Option X) (xs : List Numbered) (b : ℕ × X) → lowest f xs ≡ Some b
      → (k : ℕ) × (y : Numbered) × (slice_get xs k ≡ Some y) × (f y.atom ≡ Some b.1)
  found-among f [] b e = absurd (cc)
  found-among f (y ∷ ys) b e = go (f y.atom) (lowest f ys) refl (found-among f ys) e
    where
      go : (o : Option X) (p : Option (ℕ × X)) → f y.atom ≡ o
          → ((c : ℕ × X) → p ≡ Some c
          → (k : ℕ) × (z : Numbered) × (slice_get ys k ≡ Some z) × (f z.atom ≡ Some c.1))
          → lower (option_map (λ z. (y.number, z)) o) p ≡ Some b
          → (k : ℕ) × (z : Numbered) × (slice_get (y ∷ ys) k ≡ Some z) × (f z.atom ≡ Some b.1)
      go None p i r j = let w = r b j in (suc w.0, w.1, w.2, w.3)
      go (Some z) None i r j = (zero, y, refl, i ∙ ap (λ q. Some q.1) (same_Some (y.number, z) b j))
      go (Some z) (Some c) i r j = step (nat_lt c.0 y.number) j
        where
          step : (t : Bool) → cond t (Some c) (Some (y.number, z)) ≡ Some b
              → (k : ℕ) × (x : Numbered) × (slice_get (y ∷ ys) k ≡ Some x) × (f x.atom ≡ Some b.1)
          step true l = let w = r b l in (suc w.0, w.1, w.2, w.3)
          step false l = (zero, y, refl, i ∙ ap (λ q. Some q.1) (same_Some (y.number, z) b l))

  -- of two things neither is there, where there is no lower one
  none-lower : (n : ℕ) (o : Option X) (p : Option (ℕ × X)) → lower (option_map (λ z. (n, z)) o) p ≡ None
      → (o ≡ None) × (p ≡ None)
  none-lower n None p e = (refl, e)
  none-lower n (Some z) None e = absurd (cc)
  none-lower n (Some z) (Some c) e = absurd (step (nat_lt c.0 n) e)
    where
      step : (t : Bool) → cond t (Some c) (Some (n, z)) ≡ None → ⊥
      step true q = absurd (cc)
      step false q = absurd (cc)

  -- where there is no lowest, nothing is so of any
  pub found-none : (f : Atom → Option X) (xs : List Numbered) (k : ℕ) (y : Numbered) → lowest f xs ≡ None
      → slice_get xs k ≡ Some y → f y.atom ≡ None
  found-none f [] k y e i = absurd (cc)
  found-none f (x ∷ xs) zero y e i =
      ap (λ z. f z.atom) (sym (same_Some x y i)) ∙ (none-lower x.number (f x.atom) (lowest f xs) e).0
  found-none f (x ∷ xs) (suc k) y e i =
      found-none f xs k y (none-lower x.number (f x.atom) (lowest f xs) e).1 i

-- where there is no lowest forced atom, none is forced
pub none-forced : (s : State) (xs : List Numbered) (k : ℕ) (y : Numbered) → lowest_forced s xs ≡ None
    → slice_get xs k ≡ Some y → forced_pair s y.number y.atom ≡ None
none-forced s [] k y e i = absurd (cc)
none-forced s (x ∷ xs) zero y e i =
    ap (λ (z : Numbered). forced_pair s z.number z.atom) (sym (same_Some x y i))
    ∙ (none-lower x.number (forced_pair s x.number x.atom) (lowest_forced s xs) e).0
none-forced s (x ∷ xs) (suc k) y e i =
    none-forced s xs k y (none-lower x.number (forced_pair s x.number x.atom) (lowest_forced s xs) e).1 i

-- the lowest forced atom is the atom of its number
pub found-forced : (s : State) (xs : List Numbered) → AreRising (numbers xs) → (n : ℕ) (e : Term × Term)
    → lowest_forced s xs ≡ Some (n, e) → (a : Atom) × (atom_at xs n ≡ Some a) × (forced_pair s n a ≡ Some e)
found-forced s [] rising n e i = absurd (cc)
found-forced s (y ∷ ys) rising n e i = go (forced_pair s y.number y.atom) refl (found-forced s ys rising.1 n e)
  where
    go : (o : Option (Term × Term)) → forced_pair s y.number y.atom ≡ o
        → (lowest_forced s ys ≡ Some (n, e)
        → (a : Atom) × (atom_at ys n ≡ Some a) × (forced_pair s n a ≡ Some e))
        → (a : Atom) × (atom_at (y ∷ ys) n ≡ Some a) × (forced_pair s n a ≡ Some e)
    go None h r =
        let rest : lowest_forced s ys ≡ Some (n, e) =
        sym (ap (λ o. lower (option_map (λ z. (y.number, z)) o) (lowest_forced s ys)) h) ∙ i in
        let w = r rest in
        (w.0, later y ys n (forced-above s y.number ys rising.0 (n, e) rest) ∙ w.1, w.2)
    go (Some z) h r =
        let same : Some (y.number, z) ≡ Some (n, e) =
        sym (lower-first (y.number, z) (lowest_forced s ys) (forced-above s y.number ys rising.0))
        ∙ sym (ap (λ o. lower (option_map (λ z. (y.number, z)) o) (lowest_forced s ys)) h) ∙ i in
        let pair = same_Some (y.number, z) (n, e) same in (
          y.atom,
          here y ys n (ap (λ q. q.0) pair),
          subst (λ m. forced_pair s m y.atom ≡ Some e) (ap (λ q. q.0) pair) (h ∙ ap (λ q. Some q.1) pair),
        )
