-- The numbers of a state's atoms, where one comes, goes, or is handed over.
-- Names: `all-LAW` speaks of what holds of each element, `rising-LAW` and `different-LAW` of such lists of numbers,
-- `numbers-LAW` of the numbers of a list of atoms, `numbered-EVENT` of all numbers after an event.
use Rattle.std.proofs.Common.{◌≡◌, ◌≢◌, ℕ, zero, suc, ◌+◌, ◌<◌, true, is_some, Option, None, Some, List, [], ◌∷◌, ◌++◌, length, get_or, map, refl, sym, ap, ◌∙◌, subst, arith}
use Rattle.std.specs.List.{AllByRecursion, remove}
use Rattle.std.specs.Option.{option_and_then}
use Rattle.std.proofs.lemmas.List.{length-map, map-append}
use Rattle.sf_base.proofs.Elements.{all_by-append}
use Rattle.sf_base.specs.declared.ids.FieldId.{FieldId}
use Rattle.sf_sym.specs.declared.atom.Atom.{Atom}
use Rattle.sf_sym.specs.declared.atom.Numbered.{Numbered}
use Rattle.sf_sym.specs.declared.term.Term.{Term}
use Rattle.sf_sym.specs.Cells.{atom_at, cell_at, fields_at, with_fields, without}
use Rattle.sf_sym.specs.Equalities.{numbered_with}
use Rattle.sf_sym.specs.Fields.{put_term}
use Rattle.sf_sym.specs.Checked.Indices.{index_from}
use Rattle.sf_sym.specs.Checked.Lemmas.AtomLists.{numbers-fields}
use Rattle.sf_sym.proofs.Indices.{cell_of_atom, is_at, no_atom, nothing_without}
use Rattle.sf_sym.specs.Numbers.{AreDifferent, AreNumbered, AreRising, numbers}

all-map : {X : Type 0} (P Q : X → Type 0) → ((x : X) → P x → Q x) → (xs : List X) → AllByRecursion P xs
    → AllByRecursion Q xs
all-map P Q f [] a = tt
all-map P Q f (x ∷ xs) a = (f x a.0, all-map P Q f xs a.1)

all-zip : {X : Type 0} (P Q R : X → Type 0) → ((x : X) → P x → Q x → R x) → (xs : List X) → AllByRecursion P xs
    → AllByRecursion Q xs → AllByRecursion R xs
all-zip P Q R f [] a b = tt
all-zip P Q R f (x ∷ xs) a b = (f x a.0 b.0, all-zip P Q R f xs a.1 b.1)

all-remove : {X : Type 0} (P : X → Type 0) (xs : List X) (k : ℕ) → k < length xs → AllByRecursion P xs
    → AllByRecursion P (remove xs k)
all-remove P [] k lt a = absurd (omega (arith, lt))
all-remove P (x ∷ xs) zero lt a = a.1
all-remove P (x ∷ xs) (suc k) lt a = (a.0, all-remove P xs k (omega (arith, lt)) a.1)

all-at : {X : Type 0} (P : X → Type 0) (xs : List X) (k : ℕ) (d : X) → k < length xs → AllByRecursion P xs
    → P (get_or xs k d)
all-at P [] k d lt a = absurd (omega (arith, lt))
all-at P (x ∷ xs) zero d lt a = a.0
all-at P (x ∷ xs) (suc k) d lt a = all-at P xs k d (omega (arith, lt)) a.1

less-other : (m n : ℕ) → m < n → m ≢ n
less-other m n lt e = omega (arith, lt, e)

more-other : (m n : ℕ) → m < n → n ≢ m
more-other m n lt e = omega (arith, lt, e)

rising-append : (ns : List ℕ) (m : ℕ) → AreRising ns → AllByRecursion (λ n. n < m) ns → AreRising (ns ++ m ∷ [])
rising-append [] m r b = (tt, tt)
rising-append (n ∷ ns) m r b =
    (all_by-append (λ k. n < k) ns (m ∷ []) r.0 (b.0, tt), rising-append ns m r.1 b.1)

rising-remove : (ns : List ℕ) (k : ℕ) → k < length ns → AreRising ns → AreRising (remove ns k)
rising-remove [] k lt r = absurd (omega (arith, lt))
rising-remove (n ∷ ns) zero lt r = r.1
rising-remove (n ∷ ns) (suc k) lt r =
    let within : k < length ns = omega (arith, lt) in
    (all-remove (λ m. n < m) ns k within r.0, rising-remove ns k within r.1)

-- each of the others differs from the one that is removed
rising-others : (ns : List ℕ) (k d : ℕ) → k < length ns → AreRising ns
    → AllByRecursion (λ n. get_or ns k d ≢ n) (remove ns k)
rising-others [] k d lt r = absurd (omega (arith, lt))
rising-others (n ∷ ns) zero d lt r = all-map (λ m. n < m) (λ m. n ≢ m) (less-other n) ns r.0
rising-others (n ∷ ns) (suc k) d lt r =
    let within : k < length ns = omega (arith, lt) in
    (more-other n (get_or ns k d) (all-at (λ m. n < m) ns k d within r.0), rising-others ns k d within r.1)

different-append : (ns : List ℕ) (m : ℕ) → AreDifferent ns → AllByRecursion (λ n. n ≢ m) ns
    → AreDifferent (ns ++ m ∷ [])
different-append [] m d b = (tt, tt)
different-append (n ∷ ns) m d b =
    (all_by-append (λ k. k ≢ n) ns (m ∷ []) d.0 (λ e. b.0 (sym e), tt), different-append ns m d.1 b.1)

all-unit : {X Y : Type 0} (P : X → Y → Type 0) (ns : List X) → AllByRecursion (λ n. AllByRecursion (P n) []) ns
all-unit P [] = tt
all-unit P (n ∷ ns) = (tt, all-unit P ns)

-- none yet
pub numbered-none : (next : ℕ) → AreNumbered [] [] next
numbered-none next = record { rising = tt; different = tt; apart = tt; below = tt; taken_below = tt }

module _ (atoms taken : List ℕ) (next : ℕ) (numbered : AreNumbered atoms taken next) where
  -- one more
  pub numbered-added : AreNumbered (atoms ++ next ∷ []) taken (next + 1)
  numbered-added = record {
    rising = rising-append atoms next numbered.rising numbered.below;
    different = numbered.different;
    apart = all_by-append (λ n. AllByRecursion (λ m. m ≢ n) taken) atoms (next ∷ []) numbered.apart
        (all-map (λ m. m < next) (λ m. m ≢ next) (λ m lt. less-other m next lt) taken numbered.taken_below, tt);
    below = all_by-append (λ n. n < next + 1) atoms (next ∷ [])
        (all-map (λ n. n < next) (λ n. n < next + 1) (λ n lt. omega (arith, lt)) atoms numbered.below)
        (omega arith, tt);
    taken_below =
        all-map (λ n. n < next) (λ n. n < next + 1) (λ n lt. omega (arith, lt)) taken numbered.taken_below;
  }

  -- one less
  pub numbered-removed : (k : ℕ) → k < length atoms → AreNumbered (remove atoms k) taken next
  numbered-removed k lt = record {
    rising = rising-remove atoms k lt numbered.rising;
    different = numbered.different;
    apart = all-remove (λ n. AllByRecursion (λ m. m ≢ n) taken) atoms k lt numbered.apart;
    below = all-remove (λ n. n < next) atoms k lt numbered.below;
    taken_below = numbered.taken_below;
  }

  -- one is handed over
  pub numbered-handed : (k d : ℕ) → k < length atoms
      → AreNumbered (remove atoms k) (taken ++ get_or atoms k d ∷ []) next
  numbered-handed k d lt =
      let one = get_or atoms k d in
      record {
        rising = rising-remove atoms k lt numbered.rising;
        different = different-append taken one numbered.different
            (all-at (λ n. AllByRecursion (λ m. m ≢ n) taken) atoms k d lt numbered.apart);
        apart = all-zip (λ n. AllByRecursion (λ m. m ≢ n) taken) (λ n. one ≢ n)
            (λ n. AllByRecursion (λ m. m ≢ n) (taken ++ one ∷ []))
            (λ n a b. all_by-append (λ m. m ≢ n) taken (one ∷ []) a (b, tt)) (remove atoms k)
            (all-remove (λ n. AllByRecursion (λ m. m ≢ n) taken) atoms k lt numbered.apart)
            (rising-others atoms k d lt numbered.rising);
        below = all-remove (λ n. n < next) atoms k lt numbered.below;
        taken_below = all_by-append (λ n. n < next) taken (one ∷ []) numbered.taken_below
            (all-at (λ n. n < next) atoms k d lt numbered.below, tt);
      }

  -- those that were handed over are forgotten
  pub numbered-cleared : AreNumbered atoms [] next
  numbered-cleared = record {
    rising = numbered.rising;
    different = tt;
    apart = all-unit (λ n m. m ≢ n) atoms;
    below = numbered.below;
    taken_below = tt;
  }

-- the numbers of a list of atoms: one more, one less, one that is changed, and all with other terms
pub numbers-append : (xs : List Numbered) (x : Numbered) → numbers (xs ++ x ∷ []) ≡ numbers xs ++ x.number ∷ []
numbers-append xs x = map-append (λ (a : Numbered). a.number) xs (x ∷ [])

pub numbers-remove : (xs : List Numbered) (k : ℕ) → k < length xs → numbers (remove xs k) ≡ remove (numbers xs) k
numbers-remove [] k lt = absurd (omega (arith, lt))
numbers-remove (x ∷ xs) zero lt = refl
numbers-remove (x ∷ xs) (suc k) lt = ap (λ ns. x.number ∷ ns) (numbers-remove xs k (omega (arith, lt)))

pub numbers-at : (xs : List Numbered) (k : ℕ) (d : Numbered) → k < length xs
    → get_or (numbers xs) k d.number ≡ (get_or xs k d).number
numbers-at [] k d lt = absurd (omega (arith, lt))
numbers-at (x ∷ xs) zero d lt = refl
numbers-at (x ∷ xs) (suc k) d lt = numbers-at xs k d (omega (arith, lt))

pub numbers-with : (to : Term → Term) (xs : List Numbered) → numbers (map (numbered_with to) xs) ≡ numbers xs
numbers-with to [] = refl
numbers-with to (x ∷ xs) = ap (λ ns. x.number ∷ ns) (numbers-with to xs)

module _ (atoms taken new : List Numbered) (next : ℕ)
    (numbered : AreNumbered (numbers atoms) (numbers taken) next) where
  -- the numbers are in order where an atom comes
  pub numbered-push : (x : Numbered) → x.number ≡ next → new ≡ atoms ++ x ∷ []
      → AreNumbered (numbers new) (numbers taken) (next + 1)
  numbered-push x number e =
      subst (λ ns. AreNumbered ns (numbers taken) (next + 1))
      (sym (ap numbers e ∙ numbers-append atoms x ∙ ap (λ n. numbers atoms ++ n ∷ []) number))
      (numbered-added (numbers atoms) (numbers taken) next numbered)

  -- and where one goes
  pub numbered-remove : (k : ℕ) → k < length atoms → new ≡ remove atoms k
      → AreNumbered (numbers new) (numbers taken) next
  numbered-remove k lt e =
      subst (λ ns. AreNumbered ns (numbers taken) next) (sym (ap numbers e ∙ numbers-remove atoms k lt))
      (numbered-removed (numbers atoms) (numbers taken) next numbered k (omega (arith, length-map atoms (λ (a : Numbered). a.number), lt)))

  -- and where a field of a cell is written
  pub numbered-written : (a : ℕ) (t : Term) (f : FieldId) (u : Term) → is_some (cell_at atoms a t) ≡ true
      → ((fields : List (FieldId × Term)) → cell_at atoms a t ≡ Some fields
      → new ≡ with_fields atoms a t (put_term f u fields)) → AreNumbered (numbers new) (numbers taken) next
  numbered-written a t f u there after = go (cell_at atoms a t) refl there
    where
      go : (o : Option (List (FieldId × Term))) → cell_at atoms a t ≡ o → is_some o ≡ true
          → AreNumbered (numbers new) (numbers taken) next
      go None e some = absurd (cc)
      go (Some fields) e some =
          subst (λ ns. AreNumbered ns (numbers taken) next)
          (sym (ap numbers (after fields e) ∙ numbers-fields atoms a t (put_term f u fields))) numbered

  -- and where all have other terms
  pub numbered-map : (to : Term → Term) (more : List Numbered) → new ≡ map (numbered_with to) atoms
      → more ≡ map (numbered_with to) taken → AreNumbered (numbers new) (numbers more) next
  numbered-map to more e f =
      subst (λ ns. AreNumbered ns (numbers more) next) (sym (ap numbers e ∙ numbers-with to atoms))
      (subst (λ ns. AreNumbered (numbers atoms) ns next) (sym (ap numbers f ∙ numbers-with to taken)) numbered)

-- the atom of a number goes, if it is there
without-by : (a : ℕ) (atoms taken : List Numbered) (next : ℕ) (k : Option ℕ) → index_from 0 atoms a ≡ k
    → AreNumbered (numbers atoms) (numbers taken) next → AreNumbered (numbers (without atoms a)) (numbers taken) next
without-by a atoms taken next None e numbered =
    subst (λ xs. AreNumbered (numbers xs) (numbers taken) next) (sym (nothing_without a 0 atoms e)) numbered
without-by a atoms taken next (Some k) e numbered =
    let at = is_at a k atoms e in
    numbered-remove atoms taken (without atoms a) next numbered k at.within at.removed

pub numbered-without : (a : ℕ) (atoms taken : List Numbered) (next : ℕ)
    → AreNumbered (numbers atoms) (numbers taken) next → AreNumbered (numbers (without atoms a)) (numbers taken) next
numbered-without a atoms taken next numbered =
    without-by a atoms taken next (index_from 0 atoms a) refl numbered

-- it is handed over, as it was or with other fields
given-by : (a : ℕ) (atoms taken : List Numbered) (next : ℕ) (x : Numbered) (k : Option ℕ) → index_from 0 atoms a ≡ k
    → x.number ≡ a → is_some (atom_at atoms a) ≡ true → AreNumbered (numbers atoms) (numbers taken) next
    → AreNumbered (numbers (without atoms a)) (numbers (taken ++ x ∷ [])) next
given-by a atoms taken next x None e number there numbered = let none = no_atom a 0 atoms e in absurd (cc)
given-by a atoms taken next x (Some k) e number there numbered =
    let at = is_at a k atoms e in
    let within : k < length (numbers atoms) = omega (arith, length-map atoms (λ (n : Numbered). n.number), at.within) in
    let one : get_or (numbers atoms) k x.number ≡ x.number =
    numbers-at atoms k x at.within ∙ at.number x ∙ sym number in
    subst (λ ns. AreNumbered ns (numbers (taken ++ x ∷ [])) next)
    (sym (ap numbers at.removed ∙ numbers-remove atoms k at.within))
    (subst (λ ns. AreNumbered (remove (numbers atoms) k) ns next)
    (sym (numbers-append taken x ∙ ap (λ n. numbers taken ++ n ∷ []) (sym one)))
    (numbered-handed (numbers atoms) (numbers taken) next numbered k x.number within))

pub numbered-given : (a : ℕ) (atoms taken : List Numbered) (next : ℕ) (x : Numbered) → x.number ≡ a
    → is_some (atom_at atoms a) ≡ true → AreNumbered (numbers atoms) (numbers taken) next
    → AreNumbered (numbers (without atoms a)) (numbers (taken ++ x ∷ [])) next
numbered-given a atoms taken next x = given-by a atoms taken next x (index_from 0 atoms a) refl

-- a cell of that number is there, so an atom is
pub cell_is_atom : (a : ℕ) (atoms : List Numbered) (t : Term) → is_some (cell_at atoms a t) ≡ true
    → is_some (atom_at atoms a) ≡ true
cell_is_atom a atoms t e = by-atom (atom_at atoms a) (ap is_some (sym (cell_of_atom a atoms t)) ∙ e)
  where
    by-atom : (o : Option Atom) → is_some (option_and_then (λ x. fields_at x t) o) ≡ true → is_some o ≡ true
    by-atom None f = absurd (cc)
    by-atom (Some x) f = refl
