-- The numbers of the empty parts, as one comes, goes or is found first.
-- Names: `key-LAW` of the keys of an ordered set of numbers, `empty-LAW` of the numbers of the empty parts.
use Rattle.std.proofs.Common.{◌≡◌, ℕ, ◌<◌, ◌==◌, Greater, length, Bool, true, false, cond, Some, None, List, [], ◌∷◌, ◌++◌, refl, sym, ap, ◌∙◌, subst, arith}
use Rattle.std.specs.BTreeMap.{is_at}
use Rattle.std.specs.BTreeSet.{insert_key}
use Rattle.std.specs.Cmp.{nat_cmp_is}
use Rattle.std.specs.List.{AllByRecursion, slice_get}
use Rattle.std.specs.Ordering.{match_ordering, nat_cmp}
use Rattle.std.specs.Set.{remove_key}
use Rattle.std.proofs.lemmas.Bool.Decides.{Decides-eqb}
use Rattle.std.proofs.lemmas.List.{append_assoc}
use Rattle.sf_base.proofs.Numbers.{at-is, at-self}
use Rattle.sf_sym.specs.declared.atom.Numbered.{Numbered}
use Rattle.sf_sym.specs.declared.outline.Row.{Row}
use Rattle.sf_sym.specs.Cells.{without}
use Rattle.sf_sym.specs.Checked.Empties.{empties, empty_numbers}
use Rattle.sf_sym.specs.Checked.Keeping.{is_empty}
use Rattle.sf_sym.specs.Checked.Rows.{row_of}
use Rattle.sf_sym.specs.Known.{first_nothing, is_nothing}
use Rattle.sf_sym.specs.Numbers.{AreRising, numbers}
use Rattle.sf_sym.proofs.Members.{clash, not-true}
use Rattle.sf_sym.proofs.Outlines.{bare-nothing}

other-at : (k x : ℕ) → (k ≡ x → ⊥) → is_at (nat_cmp k) x ≡ false
other-at k x other = at-is k x ∙ not-true (k == x) (λ e. other ((Decides-eqb k x).0 e))

-- a number above all goes last
pub key-last : (ks : List ℕ) (n : ℕ) → AllByRecursion (λ m. m < n) ks → insert_key nat_cmp ks n ≡ ks ++ n ∷ []
key-last [] n below = refl
key-last (x ∷ ks) n below =
    ap (λ o. match_ordering o (n ∷ x ∷ ks) (x ∷ ks) (x ∷ insert_key nat_cmp ks n)) (sym (nat_cmp_is n x Greater below.0))
    ∙ ap (λ zs. x ∷ zs) (key-last ks n below.1)

-- none goes that isn't there
pub key-none : (ks : List ℕ) (n : ℕ) → AllByRecursion (λ m. n < m) ks → remove_key (is_at (nat_cmp n)) ks ≡ ks
key-none [] n above = refl
key-none (x ∷ ks) n above =
    ap (λ b. cond b ks (x ∷ remove_key (is_at (nat_cmp n)) ks))
    (other-at n x (λ e. let lt = above.0 in absurd (omega (arith, e, lt)))) ∙ ap (λ zs. x ∷ zs) (key-none ks n above.1)

-- the last one goes, where the others are below it
pub key-back : (ks : List ℕ) (r : Row) → AllByRecursion (λ m. m < r.number) ks
    → remove_key (is_at (nat_cmp r.number)) (ks ++ empty_numbers (r ∷ [])) ≡ ks
key-back [] r below = go (is_empty r)
  where
    go : (b : Bool) → remove_key (is_at (nat_cmp r.number)) (cond b (r.number ∷ []) []) ≡ []
    go true = ap (λ b. cond {A = List ℕ} b [] (r.number ∷ [])) (at-self r.number)
    go false = refl
key-back (x ∷ ks) r below =
    ap (λ b. cond b (ks ++ empty_numbers (r ∷ [])) (x ∷ remove_key (is_at (nat_cmp r.number)) (ks ++ empty_numbers (r ∷ []))))
    (other-at r.number x (λ e. let lt = below.0 in absurd (omega (arith, e, lt))))
    ∙ ap (λ zs. x ∷ zs) (key-back ks r below.1)

-- one part more, behind the others
pub empty-push : (xs : List Numbered) (x : Numbered) → empties (xs ++ x ∷ []) ≡ empties xs ++ empty_numbers (row_of x ∷ [])
empty-push [] x = refl
empty-push (y ∷ xs) x = go (is_empty (row_of y)) (empty-push xs x)
  where
    go : (b : Bool) → empties (xs ++ x ∷ []) ≡ empties xs ++ empty_numbers (row_of x ∷ [])
        → cond b (y.number ∷ empties (xs ++ x ∷ [])) (empties (xs ++ x ∷ []))
        ≡ cond b (y.number ∷ empties xs) (empties xs) ++ empty_numbers (row_of x ∷ [])
    go true e = ap (λ zs. y.number ∷ zs) e
    go false e = e

-- what holds of all numbers holds of those
pub empty-all : (P : ℕ → Type 0) (xs : List Numbered) → AllByRecursion P (numbers xs) → AllByRecursion P (empties xs)
empty-all P [] all = tt
empty-all P (x ∷ xs) all = go (is_empty (row_of x)) (empty-all P xs all.1)
  where
    go : (b : Bool) → AllByRecursion P (empties xs) → AllByRecursion P (cond b (x.number ∷ empties xs) (empties xs))
    go true rest = (all.0, rest)
    go false rest = rest

-- the part of a number goes
pub empty-without : (a : ℕ) (xs : List Numbered) → AreRising (numbers xs)
    → remove_key (is_at (nat_cmp a)) (empties xs) ≡ empties (without xs a)
empty-without a [] r = refl
empty-without a (x ∷ xs) r = go (x.number == a) refl (empty-without a xs r.1)
  where
    here : (c : Bool) → a ≡ x.number
        → remove_key (is_at (nat_cmp a)) (cond c (x.number ∷ empties xs) (empties xs)) ≡ empties xs
    here true same =
        ap (λ b. cond b (empties xs) (x.number ∷ remove_key (is_at (nat_cmp a)) (empties xs)))
        (ap (is_at (nat_cmp a)) (sym same) ∙ at-self a)
    here false same =
        key-none (empties xs) a
        (subst (λ n. AllByRecursion (λ m. n < m) (empties xs)) (sym same) (empty-all (λ m. x.number < m) xs r.0))

    later : (c : Bool) → (a ≡ x.number → ⊥) → remove_key (is_at (nat_cmp a)) (empties xs) ≡ empties (without xs a)
        → remove_key (is_at (nat_cmp a)) (cond c (x.number ∷ empties xs) (empties xs))
        ≡ cond c (x.number ∷ empties (without xs a)) (empties (without xs a))
    later true other rest =
        ap (λ b. cond b (empties xs) (x.number ∷ remove_key (is_at (nat_cmp a)) (empties xs))) (other-at a x.number other)
        ∙ ap (λ zs. x.number ∷ zs) rest
    later false other rest = rest

    go : (b : Bool) → x.number == a ≡ b → remove_key (is_at (nat_cmp a)) (empties xs) ≡ empties (without xs a)
        → remove_key (is_at (nat_cmp a)) (empties (x ∷ xs)) ≡ empties (cond b xs (x ∷ without xs a))
    go true e rest = here (is_empty (row_of x)) (sym ((Decides-eqb x.number a).0 e))
    go false e rest =
        later (is_empty (row_of x)) (λ same. clash (x.number == a) ((Decides-eqb x.number a).1 (sym same)) e) rest

-- the first one
pub empty-first : (xs : List Numbered) → slice_get (empties xs) 0 ≡ first_nothing xs
empty-first [] = refl
empty-first (x ∷ xs) =
    ap (λ b. slice_get (cond b (x.number ∷ empties xs) (empties xs)) 0) (bare-nothing x.atom)
    ∙ go (is_nothing x.atom) (empty-first xs)
  where
    go : (b : Bool) → slice_get (empties xs) 0 ≡ first_nothing xs
        → slice_get (cond b (x.number ∷ empties xs) (empties xs)) 0 ≡ cond b (Some x.number) (first_nothing xs)
    go true e = refl
    go false e = e

-- no first one of none
pub key-first : (ks : List ℕ) → (0 < length ks → ⊥) → slice_get ks 0 ≡ None
key-first [] none = refl
key-first (k ∷ ks) none = absurd (none (omega arith))

-- the numbers of the parts, as the set of those of the first ones grows
all-mid : (P : ℕ → Type 0) (ks : List ℕ) (n : ℕ) (ns : List ℕ) → AllByRecursion P (ks ++ n ∷ ns)
    → P n × AllByRecursion P (ks ++ ns)
all-mid P [] n ns all = (all.0, all.1)
all-mid P (k ∷ ks) n ns all = let r = all-mid P ks n ns all.1 in (r.0, (all.0, r.1))

rising-drop : (ks : List ℕ) (n : ℕ) (ns : List ℕ) → AreRising (ks ++ n ∷ ns) → AreRising (ks ++ ns)
rising-drop [] n ns r = r.1
rising-drop (k ∷ ks) n ns r = ((all-mid (λ m. k < m) ks n ns r.0).1, rising-drop ks n ns r.1)

pub rising-front : (ks : List ℕ) (m n : ℕ) (ns : List ℕ) → m ≡ n → AreRising (ks ++ n ∷ ns)
    → AllByRecursion (λ k. k < m) ks
rising-front [] m n ns same r = tt
rising-front (k ∷ ks) m n ns same r = (
  subst (λ x. k < x) (sym same) (all-mid (λ x. k < x) ks n ns r.0).0,
  rising-front ks m n ns same r.1,
)

pub rising-next : (ks : List ℕ) (r : Row) (n : ℕ) (ns : List ℕ) → r.number ≡ n → AreRising (ks ++ n ∷ ns)
    → AreRising ((ks ++ empty_numbers (r ∷ [])) ++ ns)
rising-next ks r n ns same rising =
    subst AreRising (sym (append_assoc ks (empty_numbers (r ∷ [])) ns)) (go (is_empty r))
  where
    go : (b : Bool) → AreRising (ks ++ (cond b (r.number ∷ []) [] ++ ns))
    go true = subst (λ m. AreRising (ks ++ m ∷ ns)) (sym same) rising
    go false = rising-drop ks n ns rising

pub empty-next : (ks : List ℕ) (r : Row) (x : Numbered) (xs : List Numbered) → r ≡ row_of x
    → (ks ++ empty_numbers (r ∷ [])) ++ empties xs ≡ ks ++ empties (x ∷ xs)
empty-next ks r x xs same =
    append_assoc ks (empty_numbers (r ∷ [])) (empties xs)
    ∙ ap (λ z. ks ++ (empty_numbers (z ∷ []) ++ empties xs)) same ∙ ap (λ zs. ks ++ zs) (go (is_empty (row_of x)))
  where
    go : (b : Bool) → cond b (x.number ∷ []) [] ++ empties xs ≡ cond b (x.number ∷ empties xs) (empties xs)
    go true = refl
    go false = refl
