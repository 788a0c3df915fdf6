-- A list of parts has an impossible one or a repeat exactly where one of them is hopeless beside the others, since their
-- numbers differ.
use Rattle.std.proofs.Common.{◌≡◌, ◌≢◌, ◌⊎◌, inl, inr, ℕ, ◌<◌, nat_eq, Bool, true, false, ◌&&◌, ◌||◌, not, Some, List, [], ◌∷◌, ◌++◌, refl, sym, ap, ap₂, ◌∙◌, subst, arith}
use Rattle.std.specs.List.{AllByRecursion, list_any}
use Rattle.std.proofs.lemmas.Bool.{and_from, or_cases, or_left, or_right}
use Rattle.std.proofs.lemmas.Bool.Decides.{Decides-eqb}
use Rattle.sf_base.proofs.Bools.{and-left, and-right, bool-same, not-both}
use Rattle.sf_sym.specs.declared.atom.Atom.{Atom}
use Rattle.sf_sym.specs.declared.atom.Numbered.{Numbered}
use Rattle.sf_sym.specs.declared.store.Store.{Store}
use Rattle.sf_sym.specs.declared.term.Term.{Term}
use Rattle.sf_sym.specs.Checked.Keeping.{In, is_closed, is_hopeless, row_beside, rows_of}
use Rattle.sf_sym.specs.Checked.Lemmas.{same_term_is}
use Rattle.sf_sym.specs.Checked.Rows.{row_of}
use Rattle.sf_sym.specs.Checked.Stores.{Kept}
use Rattle.sf_sym.specs.Checked.Wanted.{all_rows, known}
use Rattle.sf_sym.specs.Numbers.{AreDifferent, AreNumbered, AreRising, numbers}
use Rattle.sf_sym.specs.Tests.{allocates, begins, has_cell, has_repeat, is_absurd, is_allocated_in, is_at_constant, is_constant, is_impossible, is_integer_tree, is_left_out, roots, same_term}
use Rattle.sf_sym.proofs.ByRows.{any-rows, bare-allocates}
use Rattle.sf_sym.proofs.Members.{any-in, in-any, not-true}
use Rattle.sf_sym.proofs.Outlines.{bare-cell, bare-integer, bare-roots}
use Rattle.sf_sym.proofs.Quiet.{begins-root}

-- what holds of each number of a list holds of that of each atom
pub each-number : (P : ℕ → Type 0) (xs : List Numbered) → AllByRecursion P (numbers xs) → (a : Numbered) → In a xs → P a.number
each-number P [] all a h = absurd h
each-number P (x ∷ xs) all a (inl e) = subst (λ (z : Numbered). P z.number) (sym e) all.0
each-number P (x ∷ xs) all a (inr h) = each-number P xs all.1 a h

-- and the other way round
pub all-numbers : (P : ℕ → Type 0) (xs : List Numbered) → ((a : Numbered) → In a xs → P a.number) → AllByRecursion P (numbers xs)
all-numbers P [] each = tt
all-numbers P (x ∷ xs) each = (each x (inl refl), all-numbers P xs (λ a h. each a (inr h)))

-- all numbers differ
different-append : (ms ns : List ℕ) → AreRising ms → AreDifferent ns → AllByRecursion (λ m. AllByRecursion (λ n. n ≢ m) ns) ms
    → AreDifferent (ms ++ ns)
different-append [] ns r d a = d
different-append (m ∷ ms) ns r d a = (both ms r.0, different-append ms ns r.1 d a.1)
  where
    both : (ks : List ℕ) → AllByRecursion (λ k. m < k) ks → AllByRecursion (λ k. k ≢ m) (ks ++ ns)
    both [] h = a.0
    both (k ∷ ks) h = ((λ e. let lt = h.0 in omega (arith, e, lt)), both ks h.1)

numbers-both : (xs ys : List Numbered) → numbers (xs ++ ys) ≡ numbers xs ++ numbers ys
numbers-both [] ys = refl
numbers-both (x ∷ xs) ys = ap (λ ns. x.number ∷ ns) (numbers-both xs ys)

pub all-different : (atoms taken : List Numbered) (next : ℕ) → AreNumbered (numbers atoms) (numbers taken) next
    → AreDifferent (numbers (atoms ++ taken))
all-different atoms taken next n =
    subst AreDifferent (sym (numbers-both atoms taken))
    (different-append (numbers atoms) (numbers taken) n.rising n.different n.apart)

module _ (apart : List (Term × Term)) where
  -- a part has a cell at a term at which it begins, and another one has a cell there too
  record IsMet (xs : List Numbered) (a : Numbered) : Type 0 where
    cell : has_cell apart a.atom ≡ true
    other : Numbered
    there : In other xs
    differs : other.number ≢ a.number
    term : Term
    root : In term (roots a.atom)
    met : allocates apart term other.atom ≡ true

  -- where an atom begins at a term, that is one of its roots
  root-of : (t : Term) (x : Atom) → begins t x ≡ true → In t (roots x)
  root-of t x e =
      let r = any-in (λ z. same_term z t) (roots x) e in subst (λ z. In z (roots x)) (same_term_is r.0 t r.2) r.1

  one-allocates : (t : Term) (x : Atom) → In t (roots x) → has_cell apart x ≡ true → allocates apart t x ≡ true
  one-allocates t x h c = and_from (begins t x) (has_cell apart x) (begins-root x t h) c

  -- a repeat in front: the first part and a later one
  repeat-here : (x : Numbered) (rest : List Numbered) (t : Term) → In t (roots x.atom) → has_cell apart x.atom ≡ true
      → (b : Numbered) → In b rest → allocates apart t b.atom ≡ true → has_repeat apart (x ∷ rest) ≡ true
  repeat-here x rest t h c b i e =
      or_left (list_any (is_allocated_in apart rest) (roots x.atom) && has_cell apart x.atom) (has_repeat apart rest)
      (and_from (list_any (is_allocated_in apart rest) (roots x.atom)) (has_cell apart x.atom)
      (in-any (is_allocated_in apart rest) (roots x.atom) t h (in-any (λ z. allocates apart t z.atom) rest b i e)) c)

  -- of two different parts one is before the other
  met-repeat : (xs : List Numbered) (a : Numbered) → In a xs → IsMet xs a → has_repeat apart xs ≡ true
  met-repeat xs a i m = go xs i m.there
    where
      met-here : (x : Numbered) (rest : List Numbered) → a ≡ x → In m.other rest → has_repeat apart (x ∷ rest) ≡ true
      met-here x rest e j =
          subst (λ z. has_repeat apart (z ∷ rest) ≡ true) e (repeat-here a rest m.term m.root m.cell m.other j m.met)

      met-there : (x : Numbered) (rest : List Numbered) → m.other ≡ x → In a rest → has_repeat apart (x ∷ rest) ≡ true
      met-there x rest e j =
          subst (λ z. has_repeat apart (z ∷ rest) ≡ true) e
          (repeat-here m.other rest m.term
          (root-of m.term m.other.atom (and-left (begins m.term m.other.atom) (has_cell apart m.other.atom) m.met))
          (and-right (begins m.term m.other.atom) (has_cell apart m.other.atom) m.met) a j
          (one-allocates m.term a.atom m.root m.cell))

      go : (ys : List Numbered) → In a ys → In m.other ys → has_repeat apart ys ≡ true
      go [] h j = absurd h
      go (y ∷ ys) (inl e) (inl f) = absurd (m.differs (ap (λ (z : Numbered). z.number) (f ∙ sym e)))
      go (y ∷ ys) (inl e) (inr j) = met-here y ys e j
      go (y ∷ ys) (inr h) (inl f) = met-there y ys f h
      go (y ∷ ys) (inr h) (inr j) =
          or_right (list_any (is_allocated_in apart ys) (roots y.atom) && has_cell apart y.atom) (has_repeat apart ys)
          (go ys h j)

  -- and a repeat is of two different parts, where all numbers differ
  repeat-met : (xs : List Numbered) → AreDifferent (numbers xs) → has_repeat apart xs ≡ true
      → (a : Numbered) × In a xs × IsMet xs a
  repeat-met [] d e = absurd (cc)
  repeat-met (x ∷ xs) d e = elim (or_cases (list_any (is_allocated_in apart xs) (roots x.atom) && has_cell apart x.atom) (has_repeat apart xs) e) [
    | inl h ↦ (
        let one = and-left (list_any (is_allocated_in apart xs) (roots x.atom)) (has_cell apart x.atom) h in
        let two = and-right (list_any (is_allocated_in apart xs) (roots x.atom)) (has_cell apart x.atom) h in
        let t = any-in (is_allocated_in apart xs) (roots x.atom) one in
        let b = any-in (λ (z : Numbered). allocates apart t.0 z.atom) xs t.2 in (
          x,
          inl refl,
          record {
            cell = two;
            other = b.0;
            there = inr b.1;
            differs = each-number (λ n. n ≢ x.number) xs d.0 b.0 b.1;
            term = t.0;
            root = t.1;
            met = b.2;
          },
        ))
    | inr h ↦ (
        let r = repeat-met xs d.1 h in (
          r.0,
          inr r.1,
          record {
            cell = r.2.cell;
            other = r.2.other;
            there = inr r.2.there;
            differs = r.2.differs;
            term = r.2.term;
            root = r.2.root;
            met = r.2.met;
          },
        ))
  ]

  module _ (xs : List Numbered) (d : AreDifferent (numbers xs)) where
    -- a part is hopeless, as a test of the atom
    abbrev closed : ℕ → Term → Bool
    closed n t = is_constant t || list_any (λ b. not (is_left_out (Some n) b.number) && allocates apart t b.atom) xs

    abbrev lost : Numbered → Bool
    lost a = is_integer_tree a.atom || has_cell apart a.atom && list_any (closed a.number) (roots a.atom)

    some-closed : (n : ℕ) (ts : List Term) → list_any (is_closed apart (rows_of xs) n) ts ≡ list_any (closed n) ts
    some-closed n [] = refl
    some-closed n (t ∷ ts) =
        ap₂ (λ a b. is_constant t || a || b)
        (any-rows (row_beside apart t (Some n)) (λ b. not (is_left_out (Some n) b.number) && allocates apart t b.atom)
        (λ b. ap (λ c. not (is_left_out (Some n) b.number) && c) (bare-allocates apart t b.atom)) xs)
        (some-closed n ts)

    one-lost : (a : Numbered) → is_hopeless apart (rows_of xs) (row_of a) ≡ lost a
    one-lost a =
        ap₂ (λ b c. b || c) (bare-integer a.atom)
        (ap₂ (λ b c. b && c) (bare-cell apart a.atom)
        (ap (list_any (is_closed apart (rows_of xs) a.number)) (bare-roots a.atom) ∙ some-closed a.number (roots a.atom)))

    -- what is impossible by itself is lost
    impossible-lost : (a : Numbered) → is_impossible apart a.atom ≡ true → lost a ≡ true
    impossible-lost a e = elim (or_cases (is_at_constant apart a.atom) (is_integer_tree a.atom) e) [
      | inl h ↦ (
          let one = and-left (list_any is_constant (roots a.atom)) (has_cell apart a.atom) h in
          let two = and-right (list_any is_constant (roots a.atom)) (has_cell apart a.atom) h in
          let t = any-in is_constant (roots a.atom) one in
          or_right (is_integer_tree a.atom) (has_cell apart a.atom && list_any (closed a.number) (roots a.atom))
          (and_from (has_cell apart a.atom) (list_any (closed a.number) (roots a.atom)) two
          (in-any (closed a.number) (roots a.atom) t.0 t.1 (or_left (is_constant t.0) _ t.2))))
      | inr h ↦ or_left (is_integer_tree a.atom) (has_cell apart a.atom && list_any (closed a.number) (roots a.atom)) h
    ]

    other-number : (m n : ℕ) → m ≢ n → not (nat_eq m n) ≡ true
    other-number m n f = ap not (not-true (nat_eq m n) (λ e. f ((Decides-eqb m n).0 e)))

    met-lost : (a : Numbered) → IsMet xs a → lost a ≡ true
    met-lost a m =
        or_right (is_integer_tree a.atom) (has_cell apart a.atom && list_any (closed a.number) (roots a.atom))
        (and_from (has_cell apart a.atom) (list_any (closed a.number) (roots a.atom)) m.cell
        (in-any (closed a.number) (roots a.atom) m.term m.root
        (or_right (is_constant m.term) _
        (in-any (λ b. not (is_left_out (Some a.number) b.number) && allocates apart m.term b.atom) xs m.other m.there
        (and_from (not (is_left_out (Some a.number) m.other.number)) (allocates apart m.term m.other.atom)
        (other-number m.other.number a.number m.differs) m.met)))))

    -- what is lost is impossible by itself, or met by another one
    lost-either : (a : Numbered) → lost a ≡ true → (is_impossible apart a.atom ≡ true) ⊎ IsMet xs a
    lost-either a e = elim (or_cases (is_integer_tree a.atom) (has_cell apart a.atom && list_any (closed a.number) (roots a.atom)) e) [
      | inl h ↦ inl (or_right (is_at_constant apart a.atom) (is_integer_tree a.atom) h)
      | inr h ↦ (
          let one = and-left (has_cell apart a.atom) (list_any (closed a.number) (roots a.atom)) h in
          let two = and-right (has_cell apart a.atom) (list_any (closed a.number) (roots a.atom)) h in
          let t = any-in (closed a.number) (roots a.atom) two in
          let beside = λ (b : Numbered). not (is_left_out (Some a.number) b.number) && allocates apart t.0 b.atom in
          elim (or_cases (is_constant t.0) (list_any beside xs) t.2) [
            | inl k ↦ inl (or_left (is_at_constant apart a.atom) (is_integer_tree a.atom)
                (and_from (list_any is_constant (roots a.atom)) (has_cell apart a.atom)
                (in-any is_constant (roots a.atom) t.0 t.1 k) one))
            | inr k ↦ inr (lost-met a one t.0 t.1 k)
          ])
    ]
      where
        lost-met : (a : Numbered) → has_cell apart a.atom ≡ true → (t : Term) → In t (roots a.atom)
            → list_any (λ b. not (is_left_out (Some a.number) b.number) && allocates apart t b.atom) xs ≡ true → IsMet xs a
        lost-met a c t h e =
            let b = any-in (λ b. not (is_left_out (Some a.number) b.number) && allocates apart t b.atom) xs e in
            record {
              cell = c;
              other = b.0;
              there = b.1;
              differs = λ f. not-both (nat_eq b.0.number a.number) ((Decides-eqb b.0.number a.number).1 f)
                  (and-left (not (nat_eq b.0.number a.number)) (allocates apart t b.0.atom) b.2);
              term = t;
              root = h;
              met = and-right (not (nat_eq b.0.number a.number)) (allocates apart t b.0.atom) b.2;
            }

    -- so some part is impossible, or two have cells at one term, exactly where one is hopeless
    some-hopeless : (list_any (λ a. is_impossible apart a.atom) xs || has_repeat apart xs)
        ≡ list_any (is_hopeless apart (rows_of xs)) (rows_of xs)
    some-hopeless =
        bool-same (list_any (λ a. is_impossible apart a.atom) xs || has_repeat apart xs) (list_any lost xs)
        (λ e. elim (or_cases (list_any (λ a. is_impossible apart a.atom) xs) (has_repeat apart xs) e) [
          | inl h ↦ (
              let a = any-in (λ (z : Numbered). is_impossible apart z.atom) xs h in
              in-any lost xs a.0 a.1 (impossible-lost a.0 a.2))
          | inr h ↦ (let a = repeat-met xs d h in in-any lost xs a.0 a.1 (met-lost a.0 a.2))
        ])
        (λ e.
        let a = any-in lost xs e in
        elim (lost-either a.0 a.2) [
          | inl h ↦ or_left (list_any (λ z. is_impossible apart z.atom) xs) (has_repeat apart xs)
              (in-any (λ (z : Numbered). is_impossible apart z.atom) xs a.0 a.1 h)
          | inr h ↦ or_right (list_any (λ z. is_impossible apart z.atom) xs) (has_repeat apart xs) (met-repeat xs a.0 a.1 h)
        ])
        ∙ sym (any-rows (is_hopeless apart (rows_of xs)) lost one-lost xs)

-- a store has an impossible state exactly where a term is to differ from itself or a part is hopeless
pub absurd_by_rows : (s : Store) → Kept s
    → (list_any (λ p. same_term p.0 p.1) s.apart || list_any (is_hopeless s.apart (all_rows s)) (all_rows s))
    ≡ is_absurd (known s)
absurd_by_rows s kept =
    ap (λ b. list_any (λ p. same_term p.0 p.1) s.apart || b)
    (sym (some-hopeless s.apart (s.atoms ++ s.taken.items) (all-different s.atoms s.taken.items s.next_atom kept.numbered)))
    ∙ sym (or-assoc (list_any (λ p. same_term p.0 p.1) s.apart) _ _)
  where
    or-assoc : (a b c : Bool) → ((a || b) || c) ≡ (a || (b || c))
    or-assoc true b c = refl
    or-assoc false b c = refl
