-- The marked row of the lowest number that passes is that of the first atom that passes.
-- Names: `least` of the lowest of some rows, `first-LAW` of the first atom that something is found in.
use Rattle.std.proofs.Common.{◌≡◌, ◌⊎◌, inl, inr, ℕ, ◌<◌, ◌≤◌, nat_lt, ◌==◌, Bool, true, false, ◌&&◌, ◌||◌, not, cond, Option, Some, None, List, [], ◌∷◌, ◌++◌, is_some, refl, sym, ap, ◌∙◌, subst, arith}
use Rattle.std.specs.List.{AllByRecursion}
use Rattle.std.specs.Option.{option_and_then, option_map}
use Rattle.std.proofs.lemmas.Bool.{and_from, or_left, or_parts, or_right}
use Rattle.std.proofs.lemmas.Bool.Decides.{Decides-eqb, nat_tests}
use Rattle.sf_base.proofs.Bools.{and-left, and-right}
use Rattle.sf_base.proofs.Elements.{contains-nil}
use Rattle.sf_base.specs.declared.ids.Var.{Var}
use Rattle.sf_core.specs.declared.fields.Links.{Links}
use Rattle.sf_sym.specs.declared.atom.Atom.{Atom}
use Rattle.sf_sym.specs.declared.atom.Atom.TheVariants.{Points, Ls, Tree, Dll}
use Rattle.sf_sym.specs.declared.atom.Kind.{Kind}
use Rattle.sf_sym.specs.declared.atom.Kind.TheVariants.{Cell, Segment, SegmentTo, Tree as Wood, Double, DoubleLast, DoubleTo}
use Rattle.sf_sym.specs.declared.atom.Numbered.{Numbered}
use Rattle.sf_sym.specs.declared.found.Wanted.{Wanted}
use Rattle.sf_sym.specs.declared.found.Wanted.TheVariants.{Forced, At}
use Rattle.sf_sym.specs.declared.outline.Row.{Row}
use Rattle.sf_sym.specs.declared.store.Store.{Store}
use Rattle.sf_sym.specs.declared.term.Term.{Term}
use Rattle.sf_sym.specs.declared.term.Term.TheVariants.{Nil}
use Rattle.sf_sym.specs.Cells.{atom_at}
use Rattle.sf_sym.specs.Checked.Keeping.{In, IsIndexed, IsUnmarked, is_closed, is_forced, is_hopeless, rows_of}
use Rattle.sf_sym.specs.Checked.Rows.{bare, is_marked, outline, row_of, rows_at, same_row}
use Rattle.sf_sym.specs.Checked.Stores.{Kept, heap, state_in}
use Rattle.sf_sym.specs.Checked.Wanted.{all_rows, fits, is_found, is_wanted, known, lower, lowest_of}
use Rattle.sf_sym.specs.Kinds.{is_kind}
use Rattle.sf_sym.specs.Known.{IsLowest, first_forced, forced_by, forced_pair, is_elsewhere, or_else}
use Rattle.sf_sym.specs.Numbers.{AreRising, numbers}
use Rattle.sf_sym.specs.Tests.{begins, is_constant, root, same_term}
use Rattle.sf_sym.proofs.ByRows.{all_allocated, marked-in}
use Rattle.sf_sym.proofs.Hopeless.{each-number}
use Rattle.sf_sym.proofs.Lowest.{lowest-here, lowest-later}
use Rattle.sf_sym.proofs.Members.{clash, in-any, in-cases, in-left, in-map, map-in, not-false, not-true}
use Rattle.sf_sym.proofs.Outlines.{bare-forced, bare-test, bare-root, double-pair}
use Rattle.sf_sym.proofs.SameRows.{same_row_is, same_row_self}

-- the lowest of the best so far and those of these rows that pass
record Least (test : Row → Bool) (best : Option Row) (rows : List Row) (r : Option Row) : Type 0 where
  none : r ≡ None → (best ≡ None) × ((x : Row) → In x rows → test x ≡ false)
  is : (m : Row) → r ≡ Some m → (best ≡ Some m) ⊎ (In m rows × (test m ≡ true))
  low : (m : Row) → r ≡ Some m → (x : Row) → In x rows → test x ≡ true → m.number ≤ x.number
  low_best : (m : Row) → r ≡ Some m → (b : Row) → best ≡ Some b → m.number ≤ b.number

not-less : (m n : ℕ) → nat_lt n m ≡ false → m ≤ n
not-less m n e = grind (arith, nat_tests)

less : (m n : ℕ) → nat_lt n m ≡ true → n ≤ m
less m n e = grind (arith, nat_tests)

some-one : {A : Type 0} (x y : A) → Some x ≡ Some y → x ≡ y
some-one x y e = cc

some-none : {A : Type 0} (x : A) (o : Option A) → o ≡ Some x → o ≡ None → ⊥
some-none x o e f = absurd (cc)

same-number : (r q : Row) → r ≡ q → r.number ≡ q.number
same-number r q e = ap (λ (x : Row). x.number) e

lower-is : (best : Option Row) (n : Row) → (k : Row) × (lower best n ≡ Some k) × (k.number ≤ n.number)
    × ((b : Row) → best ≡ Some b → k.number ≤ b.number) × ((best ≡ Some k) ⊎ (k ≡ n))
lower-is None n = (n, refl, omega arith, (λ b e. absurd (some-none b None e refl)), inr refl)
lower-is (Some m) n = go (nat_lt n.number m.number) refl
  where
    go : (t : Bool) → nat_lt n.number m.number ≡ t
        → (k : Row) × (cond t (Some n) (Some m) ≡ Some k) × (k.number ≤ n.number)
        × ((b : Row) → Some m ≡ Some b → k.number ≤ b.number) × ((Some m ≡ Some k) ⊎ (k ≡ n))
    go true e = (
      n,
      refl,
      omega arith,
      (λ b f. let s = same-number m b (some-one m b f) in let l = less m.number n.number e in omega (arith, s, l)),
      inr refl,
    )
    go false e = (
      m,
      refl,
      not-less m.number n.number e,
      (λ b f. let s = same-number m b (some-one m b f) in omega (arith, s)),
      inl refl,
    )

least : (test : Row → Bool) (best : Option Row) (rows : List Row) → Least test best rows (lowest_of test best rows)
least test best [] = record {
  none = λ e. (e, (λ n h. absurd h));
  is = λ m e. inl e;
  low = λ m e n h f. absurd h;
  low_best = λ m e b f. let s = same-number m b (some-one m b (sym e ∙ f)) in omega (arith, s);
}
least test best (n ∷ ns) = go (test n) refl (least test (lower best n) ns) (least test best ns)
  where
    go : (t : Bool) → test n ≡ t → Least test (lower best n) ns (lowest_of test (lower best n) ns)
        → Least test best ns (lowest_of test best ns)
        → Least test best (n ∷ ns) (lowest_of test (cond t (lower best n) best) ns)
    go true e l k =
        let w = lower-is best n in
        record {
          none = λ f. absurd (some-none w.0 (lower best n) w.1 (l.none f).0);
          is = λ m f. elim (l.is m f) [
            | inl g ↦ (let s : w.0 ≡ m = some-one w.0 m (sym w.1 ∙ g) in elim w.4 [
              | inl h ↦ inl (h ∙ ap Some s)
              | inr h ↦ inr (inl (sym s ∙ h), ap test (sym s ∙ h) ∙ e)
            ])
            | inr g ↦ inr (inr g.0, g.1)
          ];
          low = λ m f x h i. elim h [
            | inl g ↦ (
                let c = l.low_best m f w.0 w.1 in
                let d = w.2 in
                let s = same-number x n g in omega (arith, c, d, s))
            | inr g ↦ l.low m f x g i
          ];
          low_best = λ m f b g. let c = l.low_best m f w.0 w.1 in let d = w.3 b g in omega (arith, c, d);
        }
    go false e l k = record {
      none = λ f. ((k.none f).0, (λ x h. elim h [ inl g ↦ ap test g ∙ e | inr g ↦ (k.none f).1 x g ]));
      is = λ m f. elim (k.is m f) [ inl g ↦ inl g | inr g ↦ inr (inr g.0, g.1) ];
      low = λ m f x h i. elim h [ inl g ↦ absurd (clash (test x) i (ap test g ∙ e)) | inr g ↦ k.low m f x g i ];
      low_best = k.low_best;
    }

-- the first atom that something is found in
module _ {X : Type 0} (pick : Numbered → Option X) (first : List Numbered → Option X) (none : first [] ≡ None)
    (step : (a : Numbered) (rest : List Numbered) → first (a ∷ rest) ≡ or_else (pick a) (first rest)) where
  first-at : (xs : List Numbered) → AreRising (numbers xs) → (a : Numbered) → In a xs → (x : X) → pick a ≡ Some x
      → ((b : Numbered) → In b xs → is_some (pick b) ≡ true → a.number ≤ b.number) → first xs ≡ Some x
  first-at [] r a h x e low = absurd h
  first-at (y ∷ ys) r a (inl same) x e low =
      step y ys ∙ ap (λ o. or_else o (first ys)) (ap pick (sym same) ∙ e)
  first-at (y ∷ ys) r a (inr h) x e low =
      step y ys ∙ ap (λ o. or_else o (first ys)) (no-earlier (pick y) refl)
      ∙ first-at ys r.1 a h x e (λ b i. low b (inr i))
    where
      no-earlier : (o : Option X) → pick y ≡ o → pick y ≡ None
      no-earlier None f = f
      no-earlier (Some z) f =
          let later = low y (inl refl) (ap is_some f) in
          let before = each-number (λ n. y.number < n) ys r.0 a h in absurd (omega (arith, later, before))

  first-none : (xs : List Numbered) → ((b : Numbered) → In b xs → pick b ≡ None) → first xs ≡ None
  first-none [] each = none
  first-none (y ∷ ys) each =
      step y ys ∙ ap (λ o. or_else o (first ys)) (each y (inl refl)) ∙ first-none ys (λ b h. each b (inr h))

-- the atom of a number
there-at : (xs : List Numbered) (a : Numbered) → In a xs → is_some (atom_at xs a.number) ≡ true
there-at [] a h = absurd h
there-at (x ∷ xs) a h = go (x.number == a.number) refl (λ i. there-at xs a i) h
  where
    go : (b : Bool) → x.number == a.number ≡ b → (In a xs → is_some (atom_at xs a.number) ≡ true) → In a (x ∷ xs)
        → is_some (cond b (Some x.atom) (atom_at xs a.number)) ≡ true
    go true e rest i = refl
    go false e rest (inl same) =
        absurd (clash (x.number == a.number)
        ((Decides-eqb x.number a.number).1 (ap (λ (z : Numbered). z.number) (sym same))) e)
    go false e rest (inr i) = rest i

at-there : (xs : List Numbered) (n : ℕ) → is_some (atom_at xs n) ≡ true → (a : Numbered) × In a xs × (a.number ≡ n)
at-there [] n e = absurd (cc)
at-there (x ∷ xs) n e = go (x.number == n) refl (at-there xs n) e
  where
    go : (b : Bool) → x.number == n ≡ b
        → (is_some (atom_at xs n) ≡ true → (a : Numbered) × In a xs × (a.number ≡ n))
        → is_some (cond b (Some x.atom) (atom_at xs n)) ≡ true → (a : Numbered) × In a (x ∷ xs) × (a.number ≡ n)
    go true f rest g = (x, inl refl, (Decides-eqb x.number n).0 f)
    go false f rest g = let r = rest g in (r.0, inr r.1, r.2)

module _ (s : Store) (kept : Kept s) where
  -- a row of the number of an atom is that of an atom
  of-atom : (r : Row) → In r (all_rows s) → is_some (atom_at s.atoms r.number) ≡ true
      → (a : Numbered) × In a s.atoms × (row_of a ≡ r)
  of-atom r h e =
      let a = in-map row_of r (s.atoms ++ s.taken.items) h in
      elim (in-cases a.0 s.atoms s.taken.items a.1) [
        | inl i ↦ (a.0, i, a.2)
        | inr i ↦ (
            let b = at-there s.atoms r.number e in
            let apart = each-number (λ n. AllByRecursion (λ m. m ≡ n → ⊥) (numbers s.taken.items)) s.atoms kept.numbered.apart b.0 b.1 in
            let other = each-number (λ m. m ≡ b.0.number → ⊥) s.taken.items apart a.0 i in
            absurd (other (ap (λ (z : Row). z.number) a.2 ∙ sym b.2)))
      ]

  marks-in : (r : Row) → In r s.index.marks → In r (all_rows s)
  marks-in r h = kept.indexed.marked r (in-any (same_row r) s.index.marks r h (same_row_self r))

  module _ {X : Type 0} (wanted : Wanted) (pick : Numbered → Option X) (answer : Row → Option X)
      (first : List Numbered → Option X) (none : first [] ≡ None)
      (step : (a : Numbered) (rest : List Numbered) → first (a ∷ rest) ≡ or_else (pick a) (first rest))
      (picks : (a : Numbered) → fits s wanted (row_of a) ≡ true
      → (x : X) × (pick a ≡ Some x) × (answer (row_of a) ≡ Some x))
      (others : (a : Numbered) → fits s wanted (row_of a) ≡ false → pick a ≡ None)
      (rows : List Row) (within : (r : Row) → In r rows → In r (all_rows s))
      (there : (a : Numbered) → In a s.atoms → fits s wanted (row_of a) ≡ true → In (row_of a) rows) where
    -- an atom that is what is looked for is among the rows
    wanted-there : (a : Numbered) → In a s.atoms → fits s wanted (row_of a) ≡ true
        → In (row_of a) rows × (is_wanted s wanted (row_of a) ≡ true)
    wanted-there a h e = (
      there a h e,
      and_from (fits s wanted (row_of a)) (is_some (atom_at s.atoms a.number)) e (there-at s.atoms a h),
    )

    found-fits : (a : Numbered) → is_some (pick a) ≡ true → fits s wanted (row_of a) ≡ true
    found-fits a e = not-false (fits s wanted (row_of a))
        (λ f. let g : is_some (pick a) ≡ false = ap is_some (others a f) in clash (is_some (pick a)) e g)

    lowest-first : option_and_then answer (lowest_of (is_wanted s wanted) None rows) ≡ first s.atoms
    lowest-first = go (lowest_of (is_wanted s wanted) None rows) (least (is_wanted s wanted) None rows)
      where
        go : (r : Option Row) → Least (is_wanted s wanted) None rows r → option_and_then answer r ≡ first s.atoms
        go None l = sym (first-none pick first none step s.atoms (λ b h. unwanted b h (fits s wanted (row_of b)) refl))
          where
            unwanted : (b : Numbered) → In b s.atoms → (t : Bool) → fits s wanted (row_of b) ≡ t → pick b ≡ None
            unwanted b h true e =
                let m = wanted-there b h e in
                absurd (clash (is_wanted s wanted (row_of b)) m.1 ((l.none refl).1 (row_of b) m.0))
            unwanted b h false e = others b e
        go (Some m) l = elim (l.is m refl) [
          | inl e ↦ absurd (some-none m None e refl)
          | inr e ↦ (
              let fit = and-left (fits s wanted m) (is_some (atom_at s.atoms m.number)) e.1 in
              let here = and-right (fits s wanted m) (is_some (atom_at s.atoms m.number)) e.1 in
              let a = of-atom m (within m e.0) here in
              let p = picks a.0 (ap (fits s wanted) a.2 ∙ fit) in
              let low : (b : Numbered) → In b s.atoms → is_some (pick b) ≡ true → a.0.number ≤ b.number =
              λ b h g. let w = wanted-there b h (found-fits b g) in
              let le = l.low m refl (row_of b) w.0 w.1 in
              let same = same-number (row_of a.0) m a.2 in omega (arith, le, same) in
              ap answer (sym a.2) ∙ p.2 ∙ sym (first-at pick first none step s.atoms kept.numbered.rising a.0 a.1 p.0 p.1 low))
        ]

  -- what can't pass without a mark is marked where it passes
  marked-there : (test : Row → Bool)
      → ((r : Row) → In r (rows_of s.atoms) → IsUnmarked s.index.marks r → test r ≡ false)
      → (a : Numbered) → In a s.atoms → test (row_of a) ≡ true → In (row_of a) s.index.marks
  marked-there test quiet a h e =
      marked-in s.index.marks (row_of a)
      (not-false (is_marked s.index.marks (row_of a))
      (λ f. clash (test (row_of a)) e (quiet (row_of a) (map-in row_of a s.atoms h) f)))

-- what is found in an atom that is forced
module _ (s : Store) where
  abbrev forced-pick : Numbered → Option (ℕ × Term × Term)
  forced-pick a = option_map (λ e. (a.number, e.0, e.1)) (forced_pair (known s) a.number a.atom)

  abbrev pub answer : Row → Option (ℕ × Term × Term)
  answer r = option_map (λ e. (r.number, e.0, e.1)) (forced_by true (bare r.outline))

  -- its root is elsewhere, by its row and by its atom
  forced-same : (a : Numbered)
      → forced_by (is_closed s.apart (all_rows s) a.number (root (bare (outline a.atom)))) (bare (outline a.atom))
      ≡ forced_pair (known s) a.number a.atom
  forced-same a =
      ap (λ t. forced_by (is_closed s.apart (all_rows s) a.number t) (bare (outline a.atom))) (bare-root a.atom)
      ∙ ap (λ b. forced_by (is_constant (root a.atom) || b) (bare (outline a.atom)))
      (all_allocated s (root a.atom) (Some a.number))
      ∙ bare-forced (is_elsewhere (known s) a.number (root a.atom)) a.atom

  forced-some : (a : Numbered) → is_forced s.apart (all_rows s) (row_of a) ≡ is_some (forced_pair (known s) a.number a.atom)
  forced-some a = ap is_some (forced-same a)

-- what is forced is so by its ends
forced-ends : (p : Bool) (x : Atom) → is_some (forced_by p x) ≡ true → forced_by true x ≡ forced_by p x
forced-ends true x e = refl
forced-ends false (Points t fields) e = refl
forced-ends false (Ls t u) e = go (not (same_term t u)) e
  where
    go : (a : Bool) → is_some {T = Term × Term} (cond (a && false) (Some (t, u)) None) ≡ true
        → cond {A = Option (Term × Term)} (a && true) (Some (t, u)) None ≡ cond (a && false) (Some (t, u)) None
    go true f = absurd (cc)
    go false f = refl
forced-ends false (Tree t) e = go (not (same_term t Nil)) e
  where
    go : (a : Bool) → is_some {T = Term × Term} (cond (a && false) (Some (t, Nil)) None) ≡ true
        → cond {A = Option (Term × Term)} (a && true) (Some (t, Nil)) None ≡ cond (a && false) (Some (t, Nil)) None
    go true f = absurd (cc)
    go false f = refl
forced-ends false (Dll v b l u) e = go (same_term v u) (same_term b l) e
  where
    go : (x y : Bool) → is_some (double-pair v b l u x y false) ≡ true
        → double-pair v b l u x y true ≡ double-pair v b l u x y false
    go true y f = refl
    go false y f = absurd (cc)

a-some : {A : Type 0} (o : Option A) → is_some o ≡ true → (x : A) × (o ≡ Some x)
a-some None e = absurd (cc)
a-some (Some x) e = (x, refl)

a-none : {A : Type 0} (o : Option A) → is_some o ≡ false → o ≡ None
a-none None e = refl
a-none (Some x) e = absurd (cc)

pub forced_first : (s : Store) → Kept s
    → option_and_then (answer s) (lowest_of (is_wanted s Forced) None s.index.marks) ≡ first_forced (known s) s.atoms
forced_first s kept =
    lowest-first s kept Forced (forced-pick s) (answer s) (first_forced (known s)) refl (λ a rest. refl)
    (λ a e.
    let p = a-some (forced_pair (known s) a.number a.atom) (sym (forced-some s a) ∙ e) in (
      (a.number, p.0.0, p.0.1),
      ap (option_map (λ e. (a.number, e.0, e.1))) p.1,
      ap (option_map (λ e. (a.number, e.0, e.1)))
          (forced-ends (is_closed s.apart (all_rows s) a.number (root (bare (outline a.atom)))) (bare (outline a.atom)) e
          ∙ forced-same s a ∙ p.1),
    ))
    (λ a e. ap (option_map (λ e. (a.number, e.0, e.1)))
    (a-none (forced_pair (known s) a.number a.atom) (sym (forced-some s a) ∙ e))) s.index.marks (marks-in s kept)
    (marked-there s kept (is_forced s.apart (all_rows s)) kept.indexed.quiet.free)

-- which is forced first, variables don't tell
pub forced_known : (s : Store) (links : Links) (vars : List (Var × Term)) (next_sym : ℕ) (xs : List Numbered)
    → first_forced (known s) xs ≡ first_forced (state_in links vars next_sym (heap s)) xs
forced_known s links vars next_sym [] = refl
forced_known s links vars next_sym (x ∷ xs) =
    ap (or_else (option_map (λ e. (x.number, e.0, e.1)) (forced_pair (known s) x.number x.atom)))
    (forced_known s links vars next_sym xs)

-- the number of the first atom that passes a test
abbrev first-number : (Numbered → Bool) → List Numbered → Option ℕ
first-number test [] = None
first-number test (a ∷ rest) = cond (test a) (Some a.number) (first-number test rest)

number-lowest : (test : Numbered → Bool) (xs : List Numbered) → AreRising (numbers xs) → IsLowest test xs (first-number test xs)
number-lowest test [] r = λ a c. absurd (contains-nil a c)
number-lowest test (x ∷ xs) r = go (number-lowest test xs r.1) (test x) refl
  where
    go : IsLowest test xs (first-number test xs) → (b : Bool) → test x ≡ b
        → IsLowest test (x ∷ xs) (cond b (Some x.number) (first-number test xs))
    go others true e = lowest-here test x xs r e
    go others false e = lowest-later test x xs (first-number test xs) e others

bare-kind : (kind : Kind) (t : Term) (x : Atom) → is_kind kind t (bare (outline x)) ≡ is_kind kind t x
bare-kind Cell t = bare-test (is_kind Cell t) (λ r fields. refl)
bare-kind Segment t = bare-test (is_kind Segment t) (λ r fields. refl)
bare-kind (SegmentTo u) t = bare-test (is_kind (SegmentTo u) t) (λ r fields. refl)
bare-kind Wood t = bare-test (is_kind Wood t) (λ r fields. refl)
bare-kind Double t = bare-test (is_kind Double t) (λ r fields. refl)
bare-kind DoubleLast t = bare-test (is_kind DoubleLast t) (λ r fields. refl)
bare-kind (DoubleTo q m w) t = bare-test (is_kind (DoubleTo q m w) t) (λ r fields. refl)

-- what is of a kind at a term begins there
kind-begins : (kind : Kind) (t : Term) (x : Atom) → is_kind kind t x ≡ true → begins t x ≡ true
kind-begins Cell t (Points v fields) e = or_left (same_term v t) false e
kind-begins Cell t (Ls v w) e = absurd (cc)
kind-begins Cell t (Tree v) e = absurd (cc)
kind-begins Cell t (Dll v p l u) e = absurd (cc)
kind-begins Segment t (Points v fields) e = absurd (cc)
kind-begins Segment t (Ls v w) e = or_left (same_term v t) false e
kind-begins Segment t (Tree v) e = absurd (cc)
kind-begins Segment t (Dll v p l u) e = absurd (cc)
kind-begins (SegmentTo u) t (Points v fields) e = absurd (cc)
kind-begins (SegmentTo u) t (Ls v w) e = or_left (same_term v t) false (and-left (same_term v t) (same_term w u) e)
kind-begins (SegmentTo u) t (Tree v) e = absurd (cc)
kind-begins (SegmentTo w) t (Dll v p l u) e = absurd (cc)
kind-begins Wood t (Points v fields) e = absurd (cc)
kind-begins Wood t (Ls v w) e = absurd (cc)
kind-begins Wood t (Tree v) e = or_left (same_term v t) false e
kind-begins Wood t (Dll v p l u) e = absurd (cc)
kind-begins Double t (Points v fields) e = absurd (cc)
kind-begins Double t (Ls v w) e = absurd (cc)
kind-begins Double t (Tree v) e = absurd (cc)
kind-begins Double t (Dll v p l u) e = or_left (same_term v t) (same_term l t || false) e
kind-begins DoubleLast t (Points v fields) e = absurd (cc)
kind-begins DoubleLast t (Ls v w) e = absurd (cc)
kind-begins DoubleLast t (Tree v) e = absurd (cc)
kind-begins DoubleLast t (Dll v p l u) e =
    or_right (same_term v t) (same_term l t || false) (or_left (same_term l t) false e)
kind-begins (DoubleTo q m w) t (Points v fields) e = absurd (cc)
kind-begins (DoubleTo q m w) t (Ls v x) e = absurd (cc)
kind-begins (DoubleTo q m w) t (Tree v) e = absurd (cc)
kind-begins (DoubleTo q m w) t (Dll v p l u) e =
    or_left (same_term v t) (same_term l t || false)
    (and-left (same_term v t) (same_term p q && (same_term l m && same_term u w)) e)

pub at_lowest : (s : Store) → Kept s → (t : Term) (kind : Kind)
    → IsLowest (λ a. is_kind kind t a.atom) s.atoms
    (option_and_then (λ (r : Row). Some r.number) (lowest_of (is_wanted s (At t kind)) None (rows_at s.index.roots t)))
at_lowest s kept t kind =
    let test : Numbered → Bool = λ a. is_kind kind t a.atom in
    let pick : Numbered → Option ℕ = λ a. cond (test a) (Some a.number) None in
    subst (IsLowest test s.atoms)
    (sym (lowest-first s kept (At t kind) pick (λ r. Some r.number) (first-number test) refl
    (λ a rest. number-step (test a) a.number (first-number test rest))
    (λ a e. (a.number, ap (λ b. cond b (Some a.number) None) (sym (bare-kind kind t a.atom) ∙ e), refl))
    (λ a e. ap (λ b. cond b (Some a.number) None) (sym (bare-kind kind t a.atom) ∙ e)) (rows_at s.index.roots t)
    (λ r h. (kept.indexed.of_rows t r h).0)
    (λ a h e. kept.indexed.listed (row_of a) (map-in row_of a (s.atoms ++ s.taken.items) (in-left a s.atoms s.taken.items h)) t
    (kind-begins kind t (bare (outline a.atom)) e))))
    (number-lowest test s.atoms kept.numbered.rising)
  where
    number-step : (b : Bool) (n : ℕ) (o : Option ℕ) → cond b (Some n) o ≡ or_else (cond b (Some n) None) o
    number-step true n o = refl
    number-step false n o = refl

-- a row that the tests find nothing of needs no mark
module _ (s : Store) (kept : Kept s) (row : Row) (none : is_found s row ≡ false) (marks : List Row)
    (is : (r : Row) → is_marked marks r ≡ (not (same_row r row) && is_marked s.index.marks r)) where
  -- a row without a mark then is that one, or had none
  unmarked-then : (r : Row) → IsUnmarked marks r → (r ≡ row) ⊎ IsUnmarked s.index.marks r
  unmarked-then r f = go (same_row r row) refl (sym (is r) ∙ f)
    where
      go : (b : Bool) → same_row r row ≡ b → (not b && is_marked s.index.marks r) ≡ false
          → (r ≡ row) ⊎ IsUnmarked s.index.marks r
      go true e g = inl (same_row_is r row e)
      go false e g = inr g

  parts : (is_hopeless s.apart (all_rows s) row ≡ false) × (is_wanted s Forced row ≡ false)
  parts = or_parts (is_hopeless s.apart (all_rows s) row) (is_wanted s Forced row) none

  tight-atom : (wanted : Wanted) → is_wanted s wanted row ≡ false → (r : Row) → In r (rows_of s.atoms) → r ≡ row
      → fits s wanted r ≡ false
  tight-atom wanted off r h e =
      let a = in-map row_of r s.atoms h in
      let there : is_some (atom_at s.atoms r.number) ≡ true =
      ap (λ (z : Row). is_some (atom_at s.atoms z.number)) (sym a.2) ∙ there-at s.atoms a.0 a.1 in
      not-true (fits s wanted r)
      (λ f. clash (is_wanted s wanted r) (and_from (fits s wanted r) (is_some (atom_at s.atoms r.number)) f there)
      (ap (is_wanted s wanted) e ∙ off))

  pub settled : IsIndexed s.apart (all_rows s) (rows_of s.atoms) s.index.roots s.index.cells marks
  settled = record {
    listed = kept.indexed.listed;
    of_rows = kept.indexed.of_rows;
    cells_listed = kept.indexed.cells_listed;
    cells_of_rows = kept.indexed.cells_of_rows;
    marked = λ r e. kept.indexed.marked r (and-right (not (same_row r row)) (is_marked s.index.marks r) (sym (is r) ∙ e));
    quiet = record {
      hopeful = λ r h f. elim (unmarked-then r f) [
        | inl e ↦ ap (is_hopeless s.apart (all_rows s)) e ∙ parts.0
        | inr g ↦ kept.indexed.quiet.hopeful r h g
      ];
      free = λ r h f. elim (unmarked-then r f) [
        | inl e ↦ tight-atom Forced parts.1 r h e
        | inr g ↦ kept.indexed.quiet.free r h g
      ];
    };
  }
