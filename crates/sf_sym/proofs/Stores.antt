-- What a store keeps, after each primitive change of its parts.
-- Names: `rows-LAW` speaks of the rows of a list of atoms, `store-EVENT` of what is kept after an event.
use Rattle.std.proofs.Common.{◌≡◌, ◌≢◌, ◌⊎◌, inl, inr, ℕ, ◌+◌, ◌<◌, ◌≤◌, ◌==◌, Bool, true, false, ◌||◌, cond, is_some, Option, Some, None, List, [], ◌∷◌, ◌++◌, map, refl, sym, ap, ap₂, ◌∙◌, subst, arith}
use Rattle.std.specs.List.{AllByRecursion, list_any}
use Rattle.std.specs.Option.{option_and_then}
use Rattle.std.proofs.lemmas.Bool.{false≢true, or_parts}
use Rattle.std.proofs.lemmas.Bool.Decides.{Decides-eqb}
use Rattle.std.proofs.lemmas.List.{map-append}
use Rattle.std.proofs.lemmas.Option.{same_Some}
use Rattle.sf_base.specs.declared.ids.FieldId.{FieldId}
use Rattle.sf_sym.specs.declared.atom.Atom.{Atom}
use Rattle.sf_sym.specs.declared.atom.Atom.TheVariants.{Points, Ls, Tree, Dll}
use Rattle.sf_sym.specs.declared.atom.Numbered.{Numbered}
use Rattle.sf_sym.specs.declared.outline.Outline.TheVariants.{Cell, Segment, Tree as Wood, Double}
use Rattle.sf_sym.specs.declared.outline.Row.{Row}
use Rattle.sf_sym.specs.declared.term.Term.{Term}
use Rattle.sf_sym.specs.declared.term.Term.TheVariants.{Nil, Int, Sym}
use Rattle.sf_sym.specs.Below.{AllInAtom, AllInAtoms, AllInPairs, IsBelow}
use Rattle.sf_sym.specs.Cells.{atom_at, cell_at, fields_at, with_fields, without}
use Rattle.sf_sym.specs.Checked.Keeping.{Forgets, In, IsNoted, IsReady, RemainsIndexed, RemainsWithout, rows_of}
use Rattle.sf_sym.specs.Checked.Lemmas.{same_term_is}
use Rattle.sf_sym.specs.Checked.Rows.{has_term, is_marked, outline, row_of}
use Rattle.sf_sym.specs.Checked.Stores.{AreAllMarked, AreSameMarks, Heap, IsBounded, IsKept, IsMade, is_outside_fields}
use Rattle.sf_sym.specs.Equalities.{atom_with, numbered_with, put_for}
use Rattle.sf_sym.specs.Fields.{put_term}
use Rattle.sf_sym.specs.Numbers.{AreDifferent, AreNumbered, numbers}
use Rattle.sf_sym.specs.Tests.{same_term}
use Rattle.sf_base.proofs.Elements.{all_by-append}
use Rattle.sf_sym.proofs.Bounds.{atoms-before, atoms-more, atoms-push, atoms-without, bounded-replaced, pairs-more}
use Rattle.sf_sym.proofs.Indices.{cell_of_atom}
use Rattle.sf_sym.proofs.Kept.{kept-added, kept-like, kept-made, kept-pair, kept-removed, kept-undone}
use Rattle.sf_sym.proofs.Making.{none-new}
use Rattle.sf_sym.proofs.Members.{in-cases, in-last, in-left, in-right}
use Rattle.sf_sym.proofs.NumberLists.{numbered-given, numbered-map, numbered-none, numbered-push, numbered-without, numbers-append}

rows-append : (xs ys : List Numbered) → rows_of (xs ++ ys) ≡ rows_of xs ++ rows_of ys
rows-append xs ys = map-append row_of xs ys

module _ (r : Row) (xs ys : List Numbered) where
  pub rows-left : In r (rows_of xs) → In r (rows_of (xs ++ ys))
  rows-left h = subst (In r) (sym (rows-append xs ys)) (in-left r (rows_of xs) (rows_of ys) h)

  pub rows-right : In r (rows_of ys) → In r (rows_of (xs ++ ys))
  rows-right h = subst (In r) (sym (rows-append xs ys)) (in-right r (rows_of xs) (rows_of ys) h)

  pub rows-cases : In r (rows_of (xs ++ ys)) → In r (rows_of xs) ⊎ In r (rows_of ys)
  rows-cases h = in-cases r (rows_of xs) (rows_of ys) (subst (In r) (rows-append xs ys) h)

-- the row of an atom that is the last of a list
pub rows-last : (r : Row) (xs : List Numbered) (x : Numbered) → In r (rows_of (xs ++ x ∷ [])) → In r (rows_of xs) ⊎ (r ≡ row_of x)
rows-last r xs x h = elim (rows-cases r xs (x ∷ []) h) [
  | inl g ↦ inl g
  | inr g ↦ elim g [ inl e ↦ inr e | inr z ↦ absurd z ]
]

-- numbers
all-in : {X : Type 0} (P : X → Type 0) (x : X) (xs : List X) → AllByRecursion P xs → In x xs → P x
all-in P x [] a h = absurd h
all-in P x (y ∷ ys) a (inl e) = subst P (sym e) a.0
all-in P x (y ∷ ys) a (inr h) = all-in P x ys a.1 h

all-before : {X : Type 0} (P : X → Type 0) (xs ys : List X) → AllByRecursion P (xs ++ ys) → AllByRecursion P xs
all-before P [] ys a = tt
all-before P (x ∷ xs) ys a = (a.0, all-before P xs ys a.1)

all-each : {X : Type 0} (P Q : X → Type 0) → ((x : X) → P x → Q x) → (xs : List X) → AllByRecursion P xs
    → AllByRecursion Q xs
all-each P Q f [] a = tt
all-each P Q f (x ∷ xs) a = (f x a.0, all-each P Q f xs a.1)

different-before : (ns ms : List ℕ) → AreDifferent (ns ++ ms) → AreDifferent ns
different-before [] ms d = tt
different-before (n ∷ ns) ms d = (all-before (λ k. k ≢ n) ns ms d.0, different-before ns ms d.1)

different-last : (n m : ℕ) (ns : List ℕ) → AreDifferent (ns ++ m ∷ []) → In n ns → m ≢ n
different-last n m [] d h = absurd h
different-last n m (k ∷ ns) d (inl e) =
    subst (λ z. m ≢ z) (sym e) (all-in (λ j. j ≢ k) m (ns ++ m ∷ []) d.0 (in-last m ns))
different-last n m (k ∷ ns) d (inr h) = different-last n m ns d.1 h

numbered-before : (atoms taken more : List ℕ) (next : ℕ) → AreNumbered atoms (taken ++ more) next → AreNumbered atoms taken next
numbered-before atoms taken more next numbered = record {
  rising = numbered.rising;
  different = different-before taken more numbered.different;
  apart = all-each (λ n. AllByRecursion (λ m. m ≢ n) (taken ++ more)) (λ n. AllByRecursion (λ m. m ≢ n) taken)
      (λ n a. all-before (λ m. m ≢ n) taken more a) atoms numbered.apart;
  below = numbered.below;
  taken_below = all-before (λ n. n < next) taken more numbered.taken_below;
}

number-in : (r : Row) (xs : List Numbered) → In r (rows_of xs) → In r.number (numbers xs)
number-in r [] h = absurd h
number-in r (x ∷ xs) (inl e) = inl (ap (λ (z : Row). z.number) e)
number-in r (x ∷ xs) (inr h) = inr (number-in r xs h)

-- no other part has the number of the last one that was taken
pub rows-distinct : (xs ys : List Numbered) (x : Numbered) (next : ℕ)
    → AreNumbered (numbers xs) (numbers (ys ++ x ∷ [])) next
    → (r : Row) → In r (rows_of (xs ++ ys)) → r.number ≡ x.number → ⊥
rows-distinct xs ys x next numbered r h e = elim (rows-cases r xs ys h) [
  | inl g ↦ all-in (λ m. m ≢ r.number) x.number (numbers (ys ++ x ∷ []))
      (all-in (λ n. AllByRecursion (λ m. m ≢ n) (numbers (ys ++ x ∷ []))) r.number (numbers xs) numbered.apart
      (number-in r xs g)) (subst (In x.number) (sym (numbers-append ys x)) (in-last x.number (numbers ys))) (sym e)
  | inr g ↦ different-last r.number x.number (numbers ys) (subst AreDifferent (numbers-append ys x) numbered.different)
      (number-in r ys g) (sym e)
]

-- no part has the next number
pub rows-new : (xs ys : List Numbered) (next : ℕ) → AreNumbered (numbers xs) (numbers ys) next
    → (r : Row) → In r (rows_of (xs ++ ys)) → r.number ≡ next → ⊥
rows-new xs ys next numbered r h e = elim (rows-cases r xs ys h) [
  | inl g ↦ (
      let lt = all-in (λ n. n < next) r.number (numbers xs) numbered.below (number-in r xs g) in absurd (omega (arith, lt, e)))
  | inr g ↦ (
      let lt = all-in (λ n. n < next) r.number (numbers ys) numbered.taken_below (number-in r ys g) in
      absurd (omega (arith, lt, e)))
]

-- the atoms without one
pub rows-without : (a : ℕ) (xs : List Numbered) (r : Row) → In r (rows_of (without xs a)) → In r (rows_of xs)
rows-without a [] r h = h
rows-without a (x ∷ xs) r h = go (x.number == a) h (rows-without a xs r)
  where
    go : (b : Bool) → In r (rows_of (cond b xs (x ∷ without xs a)))
        → (In r (rows_of (without xs a)) → In r (rows_of xs)) → In r (rows_of (x ∷ xs))
    go true g rest = inr g
    go false (inl e) rest = inl e
    go false (inr g) rest = inr (rest g)

module _ (a : ℕ) (x : Atom) where
  abbrev gone : Row
  gone = record { number = a; outline = outline x }

  -- are all but the one that goes
  pub rows-others : (xs : List Numbered) → atom_at xs a ≡ Some x → (r : Row) → In r (rows_of xs)
      → In r (rows_of (without xs a)) ⊎ (r ≡ gone)
  rows-others [] e r h = absurd h
  rows-others (y ∷ ys) e r h = go (y.number == a) refl e h (λ s g. rows-others ys s r g)
    where
      go : (b : Bool) → y.number == a ≡ b → cond b (Some y.atom) (atom_at ys a) ≡ Some x → In r (rows_of (y ∷ ys))
          → (atom_at ys a ≡ Some x → In r (rows_of ys) → In r (rows_of (without ys a)) ⊎ (r ≡ gone))
          → In r (rows_of (cond b ys (y ∷ without ys a))) ⊎ (r ≡ gone)
      go true f s (inl same) rest =
          inr (same
          ∙ ap₂ (λ n z. record { number = n; outline = outline z }) ((Decides-eqb y.number a).0 f) (same_Some y.atom x s))
      go true f s (inr g) rest = inl g
      go false f s (inl same) rest = inl (inl same)
      go false f s (inr g) rest = elim (rest s g) [ inl k ↦ inl (inr k) | inr k ↦ inr k ]

  pub rows-there : (xs : List Numbered) → atom_at xs a ≡ Some x → In gone (rows_of xs)
  rows-there [] e = absurd (cc)
  rows-there (y ∷ ys) e = go (y.number == a) refl e (rows-there ys)
    where
      go : (b : Bool) → y.number == a ≡ b → cond b (Some y.atom) (atom_at ys a) ≡ Some x
          → (atom_at ys a ≡ Some x → In gone (rows_of ys)) → In gone (rows_of (y ∷ ys))
      go true f s rest =
          inl (sym (ap₂ (λ n z. record { number = n; outline = outline z }) ((Decides-eqb y.number a).0 f) (same_Some y.atom x s)))
      go false f s rest = inr (rest s)

pub without-none : (a : ℕ) (xs : List Numbered) → atom_at xs a ≡ None → without xs a ≡ xs
without-none a [] e = refl
without-none a (x ∷ xs) e = go (x.number == a) e (without-none a xs)
  where
    go : (b : Bool) → cond b (Some x.atom) (atom_at xs a) ≡ None → (atom_at xs a ≡ None → without xs a ≡ xs)
        → cond b xs (x ∷ without xs a) ≡ x ∷ xs
    go true f rest = absurd (cc)
    go false f rest = ap (λ zs. x ∷ zs) (rest f)

-- the last one goes, where it has a number of its own
pub without-last : (n : ℕ) (xs : List Numbered) (x : Numbered) → AllByRecursion (λ m. m < n) (numbers xs) → x.number ≡ n
    → without (xs ++ x ∷ []) n ≡ xs
without-last n [] x below e = go (x.number == n) ((Decides-eqb x.number n).1 e)
  where
    go : (b : Bool) → b ≡ true → cond b [] (x ∷ []) ≡ []
    go true f = refl
    go false f = absurd (false≢true f)
without-last n (y ∷ ys) x below e = go (y.number == n) refl (without-last n ys x below.1 e)
  where
    go : (b : Bool) → y.number == n ≡ b → without (ys ++ x ∷ []) n ≡ ys
        → cond b (ys ++ x ∷ []) (y ∷ without (ys ++ x ∷ []) n) ≡ y ∷ ys
    go true f rest =
        let lt : y.number < n = below.0 in
        let same : y.number ≡ n = (Decides-eqb y.number n).0 f in absurd (omega (arith, lt, same))
    go false f rest = ap (λ zs. y ∷ zs) rest

-- a cell at a term has that outline, whatever its fields are
pub cell-outline : (x : Atom) (t : Term) → is_some (fields_at x t) ≡ true → outline x ≡ Cell t
cell-outline (Points r fields) t e = go (same_term r t) refl e
  where
    go : (b : Bool) → same_term r t ≡ b → is_some {T = List (FieldId × Term)} (cond b (Some fields) None) ≡ true → Cell r ≡ Cell t
    go true f s = ap Cell (same_term_is r t f)
    go false f s = absurd (cc)
cell-outline (Ls u v) t e = absurd (cc)
cell-outline (Tree u) t e = absurd (cc)
cell-outline (Dll v p l u) t e = absurd (cc)

-- where a cell is, an atom of its outline is
pub cell-there : (a : ℕ) (xs : List Numbered) (t : Term) → is_some (cell_at xs a t) ≡ true
    → (x : Atom) × (atom_at xs a ≡ Some x) × (outline x ≡ Cell t)
cell-there a xs t e = go (atom_at xs a) refl (ap is_some (sym (cell_of_atom a xs t)) ∙ e)
  where
    go : (o : Option Atom) → atom_at xs a ≡ o → is_some (option_and_then (λ x. fields_at x t) o) ≡ true
        → (x : Atom) × (atom_at xs a ≡ Some x) × (outline x ≡ Cell t)
    go None f s = absurd (cc)
    go (Some x) f s = (x, f, cell-outline x t s)

pub rows-fields : (xs : List Numbered) (a : ℕ) (t : Term) (fields : List (FieldId × Term)) → is_some (cell_at xs a t) ≡ true
    → rows_of (with_fields xs a t fields) ≡ rows_of xs
rows-fields [] a t fields e = refl
rows-fields (x ∷ xs) a t fields e = go (x.number == a) refl e (rows-fields xs a t fields)
  where
    go : (b : Bool) → x.number == a ≡ b → is_some (cond b (fields_at x.atom t) (cell_at xs a t)) ≡ true
        → (is_some (cell_at xs a t) ≡ true → rows_of (with_fields xs a t fields) ≡ rows_of xs)
        → rows_of (cond b (record { number = a; atom = Points t fields } ∷ xs) (x ∷ with_fields xs a t fields)) ≡ rows_of (x ∷ xs)
    go true f s rest =
        ap₂ (λ n o. record { number = n; outline = o } ∷ rows_of xs) (sym ((Decides-eqb x.number a).0 f))
        (sym (cell-outline x.atom t s))
    go false f s rest = ap (λ rows. row_of x ∷ rows) (rest s)

-- a field of a cell is written
pub rows-written : (xs new : List Numbered) (a : ℕ) (t : Term) (f : FieldId) (u : Term) → is_some (cell_at xs a t) ≡ true
    → ((fields : List (FieldId × Term)) → cell_at xs a t ≡ Some fields → new ≡ with_fields xs a t (put_term f u fields))
    → rows_of new ≡ rows_of xs
rows-written xs new a t f u there after = go (cell_at xs a t) refl there
  where
    go : (o : Option (List (FieldId × Term))) → cell_at xs a t ≡ o → is_some o ≡ true → rows_of new ≡ rows_of xs
    go None e some = absurd (cc)
    go (Some fields) e some =
        ap rows_of (after fields e) ∙ rows-fields xs a t (put_term f u fields) (ap is_some e)

module _ (h : Heap) (above : ℕ) (roots cells : List (Term × List Row)) (marks : List Row)
    (kept : IsKept h above roots cells marks) where
  abbrev rows : List Row
  rows = rows_of (h.atoms ++ h.taken)

  part : (r : Row) → In r (rows_of h.atoms) → In r rows
  part r = rows-left r h.atoms h.taken

  -- other indices that serve the same
  pub store-remains : (now more : List (Term × List Row)) (marked : List Row) → RemainsIndexed roots cells marks now more marked
      → IsKept h above now more marked
  store-remains now more marked remains = record {
    numbered = kept.numbered;
    bounded = kept.bounded;
    indexed = remains h.apart rows (rows_of h.atoms) part kept.indexed;
  }

  pub store-refused : (now more : List (Term × List Row)) (marked : List Row)
      → RemainsWithout h.next_atom roots cells marks now more marked → IsKept h above now more marked
  store-refused now more marked remains = record {
    numbered = kept.numbered;
    bounded = kept.bounded;
    indexed = remains h.apart rows (rows_of h.atoms) part (rows-new h.atoms h.taken h.next_atom kept.numbered) kept.indexed;
  }

  -- one part more
  module _ (x : Numbered) (number : x.number ≡ h.next_atom) (now more : List (Term × List Row)) (marked : List Row)
      (noted : IsNoted h.apart rows roots cells marks (row_of x) now more marked) where
    pub store-added : (most : ℕ) → above ≤ most → AllInAtom (IsBelow most) x.atom
        → IsKept (record h { atoms = h.atoms ++ x ∷ []; next_atom = h.next_atom + 1 }) most now more marked
    store-added most le below = record {
      numbered = numbered-push h.atoms h.taken (h.atoms ++ x ∷ []) h.next_atom kept.numbered x number refl;
      bounded = record {
        pairs = pairs-more above most le h.apart kept.bounded.pairs;
        atoms = atoms-push (IsBelow most) h.atoms x (atoms-more above most le h.atoms kept.bounded.atoms) below;
        taken = atoms-more above most le h.taken kept.bounded.taken;
      };
      indexed = kept-added h.apart rows (rows_of h.atoms) roots cells marks kept.indexed part (row_of x)
          (rows_of ((h.atoms ++ x ∷ []) ++ h.taken)) (rows_of (h.atoms ++ x ∷ []))
          (λ r i. elim (rows-cases r h.atoms h.taken i) [
            | inl g ↦ rows-left r (h.atoms ++ x ∷ []) h.taken (rows-left r h.atoms (x ∷ []) g)
            | inr g ↦ rows-right r (h.atoms ++ x ∷ []) h.taken g
          ])
          (rows-left (row_of x) (h.atoms ++ x ∷ []) h.taken (rows-right (row_of x) h.atoms (x ∷ []) (inl refl)))
          (λ r i. elim (rows-cases r (h.atoms ++ x ∷ []) h.taken i) [
            | inl g ↦ elim (rows-last r h.atoms x g) [ inl k ↦ inl (part r k) | inr e ↦ inr e ]
            | inr g ↦ inl (rows-right r h.atoms h.taken g)
          ])
          (λ r i. rows-last r h.atoms x i) (λ r i. rows-left r (h.atoms ++ x ∷ []) h.taken i) now more marked noted;
    }

    -- and given up again
    pub store-undone : (back fewer : List (Term × List Row)) (left : List Row)
        → Forgets (row_of x) now more marked back fewer left → IsKept h above back fewer left
    store-undone back fewer left forgets = record {
      numbered = kept.numbered;
      bounded = kept.bounded;
      indexed = kept-undone h.apart rows (rows_of h.atoms) roots cells marks kept.indexed part (row_of x)
          (λ r i e. rows-new h.atoms h.taken h.next_atom kept.numbered r i (e ∙ number)) now more marked noted back fewer left
          forgets.roots_leave forgets.cells_leave forgets.unmarks;
    }

  -- an atom goes
  pub store-removed : (a : ℕ) (x : Atom) → atom_at h.atoms a ≡ Some x
      → (now more : List (Term × List Row)) (marked : List Row)
      → Forgets (record { number = a; outline = outline x }) roots cells marks now more marked
      → IsKept (record h { atoms = without h.atoms a }) above now more marked
  store-removed a x there now more marked forgets = record {
    numbered = numbered-without a h.atoms h.taken h.next_atom kept.numbered;
    bounded = record {
      pairs = kept.bounded.pairs;
      atoms = atoms-without (IsBelow above) a h.atoms kept.bounded.atoms;
      taken = kept.bounded.taken;
    };
    indexed = kept-removed h.apart rows (rows_of h.atoms) roots cells marks kept.indexed part
        (record { number = a; outline = outline x }) (rows_of (without h.atoms a ++ h.taken)) (rows_of (without h.atoms a))
        (λ r i. elim (rows-cases r (without h.atoms a) h.taken i) [
          | inl g ↦ part r (rows-without a h.atoms r g)
          | inr g ↦ rows-right r h.atoms h.taken g
        ])
        (rows-distinct (without h.atoms a) h.taken (record { number = a; atom = x }) h.next_atom
        (numbered-given a h.atoms h.taken h.next_atom (record { number = a; atom = x }) refl (ap is_some there) kept.numbered))
        (λ r i. elim (rows-cases r h.atoms h.taken i) [
          | inl g ↦ elim (rows-others a x h.atoms there r g) [
            | inl k ↦ inl (rows-left r (without h.atoms a) h.taken k)
            | inr e ↦ inr e
          ]
          | inr g ↦ inl (rows-right r (without h.atoms a) h.taken g)
        ])
        (λ r i. rows-without a h.atoms r i) (λ r i. rows-left r (without h.atoms a) h.taken i) now more marked
        forgets.roots_leave forgets.cells_leave forgets.unmarks;
  }

  -- the last of those that were handed over goes
  pub store-popped : (ys : List Numbered) (x : Numbered) → h.taken ≡ ys ++ x ∷ []
      → (now more : List (Term × List Row)) (marked : List Row)
      → Forgets (row_of x) roots cells marks now more marked
      → IsKept (record h { taken = ys }) above now more marked
  store-popped ys x last now more marked forgets =
      let all = subst (λ zs. AreNumbered (numbers h.atoms) (numbers zs) h.next_atom) last kept.numbered in
      record {
        numbered = numbered-before (numbers h.atoms) (numbers ys) (x.number ∷ []) h.next_atom
            (subst (λ ns. AreNumbered (numbers h.atoms) ns h.next_atom) (numbers-append ys x) all);
        bounded = record {
          pairs = kept.bounded.pairs;
          atoms = kept.bounded.atoms;
          taken = atoms-before (IsBelow above) ys (x ∷ []) (subst (AllInAtoms (IsBelow above)) last kept.bounded.taken);
        };
        indexed = kept-removed h.apart rows (rows_of h.atoms) roots cells marks kept.indexed part (row_of x)
            (rows_of (h.atoms ++ ys)) (rows_of h.atoms)
            (λ r i. elim (rows-cases r h.atoms ys i) [
              | inl g ↦ part r g
              | inr g ↦ rows-right r h.atoms h.taken
                  (subst (λ zs. In r (rows_of zs)) (sym last) (rows-left r ys (x ∷ []) g))
            ])
            (rows-distinct h.atoms ys x h.next_atom all)
            (λ r i. elim (rows-cases r h.atoms h.taken i) [
              | inl g ↦ inl (rows-left r h.atoms ys g)
              | inr g ↦ elim (rows-last r ys x (subst (λ zs. In r (rows_of zs)) last g)) [
                | inl k ↦ inl (rows-right r h.atoms ys k)
                | inr e ↦ inr e
              ]
            ])
            (λ r i. i) (λ r i. rows-left r h.atoms ys i) now more marked forgets.roots_leave forgets.cells_leave
            forgets.unmarks;
      }

  -- an atom is handed over, as it was or with other fields
  pub store-handed : (a : ℕ) (x : Atom) → atom_at h.atoms a ≡ Some x → (y : Numbered) → y.number ≡ a
      → outline y.atom ≡ outline x → (most : ℕ) → above ≤ most → AllInAtom (IsBelow most) y.atom
      → IsKept (record h { atoms = without h.atoms a; taken = h.taken ++ y ∷ [] }) most roots cells marks
  store-handed a x there y number same most le below =
      let row : row_of y ≡ record { number = a; outline = outline x } =
      ap₂ (λ n o. record { number = n; outline = o }) number same in
      record {
        numbered = numbered-given a h.atoms h.taken h.next_atom y number (ap is_some there) kept.numbered;
        bounded = record {
          pairs = pairs-more above most le h.apart kept.bounded.pairs;
          atoms = atoms-without (IsBelow most) a h.atoms (atoms-more above most le h.atoms kept.bounded.atoms);
          taken = atoms-push (IsBelow most) h.taken y (atoms-more above most le h.taken kept.bounded.taken) below;
        };
        indexed = kept-like h.apart rows (rows_of h.atoms) roots cells marks kept.indexed part
            (rows_of (without h.atoms a ++ (h.taken ++ y ∷ []))) (rows_of (without h.atoms a))
            (λ r i. elim (rows-cases r (without h.atoms a) (h.taken ++ y ∷ []) i) [
              | inl g ↦ part r (rows-without a h.atoms r g)
              | inr g ↦ elim (rows-last r h.taken y g) [
                | inl k ↦ rows-right r h.atoms h.taken k
                | inr e ↦ subst (λ (z : Row). In z rows) (sym (e ∙ row))
                    (part (record { number = a; outline = outline x }) (rows-there a x h.atoms there))
              ]
            ])
            (λ r i. elim (rows-cases r h.atoms h.taken i) [
              | inl g ↦ elim (rows-others a x h.atoms there r g) [
                | inl k ↦ rows-left r (without h.atoms a) (h.taken ++ y ∷ []) k
                | inr e ↦ rows-right r (without h.atoms a) (h.taken ++ y ∷ [])
                    (rows-right r h.taken (y ∷ []) (inl (e ∙ sym row)))
              ]
              | inr g ↦ rows-right r (without h.atoms a) (h.taken ++ y ∷ []) (rows-left r h.taken (y ∷ []) g)
            ])
            (λ r i. rows-without a h.atoms r i);
      }

  -- one pair more
  pub store-pair : (t u : Term) → IsReady h.apart rows roots cells marks t u
      → (most : ℕ) → above ≤ most → IsBelow most t → IsBelow most u
      → IsKept (record h { apart = h.apart ++ (t, u) ∷ [] }) most roots cells marks
  store-pair t u ready most le one two = record {
    numbered = kept.numbered;
    bounded = record {
      pairs = all_by-append (λ (p : Term × Term). IsBelow most p.0 × IsBelow most p.1) h.apart ((t, u) ∷ [])
          (pairs-more above most le h.apart kept.bounded.pairs) ((one, two), tt);
      atoms = atoms-more above most le h.atoms kept.bounded.atoms;
      taken = atoms-more above most le h.taken kept.bounded.taken;
    };
    indexed = kept-pair h.apart rows (rows_of h.atoms) roots cells marks kept.indexed part t u ready;
  }

  -- other atoms with the same rows
  pub store-like : (others : List Numbered) → AreNumbered (numbers others) (numbers h.taken) h.next_atom
      → rows_of others ≡ rows_of h.atoms → (most : ℕ) → above ≤ most → AllInAtoms (IsBelow most) others
      → IsKept (record h { atoms = others }) most roots cells marks
  store-like others numbered same most le below = record {
    numbered = numbered;
    bounded = record {
      pairs = pairs-more above most le h.apart kept.bounded.pairs;
      atoms = below;
      taken = atoms-more above most le h.taken kept.bounded.taken;
    };
    indexed = kept-like h.apart rows (rows_of h.atoms) roots cells marks kept.indexed part
        (rows_of (others ++ h.taken)) (rows_of others)
        (λ r i. elim (rows-cases r others h.taken i) [
          | inl g ↦ part r (subst (In r) same g)
          | inr g ↦ rows-right r h.atoms h.taken g
        ])
        (λ r i. elim (rows-cases r h.atoms h.taken i) [
          | inl g ↦ rows-left r others h.taken (subst (In r) (sym same) g)
          | inr g ↦ rows-right r others h.taken g
        ])
        (λ r i. subst (In r) same i);
  }

-- parts of which all is made anew
pub store-made : (h : Heap) → AreNumbered (numbers h.atoms) (numbers h.taken) h.next_atom → (above : ℕ) → IsBounded above h
    → (roots cells : List (Term × List Row)) (marks : List Row)
    → IsMade h.apart (rows_of (h.atoms ++ h.taken)) roots cells → AreAllMarked (rows_of (h.atoms ++ h.taken)) marks
    → IsKept h above roots cells marks
store-made h numbered above bounded roots cells marks made all = record {
  numbered = numbered;
  bounded = bounded;
  indexed = kept-made h.apart (rows_of (h.atoms ++ h.taken)) (rows_of h.atoms) roots cells marks
      (λ r i. rows-left r h.atoms h.taken i) made.listed made.of_rows made.cells_listed made.cells_of_rows all.1 all.0;
}

-- the same parts with their terms replaced have the same numbers
pub store-replaced : (h : Heap) (to : Term → Term) → AreNumbered (numbers h.atoms) (numbers h.taken) h.next_atom → (above : ℕ)
    → (apart : List (Term × Term)) (atoms taken : List Numbered) → atoms ≡ map (numbered_with to) h.atoms
    → taken ≡ map (numbered_with to) h.taken
    → IsBounded above (record { apart = apart; atoms = atoms; taken = taken; next_atom = h.next_atom })
    → (roots cells : List (Term × List Row)) (marks : List Row)
    → IsMade apart (rows_of (map (numbered_with to) (h.atoms ++ h.taken))) roots cells
    → AreAllMarked (rows_of (map (numbered_with to) (h.atoms ++ h.taken))) marks
    → IsKept (record { apart = apart; atoms = atoms; taken = taken; next_atom = h.next_atom }) above roots cells marks
store-replaced h to numbered above apart atoms taken e f bounded roots cells marks made all =
    let same = map-append (numbered_with to) h.atoms h.taken ∙ ap₂ (λ xs ys. xs ++ ys) (sym e) (sym f) in
    store-made (record { apart = apart; atoms = atoms; taken = taken; next_atom = h.next_atom })
    (numbered-map h.atoms h.taken atoms h.next_atom numbered to taken e f) above bounded roots cells marks
    (subst (λ xs. IsMade apart (rows_of xs) roots cells) same made) (subst (λ xs. AreAllMarked (rows_of xs) marks) same all)

-- where it is the term of fields only, the pairs and the rows stay
put-absent : (n : ℕ) (by t : Term) → same_term t (Sym n) ≡ false → put_for n by t ≡ t
put-absent n by Nil e = refl
put-absent n by (Int i) e = refl
put-absent n by (Sym m) e = ap (λ b. cond b by (Sym m)) e

none-same : {X Y : Type 0} (test : X → Bool) (f : X → X) (view : X → Y)
    → ((x : X) → test x ≡ false → view (f x) ≡ view x) → (xs : List X) → list_any test xs ≡ false
    → map view (map f xs) ≡ map view xs
none-same test f view same [] e = refl
none-same test f view same (x ∷ xs) e =
    ap₂ (λ y ys. y ∷ ys) (same x ((or_parts (test x) (list_any test xs) e).0))
    (none-same test f view same xs ((or_parts (test x) (list_any test xs) e).1))

module _ (n : ℕ) (by : Term) where
  outline-absent : (x : Atom) → has_term (Sym n) x ≡ false → outline (atom_with (put_for n by) x) ≡ outline x
  outline-absent (Points t fields) e = ap Cell (put-absent n by t e)
  outline-absent (Ls t u) e =
      ap₂ Segment (put-absent n by t ((or_parts (same_term t (Sym n)) (same_term u (Sym n)) e).0))
      (put-absent n by u ((or_parts (same_term t (Sym n)) (same_term u (Sym n)) e).1))
  outline-absent (Tree t) e = ap Wood (put-absent n by t e)
  outline-absent (Dll v p l u) e =
      let s = Sym n in
      let one = or_parts (same_term v s || same_term p s || same_term l s) (same_term u s) e in
      let two = or_parts (same_term v s || same_term p s) (same_term l s) one.0 in
      let three = or_parts (same_term v s) (same_term p s) two.0 in
      λ i. Double (put-absent n by v three.0 i) (put-absent n by p three.1 i) (put-absent n by l two.1 i)
      (put-absent n by u one.1 i)

  pub rows-absent : (xs : List Numbered) → list_any (λ a. has_term (Sym n) a.atom) xs ≡ false
      → rows_of (map (numbered_with (put_for n by)) xs) ≡ rows_of xs
  rows-absent =
      none-same (λ a. has_term (Sym n) a.atom) (numbered_with (put_for n by)) row_of
      (λ a e. ap (λ o. record { number = a.number; outline = o }) (outline-absent a.atom e))

  pub pairs-absent : (ps : List (Term × Term)) → list_any (λ p. same_term p.0 (Sym n) || same_term p.1 (Sym n)) ps ≡ false
      → map (λ p. (put_for n by p.0, put_for n by p.1)) ps ≡ ps
  pairs-absent [] e = refl
  pairs-absent (p ∷ ps) e =
      let here = (or_parts (same_term p.0 (Sym n) || same_term p.1 (Sym n)) (list_any (λ q. same_term q.0 (Sym n) || same_term q.1 (Sym n)) ps) e).0 in
      let rest = (or_parts (same_term p.0 (Sym n) || same_term p.1 (Sym n)) (list_any (λ q. same_term q.0 (Sym n) || same_term q.1 (Sym n)) ps) e).1 in
      ap₂ (λ q qs. q ∷ qs)
      (ap₂ (λ t u. (t, u)) (put-absent n by p.0 ((or_parts (same_term p.0 (Sym n)) (same_term p.1 (Sym n)) here).0))
      (put-absent n by p.1 ((or_parts (same_term p.0 (Sym n)) (same_term p.1 (Sym n)) here).1))) (pairs-absent ps rest)

-- parts of which only fields change keep their rows
pub store-inside : (h : Heap) (above : ℕ) (roots cells : List (Term × List Row)) (marks : List Row)
    → IsKept h above roots cells marks → (n : ℕ) (by : Term) → is_outside_fields (Sym n) h ≡ false → (most : ℕ) → above ≤ most
    → IsBelow most by → (atoms taken : List Numbered) → atoms ≡ map (numbered_with (put_for n by)) h.atoms
    → taken ≡ map (numbered_with (put_for n by)) h.taken
    → IsKept (record { apart = h.apart; atoms = atoms; taken = taken; next_atom = h.next_atom }) most roots cells marks
store-inside h above roots cells marks kept n by inside most le below atoms taken e f =
    let ps = list_any (λ p. same_term p.0 (Sym n) || same_term p.1 (Sym n)) h.apart in
    let xs = list_any (λ a. has_term (Sym n) a.atom) h.atoms in
    let ys = list_any (λ a. has_term (Sym n) a.atom) h.taken in
    let both = (or_parts (ps || xs) ys inside).0 in
    let same : rows_of atoms ≡ rows_of h.atoms = ap rows_of e ∙ rows-absent n by h.atoms ((or_parts ps xs both).1) in
    let also : rows_of taken ≡ rows_of h.taken =
    ap rows_of f ∙ rows-absent n by h.taken ((or_parts (ps || xs) ys inside).1) in
    record {
      numbered = numbered-map h.atoms h.taken atoms h.next_atom kept.numbered (put_for n by) taken e f;
      bounded = bounded-replaced above most le n by below h kept.bounded h.apart atoms taken
          (sym (pairs-absent n by h.apart ((or_parts ps xs both).0))) e f;
      indexed = kept-like h.apart (rows_of (h.atoms ++ h.taken)) (rows_of h.atoms) roots cells marks kept.indexed
          (λ r i. rows-left r h.atoms h.taken i) (rows_of (atoms ++ taken)) (rows_of atoms)
          (λ r i. elim (rows-cases r atoms taken i) [
            | inl g ↦ rows-left r h.atoms h.taken (subst (In r) same g)
            | inr g ↦ rows-right r h.atoms h.taken (subst (In r) also g)
          ])
          (λ r i. elim (rows-cases r h.atoms h.taken i) [
            | inl g ↦ rows-left r atoms taken (subst (In r) (sym same) g)
            | inr g ↦ rows-right r atoms taken (subst (In r) (sym also) g)
          ])
          (λ r i. subst (In r) same i);
    }

-- a symbol in place of itself
put-self : (n : ℕ) (t : Term) → put_for n (Sym n) t ≡ t
put-self n Nil = refl
put-self n (Int i) = refl
put-self n (Sym m) = go (m == n) refl
  where
    go : (b : Bool) → m == n ≡ b → cond b (Sym n) (Sym m) ≡ Sym m
    go true e = ap Sym (sym ((Decides-eqb m n).0 e))
    go false e = refl

map-same : {X : Type 0} (f : X → X) → ((x : X) → f x ≡ x) → (xs : List X) → map f xs ≡ xs
map-same f same [] = refl
map-same f same (x ∷ xs) = ap₂ (λ y ys. y ∷ ys) (same x) (map-same f same xs)

atom-self : (n : ℕ) (x : Atom) → atom_with (put_for n (Sym n)) x ≡ x
atom-self n (Points t fields) =
    ap₂ Points (put-self n t)
    (map-same (λ f. (f.0, put_for n (Sym n) f.1)) (λ f. ap (λ u. (f.0, u)) (put-self n f.1)) fields)
atom-self n (Ls t u) = ap₂ Ls (put-self n t) (put-self n u)
atom-self n (Tree t) = ap Tree (put-self n t)
atom-self n (Dll v p l u) = λ i. Dll (put-self n v i) (put-self n p i) (put-self n l i) (put-self n u i)

pub parts-self : (n : ℕ) (xs : List Numbered) → map (numbered_with (put_for n (Sym n))) xs ≡ xs
parts-self n xs =
    map-same (numbered_with (put_for n (Sym n)))
    (λ x. ap (λ y. record { number = x.number; atom = y }) (atom-self n x.atom)) xs

-- the same parts, with indices that are made anew and the same marks
pub store-copied : (h : Heap) (above n : ℕ) (old covers : List (Term × List Row)) (marks : List Row)
    → IsKept h above old covers marks → (k : Heap) → k ≡ h → (roots cells : List (Term × List Row)) (marked : List Row)
    → IsMade k.apart (rows_of (map (numbered_with (put_for n (Sym n))) (k.atoms ++ k.taken))) roots cells
    → AreSameMarks marks marked → IsKept k above roots cells marked
store-copied h above n old covers marks had k same roots cells marked makes marking =
    let kept = subst (λ (z : Heap). IsKept z above old covers marks) (sym same) had in
    let made = subst (λ xs. IsMade k.apart (rows_of xs) roots cells) (parts-self n (k.atoms ++ k.taken)) makes in
    record {
      numbered = kept.numbered;
      bounded = kept.bounded;
      indexed = record {
        listed = made.listed;
        of_rows = made.of_rows;
        cells_listed = made.cells_listed;
        cells_of_rows = made.cells_of_rows;
        marked = λ r e. kept.indexed.marked r (sym (marking r) ∙ e);
        quiet = record {
          hopeful = λ r i f. kept.indexed.quiet.hopeful r i (sym (marking r) ∙ f);
          free = λ r i f. kept.indexed.quiet.free r i (sym (marking r) ∙ f);
        };
      };
    }

-- no parts
pub store-none : (h : Heap) (above : ℕ) → AllInPairs (IsBelow above) h.apart → h.atoms ≡ [] → h.taken ≡ [] → (roots cells : List (Term × List Row)) (marks : List Row)
    → roots ≡ [] → cells ≡ [] → marks ≡ [] → IsKept h above roots cells marks
store-none h above pairs a t roots cells marks e f g =
    store-made h
    (subst (λ xs. AreNumbered (numbers xs) (numbers h.taken) h.next_atom) (sym a)
    (subst (λ ys. AreNumbered [] (numbers ys) h.next_atom) (sym t) (numbered-none h.next_atom))) above
    (record {
      pairs = pairs;
      atoms = subst (AllInAtoms (IsBelow above)) (sym a) tt;
      taken = subst (AllInAtoms (IsBelow above)) (sym t) tt;
    }) roots cells marks
    (subst (λ xs. IsMade h.apart (rows_of xs) roots cells) (sym (ap₂ (λ xs ys. xs ++ ys) a t))
    (none-new h.apart roots cells e f))
    (subst (λ xs. AreAllMarked (rows_of xs) marks) (sym (ap₂ (λ xs ys. xs ++ ys) a t)) (
      (λ r i. absurd i),
      (λ r i. absurd (false≢true (sym (ap (λ m. is_marked m r) g) ∙ i))),
    ))
