-- Atoms by their numbers: where the code finds one, the definitions find it.
-- Names: `at-LAW` speaks of the atom at an index.
use Rattle.std.proofs.Common.{◌≡◌, ℕ, suc, ◌==◌, ◌<◌, ◌+◌, Bool, true, false, cond, Option, Some, None, List, [], ◌∷◌, length, get_or, drop, slice_set, is_some, refl, sym, ap, ◌∙◌, subst, arith}
use Rattle.std.specs.List.{remove}
use Rattle.std.specs.Option.{option_and_then, option_map}
use Rattle.std.proofs.lemmas.Bool.Decides.{Decides-eqb}
use Rattle.std.proofs.lemmas.List.{get_or-drop}
use Rattle.std.proofs.lemmas.Option.{option_and_then_some, same_Some}
use Rattle.sf_base.specs.declared.ids.FieldId.{FieldId}
use Rattle.sf_sym.specs.declared.atom.Atom.{Atom}
use Rattle.sf_sym.specs.declared.atom.Atom.TheVariants.{Points}
use Rattle.sf_sym.specs.declared.atom.Numbered.{Numbered}
use Rattle.sf_sym.specs.declared.term.Term.{Term}
use Rattle.sf_sym.specs.Cells.{atom_at, cell_at, fields_at, state_after_write, with_fields, without}
use Rattle.sf_sym.specs.Fields.{put_term}
use Rattle.sf_sym.specs.Checked.Indices.{index_from}
use Rattle.sf_sym.specs.Checked.Lemmas.{points_at, same_term_is}
use Rattle.sf_sym.specs.Tests.{same_term}
use Rattle.sf_sym.specs.State.{State}

none_step : {X : Type 0} (b : Bool) (i : ℕ) (k : Option ℕ) (x y : Option X) → (k ≡ None → y ≡ None)
    → cond b (Some i) k ≡ None → cond b x y ≡ None
none_step true i k x y f e = absurd (cc)
none_step false i k x y f e = f e

-- the atom of that number is at k: it is the cell there, and what becomes of the list
pub record At (a k : ℕ) (xs : List Numbered) : Type 0 where
  pub within : k < length xs
  pub cell : (d : Numbered) (t : Term) → cell_at xs a t ≡ fields_at (get_or xs k d).atom t
  pub number : (d : Numbered) → (get_or xs k d).number ≡ a
  pub written : (t : Term) (fields : List (FieldId × Term))
      → with_fields xs a t fields ≡ slice_set xs k (record { number = a; atom = Points t fields })
  pub removed : without xs a ≡ remove xs k

-- the same where atoms are counted from i on
abbrev AtFrom : (a i k : ℕ) → List Numbered → Type 0
AtFrom a i k xs = (at : ℕ) × (i + at ≡ k) × At a at xs

at-first : (a : ℕ) (x : Numbered) (xs : List Numbered) → x.number == a ≡ true → At a 0 (x ∷ xs)
at-first a x xs h = record {
  within = omega arith;
  cell = λ d t. rw h refl;
  number = λ d. (Decides-eqb x.number a).0 h;
  written = λ t fields. rw h refl;
  removed = rw h refl;
}

at-rest : (a k : ℕ) (x : Numbered) (xs : List Numbered) → x.number == a ≡ false → At a k xs
    → At a (suc k) (x ∷ xs)
at-rest a k x xs h s = record {
  within = omega (arith, s.within);
  cell = λ d t. rw h (s.cell d t);
  number = s.number;
  written = λ t fields. rw h (ap (λ ys. x ∷ ys) (s.written t fields));
  removed = rw h (ap (λ ys. x ∷ ys) s.removed);
}

at-step : (a i k : ℕ) (x : Numbered) (xs : List Numbered) (b : Bool) → x.number == a ≡ b
    → (index_from (suc i) xs a ≡ Some k → AtFrom a (suc i) k xs)
    → cond b (Some i) (index_from (suc i) xs a) ≡ Some k → AtFrom a i k (x ∷ xs)
at-step a i k x xs true h others e = let same : i ≡ k = cc in (0, omega (arith, same), at-first a x xs h)
at-step a i k x xs false h others e =
    let s = others e in (suc s.0, omega (arith, s.1), at-rest a s.0 x xs h s.2)

module _ (a : ℕ) where
  -- no atom of that number: no cell
  pub none_at : (i : ℕ) (xs : List Numbered) (t : Term) → index_from i xs a ≡ None → cell_at xs a t ≡ None
  none_at i [] t e = refl
  none_at i (x ∷ xs) t e =
      none_step (x.number == a) i (index_from (suc i) xs a) (fields_at x.atom t) (cell_at xs a t)
      (none_at (suc i) xs t) e

  at-from : (i k : ℕ) (xs : List Numbered) → index_from i xs a ≡ Some k → AtFrom a i k xs
  at-from i k [] e = absurd (cc)
  at-from i k (x ∷ xs) e = at-step a i k x xs (x.number == a) refl (at-from (suc i) k xs) e

pub is_at : (a k : ℕ) (xs : List Numbered) → index_from 0 xs a ≡ Some k → At a k xs
is_at a k xs e = let s = at-from a 0 k xs e in let same : s.0 ≡ k = omega (arith, s.1) in
    subst (λ n. At a n xs) same s.2

-- the code's index of an atom that isn't there, for a cell that is
pub none_is_no_cell : (a : ℕ) (xs : List Numbered) (t : Term) → index_from 0 xs a ≡ None
    → is_some (cell_at xs a t) ≡ true → ⊥
none_is_no_cell a xs t e c = let n = none_at a 0 xs t e in absurd (cc)

-- what is at the index of an atom is that atom: it is a cell at a term exactly where the state says so
pub cell_found : (a k : ℕ) (x : Numbered) (xs : List Numbered) (t : Term) → Some k ≡ index_from 0 xs a
    → x ≡ get_or xs k x → fields_at x.atom t ≡ cell_at xs a t
cell_found a k x xs t e is =
    ap (λ y. fields_at y.atom t) is ∙ sym ((is_at a k xs (sym e)).cell x t)

-- so a segment or a tree at that index is no cell
pub not_a_cell : (a k : ℕ) (x : Numbered) (xs : List Numbered) (t : Term) → Some k ≡ index_from 0 xs a
    → x ≡ get_or xs k x → fields_at x.atom t ≡ None → is_some (cell_at xs a t) ≡ true → ⊥
not_a_cell a k x xs t e is n c = let found = cell_found a k x xs t e is in absurd (cc)

-- an atom that a part of a list lends is the one at that place of the part
pub lent_at : (left k : ℕ) (x : Numbered) (items xs : List Numbered) → drop left items ≡ xs
    → x ≡ get_or items (left + k) x → x ≡ get_or xs k x
lent_at left k x items xs view there = there ∙ sym (get_or-drop left items k x) ∙ ap (λ ys. get_or ys k x) view

-- and where it is of a form that is no cell, there is none
pub lent_no_cell : {y : Atom} (a left k : ℕ) (x : Numbered) (items xs : List Numbered) (t : Term)
    → drop left items ≡ xs → x.atom ≡ y → fields_at y t ≡ None → is_some (cell_at xs a t) ≡ true
    → Some k ≡ index_from 0 xs a → x ≡ get_or items (left + k) x → ⊥
lent_no_cell a left k x items xs t view is n c e there =
    not_a_cell a k x xs t e (lent_at left k x items xs view there) (ap (λ z. fields_at z t) is ∙ n) c

cell-step : (root t : Term) (fields : List (FieldId × Term)) (b : Bool) → (b ≡ true → root ≡ t)
    → is_some (cond b (Some fields) None) ≡ true → (root ≡ t) × (cond b (Some fields) None ≡ Some fields)
cell-step root t fields true same e = (same refl, refl)
cell-step root t fields false same e = absurd (cc)

-- a cell at a term is there with its root and fields
pub cell_parts : (x : Atom) (root t : Term) (fields : List (FieldId × Term)) → x ≡ Points root fields
    → is_some (fields_at x t) ≡ true → (root ≡ t) × (fields_at x t ≡ Some fields)
cell_parts x root t fields is e =
    let here : is_some (fields_at (Points root fields) t) ≡ true = ap (λ y. is_some (fields_at y t)) (sym is) ∙ e in
    let both = cell-step root t fields (same_term root t) (same_term_is root t) here in
    (both.0, ap (λ y. fields_at y t) is ∙ both.1)

-- a field of the cell is written where the cell is
pub written_at : (a k : ℕ) (x : Numbered) (xs : List Numbered) (t root : Term) (f : FieldId) (u : Term)
    (fields known new : List (FieldId × Term)) → Some k ≡ index_from 0 xs a → x ≡ get_or xs k x
    → x.atom ≡ Points root known → cell_at xs a t ≡ Some fields → new ≡ put_term f u known
    → slice_set xs k (record { number = x.number; atom = Points root new }) ≡ with_fields xs a t (put_term f u fields)
written_at a k x xs t root f u fields known new e is cell there p =
    let at = is_at a k xs (sym e) in
    let found : fields_at x.atom t ≡ Some fields = cell_found a k x xs t e is ∙ there in
    let parts = cell_parts x.atom root t known cell (ap is_some found) in
    let same : known ≡ fields = same_Some known fields (sym parts.1 ∙ found) in
    let put : new ≡ put_term f u fields = p ∙ ap (put_term f u) same in
    let number : x.number ≡ a = ap (λ y. y.number) is ∙ at.number x in
    ap (λ y. slice_set xs k y) (λ i. record { number = number i; atom = Points (parts.0 i) (put i) })
    ∙ sym (at.written t (put_term f u fields))

-- so the state is the one after the write
pub written : (s : State) (atoms : List Numbered) (a : ℕ) (t : Term) (f : FieldId) (u : Term)
    → is_some (cell_at s.atoms a t) ≡ true
    → ((fields : List (FieldId × Term)) → cell_at s.atoms a t ≡ Some fields
    → atoms ≡ with_fields s.atoms a t (put_term f u fields))
    → state_after_write s t f u a ≡ Some (record s { atoms = atoms })
written s atoms a t f u there after = go (cell_at s.atoms a t) refl there
  where
    go : (o : Option (List (FieldId × Term))) → cell_at s.atoms a t ≡ o → is_some o ≡ true
        → option_map (λ fields. record s { atoms = with_fields s.atoms a t (put_term f u fields) }) o
        ≡ Some (record s { atoms = atoms })
    go None e some = absurd (cc)
    go (Some fields) e some = ap (λ xs. Some (record s { atoms = xs })) (sym (after fields e))

-- no atom of that number, by its index
pub no_atom : (a i : ℕ) (xs : List Numbered) → index_from i xs a ≡ None → atom_at xs a ≡ None
no_atom a i [] e = refl
no_atom a i (x ∷ xs) e =
    none_step (x.number == a) i (index_from (suc i) xs a) (Some x.atom) (atom_at xs a) (no_atom a (suc i) xs) e

-- then nothing goes by it
without-step : (a i : ℕ) (x : Numbered) (xs : List Numbered) (b : Bool)
    → (index_from (suc i) xs a ≡ None → without xs a ≡ xs)
    → cond b (Some i) (index_from (suc i) xs a) ≡ None → cond b xs (x ∷ without xs a) ≡ x ∷ xs
without-step a i x xs true f e = absurd (cc)
without-step a i x xs false f e = ap (λ ys. x ∷ ys) (f e)

pub nothing_without : (a i : ℕ) (xs : List Numbered) → index_from i xs a ≡ None → without xs a ≡ xs
nothing_without a i [] e = refl
nothing_without a i (x ∷ xs) e =
    without-step a i x xs (x.number == a) (nothing_without a (suc i) xs) e

-- the atom at an index
atom-step : (a i k : ℕ) (x d : Numbered) (xs : List Numbered) (b : Bool)
    → (index_from (suc i) xs a ≡ Some k → (at : ℕ) × (suc i + at ≡ k) × (atom_at xs a ≡ Some (get_or xs at d).atom))
    → cond b (Some i) (index_from (suc i) xs a) ≡ Some k
    → (at : ℕ) × (i + at ≡ k) × (cond b (Some x.atom) (atom_at xs a) ≡ Some (get_or (x ∷ xs) at d).atom)
atom-step a i k x d xs true f e = let same : i ≡ k = cc in (0, omega (arith, same), refl)
atom-step a i k x d xs false f e = let s = f e in (suc s.0, omega (arith, s.1), s.2)

atom-from : (a i k : ℕ) (xs : List Numbered) (d : Numbered) → index_from i xs a ≡ Some k
    → (at : ℕ) × (i + at ≡ k) × (atom_at xs a ≡ Some (get_or xs at d).atom)
atom-from a i k [] d e = absurd (cc)
atom-from a i k (x ∷ xs) d e = atom-step a i k x d xs (x.number == a) (atom-from a (suc i) k xs d) e

pub atom_found : (a k : ℕ) (x : Numbered) (xs : List Numbered) → index_from 0 xs a ≡ Some k → x ≡ get_or xs k x
    → Some x.atom ≡ atom_at xs a
atom_found a k x xs e is =
    let s = atom-from a 0 k xs x e in
    let same : s.0 ≡ k = omega (arith, s.1) in
    let there : atom_at xs a ≡ Some (get_or xs k x).atom = subst (λ n. atom_at xs a ≡ Some (get_or xs n x).atom) same s.2 in
    ap (λ y. Some y.atom) is ∙ sym there

-- a cell of that number is an atom of that number
cell-of-step : (x : Atom) (c : Option (List (FieldId × Term))) (o : Option Atom) (t : Term) (b : Bool)
    → c ≡ option_and_then (λ y. fields_at y t) o
    → cond b (fields_at x t) c ≡ option_and_then (λ y. fields_at y t) (cond b (Some x) o)
cell-of-step x c o t true e = refl
cell-of-step x c o t false e = e

pub cell_of_atom : (a : ℕ) (xs : List Numbered) (t : Term)
    → cell_at xs a t ≡ option_and_then (λ x. fields_at x t) (atom_at xs a)
cell_of_atom a [] t = refl
cell_of_atom a (x ∷ xs) t =
    cell-of-step x.atom (cell_at xs a t) (atom_at xs a) t (x.number == a) (cell_of_atom a xs t)

-- so the atom of a cell's number is that cell
pub atom_of_cell : (a : ℕ) (xs : List Numbered) (t : Term) (fields : List (FieldId × Term))
    → cell_at xs a t ≡ Some fields → atom_at xs a ≡ Some (Points t fields)
atom_of_cell a xs t fields e =
    option_and_then_some (λ x. fields_at x t) (atom_at xs a) fields (sym (cell_of_atom a xs t) ∙ e)
    (λ x there is. there ∙ ap Some (points_at x t fields is))
