-- Lemmas on terms, atoms and items that the proofs of the crates above cite. Each states what it says; none is a definition.
-- Ordinary: equality of terms is decided by cases, and ⋆ is associative.
pub mod Adding
pub mod AtomLists
pub mod Below
pub mod Bindings
pub mod CellFields
pub mod Choices
pub mod Decided
pub mod Formed
pub mod FreshGoals
pub mod FreshValues
pub mod Keeping
pub mod KnownValues
pub mod OtherTerms
pub mod OtherValues
pub mod Parts
pub mod Restated
pub mod States
pub mod Terms
pub mod TwoHeaps
pub mod Updates
use Rattle.std.specs.Prelude.{◌≡◌, ℕ, ◌<◌, ◌==◌, nat_lt, Bool, true, false, cond, Some, None, List, [], ◌∷◌, ◌++◌}
use Rattle.std.proofs.Common.{refl, ap, subst, arith}
use Rattle.std.specs.List.{flat_map}
use Rattle.std.proofs.lemmas.List.{reverse-append}
use Rattle.std.proofs.lemmas.Bool.{false≢true, ltb-true}
use Rattle.std.proofs.lemmas.Bool.Decides.{Decides-int_eq, Decides-eqb, nat_tests}
use Rattle.sf_base.proofs.HeapSplits.{at-same, star-drop_left, star-assoc_right, star-map_right}
use Rattle.sf_base.specs.declared.value.Value.{Value}
use Rattle.sf_base.specs.HeapStore.{Heap, ◌⋆◌}
use Rattle.sf_core.specs.declared.fields.Links.{Links}
use Rattle.sf_base.specs.declared.ids.FieldId.{FieldId}
use Rattle.sf_sym.specs.declared.atom.Atom.{Atom}
use Rattle.sf_sym.specs.declared.atom.Atom.TheVariants.{Points, Ls, Tree, Dll}
use Rattle.sf_sym.specs.declared.atom.Numbered.{Numbered}
use Rattle.sf_sym.specs.declared.term.Term.{Term}
use Rattle.sf_sym.specs.declared.term.Term.TheVariants.{Nil, Int, Sym}
use Rattle.sf_sym.specs.declared.goal.Item.{Item as CodeItem}
use Rattle.sf_sym.specs.Cells.{fields_at}
use Rattle.sf_sym.specs.Fields.{AreAfter, AreOrdered, put_term}
use Rattle.sf_sym.specs.Goal.{items_of, todo_of}
use Rattle.sf_sym.specs.Holds.{AtomsHold}
use Rattle.sf_sym.specs.Tests.{same_term}

-- terms that test as one are one
pub same_term_is : (t u : Term) → same_term t u ≡ true → t ≡ u
same_term_is Nil Nil e = refl
same_term_is Nil (Int j) e = absurd (false≢true e)
same_term_is Nil (Sym n) e = absurd (false≢true e)
same_term_is (Int i) Nil e = absurd (false≢true e)
same_term_is (Int i) (Int j) e = ap Int ((Decides-int_eq i j).0 e)
same_term_is (Int i) (Sym n) e = absurd (false≢true e)
same_term_is (Sym m) Nil e = absurd (false≢true e)
same_term_is (Sym m) (Int j) e = absurd (false≢true e)
same_term_is (Sym m) (Sym n) e = ap Sym ((Decides-eqb m n).0 e)

-- ⋆ of two lists of atoms is one list after another
pub atoms-append : (w : ℕ → Value) (links : Links) (xs ys : List Numbered) (h : Heap)
    → (AtomsHold w links xs ⋆ AtomsHold w links ys) h → AtomsHold w links (xs ++ ys) h
atoms-append w links [] ys h d = star-drop_left d
atoms-append w links (x ∷ xs) ys h d =
    star-map_right (λ part e. atoms-append w links xs ys part e) (star-assoc_right d)

points_step : (root t : Term) (gs fields : List (FieldId × Term)) (b : Bool) → (b ≡ true → root ≡ t)
    → cond b (Some gs) None ≡ Some fields → Points root gs ≡ Points t fields
points_step root t gs fields true same e = let r : root ≡ t = same refl in let g : gs ≡ fields = cc in cc
points_step root t gs fields false same e = absurd (cc)

-- an atom with fields at a term is the cell there
pub points_at : (x : Atom) (t : Term) (fields : List (FieldId × Term)) → fields_at x t ≡ Some fields
    → x ≡ Points t fields
points_at (Points root gs) t fields e =
    points_step root t gs fields (same_term root t) (same_term_is root t) e
points_at (Ls u v) t fields e = absurd (cc)
points_at (Tree u) t fields e = absurd (cc)
points_at (Dll v p l u) t fields e = absurd (cc)

-- what comes after a field comes after each one before it
pub after-mono : (m n : ℕ) (fs : List (FieldId × Term)) → m < n → AreAfter n fs → AreAfter m fs
after-mono m n [] d b = tt
after-mono m n (f ∷ fs) d b =
    let e : n < f.0.0 = b.0 in let r : m < f.0.0 = grind arith in (r, after-mono m n fs d b.1)

-- one more item of the code comes first
pub todo_of_push : (xs : List CodeItem) (x : CodeItem) → todo_of (xs ++ x ∷ []) ≡ items_of x ++ todo_of xs
todo_of_push xs x = ap (flat_map items_of) (reverse-append xs (x ∷ []))
