-- What the tests say of an outline they say of its atom.
use Rattle.std.proofs.Common.{◌≡◌, Bool, cond, Option, Some, None, List, [], refl, sym, ap, ◌∙◌}
use Rattle.sf_sym.specs.declared.atom.Atom.{Atom}
use Rattle.sf_sym.specs.declared.atom.Atom.TheVariants.{Points, Ls, Tree, Dll}
use Rattle.sf_sym.specs.declared.outline.Outline.{Outline}
use Rattle.sf_sym.specs.declared.outline.Outline.TheVariants.{Cell, Segment, Tree as Wood, Double}
use Rattle.sf_sym.specs.declared.term.Term.{Term}
use Rattle.sf_sym.specs.Checked.Keeping.{joins}
use Rattle.sf_sym.specs.Checked.Rows.{bare, outline}
use Rattle.sf_sym.specs.Equalities.{atom_with}
use Rattle.sf_sym.specs.Known.{forced_by, is_nothing}
use Rattle.sf_sym.specs.Tests.{begins, has_cell, is_integer_tree, root, roots}

-- what is forced, by the tests of its terms
abbrev pub end-pair : (t u : Term) → Bool → Option (Term × Term)
end-pair t u a = cond a (Some (t, u)) None

abbrev pub double-pair : (v b l u : Term) → (x y z : Bool) → Option (Term × Term)
double-pair v b l u x y z = cond x (cond y None (Some (b, l))) (cond z (Some (v, u)) None)

-- a test that doesn't look at a cell's fields says the same of an atom and of its outline
module _ {B : Type 0} (test : Atom → B) (fieldless : (t : Term) (fields : List _) → test (Points t []) ≡ test (Points t fields)) where
  pub bare-test : (x : Atom) → test (bare (outline x)) ≡ test x
  bare-test (Points t fields) = fieldless t fields
  bare-test (Ls t u) = refl
  bare-test (Tree t) = refl
  bare-test (Dll v p l u) = refl

pub bare-begins : (t : Term) (x : Atom) → begins t (bare (outline x)) ≡ begins t x
bare-begins t = bare-test (begins t) (λ r fields. refl)

pub bare-cell : (apart : List (Term × Term)) (x : Atom) → has_cell apart (bare (outline x)) ≡ has_cell apart x
bare-cell apart = bare-test (has_cell apart) (λ r fields. refl)

pub bare-roots : (x : Atom) → roots (bare (outline x)) ≡ roots x
bare-roots = bare-test roots (λ r fields. refl)

pub bare-joins : (p : Term × Term) (x : Atom) → joins p (bare (outline x)) ≡ joins p x
bare-joins p = bare-test (joins p) (λ r fields. refl)

pub bare-integer : (x : Atom) → is_integer_tree (bare (outline x)) ≡ is_integer_tree x
bare-integer = bare-test is_integer_tree (λ r fields. refl)

pub bare-nothing : (x : Atom) → is_nothing (bare (outline x)) ≡ is_nothing x
bare-nothing = bare-test is_nothing (λ r fields. refl)

pub bare-forced : (e : Bool) (x : Atom) → forced_by e (bare (outline x)) ≡ forced_by e x
bare-forced e = bare-test (forced_by e) (λ r fields. refl)

pub bare-root : (x : Atom) → root (bare (outline x)) ≡ root x
bare-root = bare-test root (λ r fields. refl)

-- an outline is that of an atom of it
pub outline-bare : (o : Outline) → outline (bare o) ≡ o
outline-bare (Cell t) = refl
outline-bare (Segment t u) = refl
outline-bare (Wood t) = refl
outline-bare (Double v p l u) = refl

-- an outline with a symbol replaced is that of the atom with it replaced
pub outline_with : (to : Term → Term) (o : Outline) (x : Atom) → bare o ≡ atom_with to (bare (outline x))
    → o ≡ outline (atom_with to x)
outline_with to o x e = sym (outline-bare o) ∙ ap outline e ∙ go x
  where
    go : (y : Atom) → outline (atom_with to (bare (outline y))) ≡ outline (atom_with to y)
    go (Points t fields) = refl
    go (Ls t u) = refl
    go (Tree t) = refl
    go (Dll v p l u) = refl
