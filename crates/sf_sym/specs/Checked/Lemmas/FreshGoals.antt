-- Goals in which fresh symbols come up: what there was is below a larger number, and stays with other values of symbols
-- that it doesn't speak of.
-- Names: `later-PART` of what is below a larger number, `PART-stay` of what stays; `from_nil-LAW` of the pair that a new
-- cell's root makes with nil.
use Rattle.std.specs.List.{AllByRecursion}
use Rattle.std.proofs.Common.{◌≡◌, ℕ, ◌+◌, List, [], ◌∷◌, ◌++◌, Option, refl, sym, ◌∙◌, arith}
use Rattle.sf_base.proofs.Elements.{all_by-append}
use Rattle.sf_base.specs.declared.ids.Var.{Var}
use Rattle.sf_base.specs.declared.value.Value.{Value}
use Rattle.sf_base.specs.declared.value.Value.TheVariants.{Loc as loc}
use Rattle.sf_base.specs.HeapStore.{Heap}
use Rattle.sf_core.proofs.Assertions.Segments.{nil-not_loc}
use Rattle.sf_sym.specs.Checked.Lemmas.AtomLists.{without-all}
use Rattle.sf_sym.specs.Checked.Lemmas.Below.{atoms-weaker, below-more, below-value, items-weaker, paired-weaker, pairs-weaker}
use Rattle.sf_sym.specs.Checked.Lemmas.OtherValues.{Same, adds-other_values, atoms-other_values, pairs-other_values, vars-other_values}
use Rattle.sf_sym.specs.Below.{AllInAtom, AllInAtoms, AllInItem, AllInPairs, AllPaired, AreBelow, IsBelow, SameBelow}
use Rattle.sf_sym.specs.Cells.{apart_from_nil, without}
use Rattle.sf_sym.specs.declared.atom.Numbered.{Numbered}
use Rattle.sf_sym.specs.declared.term.Term.{Term}
use Rattle.sf_sym.specs.declared.term.Term.TheVariants.{Nil, Int, Sym}
use Rattle.sf_sym.specs.Goal.{Goal}
use Rattle.sf_sym.specs.Holds.{term_value, Agrees, Differ, AtomsHold, AddsHold}
use Rattle.sf_sym.specs.HoldsIn.{HoldsIn}

-- a location differs from nil
pub from_nil-differs : (v : ℕ → Value) (t : Term) (location : ℕ) → term_value v t ≡ loc location
    → AllByRecursion (Differ v) (apart_from_nil t)
from_nil-differs v Nil location e = tt
from_nil-differs v (Int i) location e = tt
from_nil-differs v (Sym n) location e = (λ i. nil-not_loc location (sym i ∙ e), tt)

pub from_nil-below : (n : ℕ) (t : Term) → IsBelow n t → AllInPairs (IsBelow n) (apart_from_nil t)
from_nil-below n Nil b = tt
from_nil-below n (Int i) b = tt
from_nil-below n (Sym m) b = ((b, refl), tt)

-- all that the goal spoke of is below a larger number
module _ (goal : Goal) (below : AreBelow goal) (k : ℕ) where
  pub later : (t : Term) → IsBelow goal.state.next_sym t → IsBelow (goal.state.next_sym + k) t
  later t b = below-more goal.state.next_sym (goal.state.next_sym + k) (omega arith) t b

  pub later-vars : AllPaired (IsBelow (goal.state.next_sym + k)) goal.state.vars
  later-vars = paired-weaker (IsBelow goal.state.next_sym) (IsBelow (goal.state.next_sym + k)) later
      goal.state.vars below.state.vars

  pub later-apart : (t : Term) → IsBelow (goal.state.next_sym + k) t
      → AllInPairs (IsBelow (goal.state.next_sym + k)) (goal.state.apart ++ apart_from_nil t)
  later-apart t b =
      all_by-append
      (λ (p : Term × Term). IsBelow (goal.state.next_sym + k) p.0 × IsBelow (goal.state.next_sym + k) p.1)
      goal.state.apart (apart_from_nil t)
      (pairs-weaker (IsBelow goal.state.next_sym) (IsBelow (goal.state.next_sym + k)) later goal.state.apart
      below.state.apart) (from_nil-below (goal.state.next_sym + k) t b)

  pub later-others : (a : ℕ) → AllInAtoms (IsBelow (goal.state.next_sym + k)) (without goal.state.atoms a)
  later-others a =
      atoms-weaker (IsBelow goal.state.next_sym) (IsBelow (goal.state.next_sym + k)) later
      (without goal.state.atoms a) (without-all (AllInAtom (IsBelow goal.state.next_sym)) goal.state.atoms a below.state.atoms)

  pub later-atoms : AllInAtoms (IsBelow (goal.state.next_sym + k)) goal.state.atoms
  later-atoms = atoms-weaker (IsBelow goal.state.next_sym) (IsBelow (goal.state.next_sym + k)) later
      goal.state.atoms below.state.atoms

  pub later-taken : AllInAtoms (IsBelow (goal.state.next_sym + k)) goal.state.taken
  later-taken = atoms-weaker (IsBelow goal.state.next_sym) (IsBelow (goal.state.next_sym + k)) later
      goal.state.taken below.state.taken

  pub later-todo : AllByRecursion (AllInItem (IsBelow (goal.state.next_sym + k))) goal.todo
  later-todo = items-weaker (IsBelow goal.state.next_sym) (IsBelow (goal.state.next_sym + k)) later
      goal.todo below.todo

-- one more atom
pub more-below : (n : ℕ) (xs : List Numbered) (x : Numbered) → AllInAtoms (IsBelow n) xs
    → AllInAtom (IsBelow n) x.atom → AllInAtoms (IsBelow n) (xs ++ x ∷ [])
more-below n xs x b c = all_by-append (λ (a : Numbered). AllInAtom (IsBelow n) a.atom) xs (x ∷ []) b (c, tt)

-- what stays of a goal that holds, with other values of the symbols that it doesn't speak of
module _ (w v : ℕ → Value) (goal : Goal) (below : AreBelow goal) (same : SameBelow goal.state.next_sym v w)
    (e : Var → Option Value) (free taken : Heap) (h : HoldsIn w goal e free taken) where
  pub agree : (t : Term) → IsBelow goal.state.next_sym t → Same w v t
  agree t b = below-value goal.state.next_sym v w same t b

  pub agree-vars : AllPaired (Same w v) goal.state.vars
  agree-vars = paired-weaker (IsBelow goal.state.next_sym) (Same w v) agree goal.state.vars below.state.vars

  pub apart-stays : (t : Term) (location : ℕ) → term_value v t ≡ loc location
      → AllByRecursion (Differ v) (goal.state.apart ++ apart_from_nil t)
  apart-stays t location i =
      all_by-append (Differ v) goal.state.apart (apart_from_nil t)
      (pairs-other_values w v goal.state.apart
      (pairs-weaker (IsBelow goal.state.next_sym) (Same w v) agree goal.state.apart below.state.apart) h.apart)
      (from_nil-differs v t location i)

  pub others-stay : (a : ℕ) (part : Heap) → AtomsHold w goal.state.links (without goal.state.atoms a) part
      → AtomsHold v goal.state.links (without goal.state.atoms a) part
  others-stay a part s =
      atoms-other_values w v goal.state.links (without goal.state.atoms a) part
      (atoms-weaker (IsBelow goal.state.next_sym) (Same w v) agree (without goal.state.atoms a)
      (without-all (AllInAtom (IsBelow goal.state.next_sym)) goal.state.atoms a below.state.atoms)) s

  pub taken-stay : AtomsHold v goal.state.links goal.state.taken taken
  taken-stay = atoms-other_values w v goal.state.links goal.state.taken taken
      (atoms-weaker (IsBelow goal.state.next_sym) (Same w v) agree goal.state.taken below.state.taken) h.gone

  pub adds-stay : AddsHold v goal.todo h.there.right
  adds-stay = adds-other_values w v goal.todo h.there.right
      (items-weaker (IsBelow goal.state.next_sym) (Same w v) agree goal.todo below.todo) h.there.second

  pub vars-stay : AllByRecursion (Agrees v e) goal.state.vars
  vars-stay = vars-other_values w v e goal.state.vars agree-vars h.vars

  pub atoms-stay : (part : Heap) → AtomsHold w goal.state.links goal.state.atoms part
      → AtomsHold v goal.state.links goal.state.atoms part
  atoms-stay part s =
      atoms-other_values w v goal.state.links goal.state.atoms part
      (atoms-weaker (IsBelow goal.state.next_sym) (Same w v) agree goal.state.atoms below.state.atoms) s
