-- What holds with some values of the symbols holds with others by which the terms that occur have the same values.
-- Names: `PART-other_values`.
use Rattle.std.specs.List.{AllByRecursion}
use Rattle.std.proofs.Common.{◌≡◌, ℕ, List, [], ◌∷◌, Option, refl, sym, ◌∙◌, subst, subst₂}
use Rattle.sf_base.proofs.HeapSplits.{star-map}
use Rattle.sf_base.specs.declared.ids.FieldId.{FieldId}
use Rattle.sf_base.specs.declared.ids.Var.{Var}
use Rattle.sf_base.specs.declared.value.Value.{Value}
use Rattle.sf_base.specs.HeapStore.{Cell, Heap}
use Rattle.sf_core.proofs.Assertions.Sat.{sat-all_agree}
use Rattle.sf_core.specs.Assertions.Occurs.{OccursInAll}
use Rattle.sf_core.specs.Assertions.Sat.{HasFields, operand}
use Rattle.sf_core.specs.declared.assertion.Operand.{Operand}
use Rattle.sf_core.specs.declared.assertion.Operand.TheVariants.{Known, Exists}
use Rattle.sf_core.specs.declared.fields.Links.{Links}
use Rattle.sf_sym.specs.declared.atom.Atom.{Atom}
use Rattle.sf_sym.specs.declared.atom.Atom.TheVariants.{Points, Ls, Tree, Dll}
use Rattle.sf_sym.specs.declared.atom.Numbered.{Numbered}
use Rattle.sf_sym.specs.declared.term.Term.{Term}
use Rattle.sf_sym.specs.Below.{AllInAtom, AllInAtoms, AllInGoal, AllInItem, AllInPairs, AllInPending, AllPaired}
use Rattle.sf_sym.specs.Goal.{Item, add, Goal}
use Rattle.sf_sym.specs.Holds.{term_value, Agrees, Differ, DsegAlong, SegAlong, TreeAlong, AtomHolds, AtomsHold, PendingHolds, AddsHold}
use Rattle.sf_sym.specs.HoldsIn.{HoldsIn}
use Rattle.sf_sym.specs.Pending.{Pending}

module _ (w v : ℕ → Value) where
  -- the term has the same value with both
  abbrev pub Same : Term → Type 0
  Same t = term_value w t ≡ term_value v t

  pub vars-other_values : (e : Var → Option Value) (vars : List (Var × Term)) → AllPaired Same vars
      → AllByRecursion (Agrees w e) vars → AllByRecursion (Agrees v e) vars
  vars-other_values e [] s a = tt
  vars-other_values e (x ∷ xs) s a = (λ u i. a.0 u i ∙ s.0, vars-other_values e xs s.1 a.1)

  pub pairs-other_values : (apart : List (Term × Term)) → AllInPairs Same apart
      → AllByRecursion (Differ w) apart → AllByRecursion (Differ v) apart
  pairs-other_values [] s d = tt
  pairs-other_values (p ∷ ps) s d = (λ i. d.0 (s.0.0 ∙ i ∙ sym s.0.1), pairs-other_values ps s.1 d.1)

  pub fields-other_values : (fields : List (FieldId × Term)) (here : Cell) → AllPaired Same fields
      → HasFields (term_value w) fields here → HasFields (term_value v) fields here
  fields-other_values [] here s h = tt
  fields-other_values (f ∷ fs) here s h = (h.0 ∙ s.0, fields-other_values fs here s.1 h.1)

  pub atom-other_values : (links : Links) (a : Atom) (heap : Heap) → AllInAtom Same a → AtomHolds w links a heap
      → AtomHolds v links a heap
  atom-other_values links (Points t fields) heap s (location, here, is, one, f) =
      (location, here, sym s.0 ∙ is, one, fields-other_values fields here s.1 f)
  atom-other_values links (Ls t u) heap s h = subst₂ (λ x y. SegAlong links.tl x y heap) s.0 s.1 h
  atom-other_values links (Tree t) heap s h = subst (λ x. TreeAlong links.l links.r x heap) s h
  atom-other_values links (Dll t p l u) heap s h =
      subst₂ (λ x y. DsegAlong links.tl links.pv (term_value v t) (term_value v p) x y heap) s.2 s.3
      (subst₂ (λ x y. DsegAlong links.tl links.pv x y (term_value w l) (term_value w u) heap) s.0 s.1 h)

  pub atoms-other_values : (links : Links) (atoms : List Numbered) (heap : Heap) → AllInAtoms Same atoms
      → AtomsHold w links atoms heap → AtomsHold v links atoms heap
  atoms-other_values links [] heap s h = h
  atoms-other_values links (a ∷ rest) heap s h =
      star-map (λ part d. atom-other_values links a.atom part s.0 d)
      (λ part d. atoms-other_values links rest part s.1 d) h

  pub pending-other_values : (given : Pending) (heap : Heap) → AllInPending Same given
      → PendingHolds w given heap → PendingHolds v given heap
  pending-other_values given heap s (some, bound, sat) = (
    some,
    λ n t e. bound n t e ∙ s.bindings n t e,
    sat-all_agree given.conjuncts (term_value w) (term_value v) some some heap go sat,
  )
    where
      go : (x : Operand Term) → OccursInAll given.conjuncts x
          → operand (term_value w) some x ≡ operand (term_value v) some x
      go (Known t) o = s.conjuncts t o
      go (Exists n) o = refl

  pub adds-other_values : (items : List Item) (heap : Heap) → AllByRecursion (AllInItem Same) items
      → AddsHold w items heap → AddsHold v items heap
  adds-other_values [] heap s h = h
  adds-other_values (add p given ∷ items) heap s h =
      star-map (λ part d. pending-other_values given part s.0 d)
      (λ part d. adds-other_values items part s.1 d) h
  adds-other_values (item ∷ items) heap s h = h

  pub goal-other_values : (goal : Goal) (e : Var → Option Value) (free taken : Heap) → AllInGoal Same goal
      → HoldsIn w goal e free taken → HoldsIn v goal e free taken
  goal-other_values goal e free taken s h = record {
    vars = vars-other_values e goal.state.vars s.state.vars h.vars;
    apart = pairs-other_values goal.state.apart s.state.apart h.apart;
    disjoint = h.disjoint;
    there = star-map (λ part d. atoms-other_values goal.state.links goal.state.atoms part s.state.atoms d)
        (λ part d. adds-other_values goal.todo part s.todo d) h.there;
    gone = atoms-other_values goal.state.links goal.state.taken taken s.state.taken h.gone;
  }
