-- What holds still holds with other terms of the same values in place of the terms that occur.
-- Names: `PART-with` speaks of what `PART_with` makes of that part, `occurs-with` of what occurs in what it makes.
use Rattle.std.specs.List.{AllByRecursion}
use Rattle.std.specs.Option.{option_map}
use Rattle.std.specs.Prelude.{◌⊎◌}
use Rattle.std.proofs.Common.{◌≡◌, ◌≢◌, ℕ, zero, suc, List, [], ◌∷◌, Option, Some, None, map, get_or, refl, sym, ap, ◌∙◌, subst, subst₂, inl, inr}
use Rattle.sf_base.proofs.HeapSplits.{star-map}
use Rattle.sf_base.proofs.Options.{option_map-some}
use Rattle.sf_base.specs.declared.ids.FieldId.{FieldId}
use Rattle.sf_base.specs.declared.ids.Var.{Var}
use Rattle.sf_base.specs.declared.value.Value.{Value}
use Rattle.sf_base.specs.declared.value.Value.TheVariants.{Loc as loc}
use Rattle.sf_base.specs.HeapStore.{Cell, Heap, IsEmpty, IsOne, ◌⋆◌}
use Rattle.sf_core.specs.Assertions.Occurs.{OccursIn, OccursInAll, OccursInFields, OccursInOne, OccursInTest}
use Rattle.sf_core.specs.Assertions.Sat.{HasFields, IsTrueOf, SameOutside, Sat, SatAll, SatOne, Dseg, Seg, Tree as IsTree, operand}
use Rattle.sf_core.specs.declared.assertion.Operand.{Operand}
use Rattle.sf_core.specs.declared.assertion.Operand.TheVariants.{Known, Exists}
use Rattle.sf_core.specs.declared.assertion.Test.{Test}
use Rattle.sf_core.specs.declared.assertion.Test.TheVariants.{True, Equal, Differ as Unequal}
use Rattle.sf_core.specs.declared.fields.Links.{Links}
use Rattle.sf_core.specs.Program.Syntax.{Conjunct, holds, points, segment, doubly, tree, choose, Level, level, Conjuncts, none, also}
use Rattle.sf_sym.specs.declared.atom.Atom.{Atom}
use Rattle.sf_sym.specs.declared.atom.Atom.TheVariants.{Points, Ls, Tree, Dll}
use Rattle.sf_sym.specs.declared.atom.Numbered.{Numbered}
use Rattle.sf_sym.specs.declared.term.Term.{Term}
use Rattle.sf_sym.specs.Below.{AllInAtom, AllInAtoms, AllInGoal, AllInItem, AllInPairs, AllInPending, AllPaired}
use Rattle.sf_sym.specs.Equalities.{atom_with, numbered_with, pending_with, item_with, goal_with}
use Rattle.sf_sym.specs.Goal.{Item, run, add, take, gave, head, again, exit, return, end, Goal}
use Rattle.sf_sym.specs.Holds.{term_value, Agrees, Differ, DsegAlong, SegAlong, TreeAlong, AtomHolds, AtomsHold, PendingHolds, AddsHold}
use Rattle.sf_sym.specs.HoldsIn.{HoldsIn}
use Rattle.sf_sym.specs.Mapped.{operand_with, test_with, level_with, conjuncts_with, conjunct_with}
use Rattle.sf_sym.specs.Pending.{Pending}

-- Conjuncts with other things in place of what has a value mean what the values of those make them mean
module _ {E F : Type 0} (to : E → F) (v : F → Value) where
  pub operand-with : (some : ℕ → Value) (x : Operand E)
      → operand v some (operand_with to x) ≡ operand (λ e. v (to e)) some x
  operand-with some (Known e) = refl
  operand-with some (Exists n) = refl

  pub test-with : (some : ℕ → Value) (t : Test (Operand E))
      → IsTrueOf (operand v some) (test_with to t) ≡ IsTrueOf (operand (λ e. v (to e)) some) t
  test-with some True = refl
  test-with some (Equal x y) = λ j. operand-with some x j ≡ operand-with some y j
  test-with some (Unequal x y) = λ j. operand-with some x j ≢ operand-with some y j

  pub fields-with : (some : ℕ → Value) (fs : List (FieldId × Operand E)) (here : Cell)
      → HasFields (operand v some) (map (λ f. (f.0, operand_with to f.1)) fs) here
      ≡ HasFields (operand (λ e. v (to e)) some) fs here
  fields-with some [] here = refl
  fields-with some (f ∷ fs) here = λ j. (here f.0.0 ≡ operand-with some f.1 j) × fields-with some fs here j

  mutual
    pub level-with : (a : Level E) (some : ℕ → Value) (heap : Heap)
        → Sat (level_with to a) v some heap ≡ Sat a (λ e. v (to e)) some heap
    level-with (level made cs) some heap =
        λ j. (here : ℕ → Value) × SameOutside made some here × conjuncts-with cs here heap j

    pub conjuncts-with : (cs : Conjuncts E) (some : ℕ → Value) (heap : Heap)
        → SatAll (conjuncts_with to cs) v some heap ≡ SatAll cs (λ e. v (to e)) some heap
    conjuncts-with none some heap = refl
    conjuncts-with (also c cs) some heap =
        λ j. ((λ part. conjunct-with c some part j) ⋆ (λ part. conjuncts-with cs some part j)) heap

    pub conjunct-with : (c : Conjunct E) (some : ℕ → Value) (heap : Heap)
        → SatOne (conjunct_with to c) v some heap ≡ SatOne c (λ e. v (to e)) some heap
    conjunct-with (holds p t) some heap = λ j. IsEmpty heap × test-with some t j
    conjunct-with (points p x fs) some heap =
        λ j. (location : ℕ) × (here : Cell) × (operand-with some x j ≡ loc location)
        × IsOne location here heap × fields-with some fs here j
    conjunct-with (segment p next x y) some heap =
        λ j. Seg next (operand-with some y j) (operand-with some x j) heap
    conjunct-with (doubly p next back x b l y) some heap =
        λ j. Dseg next back (operand-with some l j) (operand-with some y j) (operand-with some b j)
        (operand-with some x j) heap
    conjunct-with (tree p left right x) some heap = λ j. IsTree left right (operand-with some x j) heap
    conjunct-with (choose p t this that) some heap =
        λ j. (test-with some t j → level-with this some heap j)
        × ((test-with some t j → ⊥) → level-with that some heap j)

-- What occurs in them was made of something that occurs
module _ {E F : Type 0} (to : E → F) where
  -- it was made of something of which that is said
  abbrev pub MadeOf : (Operand E → Type 0) → F → Type 0
  MadeOf P y = (x : E) × P (Known x) × (y ≡ to x)

  made-more : (P Q : Operand E → Type 0) (y : F) → ((x : Operand E) → P x → Q x) → MadeOf P y → MadeOf Q y
  made-more P Q y f (x, p, e) = (x, f (Known x) p, e)

  operand-made : (y : F) (x : Operand E) → Known y ≡ operand_with to x → MadeOf (λ z. z ≡ x) y
  operand-made y (Known x) e = (x, refl, let i : y ≡ to x = cc in i)
  operand-made y (Exists n) e = absurd (cc)

  two-made : (y : F) (x z : Operand E)
      → (Known y ≡ operand_with to x) ⊎ (Known y ≡ operand_with to z)
      → MadeOf (λ o. (o ≡ x) ⊎ (o ≡ z)) y
  two-made y x z (inl e) = made-more (λ o. o ≡ x) (λ o. (o ≡ x) ⊎ (o ≡ z)) y (λ o i. inl i) (operand-made y x e)
  two-made y x z (inr e) = made-more (λ o. o ≡ z) (λ o. (o ≡ x) ⊎ (o ≡ z)) y (λ o i. inr i) (operand-made y z e)

  test-made : (y : F) (t : Test (Operand E)) → OccursInTest (test_with to t) (Known y)
      → MadeOf (OccursInTest t) y
  test-made y True o = absurd o
  test-made y (Equal x z) o = two-made y x z o
  test-made y (Unequal x z) o = two-made y x z o

  fields-made : (y : F) (fs : List (FieldId × Operand E))
      → OccursInFields (map (λ f. (f.0, operand_with to f.1)) fs) (Known y) → MadeOf (OccursInFields fs) y
  fields-made y [] o = absurd o
  fields-made y (f ∷ fs) (inl e) =
      made-more (λ o. o ≡ f.1) (OccursInFields (f ∷ fs)) y (λ o i. inl i) (operand-made y f.1 e)
  fields-made y (f ∷ fs) (inr o) =
      made-more (OccursInFields fs) (OccursInFields (f ∷ fs)) y (λ o i. inr i) (fields-made y fs o)

  mutual
    level-made : (y : F) (a : Level E) → OccursIn (level_with to a) (Known y) → MadeOf (OccursIn a) y
    level-made y (level made cs) o = let (x, p, e) = occurs-with y cs o.0 in (x, (p, tt), e)

    pub occurs-with : (y : F) (cs : Conjuncts E) → OccursInAll (conjuncts_with to cs) (Known y)
        → MadeOf (OccursInAll cs) y
    occurs-with y none o = absurd o
    occurs-with y (also c cs) (inl o) =
        made-more (OccursInOne c) (OccursInAll (also c cs)) y (λ x i. inl i) (one-made y c o)
    occurs-with y (also c cs) (inr o) =
        made-more (OccursInAll cs) (OccursInAll (also c cs)) y (λ x i. inr i) (occurs-with y cs o)

    one-made : (y : F) (c : Conjunct E) → OccursInOne (conjunct_with to c) (Known y)
        → MadeOf (OccursInOne c) y
    one-made y (holds p t) o = test-made y t o
    one-made y (points p x fs) (inl e) =
        made-more (λ o. o ≡ x) (OccursInOne (points p x fs)) y (λ o i. inl i) (operand-made y x e)
    one-made y (points p x fs) (inr o) =
        made-more (OccursInFields fs) (OccursInOne (points p x fs)) y (λ o i. inr i) (fields-made y fs o)
    one-made y (segment p next x z) o = two-made y x z o
    one-made y (doubly p next back x b l z) (inl e) =
        made-more (λ o. o ≡ x) (OccursInOne (doubly p next back x b l z)) y (λ o i. inl i) (operand-made y x e)
    one-made y (doubly p next back x b l z) (inr (inl e)) =
        made-more (λ o. o ≡ b) (OccursInOne (doubly p next back x b l z)) y (λ o i. inr (inl i)) (operand-made y b e)
    one-made y (doubly p next back x b l z) (inr (inr o)) =
        made-more (λ o. (o ≡ l) ⊎ (o ≡ z)) (OccursInOne (doubly p next back x b l z)) y (λ o i. inr (inr i))
        (two-made y l z o)
    one-made y (tree p left right x) o = operand-made y x o
    one-made y (choose p t this that) (inl o) =
        made-more (OccursInTest t) (OccursInOne (choose p t this that)) y (λ x i. inl i) (test-made y t o)
    one-made y (choose p t this that) (inr (inl o)) =
        made-more (OccursIn this) (OccursInOne (choose p t this that)) y (λ x i. inr (inl i)) (level-made y this o)
    one-made y (choose p t this that) (inr (inr o)) =
        made-more (OccursIn that) (OccursInOne (choose p t this that)) y (λ x i. inr (inr i)) (level-made y that o)

-- what an existential stands for was made of what it stood for
pub bindings-made : (to : Term → Term) (bindings : List (Option Term)) (n : ℕ) (t : Term)
    → get_or (map (option_map to) bindings) n None ≡ Some t
    → (u : Term) × (get_or bindings n None ≡ Some u) × (t ≡ to u)
bindings-made to [] n t e = absurd (cc)
bindings-made to (b ∷ bs) zero t e = option_map-some to b t e
bindings-made to (b ∷ bs) (suc n) t e = bindings-made to bs n t e

-- and it stands for what is made of what it stood for
pub bindings-there : (to : Term → Term) (bindings : List (Option Term)) (n : ℕ) (t : Term)
    → get_or bindings n None ≡ Some t → get_or (map (option_map to) bindings) n None ≡ Some (to t)
bindings-there to [] n t e = absurd (cc)
bindings-there to (b ∷ bs) zero t e = ap (option_map to) e
bindings-there to (b ∷ bs) (suc n) t e = bindings-there to bs n t e

-- Terms of the same values
module _ (w : ℕ → Value) (to : Term → Term) (same : (t : Term) → term_value w (to t) ≡ term_value w t) where
  pub vars-with : (e : Var → Option Value) (vars : List (Var × Term)) → AllByRecursion (Agrees w e) vars
      → AllByRecursion (Agrees w e) (map (λ x. (x.0, to x.1)) vars)
  vars-with e [] a = tt
  vars-with e (x ∷ xs) a = (λ u i. a.0 u i ∙ sym (same x.1), vars-with e xs a.1)

  pub pairs-with : (apart : List (Term × Term)) → AllByRecursion (Differ w) apart
      → AllByRecursion (Differ w) (map (λ p. (to p.0, to p.1)) apart)
  pairs-with [] d = tt
  pairs-with (p ∷ ps) d = (λ i. d.0 (sym (same p.0) ∙ i ∙ same p.1), pairs-with ps d.1)

  terms-with : (fields : List (FieldId × Term)) (here : Cell) → HasFields (term_value w) fields here
      → HasFields (term_value w) (map (λ f. (f.0, to f.1)) fields) here
  terms-with [] here h = tt
  terms-with (f ∷ fs) here h = (h.0 ∙ sym (same f.1), terms-with fs here h.1)

  pub atom-with : (links : Links) (a : Atom) (heap : Heap) → AtomHolds w links a heap
      → AtomHolds w links (atom_with to a) heap
  atom-with links (Points t fields) heap (location, here, is, one, f) =
      (location, here, same t ∙ is, one, terms-with fields here f)
  atom-with links (Ls t u) heap h =
      subst₂ (λ x y. SegAlong links.tl x y heap) (sym (same t)) (sym (same u)) h
  atom-with links (Dll v p l u) heap h =
      subst₂ (λ x y. DsegAlong links.tl links.pv (term_value w (to v)) (term_value w (to p)) x y heap) (sym (same l))
      (sym (same u))
      (subst₂ (λ x y. DsegAlong links.tl links.pv x y (term_value w l) (term_value w u) heap) (sym (same v))
      (sym (same p)) h)
  atom-with links (Tree t) heap h = subst (λ x. TreeAlong links.l links.r x heap) (sym (same t)) h

  pub atoms-with : (links : Links) (atoms : List Numbered) (heap : Heap) → AtomsHold w links atoms heap
      → AtomsHold w links (map (numbered_with to) atoms) heap
  atoms-with links [] heap h = h
  atoms-with links (a ∷ rest) heap h =
      star-map (λ part d. atom-with links a.atom part d) (λ part d. atoms-with links rest part d) h

  pub pending-with : (given : Pending) (heap : Heap) → PendingHolds w given heap
      → PendingHolds w (pending_with to given) heap
  pending-with given heap (some, bound, sat) = (
    some,
    λ n t e. let (u, i, j) = bindings-made to given.bindings n t e in
        bound n u i ∙ sym (same u) ∙ ap (term_value w) (sym j),
    subst (λ z. z) (sym (conjuncts-with to (term_value w) given.conjuncts some heap))
        (subst (λ (v : Term → Value). SatAll given.conjuncts v some heap) (λ j t. sym (same t) j) sat),
  )

  pub adds-with : (items : List Item) (heap : Heap) → AddsHold w items heap
      → AddsHold w (map (item_with to) items) heap
  adds-with [] heap h = h
  adds-with (add p given ∷ items) heap h =
      star-map (λ part d. pending-with given part d) (λ part d. adds-with items part d) h
  adds-with (run c ∷ items) heap h = h
  adds-with (take p want names ∷ items) heap h = h
  adds-with (gave p set removed ∷ items) heap h = h
  adds-with (head p test invariant body ∷ items) heap h = h
  adds-with (again p invariant ∷ items) heap h = h
  adds-with (exit p r ∷ items) heap h = h
  adds-with (return p post ∷ items) heap h = h
  adds-with (end p ∷ items) heap h = h

  pub goal-with : (goal : Goal) (e : Var → Option Value) (free taken : Heap) → HoldsIn w goal e free taken
      → HoldsIn w (goal_with to goal) e free taken
  goal-with goal e free taken h = record {
    vars = vars-with e goal.state.vars h.vars;
    apart = pairs-with goal.state.apart h.apart;
    disjoint = h.disjoint;
    there = star-map (λ part d. atoms-with goal.state.links goal.state.atoms part d)
        (λ part d. adds-with goal.todo part d) h.there;
    gone = atoms-with goal.state.links goal.state.taken taken h.gone;
  }

-- Every term that is put in has a property where every term was such that it gets it
module _ (P Q : Term → Type 0) (to : Term → Term) (makes : (t : Term) → P t → Q (to t)) where
  paired-with : {K : Type 0} (xs : List (K × Term)) → AllPaired P xs
      → AllPaired Q (map (λ (x : K × Term). (x.0, to x.1)) xs)
  paired-with [] a = tt
  paired-with (x ∷ xs) a = (makes x.1 a.0, paired-with xs a.1)

  all_pairs-with : (ps : List (Term × Term)) → AllInPairs P ps → AllInPairs Q (map (λ p. (to p.0, to p.1)) ps)
  all_pairs-with [] a = tt
  all_pairs-with (p ∷ ps) a = ((makes p.0 a.0.0, makes p.1 a.0.1), all_pairs-with ps a.1)

  all_atom-with : (a : Atom) → AllInAtom P a → AllInAtom Q (atom_with to a)
  all_atom-with (Points t fields) a = (makes t a.0, paired-with fields a.1)
  all_atom-with (Ls t u) a = (makes t a.0, makes u a.1)
  all_atom-with (Tree t) a = makes t a
  all_atom-with (Dll v p l u) a = (makes v a.0, makes p a.1, makes l a.2, makes u a.3)

  all_atoms-with : (all : List Numbered) → AllInAtoms P all → AllInAtoms Q (map (numbered_with to) all)
  all_atoms-with [] a = tt
  all_atoms-with (x ∷ xs) a = (all_atom-with x.atom a.0, all_atoms-with xs a.1)

  all_pending-with : (given : Pending) → AllInPending P given → AllInPending Q (pending_with to given)
  all_pending-with given a = record {
    conjuncts = λ t o. let (u, i, e) = occurs-with to t given.conjuncts o in
        subst Q (sym e) (makes u (a.conjuncts u i));
    bindings = λ n t i. let (u, j, e) = bindings-made to given.bindings n t i in
        subst Q (sym e) (makes u (a.bindings n u j));
  }

  all_item-with : (item : Item) → AllInItem P item → AllInItem Q (item_with to item)
  all_item-with (add p given) a = all_pending-with given a
  all_item-with (take p want names) a = all_pending-with want a
  all_item-with (gave p set removed) a = paired-with set a
  all_item-with item a = tt

  all_items-with : (items : List Item) → AllByRecursion (AllInItem P) items
      → AllByRecursion (AllInItem Q) (map (item_with to) items)
  all_items-with [] a = tt
  all_items-with (x ∷ xs) a = (all_item-with x a.0, all_items-with xs a.1)

  pub all-with : (goal : Goal) → AllInGoal P goal → AllInGoal Q (goal_with to goal)
  all-with goal a = record {
    state = record {
      vars = paired-with goal.state.vars a.state.vars;
      apart = all_pairs-with goal.state.apart a.state.apart;
      atoms = all_atoms-with goal.state.atoms a.state.atoms;
      taken = all_atoms-with goal.state.taken a.state.taken;
    };
    todo = all_items-with goal.todo a.todo;
  }
