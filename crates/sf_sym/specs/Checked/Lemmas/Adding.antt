-- Conjuncts that are to be assumed or to be shown, if there are any, before other things to do.
-- Names: `adding-LAW` and `taking-LAW`.
use Rattle.std.specs.List.{AllByRecursion}
use Rattle.std.proofs.Common.{◌≡◌, ℕ, List, ◌++◌, refl, subst}
use Rattle.sf_base.proofs.HeapSplits.{star-drop_left, star-map_left}
use Rattle.sf_base.specs.declared.place.Place.{Place}
use Rattle.sf_base.specs.declared.value.Value.{Value}
use Rattle.sf_base.specs.HeapStore.{Heap, ◌⋆◌}
use Rattle.sf_core.specs.Assertions.Sat.{SatAll}
use Rattle.sf_core.specs.Program.Syntax.{Conjuncts, none, also}
use Rattle.sf_sym.specs.Below.{AllInItem, AllInPending}
use Rattle.sf_sym.specs.declared.term.Term.{Term}
use Rattle.sf_sym.specs.Goal.{Item, add, take, adding, taking, unless_none}
use Rattle.sf_sym.specs.Holds.{term_value, AddsHold, PendingHolds}
use Rattle.sf_sym.specs.Pending.{Pending}

-- what is to be assumed holds, where the conjuncts do beside what comes after them
pub adding-holds : (w : ℕ → Value) (p : Place) (given : Pending) (rest : List Item) (heap : Heap)
    → (PendingHolds w given ⋆ AddsHold w rest) heap → AddsHold w (adding p given ++ rest) heap
adding-holds w p given rest heap s = go given.conjuncts refl
  where
    go : (cs : Conjuncts Term) → given.conjuncts ≡ cs → AddsHold w (unless_none cs (add p given) ++ rest) heap
    go none e = star-drop_left (star-map_left (λ part d. subst (λ z. SatAll z (term_value w) d.0 part) e d.2) s)
    go (also c cs) e = s

module _ (P : Term → Type 0) where
  -- every term has a property
  pub adding-all : (p : Place) (given : Pending) (rest : List Item) → AllInPending P given
      → AllByRecursion (AllInItem P) rest → AllByRecursion (AllInItem P) (adding p given ++ rest)
  adding-all p given rest b others = go given.conjuncts
    where
      go : (cs : Conjuncts Term) → AllByRecursion (AllInItem P) (unless_none cs (add p given) ++ rest)
      go none = others
      go (also c cs) = (b, others)

  pub taking-all : (p : Place) (want : Pending) (names : List (List ℕ)) (rest : List Item) → AllInPending P want
      → AllByRecursion (AllInItem P) rest → AllByRecursion (AllInItem P) (taking p want names ++ rest)
  taking-all p want names rest b others = go want.conjuncts
    where
      go : (cs : Conjuncts Term) → AllByRecursion (AllInItem P) (unless_none cs (take p want names) ++ rest)
      go none = others
      go (also c cs) = (b, others)
