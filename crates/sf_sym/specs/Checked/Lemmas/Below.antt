-- Terms that occur: a weaker property of all of them, and symbols below a number.
-- Names: `PART-weaker` of what holds of every term of that part, `below-LAW` of terms below a number.
use Rattle.std.specs.List.{AllByRecursion}
use Rattle.std.proofs.Common.{◌≡◌, ℕ, ◌<◌, ◌≤◌, ◌&&◌, Bool, true, false, not, cond, nat_lt, List, [], ◌∷◌, Option, Some, None, refl, sym, subst, arith}
use Rattle.std.proofs.lemmas.Bool.{ltb-true}
use Rattle.std.proofs.lemmas.Bool.Decides.{nat_tests}
use Rattle.std.proofs.lemmas.Option.{cond_some, same_Some}
use Rattle.sf_base.specs.declared.ids.FieldId.{FieldId}
use Rattle.sf_base.specs.declared.value.Value.{Value}
use Rattle.sf_sym.specs.declared.atom.Atom.{Atom}
use Rattle.sf_sym.specs.declared.atom.Atom.TheVariants.{Points, Ls, Tree, Dll}
use Rattle.sf_sym.specs.declared.atom.Numbered.{Numbered}
use Rattle.sf_sym.specs.declared.term.Term.{Term}
use Rattle.sf_sym.specs.declared.term.Term.TheVariants.{Nil, Int, Sym}
use Rattle.sf_sym.specs.Below.{AllInAtom, AllInAtoms, AllInGoal, AllInItem, AllInPairs, AllInPending, AllInState, AllPaired, IsBelow, SameBelow}
use Rattle.sf_sym.specs.Checked.Lemmas.Updates.{all-updated}
use Rattle.sf_sym.specs.Fields.{put_term}
use Rattle.sf_sym.specs.Goal.{Item, add, take, gave, Goal}
use Rattle.sf_sym.specs.Holds.{term_value}
use Rattle.sf_sym.specs.Known.{forced_by}
use Rattle.sf_sym.specs.Pending.{Pending}
use Rattle.sf_sym.specs.State.{State}
use Rattle.sf_sym.specs.Tests.{same_term}

module _ (P Q : Term → Type 0) (weaker : (t : Term) → P t → Q t) where
  pub paired-weaker : {K : Type 0} (xs : List (K × Term)) → AllPaired P xs → AllPaired Q xs
  paired-weaker [] a = tt
  paired-weaker (x ∷ xs) a = (weaker x.1 a.0, paired-weaker xs a.1)

  pub pairs-weaker : (ps : List (Term × Term)) → AllInPairs P ps → AllInPairs Q ps
  pairs-weaker [] a = tt
  pairs-weaker (p ∷ ps) a = ((weaker p.0 a.0.0, weaker p.1 a.0.1), pairs-weaker ps a.1)

  pub atom-weaker : (a : Atom) → AllInAtom P a → AllInAtom Q a
  atom-weaker (Points t fields) a = (weaker t a.0, paired-weaker fields a.1)
  atom-weaker (Ls t u) a = (weaker t a.0, weaker u a.1)
  atom-weaker (Tree t) a = weaker t a
  atom-weaker (Dll v p l u) a = (weaker v a.0, weaker p a.1, weaker l a.2, weaker u a.3)

  pub atoms-weaker : (all : List Numbered) → AllInAtoms P all → AllInAtoms Q all
  atoms-weaker [] a = tt
  atoms-weaker (x ∷ xs) a = (atom-weaker x.atom a.0, atoms-weaker xs a.1)

  pub state-weaker : (s : State) → AllInState P s → AllInState Q s
  state-weaker s a = record {
    vars = paired-weaker s.vars a.vars;
    apart = pairs-weaker s.apart a.apart;
    atoms = atoms-weaker s.atoms a.atoms;
    taken = atoms-weaker s.taken a.taken;
  }

  pub pending-weaker : (given : Pending) → AllInPending P given → AllInPending Q given
  pending-weaker given a = record {
    conjuncts = λ t o. weaker t (a.conjuncts t o);
    bindings = λ n t i. weaker t (a.bindings n t i);
  }

  pub item-weaker : (item : Item) → AllInItem P item → AllInItem Q item
  item-weaker (add p given) a = pending-weaker given a
  item-weaker (take p want names) a = pending-weaker want a
  item-weaker (gave p set removed) a = paired-weaker set a
  item-weaker item a = tt

  pub items-weaker : (items : List Item) → AllByRecursion (AllInItem P) items
      → AllByRecursion (AllInItem Q) items
  items-weaker [] a = tt
  items-weaker (x ∷ xs) a = (item-weaker x a.0, items-weaker xs a.1)

  pub goal-weaker : (goal : Goal) → AllInGoal P goal → AllInGoal Q goal
  goal-weaker goal a =
      record { state = state-weaker goal.state a.state; todo = items-weaker goal.todo a.todo }

-- a term below a number is below a larger one
pub below-more : (n m : ℕ) → n ≤ m → (t : Term) → IsBelow n t → IsBelow m t
below-more n m h Nil b = refl
below-more n m h (Int i) b = refl
below-more n m h (Sym k) b = more k b
  where
    more : (k : ℕ) → nat_lt k n ≡ true → nat_lt k m ≡ true
    more k b = grind (arith, nat_tests)

-- a symbol below a number is below it
pub below-symbol : (n k : ℕ) → k < n → IsBelow n (Sym k)
below-symbol n k h = grind (arith, nat_tests)

-- a term below a number has the same value where the symbols below that number have
pub below-value : (n : ℕ) (v w : ℕ → Value) → SameBelow n v w → (t : Term) → IsBelow n t
    → term_value w t ≡ term_value v t
below-value n v w s Nil b = refl
below-value n v w s (Int i) b = refl
below-value n v w s (Sym k) b = sym (s k (ltb-true k n b))

-- a term that is put among the fields of a cell has the property that they have
pub put-all : (P : Term → Type 0) (f : FieldId) (u : Term) (fields : List (FieldId × Term)) → P u
    → AllPaired P fields → AllPaired P (put_term f u fields)
put-all P f u fields p a =
    all-updated (λ (g : FieldId × Term). P g.1) (λ g. nat_lt g.0.0 f.0) (λ g. nat_lt f.0 g.0.0) (f, u)
    fields p a

-- terms that are forced are terms of the atom
pub forced-below : (n : ℕ) (x : Atom) (elsewhere : Bool) (both : Term × Term) → forced_by elsewhere x ≡ Some both
    → AllInAtom (IsBelow n) x → IsBelow n both.0 × IsBelow n both.1
forced-below n (Points t fields) elsewhere both e b = absurd (cc)
forced-below n (Ls t u) elsewhere both e b =
    subst (λ z. IsBelow n z.0 × IsBelow n z.1)
    (cond_some (not (same_term t u) && elsewhere) (t, u) both e).1 b
forced-below n (Tree t) elsewhere both e b =
    subst (λ z. IsBelow n z.0 × IsBelow n z.1)
    (cond_some (not (same_term t Nil) && elsewhere) (t, Nil) both e).1 (b, refl)
forced-below n (Dll v p l u) elsewhere both e b = go (same_term v u) (same_term p l) elsewhere e
  where
    go : (x y z : Bool)
        → cond {A = Option (Term × Term)} x (cond y None (Some (p, l))) (cond z (Some (v, u)) None) ≡ Some both
        → IsBelow n both.0 × IsBelow n both.1
    go true true z f = absurd (cc)
    go true false z f =
        let is : (p, l) ≡ both = same_Some (p, l) both f in
        subst (λ (z : Term × Term). IsBelow n z.0 × IsBelow n z.1) is (b.1, b.2)
    go false y true f =
        let is : (v, u) ≡ both = same_Some (v, u) both f in
        subst (λ (z : Term × Term). IsBelow n z.0 × IsBelow n z.1) is (b.0, b.3)
    go false y false f = absurd (cc)
