-- The derived equality of terms is that of the definitions.
use Rattle.std.proofs.Common.{◌≡◌, Bool, true, false, refl, rules, ap}
use Rattle.std.proofs.lemmas.Bool.Decides.{Decides-int_eq, Decides-eqb}
use Rattle.sf_sym.specs.declared.term.Term.{Term}
use Rattle.sf_sym.specs.declared.term.Term.TheVariants.{Nil, Int, Sym}
use Rattle.sf_sym.specs.Checked.Lemmas.{same_term_is}
use Rattle.sf_sym.specs.Tests.{same_term}
use Rattle.sf_sym.specs.contracts.term.TermPartialEq.TheImpl.{eq-value}

-- a term is itself
pub same_self : (t : Term) → same_term t t ≡ true
same_self Nil = refl
same_self (Int i) = (Decides-int_eq i i).1 refl
same_self (Sym n) = (Decides-eqb n n).1 refl

pub same_turned : (u v : Term) → same_term u v ≡ same_term v u
same_turned u v = go (same_term u v) (same_term v u) refl refl
  where
    go : (a b : Bool) → same_term u v ≡ a → same_term v u ≡ b → a ≡ b
    go true true e f = refl
    go true false e f = let one : u ≡ v = same_term_is u v e in let s = same_self v in cc (ap (λ x. same_term v x) one)
    go false true e f = let one : v ≡ u = same_term_is v u f in let s = same_self v in cc (ap (λ x. same_term x v) one)
    go false false e f = refl

pub derived : (t u : Term) → eq-value.it t u ≡ same_term t u
derived Nil Nil = refl
derived Nil (Int j) = refl
derived Nil (Sym n) = refl
derived (Int i) Nil = refl
derived (Int i) (Int j) = search rules
derived (Int i) (Sym n) = refl
derived (Sym m) Nil = refl
derived (Sym m) (Int j) = refl
derived (Sym m) (Sym n) = search rules
