-- A set of terms, and one term more.
use Rattle.std.proofs.Common.{◌≡◌, Bool, true, false, if◌then◌else◌, List, [], ◌∷◌, ◌++◌, refl, sym, ◌∙◌, subst}
use Rattle.std.specs.List.{list_any}
use Rattle.sf_sym.specs.declared.term.Term.{Term}
use Rattle.sf_sym.specs.Checked.Keeping.{In}
use Rattle.sf_sym.specs.Checked.Lemmas.{same_term_is}
use Rattle.sf_sym.proofs.Members.{any-in, in-last, in-left}
use Rattle.sf_sym.proofs.SameTerms.{derived}
use Rattle.sf_sym.specs.contracts.term.TermPartialEq.TheImpl.{eq-value}

-- the set with the term, as it is put into one
abbrev pub more : Term → List Term → List Term
more t keys = if list_any (eq-value.it t) keys then keys else keys ++ t ∷ []

-- all that was there still is
pub more-still : (t u : Term) (keys : List Term) → In u keys → In u (more t keys)
more-still t u keys h = go (list_any (eq-value.it t) keys)
  where
    go : (b : Bool) → In u (if b then keys else keys ++ t ∷ [])
    go true = h
    go false = in-left u keys (t ∷ []) h

-- and so is the term
pub more-there : (t : Term) (keys : List Term) → In t (more t keys)
more-there t keys = go (list_any (eq-value.it t) keys) refl
  where
    go : (b : Bool) → list_any (eq-value.it t) keys ≡ b → In t (if b then keys else keys ++ t ∷ [])
    go true e =
        let found = any-in (eq-value.it t) keys e in
        subst (λ z. In z keys) (sym (same_term_is t found.0 (sym (derived t found.0) ∙ found.2))) found.1
    go false e = in-last t keys
