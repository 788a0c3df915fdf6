-- One pair more gives cells only to atoms that begin at one of its terms.
use Rattle.std.proofs.Common.{◌≡◌, ◌⊎◌, inl, inr, true, false, ◌&&◌, ◌||◌, not, List, [], ◌∷◌, ◌++◌, refl, sym, ◌∙◌}
use Rattle.std.specs.List.{list_any}
use Rattle.std.proofs.lemmas.Bool.{or_cases, or_left, or_right}
use Rattle.std.proofs.lemmas.List.Folds.{list_any-append}
use Rattle.sf_base.proofs.Bools.{and-left, and-right}
use Rattle.sf_sym.specs.declared.atom.Atom.{Atom}
use Rattle.sf_sym.specs.declared.atom.Atom.TheVariants.{Points, Ls, Tree, Dll}
use Rattle.sf_sym.specs.declared.term.Term.{Term}
use Rattle.sf_sym.specs.declared.term.Term.TheVariants.{Nil}
use Rattle.sf_sym.specs.Checked.Keeping.{joins}
use Rattle.sf_sym.specs.Tests.{begins, differs_at_once, has_cell, is_constant, is_pair, same_term}
use Rattle.sf_sym.proofs.SameTerms.{same_turned}

differ-more : (t u : Term) (ps : List (Term × Term)) (a b : Term) → differs_at_once (ps ++ (t, u) ∷ []) a b ≡ true
    → (differs_at_once ps a b ≡ true) ⊎ (is_pair a b (t, u) ≡ true)
differ-more t u ps a b e =
    let c = is_constant a && is_constant b && not (same_term a b) in
    elim (or_cases c (list_any (is_pair a b) (ps ++ (t, u) ∷ [])) e) [
      | inl g ↦ inl (or_left c (list_any (is_pair a b) ps) g)
      | inr g ↦ elim (or_cases (list_any (is_pair a b) ps) (list_any (is_pair a b) ((t, u) ∷ []))
          (sym (list_any-append (is_pair a b) ps ((t, u) ∷ [])) ∙ g)) [
            | inl k ↦ inl (or_right c (list_any (is_pair a b) ps) k)
            | inr k ↦ elim (or_cases (is_pair a b (t, u)) false k) [ inl z ↦ inr z | inr z ↦ absurd (cc) ]
          ]
    ]

-- what has a cell then had one, or has one where the two terms differ
pub cell-more : (t u : Term) (ps : List (Term × Term)) (x : Atom) → has_cell (ps ++ (t, u) ∷ []) x ≡ true
    → (has_cell ps x ≡ true) ⊎ (joins (t, u) x ≡ true)
cell-more t u ps (Points r fields) e = inl refl
cell-more t u ps (Ls a b) e = differ-more t u ps a b e
cell-more t u ps (Tree a) e = differ-more t u ps a Nil e
cell-more t u ps (Dll a p l b) e = differ-more t u ps a b e

-- such an atom begins at one of them
pair-at : (t u a b : Term) → is_pair a b (t, u) ≡ true → (same_term a t ≡ true) ⊎ (same_term a u ≡ true)
pair-at t u a b e = elim (or_cases (same_term t a && same_term u b) (same_term t b && same_term u a) e) [
  | inl h ↦ inl (same_turned a t ∙ and-left (same_term t a) (same_term u b) h)
  | inr h ↦ inr (same_turned a u ∙ and-right (same_term t b) (same_term u a) h)
]

pub joins-at : (t u : Term) (x : Atom) → joins (t, u) x ≡ true → (begins t x ≡ true) ⊎ (begins u x ≡ true)
joins-at t u (Points r fields) e = absurd (cc)
joins-at t u (Ls a b) e = elim (pair-at t u a b e) [
  | inl h ↦ inl (or_left (same_term a t) false h)
  | inr h ↦ inr (or_left (same_term a u) false h)
]
joins-at t u (Tree a) e = elim (pair-at t u a Nil e) [
  | inl h ↦ inl (or_left (same_term a t) false h)
  | inr h ↦ inr (or_left (same_term a u) false h)
]
joins-at t u (Dll a p l b) e = elim (pair-at t u a b e) [
  | inl h ↦ inl (or_left (same_term a t) (same_term l t || false) h)
  | inr h ↦ inr (or_left (same_term a u) (same_term l u || false) h)
]
