-- What is so at one of the commands of a block, what a list made of them has, and which occurrences have a variable.
-- Ordinary: members of a concatenation of lists.
use Rattle.std.proofs.Common.{◌≡◌, ◌⊎◌, ◌↔◌, List, [], ◌∷◌, ◌++◌, Contains, refl, sym, ap, ◌∙◌, inl, inr, subst}
use Rattle.std.specs.List.{flat_map}
use Rattle.sf_base.proofs.Elements.{contains-cons, contains-nil}
use Rattle.sf_base.proofs.Members.{contains-flat_map, contains-flat_map_from}
use Rattle.sf_base.specs.declared.ids.Var.{Var}
use Rattle.sf_core.specs.declared.command.Occurrence.{Occurrence}
use Rattle.sf_core.specs.Program.Heads.{Site, Somewhere, sites}
use Rattle.sf_core.specs.Program.Syntax.{Block}
use Rattle.sf_calls.specs.Outside.{IsAmong}

-- what was appended to nothing is all that is there
pub all_appended : {A B : Type 0} (f : A → List B) {a b : A} {none more all : List B} → a ≡ b
    → none ≡ [] → more ≡ none ++ f a → all ≡ more → all ≡ f b
all_appended f {a} {b} {none} {more} {all} same empty appended is =
    is ∙ appended ∙ ap (λ xs. xs ++ f a) empty ∙ ap f same

-- what is listed of each command is listed of the block
pub listed_somewhere : {A : Type 0} (f : Site → List A) (P : Site → Type 0) (x : A)
    → ((s : Site) → Contains (f s) x ↔ P s) → (b : Block)
    → Contains (flat_map f (sites [] b)) x ↔ Somewhere P b
listed_somewhere f P x are b = (
  λ c. let s = contains-flat_map_from f (sites [] b) x c in (s.0, s.1, (are s.0).0 s.2),
  λ h. contains-flat_map f (sites [] b) h.0 x h.1 ((are h.0).1 h.2),
)

-- a variable is among occurrences where one of them is one of it
pub among_at : (x : Var) (ys : List Occurrence) → IsAmong x ys
    → (y : Occurrence) × Contains ys y × (y.var ≡ x)
among_at x [] a = absurd a
among_at x (y ∷ ys) (inl e) = (y, (contains-cons y ys y).1 (inl refl), e)
among_at x (y ∷ ys) (inr a) = let h = among_at x ys a in (h.0, (contains-cons y ys h.0).1 (inr h.1), h.2)

pub among_of : (x : Var) (ys : List Occurrence) (y : Occurrence) → Contains ys y → y.var ≡ x → IsAmong x ys
among_of x [] y c e = absurd (contains-nil y c)
among_of x (z ∷ zs) y c e =
    elim ((contains-cons z zs y).0 c) [
      | inl s ↦ inl (subst (λ (t : Occurrence). t.var ≡ x) (sym s) e)
      | inr k ↦ inr (among_of x zs y k e)
    ]

-- one of some sites has that property
abbrev pub IsAtOne : (Site → Type 0) → List Site → Type 0
IsAtOne P [] = ⊥
IsAtOne P (s ∷ ss) = P s ⊎ IsAtOne P ss

-- the property of one of them, by cases on which
pub at_one : (P : Site → Type 0) (ss : List Site) → (s : Site) × Contains ss s × P s → IsAtOne P ss
at_one P [] h = absurd (contains-nil h.0 h.1)
at_one P (t ∷ ss) (s, m, h) =
    elim ((contains-cons t ss s).0 m) [
      | inl e ↦ inl (subst P (sym e) h)
      | inr k ↦ inr (at_one P ss (s, k, h))
    ]
