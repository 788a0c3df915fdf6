-- Operands and what existentials stand for, where all terms are below a number.
-- Names: `bound-LAW` of what existentials stand for, `operand-LAW`, `operands-PART` of the operands of conjuncts.
use Rattle.std.specs.List.{AllByRecursion}
use Rattle.std.specs.Prelude.{set}
use Rattle.std.proofs.Common.{◌≡◌, ℕ, zero, suc, ◌≤◌, get_or, Option, Some, None, List, [], ◌∷◌, refl, subst, inl, inr}
use Rattle.std.proofs.lemmas.Option.{none-some, same_Some}
use Rattle.sf_base.specs.declared.ids.FieldId.{FieldId}
use Rattle.sf_core.specs.Assertions.Occurs.{OccursInFields}
use Rattle.sf_core.specs.declared.assertion.Operand.{Operand}
use Rattle.sf_core.specs.declared.assertion.Operand.TheVariants.{Known, Exists}
use Rattle.sf_sym.specs.Below.{IsBelow}
use Rattle.sf_sym.specs.Decided.{term_of}
use Rattle.sf_sym.specs.declared.term.Term.{Term}
use Rattle.sf_sym.specs.Checked.Lemmas.Below.{below-more}

-- what existentials stand for is below
abbrev pub Bound : ℕ → List (Option Term) → Type 0
Bound n bindings = (m : ℕ) (t : Term) → get_or bindings m None ≡ Some t → IsBelow n t

pub bound-more : (n k : ℕ) (bindings : List (Option Term)) → n ≤ k → Bound n bindings → Bound k bindings
bound-more n k bindings l b m t e = below-more n k l t (b m t e)

-- one more of them gets a term
pub bound-set : (n : ℕ) (bindings : List (Option Term)) (i : ℕ) (u : Term) → Bound n bindings → IsBelow n u
    → Bound n (set bindings i (Some u))
bound-set n [] i u b c m t e = absurd (none-some t e)
bound-set n (x ∷ xs) zero u b c zero t e = subst (IsBelow n) (same_Some u t e) c
bound-set n (x ∷ xs) zero u b c (suc m) t e = b (suc m) t e
bound-set n (x ∷ xs) (suc i) u b c zero t e = b zero t e
bound-set n (x ∷ xs) (suc i) u b c (suc m) t e = bound-set n xs i u (λ j v k. b (suc j) v k) c m t e

-- an operand's own term is below
abbrev pub OperandBelow : ℕ → Operand Term → Type 0
OperandBelow n (Known t) = IsBelow n t
OperandBelow n (Exists m) = Unit {0}

abbrev pub OperandsBelow : ℕ → List (FieldId × Operand Term) → Type 0
OperandsBelow n fs = AllByRecursion (λ (f : FieldId × Operand Term). OperandBelow n f.1) fs

-- so is the one that it stands for
pub operand-term : (n : ℕ) (bindings : List (Option Term)) (x : Operand Term) (t : Term) → Bound n bindings
    → OperandBelow n x → term_of bindings x ≡ Some t → IsBelow n t
operand-term n bindings (Known u) t b o e = subst (IsBelow n) (same_Some u t e) o
operand-term n bindings (Exists m) t b o e = b m t e

-- operands of which all terms that occur are below
pub operand-one : (n : ℕ) (x : Operand Term) → ((t : Term) → Known t ≡ x → IsBelow n t) → OperandBelow n x
operand-one n (Known t) h = h t refl
operand-one n (Exists m) h = tt

pub operands-fields : (n : ℕ) (fs : List (FieldId × Operand Term))
    → ((t : Term) → OccursInFields fs (Known t) → IsBelow n t) → OperandsBelow n fs
operands-fields n [] h = tt
operands-fields n (f ∷ fs) h =
    (operand-one n f.1 (λ t e. h t (inl e)), operands-fields n fs (λ t o. h t (inr o)))
