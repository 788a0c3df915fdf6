-- What existentials meet: values that agree with what was met.
-- Names: `found-LAW` of an existential that was met or not, `meets-CASE`, `refutes-CASE`.
use Rattle.std.proofs.Common.{◌≡◌, ◌⊎◌, ℕ, ◌==◌, ◌↔◌, Bool, true, false, cond, List, [], ◌∷◌, ◌++◌, Option, Some, None, Contains, IsTrue, get_or, refl, sym, ap, ◌∙◌, subst, inl, inr}
use Rattle.std.proofs.lemmas.Option.{none-some, same_Some}
use Rattle.sf_base.proofs.Elements.{contains-cons}
use Rattle.sf_base.proofs.HeapSplits.{at-same, at-self}
use Rattle.sf_base.proofs.Options.{some-none}
use Rattle.sf_base.specs.declared.ids.FieldId.{FieldId}
use Rattle.sf_base.specs.declared.value.Value.{Value}
use Rattle.sf_base.specs.declared.value.Value.TheVariants.{Nil as nil}
use Rattle.sf_base.specs.HeapStore.{Cell, Heap}
use Rattle.sf_core.specs.Assertions.Sat.{operand}
use Rattle.sf_core.specs.declared.assertion.Operand.{Operand}
use Rattle.sf_core.specs.declared.assertion.Operand.TheVariants.{Known, Exists}
use Rattle.sf_sym.specs.declared.term.Term.{Term}
use Rattle.sf_sym.specs.Decided.{term_of}
use Rattle.sf_sym.specs.Holds.{IsBound, term_value}
use Rattle.sf_witness.specs.Checked.Meeting.{Agrees, HasValue, IsAmong, IsCellAs, IsConsistent, IsThereAs, Meets, Met, Refutes, found}
use Rattle.sf_witness.specs.Located.{located, value_at}

-- the value of an existential's term, or another
abbrev pub filled : Value → Option Term → Value
filled v None = v
filled v (Some t) = value_at t

-- existentials that have no term have that value
abbrev pub with_default : List (Option Term) → Value → ℕ → Value
with_default bindings v n = filled v (get_or bindings n None)

-- those values are those of the terms
pub default-bound : (bindings : List (Option Term)) (v : Value) → IsBound located bindings (with_default bindings v)
default-bound bindings v n t e = ap (filled v) e

-- without anything that was met there are such values
pub nothing-consistent : (bindings : List (Option Term)) → IsConsistent bindings []
nothing-consistent bindings = (with_default bindings nil, default-bound bindings nil, tt)

-- the value of an operand that has a term
pub operand-term : (bindings : List (Option Term)) (some : ℕ → Value) (x : Operand Term) (t : Term)
    → IsBound located bindings some → term_of bindings x ≡ Some t
    → operand (term_value located) some x ≡ value_at t
operand-term bindings some (Known u) t b e = ap value_at (same_Some u t e)
operand-term bindings some (Exists n) t b e = b n t e

-- an existential that was met has that value
pub found-agrees : (met : Met) (some : ℕ → Value) (n : ℕ) (v : Value) → Agrees met some → found met n ≡ Some v
    → some n ≡ v
found-agrees [] some n v a e = absurd (none-some v e)
found-agrees (m ∷ ms) some n v a e = go (m.0 == n) refl e (λ f. found-agrees ms some n v a.1 f)
  where
    go : (b : Bool) → m.0 == n ≡ b → cond b (Some m.1) (found ms n) ≡ Some v
        → (found ms n ≡ Some v → some n ≡ v) → some n ≡ v
    go true i f rest = ap some (sym (at-same n m.0 i)) ∙ a.0 ∙ same_Some m.1 v f
    go false i f rest = rest f

-- one more equation
pub agrees-push : (met : Met) (some : ℕ → Value) (n : ℕ) (v : Value)
    → Agrees (met ++ (n, v) ∷ []) some ↔ (Agrees met some × (some n ≡ v))
agrees-push [] some n v = (λ a. (tt, a.0), λ a. (a.1, tt))
agrees-push (m ∷ ms) some n v =
    let rest = agrees-push ms some n v in
    (λ a. ((a.0, (rest.0 a.1).0), (rest.0 a.1).1), λ a. (a.0.0, rest.1 (a.0.1, a.1)))

-- other values, where one existential has this one
abbrev pub but : (ℕ → Value) → ℕ → Value → ℕ → Value
but some n v m = cond (m == n) v (some m)

-- it has that value
pub but-here : (some : ℕ → Value) (n : ℕ) (v : Value) → but some n v n ≡ v
but-here some n v = ap (λ b. cond b v (some n)) (at-self n)

-- where it wasn't met, the others keep theirs
pub agrees-but : (met : Met) (some : ℕ → Value) (n : ℕ) (v : Value) → found met n ≡ None → Agrees met some
    → Agrees met (but some n v)
agrees-but [] some n v e a = tt
agrees-but (m ∷ ms) some n v e a = go (m.0 == n) refl e (λ f. agrees-but ms some n v f a.1)
  where
    go : (b : Bool) → m.0 == n ≡ b → cond b (Some m.1) (found ms n) ≡ None
        → (found ms n ≡ None → Agrees ms (but some n v)) → Agrees (m ∷ ms) (but some n v)
    go true i f rest = absurd (some-none m.1 f)
    go false i f rest = (ap (λ b. cond b v (some m.0)) i ∙ a.0, rest f)

-- where it has no term, they are still those of the terms
pub bound-but : (bindings : List (Option Term)) (some : ℕ → Value) (n : ℕ) (v : Value)
    → get_or bindings n None ≡ None → IsBound located bindings some → IsBound located bindings (but some n v)
bound-but bindings some n v e b m t f = go (m == n) refl
  where
    go : (c : Bool) → m == n ≡ c → cond (m == n) v (some m) ≡ value_at t
    go true i = absurd (none-some t (sym e ∙ ap (λ k. get_or bindings k None) (sym (at-same n m i)) ∙ f))
    go false i = ap (λ c. cond c v (some m)) i ∙ b m t f

-- an operand that has a term
pub meets-term : (bindings : List (Option Term)) (met : Met) (x : Operand Term) (t : Term) (v : Value)
    → term_of bindings x ≡ Some t → value_at t ≡ v → Meets bindings met met (λ some. HasValue v some x)
meets-term bindings met x t v e same some b =
    (λ a. (a, operand-term bindings some x t b e ∙ same), λ a. a.0)

pub refutes-term : (bindings : List (Option Term)) (met : Met) (x : Operand Term) (t : Term) (v : Value)
    → term_of bindings x ≡ Some t → (value_at t ≡ v → ⊥) → Refutes bindings met (λ some. HasValue v some x)
refutes-term bindings met x t v e other some b a h = other (sym (operand-term bindings some x t b e) ∙ h)

-- one that was met
pub meets-found : (bindings : List (Option Term)) (met : Met) (n : ℕ) (u v : Value) → found met n ≡ Some u
    → u ≡ v → Meets bindings met met (λ some. HasValue v some (Exists n))
meets-found bindings met n u v e same some b =
    (λ a. (a, found-agrees met some n u a e ∙ same), λ a. a.0)

pub refutes-found : (bindings : List (Option Term)) (met : Met) (n : ℕ) (u v : Value) → found met n ≡ Some u
    → (u ≡ v → ⊥) → Refutes bindings met (λ some. HasValue v some (Exists n))
refutes-found bindings met n u v e other some b a h = other (sym (found-agrees met some n u a e) ∙ h)

-- one that is new
pub meets-new : (bindings : List (Option Term)) (met : Met) (n : ℕ) (v : Value)
    → Meets bindings met (met ++ (n, v) ∷ []) (λ some. HasValue v some (Exists n))
meets-new bindings met n v some b = agrees-push met some n v

pub consistent-new : (bindings : List (Option Term)) (met : Met) (n : ℕ) (v : Value)
    → get_or bindings n None ≡ None → found met n ≡ None → IsConsistent bindings met
    → IsConsistent bindings (met ++ (n, v) ∷ [])
consistent-new bindings met n v e f (some, b, a) = (
  but some n v,
  bound-but bindings some n v e b,
  (agrees-push met (but some n v) n v).1 (agrees-but met some n v f a, but-here some n v),
)

-- the cell that is there decides whether one is there that is so
pub there-decides : (bindings : List (Option Term)) (x : Operand Term) (fields : List (FieldId × Operand Term)) (heap : Heap)
    (location : ℕ) (cell : Cell) (b : Bool) → heap location ≡ Some cell
    → (IsTrue b ↔ IsCellAs bindings x fields location cell)
    → IsTrue b ↔ IsThereAs bindings x fields heap location
there-decides bindings x fields heap location cell b e d = (
  λ i. (cell, e, d.0 i),
  λ w. d.1 (subst (IsCellAs bindings x fields location) (same_Some w.0 cell (sym w.1 ∙ e)) w.2),
)

-- one that isn't at the first location is at another
pub among-rest : (bindings : List (Option Term)) (x : Operand Term) (fields : List (FieldId × Operand Term)) (heap : Heap)
    (l : ℕ) (ls : List ℕ) → (IsThereAs bindings x fields heap l → ⊥) → IsAmong bindings x fields heap (l ∷ ls)
    → IsAmong bindings x fields heap ls
among-rest bindings x fields heap l ls none (location, c, there) = go ((contains-cons l ls location).0 c)
  where
    go : (l ≡ location) ⊎ Contains ls location → IsAmong bindings x fields heap ls
    go (inl e) = absurd (none (subst (IsThereAs bindings x fields heap) (sym e) there))
    go (inr d) = (location, d, there)
