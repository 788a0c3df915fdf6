-- What is known of existentials: the values that a level found for those that it makes, and those around it.
-- Ordinary: a scoped environment, innermost scope first.
use Rattle.std.specs.Prelude.{◌≡◌, ◌⊎◌, ℕ, Bool, true, cond, ◌||◌, List, [], ◌∷◌, reverse, Option, Some, is_some}
use Rattle.std.specs.Ordering.{nat_cmp}
use Rattle.std.specs.BTreeMap.{get}
use Rattle.sf_base.specs.declared.ids.FieldId.{FieldId}
use Rattle.sf_base.specs.declared.value.Value.{Value}
use Rattle.sf_base.specs.declared.value.Value.TheVariants.{Nil as nil}
use Rattle.sf_core.specs.declared.assertion.Operand.{Operand}
use Rattle.sf_core.specs.declared.assertion.Operand.TheVariants.{Known as Evaluates, Exists}
use Rattle.sf_base.specs.HeapStore.{Cell}
use Rattle.sf_core.specs.Assertions.Determined.{is_in_fields}
use Rattle.sf_core.specs.Assertions.Sat.{HasFields, operand}
use Rattle.sf_core.specs.Assertions.Scopes.{is_made_by}
use Rattle.sf_foot.specs.declared.known.Known.{Known}
use Rattle.sf_foot.specs.declared.known.Layer.{Layer}

-- the value of an existential that the layer makes, or what is known around it
abbrev pub found_in : Layer → (ℕ → Option Value) → ℕ → Option Value
found_in layer around n = cond (is_made_by layer.made n) (get nat_cmp layer.values n) (around n)

-- what the layers know, the innermost first; what none of them makes is nil
abbrev pub found_within : List Layer → ℕ → Option Value
found_within [] n = Some nil
found_within (layer ∷ layers) n = found_in layer (found_within layers) n

-- the value of an existential, where it is known
abbrev pub told : Known → ℕ → Option Value
told known n = found_in known.inner (found_within (reverse known.outer.items)) n

-- whether its value is known
abbrev pub is_told : Known → ℕ → Bool
is_told known n = is_some (told known n)

-- whether the innermost level makes it
abbrev pub is_own : Known → ℕ → Bool
is_own known n = is_made_by known.inner.made n

-- the value of an operand, where it is known
abbrev pub told_of : {E : Type 0} → (E → Value) → Known → Operand E → Option Value
told_of val known (Evaluates x) = Some (val x)
told_of val known (Exists n) = told known n

-- the values of existentials are those that are known
abbrev pub Agrees : Known → (ℕ → Value) → Type 0
Agrees known some = (n : ℕ) (v : Value) → told known n ≡ Some v → some n ≡ v

-- some more existentials of the innermost level are known, and nothing else changed
pub record Grows (learned : ℕ → Bool) (before after : Known) : Type 0 where
  pub outer : after.outer.items ≡ before.outer.items
  pub made : after.inner.made ≡ before.inner.made
  pub more : (n : ℕ) → is_told after n ≡ (is_told before n || learned n)
  pub stays : (n : ℕ) (v : Value) → told before n ≡ Some v → told after n ≡ Some v

-- what is known after makes P hold, and P with what is known before gives it
pub record Learns (P : (ℕ → Value) → Type 0) (learned : ℕ → Bool) (before after : Known) : Type 0 where
  pub grows : Grows learned before after
  pub holds : (some : ℕ → Value) → Agrees after some → P some
  pub only : (some : ℕ → Value) → Agrees before some → P some → Agrees after some

-- P holds for no values that agree with what is known
abbrev pub Refutes : ((ℕ → Value) → Type 0) → Known → Type 0
Refutes P known = (some : ℕ → Value) → Agrees known some → P some → ⊥

-- the existential is known, or it may become known here
abbrev pub IsWithin : Known → ℕ → Type 0
IsWithin known n = (is_told known n ≡ true) ⊎ (is_own known n ≡ true)

-- in the middle of the fields of a cell: what is learned from those that are left is learned from all, and a
-- refusal of them is one of all
pub record FieldsLeft {E : Type 0} (val : E → Value) (cell : Cell) (before : Known)
    (all : List (FieldId × Operand E)) (now : Known) (left : List (FieldId × Operand E)) : Type 0 where
  pub ends : (after : Known)
      → Learns (λ some. HasFields (operand val some) left cell) (λ n. is_in_fields n left) now after
      → Learns (λ some. HasFields (operand val some) all cell) (λ n. is_in_fields n all) before after
  pub fails : Refutes (λ some. HasFields (operand val some) left cell) now
      → Refutes (λ some. HasFields (operand val some) all cell) before
  pub within : (n : ℕ) → is_in_fields n left ≡ true → IsWithin now n
