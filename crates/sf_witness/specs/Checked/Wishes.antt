-- Wishes: what the code finds that a goal wants, as the definitions see it; and what it is for each form of conjunct that
-- a part of a heap satisfies it.
-- Ordinary: one case a case.
use Rattle.std.specs.Prelude.{◌≡◌, ◌==◌, ℕ, Bool, false, Option, Some, None, List}
use Rattle.std.specs.Option.{option_and_then}
use Rattle.sf_base.specs.declared.ids.FieldId.{FieldId}
use Rattle.sf_base.specs.declared.value.Value.{Value}
use Rattle.sf_base.specs.HeapStore.{Heap}
use Rattle.sf_core.specs.Assertions.Sat.{Dseg, IsTrueOf, Seg, Tree, operand}
use Rattle.sf_core.specs.declared.assertion.Operand.{Operand}
use Rattle.sf_core.specs.declared.assertion.Operand.TheVariants.{Known, Exists}
use Rattle.sf_core.specs.declared.assertion.Test.{Test}
use Rattle.sf_core.specs.Program.View.{conjunct_of}
use Rattle.sf_sym.specs.declared.term.Term.{Term}
use Rattle.sf_sym.specs.Holds.{IsBound, term_value}
use Rattle.sf_witness.specs.Checked.Shapes.{HasPart}
use Rattle.sf_witness.specs.declared.wanted.Want.{Want as CodeWant}
use Rattle.sf_witness.specs.Located.{located, value_at}
use Rattle.sf_witness.specs.Wanted.{Want, plain, printed_value, there_value}

-- a want of the code, if it is no choice
abbrev pub plain_of : CodeWant → Option Want
plain_of w = plain w.bindings.now (conjunct_of w.conjunct.now)

-- the same of one that may be there
abbrev pub wish_of : Option CodeWant → Option Want
wish_of w = option_and_then plain_of w

-- the test is true with some values of the existentials that have no term
abbrev pub IsTrueWith : List (Option Term) → Test (Operand Term) → Type 0
IsTrueWith bindings t =
    (some : ℕ → Value) × IsBound located bindings some × IsTrueOf (operand (term_value located) some) t

-- both operands are the same existential
abbrev pub is_one : Operand Term → Operand Term → Bool
is_one (Exists n) (Exists m) = n == m
is_one (Exists n) (Known t) = false
is_one (Known t) y = false

-- a part of the heap is the segment, with some values of the existentials
abbrev pub HasSegmentWith : List (Option Term) → FieldId → (from to : Operand Term) → Heap → Type 0
HasSegmentWith bindings next x y heap =
    (some : ℕ → Value) × IsBound located bindings some
    × HasPart (Seg next (operand (term_value located) some y) (operand (term_value located) some x)) heap

-- a part of the heap is the doubly linked segment of these terms, if they are there
abbrev pub HasDoubleOf : (next back : FieldId) → Option (Term × Term × Term × Term) → Heap → Type 0
HasDoubleOf next back None heap = ⊥
HasDoubleOf next back (Some d) heap =
    HasPart (Dseg next back (value_at d.2) (value_at d.3) (value_at d.1) (value_at d.0)) heap

-- a part of the heap is the tree, with some values of the existentials
abbrev pub HasTreeWith : List (Option Term) → (left right : FieldId) → (root : Operand Term) → Heap → Type 0
HasTreeWith bindings left right x heap =
    (some : ℕ → Value) × IsBound located bindings some
    × HasPart (Tree left right (operand (term_value located) some x)) heap

-- the two terms that meet in a field have the same value
abbrev pub AreSame : (next_sym : ℕ) → Option Term × Term → Type 0
AreSame next m = there_value next m.0 ≡ printed_value next m.1
