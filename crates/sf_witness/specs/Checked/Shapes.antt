-- Shapes: parts of heaps that have some shape.
-- Reynolds, "Separation Logic" (2002): a formula of a part of the heap.
use Rattle.std.specs.Prelude.{ℕ}
use Rattle.sf_base.specs.declared.ids.Var.TheVariants.{Own}
use Rattle.sf_base.specs.HeapStore.{Heap, Splits}
use Rattle.sf_core.specs.declared.assertion.Operand.{Operand}
use Rattle.sf_core.specs.declared.assertion.Operand.TheVariants.{Known}
use Rattle.sf_core.specs.declared.command.Expr.{Expr}
use Rattle.sf_core.specs.declared.command.Expr.TheVariants.{Var as Variable}

-- the own variable of that number, at no place of a text
abbrev pub variable : ℕ → Operand Expr
variable n = Known (Variable (record { var = Own n; place = record { line = 1; column = 1 } }))

-- a part of the heap is so
pub record HasPart (P : Heap → Type 0) (heap : Heap) : Type 0 where
  pub part : Heap
  pub rest : Heap
  pub splits : Splits heap part rest
  pub is : P part
