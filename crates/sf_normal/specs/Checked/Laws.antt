-- The rows that work out what is known keep what goals stand for.
-- Berdine, Calcagno, O'Hearn, "Symbolic Execution with Separation Logic" (2005), section 4.
use Rattle.std.specs.Prelude.{ℕ}
use Rattle.sf_normal.specs.Knowledge.{absurd_row, back_row, drop_row, force_row, split_row, unroll_row}
use Rattle.sf_sym.specs.declared.term.Term.{Term}
use Rattle.sf_sym.specs.Checked.Laws.{KeepsGoals}

-- absurd: the goal doesn't hold
unfoldable pub AbsurdKeepsGoals : Type 0
AbsurdKeepsGoals = KeepsGoals absurd_row

-- drop: the atom has no cell
unfoldable pub DropKeepsGoals : Type 0
DropKeepsGoals = (atom : ℕ) → KeepsGoals (λ goal. drop_row goal atom)

-- force: the two terms have one value: the atom's ends, or what stands before it and its last cell
unfoldable pub ForceKeepsGoals : Type 0
ForceKeepsGoals = (atom : ℕ) → KeepsGoals (λ goal. force_row goal atom)

-- split: the terms have one value, or different ones
unfoldable pub SplitKeepsGoals : Type 0
SplitKeepsGoals = (t u : Term) → KeepsGoals (λ goal. split_row goal t u)

-- unroll: the atom begins with a cell, whose links have the values of the fresh symbols
unfoldable pub UnrollKeepsGoals : Type 0
UnrollKeepsGoals = (atom : ℕ) → KeepsGoals (λ goal. unroll_row goal atom)

-- back: the atom ends with a cell that leads to its end, and the fresh symbol has the value by which it leads back
unfoldable pub BackKeepsGoals : Type 0
BackKeepsGoals = (atom : ℕ) → KeepsGoals (λ goal. back_row goal atom)
