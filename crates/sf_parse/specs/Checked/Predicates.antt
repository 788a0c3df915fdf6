-- The predicates: by the word of each, how many operands come after it, and the conjunct that it is with them.
-- Ordinary: syntax-directed translation, as in Aho, Sethi, Ullman, "Compilers" (1986), chapter 5.
use Rattle.std.specs.Prelude.{ℕ, zero, suc, Option, Some, None}
use Rattle.sf_ast.specs.declared.word.SurfaceOperand.{SurfaceOperand}
use Rattle.sf_ast.specs.Surface as s
use Rattle.sf_parse.specs.Leaf.{Leaf}
use Rattle.sf_parse.specs.Leaf as k

-- so many operands
abbrev pub Operands : ℕ → Type 0
Operands zero = Unit {0}
Operands (suc n) = SurfaceOperand × Operands n

-- a conjunct that waits for so many
abbrev pub Waiting : ℕ → Type 0
Waiting zero = s.Conjunct
Waiting (suc n) = SurfaceOperand → Waiting n

-- it is this with them
abbrev pub with_operands : (n : ℕ) → Waiting n → Operands n → s.Conjunct
with_operands zero c xs = c
with_operands (suc n) f xs = with_operands n (f xs.0) xs.1

-- a predicate: how many operands it has, and what it is with them
pub record Predicate : Type 0 where
  pub count : ℕ
  pub conjunct : Waiting count

-- that of a word
abbrev pub predicate_of : Leaf → Option Predicate
predicate_of (k.Emp p) = Some (record { count = 0; conjunct = s.emp p })
predicate_of (k.Ls p long) = Some (record { count = 2; conjunct = s.ls p long })
predicate_of (k.List p) = Some (record { count = 1; conjunct = s.list p })
predicate_of (k.Dll p) = Some (record { count = 4; conjunct = s.dll p })
predicate_of (k.Tree p) = Some (record { count = 1; conjunct = s.tree p })
predicate_of _ = None
