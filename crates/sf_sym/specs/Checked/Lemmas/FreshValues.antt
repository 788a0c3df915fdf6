-- Values of fresh symbols: a symbol that is given a value has it, and those below it keep theirs.
-- Names: `value-LAW`.
use Rattle.std.proofs.Common.{◌≡◌, ℕ, ◌==◌, ◌<◌, ◌+◌, cond, ap, ◌∙◌, arith}
use Rattle.sf_base.proofs.HeapSplits.{at-self}
use Rattle.sf_base.proofs.Numbers.{eqb-less}
use Rattle.sf_base.specs.declared.value.Value.{Value}
use Rattle.sf_sym.specs.Below.{SameBelow}

-- the symbol has that value, and the others have theirs
abbrev pub with_value : ℕ → Value → (ℕ → Value) → ℕ → Value
with_value n x w m = cond (m == n) x (w m)

pub value-here : (n : ℕ) (x : Value) (w : ℕ → Value) → with_value n x w n ≡ x
value-here n x w = ap (λ b. cond b x (w n)) (at-self n)

pub value-below : (n : ℕ) (x : Value) (w : ℕ → Value) (m : ℕ) → m < n → with_value n x w m ≡ w m
value-below n x w m h = ap (λ b. cond b x (w m)) (eqb-less m n h)

-- what has the same values below a number has them with a value for a symbol from there on
pub value-same : (n k : ℕ) (x : Value) (v w : ℕ → Value) → SameBelow n v w → SameBelow n (with_value (n + k) x v) w
value-same n k x v w s m h = value-below (n + k) x v m (omega arith) ∙ s m h
