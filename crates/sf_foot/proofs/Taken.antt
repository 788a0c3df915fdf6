-- The middle of the loop over the code's conjuncts.
-- Names: `next_WHAT`.
use Rattle.std.proofs.Common.{◌≡◌, ◌<◌, ◌≤◌, ℕ, ◌+◌, List, length, drop, get_or, map}
use Rattle.sf_base.specs.declared.value.Value.{Value}
use Rattle.sf_core.specs.declared.assertion.Conjunct.{Conjunct as CodeConjunct}
use Rattle.sf_core.specs.declared.command.Expr.{Expr}
use Rattle.sf_core.specs.Assertions.Determined.{is_learned, is_learned_in}
use Rattle.sf_core.specs.Program.Syntax.{Conjuncts}
use Rattle.sf_core.specs.Program.View.{conjunct_of, conjuncts}
use Rattle.sf_heap.specs.Cells.{Cells}
use Rattle.sf_foot.specs.declared.known.Known.{Known}
use Rattle.sf_foot.specs.Checked.Taking.{AllTake, ConjunctsLeft, IsReadyNow, OneTakes, Overflows, Takes}
use Rattle.sf_foot.proofs.Drops.{drop-item, drop-none}
use Rattle.sf_foot.proofs.Ready.{ready-first}
use Rattle.sf_foot.proofs.Takings.{left-end, left-more, left-stop}

-- the next conjunct can be taken
pub next_ready : (heap : Cells) (val : Expr → Value) (before : Known) (old : List ℕ) (all : Conjuncts Expr)
    (now : Known) (found : List ℕ) (xs : List (CodeConjunct Expr)) (i : ℕ) (x : CodeConjunct Expr)
    → ConjunctsLeft heap val before old all now found (conjuncts (map conjunct_of (drop i xs)))
    → i < length xs → x ≡ get_or xs i x → IsReadyNow now (conjunct_of x)
next_ready heap val before old all now found xs i x left h e = ready-first _ _ _ (drop-item
    (λ ys. ConjunctsLeft heap val before old all now found (conjuncts (map conjunct_of ys))) xs i x h e left).ready

-- the next conjunct takes what it takes, and the others are left
pub next_taken : (heap : Cells) (val : Expr → Value) (before : Known) (old : List ℕ) (all : Conjuncts Expr)
    (now next : Known) (found more : List ℕ) (xs : List (CodeConjunct Expr)) (i : ℕ) (x : CodeConjunct Expr)
    → ConjunctsLeft heap val before old all now found (conjuncts (map conjunct_of (drop i xs)))
    → i < length xs → x ≡ get_or xs i x
    → Takes (OneTakes heap (conjunct_of x) val) (is_learned (conjunct_of x)) now next found more
    → ConjunctsLeft heap val before old all next more (conjuncts (map conjunct_of (drop (i + 1) xs)))
next_taken heap val before old all now next found more xs i x left h e taken =
    left-more heap val before old all now next found more (conjunct_of x) (conjuncts (map conjunct_of (drop (i + 1) xs)))
    (drop-item (λ ys. ConjunctsLeft heap val before old all now found (conjuncts (map conjunct_of ys))) xs i x h e left)
    taken

-- the next conjunct takes too much
pub next_refused : (heap : Cells) (val : Expr → Value) (before : Known) (old : List ℕ) (all : Conjuncts Expr)
    (now : Known) (found : List ℕ) (xs : List (CodeConjunct Expr)) (i : ℕ) (x : CodeConjunct Expr)
    → ConjunctsLeft heap val before old all now found (conjuncts (map conjunct_of (drop i xs)))
    → i < length xs → x ≡ get_or xs i x → Overflows (OneTakes heap (conjunct_of x) val) heap now found
    → Overflows (AllTake heap all val) heap before old
next_refused heap val before old all now found xs i x left h e refused =
    left-stop heap val before old all now found (conjunct_of x) (conjuncts (map conjunct_of (drop (i + 1) xs)))
    (drop-item (λ ys. ConjunctsLeft heap val before old all now found (conjuncts (map conjunct_of ys))) xs i x h e left)
    refused

-- no conjunct is left
pub none_left : (heap : Cells) (val : Expr → Value) (before : Known) (old : List ℕ) (all : Conjuncts Expr)
    (now : Known) (found : List ℕ) (xs : List (CodeConjunct Expr)) (i : ℕ)
    → ConjunctsLeft heap val before old all now found (conjuncts (map conjunct_of (drop i xs))) → length xs ≤ i
    → Takes (AllTake heap all val) (is_learned_in all) before now old found
none_left heap val before old all now found xs i left h = left-end heap val before old all now found
    (drop-none (λ ys. ConjunctsLeft heap val before old all now found (conjuncts (map conjunct_of ys))) xs i h left)
