-- The paths of tasks, as they are listed, and the value at which a task's next step finds no cell.
-- Names: `listed_WHAT` for paths, `absent_WHAT` for values.
use Rattle.std.specs.Prelude.{◌≡◌, ◌<◌, List, [], ◌∷◌, ◌++◌, Option, Some, None, map, MatchOption, length}
use Rattle.std.proofs.Common.{sym, ap, ap₂, ◌∙◌, refl, subst, append_assoc, append-nil, arith}
use Rattle.std.proofs.lemmas.List.{map-append}
use Rattle.sf_base.proofs.Options.{some-once}
use Rattle.sf_base.specs.declared.ids.ResId.{ResId}
use Rattle.sf_base.specs.declared.path.Turn.{Turn}
use Rattle.sf_base.specs.declared.path.Turn.TheVariants.{Left as left, Right as right}
use Rattle.sf_base.specs.declared.value.Value.{Value}
use Rattle.sf_base.specs.HeapStore.{Heap}
use Rattle.sf_core.specs.declared.command.Expr.{Expr}
use Rattle.sf_core.specs.Machine.Bad.{IsAtNoCell, TouchesNoCell}
use Rattle.sf_core.specs.Machine.Config.{Item, command, Fixed, Frame, Task, runs, Path, Config, evaluate, task_at}
use Rattle.sf_core.specs.Machine.Enabled.{IsShut}
use Rattle.sf_core.specs.Machine.Next.{next}
use Rattle.sf_core.specs.Machine.Step.{task_with}
use Rattle.sf_core.specs.Program.Syntax.{Command, assign, look_up, mutate, new, dispose, if, while, call, fork, with}
use Rattle.sf_machine.specs.Absent.{IsAtAbsent}
use Rattle.sf_machine.specs.Checked.Missing.{Misses}
use Rattle.sf_machine.specs.Paths.{paths_below}
use Rattle.sf_machine.proofs.Enabling.{busy_goes}

-- the paths below a task that is at a path
listed_below : (path : Path) (turn : Turn) (qs : List Path)
    → map (λ q. (path ++ turn ∷ []) ++ q) qs ≡ map (λ q. path ++ q) (map (λ q. turn ∷ q) qs)
listed_below path turn [] = refl
listed_below path turn (q ∷ qs) =
    ap₂ (λ (x : Path) (xs : List Path). x ∷ xs) (append_assoc path (turn ∷ []) q) (listed_below path turn qs)

-- the paths of a task that waits, after those that are listed already
pub listed_waits : (path : Path) (one two old pushed first all : List Path) → pushed ≡ old ++ path ∷ []
    → first ≡ pushed ++ map (λ q. (path ++ left ∷ []) ++ q) one
    → all ≡ first ++ map (λ q. (path ++ right ∷ []) ++ q) two
    → all ≡ old ++ map (λ q. path ++ q) ([] ∷ paths_below one two)
listed_waits path one two old pushed first all p f a =
    let below : map (λ q. path ++ q) (paths_below one two)
    ≡ map (λ q. (path ++ left ∷ []) ++ q) one ++ map (λ q. (path ++ right ∷ []) ++ q) two =
    map-append (λ q. path ++ q) (map (λ q. left ∷ q) one) (map (λ q. right ∷ q) two)
    ∙ sym (ap₂ (λ (x y : List Path). x ++ y) (listed_below path left one) (listed_below path right two)) in
    a ∙ ap (λ z. z ++ map (λ q. (path ++ right ∷ []) ++ q) two) (f ∙ ap (λ z. z ++ map (λ q. (path ++ left ∷ []) ++ q) one) p)
    ∙ append_assoc (old ++ path ∷ []) (map (λ q. (path ++ left ∷ []) ++ q) one) (map (λ q. (path ++ right ∷ []) ++ q) two)
    ∙ append_assoc old (path ∷ []) _
    ∙ ap₂ (λ (x : Path) (xs : List Path). old ++ (x ∷ xs)) (sym (append-nil path)) (sym below)

-- a command that looks for a cell is no region
absent_open : (held : ResId → Option Path) (see : Expr → Value) (heap : Heap) (c : Command)
    → TouchesNoCell see heap c → IsShut held c → ⊥
absent_open held see heap (assign place x e) t s = s
absent_open held see heap (look_up place x e g) t s = s
absent_open held see heap (mutate place e g v) t s = s
absent_open held see heap (new place x) t s = s
absent_open held see heap (dispose place e) t s = s
absent_open held see heap (if place test this that) t s = s
absent_open held see heap (while place test kept body) t s = s
absent_open held see heap (call place c) t s = s
absent_open held see heap (fork place c d) t s = s
absent_open held see heap (with place r test body) t s = t

-- what a command misses, its task does
pub absent_does : (c : Config) (path : Path) (f : Fixed) (below : List Frame) (one : Command) (rest : List Item)
    (found : Option Value) → task_at path c.tasks ≡ Some (task_with f (command one ∷ rest) below)
    → MatchOption found (TouchesNoCell (evaluate f.slots c.common.store) c.common.heap one → ⊥)
    (Misses c.common f one)
    → MatchOption found ((v : Value) → IsAtAbsent c path v → ⊥) (IsAtAbsent c path)
absent_does c path f below one rest None there h = λ v a. h (subst (λ (z : Task). IsAtNoCell c.common (next z))
    (some-once (task_at path c.tasks) a.task (task_with f (command one ∷ rest) below) a.enabled.there there) a.absent)
absent_does c path f below one rest (Some v) there h = record {
  task = task_with f (command one ∷ rest) below;
  enabled = record {
    there = there;
    going = busy_goes path f (command one) rest below;
    free = absent_open c.common.held (evaluate f.slots c.common.store) c.common.heap one h.0;
  };
  absent = h.0;
  is = h.1;
}

-- no path leads on from a task that runs
pub at_leaf : (path : Path) (frames : List Frame) → 0 < length path → task_at path (runs frames) ≡ None
at_leaf [] frames l = absurd (omega arith)
at_leaf (left ∷ path) frames l = refl
at_leaf (right ∷ path) frames l = refl
