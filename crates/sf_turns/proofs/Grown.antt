-- Trees of tasks that go on.
-- Names: `EVENT-WHAT`, what is so after the event.
use Rattle.std.specs.Prelude.{◌≡◌, ◌+◌, ◌<◌, ℕ}
use Rattle.std.proofs.Common.{arith, subst, sym}
use Rattle.sf_part.specs.Checked.LawsOfGoing.{ChildrenGoOn, GoingComposes}
use Rattle.sf_precise.specs.declared.arranged.Arranged.{Arranged}
use Rattle.sf_turns.proofs.Parted.{parted-on}
use Rattle.sf_turns.proofs.Seats.{going-again}
use Rattle.sf_turns.specs.Checked.Kept.{parted}
use Rattle.sf_turns.specs.Checked.Parting.{HasParted}
use Rattle.sf_turns.specs.Checked.Seats.{HasGone, Seen, Table}
use Rattle.sf_turns.specs.Checked.Trees.{HasBranched, HasGrown}
use Rattle.sf_turns.specs.declared.forks.Parted.{Parted}
use Rattle.sf_turns.specs.declared.seated.Seated.{Seated}
use Rattle.sf_turns.specs.declared.trees.TaskTree.{TaskTree, Runs, Waits'}

-- how many forks a tree has
abbrev pub forks_in : TaskTree → ℕ
forks_in (Runs j) = 0
forks_in (Waits' waits at left by right) = forks_in left + forks_in right + 1

pub left-falls : (l r : ℕ) → l < l + r + 1
left-falls l r = omega arith

pub right-falls : (l r : ℕ) → r < l + r + 1
right-falls l r = omega arith

-- a tree that is the child of another has fewer, where the child has
pub falls-alike : {tree whole left child : TaskTree} → tree ≡ whole → left ≡ child
    → forks_in child < forks_in whole → forks_in left < forks_in tree
falls-alike {tree} {whole} {left} {child} is same less =
    subst (λ (z : TaskTree). forks_in left < forks_in z) (sym is)
    (subst (λ (z : TaskTree). forks_in z < forks_in whole) (sym same) less)

module _ (a : Arranged) (t : Table) where
  -- a task has gone on, and forks then
  pub parted-after : GoingComposes → (k j : Seen) (f : Parted) → HasGone a t k j → HasParted a t j f
      → HasParted a t k f
  parted-after composes k j f on h = record {
    came = h.came;
    gone = going-again a t composes k j h.came on h.gone;
    forked = h.forked;
  }

  -- two children that run go on from where they were
  pub branch-parted : ChildrenGoOn → (w x y : Seated) (left right : TaskTree)
      → (left ≡ Runs x) × (right ≡ Runs y) → (k : Seen) → HasBranched a t k w left right
      → HasParted a t k (parted w.task x.task y.task)
  branch-parted children w x y left right are k h =
      parted-on a t children k (parted w.task h.0 h.1) x.task y.task h.2
      (subst (HasGrown a t h.0) are.0 h.3) (subst (HasGrown a t h.1) are.1 h.4)
