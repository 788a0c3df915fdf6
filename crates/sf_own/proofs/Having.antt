-- What a safe part has of what its next event needs, and at its end.
-- Names: the lemmas of the laws have the names of their functions.
use Rattle.std.specs.Prelude.{◌≡◌, ◌≢◌, ℕ, List, [], ◌∷◌, Some}
use Rattle.std.proofs.Common.{sym, ap, ◌∙◌, refl, subst}
use Rattle.sf_base.proofs.MapSplits.{splits-comm, splits-has_left}
use Rattle.sf_base.proofs.Options.{some-none}
use Rattle.sf_base.specs.declared.value.Value.{Value}
use Rattle.sf_base.specs.declared.value.Value.TheVariants.{Loc as loc}
use Rattle.sf_base.specs.HeapStore.{Heap}
use Rattle.sf_core.specs.declared.command.Expr.{Expr}
use Rattle.sf_core.specs.Machine.Bad.{IsAbsent, IsAtNoCell}
use Rattle.sf_core.specs.Machine.Config.{Item, command, leave, Frame, runs, Common, evaluate}
use Rattle.sf_core.specs.Machine.Enabled.{HasEnded}
use Rattle.sf_core.specs.Machine.Next.{Next, does, leaves, returns, joins, nothing, frame_next, next}
use Rattle.sf_core.specs.Machine.Whole.{Part, running}
use Rattle.sf_core.specs.Program.Syntax.{assign, look_up, mutate, new, dispose, if, while, call, fork, with, Program}
use Rattle.sf_own.proofs.Contents.{content_of, content-of_free}
use Rattle.sf_own.proofs.Exits.{exit-leaving, part_with}
use Rattle.sf_part.specs.Checked.Lemmas.Shapes.{leave-shape}
use Rattle.sf_own.proofs.Standing.{frame_with, running-safe}
use Rattle.sf_own.specs.Checked.LawsOfNeeds.{AbsentNeverComes, CellsAreThere, ContentsAreThere, EndedEntriesMeetTheirs, EndedPartsAreReturned}
use Rattle.sf_own.specs.Checked.Safe.{own_of}
use Rattle.sf_part.specs.Answers.{Misses}
use Rattle.sf_part.specs.Steps.{common_of}
use Rattle.sf_safe.specs.Checked.Contract.{Ended, Known}
use Rattle.sf_safe.specs.Checked.Invariant.{known, Running}
use Rattle.sf_safe.specs.Checked.Own.{Own, Parts}
use Rattle.sf_safe.specs.Checked.Owns.{parts-of_nothing}
use Rattle.sf_safe.specs.Checked.Safe.{OwnsCell, Safe}
use Rattle.sf_safe.specs.Checked.Seen.{seen-value}

-- CELLS

-- a cell that is there is not absent
present : (heap : Heap) (v : Value) (location : ℕ) (cell : ℕ → Value) → v ≡ loc location
    → heap location ≡ Some cell → IsAbsent heap v → ⊥
present heap v location cell i j a =
    some-none cell (sym j ∙ subst (IsAbsent heap) i a)

-- the cell of a frame is in all that there is
owned-there : (k : Known) (all mine rest : Own) (e : Expr) → Parts all mine rest → OwnsCell k mine e
    → IsAbsent all.cells (evaluate k.fixed.slots all.slots e) → ⊥
owned-there k all mine rest e parts at h =
    present all.cells (evaluate k.fixed.slots all.slots e) at.location at.cell
    (seen-value k.fixed.slots all mine rest parts e at.reads ∙ at.finds.is)
    (splits-has_left at.location at.cell parts.cells at.finds.there) h

module _ (p : Program) (k : Known) (below : List Frame) (s : Common) (all mine rest : Own)
    (parts : Parts all mine rest) (heap : s.heap ≡ all.cells) (store : s.store ≡ all.slots) where
  seen : (e : Expr) → OwnsCell k mine e → IsAbsent s.heap (evaluate k.fixed.slots s.store e) → ⊥
  seen e at h = owned-there k all mine rest e parts at
      (subst (λ (z : _). IsAbsent all.cells (evaluate k.fixed.slots z e)) store
      (subst (λ (z : Heap). IsAbsent z (evaluate k.fixed.slots s.store e)) heap h))

  frame-there : (todo : List Item) → Safe p 1 k todo mine
      → IsAtNoCell s (frame_next k.fixed below todo) → ⊥
  frame-there [] a d = d
  frame-there (leave r ∷ rest) a d = d
  frame-there (command (assign place x e) ∷ rest) a d = d
  frame-there (command (look_up place x e g) ∷ rest) a d = seen e a.1 d
  frame-there (command (mutate place e g v) ∷ rest) a d = seen e a.1 d
  frame-there (command (new place x) ∷ rest) a d = d
  frame-there (command (dispose place e) ∷ rest) a d = seen e a.0 d
  frame-there (command (if place test this that) ∷ rest) a d = d
  frame-there (command (while place test kept body) ∷ rest) a d = d
  frame-there (command (call place c) ∷ rest) a d = d
  frame-there (command (fork place c e) ∷ rest) a d = d
  frame-there (command (with place r test body) ∷ rest) a d = d

task-there : (p : Program) (owed : Known) (a : Part) (frames : List Frame)
    → Running p 1 owed frames (own_of a) → IsAtNoCell (common_of a) (next (runs frames)) → ⊥
task-there p owed a [] w d = d
task-there p owed a (f ∷ below) (v, k) d =
    frame-there p (known f v) below (common_of a) (own_of a) k.left k.right k.parts refl refl f.todo
    k.first d

pub cells_are_there : CellsAreThere
unfolding CellsAreThere
cells_are_there p owed a frames s stand d =
    task-there p owed a frames (running-safe p owed a frames s stand 1) d

-- what a command misses it is at
misses-none : (s : Common) (what : Next) (v : Value) → Misses s what v → IsAtNoCell s what
misses-none s (does f below (assign place x e) rest) v m = m
misses-none s (does f below (look_up place x e g) rest) v m = subst (IsAbsent s.heap) (sym m.0) m.1
misses-none s (does f below (mutate place e g d) rest) v m = subst (IsAbsent s.heap) (sym m.0) m.1
misses-none s (does f below (new place x) rest) v m = m
misses-none s (does f below (dispose place e) rest) v m = subst (IsAbsent s.heap) (sym m.0) m.1
misses-none s (does f below (if place test this that) rest) v m = m
misses-none s (does f below (while place test kept body) rest) v m = m
misses-none s (does f below (call place c) rest) v m = m
misses-none s (does f below (fork place c e) rest) v m = m
misses-none s (does f below (with place r test body) rest) v m = m
misses-none s (leaves f below r rest) v m = m
misses-none s (returns f below) v m = m
misses-none s (joins frames one two) v m = m
misses-none s nothing v m = m

pub absent_never_comes : AbsentNeverComes
unfolding AbsentNeverComes
absent_never_comes p owed a v s (frames, stand, (units, misses)) =
    task-there p owed a.part frames (running-safe p owed a.part frames s stand 1)
    (misses-none (common_of a.part) (next (runs frames)) v misses)

-- CONTENTS

pub contents_are_there : ContentsAreThere
unfolding ContentsAreThere
contents_are_there p owed a r s (frames, stand, (f, below, rest, is)) lacks =
    let shape = leave-shape frames f below r rest is in
    let l = exit-leaving p 0 owed f rest below r (own_of a)
    (running-safe p owed a (frame_with f (leave r ∷ rest) ∷ below) s (stand ∙ ap running shape)
    1) in
    lacks (content_of r l.share) (part_with a l.kept) refl
    (record {
      task = refl;
      stand = refl;
      holds = refl;
      supply = refl;
      heap = splits-comm l.parts.cells;
      store = splits-comm l.parts.slots;
    })
    (content-of_free p r l.share l.free)

-- THE END

pub ended_parts_are_returned : EndedPartsAreReturned
unfolding EndedPartsAreReturned
ended_parts_are_returned p owed a s stand = running-safe p owed a [] s stand 0

entry-ended : (p : Program) (owed : Known) (w : Own) (frames : List Frame)
    → Running p 1 owed frames w
    → frames ≢ [] → HasEnded [] (runs frames) → Ended p owed w
entry-ended p owed w [] run there ended = absurd (there refl)
entry-ended p owed w (f ∷ []) (v, k) there ended =
    let safe : Ended p (known f v) k.left =
    subst (λ z. Safe p 1 (known f v) z k.left) ended k.first in
    let same : w ≡ k.left = parts-of_nothing (subst (Parts w k.left) k.second.1 k.parts) in
    subst (Ended p owed) (sym same) (subst (λ z. Ended p z k.left) k.second.0 safe)
entry-ended p owed w (f ∷ g ∷ below) run there ended = absurd ended

pub ended_entries_meet_theirs : EndedEntriesMeetTheirs
unfolding EndedEntriesMeetTheirs
ended_entries_meet_theirs p owed a frames s stand path there ended =
    entry-ended p owed (own_of a) frames (running-safe p owed a frames s stand 1) there
    (subst (λ z. HasEnded z (runs frames)) path ended)
