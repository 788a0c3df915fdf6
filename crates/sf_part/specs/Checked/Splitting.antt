-- What a fork makes of a part: what its step is, what goes to the children, and what each begins
-- with.
-- Ordinary: rooms that come up in a store, and unions of maps.
use Rattle.std.specs.Prelude.{◌≡◌, ℕ, Bool, List, [], ◌∷◌, length, None, Some}
use Rattle.std.specs.FinMap.{get}
use Rattle.sf_base.specs.declared.ids.ProcId.{ProcId}
use Rattle.sf_base.specs.declared.place.Place.{Place}
use Rattle.sf_base.specs.HeapStore.{Splits}
use Rattle.sf_core.specs.Machine.Config.{Item, command, Fixed, Frame, Path, runs, waits, Common}
use Rattle.sf_core.specs.Machine.Step.{Does, procedure_at}
use Rattle.sf_core.specs.Machine.Whole.{Range, running, numbers}
use Rattle.sf_core.specs.Program.Syntax.{Call, fork, Procedure, Program}
use Rattle.sf_foot.specs.Starting.{HasWidth}
use Rattle.sf_frame.specs.Checked.Effects.{Suits, opened}
use Rattle.sf_frame.specs.Checked.Nexts.{frames_with}
use Rattle.sf_frame.specs.Commons.{common_of}
use Rattle.sf_frame.specs.declared.effect.Effect.TheVariants.{OpenBoth}
use Rattle.sf_frame.specs.declared.shared.Shared.{Shared}
use Rattle.sf_frame.specs.Frames.{frame_of, stack_of}
use Rattle.sf_frame.specs.Stores.{store_of}
use Rattle.sf_heap.specs.Cells.{AreAt}
use Rattle.sf_part.specs.Checked.Children.{AreLent, HasVariablesOf, IsFirstOf}
use Rattle.sf_part.specs.Checked.Stepping.{own_event}
use Rattle.sf_part.specs.declared.children.Shares.{Shares}
use Rattle.sf_part.specs.declared.part.Part.{Part}
use Rattle.sf_part.specs.declared.share.Share.{Share}
use Rattle.sf_part.specs.declared.splitting.Begun.{Begun}
use Rattle.sf_part.specs.declared.splitting.Forked.{Forked}
use Rattle.sf_part.specs.declared.stand.Stand.TheVariants.{Runs}
use Rattle.sf_part.specs.Parts.{part_with}
use Rattle.sf_part.specs.Stands.{stand_in}
use Rattle.sf_part.specs.Timed.{TimedPart}

-- what the two rooms of a fork make of what is there
abbrev pub forked_of : Forked → Common → Common
forked_of x s = opened x.right.opening (opened x.left.opening s)

-- the fork is what the part's task does next, with that number
pub record IsForked (p : Program) (a : Part) (number : ℕ) (x : Forked) : Type 0 where
  pub fixed : Fixed
  pub below : List Frame
  pub rest : List Item
  pub place : Place
  pub one : Call
  pub two : Call
  pub stand : stand_in a.stand
      ≡ running (frames_with fixed (command (fork place one two) ∷ rest) below)
  pub left_is : x.callees.0 ≡ one.callee
  pub right_is : x.callees.1 ≡ two.callee
  pub does : Does p (own_event a number) (common_of a.shared) fixed below (fork place one two) rest
      (forked_of x (common_of a.shared))
      (waits (frames_with fixed rest below) (runs (frame_of x.left.frame ∷ []))
      (runs (frame_of x.right.frame ∷ [])))
  pub suits : Suits (own_event a number) (OpenBoth x.left.opening x.right.opening)
      (common_of a.shared)

-- each frame is the first one of its procedure, whose variables are there once both rooms are
pub record AreFirst (p : Program) (s : Common) (x : Forked) : Type 0 where
  pub left : Procedure
  pub right : Procedure
  pub left_first : IsFirstOf p x.callees.0 (frame_of x.left.frame) left
  pub right_first : IsFirstOf p x.callees.1 (frame_of x.right.frame) right
  pub left_there : HasVariablesOf p (frame_of x.left.frame) left (forked_of x s).store
  pub right_there : HasVariablesOf p (frame_of x.right.frame) right (forked_of x s).store

-- a share is out, with nothing held
pub record TakesOut (share : Share) (a part b : Shared) : Type 0 where
  pub cells : Splits (get a.heap) (get part.heap) (get b.heap)
  pub heap : Splits (common_of a).heap (common_of part).heap (common_of b).heap
  pub store : Splits (common_of a).store (common_of part).store (common_of b).store
  pub is_share : store_of part.store ≡ store_of share.store
  pub at : AreAt share.at part.heap
  pub held : (common_of b).held ≡ (common_of a).held
  pub none : (common_of part).held ≡ (λ r. None)

-- the shares of two children, which run those frames, are out
pub record AreOut (p : Program) (callees : ProcId × ProcId) (f h : Frame) (a b : Shared)
    (one two : Begun) : Type 0 where
  pub shares : Shares
  pub lent : (g k : Procedure) → procedure_at p callees.0 ≡ Some g
      → procedure_at p callees.1 ≡ Some k → AreLent p f h g k a shares.left shares.right
  pub less : Shared
  pub left_out : TakesOut shares.left a one.shared less
  pub right_out : TakesOut shares.right less two.shared b
  pub left_stack : stack_of one.stack ≡ f ∷ []
  pub right_stack : stack_of two.stack ≡ h ∷ []

-- both rooms came up, and then the shares went out; cells have so many fields as before
pub record IsLent (p : Program) (x : Forked) (fields : ℕ) (a b : Shared) (one two : Begun)
    : Type 0 where
  pub all : Shared
  pub opens : common_of all ≡ forked_of x (common_of a)
  pub out : AreOut p x.callees (frame_of x.left.frame) (frame_of x.right.frame) all b one
      two
  pub width : (count : ℕ) → fields ≡ count → HasWidth count a.heap → HasWidth count all.heap

-- the part of a child that begins so
abbrev pub begun_of : Path → Begun → List Range → (clock : ℕ) → (keeps : Bool) → TimedPart
begun_of task begun supply clock keeps =
    part_with task (Runs begun.stack) begun.shared supply clock keeps []
    (length (numbers supply))
