-- The frames of a task that runs, seen from what is its own.
-- Names: `running-LAW` of a safe part.
use Rattle.std.specs.Prelude.{◌≡◌, ℕ, List}
use Rattle.std.proofs.Common.{sym, ◌∙◌, subst}
use Rattle.sf_core.specs.Machine.Config.{Item, Fixed, Frame}
use Rattle.sf_core.specs.Machine.Whole.{running, Part}
use Rattle.sf_core.specs.Program.Syntax.{Program}
use Rattle.sf_own.specs.Checked.Safe.{IsSafe, own_of}
use Rattle.sf_safe.specs.Checked.Contract.{Known}
use Rattle.sf_safe.specs.Checked.Invariant.{Running}

-- the frame with that to do
abbrev pub frame_with : Fixed → List Item → Frame
frame_with f todo = record { fixed = f; todo = todo }

-- a safe part runs whatever frames it stands with safely
pub running-safe : (p : Program) (owed : Known) (a : Part) (frames : List Frame) → IsSafe p owed a
    → a.stand ≡ running frames → (n : ℕ) → Running p n owed frames (own_of a)
running-safe p owed a frames s e n =
    let same : running s.frames ≡ running frames = sym s.runs ∙ e in
    let them : s.frames ≡ frames = cc in
    subst (λ z. Running p n owed z (own_of a)) them (s.safe n)
