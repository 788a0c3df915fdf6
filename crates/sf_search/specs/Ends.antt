-- What the code's failures say: how a search ended that found no proof, and which procedure fails
-- and why.
-- Ordinary: one case a case.
use Rattle.std.specs.Prelude.{◌≡◌, ◌-◌, ℕ, List, Option, Some, None, cond, length, nat_lt}
use Rattle.sf_base.specs.declared.ids.ProcId.{ProcId}
use Rattle.sf_base.specs.declared.limits.TheConstants.{FILE_TAGS}
use Rattle.sf_rules.specs.Setting.{Setting}
use Rattle.sf_search.specs.declared.verdicts.SearchFault.{SearchFault}
use Rattle.sf_search.specs.declared.verdicts.SearchFault.TheVariants.{Stuck, TooLarge, OutOfMemory}
use Rattle.sf_search.specs.declared.verdicts.VerifyFault.{VerifyFault}
use Rattle.sf_search.specs.declared.verdicts.VerifyFault.TheVariants.{Failed, OutOfMemory as NoMemory}
use Rattle.sf_search.specs.Judge.{Cause, Judge, Search, fails, large, stuck, stuck_at, too_large}
use Rattle.sf_sym.specs.declared.tag.Tag.{Tag}
use Rattle.sf_sym.specs.Goal.{Goal, goal_of}

-- the search from that goal ends so
abbrev pub EndsAs : Setting → Goal → SearchFault → Type 0
EndsAs d first (Stuck goal kind before) =
    (tags : List Tag) × (length tags ≡ before) × Search d first tags (stuck (goal_of goal) kind)
EndsAs d first TooLarge = (tags : List Tag) × Search d first tags large
EndsAs d first OutOfMemory = Unit {0}

-- why a procedure fails
abbrev pub cause_of : SearchFault → Option Cause
cause_of (Stuck goal kind before) = Some (stuck_at (goal_of goal) kind before)
cause_of TooLarge = Some too_large
cause_of OutOfMemory = None

-- the verdict on the program is that failure
abbrev pub FailsFor : Setting → ProcId → Option Cause → Type 0
FailsFor d f None = ⊥
FailsFor d f (Some why) = Judge d (fails f why)

-- so the program fails
abbrev pub FailsAs : Setting → VerifyFault → Type 0
FailsAs d (Failed f why) = FailsFor d f (cause_of why)
FailsAs d NoMemory = Unit {0}

-- what such a search of procedure f means for the program, where so many tags of the file were used before: with more
-- than a file may have it is too large
abbrev pub failure : (spent : ℕ) → ProcId → SearchFault → VerifyFault
failure spent f (Stuck goal kind before) =
    Failed f (cond (nat_lt (FILE_TAGS - spent) before) TooLarge (Stuck goal kind before))
failure spent f TooLarge = Failed f TooLarge
failure spent f OutOfMemory = NoMemory
