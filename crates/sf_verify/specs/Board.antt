-- What stands on the board on which workers put what they find: a place for each procedure of a program, in file order.
-- The judgement that a cooperating search keeps for each of its parts: Jones, Tentative steps toward a development method
-- for interfering programs, 1983.
use Rattle.std.specs.Prelude.{◌≡◌, ℕ, List, Option, Some, IfErr, IfOk, IfSome}
use Rattle.std.specs.List.{slice_get}
use Rattle.sf_rules.specs.First.{first_goal}
use Rattle.sf_rules.specs.Setting.{Setting}
use Rattle.sf_search.specs.Ends.{EndsAs}
use Rattle.sf_search.specs.Judge.{Search, proved}
use Rattle.sf_verify.specs.declared.board.Found.{Found}

-- that is what the search of the procedure of that number comes to: the tags of its proof, or why there is none
abbrev pub IsFound : Setting → (f : ℕ) → Found → Type 0
IsFound d f found =
    IfOk found.end (λ tags. IfSome (slice_get d.program.procedures f)
    (λ g. Search d (first_goal d (record { 0 = f }) g) tags.items proved))
    × IfErr found.end (λ why. IfSome (slice_get d.program.procedures f)
    (λ g. EndsAs d (first_goal d (record { 0 = f }) g) why))

-- what stands in a place is what the search of that place's procedure comes to
abbrev pub AreFound : Setting → List (Option Found) → Type 0
AreFound d places = (f : ℕ) (found : Found) → slice_get places f ≡ Some (Some found) → IsFound d f found
