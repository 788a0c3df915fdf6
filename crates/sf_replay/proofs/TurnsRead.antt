-- Turns that were read, one after the other.
-- Names: `turns-WHAT`.
use Rattle.std.specs.Prelude.{◌≡◌, ◌+◌, ℕ, nat_le, Bool, true, false, [], ◌∷◌, ◌++◌, Option, Some, None, cond, length}
use Rattle.std.proofs.Common.{sym, ap, ◌∙◌, refl, append_assoc, append-nil, arith}
use Rattle.std.proofs.lemmas.Bool.Decides.{nat_tests}
use Rattle.std.proofs.lemmas.List.{length-append}
use Rattle.sf_base.specs.declared.limits.TheConstants.{TURNS}
use Rattle.sf_base.specs.declared.path.Turn.{Turn}
use Rattle.sf_core.specs.Machine.Config.{Path}
use Rattle.sf_lines.specs.Lines.{Text}
use Rattle.sf_replay.specs.Checked.Turns.{ahead}
use Rattle.sf_replay.specs.ScheduleText.{path_within, turn_in, turns_from, turns_with}

-- a dot alone is no turn
pub turns-odd : (path : Path) (dot : ℕ) (after : Text) → after ≡ []
    → path_within (ahead path (turns_from (dot ∷ after))) ≡ None
turns-odd path dot after e = ap (λ (z : Text). path_within (ahead path (turns_from (dot ∷ z)))) e

pub turns-none : (path : Path) (dot digit : ℕ) (rest : Text) → turn_in dot digit ≡ None
    → path_within (ahead path (turns_from (dot ∷ digit ∷ rest))) ≡ None
turns-none path dot digit rest e =
    ap (λ (o : Option Turn). path_within (ahead path (turns_with o (turns_from rest)))) e

within-cases : (path : Path) (b : Bool) → nat_le (length path) TURNS ≡ b → (path_within (Some path) ≡ cond b (Some path) None)
within-cases path b e = ap (λ c. cond c (Some path) None) e

-- a path that is too long is so with more turns
long-more : (path : Path) (turn : Turn) (more : Path) (b : Bool) → nat_le (length (path ++ turn ∷ [])) TURNS ≡ b
    → cond b (Some (path ++ turn ∷ [])) None ≡ None → nat_le (length (path ++ turn ∷ more)) TURNS ≡ false
long-more path turn more true e h = absurd (cc)
long-more path turn more false e h =
    let one : length (path ++ turn ∷ []) ≡ length path + 1 = length-append path (turn ∷ []) in
    let all : length (path ++ turn ∷ more) ≡ length path + length (turn ∷ more) = length-append path (turn ∷ more) in
    let some : length (turn ∷ more) ≡ length more + 1 = omega arith in
    grind (arith, nat_tests)

turns-long_with : (path : Path) (turn : Turn) (more : Option Path) → path_within (Some (path ++ turn ∷ [])) ≡ None
    → path_within (ahead path (turns_with (Some turn) more)) ≡ None
turns-long_with path turn None e = refl
turns-long_with path turn (Some more) e = within-cases (path ++ turn ∷ more) false
    (long-more path turn more (nat_le (length (path ++ turn ∷ [])) TURNS) refl e)

pub turns-long : (path : Path) (dot digit : ℕ) (turn : Turn) (rest : Text) → turn_in dot digit ≡ Some turn
    → path_within (Some (path ++ turn ∷ [])) ≡ None
    → path_within (ahead path (turns_from (dot ∷ digit ∷ rest))) ≡ None
turns-long path dot digit turn rest e h =
    ap (λ (o : Option Turn). path_within (ahead path (turns_with o (turns_from rest)))) e
    ∙ turns-long_with path turn (turns_from rest) h

within-same : (path other : Path) (b : Bool) → cond b (Some path) None ≡ Some other → path ≡ other
within-same path other true h = cc
within-same path other false h = absurd (cc)

turns-ahead : (path : Path) (turn : Turn) (more : Option Path)
    → ahead path (turns_with (Some turn) more) ≡ ahead (path ++ turn ∷ []) more
turns-ahead path turn None = refl
turns-ahead path turn (Some more) = ap Some (sym (append_assoc path (turn ∷ []) more))

pub turns-more : (path longer : Path) (dot digit : ℕ) (turn : Turn) (rest : Text) → turn_in dot digit ≡ Some turn
    → path_within (Some (path ++ turn ∷ [])) ≡ Some longer
    → path_within (ahead path (turns_from (dot ∷ digit ∷ rest))) ≡ path_within (ahead longer (turns_from rest))
turns-more path longer dot digit turn rest e h =
    ap (λ (o : Option Turn). path_within (ahead path (turns_with o (turns_from rest)))) e
    ∙ ap path_within (turns-ahead path turn (turns_from rest)
    ∙ ap (λ (z : Path). ahead z (turns_from rest))
    (within-same (path ++ turn ∷ []) longer (nat_le (length (path ++ turn ∷ [])) TURNS) h))

pub turns-kept : (path longer : Path) (turn : Turn) → path_within (Some (path ++ turn ∷ [])) ≡ Some longer
    → path_within (Some longer) ≡ Some longer
turns-kept path longer turn h =
    ap (λ (z : Path). path_within (Some z))
    (sym (within-same (path ++ turn ∷ []) longer (nat_le (length (path ++ turn ∷ [])) TURNS) h)) ∙ h

pub turns-end : (path : Path) (left : Text) → left ≡ [] → path_within (Some path) ≡ Some path
    → path_within (ahead path (turns_from left)) ≡ Some path
turns-end path left e h = ap (λ (z : Text). path_within (ahead path (turns_from z))) e
    ∙ ap (λ (z : Path). path_within (Some z)) (append-nil path) ∙ h

ahead-start : (o : Option Path) → o ≡ ahead [] o
ahead-start None = refl
ahead-start (Some path) = refl

pub turns-start : (path : Path) (turns : Text) → path ≡ []
    → (path_within (turns_from turns) ≡ path_within (ahead path (turns_from turns)))
    × (path_within (Some path) ≡ Some path)
turns-start path turns e = (
  ap path_within (ahead-start (turns_from turns) ∙ ap (λ (z : Path). ahead z (turns_from turns)) (sym e)),
  ap (λ (z : Path). path_within (Some z)) e ∙ ap Some (sym e),
)

-- two more bytes are a turn, or none that the path may have
pub turns-next : (path longer : Path) (dot digit : ℕ) (turn : Turn) (turns left after rest : Text) (all : Option Path)
    → left ≡ dot ∷ after → after ≡ digit ∷ rest → turn ≡ turn → Some turn ≡ turn_in dot digit
    → Some longer ≡ path_within (Some (path ++ turn ∷ [])) → all ≡ path_within (ahead path (turns_from left))
    → (all ≡ path_within (ahead longer (turns_from rest))) × (path_within (Some longer) ≡ Some longer)
turns-next path longer dot digit turn turns left after rest all a b same t l h = (
  h ∙ ap (λ (z : Text). path_within (ahead path (turns_from z))) (a ∙ ap (λ (z : Text). dot ∷ z) b)
      ∙ turns-more path longer dot digit turn rest (sym t) (sym l),
  turns-kept path longer turn (sym l),
)

pub turns-stop : (path : Path) (dot digit : ℕ) (turn : Turn) (left after rest : Text) (all : Option Path)
    → left ≡ dot ∷ after → after ≡ digit ∷ rest → Some turn ≡ turn_in dot digit
    → None ≡ path_within (Some (path ++ turn ∷ [])) → all ≡ path_within (ahead path (turns_from left)) → None ≡ all
turns-stop path dot digit turn left after rest all a b t l h =
    sym (h ∙ ap (λ (z : Text). path_within (ahead path (turns_from z))) (a ∙ ap (λ (z : Text). dot ∷ z) b)
    ∙ turns-long path dot digit turn rest (sym t) (sym l))
