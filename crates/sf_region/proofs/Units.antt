-- An event takes one unit of those that its task has left, or that its children hand back.
-- Names: `takes-LAW`; `unit-WHERE` and `no-unit` of the test whether one is left.
use Rattle.std.specs.Prelude.{◌≡◌, ◌≢◌, ◌↔◌, ◌/◌, ℕ, suc, Bool, true, false, IsTrue, List, [], ◌∷◌, ◌++◌, length}
use Rattle.std.proofs.Common.{sym, ap, ◌∙◌, refl, subst, true≢false}
use Rattle.std.proofs.lemmas.List.{take-append-drop}
use Rattle.sf_core.specs.Machine.Next.{Next, does, leaves, returns, joins, nothing}
use Rattle.sf_core.specs.Machine.Step.{Event}
use Rattle.sf_core.specs.Machine.Supplies.{Supply, has, left_in, TakesNext, CommandTakes, NextTakes}
use Rattle.sf_core.specs.Program.Syntax.{Command, assign, look_up, mutate, new, dispose, if, while, call, fork, with}

takes-next : (n : ℕ) (us rest : List ℕ) → TakesNext n us rest → length us ≡ suc (length rest)
takes-next n [] rest t = absurd t
takes-next n (u ∷ us) rest (e, h) = ap (λ z. suc (length z)) (sym h)

takes-has : (n : ℕ) (us rest : List ℕ) (after : Supply) → TakesNext n us rest → after ≡ has rest
    → length us ≡ suc (length (left_in after))
takes-has n us rest after t e =
    takes-next n us rest t ∙ ap (λ z. suc (length (left_in z))) (sym e)

takes-command : (ev : Event) (c : Command) (before after : Supply) → CommandTakes ev c before after
    → length (left_in before) ≡ suc (length (left_in after))
takes-command ev (fork place c d) before after (rest, t, e) =
    takes-next ev.number (left_in before) rest t
    ∙ (ap (λ z. suc (length z)) (sym (take-append-drop (length rest / 2) rest))
    ∙ ap (λ z. suc (length (left_in z))) (sym e))
takes-command ev (new place x) before after (rest, t, e, at, fields) =
    takes-has ev.number (left_in before) rest after t e
takes-command ev (assign place x e) before after (rest, t, h) =
    takes-has ev.number (left_in before) rest after t h
takes-command ev (look_up place x e g) before after (rest, t, h) =
    takes-has ev.number (left_in before) rest after t h
takes-command ev (mutate place e g v) before after (rest, t, h) =
    takes-has ev.number (left_in before) rest after t h
takes-command ev (dispose place e) before after (rest, t, h) =
    takes-has ev.number (left_in before) rest after t h
takes-command ev (if place test this that) before after (rest, t, h) =
    takes-has ev.number (left_in before) rest after t h
takes-command ev (while place test inv body) before after (rest, t, h) =
    takes-has ev.number (left_in before) rest after t h
takes-command ev (call place c) before after (rest, t, h) =
    takes-has ev.number (left_in before) rest after t h
takes-command ev (with place r test body) before after (rest, t, h) =
    takes-has ev.number (left_in before) rest after t h

pub takes-unit : (ev : Event) (what : Next) (before after : Supply)
    → NextTakes ev what before after → length (left_in before) ≡ suc (length (left_in after))
takes-unit ev (does f below c rest) before after t = takes-command ev c before after t
takes-unit ev (leaves f below r rest) before after (left, t, e) =
    takes-has ev.number (left_in before) left after t e
takes-unit ev (returns f below) before after (left, t, e) =
    takes-has ev.number (left_in before) left after t e
takes-unit ev (joins frames one two) before after (left, t, e) =
    takes-has ev.number (left_in before) left after t e
takes-unit ev nothing before after t = absurd t

-- that a task has no unit is told by a test
pub no-unit : (ns : List ℕ) (b : Bool) → (IsTrue b ↔ (ns ≢ [])) → b ≡ false → ns ≡ []
no-unit [] b told is = refl
no-unit (n ∷ ns) b told is = absurd (true≢false (sym (told.1 (λ e. cc)) ∙ is))

-- the left one has a unit
pub unit-left : (ns ms : List ℕ) → ns ≢ [] → IsTrue true ↔ (ns ++ ms ≢ [])
unit-left [] ms some = absurd (some refl)
unit-left (n ∷ ns) ms some = ((λ _. λ e. cc), λ _. refl)

-- the right one does where the left one hasn't
pub unit-right : (ns ms : List ℕ) (b : Bool) → ns ≡ [] → IsTrue b ↔ (ms ≢ [])
    → IsTrue b ↔ (ns ++ ms ≢ [])
unit-right ns ms b none told = subst (λ z. IsTrue b ↔ (z ++ ms ≢ [])) (sym none) told
