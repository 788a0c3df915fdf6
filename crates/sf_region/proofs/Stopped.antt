-- That a task which stops for a unit, or for others, would go on: the law of src/laws.rt.
-- Names: `ended-LAW`.
use Rattle.std.specs.Prelude.{◌≡◌, ◌⊎◌, List, [], ◌∷◌}
use Rattle.std.proofs.Common.{sym, ap, ◌∙◌, refl, inl, inr}
use Rattle.sf_core.specs.Machine.Config.{Path, Fixed, Frame, runs}
use Rattle.sf_core.specs.Machine.Enabled.{HasEnded}
use Rattle.sf_core.specs.Machine.Next.{Next, returns, nothing, frame_next, next}
use Rattle.sf_region.specs.Checked.Laws.{StoppedTasksGoOn}

-- what a task that has ended does next is nothing, or a return that never comes
ended-next : (path : Path) (frames : List Frame) → HasEnded path (runs frames)
    → (next (runs frames) ≡ nothing) ⊎ ((f : Fixed) × (next (runs frames) ≡ returns f []))
ended-next path [] h = inl refl
ended-next [] (f ∷ []) h = inr (f.fixed, ap (frame_next f.fixed []) h)
ended-next [] (f ∷ g ∷ below) h = absurd h
ended-next (turn ∷ path) (f ∷ below) h = absurd h

-- so it is neither a command nor an exit
ended-command : (path : Path) (frames : List Frame) (what : Next) → HasEnded path (runs frames)
    → next (runs frames) ≡ what → (what ≡ nothing → ⊥) → ((f : Fixed) → what ≡ returns f [] → ⊥)
    → ⊥
ended-command path frames what h is none back = go (ended-next path frames h)
  where
    go : (next (runs frames) ≡ nothing) ⊎ ((f : Fixed) × (next (runs frames) ≡ returns f [])) → ⊥
    go (inl e) = none (sym is ∙ e)
    go (inr (f, e)) = back f (sym is ∙ e)

pub stopped_tasks_go_on : StoppedTasksGoOn
unfolding StoppedTasksGoOn
stopped_tasks_go_on p a = (
  λ (frames, stand, (on, none)). (frames, stand, on.going),
  λ r (frames, stand, (f, below, place, test, body, rest, is)). (
    frames,
    stand,
    λ h. ended-command a.part.task frames _ h is (λ e. absurd (cc)) (λ g e. absurd (cc)),
  ),
  λ r (frames, stand, (f, below, rest, is)). (
    frames,
    stand,
    λ h. ended-command a.part.task frames _ h is (λ e. absurd (cc)) (λ g e. absurd (cc)),
  ),
  λ (frames, stand, (f, below, place, one, two, rest, is)). (
    frames,
    stand,
    λ h. ended-command a.part.task frames _ h is (λ e. absurd (cc)) (λ g e. absurd (cc)),
  ),
)
