-- Traces of runs: each run has one, of which it is what the events come to, and one after another is one.
-- Names: `trace-WHAT`.
use Rattle.std.specs.Prelude.{◌≡◌, List, [], ◌∷◌, ◌++◌}
use Rattle.std.proofs.Common.{sym, ap, ◌∙◌, refl, subst}
use Rattle.sf_base.proofs.Options.{some-once}
use Rattle.sf_core.proofs.Machine.Determinism.{step-unique}
use Rattle.sf_core.specs.Machine.Config.{Config, task_at}
use Rattle.sf_core.specs.Machine.Next.{next}
use Rattle.sf_core.specs.Machine.Reach.{Reach}
use Rattle.sf_core.specs.Machine.Step.{Event, Step}
use Rattle.sf_core.specs.Program.Syntax.{Program}
use Rattle.sf_trace.specs.Trace.{Act, Traces, events_in}

module _ (p : Program) where
  pub trace-run : (acts : List Act) (c d : Config) → Traces p c acts d → Reach p c (events_in acts) d
  trace-run [] c d same = same
  trace-run (a ∷ acts) c d (between, s, is, t) = (between, s, trace-run acts between d t)

  pub trace-of : (events : List Event) (c d : Config) → Reach p c events d
      → (acts : List Act) × (events_in acts ≡ events) × Traces p c acts d
  trace-of [] c d same = ([], refl, same)
  trace-of (event ∷ events) c d (between, s, r) =
      let t = trace-of events between d r in (
        record { event = event; what = next s.from } ∷ t.0,
        ap (λ (z : List Event). event ∷ z) t.1,
        (between, s, refl, t.2),
      )

  pub trace-append : (acts more : List Act) (c d e : Config) → Traces p c acts d → Traces p d more e
      → Traces p c (acts ++ more) e
  trace-append [] more c d e same t = subst (λ (z : Config). Traces p z more e) same t
  trace-append (a ∷ acts) more c d e (between, s, is, t) u =
      (between, s, is, trace-append acts more between d e t u)

  pub trace-once : (acts others : List Act) (c d e : Config) → Traces p c acts d
      → Traces p c others e → events_in acts ≡ events_in others → (acts ≡ others) × (d ≡ e)
  trace-once [] [] c d e a b same = (refl, a ∙ sym b)
  trace-once [] (b ∷ others) c d e x y same = absurd (cc)
  trace-once (a ∷ acts) [] c d e x y same = absurd (cc)
  trace-once (a ∷ acts) (b ∷ others) c d e (f, s, i, x) (g, t, j, y) same =
      let event : a.event ≡ b.event = cc in
      let rest : events_in acts ≡ events_in others = cc in
      let s' : Step p b.event c f = subst (λ (z : Event). Step p z c f) event s in
      let place : f ≡ g = step-unique p b.event c f g s' t in
      let more = trace-once acts others g d e (subst (λ (z : Config). Traces p z acts d) place x) y rest in
      let from : s.from ≡ t.from = some-once (task_at a.event.task c.tasks) s.from t.from s.there
      (ap (λ (z : Event). task_at z.task c.tasks) event ∙ t.there) in
      let what : a.what ≡ b.what = sym i ∙ (ap next from ∙ j) in
      let first : a ≡ b = λ k. record { event = event k; what = what k } in
      (λ k. first k ∷ more.0 k, more.1)
