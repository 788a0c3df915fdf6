-- Lists of events: one after the other, cut in two, and where they lead.
-- Names: `numbered-LAW` of numbered lists, `reach-LAW` of lists that lead somewhere.
use Rattle.std.specs.Prelude.{◌≡◌, List, [], ◌∷◌, ◌++◌}
use Rattle.std.proofs.Common.{sym, ◌∙◌, refl, subst}
use Rattle.sf_core.proofs.Machine.Determinism.{step-unique}
use Rattle.sf_core.specs.Machine.Config.{Config}
use Rattle.sf_core.specs.Machine.Numbered.{NumberedFrom}
use Rattle.sf_core.specs.Machine.Reach.{Reach}
use Rattle.sf_core.specs.Machine.Step.{Event}
use Rattle.sf_core.specs.Machine.Supplies.{Supply}
use Rattle.sf_core.specs.Program.Syntax.{Program}

module _ (p : Program) where
  -- a numbered list after another is one
  pub numbered-append : (events more : List Event) (c d e : Config) (s t u : Supply)
      → NumberedFrom p c s events d t → NumberedFrom p d t more e u
      → NumberedFrom p c s (events ++ more) e u
  numbered-append [] more c d e s t u (same, is) n =
      subst (λ z. NumberedFrom p z s more e u) same (subst (λ z. NumberedFrom p d z more e u) is n)
  numbered-append (event ∷ events) more c d e s t u (between, rest, step, takes, n) k =
      (between, rest, step, takes, numbered-append events more between d e rest t u n k)

  -- it is one up to each place, and from there
  pub numbered-cut : (events more : List Event) (c e : Config) (s u : Supply)
      → NumberedFrom p c s (events ++ more) e u
      → (d : Config) × (t : Supply) × NumberedFrom p c s events d t × NumberedFrom p d t more e u
  numbered-cut [] more c e s u n = (c, s, (refl, refl), n)
  numbered-cut (event ∷ events) more c e s u (between, rest, step, takes, n) =
      let k = numbered-cut events more between e rest u n in
      (k.0, k.1, (between, rest, step, takes, k.2), k.3)

  -- events lead to one configuration at most
  pub reach-one : (events : List Event) (c d e : Config) → Reach p c events d → Reach p c events e
      → d ≡ e
  reach-one [] c d e a b = a ∙ sym b
  reach-one (event ∷ events) c d e (f, s, r) (g, t, q) =
      reach-one events f d e r
      (subst (λ z. Reach p z events e) (step-unique p event c g f t s) q)

  -- one list after another leads on
  pub reach-append : (events more : List Event) (c d e : Config) → Reach p c events d
      → Reach p d more e → Reach p c (events ++ more) e
  reach-append [] more c d e same r = subst (λ z. Reach p z more e) same r
  reach-append (event ∷ events) more c d e (between, step, q) r =
      (between, step, reach-append events more between d e q r)
