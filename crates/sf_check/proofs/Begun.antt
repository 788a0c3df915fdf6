-- How the code begins a procedure: by its tag, with no goal open.
use Rattle.std.proofs.Common.{◌≡◌, ℕ, suc, ◌<◌, true, cond, Option, Some, None, List, [], ◌∷◌, length, refl, sym, ap, ◌∙◌, inl, inr, arith}
use Rattle.std.specs.Prelude.{IfSome}
use Rattle.std.specs.List.{slice_get}
use Rattle.std.proofs.lemmas.Option.{none-some, slice_get_cases}
use Rattle.sf_core.specs.Program.Syntax.{Procedure}
use Rattle.sf_sym.specs.declared.tag.Tag.{Tag}
use Rattle.sf_sym.specs.Goal.{Goal}
use Rattle.sf_rules.specs.First.{first_goal}
use Rattle.sf_rules.specs.Setting.{Setting}
use Rattle.sf_check.specs.Checked.Taken.{is_begin, begin}
use Rattle.sf_check.specs.Stand.{Stand}

-- with no goal open, the next procedure is begun by its tag
pub begun : (d : Setting) (f : ℕ) (tag : Tag) (goal : Goal) (s : Stand) → f < length d.program.procedures
    → is_begin f tag ≡ true
    → IfSome (slice_get d.program.procedures f) (λ x. goal ≡ first_goal d (record { 0 = f }) x)
    → s ≡ record { begun = suc f; goals = goal ∷ [] }
    → begin d f (slice_get d.program.procedures f) tag ≡ Some s
begun d f tag goal s below is first now = go (slice_get d.program.procedures f) refl first
  where
    go : (o : Option Procedure) → slice_get d.program.procedures f ≡ o
        → IfSome o (λ x. goal ≡ first_goal d (record { 0 = f }) x) → begin d f o tag ≡ Some s
    go None e i = elim (slice_get_cases d.program.procedures f).1 [
      | inl w ↦ absurd (none-some w.0 (sym e ∙ w.2))
      | inr w ↦ let past = w.0 in absurd (omega (arith, below, past))
    ]
    go (Some x) e i =
        ap (λ b. cond b (Some (record { begun = suc f; goals = first_goal d (record { 0 = f }) x ∷ [] })) None) is
        ∙ ap Some (ap (λ z. record { begun = suc f; goals = z ∷ [] }) (sym i) ∙ sym now)
