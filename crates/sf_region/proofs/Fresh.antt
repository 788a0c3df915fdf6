-- That no miss of a task counts that had an event since its last one.
-- Names: `fresh-EVENT`, of a task after that event.
use Rattle.std.specs.Prelude.{◌≡◌, ◌≢◌, ◌==◌, ◌<◌, ◌≤◌, cond, true, false, [], ◌∷◌, IfOk, Result, Ok, Err, None}
use Rattle.std.proofs.Common.{ap, ◌∙◌, refl, arith, eq-eqb, ne_eqb}
use Rattle.atomic_table.specs.Seated.{TableId}
use Rattle.std.specs.declared.alloc.AllocError.{AllocError}
use Rattle.sf_base.specs.declared.ids.ResId.{ResId}
use Rattle.sf_core.specs.Machine.Step.{Event}
use Rattle.sf_core.specs.Program.Syntax.{Program}
use Rattle.sf_part.specs.Contents.{content_of}
use Rattle.sf_part.specs.declared.content.Content.{Content}
use Rattle.sf_part.specs.declared.local.Local.{Local}
use Rattle.sf_part.specs.declared.local.Local.TheVariants.{Moved}
use Rattle.sf_part.specs.declared.part.Part.{Part}
use Rattle.sf_part.specs.Given.{Gives}
use Rattle.sf_part.specs.PartView.{part_of}
use Rattle.sf_part.specs.Steps.{Enters, Joins, Private}
use Rattle.sf_part.specs.Timed.{TimedPart}
use Rattle.sf_region.proofs.Waits.{advance-clock}
use Rattle.sf_region.specs.Checked.Seated.{IsSeated}
use Rattle.sf_region.specs.declared.views.Begun.{Begun}
use Rattle.sf_region.specs.declared.views.View.{View}
use Rattle.sf_region.specs.Meeting.{HasMissed, HasNoMisses, IsAtRest}
use Rattle.sf_region.specs.Plays.{bump, left, lost, moved, since, with_kids, won}
use Rattle.sf_region.specs.Rule.{holding, newcomer}
use Rattle.sf_region.specs.Waits.{program_in}

-- where the clock is later than the seat has seen it
fresh-later : (v : View) (b : Part) → v.part.clock < b.clock → HasNoMisses v b
fresh-later v b later =
    ap (λ z. cond z v.misses 0) (ne_eqb b.clock v.part.clock (λ e. omega arith))

-- where there was no miss
fresh-none : (v : View) (b : Part) → v.misses ≡ 0 → HasNoMisses v b
fresh-none v b none =
    elim (b.clock == v.part.clock) as (λ z. cond z v.misses 0 ≡ 0) [ true ↦ none | false ↦ refl ]

module _ (v : View) (a : Part) (h : IsSeated v a) where
  -- the seat has seen no later part
  seen-before : v.part.clock ≤ a.clock
  seen-before =
      let e = advance-clock (program_in v.begun) (holding v) (holding (moved a [] v)) h.near.0
      h.near.1 in
      omega arith

  -- after an event of its own
  fresh-private : (p : Program) (event : Event) (b c : Part) → part_of c ≡ part_of a
      → Private p event (part_of c) (part_of b) → HasNoMisses v b
  fresh-private p event b c same e =
      let n = e.notes.clock_is in
      let s = ap (λ (z : TimedPart). z.clock) same in
      let i = seen-before in
      fresh-later v b (omega arith)

  -- where its step was one
  pub fresh-step : (p : Program) (b c : Part) (r : Result Local AllocError) → part_of c ≡ part_of a
      → IfOk r (λ answer. answer ≡ Moved → (event : Event)
      × Private p event (part_of c) (part_of b))
      → IfOk r (λ answer. answer ≡ Moved → HasNoMisses v b)
  fresh-step p b c (Ok answer) same made =
      λ is. let e = made is in fresh-private p e.0 b c same e.1
  fresh-step p b c (Err error) same made = tt

  -- after an exit
  pub fresh-left : (p : Program) (event : Event) (k : Content) (w : View) (b c : Part)
      → part_of c ≡ part_of a → Gives p event (part_of c) (content_of k) (part_of b)
      → w ≡ left b v → HasNoMisses w b
  fresh-left p event k w b c same e view =
      let n = e.exits.notes.clock_is in
      let s = ap (λ (z : TimedPart). z.clock) same in
      let i = seen-before in
      fresh-none w b (ap (λ (z : View). z.misses) view
      ∙ ap (λ z. cond z (bump v.misses) 0) (ne_eqb b.clock v.part.clock (λ f. omega arith)))

-- after a join
pub fresh-joined : (p : Program) (event : Event) (v w : View) (a b one two : Part)
    → Joins p event (part_of a) (part_of one) (part_of two) (part_of b) → IsAtRest v a
    → w ≡ with_kids (one ∷ two ∷ []) v → HasNoMisses w b
fresh-joined p event v w a b one two e rest view =
    let n = e.notes.clock_is in
    let s = ap (λ (z : View). z.part.clock) view in
    let r = ap (λ (z : Part). z.clock) rest.part in
    fresh-later w b (omega arith)
