use Rattle.std.proofs.Common.{rules, ◌≡◌, ◌∙◌, ◌+◌, ℕ, suc, List, length, ap, sym, subst, add-one, replicate}
use Rattle.std.proofs.lemmas.List.{length-replicate}
use Rattle.atomic_table.specs.Table.{Me, opening}
use Rattle.sf_part.specs.declared.part.Part.{Part}
use Rattle.sf_part.specs.PartView.{part_of}
use Rattle.sf_region.proofs.Asks.{opens}
use Rattle.sf_region.proofs.Keeps.{enters-none}
use Rattle.sf_region.proofs.Lists.{zeros}
use Rattle.sf_region.specs.declared.views.Begun.{Begun}
use Rattle.sf_region.specs.declared.views.View.{View}
use Rattle.sf_region.specs.Holdings.{entered, taken}
use Rattle.sf_region.specs.Keys.{begun_with}
use Rattle.sf_region.specs.Plays.{hollow}
use Rattle.sf_region.specs.Rule.{Law, Slot, holding, opening_view}
use Rattle.sf_region.proofs.regions.Regions.begin.Goals as goal

pub new-requires : goal.new-requires
new-requires c =
    let ws : List ℕ = c.as_slice.result.now in
    let slots = c.in_ok-slots.slots.items in
    let about : Begun = begun_with c.args.p.now.program c.args.part.now c.args.contents.items in
    let same : about
    ≡ begun_with c.of.result.value c.of-2.result.value c.of-3.result.value.items =
    λ i. begun_with (sym c.of.ensures i) (sym c.of-2.ensures i) (sym c.of-3.ensures i).items in
    let count : c.len-2.result ≡ length c.args.contents.items = search rules in
    let made : ws ≡ replicate (suc (length c.args.contents.items)) 0 =
    c.as_slice.ensures.value ∙ (c.in_ok-words.ensures ∙ ap (λ (n : ℕ). replicate n 0)
    (ap (λ (n : ℕ). n + 1) count ∙ add-one (length c.args.contents.items))) in
    subst (λ z. Law z (opening ws slots (opening_view z))) same
    (opens about ws slots c.requires c.args.part.now.kept.time.within c.in_ok-slots.ensures
    (ap length made ∙ length-replicate (suc (length c.args.contents.items)) 0)
    (zeros ws (suc (length c.args.contents.items)) made))

pub seated-requires-clause-live : goal.seated-requires-clause-live
seated-requires-clause-live c = ap (λ (m : Me Slot View). m.0.live) c.in-Ok.ensures.ok.4

pub seated-requires-clause-slots : goal.seated-requires-clause-slots
seated-requires-clause-slots c =
    let e = c.in-Ok.ensures.ok.4 in
    let about : Begun = begun_with c.args.p.now.program c.args.part.now c.args.contents.items in
    ap (λ (m : Me Slot View). m.1) e ∙ sym (ap (λ (m : Me Slot View). hollow (taken (holding m.0))) e
    ∙ (ap (λ (z : Part). hollow (entered (part_of z).part.stand)) c.of-2.ensures
    ∙ ap hollow (enters-none about c.requires)))

pub seated-requires-clause-part : goal.seated-requires-clause-part
seated-requires-clause-part c =
    ap (λ (m : Me Slot View). m.0.part) c.in-Ok.ensures.ok.4 ∙ c.of-2.ensures

pub seated-requires-clause-missed : goal.seated-requires-clause-missed
seated-requires-clause-missed c = (
  ap (λ (m : Me Slot View). m.0.missed) c.in-Ok.ensures.ok.4,
  ap (λ (m : Me Slot View). m.0.misses) c.in-Ok.ensures.ok.4,
)
