use Rattle.std.proofs.Common.{◌≡◌, ◌+◌, [], Contains, arith, get_or, length, refl, subst, sym}
use Rattle.std.proofs.lemmas.List.{length-map}
use Rattle.std.proofs.lemmas.List.Elements.{Contains-get_or}
use Rattle.std.proofs.lemmas.Option.{get_or_from_slice_get, slice_get_read}
use Rattle.sf_core.specs.Program.ProgramView.{program_of}
use Rattle.sf_core.specs.Program.View.{resource_of}
use Rattle.sf_part.specs.Checked.Parting.{ArePartedOff, PartsOff}
use Rattle.sf_part.proofs.Parting.{parting-more, parting-none, item-there}
use Rattle.sf_part.proofs.first.part_contents.Goals as goal

pub loop-number-init : goal.loop-number-init
loop-number-init c =
    subst (λ ks. ArePartedOff (program_of c.args.p.now).resources c.args.parts.now 0
    c.args.shared.now ks c.args.shared.now) (sym c.in_ok-contents.ensures.items)
    (parting-none (program_of c.args.p.now).resources c.args.parts.now c.args.shared.now
    c.requires.there)

pub variable_count-count-requires : goal.variable_count-count-requires
variable_count-count-requires c =
    item-there (program_of c.args.p.now).resources c.loop-number.number
    (omega (
      arith,
      c.loop-number-test.true,
      c.requires.few,
      length-map c.args.p.now.resources.items resource_of,
    ))

pub part_content-requires : goal.part_content-requires
part_content-requires c =
    let at : get_or c.args.parts.now (c.loop-number.number + 1) [] ≡ c.index-parts-number.result =
    get_or_from_slice_get c.args.parts.now (c.loop-number.number + 1) c.index-parts-number.result []
    (slice_get_read c.args.parts.now (length c.args.parts.now) (c.loop-number.number + 1)
    c.index-parts-number.result refl (omega (arith, c.loop-number-test.true))
    c.index-parts-number.is) in
    λ k d less. c.loop-number.invariant.there (c.loop-number.number + 1)
    (get_or c.index-parts-number.result k d) (omega arith)
    (subst (λ ls. Contains ls (get_or c.index-parts-number.result k d)) (sym at)
    (Contains-get_or c.index-parts-number.result k d less))

pub loop-number-preserved : goal.loop-number-preserved
loop-number-preserved c =
    let at : get_or c.args.parts.now (c.loop-number.number + 1) [] ≡ c.index-parts-number.result =
    get_or_from_slice_get c.args.parts.now (c.loop-number.number + 1) c.index-parts-number.result []
    (slice_get_read c.args.parts.now (length c.args.parts.now) (c.loop-number.number + 1)
    c.index-parts-number.result refl (omega (arith, c.loop-number-test.true))
    c.index-parts-number.is) in
    let found = item-there (program_of c.args.p.now).resources c.loop-number.number
    (omega (
      arith,
      c.loop-number-test.true,
      c.requires.few,
      length-map c.args.p.now.resources.items resource_of,
    )) in
    parting-more (program_of c.args.p.now).resources c.args.parts.now c.loop-number.number
    c.args.shared.now c.loop-number.shared c.part_content.new.shared c.loop-number.contents.items
    c.in_ok-content.content (record { 0 = c.loop-number.number }) c.variable_count-count.result
    found.0 c.requires.apart c.loop-number.invariant
    (subst (λ ls. PartsOff (record { 0 = c.loop-number.number }) c.variable_count-count.result ls
    c.loop-number.shared c.in_ok-content.content c.part_content.new.shared) (sym at)
    c.in_ok-content.ensures) refl found.1
    (c.variable_count-count.ensures found.0 found.1) c.push.new.self.items
    c.in_ok-push.ensures.items
