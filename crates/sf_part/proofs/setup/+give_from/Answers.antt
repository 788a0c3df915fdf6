use Rattle.std.proofs.Common.{All, Err, List, inl, inr, ap, ◌+◌, ◌≡◌, ◌∙◌, arith, subst, sym}
use Rattle.std.proofs.lemmas.List.{length-map}
use Rattle.std.proofs.lemmas.Option.{slice_get_cases}
use Rattle.sf_heap.specs.Cells.{HasCell}
use Rattle.sf_core.specs.Program.ProgramView.{program_of}
use Rattle.sf_core.specs.Program.View.{resource_of}
use Rattle.sf_part.specs.Checked.Handing.{IsGivenFrom, LosesShare}
use Rattle.sf_part.specs.declared.content.Content.{Content}
use Rattle.sf_part.specs.declared.fault.PartFault.TheVariants.{NoFootprint}
use Rattle.sf_part.proofs.Handed.{handed-more, handed-no_more, handed-none, last-same, next-cells}
use Rattle.sf_part.proofs.setup.+give_from.Goals as goal

pub next_share-requires-clause-there : goal.next_share-requires-clause-there
next_share-requires-clause-there t c =
    let count = length-map c.args.p.now.program.resources.items resource_of in
    elim (slice_get_cases (program_of c.args.p.now.program).resources c.args.r).1 [
      | inl h ↦ (h.0, h.2)
      | inr h ↦ absurd (omega (
        arith,
        h.0,
        count,
        c.if-r-count.false,
        c.len-count.ensures,
        c.args.p.now.program.resources.ok.0,
      ))
    ]

pub returns-in-Err-next_share-clause-none : goal.returns-in-Err-next_share-clause-none
returns-in-Err-next_share-clause-none t c = λ e.
    let count = length-map c.args.p.now.program.resources.items resource_of in
    let fault : c.in-Err-next_share.fault ≡ NoFootprint = cc in
    handed-none (program_of c.args.p.now.program) c.args.r c.args.shared.now c.args.found.now
    (omega (
      arith,
      count,
      c.if-r-count.false,
      c.len-count.ensures,
      c.args.p.now.program.resources.ok.0,
    ))
    (c.in-Err-next_share.ensures.none (ap Err fault))

pub returns-in-Err-give_from-clause-none : goal.returns-in-Err-give_from-clause-none
returns-in-Err-give_from-clause-none t c = λ e.
    let count = length-map c.args.p.now.program.resources.items resource_of in
    let fault : c.in-Err-give_from.fault ≡ NoFootprint = cc in
    handed-no_more (program_of c.args.p.now.program) c.args.r (c.args.r + 1) c.args.shared.now
    c.args.found.now c.next_share.new.found c.in-Ok-next_share.store
    (omega (
      arith,
      count,
      c.if-r-count.false,
      c.len-count.ensures,
      c.args.p.now.program.resources.ok.0,
    ))
    (omega arith) c.in-Ok-next_share.ensures.ok (c.in-Err-give_from.ensures.none (ap Err fault))

pub give_next-requires-clause-cells : goal.give_next-requires-clause-cells
give_next-requires-clause-cells t c =
    let p = program_of c.args.p.now.program in
    let next = c.in-Ok-next_share.ensures.ok in
    let same : next.at ≡ c.in-Some.at = last-same c.args.found.now.parts.items
    c.pop.new.self.items next.at c.in-Some.at
    (sym next.parts ∙ sym c.in-Ok-give_from.ensures.parts ∙ c.in-Some.ensures.items) in
    subst (All (HasCell c.give_from.new.shared.heap)) same
    (next-cells p (record { 0 = c.args.r }) c.args.shared.now c.args.found.now
    c.next_share.new.found c.in-Ok-next_share.store next c.give_from.new.shared.heap
    c.in-Ok-give_from.ensures.ok.cells)

pub returns-clause-ok : goal.returns-clause-ok
returns-clause-ok t c =
    let p = program_of c.args.p.now.program in
    let next = c.in-Ok-next_share.ensures.ok in
    let same : next.at ≡ c.in-Some.at = last-same c.args.found.now.parts.items
    c.pop.new.self.items next.at c.in-Some.at
    (sym next.parts ∙ sym c.in-Ok-give_from.ensures.parts ∙ c.in-Some.ensures.items) in
    subst (λ (z : List Content). IsGivenFrom p c.args.r c.args.stamp c.args.found.now
    c.args.shared.now z c.give_next.new.shared) (sym c.push_reserved.ensures.items)
    (handed-more p c.args.r (c.args.r + 1) c.args.stamp c.args.shared.now
    c.give_from.new.shared c.give_next.new.shared c.args.found.now c.next_share.new.found
    c.in-Ok-next_share.store c.in-Ok-give_from.out.items c.give_next.result (omega arith) next
    c.requires.there c.in-Ok-give_from.ensures.ok
    (subst (λ z. LosesShare (record { 0 = c.args.r }) c.args.stamp c.in-Ok-next_share.store z
    c.give_from.new.shared c.give_next.result c.give_next.new.shared) (sym same)
    c.give_next.ensures))
