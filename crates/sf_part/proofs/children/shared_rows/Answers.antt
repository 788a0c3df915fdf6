use Rattle.std.proofs.Common.{◌<◌, inl, inr, subst, arith}
use Rattle.std.proofs.lemmas.List.{length-map}
use Rattle.std.proofs.lemmas.Option.{slice_get_cases}
use Rattle.sf_core.specs.Program.Formed.{variable_count}
use Rattle.sf_core.specs.Program.ProgramView.{program_of}
use Rattle.sf_core.specs.Program.View.{resource_of}
use Rattle.sf_frame.specs.Stores.{store_of}
use Rattle.sf_part.proofs.Rows.{row-turn}
use Rattle.sf_part.proofs.children.shared_rows.Goals as goal

pub variable_count-requires : goal.variable_count-requires
variable_count-requires c =
    let count = length-map c.args.p.now.resources.items resource_of in
    elim (slice_get_cases (program_of c.args.p.now).resources c.loop-number.number).1 [
      | inl h ↦ (h.0, h.2)
      | inr h ↦ absurd (omega (
        arith,
        h.0,
        count,
        c.loop-number-test.true,
        c.len-number-end.ensures,
        c.args.p.now.resources.ok.0,
      ))
    ]

pub loop-number-preserved : goal.loop-number-preserved
loop-number-preserved c =
    row-turn (program_of c.args.p.now) c.loop-number.number (store_of c.args.store.now)
    c.loop-number.rows.items c.push.new.self.items c.in_ok-resource_values.field-0
    c.variable_count.result c.variable_count.ensures c.loop-number.invariant
    c.in_ok-resource_values.ensures.values c.in_ok-push.ensures.items

pub returns : goal.returns
returns c = λ r i few.
    let count = length-map c.args.p.now.resources.items resource_of in
    elim (slice_get_cases (program_of c.args.p.now).resources r.0).1 [
      | inl h ↦ c.loop-number.invariant.1 r i (omega (
        arith,
        h.1,
        count,
        c.loop-number-test.false,
        c.len-number-end.ensures,
        c.args.p.now.resources.ok.0,
      )) few
      | inr h ↦ absurd (let none : i < 0 = subst (λ z. i < variable_count z) h.1 few in
          omega arith)
    ]
