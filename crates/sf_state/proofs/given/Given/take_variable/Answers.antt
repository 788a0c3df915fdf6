use Rattle.std.proofs.Common.{refl, sym, ◌∙◌, Some}
use Rattle.std.specs.Vec.{with_item}
use Rattle.sf_state.specs.declared.given.Given.{Given}
use Rattle.sf_state.proofs.Keeping.{taken-variable}
use Rattle.sf_state.proofs.given.Given.take_variable.Goals as goal

pub returns : goal.returns
returns c =
    let new : Given = record {
      values = with_item c.args.self.now.values c.args.number (Some c.args.value);
      cells = c.args.self.now.cells;
    } in
    λ fields es k. taken-variable fields c.args.names.now c.args.self.now new es c.args.number c.args.value
    c.index.result.now k c.requires.placed c.index.ensures (sym c.is_some.ensures ∙ c.if-is_some.false) refl refl
