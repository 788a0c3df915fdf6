use Rattle.std.proofs.Common.{◌∙◌, Ok, arith, map, slice_get, sym}
use Rattle.sf_base.proofs.Options.{some-holds}
use Rattle.sf_core.specs.Program.ProgramView.{program_of}
use Rattle.sf_core.specs.Program.Syntax.{Procedure}
use Rattle.sf_core.specs.Program.View.{assertion_of, procedure_of}
use Rattle.sf_state.specs.Checked.Beginning.{Begins, Fits}
use Rattle.sf_state.specs.Names.{format_of}
use Rattle.sf_state.specs.Starts.{DecidesStart, gives_fresh}
use Rattle.sf_state.specs.Stated.{IsStated}
use Rattle.sf_state.proofs.Deciding.{decides-state, precise-all}
use Rattle.sf_state.proofs.StateShape.{some-of, state-bounds, state-fits, state-fresh, state-from, state-width}
use Rattle.sf_state.proofs.start.read.Goals as goal

pub begin-requires-clause-fits : goal.begin-requires-clause-fits
begin-requires-clause-fits c =
    let p = program_of c.args.p.now.program in
    let g = procedure_of c.proc.result.now in
    let formed = c.args.p.now.program.formed.procedures c.args.f.0 g c.proc.ensures.meaning in
    let said = some-holds (λ (h : Procedure). IsStated (format_of p h) c.args.text.now (Ok c.in_ok-state.state))
    (slice_get p.procedures c.args.f.0) g c.proc.ensures.meaning c.in_ok-state.ensures in
    some-of (λ (h : Procedure). Fits p h c.in_ok-vars.vars) (slice_get p.procedures c.args.f.0) g c.proc.ensures.meaning
    (state-fits p g c.args.text.now c.in_ok-vars.vars c.in_ok-heap.heap (omega (arith, formed.declared))
    (state-from p g c.args.text.now c.in_ok-vars.vars c.in_ok-heap.heap c.in_ok-state.state.values.items c.deref.result.now
    c.in_ok-state.state.cells (said.0, said.1) c.in_ok-heap.ensures.cells c.deref.ensures.value c.in_ok-vars.ensures.own
    c.in_ok-vars.ensures.shared))

pub begin-requires-clause-suits : goal.begin-requires-clause-suits
begin-requires-clause-suits c = λ is_fresh.
    let p = program_of c.args.p.now.program in
    let g = procedure_of c.proc.result.now in
    let formed = c.args.p.now.program.formed.procedures c.args.f.0 g c.proc.ensures.meaning in
    let said = some-holds (λ (h : Procedure). IsStated (format_of p h) c.args.text.now (Ok c.in_ok-state.state))
    (slice_get p.procedures c.args.f.0) g c.proc.ensures.meaning c.in_ok-state.ensures in
    state-fresh p g c.args.text.now c.in_ok-vars.vars c.in_ok-heap.heap (omega (arith, formed.declared))
    (state-from p g c.args.text.now c.in_ok-vars.vars c.in_ok-heap.heap c.in_ok-state.state.values.items c.deref.result.now
    c.in_ok-state.state.cells (said.0, said.1) c.in_ok-heap.ensures.cells c.deref.ensures.value c.in_ok-vars.ensures.own
    c.in_ok-vars.ensures.shared) (sym said.2 ∙ is_fresh)

pub begin-requires-clause-width : goal.begin-requires-clause-width
begin-requires-clause-width c =
    let p = program_of c.args.p.now.program in
    let g = procedure_of c.proc.result.now in
    let said = some-holds (λ (h : Procedure). IsStated (format_of p h) c.args.text.now (Ok c.in_ok-state.state))
    (slice_get p.procedures c.args.f.0) g c.proc.ensures.meaning c.in_ok-state.ensures in
    state-width p g c.args.text.now c.in_ok-vars.vars c.in_ok-heap.heap
    (state-from p g c.args.text.now c.in_ok-vars.vars c.in_ok-heap.heap c.in_ok-state.state.values.items c.deref.result.now
    c.in_ok-state.state.cells (said.0, said.1) c.in_ok-heap.ensures.cells c.deref.ensures.value c.in_ok-vars.ensures.own
    c.in_ok-vars.ensures.shared)

pub begin-requires-clause-in_bounds : goal.begin-requires-clause-in_bounds
begin-requires-clause-in_bounds c =
    let p = program_of c.args.p.now.program in
    let g = procedure_of c.proc.result.now in
    let said = some-holds (λ (h : Procedure). IsStated (format_of p h) c.args.text.now (Ok c.in_ok-state.state))
    (slice_get p.procedures c.args.f.0) g c.proc.ensures.meaning c.in_ok-state.ensures in
    state-bounds p g c.args.text.now c.in_ok-vars.vars c.in_ok-heap.heap
    (state-from p g c.args.text.now c.in_ok-vars.vars c.in_ok-heap.heap c.in_ok-state.state.values.items c.deref.result.now
    c.in_ok-state.state.cells (said.0, said.1) c.in_ok-heap.ensures.cells c.deref.ensures.value c.in_ok-vars.ensures.own
    c.in_ok-vars.ensures.shared)

pub returns : goal.returns
returns c =
    let p = program_of c.args.p.now.program in
    let g = procedure_of c.proc.result.now in
    let text = c.args.text.now in
    let said = some-holds (λ (h : Procedure). IsStated (format_of p h) text (Ok c.in_ok-state.state))
    (slice_get p.procedures c.args.f.0) g c.proc.ensures.meaning c.in_ok-state.ensures in
    let orders = map (λ o. assertion_of o.assertion) c.args.p.now.orders.items in
    some-of (λ (h : Procedure). DecidesStart p c.args.f h text c.begin.result) (slice_get p.procedures c.args.f.0) g
    c.proc.ensures.meaning
    (decides-state p c.args.f g text c.in_ok-state.state.fresh c.in_ok-vars.vars c.in_ok-heap.heap c.begin.result
    (λ v. precise-all p c.args.f g (gives_fresh p g text) orders v c.ordered_is_determined.ensures c.determined_has_one_footprint.ensures
    (c.orders_from_truncation.ensures _ _ c.args.p.now.ordered) c.proc.ensures.meaning) c.proc.ensures.meaning
    (state-from p g text c.in_ok-vars.vars c.in_ok-heap.heap c.in_ok-state.state.values.items c.deref.result.now
    c.in_ok-state.state.cells (said.0, said.1) c.in_ok-heap.ensures.cells c.deref.ensures.value c.in_ok-vars.ensures.own
    c.in_ok-vars.ensures.shared) said.2
    (some-holds (λ (h : Procedure). Begins p c.args.f h c.in_ok-state.state.fresh c.in_ok-vars.vars c.in_ok-heap.heap c.begin.result)
    (slice_get p.procedures c.args.f.0) g c.proc.ensures.meaning c.begin.ensures))
