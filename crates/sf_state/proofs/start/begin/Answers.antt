use Rattle.std.proofs.Common.{arith, inr, refl, slice_get, subst, sym, Vec, Global}
use Rattle.std.proofs.lemmas.List.{length-map}
use Rattle.sf_base.proofs.Options.{some-holds}
use Rattle.sf_core.specs.Program.ProgramView.{program_of}
use Rattle.sf_core.specs.Program.Syntax.{Procedure}
use Rattle.sf_core.specs.Program.View.{procedure_of}
use Rattle.sf_foot.specs.Starting.{IsFirstUnit, StartsWith, assertions_of}
use Rattle.sf_foot.specs.Variables.{value_of}
use Rattle.sf_heap.specs.declared.locations.Locations.{Locations}
use Rattle.sf_state.specs.Checked.Beginning.{Fits}
use Rattle.sf_state.specs.Checked.Found.{AreFound}
use Rattle.sf_state.proofs.Beginning.{begin-all, begin-left_over, begin-starts}
use Rattle.sf_state.proofs.NextFound.{some-then, there-at}
use Rattle.sf_state.proofs.start.begin.Goals as goal

-- a cell is left over
pub returns-in-Some : goal.returns-in-Some
returns-in-Some c =
    let p = program_of c.args.p.now.program in
    some-then (λ (g : Procedure). AreFound (assertions_of p g c.args.fresh) (value_of c.args.vars) c.args.heap c.in_ok-found.found) _
    (slice_get p.procedures c.args.f.0) c.in_ok-found.ensures
    (λ g e are. inr (inr (
      c.in-Some.location,
      refl,
      begin-left_over (assertions_of p g c.args.fresh) (value_of c.args.vars) c.args.heap c.in_ok-found.found c.args.at.now c.in-Some.location are
          c.requires.all c.in-Some.ensures.some,
    )))

-- the procedure starts
pub new-requires-clause-starts : goal.new-requires-clause-starts
new-requires-clause-starts c =
    let p = program_of c.args.p.now.program in
    let within = length-map c.args.p.now.program.procedures.items procedure_of in
    let here = there-at p.procedures c.args.f.0 (omega (arith, c.requires.there, within)) in
    let g = here.0 in
    let are = some-holds (λ (h : Procedure). AreFound (assertions_of p h c.args.fresh) (value_of c.args.vars) c.args.heap c.in_ok-found.found)
    (slice_get p.procedures c.args.f.0) g here.1 c.in_ok-found.ensures in
    let fits = some-holds (λ (h : Procedure). Fits p h c.args.vars) (slice_get p.procedures c.args.f.0) g here.1 c.requires.fits in
    let formed = c.args.p.now.program.formed.procedures c.args.f.0 g here.1 in
    begin-starts p c.args.f g c.args.fresh c.args.vars c.args.heap c.in_ok-found.found.parts.items here.1
    (omega (arith, formed.declared)) c.requires.free c.requires.other c.requires.suits fits c.requires.width are.footprints are.apart.distinct
    (begin-all (assertions_of p g c.args.fresh) (value_of c.args.vars) c.args.heap c.in_ok-found.found c.args.at.now are c.requires.all
    c.in_default.ensures.none)

pub returns : goal.returns
returns c =
    let p = program_of c.args.p.now.program in
    let within = length-map c.args.p.now.program.procedures.items procedure_of in
    some-then (λ (g : Procedure). Fits p g c.args.vars) _ (slice_get p.procedures c.args.f.0) c.requires.fits
    (λ g e fits.
    let are = some-holds (λ (h : Procedure). AreFound (assertions_of p h c.args.fresh) (value_of c.args.vars) c.args.heap c.in_ok-found.found)
    (slice_get p.procedures c.args.f.0) g e c.in_ok-found.ensures in
    let formed = c.args.p.now.program.formed.procedures c.args.f.0 g e in (
      c.new.ensures.vars,
      c.new.ensures.heap,
      subst (λ (parts : Vec Locations Global). StartsWith p c.args.f c.args.fresh c.args.vars c.args.heap parts.items) (sym c.new.ensures.parts)
          (begin-starts p c.args.f g c.args.fresh c.args.vars c.args.heap c.in_ok-found.found.parts.items e
          (omega (arith, formed.declared)) c.requires.free c.requires.other c.requires.suits fits c.requires.width are.footprints are.apart.distinct
          (begin-all (assertions_of p g c.args.fresh) (value_of c.args.vars) c.args.heap c.in_ok-found.found c.args.at.now are c.requires.all
          c.in_default.ensures.none)),
      subst (λ unit. IsFirstUnit c.args.vars c.args.heap unit) (sym c.new.ensures.unit) c.first_unit-unit.ensures,
      c.new.ensures.fresh,
    ))
