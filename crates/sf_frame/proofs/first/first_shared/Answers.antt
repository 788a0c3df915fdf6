use Rattle.std.proofs.Common.{◌≡◌, ◌∙◌, ap, arith, refl, sym}
use Rattle.std.proofs.lemmas.List.{length-map}
use Rattle.std.proofs.lemmas.Option.{slice_get_within}
use Rattle.sf_core.specs.Program.View.{procedure_of}
use Rattle.sf_base.proofs.Options.{some-once}
use Rattle.sf_core.specs.Machine.Start.{Beginning, first_count, initial_config}
use Rattle.sf_core.specs.Machine.Step.{procedure_at}
use Rattle.sf_core.specs.Program.ProgramView.{program_of}
use Rattle.sf_foot.specs.Starting.{IsBeginning, store_of}
use Rattle.sf_heap.specs.Cells.{heap_of}
use Rattle.sf_frame.specs.Checked.Firsts.{beginning_at}
use Rattle.sf_frame.specs.Commons.{held_of}
use Rattle.sf_frame.proofs.Firsts.{beginning_kept, common_as, holders_same, store_all}
use Rattle.sf_frame.proofs.first.first_shared.Goals as goal

pub first_count-requires-clause-there : goal.first_count-requires-clause-there
first_count-requires-clause-there c =
    let s = c.requires.1 in
    let within = slice_get_within (program_of c.args.p.now).procedures c.args.f.0 s.procedure
    s.there in
    omega (arith, within, length-map c.args.p.now.procedures.items procedure_of)

pub returns-clause-common : goal.returns-clause-common
returns-clause-common c = λ g b at kind.
    let p = program_of c.args.p.now in
    let s = c.requires.1 in
    let rs = c.args.p.now.resources.items in
    let init = c.first_init-init.result in
    let begins = λ (z : Beginning) (k : IsBeginning p c.args.fresh z).
    ap (beginning_at p) c.first_init-init.ensures.init
    ∙ beginning_kept c.args.p.now c.args.fresh z k in
    let same : beginning_at p init ≡ s.beginning = begins s.beginning s.kind in
    let kinds : s.beginning ≡ b = sym same ∙ begins b kind in
    let procedures : s.procedure ≡ g =
    some-once (procedure_at p c.args.f) s.procedure g s.there at in
    common_as p c.args.f s.procedure s.beginning c.args.vars.now c.args.heap (record {
      heap = c.args.heap;
      store = c.in_ok-store.store;
      held = c.in_ok-held.held;
      alloc = c.args.alloc;
    }) refl
    (λ slot. c.in_ok-store.ensures slot
    ∙ store_all p c.args.f s.beginning s.procedure c.args.vars.now
    (heap_of c.args.heap) s.config s.starts
    c.first_count.result rs (c.first_count.ensures.count s.procedure s.there
    ∙ ap (λ (z : Beginning). first_count z s.procedure) same) refl slot)
    (holders_same p rs init s.beginning c.held_count.result
    (held_of c.in_ok-held.held) refl same
    c.first_count.ensures.found c.held_count.ensures c.in_ok-held.ensures)
    ∙ (λ i. (initial_config (kinds i) p c.args.f (procedures i)
    (store_of (kinds i) (procedures i) c.args.vars.now) (heap_of c.args.heap)).common)
