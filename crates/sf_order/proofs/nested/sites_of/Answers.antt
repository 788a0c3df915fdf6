use Rattle.std.proofs.Common.{◌≡◌, ◌∙◌, ◌++◌, List, [], map, ap, sym, slice_get, Some}
use Rattle.std.proofs.lemmas.Option.{get_or_from_slice_get, slice_get_within}
use Rattle.sf_base.proofs.Lists.{flat_map-more}
use Rattle.sf_base.proofs.Lookup.{get-read_map}
use Rattle.sf_core.specs.Program.Heads.{Site, sites}
use Rattle.sf_core.specs.Program.ProgramView.{program_of}
use Rattle.sf_core.specs.Program.Sites.{site_of}
use Rattle.sf_core.specs.Program.Syntax.{Procedure}
use Rattle.sf_core.specs.Program.View.{block_of, procedure_of}
use Rattle.sf_order.specs.Checked.Rows.{all_sites}
use Rattle.sf_order.proofs.nested.sites_of.Goals as goal

pub loop-h-preserved : goal.loop-h-preserved
loop-h-preserved c =
    let at : slice_get (map procedure_of c.args.p.now.procedures.items) c.loop-h.h-index
    ≡ Some (procedure_of c.h-item.result) =
    get-read_map procedure_of c.args.p.now.procedures.items c.deref-h-items.result.now c.loop-h.h-index
    c.h-item.result c.deref-h-items.ensures.value c.loop-h-test.true c.h-item.is in
    let added : map site_of c.add_sites.new.all.items ≡ map site_of c.loop-h.all.items
    ++ sites [] (block_of c.h-item.result.body.items) =
    c.in_ok-add_sites.ensures
    ∙ ap (λ (ss : List Site). map site_of c.loop-h.all.items ++ ss)
    (c.in_ok-sites.ensures ∙ ap (λ b. sites [] (block_of b)) c.deref.ensures.value) in
    flat_map-more (λ (h : Procedure). sites [] h.body) (map procedure_of c.args.p.now.procedures.items) c.loop-h.h-index
    (procedure_of c.h-item.result) (map site_of c.loop-h.all.items) (map site_of c.add_sites.new.all.items)
    (all_sites (program_of c.args.p.now))
    (slice_get_within (map procedure_of c.args.p.now.procedures.items) c.loop-h.h-index (procedure_of c.h-item.result) at)
    (sym (get_or_from_slice_get (map procedure_of c.args.p.now.procedures.items) c.loop-h.h-index
    (procedure_of c.h-item.result) (procedure_of c.h-item.result) at))
    added c.loop-h.invariant
