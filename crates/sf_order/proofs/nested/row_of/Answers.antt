use Rattle.std.proofs.Common.{◌≡◌, ◌∙◌, Contains, List, map, take, ap, sym, subst, refl}
use Rattle.std.proofs.lemmas.List.{length-map, take_all}
use Rattle.sf_base.proofs.Lists.{map-more}
use Rattle.sf_base.proofs.Members.{contains-map}
use Rattle.sf_core.specs.Program.Heads.{Site}
use Rattle.sf_core.specs.Program.ProgramView.{program_of}
use Rattle.sf_core.specs.Program.Sites.{site_of}
use Rattle.sf_core.specs.Program.View.{resource_of}
use Rattle.sf_calls.specs.Checked.Listed.{is_entered}
use Rattle.sf_calls.specs.Checked.Lemmas.Decided.{entered_is}
use Rattle.sf_order.proofs.Rows.{row-marked, row-skipped, site-callees, site-entered}
use Rattle.sf_order.proofs.nested.row_of.Goals as goal
use Rattle.sf_order.proofs.nested.row_of.Goals.{then-is_entered, else-is_entered}

pub mark_entered-requires-clause-callees : goal.mark_entered-requires-clause-callees
mark_entered-requires-clause-callees c =
    site-callees (program_of c.args.p.now) c.args.p.now.formed c.args.c.now c.requires.sets
    (site_of c.s-item.result)
    (subst (λ (ss : List Site). Contains ss (site_of c.s-item.result)) c.requires.all
    (contains-map site_of c.args.all.now c.s-item.result (c.loop-s.s-index, c.loop-s-test.true, sym c.s-item.is)))

pub mark_entered-requires-clause-within : goal.mark_entered-requires-clause-within
mark_entered-requires-clause-within c =
    rw (c.loop-s.invariant.size, sym (length-map c.args.p.now.resources.items resource_of))
    (site-entered (program_of c.args.p.now) c.args.p.now.formed c.args.c.now c.requires.sets
    (site_of c.s-item.result)
    (subst (λ (ss : List Site). Contains ss (site_of c.s-item.result)) c.requires.all
    (contains-map site_of c.args.all.now c.s-item.result (c.loop-s.s-index, c.loop-s-test.true, sym c.s-item.is))))

pub loop-s-preserved : goal.loop-s-preserved
loop-s-preserved c =
    let there = subst (λ (ss : List Site). Contains ss (site_of c.s-item.result)) c.requires.all
    (contains-map site_of c.args.all.now c.s-item.result (c.loop-s.s-index, c.loop-s-test.true, sym c.s-item.is)) in
    let more = map-more site_of c.args.all.now c.args.all.now c.loop-s.s-index c.s-item.result
    (map site_of (take c.loop-s.s-index c.args.all.now)) (site_of c.s-item.result) refl c.loop-s-test.true
    c.s-item.is refl refl in
    let same : c.is_entered.result ≡ is_entered c.args.r c.s-item.result.entered.items =
    c.is_entered.ensures ∙ ap (is_entered c.args.r) c.deref.ensures.value in
    elim c.if-is_entered.branch [
      | then-is_entered w ↦
          rw w.row-is (record {
            size = w.mark_entered.ensures.size ∙ c.loop-s.invariant.size;
            marked =
                rw (sym more)
                (row-marked (program_of c.args.p.now) c.args.p.now.formed c.args.c.now c.requires.sets c.args.r
                (map site_of (take c.loop-s.s-index c.args.all.now)) (site_of c.s-item.result) there
                c.loop-s.row.items c.loop-s.invariant.marked w.mark_entered.new.row.items
                ((entered_is c.args.r c.s-item.result.entered.items).0 (sym same ∙ w.if-is_entered.true))
                w.mark_entered.ensures);
          })
      | else-is_entered w ↦
          rw w.row-is (record {
            size = c.loop-s.invariant.size;
            marked =
                rw (sym more)
                (row-skipped (program_of c.args.p.now) c.args.p.now.formed c.args.c.now c.requires.sets c.args.r
                (map site_of (take c.loop-s.s-index c.args.all.now)) (site_of c.s-item.result) there
                c.loop-s.row.items c.loop-s.invariant.marked
                (λ e.
                let yes = (entered_is c.args.r c.s-item.result.entered.items).1 e in
                let no = sym same ∙ w.if-is_entered.false in
                absurd (cc)));
          })
    ]

pub returns : goal.returns
returns c =
    let all = ap (map site_of) (take_all c.loop-s.s-index c.args.all.now c.loop-s-test.false) ∙ c.requires.all in
    record {
      size = c.loop-s.invariant.size ∙ sym (length-map c.args.p.now.resources.items resource_of);
      marked = rw all at c.loop-s.invariant.marked;
    }
