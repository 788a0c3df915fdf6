use Rattle.std.proofs.Common.{get_or, arith}
use Rattle.std.proofs.lemmas.List.{length-map}
use Rattle.std.proofs.lemmas.List.Elements.{All-contains_itself}
use Rattle.sf_core.specs.Program.ProgramView.{program_of}
use Rattle.sf_core.specs.Program.View.{resource_of}
use Rattle.sf_order.proofs.Rows.{pairs-all, pairs-more}
use Rattle.sf_order.proofs.nested.nesting.Goals as goal

pub add_pairs-requires-clause-before : goal.add_pairs-requires-clause-before
add_pairs-requires-clause-before c = λ k d l.
    ((c.loop-r.invariant.members (get_or c.loop-r.pairs.items k d)).0
    (All-contains_itself c.loop-r.pairs.items k d l)).0

pub loop-r-preserved : goal.loop-r-preserved
loop-r-preserved c = record {
  ordered = c.in_ok-add_pairs.ensures.ordered;
  members =
      pairs-more (program_of c.args.p.now) c.args.p.now.formed c.loop-r.r c.in_ok-row.row.items
      c.loop-r.pairs.items c.add_pairs.new.pairs.items c.in_ok-row.ensures c.loop-r.invariant.members
      (rw c.deref-in-loop-r.ensures.value at c.in_ok-add_pairs.ensures.members);
}

pub returns : goal.returns
returns c =
    rw c.new.ensures
    (pairs-all (program_of c.args.p.now) c.args.p.now.formed c.loop-r.r c.loop-r.pairs.items
    (let all = length-map c.args.p.now.resources.items resource_of in omega (arith, c.loop-r-test.false, all))
    c.loop-r.invariant.ordered c.loop-r.invariant.members)
