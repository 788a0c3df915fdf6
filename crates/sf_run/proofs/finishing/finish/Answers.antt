use Rattle.std.proofs.Common.{◌∷◌, map, subst, sym}
use Rattle.sf_base.specs.HeapStore.{Heap}
use Rattle.sf_core.specs.Machine.Whole.{IsUnion}
use Rattle.sf_part.specs.Parts.{entry_of}
use Rattle.sf_part.specs.PartView.{part_of}
use Rattle.sf_run.specs.Checked.Gathered.{heaps_of}
use Rattle.sf_run.proofs.Ending.{ends-whole}
use Rattle.sf_run.proofs.finishing.finish.Goals as goal

pub returns-clause-ends : goal.returns-clause-ends
returns-clause-ends c = λ w whole. ends-whole c.args.p.now c.args.f w (part_of c.args.part)
    c.args.contents.items c.requires.all whole c.in_ok-vars.vars
    (map entry_of c.in_ok-vars.log.entries.items) c.in_ok-vars.heap c.gather.new.heap
    c.in_ok-vars.ensures c.in_ok-shared.shared c.in_ok-shared.ensures.rows
    (c.in_ok-shared.ensures.heap w.common.heap
    (subst (λ (z : Heap). IsUnion w.common.heap (z ∷ heaps_of c.args.contents.items))
    (sym (c.in_ok-vars.ensures).cells) whole.heap))
    c.in_ok-shared.ensures.wide
