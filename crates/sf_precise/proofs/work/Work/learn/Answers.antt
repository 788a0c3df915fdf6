use Rattle.std.proofs.Common.{sym, ap, ◌∙◌}
use Rattle.sf_precise.specs.Checked.Work.{items_or_none}
use Rattle.sf_precise.proofs.Learning.{learns-one, learns-unwaited, row-within}
use Rattle.sf_precise.proofs.work.Work.learn.Goals as goal

pub serve_all-requires : goal.serve_all-requires
serve_all-requires c =
    rw c.deref.ensures.value
    (row-within c.args.n c.args.self.now c.in-Some.jobs.items c.requires
    (ap items_or_none (sym c.in-Some.ensures.value)))

pub returns-in_ok-serve_all : goal.returns-in_ok-serve_all
returns-in_ok-serve_all c =
    learns-one c.args.n c.args.self.now c.remove.new.self c.in-Some.jobs.items c.serve_all.new.self
    c.in-Some.ensures.updates (ap items_or_none (sym c.in-Some.ensures.value))
    (rw c.deref.ensures.value at c.in_ok-serve_all.ensures)

pub returns-in_default : goal.returns-in_default
returns-in_default c =
    learns-unwaited c.args.n c.args.self.now c.remove.new.self c.remove.ensures.updates
    (sym c.remove.ensures.value ∙ c.in_default.is)
