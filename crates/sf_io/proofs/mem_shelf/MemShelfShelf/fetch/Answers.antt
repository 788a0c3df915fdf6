use Rattle.std.proofs.Common.{◌<◌, inl, ⊎_elim, arith}
use Rattle.sf_io.specs.Shelf.{failures_of}
use Rattle.sf_io.specs.MemShelf.{failed_of}
use Rattle.sf_io.proofs.FailedNames.{failures_of-append_same, failures_of-append_other, failures_of-append_le, same_or_more}
use Rattle.sf_io.proofs.mem_shelf.MemShelfShelf.fetch.Goals as goal

pub returns-clause-failed : goal.returns-clause-failed
returns-clause-failed c = λ failed.
    let more : failures_of (failed_of c.args.self.now) c.args.name.now < failures_of (failed_of c.give.new.self) c.args.name.now =
    rw (c.give.ensures.fault failed, failures_of-append_same) (omega arith) in
    inl more

pub returns-clause-others : goal.returns-clause-others
returns-clause-others c = λ other differ.
    ⊎_elim (λ same. rw same) (λ more. rw more (failures_of-append_other _ _ _ differ))
    (same_or_more _ _ _ _ c.give.ensures.fault c.give.ensures.no_fault)

pub returns-clause-counts : goal.returns-clause-counts
returns-clause-counts c = λ any.
    ⊎_elim (λ same. rw same (omega arith)) (λ more. rw more (failures_of-append_le _ _ _))
    (same_or_more _ _ _ _ c.give.ensures.fault c.give.ensures.no_fault)
