use Rattle.std.proofs.Common.{Err, ap, ◌≡◌}
use Rattle.sf_core.specs.Program.ProgramView.{program_of}
use Rattle.sf_frame.specs.Frames.{frame_of}
use Rattle.sf_frame.specs.Stores.{store_of}
use Rattle.sf_part.specs.declared.fault.PartFault.TheVariants.{NoFootprint}
use Rattle.sf_part.proofs.LentFound.{lent-no_first, lent-no_second, lent-shares}
use Rattle.sf_part.proofs.children.lent_shares.Goals as goal

pub next_lent-requires-clause-apart : goal.next_lent-requires-clause-apart
next_lent-requires-clause-apart c = c.new-found.ensures.apart c.args.shared.now.heap

pub returns-in-Err-clause-none : goal.returns-in-Err-clause-none
returns-in-Err-clause-none c = λ e g k there also.
    let p = program_of c.args.p.now.program in
    let fault : c.in-Err.fault ≡ NoFootprint = cc in
    lent-no_first p (frame_of c.args.left.now) (frame_of c.args.right.now) g k c.args.shared.now
    (store_of c.new-nothing.result) c.new-found.result c.new-found.ensures.parts
    c.new-nothing.ensures (c.in-Err.ensures.none (ap Err fault) g there)

pub returns-in-Err-next_lent-clause-none : goal.returns-in-Err-next_lent-clause-none
returns-in-Err-next_lent-clause-none c = λ e g k there also.
    let p = program_of c.args.p.now.program in
    let fault : c.in-Err-next_lent.fault ≡ NoFootprint = cc in
    lent-no_second p (frame_of c.args.left.now) (frame_of c.args.right.now) g k
    c.args.shared.now (store_of c.new-nothing.result) c.new-found.result c.next_lent.new.found
    c.in-Ok.store c.new-found.ensures.parts (c.in-Ok.ensures.ok g there)
    (c.in-Err-next_lent.ensures.none (ap Err fault) k also)

pub returns-clause-ok : goal.returns-clause-ok
returns-clause-ok c = λ g k there also.
    let p = program_of c.args.p.now.program in
    lent-shares p (frame_of c.args.left.now) (frame_of c.args.right.now) g k c.args.shared.now
    (store_of c.new-nothing.result) c.new-found.result c.next_lent.new.found c.in-Ok.store
    c.new-found.ensures.parts (c.in-Ok.ensures.ok g there) c.next_lent-2.new.found
    c.in-Ok-next_lent.store (c.in-Ok-next_lent.ensures.ok k also) c.pop.new.self.items
    c.pop-2.new.self.items c.in-Some-pop.left_at c.in-Some.right_at c.in-Some.ensures.items
    c.in-Some-pop.ensures.items
