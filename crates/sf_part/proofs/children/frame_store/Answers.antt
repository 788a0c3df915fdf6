use Rattle.std.proofs.Common.{◌≡◌, true, cond, None, ap, ◌∙◌, subst, sym}
use Rattle.std.specs.Prelude.{List}
use Rattle.sf_base.specs.HeapStore.{Slot}
use Rattle.sf_core.specs.Program.ProgramView.{program_of}
use Rattle.sf_frame.specs.declared.spot.Spot.{Spot}
use Rattle.sf_frame.specs.Frames.{frame_of}
use Rattle.sf_frame.specs.Stores.{is_among, store_of}
use Rattle.sf_part.proofs.Named.{just-beside, just-copy, just-taken, there-as}
use Rattle.sf_part.proofs.children.frame_store.Goals as goal

pub returns-then-has_some-clause-none : goal.returns-then-has_some-clause-none
returns-then-has_some-clause-none c = λ _ g there part just apart.
    let p = program_of c.args.p.now.program in
    let (slot, among, is) = c.has_some.ensures.some c.if-has_some.true in
    just-taken p (frame_of c.args.frame.now) g (store_of c.args.shared.now.store) part
    (store_of c.args.taken.now) c.in_ok-spots.spots.items (c.in_ok-spots.ensures g there) slot
    (subst (λ (z : List Spot). is_among z slot ≡ true) c.as_slice.ensures.value among) is just apart

pub returns-in-Ok-clause-ok : goal.returns-in-Ok-clause-ok
returns-in-Ok-clause-ok c = λ g there.
    let p = program_of c.args.p.now.program in
    let copy = λ (slot : Slot). c.in-Ok.ensures slot
    ∙ ap (λ (z : List Spot). cond (is_among z slot) (store_of c.args.shared.now.store slot) None)
    c.as_slice-2.ensures.value in (
      just-copy p (frame_of c.args.frame.now) g (store_of c.args.shared.now.store)
          (store_of c.in-Ok.store) c.in_ok-spots.spots.items (c.in_ok-spots.ensures g there) copy
          (there-as p c.args.callee (frame_of c.args.frame.now) c.requires.first.0 g
          (store_of c.args.shared.now.store) c.requires.first.1 there c.requires.first.2),
      just-beside p (frame_of c.args.frame.now) g (store_of c.args.shared.now.store)
          (store_of c.in-Ok.store) c.in_ok-spots.spots.items (c.in_ok-spots.ensures g there) copy
          (store_of c.args.taken.now)
          (λ slot m. c.has_some.ensures.none c.if-has_some.false slot
          (subst (λ (z : List Spot). is_among z slot ≡ true) (sym c.as_slice.ensures.value) m)),
    )
