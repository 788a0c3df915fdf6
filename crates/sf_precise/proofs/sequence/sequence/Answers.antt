use Rattle.std.proofs.Common.{◌∙◌, length, sym, refl, arith}
use Rattle.std.proofs.lemmas.Option.{slice_get_read}
use Rattle.std.proofs.lemmas.Slice.Zip.{AllZip-long}
use Rattle.sf_core.specs.Program.View.{conjunct_of}
use Rattle.sf_precise.specs.Checked.Waits.{known_outside}
use Rattle.sf_precise.proofs.Sequences.{empty-has_none, end-order, end-stuck, lacking-within, none-read, popped-within, progress-starts, progress-within, step-read}
use Rattle.sf_precise.proofs.sequence.sequence.Goals as goal

pub begin-requires : goal.begin-requires
begin-requires c = record {
  parts = rw c.deref.ensures.value (AllZip-long _ c.args.cs.now c.args.parts.items c.requires.prepared);
  outer = c.requires.outer;
}

pub loop-i-init : goal.loop-i-init
loop-i-init c =
    rw c.new-taken.ensures.items
    (progress-starts conjunct_of (known_outside c.args.start) c.args.cs.now c.args.parts.items
    c.in_ok-work.work c.requires.prepared (rw c.deref.ensures.value at c.in_ok-work.ensures))

pub index_mut-requires : goal.index_mut-requires
index_mut-requires c =
    let h = popped-within conjunct_of (known_outside c.args.start) c.args.cs.now c.args.parts.items
    c.in-Some.i c.loop-i.work c.take_first.new.ready c.loop-i.parts.items c.loop-i.taken.items
    c.requires.prepared c.loop-i.invariant
    (record {
      was = c.in-Some.ensures.member;
      gone = c.in-Some.ensures.updates;
      least = c.in-Some.ensures.least;
    }) in
    let s = c.loop-i.invariant.size in
    omega (arith, c.loop-i.parts.ok.0)

pub unreachable-requires : goal.unreachable-requires
unreachable-requires c =
    none-read conjunct_of (known_outside c.args.start) c.args.cs.now c.args.parts.items c.in-Some.i
    c.loop-i.work c.take_first.new.ready c.loop-i.parts.items c.loop-i.taken.items c.requires.prepared
    c.loop-i.invariant
    (record {
      was = c.in-Some.ensures.member;
      gone = c.in-Some.ensures.updates;
      least = c.in-Some.ensures.least;
    })
    c.index_mut.result.now c.index_mut.ensures.value (sym c.take.ensures.value ∙ c.in_default-take.is)

pub learn_from-requires : goal.learn_from-requires
learn_from-requires c =
    progress-within conjunct_of (known_outside c.args.start) c.args.cs.now c.args.parts.items c.loop-i.work
    c.loop-i.parts.items c.loop-i.taken.items c.loop-i.invariant

pub loop-i-preserved : goal.loop-i-preserved
loop-i-preserved c =
    step-read conjunct_of (known_outside c.args.start) c.args.cs.now c.args.parts.items c.in-Some.i
    c.loop-i.work c.take_first.new.ready c.loop-i.parts.items c.loop-i.taken.items c.requires.prepared
    c.loop-i.invariant
    (record {
      was = c.in-Some.ensures.member;
      gone = c.in-Some.ensures.updates;
      least = c.in-Some.ensures.least;
    })
    c.index_mut.result.now c.index_mut.ensures.value c.in-Some-take.c
    (sym c.take.ensures.value ∙ c.in-Some-take.is) c.learn_from.new.self c.in_ok-learn_from.ensures
    c.take.new.self c.push.new.items.items c.in_ok-push.ensures

pub offset_bounds-cs-i : goal.offset_bounds-cs-i
offset_bounds-cs-i c =
    let first = rw c.deref-2.ensures.value at c.in-Some-first_lacking.ensures in
    let h = lacking-within conjunct_of (known_outside c.args.start) c.args.cs.now c.args.parts.items
    c.loop-i.work c.loop-i.parts.items c.loop-i.taken.items c.requires.prepared c.loop-i.invariant
    c.in-Some-first_lacking.i first.0 in
    omega arith

pub bounds-cs-i : goal.bounds-cs-i
bounds-cs-i c =
    let first = rw c.deref-2.ensures.value at c.in-Some-first_lacking.ensures in
    lacking-within conjunct_of (known_outside c.args.start) c.args.cs.now c.args.parts.items c.loop-i.work
    c.loop-i.parts.items c.loop-i.taken.items c.requires.prepared c.loop-i.invariant
    c.in-Some-first_lacking.i first.0

pub returns-in-Some-first_lacking-clause-undetermined : goal.returns-in-Some-first_lacking-clause-undetermined
returns-in-Some-first_lacking-clause-undetermined c =
    let first = rw c.deref-2.ensures.value at c.in-Some-first_lacking.ensures in
    let h = lacking-within conjunct_of (known_outside c.args.start) c.args.cs.now c.args.parts.items
    c.loop-i.work c.loop-i.parts.items c.loop-i.taken.items c.requires.prepared c.loop-i.invariant
    c.in-Some-first_lacking.i first.0 in
    rw c.place_of.ensures
    (end-stuck conjunct_of (known_outside c.args.start) c.args.cs.now c.args.parts.items c.loop-i.work
    c.loop-i.parts.items c.loop-i.taken.items c.requires.prepared c.loop-i.invariant
    (empty-has_none c.loop-i.work.ready c.take_first.result c.in_default.is c.take_first.ensures.variant.1)
    c.in-Some-first_lacking.i c.index-cs-i.result
    (slice_get_read c.args.cs.now (length c.args.cs.now) c.in-Some-first_lacking.i c.index-cs-i.result refl
    h c.index-cs-i.is) first)

pub returns-clause-ordered : goal.returns-clause-ordered
returns-clause-ordered c =
    end-order conjunct_of (known_outside c.args.start) c.args.cs.now c.args.parts.items c.loop-i.work
    c.loop-i.parts.items c.loop-i.taken.items c.requires.prepared c.loop-i.invariant
    (empty-has_none c.loop-i.work.ready c.take_first.result c.in_default.is c.take_first.ensures.variant.1)
    (rw c.deref-2.ensures.value at c.in-None.ensures)
