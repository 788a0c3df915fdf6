-- What the condition of a region reads is there, with the content of its resource in hand.
-- Names: `reads-LAW`.
use Rattle.std.proofs.Common.{ap, ◌∙◌, subst, inl}
use Rattle.sf_base.proofs.MapSplits.{map-same}
use Rattle.sf_core.specs.Assertions.Sat.{IsTrueOf}
use Rattle.sf_core.specs.Machine.Config.{evaluate}
use Rattle.sf_core.specs.Machine.Whole.{running}
use Rattle.sf_core.specs.Program.Formed.{IsFormed}
use Rattle.sf_core.specs.Program.Syntax.{with, Program}
use Rattle.sf_frame.specs.Stores.{together}
use Rattle.sf_part.specs.Checked.Lemmas.Shapes.{next-shape}
use Rattle.sf_part.proofs.Entries.{enter-slots}
use Rattle.sf_part.specs.declared.content.Content.{Content}
use Rattle.sf_part.specs.declared.part.Part.{Part}
use Rattle.sf_part.specs.Contents.{content_of}
use Rattle.sf_part.specs.Of.{StandIsOf}
use Rattle.sf_part.specs.PartView.{part_of}
use Rattle.sf_region.proofs.Waits.{NotTrue, ReadsThere}
use Rattle.sf_region.specs.Calls.{IsRefused}

pub reads-there : (p : Program) → IsFormed p → (a : Part) (k : Content) → IsRefused p a k
    → ReadsThere (part_of a).part k
reads-there p formed a k h f test (frames, stand, guard) both hand slot read =
    let now = stand ∙ ap running (next-shape frames f guard.below
    (with guard.place k.resource test guard.body) guard.rest guard.is) in
    let of = subst (StandIsOf p (part_of a).part.store) now h.of.is.stands in
    enter-slots p formed (part_of a).part.store both.store k h.is_in hand.store f guard.place test
    guard.body guard.rest guard.below of slot (inl read)

pub reads-false : (p : Program) (a : Part) (k : Content) → IsRefused p a k
    → NotTrue (part_of a).part k
reads-false p a k h f test stands both hand is_true = h.false_there f test stands
    (subst (λ z. IsTrueOf (evaluate f.slots z) test)
    (map-same both.store (together (part_of a).part.store (content_of k).content.store)
    hand.store.is) is_true)
