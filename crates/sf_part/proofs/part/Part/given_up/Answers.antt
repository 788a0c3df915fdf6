use Rattle.std.proofs.Common.{ap, ◌∙◌, ◌∷◌, refl, subst, sym}
use Rattle.sf_base.proofs.MapSplits.{splits-has_right}
use Rattle.sf_frame.specs.Commons.{common_of}
use Rattle.sf_frame.specs.Stores.{store_of}
use Rattle.sf_frame.specs.declared.frame.Way.TheVariants.{Past}
use Rattle.sf_frame.specs.declared.stack.Change.TheVariants.{GoOn}
use Rattle.sf_heap.specs.Cells.{heap_of}
use Rattle.sf_part.specs.Keeps.{IsWaiting}
use Rattle.sf_part.proofs.Acted.{acted-keeps}
use Rattle.sf_part.proofs.GivenUp.{given-after, given-own, given-unmade}
use Rattle.sf_part.proofs.Performed.{moved-stand}
use Rattle.sf_part.proofs.part.Part.given_up.Goals as goal

pub invariant_of-self : goal.invariant_of-self
invariant_of-self c =
    let less = given-after (common_of c.args.self.now.shared)
    (common_of (record c.args.self.now.shared {
      heap = c.part_off-heap.new.self;
      store = c.cut.new.self;
    }))
    (common_of c.edit.new.shared) (heap_of c.part_off-heap.result) (store_of c.args.share.store)
    c.args.r c.part_off-heap.ensures.heaps c.cut.ensures refl c.edit.ensures.done in
    record {
      kept = acted-keeps c.args.self.now c.next-number.result c.changed.result c.edit.new.shared
          c.spend.new.self c.note.new.log.items
          (c.next-number.ensures ∙ ap (λ z. c.next-number.result ∷ z) (sym c.spend.ensures))
          (λ n there other h. given-unmade (common_of c.args.self.now.shared)
          (common_of c.edit.new.shared) (heap_of c.part_off-heap.result)
          (store_of c.args.share.store) c.args.r n less h)
          (subst (λ z. IsWaiting z → ⊥) (sym c.changed.ensures) (λ h. h)) c.note.ensures;
      own = given-own c.args.self.now.task c.args.self.now.shared c.edit.new.shared
          (heap_of c.part_off-heap.result) (store_of c.args.share.store) c.args.r less
          c.args.self.now.own;
    }

pub returns-clause-given : goal.returns-clause-given
returns-clause-given c =
    let less = given-after (common_of c.args.self.now.shared)
    (common_of (record c.args.self.now.shared {
      heap = c.part_off-heap.new.self;
      store = c.cut.new.self;
    }))
    (common_of c.edit.new.shared) (heap_of c.part_off-heap.result) (store_of c.args.share.store)
    c.args.r c.part_off-heap.ensures.heaps c.cut.ensures refl c.edit.ensures.done in (
      c.next-number.result,
      c.next-number.ensures,
      record {
        resource = refl;
        is_share = refl;
        at = c.part_off-heap.ensures.locations;
        stamp = refl;
        task = refl;
        stand = moved-stand (GoOn Past) c.replace-stand.ensures.value c.changed.ensures;
        heap = less.heap;
        store = less.store;
        held = less.held;
        supply = c.spend.ensures;
        clock = refl;
        keeps = refl;
        given = refl;
        blank = refl;
        log = c.note.ensures;
      },
    )

pub returns-clause-width : goal.returns-clause-width
returns-clause-width c = λ count wide. c.edit.ensures.width count
    (λ location values e. wide location values
    (splits-has_right location values c.part_off-heap.ensures.parts e))
