use Rattle.std.specs.List.{AllByRecursion}
use Rattle.std.proofs.Common.{Err, ap, ◌∙◌, ◌+◌, ◌≡◌, ◌∷◌, length, refl, reverse, subst, sym, arith}
use Rattle.std.proofs.lemmas.List.{reverse-reverse}
use Rattle.sf_core.specs.Program.ProgramView.{program_of}
use Rattle.sf_frame.specs.Commons.{common_of}
use Rattle.sf_frame.specs.Frames.{room_of}
use Rattle.sf_frame.specs.declared.stack.Change.TheVariants.{Return}
use Rattle.sf_foot.specs.Starting.{HasWidth}
use Rattle.sf_part.specs.Checked.Handing.{Hands, HaveStamp, timed_of}
use Rattle.sf_part.specs.Given.{IsContentOf}
use Rattle.sf_part.specs.Steps.{AreFrom}
use Rattle.sf_part.specs.Timed.{TimedContent}
use Rattle.sf_part.specs.declared.content.Content.{Content}
use Rattle.sf_part.specs.declared.fault.PartFault.TheVariants.{NoFootprint}
use Rattle.sf_part.specs.Keeps.{IsWaiting}
use Rattle.sf_part.proofs.Acted.{acted-keeps}
use Rattle.sf_part.proofs.HandedOut.{hands-held, hands-none, hands-rest, hands-unmade}
use Rattle.sf_part.proofs.Performed.{moved-stand}
use Rattle.sf_part.proofs.Unchanged.{still-kept, still-own, still-part}
use Rattle.sf_part.proofs.part.Part.settled.Goals as goal

pub give_from-requires-clause-apart : goal.give_from-requires-clause-apart
give_from-requires-clause-apart c = c.new-found.ensures.apart c.args.self.now.shared.heap

pub invariant_of-self : goal.invariant_of-self
invariant_of-self c =
    let a = c.args.self.now in
    let same = c.in-Err.ensures.err in
    record { kept = still-kept a c.give_from.new.shared same; own = still-own a c.give_from.new.shared same }

pub returns-in-Err-clause-none : goal.returns-in-Err-clause-none
returns-in-Err-clause-none c = λ e.
    let fault : c.in-Err.fault ≡ NoFootprint = cc in
    hands-none (program_of c.args.p.now.program) c.args.self.now c.new-found.result
    c.new-found.ensures.parts (c.in-Err.ensures.none (ap Err fault))

pub returns-in-Err-clause-err : goal.returns-in-Err-clause-err
returns-in-Err-clause-err c =
    still-part c.args.self.now c.give_from.new.shared c.in-Err.ensures.err

pub invariant_of-self-2 : goal.invariant_of-self-2
invariant_of-self-2 c =
    let given = c.in-Ok.ensures.ok in
    let rest = hands-rest (common_of c.args.self.now.shared) (common_of c.give_from.new.shared)
    (common_of c.edit.new.shared) (timed_of given.contents) (room_of c.args.room) given.hands
    c.edit.ensures.done in
    record {
      kept = acted-keeps c.args.self.now c.next-number.result c.changed.result c.edit.new.shared
          c.spend.new.self c.note.new.log.items
          (c.next-number.ensures ∙ ap (λ z. c.next-number.result ∷ z) (sym c.spend.ensures))
          (λ n there other h. hands-unmade (common_of c.args.self.now.shared)
          (common_of c.edit.new.shared) (timed_of given.contents) (room_of c.args.room) n rest h)
          (subst (λ z. IsWaiting z → ⊥) (sym c.changed.ensures) (λ h. h)) c.note.ensures;
      own = hands-held c.args.self.now.task c.edit.new.shared rest.held;
    }

pub returns-clause-ok : goal.returns-clause-ok
returns-clause-ok c =
    let p = program_of c.args.p.now.program in
    let given = c.in-Ok.ensures.ok in
    let rest = hands-rest (common_of c.args.self.now.shared) (common_of c.give_from.new.shared)
    (common_of c.edit.new.shared) (timed_of given.contents) (room_of c.args.room) given.hands
    c.edit.ensures.done in
    let same : c.reverse.new.self.items ≡ given.contents =
    c.reverse.ensures.items ∙ ap reverse given.is ∙ reverse-reverse given.contents in (
      c.next-number.result,
      c.next-number.ensures,
      record {
        in_order = subst (λ z. AreFrom 0 (timed_of z)) (sym same) given.in_order;
        each = ap length same ∙ (let h = given.each in omega arith);
        exactly = subst
            (λ z. AllByRecursion (λ (k : TimedContent). IsContentOf p k.content) (timed_of z))
            (sym same) given.exactly;
        stamps = subst (λ z. HaveStamp (c.args.self.now.clock + 1) (timed_of z)) (sym same)
            given.stamps;
        left = rest.left;
        hands = subst (λ z. Hands (common_of c.args.self.now.shared).heap
            (common_of c.args.self.now.shared).store (timed_of z) (common_of c.edit.new.shared).heap
            rest.left) (sym same) rest.hands;
        store = rest.store;
        held = rest.held;
        task = refl;
        stand = moved-stand Return c.replace-stand.ensures.value c.changed.ensures;
        supply = c.spend.ensures;
        clock = refl;
        keeps = refl;
        given = refl;
        blank = refl;
        log = c.note.ensures;
        width = λ count w.
            let wide = given.width count w in (
              c.edit.ensures.width count wide.0,
              subst (λ z. AllByRecursion (λ (k : Content). HasWidth count k.heap) z) (sym same)
                  wide.1,
            );
      },
    )
