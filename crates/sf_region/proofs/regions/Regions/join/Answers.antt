use Rattle.std.proofs.Common.{rules, [], ◌∷◌, ◌++◌, ◌≡◌, ◌∙◌, List, ap, arith, sym, subst, refl}
use Rattle.atomic_table.specs.Table.{Me}
use Rattle.sf_base.specs.declared.path.Turn.TheVariants.{Left as left_turn, Right as right_turn}
use Rattle.sf_part.specs.declared.part.Part.{Part}
use Rattle.sf_part.specs.PartView.{part_of}
use Rattle.sf_part.specs.Steps.{IsChild}
use Rattle.sf_region.proofs.Asks.{joins-seat}
use Rattle.sf_region.proofs.Ends.{taken-ended}
use Rattle.sf_region.specs.declared.views.View.{View}
use Rattle.sf_region.specs.Holdings.{entered, taken}
use Rattle.sf_region.specs.Plays.{AreSeparate, Known, hollow, joined, moved, with_kids}
use Rattle.sf_region.specs.Rule.{Slot, holding}
use Rattle.sf_region.specs.Waits.{program_in}
use Rattle.sf_region.proofs.regions.Regions.join.Goals as goal

pub join_seat-requires : goal.join_seat-requires
join_seat-requires c =
    let n = c.note_word.ensures.notes.0 in
    let may = c.requires.left in (
      search rules,
      search rules,
      ap (λ (m : Me Slot View). m.1) n ∙ taken-ended (program_in c.args.self.now.1) _ c.args.left
          c.args.seat.now.1 left_turn c.args.left_part.now c.left.inside.seat.me c.left.view_is
          c.left.invariant.1 may,
      (let w = c.self.inside.wide in omega arith),
      joins-seat c.part_laws.ensures _ _ c.seat.inside.seat.me.0 _ c.note_word.new.seat.me.0 c.seat.invariant.0
          (ap (λ (m : Me Slot View). m.0.live) n ∙ c.left.invariant.0)
          (ap (λ (m : Me Slot View). m.0.kids) n) (ap (λ (m : Me Slot View). m.0.hand) n)
          (ap (λ (m : Me Slot View). entered (part_of m.0.part).part.stand) n
          ∙ ap entered may.ended),
    )

pub join_seat-requires-2 : goal.join_seat-requires-2
join_seat-requires-2 c =
    let n = c.note_word-2.ensures.notes.0 in
    let may = c.requires.right in (
      search rules,
      search rules,
      ap (λ (m : Me Slot View). m.1) n ∙ taken-ended (program_in c.args.self.now.1) _ c.args.right
          c.args.seat.now.1 right_turn c.args.right_part.now c.right.inside.seat.me
          c.right.view_is c.right.invariant.1 may,
      (let w = c.self.inside.wide in omega arith),
      joins-seat c.part_laws.ensures _ _ c.join_seat.new.seat.me.0 _ c.note_word-2.new.seat.me.0
          (ap (λ (m : Me Slot View). m.0.live) c.join_seat.ensures.2 ∙ c.seat.invariant.0)
          (ap (λ (m : Me Slot View). m.0.live) n ∙ c.right.invariant.0)
          (ap (λ (m : Me Slot View). m.0.kids) n) (ap (λ (m : Me Slot View). m.0.hand) n)
          (ap (λ (m : Me Slot View). entered (part_of m.0.part).part.stand) n
          ∙ ap entered may.ended),
    )

pub invariant_of-seat : goal.invariant_of-seat
invariant_of-seat c =
    let m : Me Slot View = c.seat.inside.seat.me in
    let kids : List Part = (m.0.kids ++ c.note_word.new.seat.me.0.part ∷ [])
    ++ c.note_word-2.new.seat.me.0.part ∷ [] in
    let l = c.look_word.ensures.looks.0 in
    let t = c.join_seat-2.ensures.2 in
    let o = c.join_seat.ensures.2 in
    let view : c.look_word.new.seat.me.0 ≡ with_kids kids m.0 = ap (λ (k : Me Slot View). k.0) l
    ∙ (ap (λ (k : Me Slot View). k.0) t
    ∙ ap (λ (k : Me Slot View). joined k.0 c.note_word-2.new.seat.me.0) o) in
    let slots : c.look_word.new.seat.me.1 ≡ m.1 = ap (λ (k : Me Slot View). k.1) l
    ∙ (ap (λ (k : Me Slot View). k.1) t ∙ ap (λ (k : Me Slot View). k.1) o) in (
      ap (λ (v : View). v.live) view ∙ c.seat.invariant.0,
      slots ∙ (c.seat.invariant.1 ∙ ap (λ (v : View). hollow (taken (holding v))) (sym view)),
      c.seat.invariant.2 ∙ sym (ap (λ (v : View). (part_of v.part).part.task) view),
      c.seat.invariant.3 ∙ sym (ap (λ (v : View). v.part.clock) view),
      c.seat.invariant.4 ∙ sym (ap (λ (v : View). v.missed) view),
      c.seat.invariant.5 ∙ sym (ap (λ (v : View). v.misses) view),
      subst Known (sym view) c.seat.invariant.6,
    )

pub returns-clause-separate : goal.returns-clause-separate
returns-clause-separate c =
    let v : View = c.args.seat.now.1 in
    let one : Part = c.args.left_part.now in
    let two : Part = c.args.right_part.now in
    let n = c.note_word.ensures.notes.0 in
    let k = c.note_word-2.ensures.notes.0 in
    let w : View = c.join_seat-2.new.seat.me.0 in
    let view : w ≡ with_kids (one ∷ two ∷ []) v =
    ap (λ (m : Me Slot View). m.0) c.join_seat-2.ensures.2
    ∙ ((λ i. joined (c.join_seat.ensures.2 i).0 (k i).0)
    ∙ ((λ i. joined (joined (c.seat.view_is i).1 (n i).0) (moved two [] c.right.inside.seat.me.0))
    ∙ (λ i. with_kids ((c.requires.alone i ++ one ∷ []) ++ two ∷ []) v))) in
    let looked : (a b : Part) → w.kids ≡ a ∷ b ∷ []
    → IsChild (part_of w.part).part left_turn (part_of a).part
    → IsChild (part_of w.part).part right_turn (part_of b).part
    → AreSeparate (part_of w.part) (part_of a) (part_of b) = c.look_word.ensures.looks.1 in
    subst (λ (u : View). (a b : Part) → u.kids ≡ a ∷ b ∷ []
    → IsChild (part_of u.part).part left_turn (part_of a).part
    → IsChild (part_of u.part).part right_turn (part_of b).part
    → AreSeparate (part_of u.part) (part_of a) (part_of b)) view looked one two refl
    c.requires.left.child c.requires.right.child
