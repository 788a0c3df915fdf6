-- A task that has forked, its two children, and the three at their join.
-- Names: `fork-GOAL`, `join-GOAL`.
use Rattle.std.specs.Prelude.{◌≡◌, ◌≢◌, ◌++◌, [], ◌∷◌, IfErr}
use Rattle.std.specs.Result.{IsErrAnd}
use Rattle.std.specs.declared.result.Result.{Result}
use Rattle.std.specs.declared.result.Result.TheVariants.{Ok, Err}
use Rattle.std.proofs.Common.{sym, ap, ◌∙◌, refl, subst}
use Rattle.atomic_table.specs.Seated.{TableId}
use Rattle.sf_base.specs.declared.path.Turn.{Turn}
use Rattle.sf_base.specs.declared.path.Turn.TheVariants.{Left as left_turn, Right as right_turn}
use Rattle.sf_core.specs.Machine.Step.{Event}
use Rattle.sf_core.specs.Machine.Whole.{numbers, running}
use Rattle.sf_core.specs.Program.Syntax.{Program}
use Rattle.sf_part.specs.Answers.{Answers}
use Rattle.sf_part.specs.Checked.LawsOfGoing.{EndedChildrenMayBeTakenBack, JoinsGoOn, MayBeTakenBack}
use Rattle.sf_part.specs.declared.local.Local.TheVariants.{Done}
use Rattle.sf_part.specs.declared.part.Part.{Part}
use Rattle.sf_part.specs.declared.fault.PartFault.{PartFault}
use Rattle.sf_part.specs.Forking.{HasNoShares}
use Rattle.sf_part.specs.Going.{GoesTo, stays, HaveGoneOn}
use Rattle.sf_part.specs.Joining.{GoesOnIn, MayJoin}
use Rattle.sf_part.specs.Keeps.{Keeps}
use Rattle.sf_part.specs.Lent.{Lends}
use Rattle.sf_part.specs.PartView.{IsPartOf, part_of}
use Rattle.sf_part.specs.Steps.{Forks, IsChild, Joins}
use Rattle.sf_part.specs.Timed.{TimedPart}
use Rattle.sf_region.proofs.Seating.{seated-joined, seated-of, seated-rest}
use Rattle.sf_region.specs.Calls.{MayEnd, MaySplit}
use Rattle.sf_region.specs.Checked.Seated.{IsSeated}
use Rattle.sf_region.specs.declared.views.View.{View}
use Rattle.sf_region.specs.Holdings.{Advance}
use Rattle.sf_region.specs.Meeting.{IsAtRest}
use Rattle.sf_region.specs.Plays.{AreSeparate, moved, with_kids}
use Rattle.sf_region.specs.Rule.{holding, newcomer}
use Rattle.sf_region.specs.Waits.{program_in}

-- a task as contracts see it
abbrev Seen : Type 0
Seen = (TableId × View) × Part

-- the fault that was told is the one that was found
pub returned : {X : Type 0} (r : Result X PartFault) (s e : PartFault) → IsErrAnd r (λ z. z ≡ s)
    → r ≡ Err e → s ≡ e
returned (Ok x) s e h is = absurd h
returned (Err y) s e h is = sym h ∙ subst (λ z. IfErr z (λ q. y ≡ q)) is refl

-- the parent's seat, which has seen the part as it is after the fork
pub fork-parent : (p : Program) (v w : View) (b : Part) → program_in v.begun ≡ p
    → w ≡ moved b [] v → IsPartOf p b → IsSeated w b
fork-parent p v w b here view of =
    seated-rest p w b (ap (λ (z : View). program_in z.begun) view ∙ here) of (record {
      hand = ap (λ (z : View). z.hand) view;
      part = ap (λ (z : View). z.part) view;
      kids = ap (λ (z : View). z.kids) view;
    })

-- a child's, which is new
pub fork-child : (p : Program) (v w : View) (b : Part) → program_in v.begun ≡ p
    → w ≡ newcomer b v.begun → IsPartOf p b → IsSeated w b
fork-child p v w b here view of =
    seated-rest p w b (ap (λ (z : View). program_in z.begun) view ∙ here) of (record {
      hand = ap (λ (z : View). z.hand) view;
      part = ap (λ (z : View). z.part) view;
      kids = ap (λ (z : View). z.kids) view;
    })

-- a task of the program
module _ (p : Program) (z : Seen) (s : TableId × View) (a : Part) (is : (s, a) ≡ z)
    (here : program_in z.0.1.begun ≡ p) (h : IsSeated s.1 a) where
  pub here-in : program_in s.1.begun ≡ p
  here-in = ap (λ (y : Seen). program_in y.0.1.begun) is ∙ here

  pub of-in : IsPartOf p a
  of-in = seated-of p s.1 a here-in h

  -- the fork that was made
  pub fork-may : (q : Program) (b : Part) (event : Event) (c one two : Part) → q ≡ p
      → part_of b ≡ part_of a → Lends p event (part_of b) (part_of c) (part_of one) (part_of two)
      → MaySplit q s.1 c one two
  fork-may q b event c one two same e l = record {
    before = b;
    near = (
      h.near.0,
      subst (λ y. Advance y (holding s.1) h.near.0 (holding (moved b [] s.1)))
          (here-in ∙ sym same)
          (subst (λ (y : TimedPart). Advance (program_in s.1.begun) (holding s.1) h.near.0
          (record { hand = (holding (moved b [] s.1)).hand; part = y; kids = [] })) (sym e)
          h.near.1),
    );
    event = event;
    forks = subst (λ y. Forks y event (part_of b) (part_of c) (part_of one) (part_of two))
        (sym same) l.forks;
  }

  -- none could be made
  pub fork-none : (b : Part) → part_of b ≡ part_of a → HasNoShares p (part_of b)
      → HasNoShares p (part_of z.1)
  fork-none b same none = subst (HasNoShares p) (same ∙ ap (λ (y : Seen). part_of y.1) is) none

  -- after which each child stays
  pub fork-gone : (b : Part) (event : Event) (c one two : TimedPart) → part_of b ≡ part_of a
      → Keeps (part_of b) → IsPartOf p b → Lends p event (part_of b) c one two
      → HaveGoneOn p (part_of z.1) c one two
  fork-gone b event c one two same keeps of l = subst (λ y. HaveGoneOn p y c one two)
      (same ∙ ap (λ (y : Seen). part_of y.1) is) (record {
        event = event;
        one = one;
        two = two;
        keeps = keeps;
        of = of.is;
        lends = l;
        left_goes = stays refl;
        right_goes = stays refl;
      })

-- what the three may do at a join, and what it comes to
pub record Rejoins (p : Program) (z y x : Seen) (s l r : TableId × View) (a one two : Part) : Type 0
  where
    pub left : (q : Program) → q ≡ p → MayEnd q s.1 left_turn l.1 one
    pub right : (q : Program) → q ≡ p → MayEnd q s.1 right_turn r.1 two
    pub may : numbers (part_of y.1).part.supply ++ numbers (part_of x.1).part.supply ≢ []
        → AreSeparate (part_of s.1.part) (part_of one) (part_of two)
        → MayJoin (part_of a) (part_of one) (part_of two)
    pub seated : (w : View) (b : Part) (event : Event)
        → Joins p event (part_of a) (part_of one) (part_of two) (part_of b)
        → w ≡ with_kids (one ∷ two ∷ []) s.1
        → ((q : Program) → IsPartOf q a → IsPartOf q one → IsPartOf q two
        → GoesOnIn q (part_of a).part (part_of one).part (part_of two).part → IsPartOf q b)
        → IsSeated w b
    pub joins : (b : Part) (event : Event)
        → Joins p event (part_of a) (part_of one) (part_of two) (part_of b)
        → Joins p event (part_of z.1) (part_of y.1) (part_of x.1) (part_of b)
    pub goes : (b : Part) (event : Event)
        → Joins p event (part_of a) (part_of one) (part_of two) (part_of b)
        → JoinsGoOn → (before : TimedPart)
        → HaveGoneOn p before (part_of z.1) (part_of y.1) (part_of x.1)
        → GoesTo p before (part_of b)

-- the three at a join
module _ (p : Program) (law : EndedChildrenMayBeTakenBack) (z y x : Seen) (s l r : TableId × View)
    (a one two : Part) (si : (s, a) ≡ z) (li : (l, one) ≡ y) (ri : (r, two) ≡ x)
    (here : program_in z.0.1.begun ≡ p) (left_here : program_in y.0.1.begun ≡ p)
    (right_here : program_in x.0.1.begun ≡ p) (sh : IsSeated s.1 a) (lh : IsSeated l.1 one)
    (rh : IsSeated r.1 two) (rests : IsAtRest z.0.1 z.1)
    (gone : (before : TimedPart) × HaveGoneOn p before (part_of z.1) (part_of y.1) (part_of x.1))
    (left_ended : Answers p (part_of y.1) Done) (right_ended : Answers p (part_of x.1) Done) where
  left-of : IsPartOf p one
  left-of = of-in p y l one li left_here lh

  right-of : IsPartOf p two
  right-of = of-in p x r two ri right_here rh

  rest-in : IsAtRest s.1 a
  rest-in = subst (λ (q : Seen). IsAtRest q.0.1 q.1) (sym si) rests

  back : MayBeTakenBack p (part_of a) (part_of one) (part_of two)
  unfolding EndedChildrenMayBeTakenBack
  back = law p gone.0 (part_of a) (part_of one) (part_of two)
      (subst (λ (q : Seen × (Seen × Seen)). HaveGoneOn p gone.0 (part_of q.0.1) (part_of q.1.0.1)
      (part_of q.1.1.1)) (λ i. (sym si i, (sym li i, sym ri i))) gone.1)
      left-of.is right-of.is
      (subst (λ (q : Seen). Answers p (part_of q.1) Done) (sym li) left_ended)
      (subst (λ (q : Seen). Answers p (part_of q.1) Done) (sym ri) right_ended)

  -- a child may end at the join, on its side
  join-side : (turn : Turn) (seen : Seen) (c : TableId × View) (child : Part)
      → ((c, child) ≡ seen) → program_in seen.0.1.begun ≡ p → IsSeated c.1 child
      → IsChild (part_of a).part turn (part_of child).part → (part_of child).part.stand ≡ running []
      → (q : Program) → q ≡ p → MayEnd q s.1 turn c.1 child
  join-side turn seen c child is seen_here seated below over q same = record {
    near = (
      seated.near.0,
      subst (λ k. Advance k (holding c.1) seated.near.0 (holding (moved child [] c.1)))
          (here-in p seen c child is seen_here seated ∙ sym same) seated.near.1,
    );
    child = subst (λ k. IsChild (part_of k).part turn (part_of child).part) (sym rest-in.part) below;
    ended = over;
  }

  join-left : (q : Program) → q ≡ p → MayEnd q s.1 left_turn l.1 one
  join-left = join-side left_turn y l one li left_here lh back.left_child back.left_over

  join-right : (q : Program) → q ≡ p → MayEnd q s.1 right_turn r.1 two
  join-right = join-side right_turn x r two ri right_here rh back.right_child back.right_over

  join-may : numbers (part_of y.1).part.supply ++ numbers (part_of x.1).part.supply ≢ []
      → AreSeparate (part_of s.1.part) (part_of one) (part_of two)
      → MayJoin (part_of a) (part_of one) (part_of two)
  join-may unit apart =
      let sep : AreSeparate (part_of a) (part_of one) (part_of two) =
      subst (λ k. AreSeparate (part_of k) (part_of one) (part_of two)) rest-in.part apart in
      record {
        waits = back.waiting;
        left_ended = back.left_over;
        right_ended = back.right_over;
        all = sep.all;
        children = sep.children;
        units = sep.units;
        unmade = sep.unmade;
        unit = subst (λ (q : Seen × Seen). numbers (part_of q.0.1).part.supply
            ++ numbers (part_of q.1.1).part.supply ≢ []) (λ i. (sym li i, sym ri i)) unit;
        left_keeps = sep.left_keeps;
        right_keeps = sep.right_keeps;
        time = sep.time;
      }

  -- and after it
  module _ (w : View) (b : Part) (event : Event)
      (e : Joins p event (part_of a) (part_of one) (part_of two) (part_of b)) where
    join-seated : w ≡ with_kids (one ∷ two ∷ []) s.1
        → ((q : Program) → IsPartOf q a → IsPartOf q one → IsPartOf q two
        → GoesOnIn q (part_of a).part (part_of one).part (part_of two).part → IsPartOf q b)
        → IsSeated w b
    join-seated view of = seated-joined p s.1 w a b one two event (here-in p z s a si here sh) view
        rest-in e (of p (of-in p z s a si here sh) left-of right-of back.goes_on)

    join-joins : Joins p event (part_of z.1) (part_of y.1) (part_of x.1) (part_of b)
    join-joins = subst (λ (q : Seen × (Seen × Seen)). Joins p event (part_of q.0.1)
        (part_of q.1.0.1) (part_of q.1.1.1) (part_of b)) (λ i. (si i, (li i, ri i))) e

    join-goes : JoinsGoOn → (before : TimedPart)
        → HaveGoneOn p before (part_of z.1) (part_of y.1) (part_of x.1)
        → GoesTo p before (part_of b)
    unfolding JoinsGoOn
    join-goes on before since = on p event before (part_of z.1) (part_of y.1) (part_of x.1)
        (part_of b) since join-joins

  pub rejoins : Rejoins p z y x s l r a one two
  rejoins = record {
    left = join-left;
    right = join-right;
    may = join-may;
    seated = join-seated;
    joins = join-joins s.1;
    goes = join-goes s.1;
  }
