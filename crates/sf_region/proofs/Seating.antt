-- What a task at a table may call, and where it stands then.
-- Names: `may-CALL`, `seated-EVENT`.
use Rattle.std.specs.Prelude.{◌≡◌, ◌≢◌, ◌<◌, ◌⊎◌, false, List, [], ◌∷◌, ◌++◌, length, map, Some, None, Result, Ok, Err, IfOk, OnErr}
use Rattle.std.proofs.Common.{sym, ap, ◌∙◌, refl, subst, arith, inl, inr}
use Rattle.std.proofs.lemmas.List.{length-append}
use Rattle.std.specs.declared.alloc.AllocError.{AllocError}
use Rattle.sf_base.specs.declared.ids.ResId.{ResId}
use Rattle.sf_core.specs.declared.assertion.Test.{Test}
use Rattle.sf_core.specs.declared.command.Expr.{Expr}
use Rattle.sf_core.specs.Assertions.Sat.{IsTrueOf}
use Rattle.sf_core.specs.Machine.Config.{Fixed, evaluate}
use Rattle.sf_core.specs.Machine.Step.{Event}
use Rattle.sf_core.specs.Machine.Whole.{numbers}
use Rattle.sf_core.specs.Program.Syntax.{Program}
use Rattle.sf_frame.specs.Stores.{together}
use Rattle.sf_part.specs.Answers.{Answers}
use Rattle.sf_part.specs.Contents.{IsContentIn, content_of}
use Rattle.sf_part.specs.declared.content.Content.{Content}
use Rattle.sf_part.specs.declared.local.Local.{Local}
use Rattle.sf_part.specs.declared.local.Local.TheVariants.{Moved, AtRegion, AtExit, AtFork, AtInit, Done, Spent, Absent}
use Rattle.sf_part.specs.declared.part.Part.{Part}
use Rattle.sf_part.specs.Entry.{MayEnter}
use Rattle.sf_part.specs.Given.{Gives}
use Rattle.sf_part.specs.Going.{GoesTo, stays, steps}
use Rattle.sf_part.specs.Guards.{IsAtRegion, StandsAt}
use Rattle.sf_part.specs.PartView.{IsPartOf, part_of}
use Rattle.sf_part.specs.Steps.{Enters, Joins, Private}
use Rattle.sf_part.specs.Timed.{TimedPart}
use Rattle.sf_region.specs.Checked.Laws.{StillClocksHaveNoEvent}
use Rattle.sf_region.specs.Calls.{MayClose, MayLeave, MayTry}
use Rattle.sf_region.specs.declared.views.Begun.{Begun}
use Rattle.sf_region.specs.declared.views.View.{View}
use Rattle.sf_region.specs.Holdings.{Act, Advance, Holding}
use Rattle.sf_region.specs.Marks.{Mark, private, entry, exit, joining}
use Rattle.sf_region.specs.Plays.{IsFor, left, lost, moved, with_kids, won}
use Rattle.sf_region.specs.Rule.{MayBegin, holding, opening_view}
use Rattle.sf_region.specs.Waits.{first_of, program_in}
use Rattle.sf_region.specs.Checked.Seated.{IsSeated}
use Rattle.sf_region.specs.Meeting.{IsAtRest}

-- one event more
advance-more : (p : Program) (a b c : Holding) (marks : List Mark) (m : Mark)
    → Advance p a marks b → Act p b m c → Advance p a (marks ++ m ∷ []) c
advance-more p a b c [] m e act = (c, subst (λ z. Act p z m c) e act, refl)
advance-more p a b c (x ∷ marks) m (between, first, more) act =
    (between, first, advance-more p between b c marks m more act)

-- a part alone, and one with a content in hand
abbrev alone : TimedPart → Holding
alone a = record { hand = None; part = a; kids = [] }

abbrev with_content : Content → TimedPart → Holding
with_content k a = record { hand = Some k; part = a; kids = [] }

-- where it stands, as it is told
pub at-region : (p : Program) (a : TimedPart) (r : ResId) → Answers p a (AtRegion r)
    → IsAtRegion a.part r
at-region p a r (frames, stand, (f, below, place, test, body, rest, is)) =
    (f, test, (frames, stand, record { below = below; place = place; body = body; rest = rest; is = is }))

-- at the first seat
pub seated-begun : (b : Begun) → MayBegin b → IsSeated (opening_view b) b.part
seated-begun b may = record { of = may.of; near = ([], refl) }

module _ (p : Program) (v : View) (a : Part) (here : program_in v.begun ≡ p) (h : IsSeated v a) where
  -- it is the program's
  pub seated-of : IsPartOf p a
  seated-of = subst (λ z. IsPartOf z a) here h.of

  -- where the part is as it was
  pub seated-same : (b : Part) → part_of b ≡ part_of a → IsPartOf p b → IsSeated v b
  seated-same b e of = record {
    of = subst (λ z. IsPartOf z b) (sym here) of;
    near = (
      h.near.0,
      subst (λ (z : TimedPart). Advance (program_in v.begun) (holding v) h.near.0 (alone z)) (sym e)
          h.near.1,
    );
  }

  -- a step that is its own affair, or none
  pub may-move : (b c : Part) (r : Result Local AllocError) → part_of c ≡ part_of a
      → IfOk r (λ answer. answer ≡ Moved → (event : Event)
      × Private p event (part_of c) (part_of b))
      → IfOk r (λ answer. answer ≢ Moved → part_of b ≡ part_of c)
      → OnErr r (part_of b ≡ part_of c)
      → ((event : Event) × Private p event (part_of a) (part_of b)) ⊎ (part_of b ≡ part_of a)
  may-move b c (Ok Moved) e made same err = inl (
    (made refl).0,
    subst (λ z. Private p (made refl).0 z (part_of b)) e (made refl).1,
  )
  may-move b c (Ok (AtRegion r)) e made same err = inr (same (λ x. absurd (cc)) ∙ e)
  may-move b c (Ok (AtExit r)) e made same err = inr (same (λ x. absurd (cc)) ∙ e)
  may-move b c (Ok AtFork) e made same err = inr (same (λ x. absurd (cc)) ∙ e)
  may-move b c (Ok AtInit) e made same err = inr (same (λ x. absurd (cc)) ∙ e)
  may-move b c (Ok Done) e made same err = inr (same (λ x. absurd (cc)) ∙ e)
  may-move b c (Ok Spent) e made same err = inr (same (λ x. absurd (cc)) ∙ e)
  may-move b c (Ok (Absent m)) e made same err = inr (same (λ x. absurd (cc)) ∙ e)
  may-move b c (Err error) e made same err = inr (err ∙ e)

  -- a step of its own
  pub seated-moved : (b : Part) (event : Event) → Private p event (part_of a) (part_of b)
      → IsPartOf p b → IsSeated v b
  seated-moved b event e of =
      let m : Mark = record { event = event; kind = private; stamp = (part_of b).clock } in
      record {
        of = subst (λ z. IsPartOf z b) (sym here) of;
        near = (
          h.near.0 ++ m ∷ [],
          advance-more (program_in v.begun) (holding v) (alone (part_of a)) (alone (part_of b))
              h.near.0 m h.near.1
              (refl, (refl, refl, subst (λ z. Private z event (part_of a) (part_of b)) (sym here) e)),
        );
      }

  -- and after such a step, or none
  pub seated-after : (b : Part)
      → ((event : Event) × Private p event (part_of a) (part_of b)) ⊎ (part_of b ≡ part_of a)
      → IsPartOf p b → IsSeated v b
  seated-after b (inl made) of = seated-moved b made.0 made.1 of
  seated-after b (inr same) of = seated-same b same of

  -- the task has gone on by it
  pub goes-after : (b : Part)
      → ((event : Event) × Private p event (part_of a) (part_of b)) ⊎ (part_of b ≡ part_of a)
      → GoesTo p (part_of a) (part_of b)
  goes-after b (inl made) = steps made.0 (stays refl) a.kept seated-of.is made.1
  goes-after b (inr same) = stays same

  -- a try
  pub may-try : (q : Program) (r : ResId) → q ≡ p → r.0 < length p.resources
      → IsAtRegion (part_of a).part r → (part_of a).part.holds r ≡ false
      → numbers (part_of a).part.supply ≢ [] → MayTry q v a r
  may-try q r same below stands out unit = subst (λ z. MayTry z v a r) (here ∙ sym same) (record {
    resource = subst (λ (z : Program). r.0 < length z.resources) (sym here) below;
    near = h.near;
    stands = stands;
    outside = out;
    unit = unit;
  })

  -- the content that was got is of the program
  pub got-in : (r : ResId) (k : Content) → IsFor v.begun (part_of a) r k → IsContentIn p k
  got-in r k got = subst (λ q. IsContentIn q k) here (got.exactly).is_in

  -- it may be put back where the condition is false of it
  pub may-refuse : (w : View) (b : Part) (q : Program) (r : ResId) (k : Content) → q ≡ p → b ≡ a
      → w ≡ won k (moved b [] v) → IsFor v.begun (part_of a) r k → r.0 < length p.resources
      → ((f : Fixed) (test : Test Expr) → StandsAt (part_of a).part k.resource f test
      → IsTrueOf (evaluate f.slots (together (part_of a).part.store (content_of k).content.store)) test
      → ⊥)
      → MayLeave q w b r k
  may-refuse w b q r k same part view got below denied =
      subst (λ z. MayLeave z w b r k) (sym same)
      (subst (λ z. MayLeave p z b r k) (sym view)
      (subst (λ z. MayLeave p (won k (moved z [] v)) z r k) (sym part) (record {
        resource = got.resource;
        number = below;
        near = ([], refl);
        refused = λ still. record { of = seated-of; is_in = got-in r k got; false_there = denied };
      })))

-- what the events since the seat's last step were, with one more, was some event
one-more : (marks : List Mark) (m : Mark) → marks ++ m ∷ [] ≡ [] → ⊥
one-more marks m e =
    let size = ap length e in
    let more = length-append marks (m ∷ []) in
    omega (arith, size, more)

-- the entry with the content that was got
pub may-enter : (b : Begun) (a : Part) (r : ResId) (k : Content)
    → IsFor b (part_of a) r k → IsAtRegion (part_of a).part r → (part_of a).part.holds r ≡ false
    → numbers (part_of a).part.supply ≢ []
    → ((f : Fixed) (test : Test Expr) → StandsAt (part_of a).part k.resource f test
    → IsTrueOf (evaluate f.slots (together (part_of a).part.store (content_of k).content.store)) test)
    → MayEnter (part_of a) (content_of k)
may-enter b a r k got (f, test, stands) out unit holds =
    let here : StandsAt (part_of a).part k.resource f test =
    subst (λ z. StandsAt (part_of a).part z f test) (sym got.resource) stands in
    record {
      opens = (f, test, here, holds f test here);
      outside = ap (part_of a).part.holds got.resource ∙ out;
      unit = unit;
      apart = got.apart;
      time = got.room;
    }

pub seated-in : (p : Program) (v w : View) (a c b : Part) (k : Content) (event : Event)
    → program_in v.begun ≡ p → c ≡ a
    → w ≡ won k (moved c [] v) → Enters p event (part_of a) (content_of k) (part_of b)
    → IsPartOf p b → IsSeated w b
seated-in p v w a c b k event here part view e of =
    let m : Mark = record { event = event; kind = entry k.resource; stamp = (part_of b).clock } in
    let begun : program_in w.begun ≡ p = ap (λ (z : View). program_in z.begun) view ∙ here in
    record {
      of = subst (λ z. IsPartOf z b) (sym begun) of;
      near = (
        m ∷ [],
        subst (λ z. Advance z (holding w) (m ∷ []) (alone (part_of b))) (sym begun)
            (subst (λ (z : View). Advance p (holding z) (m ∷ []) (alone (part_of b))) (sym view)
            (subst (λ (z : Part). Advance p (holding (won k (moved z [] v))) (m ∷ [])
            (alone (part_of b))) (sym part)
            (alone (part_of b), (refl, (k, refl, refl, refl, refl, e)), refl))),
      );
    }

-- the content that an exit left may be put back
module _ (still : StillClocksHaveNoEvent) (p : Program) (v : View) (a b : Part) (k : Content)
    (event : Event) (here : program_in v.begun ≡ p) (h : IsSeated v a) (is_in : IsContentIn p k)
    (e : Gives p event (part_of a) (content_of k) (part_of b)) where
  abbrev m : Mark
  m = record { event = event; kind = exit k.resource; stamp = (part_of b).clock }

  given : Advance (program_in v.begun) (holding v) (h.near.0 ++ m ∷ []) (with_content k (part_of b))
  given = advance-more (program_in v.begun) (holding v) (alone (part_of a))
      (with_content k (part_of b)) h.near.0 m h.near.1 (
        refl,
        (
          k,
          refl,
          refl,
          refl,
          refl,
          subst (λ z. IsContentIn z k) (sym here) is_in,
          subst (λ z. Gives z event (part_of a) (content_of k) (part_of b)) (sym here) e,
        ),
      )

  pub may-leave : (q : Program) (c : Part) → q ≡ p → c ≡ b → k.resource.0 < length p.resources
      → MayLeave q v c k.resource k
  unfolding StillClocksHaveNoEvent
  may-leave q c same part below = subst (λ z. MayLeave z v c k.resource k) (here ∙ sym same)
      (subst (λ z. MayLeave (program_in v.begun) v z k.resource k) (sym part) (record {
        resource = refl;
        number = subst (λ (z : Program). k.resource.0 < length z.resources) (sym here) below;
        near = (h.near.0 ++ m ∷ [], given);
        refused = λ unmoved. absurd (one-more h.near.0 m
            (still (program_in v.begun) (holding v) (with_content k (part_of b))
            (h.near.0 ++ m ∷ []) given unmoved));
      }))

-- where the seat has seen the part as it now is
pub seated-seen : (p : Program) (v w : View) (a b : Part) → program_in v.begun ≡ p → w ≡ left a v
    → b ≡ a → IsPartOf p b → IsSeated w b
seated-seen p v w a b here view part of =
    let begun : program_in w.begun ≡ p = ap (λ (z : View). program_in z.begun) view ∙ here in
    record {
      of = subst (λ z. IsPartOf z b) (sym begun) of;
      near = (
        [],
        subst (λ (z : View). alone (part_of b) ≡ holding z) (sym view)
            (ap (λ z. alone (part_of z)) part),
      );
    }

-- a word that was found taken
pub seated-lost : (p : Program) (v w : View) (r : ResId) (a b : Part) → program_in v.begun ≡ p
    → w ≡ lost r (moved a [] v) → b ≡ a → IsPartOf p b → IsSeated w b
seated-lost p v w r a b here view part of =
    let begun : program_in w.begun ≡ p = ap (λ (z : View). program_in z.begun) view ∙ here in
    record {
      of = subst (λ z. IsPartOf z b) (sym begun) of;
      near = (
        [],
        subst (λ (z : View). alone (part_of b) ≡ holding z) (sym view)
            (ap (λ z. alone (part_of z)) part),
      );
    }

-- at the end
pub may-close : (p : Program) (v : View) (a : Part) (q : Program) → program_in v.begun ≡ p → q ≡ p
    → IsSeated v a → (part_of a).part.task ≡ (first_of v.begun).part.task
    → Answers p (part_of a) Done → MayClose q v a
may-close p v a q here same h first (frames, stand, ended) =
    subst (λ z. MayClose z v a) (here ∙ sym same) (record {
      near = h.near;
      first = first;
      frames = frames;
      stand = stand;
      ended = ended;
    })

-- where the seat has seen the part as it now is, and nothing beside it
pub seated-rest : (p : Program) (v : View) (a : Part) → program_in v.begun ≡ p → IsPartOf p a
    → IsAtRest v a → IsSeated v a
seated-rest p v a here of rest = record {
  of = subst (λ z. IsPartOf z a) (sym here) of;
  near = (
    [],
    λ i. record {
      hand = sym rest.hand i;
      part = part_of (sym rest.part i);
      kids = map part_of (sym rest.kids i);
    },
  );
}

-- the join of two children, whose seats were taken back
pub seated-joined : (p : Program) (v w : View) (a b one two : Part) (event : Event)
    → program_in v.begun ≡ p → w ≡ with_kids (one ∷ two ∷ []) v → IsAtRest v a
    → Joins p event (part_of a) (part_of one) (part_of two) (part_of b) → IsPartOf p b
    → IsSeated w b
seated-joined p v w a b one two event here view rest e of =
    let m : Mark = record { event = event; kind = joining; stamp = (part_of b).clock } in
    let begun : program_in w.begun ≡ p = ap (λ (z : View). program_in z.begun) view ∙ here in
    let all : Advance p (holding (with_kids (one ∷ two ∷ []) v)) (m ∷ []) (alone (part_of b)) = (
      alone (part_of b),
      (
        refl,
        (
          part_of one,
          part_of two,
          sym rest.hand,
          refl,
          refl,
          subst (λ z. Joins p event (part_of z) (part_of one) (part_of two) (part_of b))
              (sym rest.part) e,
        ),
      ),
      refl,
    ) in
    record {
      of = subst (λ z. IsPartOf z b) (sym begun) of;
      near = (
        m ∷ [],
        subst (λ z. Advance z (holding w) (m ∷ []) (alone (part_of b))) (sym begun)
            (subst (λ (z : View). Advance p (holding z) (m ∷ []) (alone (part_of b))) (sym view)
            all),
      );
    }
