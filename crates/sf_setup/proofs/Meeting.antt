-- Children that have ended, and what it means that one of the three stops before.
-- Names: `meet-LAW` of the three at the join; `drained-WHERE` of one that has no unit left.
use Rattle.std.specs.Prelude.{◌≡◌, ◌≢◌, ◌⊎◌, ◌≤◌, List, [], ◌∷◌, ◌++◌, IfErr, IfOk}
use Rattle.std.specs.declared.result.Result.{Result}
use Rattle.std.specs.declared.result.Result.TheVariants.{Ok, Err}
use Rattle.std.proofs.Common.{sym, ap, ◌∙◌, refl, subst, inl, inr, arith}
use Rattle.std.proofs.lemmas.List.{append_assoc}
use Rattle.sf_core.specs.Machine.Config.{Config, Frame, Path, command, runs}
use Rattle.sf_core.specs.Machine.Enabled.{HasEnded as IsEnded}
use Rattle.sf_core.specs.Machine.Step.{Event}
use Rattle.sf_core.specs.Machine.Whole.{Content, Part as WholePart, Whole, numbers, running}
use Rattle.sf_core.specs.Program.Syntax.{fork, Program}
use Rattle.sf_frame.specs.Checked.Nexts.{frames_with}
use Rattle.sf_own.specs.Checked.Accepted.{IsAccepted}
use Rattle.sf_part.specs.Checked.Lemmas.Shapes.{next-shape}
use Rattle.sf_part.specs.Answers.{Answers}
use Rattle.sf_part.specs.Checked.Laws.{ForksAreSteps}
use Rattle.sf_part.specs.Checked.LawsOfGoing.{EndedChildrenMayBeTakenBack, MayBeTakenBack}
use Rattle.sf_part.specs.Checked.LawsOfSettingUp.{IsSettingUp, SettingUpIsAlone}
use Rattle.sf_part.specs.Checked.LawsOfTime.{StampsRise}
use Rattle.sf_part.specs.Checked.LawsOfWhole.{ChildrenAreApart}
use Rattle.sf_part.specs.declared.local.Local.TheVariants.{AtInit, Spent}
use Rattle.sf_part.specs.declared.part.Part.{Part}
use Rattle.sf_part.specs.Forking.{IsAtFork}
use Rattle.sf_part.specs.Going.{HaveGoneOn}
use Rattle.sf_part.specs.Joining.{GoesOnIn, MayJoin}
use Rattle.sf_part.specs.PartView.{IsPartOf, part_of}
use Rattle.sf_part.specs.Steps.{Joins}
use Rattle.sf_part.specs.Timed.{TimedPart}
use Rattle.sf_setup.proofs.Staying.{alone-on, clock-limit}
use Rattle.sf_setup.proofs.Goes.{composes, forget, keeps-log, spends-meeting}
use Rattle.sf_setup.specs.Checked.Alone.{HasDrained, HasEnded, HasMoved, HasParted, MayMeet}
use Rattle.sf_setup.specs.Checked.Laws.{EventsAloneAreSteps}
use Rattle.sf_setup.specs.Checked.RunLaws.{RunLaws}
use Rattle.sf_setup.specs.declared.forks.Parted.{Parted}
use Rattle.sf_setup.specs.declared.stop.SetUpStop.{SetUpStop}
use Rattle.sf_setup.specs.declared.stop.SetUpStop.TheVariants.{Steps, OutOfMemory}
use Rattle.sf_setup.specs.Draining.{Drains, WouldGoOn, here, in_left, in_right, at_join}
use Rattle.sf_setup.specs.Going.{GoesBy, stays, forks}

module _ (laws : RunLaws) (p : Program) (accepted : IsAccepted p) (a waits left right : Part)
    (m : MayMeet p a waits left right) where
  abbrev event : Event
  event = m.parted.event

  abbrev first : List Event
  first = m.left_ended.events

  abbrev second : List Event
  second = m.right_ended.events

  gone : HaveGoneOn p (part_of a) (part_of waits) (part_of left) (part_of right)
  gone = record {
    event = event;
    one = part_of m.one;
    two = part_of m.two;
    keeps = m.parted.keeps;
    of = m.parted.alone.of.is;
    lends = m.parted.lends;
    left_goes = forget p (part_of m.one) (part_of left) first m.left_ended.goes;
    right_goes = forget p (part_of m.two) (part_of right) second m.right_ended.goes;
  }

  back : MayBeTakenBack p (part_of waits) (part_of left) (part_of right)
  unfolding EndedChildrenMayBeTakenBack
  back = laws.back p (part_of a) (part_of waits) (part_of left) (part_of right) gone
      m.left_ended.alone.of.is m.right_ended.alone.of.is m.left_ended.done m.right_ended.done

  pub meet-goes_on : GoesOnIn p (part_of waits).part (part_of left).part (part_of right).part
  meet-goes_on = back.goes_on

  -- the three belong to one whole
  whole : (others : List WholePart) × (contents : List Content) × (c : Config)
      × Whole ((part_of waits).part ∷ (part_of left).part ∷ (part_of right).part ∷ others) contents c
  unfolding ForksAreSteps EventsAloneAreSteps
  whole =
      let (others, contents, c, w) = m.parted.alone.within in
      let f = laws.forks p event (part_of a) (part_of waits) (part_of m.one) (part_of m.two) []
      others contents c m.parted.lends.forks w in
      let l = laws.steps p (part_of m.one) (part_of left) first ((part_of waits).part ∷ [])
      ((part_of m.two).part ∷ others) contents f.config m.left_ended.goes f.whole in
      let r = laws.steps p (part_of m.two) (part_of right) second
      ((part_of waits).part ∷ (part_of left).part ∷ []) others contents l.config m.right_ended.goes
      l.whole in
      (others, contents, r.config, r.whole)

  -- so they may be joined, where a unit is left
  pub meet-may : numbers (part_of left).part.supply ++ numbers (part_of right).part.supply ≢ []
      → MayJoin (part_of waits) (part_of left) (part_of right)
  unfolding ChildrenAreApart
  meet-may unit =
      let (others, contents, c, w) = whole in
      let apart = laws.apart [] others (part_of waits).part (part_of left).part
      (part_of right).part contents c w back.left_child back.right_child in
      let time = spends-meeting p (part_of a) (part_of waits) (part_of m.one) (part_of m.two)
      (part_of left) (part_of right) event first second m.parted.lends.forks m.left_ended.goes
      m.right_ended.goes in
      let limit = m.parted.keeps.time.within in
      record {
        waits = back.waiting;
        left_ended = back.left_over;
        right_ended = back.right_over;
        all = apart.0;
        children = apart.1;
        units = apart.2;
        unmade = apart.3;
        unit = unit;
        left_keeps = keeps-log p (part_of m.one) (part_of left) first m.left_ended.goes
            ∙ m.parted.lends.forks.left_begins.keeps;
        right_keeps = keeps-log p (part_of m.two) (part_of right) second m.right_ended.goes
            ∙ m.parted.lends.forks.right_begins.keeps;
        time = below-limit time limit;
      }
    where
      below-limit : {x y z : _} → x ≤ y → y ≤ z → x ≤ z
      below-limit h k = omega (arith, h, k)

  -- and by the join their parent has gone on
  pub meet-moved : (b : Part) (later : Event)
      → Joins p later (part_of waits) (part_of left) (part_of right) (part_of b) → IsPartOf p b
      → HasMoved p a b
  unfolding StampsRise
  meet-moved b later j of =
      let go : GoesBy p (part_of a) (event ∷ (first ++ (second ++ later ∷ []))) (part_of b) =
      forks (part_of a) (part_of waits) (part_of m.one) (part_of m.two) (part_of left)
      (part_of right) [] first second event later (stays refl refl) m.parted.keeps
      m.parted.alone.of.is m.parted.lends m.left_ended.goes m.right_ended.goes j refl in
      let up = ((laws.rise p event (part_of a) (part_of waits)).3 (part_of m.one) (part_of m.two)
      m.parted.lends.forks).0 in
      let more = ((laws.rise p later (part_of waits) (part_of b)).4 (part_of left) (part_of right)
      j).0 in
      record {
        alone = alone-on laws p accepted a b (event ∷ (first ++ (second ++ later ∷ [])))
            m.parted.alone go of;
        events = event ∷ (first ++ (second ++ later ∷ []));
        goes = go;
        later = omega (arith, up, more);
        limit = clock-limit laws p accepted (part_of a) (part_of b)
            (event ∷ (first ++ (second ++ later ∷ []))) m.parted.keeps go;
      }

  -- where no unit is left, the parent would go on
  pub drained-join : (path : Path) (given : _) → path ≡ (part_of waits).part.task
      → given ≡ (part_of waits).given → numbers (part_of left).part.supply ≡ []
      → numbers (part_of right).part.supply ≡ [] → HasDrained p (part_of a) (Steps path given)
  drained-join path given at is left_none right_none = (
    event ∷ (first ++ second),
    at_join (part_of a) (part_of waits) (part_of m.one) (part_of m.two) (part_of left)
        (part_of right) [] first second event (stays refl refl) m.parted.lends m.left_ended.goes
        back.left_over left_none m.right_ended.goes back.right_over right_none at is refl,
  )

-- Where a task stops before
module _ (p : Program) where
  before : (a b : TimedPart) (events all : List Event) (path : Path) (given : _)
      → GoesBy p a events b → Drains p b all path given → Drains p a (events ++ all) path given
  before a b events all path given go (here c on would none at is) =
      here c (composes p a b c events all go on) would none at is
  before a b events all path given go (in_left c waits one two more rest event on x d is) =
      in_left c waits one two (events ++ more) rest event (composes p a b c events more go on) x d
      (ap (λ z. events ++ z) is ∙ sym (append_assoc events more (event ∷ rest)))
  before a b events all path given go (in_right c waits one two left more first rest event on x l d is) =
      in_right c waits one two left (events ++ more) first rest event
      (composes p a b c events more go on) x l d
      (ap (λ z. events ++ z) is ∙ sym (append_assoc events more (event ∷ (first ++ rest))))
  before a b events all path given go (at_join c waits one two left right more first second event on x l lo ln r ro rn at gi is) =
      at_join c waits one two left right (events ++ more) first second event
      (composes p a b c events more go on) x l lo ln r ro rn at gi
      (ap (λ z. events ++ z) is ∙ sym (append_assoc events more (event ∷ (first ++ second))))

  -- after it has gone on
  pub drained-later : (a b : TimedPart) (events : List Event) (stop : SetUpStop)
      → GoesBy p a events b → HasDrained p b stop → HasDrained p a stop
  drained-later a b events (Steps path given) go (more, d) =
      (events ++ more, before a b events more path given go d)
  drained-later a b events OutOfMemory go d = tt

  -- in its left child
  pub drained-left : (a : Part) (f : Parted) (stop : SetUpStop) → HasParted p a f
      → HasDrained p (part_of f.left) stop → HasDrained p (part_of a) stop
  drained-left a f (Steps path given) h (more, d) = (
    h.event ∷ more,
    in_left (part_of a) (part_of f.waits) (part_of f.left) (part_of f.right) [] more h.event
        (stays refl refl) h.lends d refl,
  )
  drained-left a f OutOfMemory h d = tt

  -- or in its right one
  pub drained-right : (a : Part) (f : Parted) (left : Part) (stop : SetUpStop) → HasParted p a f
      → HasEnded p f.left left → HasDrained p (part_of f.right) stop
      → HasDrained p (part_of a) stop
  drained-right a f left (Steps path given) h l (more, d) = (
    h.event ∷ (l.events ++ more),
    in_right (part_of a) (part_of f.waits) (part_of f.left) (part_of f.right) (part_of left) []
        l.events more h.event (stays refl refl) h.lends l.goes d refl,
  )
  drained-right a f left OutOfMemory h l d = tt

  -- where it stands
  pub drained-here : (a : TimedPart) (path : Path) (given : _) → WouldGoOn a.part
      → numbers a.part.supply ≡ [] → path ≡ a.part.task → given ≡ a.given
      → HasDrained p a (Steps path given)
  drained-here a path given going none at is =
      ([], here a (stays refl refl) going none at is)

  pub drained-spent : (a : TimedPart) (path : Path) (given : _) → Answers p a Spent
      → path ≡ a.part.task → given ≡ a.given → HasDrained p a (Steps path given)
  drained-spent a path given (frames, stand, (goes, none)) at is =
      drained-here a path given (frames, stand, goes.going) none at is

  pub going-fork : (a : WholePart) → IsAtFork a → WouldGoOn a
  going-fork a (frames, stand, (f, below, place, c, d, rest, is)) =
      let shape = next-shape frames f below (fork place c d) rest is in (
        frames_with f (command (fork place c d) ∷ rest) below,
        stand ∙ ap running shape,
        not-ended a.task below,
      )
    where
      not-ended : (path : Path) (others : List Frame)
          → IsEnded path (runs (frames_with f (command (fork place c d) ∷ rest) others)) → ⊥
      not-ended [] [] e = absurd (cc)
      not-ended [] (g ∷ others) e = e
      not-ended (turn ∷ path) others e = e

-- one that sets the resources up would go on
pub going-settling : SettingUpIsAlone → (p : Program) → IsAccepted p → (a : Part) → IsPartOf p a
    → IsSettingUp p (part_of a).part → Answers p (part_of a) AtInit → WouldGoOn (part_of a).part
unfolding SettingUpIsAlone
going-settling law p accepted a of up (frames, stand, settling) =
    let nobody = law p (part_of a).part accepted.formed accepted.conditions of.is up in
    (frames, stand, λ e. nobody.going frames stand e)

-- Results
pub ok-also : {T E : Type 0} {P Q : T → Type 0} (r : Result T E) → IfOk r P
    → ((x : T) → P x → Q x) → IfOk r Q
ok-also (Ok x) h f = f x h
ok-also (Err e) h f = tt

pub err-also : {T E : Type 0} {P Q : E → Type 0} (r : Result T E) → IfErr r P
    → ((e : E) → P e → Q e) → IfErr r Q
err-also (Ok x) h f = tt
err-also (Err e) h f = f e h

-- children that have ended, and one that stops before
module _ (p : Program) (a : Part) (f : Parted) (left right : Result Part SetUpStop)
    (h : HasParted p a f) (left_ended : IfOk left (HasEnded p f.left))
    (left_drained : IfErr left (HasDrained p (part_of f.left)))
    (right_ended : IfOk right (HasEnded p f.right))
    (right_drained : IfErr right (HasDrained p (part_of f.right))) where
  pub both-met : (one two : Part) → left ≡ Ok one → right ≡ Ok two → MayMeet p a f.waits one two
  both-met one two l r = record {
    one = f.left;
    two = f.right;
    parted = h;
    left_ended = subst (λ z. IfOk z (HasEnded p f.left)) l left_ended;
    right_ended = subst (λ z. IfOk z (HasEnded p f.right)) r right_ended;
  }

  pub both-stopped : (stop : SetUpStop)
      → (left ≡ Err stop) ⊎ ((one : Part) × (left ≡ Ok one) × (right ≡ Err stop))
      → HasDrained p (part_of a) stop
  both-stopped stop (inl l) = drained-left p a f stop h
      (subst (λ z. IfErr z (HasDrained p (part_of f.left))) l left_drained)
  both-stopped stop (inr (one, l, r)) = drained-right p a f one stop h
      (subst (λ z. IfOk z (HasEnded p f.left)) l left_ended)
      (subst (λ z. IfErr z (HasDrained p (part_of f.right))) r right_drained)
