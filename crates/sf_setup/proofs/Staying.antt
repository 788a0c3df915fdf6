-- A task that goes on alone stays so, and what it meets, what it has for it.
-- Names: `alone-EVENT`, `moved-EVENT`, `no-ANSWER`, `drained-WHY`.
use Rattle.std.specs.Prelude.{◌≡◌, ◌≢◌, ◌⊎◌, ◌<◌, ◌≤◌, ◌+◌, ◌*◌, ◌^◌, ℕ, List, [], ◌∷◌, ◌++◌, length}
use Rattle.std.proofs.Common.{sym, ap, ◌∙◌, refl, subst, inl, inr, add-one, arith, length-append}
use Rattle.std.proofs.lemmas.Bool.{cases_lt}
use Rattle.std.proofs.Math.Nat.{mul-le-mul_right, pow-succ'}
use Rattle.std.proofs.Math.Pow.{pow_mono}
use Rattle.sf_base.specs.declared.ids.ResId.{ResId}
use Rattle.sf_base.specs.declared.limits.TheConstants.{STEPS, TURNS}
use Rattle.sf_base.specs.declared.path.Turn.{Turn}
use Rattle.sf_base.specs.declared.path.Turn.TheVariants.{Left as left_turn, Right as right_turn}
use Rattle.sf_base.specs.declared.value.Value.{Value}
use Rattle.sf_core.specs.Machine.Config.{Config}
use Rattle.sf_core.specs.Machine.Step.{Event}
use Rattle.sf_core.specs.Machine.Whole.{Content, Part as WholePart, Whole, numbers}
use Rattle.sf_core.specs.Program.Syntax.{Program}
use Rattle.sf_own.specs.Checked.Accepted.{IsAccepted}
use Rattle.sf_own.specs.Checked.Laws.{FirstPartsAreSafe, ForksKeepSafe, GoingKeepsSafe}
use Rattle.sf_own.specs.Checked.LawsOfNeeds.{AbsentNeverComes, AllContentsAreThere, SharesAreThere}
use Rattle.sf_own.specs.Checked.Safe.{AreSafe, IsSafe}
use Rattle.sf_part.specs.Answers.{Answers}
use Rattle.sf_part.specs.Checked.Laws.{FirstPartsAreWhole, ForksAreSteps, PartsInAnyOrder}
use Rattle.sf_part.specs.Checked.LawsOfGoing.{ForksHalve, GoingStaysPastSetup, IsPastSetup, PastSetupNothingSettles}
use Rattle.sf_part.specs.Checked.LawsOfSettingUp.{FreshPartsSetUp, IsSettingUp, SettingUpIsAlone}
use Rattle.sf_part.specs.Checked.LawsOfTime.{StampsRise}
use Rattle.sf_part.specs.declared.local.Local.{Local}
use Rattle.sf_part.specs.declared.local.Local.TheVariants.{Absent, AtExit, AtInit, AtRegion, Done}
use Rattle.sf_part.specs.declared.part.Part.{Part}
use Rattle.sf_part.specs.Forking.{HasNoShares, IsAtFork}
use Rattle.sf_part.specs.Keeps.{IsWaiting, Keeps}
use Rattle.sf_part.specs.Leaving.{HasNoContents, IsAtInit}
use Rattle.sf_part.specs.Lent.{Lends}
use Rattle.sf_part.specs.PartView.{IsPartOf, part_of}
use Rattle.sf_part.specs.Steps.{Private}
use Rattle.sf_part.specs.Timed.{TimedPart}
use Rattle.sf_safe.specs.Checked.Contract.{Known}
use Rattle.sf_setup.proofs.Goes.{composes, forget, keeps-path, setting-going, spends-time, spends-units}
use Rattle.sf_setup.proofs.Quiet.{child-past, left-below, quiet-no_exit, quiet-no_region, right-below}
use Rattle.sf_setup.specs.Checked.Alone.{HasCome, HasEnded, HasGone, HasMoved, HasParted, IsAlone, IsBelow, IsWithin}
use Rattle.sf_setup.specs.Checked.Laws.{EventsAloneAreSteps}
use Rattle.sf_setup.specs.Checked.RunLaws.{RunLaws}
use Rattle.sf_setup.specs.Checked.Fresh.{BeginsFresh, Origin}
use Rattle.sf_setup.specs.Going.{GoesBy, stays, steps}

abbrev units_of : TimedPart → ℕ
units_of a = length (numbers a.part.supply)

-- numbers that were room enough are so where there are fewer of them
less-room : (a b c : ℕ) → a ≤ b → b * c ≤ STEPS → a * c ≤ STEPS
less-room a b c l h = grind arith

-- half of them have room for a turn more
half-room : (a b n : ℕ) → 2 * a ≤ b → b * 2 ^ n ≤ STEPS → a * 2 ^ (n + 1) ≤ STEPS
half-room a b n l h =
    let double : 2 ^ (n + 1) ≡ 2 * 2 ^ n = ap (λ z. 2 ^ z) (add-one n) ∙ pow-succ' 2 n in
    let more = mul-le-mul_right (2 ^ n) l in
    subst (λ z. a * z ≤ STEPS) (sym double) (omega (arith, more, h))

-- with one number there is a turn left
turn-room : (a n : ℕ) → 1 ≤ a → a * 2 ^ n ≤ STEPS → n < TURNS
turn-room a n l h = elim (cases_lt n TURNS) [
  | inl t ↦ t
  | inr t ↦
      let k : 2 ^ TURNS ≤ 2 ^ n = pow_mono t in
      let m = mul-le-mul_right (2 ^ n) l in
      absurd (omega (arith, k, m, h))
]

-- a list that isn't empty has an element
some-length : (us : List ℕ) → us ≢ [] → 1 ≤ length us
some-length [] n = absurd (n refl)
some-length (u ∷ us) n = omega arith

-- a part that runs doesn't wait
pub answers-run : (p : Program) (a : TimedPart) (owed : _) → IsSafe p owed a.part
    → IsWaiting a.part.stand → ⊥
answers-run p a owed s w = subst IsWaiting s.runs w

module _ (laws : RunLaws) (p : Program) (accepted : IsAccepted p) where
  -- it goes on
  pub alone-on : (a b : Part) (events : List Event) → IsAlone p a
      → GoesBy p (part_of a) events (part_of b) → IsPartOf p b → IsAlone p b
  unfolding GoingKeepsSafe GoingStaysPastSetup EventsAloneAreSteps
  alone-on a b events h go of =
      let path = keeps-path p (part_of a) (part_of b) events go in
      let less = spends-units p (part_of a) (part_of b) events go in
      let far = forget p (part_of a) (part_of b) events go in
      let (others, contents, c, w) = h.within in
      let l = laws.steps p (part_of a) (part_of b) events [] others contents c go w in
      record {
        of = of;
        within = (others, contents, l.config, l.whole);
        owed = h.owed;
        safe = laws.safe p accepted h.owed (part_of a) (part_of b) far h.safe;
        quiet = elim h.quiet [
          | inl up ↦ inl (setting-going laws.setting_up p (part_of a) (part_of b) events go up)
          | inr k ↦ inr (record {
            past = laws.past p (part_of a) (part_of b) accepted.formed far k.past;
            takes = k.takes;
          })
        ];
        room = subst (λ z. units_of (part_of b) * 2 ^ length z ≤ STEPS) (sym path)
            (less-room (units_of (part_of b)) (units_of (part_of a))
            (2 ^ length (part_of a).part.task) less h.room);
      }

  -- its clock stays within the limit
  pub clock-limit : (a b : TimedPart) (events : List Event) → Keeps a → GoesBy p a events b
      → b.clock ≤ STEPS
  clock-limit a b events keeps go =
      let t = spends-time p a b events go in
      let k = keeps.time.within in
      omega (arith, t, k)

  -- by an event of its own
  pub moved-private : (a b : Part) (event : Event) → IsAlone p a → Keeps (part_of a)
      → IsPartOf p b → Private p event (part_of a) (part_of b) → HasMoved p a b
  unfolding StampsRise
  moved-private a b event h keeps of e =
      let go : GoesBy p (part_of a) (event ∷ []) (part_of b) =
      steps (part_of a) [] event (stays refl refl) keeps h.of.is e refl in
      record {
        alone = alone-on a b (event ∷ []) h go of;
        events = event ∷ [];
        goes = go;
        later = (laws.rise p event (part_of a) (part_of b)).0 e;
        limit = clock-limit (part_of a) (part_of b) (event ∷ []) keeps go;
      }

  -- where it stands
  pub come-here : (a b : Part) → IsAlone p a → Keeps (part_of a) → IsPartOf p b
      → part_of b ≡ part_of a → Answers p (part_of a) Done ⊎ Answers p (part_of a) AtInit
      → HasCome p a b
  come-here a b h keeps of same answers =
      let go : GoesBy p (part_of a) [] (part_of b) = stays refl same in
      record {
        alone = alone-on a b [] h go of;
        events = [];
        goes = go;
        keeps = subst Keeps (sym same) keeps;
        stands = subst (λ z. Answers p z Done ⊎ Answers p z AtInit) (sym same) answers;
      }

  -- what was told of a part that was the same
  pub at-answer : (a m : Part) (told answer : Local) → part_of m ≡ part_of a
      → Answers p (part_of m) told → told ≡ answer → Answers p (part_of a) answer
  at-answer a m told answer same answers is =
      subst (λ z. Answers p z answer) same (subst (Answers p (part_of m)) is answers)

  pub alone-same : (a b : Part) → IsAlone p a → IsPartOf p b → part_of b ≡ part_of a → IsAlone p b
  alone-same a b h of same = alone-on a b [] h (stays refl same) of

  pub gone-nowhere : (a : Part) → IsAlone p a → HasGone p a a
  gone-nowhere a h =
      record { alone = h; events = []; goes = stays refl refl; level = refl }

  pub gone-moved : (a b c : Part) → HasGone p a b → HasMoved p b c → HasGone p a c
  gone-moved a b c g h = record {
    alone = h.alone;
    events = g.events ++ h.events;
    goes = composes p (part_of a) (part_of b) (part_of c) g.events h.events g.goes h.goes;
    level = ap length (keeps-path p (part_of b) (part_of c) h.events h.goes) ∙ g.level;
  }

  pub gone-come : (a b c : Part) → HasGone p a b → HasCome p b c → HasCome p a c
  gone-come a b c g h = record {
    alone = h.alone;
    events = g.events ++ h.events;
    goes = composes p (part_of a) (part_of b) (part_of c) g.events h.events g.goes h.goes;
    keeps = h.keeps;
    stands = h.stands;
  }

  -- a child comes to its end
  pub come-ended : (a b : Part) → IsPastSetup p (part_of a).part → HasCome p a b → HasEnded p a b
  unfolding GoingStaysPastSetup PastSetupNothingSettles
  come-ended a b past h =
      let still = laws.past p (part_of a) (part_of b) accepted.formed
      (forget p (part_of a) (part_of b) h.events h.goes) past in
      record {
        alone = h.alone;
        events = h.events;
        goes = h.goes;
        done = elim h.stands [
          | inl done ↦ done
          | inr (frames, stand, settling) ↦
              absurd (laws.no_settling p (part_of b).part frames still stand settling)
        ];
      }

  -- what sets the resources up comes to that return
  pub come-settling : (a b : Part) → IsSettingUp p (part_of a).part → HasCome p a b
      → IsSettingUp p (part_of b).part × Answers p (part_of b) AtInit
  unfolding SettingUpIsAlone
  come-settling a b up h =
      let still = setting-going laws.setting_up p (part_of a) (part_of b) h.events h.goes up in
      let nobody = laws.nobody p (part_of b).part accepted.formed accepted.conditions
      h.alone.of.is still in (
        still,
        elim h.stands [
          | inl (frames, stand, ended) ↦ absurd (nobody.going frames stand ended)
          | inr at ↦ at
        ],
      )

  -- it comes to no region, and every cell that it looks for is there
  pub no-region : (a : Part) → IsAlone p a → (r : ResId) → Answers p (part_of a) (AtRegion r) → ⊥
  no-region a h r at = quiet-no_region p accepted.formed accepted.conditions h.owed
      (part_of a).part h.of.is h.safe h.quiet (part_of a) refl r at

  pub no-exit : (a : Part) → IsAlone p a → (r : ResId) → Answers p (part_of a) (AtExit r) → ⊥
  no-exit a h r at = quiet-no_exit p accepted.formed accepted.conditions h.owed
      (part_of a).part h.of.is h.safe h.quiet (part_of a) refl r at

  pub no-absent : (a : Part) → IsAlone p a → (v : Value) → Answers p (part_of a) (Absent v) → ⊥
  unfolding AbsentNeverComes
  no-absent a h v at = laws.no_absent p h.owed (part_of a) v h.safe at

  -- it has the contents of all resources where it returns so
  pub no-lack : (a : Part) → IsAlone p a → IsAtInit p (part_of a).part
      → HasNoContents p (part_of a).part → ⊥
  unfolding AllContentsAreThere
  no-lack a h at none = laws.contents p accepted h.owed (part_of a).part h.safe at none

  -- with a unit for the fork it has a turn for its children
  pub turn-left : (a : Part) → IsAlone p a → numbers (part_of a).part.supply ≢ []
      → length (part_of a).part.task < TURNS
  turn-left a h unit = turn-room (units_of (part_of a)) (length (part_of a).part.task)
      (some-length (numbers (part_of a).part.supply) unit) h.room

  -- and the shares of its children at a fork
  pub no-shares : (a : Part) → IsAlone p a → Keeps (part_of a) → IsAtFork (part_of a).part
      → numbers (part_of a).part.supply ≢ [] → HasNoShares p (part_of a) → ⊥
  unfolding SharesAreThere
  no-shares a h keeps (frames, stand, at) unit none =
      let k = laws.shares p accepted h.owed (part_of a) frames keeps h.of.is h.safe stand at
      (turn-left a h unit) unit in
      none k.event k.after k.one k.two k.lends

  -- with the part with which such a run begins
  pub first-alone : (o : Origin) (a : Part) → BeginsFresh p o (part_of a) → IsPartOf p a
      → Keeps (part_of a) → IsAlone p a
  unfolding FirstPartsAreWhole FirstPartsAreSafe FreshPartsSetUp
  first-alone o a x of keeps =
      let w = laws.first_whole p o.entry o.store o.heap o.config o.base o.count (part_of a) []
      x.start x.first in
      record {
        of = of;
        within = ([], [], o.config, w.0);
        owed = _;
        safe = laws.first_safe p accepted o.entry o.store o.heap o.config o.base o.count (part_of a)
            [] x.start x.first tt;
        quiet = inl (laws.sets_up p o.entry o.store o.heap o.config o.base o.count (part_of a) []
            x.start x.first x.fresh);
        room = subst (λ z. units_of (part_of a) * 2 ^ length z ≤ STEPS) (sym x.first.task)
            (let t = keeps.time.within in omega (arith, t));
      }

  pub first-sets_up : (o : Origin) (a : TimedPart) → BeginsFresh p o a → IsSettingUp p a.part
  unfolding FreshPartsSetUp
  first-sets_up o a x = laws.sets_up p o.entry o.store o.heap o.config o.base o.count a [] x.start
      x.first x.fresh

  -- the fork of one
  module _ (a : Part) (event : Event) (waits left right : Part) (h : IsAlone p a)
      (keeps : Keeps (part_of a))
      (x : Lends p event (part_of a) (part_of waits) (part_of left) (part_of right))
      (unit : numbers (part_of a).part.supply ≢ []) (waits_of : IsPartOf p waits)
      (left_of : IsPartOf p left) (right_of : IsPartOf p right) where
    abbrev safes : AreSafe p h.owed (part_of waits).part (part_of left).part (part_of right).part
    unfolding ForksKeepSafe
    safes = laws.forks_safe p accepted h.owed event (part_of a) (part_of waits) (part_of left)
        (part_of right) keeps x h.of.is h.safe

    waits_at : (part_of waits).part.task ≡ (part_of a).part.task
    waits_at = sym (x.forks.children.task) ∙ x.forks.acts.task

    -- a child stands one turn further down, where half of the units have room
    child-length : (child : TimedPart) (turn : Turn)
        → child.part.task ≡ (part_of waits).part.task ++ turn ∷ []
        → length child.part.task ≡ length (part_of a).part.task + 1
    child-length child turn is = ap length (is ∙ ap (λ z. z ++ turn ∷ []) waits_at)
        ∙ length-append (part_of a).part.task (turn ∷ [])

    child-room : (child : TimedPart) → length child.part.task ≡ length (part_of a).part.task + 1
        → 2 * units_of child ≤ units_of (part_of a)
        → units_of child * 2 ^ length child.part.task ≤ STEPS
    child-room child deeper half = subst (λ z. units_of child * 2 ^ z ≤ STEPS) (sym deeper)
        (half-room (units_of child) (units_of (part_of a)) (length (part_of a).part.task) half
        h.room)

    left-length : length (part_of left).part.task ≡ length (part_of a).part.task + 1
    left-length = child-length (part_of left) left_turn x.forks.children.left_one.task

    right-length : length (part_of right).part.task ≡ length (part_of a).part.task + 1
    right-length = child-length (part_of right) right_turn x.forks.children.right_one.task

    halves : (2 * units_of (part_of left) ≤ units_of (part_of a))
        × (2 * units_of (part_of right) ≤ units_of (part_of a))
    unfolding ForksHalve
    halves = laws.halve p event (part_of a) (part_of waits) (part_of left) (part_of right) x.forks

    -- the whole that the three are of
    forked : (others : List WholePart) × (contents : List Content) × (c : Config)
        × Whole ((part_of waits).part ∷ (part_of left).part ∷ (part_of right).part ∷ others)
        contents c
    unfolding ForksAreSteps
    forked =
        let (others, contents, c, w) = h.within in
        let l = laws.forks p event (part_of a) (part_of waits) (part_of left) (part_of right) []
        others contents c x.forks w in
        (others, contents, l.config, l.whole)

    within-left : IsWithin (part_of left).part
    unfolding PartsInAnyOrder
    within-left =
        let (others, contents, c, w) = forked in (
          (part_of waits).part ∷ (part_of right).part ∷ others,
          contents,
          c,
          (laws.order ((part_of waits).part ∷ []) ((part_of right).part ∷ others)
              (part_of left).part contents c).0 w,
        )

    within-right : IsWithin (part_of right).part
    unfolding PartsInAnyOrder
    within-right =
        let (others, contents, c, w) = forked in (
          (part_of waits).part ∷ (part_of left).part ∷ others,
          contents,
          c,
          (laws.order ((part_of waits).part ∷ (part_of left).part ∷ []) others
              (part_of right).part contents c).0 w,
        )

    child-alone : (child : Part) → IsPartOf p child → IsWithin (part_of child).part
        → (owed : Known) → IsSafe p owed (part_of child).part → IsBelow p owed (part_of child).part
        → length (part_of child).part.task ≡ length (part_of a).part.task + 1
        → 2 * units_of (part_of child) ≤ units_of (part_of a) → IsAlone p child
    child-alone child of within owed safe below deeper half = record {
      of = of;
      within = within;
      owed = owed;
      safe = safe;
      quiet = inr below;
      room = child-room (part_of child) deeper half;
    }

    pub parted : HasParted p a (record { waits = waits; left = left; right = right })
    parted = record {
      alone = h;
      keeps = keeps;
      event = event;
      lends = x;
      waits_of = waits_of;
      left = child-alone left left_of within-left safes.left safes.first
          (left-below p accepted.formed accepted.conditions h.owed event (part_of a)
          (part_of waits) (part_of left) (part_of right) x h.of.is h.safe h.quiet safes.left
          safes.first left_of.is) left-length halves.0;
      right = child-alone right right_of within-right safes.right safes.second
          (right-below p accepted.formed accepted.conditions h.owed event (part_of a)
          (part_of waits) (part_of left) (part_of right) x h.of.is h.safe h.quiet safes.right
          safes.second right_of.is) right-length halves.1;
      left_past = child-past p (part_of left).part x.left left_of.is x.left_runs;
      right_past = child-past p (part_of right).part x.right right_of.is x.right_runs;
      turns = turn-left a h unit;
      left_deeper = left-length;
      right_deeper = right-length;
    }
