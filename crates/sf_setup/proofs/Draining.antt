-- Where a task that goes on alone comes to one that has no unit left, that one has spent its steps.
-- Names: `segment-LAW` of events that lead on, `drained-WHERE` of the task that has none; the lemma
-- of the law has the name of its function.
use Rattle.std.specs.Prelude.{◌≡◌, ◌+◌, ℕ, List, [], ◌∷◌, ◌++◌, length, Some}
use Rattle.std.proofs.Common.{sym, ap, ◌∙◌, subst, arith}
use Rattle.std.proofs.lemmas.List.{append_assoc}
use Rattle.std.proofs.lemmas.Option.{none-some, same_Some}
use Rattle.sf_base.specs.declared.path.Turn.{Turn}
use Rattle.sf_base.specs.declared.path.Turn.TheVariants.{Left as left_turn, Right as right_turn}
use Rattle.sf_core.specs.Machine.Config.{Frame, Task, runs, waits, Path, Config, task_at, IsOver}
use Rattle.sf_core.specs.Machine.Enabled.{HasEnded}
use Rattle.sf_core.specs.Machine.SpentSteps.{NeedsNoChild, Spending, SpendingFrom, is_at_or_above}
use Rattle.sf_core.specs.Machine.Step.{Event}
use Rattle.sf_core.specs.Machine.Supplies.{Supply, has, lent, left_in, supply_at, units as units_from}
use Rattle.sf_core.specs.Machine.Whole.{Part, Content, Whole, numbers, running, waiting}
use Rattle.sf_core.specs.Program.Syntax.{Program}
use Rattle.sf_part.specs.Checked.Laws.{FirstPartsAreWhole, ForksAreSteps, Leads}
use Rattle.sf_part.specs.Checked.LawsOfWhole.{RunningPartsRun, WaitingPartsWait}
use Rattle.sf_part.specs.Lent.{Lends}
use Rattle.sf_part.specs.Supplied.{Supplied}
use Rattle.sf_part.specs.Timed.{TimedPart}
use Rattle.sf_part.proofs.Shares.{supply_at-child}
use Rattle.sf_setup.proofs.Counts.{child-below, counts-beside, counts-under, spends-anew, supply-none, supply-runs, supply-waits, units-length}
use Rattle.sf_setup.proofs.Goes.{AreUnder, keeps-given, keeps-path, under-append, under-at, under-going, under-widen}
use Rattle.sf_setup.proofs.Leading.{leads-shift, leads-shift_two, whole-shift, whole-shift_two}
use Rattle.sf_setup.specs.Checked.Laws.{DrainedTasksHaveSpentSteps, EventsAloneAreSteps}
use Rattle.sf_setup.specs.Draining.{Drains, here, in_left, in_right, at_join}
use Rattle.sf_setup.specs.Going.{GoesBy}
use Rattle.sf_spend.specs.Checked.Laws.{CountedListsAreNumbered, CountsCompose, CountsStayBalanced, NumberedListsAreCounted}
use Rattle.sf_spend.specs.Counting.{CountedFrom, IsDividedAs}

-- events that lead on, counted for a task
record Segment (p : Program) (path : Path) (c d : Config) (supply : Supply) (s : Spending)
    (events : List Event) (news : List Part) : Type 0 where
  rest : Supply
  last : Spending
  counted : CountedFrom p path c supply s events d rest last
  supplied : Supplied news rest

-- the task that has no unit left, after such events
record Drained (p : Program) (path : Path) (given : ℕ) (c : Config) (supply : Supply) (s : Spending)
    (events : List Event) : Type 0 where
  config : Config
  rest : Supply
  last : Spending
  counted : CountedFrom p path c supply s events config rest last
  given_is : last.given ≡ given
  own : Supply
  there : supply_at path rest ≡ Some own
  none : left_in own ≡ []
  task : Task
  at : task_at path config.tasks ≡ Some task
  going : HasEnded path task → ⊥
  alone : NeedsNoChild task

-- a list of parts in which others stand before three
abbrev three : List Part → (waiting_one one two : TimedPart) → List Part → List Part
three before waiting_one one two after =
    before ++ waiting_one.part ∷ one.part ∷ two.part ∷ after

-- the children of one that waits, in the tree of tasks
task-children : (path : Path) (tree : Task) (frames : List Frame) (one two : Task)
    → task_at path tree ≡ Some (waits frames one two)
    → (task_at (path ++ left_turn ∷ []) tree ≡ Some one)
    × (task_at (path ++ right_turn ∷ []) tree ≡ Some two)
task-children [] (runs others) frames one two e = absurd (cc)
task-children [] (waits others a b) frames one two e =
    let h : waits others a b ≡ waits frames one two =
    same_Some (waits others a b) (waits frames one two) e in
    let k : a ≡ one = cc in
    let l : b ≡ two = cc in
    (ap Some k, ap Some l)
task-children (left_turn ∷ path) (runs others) frames one two e = absurd (cc)
task-children (right_turn ∷ path) (runs others) frames one two e = absurd (cc)
task-children (left_turn ∷ path) (waits others a b) frames one two e =
    task-children path a frames one two e
task-children (right_turn ∷ path) (waits others a b) frames one two e =
    task-children path b frames one two e

module _ (counted_law : NumberedListsAreCounted) (compose_law : CountsCompose) (p : Program)
    (path : Path) where
  segment-of : (c : Config) (supply : Supply) (s : Spending) (events : List Event)
      (olds news : List Part) (contents : List Content)
      → (l : Leads p events c olds news contents) → Supplied olds supply
      → Segment p path c l.config supply s events news
  unfolding NumberedListsAreCounted
  segment-of c supply s events olds news contents l h =
      let (rest, n, k) = l.numbered supply h in
      let (last, counted) = counted_law p path c l.config supply rest s events n in
      record { rest = rest; last = last; counted = counted; supplied = k }

  segment-then : (c d e : Config) (supply : Supply) (s : Spending) (events more : List Event)
      (between news : List Part) → (k : Segment p path c d supply s events between)
      → (l : Segment p path d e k.rest k.last more news)
      → CountedFrom p path c supply s (events ++ more) e l.rest l.last
  unfolding CountsCompose
  segment-then c d e supply s events more between news k l =
      compose_law p path c d e supply k.rest l.rest s k.last l.last events more k.counted l.counted

  drained-then : (c d : Config) (supply : Supply) (s : Spending) (events more : List Event)
      (news : List Part) (given : ℕ) → (k : Segment p path c d supply s events news)
      → Drained p path given d k.rest k.last more → Drained p path given c supply s (events ++ more)
  unfolding CountsCompose
  drained-then c d supply s events more news given k x = record {
    config = x.config;
    rest = x.rest;
    last = x.last;
    counted = compose_law p path c d x.config supply k.rest x.rest s k.last x.last events more
        k.counted x.counted;
    given_is = x.given_is;
    own = x.own;
    there = x.there;
    none = x.none;
    task = x.task;
    at = x.at;
    going = x.going;
    alone = x.alone;
  }

-- what is counted over the one event of a fork, of the task at a child's path
fork-given : (p : Program) (path : Path) (turn : Turn) (c d : Config) (supply rest own : Supply)
    (s last : Spending) (event : Event) (us : List ℕ) → event.task ≡ path
    → supply_at path supply ≡ Some (has us) → supply_at (path ++ turn ∷ []) rest ≡ Some own
    → CountedFrom p (path ++ turn ∷ []) c supply s (event ∷ []) d rest last
    → last.given ≡ length (left_in own)
fork-given p path turn c d supply rest own s last event us at before after (between, left, step, takes, (e, f, g)) =
    ap (λ (z : Spending). z.given) g
    ∙ spends-anew (path ++ turn ∷ []) event.task supply left own s
    (ap (λ z. is_at_or_above (path ++ turn ∷ []) z) at ∙ child-below path turn)
    (supply-none path turn supply us before)
    (ap (λ z. supply_at (path ++ turn ∷ []) z) (sym f) ∙ after)

module _ (steps_law : EventsAloneAreSteps) (fork_law : ForksAreSteps) (run_law : RunningPartsRun)
    (wait_law : WaitingPartsWait) (counted_law : NumberedListsAreCounted)
    (compose_law : CountsCompose) (p : Program) (contents : List Content) where
  -- the part comes to where it would go on
  drained-here : (a b : TimedPart) (events : List Event) (before after : List Part) (c : Config)
      (supply : Supply) (s : Spending) → GoesBy p a events b → (frames : List Frame)
      → b.part.stand ≡ running frames → (HasEnded b.part.task (runs frames) → ⊥)
      → numbers b.part.supply ≡ []
      → Whole (before ++ a.part ∷ after) contents c → Supplied (before ++ a.part ∷ after) supply
      → s.given ≡ a.given → Drained p b.part.task b.given c supply s events
  unfolding EventsAloneAreSteps RunningPartsRun
  drained-here a b events before after c supply s go frames stand going none w h given =
      let l = steps_law p a b events before after contents c go w in
      let k = segment-of counted_law compose_law p b.part.task c supply s events
      (before ++ a.part ∷ after) (before ++ b.part ∷ after) contents l h in
      let same = keeps-path p a b events go in
      record {
        config = l.config;
        rest = k.rest;
        last = k.last;
        counted = k.counted;
        given_is = counts-under p b.part.task c l.config supply k.rest s k.last events
            (subst (λ z. AreUnder z events) (sym same) (under-going p a b events go)) k.counted
            ∙ (given ∙ sym (keeps-given p a b events go));
        own = has (numbers b.part.supply);
        there = supply-runs before after b.part frames k.rest k.supplied stand;
        none = none;
        task = runs frames;
        at = run_law before after b.part contents l.config frames l.whole stand;
        going = going;
        alone = tt;
      }

  -- it comes to a fork, which makes its children
  module _ (path : Path) (a b waiting_one one two : TimedPart) (events : List Event) (event : Event)
      (before after : List Part) (c : Config) (supply : Supply) (s : Spending)
      (go : GoesBy p a events b) (x : Lends p event b waiting_one one two)
      (w : Whole (before ++ a.part ∷ after) contents c)
      (h : Supplied (before ++ a.part ∷ after) supply) where
    abbrev fork_path : Path
    fork_path = waiting_one.part.task

    abbrev lead_on : Leads p events c (before ++ a.part ∷ after) (before ++ b.part ∷ after) contents
    unfolding EventsAloneAreSteps
    lead_on = steps_law p a b events before after contents c go w

    abbrev lead_fork : Leads p (event ∷ []) lead_on.config (before ++ b.part ∷ after)
        (three before waiting_one one two after) contents
    unfolding ForksAreSteps
    lead_fork = fork_law p event b waiting_one one two before after contents lead_on.config
        x.forks lead_on.whole

    abbrev first_segment : Segment p path c lead_on.config supply s events
        (before ++ b.part ∷ after)
    first_segment = segment-of counted_law compose_law p path c supply s events
        (before ++ a.part ∷ after) (before ++ b.part ∷ after) contents lead_on h

    abbrev fork_segment : Segment p path lead_on.config lead_fork.config first_segment.rest
        first_segment.last (event ∷ []) (three before waiting_one one two after)
    fork_segment = segment-of counted_law compose_law p path lead_on.config first_segment.rest
        first_segment.last (event ∷ []) (before ++ b.part ∷ after)
        (three before waiting_one one two after) contents lead_fork first_segment.supplied

    same_path : fork_path ≡ b.part.task
    same_path = sym (((x.forks).children).task) ∙ ((x.forks).acts).task

    event_at : event.task ≡ fork_path
    event_at = ((x.forks).acts).own ∙ sym same_path

    had : supply_at fork_path first_segment.rest ≡ Some (has (numbers b.part.supply))
    had = subst (λ z. supply_at z first_segment.rest ≡ Some (has (numbers b.part.supply)))
        (sym same_path)
        (supply-runs before after b.part (x.forks).frames first_segment.rest
        first_segment.supplied ((x.forks).acts).from_is)

    -- what the left child was given is what is counted of it from then on
    fork-left : path ≡ one.part.task → fork_segment.last.given ≡ one.given
    fork-left e =
        let at : path ≡ fork_path ++ left_turn ∷ [] = e ∙ (((x.forks).children).left_one).task in
        let own = subst (λ z. supply_at z fork_segment.rest ≡ Some (has (numbers one.part.supply)))
        (((x.forks).children).left_one).task
        (supply-runs (before ++ waiting_one.part ∷ []) (two.part ∷ after) one.part
        (x.left ∷ []) fork_segment.rest
        (subst (λ z. Supplied z fork_segment.rest)
        (sym (append_assoc before (waiting_one.part ∷ []) (one.part ∷ two.part ∷ after)))
        fork_segment.supplied) x.left_runs) in
        fork-given p fork_path left_turn lead_on.config lead_fork.config first_segment.rest
        fork_segment.rest (has (numbers one.part.supply)) first_segment.last fork_segment.last event
        (numbers b.part.supply) event_at had own
        (subst (λ z. CountedFrom p z lead_on.config first_segment.rest first_segment.last
        (event ∷ []) lead_fork.config fork_segment.rest fork_segment.last) at fork_segment.counted)
        ∙ sym ((x.forks).left_begins).given

    -- and so is what the right one was given
    right_there : supply_at (fork_path ++ right_turn ∷ []) fork_segment.rest
        ≡ Some (has (numbers two.part.supply))
    right_there = subst (λ z. supply_at z fork_segment.rest ≡ Some (has (numbers two.part.supply)))
        (((x.forks).children).right_one).task
        (supply-runs ((before ++ waiting_one.part ∷ []) ++ one.part ∷ []) after two.part
        (x.right ∷ []) fork_segment.rest
        (subst (λ z. Supplied z fork_segment.rest)
        (sym (append_assoc (before ++ waiting_one.part ∷ []) (one.part ∷ []) (two.part ∷ after)
        ∙ append_assoc before (waiting_one.part ∷ []) (one.part ∷ two.part ∷ after)))
        fork_segment.supplied) x.right_runs)

    fork-right : path ≡ two.part.task → fork_segment.last.given ≡ two.given
    fork-right e =
        let at : path ≡ fork_path ++ right_turn ∷ [] = e ∙ (((x.forks).children).right_one).task in
        fork-given p fork_path right_turn lead_on.config lead_fork.config first_segment.rest
        fork_segment.rest (has (numbers two.part.supply)) first_segment.last fork_segment.last event
        (numbers b.part.supply) event_at had right_there
        (subst (λ z. CountedFrom p z lead_on.config first_segment.rest first_segment.last
        (event ∷ []) lead_fork.config fork_segment.rest fork_segment.last) at fork_segment.counted)
        ∙ sym ((x.forks).right_begins).given

    -- the whole in which the left child stands last of those before
    left_whole : Whole ((before ++ waiting_one.part ∷ []) ++ one.part ∷ two.part ∷ after) contents
        lead_fork.config
    left_whole = whole-shift before (one.part ∷ two.part ∷ after) waiting_one.part contents
        lead_fork.config lead_fork.whole

    left_supplied : Supplied ((before ++ waiting_one.part ∷ []) ++ one.part ∷ two.part ∷ after)
        fork_segment.rest
    left_supplied = subst (λ z. Supplied z fork_segment.rest)
        (sym (append_assoc before (waiting_one.part ∷ []) (one.part ∷ two.part ∷ after)))
        fork_segment.supplied

    -- from where its left child comes to such a task, so does the part
    from-left : (given : ℕ) (more : List Event)
        → Drained p path given lead_fork.config fork_segment.rest fork_segment.last more
        → Drained p path given c supply s (events ++ event ∷ more)
    from-left given more d =
        drained-then counted_law compose_law p path c lead_on.config supply s events
        (event ∷ more) (before ++ b.part ∷ after) given first_segment
        (drained-then counted_law compose_law p path lead_on.config lead_fork.config
        first_segment.rest first_segment.last (event ∷ []) more
        (three before waiting_one one two after) given fork_segment d)

    -- the left child has gone on to its end
    module _ (left : TimedPart) (first : List Event) (go_left : GoesBy p one first left) where
      abbrev lead_left : Leads p first lead_fork.config (three before waiting_one one two after)
          (three before waiting_one left two after) contents
      unfolding EventsAloneAreSteps
      lead_left = leads-shift p first lead_fork.config before (two.part ∷ after) waiting_one.part
          one.part left.part contents
          (steps_law p one left first (before ++ waiting_one.part ∷ []) (two.part ∷ after) contents
          lead_fork.config go_left left_whole)

      abbrev left_segment : Segment p path lead_fork.config lead_left.config fork_segment.rest
          fork_segment.last first (three before waiting_one left two after)
      left_segment = segment-of counted_law compose_law p path lead_fork.config fork_segment.rest
          fork_segment.last first (three before waiting_one one two after)
          (three before waiting_one left two after) contents lead_left fork_segment.supplied

      -- which changes nothing of what the right one was given
      beside-left : path ≡ two.part.task → left_segment.last.given ≡ two.given
      beside-left e =
          let at : path ≡ fork_path ++ right_turn ∷ [] =
          e ∙ (((x.forks).children).right_one).task in
          let same = counts-beside p fork_path lead_fork.config lead_left.config fork_segment.rest
          left_segment.rest (has (numbers two.part.supply)) fork_segment.last left_segment.last
          first (subst (λ z. AreUnder z first) (((x.forks).children).left_one).task
          (under-going p one left first go_left)) right_there
          (subst (λ z. CountedFrom p z lead_fork.config fork_segment.rest fork_segment.last first
          lead_left.config left_segment.rest left_segment.last) at left_segment.counted) in
          ap (λ (z : Spending). z.given) same ∙ fork-right e

      right_whole : Whole (((before ++ waiting_one.part ∷ []) ++ left.part ∷ []) ++ two.part ∷ after)
          contents lead_left.config
      right_whole = whole-shift_two before (two.part ∷ after) waiting_one.part left.part contents
          lead_left.config lead_left.whole

      right_supplied : Supplied
          (((before ++ waiting_one.part ∷ []) ++ left.part ∷ []) ++ two.part ∷ after)
          left_segment.rest
      right_supplied = subst (λ z. Supplied z left_segment.rest)
          (sym (append_assoc (before ++ waiting_one.part ∷ []) (left.part ∷ []) (two.part ∷ after)
          ∙ append_assoc before (waiting_one.part ∷ []) (left.part ∷ two.part ∷ after)))
          left_segment.supplied

      from-right : (given : ℕ) (more : List Event)
          → Drained p path given lead_left.config left_segment.rest left_segment.last more
          → Drained p path given c supply s (events ++ event ∷ (first ++ more))
      from-right given more d =
          from-left given (first ++ more)
          (drained-then counted_law compose_law p path lead_fork.config lead_left.config
          fork_segment.rest fork_segment.last first more (three before waiting_one left two after)
          given left_segment d)

      -- both have ended
      module _ (right : TimedPart) (second : List Event) (go_right : GoesBy p two second right)
        where
          abbrev lead_right : Leads p second lead_left.config (three before waiting_one left two after)
              (three before waiting_one left right after) contents
          unfolding EventsAloneAreSteps
          lead_right = leads-shift_two p second lead_left.config before after waiting_one.part
              left.part two.part right.part contents
              (steps_law p two right second ((before ++ waiting_one.part ∷ []) ++ left.part ∷ [])
              after contents lead_left.config go_right right_whole)

          abbrev right_segment : Segment p path lead_left.config lead_right.config left_segment.rest
              left_segment.last second (three before waiting_one left right after)
          right_segment = segment-of counted_law compose_law p path lead_left.config
              left_segment.rest left_segment.last second (three before waiting_one left two after)
              (three before waiting_one left right after) contents lead_right left_segment.supplied

          -- all these events are of the parent or below it
          all-under : AreUnder fork_path (events ++ event ∷ (first ++ second))
          all-under =
              let here_ = subst (λ z. AreUnder z events)
              (sym (same_path ∙ keeps-path p a b events go)) (under-going p a b events go) in
              let firsts = under-widen fork_path left_turn first
              (subst (λ z. AreUnder z first) (((x.forks).children).left_one).task
              (under-going p one left first go_left)) in
              let seconds = under-widen fork_path right_turn second
              (subst (λ z. AreUnder z second) (((x.forks).children).right_one).task
              (under-going p two right second go_right)) in
              under-append fork_path events (event ∷ (first ++ second)) here_ (
                under-at fork_path event.task event_at,
                under-append fork_path first second firsts
                    seconds,
              )

          -- so the parent needs no child, and has no unit left where they have none
          at-join : path ≡ fork_path → left.part.stand ≡ running [] → numbers left.part.supply ≡ []
              → right.part.stand ≡ running [] → numbers right.part.supply ≡ []
              → s.given ≡ a.given
              → Drained p path waiting_one.given c supply s (events ++ event ∷ (first ++ second))
          unfolding RunningPartsRun WaitingPartsWait CountsCompose
          at-join e left_over left_none right_over right_none given =
              let news = three before waiting_one left right after in
              let counted : CountedFrom p path c supply s (events ++ event ∷ (first ++ second))
              lead_right.config right_segment.rest right_segment.last =
              compose_law p path c lead_on.config lead_right.config supply first_segment.rest
              right_segment.rest s first_segment.last right_segment.last events
              (event ∷ (first ++ second)) first_segment.counted
              (compose_law p path lead_on.config lead_fork.config lead_right.config
              first_segment.rest fork_segment.rest right_segment.rest first_segment.last
              fork_segment.last right_segment.last (event ∷ []) (first ++ second)
              fork_segment.counted
              (compose_law p path lead_fork.config lead_left.config lead_right.config
              fork_segment.rest left_segment.rest right_segment.rest fork_segment.last
              left_segment.last right_segment.last first second left_segment.counted
              right_segment.counted)) in
              let kept = (x.forks).kept in
              let waits_with : waiting_one.part.stand ≡ waiting kept =
              sym (((x.forks).children).stand) ∙ ((x.forks).acts).to_is in
              let (one_task, two_task, is) = wait_law before (left.part ∷ right.part ∷ after)
              waiting_one.part contents lead_right.config kept lead_right.whole waits_with in
              let children = task-children fork_path lead_right.config.tasks kept one_task two_task is in
              let left_at : task_at (fork_path ++ left_turn ∷ []) lead_right.config.tasks
              ≡ Some (runs []) =
              subst (λ z. task_at z lead_right.config.tasks ≡ Some (runs []))
              (keeps-path p one left first go_left ∙ (((x.forks).children).left_one).task)
              (run_law (before ++ waiting_one.part ∷ []) (right.part ∷ after) left.part contents
              lead_right.config []
              (whole-shift before (left.part ∷ right.part ∷ after) waiting_one.part contents
              lead_right.config lead_right.whole) left_over) in
              let right_at : task_at (fork_path ++ right_turn ∷ []) lead_right.config.tasks
              ≡ Some (runs []) =
              subst (λ z. task_at z lead_right.config.tasks ≡ Some (runs []))
              (keeps-path p two right second go_right ∙ (((x.forks).children).right_one).task)
              (run_law ((before ++ waiting_one.part ∷ []) ++ left.part ∷ []) after right.part contents
              lead_right.config []
              (whole-shift_two before (right.part ∷ after) waiting_one.part left.part contents
              lead_right.config lead_right.whole) right_over) in
              let one_is : one_task ≡ runs [] =
              same_Some one_task (runs []) (sym children.0 ∙ left_at) in
              let two_is : two_task ≡ runs [] =
              same_Some two_task (runs []) (sym children.1 ∙ right_at) in
              let (own_left, own_right, lent_is) = supply-waits before (left.part ∷ right.part ∷ after)
              waiting_one.part kept right_segment.rest right_segment.supplied waits_with in
              let below = supply_at-child fork_path right_segment.rest own_left own_right lent_is in
              let left_supply : supply_at (fork_path ++ left_turn ∷ []) right_segment.rest
              ≡ Some (has (numbers left.part.supply)) =
              subst (λ z. supply_at z right_segment.rest ≡ Some (has (numbers left.part.supply)))
              (keeps-path p one left first go_left ∙ (((x.forks).children).left_one).task)
              (supply-runs (before ++ waiting_one.part ∷ []) (right.part ∷ after) left.part []
              right_segment.rest
              (subst (λ z. Supplied z right_segment.rest)
              (sym (append_assoc before (waiting_one.part ∷ []) (left.part ∷ right.part ∷ after)))
              right_segment.supplied) left_over) in
              let right_supply : supply_at (fork_path ++ right_turn ∷ []) right_segment.rest
              ≡ Some (has (numbers right.part.supply)) =
              subst (λ z. supply_at z right_segment.rest ≡ Some (has (numbers right.part.supply)))
              (keeps-path p two right second go_right ∙ (((x.forks).children).right_one).task)
              (supply-runs ((before ++ waiting_one.part ∷ []) ++ left.part ∷ []) after right.part []
              right_segment.rest
              (subst (λ z. Supplied z right_segment.rest)
              (sym (append_assoc (before ++ waiting_one.part ∷ []) (left.part ∷ []) (right.part ∷ after)
              ∙ append_assoc before (waiting_one.part ∷ []) (left.part ∷ right.part ∷ after)))
              right_segment.supplied) right_over) in
              let own_left_is : own_left ≡ has [] =
              same_Some own_left (has []) (sym below.0 ∙ left_supply ∙ ap (λ z. Some (has z)) left_none)
              in
              let own_right_is : own_right ≡ has [] =
              same_Some own_right (has [])
              (sym below.1 ∙ right_supply ∙ ap (λ z. Some (has z)) right_none) in
              record {
                config = lead_right.config;
                rest = right_segment.rest;
                last = right_segment.last;
                counted = counted;
                given_is = counts-under p path c lead_right.config supply right_segment.rest s
                    right_segment.last (events ++ event ∷ (first ++ second))
                    (subst (λ z. AreUnder z (events ++ event ∷ (first ++ second))) (sym e) all-under)
                    counted
                    ∙ (given ∙ (sym (keeps-given p a b events go) ∙ sym ((x.forks).notes).given));
                own = lent own_left own_right;
                there = ap (λ z. supply_at z right_segment.rest) e ∙ lent_is;
                none = ap (λ z. left_in z ++ left_in own_right) own_left_is
                    ∙ ap (λ z. left_in z) own_right_is;
                task = waits kept one_task two_task;
                at = ap (λ z. task_at z lead_right.config.tasks) e ∙ is;
                going = not-ended path kept one_task two_task;
                alone = (subst IsOver (sym one_is) tt, subst IsOver (sym two_is) tt);
              }
            where
              not-ended : (q : Path) (frames : List Frame) (t u : Task)
                  → HasEnded q (waits frames t u) → ⊥
              not-ended [] frames t u h = h
              not-ended (turn ∷ q) frames t u h = h

  -- wherever it comes to one
  drained-at : (a : TimedPart) (events : List Event) (path : Path) (given : ℕ)
      (before after : List Part) (c : Config) (supply : Supply) (s : Spending)
      → Drains p a events path given
      → Whole (before ++ a.part ∷ after) contents c → Supplied (before ++ a.part ∷ after) supply
      → (path ≡ a.part.task → s.given ≡ a.given) → Drained p path given c supply s events
  drained-at a all path given before after c supply s (here b go (frames, stand, going) none at is) w h k =
      subst (λ z. Drained p z given c supply s all) (sym at)
      (subst (λ z. Drained p b.part.task z c supply s all) (sym is)
      (drained-here a b all before after c supply s go frames stand going none w h
      (k (at ∙ keeps-path p a b all go))))
  drained-at a all path given before after c supply s (in_left b waiting_one one two events more event go x d is) w h k =
      subst (Drained p path given c supply s) (sym is)
      (from-left path a b waiting_one one two events event before after c supply s go x w h given
      more
      (drained-at one more path given (before ++ waiting_one.part ∷ []) (two.part ∷ after)
      (lead_fork path a b waiting_one one two events event before after c supply s go x w h).config
      (fork_segment path a b waiting_one one two events event before after c supply s go x w
      h).rest
      (fork_segment path a b waiting_one one two events event before after c supply s go x w
      h).last
      d (left_whole path a b waiting_one one two events event before after c supply s go x w h)
      (left_supplied path a b waiting_one one two events event before after c supply s go x w h)
      (fork-left path a b waiting_one one two events event before after c supply s go x w h)))
  drained-at a all path given before after c supply s (in_right b waiting_one one two left events first more event go x go_left d is) w h k =
      subst (Drained p path given c supply s) (sym is)
      (from-right path a b waiting_one one two events event before after c supply s go x w h left
      first go_left given more
      (drained-at two more path given ((before ++ waiting_one.part ∷ []) ++ left.part ∷ []) after
      (lead_left path a b waiting_one one two events event before after c supply s go x w h left
      first go_left).config
      (left_segment path a b waiting_one one two events event before after c supply s go x w h left
      first go_left).rest
      (left_segment path a b waiting_one one two events event before after c supply s go x w h left
      first go_left).last
      d
      (right_whole path a b waiting_one one two events event before after c supply s go x w h left
      first go_left)
      (right_supplied path a b waiting_one one two events event before after c supply s go x w h
      left first go_left)
      (beside-left path a b waiting_one one two events event before after c supply s go x w h left
      first go_left)))
  drained-at a all path given before after c supply s (at_join b waiting_one one two left right events first second event go x go_left left_over left_none go_right right_over right_none at given_is is) w h k =
      subst (Drained p path given c supply s) (sym is)
      (subst (λ z. Drained p path z c supply s (events ++ event ∷ (first ++ second)))
      (sym given_is)
      (at-join path a b waiting_one one two events event before after c supply s go x w h left first
      go_left right second go_right at left_over left_none right_over right_none
      (k (at ∙ (sym (((x.forks).children).task) ∙ (((x.forks).acts).task
      ∙ keeps-path p a b events go))))))

-- a task that was given so many units, and has used as many
spent-all : (s : Spending) (given : ℕ) → s.given ≡ given → s.used ≡ given
    → s ≡ record { given = given; used = given }
spent-all s given e f = λ i. record { given = e i; used = f i }

pub drained_tasks_have_spent_steps : EventsAloneAreSteps → ForksAreSteps → RunningPartsRun
    → WaitingPartsWait → FirstPartsAreWhole → NumberedListsAreCounted → CountedListsAreNumbered
    → CountsCompose → CountsStayBalanced → DrainedTasksHaveSpentSteps
unfolding DrainedTasksHaveSpentSteps FirstPartsAreWhole CountedListsAreNumbered CountsStayBalanced
drained_tasks_have_spent_steps steps_law fork_law run_law wait_law first_law counted_law numbered_law compose_law balance_law p o a events path given x d =
    let start = x.start in
    let first = first_law p o.entry o.store o.heap o.config o.base o.count a [] start x.first in
    let all = has (units_from o.base o.count) in
    let s : Spending = record { given = o.count; used = 0 } in
    let r = drained-at steps_law fork_law run_law wait_law counted_law compose_law p [] a events path
    given [] [] o.config all s d first.0 first.1 (λ e. sym (x.first).given) in
    let divided : IsDividedAs o.config.tasks all =
    subst (λ (z : Config). IsDividedAs z.tasks all) (sym start.is) tt in
    let balanced = balance_law p path o.config r.config all r.rest s r.last events r.counted divided
    (at-start path) r.own r.there in
    let left : length (left_in r.own) ≡ 0 = ap length r.none in
    let used : r.last.used ≡ given =
    let k = r.given_is in omega (arith, balanced, left, k) in
    record {
      events = events;
      config = r.config;
      run = subst (λ z. SpendingFrom p path o.config all s events r.config z)
          (spent-all r.last given r.given_is used)
          (numbered_law p path o.config r.config all r.rest s r.last events r.counted).1;
      task = r.task;
      there = r.at;
      going = r.going;
      alone = r.alone;
    }
  where
    at-start : (q : Path) (own : Supply)
        → supply_at q (has (units_from o.base o.count)) ≡ Some own
        → 0 + length (left_in own) ≡ o.count
    at-start [] own e =
        let h : has (units_from o.base o.count) ≡ own = same_Some _ own e in
        let k = ap (λ z. length (left_in z)) h in
        let n = units-length o.base o.count in
        omega (arith, k, n)
    at-start (turn ∷ q) own e = absurd (none-some own e)
