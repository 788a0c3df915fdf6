-- The table of a run that begins where the procedure that sets the resources up has returned.
-- Names: `fresh-LAW`.
use Rattle.std.specs.Prelude.{◌≡◌, ◌≤◌, ℕ, Bool, true, List, [], ◌∷◌, ◌++◌, map}
use Rattle.std.specs.List.{AllByRecursion}
use Rattle.std.proofs.Common.{true≢false, sym, ap, ◌∙◌, refl, subst, arith, append-nil}
use Rattle.std.proofs.lemmas.List.{length-map}
use Rattle.sf_base.proofs.Options.{some-once}
use Rattle.sf_base.specs.declared.ids.ProcId.{ProcId}
use Rattle.sf_core.specs.declared.program.Program.{Program as CodeProgram}
use Rattle.sf_core.specs.Machine.Config.{Config, Path, runs, task_at}
use Rattle.sf_core.specs.Machine.Next.{next}
use Rattle.sf_core.specs.Machine.Numbered.{NumberedFrom}
use Rattle.sf_core.specs.Machine.SpentSteps.{SpentSteps}
use Rattle.sf_core.specs.Machine.Step.{Event, Step}
use Rattle.sf_core.specs.Machine.Supplies.{Supply, has, units}
use Rattle.sf_core.specs.Machine.Whole.{Whole}
use Rattle.sf_core.specs.Program.Formed.{IsFormed}
use Rattle.sf_core.specs.Program.ProgramView.{program_of}
use Rattle.sf_core.specs.Program.Syntax.{Program}
use Rattle.sf_foot.specs.declared.vars.Vars.{Vars}
use Rattle.sf_foot.specs.Starting.{StartsWith}
use Rattle.sf_heap.specs.Cells.{Cells}
use Rattle.sf_part.specs.Checked.Laws.{FirstPartsAreWhole, Leads, SettlingIsAStep}
use Rattle.sf_part.specs.Checked.LawsOfWhole.{HeldAreOfTheProgram, RunningPartsRun}
use Rattle.sf_part.specs.Contents.{IsContentIn, content_of}
use Rattle.sf_part.specs.declared.content.Content.{Content}
use Rattle.sf_part.specs.declared.part.Part.{Part}
use Rattle.sf_part.specs.Given.{IsContentOf}
use Rattle.sf_part.specs.PartView.{IsPartOf, part_of}
use Rattle.sf_part.specs.Steps.{IsSettling}
use Rattle.sf_part.specs.Supplied.{Supplied}
use Rattle.sf_part.specs.Timed.{TimedPart, TimedContent, contents_of}
use Rattle.sf_part.specs.Starts.{Starts}
use Rattle.sf_setup.specs.Checked.Laws.{EventsAloneAreSteps, FirstPartsBeginFresh, FreshOrigin, SettingUpIsTold}
use Rattle.sf_setup.specs.Checked.Fresh.{BeginsFresh, Origin}
use Rattle.sf_setup.specs.declared.stop.SetUpStop.{SetUpStop}
use Rattle.sf_setup.specs.declared.stop.SetUpStop.TheVariants.{Steps, OutOfMemory}
use Rattle.sf_setup.specs.Checked.SetUp.{HasSetUp, HasStopped, IsSetUp}
use Rattle.sf_setup.specs.Checked.Told.{IsLogUpTo}
use Rattle.sf_run.proofs.Beginnings.{begin-start}
use Rattle.sf_run.proofs.Lists.{numbered-append, reach-append}
use Rattle.sf_run.proofs.Tables.{all-so, all-unmap, contents-same}
use Rattle.sf_run.specs.Checked.Opened.{IsPrepared, IsUnready, told_of}
use Rattle.sf_run.specs.Running.{SetsUp}

module _ (whole_law : FirstPartsAreWhole) (alone : EventsAloneAreSteps) (settling : SettlingIsAStep)
    (held : HeldAreOfTheProgram) (run : RunningPartsRun) (p : Program) (formed : IsFormed p)
    (o : Origin) (a b : TimedPart) (contents : List TimedContent) (begins : BeginsFresh p o a)
    (h : HasSetUp p a contents b) where
  -- the part is the configuration in which the run begins
  pub fresh-whole : Whole (a.part ∷ []) [] o.config × Supplied (a.part ∷ []) (has (units o.base o.count))
  unfolding FirstPartsAreWhole
  fresh-whole = whole_law p o.entry o.store o.heap o.config o.base o.count a [] begins.start begins.first

  -- the events of the procedure that sets the resources up lead on
  pub fresh-events : Leads p h.events o.config (a.part ∷ []) ((h.between).part ∷ []) []
  unfolding EventsAloneAreSteps
  fresh-events = alone p a h.between h.events [] [] [] o.config h.goes fresh-whole.0

  -- and so does its return
  pub fresh-return : Leads p (h.event ∷ []) fresh-events.config ((h.between).part ∷ []) (b.part ∷ [])
      (contents_of contents)
  unfolding SettlingIsAStep HeldAreOfTheProgram
  fresh-return = subst (Leads p (h.event ∷ []) fresh-events.config ((h.between).part ∷ [])
      (b.part ∷ [])) (append-nil (contents_of contents))
      (settling p h.event h.between b contents [] [] [] fresh-events.config (h.gives).settles
      (held p o.entry o.store o.heap o.config fresh-events.config h.events formed begins.start
      fresh-events.reaches) fresh-events.whole)

  -- it is the last of them
  pub fresh-step : Step p h.event fresh-events.config fresh-return.config
  fresh-step = subst (Step p h.event fresh-events.config) (sym (fresh-return.reaches).2)
      (fresh-return.reaches).1

  pub fresh-settling : IsSettling p (next fresh-step.from)
  unfolding RunningPartsRun
  fresh-settling =
      let s = (h.gives).settles in
      let there = run [] [] (h.between).part [] fresh-events.config s.frames fresh-events.whole
      (s.acts).from_is in
      let same : fresh-step.from ≡ runs s.frames =
      some-once (task_at (h.event).task (fresh-events.config).tasks) fresh-step.from (runs s.frames)
      fresh-step.there
      (ap (λ (z : Path). task_at z (fresh-events.config).tasks) (s.acts).own ∙ there) in
      subst (λ z. IsSettling p (next z)) (sym same) s.settling

  pub fresh-sets_up : SetsUp p o.config (h.events ++ h.event ∷ []) fresh-return.config
  fresh-sets_up = record {
    before = h.events;
    event = h.event;
    are = refl;
    between = fresh-events.config;
    reached = fresh-events.reaches;
    step = fresh-step;
    returns = fresh-settling;
  }

  -- they are numbered by the units of the start
  pub fresh-numbered : (rest : Supply)
      × NumberedFrom p o.config (has (units o.base o.count)) (h.events ++ h.event ∷ [])
      fresh-return.config rest × Supplied (b.part ∷ []) rest
  fresh-numbered =
      let first = fresh-events.numbered (has (units o.base o.count)) fresh-whole.1 in
      let last = fresh-return.numbered first.0 first.2 in (
        last.0,
        numbered-append p h.events (h.event ∷ []) o.config fresh-events.config fresh-return.config
            (has (units o.base o.count)) first.0 last.0 first.1 last.1,
        last.2,
      )

-- so the table begins with that
module _ (whole_law : FirstPartsAreWhole) (alone : EventsAloneAreSteps) (settling : SettlingIsAStep)
    (held : HeldAreOfTheProgram) (run : RunningPartsRun) (telling : SettingUpIsTold) (q : CodeProgram)
    (f : ProcId) (vars : Vars) (heap : Cells) (parts : List (List ℕ)) (base count : ℕ)
    (s : StartsWith (program_of q) f true vars heap parts) (o : Origin) (a : TimedPart) (b : Part)
    (ks : List Content) (begins : BeginsFresh (program_of q) o a)
    (is : FreshOrigin (program_of q) f vars heap parts base count s o)
    (h : HasSetUp (program_of q) a (map content_of ks) (part_of b))
    (done : IsSetUp (program_of q) o (map content_of ks) (part_of b))
    (kept : (part_of b).keeps ≡ a.keeps) (of : IsPartOf (program_of q) b)
    (is_in : AllByRecursion (λ (k : Content). IsContentIn (program_of q) k) ks) where
  abbrev formed : IsFormed (program_of q)
  formed = q.formed

  abbrev listed : List Event
  listed = h.events ++ h.event ∷ []

  abbrev numbered : (rest : Supply)
      × NumberedFrom (program_of q) o.config (has (units o.base o.count)) listed
      (fresh-return whole_law alone settling held run (program_of q) formed o a (part_of b)
      (map content_of ks) begins h).config rest × Supplied ((part_of b).part ∷ []) rest
  numbered = fresh-numbered whole_law alone settling held run (program_of q) formed o a (part_of b)
      (map content_of ks) begins h

  abbrev opened : Config
  opened = (fresh-return whole_law alone settling held run (program_of q) formed o a (part_of b)
      (map content_of ks) begins h).config

  fresh-run : NumberedFrom (program_of q) s.config (has (units base count)) listed opened numbered.0
  fresh-run = subst (λ z. NumberedFrom (program_of q) z (has (units base count)) listed opened
      numbered.0) is.config
      (subst (λ (z : ℕ × ℕ). NumberedFrom (program_of q) o.config (has (units z.0 z.1)) listed opened
      numbered.0) (λ i. (is.base_is i, is.count_is i)) numbered.1)

  -- its log tells of them
  fresh-told : (part_of b).keeps ≡ true
      → IsLogUpTo (program_of q) s.config listed opened (part_of b).log (part_of b).clock
  unfolding SettingUpIsTold
  fresh-told on =
      let first = fresh-events whole_law alone settling held run (program_of q) formed o a (part_of b)
      (map content_of ks) begins h in
      let last = fresh-return whole_law alone settling held run (program_of q) formed o a (part_of b)
      (map content_of ks) begins h in
      subst (λ z. IsLogUpTo (program_of q) z listed opened (part_of b).log (part_of b).clock) is.config
      (telling (program_of q) formed o a (part_of b) (map content_of ks) opened begins h
      (reach-append (program_of q) h.events (h.event ∷ []) o.config first.config opened first.reaches
      last.reaches) (sym kept ∙ on))

  pub fresh-prepared : IsPrepared (program_of q) f true vars heap base count b ks
  fresh-prepared = record {
    of = of;
    task = done.task;
    idle = done.idle;
    owed = _;
    safe = done.safe;
    past = done.past;
    within = let w = done.within in omega (arith, w);
    given = done.given ∙ is.count_is;
    each = sym (length-map ks content_of) ∙ done.each;
    in_order = done.in_order;
    is_in = is_in;
    exactly = all-unmap content_of (λ (k : TimedContent). IsContentOf (program_of q) k.content) ks
        done.exactly;
    early = all-so (λ (k : Content). k.stamp ≡ b.clock) (λ (k : Content). k.stamp ≤ b.clock) ks
        (λ k e. omega (arith, e))
        (all-unmap content_of (λ (k : TimedContent). k.stamp ≡ b.clock) ks done.stamps);
    start = s.config;
    begins = begin-start (program_of q) f true vars heap parts s;
    events = listed;
    opened = opened;
    supply = numbered.0;
    run = fresh-run;
    settled = λ e. absurd (true≢false e);
    set_up = λ e. subst (λ z. SetsUp (program_of q) z listed opened) is.config
        (fresh-sets_up whole_law alone settling held run (program_of q) formed o a (part_of b)
        (map content_of ks) begins h);
    told = fresh-told;
    whole = subst (λ z. Whole ((part_of b).part ∷ []) z opened) (contents-same ks)
        (fresh-return whole_law alone settling held run (program_of q) formed o a (part_of b)
        (map content_of ks) begins h).whole;
    supplied = numbered.2;
  }

-- and where a task that sets them up has used its units, it has done so from the start on
pub fresh-stopped : (p : Program) (f : ProcId) (vars : Vars) (heap : Cells) (parts : List (List ℕ))
    (base count : ℕ) (s : StartsWith p f true vars heap parts) (o : Origin)
    → FreshOrigin p f vars heap parts base count s o → (stop : SetUpStop) → HasStopped p o stop
    → IsUnready p f true vars heap base count (told_of stop)
fresh-stopped p f vars heap parts base count s o is (Steps path used) k = (
  s.config,
  begin-start p f true vars heap parts s,
  subst (λ (z : Config × (ℕ × ℕ)). SpentSteps p z.0 z.1.0 z.1.1 path used)
      (λ i. (is.config i, (is.base_is i, is.count_is i))) k,
)
fresh-stopped p f vars heap parts base count s o is OutOfMemory k = tt

-- where the run begins, from what it is asked with
pub record IsFreshStart (p : Program) (f : ProcId) (vars : Vars) (heap : Cells)
    (parts : List (List ℕ)) (base count : ℕ) (a : TimedPart) : Type 0 where
  pub with_ : StartsWith p f true vars heap parts
  pub origin : Origin
  pub begins : BeginsFresh p origin a
  pub is : FreshOrigin p f vars heap parts base count with_ origin

pub fresh-start : FirstPartsBeginFresh → (p : Program) (f : ProcId) (is_fresh : Bool) (vars : Vars)
    (heap : Cells) (parts : List (List ℕ)) (base count : ℕ) (a : TimedPart)
    (contents : List TimedContent) → is_fresh ≡ true → StartsWith p f is_fresh vars heap parts
    → Starts p f is_fresh vars heap base count a contents
    → IsFreshStart p f vars heap parts base count a
unfolding FirstPartsBeginFresh
fresh-start law p f is_fresh vars heap parts base count a contents e s t =
    let with_ : StartsWith p f true vars heap parts =
    subst (λ z. StartsWith p f z vars heap parts) e s in
    let k = law p f vars heap parts base count a contents with_
    (subst (λ z. Starts p f z vars heap base count a contents) e t) in
    record { with_ = with_; origin = k.1; begins = k.2; is = k.3 }
