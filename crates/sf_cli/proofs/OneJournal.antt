-- A run whose events are told has at most one answer over the same files: what it ends with is one, and where no parallel
-- call can be reached its events are the entry's, each with the next unit.
-- Names: alone-*, journal-*.
use Rattle.std.proofs.Common.{◌≡◌, ◌∙◌, ◌++◌, ℕ, Bool, [], ◌∷◌, List, Some, ap, ap₂, inl, inr, length, map, refl, subst, sym}
use Rattle.std.specs.Prelude.{Contains}
use Rattle.sf_base.proofs.Elements.{contains-cons, contains-nil}
use Rattle.sf_base.proofs.Options.{some-once}
use Rattle.sf_base.specs.declared.ids.ProcId.{ProcId}
use Rattle.sf_core.proofs.Machine.Determinism.{step-unique}
use Rattle.sf_core.proofs.Machine.Tasks.{ended-no_event}
use Rattle.sf_core.specs.Machine.Alone.{event_alone}
use Rattle.sf_core.specs.Machine.Config.{Config, task_at}
use Rattle.sf_core.specs.Machine.Enabled.{HasEnded}
use Rattle.sf_core.specs.Machine.Numbered.{NumberedFrom}
use Rattle.sf_core.specs.Machine.Reach.{Reach}
use Rattle.sf_core.specs.Machine.Step.{Event, Step, procedure_at}
use Rattle.sf_core.specs.Machine.Supplies.{Supply, Takes, has, units}
use Rattle.sf_core.specs.Program.Syntax.{Procedure, Program}
use Rattle.sf_foot.specs.declared.vars.Vars.{Vars}
use Rattle.sf_heap.specs.Cells.{Cells}
use Rattle.sf_io.specs.Shelf.{Files}
use Rattle.sf_journal.specs.Checked.Laws.{LogsOfOneTaskKeepItsOrder, as_told}
use Rattle.sf_machine.specs.Beginning.{Begins}
use Rattle.sf_run.proofs.Closing.{begins-lone}
use Rattle.sf_run.proofs.Lone.{path-lone, step-lone}
use Rattle.sf_run.proofs.Numbering.{reach-numbered}
use Rattle.sf_run.proofs.Prefix.{lone-took}
use Rattle.sf_run.specs.Checked.Laws.{BeginningsAreUnique}
use Rattle.sf_run.specs.Checked.Lone.{IsLone}
use Rattle.sf_state.specs.Checked.Laws.{AreDetermined, EntryIsUnique, StartIsUnique}
use Rattle.sf_state.specs.Starts.{IsStartText}
use Rattle.sf_cli.proofs.OneRun.{StartsAlone, run-begins}
use Rattle.sf_cli.specs.Answer.{JournalAnswer, RunAnswer, RunFileJournal, RunJournal}
use Rattle.sf_cli.specs.Checked.Laws.{EachFileIsDecided, EachJournalHasOneAnswer, EachRunHasOneAnswer, RunsAlone}
use Rattle.sf_cli.specs.Journaled.{IsJournal, StateJournal, journaled, schedule_text, unfinished}
use Rattle.sf_words.specs.Words.{Text}

-- what the layers below say of the events of a run
pub record EventLayers : Type 0 where
  pub files : EachFileIsDecided
  pub entries : EntryIsUnique
  pub starts : StartIsUnique
  pub beginnings : BeginningsAreUnique
  pub logs : LogsOfOneTaskKeepItsOrder

-- ---- events of one task

-- an event of a lone task is the entry's
alone-task : (p : Program) (event : Event) (c d : Config) → IsLone p c → Step p event c d → event.task ≡ []
alone-task p event c d k s =
    (path-lone event.task k.frames s.from (sym (ap (task_at event.task) k.alone) ∙ s.there)).0

alone-tasks : (p : Program) (events : List Event) (c d : Config) → IsLone p c → Reach p c events d → (event : Event)
    → Contains events event → event.task ≡ []
alone-tasks p [] c d k r event within = absurd (contains-nil event within)
alone-tasks p (first ∷ events) c d k (between, s, r) event within =
    elim ((contains-cons first events event).0 within) [
      | inl e ↦ ap (λ (z : Event). z.task) (sym e) ∙ alone-task p first c between k s
      | inr more ↦ alone-tasks p events between d (step-lone p first c between k s) r event more
    ]

-- two of one number are told as one
alone-told : (one other : Event) → one.task ≡ [] → other.task ≡ [] → one.number ≡ other.number
    → as_told one ≡ as_told other
alone-told one other t u n =
    λ i. record { task = (t ∙ sym u) i; number = n i; at = n i; fields = (as_told one).fields }

-- a step of a lone task and the units that are left after it
record Took (p : Program) (event : Event) (c d : Config) (us : List ℕ) (after : Supply) : Type 0 where
  left : List ℕ
  first : us ≡ event.number ∷ left
  is : after ≡ has left
  step : Step p (event_alone event.number) c d

alone-took : (p : Program) (event : Event) (c d : Config) (us : List ℕ) (after : Supply) → IsLone p c
    → Step p event c d → Takes event c (has us) after
    → Took p event c d us after
alone-took p event c d us after k s takes =
    let (left, first, is, step) = lone-took p event c d us after k s takes in
    record { left = left; first = first; is = is; step = step }

-- two numbered lists of a lone task that lead to an end are told as one
alone-same : (p : Program) (c d e : Config) (us : List ℕ) (after last : Supply) (events others : List Event)
    → IsLone p c → NumberedFrom p c (has us) events d after → NumberedFrom p c (has us) others e last
    → HasEnded [] d.tasks → HasEnded [] e.tasks → map as_told events ≡ map as_told others
alone-same p c d e us after last [] [] k n m h i = refl
alone-same p c d e us after last [] (y ∷ others) k (same, kept) (mid, left, t, takes, m) h i =
    absurd (ended-no_event p y c mid (subst (λ (z : Config). HasEnded [] z.tasks) same h) t)
alone-same p c d e us after last (x ∷ events) [] k (mid, left, t, takes, n) (same, kept) h i =
    absurd (ended-no_event p x c mid (subst (λ (z : Config). HasEnded [] z.tasks) same i) t)
alone-same p c d e us after last (x ∷ events) (y ∷ others) k (between, rest, s, takes, n) (mid, left, t, took, m) h i =
    let one = alone-took p x c between us rest k s takes in
    let other = alone-took p y c mid us left k t took in
    let number : x.number ≡ y.number = heads (sym one.first ∙ other.first) in
    let same : one.left ≡ other.left = tails (sym one.first ∙ other.first) in
    let place : mid ≡ between = step-unique p (event_alone x.number) c mid between
    (subst (λ (z : ℕ). Step p (event_alone z) c mid) (sym number) other.step) one.step in
    let rests : NumberedFrom p between (has one.left) others e last =
    subst (λ (z : List ℕ). NumberedFrom p between (has z) others e last) (sym same)
    (subst (λ (z : Supply). NumberedFrom p between z others e last) other.is
    (subst (λ (z : Config). NumberedFrom p z left others e last) place m)) in
    ap₂ (λ (z : Event) (zs : List Event). z ∷ zs)
    (alone-told x y (alone-task p x c between k s) (alone-task p y c mid k t) number)
    (alone-same p between d e one.left after last events others (step-lone p x c between k s)
    (subst (λ (z : Supply). NumberedFrom p between z events d after) one.is n) rests h i)
  where
    heads : {a b : ℕ} {as_ bs : List ℕ} → a ∷ as_ ≡ b ∷ bs → a ≡ b
    heads e = cc

    tails : {a b : ℕ} {as_ bs : List ℕ} → a ∷ as_ ≡ b ∷ bs → as_ ≡ bs
    tails e = cc

-- the events that are told are those of the run
journal-told : LogsOfOneTaskKeepItsOrder → (p : Program) (f : ProcId) (g : Procedure) (fresh : Bool) (vars : Vars)
    (heap : Cells) (base steps : ℕ) (shown : Text) (events : List Event)
    → (j : IsJournal p f g fresh vars heap base steps shown events) → IsLone p j.start → events ≡ map as_told j.made
unfolding LogsOfOneTaskKeepItsOrder
journal-told law p f g fresh vars heap base steps shown events j lone =
    let (schedule, merges, are) = j.merged in
    are ∙ law p j.start j.last j.made (length p.fields) j.log schedule []
    (alone-tasks p j.made j.start j.last lone
    (reach-numbered p j.made j.start j.last (has (units base steps)) j.numbered.supply j.numbered.run)) j.logged merges

-- ---- answers

-- from the text of a state there is one list
journal-state : EventLayers → (p : Program) (f : ProcId) (given : Text) (steps : ℕ) (shown also : Text)
    (events others : List Event) → AreDetermined p → StartsAlone p f given → StateJournal p f given steps shown events
    → StateJournal p f given steps also others → events ≡ others
unfolding StartIsUnique BeginningsAreUnique
journal-state l p f given steps shown also events others determined alone j k =
    let procedure : k.procedure ≡ j.procedure =
    some-once (procedure_at p f) k.procedure j.procedure k.there j.there in
    let starts = subst (λ (z : Procedure). IsStartText p f z given k.vars k.heap k.parts k.unit k.fresh) procedure
    k.starts in
    let once = l.starts p f j.procedure given determined j.there in
    let variables = once.variables j.vars k.vars j.heap k.heap j.parts k.parts j.unit k.unit j.fresh k.fresh j.starts
    starts in
    let cells : j.heap ≡ k.heap = once.cells j.vars k.vars j.heap k.heap j.parts k.parts j.unit k.unit j.fresh k.fresh
    j.starts starts in
    let unit : j.unit ≡ k.unit = once.unit j.vars k.vars j.heap k.heap j.parts k.parts j.unit k.unit j.fresh k.fresh
    j.starts starts in
    let fresh : j.fresh ≡ k.fresh = once.fresh j.vars k.vars j.heap k.heap j.parts k.parts j.unit k.unit j.fresh k.fresh
    j.starts starts in
    let moved : Begins p f k.fresh k.vars k.heap j.journal.start =
    subst (λ (z : Bool). Begins p f z k.vars k.heap j.journal.start) fresh
    (subst (λ (z : Cells). Begins p f j.fresh k.vars z j.journal.start) cells
    (run-begins p f j.fresh j.vars k.vars j.heap j.journal.start variables j.journal.begins)) in
    let start : k.journal.start ≡ j.journal.start =
    l.beginnings p f k.fresh k.vars k.heap k.journal.start j.journal.start k.journal.begins moved in
    let lone = begins-lone p f j.fresh j.vars j.heap j.parts j.journal.start
    (alone j.procedure j.vars j.heap j.parts j.unit j.fresh j.there j.starts) j.starts.starts j.journal.begins in
    let run : NumberedFrom p j.journal.start (has (units j.unit steps)) k.journal.made k.journal.last
    k.journal.numbered.supply =
    subst (λ (z : ℕ). NumberedFrom p j.journal.start (has (units z steps)) k.journal.made k.journal.last
    k.journal.numbered.supply) (sym unit)
    (subst (λ (z : Config). NumberedFrom p z (has (units k.unit steps)) k.journal.made k.journal.last
    k.journal.numbered.supply) start k.journal.numbered.run) in
    journal-told l.logs p f j.procedure j.fresh j.vars j.heap j.unit steps shown events j.journal lone
    ∙ alone-same p j.journal.start j.journal.last k.journal.last (units j.unit steps) j.journal.numbered.supply
    k.journal.numbered.supply j.journal.made k.journal.made lone j.journal.numbered.run run j.journal.ended
    k.journal.ended
    ∙ sym (journal-told l.logs p f k.procedure k.fresh k.vars k.heap k.unit steps also others k.journal
    (subst (IsLone p) (sym start) lone))

-- so there is of a file's program
journal-events : EventLayers → (files : Files) (bytes entry state_name : Text) (steps : ℕ) (shown also : Text)
    (events others : List Event)
    → ((given : Text) → files state_name ≡ Some given → RunsAlone bytes entry given)
    → RunJournal (Some files) bytes entry state_name steps shown events
    → RunJournal (Some files) bytes entry state_name steps also others → events ≡ others
unfolding EntryIsUnique
journal-events l files bytes entry state_name steps shown also events others alone j k =
    let p = j.program in
    let program : k.program ≡ p = (l.files bytes).programs k.program p k.admits j.admits in
    let moved = subst (λ (z : Program). RunFileJournal (Some files) z entry state_name steps also others) program
    k.journal in
    let f : moved.f ≡ j.journal.f =
    (l.entries p entry).entries moved.f j.journal.f moved.is_run.is_entry j.journal.is_run.is_entry in
    let given : moved.given ≡ j.journal.given =
    some-once (files state_name) moved.given j.journal.given moved.has j.journal.has in
    journal-state l p j.journal.f j.journal.given steps shown also events others j.admits.determined
    (λ g vars heap parts unit fresh there starts. alone j.journal.given j.journal.has p j.journal.f g vars heap parts unit
    fresh j.admits j.journal.is_run.is_entry there starts) j.journal.journal
    (subst (λ (z : ProcId). StateJournal p z j.journal.given steps also others) f
    (subst (λ (z : Text). StateJournal p moved.f z steps also others) given moved.journal))

pub journal-once : EventLayers → EachRunHasOneAnswer → EachJournalHasOneAnswer
journal-once l runs files bytes entry state_name text other steps waits status code one a b = go a b
  where
    once : (shown also : Text) (n : ℕ) → RunAnswer (Some files) bytes entry state_name steps waits shown status
        → RunAnswer (Some files) bytes entry state_name steps waits also n → (shown ≡ also) × (status ≡ n)
    once shown also n x y = runs files bytes entry state_name shown also steps waits status n one x y

    at : (shown : Text) → status ≡ 0 → RunAnswer (Some files) bytes entry state_name steps waits shown 0
        → RunAnswer (Some files) bytes entry state_name steps waits shown status
    at shown z k = subst (RunAnswer (Some files) bytes entry state_name steps waits shown) (sym z) k

    go : JournalAnswer (Some files) bytes entry state_name steps waits text status
        → JournalAnswer (Some files) bytes entry state_name steps waits other code → (text ≡ other) × (status ≡ code)
    go (unfinished n x) (unfinished m y) = once text other code x y
    go (unfinished n x) (journaled shown events k r is z) = absurd (n ((once text shown 0 x k).1))
    go (journaled shown events k r is z) (unfinished m y) =
        absurd (m (sym ((once shown other code (at shown z k) y).1) ∙ z))
    go (journaled shown events k r is z) (journaled also others m s told y) = (
      is ∙ ap₂ (λ (t : Text) (list : List Event). t ++ schedule_text list) (once shown also 0 (at shown z k) m).0
          (journal-events l files bytes entry state_name steps shown also events others (one (inl z)) r s) ∙ sym told,
      z ∙ sym y,
    )
