-- What comes of the table of a run: numbered lists of events from the start, and what they lead to.
-- Names: `play-LAW`; `receipt-LAW` of what misses stand for.
use Rattle.std.specs.Prelude.{◌≡◌, ◌<◌, ℕ, zero, suc, Bool, true, List, [], ◌∷◌, ◌++◌, length, map, take, Some}
use Rattle.std.proofs.Common.{sym, ap, ◌∙◌, refl, subst, arith}
use Rattle.std.specs.List.{sum_by}
use Rattle.std.proofs.lemmas.List.{length-map, take-map}
use Rattle.std.proofs.lemmas.List.Sums.{sum_by-cons}
use mathlib.Core.Option.{some, some-injective, some-ne-none}
use lib.ListN.{get_elem?}
use Rattle.sf_base.specs.declared.ids.ProcId.{ProcId}
use Rattle.sf_base.specs.declared.ids.ResId.{ResId}
use Rattle.sf_core.specs.Machine.Config.{Config, Path, runs}
use Rattle.sf_core.specs.Machine.Enabled.{HasEnded}
use Rattle.sf_core.specs.Machine.Numbered.{NumberedFrom}
use Rattle.sf_core.specs.Machine.SpentWaits.{MayMiss, SpentWaits}
use Rattle.sf_core.specs.Machine.Step.{Event}
use Rattle.sf_core.specs.Machine.Supplies.{Supply, has, units}
use Rattle.sf_core.specs.Machine.Whole.{Content as WholeContent, Whole}
use Rattle.sf_core.specs.Program.Syntax.{Program}
use Rattle.sf_foot.specs.declared.start.Finish.{Finish}
use Rattle.sf_foot.specs.declared.vars.Vars.{Vars}
use Rattle.sf_heap.specs.Cells.{Cells}
use Rattle.sf_machine.specs.Ending.{Ends}
use Rattle.sf_part.specs.Answers.{Answers}
use Rattle.sf_part.specs.Checked.LawsOfWhole.{RunningPartsRun}
use Rattle.sf_part.specs.Contents.{content_of}
use Rattle.sf_part.specs.declared.content.Content.{Content}
use Rattle.sf_part.specs.declared.local.Local.TheVariants.{Done}
use Rattle.sf_part.specs.Parts.{entry_of as log_entry}
use Rattle.sf_part.specs.Timed.{Stamped, TimedPart}
use Rattle.sf_region.specs.declared.views.Begun.{Begun}
use Rattle.sf_region.specs.Marks.{History, Makes, Mark, events_of}
use Rattle.sf_region.specs.Plays.{Finished}
use Rattle.sf_region.specs.Rule.{IsExactly, present}
use Rattle.sf_region.specs.Waits.{Missed, Places, contents_in, first_of, opening_parts, program_in}
use Rattle.sf_part.specs.declared.log.Log.{Log}
use Rattle.sf_run.specs.Checked.Closed.{IsClosed}
use Rattle.sf_run.specs.Checked.Gathered.{AreAll}
use Rattle.sf_run.specs.Checked.LawsOfLogs.{TablesGoOnWithLogs}
use Rattle.sf_run.specs.Checked.Opened.{IsOpened}
use Rattle.sf_run.specs.Running.{IsFinish, IsLog, IsNumberedEnd, IsTable}
use Rattle.sf_run.proofs.Lists.{numbered-append}
use Rattle.sf_run.proofs.Tries.{spent-waits}

-- all contents count
pub present-all : (ks : List Content) → present (map Some ks) ≡ contents_in ks
present-all [] = refl
present-all (k ∷ ks) = ap (λ (z : List WholeContent). (content_of k).content ∷ z) (present-all ks)

-- an event of a list of marks is that of a mark
mark-at : (marks : List Mark) (j : ℕ) (e : Event) → get_elem? (events_of marks) j ≡ some e
    → (m : Mark) × (get_elem? marks j ≡ some m) × (m.event ≡ e)
mark-at [] j e there = absurd (some-ne-none e (sym there))
mark-at (m ∷ marks) zero e there = (m, refl, some-injective m.event e there)
mark-at (m ∷ marks) (suc j) e there = mark-at marks j e there

module _ (p : Program) (f : ProcId) (is_fresh : Bool) (vars : Vars) (heap : Cells) (base count : ℕ)
    (b : Begun) (o : IsOpened p f is_fresh vars heap base count b) where
  -- the table's own list comes after what has led to where it began
  pub play-numbered : (events : List Event) (c : Config) (rest : Supply)
      → NumberedFrom (program_in b) o.prepared.opened o.prepared.supply events c rest
      → NumberedFrom p o.prepared.start (has (units base count)) (o.prepared.events ++ events) c rest
  play-numbered events c rest n = numbered-append p o.prepared.events events o.prepared.start
      o.prepared.opened c (has (units base count)) o.prepared.supply rest o.prepared.run
      (subst (λ z. NumberedFrom z o.prepared.opened o.prepared.supply events c rest) o.program n)

  -- the table is that of the run
  pub play-table : IsTable p f is_fresh vars heap base count b
  play-table = record {
    program = o.program;
    start = o.prepared.start;
    begins = o.prepared.begins;
    events = o.prepared.events;
    opened = o.prepared.opened;
    numbered = record { supply = o.prepared.supply; run = o.prepared.run };
    settled = o.prepared.settled;
    set_up = o.prepared.set_up;
    began = o.prepared.whole;
  }

  -- where the table is closed, the entry has ended
  module _ (law : RunningPartsRun) (a : TimedPart) (ks : List Content) (done : Finished b a ks)
      (ended : Answers p a Done) (entry : a.part.task ≡ []) where
    abbrev pub play-history : History (program_in b) (opening_parts b) o.prepared.opened done.marks
        (a.part ∷ []) (present (map Some ks))
    play-history = done.history o.prepared.opened o.prepared.whole

    pub play-whole : Whole (a.part ∷ []) (contents_in ks) play-history.config
    play-whole = subst (λ z. Whole (a.part ∷ []) z play-history.config) (present-all ks)
        play-history.whole

    play-ended : HasEnded [] (play-history.config).tasks
    unfolding RunningPartsRun
    play-ended =
        let frames = ended.0 in
        let there = law [] [] a.part (contents_in ks) play-history.config frames play-whole ended.1 in
        let top : Some (play-history.config).tasks ≡ Some (runs frames) =
        subst (λ (z : Path). Rattle.sf_core.specs.Machine.Config.task_at z (play-history.config).tasks
        ≡ Some (runs frames)) entry there in
        let same : (play-history.config).tasks ≡ runs frames = cc in
        subst (HasEnded []) (sym same)
        (subst (λ (z : Path). HasEnded z (runs frames)) entry ended.2)

    play-end : IsNumberedEnd p o.prepared.start base count play-history.config
    play-end =
        let n = play-history.numbered o.prepared.supply o.prepared.supplied in record {
          events = o.prepared.events ++ events_of done.marks;
          numbered = record {
            supply = n.0;
            run = play-numbered (events_of done.marks) play-history.config n.0 n.1;
          };
          ended = play-ended;
        }

    pub play-finish : (finish : Finish)
        → Ends p f play-history.config finish.vars finish.heap
        → IsFinish p f is_fresh vars heap base count finish
    play-finish finish ends = record {
      start = o.prepared.start;
      begins = o.prepared.begins;
      last = play-history.config;
      run = play-end;
      ends = ends;
    }

    -- where a log is kept, it is of all events from the start on
    pub play-log : TablesGoOnWithLogs → (first_of b).keeps ≡ true → (finish : Finish)
        → Ends p f play-history.config finish.vars finish.heap → (log : List Stamped) → log ≡ a.log
        → IsLog p f is_fresh vars heap base count finish log
    unfolding play-finish play-end TablesGoOnWithLogs
    play-log logs keeps finish ends log is = record {
      run = play-finish finish ends;
      is = logs p o.prepared.events done.marks o.prepared.start o.prepared.opened play-history.config
          (first_of b).log log (first_of b).clock (o.prepared.told keeps)
          (subst (λ z. Makes z o.prepared.opened done.marks play-history.config) o.program
          play-history.makes)
          (done.stamps).rising (done.stamps).late
          (λ weigh.
          let all = (done.stamps).logs keeps weigh in
          let one = sum_by-cons (λ (q : TimedPart). sum_by weigh q.log) a [] in
          let own = ap (sum_by weigh) is in
          omega arith);
    }

    -- and there is one content for each resource
    pub play-all : length ks ≡ length p.resources → AreAll p ks
    play-all each = record {
      each = each;
      exactly = λ r k at. subst (λ (z : Program). IsExactly z r k) o.program (done.exactly r k at);
    }

  -- what the misses of a task stand for, of which there is one
  module _ (path : Path) (r : ResId) (more : ℕ) (missed : Missed b path r (suc more)) where
    abbrev pub receipt-places : Places b missed.marks path r (suc more)
    receipt-places = missed.places

    -- at each of its places a numbered list leads there where a try may miss
    pub receipt-at : (k : ℕ) → k < suc more → (d : Config) × (rest : Supply)
        × NumberedFrom p o.prepared.opened o.prepared.supply
        (take (receipt-places.place k) (events_of missed.marks)) d rest × MayMiss d path r
    receipt-at k less =
        let a = receipt-places.missed k less o.prepared.opened o.prepared.whole in
        let n = (a.0).numbered o.prepared.supply o.prepared.supplied in (
          (a.0).config,
          n.0,
          subst (λ z. NumberedFrom z o.prepared.opened o.prepared.supply
              (take (receipt-places.place k) (events_of missed.marks)) (a.0).config n.0) o.program
              (subst (λ z. NumberedFrom (program_in b) o.prepared.opened o.prepared.supply z
              (a.0).config n.0)
              (sym (take-map (λ (m : Mark). m.event) (receipt-places.place k) missed.marks)) n.1),
          a.1,
        )

    pub receipt-spent : SpentWaits p o.prepared.start base count path r (suc more)
    receipt-spent = spent-waits p o.prepared.start base count path r o.prepared.events
        o.prepared.opened o.prepared.supply o.prepared.run (events_of missed.marks)
        receipt-places.place more receipt-places.order
        (λ k less. let w = receipt-places.within k less in
        let size = length-map missed.marks (λ (m : Mark). m.event) in omega (arith, w, size))
        (λ k j e less le there.
        let m = mark-at missed.marks j e there in
        λ same. receipt-places.quiet k j m.0 less le m.1
        (ap (λ (z : Event). z.task) m.2 ∙ same))
        receipt-at

-- what the closed table gives is what the run ends with
pub play-closed : RunningPartsRun → (p : Program) (f : ProcId) (is_fresh : Bool) (vars : Vars)
    (heap : Cells) (base count : ℕ) (b also : Begun) → IsOpened p f is_fresh vars heap base count b
    → (a : TimedPart) (finish : Finish) (log : Log) → also ≡ b → IsClosed p f also a finish log
    → Answers p a Done → a.part.task ≡ [] → IsFinish p f is_fresh vars heap base count finish
play-closed law p f is_fresh vars heap base count b also o a finish log same closed ended entry =
    let k : IsClosed p f b a finish log = subst (λ z. IsClosed p f z a finish log) same closed in
    play-finish p f is_fresh vars heap base count b o law a k.contents k.finished ended entry finish
    (k.ends (play-history p f is_fresh vars heap base count b o law a k.contents k.finished ended
    entry).config
    (play-whole p f is_fresh vars heap base count b o law a k.contents k.finished ended entry))

-- and the log is that of the run
pub play-logged : RunningPartsRun → TablesGoOnWithLogs → (p : Program) (f : ProcId) (is_fresh : Bool) (vars : Vars)
    (heap : Cells) (base count : ℕ) (b also : Begun) → IsOpened p f is_fresh vars heap base count b
    → (a : TimedPart) (finish : Finish) (log : Log) → also ≡ b → IsClosed p f also a finish log
    → Answers p a Done → a.part.task ≡ [] → (first_of b).keeps ≡ true
    → IsLog p f is_fresh vars heap base count finish (map log_entry log.entries.items)
play-logged law logs p f is_fresh vars heap base count b also o a finish log same closed ended entry
    keeps =
    let k : IsClosed p f b a finish log = subst (λ z. IsClosed p f z a finish log) same closed in
    play-log p f is_fresh vars heap base count b o law a k.contents k.finished ended entry logs keeps
    finish
    (k.ends (play-history p f is_fresh vars heap base count b o law a k.contents k.finished ended
    entry).config
    (play-whole p f is_fresh vars heap base count b o law a k.contents k.finished ended entry))
    (map log_entry log.entries.items) k.logged
