-- What comes of the table of a run from which no parallel call can be reached: of the one task alone.
-- Names: `lone-LAW` of configurations with one task, `alone-LAW` of what comes of the run.
use Rattle.std.specs.Prelude.{◌≡◌, ◌≢◌, ◌⊎◌, ◌+◌, ◌<◌, ◌≤◌, ℕ, zero, suc, Bool, List, [], ◌∷◌, ◌++◌, length, take, Some, None}
use Rattle.std.proofs.Common.{sym, ap, ◌∙◌, subst, ⊎_elim, arith}
use Rattle.std.proofs.lemmas.List.{length-append, length-map, length-take-le}
use Rattle.sf_base.proofs.MapSplits.{splits-of_empty_right}
use Rattle.sf_base.specs.declared.ids.ProcId.{ProcId}
use Rattle.sf_base.specs.declared.ids.ResId.{ResId}
use Rattle.sf_calls.specs.FirstBreach.{Conditions}
use Rattle.sf_core.specs.Machine.Alone.{WaitsAlone, spent, waiting}
use Rattle.sf_core.specs.Machine.Config.{Config, Path, Task, command, task_at}
use Rattle.sf_core.specs.Machine.Enabled.{HasEnded}
use Rattle.sf_core.specs.Machine.Numbered.{NumberedFrom}
use Rattle.sf_core.specs.Machine.Reach.{Reach}
use Rattle.sf_core.specs.Machine.SpentSteps.{Spending, SpendingFrom, SpentSteps}
use Rattle.sf_core.specs.Machine.SpentWaits.{IsAtRegion, MayMiss}
use Rattle.sf_core.specs.Machine.Step.{Event, task_with}
use Rattle.sf_core.specs.Machine.Supplies.{Supply, has, units}
use Rattle.sf_core.specs.Machine.Whole.{Part as WholePart, numbers, running}
use Rattle.sf_core.specs.Program.Formed.{IsFormed}
use Rattle.sf_core.specs.Program.Syntax.{Program, with}
use Rattle.sf_foot.specs.declared.start.Finish.{Finish}
use Rattle.sf_foot.specs.declared.vars.Vars.{Vars}
use Rattle.sf_foot.specs.Starting.{StartsWith, store_of}
use Rattle.sf_heap.specs.Cells.{Cells, heap_of}
use Rattle.sf_machine.specs.Beginning.{Begins}
use Rattle.sf_part.specs.Supplied.{Supplied, own_share, share_in, shares, Share}
use Rattle.sf_part.specs.Supplied as supplied
use Rattle.sf_region.specs.declared.views.Begun.{Begun}
use Rattle.sf_region.specs.Marks.{Mark, events_of}
use Rattle.sf_region.specs.Waits.{Missed, first_of}
use Rattle.sf_run.specs.Checked.Laws.{LoneTasksFindRegionsFree, NumberedEndsComeAlone, SpentStepsComeAlone, WaitsComeAlone}
use Rattle.sf_run.specs.Checked.Lone.{IsLone}
use Rattle.sf_run.specs.Checked.Opened.{IsOpened}
use Rattle.sf_run.specs.Running.{ComesTo, EndsWith, IsFinish}
use Rattle.sf_run.specs.Sequential.{IsSequentialStart}
use Rattle.sf_run.proofs.Beginnings.{begin-one, begin-sequential}
use Rattle.sf_run.proofs.Closing.{begins-lone, lone_tasks_find_regions_free, numbered_ends_come_alone, spent_steps_come_alone, waits_come_alone}
use Rattle.sf_run.proofs.Lone.{path-lone, reach-lone}
use Rattle.sf_run.proofs.Numbering.{reach-numbered}
use Rattle.sf_run.proofs.Playing.{receipt-at, receipt-places}
use Rattle.sf_run.proofs.Lists.{numbered-append}
use Rattle.sf_run.proofs.Prefix.{Follows, numbered-prefix}

-- in a configuration with one task, that is the entry's
lone-path : (p : Program) (c : Config) (path : Path) (task : Task) → IsLone p c
    → task_at path c.tasks ≡ Some task → path ≡ []
lone-path p c path task k there =
    (path-lone path k.frames task (sym (ap (λ z. task_at path z) k.alone) ∙ there)).0

-- a list in which units are used leads on
spending-reach : (p : Program) (path : Path) (events : List Event) (c d : Config) (supply : Supply)
    (s last : Spending) → SpendingFrom p path c supply s events d last → Reach p c events d
spending-reach p path [] c d supply s last n = n.0
spending-reach p path (event ∷ events) c d supply s last (between, rest, step, takes, n) =
    (between, step, spending-reach p path events between d rest _ last n)

-- a task at a region hasn't ended
region-going : (c : Config) (r : ResId) → IsAtRegion c [] r → HasEnded [] c.tasks → ⊥
region-going c r at h =
    let there : Some c.tasks
    ≡ Some (task_with at.frame (command (with at.place r at.test at.body) ∷ at.rest) at.below) =
    at.there in
    let same : c.tasks
    ≡ task_with at.frame (command (with at.place r at.test at.body) ∷ at.rest) at.below = cc in
    go at.below (subst (HasEnded []) same h)
  where
    go : (below : _) → HasEnded []
        (task_with at.frame (command (with at.place r at.test at.body) ∷ at.rest) below) → ⊥
    go [] e = absurd (cc)
    go (g ∷ below) e = e

-- a lone task misses only where the condition is false
lone-misses : (p : Program) (c : Config) (path : Path) (r : ResId) → IsLone p c
    → (IsAtRegion c [] r → c.common.held r ≡ None) → MayMiss c path r
    → (path ≡ []) × WaitsAlone c r
lone-misses p c path r k open_ (at, why) =
    let entry : path ≡ [] = lone-path p c path _ k at.there in
    (entry, waits (subst (λ (z : Path). MayMiss c z r) entry (at, why)))
  where
    waits : MayMiss c [] r → WaitsAlone c r
    waits (here, why) = ⊎_elim
        (λ (other : (o : Path) × (c.common.held r ≡ Some o) × (o ≢ [])).
        absurd (let a : Some other.0 ≡ None = sym other.1 ∙ open_ here in cc))
        (λ later. ⊎_elim
        (λ (other : (o : Path) × (o ≢ []) × IsAtRegion c o r).
        absurd (other.1 (lone-path p c other.0 _ k (other.2).there)))
        (λ shut. (here, shut.1)) later) why

-- the units of a part that runs, alone, are those of the supply
supply-of_one : (a : WholePart) (us : List ℕ) (frames : _) → a.task ≡ [] → a.stand ≡ running frames
    → Supplied (a ∷ []) (has us) → us ≡ numbers a.supply
supply-of_one a us frames entry stand (others, splits, none) =
    let same = ap (λ z. z []) (splits-of_empty_right none splits) in
    let own : own_share a [] ≡ Some (share_in a.stand (numbers a.supply)) =
    ap (λ (z : Path). Rattle.std.specs.Prelude.cond
    (Rattle.sf_core.specs.Machine.Whole.same_path [] z) (Some (share_in a.stand (numbers a.supply)))
    None) entry in
    let runs_so : share_in a.stand (numbers a.supply) ≡ supplied.units (numbers a.supply) =
    ap (λ z. share_in z (numbers a.supply)) stand in
    let both : Some (supplied.units us) ≡ Some (supplied.units (numbers a.supply)) =
    same ∙ own ∙ ap Some runs_so in
    cc

module _ (p : Program) (f : ProcId) (is_fresh : Bool) (vars : Vars) (heap : Cells) (parts : List (List ℕ))
    (base count : ℕ) (n : IsSequentialStart p f is_fresh)
    (s : StartsWith p f is_fresh vars heap parts) where
  -- an end is what the one task comes to
  pub alone-ends : (finish : Finish) → IsFinish p f is_fresh vars heap base count finish
      → EndsWith p f is_fresh vars heap base count finish
  unfolding NumberedEndsComeAlone
  alone-ends finish k = record {
    last = k.last;
    comes = record {
      start = k.start;
      begins = k.begins;
      comes = numbered_ends_come_alone p f is_fresh vars heap parts k.start k.last base count n s
          k.begins k.run;
    };
    ends = k.ends;
  }

  -- where a task has used its units, that is the entry's, and it has used all
  pub alone-spent : (start : Config) (path : Path) (used : ℕ)
      → Begins p f is_fresh vars heap start → SpentSteps p start base count path used
      → (path ≡ []) × (used ≡ count) × ComesTo p f is_fresh vars heap base count spent
  unfolding SpentStepsComeAlone
  alone-spent start path used b k =
      let one = begins-lone p f is_fresh vars heap parts start n s b in
      let last = reach-lone p k.events start k.config one
      (spending-reach p path k.events start k.config (has (units base count)) _ _ k.run) in
      let entry : path ≡ [] = lone-path p k.config path k.task last k.there in
      let c = spent_steps_come_alone p f is_fresh vars heap parts start base count used n s b
      (subst (λ (z : Path). SpentSteps p start base count z used) entry k) in
      (entry, c.0, record { start = start; begins = b; comes = c.1 })

  module _ (formed : IsFormed p) (conditions : Conditions p) (b : Begun)
      (o : IsOpened p f is_fresh vars heap base count b) (path : Path) (r : ResId) (more : ℕ)
      (missed : Missed b path r (suc more)) where
    abbrev start : Config
    start = o.prepared.start

    lone-start : IsLone p start
    lone-start = begins-lone p f is_fresh vars heap parts start n s o.prepared.begins

    -- the list up to the first place
    abbrev marked : List Event
    marked = take ((receipt-places p f is_fresh vars heap base count b o path r more missed).place 0)
        (events_of missed.marks)

    abbrev here : (d : Config) × (rest : Supply) × NumberedFrom p o.prepared.opened o.prepared.supply
        marked d rest × MayMiss d path r
    here = receipt-at p f is_fresh vars heap base count b o path r more missed 0 (omega arith)

    abbrev listed : List Event
    listed = o.prepared.events ++ marked

    alone-run : NumberedFrom p start (has (units base count)) listed here.0 here.1
    alone-run = numbered-append p o.prepared.events marked start o.prepared.opened here.0
        (has (units base count)) o.prepared.supply here.1 o.prepared.run here.2

    abbrev before : Follows p start (units base count) o.prepared.events o.prepared.opened
        o.prepared.supply
    before = numbered-prefix p (units base count) o.prepared.events start o.prepared.opened
        o.prepared.supply lone-start o.prepared.run

    abbrev after : Follows p start (units base count) listed here.0 here.1
    after = numbered-prefix p (units base count) listed start here.0 here.1 lone-start alone-run

    -- a unit is left there
    some-left : 0 < length after.left
    some-left =
        let own = supply-of_one (first_of b).part before.left (o.prepared.safe).frames o.prepared.task
        (o.prepared.safe).runs
        (subst (λ z. Supplied ((first_of b).part ∷ []) z) before.is o.prepared.supplied) in
        let first = ap length own in
        let places = receipt-places p f is_fresh vars heap base count b o path r more missed in
        let within = places.within 0 (omega arith) in
        let size = length-map missed.marks (λ (m : Mark). m.event) in
        let front = length-take-le (places.place 0) (events_of missed.marks) (omega (arith, within, size)) in
        let both = length-append o.prepared.events marked in
        let less = missed.left (omega arith) in
        let one = before.count in
        let all = after.count in
        omega (arith, first, within, front, both, less, one, all)

    free-there : IsAtRegion here.0 [] r → (here.0).common.held r ≡ None
    unfolding LoneTasksFindRegionsFree
    free-there at = lone_tasks_find_regions_free p f (store_of s.beginning s.procedure vars)
        (heap_of heap) s.config here.0 listed r formed conditions s.starts
        (begin-sequential p f is_fresh vars heap parts s n)
        (subst (λ z. Reach p z listed here.0)
        (begin-one p f is_fresh vars heap parts s start o.prepared.begins)
        (reach-numbered p listed start here.0 (has (units base count)) here.1 alone-run)) at

    -- so the entry's task waits there
    pub alone-waits : (path ≡ []) × ComesTo p f is_fresh vars heap base count (waiting r)
    unfolding WaitsComeAlone
    alone-waits =
        let misses = lone-misses p here.0 path r after.lone free-there here.3 in
        (misses.0, go after.left after.is some-left misses.1)
      where
        go : (left : List ℕ) → here.1 ≡ has left → 0 < length left → WaitsAlone here.0 r
            → ComesTo p f is_fresh vars heap base count (waiting r)
        go [] is some w = absurd (omega (arith, some))
        go (unit ∷ left) is some w = record {
          start = start;
          begins = o.prepared.begins;
          comes = waits_come_alone p f is_fresh vars heap parts start here.0 base count listed unit left r
              n s o.prepared.begins
              (subst (λ z. NumberedFrom p start (has (units base count)) listed here.0 z) is alone-run)
              (region-going here.0 r w.0) w;
        }
