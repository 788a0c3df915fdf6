-- A task that goes on stays one that runs; and what it meets, what it has for it.
-- Names: `running-EVENT`, `moved-EVENT`, `no-ANSWER`, `ended-LAW`.
use Rattle.std.specs.Prelude.{◌≡◌, ◌==◌, ◌<◌, ◌≤◌, ◌-◌, ◌*◌, ◌^◌, ℕ, cond, length}
use Rattle.std.proofs.Common.{sym, ap, ◌∙◌, refl, subst, arith}
use Rattle.atomic_table.specs.Seated.{TableId}
use Rattle.sf_base.specs.declared.ids.ResId.{ResId}
use Rattle.sf_base.specs.declared.limits.TheConstants.{STEPS}
use Rattle.sf_base.specs.declared.value.Value.{Value}
use Rattle.sf_core.specs.Machine.Config.{Path}
use Rattle.sf_core.specs.Machine.Step.{Event}
use Rattle.sf_core.specs.Machine.Whole.{numbers}
use Rattle.sf_core.specs.Program.Syntax.{Program}
use Rattle.sf_own.specs.Checked.Accepted.{IsAccepted}
use Rattle.sf_own.specs.Checked.Laws.{GoingKeepsSafe}
use Rattle.sf_own.specs.Checked.LawsOfNeeds.{AbsentNeverComes, ContentsAreThere}
use Rattle.sf_part.specs.Answers.{Answers}
use Rattle.sf_part.specs.Checked.LawsOfGoing.{GoingComposes, GoingKeepsPath, GoingSpends, GoingStaysPastSetup, PastSetupNothingSettles}
use Rattle.sf_part.specs.declared.local.Local.TheVariants.{Absent, AtExit, AtFork, AtInit, AtRegion, Done, Spent}
use Rattle.sf_part.specs.declared.part.Part.{Part}
use Rattle.sf_part.specs.Going.{GoesTo, stays}
use Rattle.sf_part.specs.Keeps.{IsWaiting}
use Rattle.sf_part.specs.Leaving.{HasNoContent}
use Rattle.sf_part.specs.PartView.{part_of}
use Rattle.sf_part.specs.Steps.{Private}
use Rattle.sf_part.specs.Timed.{TimedPart}
use Rattle.sf_region.specs.Checked.Laws.{StoppedTasksGoOn}
use Rattle.sf_region.specs.declared.views.Begun.{Begun}
use Rattle.sf_region.specs.declared.views.View.{View}
use Rattle.sf_region.specs.Drained.{Drained, IsGoing}
use Rattle.sf_region.specs.Meeting.{HasEntered, HasLeft, HasNoMisses}
use Rattle.sf_region.specs.Waits.{program_in}
use Rattle.sf_threads.specs.Checked.Laws.{RunLaws}
use Rattle.sf_threads.specs.Checked.Running.{HasEnded, HasMoved, IsRunning, Seen}

-- how many turns a path may still take
abbrev pub below : Seen → ℕ
below k = 64 - length (part_of k.1).part.task

-- a clock that rises stays within the limit of all events
pub clock-within : (a : Part) → (part_of a).clock ≤ STEPS
clock-within a = let k = a.kept.time.within in omega arith

-- what is told of a spent task is told of the table
pub spent-told : (b : Begun) (c : Begun) (path at : Path) (given gave : ℕ) → c ≡ b → path ≡ at
    → given ≡ gave → Drained c at gave → Drained b path given
spent-told b c path at given gave same p g drained =
    subst (λ (z : Begun × (Path × ℕ)). Drained z.0 z.1.0 z.1.1) (λ i. (same i, (sym p i, sym g i)))
    drained

-- one that waits doesn't run
pub no-waiting : (p : Program) (t : TableId × Begun) (k : Seen) → IsRunning p t k
    → IsWaiting (part_of k.1).part.stand → ⊥
no-waiting p t k h w = let e = h.safe.runs in subst IsWaiting e w

-- the table is the program's
pub program-at : (p : Program) (t : TableId × Begun) (k : Seen) → IsRunning p t k
    → program_in k.0.1.begun ≡ p
program-at p t k h = ap program_in h.begun ∙ h.program

-- a task is on its way from where it was: it has gone on, and runs
pub record IsOnItsWay (p : Program) (t : TableId × Begun) (k l : Seen) : Type 0 where
  pub running : IsRunning p t l
  pub goes : GoesTo p (part_of k.1) (part_of l.1)
  pub path : length (part_of l.1).part.task ≡ length (part_of k.1).part.task

-- at first
pub way-none : (p : Program) (t : TableId × Begun) (k : Seen) → IsRunning p t k
    → IsOnItsWay p t k k
way-none p t k h = record { running = h; goes = stays refl; path = refl }

module _ (laws : RunLaws) (p : Program) (accepted : IsAccepted p) (t : TableId × Begun) where
  -- it goes on at its seat
  pub running-on : (k l : Seen) → IsRunning p t k → GoesTo p (part_of k.1) (part_of l.1)
      → l.0.0 ≡ k.0.0 → l.0.1.begun ≡ k.0.1.begun → HasNoMisses l.0.1 l.1 → IsRunning p t l
  unfolding GoingKeepsSafe GoingKeepsPath GoingSpends GoingStaysPastSetup
  running-on k l h go table begun fresh =
      let path = laws.path p (part_of k.1) (part_of l.1) go in
      let less = laws.spends p (part_of k.1) (part_of l.1) go in
      let room = h.room in
      record {
        table = table ∙ h.table;
        begun = begun ∙ h.begun;
        program = h.program;
        owed = h.owed;
        safe = laws.safe p accepted h.owed (part_of k.1) (part_of l.1) go h.safe;
        past = laws.past p (part_of k.1) (part_of l.1) accepted.formed go h.past;
        room = subst (λ z. length (numbers (part_of l.1).part.supply) * 2 ^ length z ≤ STEPS)
            (sym path) (less-room (length (numbers (part_of l.1).part.supply))
            (length (numbers (part_of k.1).part.supply)) (2 ^ length (part_of k.1).part.task) less
            room);
        fresh = fresh;
      }
    where
      less-room : (a b c : ℕ) → a ≤ b → b * c ≤ STEPS → a * c ≤ STEPS
      less-room a b c l h = grind (arith)

  -- where its part is as it was
  pub running-same : (k l : Seen) → IsRunning p t k → l.0 ≡ k.0 → part_of l.1 ≡ part_of k.1
      → IsRunning p t l
  running-same k l h seat same = running-on k l h (stays same)
      (ap (λ (z : TableId × View). z.0) seat) (ap (λ (z : TableId × View). z.1.begun) seat)
      (fresh-same k.0.1 l.0.1 k.1 l.1 (ap (λ (z : TableId × View). z.1) seat) same h.fresh)
    where
      fresh-same : (v w : View) (a b : Part) → w ≡ v → part_of b ≡ part_of a → HasNoMisses v a
          → HasNoMisses w b
      fresh-same v w a b view part fresh =
          let clock : b.clock ≡ a.clock = ap (λ (z : TimedPart). z.clock) part in
          subst (λ (z : View × ℕ). cond (z.1 == z.0.part.clock) z.0.misses 0 ≡ 0)
          (λ i. (sym view i, sym clock i)) fresh

  -- by an event of its own
  pub moved-private : (k l : Seen) (event : Event) → IsRunning p t k
      → Private p event (part_of k.1) (part_of l.1) → GoesTo p (part_of k.1) (part_of l.1)
      → l.0 ≡ k.0 → HasNoMisses l.0.1 l.1 → HasMoved p t k l
  moved-private k l event h e go seat fresh = record {
    running = running-on k l h go (ap (λ (z : TableId × View). z.0) seat)
        (ap (λ (z : TableId × View). z.1.begun) seat) fresh;
    goes = go;
    later = (let n = e.notes.clock_is in omega arith);
  }

  -- by an exit
  pub moved-left : (k l : Seen) → IsRunning p t k → HasLeft p (part_of k.1) (part_of l.1)
      → GoesTo p (part_of k.1) (part_of l.1) → l.0.0 ≡ k.0.0 → l.0.1.begun ≡ k.0.1.begun
      → HasNoMisses l.0.1 l.1 → HasMoved p t k l
  moved-left k l h (event, content, e) go table begun fresh = record {
    running = running-on k l h go table begun fresh;
    goes = go;
    later = (let n = e.exits.notes.clock_is in omega arith);
  }

  -- by an entry
  pub moved-entered : (r : ResId) (k l : Seen) → IsRunning p t k
      → HasEntered p r (part_of k.1) (part_of l.1) → GoesTo p (part_of k.1) (part_of l.1)
      → l.0.0 ≡ k.0.0 → l.0.1.begun ≡ k.0.1.begun → HasNoMisses l.0.1 l.1 → HasMoved p t k l
  moved-entered r k l h e go table begun fresh = record {
    running = running-on k l h go table begun fresh;
    goes = go;
    later = (let n = e.enters.notes.clock_is in omega arith);
  }

  -- where its part is as it was
  pub moved-from : (k j l : Seen) → part_of j.1 ≡ part_of k.1 → HasMoved p t j l → HasMoved p t k l
  moved-from k j l same h = record {
    running = h.running;
    goes = subst (λ z. GoesTo p z (part_of l.1)) same h.goes;
    later = subst (λ (z : TimedPart). z.clock < (part_of l.1).clock) same h.later;
  }

  pub ended-at : (k l : Seen) → IsRunning p t k → l.0 ≡ k.0 → part_of l.1 ≡ part_of k.1
      → Answers p (part_of k.1) Done → HasEnded p t k l
  ended-at k l h seat same done = record {
    running = running-same k l h seat same;
    goes = stays same;
    done = subst (λ z. Answers p z Done) (sym same) done;
  }

  -- one move after the other
  pub goes-again : (k l m : Seen) → GoesTo p (part_of k.1) (part_of l.1) → HasMoved p t l m
      → GoesTo p (part_of k.1) (part_of m.1)
  unfolding GoingComposes
  goes-again k l m go h = laws.composes p (part_of k.1) (part_of l.1) (part_of m.1) go h.goes

  pub ended-again : (k l m : Seen) → GoesTo p (part_of k.1) (part_of l.1) → HasEnded p t l m
      → HasEnded p t k m
  unfolding GoingComposes
  ended-again k l m go h = record {
    running = h.running;
    goes = laws.composes p (part_of k.1) (part_of l.1) (part_of m.1) go h.goes;
    done = h.done;
  }

  -- its path stays
  pub path-again : (k l : Seen) → GoesTo p (part_of k.1) (part_of l.1)
      → length (part_of l.1).part.task ≡ length (part_of k.1).part.task
  unfolding GoingKeepsPath
  path-again k l go = ap length (laws.path p (part_of k.1) (part_of l.1) go)

  -- it has what it needs
  pub no-setting : (k : Seen) → IsRunning p t k → Answers p (part_of k.1) AtInit → ⊥
  unfolding PastSetupNothingSettles
  no-setting k h (frames, stand, at) = laws.no_settling p (part_of k.1).part frames h.past stand at

  pub no-absence : (k : Seen) (v : Value) → IsRunning p t k → Answers p (part_of k.1) (Absent v) → ⊥
  unfolding AbsentNeverComes
  no-absence k v h answer = laws.no_absent p h.owed (part_of k.1) v h.safe answer

  pub no-lack : (k : Seen) (r : ResId) → IsRunning p t k → Answers p (part_of k.1) (AtExit r)
      → HasNoContent p (part_of k.1).part r → ⊥
  unfolding ContentsAreThere
  no-lack k r h at none = laws.contents p h.owed (part_of k.1).part r h.safe at none

  -- where it has no unit it would go on
  pub going-spent : (k : Seen) → Answers p (part_of k.1) Spent → IsGoing (part_of k.1)
  unfolding StoppedTasksGoOn
  going-spent k at = (laws.stopped p (part_of k.1)).0 at

  pub going-region : (k : Seen) (r : ResId) → Answers p (part_of k.1) (AtRegion r)
      → IsGoing (part_of k.1)
  unfolding StoppedTasksGoOn
  going-region k r at = (laws.stopped p (part_of k.1)).1 r at

  pub going-exit : (k : Seen) (r : ResId) → Answers p (part_of k.1) (AtExit r)
      → IsGoing (part_of k.1)
  unfolding StoppedTasksGoOn
  going-exit k r at = (laws.stopped p (part_of k.1)).2 r at

  pub going-fork : (k : Seen) → Answers p (part_of k.1) AtFork → IsGoing (part_of k.1)
  unfolding StoppedTasksGoOn
  going-fork k at = (laws.stopped p (part_of k.1)).3 at

  -- a move more
  pub way-more : (k l m : Seen) → IsOnItsWay p t k l → HasMoved p t l m → IsOnItsWay p t k m
  way-more k l m way h = record {
    running = h.running;
    goes = goes-again k l m way.goes h;
    path = path-again l m h.goes ∙ way.path;
  }
