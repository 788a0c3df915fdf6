-- A task that forks, its children while they run, and its join.
-- Names: `fork-FACT`, `meet-FACT`.
use Rattle.std.specs.Prelude.{◌≡◌, ◌≢◌, ◌<◌, ◌≤◌, ◌+◌, ◌*◌, ◌^◌, ℕ, [], ◌∷◌, ◌++◌, List, length, IfOk, Result, Ok, Err}
use Rattle.std.proofs.Common.{sym, ap, ◌∙◌, refl, subst, arith}
use Rattle.std.proofs.lemmas.Bool.{cases_lt}
use Rattle.std.proofs.lemmas.Grind.{pow_more}
use Rattle.std.proofs.lemmas.List.{length-append}
use Rattle.std.proofs.Math.Logic.{⊎_elim}
use Rattle.std.proofs.Math.Pow.{pow_mono}
use Rattle.atomic_table.specs.Seated.{TableId}
use Rattle.sf_base.specs.declared.limits.TheConstants.{STEPS, TURNS}
use Rattle.sf_base.specs.declared.path.Turn.{Turn}
use Rattle.sf_core.specs.Machine.Config.{Path}
use Rattle.sf_core.specs.Machine.Step.{Event}
use Rattle.sf_core.specs.Machine.Whole.{numbers}
use Rattle.sf_core.specs.Program.Syntax.{Program}
use Rattle.sf_own.specs.Checked.Accepted.{IsAccepted}
use Rattle.sf_own.specs.Checked.Laws.{ForksKeepSafe}
use Rattle.sf_own.specs.Checked.LawsOfNeeds.{SharesAreThere}
use Rattle.sf_own.specs.Checked.Safe.{IsSafe}
use Rattle.sf_part.specs.Answers.{Answers}
use Rattle.sf_part.specs.Checked.LawsOfGoing.{ChildrenArePastSetup, ChildrenGoOn, ForksHalve, IsPastSetup}
use Rattle.sf_part.specs.declared.local.Local.TheVariants.{AtFork}
use Rattle.sf_part.specs.Forking.{HasNoShares}
use Rattle.sf_part.specs.Going.{GoesTo, HaveGoneOn}
use Rattle.sf_part.specs.Lent.{Lends}
use Rattle.sf_part.specs.PartView.{IsPartOf, part_of}
use Rattle.sf_part.specs.Steps.{IsChild, Joins}
use Rattle.sf_region.specs.declared.views.Begun.{Begun}
use Rattle.sf_region.specs.Meeting.{HasNoMisses, IsAtRest}
use Rattle.sf_region.specs.Waits.{program_in}
use Rattle.sf_safe.specs.Checked.Contract.{Known}
use Rattle.sf_threads.proofs.Moves.{running-on}
use Rattle.sf_threads.specs.Checked.Laws.{RunLaws}
use Rattle.sf_threads.specs.Checked.Parting.{HasParted, MayMeet}
use Rattle.sf_threads.specs.declared.forks.Parted.{Parted}
use Rattle.sf_threads.specs.declared.stop.Stop.{Stop}
use Rattle.sf_threads.specs.Checked.Running.{HasEnded, HasMoved, IsRunning, Seen}

some-units : (ns : List ℕ) → ns ≢ [] → 1 ≤ length ns
some-units [] some = absurd (some refl)
some-units (n ∷ ns) some = omega arith

at-most : (n x s : ℕ) → 1 ≤ n → n * x ≤ s → x ≤ s
at-most n x s some room = grind (arith)

-- a path from which units may be given is shorter than any may be
few-turns : (n len : ℕ) → 1 ≤ n → n * 2 ^ len ≤ STEPS → len < TURNS
few-turns n len some room = ⊎_elim (λ (less : len < TURNS). less)
    (λ (more : TURNS ≤ len). absurd (too-many (2 ^ len) (at-most n (2 ^ len) STEPS some room)
    (pow_mono more)))
    (cases_lt len TURNS)
  where
    too-many : (x : ℕ) → x ≤ STEPS → 2 ^ TURNS ≤ x → ⊥
    too-many x most least = omega arith

scaled : (a b c s : ℕ) → a ≤ b → b * c ≤ s → a * c ≤ s
scaled a b c s less room = grind (arith)

halves : (n m x s : ℕ) → 2 * n ≤ m → m * x ≤ s → n * (x * 2) ≤ s
halves n m x s half room = let e = scaled (2 * n) m x s half room in omega arith

-- a child has at most half of the units, and a turn more
half-room : (n m len : ℕ) → 2 * n ≤ m → m * 2 ^ len ≤ STEPS → n * 2 ^ (len + 1) ≤ STEPS
half-room n m len half room =
    subst (λ z. n * z ≤ STEPS) (sym (pow_more 2 len)) (halves n m (2 ^ len) STEPS half room)

module _ (laws : RunLaws) (p : Program) (accepted : IsAccepted p) (t : TableId × Begun) (k : Seen)
    (h : IsRunning p t k) where
  -- its path has room for a turn more
  pub fork-turns : numbers (part_of k.1).part.supply ≢ [] → length (part_of k.1).part.task < TURNS
  fork-turns some = few-turns (length (numbers (part_of k.1).part.supply))
      (length (part_of k.1).part.task) (some-units (numbers (part_of k.1).part.supply) some) h.room

  -- there is what each child needs
  pub fork-shares : IsPartOf p k.1 → Answers p (part_of k.1) AtFork
      → numbers (part_of k.1).part.supply ≢ [] → HasNoShares p (part_of k.1) → ⊥
  unfolding SharesAreThere
  fork-shares of (frames, stand, at) some none =
      let m = laws.shares p accepted h.owed (part_of k.1) frames k.1.kept of.is h.safe stand at
      (fork-turns some) some in
      none m.event m.after m.one m.two m.lends

  -- and each child runs
  module _ (of : IsPartOf p k.1) (event : Event) (w l r : Seen)
      (lends : Lends p event (part_of k.1) (part_of w.1) (part_of l.1) (part_of r.1)) where
    path-kept : (part_of w.1).part.task ≡ (part_of k.1).part.task
    path-kept = sym lends.forks.children.task ∙ lends.forks.acts.task

    deeper : (c : Seen) (turn : Turn) → IsChild (part_of w.1).part turn (part_of c.1).part
        → length (part_of c.1).part.task ≡ length (part_of k.1).part.task + 1
    deeper c turn is =
        let e = ap length (is.task ∙ ap (λ (z : Path). z ++ turn ∷ []) path-kept) in
        let more = length-append (part_of k.1).part.task (turn ∷ []) in
        omega arith

    room-of : (c : Seen) (turn : Turn) → IsChild (part_of w.1).part turn (part_of c.1).part
        → 2 * length (numbers (part_of c.1).part.supply) ≤ length (numbers (part_of k.1).part.supply)
        → length (numbers (part_of c.1).part.supply) * 2 ^ length (part_of c.1).part.task ≤ STEPS
    room-of c turn is half =
        subst (λ z. length (numbers (part_of c.1).part.supply) * 2 ^ z ≤ STEPS)
        (sym (deeper c turn is))
        (half-room (length (numbers (part_of c.1).part.supply))
        (length (numbers (part_of k.1).part.supply)) (length (part_of k.1).part.task) half h.room)

    child-runs : (c : Seen) (turn : Turn) → IsChild (part_of w.1).part turn (part_of c.1).part
        → c.0.0 ≡ k.0.0 → c.0.1.begun ≡ k.0.1.begun
        → (owed : Known) → IsSafe p owed (part_of c.1).part → IsPastSetup p (part_of c.1).part
        → 2 * length (numbers (part_of c.1).part.supply) ≤ length (numbers (part_of k.1).part.supply)
        → HasNoMisses c.0.1 c.1 → IsRunning p t c
    child-runs c turn is table begun owed safe past half fresh = record {
      table = table ∙ h.table;
      begun = begun ∙ h.begun;
      program = h.program;
      owed = owed;
      safe = safe;
      past = past;
      room = room-of c turn is half;
      fresh = fresh;
    }

    pub fork-parted : HaveGoneOn p (part_of k.1) (part_of w.1) (part_of l.1) (part_of r.1)
        → (w.0.0 ≡ k.0.0) × (l.0.0 ≡ k.0.0) × (r.0.0 ≡ k.0.0)
        → (w.0.1.begun ≡ k.0.1.begun) × (l.0.1.begun ≡ k.0.1.begun) × (r.0.1.begun ≡ k.0.1.begun)
        → IsAtRest w.0.1 w.1 × IsAtRest l.0.1 l.1 × IsAtRest r.0.1 r.1
        → HasNoMisses l.0.1 l.1 × HasNoMisses r.0.1 r.1
        → HasParted p t k (record { waits = w; left = l; right = r })
    unfolding ForksKeepSafe ForksHalve ChildrenArePastSetup
    fork-parted gone tables begun rests fresh =
        let forks = lends.forks in
        let safe = laws.forks_safe p accepted h.owed event (part_of k.1) (part_of w.1) (part_of l.1)
        (part_of r.1) k.1.kept lends of.is h.safe in
        let past = laws.children_past p event (part_of k.1) (part_of w.1) (part_of l.1)
        (part_of r.1) accepted.formed of.is forks h.past in
        let half = laws.halve p event (part_of k.1) (part_of w.1) (part_of l.1) (part_of r.1) forks in
        let left = forks.children.left_one in
        let right = forks.children.right_one in
        record {
          gone = gone;
          rests = record { table = tables.0 ∙ h.table; begun = begun.0 ∙ h.begun; rest = rests.0 };
          left = child-runs l _ left tables.1 begun.1 safe.left safe.first past.0 half.0 fresh.0;
          right = child-runs r _ right tables.2 begun.2 safe.right safe.second past.1 half.1 fresh.1;
          later = (let n = forks.notes.clock_is in omega arith);
          left_deeper = deeper l _ left;
          right_deeper = deeper r _ right;
        }

  -- when both have ended they may meet
  pub fork-may-meet : (f : Parted) (one two : Seen) → HasParted p t k f → HasEnded p t f.left one
      → HasEnded p t f.right two → MayMeet p t k f.waits one two
  unfolding ChildrenGoOn
  fork-may-meet f one two parted left right = record {
    before = h;
    gone = laws.children p (part_of k.1) (part_of f.waits.1) (part_of f.left.1)
        (part_of f.right.1) (part_of one.1) (part_of two.1) parted.gone left.goes right.goes;
    rests = parted.rests;
    left = record { table = left.running.table; begun = left.running.begun; done = left.done };
    right = record { table = right.running.table; begun = right.running.begun; done = right.done };
    later = parted.later;
  }

-- the three at their join
module _ (p : Program) (t : TableId × Begun) (k w l r : Seen) (m : MayMeet p t k w l r) where
  pub meet-program : program_in w.0.1.begun ≡ p
  meet-program = ap program_in m.rests.begun ∙ m.before.program

  pub meet-left-program : program_in l.0.1.begun ≡ p
  meet-left-program = ap program_in m.left.begun ∙ m.before.program

  pub meet-right-program : program_in r.0.1.begun ≡ p
  meet-right-program = ap program_in m.right.begun ∙ m.before.program

  pub meet-moved : RunLaws → IsAccepted p → (j : Seen) (event : Event)
      → Joins p event (part_of w.1) (part_of l.1) (part_of r.1) (part_of j.1)
      → GoesTo p (part_of k.1) (part_of j.1) → j.0.0 ≡ w.0.0 → j.0.1.begun ≡ w.0.1.begun
      → HasNoMisses j.0.1 j.1 → HasMoved p t k j
  meet-moved laws accepted j event e go table begun fresh =
      let later = m.later in record {
        running = running-on laws p accepted t k j m.before go
            (table ∙ (m.rests.table ∙ sym m.before.table))
            (begun ∙ (m.rests.begun ∙ sym m.before.begun)) fresh;
        goes = go;
        later = (let n = e.notes.clock_is in omega arith);
      }

-- where a join has come to something, the task has moved
pub if-moved : (p : Program) (t : TableId × Begun) (k w l r : Seen) (e : Result Seen Stop)
    → IfOk e (λ j. (i : Seen) → MayMeet p t i w l r → HasMoved p t i j) → MayMeet p t k w l r
    → IfOk e (HasMoved p t k)
if-moved p t k w l r (Ok j) told may = told k may
if-moved p t k w l r (Err stop) told may = tt

-- a child that has come to its end has ended
pub if-ended : (p : Program) (t : TableId × Begun) (k one : Seen) (e : Result Seen Stop)
    → IfOk e (HasEnded p t k) → e ≡ Ok one → HasEnded p t k one
if-ended p t k one e told is = subst (λ z. IfOk z (HasEnded p t k)) is told
