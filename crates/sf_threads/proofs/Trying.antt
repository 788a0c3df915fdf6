-- A task between its tries at a region, and what it comes to there.
-- Names: `tries-EVENT`, of how often it has missed; `trying-FACT`.
use Rattle.std.specs.Prelude.{◌≡◌, ◌≢◌, ◌<◌, ◌+◌, ℕ, cond, []}
use Rattle.std.proofs.Common.{sym, ap, ◌∙◌, refl, subst, arith, eq-eqb}
use Rattle.atomic_table.specs.Seated.{TableId}
use Rattle.sf_base.specs.declared.ids.ResId.{ResId}
use Rattle.sf_core.specs.Machine.Config.{Path}
use Rattle.sf_core.specs.Machine.Whole.{numbers}
use Rattle.sf_core.specs.Program.Syntax.{Program}
use Rattle.sf_own.specs.Checked.Accepted.{IsAccepted}
use Rattle.sf_part.specs.Answers.{Answers}
use Rattle.sf_part.specs.declared.local.Local.TheVariants.{AtRegion}
use Rattle.sf_part.specs.declared.part.Part.{Part}
use Rattle.sf_part.specs.Going.{GoesTo}
use Rattle.sf_part.specs.PartView.{part_of}
use Rattle.sf_part.specs.Timed.{TimedPart}
use Rattle.sf_region.specs.declared.views.Begun.{Begun}
use Rattle.sf_region.specs.declared.views.View.{View}
use Rattle.sf_region.specs.Meeting.{HasEntered, HasNoMisses}
use Rattle.sf_region.specs.Plays.{bump, since}
use Rattle.sf_region.specs.Receipt.{Receipt}
use Rattle.sf_region.specs.Waits.{program_in}
use Rattle.sf_threads.proofs.Moves.{moved-entered, moved-from}
use Rattle.sf_threads.specs.Checked.Laws.{RunLaws}
use Rattle.sf_threads.specs.Checked.Trying.{HasTried, IsTrying}
use Rattle.sf_threads.specs.Checked.Running.{HasMoved, IsRunning, Seen}
use Rattle.sf_threads.specs.Stopping.{IsReceiptOf}

-- what the seat tells of the last miss
pub record Told (r : ResId) (k : Seen) (count : ℕ) : Type 0 where
  pub misses : k.0.1.misses ≡ count
  pub missed : k.0.1.missed ≡ r
  pub seen : k.0.1.part ≡ k.1

-- Tries: since a task came to the region it has missed so often, and nothing else happened to it
pub record Tries (t : TableId × Begun) (r : ResId) (came k : Seen) (count : ℕ) : Type 0 where
  pub table : k.0.0 ≡ t.0
  pub begun : k.0.1.begun ≡ t.1
  pub same : part_of k.1 ≡ part_of came.1
  pub misses : since k.1 k.0.1 ≡ count
  pub told : 0 < count → Told r k count

-- where the seat has seen the part, all its misses count
since-seen : (a : Part) (v : View) → v.part ≡ a → since a v ≡ v.misses
since-seen a v seen =
    let clock : a.clock ≡ v.part.clock = ap (λ (z : Part). z.clock) (sym seen) in
    ap (λ z. cond z v.misses 0) (eq-eqb a.clock v.part.clock clock)

bump-below : (n : ℕ) → n < 4294967295 → bump n ≡ n + 1
bump-below n below = omega arith

module _ (p : Program) (t : TableId × Begun) (r : ResId) (came : Seen) (h : IsRunning p t came) where
  -- at first
  pub tries-none : Tries t r came came 0
  tries-none = record {
    table = h.table;
    begun = h.begun;
    same = refl;
    misses = h.fresh;
    told = λ some. absurd (omega arith);
  }

  -- one miss more
  pub tries-more : (k l : Seen) (count : ℕ) → count < 4294967295 → Tries t r came k count
      → HasTried p t r k l → Tries t r came l (count + 1)
  tries-more k l count below before tried =
      let missed = tried.missed in
      let misses : l.0.1.misses ≡ count + 1 =
      missed.count ∙ (ap bump before.misses ∙ bump-below count below) in
      record {
        table = tried.table;
        begun = tried.begun;
        same = missed.same ∙ before.same;
        misses = since-seen l.1 l.0.1 missed.rest.part ∙ misses;
        told = λ some. record {
          misses = misses;
          missed = missed.resource;
          seen = missed.rest.part;
        };
      }

  -- it still stands there
  pub trying-at : (k : Seen) (count : ℕ) → Tries t r came k count
      → Answers p (part_of came.1) (AtRegion r) → numbers (part_of came.1).part.supply ≢ []
      → IsTrying p t r k
  trying-at k count tries at unit = record {
    came = came;
    running = h;
    same = tries.same;
    table = tries.table;
    begun = tries.begun;
    region = subst (λ z. Answers p z (AtRegion r)) (sym tries.same) at;
    unit = subst (λ (z : TimedPart). numbers z.part.supply ≢ []) (sym tries.same) unit;
  }

-- after so many misses there is a receipt for them
pub tries-told : (t : TableId × Begun) (r : ResId) (came k : Seen) (count : ℕ)
    → Tries t r came k count → 0 < count → 0 < k.0.1.misses
tries-told t r came k count tries some =
    let e = (tries.told some).misses in omega arith

pub tries-receipt : (t : TableId × Begun) (r : ResId) (came k : Seen) (count : ℕ)
    → Tries t r came k count → 0 < count → (path : Path) (m : Receipt)
    → path ≡ (part_of k.1).part.task → m.begun ≡ k.0.1.begun
    → m.task ≡ (part_of k.0.1.part).part.task → m.resource ≡ k.0.1.missed
    → m.count ≡ k.0.1.misses → IsReceiptOf t.1 path r count m
tries-receipt t r came k count tries some path m at begun task resource number =
    let told = tries.told some in record {
      begun = begun ∙ tries.begun;
      task = task ∙ (ap (λ (z : Part). (part_of z).part.task) told.seen ∙ sym at);
      resource = resource ∙ told.missed;
      count = number ∙ told.misses;
    }

-- the table is the program's
pub trying-program : (p : Program) (t : TableId × Begun) (r : ResId) (k : Seen) → IsTrying p t r k
    → program_in k.0.1.begun ≡ p
trying-program p t r k h = ap program_in h.begun ∙ h.running.program

-- a try that is an entry
pub trying-entered : RunLaws → (p : Program) → IsAccepted p → (t : TableId × Begun) (r : ResId)
    (k l : Seen) → IsTrying p t r k → HasEntered p r (part_of k.1) (part_of l.1)
    → GoesTo p (part_of k.1) (part_of l.1) → l.0.0 ≡ k.0.0 → l.0.1.begun ≡ k.0.1.begun
    → HasNoMisses l.0.1 l.1 → HasMoved p t k l
trying-entered laws p accepted t r k l h entered go table begun fresh =
    let came = h.came in
    moved-from laws p accepted t k came l (sym h.same)
    (moved-entered laws p accepted t r came l h.running
    (subst (λ z. HasEntered p r z (part_of l.1)) h.same entered)
    (subst (λ z. GoesTo p z (part_of l.1)) h.same go)
    (table ∙ (h.table ∙ sym h.running.table)) (begun ∙ (h.begun ∙ sym h.running.begun)) fresh)
