-- What a part keeps where its pieces change: nothing is lost where they stay as they are, and an
-- event spends a
-- unit.
-- Names: `same-LAW` of pieces that stay, `performed-LAW` of an event.
use Rattle.std.specs.Prelude.{◌≡◌, ◌≢◌, ◌==◌, ◌+◌, ◌≤◌, ℕ, suc, Bool, List, ◌∷◌, length, map, Option, Result, Ok, Err, OnErr, Contains, is_some}
use Rattle.std.proofs.Common.{sym, ap, ◌∙◌, refl, subst, inl, inr, arith}
use Rattle.std.proofs.lemmas.Bool.Decides.{eqb_tells}
use Rattle.sf_base.proofs.Elements.{contains-rest}
use Rattle.sf_base.specs.declared.ids.ResId.{ResId}
use Rattle.sf_base.specs.declared.limits.TheConstants.{STEPS}
use Rattle.sf_base.specs.HeapStore.{Store}
use Rattle.sf_core.specs.Machine.Config.{Path, Common}
use Rattle.sf_core.specs.Machine.Step.{Event}
use Rattle.sf_core.specs.Machine.Whole.{Range, Stand, numbers, running}
use Rattle.sf_frame.specs.Commons.{common_of}
use Rattle.sf_frame.specs.Checked.Effects.{IsSameCommon}
use Rattle.sf_frame.specs.Checked.Frames.{moved}
use Rattle.sf_frame.specs.declared.shared.Shared.{Shared}
use Rattle.sf_frame.specs.declared.stack.Change.{Change}
use Rattle.sf_part.specs.Checked.KeepsIsProp.{AreOwn}
use Rattle.sf_part.specs.declared.log.Stamped.{Stamped as CodeStamped}
use Rattle.sf_part.specs.declared.stand.Stand.{Stand as CodeStand}
use Rattle.sf_part.specs.Keeps.{IsUnmade, IsWaiting, Keeps}
use Rattle.sf_part.specs.Of.{frames_in}
use Rattle.sf_part.specs.Parts.{entry_of, part_with}
use Rattle.sf_part.specs.Stands.{stand_in}
use Rattle.sf_part.specs.Timed.{Notes, TimedPart}
use Rattle.sf_part.proofs.Supplies.{count-cons, count-contains, one_if, times}
use Rattle.sf_part.proofs.Times.{logged-later, notes-in_time}

-- a fact holds on an error
pub on-err : {T E : Type 0} {P : Type 0} (r : Result T E) → P → OnErr r P
on-err (Ok x) h = tt
on-err (Err e) h = h

-- what is the same everywhere is one
pub same-common : (s t : Common) → IsSameCommon s t → s ≡ t
same-common s t h = λ i. record {
  heap = λ location. h.heap location i;
  store = λ slot. h.store slot i;
  held = λ r. h.held r i;
}

-- what is so of the slots of the one is so of the other's
pub same-store : (P : Store → Type 0) {s t : Common} → IsSameCommon s t → P t.store → P s.store
same-store P {s} {t} same h = subst (λ (z : Common). P z.store) (sym (same-common s t same)) h

-- how a part stands whose frames were moved
pub moved-stand : (change : Change) {stand : Stand} {s t : CodeStand} → s ≡ t
    → stand ≡ running (moved change (frames_in (stand_in s)))
    → stand ≡ running (moved change (frames_in (stand_in t)))
moved-stand change is e = e ∙ ap (λ z. running (moved change (frames_in (stand_in z)))) is

-- the part is one where its pieces are
pub same-part : (task : Path) (stand now : CodeStand) (shared after : Shared) (supply : List Range)
    (clock : ℕ)
    (keeps : Bool) (log : List CodeStamped) (given : ℕ) → stand_in now ≡ stand_in stand
    → common_of after ≡ common_of shared
    → part_with task now after supply clock keeps log given ≡ part_with task stand shared supply
    clock keeps log given
same-part task stand now shared after supply clock keeps log given e h = λ i. record {
  part = record {
    task = task;
    stand = e i;
    heap = (h i).heap;
    store = (h i).store;
    holds = λ r. is_some ((h i).held r);
    supply = supply;
  };
  clock = clock;
  keeps = keeps;
  log = map entry_of log;
  given = given;
}

-- and whoever holds something is still the task
pub same-own : (task : Path) (shared after : Shared)
    → (common_of after).held ≡ (common_of shared).held
    → AreOwn shared.held task → AreOwn after.held task
same-own task shared after e h r holder is =
    h r holder (sym (ap (λ (f : ResId → Option Path). f (record { 0 = r })) e) ∙ is)

-- a unit that is spent isn't among the others
pub spent-other : (n : ℕ) (us vs : List ℕ) (m : ℕ) → us ≡ n ∷ vs → times n us ≤ 1 → Contains vs m
    → m ≢ n
spent-other n us vs m e once h same =
    let there = count-contains n vs (subst (λ z. Contains vs z) same h) in
    let all = ap (times n) e ∙ count-cons n n vs in
    elim (eqb_tells n n) [
      | inl t ↦ let one : one_if (n == n) ≡ 1 = ap one_if t.0 in absurd (omega arith)
      | inr t ↦ absurd (t.1 refl)
    ]

-- nor is any of them twice
spent-once : (n : ℕ) (us vs : List ℕ) → us ≡ n ∷ vs → ((m : ℕ) → times m us ≤ 1) → (m : ℕ)
    → times m vs ≤ 1
spent-once n us vs e once m =
    let all = ap (times m) e ∙ count-cons m n vs in
    let h = once m in
    omega arith

-- what a part keeps after an event, from a clock on that leaves room for its units
pub performed-keeps : (event : Event) (clock : ℕ) (a b : TimedPart) → Keeps a
    → numbers a.part.supply ≡ event.number ∷ numbers b.part.supply
    → ((n : ℕ) → Contains (numbers a.part.supply) n → n ≢ event.number
    → IsUnmade a.part.heap a.part.store n → IsUnmade b.part.heap b.part.store n)
    → (IsWaiting b.part.stand → ⊥) → a.clock ≤ clock
    → clock + length (numbers a.part.supply) ≤ STEPS → Notes clock a.log event a b → Keeps b
performed-keeps event clock a b k units unmade runs later within notes = record {
  once = spent-once event.number (numbers a.part.supply) (numbers b.part.supply) units k.once;
  unmade = λ n h.
      let there : Contains (numbers a.part.supply) n = subst (λ z. Contains z n) (sym units)
      (contains-rest event.number (numbers b.part.supply) n h) in
      unmade n there
      (spent-other event.number (numbers a.part.supply) (numbers b.part.supply) n units
      (k.once event.number) h)
      (k.unmade n there);
  waiting = λ h. absurd (runs h);
  time =
      let left : length (numbers a.part.supply) ≡ suc (length (numbers b.part.supply)) =
      ap length units in
      notes-in_time clock a.log event a b notes
      (logged-later a.clock clock a.log later (k.time).logged)
      (k.time).unlogged (omega arith);
}
