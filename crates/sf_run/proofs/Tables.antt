-- Where the table of a run's resources begins, and what is there.
-- Names: `first-LAW` of the part with which a procedure starts and the contents beside it;
-- `begin-LAW` of the table.
use Rattle.std.specs.Prelude.{◌≡◌, ◌==◌, ◌+◌, ◌*◌, ◌^◌, ◌≤◌, ℕ, zero, suc, cond, Bool, true, false, List, [], ◌∷◌, length, map, Contains}
use Rattle.std.specs.List.{AllByRecursion}
use Rattle.std.proofs.Common.{true≢false, sym, ap, ap₂, ◌∙◌, refl, subst, ⊎_elim, arith}
use Rattle.std.proofs.lemmas.List.{append-nil, length-map}
use Rattle.atomic_table.specs.Seated.{TableId}
use mathlib.Core.Option.{some, some-injective, some-ne-none}
use lib.ListN.{get_elem?}
use Rattle.sf_base.proofs.Elements.{contains-cons, contains-nil}
use Rattle.sf_base.proofs.Options.{some-once}
use Rattle.sf_base.specs.declared.ids.ProcId.{ProcId}
use Rattle.sf_base.specs.declared.limits.TheConstants.{STEPS}
use Rattle.sf_core.proofs.Inits.{sets_up-is}
use Rattle.sf_core.specs.declared.program.Program.{Program as CodeProgram}
use Rattle.sf_core.specs.Machine.Config.{Frame}
use Rattle.sf_base.specs.HeapStore.{Heap, Store}
use Rattle.sf_core.specs.Machine.Start.{Beginning, settled, fresh, entry_frame, first_frames}
use Rattle.sf_core.specs.Machine.Step.{procedure_at}
use Rattle.sf_core.specs.Machine.Supplies.{has, units}
use Rattle.sf_core.specs.Machine.Whole.{running, Whole, numbers}
use Rattle.sf_core.specs.Program.Init.{sets_up}
use Rattle.sf_core.specs.Program.ProgramView.{program_of}
use Rattle.sf_core.specs.Program.Syntax.{Procedure, Program}
use Rattle.sf_foot.specs.declared.vars.Vars.{Vars}
use Rattle.sf_foot.specs.Starting.{IsBeginning, StartsWith, store_of}
use Rattle.sf_heap.specs.Cells.{Cells, heap_of}
use Rattle.sf_own.specs.Checked.Accepted.{IsAccepted}
use Rattle.sf_own.specs.Checked.Laws.{FirstPartsAreSafe}
use Rattle.sf_own.specs.Checked.Safe.{IsSafe}
use Rattle.sf_part.specs.Checked.Laws.{FirstPartsAreWhole}
use Rattle.sf_part.specs.Checked.LawsOfGoing.{IsPastSetup}
use Rattle.sf_part.specs.Contents.{IsContentIn, content_of}
use Rattle.sf_part.specs.declared.content.Content.{Content}
use Rattle.sf_part.specs.declared.part.Part.{Part}
use Rattle.sf_part.specs.First.{First, first_count, first_holds}
use Rattle.sf_part.specs.Given.{IsContentOf}
use Rattle.sf_part.specs.Of.{frames_in}
use Rattle.sf_part.specs.PartView.{IsPartOf, part_of}
use Rattle.sf_part.specs.Starts.{Starts}
use Rattle.sf_part.specs.Steps.{AreFrom}
use Rattle.sf_part.specs.Supplied.{Supplied}
use Rattle.sf_part.specs.Timed.{TimedPart, TimedContent, contents_of}
use Rattle.sf_region.specs.declared.views.Begun.{Begun}
use Rattle.sf_region.specs.declared.views.View.{View}
use Rattle.sf_region.specs.Keys.{begun_with}
use Rattle.sf_region.specs.Meeting.{HasNoMisses}
use Rattle.sf_region.specs.Rule.{MayBegin, opening_view}
use Rattle.sf_region.specs.Waits.{contents_in}
use Rattle.sf_safe.specs.Checked.LawsOfShares.{entry_of}
use Rattle.sf_setup.specs.Checked.Told.{IsLogUpTo}
use Rattle.sf_threads.specs.Checked.Running.{IsRunning}
use Rattle.sf_trace.specs.Checked.Lemmas.Logs.{log-none}
use Rattle.sf_run.proofs.Beginnings.{begin-start, kind-one}
use Rattle.sf_run.proofs.Numbering.{units-length}
use Rattle.sf_run.specs.Checked.Opened.{IsOpened, IsPrepared}

-- what is so of all is so of each
all-at : {A : Type 0} (P : A → Type 0) (xs : List A) (i : ℕ) (x : A) → AllByRecursion P xs
    → get_elem? xs i ≡ some x → P x
all-at P [] i x h e = absurd (some-ne-none x (sym e))
all-at P (y ∷ xs) zero x h e = subst P (some-injective y x e) h.0
all-at P (y ∷ xs) (suc i) x h e = all-at P xs i x h.1 e

pub all-map : {A B : Type 0} (f : A → B) (P : B → Type 0) (xs : List A)
    → AllByRecursion (λ (x : A). P (f x)) xs → AllByRecursion P (map f xs)
all-map f P [] h = tt
all-map f P (x ∷ xs) (here, others) = (here, all-map f P xs others)

pub all-unmap : {A B : Type 0} (f : A → B) (P : B → Type 0) (xs : List A)
    → AllByRecursion P (map f xs) → AllByRecursion (λ (x : A). P (f x)) xs
all-unmap f P [] h = tt
all-unmap f P (x ∷ xs) (here, others) = (here, all-unmap f P xs others)

pub all-so : {A : Type 0} (P Q : A → Type 0) (xs : List A) → ((x : A) → P x → Q x)
    → AllByRecursion P xs → AllByRecursion Q xs
all-so P Q [] h a = tt
all-so P Q (x ∷ xs) h (here, others) = (h x here, all-so P Q xs h others)

-- contents in their order have their places as their resources' numbers
number-at : (n : ℕ) (ks : List Content) (i : ℕ) (k : Content) → AreFrom n (map content_of ks)
    → get_elem? ks i ≡ some k → k.resource.0 ≡ n + i
number-at n [] i k h e = absurd (some-ne-none k (sym e))
number-at n (y ∷ ks) zero k h e =
    let same : y ≡ k = some-injective y k e in
    let here = ap (λ (z : Content). z.resource.0) same in
    let first = h.0 in omega (arith, here, first)
number-at n (y ∷ ks) (suc i) k h e =
    let l = number-at (suc n) ks i k h.1 e in omega (arith, l)

pub contents-same : (ks : List Content) → contents_of (map content_of ks) ≡ contents_in ks
contents-same [] = refl
contents-same (k ∷ ks) = ap (λ z. (content_of k).content ∷ z) (contents-same ks)

-- a table may begin with what is prepared
pub begin-may : (q : CodeProgram) (f : ProcId) (is_fresh : Bool) (vars : Vars) (heap : Cells)
    (base count : ℕ) (a : Part) (ks : List Content)
    → IsPrepared (program_of q) f is_fresh vars heap base count a ks → MayBegin (begun_with q a ks)
begin-may q f is_fresh vars heap base count a ks k = record {
  of = k.of;
  idle = k.idle;
  each = k.each;
  exactly = λ r c at. record {
    number = let n = number-at 0 ks r c k.in_order at in omega (arith, n);
    is_in = all-at (λ z. IsContentIn (program_of q) z) ks r c k.is_in at;
    exactly = all-at (λ z. IsContentOf (program_of q) (content_of z).content) ks r c k.exactly at;
  };
  early = λ r c at. all-at (λ (z : Content). z.stamp ≤ a.clock) ks r c k.early at;
  whole = (k.opened, k.whole);
}

module _ (p : Program) (f : ProcId) (is_fresh : Bool) (vars : Vars) (heap : Cells) (parts : List (List ℕ))
    (base count : ℕ) (a : TimedPart) (contents : List TimedContent)
    (s : StartsWith p f is_fresh vars heap parts)
    (t : Starts p f is_fresh vars heap base count a contents) where
  -- the part and the contents are those with which the start's procedure starts
  pub first-theirs : First p f (s.starts).procedure (s.starts).beginning
      (store_of s.beginning s.procedure vars) (heap_of heap) base count a contents
  first-theirs =
      let same : t.beginning ≡ s.beginning = kind-one p is_fresh t.beginning s.beginning t.kind s.kind in
      let one : t.procedure ≡ s.procedure =
      some-once (procedure_at p f) t.procedure s.procedure t.there s.there in
      let other : t.procedure ≡ (s.starts).procedure =
      some-once (procedure_at p f) t.procedure (s.starts).procedure t.there (s.starts).there in
      subst (λ z. First p f z (s.starts).beginning (store_of s.beginning s.procedure vars)
      (heap_of heap) base count a contents) other
      (subst (λ z. First p f t.procedure z (store_of s.beginning s.procedure vars) (heap_of heap)
      base count a contents) (same ∙ sym s.begins)
      (subst (λ z. First p f t.procedure t.beginning z (heap_of heap) base count a contents)
      (ap₂ (λ b g. store_of b g vars) same one) t.is))

-- the entry's own frame isn't of the procedure that sets the resources up
first-past : (p : Program) (f : ProcId) (g : Procedure) (b : Beginning) (store : Store) (heap : Heap)
    (base count : ℕ) (a : TimedPart) (contents : List TimedContent) → sets_up p f ≡ false
    → b ≡ settled → First p f g b store heap base count a contents → IsPastSetup p a.part
first-past p f g b store heap base count a contents none is first h among =
    let stand : a.part.stand ≡ running (entry_frame f g ∷ []) =
    first.stand ∙ ap (λ z. running (first_frames z f g)) is in
    let one : Contains (entry_frame f g ∷ []) h =
    subst (λ z. Contains (frames_in z) h) stand among in
    ⊎_elim (λ (e : entry_frame f g ≡ h). subst (λ (z : Frame). sets_up p z.fixed.procedure ≡ false) e
    none) (λ n. absurd (contains-nil h n)) ((contains-cons (entry_frame f g) [] h).0 one)

-- a part whose units are one range has so many
units-within : (base count : ℕ) (a : TimedPart)
    → a.part.supply ≡ record { first = base; count = count } ∷ [] → count ≤ STEPS
    → length (numbers a.part.supply) ≤ STEPS
units-within base count a is few =
    let all = ap (λ z. length (numbers z)) is in
    let one = ap length (append-nil (units base count)) in
    let size = units-length base count in omega (arith, all, one, size, few)

-- not fresh
settled-is : (p : Program) (is_fresh : Bool) (b : Beginning) → IsBeginning p is_fresh b
    → is_fresh ≡ false → b ≡ settled
settled-is p is_fresh settled k e = refl
settled-is p is_fresh (fresh n h) k e =
    absurd (subst (λ z. IsBeginning p z (fresh n h)) e k)

-- so a run begins whose resources are set up
module _ (whole_law : FirstPartsAreWhole) (safe_law : FirstPartsAreSafe) (q : CodeProgram)
    (accepted : IsAccepted (program_of q)) (f : ProcId) (is_fresh : Bool) (vars : Vars) (heap : Cells)
    (parts : List (List ℕ)) (base count : ℕ) (a : Part) (ks : List Content)
    (s : StartsWith (program_of q) f is_fresh vars heap parts)
    (t : Starts (program_of q) f is_fresh vars heap base count (part_of a) (map content_of ks))
    (few : count ≤ STEPS) (not_fresh : is_fresh ≡ false) (of : IsPartOf (program_of q) a)
    (exactly : AllByRecursion (λ (k : Content). IsContentOf (program_of q) (content_of k).content) ks)
    (is_in : AllByRecursion (λ (k : Content). IsContentIn (program_of q) k) ks) where
  abbrev p : Program
  p = program_of q

  abbrev store : Store
  store = store_of s.beginning s.procedure vars

  abbrev first : First p f (s.starts).procedure (s.starts).beginning store (heap_of heap) base count
      (part_of a) (map content_of ks)
  first = first-theirs p f is_fresh vars heap parts base count (part_of a) (map content_of ks) s t

  settled-here : (s.starts).beginning ≡ settled
  settled-here = s.begins ∙ settled-is p is_fresh s.beginning s.kind not_fresh

  first-whole : Whole ((part_of a).part ∷ []) (contents_in ks) s.config
      × Supplied ((part_of a).part ∷ []) (has (units base count))
  unfolding FirstPartsAreWhole
  first-whole =
      let w = whole_law p f store (heap_of heap) s.config base count (part_of a) (map content_of ks)
      s.starts first in
      (subst (λ z. Whole ((part_of a).part ∷ []) z s.config) (contents-same ks) w.0, w.1)

  first-safe : IsSafe p (entry_of f (s.starts).procedure store) (part_of a).part
  unfolding FirstPartsAreSafe
  first-safe = safe_law p accepted f store (heap_of heap) s.config base count (part_of a)
      (map content_of ks) s.starts first
      (all-map content_of (λ (k : TimedContent). IsContentOf p k.content) ks exactly)

  first-early : AllByRecursion (λ (k : Content). k.stamp ≤ a.clock) ks
  first-early = all-so (λ (k : Content). k.stamp ≡ 0) (λ (k : Content). k.stamp ≤ a.clock) ks
      (λ k e. omega (arith, e))
      (all-unmap content_of (λ (k : TimedContent). k.stamp ≡ 0) ks first.stamps)

  -- nothing has happened yet
  first-told : IsLogUpTo p s.config [] s.config (part_of a).log (part_of a).clock
  first-told = subst (λ z. IsLogUpTo p s.config [] s.config z (part_of a).clock) (sym first.log)
      (record { is = log-none p s.config; early = λ x h. absurd (contains-nil x h) })

  pub first-prepared : IsPrepared p f is_fresh vars heap base count a ks
  first-prepared = record {
    of = of;
    task = first.task;
    idle = λ r. ap (λ z. z r) first.holds ∙ ap (λ z. first_holds z p r) settled-here;
    owed = entry_of f (s.starts).procedure store;
    safe = first-safe;
    past = first-past p f (s.starts).procedure (s.starts).beginning store (heap_of heap) base count
        (part_of a) (map content_of ks)
        (sets_up-is p f (s.starts).procedure (s.starts).there ∙ (s.starts).no_init) settled-here first;
    within = units-within base count (part_of a) first.supply few;
    given = first.given;
    each = sym (length-map ks content_of) ∙ (first.each ∙ ap (λ z. first_count z p) settled-here);
    in_order = first.in_order;
    is_in = is_in;
    exactly = exactly;
    early = first-early;
    start = s.config;
    begins = begin-start p f is_fresh vars heap parts s;
    events = [];
    opened = s.config;
    supply = has (units base count);
    run = (refl, refl);
    settled = λ h. refl;
    set_up = λ h. absurd (true≢false (sym h ∙ not_fresh));
    told = λ keeps. first-told;
    whole = first-whole.0;
    supplied = first-whole.1;
  }

-- the table began so
pub begin-opened : (q : CodeProgram) (f : ProcId) (is_fresh : Bool) (vars : Vars) (heap : Cells)
    (base count : ℕ) (a : Part) (ks : List Content) (b : Begun) → b ≡ begun_with q a ks
    → IsPrepared (program_of q) f is_fresh vars heap base count a ks
    → IsOpened (program_of q) f is_fresh vars heap base count b
begin-opened q f is_fresh vars heap base count a ks b is k =
    subst (IsOpened (program_of q) f is_fresh vars heap base count) (sym is)
    (record { program = refl; prepared = k })

-- and the entry's task runs at it
pub begin-running : (q : CodeProgram) (f : ProcId) (is_fresh : Bool) (vars : Vars) (heap : Cells)
    (base count : ℕ) (a : Part) (ks : List Content) (t : TableId × Begun) (l : (TableId × View) × Part)
    → IsPrepared (program_of q) f is_fresh vars heap base count a ks → t.1 ≡ begun_with q a ks
    → l.0.0 ≡ t.0 → l.0.1 ≡ opening_view t.1 → l.1 ≡ a → IsRunning (program_of q) t l
begin-running q f is_fresh vars heap base count a ks t l k is table view part = record {
  table = table;
  begun = ap (λ (z : View). z.begun) view;
  program = ap (λ (z : Begun). program_of z.program) is;
  owed = k.owed;
  safe = subst (λ (z : Part). IsSafe (program_of q) k.owed (part_of z).part) (sym part) k.safe;
  past = subst (λ (z : Part). IsPastSetup (program_of q) (part_of z).part) (sym part) k.past;
  room = subst (λ (z : Part). length (numbers (part_of z).part.supply)
      * 2 ^ length (part_of z).part.task ≤ STEPS) (sym part) room;
  fresh = subst (λ (z : View). HasNoMisses z l.1) (sym view) (no-misses (l.1.clock == t.1.part.clock));
}
  where
    room : length (numbers (part_of a).part.supply) * 2 ^ length (part_of a).part.task ≤ STEPS
    room =
        let one : 2 ^ length (part_of a).part.task ≡ 1 = ap (λ z. 2 ^ length z) k.task in
        let times = ap (λ z. length (numbers (part_of a).part.supply) * z) one in
        omega (arith, times, k.within)

    no-misses : (b : Bool) → ◌≡◌ {A = ℕ} (cond b 0 0) 0
    no-misses true = refl
    no-misses false = refl
