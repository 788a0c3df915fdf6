-- A run has an answer, where the state's file is there and no parallel call can be reached: each layer has one of its
-- own.
-- Names: some-*, what is found at each step of the way; bound-*, that an end has finitely many cells.
use Rattle.std.proofs.Common.{◌≡◌, ◌∙◌, ◌<◌, ◌≤◌, ◌++◌, ℕ, zero, suc, Bool, true, false, List, Option, [], Some, None, ap, ap₂, arith, codes, inl, inr, refl, subst, sym}
use Rattle.std.specs.FinMap.{get}
use Rattle.std.specs.Option.{option_map}
use Rattle.std.specs.Prelude.{is_some, slice_get}
use Rattle.std.proofs.lemmas.Option.{slice_get-map}
use Rattle.sf_base.proofs.Options.{some-none, some-once, some-or_none}
use Rattle.sf_base.specs.declared.ids.ProcId.{ProcId}
use Rattle.sf_calls.specs.FirstBreach.{Conditions}
use Rattle.sf_core.specs.Machine.Alone.{Alone, AloneFrom, Outcome, finished, spent, waiting}
use Rattle.sf_core.specs.Machine.Config.{Config}
use Rattle.sf_core.specs.Machine.SpentSteps.{SpentSteps}
use Rattle.sf_core.specs.Machine.SpentWaits.{SpentWaits}
use Rattle.sf_core.specs.Machine.Start.{Beginning, BeginsWith, settled, fresh as fresh_with, initial_config}
use Rattle.sf_core.specs.Machine.Step.{procedure_at}
use Rattle.sf_core.proofs.Inits.{sets_up-is}
use Rattle.sf_core.specs.Machine.Supplies.{units}
use Rattle.sf_core.specs.Program.Formed.{IsFormed}
use Rattle.sf_core.specs.Program.Syntax.{Procedure, Program}
use Rattle.sf_elab.specs.Checked.Laws.{ElaboratedIsFormed}
use Rattle.sf_foot.specs.declared.vars.Vars.{Vars}
use Rattle.sf_foot.specs.Starting.{IsBeginning, IsFreshFrom, StartsWith, store_of}
use Rattle.sf_heap.specs.Cells.{Cells, FieldValues, cell_of, heap_of}
use Rattle.sf_io.specs.Shelf.{Files}
use Rattle.sf_machine.specs.Beginning.{Begins}
use Rattle.sf_parse.specs.Checked.Laws.{EachFileIsShallow}
use Rattle.sf_run.specs.Checked.Laws.{BasesAreFree, BeginningsAreStarts, BeginningsAreUnique, EndsAreNumbered, SpentRunsHaveUsedAll, StartsHaveOneOutcome, UnitsStayFree, WaitingRunsTryInVain}
use Rattle.sf_run.specs.Checked.Lone.{IsBase, IsFreeFrom}
use Rattle.sf_run.specs.Running.{ComesTo}
use Rattle.sf_run.specs.Sequential.{BeginsSequentially, IsSequentialStart}
use Rattle.sf_state.specs.Starts.{IsStartText}
use Rattle.sf_core.specs.Machine.Sound.{IsSound}
use Rattle.sf_search.specs.Judge.{Judge, Verdict, fails, proof}
use Rattle.sf_search.specs.Checked.Laws.{TakenTagsProve}
use Rattle.sf_sound.specs.Proofs.{ProofsAreSound}
use Rattle.sf_state.specs.Entering.{IsEntry}
use Rattle.sf_state.specs.Checked.Laws.{AreDetermined, EntryExists, StartExists}
use Rattle.sf_cli.proofs.Accepted.{accepted-formed, accepted-judged}
use Rattle.sf_cli.proofs.EndTexts.{end-there}
use Rattle.sf_cli.proofs.OneRun.{StartsAlone}
use Rattle.sf_cli.specs.Answer.{FileAnswer, IsProved, ProgramAnswer, RunAnswer, RunFileAnswer, VerdictAnswer, admitted, admitted_run, entered, no_entry, refused, refused_run, unproved}
use Rattle.sf_cli.specs.FileFault.{Admits}
use Rattle.sf_cli.specs.Checked.Laws.{EachFileHasAnAnswer, EachRunHasAnAnswer, RunsAlone}
use Rattle.sf_cli.specs.Ran.{MayCome, OutcomeAnswer, StateAnswer, ended, no_start, ran, spent_steps, spent_steps_text, spent_waits, spent_waits_text}
use Rattle.sf_cli.specs.Refusals.{refusal_text}
use Rattle.sf_cli.specs.StartRefusals.{start_refusal_text}
use Rattle.sf_words.specs.Words.{Text}

-- what the layers below say of runs
pub record RunAnswers : Type 0 where
  pub files : EachFileHasAnAnswer
  pub shallow : EachFileIsShallow
  pub formed : ElaboratedIsFormed
  pub prove : TakenTagsProve
  pub sound : ProofsAreSound
  pub entries : EntryExists
  pub starts : StartExists
  pub outcomes : StartsHaveOneOutcome
  pub beginnings : BeginningsAreStarts
  pub one : BeginningsAreUnique
  pub ends : EndsAreNumbered
  pub spendings : SpentRunsHaveUsedAll
  pub tries : WaitingRunsTryInVain
  pub bases : BasesAreFree
  pub free : UnitsStayFree

-- ---- the cells at an end

bound-same : (start c : Config) → finished c ≡ finished start → start ≡ c
bound-same start c is = cc

-- after a run by units that are free, some are
bound-units : UnitsStayFree → (p : Program) (count base : ℕ) (start c : Config)
    → AloneFrom p start (units base count) (finished c) → IsFreeFrom base start → (n : ℕ) × IsFreeFrom n c
unfolding UnitsStayFree
bound-units law p zero base start c (inl (e, is)) h = (base, subst (IsFreeFrom base) (bound-same start c is) h)
bound-units law p zero base start c (inr (e, is)) h = absurd (cc)
bound-units law p (suc count) base start c (inl (e, is)) h = (base, subst (IsFreeFrom base) (bound-same start c is) h)
bound-units law p (suc count) base start c (inr (e, inl (r, w, is))) h = absurd (cc)
bound-units law p (suc count) base start c (inr (e, inr (between, step, rest))) h =
    bound-units law p count (suc base) between c rest (law p base start between h step)

-- the locations of cells are below the first unit
bound-cells : (vars : Vars) (heap : Cells) (unit k : ℕ) → IsFreshFrom vars heap unit → unit ≤ k → heap_of heap k ≡ None
bound-cells vars heap unit k fresh above = go (get heap k) refl
  where
    go : (o : Option FieldValues) → get heap k ≡ o → option_map cell_of (get heap k) ≡ None
    go None e = ap (option_map cell_of) e
    go (Some values) e =
        let less : k < unit = fresh.1 k (inl (ap is_some e)) in absurd (omega (arith, less, above))

-- the end of a run has finitely many cells
bound-end : RunAnswers → (p : Program) (f : ProcId) (fresh : Bool) (vars : Vars) (heap : Cells)
    (parts : List (List ℕ)) (unit count : ℕ) (c : Config) → StartsWith p f fresh vars heap parts
    → IsFreshFrom vars heap unit → ComesTo p f fresh vars heap unit count (finished c) → (n : ℕ) × IsFreeFrom n c
unfolding BasesAreFree BeginningsAreStarts
bound-end l p f fresh vars heap parts unit count c starts units comes =
    let (store, start) = l.beginnings p f fresh vars heap parts comes.start starts comes.begins in
    let base : IsBase unit comes.start = record {
      above_start = units.0.0;
      above_cells = λ k above. ap (λ (z : Config). z.common.heap k) start.is ∙ bound-cells vars heap unit k units above;
    } in
    bound-units l.free p count unit comes.start c comes.comes
    (l.bases p f store (heap_of heap) comes.start unit start base)

-- ---- the answer

-- what comes of a run is printed
some-outcome : RunAnswers → (p : Program) (f : ProcId) (g : Procedure) (fresh : Bool) (vars : Vars) (heap : Cells)
    (parts : List (List ℕ)) (unit steps waits : ℕ) (out : Outcome) → StartsWith p f fresh vars heap parts
    → IsFreshFrom vars heap unit → ComesTo p f fresh vars heap unit steps out
    → (text : Text) × (status : ℕ) × OutcomeAnswer p g steps waits out text status
some-outcome l p f g fresh vars heap parts unit steps waits (finished c) starts units comes =
    let bound = bound-end l p f fresh vars heap parts unit steps c starts units comes in
    let end = end-there p g c bound.0 (λ k above. (bound.1 k above).1) in
    (codes "finished\n" ++ end.0, 0, (record { state = end.0; ends = end.1; is = refl }, refl))
some-outcome l p f g fresh vars heap parts unit steps waits spent starts units comes =
    (spent_steps_text [] steps, 6, (refl, refl))
some-outcome l p f g fresh vars heap parts unit steps waits (waiting r) starts units comes =
    (spent_waits_text p [] r waits, 6, (refl, refl))

-- a name that a procedure has is one of a procedure
pub some-procedure : (p : Program) (entry : Text) (f : ProcId) → IsEntry p entry f
    → (g : Procedure) × (procedure_at p f ≡ Some g)
some-procedure p entry f h = elim (some-or_none (slice_get p.procedures f.0)) [
  | inl found ↦ found
  | inr none ↦ absurd (some-none entry (sym h.named.0 ∙ slice_get-map (λ (g : Procedure). g.name) p.procedures f.0
      ∙ ap (option_map (λ (g : Procedure). g.name)) none))
]

-- a start begins with procedures from which no parallel call can be reached, where none can be reached from it
begin-lone : (p : Program) (f : ProcId) (fresh : Bool) (vars : Vars) (heap : Cells) (parts : List (List ℕ))
    → (s : StartsWith p f fresh vars heap parts) → IsSequentialStart p f fresh
    → BeginsSequentially p f (s.starts).beginning
begin-lone p f fresh vars heap parts s n =
    go fresh (s.starts).beginning (subst (IsBeginning p fresh) (sym s.begins) s.kind) n (s.starts).begins
  where
    go : (k : Bool) (b : Beginning) → IsBeginning p k b → IsSequentialStart p f k
        → BeginsWith b p (s.starts).procedure (store_of s.beginning s.procedure vars) (heap_of heap)
        → BeginsSequentially p f b
    go true settled kind n w = absurd kind
    go false (fresh_with m h) kind n w = absurd kind
    go false settled kind n w = n.0
    go true (fresh_with m h) kind n w = (n.0, n.1 refl m (sets_up-is p m h w.0 ∙ w.1))

-- what comes of the one task may come of the tasks
some-come : RunAnswers → (p : Program) (f : ProcId) (g : Procedure) (fresh : Bool) (vars : Vars) (heap : Cells)
    (parts : List (List ℕ)) (unit steps waits : ℕ) (start : Config) (out : Outcome) (text : Text) (status : ℕ)
    → IsFormed p → Conditions p → (s : StartsWith p f fresh vars heap parts) → IsSequentialStart p f fresh
    → start ≡ (s.config) → Begins p f fresh vars heap start → Alone p start unit steps out
    → OutcomeAnswer p g steps waits out text status → MayCome p g start unit steps waits text status
unfolding EndsAreNumbered SpentRunsHaveUsedAll WaitingRunsTryInVain
some-come l p f g fresh vars heap parts unit steps waits start (finished c) text status formed conditions s n is b a said =
    let end = l.ends p f fresh vars heap parts start c unit steps n s b a in
    ended end.events c end.numbered end.ended said.0 said.1
some-come l p f g fresh vars heap parts unit steps waits start spent text status formed conditions s n is b a said =
    spent_steps [] steps
    (subst (λ (c : Config). SpentSteps p c unit steps [] steps) (sym is)
    (l.spendings p f (store_of s.beginning s.procedure vars) (heap_of heap) s.config unit steps s.starts
    (begin-lone p f fresh vars heap parts s n) (subst (λ (c : Config). Alone p c unit steps spent) is a))) said.0 said.1
some-come l p f g fresh vars heap parts unit steps waits start (waiting r) text status formed conditions s n is b a said =
    spent_waits [] r
    (subst (λ (c : Config). SpentWaits p c unit steps [] r waits) (sym is)
    (l.tries p f (store_of s.beginning s.procedure vars) (heap_of heap) s.config unit steps r formed conditions s.starts
    (begin-lone p f fresh vars heap parts s n) (subst (λ (c : Config). Alone p c unit steps (waiting r)) is a) waits))
    said.0 said.1

-- a start's configuration is the one in which its procedure begins
begin-there : (p : Program) (f : ProcId) (fresh : Bool) (vars : Vars) (heap : Cells) (parts : List (List ℕ))
    → (s : StartsWith p f fresh vars heap parts) → Begins p f fresh vars heap s.config
begin-there p f fresh vars heap parts s = record {
  procedure = s.procedure;
  there = s.there;
  beginning = s.beginning;
  kind = s.kind;
  is = (s.starts).is
      ∙ ap₂ (λ (b : Beginning) (g : Procedure). initial_config b p f g (store_of s.beginning s.procedure vars)
      (heap_of heap)) s.begins
      (some-once (procedure_at p f) (s.starts).procedure s.procedure (s.starts).there s.there);
}

-- a start has an answer
some-begin : RunAnswers → (p : Program) (f : ProcId) (g : Procedure) (given : Text) (steps waits : ℕ) (vars : Vars)
    (heap : Cells) (parts : List (List ℕ)) (unit : ℕ) (fresh : Bool) → IsFormed p → Conditions p → IsSound p
    → IsSequentialStart p f fresh → slice_get p.procedures f.0 ≡ Some g
    → IsStartText p f g given vars heap parts unit fresh
    → (text : Text) × (status : ℕ) × StateAnswer p f given steps waits text status
unfolding StartsHaveOneOutcome BeginningsAreUnique
some-begin l p f g given steps waits vars heap parts unit fresh formed conditions sound n there start =
    let s = start.starts in
    let one = l.outcomes p f fresh vars heap parts unit steps formed conditions sound n s start.first_unit.0 in
    let said = some-outcome l p f g fresh vars heap parts unit steps waits one.out s start.first_unit.0 one.comes in
    let comes = one.comes in
    let is : comes.start ≡ s.config = l.one p f fresh vars heap comes.start s.config comes.begins
    (begin-there p f fresh vars heap parts s) in (
      said.0,
      said.1,
      ran g vars heap parts unit fresh there start
          (record {
            start = comes.start;
            begins = comes.begins;
            may = some-come l p f g fresh vars heap parts unit steps waits comes.start one.out said.0 said.1 formed conditions
                s n is comes.begins comes.comes said.2;
            alone = λ m. (one.out, comes.comes, said.2);
          }),
    )

-- the text of a state has an answer
some-state : RunAnswers → (p : Program) (entry : Text) (f : ProcId) (given : Text) (steps waits : ℕ) → IsFormed p
    → Conditions p → AreDetermined p → IsSound p → IsEntry p entry f → StartsAlone p f given
    → (text : Text) × (status : ℕ) × StateAnswer p f given steps waits text status
unfolding StartExists
some-state l p entry f given steps waits formed conditions determined sound is one =
    let (g, there) = some-procedure p entry f is in
    elim (l.starts p f g given formed determined there is.free is.other) [
      | inl found ↦
          let (vars, heap, parts, unit, fresh, start) = found in
          some-begin l p f g given steps waits vars heap parts unit fresh formed conditions sound
          (one g vars heap parts unit fresh there start) there start
      | inr fault ↦
          (start_refusal_text fault.0, 5, no_start g fault.0 there fault.1 refl refl)
    ]

-- so has a run of a program that is proved
some-proved : RunAnswers → (files : Files) (p : Program) (entry state_name given : Text) (steps waits : ℕ)
    → files state_name ≡ Some given → IsFormed p → Conditions p → AreDetermined p → IsSound p
    → ((f : ProcId) → IsEntry p entry f → StartsAlone p f given) → IsProved p
    → (text : Text) × (status : ℕ) × RunFileAnswer (Some files) p entry state_name steps waits text status
unfolding EntryExists
some-proved l files p entry state_name given steps waits there formed conditions determined sound one proved =
    elim (l.entries p entry formed) [
      | inr fault ↦ (start_refusal_text fault.0, 5, no_entry fault.0 proved fault.1 refl refl)
      | inl found ↦
          let said = some-state l p entry found.0 given steps waits formed conditions determined sound found.1
          (one found.0 found.1) in
          (said.0, said.1, entered found.0 given (record { proved = proved; is_entry = found.1 }) there said.2)
    ]

-- and so has one of a program with which nothing is wrong
some-admitted : RunAnswers → (files : Files) (bytes : Text) (p : Program) (entry state_name given : Text)
    (steps waits : ℕ) → files state_name ≡ Some given → RunsAlone bytes entry given → Admits bytes p
    → (text : Text) (status : ℕ)
    → ProgramAnswer p text status
    → (said : Text) × (code : ℕ) × RunFileAnswer (Some files) p entry state_name steps waits said code
some-admitted l files bytes p entry state_name given steps waits there one a text status k =
    go k.verdict k.judged k.said
  where
    go : (v : Verdict) → Judge k.setting v → VerdictAnswer p v text status
        → (said : Text) × (code : ℕ) × RunFileAnswer (Some files) p entry state_name steps waits said code
    go (fails f why) j said = (text, status, unproved k said.1)
    go (proof tags) j said =
        let proved : IsProved p = record { setting = k.setting; own = k.own; tags = tags; judged = j } in
        some-proved l files p entry state_name given steps waits there
        (accepted-formed l.shallow l.formed bytes p a.reads) a.conditions a.determined
        (accepted-judged l.shallow l.formed l.prove l.sound bytes p a proved)
        (λ f is g vars heap parts unit fresh at start. one p f g vars heap parts unit fresh a is at start) proved

-- a run has an answer, where the state's file is there and no parallel call can be reached
pub some-run : RunAnswers → EachRunHasAnAnswer
some-run l files bytes entry state_name given steps waits there one =
    let answer = l.files bytes in go answer.0 answer.1 answer.2
  where
    go : (text : Text) (status : ℕ) → FileAnswer bytes text status
        → (said : Text) × (code : ℕ) × RunAnswer (Some files) bytes entry state_name steps waits said code
    go text status (refused r f t s) = (refusal_text r, 3, refused_run r f refl refl)
    go text status (admitted p a k) =
        let said = some-admitted l files bytes p entry state_name given steps waits there one a text status k in
        (said.0, said.1, admitted_run p a said.2)
