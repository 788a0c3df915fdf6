-- A run has at most one answer over the same files: its verdict, its entry, its start and what comes of that are each
-- determined, and no two of its refusals meet.
-- Names: run-*.
use Rattle.std.proofs.Common.{◌≡◌, ◌∙◌, ◌==◌, ◌&&◌, ◌++◌, ℕ, zero, suc, Bool, [], ◌∷◌, List, Option, Some, None, ap, arith, codes, cond, inl, inr, map, refl, subst, sym}
use Rattle.std.specs.Prelude.{Vec, nat_lt, slice_get, slice_index_or}
use Rattle.std.specs.declared.alloc.Global.{Global}
use Rattle.sf_base.proofs.Options.{some-once}
use Rattle.sf_base.specs.HeapStore.{Slot, own, shared}
use Rattle.sf_base.specs.declared.ids.ProcId.{ProcId}
use Rattle.sf_base.specs.declared.value.Value.{Value}
use Rattle.sf_base.specs.declared.value.Value.TheVariants.{Nil as nil}
use Rattle.sf_core.specs.Machine.Alone.{Outcome, finished, spent, waiting, Alone}
use Rattle.sf_core.specs.Machine.Config.{Config}
use Rattle.sf_core.specs.Machine.Start.{Beginning, first_count, initial_config}
use Rattle.sf_core.specs.Machine.Step.{procedure_at}
use Rattle.sf_core.specs.Program.Syntax.{Procedure, Program}
use Rattle.sf_foot.specs.declared.vars.Vars.{Vars}
use Rattle.sf_foot.specs.Starting.{store_of}
use Rattle.sf_foot.specs.Variables.{values_or_none}
use Rattle.sf_heap.specs.Cells.{Cells, heap_of}
use Rattle.sf_io.specs.Shelf.{Files}
use Rattle.sf_rules.specs.Checked.LawsOfSettings.{SettingIsUnique}
use Rattle.sf_rules.specs.Setting.{Setting}
use Rattle.sf_machine.specs.Beginning.{Begins}
use Rattle.sf_run.specs.Checked.Laws.{BeginningsAreUnique, OutcomesAreUnique}
use Rattle.sf_run.specs.Running.{ComesTo}
use Rattle.sf_run.specs.Sequential.{IsSequentialStart}
use Rattle.sf_search.specs.Judge.{Judge, Verdict, proof}
use Rattle.sf_search.specs.Checked.Laws.{VerdictsAreUnique}
use Rattle.sf_state.specs.Entering.{IsEntry}
use Rattle.sf_state.specs.Checked.Laws.{AreDetermined, EntryIsUnique, SameVars, StartIsUnique}
use Rattle.sf_state.specs.Starts.{IsStartFault, IsStartText}
use Rattle.sf_state.specs.declared.fault.StartFault.{StartFault}
use Rattle.sf_cli.proofs.EndTexts.{end-once}
use Rattle.sf_cli.proofs.OneAnswer.{VerdictLayers, answer-program}
use Rattle.sf_cli.specs.Answer.{IsProved, ProgramAnswer, RunFileAnswer, VerdictAnswer, admitted_run, entered, no_entry, refused_run, unproved}
use Rattle.sf_cli.specs.Checked.Laws.{EachRunHasOneAnswer, IsOfTasks}
use Rattle.sf_cli.specs.Ran.{BeginAnswer, MayCome, OutcomeAnswer, StateAnswer, ended, no_start, ran, spent_steps, spent_waits}
use Rattle.sf_cli.specs.Refusals.{refusal_text}
use Rattle.sf_cli.specs.StartRefusals.{start_refusal_text}
use Rattle.sf_words.specs.Words.{Text}

-- what the layers below say of runs
pub record RunLayers : Type 0 where
  pub verdicts : VerdictLayers
  pub entries : EntryIsUnique
  pub starts : StartIsUnique
  pub beginnings : BeginningsAreUnique
  pub outcomes : OutcomesAreUnique

-- ---- the configuration in which a run begins

-- the row of that number, none where it isn't there
run-found : Option (List Value) → List Value
run-found None = []
run-found (Some vs) = vs

run-mapped : (rows : List (Vec Value Global)) (k : ℕ) → values_or_none (slice_get rows k)
    ≡ run-found (slice_get (map (λ (vs : Vec Value Global). vs.items) rows) k)
unfolding run-found
run-mapped [] k = refl
run-mapped (r ∷ rows) zero = refl
run-mapped (r ∷ rows) (suc k) = run-mapped rows k

-- rows of the same values have the same at each number
run-rows : (one other : List (Vec Value Global)) → map (λ (vs : Vec Value Global). vs.items) one
    ≡ map (λ (vs : Vec Value Global). vs.items) other → (k : ℕ)
    → values_or_none (slice_get one k) ≡ values_or_none (slice_get other k)
run-rows one other e k =
    run-mapped one k ∙ ap (λ (rows : List (List Value)). run-found (slice_get rows k)) e ∙ sym (run-mapped other k)

-- the same values of variables are the same store
run-slot : (b : Beginning) (g : Procedure) (v w : Vars) → SameVars v w → (slot : Slot)
    → store_of b g v slot ≡ store_of b g w slot
run-slot b g v w s (own event i) =
    ap (λ (vs : List Value). cond ((event == 0) && nat_lt i (first_count b g)) (Some (slice_index_or vs i nil)) None) s.own
run-slot b g v w s (shared r i) =
    ap (λ (vs : List Value). slice_get vs i) (run-rows v.shared.items w.shared.items s.shared r.0)

-- so a run begins with them as with the others
pub run-begins : (p : Program) (f : ProcId) (fresh : Bool) (v w : Vars) (h : Cells) (c : Config) → SameVars v w
    → Begins p f fresh v h c → Begins p f fresh w h c
run-begins p f fresh v w h c s b = record {
  procedure = b.procedure;
  there = b.there;
  beginning = b.beginning;
  kind = b.kind;
  is = b.is ∙ ap (λ store. initial_config b.beginning p f b.procedure store (heap_of h)) stores;
}
  where
    stores : store_of b.beginning b.procedure v ≡ store_of b.beginning b.procedure w
    stores = λ i slot. run-slot b.beginning b.procedure v w s slot i

-- runs from the same variables and cells come to the same
run-comes : BeginningsAreUnique → OutcomesAreUnique → (p : Program) (f : ProcId) (m n : Bool) (v w : Vars)
    (h k : Cells) (t u count : ℕ) (one other : Outcome) → SameVars v w → h ≡ k → t ≡ u → m ≡ n
    → ComesTo p f m v h t count one → ComesTo p f n w k u count other → one ≡ other
unfolding BeginningsAreUnique OutcomesAreUnique
run-comes begins law p f m n v w h k t u count one other s c e same a b =
    law p a.start t count one other a.comes
    (subst (λ (start : Config). Alone p start t count other) (sym starts)
    (subst (λ (z : ℕ). Alone p b.start z count other) (sym e) b.comes))
  where
    moved : Begins p f n w k a.start
    moved = subst (λ (z : Bool). Begins p f z w k a.start) same
        (subst (λ (cells : Cells). Begins p f m w cells a.start) c (run-begins p f m v w h a.start s a.begins))

    starts : a.start ≡ b.start
    starts = begins p f n w k a.start b.start moved b.begins

-- what comes of a run is printed in one way
run-printed : (p : Program) (g : Procedure) (steps waits : ℕ) (one : Outcome) (text other : Text) (status code : ℕ)
    → OutcomeAnswer p g steps waits one text status → OutcomeAnswer p g steps waits one other code
    → (text ≡ other) × (status ≡ code)
run-printed p g steps waits (finished c) text other status code x y = (
  x.0.is ∙ ap (λ (state : Text). codes "finished\n" ++ state) (end-once p g c x.0.state y.0.state x.0.ends y.0.ends)
      ∙ sym y.0.is,
  x.1 ∙ sym y.1,
)
run-printed p g steps waits spent text other status code x y = (x.0 ∙ sym y.0, x.1 ∙ sym y.1)
run-printed p g steps waits (waiting r) text other status code x y = (x.0 ∙ sym y.0, x.1 ∙ sym y.1)

-- ---- answers

-- a text that is refused is no start
run-apart : RunLayers → (p : Program) (f : ProcId) (g h : Procedure) (given : Text) (vars : Vars) (heap : Cells)
    (parts : List (List ℕ)) (unit : ℕ) (fresh : Bool) (e : StartFault) → AreDetermined p → procedure_at p f ≡ Some g
    → procedure_at p f ≡ Some h → IsStartText p f h given vars heap parts unit fresh → IsStartFault p g given e → ⊥
unfolding StartIsUnique
run-apart l p f g h given vars heap parts unit fresh e d there at y x =
    let same : h ≡ g = some-once (procedure_at p f) h g at there in
    (l.starts p f g given d there).apart vars heap parts unit fresh e
    (subst (λ (z : Procedure). IsStartText p f z given vars heap parts unit fresh) same y) x

-- what comes of tasks has such a status
run-status : (p : Program) (g : Procedure) (start : Config) (base steps waits : ℕ) (text : Text) (status : ℕ)
    → MayCome p g start base steps waits text status → IsOfTasks status
run-status p g start base steps waits text status (ended events last n h is z) = inl z
run-status p g start base steps waits text status (spent_steps path used s t six) = inr six
run-status p g start base steps waits text status (spent_waits path r w t six) = inr six

-- where no parallel call can be reached, one thing is said of a start
run-begun : RunLayers → (p : Program) (f : ProcId) (g : Procedure) (m n : Bool) (v w : Vars) (h k : Cells)
    (t u steps waits : ℕ) (text other : Text) (status code : ℕ) → SameVars v w → h ≡ k → t ≡ u → m ≡ n
    → IsSequentialStart p f m → BeginAnswer p f g m v h t steps waits text status
    → BeginAnswer p f g n w k u steps waits other code → (text ≡ other) × (status ≡ code)
run-begun l p f g m n v w h k t u steps waits text other status code s c e same one a b =
    let (out, comes, said) = a.alone one in
    let (end, leads, told) = b.alone (subst (IsSequentialStart p f) same one) in
    let outcome : end ≡ out = sym (run-comes l.beginnings l.outcomes p f m n v w h k t u steps out end s c e same
    (record { start = a.start; begins = a.begins; comes = comes })
    (record { start = b.start; begins = b.begins; comes = leads })) in
    run-printed p g steps waits out text other status code said
    (subst (λ (z : Outcome). OutcomeAnswer p g steps waits z other code) outcome told)

-- no parallel call can be reached from a start that the text of a state gives
abbrev pub StartsAlone : Program → ProcId → (given : Text) → Type 0
StartsAlone p f given = (g : Procedure) (vars : Vars) (heap : Cells) (parts : List (List ℕ)) (unit : ℕ) (fresh : Bool)
    → procedure_at p f ≡ Some g → IsStartText p f g given vars heap parts unit fresh → IsSequentialStart p f fresh

-- the text of a state has one answer
run-state : RunLayers → (p : Program) (f : ProcId) (given : Text) (steps waits : ℕ) (text other : Text)
    (status code : ℕ) → AreDetermined p → (IsOfTasks status → StartsAlone p f given)
    → StateAnswer p f given steps waits text status
    → StateAnswer p f given steps waits other code → (text ≡ other) × (status ≡ code)
unfolding StartIsUnique
run-state l p f given steps waits text other status code d one (no_start g e there x t s) (no_start h q at y u v) =
    let same : h ≡ g = some-once (procedure_at p f) h g at there in
    let once = l.starts p f g given d there in (
      t ∙ ap start_refusal_text (once.faults e q x (subst (λ (z : Procedure). IsStartFault p z given q) same y)) ∙ sym u,
      s ∙ sym v,
    )
run-state l p f given steps waits text other status code d one (no_start g e there x t s)
    (ran h vars heap parts unit fresh at y k) =
    absurd (run-apart l p f g h given vars heap parts unit fresh e d there at y x)
run-state l p f given steps waits text other status code d one
    (ran g vars heap parts unit fresh there x k) (no_start h e at y u v) =
    absurd (run-apart l p f h g given vars heap parts unit fresh e d at there x y)
run-state l p f given steps waits text other status code d one
    (ran g vars heap parts unit fresh there x k) (ran h others more rest first anew at y m) =
    let same : h ≡ g = some-once (procedure_at p f) h g at there in
    let moved : IsStartText p f g given others more rest first anew =
    subst (λ (z : Procedure). IsStartText p f z given others more rest first anew) same y in
    let once = l.starts p f g given d there in
    run-begun l p f g fresh anew vars others heap more unit first steps waits text other status code
    (once.variables vars others heap more parts rest unit first fresh anew x moved)
    (once.cells vars others heap more parts rest unit first fresh anew x moved)
    (once.unit vars others heap more parts rest unit first fresh anew x moved)
    (once.fresh vars others heap more parts rest unit first fresh anew x moved)
    (one (run-status p g k.start unit steps waits text status k.may) g vars heap parts unit fresh there x) k
    (subst (λ (z : Procedure). BeginAnswer p f z anew others more first steps waits other code) same m)

-- a program that is proved has no other verdict
run-proved : VerdictLayers → (p : Program) (text : Text) (status : ℕ) → status ≡ 1 → IsProved p
    → ProgramAnswer p text status → ⊥
unfolding SettingIsUnique VerdictsAreUnique
run-proved l p text status one i a =
    let same : a.setting ≡ i.setting = l.settings p a.setting i.setting a.own i.own in
    let verdict : a.verdict ≡ proof i.tags = l.verdicts i.setting a.verdict (proof i.tags)
    (subst (λ (d : Setting). Judge d a.verdict) same a.judged) i.judged in
    let said = subst (λ (v : Verdict). VerdictAnswer p v text status) verdict a.said in
    let none : status ≡ 0 = said.1 in absurd (omega (arith, none, one))

-- a run of a program with which nothing is wrong has one answer
run-file : RunLayers → (files : Files) (p : Program) (entry state_name text other : Text) (steps waits status code : ℕ)
    → AreDetermined p
    → (IsOfTasks status → (f : ProcId) (given : Text) → IsEntry p entry f → files state_name ≡ Some given
    → StartsAlone p f given)
    → RunFileAnswer (Some files) p entry state_name steps waits text status
    → RunFileAnswer (Some files) p entry state_name steps waits other code → (text ≡ other) × (status ≡ code)
unfolding EntryIsUnique
run-file l files p entry state_name text other steps waits status code d one (unproved a s) (unproved b v) =
    answer-program l.verdicts p text other status code a b
run-file l files p entry state_name text other steps waits status code d one (unproved a s) (no_entry e i x u v) =
    absurd (run-proved l.verdicts p text status s i a)
run-file l files p entry state_name text other steps waits status code d one (unproved a s) (entered f given i may k) =
    absurd (run-proved l.verdicts p text status s i.proved a)
run-file l files p entry state_name text other steps waits status code d one (no_entry e i x t s) (unproved b v) =
    absurd (run-proved l.verdicts p other code v i b)
run-file l files p entry state_name text other steps waits status code d one (no_entry e i x t s)
    (no_entry q j y u v) =
    (t ∙ ap start_refusal_text ((l.entries p entry).faults e q x y) ∙ sym u, s ∙ sym v)
run-file l files p entry state_name text other steps waits status code d one (no_entry e i x t s)
    (entered g given j may k) =
    absurd ((l.entries p entry).apart g e j.is_entry x)
run-file l files p entry state_name text other steps waits status code d one (entered f given i may k)
    (unproved b v) =
    absurd (run-proved l.verdicts p other code v i.proved b)
run-file l files p entry state_name text other steps waits status code d one (entered f given i may k)
    (no_entry e j y u v) =
    absurd ((l.entries p entry).apart f e i.is_entry y)
run-file l files p entry state_name text other steps waits status code d one (entered f given i may k)
    (entered g found j has m) =
    let same : g ≡ f = (l.entries p entry).entries g f j.is_entry i.is_entry in
    let read : found ≡ given = some-once (files state_name) found given has may in
    run-state l p f given steps waits text other status code d (λ of. one of f given i.is_entry may) k
    (subst (λ (z : ProcId). StateAnswer p z given steps waits other code) same
    (subst (λ (z : Text). StateAnswer p g z steps waits other code) read m))

-- so has one of a file's program
pub run-once : RunLayers → EachRunHasOneAnswer
run-once l files bytes entry state_name text other steps waits status code one (refused_run r f t s)
    (refused_run q g u v) =
    (t ∙ ap refusal_text ((l.verdicts.files bytes).causes r q f g) ∙ sym u, s ∙ sym v)
run-once l files bytes entry state_name text other steps waits status code one (refused_run r f t s)
    (admitted_run p a k) =
    absurd ((l.verdicts.files bytes).apart p r a f)
run-once l files bytes entry state_name text other steps waits status code one (admitted_run p a k)
    (refused_run r f t s) =
    absurd ((l.verdicts.files bytes).apart p r a f)
run-once l files bytes entry state_name text other steps waits status code one (admitted_run p a k)
    (admitted_run q b m) =
    let program : q ≡ p = (l.verdicts.files bytes).programs q p b a in
    run-file l files p entry state_name text other steps waits status code a.determined
    (λ of f given i may g vars heap parts unit fresh there x.
    one of given may p f g vars heap parts unit fresh a i there x) k
    (subst (λ (z : Program). RunFileAnswer (Some files) z entry state_name steps waits other code) program m)
