-- Where a procedure begins: in the configuration of its start, and in that one alone.
-- Names: `begin-WHAT`.
use Rattle.std.specs.Prelude.{◌≡◌, ℕ, ◌<◌, ◌≤◌, Bool, true, false, List, Some, None, is_some, map, slice_get}
use Rattle.std.specs.Str.{bytes_eq}
use Rattle.std.specs.FinMap.{get}
use Rattle.std.specs.Option.{option_map}
use Rattle.std.proofs.Common.{sym, ap, ap₂, ◌∙◌, refl, subst, inl, inr, arith}
use Rattle.std.proofs.lemmas.Option.{slice_get-map}
use Rattle.sf_base.proofs.Equality.{bytes_eq-self}
use Rattle.sf_base.specs.declared.ids.ProcId.{ProcId}
use Rattle.sf_base.proofs.Options.{some-once, some-or_none}
use Rattle.sf_core.specs.Machine.Config.{Config}
use Rattle.sf_core.specs.Machine.Start.{Beginning, settled, fresh, initial_config, Start}
use Rattle.sf_core.specs.Program.Init.{init_name, sets_up}
use Rattle.sf_core.proofs.Inits.{sets_up-is}
use Rattle.sf_core.specs.Machine.Step.{procedure_at}
use Rattle.sf_core.specs.Program.Syntax.{Procedure, Program}
use Rattle.sf_foot.specs.declared.vars.Vars.{Vars}
use Rattle.sf_foot.specs.Starting.{IsBeginning, IsFreshFrom, StartsWith, store_of}
use Rattle.sf_heap.specs.Cells.{Cells, cell_of, heap_of}
use Rattle.sf_machine.specs.Beginning.{Begins}
use Rattle.sf_core.specs.Program.Named.{IsFirstNamed}
use Rattle.std.proofs.lemmas.Bool.{cases_lt}
use Rattle.sf_run.specs.Checked.Lone.{IsBase}
use Rattle.sf_run.specs.Sequential.{BeginsSequentially, IsSequentialStart}

-- no cell is where no location is mentioned
fresh-none : (vars : Vars) (heap : Cells) (unit : ℕ) → IsFreshFrom vars heap unit → (k : ℕ) → unit ≤ k
    → heap_of heap k ≡ None
fresh-none vars heap unit above k l = elim (some-or_none (get heap k)) [
  | inl (here, e) ↦ absurd (below (above.1 k (inl (ap is_some e))))
  | inr e ↦ ap (option_map cell_of) e
]
  where
    below : k < unit → ⊥
    below h = omega (arith, l, h)

-- one number at most is that of the first name that is this one
first-one : (names : List (List ℕ)) (name : List ℕ) (j k : ℕ) → IsFirstNamed names name (Some j)
    → IsFirstNamed names name (Some k) → j ≡ k
first-one names name j k a b = elim (cases_lt j k) [
  | inl h ↦ absurd (b.1 j h a.0)
  | inr h ↦ elim (cases_lt k j) [
    | inl g ↦ absurd (a.1 k g b.0)
    | inr g ↦ omega (arith, h, g)
  ]
]

-- a run begins in one way
pub kind-one : (p : Program) (is_fresh : Bool) (b c : Beginning) → IsBeginning p is_fresh b → IsBeginning p is_fresh c
    → b ≡ c
kind-one p true settled c k l = absurd k
kind-one p true (fresh n h) settled k l = absurd l
kind-one p true (fresh n h) (fresh m g) k l =
    let same : n.0 ≡ m.0 = first-one (map (λ (f : Procedure). f.name) p.procedures) init_name n.0 m.0 k.1 l.1 in
    let one : h ≡ g =
    some-once (slice_get p.procedures n.0) h g k.0 (ap (slice_get p.procedures) same ∙ l.0) in
    λ i. fresh (record { 0 = same i }) (one i)
kind-one p false (fresh n h) c k l = absurd k
kind-one p false settled settled k l = refl
kind-one p false settled (fresh n h) k l = absurd l

-- so a procedure begins in one configuration at most
pub begin-same : (p : Program) (f : ProcId) (is_fresh : Bool) (vars : Vars) (heap : Cells) (c d : Config)
    → Begins p f is_fresh vars heap c → Begins p f is_fresh vars heap d → c ≡ d
begin-same p f is_fresh vars heap c d a b =
    let same : a.procedure ≡ b.procedure = some-once (procedure_at p f) a.procedure b.procedure a.there b.there in
    a.is ∙ ap₂ (λ (z : Beginning) (g : Procedure). initial_config z p f g (store_of z g vars) (heap_of heap))
    (kind-one p is_fresh a.beginning b.beginning a.kind b.kind) same ∙ sym b.is

-- a procedure of that name sets the resources up
pub named-sets_up : (p : Program) (m : ProcId) (h : Procedure) → slice_get p.procedures m.0 ≡ Some h
    → slice_get (map (λ g. g.name) p.procedures) m.0 ≡ Some init_name → sets_up p m ≡ true
named-sets_up p m h there named =
    let same : h.name ≡ init_name = some-once (slice_get (map (λ (g : Procedure). g.name) p.procedures) m.0) h.name
    init_name (slice_get-map (λ (g : Procedure). g.name) p.procedures m.0
    ∙ ap (option_map (λ (g : Procedure). g.name)) there) named in
    sets_up-is p m h there ∙ ap (λ n. bytes_eq n init_name) same ∙ bytes_eq-self init_name

module _ (p : Program) (f : ProcId) (is_fresh : Bool) (vars : Vars) (heap : Cells) (parts : List (List ℕ))
    (s : StartsWith p f is_fresh vars heap parts) where
  -- the start's procedure is the one of that number
  starting : s.procedure ≡ (s.starts).procedure
  starting = some-once (procedure_at p f) s.procedure (s.starts).procedure s.there (s.starts).there

  -- its configuration is where the procedure begins
  config-is : s.config ≡ initial_config s.beginning p f s.procedure (store_of s.beginning s.procedure vars) (heap_of heap)
  config-is = (s.starts).is
      ∙ ap₂ (λ (b : Beginning) (g : Procedure). initial_config b p f g (store_of s.beginning s.procedure vars)
      (heap_of heap)) s.begins (sym starting)

  pub begin-start : Begins p f is_fresh vars heap s.config
  begin-start = record {
    procedure = s.procedure;
    there = s.there;
    beginning = s.beginning;
    kind = s.kind;
    is = config-is;
  }

  -- and it begins nowhere else
  pub begin-one : (c : Config) → Begins p f is_fresh vars heap c → c ≡ s.config
  begin-one c b =
      let same : b.procedure ≡ s.procedure =
      some-once (procedure_at p f) b.procedure s.procedure b.there s.there in
      b.is ∙ ap₂ (λ (z : Beginning) (g : Procedure). initial_config z p f g (store_of z g vars) (heap_of heap))
      (kind-one p is_fresh b.beginning s.beginning b.kind s.kind) same ∙ sym config-is

  -- so where it begins is a start
  pub begin-starts : (c : Config) → Begins p f is_fresh vars heap c
      → Start p f (store_of s.beginning s.procedure vars) (heap_of heap) c
  begin-starts c b =
      subst (Start p f (store_of s.beginning s.procedure vars) (heap_of heap)) (sym (begin-one c b)) s.starts

  -- from which no parallel call can be reached, where none can from the procedures that run
  pub begin-sequential : IsSequentialStart p f is_fresh → BeginsSequentially p f (s.starts).beginning
  begin-sequential n = subst (BeginsSequentially p f) (sym s.begins) (go is_fresh s.beginning s.kind n)
    where
      go : (k : Bool) (b : Beginning) → IsBeginning p k b → IsSequentialStart p f k → BeginsSequentially p f b
      go true settled kind n = absurd kind
      go false (fresh m h) kind n = absurd kind
      go false settled kind n = n.0
      go true (fresh m h) kind n = (n.0, n.1 refl m (named-sets_up p m h kind.0 kind.1.0))

  -- units may begin where no location is mentioned
  pub begin-base : (unit : ℕ) → IsFreshFrom vars heap unit → IsBase unit s.config
  begin-base unit above = record {
    above_start = (above.0).0;
    above_cells = λ k l. ap (λ (z : Config). z.common.heap k) (s.starts).is ∙ fresh-none vars heap unit above k l;
  }
