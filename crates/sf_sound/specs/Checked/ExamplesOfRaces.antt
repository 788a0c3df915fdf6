-- Examples of races: two tasks that write one cell, and two that write one variable.
-- Races are those of O'Hearn, "Resources, Concurrency and Local Reasoning" (2007).
use Rattle.std.specs.Prelude.{List, [], ◌∷◌, codes, Some, None}
use Rattle.std.specs.List.{All}
use Rattle.sf_base.specs.declared.ids.ProcId.{ProcId}
use Rattle.sf_base.specs.declared.ids.Var.TheVariants.{Own}
use Rattle.sf_base.specs.declared.path.Turn.TheVariants.{Left as left, Right as right}
use Rattle.sf_base.specs.declared.value.Value.{Value}
use Rattle.sf_base.specs.declared.value.Value.TheVariants.{Loc as loc}
use Rattle.sf_base.specs.HeapStore.{Cell, Heap, Store, own}
use Rattle.sf_calls.specs.declared.breach.Breach.TheVariants.{ParallelShares}
use Rattle.sf_calls.specs.FirstBreach.{Conditions, FirstBreach}
use Rattle.sf_core.specs.Assertions.Determined.{Determined}
use Rattle.sf_core.specs.Checked.Assertions.Examples.{tl}
use Rattle.sf_core.specs.declared.command.Expr.TheVariants.{Nil}
use Rattle.sf_core.specs.Machine.Bad.{Bad}
use Rattle.sf_core.specs.Machine.Config.{Config, Task}
use Rattle.sf_core.specs.Machine.Enabled.{IsEnabled, Thing, cell, variable, Writes}
use Rattle.sf_core.specs.Checked.Machine.Examples.{at_own, calls, emp, event, here, one_at, one_cell, one_in, own_one, procedure}
use Rattle.sf_core.specs.Machine.Next.{next}
use Rattle.sf_core.specs.Machine.Reach.{Reach}
use Rattle.sf_core.specs.Machine.Start.{Start}
use Rattle.sf_core.specs.Program.Formed.{IsFormed}
use Rattle.sf_core.specs.Program.Syntax.{assign, done, fork, mutate, then, Call, Procedure, Program}
use Rattle.sf_precise.specs.Annotations.{annotations_in}
use Rattle.sf_rules.specs.Proving.{Proves}
use Rattle.sf_rules.specs.Setting.{IsSettingOf, Setting}
use Rattle.sf_core.specs.Machine.Sound.{IsSound}
use Rattle.sf_sym.specs.declared.tag.Tag.{Tag}
use Rattle.sf_sym.specs.declared.tag.Tag.TheVariants as t

-- procedure f starts with that store and that heap, and its first event, a fork, leads to a race:
-- both children are about to write that
pub record RacesAtFork (p : Program) (f : ProcId) (store : Store) (heap : Heap) (thing : Thing)
    : Type 0 where
  pub start : Config
  pub starts : Start p f store heap start
  pub forked : Config
  pub forks : Reach p start (event [] 1 ∷ []) forked
  pub one : Task
  pub one_enabled : IsEnabled forked (left ∷ []) one
  pub one_writes : Writes forked.common.store (next one) thing
  pub other : Task
  pub other_enabled : IsEnabled forked (right ∷ []) other
  pub other_writes : Writes forked.common.store (next other) thing
  pub bad : Bad forked

-- w(x) [] { x->tl = nil; } []
abbrev pub writes : Procedure
writes =
    record (procedure (codes "x" ∷ []) 0 1 emp (then (mutate here (own_one 0) tl Nil) done))
    { name = codes "w" }

-- w(x)
abbrev pub write_x : Call
write_x = calls 0 (own_one 0 ∷ [])

-- m(x) [x |->] { w(x) || w(x); } [x |->]
abbrev pub writes_twice : Procedure
writes_twice =
    record (procedure (codes "x" ∷ []) 0 1 one_cell (then (fork here write_x write_x) done))
    { name = codes "m" }

-- w and m, with no resource
abbrev pub writers : Program
writers = record {
  fields = codes "tl" ∷ [];
  resources = [];
  procedures = writes ∷ writes_twice ∷ [];
}

-- it keeps what the theorem asks of a program. But m, from a start with one cell at location 1,
-- forks two tasks that are about to write that cell, which is bad: so it isn't sound, and no tags
-- prove it
pub record WritersHaveNoProof : Type 0 where
  pub formed : IsFormed writers
  pub conditions : Conditions writers
  pub determined : All (λ a. Determined a.level) (annotations_in writers)
  pub setting : Setting
  pub own_setting : IsSettingOf writers setting
  pub races : (k : Cell)
      → RacesAtFork writers (record { 0 = 1 }) (one_in (loc 1)) (one_at k) (cell 1)
  pub unsound : ¬ (IsSound writers)
  pub unproved : (d : Setting) (tags : List Tag) → IsSettingOf writers d → ¬ (Proves d tags)

-- f(x;) [] { x = nil; } []
abbrev pub sets : Procedure
sets = procedure (codes "x" ∷ []) 1 0 emp (then (assign here (at_own 0) Nil) done)

-- g, which is the same
abbrev pub sets_too : Procedure
sets_too = record sets { name = codes "g" }

-- a call of the procedure of that number with x as its reference
abbrev pub passes_x : ProcId → Call
passes_x f = record { callee = f; place = here; references = at_own 0 ∷ []; values = [] }

-- p(x;) [] { f(x;) || g(x;); } []
abbrev pub sets_twice : Procedure
sets_twice =
    record (procedure (codes "x" ∷ []) 1 0 emp
    (then (fork here (passes_x (record { 0 = 0 })) (passes_x (record { 0 = 1 }))) done))
    { name = codes "p" }

-- f, g and p, with no resource
abbrev pub shared_writers : Program
shared_writers = record {
  fields = [];
  resources = [];
  procedures = sets ∷ sets_too ∷ sets_twice ∷ [];
}

-- tags that prove it
abbrev pub shared_writers_tags : List Tag
shared_writers_tags =
    t.Procedure (record { 0 = 0 }) ∷ t.Assign ∷ t.Return ∷ t.End
    ∷ t.Procedure (record { 0 = 1 }) ∷ t.Assign ∷ t.Return ∷ t.End
    ∷ t.Procedure (record { 0 = 2 }) ∷ t.Fork ∷ t.Give ∷ t.Return ∷ t.End ∷ []

-- it keeps what the theorem asks of a program but the conditions on variables, since the parallel
-- calls of p share x; and tags prove it. But p, whatever x is at the start, forks two tasks that
-- are about to write x, which is bad: so it isn't sound
pub record SharedWritersRace : Type 0 where
  pub formed : IsFormed shared_writers
  pub determined : All (λ a. Determined a.level) (annotations_in shared_writers)
  pub setting : Setting
  pub own_setting : IsSettingOf shared_writers setting
  pub proves : Proves setting shared_writers_tags
  pub breach : FirstBreach shared_writers (Some (record { 0 = 2 }, ParallelShares here (Own 0)))
  pub refused : ¬ (Conditions shared_writers)
  pub races : (v : Value)
      → RacesAtFork shared_writers (record { 0 = 2 }) (one_in v) (λ location. None)
      (variable (own 0 0))
  pub unsound : ¬ (IsSound shared_writers)
