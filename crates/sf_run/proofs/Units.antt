-- That the units of a run are new: no number from the next one on is used, and no cell is at it.
-- Names: `WHAT-free`.
use Rattle.std.specs.Prelude.{◌≡◌, ◌≢◌, ℕ, suc, ◌≤◌, cond, List, Some, None}
use Rattle.std.proofs.Common.{sym, ap, ◌∙◌, arith}
use Rattle.sf_base.proofs.HeapSplits.{at-other}
use Rattle.sf_base.proofs.Options.{some-none}
use Rattle.sf_base.specs.declared.ids.ProcId.{ProcId}
use Rattle.sf_base.specs.HeapStore.{Cell, Heap, Store}
use Rattle.sf_core.specs.Machine.Alone.{event_alone}
use Rattle.sf_core.specs.Machine.Config.{Item, Fixed, Frame, Task, Common, Config}
use Rattle.sf_core.specs.Machine.Next.{Next, does, leaves, returns, joins, nothing, next}
use Rattle.sf_core.specs.Machine.Start.{Start}
use Rattle.sf_core.specs.Machine.Step.{Event, set_cell, Does, Goes, Step}
use Rattle.sf_core.specs.Program.Syntax.{Command, assign, look_up, mutate, new, dispose, if, while, call, fork, with, Program}
use Rattle.sf_core.proofs.Machine.Runs.{adds-other}
use Rattle.sf_run.specs.Checked.Lone.{IsFreeFrom, IsBase}

-- a cell that is written elsewhere leaves a location absent
cell-free : (location k : ℕ) (o : _) (s : Common) → k ≢ location → s.heap k ≡ None
    → (set_cell location o s).heap k ≡ None
cell-free location k o s n e = ap (λ b. cond b o (s.heap k)) (at-other location k n) ∙ e

-- where a cell is, is another location
cell-not_free : (s : Common) (location k : ℕ) (here : Cell) → s.heap location ≡ Some here → s.heap k ≡ None
    → k ≢ location
cell-not_free s location k here there e same = some-none here (sym there ∙ ap s.heap (sym same) ∙ e)

module _ (p : Program) (ev : Event) (s t : Common) (k : ℕ) (other : k ≢ ev.at) (free : s.heap k ≡ None) where
  -- an absent location stays so, but for that of a `new`
  does-free : (f : Fixed) (below : List Frame) (c : Command) (rest : List Item) (u : Task)
      → Does p ev s f below c rest t u → t.heap k ≡ None
  does-free f below (assign place x e) rest u d = ap (λ (z : Common). z.heap k) d.0 ∙ free
  does-free f below (look_up place x e field) rest u d = ap (λ (z : Common). z.heap k) d.3 ∙ free
  does-free f below (mutate place e field v) rest u d = ap (λ (z : Common). z.heap k) d.3
      ∙ cell-free d.0 k _ s (cell-not_free s d.0 k d.1 (d.2).there free) free
  does-free f below (new place x) rest u d = ap (λ (z : Common). z.heap k) d.2
      ∙ cell-free ev.at k _ s other free
  does-free f below (dispose place e) rest u d = ap (λ (z : Common). z.heap k) d.3
      ∙ cell-free d.0 k _ s (cell-not_free s d.0 k d.1 (d.2).there free) free
  does-free f below (if place test this that) rest u d = ap (λ (z : Common). z.heap k) d.0 ∙ free
  does-free f below (while place test kept body) rest u d = ap (λ (z : Common). z.heap k) d.0 ∙ free
  does-free f below (call place c) rest u d = ap (λ (z : Common). z.heap k) d.2 ∙ free
  does-free f below (fork place c d) rest u h = ap (λ (z : Common). z.heap k) h.5 ∙ free
  does-free f below (with place r test body) rest u d = ap (λ (z : Common). z.heap k) d.2 ∙ free

  goes-free : (n : Next) (u : Task) → Goes p ev s n t u → t.heap k ≡ None
  goes-free (does f below c rest) u d = does-free f below c rest u d
  goes-free (leaves f below r rest) u d = ap (λ (z : Common). z.heap k) d.1 ∙ free
  goes-free (returns f below) u d = ap (λ (z : Common). z.heap k) d.1 ∙ free
  goes-free (joins frames one two) u d = ap (λ (z : Common). z.heap k) d.2 ∙ free
  goes-free nothing u d = absurd d

-- an event takes its unit, and no other
pub step-free : (p : Program) (unit : ℕ) (c d : Config) → IsFreeFrom unit c → Step p (event_alone unit) c d
    → IsFreeFrom (suc unit) d
step-free p unit c d h s k l =
    let above : unit ≤ k = omega (arith, l) in
    let other : k ≢ unit = λ e. omega (arith, l, e) in
    let was = h k above in (
      ap (λ z. z k) s.used ∙ adds-other k unit c.used other was.0,
      goes-free p (event_alone unit) c.common d.common k other was.1 (next s.from) s.to s.steps,
    )

-- at a start all from the base on are free
pub start-free : (p : Program) (f : ProcId) (store : Store) (heap : Heap) (start : Config) (base : ℕ)
    → Start p f store heap start → IsBase base start → IsFreeFrom base start
start-free p f store heap start base s b k l =
    let positive : 0 ≢ base = λ e. omega (arith, e, b.above_start) in
    let other : k ≢ 0 = λ e. omega (arith, e, l, b.above_start) in (
      ap (λ (z : Config). z.used k) s.is ∙ at-other 0 k other,
      b.above_cells k l,
    )
