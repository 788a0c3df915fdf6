-- First: the part with which a procedure starts, with all its units, and the contents of the
-- resources beside it.
-- O'Hearn (2007): at the start of a program each resource has its own cells apart from those of the
-- program's task.
use Rattle.std.specs.Prelude.{◌≡◌, ◌<◌, ℕ, Bool, false, ltb, List, [], ◌∷◌, length, map, Some}
use Rattle.std.specs.List.{AllByRecursion}
use Rattle.sf_base.specs.declared.ids.ProcId.{ProcId}
use Rattle.sf_base.specs.declared.ids.ResId.{ResId}
use Rattle.sf_base.specs.HeapStore.{Cell, Heap, Store}
use Rattle.sf_core.specs.Machine.Start.{Beginning, settled, fresh, first_frames}
use Rattle.sf_core.specs.Machine.Whole.{running, Content, IsUnion}
use Rattle.sf_core.specs.Program.Syntax.{Procedure, Program}
use Rattle.sf_part.specs.Steps.{AreFrom}
use Rattle.sf_part.specs.Timed.{TimedPart, TimedContent, contents_of}

-- which resources the part holds then: none, or all of the program where they are still to be set
-- up
abbrev pub first_holds : Beginning → Program → ResId → Bool
first_holds settled p r = false
first_holds (fresh n h) p r = ltb r.0 (length p.resources)

-- how many contents there are then: one for each resource, or none where they are still to be set
-- up
abbrev pub first_count : Beginning → Program → ℕ
first_count settled p = length p.resources
first_count (fresh n h) p = 0

-- First: procedure f, which is g, begins so with that store and heap, and with so many units from a
-- base on
pub record First (p : Program) (f : ProcId) (g : Procedure) (beginning : Beginning) (store : Store)
    (heap : Heap)
    (base count : ℕ) (first : TimedPart) (contents : List TimedContent) : Type 0 where
  pub task : first.part.task ≡ []
  pub stand : first.part.stand ≡ running (first_frames beginning f g)
  pub holds : first.part.holds ≡ first_holds beginning p
  pub heap_is : IsUnion heap (first.part.heap
      ∷ map (λ (k : Content). k.heap) (contents_of contents))
  pub store_is : IsUnion store (first.part.store
      ∷ map (λ (k : Content). k.store) (contents_of contents))
  -- the base is above 0 and above each location
  pub supply : first.part.supply ≡ record { first = base; count = count } ∷ []
  pub positive : 0 < base
  pub above : (location : ℕ) (cell : Cell) → heap location ≡ Some cell → location < base
  -- nothing has happened yet
  pub clock : first.clock ≡ 0
  pub log : first.log ≡ []
  pub given : first.given ≡ count
  pub stamps : AllByRecursion (λ (k : TimedContent). k.stamp ≡ 0) contents
  -- there is one content for each resource, in their order
  pub in_order : AreFrom 0 contents
  pub each : length contents ≡ first_count beginning p
