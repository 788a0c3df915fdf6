-- Whole: that the parts of tasks and the contents of free resources, taken together, are a configuration.
-- O'Hearn (2007) for cells that tasks and resources own; Bornat, Calcagno, Yang (2006) for variables owned like cells.
use Rattle.std.specs.Prelude.{◌≡◌, ℕ, Bool, true, false, cond, List, [], ◌∷◌, ◌++◌, map, Some, None, ◌==◌, ◌≤◌, Contains}
use Rattle.std.specs.List.{AllByRecursion, count_by, flat_map}
use Rattle.std.specs.Option.{option_map}
use Rattle.sf_base.specs.declared.ids.ResId.{ResId}
use Rattle.sf_base.specs.declared.path.Turn.TheVariants.{Left as left, Right as right}
use Rattle.sf_base.specs.HeapStore.{Map, Splits, IsEmpty, Heap, Store, own}
use Rattle.sf_core.specs.Machine.Config.{Frame, Task, runs, waits, Path, Config, task_at}
use Rattle.sf_core.specs.Machine.Supplies.{units}

-- a range of numbers: so many, from the first on
pub record Range : Type 0 where
  pub first : ℕ
  pub count : ℕ

-- the numbers of a list of ranges, in their order
abbrev pub numbers : List Range → List ℕ
numbers ranges = flat_map (λ (range : Range). units range.first range.count) ranges

-- how a task stands: it runs its frames, the innermost first, or waits with them for the two children of a fork
pub data Stand : Type 0 where
  running : List Frame → Stand
  waiting : List Frame → Stand

-- a part: one task, at its path, with all that is its own: its cells, its slots with their values, the resources that
-- it holds, and the units that its events may still have as their numbers
pub record Part : Type 0 where
  pub task : Path
  pub stand : Stand
  pub heap : Heap
  pub store : Store
  pub holds : ResId → Bool
  pub supply : List Range

-- a content: the variables and the cells of a resource that no task holds
pub record Content : Type 0 where
  pub resource : ResId
  pub heap : Heap
  pub store : Store

-- how a task of the tree stands
abbrev pub stand_of : Task → Stand
stand_of (runs frames) = running frames
stand_of (waits frames one two) = waiting frames

-- how the tasks of a tree stand, by their paths
abbrev pub stands : Task → Map Path Stand
stands tree = λ path. option_map stand_of (task_at path tree)

-- whether two paths are one
abbrev pub same_path : Path → Path → Bool
same_path [] [] = true
same_path [] (turn ∷ other) = false
same_path (turn ∷ path) [] = false
same_path (left ∷ path) (left ∷ other) = same_path path other
same_path (left ∷ path) (right ∷ other) = false
same_path (right ∷ path) (left ∷ other) = false
same_path (right ∷ path) (right ∷ other) = same_path path other

-- the task of a part alone: how it stands, at its path
abbrev pub own_stand : Part → Map Path Stand
own_stand a = λ path. cond (same_path path a.task) (Some a.stand) None

-- the resources that a part holds, each with the part's task as its holder
abbrev pub holders : Part → Map ResId Path
holders a = λ r. cond (a.holds r) (Some a.task) None

-- the numbers of the supplies of all these parts
abbrev pub supplies : List Part → List ℕ
supplies parts = flat_map (λ (a : Part). numbers a.supply) parts

-- the whole is the disjoint union of the maps of a list: no key is in two of them, and each is there as in the one that
-- has it
abbrev pub IsUnion : {K X : Type 0} → Map K X → List (Map K X) → Type 0
IsUnion whole [] = IsEmpty whole
IsUnion {K} {X} whole (one ∷ more) = (others : Map K X) × Splits whole one others × IsUnion others more

-- a number that an event may still have: it wasn't used, and it is neither a location of the heap nor the number of a
-- slot of the store
pub record IsUnused (c : Config) (number : ℕ) : Type 0 where
  pub used : c.used number ≡ false
  pub heap : c.common.heap number ≡ None
  pub store : (index : ℕ) → c.common.store (own number index) ≡ None

-- Whole: the parts and the contents, taken together, are the configuration
pub record Whole (parts : List Part) (contents : List Content) (c : Config) : Type 0 where
  -- the tasks are those of the parts
  pub tasks : IsUnion (stands c.tasks) (map own_stand parts)
  -- the cells and the slots are those of the parts and of the contents
  pub heap : IsUnion c.common.heap (map (λ (a : Part). a.heap) parts ++ map (λ (k : Content). k.heap) contents)
  pub store : IsUnion c.common.store (map (λ (a : Part). a.store) parts ++ map (λ (k : Content). k.store) contents)
  -- a resource is held by a task exactly where that task's part holds it
  pub held : IsUnion c.common.held (map holders parts)
  -- each content is of a resource that nobody holds, and no two are of one resource
  pub free : AllByRecursion (λ (k : Content). c.common.held k.resource ≡ None) contents
  pub different : (r : ResId) → count_by (λ (k : Content). k.resource.0 == r.0) contents ≤ 1
  -- no number is twice in the supplies, and none of them is used
  pub once : (number : ℕ) → count_by (λ n. n == number) (supplies parts) ≤ 1
  pub unused : (number : ℕ) → Contains (supplies parts) number → IsUnused c number
