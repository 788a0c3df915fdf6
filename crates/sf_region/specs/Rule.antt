-- The rule of a table of resources, which holds between any two steps on its words.
-- O'Hearn (2007), Brookes (2007): what tasks own and what free resources own is all there is.
use Rattle.std.specs.Prelude.{◌≡◌, ◌≢◌, ◌==◌, ◌+◌, ◌<◌, ◌≤◌, ℕ, suc, cond, Bool, true, false, List, [], ◌∷◌, length, map, slice_index, Option, Some, None, Contains, flat_map}
use Rattle.std.specs.List.{count_by}
use mathlib.Core.Option.{some}
use lib.ListN.{get_elem?}
use Rattle.atomic_table.specs.Table.{State}
use Rattle.sf_base.specs.declared.ids.ResId.{ResId}
use Rattle.sf_base.specs.declared.limits.TheConstants.{STEPS}
use Rattle.sf_core.specs.Machine.Config.{Config}
use Rattle.sf_core.specs.Machine.Whole.{Part as WholePart, Content as WholeContent, numbers}
use Rattle.sf_core.specs.Program.Syntax.{Program}
use Rattle.sf_part.specs.declared.content.Content.{Content}
use Rattle.sf_part.specs.declared.part.Part.{Part}
use Rattle.sf_part.specs.Contents.{IsContentIn, content_of}
use Rattle.sf_part.specs.Given.{IsContentOf}
use Rattle.sf_part.specs.Guards.{IsAtRegion}
use Rattle.sf_part.specs.PartView.{IsPartOf, part_of}
use Rattle.sf_part.specs.Timed.{TimedPart}
use Rattle.sf_region.specs.declared.views.Begun.{Begun}
use Rattle.sf_region.specs.declared.views.View.{View}
use Rattle.sf_region.specs.Drained.{Grants}
use Rattle.sf_region.specs.Holdings.{Holding, group, taken, entered}
use Rattle.sf_region.specs.Marks.{Mark, History}
use Rattle.sf_region.specs.Stamps.{Stamps, units_of}
use Rattle.sf_region.specs.Waits.{BeganAt, Places, first_of, opening_parts, program_in}

-- what lies in a slot
abbrev pub Slot : Type 0
Slot = Option Content

-- what a view says that its seat stands for
abbrev pub holding : View → Holding
holding v = record { hand = v.hand; part = part_of v.part; kids = map part_of v.kids }

abbrev pub live_group : Bool → List TimedPart → List TimedPart
live_group live parts = cond live parts []

-- the parts of a view, and those of all views
abbrev pub group_of : View → List TimedPart
group_of v = live_group v.live (group (holding v))

abbrev pub parts_in : List View → List TimedPart
parts_in views = flat_map group_of views

-- parts without clocks and logs
abbrev pub untimed : List TimedPart → List WholePart
untimed parts = map (λ (a : TimedPart). a.part) parts

-- the contents that count, by resource: those of resources that no task has entered
abbrev pub present : List (Option Content) → List WholeContent
present [] = []
present (None ∷ contents) = present contents
present (Some k ∷ contents) = (content_of k).content ∷ present contents

-- IsExactly: the content is of the resource of that number, and is exactly its variables and a
-- footprint of its invariant
pub record IsExactly (p : Program) (r : ℕ) (k : Content) : Type 0 where
  pub number : k.resource.0 ≡ r
  pub is_in : IsContentIn p k
  pub exactly : IsContentOf p (content_of k).content

-- how often a number stands in the list
abbrev pub times : ℕ → List ℕ → ℕ
times n ns = count_by (λ m. m == n) ns

-- a part is inside of a region of a resource at most once, and then holds the resource
abbrev pub IsTidy : TimedPart → Type 0
IsTidy a = (r : ResId) → times r.0 (entered a.part.stand) ≤ cond (a.part.holds r) 1 0

-- Fits: how a live view fits to the contents that count and to the words
pub record Fits (about : Begun) (contents : List (Option Content)) (owner : ℕ → ℕ)
    (words : List ℕ) (id : ℕ) (v : View) : Type 0 where
  pub begun : v.begun ≡ about
  pub in_hand : (k : Content) → v.hand ≡ Some k → get_elem? contents k.resource.0 ≡ some (Some k)
  pub has : (r : ℕ) → Contains (taken (holding v)) r
      → (r < length contents) × (slice_index words (suc r) ≢ 0) × (owner r ≡ id)
  pub inside : (r : ℕ) → Contains (entered (part_of v.part).part.stand) r
      → get_elem? contents r ≡ some None
  pub tidy : IsTidy (part_of v.part)

-- Rule: there is one list of events for all words, slots and views. From each configuration at
-- which the table began it leads to one that the parts in the views and the contents that count
-- are, taken together. While a resource's word is 0 its content is the one in its slot; else a view
-- has it in hand, or its part has entered with it
pub record Rule (about : Begun) (marks : List Mark) (s : State Slot View) : Type 0 where
  pub contents : List (Option Content)
  pub owner : ℕ → ℕ
  pub wide : length s.words ≡ suc (length s.homes)
  pub even : length contents ≡ length s.homes
  pub rests : slice_index s.words 0 ≡ 0
  pub free : (r : ℕ) → r < length s.homes → slice_index s.words (suc r) ≡ 0
      → (k : Content) × (get_elem? s.homes r ≡ some (some (Some k)))
      × (get_elem? contents r ≡ some (Some k))
  pub kept : (r : ℕ) → r < length s.homes → slice_index s.words (suc r) ≢ 0
      → (v : View) × (get_elem? s.views (owner r) ≡ some v) × (v.live ≡ true)
      × Contains (taken (holding v)) r
  pub each : (id : ℕ) (v : View) → get_elem? s.views id ≡ some v → v.live ≡ true
      → Fits about contents owner s.words id v
  pub exactly : (r : ℕ) (k : Content) → get_elem? contents r ≡ some (Some k)
      → IsExactly (program_in about) r k
  pub start : (c : Config) × BeganAt about c
  pub history : (c : Config) → BeganAt about c
      → History (program_in about) (opening_parts about) c marks (untimed (parts_in s.views))
      (present contents)
  pub stamps : Stamps (first_of about) marks (parts_in s.views) contents
  pub grants : Grants about marks (parts_in s.views)
  pub limit : (first_of about).clock + units_of (first_of about) ≤ STEPS

-- CanTry: the part's task stands at a region of the resource, with a unit left for its entry
abbrev pub CanTry : WholePart → ResId → Type 0
CanTry a r = IsAtRegion a r × (numbers a.supply ≢ [])

-- Waits: a view's misses have their places in the list, and its task can try that region
pub record Waits (about : Begun) (marks : List Mark) (v : View) : Type 0 where
  pub places : Places about marks (part_of v.part).part.task v.missed v.misses
  pub stood : 0 < v.misses → CanTry (part_of v.part).part v.missed

-- Law: the rule, and what is so of each live view with it: with a content in hand, its task can try
-- a region of that resource; and its misses have their places
pub record Law (about : Begun) (s : State Slot View) : Type 0 where
  pub marks : List Mark
  pub rule : Rule about marks s
  pub hands : (id : ℕ) (v : View) (k : Content) → get_elem? s.views id ≡ some v → v.live ≡ true
      → v.hand ≡ Some k → CanTry (part_of v.part).part k.resource × (v.missed ≡ k.resource)
  pub waits : (id : ℕ) (v : View) → get_elem? s.views id ≡ some v → v.live ≡ true
      → Waits about marks v

-- the view of a seat whose task is new at the table
abbrev pub newcomer : Part → Begun → View
newcomer a b = record {
  live = true;
  hand = None;
  part = a;
  kids = [];
  missed = record { 0 = 0 };
  misses = 0;
  begun = b;
}

-- the view of the first seat
abbrev pub opening_view : Begun → View
opening_view b = newcomer b.part b

-- MayBegin: with what a table may begin: there is one content for each resource, in their order,
-- and
-- each is exactly its resource's; the part is of the program and holds no resource; all of it is a
-- configuration; and no content's stamp is above the part's clock
pub record MayBegin (b : Begun) : Type 0 where
  pub of : IsPartOf (program_in b) b.part
  pub idle : (r : ResId) → (first_of b).part.holds r ≡ false
  pub each : length b.contents ≡ length (program_in b).resources
  pub exactly : (r : ℕ) (k : Content) → get_elem? b.contents r ≡ some k
      → IsExactly (program_in b) r k
  pub early : (r : ℕ) (k : Content) → get_elem? b.contents r ≡ some k → k.stamp ≤ (first_of b).clock
  pub whole : (c : Config) × BeganAt b c
