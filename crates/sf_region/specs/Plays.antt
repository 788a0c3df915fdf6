-- Plays: what each step on a word makes of a seat's view, and what its caller is told.
-- Ordinary: the view after from the view before, by the kinds of step.
use Rattle.std.specs.Prelude.{◌≡◌, ◌≢◌, ◌==◌, ◌+◌, ◌≤◌, ℕ, suc, cond, min, max, false, List, [], ◌∷◌, ◌++◌, map, Option, Some, None, Contains}
use mathlib.Core.Option.{some}
use lib.ListN.{get_elem?}
use Rattle.atomic_table.specs.Table.{Step, Me, rest}
use Rattle.sf_base.specs.declared.ids.ResId.{ResId}
use Rattle.sf_base.specs.declared.limits.TheConstants.{STEPS}
use Rattle.sf_base.specs.declared.path.Turn.TheVariants.{Left as left_turn, Right as right_turn}
use Rattle.sf_base.specs.HeapStore.{own}
use Rattle.sf_core.specs.Machine.Config.{Config}
use Rattle.sf_core.specs.Machine.Whole.{Part as WholePart, running, numbers}
use Rattle.sf_part.specs.declared.content.Content.{Content}
use Rattle.sf_part.specs.declared.part.Part.{Part}
use Rattle.sf_part.specs.Contents.{content_of}
use Rattle.sf_part.specs.Entry.{AreApart}
use Rattle.sf_part.specs.PartView.{part_of}
use Rattle.sf_part.specs.Steps.{HasChildren, IsChild}
use Rattle.sf_part.specs.Timed.{TimedPart}
use Rattle.sf_region.specs.declared.views.Begun.{Begun}
use Rattle.sf_region.specs.declared.views.View.{View}
use Rattle.sf_region.specs.Drained.{Drained, IsGoing}
use Rattle.sf_region.specs.Marks.{Mark, History}
use Rattle.sf_region.specs.Rule.{Slot, IsExactly, newcomer, untimed, present}
use Rattle.sf_region.specs.Stamps.{Stamps, units_of}
use Rattle.sf_region.specs.Waits.{BeganAt, Missed, first_of, opening_parts, program_in}

-- one more, up to 2^32 - 1
abbrev pub bump : ℕ → ℕ
bump n = min (n + 1) 4294967295

-- the misses that count since the task's last event, where the part is as it now is
abbrev pub since : Part → View → ℕ
since a v = cond (a.clock == v.part.clock) v.misses 0

-- the view with the part as it now is, and these parts of children, and no content in hand
abbrev pub moved : Part → List Part → View → View
moved a kids v = record {
  live = v.live;
  hand = None;
  part = a;
  kids = kids;
  missed = v.missed;
  misses = since a v;
  begun = v.begun;
}

-- a word was won, and its content is in hand
abbrev pub won : Content → View → View
won k v = record {
  live = v.live;
  hand = Some k;
  part = v.part;
  kids = v.kids;
  missed = k.resource;
  misses = v.misses;
  begun = v.begun;
}

-- a word was found taken: one miss more
abbrev pub lost : ResId → View → View
lost r v = record {
  live = v.live;
  hand = v.hand;
  part = v.part;
  kids = v.kids;
  missed = r;
  misses = bump v.misses;
  begun = v.begun;
}

-- about to put a content back
abbrev pub giving : Content → Part → View → View
giving k a v = record {
  live = v.live;
  hand = Some k;
  part = a;
  kids = [];
  missed = v.missed;
  misses = since a v;
  begun = v.begun;
}

-- a content was put back: a miss more where there was no event
abbrev pub left : Part → View → View
left a v = record {
  live = v.live;
  hand = None;
  part = a;
  kids = [];
  missed = v.missed;
  misses = cond (a.clock == v.part.clock) (bump v.misses) 0;
  begun = v.begun;
}

-- with these parts of children
abbrev pub with_kids : List Part → View → View
with_kids kids v = record {
  live = v.live;
  hand = v.hand;
  part = v.part;
  kids = kids;
  missed = v.missed;
  misses = v.misses;
  begun = v.begun;
}

-- the first of these parts, or that one where there is none
abbrev pub first_kid : Part → List Part → Part
first_kid a [] = a
first_kid a (kid ∷ kids) = kid

-- and those after it
abbrev pub other_kids : List Part → List Part
other_kids [] = []
other_kids (kid ∷ kids) = kids

-- a seat is split: the part of its first child goes from it
abbrev pub parent : View → View
parent v = with_kids (other_kids v.kids) v

-- to a new seat
abbrev pub child : View → View
child v = newcomer (first_kid v.part v.kids) v.begun

-- a seat is joined to another: its part goes there, after those of other children
abbrev pub joined : View → View → View
joined v u = with_kids (v.kids ++ u.part ∷ []) v

-- the slots that a seat has taken, emptied
abbrev pub hollow : List ℕ → List (ℕ × Slot)
hollow [] = []
hollow (r ∷ rs) = (r, None) ∷ hollow rs

-- Lives: one list of events leads from each configuration at which the table began to one in which
-- this part is a task's, beside other parts, and these contents are those that count
pub record Lives (b : Begun) (a : TimedPart) (contents : List (Option Content)) : Type 0 where
  pub marks : List Mark
  pub before : List TimedPart
  pub after : List TimedPart
  pub history : (c : Config) → BeganAt b c
      → History (program_in b) (opening_parts b) c marks (untimed (before ++ a ∷ after))
      (present contents)
  pub stamps : Stamps (first_of b) marks (before ++ a ∷ after) contents

-- the same with some contents
abbrev pub IsThere : Begun → TimedPart → Type 0
IsThere b a = (contents : List (Option Content)) × Lives b a contents

-- the same with this content as that of its resource
abbrev pub IsThereWith : Begun → TimedPart → Content → Type 0
IsThereWith b a k = (contents : List (Option Content)) × Lives b a contents
    × (get_elem? contents k.resource.0 ≡ some (Some k))

-- Finished: at the end there is this part and no other, and these are the contents of all
-- resources, in their order, each exactly its resource's
pub record Finished (b : Begun) (a : TimedPart) (contents : List Content) : Type 0 where
  pub marks : List Mark
  pub history : (c : Config) → BeganAt b c
      → History (program_in b) (opening_parts b) c marks (a.part ∷ []) (present (map Some contents))
  pub stamps : Stamps (first_of b) marks (a ∷ []) (map Some contents)
  pub exactly : (r : ℕ) (k : Content) → get_elem? contents r ≡ some k
      → IsExactly (program_in b) r k

-- what a task may rely on of a content that it got: it may take it in
pub record IsFor (b : Begun) (a : TimedPart) (r : ResId) (k : Content) : Type 0 where
  pub resource : k.resource ≡ r
  pub exactly : IsExactly (program_in b) r.0 k
  pub apart : AreApart a.part (content_of k).content
  pub room : max a.clock k.stamp + units_of a ≤ STEPS
  pub there : IsThereWith b a k

-- AreSeparate: the parts of a parent and of its two children have no cell, no slot and no unit in
-- common, and no unit of one is a location of another or the number of a slot of it, so the parent
-- may take the children's in; they keep logs where it does, and the clocks leave room for the units
-- that they have
pub record AreSeparate (a one two : TimedPart) : Type 0 where
  pub all : WholePart
  pub children : HasChildren a.part one.part two.part all
  pub units : (number : ℕ) → Contains (numbers one.part.supply) number
      → Contains (numbers two.part.supply) number → ⊥
  pub unmade : (number : ℕ)
      → Contains (numbers one.part.supply ++ numbers two.part.supply) number
      → (all.heap number ≡ None) × ((index : ℕ) → all.store (own number index) ≡ None)
  pub left_keeps : one.keeps ≡ a.keeps
  pub right_keeps : two.keeps ≡ a.keeps
  pub time : max a.clock (max one.clock two.clock) + (units_of one + units_of two) ≤ STEPS

-- what a view's misses stand for
abbrev pub Known : View → Type 0
Known v = Missed v.begun (part_of v.part).part.task v.missed v.misses

-- what a try at the resource of a step's word tells
abbrev pub tries : Part → Step Slot → Me Slot View → ℕ → Me Slot View → Type 0
tries a st m found n = (r : ResId) → st.word ≡ suc r.0
    → (found ≡ 0 → (k : Content) × (n ≡ (won k (moved a [] m.0), (r.0, Some k) ∷ m.1))
    × IsFor m.0.begun (part_of a) r k × Known (won k (moved a [] m.0)))
    × (found ≢ 0 → (n ≡ (lost r (moved a [] m.0), m.1)) × IsThere m.0.begun (part_of a)
    × Known (lost r (moved a [] m.0)))

-- what the step tells at which a content was put back
abbrev pub leaves : Part → Me Slot View → Me Slot View → Type 0
leaves a m n = (n ≡ (left a m.0, rest m.1)) × IsThere m.0.begun (part_of a) × Known (left a m.0)

-- what a load of word 0 tells that puts the part as it now is into the view
abbrev pub notes : Part → List Part → Me Slot View → Me Slot View → Type 0
notes a kids m n = (n ≡ (moved a kids m.0, m.1)) × IsThere m.0.begun (part_of a)
    × Known (moved a kids m.0)

-- what a load of word 0 tells of a parent's part and of those of its two children, in one view
abbrev pub looks : Me Slot View → Me Slot View → Type 0
looks m n = (n ≡ m) × ((one two : Part) → m.0.kids ≡ one ∷ two ∷ []
    → IsChild (part_of m.0.part).part left_turn (part_of one).part
    → IsChild (part_of m.0.part).part right_turn (part_of two).part
    → AreSeparate (part_of m.0.part) (part_of one) (part_of two))

-- a task that would go on has no unit left
abbrev pub IsSpent : TimedPart → Type 0
IsSpent a = IsGoing a × (numbers a.part.supply ≡ [])

-- a task's two children have ended, and neither has a unit left
pub record AreSpent (a one two : TimedPart) : Type 0 where
  pub left : IsChild a.part left_turn one.part
  pub right : IsChild a.part right_turn two.part
  pub left_ended : one.part.stand ≡ running []
  pub right_ended : two.part.stand ≡ running []
  pub none : numbers one.part.supply ++ numbers two.part.supply ≡ []

-- the events have used up what the task of a part was given
abbrev pub IsDrained : Begun → TimedPart → Type 0
IsDrained b a = Drained b a.part.task a.given

-- what a load of word 0 tells of a view's task that would go on without a unit, or waits for two
-- children that have ended without one
abbrev pub drains : Me Slot View → Me Slot View → Type 0
drains m n = (n ≡ m) × (IsSpent (part_of m.0.part) → IsDrained m.0.begun (part_of m.0.part))
    × ((one two : Part) → m.0.kids ≡ one ∷ two ∷ []
    → AreSpent (part_of m.0.part) (part_of one) (part_of two)
    → IsDrained m.0.begun (part_of m.0.part))

-- a seat's place with no part: it carries what a receipt says
abbrev pub dead : View → View
dead v = record {
  live = false;
  hand = None;
  part = v.part;
  kids = [];
  missed = v.missed;
  misses = v.misses;
  begun = v.begun;
}

abbrev pub buries : View → Me Slot View → Type 0
buries v n = n ≡ (dead v, [])

-- what an aimed step tells of the part, and of the parts of children, that its call names
abbrev pub aimed : List Part → (Part → List Part → Type 0) → Type 0
aimed [] P = Unit {0}
aimed (a ∷ kids) P = P a kids

-- what it tells of the view that its call names
abbrev pub seen : List View → (View → Type 0) → Type 0
seen [] P = Unit {0}
seen (v ∷ views) P = P v
