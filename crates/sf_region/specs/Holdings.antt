-- Holdings: what a seat stands for, and what its task's events make of it.
-- O'Hearn (2007), Brookes (2007): a resource's content crosses to the task that enters, and back.
use Rattle.std.specs.Prelude.{◌≡◌, ℕ, List, [], ◌∷◌, map, Option, Some, None, flat_map}
use Rattle.sf_base.specs.declared.ids.ResId.{ResId}
use Rattle.sf_core.specs.Machine.Config.{Frame}
use Rattle.sf_core.specs.Machine.Step.{Event}
use Rattle.sf_core.specs.Machine.Whole.{Stand}
use Rattle.sf_core.specs.Program.Syntax.{Program}
use Rattle.sf_part.specs.declared.content.Content.{Content}
use Rattle.sf_part.specs.Contents.{IsContentIn, content_of}
use Rattle.sf_part.specs.Given.{Gives}
use Rattle.sf_part.specs.Of.{frames_in, inside}
use Rattle.sf_part.specs.Steps.{Private, Enters, Forks, Joins}
use Rattle.sf_part.specs.Timed.{TimedPart}
use Rattle.sf_region.specs.Marks.{Kind, private, entry, exit, forking, joining, Mark}

-- what a seat stands for: a content in hand, its task's part, and the parts of children that are
-- between their fork and their seats, or between their seats and their join
pub record Holding : Type 0 where
  pub hand : Option Content
  pub part : TimedPart
  pub kids : List TimedPart

-- its parts
abbrev pub group : Holding → List TimedPart
group a = a.part ∷ a.kids

-- the numbers of the resources whose regions a task is inside of, the innermost first
abbrev pub inside_of : List Frame → List ℕ
inside_of frames = flat_map (λ (f : Frame). map (λ (r : ResId). r.0) (inside f.todo)) frames

abbrev pub entered : Stand → List ℕ
entered stand = inside_of (frames_in stand)

-- with that of the content in hand before them: what a seat has taken, the latest first
abbrev pub with_hand : Option Content → List ℕ → List ℕ
with_hand None more = more
with_hand (Some k) more = k.resource.0 ∷ more

abbrev pub taken : Holding → List ℕ
taken a = with_hand a.hand (entered a.part.part.stand)

-- what one event of each kind makes of it: an entry takes in the content in hand, an exit leaves
-- one in hand, which is exactly its resource's; a fork leaves the parts of its two children there,
-- and a join takes them in
abbrev pub Does : Program → Holding → Kind → Event → Holding → Type 0
Does p a private event b = (b.hand ≡ a.hand) × (b.kids ≡ a.kids) × Private p event a.part b.part
Does p a (entry r) event b = (k : Content) × (a.hand ≡ Some k) × (k.resource ≡ r)
    × (b.hand ≡ None) × (b.kids ≡ a.kids) × Enters p event a.part (content_of k) b.part
Does p a (exit r) event b = (k : Content) × (a.hand ≡ None) × (b.hand ≡ Some k)
    × (k.resource ≡ r) × (b.kids ≡ a.kids) × IsContentIn p k
    × Gives p event a.part (content_of k) b.part
Does p a forking event b = (one : TimedPart) × (two : TimedPart) × (b.hand ≡ a.hand)
    × (a.kids ≡ []) × (b.kids ≡ one ∷ two ∷ []) × Forks p event a.part b.part one two
Does p a joining event b = (one : TimedPart) × (two : TimedPart) × (b.hand ≡ a.hand)
    × (a.kids ≡ one ∷ two ∷ []) × (b.kids ≡ []) × Joins p event a.part one two b.part

-- the event's stamp is its task's clock after it
abbrev pub Act : Program → Holding → Mark → Holding → Type 0
Act p a m b = (m.stamp ≡ b.part.clock) × Does p a m.kind m.event b

-- Advance: one event after the other
abbrev pub Advance : Program → Holding → List Mark → Holding → Type 0
Advance p a [] b = b ≡ a
Advance p a (m ∷ marks) b = (between : Holding) × Act p a m between × Advance p between marks b
