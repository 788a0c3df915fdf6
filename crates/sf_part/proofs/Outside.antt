-- That a task at a region isn't inside of one of its resource.
-- Names: `outside-LAW`.
use Rattle.std.specs.Prelude.{◌≡◌, ◌&&◌, ◌<◌, ℕ, Bool, true, false, cond, ltb, List, [], ◌∷◌, length}
use Rattle.std.proofs.Common.{ap, ◌∙◌, refl, subst, inl, inr, arith}
use Rattle.std.proofs.lemmas.Bool.{ltb-true}
use Rattle.sf_base.proofs.Elements.{contains-single_of}
use Rattle.sf_base.specs.declared.ids.ResId.{ResId}
use Rattle.sf_base.specs.declared.place.Place.{Place}
use Rattle.sf_base.specs.HeapStore.{Store}
use Rattle.sf_calls.specs.Checked.Lemmas.Least.{takes_within}
use Rattle.sf_calls.specs.Conditions.{Enters, Takes}
use Rattle.sf_calls.specs.FirstBreach.{Conditions}
use Rattle.sf_calls.specs.Reaches.{directly, through}
use Rattle.sf_core.specs.Checked.Machine.InOrder.{exits, regions, throughout}
use Rattle.sf_core.specs.declared.assertion.Test.{Test}
use Rattle.sf_core.specs.declared.command.Expr.{Expr}
use Rattle.sf_core.specs.Machine.Config.{Item, command, Fixed, Frame, runs}
use Rattle.sf_core.specs.Machine.HasThroughout.{HasThroughout}
use Rattle.sf_core.specs.Machine.Next.{next}
use Rattle.sf_core.specs.Machine.Whole.{running, Part}
use Rattle.sf_core.specs.Program.Formed.{IsFormed}
use Rattle.sf_core.specs.Program.Syntax.{Block, with, Program}
use Rattle.sf_part.specs.Checked.Lemmas.Shapes.{next-shape}
use Rattle.sf_part.proofs.HandedOut.{exits-none}
use Rattle.sf_part.proofs.Held.{times-regions}
use Rattle.sf_part.proofs.Orders.{has-called}
use Rattle.sf_part.proofs.Sites.{sites-first}
use Rattle.sf_part.proofs.Unheld.{held-called, held-entered, inside-called, inside-entering}
use Rattle.sf_part.specs.Checked.LawsOfWhole.{RegionsAreOutside}
use Rattle.sf_part.specs.Guards.{IsAtRegion, IsGuard}
use Rattle.sf_part.specs.Of.{AreInOrder, FramesAreOf, IsAbove, IsOf, StandIsOf, frames_in, inside, times_held}
use Rattle.sf_core.specs.Program.Init.{sets_up}

module _ (p : Program) (formed : IsFormed p) (conditions : Conditions p) (r : ResId) where
  -- a frame whose procedure doesn't have the resource throughout doesn't set it up
  throughout-none : (f : Fixed) → (HasThroughout p f.procedure r → ⊥) → throughout p r f ≡ 0
  throughout-none f n = go (sets_up p f.procedure) (ltb r.0 (length p.resources)) refl refl
    where
      go : (a b : Bool) → sets_up p f.procedure ≡ a → ltb r.0 (length p.resources) ≡ b
          → ◌≡◌ {A = ℕ} (cond (a && b) 1 0) 0
      go true true e h = absurd (n (inr (e, ltb-true r.0 (length p.resources) h)))
      go true false e h = refl
      go false b e h = refl

  -- the frames below one that takes the resource aren't inside of it
  outside-below : (f : Frame) (below : List Frame) → Takes p f.fixed.procedure r
      → (HasThroughout p f.fixed.procedure r → ⊥) → IsAbove p f.fixed.procedure below
      → AreInOrder p below → regions p r below ≡ 0
  outside-below f [] takes unheld above order = refl
  outside-below f (g ∷ below) takes unheld (inl called) order =
      let calls = has-called p g f.fixed.procedure called in
      let held =
      held-called p formed conditions r g.fixed.procedure f.fixed.procedure calls takes in
      let here : exits r g.todo ≡ 0 = exits-none r g.todo
      (inside-called p formed conditions r g f.fixed.procedure called takes) in
      let whole : throughout p r g.fixed ≡ 0 = throughout-none g.fixed held in
      let down : regions p r below ≡ 0 =
      outside-below g below (through f.fixed.procedure calls takes) held order.1 order.2 in
      omega arith
  outside-below f (g ∷ below) takes unheld (inr sets) order =
      absurd (unheld (inr (sets.0, takes_within p formed f.fixed.procedure r takes)))

  -- nor is one that is about to enter it
  outside-frames : (store : Store) (f : Fixed) (place : Place) (test : Test Expr) (body : Block)
      (rest : List Item) (below : List Frame)
      → FramesAreOf p store
      (record { fixed = f; todo = command (with place r test body) ∷ rest } ∷ below)
      → AreInOrder p (record { fixed = f; todo = command (with place r test body) ∷ rest } ∷ below)
      → regions p r (record { fixed = f; todo = command (with place r test body) ∷ rest } ∷ below)
      ≡ 0
  outside-frames store f place test body rest below of order =
      let enters : Enters p r f.procedure = (
        (of.0).procedure,
        (of.0).there,
        (
          record { entered = inside rest; command = with place r test body },
          (of.0).todo _ (sites-first (with place r test body) rest),
          contains-single_of r r refl,
        ),
      ) in
      let held : HasThroughout p f.procedure r → ⊥ =
      held-entered p formed conditions r f.procedure enters in
      let here : exits r rest ≡ 0 = exits-none r rest
      (inside-entering p formed conditions r store f place test body rest of.0) in
      let whole : throughout p r f ≡ 0 = throughout-none f held in
      let down : regions p r below ≡ 0 = outside-below
      (record { fixed = f; todo = command (with place r test body) ∷ rest }) below
      (directly enters) held order.1 order.2 in
      omega arith

-- the region at which a task stands is one of its procedure's body
module _ (p : Program) (a : Part) (r : ResId) (of : IsOf p a) (at : IsAtRegion a r) where
  abbrev f : Fixed
  f = at.0

  abbrev guard : IsGuard (next (runs at.2.0)) r f at.1
  guard = at.2.2

  abbrev now : List Frame
  now = record { fixed = f; todo = command (with guard.place r at.1 guard.body) ∷ guard.rest }
      ∷ guard.below

  pub at-frames : a.stand ≡ running now
  at-frames = at.2.1 ∙ ap running
      (next-shape at.2.0 f guard.below (with guard.place r at.1 guard.body) guard.rest guard.is)

  pub at-of : FramesAreOf p a.store now
  at-of = subst (StandIsOf p a.store) at-frames of.stands

  pub at-enters : Enters p r f.procedure
  at-enters = (
    (at-of.0).procedure,
    (at-of.0).there,
    (
      record { entered = inside guard.rest; command = with guard.place r at.1 guard.body },
      (at-of.0).todo _ (sites-first (with guard.place r at.1 guard.body) guard.rest),
      contains-single_of r r refl,
    ),
  )

-- so its resource is one of the program's
pub at-region_takes : (p : Program) → IsFormed p → (a : Part) (r : ResId) → IsOf p a → IsAtRegion a r
    → r.0 < length p.resources
at-region_takes p formed a r of at =
    takes_within p formed _ r (directly (at-enters p a r of at))

pub regions_are_outside : RegionsAreOutside
unfolding RegionsAreOutside
regions_are_outside p a r formed conditions of at =
    (at-region_takes p formed a r of at, go (a.holds r) refl)
  where
    none : times_held p r (frames_in a.stand) ≡ 0
    none = ap (λ z. times_held p r (frames_in z)) (at-frames p a r of at)
        ∙ times-regions p r (now p a r of at)
        ∙ outside-frames p formed conditions r a.store (f p a r of at) (guard p a r of at).place at.1
        (guard p a r of at).body (guard p a r of at).rest (guard p a r of at).below
        (at-of p a r of at)
        (subst (λ z. AreInOrder p (frames_in z)) (at-frames p a r of at) of.order)

    go : (b : Bool) → a.holds r ≡ b → a.holds r ≡ false
    go false e = e
    go true e =
        let one : times_held p r (frames_in a.stand) ≡ 1 =
        of.inside r ∙ ap (λ b. cond {A = ℕ} b 1 0) e in
        absurd (omega (arith, one, none))
