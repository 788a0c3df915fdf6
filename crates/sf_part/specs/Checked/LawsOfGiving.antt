-- What a part gives up is determined: there is one way to give up just what a resource's invariant
-- asks for, and one to lend just what the preconditions of two parallel calls ask for.
-- O'Hearn, Yang, Reynolds, "Separation and Information Hiding" (2004): precise invariants.
use Rattle.std.specs.Prelude.{◌≡◌, ℕ, Some}
use Rattle.std.specs.List.{slice_get}
use Rattle.sf_core.specs.Assertions.Determined.{Determined}
use Rattle.sf_core.specs.Machine.Config.{Frame}
use Rattle.sf_core.specs.Machine.Whole.{Part, Content}
use Rattle.sf_core.specs.Program.Syntax.{Procedure, Program, Resource}
use Rattle.sf_part.specs.Given.{IsContentOf}
use Rattle.sf_part.specs.Lent.{IsShareOf}
use Rattle.sf_part.specs.Steps.{HasChildren, HasInHand}

-- of one part with two contents of one resource in hand, each just what its invariant asks for, the
-- contents are one, and so is what is kept, where the invariants are determined
unfoldable pub GivenContentsAreOne : Type 0
GivenContentsAreOne = (p : Program) (both a b : Part) (k j : Content)
    → ((number : ℕ) (r : Resource) → slice_get p.resources number ≡ Some r
    → Determined r.invariant.level)
    → HasInHand a k both → HasInHand b j both → k.resource ≡ j.resource → IsContentOf p k
    → IsContentOf p j → (k ≡ j) × (a ≡ b)

-- of one part with two children in hand, each with just the share of its frame, the shares are one,
-- and so is what the parent keeps, where the preconditions are determined
unfoldable pub LentSharesAreOne : Type 0
LentSharesAreOne = (p : Program) (all a b one two left right : Part) (f g : Frame)
    → ((number : ℕ) (h : Procedure) → slice_get p.procedures number ≡ Some h
    → Determined h.pre.level)
    → HasChildren a one two all → HasChildren b left right all → IsShareOf p f one
    → IsShareOf p f left
    → IsShareOf p g two → IsShareOf p g right
    → (one.heap ≡ left.heap) × (one.store ≡ left.store) × (two.heap ≡ right.heap)
    × (two.store ≡ right.store) × (a.heap ≡ b.heap) × (a.store ≡ b.store)
