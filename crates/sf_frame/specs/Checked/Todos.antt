-- That what a frame has still to do has room for all that can come of it.
-- Ordinary: a stack whose entries are bounded by their places.
use Rattle.std.specs.Prelude.{◌≡◌, ℕ, ◌+◌, ◌*◌, ◌≤◌, List, ◌∷◌, Some, Vec, vec_capacity}
use Rattle.std.specs.declared.alloc.Global.{Global}
use Rattle.std.specs.Coded.{Π_prop, →_prop, le_prop}
use Rattle.std.specs.List.{slice_get}
use Rattle.sf_core.specs.Program.Formed.{block_depth}
use Rattle.sf_core.specs.Program.View.{block_of}
use Rattle.sf_frame.specs.declared.todo.Todo.{Todo}
use Rattle.sf_frame.specs.declared.todo.Todo.TheVariants.{Commands, Leave}

-- how many entries can come of one, itself among them: two for each level of nesting, since a
-- region
-- has the entry that leaves it below its body
abbrev pub weight : Todo → ℕ
weight (Commands c rest) = 2 * block_depth (block_of (c.now ∷ rest.now))
weight (Leave r) = 1

-- what comes of each entry fits a capacity
abbrev pub Fits : ℕ → List Todo → Type 0
Fits capacity entries = (i : ℕ) (entry : Todo) → slice_get entries i ≡ Some entry
    → i + weight entry ≤ capacity

-- it fits that of the vector
abbrev pub HasDepth : Vec Todo Global → Type 0
HasDepth todo = Fits (vec_capacity todo) todo.items

-- that it does holds in one way
pub HasDepth-prop : (todo : Vec Todo Global) → IsProp (HasDepth todo)
HasDepth-prop todo = Π_prop (λ i. Π_prop (λ entry. →_prop le_prop))
