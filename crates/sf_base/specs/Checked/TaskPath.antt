-- How a task's path keeps its turns: in an array of fixed length, with a count.
-- The turns lead from the entry's task down the binary tree of tasks (O'Hearn, "Resources, Concurrency and Local
-- Reasoning", 2007).
use Rattle.std.specs.Prelude.{◌≡◌, ◌≤◌, ◌-◌, List, length, take, drop, replicate, ◌++◌}
use Rattle.std.proofs.lemmas.List.{length-take-le, take-append-drop}
use Rattle.sf_base.specs.declared.limits.TheConstants.{TURNS}
use Rattle.sf_base.specs.declared.path.Turn.{Turn}
use Rattle.sf_base.specs.declared.path.Turn.TheVariants.{Left}
use Rattle.sf_base.specs.declared.path.TaskPath.TheInside.{Inside}

-- the turns that a path keeps
abbrev pub turns_of : Inside → List Turn
turns_of p = take p.len p.turns

-- at most TURNS turns are kept, and each place after them is `Left`
pub record IsPadded (p : Inside) : Type 0 where
  pub fits : p.len ≤ TURNS
  pub full : length p.turns ≡ TURNS
  pub rest : drop p.len p.turns ≡ replicate (TURNS - p.len) Left

-- the path of a list of turns
abbrev pub path_of : List Turn → Inside
path_of ts = record { turns = ts ++ replicate (TURNS - length ts) Left; len = length ts }

-- a padded path is the path of its turns
pub path_of-turns_of : (p : Inside) → IsPadded p → path_of (turns_of p) ≡ p
path_of-turns_of p k =
    let fits : p.len ≤ length p.turns = rw k.full k.fits in
    let len : length (take p.len p.turns) ≡ p.len = length-take-le p.len p.turns fits in
    let whole : take p.len p.turns ++ replicate (TURNS - p.len) Left
    ≡ p.turns = rw (← k.rest) (take-append-drop p.len p.turns) in
    rw (len, whole)
