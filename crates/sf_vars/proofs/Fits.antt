-- What a program calls and enters has its sets and its visit, and what its sets have may be named.
use Rattle.std.proofs.Common.{◌<◌, [], length, get_or, All, arith}
use Rattle.std.proofs.lemmas.List.Elements.{Contains-get_or}
use Rattle.std.proofs.lemmas.Option.{slice_get-get_or}
use Rattle.sf_base.specs.declared.ids.ProcId.{ProcId}
use Rattle.sf_base.specs.declared.ids.Var.{Var}
use Rattle.sf_base.specs.declared.ids.Var.TheVariants.{Own, Shared}
use Rattle.sf_base.specs.declared.limits.TheConstants.{RESOURCES}
use Rattle.sf_core.specs.Program.Formed.{IsFormed, IsInBody, CommandWithin, BlockWithin}
use Rattle.sf_core.specs.Machine.HasThroughout.{HasThroughout}
use Rattle.sf_core.specs.Program.Syntax.{Command, assign, look_up, mutate, new, dispose, if, while, call, fork, with, Block, done, then, Procedure, Program}
use Rattle.sf_calls.specs.Conditions.{Takes, Free}
use Rattle.sf_calls.specs.Sets.{Sets, AreSetsOf, IsResSet, IsVarSet}
use Rattle.sf_calls.specs.Checked.Lemmas.InFile.{free_within}
use Rattle.sf_calls.specs.Checked.Lemmas.Least.{holds_within}
use Rattle.sf_calls.specs.Checked.Lemmas.Within.{callee_within}
use Rattle.sf_vars.specs.Checked.Search.{HasSets, BlockFits, CommandFits, free_of, takes_of, holds_of}

pub free_set : (p : Program) (sets : Sets) (g : ProcId) → AreSetsOf p sets → g.0 < length p.procedures
    → IsVarSet (Free p g) (free_of sets g)
free_set p sets g are below =
    are.free.is g (free_of sets g) (slice_get-get_or sets.free g.0 [] (omega (arith, below, are.free.each)))

pub takes_set : (p : Program) (sets : Sets) (g : ProcId) → AreSetsOf p sets → g.0 < length p.procedures
    → IsResSet (Takes p g) (takes_of sets g)
takes_set p sets g are below =
    are.takes.is g (takes_of sets g)
    (slice_get-get_or sets.takes g.0 [] (omega (arith, below, are.takes.each)))

pub holds_set : (p : Program) (sets : Sets) (g : ProcId) → AreSetsOf p sets → g.0 < length p.procedures
    → IsResSet (HasThroughout p g) (holds_of sets g)
holds_set p sets g are below =
    are.holds.is g (holds_of sets g)
    (slice_get-get_or sets.holds g.0 [] (omega (arith, below, are.holds.each)))

has_sets : (p : Program) (sets : Sets) (g : ProcId) → AreSetsOf p sets → g.0 < length p.procedures
    → HasSets sets g
has_sets p sets g are below = record {
  takes = omega (arith, below, are.takes.each);
  free = omega (arith, below, are.free.each);
  ordered = (free_set p sets g are below).ordered;
}

-- each body fits
mutual
  pub block_fits : (p : Program) (sets : Sets) (h : Procedure) → IsFormed p → AreSetsOf p sets → (b : Block)
      → BlockWithin p h b → BlockFits sets b
  block_fits p sets h formed are done w = tt
  block_fits p sets h formed are (then c b) w =
      (command_fits p sets h formed are c w.0, block_fits p sets h formed are b w.1)

  command_fits : (p : Program) (sets : Sets) (h : Procedure) → IsFormed p → AreSetsOf p sets → (c : Command)
      → CommandWithin p h c → CommandFits sets c
  command_fits p sets h formed are (assign q x e) w = tt
  command_fits p sets h formed are (look_up q x e field) w = tt
  command_fits p sets h formed are (mutate q e field d) w = tt
  command_fits p sets h formed are (new q x) w = tt
  command_fits p sets h formed are (dispose q e) w = tt
  command_fits p sets h formed are (if q t c d) w =
      (block_fits p sets h formed are c w.1, block_fits p sets h formed are d w.2)
  command_fits p sets h formed are (while q t a c) w = block_fits p sets h formed are c w.2
  command_fits p sets h formed are (call q c) w = has_sets p sets c.callee are (callee_within p h c w)
  command_fits p sets h formed are (fork q c d) w = (
    has_sets p sets c.callee are (callee_within p h c w.0),
    has_sets p sets d.callee are
        (callee_within p h d w.1),
  )
  command_fits p sets h formed are (with q s t c) w = (
    let below : s.0 < length p.resources = w.0 in
        omega (arith, formed.resource_count),
    block_fits p sets h formed are c w.2,
  )

-- what a procedure holds has a visit
pub held_fit : (p : Program) (sets : Sets) (g : ProcId) → IsFormed p → AreSetsOf p sets
    → g.0 < length p.procedures → All (λ r. r.0 < RESOURCES) (holds_of sets g)
held_fit p sets g formed are there k d below =
    let held : HasThroughout p g
    (get_or (holds_of sets g) k d) = ((holds_set p sets g are there).members
    (get_or (holds_of sets g) k d)).0 (Contains-get_or (holds_of sets g) k d below) in
    let inside : (get_or (holds_of sets g) k d).0 < length p.resources = holds_within p formed g
    (get_or (holds_of sets g) k d) held in
    omega (arith, inside, formed.resource_count)

-- what is free anywhere may be named everywhere
pub free_in_body : (p : Program) (h : Procedure) (g : ProcId) (x : Var) → IsFormed p → Free p g x
    → IsInBody p h x
free_in_body p h g (Own n) formed f = absurd f.0
free_in_body p h g (Shared r i) formed f = free_within p g r i formed f
