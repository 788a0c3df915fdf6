-- The text of what a run ends with.
-- Ordinary: a finite map as the list of its entries, by rising key.
use Rattle.std.specs.Prelude.{◌≡◌, ℕ, List, ◌++◌}
use Rattle.std.specs.FinMap.{get}
use Rattle.std.specs.List.{flat_map}
use Rattle.std.specs.List.Sorted.{IsStrictlyIncreasing}
use Rattle.sf_base.specs.declared.value.Value.{Value}
use Rattle.sf_core.specs.Program.Syntax.{Procedure, Program}
use Rattle.sf_heap.specs.Cells.{AreAt, Cells}
use Rattle.sf_foot.specs.declared.vars.Vars.{Vars}
use Rattle.sf_lines.specs.Lines.{Text}
use Rattle.sf_state.specs.Names.{names_of}
use Rattle.sf_state.specs.StateText.{state_text}

-- the values of variables, in canonical order: the procedure's own, and those of each resource in
-- file order
abbrev pub values_of : Vars → List Value
values_of vars = vars.own.items ++ flat_map (λ vs. vs.items) vars.shared.items

-- it is the text of these variables and of all these cells, by rising location
pub record IsFinishText (p : Program) (g : Procedure) (vars : Vars) (heap : Cells) (text : Text) : Type 0 where
  pub locations : List ℕ
  pub rising : IsStrictlyIncreasing locations
  pub all : AreAt locations heap
  pub is : text ≡ state_text p.fields (names_of p g) (values_of vars) (get heap) locations
