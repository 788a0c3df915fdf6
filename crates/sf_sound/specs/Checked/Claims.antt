-- Claims: what a goal claims of a frame that is at it: what is to do goes well, for any number of events.
-- After Vafeiadis, "Concurrent Separation Logic and Operational Semantics" (2011), for lists of things to do.
use Rattle.std.specs.Prelude.{ℕ, List, [], ◌∷◌, map}
use Rattle.sf_base.specs.declared.ids.Var.{Var}
use Rattle.sf_base.specs.declared.value.Value.{Value}
use Rattle.sf_base.specs.declared.value.Value.TheVariants.{Nil as nil}
use Rattle.sf_base.specs.HeapStore.{Heap, IsEmpty, Splits, ◌⋆◌}
use Rattle.sf_core.specs.Assertions.Sat.{Sat}
use Rattle.sf_core.specs.Checked.GoodParts.{SatEach}
use Rattle.sf_core.specs.Machine.Config.{Item as Step, command, leave}
use Rattle.sf_core.specs.Program.Syntax.{Assertion, Program, while}
use Rattle.sf_safe.specs.Checked.Local.{Local, look, put_variable}
use Rattle.sf_safe.specs.Checked.LocalSafe.{LocalSafe}
use Rattle.sf_sym.specs.declared.term.Term.{Term}
use Rattle.sf_sym.specs.Goal.{Item, run, add, take, gave, head, again, exit, return, end}
use Rattle.sf_sym.specs.Holds.{term_value, AddsHold, PendingHolds}

-- what of it the machine does: commands, and the leaving of regions
abbrev pub steps : List Item → List Step
steps [] = []
steps (run c ∷ rest) = command c ∷ steps rest
steps (exit q r ∷ rest) = leave r ∷ steps rest
steps (add q given ∷ rest) = []
steps (take q want names ∷ rest) = []
steps (gave q set removed ∷ rest) = []
steps (head q test invariant body ∷ rest) = []
steps (again q invariant ∷ rest) = []
steps (return q post ∷ rest) = []
steps (end q ∷ rest) = []

-- what the frame has satisfies the assertion, with the values that its variables have now
abbrev pub Satisfies : Assertion → Local → Type 0
Satisfies a l = Sat a.level (look l) (λ n. nil) l.cells

-- it satisfies the assertions, each with cells of its own
abbrev pub SatisfiesEach : List Assertion → Local → Type 0
SatisfiesEach owed l = SatEach (map (λ a. a.level) owed) (look l) l.cells

-- what is owed at the end of it: what the procedure owes, or the invariant at the end of a loop's body
abbrev pub Owed : List Item → Local → Type 0
Owed [] l = ⊥
Owed (run c ∷ rest) l = Owed rest l
Owed (exit q r ∷ rest) l = Owed rest l
Owed (again q invariant ∷ rest) l = Satisfies invariant l
Owed (return q owed ∷ rest) l = SatisfiesEach owed l
Owed (add q given ∷ rest) l = ⊥
Owed (take q want names ∷ rest) l = ⊥
Owed (gave q set removed ∷ rest) l = ⊥
Owed (head q test invariant body ∷ rest) l = ⊥
Owed (end q ∷ rest) l = ⊥

-- the frame with these cells
abbrev pub with_cells : Heap → Local → Local
with_cells heap l = record l { cells = heap }

-- the frame in which these variables have their terms' values, one after the other
abbrev pub put_values : (ℕ → Value) → List (Var × Term) → Local → Local
put_values w [] l = l
put_values w (x ∷ xs) l = put_values w xs (put_variable x.0 (term_value w x.1) l)

-- Does: the frame does what there is to do, for that many events. What is assumed first, before anything else, is
-- there already. What is shown is a part that is given up. Where that is gone for good, the variables that are set
-- have their terms' values, and whatever is assumed then comes as well. A loop goes on from its invariant, given back
abbrev pub Does : Program → (events : ℕ) → (ℕ → Value) → List Item → Local → Type 0
Does p n w [] l = Unit {0}
Does p n w (run c ∷ rest) l = LocalSafe p n (Owed rest) (command c ∷ steps rest) l
Does p n w (exit q r ∷ rest) l = LocalSafe p n (Owed rest) (leave r ∷ steps rest) l
Does p n w (again q invariant ∷ rest) l = LocalSafe p n (Satisfies invariant) [] l
Does p n w (return q owed ∷ rest) l = LocalSafe p n (SatisfiesEach owed) [] l
Does p n w (end q ∷ rest) l = IsEmpty l.cells
Does p n w (add q given ∷ rest) l = Does p n w rest l
Does p n w (take q want names ∷ rest) l =
    (PendingHolds w want ⋆ (λ kept. Does p n w rest (with_cells kept l))) l.cells
Does p n w (gave q set removed ∷ rest) l =
    (more whole : Heap) → AddsHold w rest more → Splits whole more l.cells
    → Does p n w rest (with_cells whole (put_values w set l))
Does p n w (head q test invariant body ∷ rest) l =
    (part whole : Heap) → Satisfies invariant (with_cells part l) → Splits whole part l.cells
    → LocalSafe p n (Owed rest) (command (while q test invariant body) ∷ steps rest) (with_cells whole l)
