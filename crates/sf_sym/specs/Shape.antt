-- HasShape: what each goal of a program is like, as far as it can be said of the goal alone. Every row keeps it, and the
-- first goals have it; the laws of rows are laws of such goals.
-- Berdine, Calcagno, O'Hearn, "Symbolic Execution with Separation Logic" (2005), section 4: what is assumed comes before
-- commands, and what is shown before what it is shown for.
use Rattle.std.specs.Prelude.{◌≡◌, ◌⊎◌, Bool, List, [], ◌∷◌}
use Rattle.std.specs.List.{AllByRecursion}
use Rattle.sf_base.specs.declared.ids.Var.{Var}
use Rattle.sf_sym.specs.Below.{AreBelow}
use Rattle.sf_sym.specs.declared.atom.Numbered.{Numbered}
use Rattle.sf_sym.specs.Formed.{AreFormed}
use Rattle.sf_sym.specs.Goal.{Item, run, add, take, gave, head, again, exit, return, end, Goal}
use Rattle.sf_sym.specs.Ready.{HasOrder, ReadsIn, is_listed}
use Rattle.sf_sym.specs.Variables.{AreInOrder}

-- commands and the ends of regions, up to the end of a procedure or of a loop's body
abbrev pub IsBody : List Item → Type 0
IsBody [] = ⊥
IsBody (run c ∷ rest) = IsBody rest
IsBody (exit q r ∷ rest) = IsBody rest
IsBody (again q invariant ∷ rest) = Unit {0}
IsBody (return q post ∷ rest) = Unit {0}
IsBody (add q given ∷ rest) = ⊥
IsBody (take q want names ∷ rest) = ⊥
IsBody (gave q set removed ∷ rest) = ⊥
IsBody (head q test invariant body ∷ rest) = ⊥
IsBody (end q ∷ rest) = ⊥

-- such things, after some that are assumed
abbrev pub IsAssuming : List Item → Type 0
IsAssuming [] = ⊥
IsAssuming (add q given ∷ rest) = IsAssuming rest
IsAssuming (run c ∷ rest) = IsBody rest
IsAssuming (exit q r ∷ rest) = IsBody rest
IsAssuming (again q invariant ∷ rest) = Unit {0}
IsAssuming (return q post ∷ rest) = Unit {0}
IsAssuming (take q want names ∷ rest) = ⊥
IsAssuming (gave q set removed ∷ rest) = ⊥
IsAssuming (head q test invariant body ∷ rest) = ⊥
IsAssuming (end q ∷ rest) = ⊥

-- conjuncts to show, and then what that was for: a call, the end of a region, a loop, or the end of all
abbrev pub IsShowing : List Item → Type 0
IsShowing [] = ⊥
IsShowing (take q want names ∷ rest) = IsShowing rest
IsShowing (gave q set removed ∷ rest) = IsAssuming rest
IsShowing (head q test invariant body ∷ rest) = IsBody rest
IsShowing (end q ∷ rest) = Unit {0}
IsShowing (run c ∷ rest) = ⊥
IsShowing (add q given ∷ rest) = ⊥
IsShowing (exit q r ∷ rest) = ⊥
IsShowing (again q invariant ∷ rest) = ⊥
IsShowing (return q post ∷ rest) = ⊥

-- nothing is handed over but while something is being shown
abbrev pub HasForm : Goal → Type 0
HasForm goal = (IsAssuming goal.todo × (goal.state.taken ≡ [])) ⊎ IsShowing goal.todo

-- a command that is to be done next reads variables among those
abbrev pub NextReadsIn : (Var → Bool) → List Item → Type 0
NextReadsIn among (run c ∷ rest) = ReadsIn among c
NextReadsIn among _ = Unit {0}

-- HasShape: the goal speaks of symbols below its next one only, its variables and the fields of its cells are in order,
-- its conjuncts are formed, what it has to do comes in the form that rows make, and the variables that are read next
-- have terms
pub record HasShape (goal : Goal) : Type 0 where
  pub below : AreBelow goal
  pub vars : AreInOrder goal.state.vars
  pub fields : AllByRecursion (λ (a : Numbered). HasOrder a.atom) goal.state.atoms
  pub formed : AreFormed goal
  pub form : HasForm goal
  pub reads : NextReadsIn (is_listed goal.state.vars) goal.todo
