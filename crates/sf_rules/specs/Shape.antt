-- IsShaped: what each goal of a program's procedure is like, as a whole and in its program; and which goals those are, by
-- how many tags they come after. A first goal has the shape, and every rule keeps it.
-- Berdine, Calcagno, O'Hearn, "Symbolic Execution with Separation Logic" (2005), section 4: what symbolic execution
-- starts from and keeps.
use Rattle.std.specs.Prelude.{◌≡◌, ℕ, zero, suc, ◌+◌, ◌<◌, true, Some, List, [], ◌∷◌, is_some, length, Contains}
use Rattle.std.specs.List.{AllByRecursion, slice_get}
use Rattle.sf_calls.specs.Changes.{changed, changes_in}
use Rattle.sf_core.specs.declared.command.Expr.{Expr}
use Rattle.sf_core.specs.declared.fields.Links.{Links}
use Rattle.sf_core.specs.Program.Syntax.{Assertion, Block, done, then, Call, Command, assign, look_up, mutate, new, dispose, if, while, call, fork, with, Resource}
use Rattle.sf_rules.specs.declared.few.TheConstants.{TOO_MANY}
use Rattle.sf_rules.specs.First.{links_of}
use Rattle.sf_rules.specs.HasVariables.{HasVariables}
use Rattle.sf_rules.specs.Setting.{Setting}
use Rattle.sf_rules.specs.Words.{pending_assertion}
use Rattle.sf_rules.specs.Rules.{Leaves}
use Rattle.sf_sym.specs.declared.atom.Atom.{Atom}
use Rattle.sf_sym.specs.declared.atom.Atom.TheVariants.{Points, Ls, Tree, Dll}
use Rattle.sf_sym.specs.declared.atom.Numbered.{Numbered}
use Rattle.sf_sym.specs.declared.tag.Tag.{Tag}
use Rattle.sf_sym.specs.declared.term.Term.{Term}
use Rattle.sf_sym.specs.Formed.{IsScoped, PendingFormed}
use Rattle.sf_sym.specs.Goal.{Item, run, add, take, gave, head, again, exit, return, end, Goal}
use Rattle.sf_sym.specs.Numbers.{AreRising, numbers}
use Rattle.sf_sym.specs.Shape.{HasShape}
use Rattle.sf_sym.specs.State.{State}

-- THE STATE a segment has a field to go along, and a doubly linked one or a tree two
abbrev pub HasLinks : Links → Atom → Type 0
HasLinks links (Points t fields) = Unit {0}
HasLinks links (Ls t u) = is_some links.tl ≡ true
HasLinks links (Tree t) = (is_some links.l ≡ true) × (is_some links.r ≡ true)
HasLinks links (Dll v p l u) = (is_some links.tl ≡ true) × (is_some links.pv ≡ true)

-- a state goes by the program's links, which its segments and trees have, and the numbers of its atoms rise up to the
-- next one
pub record StateFits (d : Setting) (s : State) : Type 0 where
  pub links : s.links ≡ links_of d.program
  pub atoms : AllByRecursion (λ (a : Numbered). HasLinks (links_of d.program) a.atom) s.atoms
  pub rising : AreRising (numbers s.atoms)
  pub given : AllByRecursion (λ n. n < s.next_atom) (numbers s.atoms)

-- WHAT THERE IS TO DO an assertion may stand in goals with these links, whatever the terms of its expressions are
abbrev pub MayStand : Links → Assertion → Type 0
MayStand links a =
    (to : Expr → Term) → PendingFormed links (pending_assertion to a) × IsScoped (pending_assertion to a)

-- so may an annotation in its order
abbrev pub AnnotationFits : Setting → Assertion → Type 0
AnnotationFits d a = MayStand (links_of d.program) (d.ordered a)

-- the procedure that is called is there
abbrev pub IsThere : Setting → Call → Type 0
IsThere d c = is_some (slice_get d.program.procedures c.callee.0) ≡ true

-- a call's procedures and a region's resource are there, and few variables change
abbrev pub CommandFits : Setting → Command → Type 0
CommandFits d (assign p x e) = Unit {0}
CommandFits d (look_up p x e f) = Unit {0}
CommandFits d (mutate p e f v) = Unit {0}
CommandFits d (new p x) = Unit {0}
CommandFits d (dispose p e) = Unit {0}
CommandFits d (if p test this that) = Unit {0}
CommandFits d (while p test invariant body) = Unit {0}
CommandFits d (call p c) = IsThere d c × (length (changed d.sets c) < TOO_MANY)
CommandFits d (fork p c e) =
    IsThere d c × IsThere d e × (length (changed d.sets c) + length (changed d.sets e) < TOO_MANY)
CommandFits d (with p r test body) =
    (of : Resource) × (slice_get d.program.resources r.0 ≡ Some of)
    × (length of.variables < TOO_MANY)

-- commands fit, with those inside them and the invariants of loops
abbrev mutual
  -- each of a block
  pub BlockFits : Setting → Block → Type 0
  BlockFits d done = Unit {0}
  BlockFits d (then c b) = WholeFits d c × BlockFits d b

  -- one as a whole
  pub WholeFits : Setting → Command → Type 0
  WholeFits d (if p test this that) = BlockFits d this × BlockFits d that
  WholeFits d (while p test invariant body) =
      AnnotationFits d invariant × (length (changes_in d.sets body) < TOO_MANY) × BlockFits d body
  WholeFits d (with p r test body) = CommandFits d (with p r test body) × BlockFits d body
  WholeFits d c = CommandFits d c

-- what is to do fits, up to the end of a loop's body, of the procedure or of all, which comes
abbrev pub TodoFits : Setting → List Item → Type 0
TodoFits d [] = ⊥
TodoFits d (run c ∷ rest) = WholeFits d c × TodoFits d rest
TodoFits d (add p given ∷ rest) = TodoFits d rest
TodoFits d (take p want names ∷ rest) = TodoFits d rest
TodoFits d (gave p set removed ∷ rest) = TodoFits d rest
TodoFits d (head p test invariant body ∷ rest) =
    AnnotationFits d invariant × (length (changes_in d.sets body) < TOO_MANY) × BlockFits d body × TodoFits d rest
TodoFits d (again p invariant ∷ rest) = AnnotationFits d invariant
TodoFits d (exit p r ∷ rest) = (is_some (slice_get d.program.resources r.0) ≡ true) × TodoFits d rest
TodoFits d (return p owed ∷ rest) = AllByRecursion (MayStand (links_of d.program)) owed
TodoFits d (end p ∷ rest) = Unit {0}

-- IsShaped: the goal has the shape that the laws of rows ask of a goal alone, its state and what it has to do fit the
-- program, and it has the variables that this reads
pub record IsShaped (d : Setting) (goal : Goal) : Type 0 where
  pub shape : HasShape goal
  pub state : StateFits d goal.state
  pub todo : TodoFits d goal.todo
  pub variables : HasVariables d.program goal

-- IsGoalAfter: the goal comes after so many tags: it is the first one, or a rule leaves it of one that comes a tag earlier
abbrev pub IsGoalAfter : Setting → (first : Goal) → ℕ → Goal → Type 0
IsGoalAfter d first zero goal = goal ≡ first
IsGoalAfter d first (suc n) goal =
    (before : Goal) × IsGoalAfter d first n before
    × (tag : Tag) × (left : List Goal) × Leaves d before tag left × Contains left goal
