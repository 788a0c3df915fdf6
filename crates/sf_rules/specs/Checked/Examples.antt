-- Examples of rules on small goals: what the whole table leaves of each, for what is known and for
-- the commands that touch a variable or a cell. ExamplesOfBodies and ExamplesOfConjuncts have the
-- other rules.
-- The goals are in the manner of Berdine, Calcagno, O'Hearn, "Symbolic Execution with Separation
-- Logic" (2005).
use Rattle.std.specs.Prelude.{ℕ, ◌-◌, ◌^◌, List, [], ◌∷◌, Some, None}
use Rattle.sf_base.specs.declared.ids.FieldId.{FieldId}
use Rattle.sf_base.specs.declared.ids.Var.TheVariants.{Own}
use Rattle.sf_core.specs.declared.assertion.Test.{Test}
use Rattle.sf_core.specs.declared.assertion.Test.TheVariants.{Equal, Differ}
use Rattle.sf_core.specs.Checked.Assertions.Examples.{place, tl, l, r}
use Rattle.sf_core.specs.Checked.Machine.Examples.{at_own, own_one}
use Rattle.sf_core.specs.declared.command.Expr.{Expr}
use Rattle.sf_core.specs.declared.command.Expr.TheVariants.{Nil as ENil}
use Rattle.sf_core.specs.Program.Syntax.{Block, Command, assign, look_up, mutate, new, dispose, if, done, then}
use Rattle.sf_sym.specs.declared.atom.Atom.{Atom}
use Rattle.sf_sym.specs.declared.atom.Atom.TheVariants.{Points, Ls, Tree}
use Rattle.sf_sym.specs.declared.atom.Numbered.{Numbered}
use Rattle.sf_sym.specs.declared.tag.Tag.{Tag}
use Rattle.sf_sym.specs.declared.tag.Tag.TheVariants as t
use Rattle.sf_sym.specs.declared.term.Term.TheVariants.{Nil, Sym}
use Rattle.sf_sym.specs.Checked.Examples.{state_with}
use Rattle.sf_sym.specs.Goal.{Item, run, gave, end, Goal}
use Rattle.sf_sym.specs.State.{State}
use Rattle.sf_rules.specs.Rules.{HasNoRule, Leaves}
use Rattle.sf_rules.specs.Setting.{Setting}

-- in that state these things are to do
abbrev pub goal_at : State → List Item → Goal
goal_at s todo = record { state = s; todo = todo }

-- nothing but the end
abbrev pub ends : List Item
ends = end place ∷ []

-- that atom, with that number
abbrev pub numbered : ℕ → Atom → Numbered
numbered n x = record { number = n; atom = x }

-- that atom alone, with the number 1
abbrev pub only : Atom → List Numbered
only x = numbered 1 x ∷ []

-- x = s0 and y = s1, s0 != nil, and these atoms
abbrev pub two_variables : List Numbered → State
two_variables atoms = record (state_with atoms) { vars = (Own 0, Sym 0) ∷ (Own 1, Sym 1) ∷ [] }

-- x = s0, s0 != nil, and these atoms, in a program whose cells have neither tl nor r
abbrev pub without_links : List Numbered → State
without_links atoms =
    record (state_with atoms) { links = record { tl = None; pv = None; l = Some l; r = None } }

-- absurd: nothing is left where a cell is at nil, and there is no such rule where the cell is at s0
unfoldable pub NoCellIsAtNil : Type 0
NoCellIsAtNil = (d : Setting)
    → (Leaves d (goal_at (state_with (only (Points Nil []))) ends) t.Absurd [])
    × (HasNoRule d (goal_at (state_with (only (Points (Sym 0) []))) ends) t.Absurd)

-- drop: a list from a term to itself goes, another one doesn't
unfoldable pub EmptyListsGo : Type 0
EmptyListsGo = (d : Setting)
    → (Leaves d
    (goal_at
    (state_with (numbered 1 (Ls (Sym 1) (Sym 1)) ∷ numbered 2 (Ls (Sym 0) Nil) ∷ [])) ends)
    (t.Drop 1)
    (goal_at (state_with (numbered 2 (Ls (Sym 0) Nil) ∷ [])) ends ∷ []))
    × (HasNoRule d (goal_at (state_with (only (Ls (Sym 0) Nil))) ends) (t.Drop 1))

-- force: a list from nil is empty, so s1, where it ends, is nil, in what is to do too; one from s0
-- needn't be, and of one from nil to nil nothing is learnt
unfoldable pub ListsFromNilAreEmpty : Type 0
ListsFromNilAreEmpty = (d : Setting)
    → (Leaves d
    (goal_at (state_with (only (Ls Nil (Sym 1)))) (gave place ((Own 0, Sym 1) ∷ []) [] ∷ ends))
    (t.Force 1)
    (goal_at (state_with (only (Ls Nil Nil))) (gave place ((Own 0, Nil) ∷ []) [] ∷ ends) ∷ []))
    × (HasNoRule d (goal_at (state_with (only (Ls (Sym 0) (Sym 1)))) ends) (t.Force 1))
    × (HasNoRule d (goal_at (state_with (only (Ls Nil Nil))) ends) (t.Force 1))

-- split s0 s1: first s1, the greater, is s0, in the atoms too; second the two differ. A term isn't
-- split from itself, nor from a symbol that isn't there
unfoldable pub SplitReplacesTheGreater : Type 0
SplitReplacesTheGreater = (d : Setting)
    → (Leaves d (goal_at (state_with (only (Ls (Sym 1) Nil))) ends) (t.Split (Sym 0) (Sym 1))
    (goal_at (state_with (only (Ls (Sym 0) Nil))) ends
    ∷ goal_at
    (record (state_with (only (Ls (Sym 1) Nil))) { apart = (Sym 0, Nil) ∷ (Sym 0, Sym 1) ∷ [] })
    ends
    ∷ []))
    × (HasNoRule d (goal_at (state_with []) ends) (t.Split (Sym 0) (Sym 0)))
    × (HasNoRule d (goal_at (state_with []) ends) (t.Split (Sym 2) (Sym 0)))
    × (HasNoRule d (goal_at (state_with []) ends) (t.Split (Sym 0) (Sym 2)))

-- unroll: a list that isn't empty is a cell, which differs from nil, and a list from its link on; a
-- tree is a cell and the trees of its two links. A list and a tree that may be empty aren't, nor
-- those of a program without the links
unfoldable pub UnrolledPartsHaveACell : Type 0
UnrolledPartsHaveACell = (d : Setting)
    → (Leaves d (goal_at (state_with (only (Ls (Sym 0) Nil))) ends) (t.Unroll 1)
    (goal_at (record (state_with []) {
      apart = (Sym 0, Nil) ∷ (Sym 0, Nil) ∷ [];
      atoms = numbered 2 (Points (Sym 0) ((tl, Sym 2) ∷ [])) ∷ numbered 3 (Ls (Sym 2) Nil) ∷ [];
      next_sym = 3;
      next_atom = 4;
    }) ends ∷ []))
    × (Leaves d (goal_at (state_with (only (Tree (Sym 0)))) ends) (t.Unroll 1)
    (goal_at (record (state_with []) {
      apart = (Sym 0, Nil) ∷ (Sym 0, Nil) ∷ [];
      atoms = numbered 2 (Points (Sym 0) ((l, Sym 2) ∷ (r, Sym 3) ∷ []))
          ∷ numbered 3 (Tree (Sym 2)) ∷ numbered 4 (Tree (Sym 3)) ∷ [];
      next_sym = 4;
      next_atom = 5;
    }) ends ∷ []))
    × (HasNoRule d (goal_at (state_with (only (Ls (Sym 0) (Sym 1)))) ends) (t.Unroll 1))
    × (HasNoRule d (goal_at (state_with (only (Tree (Sym 1)))) ends) (t.Unroll 1))
    × (HasNoRule d (goal_at (without_links (only (Ls (Sym 0) Nil))) ends) (t.Unroll 1))
    × (HasNoRule d (goal_at (without_links (only (Tree (Sym 0)))) ends) (t.Unroll 1))

-- before a command: it is first, and then the end
abbrev pub before : State → Command → Goal
before s c = goal_at s (run c ∷ ends)

-- assign: y = x. Then y has the term of x
unfoldable pub AssignedVariablesHaveTheTerm : Type 0
AssignedVariablesHaveTheTerm = (d : Setting)
    → Leaves d (before (two_variables []) (assign place (at_own 1) (own_one 0))) t.Assign
    (goal_at (record (two_variables []) { vars = (Own 0, Sym 0) ∷ (Own 1, Sym 0) ∷ [] }) ends ∷ [])

-- the same where numbers could run out: there is no rule at all
unfoldable pub NumbersDontRunOut : Type 0
NumbersDontRunOut = (d : Setting)
    → (HasNoRule d
    (before (record (two_variables []) { next_sym = 2 ^ 32 - 1023 })
    (assign place (at_own 1) (own_one 0)))
    t.Assign)
    × (HasNoRule d
    (before (record (two_variables []) { next_atom = 2 ^ 32 - 1023 })
    (assign place (at_own 1) (own_one 0)))
    t.Assign)

-- a cell at s0 with nil in its field tl
abbrev pub cell_to_nil : List Numbered
cell_to_nil = only (Points (Sym 0) ((tl, Nil) ∷ []))

-- y = x->f
abbrev pub looks_for : FieldId → Command
looks_for f = look_up place (at_own 1) (own_one 0) f

-- look: a field that is known gives y its term; one that isn't gets a fresh symbol, in the cell
-- too. By another atom's number there is no such rule, nor where the cell is at y
unfoldable pub LookedUpFieldsAreKnown : Type 0
LookedUpFieldsAreKnown = (d : Setting)
    → (Leaves d (before (two_variables cell_to_nil) (looks_for tl)) (t.Look 1)
    (goal_at
    (record (two_variables cell_to_nil) { vars = (Own 0, Sym 0) ∷ (Own 1, Nil) ∷ [] }) ends ∷ []))
    × (Leaves d (before (two_variables cell_to_nil) (looks_for l)) (t.Look 1)
    (goal_at (record (two_variables (only (Points (Sym 0) ((tl, Nil) ∷ (l, Sym 2) ∷ [])))) {
      vars = (Own 0, Sym 0) ∷ (Own 1, Sym 2) ∷ [];
      next_sym = 3;
    }) ends ∷ []))
    × (HasNoRule d (before (two_variables cell_to_nil) (looks_for tl)) (t.Look 2))
    × (HasNoRule d (before (two_variables (only (Points (Sym 1) ((tl, Nil) ∷ [])))) (looks_for tl))
    (t.Look 1))

-- mutate: x->tl = y. Then the field has the term of y, and the other fields have theirs. Where the
-- cell is at y there is no such rule
unfoldable pub MutatedFieldsHaveTheTerm : Type 0
MutatedFieldsHaveTheTerm = (d : Setting)
    → (Leaves d (before (two_variables (only (Points (Sym 0) ((tl, Nil) ∷ (l, Nil) ∷ []))))
    (mutate place (own_one 0) tl (own_one 1))) (t.Mutate 1)
    (goal_at (two_variables (only (Points (Sym 0) ((tl, Sym 1) ∷ (l, Nil) ∷ [])))) ends ∷ []))
    × (HasNoRule d
    (before (two_variables (only (Points (Sym 1) []))) (mutate place (own_one 0) tl (own_one 1)))
    (t.Mutate 1))

-- new: y is a fresh symbol, at which there is a cell, so it differs from nil; nothing is known of
-- the cell's fields
unfoldable pub NewCellsAreFresh : Type 0
NewCellsAreFresh = (d : Setting)
    → Leaves d (before (two_variables cell_to_nil) (new place (at_own 1))) t.New
    (goal_at (record (two_variables []) {
      vars = (Own 0, Sym 0) ∷ (Own 1, Sym 2) ∷ [];
      apart = (Sym 0, Nil) ∷ (Sym 2, Nil) ∷ [];
      atoms = numbered 1 (Points (Sym 0) ((tl, Nil) ∷ [])) ∷ numbered 2 (Points (Sym 2) []) ∷ [];
      next_sym = 3;
      next_atom = 3;
    }) ends ∷ [])

-- dispose: the cell of x goes, and nothing else; a list at x is no cell, and a cell at y isn't at x
unfoldable pub DisposedCellsGo : Type 0
DisposedCellsGo = (d : Setting)
    → (Leaves d
    (before (two_variables (numbered 1 (Points (Sym 0) []) ∷ numbered 2 (Ls (Sym 1) Nil) ∷ []))
    (dispose place (own_one 0))) (t.Dispose 1)
    (goal_at (two_variables (numbered 2 (Ls (Sym 1) Nil) ∷ [])) ends ∷ []))
    × (HasNoRule d (before (two_variables (only (Ls (Sym 0) Nil))) (dispose place (own_one 0)))
    (t.Dispose 1))
    × (HasNoRule d (before (two_variables (only (Points (Sym 1) []))) (dispose place (own_one 0)))
    (t.Dispose 1))

-- x = nil, and y = nil
abbrev pub changing_x : Block
changing_x = then (assign place (at_own 0) ENil) done

abbrev pub changing_y : Block
changing_y = then (assign place (at_own 1) ENil) done

-- if (x TEST nil) x = nil; else y = nil;
abbrev pub choice_by : Test Expr → Command
choice_by test = if place test changing_x changing_y

-- the rules of a choice whose test is so: this one leaves that branch, and the other isn't there
abbrev pub Goes : Setting → Test Expr → (this other : Tag) → (branch : Item) → Type 0
Goes d test this other branch =
    (Leaves d (before (two_variables []) (choice_by test)) this
    (goal_at (two_variables []) (branch ∷ ends) ∷ []))
    × (HasNoRule d (before (two_variables []) (choice_by test)) other)

-- then, else: x differs from nil, so by that test the first branch is left, and by an equality the
-- second one; whether y is nil isn't decided
unfoldable pub DecidedBranchesAreLeft : Type 0
DecidedBranchesAreLeft = (d : Setting)
    → Goes d (Differ (own_one 0) ENil) t.Then t.Else (run (assign place (at_own 0) ENil))
    × Goes d (Equal (own_one 0) ENil) t.Else t.Then (run (assign place (at_own 1) ENil))
    × (HasNoRule d (before (two_variables []) (choice_by (Equal (own_one 1) ENil))) t.Then)
    × (HasNoRule d (before (two_variables []) (choice_by (Equal (own_one 1) ENil))) t.Else)
