-- Suits: how a goal and what there is to do suit a frame: it has the variables and tokens that they speak of.
-- This project's own profile; the variable conditions are those of Berdine, Calcagno, O'Hearn, "Smallfoot" (2005).
use Rattle.std.specs.Prelude.{◌≡◌, ◌↔◌, ℕ, ◌+◌, ◌<◌, ◌==◌, nat_lt, Bool, true, false, ◌&&◌, ◌||◌, not, is_some, List, [], ◌∷◌, length, Some, Contains}
use Rattle.std.specs.List.{AllByRecursion, slice_get}
use Rattle.sf_base.specs.declared.ids.ProcId.{ProcId}
use Rattle.sf_base.specs.declared.ids.ResId.{ResId}
use Rattle.sf_base.specs.declared.ids.Var.{Var}
use Rattle.sf_base.specs.declared.ids.Var.TheVariants.{Own, Shared}
use Rattle.sf_base.specs.declared.value.Value.{Value}
use Rattle.sf_base.specs.declared.value.Value.TheVariants.{Nil as nil}
use Rattle.sf_base.specs.HeapStore.{Heap}
use Rattle.sf_calls.specs.Assigned.{Assigned, MayChange}
use Rattle.sf_calls.specs.Changes.{changed, changes_in}
use Rattle.sf_calls.specs.Conditions.{Free}
use Rattle.sf_core.specs.Assertions.Occurs.{OccursIn, VarOccursIn}
use Rattle.sf_core.specs.Checked.Assertions.Precise.{IsPrecise}
use Rattle.sf_core.specs.Assertions.Sat.{Sat, value}
use Rattle.sf_core.specs.declared.assertion.Operand.TheVariants.{Exists}
use Rattle.sf_core.specs.declared.assertion.Test.{Test}
use Rattle.sf_core.specs.declared.assertion.Test.TheVariants.{True, Equal, Differ}
use Rattle.sf_core.specs.declared.command.Expr.{Expr}
use Rattle.sf_core.specs.declared.command.Expr.TheVariants.{Var as Variable, Nil, Int}
use Rattle.sf_core.specs.Machine.Step.{procedure_at}
use Rattle.sf_core.specs.Program.Syntax.{Assertion, Block, done, then, Call, Command, assign, look_up, mutate, new, dispose, if, while, call, fork, with, Procedure, Resource}
use Rattle.sf_rules.specs.Setting.{Setting}
use Rattle.sf_safe.specs.Checked.Local.{Fits, Local}
use Rattle.sf_sound.specs.Checked.Claims.{Does}
use Rattle.sf_sym.specs.declared.term.Term.{Term}
use Rattle.sf_sym.specs.Goal.{Item, run, add, take, gave, head, again, exit, return, end, Goal}
use Rattle.sf_sym.specs.HoldsIn.{HoldsIn}
use Rattle.sf_sym.specs.Ready.{is_listed}
use Rattle.sf_sym.specs.State.{State}

-- Domain: the variables and tokens that a frame has
pub record Domain : Type 0 where
  pub has : Var → Bool
  pub holds : ResId → Bool

-- the frame has just these
pub record HasDomain (D : Domain) (l : Local) : Type 0 where
  pub variables : (x : Var) → is_some (l.values x) ≡ D.has x
  pub tokens : (r : ResId) → is_some (l.tokens r) ≡ D.holds r

-- whether it is one of that many variables of the resource
abbrev pub is_of : ResId → (count : ℕ) → Var → Bool
is_of r count (Own n) = false
is_of r count (Shared q i) = (q.0 == r.0) && nat_lt i count

-- with those of a resource that is entered
abbrev pub with_resource : ResId → (count : ℕ) → Domain → Domain
with_resource r count D = record {
  has = λ x. is_of r count x || D.has x;
  holds = λ q. (q.0 == r.0) || D.holds q;
}

-- without those of a resource that is left
abbrev pub without_resource : ResId → (count : ℕ) → Domain → Domain
without_resource r count D = record {
  has = λ x. not (is_of r count x) && D.has x;
  holds = λ q. not (q.0 == r.0) && D.holds q;
}

-- it has nothing of that resource
pub record LacksResource (r : ResId) (count : ℕ) (D : Domain) : Type 0 where
  pub variables : (x : Var) → is_of r count x ≡ true → D.has x ≡ false
  pub token : D.holds r ≡ false

-- it has all of that resource
pub record HasResource (r : ResId) (count : ℕ) (D : Domain) : Type 0 where
  pub variables : (x : Var) → is_of r count x ≡ true → D.has x ≡ true
  pub token : D.holds r ≡ true

-- it has the variable that an expression reads, if it reads one
abbrev pub Reads : Domain → Expr → Type 0
Reads D (Variable x) = D.has x.var ≡ true
Reads D Nil = Unit {0}
Reads D (Int i) = Unit {0}

-- those that a test reads
abbrev pub ReadsTest : Domain → Test Expr → Type 0
ReadsTest D True = Unit {0}
ReadsTest D (Equal x y) = Reads D x × Reads D y
ReadsTest D (Differ x y) = Reads D x × Reads D y

-- those that values read
abbrev pub ReadsAll : Domain → List Expr → Type 0
ReadsAll D es = AllByRecursion (Reads D) es

-- an assertion speaks of these variables alone, and of no existential but its own
pub record IsPlain (V : Var → Type 0) (a : Assertion) : Type 0 where
  pub variables : (x : Var) → VarOccursIn a.level x → V x
  pub closed : (n : ℕ) → OccursIn a.level (Exists n) → ⊥

-- an annotation may be used where one has these variables: in its order it is such an assertion and means the same,
-- and it picks out one part of each heap
pub record IsUsable (d : Setting) (V : Var → Type 0) (a : Assertion) : Type 0 where
  pub plain : IsPlain V (d.ordered a)
  pub means : (vars : Var → Value) (heap : Heap) → Sat a.level (value vars) (λ n. nil) heap
      ↔ Sat (d.ordered a).level (value vars) (λ n. nil) heap
  pub precise : (vars : Var → Value) → IsPrecise (Sat a.level (value vars) (λ n. nil))

-- a variable that a frame of g has whenever it is called: a reference, a value, or a variable free in it
abbrev pub IsPassed : Setting → ProcId → Procedure → Var → Type 0
IsPassed d f g (Own i) = i < g.references + g.values
IsPassed d f g (Shared r i) = Free d.program f (Shared r i)

-- a call that a frame with these variables may make
pub record CallSuits (d : Setting) (D : Domain) (c : Call) : Type 0 where
  pub callee : Procedure
  pub there : procedure_at d.program c.callee ≡ Some callee
  pub fits : Fits d.program c callee
  pub lent : (x : Var) → MayChange d.program c x → D.has x ≡ true
  pub reads : ReadsAll D c.values
  pub pre : IsUsable d (IsPassed d c.callee callee) callee.pre
  pub post : IsUsable d (IsPassed d c.callee callee) callee.post
  pub lends : (x : Var) → Contains (changed d.sets c) x ↔ MayChange d.program c x

-- a resource that the program has, with its invariant
pub record ResourceSuits (d : Setting) (r : ResId) : Type 0 where
  pub resource : Resource
  pub there : slice_get d.program.resources r.0 ≡ Some resource
  pub invariant : IsUsable d (λ x. is_of r (length resource.variables) x ≡ true) resource.invariant

abbrev mutual
  -- a command that a frame with these variables may do
  pub CommandSuits : Setting → Domain → Command → Type 0
  CommandSuits d D (assign q x e) = (D.has x.var ≡ true) × Reads D e
  CommandSuits d D (look_up q x e field) = (D.has x.var ≡ true) × Reads D e
  CommandSuits d D (mutate q e field v) = Reads D e × Reads D v
  CommandSuits d D (new q x) = D.has x.var ≡ true
  CommandSuits d D (dispose q e) = Reads D e
  CommandSuits d D (if q test this that) = ReadsTest D test × BlockSuits d D this × BlockSuits d D that
  CommandSuits d D (while q test invariant body) =
      ReadsTest D test × IsUsable d (λ x. D.has x ≡ true) invariant
      × ((x : Var) → Assigned d.program body x → Contains (changes_in d.sets body) x) × BlockSuits d D body
  CommandSuits d D (call q c) = CallSuits d D c
  CommandSuits d D (fork q c e) =
      CallSuits d D c × CallSuits d D e
      × ((x : Var) → MayChange d.program c x → MayChange d.program e x → ⊥)
  -- a region that is entered is none that the frame has anything of
  CommandSuits d D (with q r test body) =
      (s : ResourceSuits d r) × (LacksResource r (length s.resource.variables) D
      → ReadsTest (with_resource r (length s.resource.variables) D) test
      × BlockSuits d (with_resource r (length s.resource.variables) D) body)

  -- commands
  pub BlockSuits : Setting → Domain → Block → Type 0
  BlockSuits d D done = Unit {0}
  BlockSuits d D (then c b) = CommandSuits d D c × BlockSuits d D b

-- things to do that suit a frame with these variables
abbrev pub TodoSuits : Setting → Domain → List Item → Type 0
TodoSuits d D [] = Unit {0}
TodoSuits d D (run c ∷ rest) = CommandSuits d D c × TodoSuits d D rest
TodoSuits d D (add q given ∷ rest) = TodoSuits d D rest
TodoSuits d D (take q want names ∷ rest) = TodoSuits d D rest
TodoSuits d D (gave q set removed ∷ rest) =
    AllByRecursion (λ (x : Var × Term). D.has x.0 ≡ true) set
    × AllByRecursion (λ (x : Var). D.has x ≡ false) removed × TodoSuits d D rest
TodoSuits d D (head q test invariant body ∷ rest) =
    CommandSuits d D (while q test invariant body) × TodoSuits d D rest
TodoSuits d D (again q invariant ∷ rest) = IsUsable d (λ x. D.has x ≡ true) invariant
TodoSuits d D (exit q r ∷ rest) =
    (s : ResourceSuits d r) × HasResource r (length s.resource.variables) D
    × TodoSuits d (without_resource r (length s.resource.variables) D) rest
TodoSuits d D (return q owed ∷ rest) = AllByRecursion (IsPlain (λ x. D.has x ≡ true)) owed
TodoSuits d D (end q ∷ rest) = Unit {0}

-- each variable of the frame has a term in the state
abbrev pub IsListed : Domain → State → Type 0
IsListed D s = (x : Var) → D.has x ≡ true → is_listed s.vars x ≡ true

-- a goal suits a frame with these variables
pub record Suits (d : Setting) (D : Domain) (goal : Goal) : Type 0 where
  pub listed : IsListed D goal.state
  pub todo : TodoSuits d D goal.todo

-- Claim: wherever the goal holds of a frame that it suits, the frame does what there is to do
abbrev pub Claim : Setting → Goal → Type 0
Claim d goal = (n : ℕ) (w : ℕ → Value) (D : Domain) (l : Local) (taken : Heap) → Suits d D goal → HasDomain D l
    → HoldsIn w goal l.values l.cells taken → Does d.program n w goal.todo l
