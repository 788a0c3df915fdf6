-- Heads: what a command has in itself, apart from the commands inside it, and the walk over all commands.
-- Ordinary: the nodes of a syntax tree, each before its subtrees, in text order.
use Rattle.std.specs.Prelude.{List, [], ◌∷◌, ◌++◌, Contains}
use Rattle.std.specs.List.{flat_map}
use Rattle.sf_base.specs.declared.ids.ResId.{ResId}
use Rattle.sf_core.specs.declared.assertion.Operand.{Operand}
use Rattle.sf_core.specs.declared.assertion.Operand.TheVariants.{Known, Exists}
use Rattle.sf_core.specs.declared.assertion.Test.{Test}
use Rattle.sf_core.specs.declared.assertion.Test.TheVariants.{True, Equal, Differ}
use Rattle.sf_core.specs.declared.command.Expr.{Expr}
use Rattle.sf_core.specs.declared.command.Expr.TheVariants.{Var as Variable, Nil, Int}
use Rattle.sf_core.specs.declared.command.Occurrence.{Occurrence}
use Rattle.sf_core.specs.Program.Syntax.{Assertion, Conjunct, holds, points, segment, doubly, tree, choose, Level, level, Conjuncts, none, also, Call, Command, assign, look_up, mutate, new, dispose, if, while, call, fork, with, Block, done, then}

-- the variables that occur in an expression, with their places
abbrev pub expr_occurrences : Expr → List Occurrence
expr_occurrences (Variable x) = x ∷ []
expr_occurrences Nil = []
expr_occurrences (Int i) = []

-- in an operand
abbrev pub operand_occurrences : Operand Expr → List Occurrence
operand_occurrences (Known e) = expr_occurrences e
operand_occurrences (Exists n) = []

-- in a test, given those of its sides
abbrev pub test_occurrences : {E : Type 0} → (E → List Occurrence) → Test E → List Occurrence
test_occurrences f True = []
test_occurrences f (Equal x y) = f x ++ f y
test_occurrences f (Differ x y) = f x ++ f y

-- in an annotation, in text order
abbrev mutual
  -- in a level: in its conjuncts
  pub level_occurrences : Level Expr → List Occurrence
  level_occurrences (level made cs) = conjuncts_occurrences cs

  -- in conjuncts, one after the other
  pub conjuncts_occurrences : Conjuncts Expr → List Occurrence
  conjuncts_occurrences none = []
  conjuncts_occurrences (also c cs) = conjunct_occurrences c ++ conjuncts_occurrences cs

  -- in one conjunct: in its root and fields, its sides, or its test and then its branches
  pub conjunct_occurrences : Conjunct Expr → List Occurrence
  conjunct_occurrences (holds q t) = test_occurrences operand_occurrences t
  conjunct_occurrences (points q root fs) =
      operand_occurrences root ++ flat_map (λ f. operand_occurrences f.1) fs
  conjunct_occurrences (segment q next from to) = operand_occurrences from ++ operand_occurrences to
  conjunct_occurrences (doubly q next back from before last to) =
      operand_occurrences from
      ++ (operand_occurrences before ++ (operand_occurrences last ++ operand_occurrences to))
  conjunct_occurrences (tree q left right root) = operand_occurrences root
  conjunct_occurrences (choose q t this that) =
      test_occurrences operand_occurrences t ++ (level_occurrences this ++ level_occurrences that)

-- in a call: its references, and then its values
abbrev pub call_occurrences : Call → List Occurrence
call_occurrences c = c.references ++ flat_map expr_occurrences c.values

-- in the command itself, apart from its calls, in text order
abbrev pub head_occurrences : Command → List Occurrence
head_occurrences (assign q x e) = x ∷ expr_occurrences e
head_occurrences (look_up q x e field) = x ∷ expr_occurrences e
head_occurrences (mutate q e field d) = expr_occurrences e ++ expr_occurrences d
head_occurrences (new q x) = x ∷ []
head_occurrences (dispose q e) = expr_occurrences e
head_occurrences (if q t c d) = test_occurrences expr_occurrences t
head_occurrences (while q t i c) = test_occurrences expr_occurrences t ++ level_occurrences i.level
head_occurrences (call q c) = []
head_occurrences (fork q c d) = []
head_occurrences (with q r t c) = test_occurrences expr_occurrences t

-- the variables that the command itself sets, apart from its calls
abbrev pub head_sets : Command → List Occurrence
head_sets (assign q x e) = x ∷ []
head_sets (look_up q x e field) = x ∷ []
head_sets (new q x) = x ∷ []
head_sets _ = []

-- its calls
abbrev pub head_calls : Command → List Call
head_calls (call q c) = c ∷ []
head_calls (fork q c d) = c ∷ d ∷ []
head_calls _ = []

-- its two parallel calls, if it makes such
abbrev pub head_forks : Command → List (Call × Call)
head_forks (fork q c d) = (c, d) ∷ []
head_forks _ = []

-- all that occurs in the command itself and in its calls
abbrev pub occurrences_at : Command → List Occurrence
occurrences_at c = head_occurrences c ++ flat_map call_occurrences (head_calls c)

-- its invariant, if it is a loop
abbrev pub head_invariants : Command → List Assertion
head_invariants (while q t i c) = i ∷ []
head_invariants _ = []

-- the resource that it enters, if it is a region: what occurs in it, and the commands inside it, are inside
-- that region
abbrev pub head_regions : Command → List ResId
head_regions (with q r t c) = r ∷ []
head_regions _ = []

-- a command, and the resources of the regions around it
pub record Site : Type 0 where
  pub entered : List ResId
  pub command : Command

-- the walk over commands, each before those inside it, in text order
abbrev mutual
  -- over a block inside those regions
  pub sites : List ResId → Block → List Site
  sites entered done = []
  sites entered (then c b) =
      record { entered = entered; command = c } ∷ (inner_sites entered c ++ sites entered b)

  -- over the commands inside a command
  pub inner_sites : List ResId → Command → List Site
  inner_sites entered (if q t c d) = sites entered c ++ sites entered d
  inner_sites entered (while q t i c) = sites entered c
  inner_sites entered (with q r t c) = sites (r ∷ entered) c
  inner_sites entered _ = []

-- one of the commands has that property, where it is
abbrev pub Somewhere : (Site → Type 0) → Block → Type 0
Somewhere P b = (s : Site) × Contains (sites [] b) s × P s
