-- HasVariables: a goal has each variable that what it has to do reads, where it reads it: also those of the regions that
-- are entered on the way, and no longer those of the ones that are left.
-- After the variable conditions of Berdine, Calcagno, O'Hearn, "Smallfoot" (2005).
use Rattle.std.specs.Prelude.{◌≡◌, Bool, true, false, ◌&&◌, ◌||◌, not, List, [], ◌∷◌}
use Rattle.std.specs.List.{AllByRecursion, list_any}
use Rattle.sf_base.specs.declared.ids.Var.{Var}
use Rattle.sf_base.specs.Variables.{same_var}
use Rattle.sf_core.specs.Program.Syntax.{Block, done, then, Command, assign, look_up, mutate, new, dispose, if, while, call, fork, with, Program}
use Rattle.sf_rules.specs.Resources.{variables_of}
use Rattle.sf_sym.specs.Goal.{Item, run, add, take, gave, head, again, exit, return, end, Goal}
use Rattle.sf_sym.specs.Ready.{IsTestIn, ReadsIn, is_listed}

-- those, and the variables of the list
abbrev pub with_those : List Var → (Var → Bool) → Var → Bool
with_those xs among = λ x. list_any (λ y. same_var y x) xs || among x

-- those, without the variables of the list
abbrev pub without_those : List Var → (Var → Bool) → Var → Bool
without_those xs among = λ x. not (list_any (λ y. same_var y x) xs) && among x

-- none of the list is among those
abbrev pub HasNone : List Var → (Var → Bool) → Type 0
HasNone xs among = AllByRecursion (λ x. among x ≡ false) xs

abbrev mutual
  -- what the commands of a block read is among those
  pub BlockReadsIn : Program → (Var → Bool) → Block → Type 0
  BlockReadsIn p among done = Unit {0}
  BlockReadsIn p among (then c b) = WholeReadsIn p among c × BlockReadsIn p among b

  -- what a command reads, with those inside it: in a region the resource's variables are there too, and before it none is
  pub WholeReadsIn : Program → (Var → Bool) → Command → Type 0
  WholeReadsIn p among (if q test this that) =
      IsTestIn among test × BlockReadsIn p among this × BlockReadsIn p among that
  WholeReadsIn p among (while q test invariant body) = IsTestIn among test × BlockReadsIn p among body
  WholeReadsIn p among (with q r test body) =
      HasNone (variables_of p r) among × IsTestIn (with_those (variables_of p r) among) test
      × BlockReadsIn p (with_those (variables_of p r) among) body
  WholeReadsIn p among (assign q x e) = ReadsIn among (assign q x e)
  WholeReadsIn p among (look_up q x e field) = ReadsIn among (look_up q x e field)
  WholeReadsIn p among (mutate q e field v) = ReadsIn among (mutate q e field v)
  WholeReadsIn p among (new q x) = ReadsIn among (new q x)
  WholeReadsIn p among (dispose q e) = ReadsIn among (dispose q e)
  WholeReadsIn p among (call q c) = ReadsIn among (call q c)
  WholeReadsIn p among (fork q c d) = ReadsIn among (fork q c d)

-- what there is to do reads variables among those; what is assumed and shown on the way has terms in their place
abbrev pub TodoReadsIn : Program → (Var → Bool) → List Item → Type 0
TodoReadsIn p among [] = Unit {0}
TodoReadsIn p among (run c ∷ rest) = WholeReadsIn p among c × TodoReadsIn p among rest
TodoReadsIn p among (add q given ∷ rest) = TodoReadsIn p among rest
TodoReadsIn p among (take q want names ∷ rest) = TodoReadsIn p among rest
TodoReadsIn p among (gave q set removed ∷ rest) = TodoReadsIn p (without_those removed among) rest
TodoReadsIn p among (head q test invariant body ∷ rest) =
    WholeReadsIn p among (while q test invariant body) × TodoReadsIn p among rest
TodoReadsIn p among (again q invariant ∷ rest) = Unit {0}
TodoReadsIn p among (exit q r ∷ rest) = TodoReadsIn p (without_those (variables_of p r) among) rest
TodoReadsIn p among (return q owed ∷ rest) = Unit {0}
TodoReadsIn p among (end q ∷ rest) = Unit {0}

-- HasVariables: what there is to do reads variables among some that have terms
pub record HasVariables (p : Program) (goal : Goal) : Type 0 where
  pub among : Var → Bool
  pub listed : (x : Var) → among x ≡ true → is_listed goal.state.vars x ≡ true
  pub reads : TodoReadsIn p among goal.todo
