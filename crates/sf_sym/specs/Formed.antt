-- Which conjuncts may stand in a goal: their existentials are counted, segments and trees go along fields that there are,
-- cells have no more fields than programs, and no existential is made twice.
-- Ordinary: formulas that are well formed; the scopes are those of the program's annotations.
use Rattle.std.specs.Prelude.{◌≡◌, ℕ, ◌<◌, ◌≤◌, Bool, true, false, Some, None, [], get_or, length}
use Rattle.std.specs.List.{AllByRecursion, IsDistinct}
use Rattle.sf_base.specs.declared.ids.FieldId.{FieldId}
use Rattle.sf_base.specs.declared.limits.TheConstants.{FIELDS}
use Rattle.sf_core.specs.Assertions.Occurs.{OccursInAll}
use Rattle.sf_core.specs.Assertions.Scopes.{overlap}
use Rattle.sf_core.specs.declared.assertion.Operand.{Operand}
use Rattle.sf_core.specs.declared.assertion.Operand.TheVariants.{Known, Exists}
use Rattle.sf_core.specs.declared.fields.Links.{Links}
use Rattle.sf_core.specs.Program.Formed.{TestWithin, conjuncts_scopes, is_made}
use Rattle.sf_core.specs.Program.Syntax.{Conjunct, holds, points, segment, doubly, tree, choose, Level, level, Conjuncts, none, also}
use Rattle.sf_sym.specs.declared.term.Term.{Term}
use Rattle.sf_sym.specs.Goal.{Item, run, add, take, gave, head, again, exit, return, end, Goal}
use Rattle.sf_sym.specs.Pending.{Pending}

-- the operand is a term, or one of that many existentials
abbrev pub IsCounted : ℕ → Operand Term → Type 0
IsCounted count (Known t) = Unit {0}
IsCounted count (Exists n) = n < count

-- conjuncts mention only that many existentials, in branches too, their segments and trees go along the fields of
-- these links, and their cells have no more fields than a program may have
abbrev mutual
  -- a level does so
  pub LevelFormed : Links → ℕ → Level Term → Type 0
  LevelFormed links count (level made cs) = AllFormed links count cs

  -- each of the conjuncts does so
  pub AllFormed : Links → ℕ → Conjuncts Term → Type 0
  AllFormed links count none = Unit {0}
  AllFormed links count (also c cs) = OneFormed links count c × AllFormed links count cs

  -- one conjunct does so
  pub OneFormed : Links → ℕ → Conjunct Term → Type 0
  OneFormed links count (holds q t) = TestWithin (IsCounted count) t
  OneFormed links count (points q x fs) =
      IsCounted count x × AllByRecursion (λ (f : FieldId × Operand Term). IsCounted count f.1) fs
      × (length fs ≤ FIELDS)
  OneFormed links count (segment q next x y) =
      (links.tl ≡ Some next) × IsCounted count x × IsCounted count y
  OneFormed links count (doubly q next back x b l y) =
      (links.tl ≡ Some next) × (links.pv ≡ Some back) × IsCounted count x × IsCounted count b × IsCounted count l
      × IsCounted count y
  OneFormed links count (tree q left right x) =
      (links.l ≡ Some left) × (links.r ≡ Some right) × IsCounted count x
  OneFormed links count (choose q t this that) =
      TestWithin (IsCounted count) t × LevelFormed links count this × LevelFormed links count that

-- what is still to be assumed or to be shown does so, by the existentials that it has a place for
abbrev pub PendingFormed : Links → Pending → Type 0
PendingFormed links p = AllFormed links (length p.bindings) p.conjuncts

-- an existential is made by one of the branches that aren't chosen yet
abbrev pub is_made_inside : Pending → ℕ → Bool
is_made_inside p n = is_made (conjuncts_scopes p.conjuncts []) n

-- no two of the branches make one existential, and none makes one that occurs outside of it or has a term
pub record IsScoped (p : Pending) : Type 0 where
  pub distinct : IsDistinct overlap (conjuncts_scopes p.conjuncts [])
  pub occurring : (n : ℕ) → OccursInAll p.conjuncts (Exists n) → is_made_inside p n ≡ false
  pub bound : (n : ℕ) (t : Term) → get_or p.bindings n None ≡ Some t → is_made_inside p n ≡ false

-- whether there are conjuncts
abbrev pub are_some : Conjuncts Term → Bool
are_some none = false
are_some (also c cs) = true

-- what is still to do has only such conjuncts, and some where conjuncts are to be assumed
abbrev pub ItemFormed : Links → Item → Type 0
ItemFormed links (run c) = Unit {0}
ItemFormed links (add p given) =
    PendingFormed links given × IsScoped given × (are_some given.conjuncts ≡ true)
ItemFormed links (take p want names) = PendingFormed links want
ItemFormed links (gave p set removed) = Unit {0}
ItemFormed links (head p test invariant body) = Unit {0}
ItemFormed links (again p invariant) = Unit {0}
ItemFormed links (exit p r) = Unit {0}
ItemFormed links (return p post) = Unit {0}
ItemFormed links (end p) = Unit {0}

-- a goal has only such conjuncts
abbrev pub AreFormed : Goal → Type 0
AreFormed goal = AllByRecursion (ItemFormed goal.state.links) goal.todo
