-- Conjuncts that fit: a cell has no more fields than a program, and segments and trees have fields to go along; things to
-- do whose conjuncts fit too, and goals that are shaped as far as this goes.
-- Names: `formed-LAW` of conjuncts that are formed, `items-fit`, `todo-fits`.
use Rattle.std.specs.List.{AllByRecursion, slice_get}
use Rattle.std.proofs.Common.{◌≡◌, ℕ, ◌<◌, ◌≤◌, true, ap, List, [], ◌∷◌, is_some, length}
use Rattle.sf_base.specs.declared.limits.TheConstants.{FIELDS}
use Rattle.sf_calls.specs.Changes.{changes_in}
use Rattle.sf_core.specs.declared.fields.Links.{Links}
use Rattle.sf_core.specs.Program.Syntax.{Conjunct, holds, points, segment, doubly, tree, choose, Level, level, Conjuncts, none, also}
use Rattle.sf_rules.specs.declared.few.TheConstants.{TOO_MANY}
use Rattle.sf_rules.specs.First.{links_of}
use Rattle.sf_rules.specs.Setting.{Setting}
use Rattle.sf_rules.specs.Shape.{AnnotationFits, BlockFits, MayStand, StateFits, TodoFits, WholeFits}
use Rattle.sf_sym.specs.Below.{AreBelow}
use Rattle.sf_sym.specs.declared.term.Term.{Term}
use Rattle.sf_sym.specs.Formed.{AllFormed, ItemFormed, LevelFormed, OneFormed, are_some}
use Rattle.sf_sym.specs.Goal.{Item, run, add, take, gave, head, again, exit, return, end, Goal}

abbrev mutual
  -- those of a level
  pub LevelFits : {E : Type 0} → Links → Level E → Type 0
  LevelFits links (level made cs) = ConjunctsFit links cs

  -- each of them
  pub ConjunctsFit : {E : Type 0} → Links → Conjuncts E → Type 0
  ConjunctsFit links none = Unit {0}
  ConjunctsFit links (also c cs) = ConjunctFits links c × ConjunctsFit links cs

  -- one
  pub ConjunctFits : {E : Type 0} → Links → Conjunct E → Type 0
  ConjunctFits links (holds q t) = Unit {0}
  ConjunctFits links (points q x fs) = length fs ≤ FIELDS
  ConjunctFits links (segment q next x y) = is_some links.tl ≡ true
  ConjunctFits links (doubly q next back x b l y) = (is_some links.tl ≡ true) × (is_some links.pv ≡ true)
  ConjunctFits links (tree q left right x) = (is_some links.l ≡ true) × (is_some links.r ≡ true)
  ConjunctFits links (choose q t this that) = LevelFits links this × LevelFits links that

-- conjuncts that are formed fit
mutual
  pub formed-level : (links : Links) (count : ℕ) (a : Level Term) → LevelFormed links count a → LevelFits links a
  formed-level links count (level made cs) f = formed-all links count cs f

  pub formed-all : (links : Links) (count : ℕ) (cs : Conjuncts Term) → AllFormed links count cs
      → ConjunctsFit links cs
  formed-all links count none f = tt
  formed-all links count (also c cs) f = (formed-one links count c f.0, formed-all links count cs f.1)

  formed-one : (links : Links) (count : ℕ) (c : Conjunct Term) → OneFormed links count c → ConjunctFits links c
  formed-one links count (holds q t) f = tt
  formed-one links count (points q x fs) f = f.2
  formed-one links count (segment q next x y) f = ap is_some f.0
  formed-one links count (doubly q next back x b l y) f = (ap is_some f.0, ap is_some f.1)
  formed-one links count (tree q left right x) f = (ap is_some f.0, ap is_some f.1)
  formed-one links count (choose q t this that) f =
      (formed-level links count this f.1, formed-level links count that f.2)

-- what is to do fits, with the conjuncts that are to be assumed or shown
abbrev pub ItemsFit : Setting → List Item → Type 0
ItemsFit d [] = ⊥
ItemsFit d (run c ∷ rest) = WholeFits d c × ItemsFit d rest
ItemsFit d (add p given ∷ rest) =
    (are_some given.conjuncts ≡ true) × ConjunctsFit (links_of d.program) given.conjuncts × ItemsFit d rest
ItemsFit d (take p want names ∷ rest) = ConjunctsFit (links_of d.program) want.conjuncts × ItemsFit d rest
ItemsFit d (gave p set removed ∷ rest) = ItemsFit d rest
ItemsFit d (head p test invariant body ∷ rest) =
    AnnotationFits d invariant × (length (changes_in d.sets body) < TOO_MANY) × BlockFits d body × ItemsFit d rest
ItemsFit d (again p invariant ∷ rest) = AnnotationFits d invariant
ItemsFit d (exit p r ∷ rest) = (is_some (slice_get d.program.resources r.0) ≡ true) × ItemsFit d rest
ItemsFit d (return p owed ∷ rest) = AllByRecursion (MayStand (links_of d.program)) owed
ItemsFit d (end p ∷ rest) = Unit {0}

-- it does where what is to do fits and is formed, and only there
pub items-fit : (d : Setting) (todo : List Item) → AllByRecursion (ItemFormed (links_of d.program)) todo
    → TodoFits d todo → ItemsFit d todo
items-fit d [] f t = t
items-fit d (run c ∷ rest) f t = (t.0, items-fit d rest f.1 t.1)
items-fit d (add p given ∷ rest) f t =
    (f.0.2, formed-all (links_of d.program) (length given.bindings) given.conjuncts f.0.0, items-fit d rest f.1 t)
items-fit d (take p want names ∷ rest) f t =
    (formed-all (links_of d.program) (length want.bindings) want.conjuncts f.0, items-fit d rest f.1 t)
items-fit d (gave p set removed ∷ rest) f t = items-fit d rest f.1 t
items-fit d (head p test invariant body ∷ rest) f t = (t.0, t.1, t.2, items-fit d rest f.1 t.3)
items-fit d (again p invariant ∷ rest) f t = t
items-fit d (exit p r ∷ rest) f t = (t.0, items-fit d rest f.1 t.1)
items-fit d (return p owed ∷ rest) f t = t
items-fit d (end p ∷ rest) f t = tt

pub todo-fits : (d : Setting) (todo : List Item) → ItemsFit d todo → TodoFits d todo
todo-fits d [] t = t
todo-fits d (run c ∷ rest) t = (t.0, todo-fits d rest t.1)
todo-fits d (add p given ∷ rest) t = todo-fits d rest t.2
todo-fits d (take p want names ∷ rest) t = todo-fits d rest t.1
todo-fits d (gave p set removed ∷ rest) t = todo-fits d rest t
todo-fits d (head p test invariant body ∷ rest) t = (t.0, t.1, t.2, todo-fits d rest t.3)
todo-fits d (again p invariant ∷ rest) t = t
todo-fits d (exit p r ∷ rest) t = (t.0, todo-fits d rest t.1)
todo-fits d (return p owed ∷ rest) t = t
todo-fits d (end p ∷ rest) t = tt

-- the goal speaks of symbols below its next one only, and its state and what it has to do fit
pub record IsFitting (d : Setting) (goal : Goal) : Type 0 where
  pub below : AreBelow goal
  pub state : StateFits d goal.state
  pub todo : ItemsFit d goal.todo
