-- Conjuncts, commands and things to do that fit still do with other terms, before others and one after the other.
-- Names: `PART-fits_with` of a part with other things in place of what has a value, `WORD-fits` of what that word makes,
-- `WORD-below` of the terms in it.
use Rattle.std.specs.List.{AllByRecursion}
use Rattle.std.proofs.Common.{◌≡◌, ℕ, ◌≤◌, true, map, None, List, [], ◌∷◌, ◌++◌, length, refl, sym, ap, ◌∙◌, subst, inl, inr}
use Rattle.std.proofs.lemmas.List.{length-map}
use Rattle.std.proofs.lemmas.Option.{none-some}
use Rattle.sf_base.proofs.Lists.{replicate-default}
use Rattle.sf_base.specs.declared.ids.FieldId.{FieldId}
use Rattle.sf_base.specs.declared.limits.TheConstants.{FIELDS}
use Rattle.sf_base.specs.declared.place.Place.{Place}
use Rattle.sf_core.specs.Assertions.Occurs.{OccursInAll}
use Rattle.sf_core.specs.declared.assertion.Operand.{Operand}
use Rattle.sf_core.specs.declared.assertion.Operand.TheVariants.{Known}
use Rattle.sf_core.specs.declared.assertion.Test.{Test}
use Rattle.sf_core.specs.declared.assertion.Test.TheVariants.{True, Equal, Differ}
use Rattle.sf_core.specs.declared.command.Expr.{Expr}
use Rattle.sf_core.specs.declared.fields.Links.{Links}
use Rattle.sf_core.specs.Program.Syntax.{Assertion, Block, done, then, Conjunct, holds, points, segment, doubly, tree, choose, Conjuncts, none, also, Level, level}
use Rattle.sf_rules.specs.First.{links_of}
use Rattle.sf_rules.specs.Setting.{Setting}
use Rattle.sf_rules.specs.Words.{pending_assertion, test_conjuncts, to_add, to_add_test, to_take, to_take_each}
use Rattle.sf_rules.specs.Shape.{BlockFits, MayStand}
use Rattle.sf_rules.proofs.Fits.{ConjunctFits, ConjunctsFit, ItemsFit, LevelFits, formed-all}
use Rattle.sf_sym.specs.Below.{AllInItem, AllInPending}
use Rattle.sf_sym.specs.declared.term.Term.{Term}
use Rattle.sf_sym.specs.Equalities.{item_with}
use Rattle.sf_sym.specs.Formed.{are_some}
use Rattle.sf_sym.specs.Goal.{Item, run, add, take, gave, head, again, exit, return, end, adding, taking, to_run, unless_none}
use Rattle.sf_sym.specs.Checked.Lemmas.OtherTerms.{occurs-with}
use Rattle.sf_sym.specs.Mapped.{conjunct_with, conjuncts_with, level_with, operand_with}
use Rattle.sf_sym.specs.Pending.{Pending, before, conjuncts_of}

-- CONJUNCTS with other things in place of what has a value
module _ {E F : Type 0} (to : E → F) (links : Links) where
  mutual
    level-fits_with : (a : Level E) → LevelFits links a → LevelFits links (level_with to a)
    level-fits_with (level made cs) f = conjuncts-fit_with cs f

    pub conjuncts-fit_with : (cs : Conjuncts E) → ConjunctsFit links cs → ConjunctsFit links (conjuncts_with to cs)
    conjuncts-fit_with none f = tt
    conjuncts-fit_with (also c cs) f = (conjunct-fits_with c f.0, conjuncts-fit_with cs f.1)

    conjunct-fits_with : (c : Conjunct E) → ConjunctFits links c → ConjunctFits links (conjunct_with to c)
    conjunct-fits_with (holds q t) f = tt
    conjunct-fits_with (points q x fs) f =
        subst (λ n. n ≤ FIELDS) (sym (length-map fs (λ (g : FieldId × Operand E). (g.0, operand_with to g.1)))) f
    conjunct-fits_with (segment q next x y) f = f
    conjunct-fits_with (doubly q next back x b l y) f = f
    conjunct-fits_with (tree q left right x) f = f
    conjunct-fits_with (choose q t this that) f = (level-fits_with this f.0, level-fits_with that f.1)

-- those of a level
pub level-fits : {E : Type 0} (links : Links) (a : Level E) → LevelFits links a → ConjunctsFit links (conjuncts_of a)
level-fits links (level made cs) f = f

-- those of a level before others
pub before-fit : {E : Type 0} (links : Links) (bs cs : Conjuncts E) → ConjunctsFit links bs → ConjunctsFit links cs
    → ConjunctsFit links (before bs cs)
before-fit links none cs f g = g
before-fit links (also b bs) cs f g = (f.0, before-fit links bs cs f.1 g)

-- those of an annotation, and of a test
pub pending-fits : (links : Links) (to : Expr → Term) (a : Assertion) → MayStand links a
    → ConjunctsFit links (pending_assertion to a).conjuncts
pending-fits links to a f =
    formed-all links (length (pending_assertion to a).bindings) (pending_assertion to a).conjuncts (f to).0

test-fits : (links : Links) (p : Place) (to : Expr → Term) (t : Test Expr)
    → ConjunctsFit links (test_conjuncts p to t)
test-fits links p to True = tt
test-fits links p to (Equal e f) = (tt, tt)
test-fits links p to (Differ e f) = (tt, tt)

-- THINGS TO DO with other terms
pub todo-fits_with : (d : Setting) (to : Term → Term) (todo : List Item) → ItemsFit d todo
    → ItemsFit d (map (item_with to) todo)
todo-fits_with d to [] f = f
todo-fits_with d to (run c ∷ rest) f = (f.0, todo-fits_with d to rest f.1)
todo-fits_with d to (add p given ∷ rest) f = (
  go given.conjuncts f.0,
  conjuncts-fit_with to (links_of d.program) given.conjuncts f.1,
  todo-fits_with d to rest f.2,
)
  where
    go : (cs : Conjuncts Term) → are_some cs ≡ true → are_some (conjuncts_with to cs) ≡ true
    go none e = e
    go (also c cs) e = refl
todo-fits_with d to (take p want names ∷ rest) f =
    (conjuncts-fit_with to (links_of d.program) want.conjuncts f.0, todo-fits_with d to rest f.1)
todo-fits_with d to (gave p set removed ∷ rest) f = todo-fits_with d to rest f
todo-fits_with d to (head p test invariant body ∷ rest) f = (f.0, f.1, f.2, todo-fits_with d to rest f.3)
todo-fits_with d to (again p invariant ∷ rest) f = f
todo-fits_with d to (exit p r ∷ rest) f = (f.0, todo-fits_with d to rest f.1)
todo-fits_with d to (return p post ∷ rest) f = f
todo-fits_with d to (end p ∷ rest) f = tt

-- to assume and to show conjuncts, if there are any
pub adding-fits : (d : Setting) (p : Place) (given : Pending) (rest : List Item)
    → ConjunctsFit (links_of d.program) given.conjuncts → ItemsFit d rest → ItemsFit d (adding p given ++ rest)
adding-fits d p given rest f g = go given.conjuncts refl
  where
    go : (cs : Conjuncts Term) → given.conjuncts ≡ cs → ItemsFit d (unless_none cs (add p given) ++ rest)
    go none e = g
    go (also c cs) e = (ap are_some e, f, g)

pub taking-fits : (d : Setting) (p : Place) (want : Pending) (names : List (List ℕ)) (rest : List Item)
    → ConjunctsFit (links_of d.program) want.conjuncts → ItemsFit d rest → ItemsFit d (taking p want names ++ rest)
taking-fits d p want names rest f g = go want.conjuncts
  where
    go : (cs : Conjuncts Term) → ItemsFit d (unless_none cs (take p want names) ++ rest)
    go none = g
    go (also c cs) = (f, g)

-- annotations and tests to assume, and annotations to show
pub to_add-fits : (d : Setting) (p : Place) (to : Expr → Term) (a : Assertion) (rest : List Item)
    → MayStand (links_of d.program) a → ItemsFit d rest → ItemsFit d (to_add p to a ++ rest)
to_add-fits d p to a rest f g =
    adding-fits d p (pending_assertion to a) rest (pending-fits (links_of d.program) to a f) g

pub to_add_test-fits : (d : Setting) (p : Place) (to : Expr → Term) (t : Test Expr) (rest : List Item)
    → ItemsFit d rest → ItemsFit d (to_add_test p to t ++ rest)
to_add_test-fits d p to t rest g = adding-fits d p _ rest (test-fits (links_of d.program) p to t) g

pub to_take-fits : (d : Setting) (p : Place) (to : Expr → Term) (a : Assertion) (rest : List Item)
    → MayStand (links_of d.program) a → ItemsFit d rest → ItemsFit d (to_take p to a ++ rest)
to_take-fits d p to a rest f g =
    taking-fits d p (pending_assertion to a) a.names rest (pending-fits (links_of d.program) to a f) g

pub to_take_each-fits : (d : Setting) (p : Place) (to : Expr → Term) (owed : List Assertion) (rest : List Item)
    → AllByRecursion (MayStand (links_of d.program)) owed → ItemsFit d rest → ItemsFit d (to_take_each p to owed rest)
to_take_each-fits d p to [] rest f g = g
to_take_each-fits d p to (a ∷ owed) rest f g =
    to_take-fits d p to a (to_take_each p to owed rest) f.0 (to_take_each-fits d p to owed rest f.1 g)

-- commands of a block
pub to_run-fits : (d : Setting) (b : Block) (rest : List Item) → BlockFits d b → ItemsFit d rest
    → ItemsFit d (to_run b ++ rest)
to_run-fits d done rest f g = g
to_run-fits d (then c b) rest f g = (f.0, to_run-fits d b rest f.1 g)

-- TERMS IN THINGS TO DO
module _ (P : Term → Type 0) where
  unless-below : (cs : Conjuncts Term) (item : Item) (rest : List Item) → AllInItem P item
      → AllByRecursion (AllInItem P) rest → AllByRecursion (AllInItem P) (unless_none cs item ++ rest)
  unless-below none item rest a b = b
  unless-below (also c cs) item rest a b = (a, b)

  pub adding-below : (p : Place) (given : Pending) (rest : List Item) → AllInPending P given
      → AllByRecursion (AllInItem P) rest → AllByRecursion (AllInItem P) (adding p given ++ rest)
  adding-below p given rest a b = unless-below given.conjuncts (add p given) rest a b

  pub taking-below : (p : Place) (want : Pending) (names : List (List ℕ)) (rest : List Item) → AllInPending P want
      → AllByRecursion (AllInItem P) rest → AllByRecursion (AllInItem P) (taking p want names ++ rest)
  taking-below p want names rest a b = unless-below want.conjuncts (take p want names) rest a b

  -- an annotation's terms are those of its expressions
  pending-below : (to : Expr → Term) (a : Assertion) → ((e : Expr) → P (to e)) → AllInPending P (pending_assertion to a)
  pending-below to a all = record {
    conjuncts = λ t o. let m = occurs-with to t (conjuncts_of a.level) o in subst P (sym m.2) (all m.0);
    bindings = λ n t e. absurd (none-some t (sym (replicate-default None (length a.names) n) ∙ e));
  }

  pub to_add-below : (p : Place) (to : Expr → Term) (a : Assertion) (rest : List Item) → ((e : Expr) → P (to e))
      → AllByRecursion (AllInItem P) rest → AllByRecursion (AllInItem P) (to_add p to a ++ rest)
  to_add-below p to a rest all b = adding-below p (pending_assertion to a) rest (pending-below to a all) b

  pub to_take-below : (p : Place) (to : Expr → Term) (a : Assertion) (rest : List Item) → ((e : Expr) → P (to e))
      → AllByRecursion (AllInItem P) rest → AllByRecursion (AllInItem P) (to_take p to a ++ rest)
  to_take-below p to a rest all b = taking-below p (pending_assertion to a) a.names rest (pending-below to a all) b

  pub to_take_each-below : (p : Place) (to : Expr → Term) (owed : List Assertion) (rest : List Item)
      → ((e : Expr) → P (to e)) → AllByRecursion (AllInItem P) rest
      → AllByRecursion (AllInItem P) (to_take_each p to owed rest)
  to_take_each-below p to [] rest all b = b
  to_take_each-below p to (a ∷ owed) rest all b =
      to_take-below p to a (to_take_each p to owed rest) all (to_take_each-below p to owed rest all b)

  test-below : (p : Place) (to : Expr → Term) → ((e : Expr) → P (to e)) → (t : Test Expr) (u : Term)
      → OccursInAll (test_conjuncts p to t) (Known u) → P u
  test-below p to all True u o = absurd o
  test-below p to all (Equal e f) u (inl (inl i)) = let same : to e ≡ u = cc in subst P same (all e)
  test-below p to all (Equal e f) u (inl (inr i)) = let same : to f ≡ u = cc in subst P same (all f)
  test-below p to all (Equal e f) u (inr o) = absurd o
  test-below p to all (Differ e f) u (inl (inl i)) = let same : to e ≡ u = cc in subst P same (all e)
  test-below p to all (Differ e f) u (inl (inr i)) = let same : to f ≡ u = cc in subst P same (all f)
  test-below p to all (Differ e f) u (inr o) = absurd o

  pub to_add_test-below : (p : Place) (to : Expr → Term) (t : Test Expr) (rest : List Item) → ((e : Expr) → P (to e))
      → AllByRecursion (AllInItem P) rest → AllByRecursion (AllInItem P) (to_add_test p to t ++ rest)
  to_add_test-below p to t rest all b =
      adding-below p _ rest
      (record { conjuncts = test-below p to all t; bindings = λ n u e. absurd (none-some u e) }) b

  pub to_run-below : (b : Block) (rest : List Item) → AllByRecursion (AllInItem P) rest
      → AllByRecursion (AllInItem P) (to_run b ++ rest)
  to_run-below done rest b = b
  to_run-below (then c cs) rest b = (tt, to_run-below cs rest b)
