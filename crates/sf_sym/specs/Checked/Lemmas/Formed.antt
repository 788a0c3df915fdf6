-- Goals whose conjuncts are formed have formed conjuncts with other terms in place of those that occur.
-- Names: `formed-with_PART`, `exists-with_PART` of the existentials that occur in what has other terms, `scopes-with_PART`
-- of the scopes that it has.
use Rattle.std.specs.List.{AllByRecursion, IsDistinct}
use Rattle.std.specs.Option.{option_map}
use Rattle.std.specs.Prelude.{◌⊎◌, ◌≤◌, length}
use Rattle.std.proofs.Common.{◌≡◌, ℕ, Bool, true, false, cond, List, [], ◌∷◌, Option, Some, None, map, refl, sym, ap, ◌∙◌, subst, inl, inr}
use Rattle.std.proofs.lemmas.List.{length-map}
use Rattle.sf_base.specs.declared.ids.FieldId.{FieldId}
use Rattle.sf_base.specs.declared.limits.TheConstants.{FIELDS}
use Rattle.sf_base.specs.declared.place.Place.{Place}
use Rattle.sf_core.specs.Assertions.Occurs.{OccursIn, OccursInAll, OccursInFields, OccursInOne, OccursInTest}
use Rattle.sf_core.specs.Assertions.Scopes.{overlap}
use Rattle.sf_core.specs.declared.assertion.Operand.{Operand}
use Rattle.sf_core.specs.declared.assertion.Operand.TheVariants.{Known, Exists}
use Rattle.sf_core.specs.declared.assertion.Scope.{Scope}
use Rattle.sf_core.specs.declared.assertion.Test.{Test}
use Rattle.sf_core.specs.declared.assertion.Test.TheVariants.{True, Equal, Differ}
use Rattle.sf_core.specs.declared.fields.Links.{Links}
use Rattle.sf_core.specs.Program.Formed.{TestWithin, conjunct_scopes, conjuncts_scopes, is_made, level_scopes}
use Rattle.sf_core.specs.Program.Syntax.{Conjunct, holds, points, segment, doubly, tree, choose, Level, level, Conjuncts, none, also, Block, done, then}
use Rattle.sf_sym.specs.declared.term.Term.{Term}
use Rattle.sf_sym.specs.Equalities.{assumed_equal, item_with, pending_with, put_for, which_goes, with_one}
use Rattle.sf_sym.specs.Formed.{AllFormed, AreFormed, IsCounted, IsScoped, ItemFormed, LevelFormed, OneFormed, PendingFormed, are_some}
use Rattle.sf_sym.specs.Goal.{Item, run, add, take, gave, head, again, exit, return, end, Goal, adding, taking, to_run, unless_none}
use Rattle.sf_sym.specs.Checked.Lemmas.OtherTerms.{bindings-made}
use Rattle.sf_sym.specs.Mapped.{operand_with, test_with, level_with, conjuncts_with, conjunct_with}
use Rattle.sf_sym.specs.Pending.{Pending}
use Rattle.sf_sym.specs.Tests.{same_term}

-- The existentials and the scopes of conjuncts with other things in place of what has a value
module _ {E F : Type 0} (to : E → F) where
  -- an existential is the one that it was
  exists-with_operand : (n : ℕ) (x : Operand E) → Exists n ≡ operand_with to x → Exists n ≡ x
  exists-with_operand n (Known e) i = absurd (cc)
  exists-with_operand n (Exists m) i = let same : n ≡ m = cc in ap Exists same

  exists-with_two : (n : ℕ) (x y : Operand E) → (Exists n ≡ operand_with to x) ⊎ (Exists n ≡ operand_with to y)
      → (Exists n ≡ x) ⊎ (Exists n ≡ y)
  exists-with_two n x y (inl i) = inl (exists-with_operand n x i)
  exists-with_two n x y (inr i) = inr (exists-with_operand n y i)

  exists-with_test : (n : ℕ) (t : Test (Operand E)) → OccursInTest (test_with to t) (Exists n)
      → OccursInTest t (Exists n)
  exists-with_test n True o = absurd o
  exists-with_test n (Equal x y) o = exists-with_two n x y o
  exists-with_test n (Differ x y) o = exists-with_two n x y o

  exists-with_fields : (n : ℕ) (fs : List (FieldId × Operand E))
      → OccursInFields (map (λ f. (f.0, operand_with to f.1)) fs) (Exists n) → OccursInFields fs (Exists n)
  exists-with_fields n [] o = absurd o
  exists-with_fields n (f ∷ fs) (inl i) = inl (exists-with_operand n f.1 i)
  exists-with_fields n (f ∷ fs) (inr o) = inr (exists-with_fields n fs o)

  mutual
    exists-with_level : (n : ℕ) (a : Level E) → OccursIn (level_with to a) (Exists n) → OccursIn a (Exists n)
    exists-with_level n (level made cs) o = (exists-with_all n cs o.0, o.1)

    pub exists-with_all : (n : ℕ) (cs : Conjuncts E) → OccursInAll (conjuncts_with to cs) (Exists n)
        → OccursInAll cs (Exists n)
    exists-with_all n none o = absurd o
    exists-with_all n (also c cs) (inl o) = inl (exists-with_one n c o)
    exists-with_all n (also c cs) (inr o) = inr (exists-with_all n cs o)

    exists-with_one : (n : ℕ) (c : Conjunct E) → OccursInOne (conjunct_with to c) (Exists n)
        → OccursInOne c (Exists n)
    exists-with_one n (holds p t) o = exists-with_test n t o
    exists-with_one n (points p x fs) (inl i) = inl (exists-with_operand n x i)
    exists-with_one n (points p x fs) (inr o) = inr (exists-with_fields n fs o)
    exists-with_one n (segment p next x y) o = exists-with_two n x y o
    exists-with_one n (doubly p next back x b l y) (inl i) = inl (exists-with_operand n x i)
    exists-with_one n (doubly p next back x b l y) (inr (inl i)) = inr (inl (exists-with_operand n b i))
    exists-with_one n (doubly p next back x b l y) (inr (inr o)) = inr (inr (exists-with_two n l y o))
    exists-with_one n (tree p left right x) o = exists-with_operand n x o
    exists-with_one n (choose p t this that) (inl o) = inl (exists-with_test n t o)
    exists-with_one n (choose p t this that) (inr (inl o)) = inr (inl (exists-with_level n this o))
    exists-with_one n (choose p t this that) (inr (inr o)) = inr (inr (exists-with_level n that o))

  mutual
    scopes-with_level : (a : Level E) (rest : List Scope) → level_scopes (level_with to a) rest ≡ level_scopes a rest
    scopes-with_level (level made cs) rest = ap (λ ss. made ∷ ss) (scopes-with_all cs rest)

    -- the scopes are those that there were
    pub scopes-with_all : (cs : Conjuncts E) (rest : List Scope)
        → conjuncts_scopes (conjuncts_with to cs) rest ≡ conjuncts_scopes cs rest
    scopes-with_all none rest = refl
    scopes-with_all (also c cs) rest =
        scopes-with_one c (conjuncts_scopes (conjuncts_with to cs) rest)
        ∙ ap (conjunct_scopes c) (scopes-with_all cs rest)

    scopes-with_one : (c : Conjunct E) (rest : List Scope)
        → conjunct_scopes (conjunct_with to c) rest ≡ conjunct_scopes c rest
    scopes-with_one (holds p t) rest = refl
    scopes-with_one (points p x fs) rest = refl
    scopes-with_one (segment p next x y) rest = refl
    scopes-with_one (doubly p next back x b l y) rest = refl
    scopes-with_one (tree p left right x) rest = refl
    scopes-with_one (choose p t this that) rest =
        scopes-with_level this (level_scopes (level_with to that) rest)
        ∙ ap (level_scopes this) (scopes-with_level that rest)

-- Conjuncts that are formed are so with other terms
module _ (to : Term → Term) (links : Links) where
  formed-with_operand : (count : ℕ) (x : Operand Term) → IsCounted count x → IsCounted count (operand_with to x)
  formed-with_operand count (Known t) f = tt
  formed-with_operand count (Exists n) f = f

  formed-with_test : (count : ℕ) (t : Test (Operand Term)) → TestWithin (IsCounted count) t
      → TestWithin (IsCounted count) (test_with to t)
  formed-with_test count True f = tt
  formed-with_test count (Equal x y) f = (formed-with_operand count x f.0, formed-with_operand count y f.1)
  formed-with_test count (Differ x y) f = (formed-with_operand count x f.0, formed-with_operand count y f.1)

  formed-with_fields : (count : ℕ) (fs : List (FieldId × Operand Term))
      → AllByRecursion (λ (f : FieldId × Operand Term). IsCounted count f.1) fs
      → AllByRecursion (λ (f : FieldId × Operand Term). IsCounted count f.1)
      (map (λ f. (f.0, operand_with to f.1)) fs)
  formed-with_fields count [] f = tt
  formed-with_fields count (x ∷ xs) f = (formed-with_operand count x.1 f.0, formed-with_fields count xs f.1)

  mutual
    formed-with_level : (count : ℕ) (a : Level Term) → LevelFormed links count a
        → LevelFormed links count (level_with to a)
    formed-with_level count (level made cs) f = formed-with_all count cs f

    pub formed-with_all : (count : ℕ) (cs : Conjuncts Term) → AllFormed links count cs
        → AllFormed links count (conjuncts_with to cs)
    formed-with_all count none f = tt
    formed-with_all count (also c cs) f = (formed-with_one count c f.0, formed-with_all count cs f.1)

    formed-with_one : (count : ℕ) (c : Conjunct Term) → OneFormed links count c
        → OneFormed links count (conjunct_with to c)
    formed-with_one count (holds p t) f = formed-with_test count t f
    formed-with_one count (points p x fs) f = (
      formed-with_operand count x f.0,
      formed-with_fields count fs f.1,
      subst (λ n. n ≤ FIELDS) (sym (length-map fs (λ (g : FieldId × Operand Term). (g.0, operand_with to g.1)))) f.2,
    )
    formed-with_one count (segment p next x y) f =
        (f.0, formed-with_operand count x f.1, formed-with_operand count y f.2)
    formed-with_one count (doubly p next back x b l y) f = (
      f.0,
      f.1,
      formed-with_operand count x f.2,
      formed-with_operand count b f.3,
      formed-with_operand count l f.4,
      formed-with_operand count y f.5,
    )
    formed-with_one count (tree p left right x) f = (f.0, f.1, formed-with_operand count x f.2)
    formed-with_one count (choose p t this that) f =
        (formed-with_test count t f.0, formed-with_level count this f.1, formed-with_level count that f.2)

  pub formed-with_pending : (p : Pending) → PendingFormed links p → PendingFormed links (pending_with to p)
  formed-with_pending p f =
      subst (λ n. AllFormed links n (conjuncts_with to p.conjuncts)) (sym (length-map p.bindings (option_map to)))
      (formed-with_all (length p.bindings) p.conjuncts f)

  -- scopes stay apart
  pub scoped-with : (p : Pending) → IsScoped p → IsScoped (pending_with to p)
  scoped-with p s =
      let same = scopes-with_all to p.conjuncts [] in
      let made = λ (n : ℕ). ap (λ ss. is_made ss n) same in
      record {
        distinct = subst (IsDistinct overlap) (sym same) s.distinct;
        occurring = λ n o. made n ∙ s.occurring n (exists-with_all to n p.conjuncts o);
        bound = λ n t e. let (u, i, j) = bindings-made to p.bindings n t e in made n ∙ s.bound n u i;
      }

  some-with : (cs : Conjuncts Term) → are_some cs ≡ true → are_some (conjuncts_with to cs) ≡ true
  some-with none e = e
  some-with (also c cs) e = refl

  formed-with_item : (item : Item) → ItemFormed links item → ItemFormed links (item_with to item)
  formed-with_item (run c) f = tt
  formed-with_item (add p given) f = (formed-with_pending given f.0, scoped-with given f.1, some-with given.conjuncts f.2)
  formed-with_item (take p want names) f = formed-with_pending want f
  formed-with_item (gave p set removed) f = tt
  formed-with_item (head p test invariant body) f = tt
  formed-with_item (again p invariant) f = tt
  formed-with_item (exit p r) f = tt
  formed-with_item (return p post) f = tt
  formed-with_item (end p) f = tt

  pub formed-with_items : (items : List Item) → AllByRecursion (ItemFormed links) items
      → AllByRecursion (ItemFormed links) (map (item_with to) items)
  formed-with_items [] f = tt
  formed-with_items (x ∷ xs) f = (formed-with_item x f.0, formed-with_items xs f.1)

-- a goal is formed where two terms are assumed to be the same
pub formed-equal : (t u : Term) (goal : Goal) → AreFormed goal → AreFormed (assumed_equal t u goal)
formed-equal t u goal f = go (same_term t u)
  where
    one : (o : Option (ℕ × Term)) → AreFormed (with_one o goal)
    one None = f
    one (Some r) = formed-with_items (put_for r.0 r.1) goal.state.links goal.todo f

    go : (x : Bool) → AreFormed (cond x goal (with_one (which_goes t u) goal))
    go true = f
    go false = one (which_goes t u)

-- Things to do that are formed
module _ (links : Links) where
  -- the commands of a block have no conjuncts
  pub formed-run : (b : Block) → AllByRecursion (ItemFormed links) (to_run b)
  formed-run done = tt
  formed-run (then c b) = (tt, formed-run b)

  -- to assume conjuncts, if there are any
  pub formed-adding : (p : Place) (given : Pending) → PendingFormed links given → IsScoped given
      → AllByRecursion (ItemFormed links) (adding p given)
  formed-adding p given f s = go given.conjuncts refl
    where
      go : (cs : Conjuncts Term) → given.conjuncts ≡ cs
          → AllByRecursion (ItemFormed links) (unless_none cs (add p given))
      go none e = tt
      go (also c cs) e = ((f, s, ap are_some e), tt)

  -- to show conjuncts, if there are any
  pub formed-taking : (p : Place) (want : Pending) (names : List (List ℕ)) → PendingFormed links want
      → AllByRecursion (ItemFormed links) (taking p want names)
  formed-taking p want names f = go want.conjuncts
    where
      go : (cs : Conjuncts Term) → AllByRecursion (ItemFormed links) (unless_none cs (take p want names))
      go none = tt
      go (also c cs) = (f, tt)
