-- What goals with a region in front claim: whatever share the resource has comes in, and the body goes on with it.
-- Names: `enter-claims`, `entered-LAW` of what a frame has then; `of-LAW`, `listed-of` of a resource's variables.
use Rattle.std.specs.List.{AllByRecursion, slice_get}
use Rattle.std.specs.Prelude.{◌⊎◌, ◌<◌, ◌≤◌, ◌==◌, ◌&&◌, ◌||◌, not, length, Contains}
use Rattle.std.specs.Option.{unwrap_or}
use Rattle.std.proofs.Common.{◌≡◌, ℕ, zero, suc, ◌+◌, Bool, true, false, Some, List, [], ◌∷◌, ◌++◌, refl, sym, ap, ap₂, ◌∙◌, subst, subst₂, inl, inr, arith}
use Rattle.std.proofs.lemmas.Bool.{or_cases, or_left}
use Rattle.std.proofs.lemmas.Bool.Decides.{Decides-eqb, nat_tests}
use Rattle.std.proofs.lemmas.Option.{same_Some, slice_get_within}
use Rattle.sf_base.proofs.Elements.{contains-cons, contains-nil}
use Rattle.sf_base.proofs.HeapSplits.{star-drop_right, star-of}
use Rattle.sf_base.proofs.Options.{is_some-false}
use Rattle.sf_base.proofs.MapSplits.{empty-holds, empty_map, splits-at_left, splits-empty_right, splits-has_right}
use Rattle.sf_base.specs.declared.ids.ResId.{ResId}
use Rattle.sf_base.specs.declared.ids.Var.{Var}
use Rattle.sf_base.specs.declared.ids.Var.TheVariants.{Own, Shared}
use Rattle.sf_base.specs.declared.place.Place.{Place}
use Rattle.sf_base.specs.declared.value.Value.{Value}
use Rattle.sf_base.specs.declared.value.Value.TheVariants.{Nil as nil}
use Rattle.sf_base.specs.HeapStore.{Heap}
use Rattle.sf_core.specs.Assertions.Sat.{IsTrueOf, Sat}
use Rattle.sf_core.specs.declared.assertion.Test.{Test}
use Rattle.sf_core.specs.declared.command.Expr.{Expr}
use Rattle.sf_core.specs.declared.command.Expr.TheVariants.{Var as Variable, Nil, Int}
use Rattle.sf_core.specs.Machine.Config.{items, leave}
use Rattle.sf_core.specs.Program.Formed.{ExprWithin, variable_count}
use Rattle.sf_core.specs.Program.Syntax.{Block, Resource, with}
use Rattle.sf_rules.specs.Checked.LawsOfCommands.{before_command}
use Rattle.sf_rules.specs.Resources.{variables_from}
use Rattle.sf_rules.specs.Setting.{Setting}
use Rattle.sf_rules.specs.Checked.Lemmas.Forms.{body-run, form-command}
use Rattle.sf_rules.specs.Words.{pending_assertion, to_add, to_add_test}
use Rattle.sf_safe.specs.Checked.Local.{IsShare, Local, LocalParts, look, value_in}
use Rattle.sf_safe.specs.Checked.LocalSafe.{LocalSafe}
use Rattle.sf_sound.proofs.Annotated.{HaveValues, usable-assumed, usable-same}
use Rattle.sf_sound.proofs.Keeping.{of-decides, of-is, share-some, share-token, size, some-apart, some-has, some-splits}
use Rattle.sf_sound.proofs.Standing.{body-does, domain-test, owed-run, steps-run, suits-run}
use Rattle.sf_sound.proofs.States.{renewed, renewed-apart, renewed-atoms, renewed-vars, state-fresh, terms-values}
use Rattle.sf_sound.proofs.Tests.{pending_test, test-holds, test-within}
use Rattle.sf_sound.proofs.Words.{adding-does, adding-suits, body-holds}
use Rattle.sf_sym.specs.Checked.Lemmas.Adding.{adding-holds}
use Rattle.sf_sound.specs.Checked.Claims.{Owed, steps}
use Rattle.sf_sound.specs.Checked.Suits.{BlockSuits, Claim, Domain, HasDomain, IsListed, IsUsable, LacksResource, ReadsTest, ResourceSuits, Suits, TodoSuits, is_of, with_resource, without_resource}
use Rattle.sf_sym.specs.declared.term.Term.{Term}
use Rattle.sf_sym.specs.Goal.{Item, exit, Goal, to_run}
use Rattle.sf_sym.specs.Holds.{AddsHold, AtomsHold}
use Rattle.sf_sym.specs.HoldsIn.{HoldsIn}
use Rattle.sf_sym.specs.State.{State, term}
use Rattle.sf_sym.specs.Variables.{with_fresh}
use Rattle.sf_sym.specs.Shape.{HasShape, IsBody}

-- THE VARIABLES OF A RESOURCE those that are listed are the resource's
pub of-listed : (r : ResId) (count i : ℕ) (names : List (List ℕ)) → i + length names ≤ count
    → AllByRecursion (λ (x : Var). is_of r count x ≡ true) (variables_from r i names)
of-listed r count i [] h = tt
of-listed r count i (name ∷ names) h = (
  of-is r count (Shared r i) (refl, omega (arith, h)),
  of-listed r count (suc i) names (omega (arith, h)),
)

-- and all of the resource's are listed
listed-of : (r : ResId) (i : ℕ) (names : List (List ℕ)) (j : ℕ) → i ≤ j → j < i + length names
    → Contains (variables_from r i names) (Shared r j)
listed-of r i [] j a b = absurd (omega (arith, a, b))
listed-of r i (name ∷ names) j a b =
    (contains-cons (Shared r i) (variables_from r (suc i) names) (Shared r j)).1
    (go (λ n. listed-of r (suc i) names j n (omega (arith, b))) (i == j) refl)
  where
    go : (suc i ≤ j → Contains (variables_from r (suc i) names) (Shared r j)) → (c : Bool) → i == j ≡ c
        → (Shared r i ≡ Shared r j) ⊎ Contains (variables_from r (suc i) names) (Shared r j)
    go more true e = inl (ap (Shared r) ((Decides-eqb i j).0 e))
    go more false e = inr (more (let n : suc i ≤ j = grind (arith, nat_tests) in n))

pub of-contains : (r : ResId) (names : List (List ℕ)) (x : Var) → is_of r (length names) x ≡ true
    → Contains (variables_from r 0 names) x
of-contains r names (Own n) e = absurd (cc)
of-contains r names (Shared q j) e =
    let m = of-decides r (length names) (Shared q j) e in
    subst (λ (z : ResId). Contains (variables_from r 0 names) (Shared z j))
    (λ i. record { 0 = sym m.0 i }) (listed-of r 0 names j (omega arith) (omega (arith, m.1)))

-- and no others
contained-all : (P : Var → Type 0) (xs : List Var) (x : Var) → AllByRecursion P xs → Contains xs x → P x
contained-all P [] x a c = absurd (contains-nil x c)
contained-all P (y ∷ ys) x a c = elim ((contains-cons y ys x).0 c) [
  | inl e ↦ subst P e a.0
  | inr i ↦ contained-all P ys x a.1 i
]

pub contains-of : (r : ResId) (names : List (List ℕ)) (x : Var) → Contains (variables_from r 0 names) x
    → is_of r (length names) x ≡ true
contains-of r names x c =
    contained-all (λ y. is_of r (length names) y ≡ true) (variables_from r 0 names) x
    (of-listed r (length names) 0 names (omega arith)) c

-- what is true or not
not-true : (b : Bool) → (b ≡ true → ⊥) → b ≡ false
not-true true n = absurd (n refl)
not-true false n = refl

-- ENTER
module _ (D : Domain) (r : ResId) (count : ℕ) where
  -- what a frame has together with a share
  entered-domain : (d : Setting) (l share both : Local) → HasDomain D l → IsShare d.program r share
      → size d.program r ≡ count → LocalParts both l share → HasDomain (with_resource r count D) both
  entered-domain d l share both has f size_is parts = record {
    variables = λ x. some-splits parts.values x
        ∙ ap₂ ◌||◌ (has.variables x) (share-some d.program r share f x ∙ ap (λ k. is_of r k x) size_is)
        ∙ or-comm (D.has x) (is_of r count x);
    tokens = λ q. some-splits parts.tokens q
        ∙ ap₂ ◌||◌ (has.tokens q) (share-token d.program r share f q) ∙ or-comm (D.holds q) (q.0 == r.0);
  }
    where
      or-comm : (a b : Bool) → a || b ≡ b || a
      or-comm true true = refl
      or-comm true false = refl
      or-comm false true = refl
      or-comm false false = refl

  -- the frame had nothing of it
  entered-lacks : (d : Setting) (l share both : Local) → HasDomain D l → IsShare d.program r share
      → size d.program r ≡ count → LocalParts both l share → LacksResource r count D
  entered-lacks d l share both has f size_is parts = record {
    variables = λ x e. sym (has.variables x) ∙ some-apart x parts.values
        (share-some d.program r share f x ∙ ap (λ k. is_of r k x) size_is ∙ e);
    token = sym (has.tokens r) ∙ some-apart r parts.tokens
        (share-token d.program r share f r ∙ (Decides-eqb r.0 r.0).1 refl);
  }

  -- what is entered and left again is what there was
  entered-left : LacksResource r count D → without_resource r count (with_resource r count D) ≡ D
  entered-left lacks = λ i. record {
    has = λ x. variable x (is_of r count x) refl i;
    holds = λ q. token q (q.0 == r.0) refl i;
  }
    where
      variable : (x : Var) (b : Bool) → is_of r count x ≡ b
          → not (is_of r count x) && (is_of r count x || D.has x) ≡ D.has x
      variable x true e =
          ap (λ b. not b && (b || D.has x)) e ∙ sym (lacks.variables x e)
      variable x false e = ap (λ b. not b && (b || D.has x)) e

      token : (q : ResId) (b : Bool) → q.0 == r.0 ≡ b → not (q.0 == r.0) && ((q.0 == r.0) || D.holds q) ≡ D.holds q
      token q true e =
          ap (λ b. not b && (b || D.holds q)) e
          ∙ sym (ap D.holds (λ i. record { 0 = (Decides-eqb q.0 r.0).0 e i }) ∙ lacks.token)
      token q false e = ap (λ b. not b && (b || D.holds q)) e

module _ (d : Setting) (s : State) (q : Place) (r : ResId) (t : Test Expr) (body : Block) (rest : List Item)
    (of : Resource)
    (there : slice_get d.program.resources r.0 ≡ Some of)
    (claim : Claim d (record {
      state = with_fresh (variables_from r 0 of.variables) s;
      todo = to_add q (term (with_fresh (variables_from r 0 of.variables) s).vars) (d.ordered of.invariant)
          ++ (to_add_test q (term (with_fresh (variables_from r 0 of.variables) s).vars) t
          ++ (to_run body ++ (exit q r ∷ rest)));
    }))
    (shape : HasShape (before_command s (with q r t body) rest)) where
  module _ (n : ℕ) (w : ℕ → Value) (D : Domain) (l : Local) (taken : Heap)
      (u : Suits d D (before_command s (with q r t body) rest)) (has : HasDomain D l)
      (holds : HoldsIn w (before_command s (with q r t body) rest) l.values l.cells taken) where
    abbrev goal : Goal
    goal = before_command s (with q r t body) rest

    abbrev suits : ResourceSuits d r
    suits = u.todo.0.0

    abbrev count : ℕ
    count = length suits.resource.variables

    abbrev E : Domain
    E = with_resource r count D

    abbrev xs : List Var
    xs = variables_from r 0 of.variables

    abbrev now : State
    now = with_fresh xs s

    abbrev to : Expr → Term
    to = term now.vars

    same_resource : suits.resource ≡ of
    same_resource = same_Some suits.resource of (sym suits.there ∙ there)

    size_is : size d.program r ≡ count
    size_is = ap variable_count suits.there

    names_are : length of.variables ≡ count
    names_are = ap (λ (z : Resource). length z.variables) (sym same_resource)

    domain : (share both : Local) → IsShare d.program r share → LocalParts both l share → HasDomain E both
    domain share both f parts = entered-domain D r count d l share both has f size_is parts

    lacks : (share both : Local) → IsShare d.program r share → LocalParts both l share → LacksResource r count D
    lacks share both f parts = entered-lacks D r count d l share both has f size_is parts

    inside : (share both : Local) → IsShare d.program r share → LocalParts both l share
        → ReadsTest E t × BlockSuits d E body
    inside share both f parts = u.todo.0.1 (lacks share both f parts)

    form : IsBody rest
    form = (form-command s (with q r t body) rest shape.form).0

    contains : (x : Var) → is_of r count x ≡ true → Contains xs x
    contains x e = of-contains r of.variables x (ap (λ k. is_of r k x) names_are ∙ e)

    -- the invariant, as the other annotations have it
    usable : IsUsable d (λ x. is_of r count x ≡ true) of.invariant
    usable = subst (λ (z : Resource). IsUsable d (λ x. is_of r count x ≡ true) z.invariant) same_resource
        suits.invariant

    fresh : IsListed E now
    fresh = state-fresh D E s xs u.listed within
      where
        within : (x : Var) → is_of r count x || D.has x ≡ true → (D.has x ≡ true) ⊎ Contains xs x
        within x e = elim (or_cases (is_of r count x) (D.has x) e) [
          | inl i ↦ inr (contains x i)
          | inr i ↦ inl i
        ]

    more : (e : Expr) → ExprWithin (λ x. is_of r count x ≡ true) e → ExprWithin (λ x. E.has x ≡ true) e
    more (Variable x) i = or_left (is_of r count x.var) (D.has x.var) i
    more Nil i = tt
    more (Int k) i = tt

    shared : (share both : Local) → IsShare d.program r share → LocalParts both l share → (x : Var)
        → is_of r count x ≡ true → value_in share x ≡ value_in both x
    shared share both f parts x e =
        let h = some-has share x (share-some d.program r share f x ∙ ap (λ k. is_of r k x) size_is ∙ e) in
        ap (λ o. unwrap_or o nil) (h.1 ∙ sym (splits-has_right x h.0 parts.values h.1))

    goes_on : (share both : Local) → IsShare d.program r share → LocalParts both l share → IsTrueOf (look both) t
        → LocalSafe d.program n (Owed rest) (items body ++ (leave r ∷ steps rest)) both
    goes_on share both f parts true_ =
        let ending = exit q r ∷ rest in
        let pa = pending_assertion to (d.ordered of.invariant) in
        let pt = pending_test q to t in
        let reads = (inside share both f parts).0 in
        let has_both = domain share both f parts in
        let lacking = lacks share both f parts in
        let same : (x : Var) → (Contains xs x → ⊥) → both.values x ≡ l.values x =
        λ x m. splits-at_left x parts.values (is_some-false (share.values x)
        (share-some d.program r share f x ∙ ap (λ k. is_of r k x) size_is
        ∙ not-true (is_of r count x) (λ e. m (contains x e)))) in
        let v = renewed s goal.todo shape.below shape.vars xs w l both l.cells taken holds same in
        let vars = renewed-vars s goal.todo shape.below shape.vars xs w l both l.cells taken holds same in
        let values : HaveValues (λ x. E.has x ≡ true) v to
        (value_in both) = terms-values d E now fresh v both has_both vars in
        let invariant : Sat of.invariant.level (look both) (λ m. nil) share.cells =
        usable-same d (λ x. is_of r count x ≡ true) of.invariant usable (value_in share) (value_in both) share.cells
        (λ x e. shared share both f parts x e)
        (subst (λ (z : Resource). Sat z.invariant.level (look share) (λ m. nil) share.cells)
        (same_Some f.resource of (sym f.there ∙ there)) f.invariant) in
        let adds : AddsHold v (to_add q to (d.ordered of.invariant) ++ (to_add_test q to t ++
        (to_run body ++ ending)))
        share.cells =
        adding-holds v q pa (to_add_test q to t ++ (to_run body ++ ending)) share.cells
        (star-of (splits-empty_right empty-holds)
        (usable-assumed d (λ x. is_of r count x ≡ true) of.invariant usable v to (value_in both) share.cells
        (λ e i. values e (more e i)) invariant)
        (adding-holds v q pt (to_run body ++ ending) empty_map
        (body-holds v (to_run body ++ ending) empty_map (body-run body ending form)
        (test-holds v (λ x. E.has x ≡ true) q to (value_in both) t empty_map values (test-within E t reads) true_
        empty-holds)))) in
        let suiting : Suits d E _ = record {
          listed = fresh;
          todo = adding-suits d E q pa _ (adding-suits d E q pt (to_run body ++ ending)
              (suits-run d E body ending (inside share both f parts).1 (
                suits,
                record {
                  variables = λ x e. or_left (is_of r count x) (D.has x) e;
                  token = or_left (r.0 == r.0) (D.holds r) ((Decides-eqb r.0 r.0).1 refl);
                },
                subst (λ z. TodoSuits d z rest) (sym (entered-left D r count lacking)) u.todo.1,
              )));
        } in
        subst₂ (λ e ss. LocalSafe d.program n e ss both) (owed-run body ending) (steps-run body ending)
        (body-does d.program n v (to_run body ++ ending) both (body-run body ending form)
        (adding-does d.program n v q pt (to_run body ++ ending) both
        (adding-does d.program n v q pa (to_add_test q to t ++ (to_run body ++ ending)) both
        (claim n v E both empty_map suiting has_both (record {
          vars = vars;
          apart = renewed-apart s goal.todo shape.below shape.vars xs w l both l.cells taken holds same;
          disjoint = (splits-empty_right {map = both.cells} empty-holds).apart;
          there = star-of parts.cells
              (renewed-atoms s goal.todo shape.below shape.vars xs w l both l.cells taken holds same l.cells
              (star-drop_right holds.there)) adds;
          gone = subst (λ z. AtomsHold v s.links z empty_map)
              (sym (form-command s (with q r t body) rest shape.form).1) empty-holds;
        })))))

  pub enter-claims : Claim d (before_command s (with q r t body) rest)
  enter-claims zero w D l taken u has holds = tt
  enter-claims (suc n) w D l taken u has holds = record {
    there = slice_get_within d.program.resources r.0 of there;
    reads = λ share both f parts. domain-test (with_resource r (length u.todo.0.0.resource.variables) D) both
        (domain n w D l taken u has holds share both f parts) t
        (inside n w D l taken u has holds share both f parts).0;
    goes_on = λ share both f parts true_. goes_on n w D l taken u has holds share both f parts true_;
  }
