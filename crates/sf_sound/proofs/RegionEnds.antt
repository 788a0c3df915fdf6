-- What goals at the end of a region claim: a part is given up that is a share of the resource.
-- Names: `exit-claims`.
use Rattle.std.specs.List.{AllByRecursion, slice_get}
use Rattle.std.specs.Prelude.{◌≤◌, ◌==◌, ◌&&◌, cond, not, is_some, length}
use Rattle.std.specs.Option.{unwrap_or}
use Rattle.std.proofs.Common.{◌≡◌, ℕ, zero, suc, ◌+◌, Bool, true, false, Option, Some, None, List, [], ◌∷◌, ◌++◌, refl, sym, ap, ◌∙◌, subst, inl, inr, arith}
use Rattle.std.proofs.lemmas.Bool.Decides.{Decides-eqb}
use Rattle.std.proofs.lemmas.Option.{none-some, same_Some}
use Rattle.sf_base.proofs.Bools.{and-right}
use Rattle.sf_base.proofs.HeapSplits.{star-drop_right}
use Rattle.sf_base.proofs.MapSplits.{changed, empty-holds, empty_map, only, splits-by_test, splits-empty_left}
use Rattle.sf_base.specs.declared.ids.ResId.{ResId}
use Rattle.sf_base.specs.declared.ids.Var.{Var}
use Rattle.sf_base.specs.declared.place.Place.{Place}
use Rattle.sf_base.specs.declared.value.Value.{Value}
use Rattle.sf_base.specs.declared.value.Value.TheVariants.{Nil as nil}
use Rattle.sf_base.specs.HeapStore.{Heap, Splits}
use Rattle.sf_core.specs.Assertions.Sat.{Sat}
use Rattle.sf_core.specs.declared.command.Expr.{Expr}
use Rattle.sf_core.specs.declared.command.Expr.TheVariants.{Var as Variable, Nil, Int}
use Rattle.sf_core.specs.Program.Formed.{ExprWithin}
use Rattle.sf_core.specs.Program.Syntax.{Resource}
use Rattle.sf_rules.specs.Resources.{variables_from}
use Rattle.sf_rules.specs.Setting.{Setting}
use Rattle.sf_rules.specs.Checked.Lemmas.Forms.{body-assuming, taking-showing}
use Rattle.sf_rules.specs.Words.{pending_assertion, to_take}
use Rattle.sf_safe.specs.Checked.Local.{Local, look, value_in}
use Rattle.sf_safe.specs.Checked.LocalSafe.{LocalLeaves, LocalSafe}
use Rattle.sf_sound.proofs.Annotated.{usable-same, usable-shown}
use Rattle.sf_sound.proofs.FreshTerms.{agrees-fewer}
use Rattle.sf_sound.proofs.Keeping.{of-decides, of-is, some-has}
use Rattle.sf_sound.proofs.Standing.{body-does}
use Rattle.sf_sound.proofs.Regions.{of-listed}
use Rattle.sf_sound.proofs.States.{terms-values}
use Rattle.sf_sound.proofs.Words.{body-empty, showing-holds, taking-does, taking-suits}
use Rattle.sf_sound.specs.Checked.Claims.{Owed, steps, with_cells}
use Rattle.sf_sound.specs.Checked.Suits.{Claim, Domain, HasDomain, IsUsable, ResourceSuits, Suits, is_of, without_resource}
use Rattle.sf_sym.specs.declared.term.Term.{Term}
use Rattle.sf_sym.specs.Goal.{Item, exit, gave, Goal}
use Rattle.sf_sym.specs.HoldsIn.{HoldsIn}
use Rattle.sf_sym.specs.Pending.{Pending}
use Rattle.sf_sym.specs.State.{State, term}
use Rattle.sf_sym.specs.Shape.{HasShape, IsBody}

-- the frame without what it has of a resource
abbrev pub lacking : ResId → ℕ → Local → Local
lacking r count l = record {
  values = changed (is_of r count) None l.values;
  cells = l.cells;
  tokens = changed (λ q. q.0 == r.0) None l.tokens;
}

-- what it has of it, with these cells
abbrev pub share_of : ResId → ℕ → Local → Heap → Local
share_of r count l heap = record {
  values = only (is_of r count) l.values;
  cells = heap;
  tokens = λ q. cond (q.0 == r.0) (Some tt) None;
}

module _ (r : ResId) (count : ℕ) (D : Domain) (l : Local) (has : HasDomain D l) where
  left-domain : HasDomain (without_resource r count D) (lacking r count l)
  left-domain = record {
    variables = λ x. go (is_of r count x) (l.values x) (D.has x) (has.variables x);
    tokens = λ q. go (q.0 == r.0) (l.tokens q) (D.holds q) (has.tokens q);
  }
    where
      go : {X : Type 0} (b : Bool) (o : Option X) (c : Bool) → is_some o ≡ c → is_some (cond b None o) ≡ not b && c
      go true o c e = refl
      go false o c e = e

  -- the token is there
  share-tokens : D.holds r ≡ true → Splits l.tokens (λ q. cond (q.0 == r.0) (Some tt) None)
      (changed (λ q. q.0 == r.0) None l.tokens)
  share-tokens e = subst (λ z. Splits l.tokens z (changed (λ (q : ResId). q.0 == r.0) None l.tokens))
      (λ i q. at q (q.0 == r.0) refl i) (splits-by_test (λ (q : ResId). q.0 == r.0) l.tokens)
    where
      some : (o : Option (Unit {0})) → is_some o ≡ true → o ≡ Some tt
      some None i = absurd (cc)
      some (Some tt) i = refl

      at : (q : ResId) (b : Bool) → q.0 == r.0 ≡ b → cond (q.0 == r.0) (l.tokens q) None ≡ cond (q.0 == r.0)
          (Some tt) None
      at q true i =
          let is : q ≡ r = λ j. record { 0 = (Decides-eqb q.0 r.0).0 i j } in
          ap (λ b. cond b (l.tokens q) None) i ∙ some (l.tokens q) (has.tokens q ∙ ap D.holds is ∙ e)
          ∙ sym (ap (λ b. cond b (Some tt) None) i)
      at q false i = ap (λ b. cond b (l.tokens q) None) i ∙ sym (ap (λ b. cond b (Some tt) None) i)

  share-value : (heap : Heap) (x : Var) → is_of r count x ≡ true → (share_of r count l heap).values x ≡ l.values x
  share-value heap x e = ap (λ b. cond b (l.values x) None) e

module _ (d : Setting) (s : State) (q : Place) (r : ResId) (rest : List Item) (of : Resource)
    (there : slice_get d.program.resources r.0 ≡ Some of)
    (claim : Claim d (record {
      state = s;
      todo = to_take q (term s.vars) (d.ordered of.invariant) ++ (gave q [] (variables_from r 0 of.variables) ∷ rest);
    }))
    (shape : HasShape (record { state = s; todo = exit q r ∷ rest })) where
  module _ (n : ℕ) (w : ℕ → Value) (D : Domain) (l : Local) (taken : Heap)
      (u : Suits d D (record { state = s; todo = exit q r ∷ rest })) (has : HasDomain D l)
      (holds : HoldsIn w (record { state = s; todo = exit q r ∷ rest }) l.values l.cells taken) where
    abbrev goal : Goal
    goal = record { state = s; todo = exit q r ∷ rest }

    abbrev suits : ResourceSuits d r
    suits = u.todo.0

    abbrev count : ℕ
    count = length suits.resource.variables

    abbrev E : Domain
    E = without_resource r count D

    abbrev xs : List Var
    xs = variables_from r 0 of.variables

    abbrev to : Expr → Term
    to = term s.vars

    abbrev pa : Pending
    pa = pending_assertion to (d.ordered of.invariant)

    abbrev names : List (List ℕ)
    names = (d.ordered of.invariant).names

    same_resource : suits.resource ≡ of
    same_resource = same_Some suits.resource of (sym suits.there ∙ there)

    usable : IsUsable d (λ x. is_of r count x ≡ true) of.invariant
    usable = subst (λ (z : Resource). IsUsable d (λ x. is_of r count x ≡ true) z.invariant) same_resource
        suits.invariant

    form : IsBody rest
    form = elim shape.form [ inl f ↦ f.0 | inr f ↦ absurd f ]

    removed : AllByRecursion (λ (x : Var). E.has x ≡ false) xs
    removed = go xs (of-listed r count 0 of.variables
        (let n : length of.variables ≡ count = ap (λ (z : Resource). length z.variables) (sym same_resource) in
        let m : 0 + length of.variables ≤ count = omega (arith, n) in m))
      where
        go : (ys : List Var) → AllByRecursion (λ (x : Var). is_of r count x ≡ true) ys
            → AllByRecursion (λ (x : Var). E.has x ≡ false) ys
        go [] a = tt
        go (y ∷ ys) a = (ap (λ b. not b && D.has y) a.0, go ys a.1)

    fewer : (x : Var) (v : Value) → (lacking r count l).values x ≡ Some v → l.values x ≡ Some v
    fewer x v e = go (is_of r count x) e
      where
        go : (b : Bool) → cond b None (l.values x) ≡ Some v → l.values x ≡ Some v
        go true e = absurd (none-some v e)
        go false e = e

    inside : (x : Var) (b : Bool) → is_of r count x ≡ b → (v : Value) → only (is_of r count) l.values x ≡ Some v
        → is_of r count x ≡ true
    inside x true i v e = i
    inside x false i v e = absurd (none-some v (sym (ap (λ b. cond b (l.values x) None) i) ∙ e))

    more : (e : Expr) → ExprWithin (λ x. is_of r count x ≡ true) e → ExprWithin (λ x. D.has x ≡ true) e
    more (Variable x) i = u.todo.1.variables x.var i
    more Nil i = tt
    more (Int k) i = tt

    leaves : LocalLeaves d.program l r (LocalSafe d.program n (Owed rest) (steps rest))
    leaves =
        let shown = taking-does d.program n w q pa names (gave q [] xs ∷ rest) (lacking r count l)
        (claim n w E (lacking r count l) taken
        (record {
          listed = λ x e. u.listed x (and-right (not (is_of r count x)) (D.has x) e);
          todo = taking-suits d E q pa names (gave q [] xs ∷ rest) (tt, removed, u.todo.2);
        })
        (left-domain r count D l has)
        (record {
          vars = agrees-fewer w l.values (lacking r count l).values s.vars fewer holds.vars;
          apart = holds.apart;
          disjoint = holds.disjoint;
          there = showing-holds w (to_take q to (d.ordered of.invariant) ++ (gave q [] xs ∷ rest)) l.cells
              (taking-showing q pa names (gave q [] xs ∷ rest) (body-assuming rest form))
              (star-drop_right holds.there);
          gone = holds.gone;
        })) in
        record {
          share = share_of r count l shown.left;
          kept = with_cells shown.right (lacking r count l);
          parts = record {
            values = splits-by_test (is_of r count) l.values;
            cells = shown.splits;
            tokens = share-tokens r count D l has u.todo.1.token;
          };
          free = record {
            resource = suits.resource;
            there = suits.there;
            variables = record {
              each = λ x i.
                  let e = of-is r count x i in
                  some-has (share_of r count l shown.left) x
                  (ap is_some (share-value r count D l has shown.left x e) ∙ has.variables x
                  ∙ u.todo.1.variables x e);
              only = λ x h. of-decides r count x (inside x (is_of r count x) refl h.0 h.1);
            };
            tokens = refl;
            invariant = usable-same d (λ x. is_of r count x ≡ true) suits.resource.invariant suits.invariant
                (value_in l)
                (value_in (share_of r count l shown.left)) shown.left
                (λ x e. ap (λ o. unwrap_or o nil) (sym (share-value r count D l has shown.left x e)))
                (subst (λ (z : Resource). Sat z.invariant.level (look l) (λ m. nil) shown.left) (sym same_resource)
                (usable-shown d (λ x. is_of r count x ≡ true) of.invariant usable w to (value_in l) shown.left
                (λ e i. terms-values d D s u.listed w l has holds.vars e (more e i)) shown.first));
          };
          goes_on = body-does d.program n w rest (with_cells shown.right (lacking r count l)) form
              (shown.second empty_map shown.right (body-empty w rest empty_map form empty-holds)
              (splits-empty_left empty-holds));
        }

  pub exit-claims : Claim d (record { state = s; todo = exit q r ∷ rest })
  exit-claims zero w D l taken u has holds = tt
  exit-claims (suc n) w D l taken u has holds = leaves n w D l taken u has holds
