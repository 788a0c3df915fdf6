-- The terms of a callee's variables: they have the values that the callee sees, before the call and after it, and
-- speak of symbols that there are; and what a call lends.
-- Names: `own-LAW` of the callee's own variables, `callee-LAW` of all its variables, `lent-LAW` of what is lent.
use Rattle.std.specs.List.{AllByRecursion}
use Rattle.std.specs.Prelude.{is_some}
use Rattle.std.specs.Option.{unwrap_or}
use Rattle.std.proofs.Common.{◌≡◌, ℕ, zero, suc, Bool, true, false, cond, get_or, map, Some, None, List, [], ◌∷◌, refl, sym, ap, ◌∙◌, inl, inr}
use Rattle.std.proofs.lemmas.Option.{none-some}
use Rattle.sf_base.proofs.MapSplits.{empty_map, only}
use Rattle.sf_base.specs.declared.ids.Var.{Var}
use Rattle.sf_base.specs.declared.ids.Var.TheVariants.{Own, Shared}
use Rattle.sf_base.specs.declared.value.Value.{Value}
use Rattle.sf_base.specs.declared.value.Value.TheVariants.{Nil as nil}
use Rattle.sf_base.specs.HeapStore.{Heap}
use Rattle.sf_calls.specs.Assigned.{MayChange}
use Rattle.sf_calls.specs.Changes.{changed}
use Rattle.sf_calls.specs.Outside.{IsAmong}
use Rattle.sf_core.specs.Assertions.Sat.{Sat, value}
use Rattle.sf_core.specs.declared.command.Expr.{Expr}
use Rattle.sf_core.specs.declared.command.Expr.TheVariants.{Var as Variable, Nil as ENil, Int as EInt}
use Rattle.sf_core.specs.declared.command.Occurrence.{Occurrence}
use Rattle.sf_core.specs.Program.Syntax.{Call, Procedure}
use Rattle.sf_rules.specs.Callee.{callee_term, own_term, term_before, term_by}
use Rattle.sf_rules.specs.Setting.{Setting}
use Rattle.sf_rules.specs.Words.{pending_assertion}
use Rattle.sf_safe.specs.Checked.Local.{Lends, Local, arguments_in, callee_value, look, own_value, value_in}
use Rattle.sf_sound.proofs.Annotated.{HaveValues, usable-same, usable-shown}
use Rattle.sf_sound.proofs.FreshTerms.{fresh-contains, fresh-listed, put-agrees, put-here}
use Rattle.sf_sound.proofs.Keeping.{some-has}
use Rattle.sf_sound.proofs.States.{terms-values}
use Rattle.sf_rules.specs.Checked.Lemmas.VariableTerms.{all-listed_here}
use Rattle.sf_sound.specs.Checked.Claims.{put_values}
use Rattle.sf_sound.specs.Checked.Suits.{CallSuits, Domain, HasDomain, IsListed, IsPassed, Reads, ReadsAll}
use Rattle.sf_sym.specs.declared.term.Term.{Term}
use Rattle.sf_sym.specs.Holds.{term_value, Agrees, PendingHolds}
use Rattle.sf_sym.specs.Checked.Lemmas.KnownValues.{listed-value}
use Rattle.sf_sym.specs.Ready.{is_listed}
use Rattle.sf_sym.specs.State.{State, term, term_at}
use Rattle.sf_sym.specs.Variables.{AreInOrder, fresh_for, set_vars}

-- VALUES
own-values : (w : ℕ → Value) (f : Expr → Term) (g : Expr → Value) (T : Var → Term) (V : Var → Value)
    (refs : List Occurrence) (es : List Expr) (i : ℕ)
    → ((x : Var) → IsAmong x refs → term_value w (T x) ≡ V x)
    → AllByRecursion (λ (e : Expr). term_value w (f e) ≡ g e) es
    → term_value w (own_term T refs (map f es) i) ≡ own_value V refs (λ j. get_or (map g es) j nil) i
own-values w f g T V [] [] i a b = refl
own-values w f g T V [] (e ∷ es) zero a b = b.0
own-values w f g T V [] (e ∷ es) (suc i) a b = own-values w f g T V [] es i a b.1
own-values w f g T V (x ∷ xs) es zero a b = a x.var (inl refl)
own-values w f g T V (x ∷ xs) es (suc i) a b = own-values w f g T V xs es i (λ y j. a y (inr j)) b

pub callee-values : (d : Setting) (w : ℕ → Value) (f : Expr → Term) (l : Local) (T : Var → Term) (V : Var → Value)
    (c : Call) (g : Procedure)
    → ((x : Var) → MayChange d.program c x → term_value w (T x) ≡ V x)
    → AllByRecursion (λ (e : Expr). term_value w (f e) ≡ look l e) c.values
    → HaveValues (IsPassed d c.callee g) w (term_by (callee_term T c (map f c.values)))
    (callee_value V c (arguments_in l c))
callee-values d w f l T V c g a b (Variable x) i = go x.var i
  where
    go : (y : Var) → IsPassed d c.callee g y
        → term_value w (callee_term T c (map f c.values) y) ≡ callee_value V c (arguments_in l c) y
    go (Own k) i = own-values w f (look l) T V c.references c.values k (λ y j. a y (inl j)) b
    go (Shared r k) i = a (Shared r k) (inr i)
callee-values d w f l T V c g a b ENil i = refl
callee-values d w f l T V c g a b (EInt k) i = refl

-- what the callee sees depends on what is lent alone
own-same : (V Z : Var → Value) (refs : List Occurrence) (args : ℕ → Value) (i : ℕ)
    → ((x : Var) → IsAmong x refs → V x ≡ Z x) → own_value V refs args i ≡ own_value Z refs args i
own-same V Z [] args i a = refl
own-same V Z (x ∷ xs) args zero a = a x.var (inl refl)
own-same V Z (x ∷ xs) args (suc i) a = own-same V Z xs args i (λ y j. a y (inr j))

pub callee-same : (d : Setting) (V Z : Var → Value) (c : Call) (g : Procedure) (args : ℕ → Value)
    → ((x : Var) → MayChange d.program c x → V x ≡ Z x) → (x : Var) → IsPassed d c.callee g x
    → callee_value V c args x ≡ callee_value Z c args x
callee-same d V Z c g args a (Own i) h = own-same V Z c.references args i (λ x j. a x (inl j))
callee-same d V Z c g args a (Shared r i) h = a (Shared r i) (inr h)

-- values of expressions that a frame reads
pub values-known : (d : Setting) (D : Domain) (s : State) → IsListed D s → (w : ℕ → Value) (l : Local)
    → HasDomain D l → AllByRecursion (Agrees w l.values) s.vars → (es : List Expr) → ReadsAll D es
    → AllByRecursion (λ (e : Expr). term_value w (term s.vars e) ≡ look l e) es
values-known d D s t w l h a [] r = tt
values-known d D s t w l h a (e ∷ es) r = (go e r.0, values-known d D s t w l h a es r.1)
  where
    go : (e : Expr) → Reads D e → term_value w (term s.vars e) ≡ look l e
    go (Variable x) i = terms-values d D s t w l h a (Variable x) i
    go ENil i = refl
    go (EInt k) i = refl

-- a variable that is set has the value of the term that it gets
pub set-value : (v : ℕ → Value) (V : Var → Value) (set vars : List (Var × Term)) (l : Local) (x : Var)
    → AreInOrder vars → AllByRecursion (Agrees v l.values) vars
    → AllByRecursion (λ (y : Var × Term). term_value v y.1 ≡ V y.0) set → is_listed set x ≡ true
    → term_value v (term_at (set_vars set vars) x) ≡ V x
set-value v V set vars l x order agrees values listed =
    listed-value v (put_values v set l).values (set_vars set vars) x (V x) (put-agrees v set vars l order agrees)
    (put-here v V set l x values listed) (all-listed_here set vars x listed)

-- WHAT IS LENT whether the call may change the variable, by the list
abbrev pub is_lent : Setting → Call → Var → Bool
is_lent d c x = is_listed (fresh_for 0 (changed d.sets c)) x

module _ (d : Setting) (D : Domain) (c : Call) (u : CallSuits d D c) where
  pub lent-changes : (x : Var) → is_lent d c x ≡ true → MayChange d.program c x
  lent-changes x e = (u.lends x).0 (fresh-contains 0 (changed d.sets c) x e)

  pub changes-lent : (x : Var) → MayChange d.program c x → is_lent d c x ≡ true
  changes-lent x m = fresh-listed 0 (changed d.sets c) x ((u.lends x).1 m)

  -- the frame that has what is lent, and these cells
  abbrev pub lent_part : Local → Heap → Local
  lent_part l heap = record { values = only (is_lent d c) l.values; cells = heap; tokens = empty_map }

  pub lent-value : (l : Local) (heap : Heap) (x : Var) → MayChange d.program c x
      → (lent_part l heap).values x ≡ l.values x
  lent-value l heap x m = ap (λ b. cond b (l.values x) None) (changes-lent x m)

  -- where a frame's precondition is shown, the call may be lent that part
  pub lent-lends : (l : Local) (heap : Heap) → HasDomain D l
      → Sat u.callee.pre.level (value (callee_value (value_in l) c (arguments_in l c))) (λ n. nil) heap
      → Lends d.program c u.callee (arguments_in l c) (lent_part l heap)
  lent-lends l heap has pre = record {
    variables = record {
      each = λ x m. some-has (lent_part l heap) x
          (ap is_some (lent-value l heap x m) ∙ has.variables x ∙ u.lent x m);
      only = λ x h. lent-changes x (inside x (is_lent d c x) refl h.0 h.1);
    };
    outside = λ r. refl;
    pre = usable-same d (IsPassed d c.callee u.callee) u.callee.pre u.pre
        (callee_value (value_in l) c (arguments_in l c))
        (callee_value (value_in (lent_part l heap)) c (arguments_in l c)) heap
        (callee-same d (value_in l) (value_in (lent_part l heap)) c u.callee (arguments_in l c)
        (λ x m. ap (λ o. unwrap_or o nil) (sym (lent-value l heap x m)))) pre;
  }
    where
      inside : (x : Var) (b : Bool) → is_lent d c x ≡ b → (v : Value) → only (is_lent d c) l.values x ≡ Some v
          → is_lent d c x ≡ true
      inside x true i v e = i
      inside x false i v e = absurd (none-some v (sym (ap (λ b. cond b (l.values x) None) i) ∙ e))

  -- what is shown of the precondition, in the words of the callee
  pub lent-pre : (s : State) → IsListed D s → (w : ℕ → Value) (l : Local) → HasDomain D l
      → AllByRecursion (Agrees w l.values) s.vars → (heap : Heap)
      → PendingHolds w (pending_assertion (term_before s c) (d.ordered u.callee.pre)) heap
      → Sat u.callee.pre.level (value (callee_value (value_in l) c (arguments_in l c))) (λ n. nil) heap
  lent-pre s t w l has agrees heap h =
      usable-shown d (IsPassed d c.callee u.callee) u.callee.pre u.pre w (term_before s c)
      (callee_value (value_in l) c (arguments_in l c)) heap
      (callee-values d w (term s.vars) l (term_at s.vars) (value_in l) c u.callee
      (λ x m.
      let v = some-has l x (has.variables x ∙ u.lent x m) in
      listed-value w l.values s.vars x v.0 agrees v.1 (t x (u.lent x m))
      ∙ ap (λ o. unwrap_or o nil) (sym v.1))
      (values-known d D s t w l has agrees c.values u.reads)) h
