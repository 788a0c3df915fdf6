-- The contracts of small programs: nothing, and one cell. They are well-formed, determined, in
-- order as they stand, and mention no variable of a resource. And sets with no member or one.
-- Names: `emp-LAW` and `cell-LAW` speak of the two contracts, `by_value-LAW` of calls, `set-LAW` of sets.
use Rattle.sf_core.specs.Program.Init.{IsBare, is_init}
use Rattle.std.specs.Prelude.{◌≡◌, ◌≤◌, ◌<◌, ◌+◌, ℕ, zero, suc, List, [], ◌∷◌, Some, length, nat_lt, replicate, slice_get, false, true}
use Rattle.std.specs.List.{All, IsDistinct, sum_by}
use Rattle.std.proofs.Common.{ap, arith, inl, inr, refl, subst, sym, ◌∙◌, true≢false}
use Rattle.std.proofs.lemmas.Bool.Decides.{nat_tests}
use Rattle.std.proofs.lemmas.List.Elements.{All-cons, All-nil}
use Rattle.std.proofs.lemmas.List.{length-replicate}
use Rattle.std.proofs.lemmas.Option.{none-some}
use Rattle.sf_base.proofs.Elements.{contains-cons, contains-nil}
use Rattle.sf_base.specs.declared.ids.ProcId.{ProcId}
use Rattle.sf_base.specs.declared.ids.ResId.{ResId}
use Rattle.sf_base.specs.declared.ids.Var.{Var}
use Rattle.sf_base.specs.declared.ids.Var.TheVariants.{Own, Shared}
use Rattle.sf_base.specs.declared.limits.TheConstants.{FIELDS, NESTING, OWN_VARIABLES, PROCEDURES, RESOURCES, RESOURCE_VARIABLES}
use Rattle.sf_calls.specs.Around.{Shares}
use Rattle.sf_calls.specs.Assigned.{MayChange}
use Rattle.sf_calls.specs.Outside.{IsAmong}
use Rattle.sf_calls.specs.Reaches.{Reaches, directly, through}
use Rattle.sf_calls.specs.Sets.{IsFamily, IsSetOf}
use Rattle.sf_core.specs.Assertions.Determined.{Determined, plain, take, all_taken}
use Rattle.sf_core.specs.Assertions.Occurs.{VarOccursIn}
use Rattle.sf_core.specs.Assertions.Scopes.{overlap}
use Rattle.sf_core.specs.declared.assertion.Scope.{Scope}
use Rattle.sf_core.specs.declared.command.Expr.{Expr}
use Rattle.sf_core.specs.declared.command.Occurrence.{Occurrence}
use Rattle.sf_core.specs.Checked.Machine.Examples.{emp, one_cell_at, own_one, at_own}
use Rattle.sf_core.specs.Program.Formed.{AssertionWithin, BlockWithin, ExprWithin, IsFormed, IsParameter, ProcedureWithin, block_depth}
use Rattle.sf_core.specs.Program.Syntax.{Call, Procedure, Program, Resource}
use Rattle.sf_precise.specs.Order.{IsOrderOf}

-- of each of two procedures, and of each of three
pub of-two : (P : Procedure → Type 0) (a b : Procedure) → P a → P b → (k : ℕ) (h : Procedure)
    → slice_get (a ∷ b ∷ []) k ≡ Some h → P h
of-two P a b p q zero h e = let i : a ≡ h = cc in subst P i p
of-two P a b p q (suc zero) h e = let i : b ≡ h = cc in subst P i q
of-two P a b p q (suc (suc k)) h e = absurd (cc)

pub of-three : (P : Procedure → Type 0) (a b c : Procedure) → P a → P b → P c → (k : ℕ) (h : Procedure)
    → slice_get (a ∷ b ∷ c ∷ []) k ≡ Some h → P h
of-three P a b c p q r zero h e = let i : a ≡ h = cc in subst P i p
of-three P a b c p q r (suc k) h e = of-two P b c q r k h e

-- a procedure of another name isn't the one that sets the resources up
pub bare-unless : (g : Procedure) → is_init g ≡ false → is_init g ≡ true → IsBare g
bare-unless g n e = absurd (true≢false (sym e ∙ n))

pub none-twice : (gs : List Procedure) → ((k : ℕ) (g : Procedure) → slice_get gs k ≡ Some g → is_init g ≡ false)
    → (j k : ℕ) (f g : Procedure) → slice_get gs j ≡ Some f → slice_get gs k ≡ Some g → is_init f ≡ true
    → is_init g ≡ true → j ≡ k
none-twice gs n j k f g a b e i = absurd (true≢false (sym e ∙ n j f a))

-- a procedure of another name is formed, where what is counted of it is within the limits
not-above : (m n : ℕ) → nat_lt m n ≡ false → n ≤ m
not-above m n e = grind (arith, nat_tests)

pub small-within : (p : Program) (f : Procedure) → nat_lt OWN_VARIABLES (f.references + f.values + f.locals) ≡ false
    → nat_lt (length f.names) (f.references + f.values + f.locals) ≡ false
    → nat_lt (f.references + f.values + f.locals + f.values) (length f.names) ≡ false
    → nat_lt NESTING (block_depth f.body) ≡ false → is_init f ≡ false
    → AssertionWithin p.fields (IsParameter p f) f.pre → AssertionWithin p.fields (IsParameter p f) f.post
    → BlockWithin p f f.body → ProcedureWithin p f
small-within p f few named primed nesting other pre post body = record {
  declared_count = not-above OWN_VARIABLES (f.references + f.values + f.locals) few;
  declared = not-above (length f.names) (f.references + f.values + f.locals) named;
  primed = not-above (f.references + f.values + f.locals + f.values) (length f.names) primed;
  pre = pre;
  post = post;
  body = body;
  depth = not-above NESTING (block_depth f.body) nesting;
  init = bare-unless f other;
}

-- a program with no resource, none of whose procedures sets any up
pub bare-formed : (p : Program) → p.resources ≡ []
    → ((k : ℕ) (f : Procedure) → slice_get p.procedures k ≡ Some f → ProcedureWithin p f)
    → nat_lt PROCEDURES (length p.procedures) ≡ false → nat_lt FIELDS (length p.fields) ≡ false
    → ((k : ℕ) (g : Procedure) → slice_get p.procedures k ≡ Some g → is_init g ≡ false) → IsFormed p
bare-formed p none procedures few fields others = record {
  procedures = procedures;
  resources = λ k r e. absurd (none-some r (subst (λ (rs : List Resource). slice_get rs k ≡ Some r) none e));
  procedure_count = not-above PROCEDURES (length p.procedures) few;
  resource_count = subst (λ (rs : List Resource). length rs ≤ RESOURCES) (sym none) (not-above RESOURCES 0 refl);
  field_count = not-above FIELDS (length p.fields) fields;
  variables =
      subst (λ (rs : List Resource). sum_by (λ r. length r.variables) rs ≤ RESOURCE_VARIABLES) (sym none)
      (not-above RESOURCE_VARIABLES 0 refl);
  one_init = none-twice p.procedures others;
}

-- a call without references changes no variable of its caller's own, so two such share none
by_value-unchanged : (p : Program) (c : Call) → c.references ≡ [] → (i : ℕ) → MayChange p c (Own i) → ⊥
by_value-unchanged p c none i (inl a) = subst (λ (xs : List Occurrence). IsAmong (Own i) xs) none a
by_value-unchanged p c none i (inr w) = w.0

pub by_value-unshared : (p : Program) (c d : Call) → c.references ≡ [] → d.references ≡ [] → (i : ℕ)
    → Shares p c d (Own i) → ⊥
by_value-unshared p c d left right i (inl s) = by_value-unchanged p c left i s.0
by_value-unshared p c d left right i (inr s) = by_value-unchanged p d right i s.0

-- the scope that makes no existential, alone
abbrev pub no_scope : Scope
no_scope = record { first = 0; count = 0 }

pub alone : IsDistinct overlap (no_scope ∷ [])
unfolding IsDistinct
alone = (tt, tt)

pub none-named : All (λ (s : Scope). s.first + s.count ≤ 0) (no_scope ∷ [])
none-named =
    All-cons (λ (s : Scope). s.first + s.count ≤ 0) no_scope [] (omega arith)
    (All-nil (λ (s : Scope). s.first + s.count ≤ 0))

-- nothing
pub emp-within : (V : Var → Type 0) (fields : List (List ℕ)) → AssertionWithin fields V emp
emp-within V fields =
    let nesting : 1 ≤ 64 = omega arith in
    record {
      annotation = record { within = tt; disjoint = alone; depth = nesting };
      named = none-named;
      names = refl;
    }

pub emp-determined : Determined emp.level
emp-determined = all_taken refl

pub emp-ordered : IsOrderOf emp emp
emp-ordered = record { names = refl; level = (_, refl, refl) }

pub emp-no_var : (x : Var) → VarOccursIn emp.level x → ⊥
emp-no_var x o = o.2.0

-- one cell
pub cell-within : (V : Var → Type 0) (fields : List (List ℕ)) (e : Expr) → ExprWithin V e
    → AssertionWithin fields V (one_cell_at e)
cell-within V fields e w =
    let nesting : 1 ≤ 64 = omega arith in
    record {
      annotation = record { within = ((w, tt), tt); disjoint = alone; depth = nesting };
      named = none-named;
      names = refl;
    }

pub cell-determined : (e : Expr) → Determined (one_cell_at e).level
cell-determined e = take _ _ (inl (refl, refl)) (plain tt) (all_taken refl)

pub cell-ordered : (e : Expr) → IsOrderOf (one_cell_at e) (one_cell_at e)
cell-ordered e = record { names = refl; level = (_, refl, (_, _, inl (plain tt, refl, refl), refl, refl)) }

not-own : (n : ℕ) (r : ResId) (i : ℕ) → Own n ≡ Shared r i → ⊥
not-own n r i e = absurd (cc)

pub cell-no_shared : (n : ℕ) (r : ResId) (i : ℕ) → VarOccursIn (one_cell_at (own_one n)).level (Shared r i) → ⊥
cell-no_shared n r i (at, e, (inl (inl k), o)) =
    let j : at ≡ at_own n = cc in not-own n r i (sym (ap (λ (z : Occurrence). z.var) j) ∙ e)
cell-no_shared n r i (at, e, (inl (inr k), o)) = k
cell-no_shared n r i (at, e, (inr k, o)) = k

-- what holds wherever a set begins holds wherever it is reached
pub everywhere : {A Q : Type 0} {Seed : A → Type 0} {Step : A → A → Type 0} → ((a : A) → Seed a → Q) → (a : A)
    → Reaches Seed Step a → Q
everywhere h a (directly s) = h a s
everywhere h a (through b step r) = everywhere h b r

-- a set with no member, and with one
pub set-nothing : {A : Type 0} (Before : A → A → Type 0) (P : A → Type 0) → ((a : A) → P a → ⊥) → IsSetOf Before P []
set-nothing Before P never = record {
  ordered = λ i j d before inside. absurd (omega (arith, inside));
  members = λ a. (λ c. absurd (contains-nil a c), λ p. absurd (never a p));
}

pub set-single : {A : Type 0} (Before : A → A → Type 0) (P : A → Type 0) (x : A) → P x → ((a : A) → P a → x ≡ a)
    → IsSetOf Before P (x ∷ [])
set-single Before P x has only = record {
  ordered = λ i j d before inside. absurd (omega (arith, before, inside));
  members = λ a. (
    λ c. elim ((contains-cons x [] a).0 c) [ inl e ↦ subst P e has | inr n ↦ absurd (contains-nil a n) ],
    λ p. (contains-cons x [] a).1 (inl (only a p)),
  );
}

-- a family in which each of so many procedures has that set
pub set-of_each : {A : Type 0} (Before : A → A → Type 0) (P : ProcId → A → Type 0) (n : ℕ) (xs : List A)
    → ((f : ProcId) → f.0 < n → IsSetOf Before (P f) xs) → IsFamily (IsSetOf Before) P n (replicate n xs)
set-of_each {A} Before P n xs sets = record { each = length-replicate n xs; is = go }
  where
    at : (m k : ℕ) (ys : List A) → slice_get (replicate m xs) k ≡ Some ys → (ys ≡ xs) × (k < m)
    at zero k ys e = absurd (none-some ys e)
    at (suc m) zero ys e = (cc, omega arith)
    at (suc m) (suc k) ys e = let h = at m k ys e in let less = h.1 in (h.0, omega (arith, less))

    go : (f : ProcId) (ys : List A) → slice_get (replicate n xs) f.0 ≡ Some ys → IsSetOf Before (P f) ys
    go f ys e = let h = at n f.0 ys e in subst (IsSetOf Before (P f)) (sym h.0) (sets f h.1)
