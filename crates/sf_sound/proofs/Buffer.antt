-- The buffer with one place: it keeps what the theorem asks, and tags prove it.
-- Names: `put-LAW`, `get-LAW` and `main-LAW` speak of its procedures, `inv-LAW` of its invariant.
use Rattle.std.specs.Str.{bytes_eq}
use Rattle.sf_core.proofs.Inits.{sets_up-is}
use Rattle.sf_core.specs.Program.Named.{name_in}
use Rattle.sf_core.specs.Program.Init.{is_init, init_name, sets_up}
use Rattle.std.specs.Prelude.{◌≡◌, ◌≤◌, ◌<◌, ◌+◌, ◌⊎◌, ◌++◌, ℕ, zero, suc, pos, false, Contains, [], ◌∷◌, List, Some, length, slice_get, Option, None}
use Rattle.std.specs.List.{All, IsDistinct}
use Rattle.std.proofs.Common.{ap, arith, inl, inr, refl, subst, sym, ◌∙◌, true≢false}
use Rattle.std.proofs.lemmas.List.Elements.{All-cons, All-nil}
use Rattle.std.proofs.lemmas.Option.{none-some}
use Rattle.sf_base.proofs.Elements.{contains-cons, contains-nil}
use Rattle.sf_base.specs.declared.ids.ProcId.{ProcId}
use Rattle.sf_base.specs.declared.ids.ResId.{ResId}
use Rattle.sf_base.specs.declared.ids.Var.{Var}
use Rattle.sf_base.specs.declared.ids.Var.TheVariants.{Own, Shared}
use Rattle.sf_calls.specs.Around.{IsHeld, Shares}
use Rattle.sf_calls.specs.Assigned.{MayChange}
use Rattle.sf_calls.specs.Conditions.{Enters, Free, Mentions, Takes}
use Rattle.sf_calls.specs.FirstBreach.{Conditions}
use Rattle.sf_calls.specs.Checked.Lemmas.Sites.{at_one}
use Rattle.sf_calls.specs.Outside.{EntersIn, IsAmong, IsOutside, OccursOutside, owner}
use Rattle.sf_calls.specs.Reaches.{directly, through}
use Rattle.sf_calls.specs.Sets.{AreSetsOf, IsEarlier, IsEarlierResource, Sets}
use Rattle.sf_core.specs.Assertions.Determined.{CanBeTaken, Determined, branches, plain, take, all_taken}
use Rattle.sf_core.specs.Assertions.Occurs.{OccursInOne, VarOccursIn}
use Rattle.sf_core.specs.Assertions.Scopes.{overlap}
use Rattle.sf_core.specs.declared.assertion.Operand.TheVariants.{Exists, Known}
use Rattle.sf_core.specs.declared.assertion.Scope.{Scope}
use Rattle.sf_core.specs.declared.assertion.Test.TheVariants.{Equal}
use Rattle.sf_core.specs.declared.command.Expr.TheVariants.{Var as Variable, Int}
use Rattle.sf_core.specs.declared.command.Occurrence.{Occurrence}
use Rattle.sf_core.specs.Checked.Machine.Examples.{at_own, emp, here, lock, one_cell, own_one}
use Rattle.sf_core.specs.Machine.HasThroughout.{HasThroughout}
use Rattle.sf_core.specs.Program.Formed.{AssertionWithin, CallWithin, ExprWithin, IsFormed, IsInBody, IsOfResource, IsSettable, ProcedureWithin}
use Rattle.sf_core.specs.Program.Heads.{Site, head_regions, occurrences_at, sites}
use Rattle.sf_core.specs.Program.Syntax.{also, choose, level, none, points, Assertion, Procedure, Resource}
use Rattle.sf_precise.specs.Annotations.{annotations_in}
use Rattle.sf_precise.specs.Checked.Laws.{OrderingExists}
use Rattle.sf_precise.specs.Order.{IsOrderOf, IsOrdering}
use Rattle.sf_sound.proofs.AsWritten.{IsAsWritten, procedure-proved}
use Rattle.sf_sound.proofs.SmallPrograms.{cell-determined, cell-no_shared, cell-ordered, cell-within, emp-determined, emp-no_var, emp-ordered, emp-within, everywhere, of-three, set-nothing, set-of_each, set-single, none-twice, small-within}
use Rattle.sf_sound.proofs.Races.{example-is-sound}
use Rattle.sf_sound.specs.Checked.ExamplesOfRegions.{BufferIsSound, buf, buffer, buffer_tags, buffered, c, full, get, gets_y, no_scope, passes_on, put, puts_x}
use Rattle.sf_sound.specs.Proofs.{ProofsAreSound}
use Rattle.sf_rules.specs.Proving.{Proves}
use Rattle.sf_rules.specs.Setting.{IsSettingOf, Setting}
use Rattle.sf_sym.specs.declared.tag.Tag.TheVariants as t
use Rattle.sf_sym.specs.declared.term.Term.TheVariants.{Int as number, Sym}

-- Its form
apart-scopes : IsDistinct overlap (no_scope ∷ no_scope ∷ no_scope ∷ [])
unfolding IsDistinct
apart-scopes = ((refl, (refl, tt)), ((refl, tt), (tt, tt)))

named-scopes : All (λ (s : Scope). s.first + s.count ≤ 0) (no_scope ∷ no_scope ∷ no_scope ∷ [])
named-scopes = one (no_scope ∷ no_scope ∷ []) (one (no_scope ∷ []) (one [] (All-nil N)))
  where
    N : Scope → Type 0
    N s = s.first + s.count ≤ 0

    one : (rest : List Scope) → All N rest → All N (no_scope ∷ rest)
    one rest all = All-cons N no_scope rest (omega arith) all

inv-within : AssertionWithin buffer.fields (IsOfResource 0 2) buffered
inv-within =
    let second : 1 < 2 = omega arith in
    let first : 0 < 2 = omega arith in
    let nesting : 2 ≤ 64 = omega arith in record {
      annotation = record {
        within = ((((refl, second), tt), tt, (((refl, first), tt), tt)), tt);
        disjoint = apart-scopes;
        depth = nesting;
      };
      named = named-scopes;
      names = refl;
    }

put-within : ProcedureWithin buffer put
put-within =
    let resource : 0 < 1 = omega arith in
    let first : 0 < 2 = omega arith in
    let second : 1 < 2 = omega arith in
    small-within buffer put refl refl refl refl refl (cell-within _ _ (own_one 0) resource) (emp-within _ _)
    ((resource, (second, tt), ((first, resource), ((second, tt), tt))), tt)

get-within : ProcedureWithin buffer get
get-within =
    let resource : 0 < 1 = omega arith in
    let first : 0 < 2 = omega arith in
    let second : 1 < 2 = omega arith in
    small-within buffer get refl refl refl refl refl (emp-within _ _) (cell-within _ _ (own_one 0) resource)
    ((resource, (second, tt), (((resource, λ l. resource), first), ((second, tt), tt))), tt)

puts-within : CallWithin buffer passes_on puts_x
puts-within =
    let first : 0 < 2 = omega arith in record {
      callee = (refl, refl);
      no_init = refl;
      references = All-nil _;
      values = All-cons (ExprWithin (IsInBody buffer passes_on)) (own_one 0) [] first (All-nil _);
    }

gets-within : CallWithin buffer passes_on gets_y
gets-within =
    let second : 1 < 2 = omega arith in record {
      callee = (refl, refl);
      no_init = refl;
      references = All-cons (λ (x : Occurrence). IsSettable buffer passes_on x.var) (at_own 1) []
          (second, λ l. absurd (omega (arith, l))) (All-nil _);
      values = All-nil _;
    }

main-within : ProcedureWithin buffer passes_on
main-within =
    let first : 0 < 2 = omega arith in
    let second : 1 < 2 = omega arith in
    small-within buffer passes_on refl refl refl refl refl (emp-within _ _) (emp-within _ _)
    ((first, λ l. absurd (omega (arith, l))), ((puts-within, gets-within), (second, tt)))

resources-within : (k : ℕ) (r : Resource) → slice_get buffer.resources k ≡ Some r
    → AssertionWithin buffer.fields (IsOfResource k (length r.variables)) r.invariant
resources-within zero r e =
    let same : buf ≡ r = cc in
    subst (λ (z : Resource). AssertionWithin buffer.fields (IsOfResource 0 (length z.variables)) z.invariant) same
    inv-within
resources-within (suc k) r e = absurd (none-some r e)

others : (k : ℕ) (g : Procedure) → slice_get buffer.procedures k ≡ Some g → is_init g ≡ false
others = of-three (λ g. is_init g ≡ false) put get passes_on refl refl refl

formed : IsFormed buffer
formed = record {
  procedures = of-three (ProcedureWithin buffer) put get passes_on put-within get-within main-within;
  resources = resources-within;
  procedure_count = let e : 3 ≤ 1000 = omega arith in e;
  resource_count = let e : 1 ≤ 64 = omega arith in e;
  field_count = let e : 0 ≤ 16 = omega arith in e;
  variables = let e : 2 ≤ 256 = omega arith in e;
  one_init = none-twice buffer.procedures others;
}

-- Its annotations
no-existential : (n : ℕ) → OccursInOne (choose here (Equal (Known (Variable full)) (Known (Int (pos 0))))
    (level no_scope none) (level no_scope (also (points here (Known (Variable c)) []) none))) (Exists n) → ⊥
no-existential n (inl (inl e)) = absurd (cc)
no-existential n (inl (inr e)) = absurd (cc)
no-existential n (inr (inl o)) = o.0
no-existential n (inr (inr ((inl (inl e)), o))) = absurd (cc)
no-existential n (inr (inr ((inl (inr e)), o))) = e
no-existential n (inr (inr ((inr e), o))) = e

inv-taken : CanBeTaken (λ n. false) (choose here (Equal (Known (Variable full)) (Known (Int (pos 0))))
    (level no_scope none) (level no_scope (also (points here (Known (Variable c)) []) none)))
inv-taken =
    branches here (Equal (Known (Variable full)) (Known (Int (pos 0)))) no_scope no_scope none
    (also (points here (Known (Variable c)) []) none) refl (λ n o. absurd (no-existential n o)) (all_taken refl)
    (take _ _ (inl (refl, refl)) (plain tt) (all_taken refl))

inv-determined : Determined buffered.level
inv-determined = take _ _ (inl (refl, refl)) inv-taken (all_taken refl)

inv-ordered : IsOrderOf buffered buffered
inv-ordered = record {
  names = refl;
  level = (
    _,
    refl,
    (
      _,
      _,
      inl (inv-taken, refl, refl),
      (_, _, refl, (_, refl, refl), (_, refl, (_, _, inl (plain tt, refl, refl), refl, refl))),
      refl,
    ),
  );
}

determined : All (λ (a : Assertion). Determined a.level) (annotations_in buffer)
determined =
    All-cons D buffered (one_cell ∷ emp ∷ emp ∷ one_cell ∷ emp ∷ emp ∷ []) inv-determined
    (All-cons D one_cell (emp ∷ emp ∷ one_cell ∷ emp ∷ emp ∷ []) (cell-determined (own_one 0))
    (All-cons D emp (emp ∷ one_cell ∷ emp ∷ emp ∷ []) emp-determined
    (All-cons D emp (one_cell ∷ emp ∷ emp ∷ []) emp-determined
    (All-cons D one_cell (emp ∷ emp ∷ []) (cell-determined (own_one 0))
    (All-cons D emp (emp ∷ []) emp-determined (All-cons D emp [] emp-determined (All-nil D)))))))
  where
    D : Assertion → Type 0
    D a = Determined a.level

-- Its sets: each procedure takes the resource, none holds it, and no variable is free
is-lock : (r : ResId) → Contains (lock ∷ []) r → lock ≡ r
is-lock r k = elim ((contains-cons lock [] r).0 k) [ inl e ↦ e | inr n ↦ absurd (contains-nil r n) ]

has-lock : (r : ResId) → lock ≡ r → Contains (lock ∷ []) r
has-lock r e = (contains-cons lock [] r).1 (inl e)

enters-lock : (r : ResId) (f : ProcId) → Enters buffer r f → lock ≡ r
enters-lock r f (h, e, w) =
    of-three (λ (g : Procedure). EntersIn r g.body → lock ≡ r) put get passes_on
    (λ w. inside (at_one P (sites [] put.body) w)) (λ w. inside (at_one P (sites [] get.body) w))
    (λ w. elim (at_one P (sites [] passes_on.body) w) [
      | inl k ↦ absurd (contains-nil r k)
      | inr (inl k) ↦ absurd (contains-nil r k)
      | inr (inr (inl k)) ↦ absurd (contains-nil r k)
      | inr (inr (inr n)) ↦ absurd n
    ])
    f.0 h e w
  where
    P : Site → Type 0
    P s = Contains (head_regions s.command) r

    inside : Contains (lock ∷ []) r ⊎ (Contains [] r ⊎ (Contains [] r ⊎ ⊥)) → lock ≡ r
    inside (inl k) = is-lock r k
    inside (inr (inl k)) = absurd (contains-nil r k)
    inside (inr (inr (inl k))) = absurd (contains-nil r k)
    inside (inr (inr (inr n))) = absurd n

takes-lock : (f : ProcId) (r : ResId) → Takes buffer f r → lock ≡ r
takes-lock f r w = everywhere (enters-lock r) f w

put-takes : Takes buffer (record { 0 = 0 }) lock
put-takes = let l : 0 < 3 = omega arith in directly (put, refl, (_, (0, l, refl), has-lock lock refl))

get-takes : Takes buffer (record { 0 = 1 }) lock
get-takes = let l : 0 < 3 = omega arith in directly (get, refl, (_, (0, l, refl), has-lock lock refl))

main-takes : Takes buffer (record { 0 = 2 }) lock
main-takes =
    let second : 1 < 3 = omega arith in
    let first : 0 < 2 = omega arith in
    through (record { 0 = 0 }) (passes_on, refl, (_, (1, second, refl), (tt, (puts_x, (0, first, refl), refl))))
    put-takes

all-take : (f : ProcId) → f.0 < 3 → Takes buffer f lock
all-take f l = by-number f.0 l
  where
    by-number : (k : ℕ) → k < 3 → Takes buffer (record { 0 = k }) lock
    by-number zero l = put-takes
    by-number (suc zero) l = get-takes
    by-number (suc (suc zero)) l = main-takes
    by-number (suc (suc (suc k))) l = absurd (omega (arith, l))

-- no contract mentions a variable of the resource
module _ (r : ResId) (i : ℕ) where
  put-contract : VarOccursIn one_cell.level (Shared r i) ⊎ VarOccursIn emp.level (Shared r i) → ⊥
  put-contract (inl o) = cell-no_shared 0 r i o
  put-contract (inr o) = emp-no_var (Shared r i) o

  get-contract : VarOccursIn emp.level (Shared r i) ⊎ VarOccursIn one_cell.level (Shared r i) → ⊥
  get-contract (inl o) = emp-no_var (Shared r i) o
  get-contract (inr o) = cell-no_shared 0 r i o

  main-contract : VarOccursIn emp.level (Shared r i) ⊎ VarOccursIn emp.level (Shared r i) → ⊥
  main-contract (inl o) = emp-no_var (Shared r i) o
  main-contract (inr o) = emp-no_var (Shared r i) o

  -- and outside the regions none occurs
  abbrev Occurs : Site → Type 0
  Occurs s = IsOutside (owner (Shared r i)) (head_regions s.command ++ s.entered)
      × IsAmong (Shared r i) (occurrences_at s.command)

  not-own : (n : ℕ) → Own n ≡ Shared r i → ⊥
  not-own n e = absurd (cc)

  of-lock : (n : ℕ) → Shared lock n ≡ Shared r i → lock ≡ r
  of-lock n e = cc

  put-outside : OccursOutside (Shared r i) put.body → ⊥
  put-outside w = elim (at_one Occurs (sites [] put.body) w) [
    | inl (out, inl e) ↦ out (has-lock r (of-lock 1 e))
    | inl (out, inr n) ↦ n
    | inr (inl (out, inl e)) ↦ out (has-lock r (of-lock 0 e))
    | inr (inl (out, inr (inl e))) ↦ not-own 0 e
    | inr (inl (out, inr (inr n))) ↦ n
    | inr (inr (inl (out, inl e))) ↦ out (has-lock r (of-lock 1 e))
    | inr (inr (inl (out, inr n))) ↦ n
    | inr (inr (inr n)) ↦ n
  ]

  get-outside : OccursOutside (Shared r i) get.body → ⊥
  get-outside w = elim (at_one Occurs (sites [] get.body) w) [
    | inl (out, inl e) ↦ out (has-lock r (of-lock 1 e))
    | inl (out, inr n) ↦ n
    | inr (inl (out, inl e)) ↦ not-own 0 e
    | inr (inl (out, inr (inl e))) ↦ out (has-lock r (of-lock 0 e))
    | inr (inl (out, inr (inr n))) ↦ n
    | inr (inr (inl (out, inl e))) ↦ out (has-lock r (of-lock 1 e))
    | inr (inr (inl (out, inr n))) ↦ n
    | inr (inr (inr n)) ↦ n
  ]

  main-outside : OccursOutside (Shared r i) passes_on.body → ⊥
  main-outside w = elim (at_one Occurs (sites [] passes_on.body) w) [
    | inl (out, inl e) ↦ not-own 0 e
    | inl (out, inr n) ↦ n
    | inr (inl (out, inl e)) ↦ not-own 0 e
    | inr (inl (out, inr (inl e))) ↦ not-own 1 e
    | inr (inl (out, inr (inr n))) ↦ n
    | inr (inr (inl (out, inl e))) ↦ not-own 1 e
    | inr (inr (inl (out, inr n))) ↦ n
    | inr (inr (inr n)) ↦ n
  ]

  in-all : (C D O : Type 0) → (C ⊎ D → ⊥) → (O → ⊥) → C ⊎ (D ⊎ O) → ⊥
  in-all C D O contract outside (inl o) = contract (inl o)
  in-all C D O contract outside (inr (inl o)) = contract (inr o)
  in-all C D O contract outside (inr (inr o)) = outside o

  mentions-none : (f : ProcId) → Mentions buffer (Shared r i) f → ⊥
  mentions-none f (h, e, m) =
      of-three (λ (g : Procedure). VarOccursIn g.pre.level (Shared r i)
      ⊎ (VarOccursIn g.post.level (Shared r i) ⊎ OccursOutside (Shared r i) g.body) → ⊥)
      put get passes_on (in-all _ _ _ put-contract put-outside) (in-all _ _ _ get-contract get-outside)
      (in-all _ _ _ main-contract main-outside) f.0 h e m

holds-none : (f : ProcId) (r : ResId) → HasThroughout buffer f r → ⊥
holds-none f r (inr s) = absurd (true≢false (sym s.0 ∙ unnamed (slice_get buffer.procedures f.0) refl))
  where
    unnamed : (o : Option Procedure) → slice_get buffer.procedures f.0 ≡ o → sets_up buffer f ≡ false
    unnamed None e = ap (λ z. bytes_eq (name_in z) init_name) e
    unnamed (Some g) e = sets_up-is buffer f g e ∙ others f.0 g e
holds-none f r (inl h) =
    of-three (λ (g : Procedure). VarOccursIn g.pre.level (Shared r h.variable)
    ⊎ VarOccursIn g.post.level (Shared r h.variable) → ⊥)
    put get passes_on (put-contract r h.variable) (get-contract r h.variable) (main-contract r h.variable) f.0
    h.procedure h.there h.occurs

free-none : (f : ProcId) (z : Var) → Free buffer f z → ⊥
free-none f (Own n) w = w.0
free-none f (Shared r i) w = everywhere (mentions-none r i) f w.1

abbrev own_sets : Sets
own_sets = record {
  takes = (lock ∷ []) ∷ (lock ∷ []) ∷ (lock ∷ []) ∷ [];
  holds = [] ∷ [] ∷ [] ∷ [];
  free = [] ∷ [] ∷ [] ∷ [];
}

are-sets : AreSetsOf buffer own_sets
are-sets = record {
  takes = set-of_each IsEarlierResource (Takes buffer) 3 (lock ∷ [])
      (λ f l. set-single IsEarlierResource (Takes buffer f) lock (all-take f l) (takes-lock f));
  holds = set-of_each IsEarlierResource (HasThroughout buffer) 3 []
      (λ f l. set-nothing IsEarlierResource (HasThroughout buffer f) (holds-none f));
  free = set-of_each IsEarlier (Free buffer) 3 [] (λ f l. set-nothing IsEarlier (Free buffer f) (free-none f));
}

-- The conditions on variables: what is inside the regions is held, and the calls share nothing
held : (f : ProcId) → (IsHeld buffer f (lock ∷ []) lock → ⊥) → ⊥
held f never = never (inr (has-lock lock refl))

unheld : (f : ProcId) → IsHeld buffer f [] lock → ⊥
unheld f (inl h) = holds-none f lock h
unheld f (inr k) = contains-nil lock k

put-changes_none : (z : Var) → MayChange buffer puts_x z → ⊥
put-changes_none z (inl a) = a
put-changes_none z (inr w) = free-none (record { 0 = 0 }) z w

get-changes_y : (z : Var) → MayChange buffer gets_y z → Own 1 ≡ z
get-changes_y z (inl (inl e)) = e
get-changes_y z (inl (inr n)) = absurd n
get-changes_y z (inr w) = absurd (free-none (record { 0 = 1 }) z w)

x-is_not_y : Own 0 ≡ Own 1 → ⊥
x-is_not_y e = absurd (cc)

unshared : (z : Var) → Shares buffer puts_x gets_y z → ⊥
unshared z (inl s) = put-changes_none z s.0
unshared z (inr (m, inl k)) = put-changes_none z k
unshared z (inr (m, inr (inl e))) = x-is_not_y (e ∙ sym (get-changes_y z m))
unshared z (inr (m, inr (inr n))) = n

-- the answer to a question is no, and so are those after it
nor : {A B : Type 0} → (A → ⊥) → B → (A → ⊥) × B
nor a b = (a, b)

conditions : Conditions buffer
conditions =
    nor (held f0) (nor (unheld f0) (nor (held f0) (nor (λ b. b) (nor (held f0)
    (nor (held f1) (nor (unheld f1) (nor (λ b. b) (nor (held f1) (nor (held f1)
    (nor (λ b. b) (nor (λ b. free-none f0 _ b.0) (nor (λ b. free-none f0 _ b.0) (nor (λ b. b)
    (nor (λ b. free-none f1 _ b.0) (nor (λ b. free-none f1 _ b.0) (nor (λ b. b)
    (nor (λ b. unheld f2 b.1) (nor (λ b. unheld f2 b.1) (nor (λ b. b) (nor (λ b. b.0)
    (nor (unshared (Own 0)) (nor (unshared (Own 1)) (nor (unshared (Shared lock 0))
    (nor (unshared (Shared lock 1)) (nor (λ b. b) tt)))))))))))))))))))))))))
  where
    f0 : ProcId
    f0 = record { 0 = 0 }

    f1 : ProcId
    f1 = record { 0 = 1 }

    f2 : ProcId
    f2 = record { 0 = 2 }

-- Its proof
module _ (in_order : Assertion → Assertion) (ordering : IsOrdering in_order) where
  abbrev own_setting : Setting
  own_setting = record { program = buffer; sets = own_sets; ordered = in_order }

  emp-same : in_order emp ≡ emp
  emp-same = ordering.ordered emp emp emp-ordered

  cell-same : in_order one_cell ≡ one_cell
  cell-same = ordering.ordered one_cell one_cell (cell-ordered (own_one 0))

  resources-same : (k : ℕ) (r : Resource) → slice_get buffer.resources k ≡ Some r
      → in_order r.invariant ≡ r.invariant
  resources-same zero r e =
      let same : buf ≡ r = cc in
      subst (λ (z : Resource). in_order z.invariant ≡ z.invariant) same
      (ordering.ordered buffered buffered inv-ordered)
  resources-same (suc k) r e = absurd (none-some r e)

  as-written : IsAsWritten own_setting
  as-written = record {
    procedures = of-three (λ (g : Procedure). (in_order g.pre ≡ g.pre) × (in_order g.post ≡ g.post)) put get passes_on
        (cell-same, emp-same) (emp-same, cell-same) (emp-same, emp-same);
    resources = resources-same;
  }

  proves : Proves own_setting buffer_tags
  proves =
      procedure-proved own_setting as-written 0 put (get ∷ passes_on ∷ [])
      (t.Add ∷ t.Enter ∷ t.Split (Sym 2) (number (pos 0)) ∷ t.Then ∷ t.Add ∷ t.Assign ∷ t.Assign ∷ t.Exit ∷ t.Else
      ∷ t.Cell 1 ∷ t.Give ∷ t.Return ∷ t.End ∷ t.Else ∷ t.Add ∷ t.Add ∷ t.Absurd ∷ []) _ refl refl refl
      (procedure-proved own_setting as-written 1 get (passes_on ∷ [])
      (t.Enter ∷ t.Split (Sym 2) (number (pos 0)) ∷ t.Then ∷ t.Add ∷ t.Absurd ∷ t.Else ∷ t.Add ∷ t.Add ∷ t.Assign
      ∷ t.Assign ∷ t.Exit ∷ t.Then ∷ t.Give ∷ t.Return ∷ t.Cell 1 ∷ t.End ∷ []) _ refl refl refl
      (procedure-proved own_setting as-written 2 passes_on []
      (t.New ∷ t.Fork ∷ t.Cell 1 ∷ t.Give ∷ t.Add ∷ t.Dispose 2 ∷ t.Return ∷ t.End ∷ []) [] refl refl refl refl))

  is-own : IsSettingOf buffer own_setting
  is-own = record { program = refl; sets = are-sets; ordering = ordering }

pub buffer_is_sound : ProofsAreSound → OrderingExists → BufferIsSound
buffer_is_sound law exists =
    example-is-sound law exists buffer buffer_tags formed conditions determined own_setting is-own proves
