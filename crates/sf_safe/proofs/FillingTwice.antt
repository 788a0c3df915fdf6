-- Two tasks that enter one region: the program is formed, meets the conditions, and its bodies are safe.
-- Names: `formed-WHAT`, `conditions-WHAT`, `safe-WHAT`; the law's.
use Rattle.std.specs.Prelude.{◌≡◌, ◌⊎◌, ℕ, pos, zero, suc, Bool, slice_get, true, false, cond, [], ◌∷◌, Contains, Option, Some, None, codes, ◌==◌, ◌&&◌, ◌<◌, ◌≤◌, ◌+◌, ◌-◌, length, leb, ltb}
use Rattle.std.specs.Option.{unwrap_or}
use Rattle.std.specs.Str.{bytes_eq}
use Rattle.std.proofs.Common.{true≢false, sym, ap, ◌∙◌, refl, subst, subst₂, inl, inr, arith}
use Rattle.std.proofs.lemmas.Bool.Decides.{nat_tests}
use Rattle.std.proofs.lemmas.Option.{none-some, same_Some}
use Rattle.sf_base.specs.declared.ids.ProcId.{ProcId}
use Rattle.sf_base.specs.declared.ids.ResId.{ResId}
use Rattle.sf_base.specs.declared.ids.Var.{Var}
use Rattle.sf_base.specs.declared.ids.Var.TheVariants.{Own as OwnVar, Shared}
use Rattle.sf_base.specs.declared.value.Value.{Value}
use Rattle.sf_base.specs.declared.value.Value.TheVariants.{Nil as nil, Int as int, Loc as loc}
use Rattle.sf_base.specs.HeapStore.{Cell, IsEmpty, IsOne, Slot, own, put_field, shared}
use Rattle.sf_base.proofs.Elements.{contains-cons, contains-nil, contains-single, contains-single_of}
use Rattle.sf_base.proofs.HeapSplits.{one-put_cell, star-drop_right, star-empty_right}
use Rattle.sf_base.proofs.MapSplits.{empty-holds, empty-is, map-same, splits-has_right}
use Rattle.sf_calls.specs.declared.breach.Breach.{Breach}
use Rattle.sf_calls.specs.declared.breach.Breach.TheVariants.{NotHeld, ParallelShares, Reentered, ReferenceIsFree, SameReference}
use Rattle.sf_calls.specs.Around.{IsHeld, Shares}
use Rattle.sf_calls.specs.Breaks.{Breaks, BreaksAt, IsAgain}
use Rattle.sf_calls.specs.Conditions.{Free, FreeIn, Mentions}
use Rattle.sf_calls.specs.FirstBreach.{Conditions}
use Rattle.sf_calls.specs.Outside.{OccursOutside}
use Rattle.sf_calls.specs.Checked.Lemmas.Sites.{at_one}
use Rattle.sf_calls.specs.Reaches.{directly, through}
use Rattle.sf_calls.specs.Checked.Lemmas.Broken.{first_broken}
use Rattle.sf_core.specs.Assertions.Occurs.{VarOccursIn}
use Rattle.sf_core.specs.Assertions.Sat.{Sat}
use Rattle.sf_core.specs.declared.command.Expr.TheVariants.{Int}
use Rattle.sf_core.specs.declared.assertion.Scope.{Scope}
use Rattle.sf_core.specs.declared.assertion.Test.TheVariants.{True}
use Rattle.sf_core.specs.declared.command.Occurrence.{Occurrence}
use Rattle.sf_core.proofs.Assertions.Scopes.{below-single, disjoint-single}
use Rattle.sf_core.specs.Machine.Config.{command, evaluate, in_room, items, leave}
use Rattle.sf_core.specs.Checked.Machine.Examples.{at_shared, calls, emp, guarding, hd, here, lock, shared_one}
use Rattle.sf_core.specs.Machine.HasThroughout.{HasThroughout}
use Rattle.sf_core.specs.Machine.Start.{entry_slot}
use Rattle.sf_core.specs.Machine.Step.{arguments, index_of, room_for}
use Rattle.sf_core.specs.Program.Heads.{Site, call_occurrences, sites}
use Rattle.sf_core.specs.Program.Formed.{AssertionWithin, CallWithin, IsFormed, IsOfResource, IsParameter, ProcedureWithin}
use Rattle.sf_core.specs.Checked.GoodParts.{SatEach}
use Rattle.sf_core.specs.Machine.Good.{owed_by}
use Rattle.sf_core.specs.Program.Init.{init_name, is_init, sets_up}
use Rattle.sf_core.specs.Program.Named.{name_in}
use Rattle.sf_core.proofs.Inits.{owed_by-post}
use Rattle.sf_core.specs.Program.Syntax.{Call, Command, done, fork, mutate, then, with, Procedure, Program, Resource}
use Rattle.sf_safe.specs.Checked.Own.{Own, Parts, new_slots, nothing, put_cell, without_room}
use Rattle.sf_safe.specs.Checked.Contract.{Ended, Entered, FreeShare, IsVariableOf, Known, OwnsVariables, Returned, given_back, see}
use Rattle.sf_safe.specs.Checked.Examples.{FillingTwiceIsSound, fills, filling_twice, twice}
use Rattle.sf_safe.specs.Checked.Law.{BodiesAreSafe, SafeProgramsAreSound}
use Rattle.sf_safe.specs.Checked.Safe.{Enters, Forks, Safe, callee}
use Rattle.sf_safe.specs.Checked.Owns.{own-same, parts-comm, parts-nothing, parts-of_nothing, parts-put_cell}
use Rattle.sf_safe.proofs.Sound.{safe_programs_are_sound}

-- the program's two procedures
which : (k : ℕ) (g : Procedure) → slice_get (twice ∷ fills ∷ []) k ≡ Some g → (twice ≡ g) ⊎ (fills ≡ g)
which zero g e = inl (same_Some twice g e)
which (suc zero) g e = inr (same_Some fills g e)
which (suc (suc k)) g e = absurd (cc)

-- FORMED

-- the scope of an assertion without existentials
abbrev no_scope : Scope
no_scope = record { first = 0; count = 0 }

formed-emp : (g : Procedure) → AssertionWithin filling_twice.fields (IsParameter filling_twice g) emp
formed-emp g = record {
  annotation = record {
    within = tt;
    disjoint = disjoint-single no_scope;
    depth = let e : 1 ≤ 64 = omega arith in e;
  };
  named = below-single no_scope 0 (omega arith);
  names = refl;
}

formed-call : CallWithin filling_twice twice (calls 1 [])
formed-call = record {
  callee = (refl, refl);
  no_init = refl;
  references = λ k g l. let e : ⊥ = omega arith in absurd e;
  values = λ k g l. let e : ⊥ = omega arith in absurd e;
}

formed-twice : ProcedureWithin filling_twice twice
formed-twice = record {
  declared_count = let e : 0 ≤ 256 = omega arith in e;
  declared = let e : 0 ≤ 0 = omega arith in e;
  primed = let e : 0 ≤ 0 = omega arith in e;
  pre = formed-emp twice;
  post = formed-emp twice;
  body = ((formed-call, formed-call), tt);
  depth = let e : 1 ≤ 64 = omega arith in e;
  init = λ e. absurd (true≢false (sym e));
}

formed-fills : ProcedureWithin filling_twice fills
formed-fills =
    let one : 0 < 1 = omega arith in record {
      declared_count = let e : 0 ≤ 256 = omega arith in e;
      declared = let e : 0 ≤ 0 = omega arith in e;
      primed = let e : 0 ≤ 0 = omega arith in e;
      pre = formed-emp fills;
      post = formed-emp fills;
      body = ((one, tt, ((one, one, tt), tt)), tt);
      depth = let e : 2 ≤ 64 = omega arith in e;
      init = λ e. absurd (true≢false (sym e));
    }

formed-procedures : (k : ℕ) (g : Procedure) → slice_get (twice ∷ fills ∷ []) k ≡ Some g
    → ProcedureWithin filling_twice g
formed-procedures k g e = elim (which k g e) [
  | inl i ↦ subst (ProcedureWithin filling_twice) i formed-twice
  | inr i ↦ subst (ProcedureWithin filling_twice) i formed-fills
]

pub formed-resources : (k : ℕ) (r : Resource) → slice_get (guarding ∷ []) k ≡ Some r
    → AssertionWithin filling_twice.fields (IsOfResource k (length r.variables)) r.invariant
formed-resources zero r e =
    let one : 0 < 1 = omega arith in
    subst (λ z. AssertionWithin filling_twice.fields (IsOfResource 0 (length z.variables)) z.invariant)
    (same_Some guarding r e)
    (record {
      annotation = record {
        within = (((refl, one), tt), tt);
        disjoint = disjoint-single no_scope;
        depth = let e : 1 ≤ 64 = omega arith in e;
      };
      named = below-single no_scope 0 (omega arith);
      names = refl;
    })
formed-resources (suc k) r e = absurd (cc)

-- the program of two procedures beside the one resource
abbrev pub beside : Procedure → Procedure → Program
beside one other = record { fields = codes "hd" ∷ []; resources = guarding ∷ []; procedures = one ∷ other ∷ [] }

-- neither sets the resource up
plain : (k : ℕ) (g : Procedure) → slice_get (twice ∷ fills ∷ []) k ≡ Some g → is_init g ≡ false
plain k g e = elim (which k g e) [ inl i ↦ ap is_init (sym i) | inr i ↦ ap is_init (sym i) ]

-- so each return owes a postcondition
owes-post : (g : Procedure) → is_init g ≡ false → owed_by filling_twice g ≡ g.post.level ∷ []
owes-post g n = owed_by-post filling_twice g n

-- two procedures beside the one resource are a program that is formed, where each is within it and at most one sets
-- the resource up
pub formed-two : (one other : Procedure)
    → ((k : ℕ) (g : Procedure) → slice_get (one ∷ other ∷ []) k ≡ Some g → ProcedureWithin (beside one other) g)
    → ((j k : ℕ) (f g : Procedure) → slice_get (one ∷ other ∷ []) j ≡ Some f
    → slice_get (one ∷ other ∷ []) k ≡ Some g → is_init f ≡ true → is_init g ≡ true → j ≡ k)
    → IsFormed (beside one other)
formed-two one other within one_init = record {
  procedures = within;
  resources = formed-resources;
  procedure_count = let e : 2 ≤ 1000 = omega arith in e;
  resource_count = let e : 1 ≤ 64 = omega arith in e;
  field_count = let e : 1 ≤ 16 = omega arith in e;
  variables = let e : 1 ≤ 256 = omega arith in e;
  one_init = one_init;
}

formed : IsFormed filling_twice
formed = formed-two twice fills formed-procedures (λ j k f g a b i n. absurd (true≢false (sym i ∙ plain j f a)))

-- CONDITIONS

emp-none : (x : Var) → VarOccursIn emp.level x → ⊥
emp-none x o = o.2.0

fills-outside : (r : ResId) (i : ℕ) → OccursOutside (Shared r i) fills.body → ⊥
fills-outside r i o = elim (at_one _ (sites [] fills.body) o) [
  | inl h ↦ h.1
  | inr k ↦ elim k [
    | inl h ↦ elim h.1 [ inl e ↦ h.0 (contains-single_of lock r (same e)) | inr e ↦ e ]
    | inr e ↦ e
  ]
]
  where
    same : Shared lock 0 ≡ Shared r i → lock ≡ r
    same e = cc

twice-outside : (r : ResId) (i : ℕ) → OccursOutside (Shared r i) twice.body → ⊥
twice-outside r i o = elim (at_one _ (sites [] twice.body) o) [ inl h ↦ h.1 | inr e ↦ e ]

-- what a procedure mentions, by its contract and its body
abbrev Mentioned : Procedure → Var → Type 0
Mentioned g x = VarOccursIn g.pre.level x ⊎ (VarOccursIn g.post.level x ⊎ OccursOutside x g.body)

mentions-none : (f : ProcId) (r : ResId) (i : ℕ) → Mentions filling_twice (Shared r i) f → ⊥
mentions-none f r i (h, there, o) = elim (which f.0 h there) [
  | inl e ↦ in-twice (subst (λ z. Mentioned z (Shared r i)) (sym e) o)
  | inr e ↦ in-fills (subst (λ z. Mentioned z (Shared r i)) (sym e) o)
]
  where
    in-twice : Mentioned twice (Shared r i) → ⊥
    in-twice (inl a) = emp-none (Shared r i) a
    in-twice (inr (inl a)) = emp-none (Shared r i) a
    in-twice (inr (inr a)) = twice-outside r i a

    in-fills : Mentioned fills (Shared r i) → ⊥
    in-fills (inl a) = emp-none (Shared r i) a
    in-fills (inr (inl a)) = emp-none (Shared r i) a
    in-fills (inr (inr a)) = fills-outside r i a

-- no variable is free in a procedure
free-none : (f : ProcId) (x : Var) → Free filling_twice f x → ⊥
free-none f (OwnVar i) (shared_, m) = shared_
free-none f (Shared r i) (shared_, m) = go f m
  where
    go : (f : ProcId) → FreeIn filling_twice f (Shared r i) → ⊥
    go f (directly m) = mentions-none f r i m
    go f (through g c m) = go g m

-- no contract holds a resource
sets-none : (f : ProcId) (o : Option Procedure) → slice_get filling_twice.procedures f.0 ≡ o
    → sets_up filling_twice f ≡ true → ⊥
sets-none f None e i = true≢false (sym i ∙ ap (λ z. bytes_eq (name_in z) init_name) e)
sets-none f (Some g) e i =
    true≢false (sym i ∙ ap (λ z. bytes_eq (name_in z) init_name) e ∙ plain f.0 g e)

held-none : (f : ProcId) (r : ResId) → HasThroughout filling_twice f r → ⊥
held-none f r (inr h) = sets-none f (slice_get filling_twice.procedures f.0) refl h.0
held-none f r (inl h) = elim (which f.0 h.procedure h.there) [
  | inl e ↦ go twice (λ x o. emp-none x o) (λ x o. emp-none x o) e
  | inr e ↦ go fills (λ x o. emp-none x o) (λ x o. emp-none x o) e
]
  where
    go : (g : Procedure) → ((x : Var) → VarOccursIn g.pre.level x → ⊥)
        → ((x : Var) → VarOccursIn g.post.level x → ⊥) → g ≡ h.procedure → ⊥
    go g a b e = elim h.occurs [
      | inl o ↦ a (Shared r h.variable) (subst (λ z. VarOccursIn z.pre.level (Shared r h.variable)) (sym e) o)
      | inr o ↦ b (Shared r h.variable) (subst (λ z. VarOccursIn z.post.level (Shared r h.variable)) (sym e) o)
    ]

-- outside regions no resource is held
unheld-outside : (f : ProcId) (r : ResId) → IsHeld filling_twice f [] r → ⊥
unheld-outside f r (inl h) = held-none f r h
unheld-outside f r (inr c) = contains-nil r c

-- the two commands of `fills`, and the one of `twice`
abbrev filling : Command
filling = mutate here shared_one hd (Int (pos 7))

abbrev entering : Command
entering = with here lock True (then filling done)

abbrev forking : Command
forking = fork here (calls 1 []) (calls 1 [])

abbrev outside : Command → Site
outside c = record { entered = []; command = c }

abbrev in_lock : Command → Site
in_lock c = record { entered = lock ∷ []; command = c }

shares-none : (x : Var) → Shares filling_twice (calls 1 []) (calls 1 []) x → ⊥
shares-none x (inl (inl a, b)) = a
shares-none x (inl (inr a, b)) = free-none (record { 0 = 1 }) x a
shares-none x (inr (inl a, b)) = a
shares-none x (inr (inr a, b)) = free-none (record { 0 = 1 }) x a

-- a call that `twice` makes is that of `fills`, without references
made-call : (d : Call) → Contains (calls 1 [] ∷ calls 1 [] ∷ []) d → calls 1 [] ≡ d
made-call d m = elim ((contains-cons (calls 1 []) (calls 1 [] ∷ []) d).0 m) [
  | inl e ↦ e
  | inr k ↦ contains-single (calls 1 []) d k
]

conditions-fork : (f : ProcId) (b : Breach) → BreaksAt filling_twice f b (outside forking) → ⊥
conditions-fork f (NotHeld place x) (u, inl (inl c)) = contains-nil (record { var = x; place = place }) c
conditions-fork f (NotHeld place x) (u, inl (inr (d, m, c))) =
    contains-nil (record { var = x; place = place })
    (subst (λ (z : Call). Contains (call_occurrences z) (record { var = x; place = place }))
    (sym (made-call d m)) c)
conditions-fork f (NotHeld place x) (u, inr (d, m, (i, free))) = free-none d.callee x free
conditions-fork f (Reentered place r) (h, o) = unheld-outside f r h
conditions-fork f (SameReference place x) (d, m, again) =
    subst (λ (z : Call). IsAgain (record { var = x; place = place }) z.references)
    (sym (made-call d m)) again
conditions-fork f (ReferenceIsFree place x) (d, m, (c, free)) = free-none d.callee x free
conditions-fork f (ParallelShares place x) (e, m, i, s) =
    shares-none x
    (subst (λ (z : Call × Call). Shares filling_twice z.0 z.1 x)
    (sym (contains-single (calls 1 [], calls 1 []) e m)) s)

conditions-enter : (f : ProcId) (b : Breach) → BreaksAt filling_twice f b (outside entering) → ⊥
conditions-enter f (NotHeld place x) (u, inl (inl c)) = contains-nil (record { var = x; place = place }) c
conditions-enter f (NotHeld place x) (u, inl (inr o)) = contains-nil o.0 o.1
conditions-enter f (NotHeld place x) (u, inr o) = contains-nil o.0 o.1
conditions-enter f (Reentered place r) (h, o) = unheld-outside f r h
conditions-enter f (SameReference place x) o = contains-nil o.0 o.1
conditions-enter f (ReferenceIsFree place x) o = contains-nil o.0 o.1
conditions-enter f (ParallelShares place x) o = contains-nil o.0 o.1

conditions-fill : (f : ProcId) (b : Breach) → BreaksAt filling_twice f b (in_lock filling) → ⊥
conditions-fill f (NotHeld place (OwnVar i)) (u, o) = u
conditions-fill f (NotHeld place (Shared r i)) (u, inl (inl c)) =
    u (inr ((contains-cons lock [] r).1 (inl (same r i (contains-single at_shared _ c)))))
  where
    same : (r : ResId) (i : ℕ) → at_shared ≡ record { var = Shared r i; place = place } → lock ≡ r
    same r i e = let v : Shared lock 0 ≡ Shared r i = ap (λ (z : Occurrence). z.var) e in cc
conditions-fill f (NotHeld place (Shared r i)) (u, inl (inr o)) = contains-nil o.0 o.1
conditions-fill f (NotHeld place (Shared r i)) (u, inr o) = contains-nil o.0 o.1
conditions-fill f (Reentered place r) (h, inl o) = contains-nil r o.1
conditions-fill f (Reentered place r) (h, inr o) = contains-nil o.0 o.1
conditions-fill f (SameReference place x) o = contains-nil o.0 o.1
conditions-fill f (ReferenceIsFree place x) o = contains-nil o.0 o.1
conditions-fill f (ParallelShares place x) o = contains-nil o.0 o.1

conditions-twice : (f : ProcId) (b : Breach) (s : Site) → Contains (sites [] twice.body) s
    → BreaksAt filling_twice f b s → ⊥
conditions-twice f b s m k =
    conditions-fork f b (subst (BreaksAt filling_twice f b) (sym (contains-single (outside forking) s m)) k)

conditions-fills : (f : ProcId) (b : Breach) (s : Site) → Contains (sites [] fills.body) s
    → BreaksAt filling_twice f b s → ⊥
conditions-fills f b s m k = elim ((contains-cons (outside entering) (in_lock filling ∷ []) s).0 m) [
  | inl e ↦ conditions-enter f b (subst (BreaksAt filling_twice f b) (sym e) k)
  | inr l ↦
      conditions-fill f b
      (subst (BreaksAt filling_twice f b) (sym (contains-single (in_lock filling) s l)) k)
]

conditions : Conditions filling_twice
conditions = (first_broken filling_twice formed).unbroken (λ f b breaks. go f b breaks)
  where
    go : (f : ProcId) (b : Breach) → Breaks filling_twice f b → ⊥
    go f b (h, there, (s, m, k)) = elim (which f.0 h there) [
      | inl e ↦ conditions-twice f b s (subst (λ (z : Procedure). Contains (sites [] z.body) s) (sym e) m) k
      | inr e ↦ conditions-fills f b s (subst (λ (z : Procedure). Contains (sites [] z.body) s) (sym e) m) k
    ]

-- SAFE: a frame of either procedure begins and ends with nothing

never : {A : Type 0} (i : ℕ) → i < 0 → A
never i l = let e : ⊥ = omega (arith, l) in absurd e

variable-none : (f : ProcId) (g : Procedure) → g.names ≡ [] → is_init g ≡ false → (x : Var)
    → IsVariableOf filling_twice f g x → ⊥
variable-none f g e n (OwnVar i) l = never i (subst (λ z. i < length z) e l)
variable-none f g e n (Shared r i) (inl a) = free-none f (Shared r i) a
variable-none f g e n (Shared r i) (inr a) = true≢false (sym a.0 ∙ n)

some-none : (x : Option Value) → ((v : Value) → x ≡ Some v → ⊥) → x ≡ None
some-none None n = refl
some-none (Some v) n = absurd (n v refl)

owns-nothing : (k : Known) (g : Procedure) (w : Own) → g.names ≡ [] → is_init g ≡ false
    → OwnsVariables filling_twice k g w → IsEmpty w.cells → w ≡ nothing
owns-nothing k g w e n o empty = own-same w nothing (empty-is empty)
    (map-same w.slots (λ s. None) (λ s. some-none (w.slots s)
    (λ v i. let m = o.variables.only s v i in variable-none k.fixed.procedure g e n m.0 m.1)))
    (map-same w.tokens (λ r. None) (λ r. o.tokens r
    ∙ ap (λ b. cond {A = Option (Unit {0})} (b && ltb r.0 1) (Some tt) None) n))

-- the contracts of both procedures want nothing
contract : (k : ℕ) (g : Procedure) → slice_get (twice ∷ fills ∷ []) k ≡ Some g
    → (g.names ≡ []) × (g.pre ≡ emp) × (g.post ≡ emp)
contract k g e = elim (which k g e) [
  | inl i ↦ subst (λ z. (z.names ≡ []) × (z.pre ≡ emp) × (z.post ≡ emp)) i (refl, refl, refl)
  | inr i ↦ subst (λ z. (z.names ≡ []) × (z.pre ≡ emp) × (z.post ≡ emp)) i (refl, refl, refl)
]

entered-nothing : (k : Known) (w : Own) → Entered filling_twice k w → w ≡ nothing
entered-nothing k w e =
    let c = contract k.fixed.procedure.0 e.procedure e.owns.frame.there in
    let pre = subst (λ z. Sat z.level (see k w) (λ n. nil) w.cells) c.1 e.pre in
    owns-nothing k e.procedure w c.0 (plain k.fixed.procedure.0 e.procedure e.owns.frame.there) e.owns pre.2

ended-nothing : (k : Known) (w : Own) → Ended filling_twice k w → w ≡ nothing
ended-nothing k w e =
    let c = contract k.fixed.procedure.0 e.procedure e.owns.frame.there in
    let n = plain k.fixed.procedure.0 e.procedure e.owns.frame.there in
    let posts = subst (λ z. SatEach z (see k w) w.cells) (owes-post e.procedure n) e.posts in
    let post = subst (λ z. Sat z.level (see k w) (λ n. nil) w.cells) c.2 (star-drop_right posts) in
    owns-nothing k e.procedure w c.0 n e.owns post.2

-- what a frame may begin with it may end with
entered-ended : (k : Known) (w : Own) → Entered filling_twice k w → Ended filling_twice k w
entered-ended k w e =
    let c = contract k.fixed.procedure.0 e.procedure e.owns.frame.there in
    record {
      procedure = e.procedure;
      owns = e.owns;
      posts = subst (λ z. SatEach z (see k w) w.cells)
          (sym (owes-post e.procedure (plain k.fixed.procedure.0 e.procedure e.owns.frame.there)))
          (star-empty_right (subst (λ z. Sat z.level (see k w) (λ n. nil) w.cells) (c.1 ∙ sym c.2) e.pre));
    }

cond-none : (b : Bool) → cond {A = Option Value} b None None ≡ None
cond-none true = refl
cond-none false = refl

returned-nothing : (k : Known) (w : Own) → Returned filling_twice k w → w ≡ nothing
returned-nothing k w r =
    r.is ∙ ap (λ b. given_back b k.fixed.room r.full)
    (plain k.fixed.procedure.0 r.ended.procedure r.ended.owns.frame.there)
    ∙ ap (without_room k.fixed.room) (ended-nothing k r.full r.ended)
    ∙ own-same (without_room k.fixed.room nothing) nothing refl
    (map-same (without_room k.fixed.room nothing).slots (λ s. None) (λ s. cond-none (in_room k.fixed.room s))) refl

safe-end : (n : ℕ) (k : Known) (w : Own) → Ended filling_twice k w → Safe filling_twice n k [] w
safe-end zero k w e = tt
safe-end (suc n) k w e = e

-- the one cell of the lock's share
record HasCell (w : Own) : Type 0 where
  location : ℕ
  here_ : Cell
  slot : w.slots (shared lock 0) ≡ Some (loc location)
  one : IsOne location here_ w.cells

guarding-is : (w : Own) (f : FreeShare filling_twice lock w) → guarding ≡ f.resource
guarding-is w f = same_Some guarding f.resource f.there

has-cell : (w : Own) → FreeShare filling_twice lock w → HasCell w
has-cell w f =
    let is = guarding-is w f in
    let sat = subst (λ (z : Resource). Sat z.invariant.level (evaluate entry_slot w.slots) (λ n. nil) w.cells) (sym is)
    f.invariant in
    let cell = star-drop_right sat.2 in
    let one : 0 < 1 = omega arith in
    let v = f.variables.each (Shared lock 0)
    (refl, subst (λ (z : Resource). 0 < length z.variables) is one) in
    let value : v.0 ≡ loc cell.0 = sym (ap (λ z. unwrap_or z nil) v.1) ∙ cell.2 in
    record { location = cell.0; here_ = cell.1; slot = v.1 ∙ ap Some value; one = cell.3 }

-- the share with another cell in that place is a share too
refilled : (w : Own) (f : FreeShare filling_twice lock w) (c : HasCell w) (new : Cell)
    → FreeShare filling_twice lock (put_cell c.location (Some new) w)
refilled w f c new = record {
  resource = f.resource;
  there = f.there;
  variables = record { each = f.variables.each; only = f.variables.only };
  tokens = f.tokens;
  invariant = subst
      (λ (z : Resource). Sat z.invariant.level (evaluate entry_slot w.slots) (λ n. nil)
      (put_cell c.location (Some new) w).cells)
      (guarding-is w f) (
        (λ n. nil),
        (λ n e. refl),
        star-empty_right
            (c.location, new, ap (λ z. unwrap_or z nil) c.slot, one-put_cell new c.one, tt),
      );
}

safe-leave : (n : ℕ) (k : Known) (both share w : Own) → Parts both share w
    → FreeShare filling_twice lock share
    → Ended filling_twice k w → Safe filling_twice n k (leave lock ∷ []) both
safe-leave zero k both share w q f e = tt
safe-leave (suc n) k both share w q f e = record {
  share = share;
  kept = w;
  parts = q;
  free = f;
  goes_on = safe-end n k w e;
}

safe-fill : (n : ℕ) (k : Known) (both share w : Own) → Parts both w share → FreeShare filling_twice lock share
    → ((r : ResId) (i : ℕ) → k.fixed.slots (Shared r i) ≡ shared r i) → Ended filling_twice k w
    → Safe filling_twice n k (command filling ∷ leave lock ∷ []) both
safe-fill zero k both share w q f slots e = tt
safe-fill (suc n) k both share w q f slots e =
    let c = has-cell share f in
    let slot = ap both.slots (slots lock 0) ∙ splits-has_right (shared lock 0) (loc c.location) q.slots c.slot in
    let new = put_field c.here_ hd.0 (int (pos 7)) in (
      tt,
      record {
        location = c.location;
        cell = c.here_;
        reads = (loc c.location, slot);
        finds = record {
          is = ap (λ z. unwrap_or z nil) slot;
          there = splits-has_right c.location c.here_ q.cells c.one.here;
        };
      },
      safe-leave n k (put_cell c.location (Some new) both) (put_cell c.location (Some new) share) w
          (parts-put_cell c.location c.here_ (Some new) c.one.here (parts-comm q)) (refilled share f c new) e,
    )

safe-fills : (n : ℕ) (k : Known) (w : Own) → Entered filling_twice k w
    → Safe filling_twice n k (items fills.body) w
safe-fills zero k w e = tt
safe-fills (suc n) k w e = record {
  there = let one : 0 < 1 = omega arith in one;
  reads = λ share both f q. tt;
  goes_on = λ share both f q t. safe-fill n k both share w q f e.owns.frame.shared_slots (entered-ended k w e);
}

room-none : (d e i first : ℕ) → (d == e) && (leb first i && ltb i (first + 0)) ≡ false
room-none d e i first = grind (arith, nat_tests)

in-none : (event first : ℕ) (slot : Slot) → in_room (room_for fills event first) slot ≡ false
in-none event first (shared r i) = refl
in-none event first (own d i) = room-none d event i first

new-nothing : (event first : ℕ) (v : ℕ → Value) → new_slots (room_for fills event first) v ≡ nothing
new-nothing event first v =
    own-same (new_slots (room_for fills event first) v) nothing refl
    (map-same (new_slots (room_for fills event first) v).slots (λ s. None)
    (λ s. ap (λ b. cond b (Some (v (index_of s - first))) None) (in-none event first s))) refl

-- a call of `fills` wants nothing
begins : (k : Known) (w : Own) (event first : ℕ)
    → Enters filling_twice k w (calls 1 []) fills (room_for fills event first) nothing
begins k w event first begun q =
    let is : begun ≡ nothing = parts-of_nothing
    (subst (Parts begun nothing) (new-nothing event first (arguments k.fixed.slots w.slots (calls 1 []))) q) in
    subst (Entered filling_twice (callee k w (calls 1 []) fills (room_for fills event first))) (sym is) (record {
      procedure = fills;
      owns = record {
        frame = record {
          there = refl;
          count = refl;
          own_slots = λ i l m. never i m;
          shared_slots = λ r i. refl;
          apart = λ x y a b e. absurd (variable-none (record { 0 = 1 }) fills refl refl x a);
        };
        variables = record {
          each = λ x a. absurd (variable-none (record { 0 = 1 }) fills refl refl x a);
          only = λ s v e. absurd (none-some v e);
        };
        tokens = λ r. refl;
        values = λ i l. never i l;
      };
      locals = λ i l m. never i m;
      unset = λ r i a. absurd (true≢false (sym a.0));
      pre = ((λ n. nil), (λ n e. refl), empty-holds);
    })

forks-fills : (n : ℕ) (k : Known) (w : Own) → w ≡ nothing → Ended filling_twice k w
    → Forks filling_twice k w (calls 1 []) (calls 1 []) fills fills (Safe filling_twice n k [])
forks-fills n k w is e = record {
  given = nothing;
  left = nothing;
  right = nothing;
  kept = w;
  parts = parts-comm (parts-nothing w);
  apart = parts-nothing nothing;
  enters_left = λ event. begins k w event 0;
  enters_right = λ event. begins k w event 0;
  goes_on = λ event one two back after x y q r.
      let a = returned-nothing _ one x in
      let b = returned-nothing _ two y in
      let none : back ≡ nothing = parts-of_nothing (subst (Parts back one) b q) ∙ a in
      let same : after ≡ w = parts-of_nothing (parts-comm (subst (λ z. Parts after z w) none r)) in
      safe-end n k after (subst (Ended filling_twice k) (sym same) e);
}

safe-twice : (n : ℕ) (k : Known) (w : Own) → Entered filling_twice k w
    → Safe filling_twice n k (items twice.body) w
safe-twice zero k w e = tt
safe-twice (suc n) k w e = (
  tt,
  tt,
  λ g h i j.
      subst₂ (λ a b. Forks filling_twice k w (calls 1 []) (calls 1 []) a b (Safe filling_twice n k []))
      (same_Some fills g i) (same_Some fills h j)
      (forks-fills n k w (entered-nothing k w e) (entered-ended k w e)),
)

bodies : BodiesAreSafe filling_twice
bodies k g there n w e = elim (which k.fixed.procedure.0 g there) [
  | inl i ↦ subst (λ (z : Procedure). Safe filling_twice n k (items z.body) w) i (safe-twice n k w e)
  | inr i ↦ subst (λ (z : Procedure). Safe filling_twice n k (items z.body) w) i (safe-fills n k w e)
]

pub filling_twice_is_sound : FillingTwiceIsSound
unfolding FillingTwiceIsSound SafeProgramsAreSound
filling_twice_is_sound = safe_programs_are_sound filling_twice formed conditions bodies
