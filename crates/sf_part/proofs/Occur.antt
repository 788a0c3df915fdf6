-- What the event of a command reads or writes are variables that occur in it.
-- Names: `PART-occurs` says so of a part of a command.
use Rattle.std.specs.Prelude.{◌≡◌, ◌⊎◌, List, [], ◌∷◌, ◌++◌, Contains}
use Rattle.std.specs.List.{flat_map}
use Rattle.std.proofs.Common.{ap, refl, inl, inr, sym, subst}
use Rattle.std.proofs.lemmas.List.Concat.{flat_map-cons}
use Rattle.std.proofs.lemmas.List.Elements.{Contains-append_left, Contains-append_right}
use Rattle.sf_base.proofs.Elements.{contains-cons, contains-none}
use Rattle.sf_base.specs.declared.ids.Var.{Var}
use Rattle.sf_base.specs.declared.value.Value.{Value}
use Rattle.sf_base.specs.declared.value.Value.TheVariants.{Nil as nil, Int as int, Loc as loc}
use Rattle.sf_base.specs.HeapStore.{Slot, Store}
use Rattle.sf_calls.specs.Outside.{IsAmong}
use Rattle.sf_core.specs.declared.assertion.Test.{Test}
use Rattle.sf_core.specs.declared.assertion.Test.TheVariants.{True, Equal, Differ}
use Rattle.sf_core.specs.declared.command.Expr.{Expr}
use Rattle.sf_core.specs.declared.command.Expr.TheVariants.{Var as Variable, Nil, Int}
use Rattle.sf_core.specs.declared.command.Occurrence.{Occurrence}
use Rattle.sf_core.specs.Machine.Enabled.{variable, CommandReads, CommandWrites, IsCellAt, ReadsAll, ReadsExpr, ReadsTest}
use Rattle.sf_core.specs.Program.Heads.{call_occurrences, expr_occurrences, head_calls, head_occurrences, occurrences_at, test_occurrences}
use Rattle.sf_core.specs.Program.Syntax.{Call, Command, assign, look_up, mutate, new, dispose, if, while, call, fork, with}

-- what is first in a list is in it
pub in-first : {A : Type 0} (x : A) (xs : List A) → Contains (x ∷ xs) x
in-first x xs = (contains-cons x xs x).1 (inl refl)

-- the slot is that of a variable that occurs there
pub record OccursIn (slots : Var → Slot) (xs : List Occurrence) (slot : Slot) : Type 0 where
  pub x : Occurrence
  pub here : Contains xs x
  pub is : slot ≡ slots x.var

occurs-left : (slots : Var → Slot) (xs ys : List Occurrence) (slot : Slot) → OccursIn slots xs slot
    → OccursIn slots (xs ++ ys) slot
occurs-left slots xs ys slot o = record {
  x = o.x;
  here = Contains-append_left xs ys o.x o.here;
  is = o.is;
}

occurs-right : (slots : Var → Slot) (xs ys : List Occurrence) (slot : Slot) → OccursIn slots ys slot
    → OccursIn slots (xs ++ ys) slot
occurs-right slots xs ys slot o = record {
  x = o.x;
  here = Contains-append_right xs ys o.x o.here;
  is = o.is;
}

module _ (slots : Var → Slot) (store : Store) (slot : Slot) where
  expr-occurs : (e : Expr) → ReadsExpr slots e (variable slot)
      → OccursIn slots (expr_occurrences e) slot
  expr-occurs (Variable x) r = record { x = x; here = in-first x []; is = cc }
  expr-occurs Nil r = absurd r
  expr-occurs (Int i) r = absurd r

  two-occur : (d e : Expr) → ReadsExpr slots d (variable slot) ⊎ ReadsExpr slots e (variable slot)
      → OccursIn slots (expr_occurrences d ++ expr_occurrences e) slot
  two-occur d e r = elim r [
    | inl i ↦ occurs-left slots (expr_occurrences d) (expr_occurrences e) slot (expr-occurs d i)
    | inr i ↦ occurs-right slots (expr_occurrences d) (expr_occurrences e) slot (expr-occurs e i)
  ]

  test-occurs : (t : Test Expr) → ReadsTest slots t (variable slot)
      → OccursIn slots (test_occurrences expr_occurrences t) slot
  test-occurs True r = absurd r
  test-occurs (Equal d e) r = two-occur d e r
  test-occurs (Differ d e) r = two-occur d e r

  all-occurs : (es : List Expr) → ReadsAll slots es (variable slot)
      → OccursIn slots (flat_map expr_occurrences es) slot
  all-occurs [] r = absurd r
  all-occurs (e ∷ es) r =
      subst (λ z. OccursIn slots z slot) (sym (flat_map-cons expr_occurrences e es))
      (elim r [
        | inl i ↦ occurs-left slots (expr_occurrences e) (flat_map expr_occurrences es) slot
            (expr-occurs e i)
        | inr i ↦ occurs-right slots (expr_occurrences e) (flat_map expr_occurrences es) slot
            (all-occurs es i)
      ])

  call-occurs : (c : Call) → ReadsAll slots c.values (variable slot)
      → OccursIn slots (call_occurrences c) slot
  call-occurs c r = occurs-right slots c.references (flat_map expr_occurrences c.values) slot
      (all-occurs c.values r)

  no-cell : (v : Value) → IsCellAt v (variable slot) → ⊥
  no-cell nil h = h
  no-cell (int i) h = h
  no-cell (loc a) h = absurd (cc)

  -- a variable that is set occurs first
  set-occurs : (x : Occurrence) (xs : List Occurrence) → variable slot ≡ variable (slots x.var)
      → OccursIn slots (x ∷ xs) slot
  set-occurs x xs e = record { x = x; here = in-first x xs; is = cc }

  after-set : (x : Occurrence) (xs : List Occurrence) → OccursIn slots xs slot
      → OccursIn slots (x ∷ xs) slot
  after-set x xs o = occurs-right slots (x ∷ []) xs slot o

  -- in the command itself
  in-head : (c : Command) → OccursIn slots (head_occurrences c) slot
      → OccursIn slots (occurrences_at c) slot
  in-head c o = occurs-left slots (head_occurrences c) (flat_map call_occurrences (head_calls c))
      slot o

  -- in its calls
  in-calls : (c : Command) → OccursIn slots (flat_map call_occurrences (head_calls c)) slot
      → OccursIn slots (occurrences_at c) slot
  in-calls c o = occurs-right slots (head_occurrences c) (flat_map call_occurrences (head_calls c))
      slot o

  one-call : (c : Call) (ds : List Call) → OccursIn slots (call_occurrences c) slot
      → OccursIn slots (flat_map call_occurrences (c ∷ ds)) slot
  one-call c ds o = subst (λ z. OccursIn slots z slot) (sym (flat_map-cons call_occurrences c ds))
      (occurs-left slots (call_occurrences c) (flat_map call_occurrences ds) slot o)

  later-call : (c : Call) (ds : List Call) → OccursIn slots (flat_map call_occurrences ds) slot
      → OccursIn slots (flat_map call_occurrences (c ∷ ds)) slot
  later-call c ds o = subst (λ z. OccursIn slots z slot) (sym (flat_map-cons call_occurrences c ds))
      (occurs-right slots (call_occurrences c) (flat_map call_occurrences ds) slot o)

  -- what the event of a command reads
  pub reads-occur : (c : Command) → CommandReads slots store c (variable slot)
      → OccursIn slots (occurrences_at c) slot
  reads-occur (assign q x e) r =
      in-head (assign q x e) (after-set x (expr_occurrences e) (expr-occurs e r))
  reads-occur (look_up q x e g) r = elim r [
    | inl i ↦ in-head (look_up q x e g) (after-set x (expr_occurrences e) (expr-occurs e i))
    | inr i ↦ absurd (no-cell _ i)
  ]
  reads-occur (mutate q e g v) r = in-head (mutate q e g v) (two-occur e v r)
  reads-occur (new q x) r = absurd r
  reads-occur (dispose q e) r = in-head (dispose q e) (expr-occurs e r)
  reads-occur (if q t c d) r = in-head (if q t c d) (test-occurs t r)
  reads-occur (while q t i c) r = in-head (while q t i c)
      (occurs-left slots (test_occurrences expr_occurrences t) _ slot (test-occurs t r))
  reads-occur (call q c) r = in-calls (call q c) (one-call c [] (call-occurs c r))
  reads-occur (fork q c d) r = in-calls (fork q c d) (elim r [
    | inl i ↦ one-call c (d ∷ []) (call-occurs c i)
    | inr i ↦ later-call c (d ∷ []) (one-call d [] (call-occurs d i))
  ])
  reads-occur (with q s t c) r = in-head (with q s t c) (test-occurs t r)

  -- what it writes
  pub writes-occur : (c : Command) → CommandWrites slots store c (variable slot)
      → OccursIn slots (occurrences_at c) slot
  writes-occur (assign q x e) w = in-head (assign q x e) (set-occurs x (expr_occurrences e) w)
  writes-occur (look_up q x e g) w = in-head (look_up q x e g) (set-occurs x (expr_occurrences e) w)
  writes-occur (mutate q e g v) w = absurd (no-cell _ w)
  writes-occur (new q x) w = in-head (new q x) (set-occurs x [] w)
  writes-occur (dispose q e) w = absurd (no-cell _ w)
  writes-occur (if q t c d) w = absurd w
  writes-occur (while q t i c) w = absurd w
  writes-occur (call q c) w = absurd w
  writes-occur (fork q c d) w = absurd w
  writes-occur (with q s t c) w = absurd w

-- what occurs is among the occurrences
pub among : (xs : List Occurrence) (x : Occurrence) → Contains xs x → IsAmong x.var xs
among [] x h = absurd ((contains-none x).0 h)
among (y ∷ ys) x h = elim ((contains-cons y ys x).0 h) [
  | inl e ↦ inl (ap (λ (z : Occurrence). z.var) e)
  | inr k ↦ inr (among ys x k)
]
