-- That a step rests on what it reads: where another state agrees on that, there is the same step.
-- Names: `WHAT-agree` for states that agree, `WHAT-same` for what is evaluated, `WHAT-local` for the same step.
use Rattle.std.specs.Prelude.{◌≡◌, ℕ, true, cond, List, [], ◌∷◌, map, get_or, Option, Some, None, ◌⊎◌, ◌==◌}
use Rattle.std.specs.Option.{unwrap_or}
use Rattle.std.proofs.Common.{sym, ap, ap₂, ◌∙◌, refl, subst, inl, inr}
use Rattle.std.proofs.lemmas.Option.{same_Some}
use Rattle.sf_base.proofs.Bools.{cond-agree}
use Rattle.sf_base.specs.declared.ids.ResId.{ResId}
use Rattle.sf_base.specs.declared.ids.Var.{Var}
use Rattle.sf_base.specs.declared.value.Value.{Value}
use Rattle.sf_base.specs.declared.value.Value.TheVariants.{Nil as nil, Loc as loc}
use Rattle.sf_core.specs.declared.assertion.Test.{Test}
use Rattle.sf_core.specs.declared.assertion.Test.TheVariants.{True, Equal, Differ}
use Rattle.sf_core.specs.declared.command.Expr.{Expr}
use Rattle.sf_core.specs.declared.command.Expr.TheVariants.{Var as Variable, Nil, Int}
use Rattle.sf_base.proofs.HeapSplits.{at-self}
use Rattle.sf_core.proofs.Machine.Steps.{cell-at}
use Rattle.sf_core.proofs.Assertions.Sat.{test-agree}
use Rattle.sf_base.proofs.StoreSplits.{slot-self}
use Rattle.sf_core.specs.Machine.Config.{Item, Room, in_room, Fixed, Frame, Task, Path, Common, evaluate}
use Rattle.sf_core.specs.Machine.Next.{Next, does, leaves, returns, joins, nothing}
use Rattle.sf_core.specs.Machine.Enabled.{Thing, variable, cell, IsInRoom, ReadsExpr, ReadsTest, ReadsAll, IsCellAt, CommandReads, CommandWrites, Reads, Writes}
use Rattle.sf_base.specs.HeapStore.{Cell, put_field, Slot, same_slot, Store}
use Rattle.sf_core.specs.Checked.Machine.Laws.{CommandMakes, Makes, Enters, Moves, AgreeOn, AgreesOnReads, AgreesAfter}
use Rattle.sf_core.specs.Assertions.Occurs.{OccursInTest}
use Rattle.sf_core.specs.Assertions.Sat.{IsTrueOf}
use Rattle.sf_core.specs.Machine.Step.{Event, set_slot, set_cell, set_holder, open_room, close_room, returned, room_count, room_for, arguments, Finds, Chooses, Does, Goes}
use Rattle.sf_core.specs.Program.Init.{sets_up}
use Rattle.sf_core.specs.Program.Syntax.{Call, Command, assign, look_up, mutate, new, dispose, if, while, call, fork, with, Procedure, Program}

-- What is evaluated
-- an expression has the same value where the slot that it reads has
pub evaluate-same : (slots : Var → Slot) (one two : Store) (e : Expr)
    → ((slot : Slot) → ReadsExpr slots e (variable slot) → one slot ≡ two slot)
    → evaluate slots one e ≡ evaluate slots two e
evaluate-same slots one two (Variable x) h = ap (λ o. unwrap_or o nil) (h (slots x.var) refl)
evaluate-same slots one two Nil h = refl
evaluate-same slots one two (Int i) h = refl

-- a test reads what its sides read
test-reads : (slots : Var → Slot) (test : Test Expr) (e : Expr) (thing : Thing) → OccursInTest test e
    → ReadsExpr slots e thing → ReadsTest slots test thing
test-reads slots True e thing o r = o
test-reads slots (Equal x y) e thing (inl o) r = inl (subst (λ z. ReadsExpr slots z thing) o r)
test-reads slots (Equal x y) e thing (inr o) r = inr (subst (λ z. ReadsExpr slots z thing) o r)
test-reads slots (Differ x y) e thing (inl o) r = inl (subst (λ z. ReadsExpr slots z thing) o r)
test-reads slots (Differ x y) e thing (inr o) r = inr (subst (λ z. ReadsExpr slots z thing) o r)

test-same : (slots : Var → Slot) (one two : Store) (test : Test Expr)
    → ((slot : Slot) → ReadsTest slots test (variable slot) → one slot ≡ two slot)
    → IsTrueOf (evaluate slots one) test → IsTrueOf (evaluate slots two) test
test-same slots one two test h = test-agree (evaluate slots one) (evaluate slots two) test
    (λ e o. evaluate-same slots one two e (λ slot r. h slot (test-reads slots test e (variable slot) o r)))

values-same : (slots : Var → Slot) (one two : Store) (es : List Expr)
    → ((slot : Slot) → ReadsAll slots es (variable slot) → one slot ≡ two slot)
    → map (evaluate slots one) es ≡ map (evaluate slots two) es
values-same slots one two [] h = refl
values-same slots one two (e ∷ es) h =
    ap₂ (λ v vs. v ∷ vs) (evaluate-same slots one two e (λ slot r. h slot (inl r)))
    (values-same slots one two es (λ slot r. h slot (inr r)))

module _ (a b : Common) where
  slot-agree : (x : Slot) (v w : Value) → v ≡ w → (thing : Thing) → (thing ≡ variable x) ⊎ AgreeOn a b thing
      → AgreeOn (set_slot x v a) (set_slot x w b) thing
  slot-agree x v w e (variable y) (inl t) = let same : y ≡ x =
      cc in cond-agree (same_slot y x) (Some v) (Some w) (a.store y) (b.store y) (ap Some e)
      (inl (ap (λ z. same_slot z x) same ∙ slot-self x))
  slot-agree x v w e (variable y) (inr h) =
      cond-agree (same_slot y x) (Some v) (Some w) (a.store y) (b.store y) (ap Some e) (inr h)
  slot-agree x v w e (cell l) (inl t) = absurd (cc)
  slot-agree x v w e (cell l) (inr h) = h

  cell-agree : (l : ℕ) (k m : Option Cell) → k ≡ m → (thing : Thing) → (thing ≡ cell l) ⊎ AgreeOn a b thing
      → AgreeOn (set_cell l k a) (set_cell l m b) thing
  cell-agree l k m e (variable y) (inl t) = absurd (cc)
  cell-agree l k m e (variable y) (inr h) = h
  cell-agree l k m e (cell n) (inl t) = let same : n ≡ l =
      cc in cond-agree (n == l) k m (a.heap n) (b.heap n) e (inl (ap (λ z. z == l) same ∙ at-self l))
  cell-agree l k m e (cell n) (inr h) = cond-agree (n == l) k m (a.heap n) (b.heap n) e (inr h)

  open_room-agree : (room : Room) (v w : ℕ → Value) → ((i : ℕ) → v i ≡ w i) → (thing : Thing)
      → IsInRoom room thing ⊎ AgreeOn a b thing → AgreeOn (open_room room v a) (open_room room w b) thing
  open_room-agree room v w e (variable y) h =
      cond-agree (in_room room y) (Some (v _)) (Some (w _)) (a.store y) (b.store y) (ap Some (e _)) h
  open_room-agree room v w e (cell l) (inl i) = absurd i
  open_room-agree room v w e (cell l) (inr h) = h

  close_room-agree : (room : Room) (thing : Thing) → IsInRoom room thing ⊎ AgreeOn a b thing
      → AgreeOn (close_room room a) (close_room room b) thing
  close_room-agree room (variable y) h = cond-agree (in_room room y) None None (a.store y) (b.store y) refl h
  close_room-agree room (cell l) (inl i) = absurd i
  close_room-agree room (cell l) (inr h) = h

  returned-agree : (p : Program) (f : Fixed) (thing : Thing) → IsInRoom f.room thing ⊎ AgreeOn a b thing
      → AgreeOn (returned p f a) (returned p f b) thing
  returned-agree p f (variable y) h = close_room-agree f.room (variable y) h
  returned-agree p f (cell l) h = close_room-agree f.room (cell l) h

  holder-agree : (r : ResId) (holder : Option Path) (q : ResId) → (q ≡ r) ⊎ (a.held q ≡ b.held q)
      → (set_holder r holder a).held q ≡ (set_holder r holder b).held q
  holder-agree r holder q (inl e) =
      cond-agree (q.0 == r.0) holder holder (a.held q) (b.held q) refl
      (inl (ap (λ (z : ResId). z.0 == r.0) e ∙ at-self r.0))
  holder-agree r holder q (inr h) = ap (λ z. cond (q.0 == r.0) holder z) h

module _ (p : Program) (ev : Event) (s o : Common) where
  -- what is touched or moved, and what was the same, is the same in both states
  record Agrees (touched : Thing → Type 0) (moved : ResId → Type 0) (t w : Common) : Type 0 where
    things : (thing : Thing) → touched thing ⊎ AgreeOn s o thing → AgreeOn t w thing
    holders : (r : ResId) → moved r ⊎ (s.held r ≡ o.held r) → t.held r ≡ w.held r

  -- what an event reads, the cells that it touches, and the holder of what it moves are the same in both states
  record Finding (reads touched : Thing → Type 0) (moved : ResId → Type 0) : Type 0 where
    read : (thing : Thing) → reads thing → AgreeOn s o thing
    cells : (location : ℕ) → touched (cell location) → AgreeOn s o (cell location)
    holders : (r : ResId) → moved r → s.held r ≡ o.held r

  -- no resource is moved
  none-moved : (r : ResId) → ⊥ ⊎ (s.held r ≡ o.held r) → s.held r ≡ o.held r
  none-moved r (inl x) = absurd x
  none-moved r (inr h) = h

  -- what is found at an expression is found there in the other state
  finds-same : (slots : Var → Slot) (e : Expr) (a : ℕ) (k : Cell)
      → Finds (evaluate slots s.store) s.heap e a k
      → ((slot : Slot) → ReadsExpr slots e (variable slot) → s.store slot ≡ o.store slot)
      → (IsCellAt (evaluate slots s.store e) (cell a) → s.heap a ≡ o.heap a)
      → Finds (evaluate slots o.store) o.heap e a k
  finds-same slots e a k f h c = record {
    is = sym (evaluate-same slots s.store o.store e h) ∙ f.is;
    there = sym (c (cell-at (evaluate slots s.store e) a a f.is refl)) ∙ f.there;
  }

  -- the cell at a value that is this location is this cell
  cell-only : (v : Value) (a : ℕ) (thing : Thing) → v ≡ loc a → IsCellAt v thing → thing ≡ cell a
  cell-only v a thing e h = subst (λ z. IsCellAt z thing) e h

  arguments-same : (slots : Var → Slot) (c : Call)
      → ((slot : Slot) → ReadsAll slots c.values (variable slot) → s.store slot ≡ o.store slot) → (i : ℕ)
      → arguments slots s.store c i ≡ arguments slots o.store c i
  arguments-same slots c h i = ap (λ vs. get_or vs i nil) (values-same slots s.store o.store c.values h)

  -- the same choice is made
  chooses-same : (slots : Var → Slot) (test : Test Expr) (this that u : Task)
      → ((slot : Slot) → ReadsTest slots test (variable slot) → s.store slot ≡ o.store slot)
      → Chooses (evaluate slots s.store) test this that u → Chooses (evaluate slots o.store) test this that u
  chooses-same slots test this that u h (inl d) = inl (test-same slots s.store o.store test h d.0, d.1)
  chooses-same slots test this that u h (inr d) =
      inr (λ t. d.0 (test-same slots o.store s.store test (λ slot r. sym (h slot r)) t), d.1)

  -- nothing shared changes
  same-agrees : (touched : Thing → Type 0) (t : Common) → t ≡ s → ((thing : Thing) → touched thing → ⊥)
      → Agrees touched (λ r. ⊥) t o
  same-agrees touched t e n = subst (λ z. Agrees touched (λ r. ⊥) z o) (sym e)
      (record { things = λ thing i. elim i [ inl x ↦ absurd (n thing x) | inr y ↦ y ]; holders = none-moved })

  -- a change of holders leaves the things
  holder-leaves : (r : ResId) (holder : Option Path) (thing : Thing) → AgreeOn s o thing
      → AgreeOn (set_holder r holder s) (set_holder r holder o) thing
  holder-leaves r holder (variable y) h = h
  holder-leaves r holder (cell l) h = h

  command-local : (f : Fixed) (below : List Frame) (c : Command) (rest : List Item) (t : Common) (u : Task)
      → Finding (CommandReads f.slots s.store c)
      (λ thing. CommandWrites f.slots s.store c thing ⊎ CommandMakes p ev c thing) (Enters c)
      → Does p ev s f below c rest t u
      → (w : Common) × Does p ev o f below c rest w u
      × Agrees (λ thing. CommandWrites f.slots s.store c thing ⊎ CommandMakes p ev c thing) (Enters c) t w
  command-local f below (assign place x e) rest t u h d = (
    _,
    (refl, d.1),
    subst (λ z. Agrees (λ thing. CommandWrites f.slots s.store (assign place x e) thing ⊎ ⊥) (λ r. ⊥) z
        (set_slot (f.slots x.var) (evaluate f.slots o.store e) o)) (sym d.0) (record {
          things = λ thing i. slot-agree s o (f.slots x.var) (evaluate f.slots s.store e)
              (evaluate f.slots o.store e)
              (evaluate-same f.slots s.store o.store e (λ slot r. h.read (variable slot) r)) thing
              (elim i [ inl j ↦ elim j [ inl k ↦ inl k | inr k ↦ absurd k ] | inr y ↦ inr y ]);
          holders = none-moved;
        }),
  )
  command-local f below (look_up place x e g) rest t u h d = (
    _,
    (
      d.0,
      d.1,
      finds-same f.slots e d.0 d.1 d.2 (λ slot r. h.read (variable slot) (inl r))
          (λ r. h.read (cell d.0) (inr r)),
      refl,
      d.4,
    ),
    subst (λ z. Agrees (λ thing. CommandWrites f.slots s.store (look_up place x e g) thing ⊎ ⊥) (λ r. ⊥) z
        (set_slot (f.slots x.var) (d.1 g.0) o)) (sym d.3) (record {
          things = λ thing i. slot-agree s o (f.slots x.var) (d.1 g.0) (d.1 g.0) refl thing
              (elim i [ inl j ↦ elim j [ inl k ↦ inl k | inr k ↦ absurd k ] | inr y ↦ inr y ]);
          holders = none-moved;
        }),
  )
  command-local f below (mutate place e g v) rest t u h d = (
    _,
    (
      d.0,
      d.1,
      finds-same f.slots e d.0 d.1 d.2 (λ slot r. h.read (variable slot) (inl r))
          (λ r. h.cells d.0 (inl r)),
      refl,
      d.4,
    ),
    subst (λ z. Agrees (λ thing. CommandWrites f.slots s.store (mutate place e g v) thing ⊎ ⊥) (λ r. ⊥) z
        (set_cell d.0 (Some (put_field d.1 g.0 (evaluate f.slots o.store v))) o)) (sym d.3) (record {
          things = λ thing i. cell-agree s o d.0 (Some (put_field d.1 g.0 (evaluate f.slots s.store v)))
              (Some (put_field d.1 g.0 (evaluate f.slots o.store v)))
              (ap (λ z. Some (put_field d.1 g.0 z))
              (evaluate-same f.slots s.store o.store v (λ slot r. h.read (variable slot) (inr r)))) thing
              (elim i [
                | inl j ↦ elim j
                    [ inl k ↦ inl (cell-only (evaluate f.slots s.store e) d.0 thing d.2.is k) | inr k ↦ absurd k ]
                | inr y ↦ inr y
              ]);
          holders = none-moved;
        }),
  )
  command-local f below (new place x) rest t u h d = (
    _,
    (d.0, sym (h.cells ev.at (inr refl)) ∙ d.1, refl, d.3),
    subst (λ z. Agrees (λ thing. (thing ≡ variable (f.slots x.var)) ⊎ (thing ≡ cell ev.at)) (λ r. ⊥) z
        (set_slot (f.slots x.var) (loc ev.at) (set_cell ev.at (Some ev.fields) o))) (sym d.2) (record {
          things = λ thing i. slot-agree (set_cell ev.at (Some ev.fields) s) (set_cell ev.at (Some ev.fields) o)
              (f.slots x.var) (loc ev.at) (loc ev.at) refl thing
              (elim i [
                | inl j ↦ elim j [
                  | inl k ↦ inl k
                  | inr k ↦ inr (cell-agree s o ev.at (Some ev.fields) (Some ev.fields) refl thing (inl k))
                ]
                | inr y ↦ inr (cell-agree s o ev.at (Some ev.fields) (Some ev.fields) refl thing (inr y))
              ]);
          holders = none-moved;
        }),
  )
  command-local f below (dispose place e) rest t u h d = (
    _,
    (
      d.0,
      d.1,
      finds-same f.slots e d.0 d.1 d.2 (λ slot r. h.read (variable slot) r)
          (λ r. h.cells d.0 (inl r)),
      refl,
      d.4,
    ),
    subst (λ z. Agrees (λ thing. CommandWrites f.slots s.store (dispose place e) thing ⊎ ⊥) (λ r. ⊥) z
        (set_cell d.0 None o)) (sym d.3) (record {
          things = λ thing i. cell-agree s o d.0 None None refl thing
              (elim i [
                | inl j ↦ elim j
                    [ inl k ↦ inl (cell-only (evaluate f.slots s.store e) d.0 thing d.2.is k) | inr k ↦ absurd k ]
                | inr y ↦ inr y
              ]);
          holders = none-moved;
        }),
  )
  command-local f below (if place test this that) rest t u h d = (
    o,
    (refl, chooses-same f.slots test _ _ u (λ slot r. h.read (variable slot) r) d.1),
    same-agrees _ t d.0 (λ thing i. elim i [ inl x ↦ x | inr y ↦ y ]),
  )
  command-local f below (while place test kept body) rest t u h d = (
    o,
    (refl, chooses-same f.slots test _ _ u (λ slot r. h.read (variable slot) r) d.1),
    same-agrees _ t d.0 (λ thing i. elim i [ inl x ↦ x | inr y ↦ y ]),
  )
  command-local f below (call place c) rest t u h d = (
    _,
    (d.0, d.1, refl, d.3),
    subst (λ z. Agrees (λ thing. ⊥ ⊎ CommandMakes p ev (call place c) thing) (λ r. ⊥) z
        (open_room (room_for d.0 ev.number 0) (arguments f.slots o.store c) o)) (sym d.2) (record {
          things = λ thing i. open_room-agree s o (room_for d.0 ev.number 0) (arguments f.slots s.store c)
              (arguments f.slots o.store c) (arguments-same f.slots c (λ slot r. h.read (variable slot) r)) thing
              (elim i [ inl j ↦ elim j [ inl k ↦ absurd k | inr k ↦ inl (mine thing k) ] | inr y ↦ inr y ]);
          holders = none-moved;
        }),
  )
    where
      mine : (thing : Thing) → CommandMakes p ev (call place c) thing
          → IsInRoom (room_for d.0 ev.number 0) thing
      mine thing m = subst (λ (g : Procedure). IsInRoom (room_for g ev.number 0) thing)
          (same_Some m.0 d.0 (sym m.1 ∙ d.1)) m.2
  command-local f below (fork place c e) rest t u h d = (
    _,
    (d.0, d.1, d.2, d.3, d.4, refl, d.6),
    subst (λ z. Agrees (λ thing. ⊥ ⊎ CommandMakes p ev (fork place c e) thing) (λ r. ⊥) z
        (open_room (room_for d.2 ev.number (room_count d.1)) (arguments f.slots o.store e)
        (open_room (room_for d.1 ev.number 0) (arguments f.slots o.store c) o))) (sym d.5) (record {
          things = λ thing i. open_room-agree
              (open_room (room_for d.1 ev.number 0) (arguments f.slots s.store c) s)
              (open_room (room_for d.1 ev.number 0) (arguments f.slots o.store c) o)
              (room_for d.2 ev.number (room_count d.1)) (arguments f.slots s.store e)
              (arguments f.slots o.store e)
              (arguments-same f.slots e (λ slot r. h.read (variable slot) (inr r))) thing
              (elim i [
                | inl j ↦ elim j [
                  | inl k ↦ absurd k
                  | inr k ↦ elim (mine thing k) [ inl m ↦ inr (first thing (inl m)) | inr m ↦ inl m ]
                ]
                | inr y ↦ inr (first thing (inr y))
              ]);
          holders = none-moved;
        }),
  )
    where
      mine : (thing : Thing) → CommandMakes p ev (fork place c e) thing
          → IsInRoom (room_for d.1 ev.number 0) thing
          ⊎ IsInRoom (room_for d.2 ev.number (room_count d.1)) thing
      mine thing m =
          subst (λ (g : Procedure). IsInRoom (room_for g ev.number 0) thing
          ⊎ IsInRoom (room_for d.2 ev.number (room_count g)) thing) (same_Some m.0 d.1 (sym m.2 ∙ d.3))
          (subst (λ (g : Procedure). IsInRoom (room_for m.0 ev.number 0) thing
          ⊎ IsInRoom (room_for g ev.number (room_count m.0)) thing) (same_Some m.1 d.2 (sym m.3 ∙ d.4))
          m.4)

      first : (thing : Thing) → IsInRoom (room_for d.1 ev.number 0) thing ⊎ AgreeOn s o thing
          → AgreeOn (open_room (room_for d.1 ev.number 0) (arguments f.slots s.store c) s)
          (open_room (room_for d.1 ev.number 0) (arguments f.slots o.store c) o) thing
      first thing i = open_room-agree s o (room_for d.1 ev.number 0) (arguments f.slots s.store c)
          (arguments f.slots o.store c) (arguments-same f.slots c (λ slot r. h.read (variable slot) (inl r)))
          thing i
  command-local f below (with place r test body) rest t u h d = (
    _,
    (
      sym (h.holders r refl) ∙ d.0,
      test-same f.slots s.store o.store test (λ slot i. h.read (variable slot) i) d.1,
      refl,
      d.3,
    ),
    subst (λ z. Agrees (λ thing. ⊥ ⊎ ⊥) (λ q. q ≡ r) z (set_holder r (Some ev.task) o)) (sym d.2) (record {
      things = λ thing i. elim i [
        | inl j ↦ elim j [ inl k ↦ absurd k | inr k ↦ absurd k ]
        | inr y ↦ holder-leaves r (Some ev.task) thing y
      ];
      holders = holder-agree s o r (Some ev.task);
    }),
  )

  next-local : (n : Next) (t : Common) (u : Task)
      → Finding (Reads s.store n) (λ thing. Writes s.store n thing ⊎ Makes p ev n thing) (Moves p n)
      → Goes p ev s n t u
      → (w : Common) × Goes p ev o n w u
      × Agrees (λ thing. Writes s.store n thing ⊎ Makes p ev n thing) (Moves p n) t w
  next-local (does f below c rest) t u h d = command-local f below c rest t u h d
  next-local (leaves f below r rest) t u h d = (
    _,
    (sym (h.holders r refl) ∙ d.0, refl, d.2),
    subst (λ z. Agrees (λ thing. ⊥ ⊎ ⊥) (λ q. q ≡ r) z (set_holder r None o)) (sym d.1) (record {
      things = λ thing i. elim i [
        | inl j ↦ elim j [ inl k ↦ absurd k | inr k ↦ absurd k ]
        | inr y ↦ holder-leaves r None thing y
      ];
      holders = holder-agree s o r None;
    }),
  )
  next-local (returns f below) t u h d = (
    _,
    (d.0, refl, d.2),
    subst (λ z. Agrees (λ thing. IsInRoom f.room thing ⊎ ⊥) (λ r. sets_up p f.procedure ≡ true) z (returned p f o))
        (sym d.1) (record {
          things = λ thing i. returned-agree s o p f thing
              (elim i [ inl j ↦ elim j [ inl k ↦ inl k | inr k ↦ absurd k ] | inr y ↦ inr y ]);
          holders = λ r i. cond-agree (sets_up p f.procedure) None None (s.held r) (o.held r) refl i;
        }),
  )
  next-local (joins frames one two) t u h d =
      (o, (d.0, d.1, refl, d.3), same-agrees _ t d.2 (λ thing i. elim i [ inl x ↦ x | inr y ↦ y ]))
  next-local nothing t u h d = absurd d

-- an event rests on what it reads, on the cells that it writes or makes, and on the holder of what it moves
pub goes-local : (p : Program) (event : Event) (s t other : Common) (n : Next) (u : Task)
    → Goes p event s n t u → AgreesOnReads p event n s other
    → (w : Common) × Goes p event other n w u × AgreesAfter p event n s other t w
goes-local p event s t other n u d agrees =
    let r = next-local p event s other n t u
    (record { read = agrees.read; cells = agrees.cells; holders = agrees.holders }) d in
    (r.0, r.1, record { things = r.2.things; holders = r.2.holders })
