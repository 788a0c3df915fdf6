-- What is known of the next step of each task of any configuration.
-- Names: `listing-WHAT` lists the things of which that holds, `seen-WHAT` is what is known of a step.
use Rattle.std.specs.Prelude.{◌≡◌, ◌⊎◌, ◌↔◌, ◌≤◌, ◌<◌, ℕ, zero, suc, ◌+◌, true, List, [], ◌∷◌, ◌++◌, Option, Some, None, MatchOption}
use Rattle.std.proofs.Common.{true≢false, sym, ◌∙◌, refl, subst, inl, inr, arith}
use Rattle.std.proofs.lemmas.Bool.{cases_eq}
use Rattle.std.proofs.lemmas.Bool.Decides.{nat_tests}
use Rattle.sf_core.proofs.Machine.InOrder.Names.{in_room-own}
use Rattle.sf_base.proofs.Options.{some-once}
use Rattle.sf_base.specs.declared.ids.Thing.{Thing as CodeThing}
use Rattle.sf_base.specs.declared.ids.Thing.TheVariants.{Shared, Own, At}
use Rattle.sf_base.specs.declared.ids.Var.{Var}
use Rattle.sf_base.specs.declared.value.Value.{Value}
use Rattle.sf_base.specs.declared.value.Value.TheVariants.{Nil as nil, Int as int, Loc as loc}
use Rattle.sf_base.specs.HeapStore.{Cell, Heap, Slot, Store, own, shared}
use Rattle.sf_core.specs.declared.assertion.Test.{Test}
use Rattle.sf_core.specs.declared.assertion.Test.TheVariants.{True, Equal, Differ}
use Rattle.sf_core.specs.declared.command.Expr.{Expr}
use Rattle.sf_core.specs.declared.command.Expr.TheVariants.{Var as Variable, Nil, Int}
use Rattle.sf_core.specs.Machine.Bad.{Bad, IsAbsent, IsAtNoCell, TouchesNoCell}
use Rattle.sf_core.specs.Machine.Config.{Room, in_room, Task, Path, Common, Config, evaluate, task_at}
use Rattle.sf_core.specs.Machine.Enabled.{Thing, variable, cell, CommandReads, CommandWrites, IsCellAt, IsEnabled, IsInRoom, Reads, ReadsAll, ReadsExpr, ReadsTest, Writes}
use Rattle.sf_core.specs.Machine.Next.{Next, does, leaves, returns, joins, nothing, next}
use Rattle.sf_core.specs.Program.Syntax.{Command, assign, look_up, mutate, new, dispose, if, while, call, fork, with}
use Rattle.sf_machine.specs.Absent.{IsAtAbsent}
use Rattle.sf_machine.specs.Accessing.{IsListed, thing_of}
use Rattle.sf_frame.specs.Checked.Frames.{first_slots}
use Rattle.sf_machine.specs.Paths.{paths_of}
use Rattle.sf_replay.specs.Checked.Going.{IsBadAt}
use Rattle.sf_replay.specs.Checked.Looks.{AreLooks, IsLook, Seen, found_in}
use Rattle.sf_replay.specs.declared.found.Found.{Found}
use Rattle.sf_replay.proofs.Firsts.{bad-first, touches-at}
use Rattle.sf_replay.proofs.Meetings.{Decided, enabled-or_not}

-- ---- lists of things

-- the thing, as the code names it
named : Thing → CodeThing
named (variable (shared r i)) = Shared r i
named (variable (own e i)) = Own (record { event = e; index = i })
named (cell location) = At location

named-is : (t : Thing) → t ≡ thing_of (named t)
unfolding named
named-is (variable (shared r i)) = refl
named-is (variable (own e i)) = refl
named-is (cell location) = refl

-- a list of exactly the things of which that holds
abbrev Listing : (Thing → Type 0) → Type 0
Listing P = (xs : List CodeThing) × ((t : Thing) → IsListed xs t ↔ P t)

listing-none : (P : Thing → Type 0) → ((t : Thing) → P t → ⊥) → Listing P
listing-none P n = ([], λ t. (λ h. absurd h, λ h. n t h))

listing-one : (x : Thing) → Listing (λ t. t ≡ x)
listing-one x = (
  named x ∷ [],
  λ t. (
    λ h. elim h [ inl e ↦ e ∙ sym (named-is x) | inr k ↦ absurd k ],
    λ e. inl (e ∙ named-is x),
  ),
)

listed-append : (xs ys : List CodeThing) (t : Thing) → IsListed (xs ++ ys) t ↔ (IsListed xs t ⊎ IsListed ys t)
listed-append [] ys t = (λ h. inr h, λ h. elim h [ inl k ↦ absurd k | inr k ↦ k ])
listed-append (x ∷ xs) ys t =
    let k = listed-append xs ys t in (
      λ h. elim h [
        | inl e ↦ inl (inl e)
        | inr i ↦ elim (k.0 i) [ inl j ↦ inl (inr j) | inr j ↦ inr j ]
      ],
      λ h. elim h [
        | inl i ↦ elim i [ inl e ↦ inl e | inr j ↦ inr (k.1 (inl j)) ]
        | inr j ↦ inr (k.1 (inr j))
      ],
    )

listing-same : (P Q : Thing → Type 0) → ((t : Thing) → P t ↔ Q t) → Listing P → Listing Q
listing-same P Q k l = (l.0, λ t. (λ h. (k t).0 ((l.1 t).0 h), λ h. (l.1 t).1 ((k t).1 h)))

listing-either : (P Q : Thing → Type 0) → Listing P → Listing Q → Listing (λ t. P t ⊎ Q t)
listing-either P Q a b = (
  a.0 ++ b.0,
  λ t. let k = listed-append a.0 b.0 t in (
    λ h. elim (k.0 h) [ inl i ↦ inl ((a.1 t).0 i) | inr i ↦ inr ((b.1 t).0 i) ],
    λ h. elim h [ inl p ↦ k.1 (inl ((a.1 t).1 p)) | inr q ↦ k.1 (inr ((b.1 t).1 q)) ],
  ),
)

-- ---- what steps read and write

listing-expr : (slots : Var → Slot) (e : Expr) → Listing (λ t. ReadsExpr slots e t)
listing-expr slots (Variable x) = listing-one (variable (slots x.var))
listing-expr slots Nil = listing-none (λ t. ⊥) (λ t h. h)
listing-expr slots (Int i) = listing-none (λ t. ⊥) (λ t h. h)

listing-test : (slots : Var → Slot) (test : Test Expr) → Listing (λ t. ReadsTest slots test t)
listing-test slots True = listing-none (λ t. ⊥) (λ t h. h)
listing-test slots (Equal x y) = listing-either (λ t. ReadsExpr slots x t) (λ t. ReadsExpr slots y t)
    (listing-expr slots x) (listing-expr slots y)
listing-test slots (Differ x y) = listing-either (λ t. ReadsExpr slots x t) (λ t. ReadsExpr slots y t)
    (listing-expr slots x) (listing-expr slots y)

listing-all : (slots : Var → Slot) (es : List Expr) → Listing (λ t. ReadsAll slots es t)
listing-all slots [] = listing-none (λ t. ⊥) (λ t h. h)
listing-all slots (e ∷ es) = listing-either (λ t. ReadsExpr slots e t) (λ t. ReadsAll slots es t)
    (listing-expr slots e) (listing-all slots es)

listing-at : (v : Value) → Listing (λ t. IsCellAt v t)
listing-at nil = listing-none (λ t. ⊥) (λ t h. h)
listing-at (int i) = listing-none (λ t. ⊥) (λ t h. h)
listing-at (loc location) = listing-one (cell location)

listing-command_reads : (slots : Var → Slot) (store : Store) (c : Command)
    → Listing (λ t. CommandReads slots store c t)
listing-command_reads slots store (assign place x e) = listing-expr slots e
listing-command_reads slots store (look_up place x e g) = listing-either (λ t. ReadsExpr slots e t)
    (λ t. IsCellAt (evaluate slots store e) t) (listing-expr slots e) (listing-at (evaluate slots store e))
listing-command_reads slots store (mutate place e g v) = listing-either (λ t. ReadsExpr slots e t)
    (λ t. ReadsExpr slots v t) (listing-expr slots e) (listing-expr slots v)
listing-command_reads slots store (new place x) = listing-none (λ t. ⊥) (λ t h. h)
listing-command_reads slots store (dispose place e) = listing-expr slots e
listing-command_reads slots store (if place test this that) = listing-test slots test
listing-command_reads slots store (while place test kept body) = listing-test slots test
listing-command_reads slots store (call place c) = listing-all slots c.values
listing-command_reads slots store (fork place c d) = listing-either (λ t. ReadsAll slots c.values t)
    (λ t. ReadsAll slots d.values t) (listing-all slots c.values) (listing-all slots d.values)
listing-command_reads slots store (with place r test body) = listing-test slots test

listing-command_writes : (slots : Var → Slot) (store : Store) (c : Command)
    → Listing (λ t. CommandWrites slots store c t)
listing-command_writes slots store (assign place x e) = listing-one (variable (slots x.var))
listing-command_writes slots store (look_up place x e g) = listing-one (variable (slots x.var))
listing-command_writes slots store (mutate place e g v) = listing-at (evaluate slots store e)
listing-command_writes slots store (new place x) = listing-one (variable (slots x.var))
listing-command_writes slots store (dispose place e) = listing-at (evaluate slots store e)
listing-command_writes slots store (if place test this that) = listing-none (λ t. ⊥) (λ t h. h)
listing-command_writes slots store (while place test kept body) = listing-none (λ t. ⊥) (λ t h. h)
listing-command_writes slots store (call place c) = listing-none (λ t. ⊥) (λ t h. h)
listing-command_writes slots store (fork place c d) = listing-none (λ t. ⊥) (λ t h. h)
listing-command_writes slots store (with place r test body) = listing-none (λ t. ⊥) (λ t h. h)

-- no slot is among none
room-none : (event first : ℕ) (t : Thing) → IsInRoom (first_slots event first 0) t → ⊥
room-none event first (variable (shared r k)) h = true≢false (sym h)
room-none event first (variable (own e k)) h =
    let low : first ≤ k = grind (arith, nat_tests) in
    let high : k < first + 0 = grind (arith, nat_tests) in
    absurd (omega (arith, low, high))
room-none event first (cell location) h = h

-- and one slot more
room-more : (event first i : ℕ) (t : Thing)
    → (IsInRoom (first_slots event first i) t ⊎ (t ≡ variable (own event (first + i))))
    ↔ IsInRoom (first_slots event first (i + 1)) t
room-more event first i (variable (shared r k)) =
    (λ h. elim h [ inl k ↦ k | inr e ↦ absurd (cc) ], λ h. absurd (true≢false (sym h)))
room-more event first i (variable (own e k)) = (
  λ h. elim h [
    | inl within ↦ grind (arith, nat_tests)
    | inr s ↦
        let same : own e k ≡ own event (first + i) = cc in
        subst (λ z. in_room (first_slots event first (i + 1)) z ≡ true) (sym same)
        (in_room-own event first (i + 1) i (omega arith))
  ],
  λ h.
      let here : e ≡ event = grind (arith, nat_tests) in
      elim (cases_eq k (first + i)) [
        | inl s ↦ inr (λ j. variable (own (here j) (s j)))
        | inr n ↦ inl (grind (arith, nat_tests))
      ],
)
room-more event first i (cell location) = (λ h. elim h [ inl k ↦ k | inr e ↦ absurd (cc) ], λ h. absurd h)

listing-first_slots : (event first count : ℕ) → Listing (λ t. IsInRoom (first_slots event first count) t)
listing-first_slots event first zero =
    listing-none (λ t. IsInRoom (first_slots event first 0) t) (room-none event first)
listing-first_slots event first (suc i) =
    let last = variable (own event (first + i)) in
    let more = listing-either (λ t. IsInRoom (first_slots event first i) t) (λ t. t ≡ last)
    (listing-first_slots event first i) (listing-one last) in
    let plus : Listing (λ t. IsInRoom (first_slots event first (i + 1)) t) =
    listing-same (λ t. IsInRoom (first_slots event first i) t ⊎ (t ≡ last))
    (λ t. IsInRoom (first_slots event first (i + 1)) t) (room-more event first i) more in
    let same : i + 1 ≡ suc i = omega arith in
    subst (λ (n : ℕ). Listing (λ t. IsInRoom (first_slots event first n) t)) same plus

listing-room : (room : Room) → Listing (λ t. IsInRoom room t)
listing-room room = listing-first_slots room.event room.first room.count

listing-reads : (store : Store) (n : Next) → Listing (λ t. Reads store n t)
listing-reads store (does f below c rest) = listing-command_reads f.slots store c
listing-reads store (leaves f below r rest) = listing-none (λ t. ⊥) (λ t h. h)
listing-reads store (returns f below) = listing-none (λ t. ⊥) (λ t h. h)
listing-reads store (joins frames one two) = listing-none (λ t. ⊥) (λ t h. h)
listing-reads store nothing = listing-none (λ t. ⊥) (λ t h. h)

listing-writes : (store : Store) (n : Next) → Listing (λ t. Writes store n t)
listing-writes store (does f below c rest) = listing-command_writes f.slots store c
listing-writes store (leaves f below r rest) = listing-none (λ t. ⊥) (λ t h. h)
listing-writes store (returns f below) = listing-room f.room
listing-writes store (joins frames one two) = listing-none (λ t. ⊥) (λ t h. h)
listing-writes store nothing = listing-none (λ t. ⊥) (λ t h. h)

-- ---- whether a step finds its cell

cell-or_not : (o : Option Cell) → Decided (o ≡ None)
cell-or_not None = inl refl
cell-or_not (Some k) = inr (λ e. absurd (cc))

absent-or_not : (heap : Heap) (v : Value) → Decided (IsAbsent heap v)
absent-or_not heap nil = inl tt
absent-or_not heap (int i) = inl tt
absent-or_not heap (loc location) = cell-or_not (heap location)

touches-or_not : (see : Expr → Value) (heap : Heap) (c : Command) → Decided (TouchesNoCell see heap c)
touches-or_not see heap (assign place x e) = inr (λ h. h)
touches-or_not see heap (look_up place x e g) = absent-or_not heap (see e)
touches-or_not see heap (mutate place e g v) = absent-or_not heap (see e)
touches-or_not see heap (new place x) = inr (λ h. h)
touches-or_not see heap (dispose place e) = absent-or_not heap (see e)
touches-or_not see heap (if place test this that) = inr (λ h. h)
touches-or_not see heap (while place test kept body) = inr (λ h. h)
touches-or_not see heap (call place c) = inr (λ h. h)
touches-or_not see heap (fork place c d) = inr (λ h. h)
touches-or_not see heap (with place r test body) = inr (λ h. h)

at-or_not : (s : Common) (n : Next) → Decided (IsAtNoCell s n)
at-or_not s (does f below c rest) = touches-or_not (evaluate f.slots s.store) s.heap c
at-or_not s (leaves f below r rest) = inr (λ h. h)
at-or_not s (returns f below) = inr (λ h. h)
at-or_not s (joins frames one two) = inr (λ h. h)
at-or_not s nothing = inr (λ h. h)

-- the value at which the next step of an enabled task looks for a cell where there is none
seen-absent : (c : Config) (path : Path) (task : Task) → IsEnabled c path task
    → (o : Option Value) × MatchOption o ((v : Value) → IsAtAbsent c path v → ⊥) (IsAtAbsent c path)
seen-absent c path task e = elim (at-or_not c.common (next task)) [
  | inl a ↦
      let k = touches-at c (record { path = path; task = task; enabled = e; absent = a }) in (Some k.0, k.1)
  | inr n ↦ (
    None,
    λ v a. n (subst (λ (z : Task). IsAtNoCell c.common (next z))
        (some-once (task_at path c.tasks) a.task task a.enabled.there e.there) a.absent),
  )
]

-- ---- what is known of a step

seen-enabled : (c : Config) (path : Path) (task : Task) → IsEnabled c path task → (look : Seen) × IsLook c path look
seen-enabled c path task e =
    let absent = seen-absent c path task e in
    let reads = listing-reads c.common.store (next task) in
    let writes = listing-writes c.common.store (next task) in (
      record { path = path; absent = absent.0; reads = reads.0; writes = writes.0 },
      record {
        path_is = refl;
        absent = absent.1;
        accesses = record {
          read = λ t en thing. subst (λ (z : Task). IsListed reads.0 thing ↔ Reads c.common.store (next z) thing)
              (some-once (task_at path c.tasks) task t e.there en.there) (reads.1 thing);
          written = λ t en thing. subst (λ (z : Task). IsListed writes.0 thing ↔ Writes c.common.store (next z) thing)
              (some-once (task_at path c.tasks) task t e.there en.there) (writes.1 thing);
          neither = λ none. absurd (none task e);
        };
      },
    )

seen-none : (c : Config) (path : Path) → (((task : Task) × IsEnabled c path task) → ⊥)
    → (look : Seen) × IsLook c path look
seen-none c path none = (
  record { path = path; absent = None; reads = []; writes = [] },
  record {
    path_is = refl;
    absent = λ v a. none (a.task, a.enabled);
    accesses = record {
      read = λ task e thing. absurd (none (task, e));
      written = λ task e thing. absurd (none (task, e));
      neither = λ k. (refl, refl);
    };
  },
)

seen-at : (c : Config) (path : Path) → (look : Seen) × IsLook c path look
seen-at c path = elim (enabled-or_not c path) [
  | inl t ↦ seen-enabled c path t.0 t.1
  | inr none ↦ seen-none c path none
]

seen-all : (c : Config) (paths : List Path) → (looks : List Seen) × AreLooks c paths looks
seen-all c [] = ([], tt)
seen-all c (path ∷ paths) =
    let look = seen-at c path in
    let looks = seen-all c paths in
    (look.0 ∷ looks.0, (look.1, looks.1))

-- what is found of a configuration after so many events, if it is bad
pub bad-or_not : (c : Config) (number : ℕ)
    → (o : Option Found) × MatchOption o (Bad c → ⊥) (IsBadAt number c)
bad-or_not c number =
    let looks = seen-all c (paths_of c.tasks) in
    (found_in number looks.0, bad-first c number looks.0 looks.1)
