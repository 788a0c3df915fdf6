-- The first thing on which two steps conflict.
-- Names: `least-LAW` of the least of a list, `meets-LAW` of two steps.
use Rattle.std.specs.Prelude.{◌≡◌, ◌⊎◌, ◌||◌, Bool, true, false, List, [], ◌∷◌, Option, Some, None, MatchOption, cond}
use Rattle.std.proofs.Common.{true≢false, sym, ◌∙◌, refl, subst, inl, inr}
use Rattle.std.proofs.lemmas.Option.{same_Some}
use Rattle.sf_base.proofs.Options.{some-none}
use Rattle.sf_base.specs.declared.ids.ResId.{ResId}
use Rattle.sf_base.specs.declared.ids.Thing.{Thing as CodeThing}
use Rattle.sf_core.specs.Machine.Config.{Item, Task, runs, waits, Path, Config, task_at, IsOver}
use Rattle.sf_core.specs.Machine.Enabled.{Thing, HasEnded, IsBlocked, IsEnabled, IsShut}
use Rattle.sf_core.specs.Machine.Next.{Next, does, leaves, returns, joins, nothing, next}
use Rattle.sf_core.specs.Program.Syntax.{Command, assign, look_up, mutate, new, dispose, if, while, call, fork, with}
use Rattle.sf_machine.specs.Accessing.{IsListed, thing_of}
use Rattle.sf_replay.specs.Checked.Looks.{IsLook, Seen, is_among, least_in, lesser, meeting, same_thing}
use Rattle.sf_replay.specs.FirstBad.{Conflicts, WritesWhatMeets}
use Rattle.sf_replay.specs.Order.{thing_before}
use Rattle.sf_replay.proofs.ThingOrder.{same-false, same-true, thing-self, thing-through}

-- it is so, or it isn't
abbrev pub Decided : Type 0 → Type 0
Decided P = P ⊎ (P → ⊥)

done-or_not : (todo : List Item) → Decided (todo ≡ [])
done-or_not [] = inl refl
done-or_not (i ∷ todo) = inr (λ e. absurd (cc))

pub ended-or_not : (path : Path) (t : Task) → Decided (HasEnded path t)
ended-or_not path (runs []) = inl tt
ended-or_not [] (runs (f ∷ [])) = done-or_not f.todo
ended-or_not [] (runs (f ∷ g ∷ below)) = inr (λ h. h)
ended-or_not (turn ∷ path) (runs (f ∷ below)) = inr (λ h. h)
ended-or_not path (waits frames one two) = inr (λ h. h)

pub over-or_not : (t : Task) → Decided (IsOver t)
over-or_not (runs []) = inl tt
over-or_not (runs (f ∷ below)) = inr (λ h. h)
over-or_not (waits frames one two) = inr (λ h. h)

held-or_not : (holder : Option Path) → Decided (holder ≡ None → ⊥)
held-or_not None = inr (λ k. k refl)
held-or_not (Some path) = inl (λ e. some-none path e)

shut-or_not : (held : ResId → Option Path) (c : Command) → Decided (IsShut held c)
shut-or_not held (assign place x e) = inr (λ h. h)
shut-or_not held (look_up place x e g) = inr (λ h. h)
shut-or_not held (mutate place e g v) = inr (λ h. h)
shut-or_not held (new place x) = inr (λ h. h)
shut-or_not held (dispose place e) = inr (λ h. h)
shut-or_not held (if place test this that) = inr (λ h. h)
shut-or_not held (while place test kept body) = inr (λ h. h)
shut-or_not held (call place c) = inr (λ h. h)
shut-or_not held (fork place c d) = inr (λ h. h)
shut-or_not held (with place r test body) = held-or_not (held r)

pub both-or_not : {P Q : Type 0} → Decided P → Decided Q → Decided (P × Q)
both-or_not (inl p) (inl q) = inl (p, q)
both-or_not (inl p) (inr n) = inr (λ h. n h.1)
both-or_not (inr n) q = inr (λ h. n h.0)

not-or_not : {P : Type 0} → Decided P → Decided (P → ⊥)
not-or_not (inl p) = inr (λ n. n p)
not-or_not (inr n) = inl n

pub blocked-or_not : (held : ResId → Option Path) (n : Next) → Decided (IsBlocked held n)
blocked-or_not held (does f below c rest) = shut-or_not held c
blocked-or_not held (leaves f below r rest) = inr (λ h. h)
blocked-or_not held (returns f below) = inr (λ h. h)
blocked-or_not held (joins frames one two) = not-or_not (both-or_not (over-or_not one) (over-or_not two))
blocked-or_not held nothing = inr (λ h. h)

task-once : (o : Option Task) (t u : Task) → o ≡ Some t → o ≡ Some u → t ≡ u
task-once o t u e f = same_Some t u (sym e ∙ f)

enabled-there : (c : Config) (path : Path) (t : Task) → task_at path c.tasks ≡ Some t → Decided (HasEnded path t)
    → Decided (IsBlocked c.common.held (next t)) → Decided ((task : Task) × IsEnabled c path task)
enabled-there c path t e (inl h) b = inr (λ k. k.1.going
    (subst (HasEnded path) (task-once (task_at path c.tasks) t k.0 e k.1.there) h))
enabled-there c path t e (inr h) (inl b) = inr (λ k. k.1.free
    (subst (λ (z : Task). IsBlocked c.common.held (next z)) (task-once (task_at path c.tasks) t k.0 e k.1.there) b))
enabled-there c path t e (inr h) (inr b) = inl (t, record { there = e; going = h; free = b })

enabled-at : (c : Config) (path : Path) (o : Option Task) → task_at path c.tasks ≡ o
    → Decided ((task : Task) × IsEnabled c path task)
enabled-at c path None e = inr (λ k. some-none k.0 (sym k.1.there ∙ e))
enabled-at c path (Some t) e = enabled-there c path t e (ended-or_not path t) (blocked-or_not c.common.held (next t))

-- whether an enabled task is at the path
pub enabled-or_not : (c : Config) (path : Path) → Decided ((task : Task) × IsEnabled c path task)
enabled-or_not c path = enabled-at c path (task_at path c.tasks) refl

-- it is the first of the things of which that holds, if there is one
abbrev pub IsLeast : Option CodeThing → (Thing → Type 0) → Type 0
IsLeast found P = MatchOption found ((t : Thing) → P t → ⊥)
    (λ x. P (thing_of x) × ((t : Thing) → P t → thing_before t (thing_of x) ≡ true → ⊥))

-- the same holds of what is as much
least-same : (found : Option CodeThing) (P Q : Thing → Type 0) → ((t : Thing) → P t → Q t) → ((t : Thing) → Q t → P t)
    → IsLeast found P → IsLeast found Q
least-same None P Q f g l = λ t q. l t (g t q)
least-same (Some x) P Q f g l = (f (thing_of x) l.0, λ t q. l.1 t (g t q))

least-either : (x y : CodeThing) (P : Thing → Type 0) (b : Bool) → thing_before (thing_of x) (thing_of y) ≡ b
    → IsLeast (Some y) P → IsLeast (Some (cond b x y)) (λ t. P t ⊎ (t ≡ thing_of x))
least-either x y P true e l = (
  inr refl,
  λ t h b. elim h [
    | inl p ↦ l.1 t p (thing-through t (thing_of x) (thing_of y) b e)
    | inr q ↦ thing-self (thing_of x) (subst (λ (z : Thing). thing_before z (thing_of x) ≡ true) q b)
  ],
)
least-either x y P false e l = (
  inl l.0,
  λ t h b. elim h [
    | inl p ↦ l.1 t p b
    | inr q ↦ true≢false (sym (subst (λ (z : Thing). thing_before z (thing_of y) ≡ true) q b) ∙ e)
  ],
)

-- what comes first once there is one more
least-more : (least : Option CodeThing) (x : CodeThing) (P : Thing → Type 0) → IsLeast least P
    → IsLeast (Some (lesser least x)) (λ t. P t ⊎ (t ≡ thing_of x))
least-more None x P l = (
  inr refl,
  λ t h b. elim h [
    | inl p ↦ l t p
    | inr e ↦ thing-self (thing_of x) (subst (λ (z : Thing). thing_before z (thing_of x) ≡ true) e b)
  ],
)
least-more (Some y) x P l = least-either x y P (thing_before (thing_of x) (thing_of y)) refl l

listed-true : (y x : CodeThing) (ys : List CodeThing) (b rest : Bool) → same_thing y x ≡ b
    → (rest ≡ true → IsListed ys (thing_of x)) → (b || rest) ≡ true → IsListed (y ∷ ys) (thing_of x)
listed-true y x ys true rest e f h = inl (same-true x y e)
listed-true y x ys false rest e f h = inr (f h)

listed-false : (y x : CodeThing) (ys : List CodeThing) (b rest : Bool) → same_thing y x ≡ b
    → (rest ≡ false → IsListed ys (thing_of x) → ⊥) → (b || rest) ≡ false → IsListed (y ∷ ys) (thing_of x) → ⊥
listed-false y x ys true rest e f h i = true≢false h
listed-false y x ys false rest e f h i = elim i [ inl s ↦ same-false x y e s | inr j ↦ f h j ]

-- what is among these
among-true : (things : List CodeThing) (x : CodeThing) → is_among things x ≡ true → IsListed things (thing_of x)
among-true [] x h = absurd (true≢false (sym h))
among-true (y ∷ ys) x h =
    listed-true y x ys (same_thing y x) (is_among ys x) refl (λ k. among-true ys x k) h

among-false : (things : List CodeThing) (x : CodeThing) → is_among things x ≡ false → IsListed things (thing_of x) → ⊥
among-false [] x h i = i
among-false (y ∷ ys) x h i =
    listed-false y x ys (same_thing y x) (is_among ys x) refl (λ k j. among-false ys x k j) h i

least-step : (least : Option CodeThing) (x : CodeThing) (xs among : List CodeThing) (P : Thing → Type 0) (b : Bool)
    → is_among among x ≡ b → IsLeast least P
    → ((l : Option CodeThing) (Q : Thing → Type 0) → IsLeast l Q
    → IsLeast (least_in l xs among) (λ t. Q t ⊎ (IsListed xs t × IsListed among t)))
    → IsLeast (least_in (cond b (Some (lesser least x)) least) xs among)
    (λ t. P t ⊎ (IsListed (x ∷ xs) t × IsListed among t))
least-step least x xs among P true e l rest = least-same (least_in (Some (lesser least x)) xs among)
    (λ t. (P t ⊎ (t ≡ thing_of x)) ⊎ (IsListed xs t × IsListed among t))
    (λ t. P t ⊎ (IsListed (x ∷ xs) t × IsListed among t)) forth back
    (rest (Some (lesser least x)) (λ t. P t ⊎ (t ≡ thing_of x)) (least-more least x P l))
  where
    forth : (t : Thing) → (P t ⊎ (t ≡ thing_of x)) ⊎ (IsListed xs t × IsListed among t)
        → P t ⊎ (IsListed (x ∷ xs) t × IsListed among t)
    forth t (inl (inl p)) = inl p
    forth t (inl (inr q)) = inr (inl q, subst (IsListed among) (sym q) (among-true among x e))
    forth t (inr k) = inr (inr k.0, k.1)

    listed : (t : Thing) → IsListed (x ∷ xs) t → IsListed among t
        → (P t ⊎ (t ≡ thing_of x)) ⊎ (IsListed xs t × IsListed among t)
    listed t (inl q) a = inl (inr q)
    listed t (inr j) a = inr (j, a)

    back : (t : Thing) → P t ⊎ (IsListed (x ∷ xs) t × IsListed among t)
        → (P t ⊎ (t ≡ thing_of x)) ⊎ (IsListed xs t × IsListed among t)
    back t (inl p) = inl (inl p)
    back t (inr k) = listed t k.0 k.1
least-step least x xs among P false e l rest = least-same (least_in least xs among)
    (λ t. P t ⊎ (IsListed xs t × IsListed among t))
    (λ t. P t ⊎ (IsListed (x ∷ xs) t × IsListed among t)) forth back (rest least P l)
  where
    forth : (t : Thing) → P t ⊎ (IsListed xs t × IsListed among t)
        → P t ⊎ (IsListed (x ∷ xs) t × IsListed among t)
    forth t (inl p) = inl p
    forth t (inr k) = inr (inr k.0, k.1)

    listed : (t : Thing) → IsListed (x ∷ xs) t → IsListed among t → P t ⊎ (IsListed xs t × IsListed among t)
    listed t (inl q) a = absurd (among-false among x e (subst (IsListed among) q a))
    listed t (inr j) a = inr (j, a)

    back : (t : Thing) → P t ⊎ (IsListed (x ∷ xs) t × IsListed among t) → P t ⊎ (IsListed xs t × IsListed among t)
    back t (inl p) = inl p
    back t (inr k) = listed t k.0 k.1

-- the least of what is the least so far, and of these that are among those
least-in : (least : Option CodeThing) (of among : List CodeThing) (P : Thing → Type 0) → IsLeast least P
    → IsLeast (least_in least of among) (λ t. P t ⊎ (IsListed of t × IsListed among t))
least-in least [] among P l =
    least-same least P (λ t. P t ⊎ (⊥ × IsListed among t)) (λ t p. inl p) (λ t h. elim h [ inl p ↦ p | inr k ↦ absurd k.0 ]) l
least-in least (x ∷ xs) among P l = least-step least x xs among P (is_among among x) refl l
    (λ m Q h. least-in m xs among Q h)

-- the one writes what the other reads or writes, or the other way round, by what is listed
abbrev pub Meets : Seen → Seen → Thing → Type 0
Meets l m t = ((⊥ ⊎ (IsListed l.writes t × IsListed m.reads t))
    ⊎ (IsListed l.writes t × IsListed m.writes t))
    ⊎ (IsListed l.reads t × IsListed m.writes t)

meets-least : (l m : Seen) → IsLeast (meeting l m) (Meets l m)
meets-least l m =
    let w = l.writes in
    let r = l.reads in
    let one = least-in None w m.reads (λ t. ⊥) (λ t h. h) in
    let two = least-in (least_in None w m.reads) w m.writes
    (λ t. ⊥ ⊎ (IsListed w t × IsListed m.reads t)) one in
    least-in (least_in (least_in None w m.reads) w m.writes) r m.writes
    (λ t. (⊥ ⊎ (IsListed w t × IsListed m.reads t)) ⊎ (IsListed w t × IsListed m.writes t))
    two

-- a task whose step reads or writes something is enabled
listed-enabled : (c : Config) (p : Path) (l : Seen) (t : Thing) → IsLook c p l
    → IsListed l.reads t ⊎ IsListed l.writes t → (task : Task) × IsEnabled c p task
listed-enabled c p l t k i = elim (enabled-or_not c p) [
  | inl task ↦ task
  | inr lacks ↦ absurd (none (k.accesses.neither (λ task e. lacks (task, e))) i)
]
  where
    none : (l.reads ≡ []) × (l.writes ≡ [])
        → IsListed l.reads t ⊎ IsListed l.writes t → ⊥
    none e i = elim i [
      | inl h ↦ subst (λ (z : List CodeThing). IsListed z t) e.0 h
      | inr h ↦ subst (λ (z : List CodeThing). IsListed z t) e.1 h
    ]

pub meets-to : (c : Config) (p q : Path) (l m : Seen) (t : Thing) → IsLook c p l → IsLook c q m → Meets l m t
    → Conflicts c p q t
meets-to c p q l m t a b h = elim h [
  | inl k ↦ elim k [
    | inl j ↦ elim j [
      | inl z ↦ absurd z
      | inr i ↦ both (inr i.0) (inl i.1) (λ x e y f.
          inl ((a.accesses.written x e t).0 i.0, inl ((b.accesses.read y f t).0 i.1)))
    ]
    | inr i ↦ both (inr i.0) (inr i.1) (λ x e y f.
        inl ((a.accesses.written x e t).0 i.0, inr ((b.accesses.written y f t).0 i.1)))
  ]
  | inr i ↦ both (inl i.0) (inr i.1) (λ x e y f.
      inr ((b.accesses.written y f t).0 i.1, inl ((a.accesses.read x e t).0 i.0)))
]
  where
    both : IsListed l.reads t ⊎ IsListed l.writes t → IsListed m.reads t ⊎ IsListed m.writes t
        → ((x : Task) → IsEnabled c p x → (y : Task) → IsEnabled c q y
        → WritesWhatMeets c.common.store (next x) (next y) t
        ⊎ WritesWhatMeets c.common.store (next y) (next x) t)
        → Conflicts c p q t
    both i j met =
        let x = listed-enabled c p l t a i in
        let y = listed-enabled c q m t b j in
        record {
          task = x.0;
          enabled = x.1;
          other_task = y.0;
          other_enabled = y.1;
          conflict = met x.0 x.1 y.0 y.1;
        }

pub meets-from : (c : Config) (p q : Path) (l m : Seen) (t : Thing) → IsLook c p l → IsLook c q m → Conflicts c p q t
    → Meets l m t
meets-from c p q l m t a b k =
    let w = a.accesses.written k.task k.enabled t in
    let r = a.accesses.read k.task k.enabled t in
    let v = b.accesses.written k.other_task k.other_enabled t in
    let s = b.accesses.read k.other_task k.other_enabled t in
    elim k.conflict [
      | inl h ↦ elim h.1 [
        | inl i ↦ inl (inl (inr (w.1 h.0, s.1 i)))
        | inr i ↦ inl (inr (w.1 h.0, v.1 i))
      ]
      | inr h ↦ elim h.1 [
        | inl i ↦ inr (r.1 i, v.1 h.0)
        | inr i ↦ inl (inr (w.1 i, v.1 h.0))
      ]
    ]

-- the first thing on which two steps conflict is found, where they do
pub meets-found : (c : Config) (p q : Path) (l m : Seen) → IsLook c p l → IsLook c q m
    → IsLeast (meeting l m) (Conflicts c p q)
meets-found c p q l m a b = least-same (meeting l m) (Meets l m) (Conflicts c p q)
    (λ t h. meets-to c p q l m t a b h) (λ t h. meets-from c p q l m t a b h) (meets-least l m)
