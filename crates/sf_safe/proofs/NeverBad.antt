-- What is owned is never bad: nobody is at an absent cell, and no two tasks race.
-- Names: `owned-WHAT` of what an event reads or writes, `never-WHAT` of a configuration.
use Rattle.std.specs.Prelude.{◌≡◌, ◌≢◌, ℕ, zero, suc, List, [], ◌∷◌, Option, Some, None, ◌⊎◌, length, ◌<◌}
use Rattle.std.proofs.Common.{sym, ap, ◌∙◌, refl, subst, inl, inr, arith}
use Rattle.std.proofs.lemmas.Option.{same_Some}
use Rattle.sf_base.specs.declared.ids.Var.{Var}
use Rattle.sf_base.specs.declared.path.Turn.{Turn}
use Rattle.sf_base.specs.declared.path.Turn.TheVariants.{Left as left, Right as right}
use Rattle.sf_base.specs.declared.value.Value.{Value}
use Rattle.sf_base.specs.declared.value.Value.TheVariants.{Loc as loc}
use Rattle.sf_base.specs.HeapStore.{Cell, Heap, Slot}
use Rattle.sf_base.proofs.MapSplits.{splits-has_left, splits-lacks_right, splits-which}
use Rattle.sf_core.specs.declared.assertion.Test.{Test}
use Rattle.sf_core.specs.declared.assertion.Test.TheVariants.{True, Equal, Differ}
use Rattle.sf_core.specs.declared.command.Expr.{Expr}
use Rattle.sf_core.specs.declared.command.Expr.TheVariants.{Var as Variable, Nil, Int}
use Rattle.sf_core.specs.Machine.Bad.{Bad, IsAbsent, IsAtNoCell, Races, TouchesAbsent}
use Rattle.sf_core.specs.Machine.Config.{Item, command, leave, Frame, Task, runs, waits, Path, Common, Config, evaluate, task_at}
use Rattle.sf_core.specs.Machine.Enabled.{IsBlocked, IsCellAt, IsInRoom, Reads, ReadsAll, ReadsExpr, ReadsTest, Thing, Writes, cell, variable}
use Rattle.sf_core.specs.Machine.Next.{frame_next, next}
use Rattle.sf_core.specs.Program.Syntax.{assign, look_up, mutate, new, dispose, if, while, call, fork, with, Program}
use Rattle.sf_safe.specs.Checked.Own.{Own, Parts, HasAll, HasExpr, HasSlot, HasTest, everything}
use Rattle.sf_safe.specs.Checked.Contract.{Known}
use Rattle.sf_safe.specs.Checked.Safe.{Safe, OwnsCell}
use Rattle.sf_safe.specs.Checked.Invariant.{known, IsOwned, Resources, Running, Tree}
use Rattle.sf_safe.specs.Checked.Rooms.{owned-room}
use Rattle.sf_safe.specs.Checked.Owns.{Sums, group, opened, order, parts-comm, single, two}
use Rattle.sf_safe.proofs.Regions.{resources-take}
use Rattle.sf_safe.specs.Checked.Seen.{seen-value}
use Rattle.sf_safe.proofs.Trees.{focus}

-- the variable or the cell is owned
abbrev pub OwnsThing : Own → Thing → Type 0
OwnsThing w (variable slot) = HasSlot w slot
OwnsThing w (cell location) = (c : Cell) × (w.cells location ≡ Some c)

pub thing-left : {w u v : Own} (t : Thing) → Parts w u v → OwnsThing u t → OwnsThing w t
thing-left (variable slot) p o = (o.0, splits-has_left slot o.0 p.slots o.1)
thing-left (cell a) p o = (o.0, splits-has_left a o.0 p.cells o.1)

pub thing-right : {w u v : Own} (t : Thing) → Parts w u v → OwnsThing v t → OwnsThing w t
thing-right t p o = thing-left t (parts-comm p) o

none-some : {X : Type 0} (x : Option X) (v : X) → x ≡ None → x ≡ Some v → ⊥
none-some x v e f = absurd (cc)

-- no two parts own one thing
pub thing-apart : {w u v : Own} (t : Thing) → Parts w u v → OwnsThing u t → OwnsThing v t → ⊥
thing-apart (variable slot) p o q = none-some _ q.0 (splits-lacks_right slot o.0 p.slots o.1) q.1
thing-apart (cell a) p o q = none-some _ q.0 (splits-lacks_right a o.0 p.cells o.1) q.1

pub thing-either : {w u v : Own} (t : Thing) → Parts w u v → OwnsThing w t → OwnsThing u t ⊎ OwnsThing v t
thing-either (variable slot) p o = elim (splits-which slot o.0 p.slots o.1) [
  | inl h ↦ inl (o.0, h.0)
  | inr h ↦ inr (o.0, h.0)
]
thing-either (cell a) p o = elim (splits-which a o.0 p.cells o.1) [
  | inl h ↦ inl (o.0, h.0)
  | inr h ↦ inr (o.0, h.0)
]

-- WHAT A FRAME'S NEXT EVENT READS AND WRITES

module _ (slots : Var → Slot) (w : Own) (t : Thing) where
  owned-expr : (e : Expr) → HasExpr w slots e → ReadsExpr slots e t → OwnsThing w t
  owned-expr (Variable x) h r = subst (OwnsThing w) (sym r) h
  owned-expr Nil h r = absurd r
  owned-expr (Int i) h r = absurd r

  owned-test : (test : Test Expr) → HasTest w slots test → ReadsTest slots test t → OwnsThing w t
  owned-test True h r = absurd r
  owned-test (Equal x y) h r = elim r [ inl z ↦ owned-expr x h.0 z | inr z ↦ owned-expr y h.1 z ]
  owned-test (Differ x y) h r = elim r [ inl z ↦ owned-expr x h.0 z | inr z ↦ owned-expr y h.1 z ]

  owned-all : (es : List Expr) → HasAll w slots es → ReadsAll slots es t → OwnsThing w t
  owned-all [] h r = absurd r
  owned-all (e ∷ es) h r = elim r [ inl z ↦ owned-expr e h.0 z | inr z ↦ owned-all es h.1 z ]

cell-at : (w : Own) (v : Value) (location : ℕ) (here : Cell) (t : Thing) → v ≡ loc location
    → w.cells location ≡ Some here → IsCellAt v t → OwnsThing w t
cell-at w v location here t i j d =
    subst (OwnsThing w) (sym (subst (λ z. IsCellAt z t) i d)) (here, j)

-- the cell that a frame is at is its own
owned-cell : (k : Known) (all w r : Own) (e : Expr) (t : Thing) → Parts all w r → (at : OwnsCell k w e)
    → IsCellAt (evaluate k.fixed.slots all.slots e) t → OwnsThing w t
owned-cell k all w r e t p at d =
    cell-at w (evaluate k.fixed.slots all.slots e) at.location at.cell t
    (seen-value k.fixed.slots all w r p e at.reads ∙ at.finds.is) at.finds.there d

in-room : (p : Program) (k : Known) (w : Own) (s : Safe p (suc zero) k [] w) (t : Thing)
    → IsInRoom k.fixed.room t → OwnsThing w t
in-room p k w s (variable slot) d = owned-room p k s.procedure w s.owns slot d
in-room p k w s (cell a) d = absurd d

module _ (p : Program) where
  -- what a frame writes is its own
  pub owned-writes : (n : ℕ) (k : Known) (below : List Frame) (todo : List Item) (s : Common) (w r : Own) (t : Thing)
      → Parts (everything p s) w r → Safe p (suc n) k todo w
      → Writes s.store (frame_next k.fixed below todo) t → OwnsThing w t
  owned-writes n k below [] s w r t q a d = in-room p k w a t d
  owned-writes n k below (leave g ∷ rest) s w r t q a d = absurd d
  owned-writes n k below (command (assign place x e) ∷ rest) s w r t q a d = subst (OwnsThing w) (sym d) a.0
  owned-writes n k below (command (look_up place x e g) ∷ rest) s w r t q a d = subst (OwnsThing w) (sym d) a.0
  owned-writes n k below (command (mutate place e g v) ∷ rest) s w r t q a d =
      owned-cell k (everything p s) w r e t q a.1 d
  owned-writes n k below (command (new place x) ∷ rest) s w r t q a d = subst (OwnsThing w) (sym d) a.0
  owned-writes n k below (command (dispose place e) ∷ rest) s w r t q a d =
      owned-cell k (everything p s) w r e t q a.0 d
  owned-writes n k below (command (if place test this that) ∷ rest) s w r t q a d = absurd d
  owned-writes n k below (command (while place test kept body) ∷ rest) s w r t q a d = absurd d
  owned-writes n k below (command (call place c) ∷ rest) s w r t q a d = absurd d
  owned-writes n k below (command (fork place c g) ∷ rest) s w r t q a d = absurd d
  owned-writes n k below (command (with place g test body) ∷ rest) s w r t q a d = absurd d

  is-free : (x : Option Path) → (x ≢ None → ⊥) → x ≡ None
  is-free None h = refl
  is-free (Some y) h = absurd (h (λ e. absurd (cc)))

  -- what it reads is its own or, at a region, a free resource's
  pub owned-reads : (n : ℕ) (k : Known) (below : List Frame) (todo : List Item) (s : Common) (w r e : Own) (t : Thing)
      → Sums (everything p s) (w ∷ e ∷ r ∷ []) → Safe p (suc n) k todo w → Resources p s.held 0 p.resources e
      → (IsBlocked s.held (frame_next k.fixed below todo) → ⊥)
      → Reads s.store (frame_next k.fixed below todo) t
      → OwnsThing w t ⊎ OwnsThing e t
  owned-reads n k below [] s w r e t q a free b d = absurd d
  owned-reads n k below (leave g ∷ rest) s w r e t q a free b d = absurd d
  owned-reads n k below (command (assign place x y) ∷ rest) s w r e t q a free b d =
      inl (owned-expr k.fixed.slots w t y a.1 d)
  owned-reads n k below (command (look_up place x y g) ∷ rest) s w r e t q a free b d = inl (elim d [
    | inl z ↦ owned-expr k.fixed.slots w t y a.1.reads z
    | inr z ↦ owned-cell k (everything p s) w q.0 y t q.1 a.1 z
  ])
  owned-reads n k below (command (mutate place x g y) ∷ rest) s w r e t q a free b d = inl (elim d [
    | inl z ↦ owned-expr k.fixed.slots w t x a.1.reads z
    | inr z ↦ owned-expr k.fixed.slots w t y a.0 z
  ])
  owned-reads n k below (command (new place x) ∷ rest) s w r e t q a free b d = absurd d
  owned-reads n k below (command (dispose place x) ∷ rest) s w r e t q a free b d =
      inl (owned-expr k.fixed.slots w t x a.0.reads d)
  owned-reads n k below (command (if place test this that) ∷ rest) s w r e t q a free b d =
      inl (owned-test k.fixed.slots w t test a.reads d)
  owned-reads n k below (command (while place test kept body) ∷ rest) s w r e t q a free b d =
      inl (owned-test k.fixed.slots w t test a.reads d)
  owned-reads n k below (command (call place c) ∷ rest) s w r e t q a free b d =
      inl (owned-all k.fixed.slots w t c.values a.0 d)
  owned-reads n k below (command (fork place c g) ∷ rest) s w r e t q a free b d = inl (elim d [
    | inl z ↦ owned-all k.fixed.slots w t c.values a.0 z
    | inr z ↦ owned-all k.fixed.slots w t g.values a.1 z
  ])
  owned-reads n k below (command (with place g test body) ∷ rest) s w r e t q a free b d =
      let taken = resources-take p s.held g [] 0 p.resources e (omega arith)
      (let l : g.0 < length p.resources = a.there in omega (arith, l)) (is-free (s.held g) b) free in
      let m = group (taken.rest ∷ r ∷ []) (order (2 ∷ 0 ∷ []) (taken.share ∷ taken.rest ∷ w ∷ r ∷ []) (everything p s)
      (opened (taken.share ∷ taken.rest ∷ []) (w ∷ r ∷ [])
      (order (1 ∷ []) (w ∷ e ∷ r ∷ []) (everything p s) q) (two taken.parts))) in
      elim (thing-either t m.parts (owned-test k.fixed.slots m.both t test
      (a.reads taken.share m.both taken.free m.parts) d)) [
        | inl z ↦ inl z
        | inr z ↦ inr (thing-left t taken.parts z)
      ]

  -- TWO TASKS of a tree that run have different shares
  pub record Two (n : ℕ) (f g : List Frame) (w : Own) : Type 0 where
    pub first : Own
    pub second : Own
    pub rest : Own
    pub sums : Sums w (first ∷ second ∷ rest ∷ [])
    pub owes : Known
    pub other_owes : Known
    pub one : Running p (suc n) owes f first
    pub other : Running p (suc n) other_owes g second

  inside : (d : Turn) (q : Path) (f g : List Frame) (t : Task) → t ≡ runs f
      → task_at (d ∷ q) t ≡ Some (runs g) → ⊥
  inside left q f g t e i = absurd (none-some _ (runs g) (ap (task_at (left ∷ q)) e) i)
  inside right q f g t e i = absurd (none-some _ (runs g) (ap (task_at (right ∷ q)) e) i)

  -- two that run have different shares where the whole is theirs and two more
  two-of : {n : ℕ} {f g : List Frame} {w a b first second : Own} (owes other_owes : Known)
      → Sums w (a ∷ b ∷ first ∷ second ∷ []) → Running p (suc n) owes f first
      → Running p (suc n) other_owes g second → Two n f g w
  two-of {w = w} {first = first} {second = second} owes other_owes s one other =
      let m = group (first ∷ second ∷ []) s in
      record {
        first = first;
        second = second;
        rest = m.both;
        sums = order (1 ∷ 1 ∷ []) (m.both ∷ first ∷ second ∷ []) w m.sums;
        owes = owes;
        other_owes = other_owes;
        one = one;
        other = other;
      }

  deeper : {n : ℕ} {f g : List Frame} {w u v : Own} → Parts w u v → Two n f g u → Two n f g w
  deeper {v = v} q t =
      let s = opened (t.first ∷ t.second ∷ t.rest ∷ []) (v ∷ []) (two q) t.sums in
      two-of t.owes t.other_owes (order (2 ∷ 2 ∷ []) (t.first ∷ t.second ∷ t.rest ∷ v ∷ []) _ s) t.one t.other

  sides : (n : ℕ) (g h : Known) (l r : Task) (q k : Path) (f e : List Frame) (w u v : Own) → Parts w u v
      → task_at q l ≡ Some (runs f) → task_at k r ≡ Some (runs e) → Tree p (suc n) g l u
      → Tree p (suc n) h r v
      → Two n f e w
  sides n g h l r q k f e w u v parts i j s t =
      let x = focus p n g q l (runs f) u i s in
      let y = focus p n h k r (runs e) v j t in
      let a = opened (x.part ∷ x.rest ∷ []) (v ∷ []) (two parts) (two x.parts) in
      let b = opened (y.part ∷ y.rest ∷ []) (x.part ∷ x.rest ∷ [])
      (order (2 ∷ []) (x.part ∷ x.rest ∷ v ∷ []) w a) (two y.parts) in
      two-of x.owes y.owes (order (1 ∷ 2 ∷ 1 ∷ []) (y.part ∷ y.rest ∷ x.part ∷ x.rest ∷ []) w b) x.here y.here

  turned : {n : ℕ} {f g : List Frame} {w : Own} → Two n f g w → Two n g f w
  turned {w = w} t = record {
    first = t.second;
    second = t.first;
    rest = t.rest;
    sums = order (1 ∷ []) (t.first ∷ t.second ∷ t.rest ∷ []) w t.sums;
    owes = t.other_owes;
    other_owes = t.owes;
    one = t.other;
    other = t.one;
  }

  two-tasks : (n : ℕ) (o : Known) (q r : Path) (f g : List Frame) (t : Task) (w : Own) → q ≢ r
      → task_at q t ≡ Some (runs f) → task_at r t ≡ Some (runs g) → Tree p (suc n) o t w → Two n f g w
  two-tasks n o [] [] f g t w d i j s = absurd (d refl)
  two-tasks n o [] (y ∷ r) f g t w d i j s = absurd (inside y r f g t (same_Some t (runs f) i) j)
  two-tasks n o (x ∷ q) [] f g t w d i j s = absurd (inside x q g f t (same_Some t (runs g) j) i)
  two-tasks n o (left ∷ q) (y ∷ r) f g (runs fs) w d i j s = absurd (cc)
  two-tasks n o (right ∷ q) (y ∷ r) f g (runs fs) w d i j s = absurd (cc)
  two-tasks n o (left ∷ q) (left ∷ r) f g (waits fs a b) w d i j (h, k, s) =
      let t = two-tasks n h q r f g a s.second.left (λ e. d (ap (λ z. left ∷ z) e)) i j s.second.first in
      deeper (parts-comm s.parts) (deeper s.second.parts t)
  two-tasks n o (right ∷ q) (right ∷ r) f g (waits fs a b) w d i j (h, k, s) =
      let t = two-tasks n k q r f g b s.second.right (λ e. d (ap (λ z. right ∷ z) e)) i j s.second.second in
      deeper (parts-comm s.parts) (deeper (parts-comm s.second.parts) t)
  two-tasks n o (left ∷ q) (right ∷ r) f g (waits fs a b) w d i j (h, k, s) =
      deeper (parts-comm s.parts)
      (sides n h k a b q r f g s.right s.second.left s.second.right s.second.parts i j s.second.first
      s.second.second)
  two-tasks n o (right ∷ q) (left ∷ r) f g (waits fs a b) w d i j (h, k, s) =
      deeper (parts-comm s.parts)
      (turned (sides n h k a b r q g f s.right s.second.left s.second.right s.second.parts j i s.second.first
      s.second.second))

  -- ABSENT CELLS

  present : (heap : Heap) (v : Value) (location : ℕ) (here : Cell) → v ≡ loc location
      → heap location ≡ Some here
      → IsAbsent heap v → ⊥
  present heap v location here i j a = none-some (heap location) here (subst (IsAbsent heap) i a) j

  never-absent : (n : ℕ) (o : Known) (c : Config) → IsOwned p (suc n) o c → TouchesAbsent c → ⊥
  never-absent n o c s a = task-there a.task a.enabled.there a.absent
    where
      place : (k : Known) (w r : Own) (e : Expr) → Parts (everything p c.common) w r → OwnsCell k w e
          → IsAbsent c.common.heap (evaluate k.fixed.slots c.common.store e) → ⊥
      place k w r e q at d =
          present c.common.heap (evaluate k.fixed.slots c.common.store e) at.location at.cell
          (seen-value k.fixed.slots (everything p c.common) w r q e at.reads ∙ at.finds.is)
          (splits-has_left at.location at.cell q.cells at.finds.there) d

      frame-there : (k : Known) (below : List Frame) (w r : Own) → Parts (everything p c.common) w r
          → (todo : List Item) → IsAtNoCell c.common (frame_next k.fixed below todo)
          → Safe p (suc n) k todo w → ⊥
      frame-there k below w r q [] t z = t
      frame-there k below w r q (leave g ∷ rest) t z = t
      frame-there k below w r q (command (look_up _ x e g) ∷ rest) t z = place k w r e q z.1 t
      frame-there k below w r q (command (mutate _ e g x) ∷ rest) t z = place k w r e q z.1 t
      frame-there k below w r q (command (dispose _ e) ∷ rest) t z = place k w r e q z.0 t
      frame-there k below w r q (command (assign _ x e) ∷ rest) t z = t
      frame-there k below w r q (command (new _ x) ∷ rest) t z = t
      frame-there k below w r q (command (if _ x y e) ∷ rest) t z = t
      frame-there k below w r q (command (while _ x y e) ∷ rest) t z = t
      frame-there k below w r q (command (call _ x) ∷ rest) t z = t
      frame-there k below w r q (command (fork _ x y) ∷ rest) t z = t
      frame-there k below w r q (command (with _ x y e) ∷ rest) t z = t

      task-there : (task : Task) → task_at a.path c.tasks ≡ Some task → IsAtNoCell c.common (next task) → ⊥
      task-there (runs []) i t = t
      task-there (waits frames one two) i t = t
      task-there (runs (f ∷ below)) i t =
          let k = focus p n o a.path c.tasks (runs (f ∷ below)) s.tasks i s.tree in
          let m = k.here.1 in
          let all = opened (m.left ∷ m.right ∷ []) (k.rest ∷ s.free ∷ [])
          (opened (k.part ∷ k.rest ∷ []) (s.free ∷ []) (two s.parts) (two k.parts)) (two m.parts) in
          frame-there (known f k.here.0) below m.left all.0 all.1 f.todo t m.first

  -- RACES

  -- two frames, what the one writes and what the other reads or writes
  frames-race : (n : ℕ) (o : Known) (c : Config) → IsOwned p (suc n) o c → (q r : Path) (f g : Frame)
      (below others : List Frame) (t : Thing) → q ≢ r → task_at q c.tasks ≡ Some (runs (f ∷ below))
      → task_at r c.tasks ≡ Some (runs (g ∷ others))
      → (IsBlocked c.common.held (next (runs (g ∷ others))) → ⊥)
      → Writes c.common.store (next (runs (f ∷ below))) t
      → Reads c.common.store (next (runs (g ∷ others))) t ⊎ Writes c.common.store (next (runs (g ∷ others))) t → ⊥
  frames-race n o c s q r f g below others thing d i j unshut writes meets =
      let t = two-tasks n o q r (f ∷ below) (g ∷ others) c.tasks s.tasks d i j s.tree in
      let x = t.one.1 in
      let y = t.other.1 in
      let w = everything p c.common in
      let a1 = opened (t.first ∷ t.second ∷ t.rest ∷ []) (s.free ∷ []) (two s.parts) t.sums in
      let a2 = opened (x.left ∷ x.right ∷ []) (t.second ∷ t.rest ∷ s.free ∷ []) a1 (two x.parts) in
      let a3 = opened (y.left ∷ y.right ∷ []) (x.left ∷ x.right ∷ t.rest ∷ s.free ∷ [])
      (order (2 ∷ []) (x.left ∷ x.right ∷ t.second ∷ t.rest ∷ s.free ∷ []) w a2) (two y.parts) in
      -- the writer's share, the other's, the free resources', the rest
      let b1 = order (2 ∷ 0 ∷ 3 ∷ []) (y.left ∷ y.right ∷ x.left ∷ x.right ∷ t.rest ∷ s.free ∷ []) w a3 in
      let mine = owned-writes n (known f t.one.0) below f.todo c.common x.left b1.0 thing b1.1 x.first writes in
      let b2 = order (1 ∷ 1 ∷ []) (x.left ∷ y.left ∷ s.free ∷ y.right ∷ x.right ∷ t.rest ∷ []) w b1 in
      let theirs : OwnsThing y.left thing ⊎ OwnsThing s.free thing = elim meets [
        | inl z ↦ owned-reads n (known g t.other.0) others g.todo c.common y.left b2.2.0 s.free thing
            (b2.0, b2.1, (b2.2.0, b2.2.1, single b2.2.0)) y.first s.resources unshut z
        | inr z ↦ inl (owned-writes n (known g t.other.0) others g.todo c.common y.left b2.0 thing b2.1 y.first z)
      ] in
      thing-apart thing b1.1 mine (elim theirs [
        | inl z ↦ thing-left thing b1.2.1 z
        | inr z ↦ thing-right thing b1.2.1 (thing-left thing b1.2.2.1 z)
      ])

  never-races : (n : ℕ) (o : Known) (c : Config) → IsOwned p (suc n) o c → Races c → ⊥
  never-races n o c s a =
      go a.task a.other a.enabled.there a.other_enabled.there a.other_enabled.free a.writes a.meets
    where
      go : (task other : Task) → task_at a.path c.tasks ≡ Some task
          → task_at a.other_path c.tasks ≡ Some other
          → (IsBlocked c.common.held (next other) → ⊥)
          → Writes c.common.store (next task) a.thing
          → Reads c.common.store (next other) a.thing ⊎ Writes c.common.store (next other) a.thing → ⊥
      go (runs []) other i j b x y = x
      go (waits fs l r) other i j b x y = x
      go (runs (f ∷ below)) (runs []) i j b x y = elim y [ inl z ↦ z | inr z ↦ z ]
      go (runs (f ∷ below)) (waits fs l r) i j b x y = elim y [ inl z ↦ z | inr z ↦ z ]
      go (runs (f ∷ below)) (runs (g ∷ others)) i j b x y =
          frames-race n o c s a.path a.other_path f g below others a.thing a.different i j b x y

  -- what is owned is never bad
  pub never-bad : (n : ℕ) (o : Known) (c : Config) → IsOwned p (suc n) o c → Bad c → ⊥
  never-bad n o c s (inl a) = never-absent n o c s a
  never-bad n o c s (inr a) = never-races n o c s a
