-- From a heap that splits along the resources and the tasks to the family of parts that Good speaks of.
-- Names: `apart-WHAT` at one location, `WHAT-family` makes the family.
use Rattle.std.specs.Prelude.{◌≡◌, ◌≢◌, ℕ, zero, suc, ◌+◌, List, [], ◌∷◌, Option, Some, None}
use Rattle.std.specs.List.{slice_get}
use Rattle.std.proofs.Common.{sym, ap, ◌∙◌, refl, subst, inl, inr, arith}
use Rattle.std.proofs.lemmas.Option.{none-some, same_Some}
use Rattle.sf_base.specs.declared.ids.ResId.{ResId}
use Rattle.sf_base.specs.declared.path.Turn.TheVariants.{Left as left, Right as right}
use Rattle.sf_base.specs.declared.value.Value.{Value}
use Rattle.sf_base.specs.declared.value.Value.TheVariants.{Nil as nil}
use Rattle.sf_core.specs.declared.command.Expr.{Expr}
use Rattle.sf_base.proofs.MapSplits.{apart-none, rest_of, splits-has_left, splits-has_right, splits-which, splits-rest}
use Rattle.sf_core.specs.Machine.Bad.{Bad}
use Rattle.sf_core.specs.Machine.Config.{Item, Fixed, Frame, Task, runs, waits, Path, Config, evaluate, task_at}
use Rattle.sf_core.specs.Machine.Enabled.{HasEnded}
use Rattle.sf_core.specs.Machine.Good.{Owner, resource, owed, owed_by, IsOwned, Finished, Good}
use Rattle.sf_core.specs.Checked.GoodParts.{InvariantPart, InvariantParts, FramePart, SatEach, TaskParts, RestPart, EndsWell}
use Rattle.sf_base.specs.HeapStore.{Apart, Splits, Cell, Heap, Store, ◌⋆◌}
use Rattle.sf_core.specs.Assertions.Sat.{Sat, Foot}
use Rattle.sf_core.specs.Machine.Start.{entry_slot}
use Rattle.sf_core.specs.Machine.Step.{procedure_at}
use Rattle.sf_core.specs.Program.Syntax.{Level, Procedure, Program, Resource}

-- a part for each of some owners, within a heap and apart from each other
record Family (I : Type 0) (h : Heap) : Type 0 where
  part : I → Heap
  within : (i : I) (a : ℕ) (k : Cell) → part i a ≡ Some k → h a ≡ Some k
  apart : (i j : I) → i ≢ j → (a : ℕ) → Apart (part i a) (part j a)

-- One location
apart-swap : (x y : Option Cell) → Apart x y → Apart y x
apart-swap None None e = tt
apart-swap None (Some y) e = tt
apart-swap (Some x) None e = tt
apart-swap (Some x) (Some y) e = absurd e

-- not both of what is apart are there
pub apart-both : (x y : Option Cell) (k l : Cell) → Apart x y → x ≡ Some k → y ≡ Some l → ⊥
apart-both x y k l p e f = subst (λ z. Apart (Some k) z) f (subst (λ z. Apart z y) e p)

-- parts of what is apart are apart
apart-within : (x y v w : Option Cell) → ((k : Cell) → x ≡ Some k → v ≡ Some k)
    → ((k : Cell) → y ≡ Some k → w ≡ Some k) → Apart v w → Apart x y
apart-within None y v w f g e = tt
apart-within (Some x) None v w f g e = tt
apart-within (Some x) (Some y) v w f g e =
    subst (λ z. Apart (Some x) z) (g y refl) (subst (λ z. Apart z w) (f x refl) e)

-- a part of a heap that satisfies an assertion is a footprint
foot-of : {E : Type 0} (a : Level E) (val : E → Value) (heap part : Heap)
    → ((l : ℕ) (k : Cell) → part l ≡ Some k → heap l ≡ Some k) → Sat a val (λ n. nil) part
    → Foot a val heap part
foot-of a val heap part f s = record { rest = rest_of part heap; splits = splits-rest f; sat = s }

-- The resources
record InvariantFamily (store : Store) (held : ResId → Option Path) (number : ℕ) (rs : List Resource)
    (h : Heap) : Type 0 where
  family : Family ℕ h
  holds : (i : ℕ) (of : Resource) → slice_get rs i ≡ Some of
      → InvariantPart store (held (record { 0 = number + i })) of (family.part i)
  covers : (a : ℕ) (k : Cell) → h a ≡ Some k
      → (i : ℕ) × (of : Resource) × (slice_get rs i ≡ Some of) × (family.part i a ≡ Some k)

-- one heap, and then others
abbrev pick : Heap → (ℕ → Heap) → ℕ → Heap
pick g f zero = g
pick g f (suc i) = f i

abbrev pick-family : {h g k : Heap} → Splits h g k → Family ℕ k → Family ℕ h
pick-family {h} {g} {k} s f = record { part = pick g f.part; within = within; apart = apart }
  where
    within : (i a : ℕ) (c : Cell) → pick g f.part i a ≡ Some c → h a ≡ Some c
    within zero a c e = splits-has_left a c s e
    within (suc i) a c e = splits-has_right a c s (f.within i a c e)

    apart : (i j : ℕ) → i ≢ j → (a : ℕ) → Apart (pick g f.part i a) (pick g f.part j a)
    apart zero zero n a = absurd (n refl)
    apart zero (suc j) n a = apart-within (g a) (f.part j a) (g a) (k a) (λ c e. e) (λ c e. f.within j a c e)
        (s.apart a)
    apart (suc i) zero n a = apart-swap (g a) (f.part i a)
        (apart-within (g a) (f.part i a) (g a) (k a) (λ c e. e) (λ c e. f.within i a c e) (s.apart a))
    apart (suc i) (suc j) n a = f.apart i j (λ e. n (ap suc e)) a

plus-zero : (n : ℕ) → n ≡ n + 0
plus-zero n = omega arith

plus-suc : (n i : ℕ) → suc n + i ≡ n + suc i
plus-suc n i = omega arith

-- one resource, and then others
pick-invariants : (store : Store) (held : ResId → Option Path) (number : ℕ) (r : Resource)
    (rs : List Resource) (h : Heap)
    → (s : (InvariantPart store (held (record { 0 = number })) r ⋆ InvariantParts store held (suc number) rs)
    h)
    → InvariantFamily store held (suc number) rs s.right → InvariantFamily store held number (r ∷ rs) h
pick-invariants store held number r rs h s rest =
    record { family = pick-family s.splits rest.family; holds = holds; covers = covers }
  where
    holds : (i : ℕ) (of : Resource) → slice_get (r ∷ rs) i ≡ Some of
        → InvariantPart store (held (record { 0 = number + i })) of (pick s.left rest.family.part i)
    holds zero of e =
        let same : r ≡ of = cc in
        subst (λ z. InvariantPart store (held (record { 0 = z })) of s.left) (plus-zero number)
        (subst (λ z. InvariantPart store (held (record { 0 = number })) z s.left) same s.first)
    holds (suc i) of e = subst (λ z. InvariantPart store (held (record { 0 = z })) of (rest.family.part i))
        (plus-suc number i) (rest.holds i of e)

    covers : (a : ℕ) (k : Cell) → h a ≡ Some k
        → (i : ℕ) × (of : Resource) × (slice_get (r ∷ rs) i ≡ Some of)
        × (pick s.left rest.family.part i a ≡ Some k)
    covers a k e = elim (splits-which a k s.splits e) [
      | inl f ↦ (0, r, refl, f.0)
      | inr f ↦ let c = rest.covers a k f.0 in (suc c.0, c.1, c.2, c.3)
    ]

invariant-family : (store : Store) (held : ResId → Option Path) (number : ℕ) (rs : List Resource) (h : Heap)
    → InvariantParts store held number rs h → InvariantFamily store held number rs h
invariant-family store held number [] h e = record {
  family = record { part = λ i a. None; within = λ i a k f. absurd (none-some k f); apart = λ i j n a. tt };
  holds = λ i of f. absurd (none-some of f);
  covers = λ a k f. absurd (none-some k (sym (e.none a) ∙ f));
}
invariant-family store held number (r ∷ rs) h s =
    pick-invariants store held number r rs h s (invariant-family store held (suc number) rs s.right s.second)

-- Lists of assertions
record EachFamily (all : List (Level Expr)) (see : Expr → Value) (h : Heap) : Type 0 where
  family : Family ℕ h
  holds : (i : ℕ) (a : Level Expr) → slice_get all i ≡ Some a → Sat a see (λ n. nil) (family.part i)
  covers : (l : ℕ) (k : Cell) → h l ≡ Some k
      → (i : ℕ) × (a : Level Expr) × (slice_get all i ≡ Some a) × (family.part i l ≡ Some k)

-- no part at all
abbrev no-family : {I : Type 0} {h : Heap} → Family I h
no-family {I} {h} =
    record { part = λ i a. None; within = λ i a k e. absurd (none-some k e); apart = λ i j n a. tt }

-- one assertion, and then others
pick-each : (a : Level Expr) (all : List (Level Expr)) (see : Expr → Value) (h : Heap)
    → (s : (Sat a see (λ n. nil) ⋆ SatEach all see) h) → EachFamily all see s.right → EachFamily (a ∷ all) see h
pick-each a all see h s rest =
    record { family = pick-family s.splits rest.family; holds = holds; covers = covers }
  where
    holds : (i : ℕ) (b : Level Expr) → slice_get (a ∷ all) i ≡ Some b
        → Sat b see (λ n. nil) (pick s.left rest.family.part i)
    holds zero b e = let same : a ≡ b = cc in subst (λ z. Sat z see (λ n. nil) s.left) same s.first
    holds (suc i) b e = rest.holds i b e

    covers : (l : ℕ) (k : Cell) → h l ≡ Some k
        → (i : ℕ) × (b : Level Expr) × (slice_get (a ∷ all) i ≡ Some b)
        × (pick s.left rest.family.part i l ≡ Some k)
    covers l k e = elim (splits-which l k s.splits e) [
      | inl f ↦ (0, a, refl, f.0)
      | inr f ↦ let c = rest.covers l k f.0 in (suc c.0, c.1, c.2, c.3)
    ]

each-family : (all : List (Level Expr)) (see : Expr → Value) (h : Heap) → SatEach all see h
    → EachFamily all see h
each-family [] see h e = record {
  family = no-family;
  holds = λ i a f. absurd (none-some a f);
  covers = λ l k f. absurd (none-some k (sym (e.none l) ∙ f));
}
each-family (a ∷ all) see h s = pick-each a all see h s (each-family all see s.right s.second)

-- The tasks
-- the parts of what a frame's return owes
record FramePieces (p : Program) (store : Store) (f : Fixed) (todo : List Item) (h : Heap) : Type 0 where
  pieces : Family ℕ h
  posts : todo ≡ [] → (g : Procedure) → procedure_at p f.procedure ≡ Some g → (i : ℕ) (a : Level Expr)
      → slice_get (owed_by p g) i ≡ Some a → Sat a (evaluate f.slots store) (λ n. nil) (pieces.part i)
  covers : todo ≡ [] → (g : Procedure) → procedure_at p f.procedure ≡ Some g → (l : ℕ) (k : Cell)
      → h l ≡ Some k
      → (i : ℕ) × (a : Level Expr) × (slice_get (owed_by p g) i ≡ Some a) × (pieces.part i l ≡ Some k)

frame-pieces : (p : Program) (store : Store) (f : Fixed) (todo : List Item) (h : Heap)
    → FramePart p store f todo h → FramePieces p store f todo h
frame-pieces p store f [] h s = record {
  pieces = each.family;
  posts = λ d g there i a e. each.holds i a
      (subst (λ z. slice_get (owed_by p z) i ≡ Some a) (sym (same g there)) e);
  covers = λ d g there l k e. subst (λ z. (i : ℕ) × (a : Level Expr)
      × (slice_get (owed_by p z) i ≡ Some a) × (each.family.part i l ≡ Some k)) (same g there)
      (each.covers l k e);
}
  where
    same : (g : Procedure) → procedure_at p f.procedure ≡ Some g → s.0 ≡ g
    same g there = same_Some s.0 g (sym s.1 ∙ there)

    each : EachFamily (owed_by p s.0) (evaluate f.slots store) h
    each = each-family (owed_by p s.0) (evaluate f.slots store) h s.2
frame-pieces p store f (i ∷ rest) h s = record {
  pieces = no-family;
  posts = λ d. absurd (cc);
  covers = λ d. absurd (cc);
}

record TaskFamily (p : Program) (store : Store) (t : Task) (h : Heap) : Type 0 where
  family : Family Path h
  pieces : (path : Path) → Family ℕ (family.part path)
  posts : (path : Path) (f : Frame) (below : List Frame) → task_at path t ≡ Some (runs (f ∷ below))
      → f.todo ≡ []
      → (g : Procedure) → procedure_at p f.fixed.procedure ≡ Some g → (i : ℕ) (a : Level Expr)
      → slice_get (owed_by p g) i ≡ Some a
      → Sat a (evaluate f.fixed.slots store) (λ n. nil) ((pieces path).part i)
  covers : (f : Frame) → t ≡ runs (f ∷ []) → f.todo ≡ []
      → (g : Procedure) → procedure_at p f.fixed.procedure ≡ Some g → (l : ℕ) (k : Cell) → h l ≡ Some k
      → (i : ℕ) × (a : Level Expr) × (slice_get (owed_by p g) i ≡ Some a)
      × ((pieces []).part i l ≡ Some k)

-- the whole at the root, and nothing elsewhere
abbrev at_root : Heap → Path → Heap
at_root h [] = h
at_root h (turn ∷ path) = λ a. None

abbrev root-family : (h : Heap) → Family Path h
root-family h = record { part = at_root h; within = within; apart = apart }
  where
    within : (path : Path) (a : ℕ) (k : Cell) → at_root h path a ≡ Some k → h a ≡ Some k
    within [] a k e = e
    within (turn ∷ path) a k e = absurd (none-some k e)

    apart : (path other : Path) → path ≢ other → (a : ℕ) → Apart (at_root h path a) (at_root h other a)
    apart [] [] n a = absurd (n refl)
    apart [] (turn ∷ other) n a = apart-none (h a)
    apart (turn ∷ path) other n a = tt

-- nothing at the root, and two families below it
abbrev below_root : (Path → Heap) → (Path → Heap) → Path → Heap
below_root f g [] = λ a. None
below_root f g (left ∷ path) = f path
below_root f g (right ∷ path) = g path

abbrev fork-family : {h g k : Heap} → Splits h g k → Family Path g → Family Path k → Family Path h
fork-family {h} {g} {k} s x y = record { part = below_root x.part y.part; within = within; apart = apart }
  where
    within : (path : Path) (a : ℕ) (c : Cell) → below_root x.part y.part path a ≡ Some c → h a ≡ Some c
    within [] a c e = absurd (none-some c e)
    within (left ∷ path) a c e = splits-has_left a c s (x.within path a c e)
    within (right ∷ path) a c e = splits-has_right a c s (y.within path a c e)

    across : (path other : Path) (a : ℕ) → Apart (x.part path a) (y.part other a)
    across path other a = apart-within (x.part path a) (y.part other a) (g a) (k a)
        (λ c e. x.within path a c e) (λ c e. y.within other a c e) (s.apart a)

    apart : (path other : Path) → path ≢ other → (a : ℕ)
        → Apart (below_root x.part y.part path a) (below_root x.part y.part other a)
    apart [] other n a = tt
    apart (left ∷ path) [] n a = apart-none (x.part path a)
    apart (left ∷ path) (left ∷ other) n a = x.apart path other (λ e. n (ap (λ z. left ∷ z) e)) a
    apart (left ∷ path) (right ∷ other) n a = across path other a
    apart (right ∷ path) [] n a = apart-none (y.part path a)
    apart (right ∷ path) (left ∷ other) n a =
        apart-swap (x.part other a) (y.part path a) (across other path a)
    apart (right ∷ path) (right ∷ other) n a = y.apart path other (λ e. n (ap (λ z. right ∷ z) e)) a

-- two children and the task that waits for them
fork-tasks : (p : Program) (store : Store) (frames : List Frame) (one two : Task) (h : Heap)
    (s : (TaskParts p store one ⋆ TaskParts p store two) h)
    → TaskFamily p store one s.left → TaskFamily p store two s.right
    → TaskFamily p store (waits frames one two) h
fork-tasks p store frames one two h s first second =
    record {
      family = fork-family s.splits first.family second.family;
      pieces = pieces;
      posts = posts;
      covers = λ f e. absurd (cc);
    }
  where
    pieces : (path : Path) → Family ℕ (below_root first.family.part second.family.part path)
    pieces [] = no-family
    pieces (left ∷ path) = first.pieces path
    pieces (right ∷ path) = second.pieces path

    posts : (path : Path) (f : Frame) (below : List Frame)
        → task_at path (waits frames one two) ≡ Some (runs (f ∷ below)) → f.todo ≡ []
        → (g : Procedure) → procedure_at p f.fixed.procedure ≡ Some g → (i : ℕ) (a : Level Expr)
        → slice_get (owed_by p g) i ≡ Some a
        → Sat a (evaluate f.fixed.slots store) (λ n. nil) ((pieces path).part i)
    posts [] f below e d g w i a o = absurd (cc)
    posts (left ∷ path) f below e d g w i a o = first.posts path f below e d g w i a o
    posts (right ∷ path) f below e d g w i a o = second.posts path f below e d g w i a o

-- a task that has ended owes nothing
ended-family : (p : Program) (store : Store) (h : Heap) → TaskFamily p store (runs []) h
ended-family p store h =
    record { family = root-family h; pieces = λ path. no-family; posts = posts; covers = λ f e. absurd (cc) }
  where
    posts : (path : Path) (f : Frame) (below : List Frame) → task_at path (runs []) ≡ Some (runs (f ∷ below))
        → f.todo ≡ []
        → (g : Procedure) → procedure_at p f.fixed.procedure ≡ Some g → (i : ℕ) (a : Level Expr)
        → slice_get (owed_by p g) i ≡ Some a → Sat a (evaluate f.fixed.slots store) (λ n. nil) (λ l. None)
    posts [] f below e d g w i a o = absurd (cc)
    posts (left ∷ path) f below e d g w i a o = absurd (cc)
    posts (right ∷ path) f below e d g w i a o = absurd (cc)

-- a task that runs owes what its innermost frame's return owes
running-family : (p : Program) (store : Store) (frame : Frame) (frames : List Frame) (h : Heap)
    → FramePieces p store frame.fixed frame.todo h → TaskFamily p store (runs (frame ∷ frames)) h
running-family p store frame frames h q =
    record { family = root-family h; pieces = pieces; posts = posts; covers = covers }
  where
    pieces : (path : Path) → Family ℕ (at_root h path)
    pieces [] = q.pieces
    pieces (turn ∷ path) = no-family

    posts : (path : Path) (f : Frame) (below : List Frame)
        → task_at path (runs (frame ∷ frames)) ≡ Some (runs (f ∷ below)) → f.todo ≡ []
        → (g : Procedure) → procedure_at p f.fixed.procedure ≡ Some g → (i : ℕ) (a : Level Expr)
        → slice_get (owed_by p g) i ≡ Some a
        → Sat a (evaluate f.fixed.slots store) (λ n. nil) ((pieces path).part i)
    posts [] f below e d g w i a o =
        let same : frame ≡ f = cc in
        subst (λ (z : Frame). Sat a (evaluate z.fixed.slots store) (λ n. nil) (q.pieces.part i)) same
        (q.posts (ap (λ (z : Frame). z.todo) same ∙ d) g
        (ap (λ (z : Frame). procedure_at p z.fixed.procedure) same ∙ w) i a o)
    posts (left ∷ path) f below e d g w i a o = absurd (cc)
    posts (right ∷ path) f below e d g w i a o = absurd (cc)

    covers : (f : Frame) → runs (frame ∷ frames) ≡ runs (f ∷ []) → f.todo ≡ []
        → (g : Procedure) → procedure_at p f.fixed.procedure ≡ Some g → (l : ℕ) (k : Cell) → h l ≡ Some k
        → (i : ℕ) × (a : Level Expr) × (slice_get (owed_by p g) i ≡ Some a) × (q.pieces.part i l ≡ Some k)
    covers f e d g w l k m =
        let same : frame ≡ f = cc in
        q.covers (ap (λ (z : Frame). z.todo) same ∙ d) g
        (ap (λ (z : Frame). procedure_at p z.fixed.procedure) same ∙ w) l k m

task-family : (p : Program) (store : Store) (t : Task) (h : Heap) → TaskParts p store t h
    → TaskFamily p store t h
task-family p store (runs []) h s = ended-family p store h
task-family p store (runs (frame ∷ frames)) h s =
    running-family p store frame frames h (frame-pieces p store frame.fixed frame.todo h s)
task-family p store (waits frames one two) h s =
    fork-tasks p store frames one two h s (task-family p store one s.left s.first)
    (task-family p store two s.right s.second)

-- Good
-- the parts of both kinds of owners
abbrev owner_part : (ℕ → Heap) → (Path → ℕ → Heap) → Owner → Heap
owner_part f g (resource r) = f r.0
owner_part f g (owed path i) = g path i

abbrev owner-family : {h g k : Heap} → Splits h g k → Family ℕ g → (y : Family Path k)
    → ((path : Path) → Family ℕ (y.part path)) → Family Owner h
owner-family {h} {g} {k} s x y pieces =
    record { part = owner_part x.part piece; within = within; apart = apart }
  where
    piece : Path → ℕ → Heap
    piece path = (pieces path).part

    inside : (path : Path) (i a : ℕ) (c : Cell) → piece path i a ≡ Some c → k a ≡ Some c
    inside path i a c e = y.within path a c ((pieces path).within i a c e)

    within : (owner : Owner) (a : ℕ) (c : Cell) → owner_part x.part piece owner a ≡ Some c → h a ≡ Some c
    within (resource r) a c e = splits-has_left a c s (x.within r.0 a c e)
    within (owed path i) a c e = splits-has_right a c s (inside path i a c e)

    across : (j : ℕ) (path : Path) (i a : ℕ) → Apart (x.part j a) (piece path i a)
    across j path i a = apart-within (x.part j a) (piece path i a) (g a) (k a) (λ c e. x.within j a c e)
        (λ c e. inside path i a c e) (s.apart a)

    -- two pieces of one part that both have a location are one
    meet : (path other : Path) (i j a : ℕ) (c d : Cell) → owed path i ≢ owed other j
        → piece path i a ≡ Some c → piece other j a ≡ Some d → path ≢ other
    meet path other i j a c d n e f same =
        let here : piece path j a ≡ Some d = subst (λ z. piece z j a ≡ Some d) (sym same) f in
        apart-both (piece path i a) (piece path j a) c d
        ((pieces path).apart i j (λ q. n (ap (owed path) q ∙ ap (λ z. owed z j) same)) a) e here

    between : (path other : Path) (i j a : ℕ) → owed path i ≢ owed other j
        → Apart (piece path i a) (piece other j a)
    between path other i j a n = go (piece path i a) (piece other j a) refl refl
      where
        go : (v w : Option Cell) → piece path i a ≡ v → piece other j a ≡ w → Apart v w
        go None w e f = tt
        go (Some c) None e f = tt
        go (Some c) (Some d) e f =
            apart-both (y.part path a) (y.part other a) c d
            (y.apart path other (meet path other i j a c d n e f) a)
            ((pieces path).within i a c e) ((pieces other).within j a d f)

    apart : (owner other : Owner) → owner ≢ other → (a : ℕ)
        → Apart (owner_part x.part piece owner a) (owner_part x.part piece other a)
    apart (resource r) (resource q) n a = x.apart r.0 q.0 (λ e. n (λ j. resource (record { 0 = e j }))) a
    apart (resource r) (owed path i) n a = across r.0 path i a
    apart (owed path i) (resource r) n a = apart-swap (x.part r.0 a) (piece path i a) (across r.0 path i a)
    apart (owed path i) (owed other j) n a = between path other i j a n

-- a smaller heap's family is one of the whole
abbrev wider : {I : Type 0} {h g k : Heap} → Splits h g k → Family I g → Family I h
wider s f = record {
  part = f.part;
  within = λ i a c e. splits-has_left a c s (f.within i a c e);
  apart = f.apart;
}

zero-plus : (n : ℕ) → 0 + n ≡ n
zero-plus n = omega arith

-- a configuration whose heap splits along its resources and tasks is good
pub good-by_parts : (p : Program) (c : Config) → (Bad c → ⊥)
    → (InvariantParts c.common.store c.common.held 0 p.resources
    ⋆ (TaskParts p c.common.store c.tasks ⋆ RestPart c)) c.common.heap
    → (HasEnded [] c.tasks → EndsWell p c) → Good p c
good-by_parts p c nothing_bad s ends = record {
  never_bad = nothing_bad;
  part = owners.part;
  apart = owners.apart;
  invariants = λ r of e f. foot-of of.invariant.level (evaluate entry_slot c.common.store) c.common.heap
      (owners.part (resource r)) (owners.within (resource r)) (invariant r of e f);
  posts = λ path frame g r e i a o. foot-of a (evaluate frame.fixed.slots c.common.store) c.common.heap
      (owners.part (owed path i)) (owners.within (owed path i))
      (tasks.posts path frame r.below r.there r.done g e i a o);
  finished = finished;
}
  where
    resources : InvariantFamily c.common.store c.common.held 0 p.resources s.left
    resources = invariant-family c.common.store c.common.held 0 p.resources s.left s.first

    tasks : TaskFamily p c.common.store c.tasks s.second.left
    tasks = task-family p c.common.store c.tasks s.second.left s.second.first

    owners : Family Owner c.common.heap
    owners = owner-family s.splits resources.family (wider s.second.splits tasks.family) tasks.pieces

    invariant : (r : ResId) (of : Resource) → slice_get p.resources r.0 ≡ Some of → c.common.held r ≡ None
        → Sat of.invariant.level (evaluate entry_slot c.common.store) (λ n. nil) (resources.family.part r.0)
    invariant r of e f =
        subst (λ z. InvariantPart c.common.store z of (resources.family.part r.0)) f
        (subst (λ z. InvariantPart c.common.store (c.common.held (record { 0 = z })) of
        (resources.family.part r.0)) (zero-plus r.0) (resources.holds r.0 of e))

    finished : HasEnded [] c.tasks → Finished p c owners.part
    finished h = record {
      frame = w.frame;
      alone = w.alone;
      procedure = w.procedure;
      there = w.there;
      free = w.free;
      posts = λ i a e. foot-of a (evaluate w.frame.fixed.slots c.common.store) c.common.heap
          (owners.part (owed [] i)) (owners.within (owed [] i))
          (tasks.posts [] w.frame [] (ap Some w.alone) done w.procedure w.there i a e);
      all = all;
    }
      where
        w : EndsWell p c
        w = ends h

        done : w.frame.todo ≡ []
        done = subst (HasEnded []) w.alone h

        all : (a : ℕ) (k : Cell) → c.common.heap a ≡ Some k → IsOwned p w.procedure owners.part a k
        all a k e = elim (splits-which a k s.splits e) [
          | inl f ↦ let r = resources.covers a k f.0 in inr (record { 0 = r.0 }, r.1, r.2, r.3)
          | inr f ↦ elim (splits-which a k s.second.splits f.0) [
            | inl g ↦ inl (tasks.covers w.frame w.alone done w.procedure w.there a k g.0)
            | inr g ↦ absurd (none-some k (sym ((s.second.second h).none a) ∙ g.0))
          ]
        ]
