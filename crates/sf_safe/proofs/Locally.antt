-- What is safe seen from inside is safe.
-- Names: the law's, and `local-WHAT`.
use Rattle.std.specs.Prelude.{◌≡◌, ℕ, zero, suc, Bool, true, false, cond, List, [], ◌∷◌, ◌++◌, Option, Some, None, ◌<◌, ◌≤◌, ◌+◌, length, ltb}
use Rattle.std.specs.Option.{unwrap_or}
use Rattle.std.proofs.Common.{sym, ap, ◌∙◌, refl, subst, inr, arith}
use Rattle.std.proofs.lemmas.Bool.Decides.{nat_tests}
use Rattle.std.proofs.lemmas.Option.{none-some, same_Some}
use Rattle.sf_base.specs.declared.ids.ResId.{ResId}
use Rattle.sf_base.specs.declared.ids.Var.{Var}
use Rattle.sf_base.specs.declared.ids.Var.TheVariants.{Own as OwnVar, Shared}
use Rattle.sf_base.specs.declared.value.Value.{Value}
use Rattle.sf_base.specs.declared.value.Value.TheVariants.{Nil as nil, Loc as loc}
use Rattle.sf_base.specs.HeapStore.{Slot, put_field, shared}
use Rattle.sf_base.proofs.MapSplits.{splits-has_left, splits-has_right}
use Rattle.sf_calls.specs.Checked.Lemmas.Within.{level_within}
use Rattle.sf_core.specs.declared.command.Expr.{Expr}
use Rattle.sf_core.specs.Assertions.Sat.{Sat}
use Rattle.sf_core.specs.Machine.Config.{Item, command, evaluate, items, leave}
use Rattle.sf_core.specs.Checked.GoodParts.{SatEach}
use Rattle.sf_core.specs.Machine.Good.{owed_by}
use Rattle.sf_core.specs.Machine.Start.{entry_slot}
use Rattle.sf_core.specs.Machine.Step.{procedure_at, room_count}
use Rattle.sf_core.specs.Program.Formed.{IsFormed, IsOfResource}
use Rattle.sf_core.specs.Program.Syntax.{assign, look_up, mutate, new, dispose, if, while, call, fork, with, Procedure, Program}
use Rattle.sf_core.proofs.Assertions.Sat.{sat-same_variables}
use Rattle.sf_safe.specs.Checked.Own.{HasSlot, Own, put_cell, put_slot}
use Rattle.sf_safe.specs.Checked.Contract.{Ended, FreeShare, IsFrameOf, IsVariableOf, Known, OwnsVariables, SetsVariableUp, see, value_of}
use Rattle.sf_safe.specs.Checked.Local.{Begins, ComesBack, Ends, HasVar, IsShare, Lends, Local, LocalParts, look, put_local, put_variable, value_in}
use Rattle.sf_safe.specs.Checked.LocalSafe.{LocallySafeBodiesAreSafe, BodiesAreLocallySafe, HasCell, LocalSafe, LocallySafeProgramsAreSound}
use Rattle.sf_safe.specs.Checked.Law.{BodiesAreSafe, SafeProgramsAreSound}
use Rattle.sf_safe.specs.Checked.Safe.{OwnsCell, Safe}
use Rattle.sf_safe.proofs.Owed.{each-map, owed-variable}
use Rattle.sf_safe.proofs.Lent.{back-seen, back_view, begun-entered, comes-back, pre-variable}
use Rattle.sf_safe.proofs.Sound.{safe_programs_are_sound}
use Rattle.sf_safe.proofs.Views.{IsSeen, joined_view, seen-arguments, seen-cell, seen-has, seen-has_all, seen-has_test, seen-is, seen-is_test, seen-part, seen-set, seen-split, share_of, view-parts, view-seen}

module _ (p : Program) (formed : IsFormed p) (k : Known) (g : Procedure) (frame : IsFrameOf p k.fixed g) where
  abbrev slots : Var → Slot
  slots = k.fixed.slots

  -- the frame's own values, in the share and seen from inside
  value-seen : (l : Local) (w : Own) → IsSeen slots l w → (x : Var) → HasVar l x → value_of k w x ≡ value_in l x
  value-seen l w s x h = ap (λ z. unwrap_or z nil) (s.each x h.0 h.1 ∙ sym h.1)

  -- THE END

  local-ended : (l : Local) (w : Own) → IsSeen slots l w → Ends p k.fixed.procedure k.values l → Ended p k w
  local-ended l w s e =
      let same : g ≡ e.procedure = same_Some g e.procedure (sym frame.there ∙ e.there) in
      record {
        procedure = e.procedure;
        owns = record {
          frame = subst (IsFrameOf p k.fixed) same frame;
          variables = record {
            each = λ x a. let v = e.owns.variables.each x a in (v.0, s.each x v.0 v.1);
            only = λ t v i. let y = s.only t v i in (y.0, e.owns.variables.only y.0 (v, y.1), y.2);
          };
          tokens = λ r. ap (λ z. z r) s.tokens ∙ e.owns.tokens r;
          values = λ i a.
              value-seen l w s (OwnVar (e.procedure.references + i))
              (e.owns.variables.each (OwnVar (e.procedure.references + i)) (small e.procedure e.there i a))
              ∙ e.owns.parameters i a;
        };
        posts = subst (SatEach (owed_by p e.procedure) (see k w)) (sym s.cells)
            (each-map (owed_by p e.procedure) (look l) (see k w)
            (λ i a h part t. sat-same_variables a (value_in l) (λ x. value_of k w x)
            (λ n. nil) part (λ x o. sym (value-seen l w s x (e.owns.variables.each x
            (owed-variable p formed k.fixed.procedure e.procedure e.there i a h x o)))) t) l.cells e.posts);
      }
    where
      small : (h : Procedure) → procedure_at p k.fixed.procedure ≡ Some h → (i : ℕ) → i < h.values
          → h.references + i < length h.names
      small h there i a =
          let m : h.references + h.values + h.locals ≤ length h.names =
          (formed.procedures k.fixed.procedure.0 h there).declared in omega (arith, a, m)

  -- THE SHARE of a resource

  shared-variable : (r q : ResId) (i j : ℕ) → shared r i ≡ shared q j → Shared r i ≡ Shared q j
  shared-variable r q i j e = cc

  -- the variables of resources in a share
  abbrev share_values : Own → Var → Option Value
  share_values w (OwnVar i) = None
  share_values w (Shared r i) = w.slots (shared r i)

  abbrev share_view : Own → Local
  share_view w = record { values = share_values w; cells = w.cells; tokens = w.tokens }

  share-seen : (r : ResId) (w : Own) → FreeShare p r w → IsSeen slots (share_view w) w
  share-seen r w f = record {
    cells = refl;
    tokens = refl;
    each = each;
    only = λ t v e. let m = f.variables.only t v e in only m.0 m.1 t v m.2 e;
    apart = apart;
  }
    where
      each : (x : Var) (v : Value) → share_values w x ≡ Some v → w.slots (slots x) ≡ Some v
      each (OwnVar i) v e = absurd (none-some v e)
      each (Shared q i) v e = ap w.slots (frame.shared_slots q i) ∙ e

      only : (x : Var) → IsOfResource r.0 (length f.resource.variables) x → (t : Slot) (v : Value) → entry_slot x ≡ t
          → w.slots t ≡ Some v → (x : Var) × (share_values w x ≡ Some v) × (slots x ≡ t)
      only (OwnVar i) a t v is e = absurd a
      only (Shared q i) a t v is e = (Shared q i, ap w.slots is ∙ e, frame.shared_slots q i ∙ is)

      apart : (x y : Var) (v u : Value) → share_values w x ≡ Some v → share_values w y ≡ Some u → slots x ≡ slots y
          → x ≡ y
      apart (OwnVar i) y v u a b e = absurd (none-some v a)
      apart (Shared q i) (OwnVar j) v u a b e = absurd (none-some u b)
      apart (Shared q i) (Shared o j) v u a b e =
          shared-variable q o i j (sym (frame.shared_slots q i) ∙ e ∙ frame.shared_slots o j)

  share-local : (r : ResId) (w : Own) → FreeShare p r w → IsShare p r (share_view w)
  share-local r w f = record {
    resource = f.resource;
    there = f.there;
    variables = record { each = each; only = λ x h. only x h.0 h.1 };
    tokens = f.tokens;
    invariant = sat-same_variables f.resource.invariant.level (λ x. unwrap_or (w.slots (entry_slot x)) nil)
        (value_in (share_view w)) (λ n. nil) w.cells
        (λ x o. same x (level_within p.fields (IsOfResource r.0 (length f.resource.variables)) [] x
        f.resource.invariant.level (formed.resources r.0 f.resource f.there).annotation.within o)) f.invariant;
  }
    where
      each : (x : Var) → IsOfResource r.0 (length f.resource.variables) x → HasVar (share_view w) x
      each (OwnVar i) a = absurd a
      each (Shared q i) a = f.variables.each (Shared q i) a

      only : (x : Var) (v : Value) → share_values w x ≡ Some v → IsOfResource r.0 (length f.resource.variables) x
      only (OwnVar i) v e = absurd (none-some v e)
      only (Shared q i) v e = let m = f.variables.only (shared q i) v e in go m.0 m.1 m.2
        where
          go : (y : Var) → IsOfResource r.0 (length f.resource.variables) y → entry_slot y ≡ shared q i
              → IsOfResource r.0 (length f.resource.variables) (Shared q i)
          go (OwnVar j) a is = absurd a
          go (Shared o j) a is =
              subst (IsOfResource r.0 (length f.resource.variables)) (shared-variable o q j i is) a

      same : (x : Var) → IsOfResource r.0 (length f.resource.variables) x
          → unwrap_or (w.slots (entry_slot x)) nil ≡ value_in (share_view w) x
      same (OwnVar i) a = absurd a
      same (Shared q i) a = refl

  -- and the way back
  local-free : (r : ResId) (l : Local) (w : Own) → IsSeen slots l w → IsShare p r l → FreeShare p r w
  local-free r l w s f = record {
    resource = f.resource;
    there = f.there;
    variables = record { each = each; only = λ t v e. let m = s.only t v e in only m.0 t v m.1 m.2 };
    tokens = s.tokens ∙ f.tokens;
    invariant = subst (Sat f.resource.invariant.level (evaluate entry_slot w.slots) (λ n. nil)) (sym s.cells)
        (sat-same_variables f.resource.invariant.level (value_in l) (λ x. unwrap_or (w.slots (entry_slot x)) nil)
        (λ n. nil) l.cells
        (λ x o. same x (level_within p.fields (IsOfResource r.0 (length f.resource.variables)) [] x
        f.resource.invariant.level (formed.resources r.0 f.resource f.there).annotation.within o)) f.invariant);
  }
    where
      each : (x : Var) → IsOfResource r.0 (length f.resource.variables) x → HasSlot w (entry_slot x)
      each (OwnVar i) a = absurd a
      each (Shared q i) a =
          let v = f.variables.each (Shared q i) a in
          (v.0, ap w.slots (sym (frame.shared_slots q i)) ∙ s.each (Shared q i) v.0 v.1)

      only : (x : Var) (t : Slot) (v : Value) → l.values x ≡ Some v → slots x ≡ t
          → (x : Var) × IsOfResource r.0 (length f.resource.variables) x × (entry_slot x ≡ t)
      only (OwnVar i) t v e is = absurd (f.variables.only (OwnVar i) (v, e))
      only (Shared q i) t v e is =
          (Shared q i, f.variables.only (Shared q i) (v, e), sym (frame.shared_slots q i) ∙ is)

      same : (x : Var) → IsOfResource r.0 (length f.resource.variables) x
          → value_in l x ≡ unwrap_or (w.slots (entry_slot x)) nil
      same (OwnVar i) a = absurd a
      same (Shared q i) a =
          let v = f.variables.each (Shared q i) a in
          ap (λ z. unwrap_or z nil)
          (v.1 ∙ sym (s.each (Shared q i) v.0 v.1) ∙ ap w.slots (frame.shared_slots q i))

  -- THE CELL of a command
  abbrev local-cell : (l : Local) (w : Own) → IsSeen slots l w → (e : Expr) → HasCell l e → OwnsCell k w e
  local-cell l w s e at = record {
    location = at.location;
    cell = at.cell;
    reads = seen-has slots l w s e at.reads;
    finds = record {
      is = seen-is slots l w s e at.reads ∙ at.finds.is;
      there = ap (λ z. z at.location) s.cells ∙ at.finds.there;
    };
  }

  part-seen : (l : Local) (w : Own) (s : IsSeen slots l w) (m n : Local) → LocalParts l m n
      → IsSeen slots m (share_of slots l w s m)
  part-seen l w s m n q = seen-part slots l w s m (λ x v. splits-has_left x v q.values)

  rest-seen : (l : Local) (w : Own) (s : IsSeen slots l w) (m n : Local) → LocalParts l m n
      → IsSeen slots n (share_of slots l w s n)
  rest-seen l w s m n q = seen-part slots l w s n (λ x v. splits-has_right x v q.values)

  pub local-safe : (n : ℕ) (todo : List Item) (l : Local) (w : Own) → IsSeen slots l w
      → LocalSafe p n (Ends p k.fixed.procedure k.values) todo l → Safe p n k todo w
  local-safe zero todo l w s a = tt
  local-safe (suc n) [] l w s a = local-ended l w s a
  local-safe (suc n) (command (assign place x e) ∷ rest) l w s a = (
    (a.0.0, s.each x.var a.0.0 a.0.1),
    seen-has slots l w s e a.1,
    subst (λ v. Safe p n k rest (put_slot (slots x.var) v w)) (sym (seen-is slots l w s e a.1))
        (local-safe n rest (put_variable x.var (look l e) l) (put_slot (slots x.var) (look l e) w)
        (seen-set slots l w s x.var (look l e) a.0) a.2),
  )
  local-safe (suc n) (command (look_up place x e field) ∷ rest) l w s a = (
    (a.0.0, s.each x.var a.0.0 a.0.1),
    local-cell l w s e a.1,
    local-safe n rest (put_variable x.var (a.1.cell field.0) l) (put_slot (slots x.var) (a.1.cell field.0) w)
        (seen-set slots l w s x.var (a.1.cell field.0) a.0) a.2,
  )
  local-safe (suc n) (command (mutate place e field v) ∷ rest) l w s a =
      let at = a.1 in (
        seen-has slots l w s v a.0,
        local-cell l w s e at,
        subst (λ z. Safe p n k rest (put_cell at.location (Some (put_field at.cell field.0 z)) w))
            (sym (seen-is slots l w s v a.0))
            (local-safe n rest (put_local at.location (Some (put_field at.cell field.0 (look l v))) l)
            (put_cell at.location (Some (put_field at.cell field.0 (look l v))) w)
            (seen-cell slots l w s at.location (Some (put_field at.cell field.0 (look l v)))) a.2),
      )
  local-safe (suc n) (command (new place x) ∷ rest) l w s a = (
    (a.0.0, s.each x.var a.0.0 a.0.1),
    λ location cell i e. local-safe n rest
        (put_variable x.var (loc location) (put_local location (Some cell) l))
        (put_slot (slots x.var) (loc location) (put_cell location (Some cell) w))
        (seen-set slots (put_local location (Some cell) l) (put_cell location (Some cell) w)
        (seen-cell slots l w s location (Some cell)) x.var (loc location) a.0)
        (a.1 location cell i (sym (ap (λ z. z location) s.cells) ∙ e)),
  )
  local-safe (suc n) (command (dispose place e) ∷ rest) l w s a = (
    local-cell l w s e a.0,
    local-safe n rest (put_local a.0.location None l) (put_cell a.0.location None w)
        (seen-cell slots l w s a.0.location None) a.1,
  )
  local-safe (suc n) (command (if place test this that) ∷ rest) l w s a =
      let same = seen-is_test slots l w s test a.reads in record {
        reads = seen-has_test slots l w s test a.reads;
        this = λ t. local-safe n (items this ++ rest) l w s (a.this (subst (λ z. z) same t));
        that = λ t. local-safe n (items that ++ rest) l w s (a.that (λ i. t (subst (λ z. z) (sym same) i)));
      }
  local-safe (suc n) (command (while place test kept body) ∷ rest) l w s a =
      let same = seen-is_test slots l w s test a.reads in record {
        reads = seen-has_test slots l w s test a.reads;
        this = λ t. local-safe n (items body ++ (command (while place test kept body) ∷ rest)) l w s
            (a.this (subst (λ z. z) same t));
        that = λ t. local-safe n rest l w s (a.that (λ i. t (subst (λ z. z) (sym same) i)));
      }
  local-safe (suc n) (command (call place c) ∷ rest) l w s a = (
    seen-has_all slots l w s c.values a.0,
    λ h there.
        let b = a.1 h there in
        let args = seen-arguments slots l w s c a.0 in
        let given = share_of slots l w s b.lent in
        let kept = share_of slots l w s b.kept in
        let seen = part-seen l w s b.lent b.kept b.parts in
        record {
          given = given;
          kept = kept;
          parts = seen-split slots l w s b.lent b.kept b.parts;
          enters = λ event begun q.
              begun-entered p formed k w frame.shared_slots c h there b.fits event 0 b.lent given seen
              b.lends.variables begun q b.lends.outside
              (subst (λ z. Lends p c h z b.lent) (sym args) b.lends).pre;
          goes_on = λ event back after r q.
              let view = back_view p formed k w frame.shared_slots c h there b.fits event 0 b.lent given seen
              b.lends.variables back r in
              let sees = back-seen p formed k w frame.shared_slots c h there b.fits event 0 b.lent given seen
              b.lends.variables back r in
              let comes = comes-back p formed k w frame.shared_slots c h there b.fits event 0 b.lent given seen
              b.lends.variables back r in
              let kept_seen = rest-seen l w s b.lent b.kept b.parts in
              local-safe n rest (joined_view slots view b.kept after back kept q sees kept_seen) after
              (view-seen slots view b.kept after back kept q sees kept_seen)
              (b.goes_on view (joined_view slots view b.kept after back kept q sees kept_seen)
              (subst (λ z. ComesBack p c h z view) args comes)
              (view-parts slots view b.kept after back kept q sees kept_seen));
        },
  )
  local-safe (suc n) (command (fork place c d) ∷ rest) l w s a = (
    seen-has_all slots l w s c.values a.0,
    seen-has_all slots l w s d.values a.1,
    λ h o there there2.
        let b = a.2 h o there there2 in
        let args = seen-arguments slots l w s c a.0 in
        let args2 = seen-arguments slots l w s d a.1 in
        let given = share_of slots l w s b.lent in
        let kept = share_of slots l w s b.kept in
        let seen = part-seen l w s b.lent b.kept b.parts in
        let one_given = share_of slots b.lent given seen b.left in
        let two_given = share_of slots b.lent given seen b.right in
        let one_seen = part-seen b.lent given seen b.left b.right b.apart in
        let two_seen = rest-seen b.lent given seen b.left b.right b.apart in
        record {
          given = given;
          left = one_given;
          right = two_given;
          kept = kept;
          parts = seen-split slots l w s b.lent b.kept b.parts;
          apart = seen-split slots b.lent given seen b.left b.right b.apart;
          enters_left = λ event begun q.
              begun-entered p formed k w frame.shared_slots c h there b.fits_left event 0 b.left one_given one_seen
              b.lends_left.variables begun q b.lends_left.outside
              (subst (λ z. Lends p c h z b.left) (sym args) b.lends_left).pre;
          enters_right = λ event begun q.
              begun-entered p formed k w frame.shared_slots d o there2 b.fits_right event (room_count h) b.right
              two_given two_seen b.lends_right.variables begun q b.lends_right.outside
              (subst (λ z. Lends p d o z b.right) (sym args2) b.lends_right).pre;
          goes_on = λ event one two back after r1 r2 q q2.
              let view = back_view p formed k w frame.shared_slots c h there b.fits_left event 0 b.left one_given
              one_seen b.lends_left.variables one r1 in
              let sees = back-seen p formed k w frame.shared_slots c h there b.fits_left event 0 b.left one_given
              one_seen b.lends_left.variables one r1 in
              let comes = comes-back p formed k w frame.shared_slots c h there b.fits_left event 0 b.left one_given
              one_seen b.lends_left.variables one r1 in
              let view2 = back_view p formed k w frame.shared_slots d o there2 b.fits_right event (room_count h) b.right
              two_given two_seen b.lends_right.variables two r2 in
              let sees2 = back-seen p formed k w frame.shared_slots d o there2 b.fits_right event (room_count h) b.right
              two_given two_seen b.lends_right.variables two r2 in
              let comes2 = comes-back p formed k w frame.shared_slots d o there2 b.fits_right event (room_count h)
              b.right two_given two_seen b.lends_right.variables two r2 in
              let kept_seen = rest-seen l w s b.lent b.kept b.parts in
              let both = joined_view slots view view2 back one two q sees sees2 in
              let both_seen = view-seen slots view view2 back one two q sees sees2 in
              local-safe n rest (joined_view slots both b.kept after back kept q2 both_seen kept_seen) after
              (view-seen slots both b.kept after back kept q2 both_seen kept_seen)
              (b.goes_on view view2 both (joined_view slots both b.kept after back kept q2 both_seen kept_seen)
              (subst (λ z. ComesBack p c h z view) args comes) (subst (λ z. ComesBack p d o z view2) args2 comes2)
              (view-parts slots view view2 back one two q sees sees2)
              (view-parts slots both b.kept after back kept q2 both_seen kept_seen));
        },
  )
  local-safe (suc n) (command (with place r test body) ∷ rest) l w s a = record {
    there = a.there;
    reads = λ share both f q.
        let sees = share-seen r share f in
        let view = joined_view slots l (share_view share) both w share q s sees in
        seen-has_test slots view both (view-seen slots l (share_view share) both w share q s sees) test
        (a.reads (share_view share) view (share-local r share f)
        (view-parts slots l (share_view share) both w share q s sees));
    goes_on = λ share both f q t.
        let sees = share-seen r share f in
        let view = joined_view slots l (share_view share) both w share q s sees in
        let parts = view-parts slots l (share_view share) both w share q s sees in
        let view_seen = view-seen slots l (share_view share) both w share q s sees in
        let local = share-local r share f in
        let same = seen-is_test slots view both view_seen test (a.reads (share_view share) view local parts) in
        local-safe n (items body ++ (leave r ∷ rest)) view both view_seen
        (a.goes_on (share_view share) view local parts (subst (λ z. z) same t));
  }
  local-safe (suc n) (leave r ∷ rest) l w s a =
      let share = share_of slots l w s a.share in
      record {
        share = share;
        kept = share_of slots l w s a.kept;
        parts = seen-split slots l w s a.share a.kept a.parts;
        free = local-free r a.share share (part-seen l w s a.share a.kept a.parts) a.free;
        goes_on = local-safe n rest a.kept (share_of slots l w s a.kept) (rest-seen l w s a.share a.kept a.parts)
            a.goes_on;
      }

  -- THE BEGINNING

  module _ (w : Own) (o : OwnsVariables p k g w) where
    -- the value of a variable of a resource, unless its slot is that of a reference
    abbrev of-shared : Var → Value → Option Value
    of-shared (OwnVar i) v = None
    of-shared (Shared r i) v = Some v

    abbrev shared-value : (r : ResId) (i : ℕ) (x : Option Value) → w.slots (shared r i) ≡ x → Option Value
    shared-value r i None e = None
    shared-value r i (Some v) e = of-shared (o.variables.only (shared r i) v e).0 v

    abbrev own-value : ℕ → Option Value
    own-value i = cond (ltb i (length g.names)) (w.slots (slots (OwnVar i))) None

    -- the frame's variables
    abbrev entry-values : Var → Option Value
    entry-values (OwnVar i) = own-value i
    entry-values (Shared r i) = shared-value r i (w.slots (shared r i)) refl

    abbrev entry-view : Local
    entry-view = record { values = entry-values; cells = w.cells; tokens = w.tokens }

    less-is : (i n : ℕ) → i < n → ltb i n ≡ true
    less-is i n l = grind (arith, nat_tests)

    is-less : (i n : ℕ) → ltb i n ≡ true → i < n
    is-less i n e = grind (arith, nat_tests)

    cond-yes : (b : Bool) (x : Option Value) (v : Value) → cond b x None ≡ Some v → (b ≡ true) × (x ≡ Some v)
    cond-yes true x v e = (refl, e)
    cond-yes false x v e = absurd (none-some v e)

    -- its value is that in its slot
    values-are : (x : Var) → IsVariableOf p k.fixed.procedure g x → entry-values x ≡ w.slots (slots x)
    values-are (OwnVar i) l = ap (λ b. cond b (w.slots (slots (OwnVar i))) None) (less-is i (length g.names) l)
    values-are (Shared r i) free =
        let v = o.variables.each (Shared r i) free in
        let slot : w.slots (shared r i) ≡ Some v.0 = ap w.slots (sym (frame.shared_slots r i)) ∙ v.1 in
        go v.0 slot (w.slots (shared r i)) refl ∙ sym v.1
      where
        go : (v : Value) → w.slots (shared r i) ≡ Some v → (x : Option Value) (e : w.slots (shared r i) ≡ x)
            → shared-value r i x e ≡ Some v
        go v slot None e = absurd (none-some v (sym e ∙ slot))
        go v slot (Some u) e =
            let y = o.variables.only (shared r i) u e in
            let same = frame.apart y.0 (Shared r i) y.1 free (y.2 ∙ sym (frame.shared_slots r i)) in
            ap (λ z. of-shared z u) same ∙ sym e ∙ slot

    values-only : (x : Var) (v : Value) → entry-values x ≡ Some v
        → IsVariableOf p k.fixed.procedure g x × (w.slots (slots x) ≡ Some v)
    values-only (OwnVar i) v e =
        let m = cond-yes (ltb i (length g.names)) (w.slots (slots (OwnVar i))) v e in
        (is-less i (length g.names) m.0, m.1)
    values-only (Shared r i) v e = go (w.slots (shared r i)) refl e
      where
        found : (y : Var) → IsVariableOf p k.fixed.procedure g y → slots y ≡ shared r i → (u : Value)
            → w.slots (shared r i) ≡ Some u → of-shared y u ≡ Some v
            → IsVariableOf p k.fixed.procedure g (Shared r i) × (w.slots (slots (Shared r i)) ≡ Some v)
        found (OwnVar j) a is u d i = absurd (none-some v i)
        found (Shared q j) a is u d i = (
          subst (IsVariableOf p k.fixed.procedure g)
              (shared-variable q r j _ (sym (frame.shared_slots q j) ∙ is)) a,
          ap w.slots (frame.shared_slots r _) ∙ d ∙ i,
        )

        go : (x : Option Value) (d : w.slots (shared r i) ≡ x) → shared-value r i x d ≡ Some v
            → IsVariableOf p k.fixed.procedure g (Shared r i) × (w.slots (slots (Shared r i)) ≡ Some v)
        go None d i = absurd (none-some v i)
        go (Some u) d i = let y = o.variables.only (shared r _) u d in found y.0 y.1 y.2 u d i

    entry-seen : IsSeen slots entry-view w
    entry-seen = record {
      cells = refl;
      tokens = refl;
      each = λ x v e. (values-only x v e).1;
      only = λ t v e.
          let y = o.variables.only t v e in
          (y.0, values-are y.0 y.1 ∙ ap w.slots y.2 ∙ e, y.2);
      apart = λ x y v u i j e. frame.apart x y (values-only x v i).0 (values-only y u j).0 e;
    }

    entry-value : (x : Var) → IsVariableOf p k.fixed.procedure g x → value_in entry-view x ≡ value_of k w x
    entry-value x a = ap (λ z. unwrap_or z nil) (values-are x a)

    entry-begins : ((i : ℕ) → g.references + g.values ≤ i → i < length g.names → value_of k w (OwnVar i) ≡ nil)
        → ((r : ResId) (i : ℕ) → SetsVariableUp p g r i → value_of k w (Shared r i) ≡ nil)
        → Sat g.pre.level (see k w) (λ n. nil) w.cells → Begins p k.fixed.procedure g k.values entry-view
    entry-begins locals unset pre = record {
      owns = record {
        variables = record {
          each = λ x a. let v = o.variables.each x a in (v.0, values-are x a ∙ v.1);
          only = λ x h. (values-only x h.0 h.1).0;
        };
        tokens = o.tokens;
        parameters = λ i l. entry-value (OwnVar (g.references + i)) (small i l) ∙ o.values i l;
      };
      locals = λ i l m. entry-value (OwnVar i) m ∙ locals i l m;
      unset = λ r i a. entry-value (Shared r i) (inr a) ∙ unset r i a;
      pre = sat-same_variables g.pre.level (λ x. value_of k w x) (value_in entry-view) (λ n. nil) w.cells
          (λ x a. sym (entry-value x (pre-variable p formed k.fixed.procedure g frame.there x a))) pre;
    }
      where
        small : (i : ℕ) → i < g.values → g.references + i < length g.names
        small i a =
            let m : g.references + g.values + g.locals ≤ length g.names =
            (formed.procedures k.fixed.procedure.0 g frame.there).declared in omega (arith, a, m)

-- bodies that are safe seen from inside are safe
local-bodies : (p : Program) → IsFormed p → BodiesAreLocallySafe p → BodiesAreSafe p
local-bodies p formed a k g there n w e =
    let same : e.procedure ≡ g = same_Some e.procedure g (sym e.owns.frame.there ∙ there) in
    subst (λ (z : Procedure). Safe p n k (items z.body) w) same
    (local-safe p formed k e.procedure e.owns.frame n (items e.procedure.body)
    (entry-view p formed k e.procedure e.owns.frame w e.owns) w
    (entry-seen p formed k e.procedure e.owns.frame w e.owns)
    (a k.fixed.procedure e.procedure e.owns.frame.there k.values n
    (entry-view p formed k e.procedure e.owns.frame w e.owns)
    (entry-begins p formed k e.procedure e.owns.frame w e.owns e.locals e.unset e.pre)))

pub locally_safe_bodies_are_safe : LocallySafeBodiesAreSafe
unfolding LocallySafeBodiesAreSafe
locally_safe_bodies_are_safe = local-bodies

pub locally_safe_programs_are_sound : LocallySafeProgramsAreSound
unfolding LocallySafeProgramsAreSound SafeProgramsAreSound
locally_safe_programs_are_sound p formed conditions a =
    safe_programs_are_sound p formed conditions (local-bodies p formed a)
