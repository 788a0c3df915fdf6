-- What a safe frame at a fork lends to its two children, and what it waits with.
-- Names: `lend-LAW`.
use Rattle.std.specs.Prelude.{◌≡◌, ◌-◌, ℕ, suc, true, false, cond, ◌&&◌, ltb, length, List, [], ◌∷◌, Option, Some, None}
use Rattle.std.proofs.Common.{sym, ap, ◌∙◌, refl, subst}
use Rattle.std.proofs.lemmas.Option.{same_Some}
use Rattle.sf_base.proofs.MapSplits.{empty-holds, map-same, splits-empty_right, splits-empty_whole, splits-of_empty_right}
use Rattle.sf_base.specs.declared.ids.ResId.{ResId}
use Rattle.sf_base.specs.declared.place.Place.{Place}
use Rattle.sf_base.specs.declared.value.Value.{Value}
use Rattle.sf_base.specs.HeapStore.{IsEmpty, Map, Slot, Splits, own, shared}
use Rattle.sf_core.specs.declared.command.Expr.{Expr}
use Rattle.sf_core.specs.declared.command.Expr.TheVariants.{Var as Variable, Nil, Int}
use Rattle.sf_core.specs.Machine.Config.{Item, command, Fixed, Frame, Room, Common, in_room}
use Rattle.sf_core.specs.Machine.Step.{arguments, callee_frame, index_of, open_room, procedure_at, room_count, room_for}
use Rattle.sf_core.specs.Machine.Whole.{IsUnion, Part}
use Rattle.sf_core.specs.Program.Init.{is_init}
use Rattle.sf_core.specs.Program.Syntax.{Call, fork, Procedure, Program}
use Rattle.sf_own.proofs.Standing.{frame_with}
use Rattle.sf_own.specs.Checked.Safe.{own_of}
use Rattle.sf_part.specs.Steps.{common_of}
use Rattle.sf_safe.specs.Checked.Contract.{Entered, Known, Returned}
use Rattle.sf_safe.specs.Checked.Fewer.{fewer-callers}
use Rattle.sf_safe.specs.Checked.Invariant.{known, Running, Waiting}
use Rattle.sf_safe.specs.Checked.Own.{Own, HasAll, HasExpr, Parts, new_slots, nothing}
use Rattle.sf_safe.specs.Checked.Owns.{Sums, front, group, has-left, opened, order, parts-comm, splits-filled, two}
use Rattle.sf_safe.specs.Checked.Rooms.{AllMade, room-apart, room-fresh}
use Rattle.sf_safe.specs.Checked.Seen.{seen-arguments}

-- what is shared once both rooms of a fork are there
abbrev pub opened_by : Common → Fixed → (number : ℕ) → (c d : Call) → (g h : Procedure) → Common
opened_by s f number c d g h = open_room (room_for h number (room_count g))
    (arguments f.slots s.store d) (open_room (room_for g number 0) (arguments f.slots s.store c) s)

-- what the part owns then
abbrev pub opened_own : Part → Fixed → (number : ℕ) → (c d : Call) → (g h : Procedure) → Own
opened_own a f number c d g h = record (own_of a) {
  slots = (opened_by (common_of a) f number c d g h).store;
}

-- the frame that a call makes there, with the values of its value parameters
abbrev pub lent_known : Part → Fixed → Call → Procedure → Room → Known
lent_known a f c g room = record {
  fixed = (callee_frame f.slots c g room).fixed;
  values = arguments f.slots a.store c;
}

-- a map whose parts are both empty is empty
sums-empty : {w u v : Own} → IsEmpty u.tokens → IsEmpty v.tokens → Sums w (u ∷ v ∷ [])
    → IsEmpty w.tokens
sums-empty {w} {u} {v} i j (x, p, (y, q, e)) = splits-empty_whole i
    (splits-empty_whole j (subst (λ (z : Own). IsEmpty z.tokens) (sym e) empty-holds) q.tokens)
    p.tokens

-- of a sum of three, each kind of things is a union of the parts'
sums-union : {K X : Type 0} (of : Own → Map K X)
    → ((w u v : Own) → Parts w u v → Splits (of w) (of u) (of v)) → IsEmpty (of nothing)
    → (w a b c : Own) → Sums w (a ∷ b ∷ c ∷ []) → IsUnion (of w) (of a ∷ of b ∷ of c ∷ [])
sums-union of splits none w a b c (x, p, (y, q, (z, r, e))) = (
  of x,
  splits w a x p,
  (
    of y,
    splits x b y q,
    (of z, splits y c z r, subst (λ (i : Own). IsEmpty (of i)) (sym e) none),
  ),
)

pub sums-cells : {w a b c : Own} → Sums w (a ∷ b ∷ c ∷ [])
    → IsUnion w.cells (a.cells ∷ b.cells ∷ c.cells ∷ [])
sums-cells {w} {a} {b} {c} s =
    sums-union (λ (i : Own). i.cells) (λ w u v p. p.cells) empty-holds w a b c s

pub sums-slots : {w a b c : Own} → Sums w (a ∷ b ∷ c ∷ [])
    → IsUnion w.slots (a.slots ∷ b.slots ∷ c.slots ∷ [])
sums-slots {w} {a} {b} {c} s =
    sums-union (λ (i : Own). i.slots) (λ w u v p. p.slots) empty-holds w a b c s

-- what a fork leaves: what the parent keeps and waits with, and what each child begins with
pub record Lending (p : Program) (n : ℕ) (owed left right : Known) (frames : List Frame)
    (whole : Own) : Type 0 where
  pub kept : Own
  pub one : Own
  pub two : Own
  pub parts : Sums whole (kept ∷ one ∷ two ∷ [])
  pub first : Entered p left one
  pub second : Entered p right two
  pub waits : Waiting p n owed frames left right kept

module _ (p : Program) (owed : Known) (a : Part) (number : ℕ)
    (fresh : (index : ℕ) → a.store (own number index) ≡ None) (f : Fixed) (below : List Frame)
    (place : Place) (c d : Call) (rest : List Item) (g h : Procedure)
    (there_left : procedure_at p c.callee ≡ Some g)
    (there_right : procedure_at p d.callee ≡ Some h) where
  abbrev frame : Frame
  frame = frame_with f (command (fork place c d) ∷ rest)

  abbrev one_room : Room
  one_room = room_for g number 0

  abbrev two_room : Room
  two_room = room_for h number (room_count g)

  abbrev one_new : Own
  one_new = new_slots one_room (arguments f.slots a.store c)

  abbrev two_new : Own
  two_new = new_slots two_room (arguments f.slots a.store d)

  -- what there is once the first room is there
  abbrev middle : Own
  middle = record (own_of a) {
    slots = (open_room one_room (arguments f.slots a.store c) (common_of a)).store;
  }

  old : (slot : Slot) → (a.store slot ≡ None → ⊥) → AllMade (λ m. m ≡ number → ⊥) slot
  old slot there = made slot there
    where
      made : (slot : Slot) → (a.store slot ≡ None → ⊥) → AllMade (λ m. m ≡ number → ⊥) slot
      made (shared r i) there = tt
      made (own e i) there = λ same. there (ap (λ z. a.store (own z i)) same ∙ fresh i)

  one_fresh : (slot : Slot) → in_room one_room slot ≡ true → a.store slot ≡ None
  one_fresh = room-fresh (common_of a) (λ m. m ≡ number → ⊥) one_room old (λ n. n refl)

  two_fresh : (slot : Slot) → in_room two_room slot ≡ true → middle.slots slot ≡ None
  two_fresh slot i =
      ap (λ b. cond b (Some (arguments f.slots a.store c (index_of slot - 0))) (a.store slot))
      (room-apart g h number slot i)
      ∙ room-fresh (common_of a) (λ m. m ≡ number → ⊥) two_room old (λ n. n refl) slot i

  one_opens : Parts middle (own_of a) one_new
  one_opens = record {
    cells = splits-empty_right empty-holds;
    slots = splits-filled a.store (in_room one_room)
        (λ slot. Some (arguments f.slots a.store c (index_of slot - 0))) one_fresh;
    tokens = splits-empty_right empty-holds;
  }

  two_opens : Parts (opened_own a f number c d g h) middle two_new
  two_opens = record {
    cells = splits-empty_right empty-holds;
    slots = splits-filled middle.slots (in_room two_room)
        (λ slot. Some (arguments f.slots a.store d (index_of slot - room_count g))) two_fresh;
    tokens = splits-empty_right empty-holds;
  }

  abbrev pub lend_left : Known
  lend_left = lent_known a f c g one_room

  abbrev pub lend_right : Known
  lend_right = lent_known a f d h two_room

  pub lend-has : (n : ℕ) → Running p (suc n) owed (frame ∷ below) (own_of a)
      → HasAll (own_of a) f.slots c.values × HasAll (own_of a) f.slots d.values
  lend-has n (v, k) = (
    more k.left k.right k.parts c.values k.first.0,
    more k.left k.right k.parts d.values k.first.1,
  )
    where
      expr : (u r : Own) → Parts (own_of a) u r → (e : Expr) → HasExpr u f.slots e
          → HasExpr (own_of a) f.slots e
      expr u r q (Variable x) has = has-left (f.slots x.var) q has
      expr u r q Nil has = tt
      expr u r q (Int i) has = tt

      more : (u r : Own) → Parts (own_of a) u r → (es : List Expr) → HasAll u f.slots es
          → HasAll (own_of a) f.slots es
      more u r q [] has = tt
      more u r q (e ∷ es) has = (expr u r q e has.0, more u r q es has.1)

  pub lend : (n : ℕ) → Running p (suc n) owed (frame ∷ below) (own_of a)
      → Lending p n owed lend_left lend_right (frame_with f rest ∷ below)
      (opened_own a f number c d g h)
  lend n (v, k) =
      let me = known frame v in
      let rule = k.first.2 g h there_left there_right in
      let args = seen-arguments f.slots (own_of a) k.left k.right k.parts c k.first.0 in
      let args2 = seen-arguments f.slots (own_of a) k.left k.right k.parts d k.first.1 in
      let mine = opened (rule.left ∷ rule.right ∷ []) (rule.kept ∷ k.right ∷ [])
      (opened (rule.given ∷ rule.kept ∷ []) (k.right ∷ []) (two k.parts) (two rule.parts))
      (two rule.apart) in
      let all = front (one_new ∷ rule.left ∷ rule.right ∷ rule.kept ∷ k.right ∷ [])
      (parts-comm two_opens)
      (front (rule.left ∷ rule.right ∷ rule.kept ∷ k.right ∷ []) (parts-comm one_opens) mine) in
      let whole = opened_own a f number c d g h in
      let x = group (rule.right ∷ two_new ∷ rule.kept ∷ k.right ∷ [])
      (order (2 ∷ 1 ∷ 1 ∷ 0 ∷ [])
      (two_new ∷ one_new ∷ rule.left ∷ rule.right ∷ rule.kept ∷ k.right ∷ []) whole all) in
      let y = group (rule.kept ∷ k.right ∷ x.both ∷ [])
      (order (1 ∷ 1 ∷ 1 ∷ 1 ∷ []) (x.both ∷ rule.right ∷ two_new ∷ rule.kept ∷ k.right ∷ []) whole
      x.sums) in
      let z = group (x.both ∷ y.both ∷ [])
      (order (1 ∷ 1 ∷ 1 ∷ []) (y.both ∷ rule.kept ∷ k.right ∷ x.both ∷ []) whole y.sums) in
      record {
        kept = z.both;
        one = x.both;
        two = y.both;
        parts = z.sums;
        first = subst (λ (u : ℕ → Value). Entered p
            (record { fixed = (callee_frame f.slots c g one_room).fixed; values = u }) x.both)
            (sym args)
            (rule.enters_left number x.both
            (subst (λ u. Parts x.both rule.left (new_slots one_room u)) args x.parts));
        second = subst (λ (u : ℕ → Value). Entered p
            (record { fixed = (callee_frame f.slots d h two_room).fixed; values = u }) y.both)
            (sym args2)
            (rule.enters_right number y.both
            (subst (λ u. Parts y.both rule.right (new_slots two_room u)) args2 y.parts));
        waits = (
          v,
          record {
            left = rule.kept;
            right = k.right;
            parts = z.parts;
            first = λ one other back after i j q r. rule.goes_on number one other back after
                (subst (λ (u : ℕ → Value). Returned p
                (record { fixed = (callee_frame f.slots c g one_room).fixed; values = u }) one) args
                i)
                (subst (λ (u : ℕ → Value). Returned p
                (record { fixed = (callee_frame f.slots d h two_room).fixed; values = u }) other)
                args2 j) q r;
            second = fewer-callers p n me below owed k.right k.second;
          },
        );
      }

-- a child that isn't of the procedure that sets the resources up begins with no token
pub lend-tokens : (p : Program) (k : Known) (g : Procedure) (w : Own)
    → procedure_at p k.fixed.procedure ≡ Some g → is_init g ≡ false → Entered p k w
    → w.tokens ≡ (λ r. None)
lend-tokens p k g w there plain e = map-same w.tokens (λ r. None)
    (λ r. e.owns.tokens r
    ∙ ap (λ b. cond {A = Option (Unit {0})} (b && ltb r.0 (length p.resources)) (Some tt) None)
    (ap is_init (same_Some e.procedure g (sym e.owns.frame.there ∙ there)) ∙ plain))

-- then the parent keeps all of its own
pub kept-tokens : {w a b c : Own} → b.tokens ≡ (λ r. None) → c.tokens ≡ (λ r. None)
    → Sums w (a ∷ b ∷ c ∷ []) → w.tokens ≡ a.tokens
kept-tokens i j (x, q, s) = splits-of_empty_right
    (sums-empty (subst (λ (z : Map ResId (Unit {0})). IsEmpty z) (sym i) empty-holds)
    (subst (λ (z : Map ResId (Unit {0})). IsEmpty z) (sym j) empty-holds) s) q.tokens
